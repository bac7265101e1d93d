-- `root::table::table_rounds` meets the contract of `digit_rounds` at all 54 rounds of an f64. Assumes nothing.
use Prim.Native.Nat.{ℕ, ◌+◌, ◌-◌, ◌*◌, ◌/◌, ◌%◌, ◌^◌, ◌≤◌, ◌<◌}
use mathlib.Core.Path.{◌≡◌, refl, sym, subst}
use native.Mathlib.Nat.{mul-le-mul, mod-eq_of_lt}
use native.Mathlib.Omega.{arith}
use Rattle.recip.specs.Reciprocal.{Reciprocal}
use Rattle.root.specs.Engine.{place_of}
use Rattle.root.proofs.LastDigit.{Step, step_of, doubled-size, step_small, Ends, test-kept, test-lowered, Ending, ending}
use Rattle.root.proofs.table.table_rounds.Goals as goal
use Rattle.root.proofs.table.table_rounds.Goals.{After-reciprocal-r, Joined-room-s, then-room-s, else-room-s}

-- the shift loses nothing
shl : (m odd : ℕ) → 2 ^ 53 ≤ 2 * m → m < 2 ^ 53 → odd ≤ 1 → m * 2 ^ odd % 2 ^ 64 ≡ m * 2 ^ odd
shl m odd a b l = mod-eq_of_lt (omega (arith, (doubled-size m odd a b l).1))

-- the numbers of the code: the first digits of W's root, and what they leave
abbrev first : ℕ → ℕ → ℕ
first w r = w / 2 ^ 22 * r / 2 ^ 32

abbrev left : ℕ → ℕ → ℕ
left w r = w * 64 - first w r * first w r

-- the step that they make
stepped : (m odd j r : ℕ) → (2 ^ 53 ≤ 2 * m) × (m < 2 ^ 53) × (odd ≤ 1) × (j ≡ place_of m odd)
    → Reciprocal (2 ^ (1 - j / 256) * (m / 2 ^ 22)) (2 ^ (1 - j / 256) * (m / 2 ^ 22 + 1)) r
    → Step (m * 2 ^ odd) (m * 2 ^ odd / 2 ^ 22) r (first (m * 2 ^ odd) r) (left (m * 2 ^ odd) r)
stepped m odd j r p near =
    let d = doubled-size m odd p.0 p.1 p.2 in
    let n : 1 - j / 256 ≡ odd = parity m odd j p.2 p.3 in
    step_of (m * 2 ^ odd) m odd r d.0 d.1 refl (subst (λ (k : ℕ). Reciprocal (2 ^ k * (m / 2 ^ 22)) (2 ^ k * (m / 2 ^ 22 + 1)) r) n near)
  where
    parity : (m odd j : ℕ) → odd ≤ 1 → j ≡ place_of m odd → 1 - j / 256 ≡ odd
    parity m odd j l e = omega arith

-- once the reciprocal is there
module _ (c : After-reciprocal-r) where
  abbrev w : ℕ
  w = c.args.m * 2 ^ c.args.odd

  abbrev r : ℕ
  r = c.reciprocal-r.result

  abbrev s : ℕ
  s = first w r

  abbrev lack : ℕ
  lack = left w r

  abbrev t : ℕ
  t = lack * r / 2 ^ 37

  step : Step w (w / 2 ^ 22) r s lack
  step = stepped c.args.m c.args.odd c.args.place r c.requires c.reciprocal-r.ensures

  adds : t ≤ 24 * 2 ^ 22 + 1
  adds = step_small w (w / 2 ^ 22) r s lack t step refl refl

  tried : (s * (t + 1) ≤ 2 ^ 30 * (25 * 2 ^ 22)) × ((t + 1) * (t + 1) ≤ 25 * 2 ^ 22 * (25 * 2 ^ 22))
  tried =
      let a : s ≤ 2 ^ 30 = omega (arith, step.small) in
      let b : t + 1 ≤ 25 * 2 ^ 22 = omega (arith, adds) in
      (mul-le-mul a b, mul-le-mul b b)

-- where the arms meet, u is all that is to be added: t where t + 1 is too much, else t + 1
ended : (c : Joined-room-s)
    → Ending (c.args.m * 2 ^ c.args.odd) (first (c.args.m * 2 ^ c.args.odd) c.reciprocal-r.result) (left (c.args.m * 2 ^ c.args.odd) c.reciprocal-r.result) c.if-room-s.u
ended c =
    let p = c.requires in
    let w : ℕ = c.args.m * 2 ^ c.args.odd in
    let z : ℕ = w / 2 ^ 22 in
    let r : ℕ = c.reciprocal-r.result in
    let s : ℕ = first w r in
    let k : ℕ = left w r in
    let t : ℕ = k * r / 2 ^ 37 in
    let g : Step w z r s k = stepped c.args.m c.args.odd c.args.place r p c.reciprocal-r.ensures in
    let e = shl c.args.m c.args.odd p.0 p.1 p.2 in
    ending w z r s k c.if-room-s.u g (elim c.if-room-s.branch [
      | then-room-s v ↦ same (omega (arith, rw e at v.u-is)) (test-lowered w z r s k t g refl refl (rw e at v.if-room-s.true))
      | else-room-s v ↦ same (omega (arith, rw e at v.u-is)) (test-kept w z r s k t g refl refl (rw e at v.if-room-s.false))
    ])
  where
    same : {a c s e : ℕ} → a ≡ c → Ends s e c → Ends s e a
    same {a} {c} {s} {e} i h = subst (λ (k : ℕ). Ends s e k) (sym i) h

pub overflow_mul-s : goal.overflow_mul-s
overflow_mul-s c = rw (shl c.args.m c.args.odd c.requires.0 c.requires.1 c.requires.2) (record { fits = omega (arith, (step (goal.at.overflow_mul-s c).After-reciprocal-r).product) })

pub overflow_mul-lack : goal.overflow_mul-lack
overflow_mul-lack c =
    let a = c.args in
    let p = c.requires in
    rw (shl a.m a.odd p.0 p.1 p.2) (record { fits = omega (arith, (doubled-size a.m a.odd p.0 p.1 p.2).1) })

pub overflow_mul-lack-2 : goal.overflow_mul-lack-2
overflow_mul-lack-2 c = rw (shl c.args.m c.args.odd c.requires.0 c.requires.1 c.requires.2) (record { fits = omega (arith, (step (goal.at.overflow_mul-lack-2 c).After-reciprocal-r).square) })

pub overflow_sub-lack : goal.overflow_sub-lack
overflow_sub-lack c = rw (shl c.args.m c.args.odd c.requires.0 c.requires.1 c.requires.2) (step (goal.at.overflow_sub-lack c).After-reciprocal-r).under

pub overflow_mul-room : goal.overflow_mul-room
overflow_mul-room c = rw (shl c.args.m c.args.odd c.requires.0 c.requires.1 c.requires.2) (record { fits = omega (arith, (step (goal.at.overflow_mul-room c).After-reciprocal-r).lack-small) })

pub overflow_mul-t : goal.overflow_mul-t
overflow_mul-t c = rw (shl c.args.m c.args.odd c.requires.0 c.requires.1 c.requires.2) (record { fits = omega (arith, (step (goal.at.overflow_mul-t c).After-reciprocal-r).step) })

pub overflow_add-u : goal.overflow_add-u
overflow_add-u c = rw (shl c.args.m c.args.odd c.requires.0 c.requires.1 c.requires.2) (record { fits = omega (arith, adds (goal.at.overflow_add-u c).After-reciprocal-r) })

pub overflow_mul-s-2 : goal.overflow_mul-s-2
overflow_mul-s-2 c = rw (shl c.args.m c.args.odd c.requires.0 c.requires.1 c.requires.2) (record { fits = omega (arith, (step (goal.at.overflow_mul-s-2 c).After-reciprocal-r).small) })

pub overflow_mul-s-3 : goal.overflow_mul-s-3
overflow_mul-s-3 c = rw (shl c.args.m c.args.odd c.requires.0 c.requires.1 c.requires.2) (record { fits = omega (arith, (tried (goal.at.overflow_mul-s-3 c).After-reciprocal-r).0) })

pub overflow_mul-u : goal.overflow_mul-u
overflow_mul-u c = rw (shl c.args.m c.args.odd c.requires.0 c.requires.1 c.requires.2) (record { fits = omega (arith, (tried (goal.at.overflow_mul-u c).After-reciprocal-r).1) })

pub overflow_add-u-2 : goal.overflow_add-u-2
overflow_add-u-2 c = rw (shl c.args.m c.args.odd c.requires.0 c.requires.1 c.requires.2) (record { fits = omega (arith, (tried (goal.at.overflow_add-u-2 c).After-reciprocal-r).1) })

pub overflow_add-s : goal.overflow_add-s
overflow_add-s c = rw (shl c.args.m c.args.odd c.requires.0 c.requires.1 c.requires.2) (record { fits = omega (arith, tried (goal.at.overflow_add-s c).After-reciprocal-r) })

pub overflow_mul-rest : goal.overflow_mul-rest
overflow_mul-rest c = rw (shl c.args.m c.args.odd c.requires.0 c.requires.1 c.requires.2) (record { fits = omega (arith, (step (goal.at.overflow_mul-rest c).After-reciprocal-r).small) })

pub overflow_mul-rest-2 : goal.overflow_mul-rest-2
overflow_mul-rest-2 c = rw (shl c.args.m c.args.odd c.requires.0 c.requires.1 c.requires.2) (record { fits = omega (arith, (ended (goal.at.overflow_mul-rest-2 c).Joined-room-s).product) })

pub overflow_sub-rest : goal.overflow_sub-rest
overflow_sub-rest c = rw (shl c.args.m c.args.odd c.requires.0 c.requires.1 c.requires.2) (ended (goal.at.overflow_sub-rest c).Joined-room-s).enough

pub overflow_mul-rest-3 : goal.overflow_mul-rest-3
overflow_mul-rest-3 c = rw (shl c.args.m c.args.odd c.requires.0 c.requires.1 c.requires.2) (record { fits = omega (arith, (ended (goal.at.overflow_mul-rest-3 c).Joined-room-s).room) })

pub overflow_mul-rest-4 : goal.overflow_mul-rest-4
overflow_mul-rest-4 c = record { fits = omega (arith, (ended (goal.at.overflow_mul-rest-4 c).Joined-room-s).square) }

pub overflow_sub-rest-2 : goal.overflow_sub-rest-2
overflow_sub-rest-2 c = rw (shl c.args.m c.args.odd c.requires.0 c.requires.1 c.requires.2) (ended (goal.at.overflow_sub-rest-2 c).Joined-room-s).whole

pub overflow_mul-result : goal.overflow_mul-result
overflow_mul-result c = rw (shl c.args.m c.args.odd c.requires.0 c.requires.1 c.requires.2) (record { fits = omega (arith, (ended (goal.at.overflow_mul-result c).Joined-room-s).small) })

pub overflow_add-result : goal.overflow_add-result
overflow_add-result c = rw (shl c.args.m c.args.odd c.requires.0 c.requires.1 c.requires.2) (record { fits = omega (arith, (ended (goal.at.overflow_add-result c).Joined-room-s).small) })

pub overflow_add-result-2 : goal.overflow_add-result-2
overflow_add-result-2 c = rw (shl c.args.m c.args.odd c.requires.0 c.requires.1 c.requires.2) (record { fits = omega (arith, (ended (goal.at.overflow_add-result-2 c).Joined-room-s).room) })

pub returns : goal.returns
returns c = rw (shl c.args.m c.args.odd c.requires.0 c.requires.1 c.requires.2) (ended (goal.at.returns c).Joined-room-s).rounds
