-- log2 where its whole part t is not 0 or its fixed point is 1.5: the sum z_h + z_l + dp_h + t is not near 0, so that t2 is small against t1.
use mathlib.Core.Path.{◌≡◌}
use mathlib.Core.Logic.{⊎_elim}
use Prim.Native.Nat.{ℕ, suc, ◌+◌, ◌-◌, ◌*◌, ◌/◌, ◌^◌, ◌≤◌}
use native.Mathlib.Nat.{le_trans, le_refl}
use native.Mathlib.Omega.{arith}
use lib.Dec.{T, leb, lit≤}
use lib.Ieee.{Float, Format, prec, emax, add}
use Rattle.bounds.proofs.Signed.{mag, plus, minus, parts, one-zero}
use Rattle.bounds.proofs.Within.{U, Scale, Within, Off, unit-scale, weaken, at_most, rebase, unit-least}
use Rattle.bounds.proofs.SumBounds.{w-add, o-add}
use Rattle.bounds.proofs.Chop.{chopped}
use Rattle.bounds.proofs.Split.{off-at-most, off-through}
use Rattle.bounds.proofs.Least.{lower, g-chop}
use Rattle.bounds.proofs.LogSum.{sum_of, t1-of, t2-of, t1-in, t2-in, roundings}
use Rattle.bounds.proofs.Halves.{Halves, halves}

-- the sum is at least 1 / 11, and 1 / 11 of t
abbrev pub Clear : Format → Float → Float → Float → Float → Type 0
Clear f z-h z-l dp-h t = (U f ≤ 11 * mag f (sum_of f z-h z-l dp-h t)) × (mag f t ≤ 11 * mag f (sum_of f z-h z-l dp-h t))

module _ {f : Format} {z-h z-l dp-h t : Float} (z-h-in : Within f (U f) 524000000 z-h) (z-l-in : Within f (U f) 330000 z-l)
    (dp-h-in : Within f (U f) 628200000 dp-h) (t-in : Within f (U f) 1300000000000 t) where
  abbrev o3 : Float
  o3 = sum_of f z-h z-l dp-h t

  o1-in : Within f (U f) 524330502 (add f z-h z-l)
  o1-in = weaken 524330502 (w-add (unit-scale f) z-h-in z-l-in tt) tt

  o2-in : Within f (U f) 1152532000 (add f (add f z-h z-l) dp-h)
  o2-in = weaken 1152532000 (w-add (unit-scale f) o1-in dp-h-in tt) tt

  o3-in : Within f (U f) 1302000000000 o3
  o3-in = weaken 1302000000000 (w-add (unit-scale f) o2-in t-in tt) tt

  -- ---- the sum, from its four terms
  sum-off : Off f (U f) 1243000 o3 (plus f z-h + plus f z-l + plus f dp-h + plus f t) (minus f z-h + minus f z-l + minus f dp-h + minus f t)
  sum-off =
      off-at-most 1243000 (off-through (plus f t) (minus f t) (off-through (plus f dp-h) (minus f dp-h)
      (o-add (unit-scale f) z-h-in z-l-in tt) (o-add (unit-scale f) o1-in dp-h-in tt)) (o-add (unit-scale f) o2-in t-in tt)) (lit≤ tt)

  -- the sum against dp_h + t, for each sign of the two
  side : (z : ℕ) → 2 ^ 30 * mag f z-h ≤ z → 2 ^ 30 * (plus f dp-h + plus f t) ≤ 2 ^ 30 * (minus f dp-h + minus f t + mag f o3) + z + 1573000 * U f
  side z h = omega (arith, parts f z-h, parts f z-l, parts f o3, sum-off.lo)

  side' : (z : ℕ) → 2 ^ 30 * mag f z-h ≤ z → 2 ^ 30 * (minus f dp-h + minus f t) ≤ 2 ^ 30 * (plus f dp-h + plus f t + mag f o3) + z + 1573000 * U f
  side' z h = omega (arith, parts f z-h, parts f z-l, parts f o3, sum-off.hi)

  -- no fixed point but 1: a whole part that is not 0 is above the rest
  pub far-0 : mag f dp-h ≡ 0 → U f ≤ mag f t → Clear f z-h z-l dp-h t
  far-0 e h =
      let l : 2 ^ 30 * mag f t ≤ 2 ^ 30 * mag f o3 + 525573000 * U f = ⊎_elim
      (λ z. omega (arith, parts f dp-h, parts f t, side' (524000000 * U f) z-h-in.le))
      (λ z. omega (arith, parts f dp-h, parts f t, side (524000000 * U f) z-h-in.le)) (one-zero f t) in
      (omega (arith, l), omega (arith, l))

  -- 1.5, and no whole part or one that is positive
  pub far-up : Within f (U f) 343000000 z-h → minus f dp-h ≡ 0 → 628000000 * U f ≤ 2 ^ 30 * mag f dp-h → minus f t ≡ 0 → Clear f z-h z-l dp-h t
  far-up Z e d h =
      let l : 2 ^ 30 * (mag f dp-h + mag f t) ≤ 2 ^ 30 * mag f o3 + 344573000 * U f = omega (arith, parts f dp-h, parts f t, side (343000000 * U f) Z.le) in
      (omega (arith, l), omega (arith, l))

  -- 1.5, and a whole part below 0
  pub far-down : Within f (U f) 343000000 z-h → minus f dp-h ≡ 0 → plus f t ≡ 0 → U f ≤ mag f t → Clear f z-h z-l dp-h t
  far-down Z e h k =
      let l : 2 ^ 30 * mag f t ≤ 2 ^ 30 * mag f o3 + 972773000 * U f = omega (arith, parts f dp-h, parts f t, side' (343000000 * U f) Z.le) in
      (omega (arith, l), omega (arith, l))

  -- ---- in all three cases the sum itself is the scale
  pub away : Clear f z-h z-l dp-h t → (j g : ℕ) → j + g ≡ prec f - 1 → 8 ≤ g → T (leb (4 * suc (emax f) * (2 ^ 30 / 2 ^ g + 10000)) 1000000000)
      → Halves f (t1-of f j z-h z-l dp-h t) (t2-of f j z-h z-l dp-h t)
  away h j g jg gm G =
      halves {n = 1000000000} (t1-in S z-h-by-o z-l-by-o dp-h-by-o t-by-o o-by-o (lit≤ tt) j g jg).num
      (lower 1000000000 (g-chop S j g jg gm o3-in.num record { ge = le_refl (2 ^ 30 * mag f o3) }) tt)
      (at_most (2 ^ 30 / 2 ^ g + 10000) (t2-in S z-h-by-o z-l-by-o dp-h-by-o t-by-o o-by-o (lit≤ tt) j g jg) (few (2 ^ 30 / 2 ^ g))) G
      (under (mag f (t1-of f j z-h z-l dp-h t)) (mag f o3) (U f) (chopped f j g o3 jg o3-in.num).le o3-in.le)
    where
      S : Scale f (mag f o3)
      S = record { least = big (mag f o3) (U f) (le_trans (lit≤ tt) (unit-least f)) h.0; most = cap (mag f o3) (U f) o3-in.le }
        where
          big : (o u : ℕ) → 2 ^ 97 ≤ u → u ≤ 11 * o → 2 ^ 90 ≤ o
          big o u a b = omega arith

          cap : (o u : ℕ) → 2 ^ 30 * o ≤ 1302000000000 * u → o ≤ 2 ^ 40 * u
          cap o u a = omega arith

      unit-o : 2 ^ 30 * U f ≤ 11 * 2 ^ 30 * mag f o3
      unit-o = omega (arith, h.0)

      z-h-by-o : Within f (mag f o3) 6000000000 z-h
      z-h-by-o = weaken 6000000000 (rebase (mag f o3) (11 * 2 ^ 30) z-h-in unit-o) tt

      z-l-by-o : Within f (mag f o3) 5000000 z-l
      z-l-by-o = weaken 5000000 (rebase (mag f o3) (11 * 2 ^ 30) z-l-in unit-o) tt

      dp-h-by-o : Within f (mag f o3) 7000000000 dp-h
      dp-h-by-o = weaken 7000000000 (rebase (mag f o3) (11 * 2 ^ 30) dp-h-in unit-o) tt

      t-by-o : Within f (mag f o3) 12000000000 t
      t-by-o = record { num = t-in.num; le = omega (arith, h.1) }

      o-by-o : Within f (mag f o3) (2 ^ 30) o3
      o-by-o = record { num = o3-in.num; le = le_refl (2 ^ 30 * mag f o3) }

      few : (q : ℕ) → q + roundings 6000000000 5000000 7000000000 12000000000 (2 ^ 30) ≤ q + 10000
      few q = omega arith

      under : (r o u : ℕ) → r ≤ o → 2 ^ 30 * o ≤ 1302000000000 * u → r ≤ 2 ^ 11 * u
      under r o u a b = omega arith
