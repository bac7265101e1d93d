-- 2 to a small number in two parts: a number in two parts, less its nearest whole number, is about a half at most, and so its exponential is between 1/4 and 2.
use mathlib.Core.Path.{◌≡◌, sym, subst, ◌∙◌}
use mathlib.Core.Logic.{◌⊎◌, inl, inr, ⊎_elim}
use Prim.Native.Nat.{ℕ, ◌+◌, ◌*◌, ◌/◌, ◌^◌, ◌≤◌}
use native.Mathlib.Nat.{add_comm}
use native.Mathlib.Omega.{arith}
use lib.Dec.{T, leb}
use lib.Ieee.{Float, Format, add, sub, to_bits}
use Rattle.power.specs.Width.{Width, Two, Nearest}
use Rattle.power.specs.Chain.{nearest_of, exponential_of, parts_of, chop}
use Rattle.bounds.proofs.Signed.{sign, mag, plus, minus, parts, parts-of, one-zero}
use Rattle.bounds.proofs.Within.{U, Within, Off, unit-scale, weaken}
use Rattle.bounds.proofs.SumBounds.{w-add, o-add, o-sub, close-sub}
use Rattle.bounds.proofs.Exp.{Between, exponential, z-in, w-in}
use Rattle.chain.proofs.Known.{Known}

-- the whole number nearest to p, and the exponential of what is left
abbrev pub whole_of : Width → Two → Nearest
whole_of w p = nearest_of w (to_bits w.format (add w.format p.lo p.hi) / 2 ^ w.below)

abbrev pub raising : Width → Two → Float
raising w p = exponential_of w (parts_of w record { hi = sub w.format p.hi (whole_of w p).float; lo = p.lo })

-- a sum of close floats, from the exact sum's bound
close-add : {f : Format} {c d : ℕ} {x y : Float} (k : ℕ) → Within f (U f) c x → Within f (U f) d y → T (leb (c + d) (2 ^ 60))
    → 2 ^ 30 * (plus f x + plus f y) ≤ 2 ^ 30 * (minus f x + minus f y) + k * U f
    → 2 ^ 30 * (minus f x + minus f y) ≤ 2 ^ 30 * (plus f x + plus f y) + k * U f
    → Within f (U f) (k + ((c + d) / 2 ^ 20 + 1)) (add f x y)
close-add {f} {c} {d} {x} {y} k h i l a b =
    let o = o-add (unit-scale f) h i l in
    let z = add f x y in
    let e : ℕ = (c + d) / 2 ^ 20 + 1 in
    record {
      num = (w-add (unit-scale f) h i l).num;
      le = subst (λ (m : ℕ). 2 ^ 30 * m ≤ (k + e) * U f) (sym (parts f z))
          (fin (plus f z) (minus f z) (plus f x + plus f y) (minus f x + minus f y) e (U f) o.hi o.lo a b (one-zero f z));
    }
  where
    fin : (p m A B e S : ℕ) → 2 ^ 30 * (p + B) ≤ 2 ^ 30 * (m + A) + e * S → 2 ^ 30 * (m + A) ≤ 2 ^ 30 * (p + B) + e * S
        → 2 ^ 30 * A ≤ 2 ^ 30 * B + k * S → 2 ^ 30 * B ≤ 2 ^ 30 * A + k * S → (p ≡ 0) ⊎ (m ≡ 0) → 2 ^ 30 * (p + m) ≤ (k + e) * S
    fin p m A B e S a b c d (inl z) = omega arith
    fin p m A B e S a b c d (inr z) = omega arith

module _ (w : Width) (K : Known w) where
  abbrev f : Format
  f = w.format

  -- |p| is 0.559 at most: 600000000 of 2 ^ 30
  pub exp-between : (p : Two) → Within f (U f) (2 ^ 41) p.hi → Within f (U f) (2 ^ 41) p.lo → Within f (U f) 600000000 (add f p.lo p.hi)
      → Between f (exponential_of w (parts_of w p))
  unfolding exponential_of parts_of chop
  exp-between p H L S =
      exponential K.exp (z-in K.exp H L S w.shorter K.lead-exp K.lead-exp-is K.lead-exp-fine)
      (w-in K.exp H L S w.shorter K.lead-exp K.lead-exp-is K.lead-exp-fine)

  module _ {hi lo : Float} (H : Within f (U f) (2 ^ 42) hi) (L : Within f (U f) (2 ^ 36) lo) where
    abbrev z : Float
    z = add w.format lo hi

    z-off : Off f (U f) (2 ^ 22 + 2 ^ 16 + 1) z (plus f lo + plus f hi) (minus f lo + minus f hi)
    z-off = o-add (unit-scale f) L H tt

    -- where z is small, hi is: it is z less lo, nearly
    pub hi-alone : Within f (U f) 600000000 z → Within f (U f) (2 ^ 41) hi
    hi-alone S = record {
      num = H.num;
      le = subst (λ (y : ℕ). 2 ^ 30 * y ≤ 2 ^ 41 * U f) (sym (parts f hi))
          (fin (plus f hi) (minus f hi) (plus f lo) (minus f lo) (mag f lo) (plus f z) (minus f z) (mag f z) (U f)
          (parts f lo) (parts f z) L.le S.le z-off.lo z-off.hi (one-zero f hi));
    }
      where
        fin : (ph mh pl ml l pz mz y u : ℕ) → l ≡ pl + ml → y ≡ pz + mz → 2 ^ 30 * l ≤ 2 ^ 36 * u → 2 ^ 30 * y ≤ 600000000 * u
            → 2 ^ 30 * (mz + (pl + ph)) ≤ 2 ^ 30 * (pz + (ml + mh)) + (2 ^ 22 + 2 ^ 16 + 1) * u
            → 2 ^ 30 * (pz + (ml + mh)) ≤ 2 ^ 30 * (mz + (pl + ph)) + (2 ^ 22 + 2 ^ 16 + 1) * u
            → (ph ≡ 0) ⊎ (mh ≡ 0) → 2 ^ 30 * (ph + mh) ≤ 2 ^ 41 * u
        fin ph mh pl ml l pz mz y u a b c d e g (inl o) = omega arith
        fin ph mh pl ml l pz mz y u a b c d e g (inr o) = omega arith

    -- n has z's sign and is a half away at most
    module _ {n : Float} (N : Within f (U f) (2 ^ 41) n) (sg : sign n ≡ sign z) (up : 2 * mag f z ≤ 2 * mag f n + U f)
        (dn : 2 * mag f n ≤ 2 * mag f z + U f) where
      apart : (2 * (plus f n + minus f z) ≤ 2 * (minus f n + plus f z) + U f) × (2 * (minus f n + plus f z) ≤ 2 * (plus f n + minus f z) + U f)
      apart = ⊎_elim
          (λ v. (
            under (plus f n) (minus f n) (plus f z) (minus f z) (mag f n) (mag f z) (U f) v.0 v.1 v.2 v.3 dn,
            above (plus f n) (minus f n) (plus f z) (minus f z) (mag f n) (mag f z) (U f) v.0 v.1 v.2 v.3 up,
          ))
          (λ v. (
            above (minus f n) (plus f n) (minus f z) (plus f z) (mag f n) (mag f z) (U f) v.1 v.0 v.3 v.2 up,
            under (minus f n) (plus f n) (minus f z) (plus f z) (mag f n) (mag f z) (U f) v.1 v.0 v.3 v.2 dn,
          ))
          (parts-of f z n sg)
        where
          under : (p m q r a b u : ℕ) → p ≡ a → m ≡ 0 → q ≡ b → r ≡ 0 → 2 * a ≤ 2 * b + u → 2 * (p + r) ≤ 2 * (m + q) + u
          under p m q r a b u e1 e2 e3 e4 h = omega arith

          above : (p m q r a b u : ℕ) → p ≡ a → m ≡ 0 → q ≡ b → r ≡ 0 → 2 * b ≤ 2 * a + u → 2 * (m + q) ≤ 2 * (p + r) + u
          above p m q r a b u e1 e2 e3 e4 h = omega arith

      -- hi less n, and then with lo
      pub rest_in : Within f (U f) (2 ^ 41) (sub f hi n)
      rest_in = weaken (2 ^ 41) (close-sub (unit-scale f) (2 ^ 36 + (2 ^ 22 + 2 ^ 16 + 1) + 2 ^ 29) H N tt
          (fin (plus f hi) (minus f hi) (plus f lo) (minus f lo) (mag f lo) (plus f n) (minus f n) (plus f z) (minus f z) (U f)
          (parts f lo) L.le z-off.lo apart.1)
          (fin (minus f hi) (plus f hi) (minus f lo) (plus f lo) (mag f lo) (minus f n) (plus f n) (minus f z) (plus f z) (U f)
          (parts f lo ∙ add_comm (plus f lo) (minus f lo)) L.le z-off.hi apart.0)) tt
        where
          fin : (ph mh pl ml l pn mn pz mz u : ℕ) → l ≡ pl + ml → 2 ^ 30 * l ≤ 2 ^ 36 * u
              → 2 ^ 30 * (mz + (pl + ph)) ≤ 2 ^ 30 * (pz + (ml + mh)) + (2 ^ 22 + 2 ^ 16 + 1) * u → 2 * (mn + pz) ≤ 2 * (pn + mz) + u
              → 2 ^ 30 * (ph + mn) ≤ 2 ^ 30 * (mh + pn) + (2 ^ 36 + (2 ^ 22 + 2 ^ 16 + 1) + 2 ^ 29) * u
          fin ph mh pl ml l pn mn pz mz u a b c d = omega arith

      pub rest_sum : Within f (U f) 600000000 (add f lo (sub f hi n))
      rest_sum =
          let d = sub f hi n in
          let D : Off f (U f) (6 * 2 ^ 20 + 1) d (plus f hi + minus f n) (minus f hi + plus f n) = o-sub (unit-scale f) H N tt in
          weaken 600000000 (close-add ((2 ^ 22 + 2 ^ 16 + 1) + 2 ^ 29 + (6 * 2 ^ 20 + 1)) L rest_in tt
          (fin (plus f hi) (minus f hi) (plus f lo) (minus f lo) (plus f n) (minus f n) (plus f z) (minus f z) (plus f d) (minus f d)
          (U f) z-off.lo apart.1 D.hi)
          (fin (minus f hi) (plus f hi) (minus f lo) (plus f lo) (minus f n) (plus f n) (minus f z) (plus f z) (minus f d) (plus f d)
          (U f) z-off.hi apart.0 D.lo)) tt
        where
          fin : (ph mh pl ml pn mn pz mz pd md u : ℕ) → 2 ^ 30 * (mz + (pl + ph)) ≤ 2 ^ 30 * (pz + (ml + mh)) + (2 ^ 22 + 2 ^ 16 + 1) * u
              → 2 * (mn + pz) ≤ 2 * (pn + mz) + u → 2 ^ 30 * (pd + (mh + pn)) ≤ 2 ^ 30 * (md + (ph + mn)) + (6 * 2 ^ 20 + 1) * u
              → 2 ^ 30 * (pl + pd) ≤ 2 ^ 30 * (ml + md) + ((2 ^ 22 + 2 ^ 16 + 1) + 2 ^ 29 + (6 * 2 ^ 20 + 1)) * u
          fin ph mh pl ml pn mn pz mz pd md u a b c = omega arith

      pub reduced : Between f (exponential_of w (parts_of w record { hi = sub f hi n; lo = lo }))
      reduced = exp-between record { hi = sub f hi n; lo = lo } rest_in (weaken (2 ^ 41) L tt) rest_sum
