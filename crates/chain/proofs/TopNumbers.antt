-- The numbers of the step at emax + 1: ph and mh are hi's units above and below 0, pl and ml those of lo, M is emax + 1 in units and a is hi - M rounded.
use mathlib.Core.Path.{◌≡◌, sym, ap, ◌∙◌}
use mathlib.Core.Logic.{◌⊎◌, inl, inr}
use Prim.Native.Nat.{ℕ, suc, ◌+◌, ◌-◌, ◌*◌, ◌/◌, ◌^◌, ◌≤◌}
use native.Mathlib.Nat.{le_trans, le_of_eq}
use native.Mathlib.Omega.{arith}
use lib.Dec.{lit≤}
use lib.Ieee.{Format, binary32, binary64, prec, emax}
use Rattle.bounds.proofs.Grid.{rq-zero}
use Rattle.bounds.proofs.Signed.{R, round_mono}

-- |lo| is 0.511 at most where |z| is emax + 1 at most
pub lo-bound : (f : Format) (hi lo z u : ℕ) → 2 ^ 21 * hi ≤ 2 ^ 21 * (lo + z) + (hi + lo) + 2 ^ 20 → 2 * suc (emax f) * lo ≤ hi + 2 ^ 77
    → z ≤ suc (emax f) * u → 2 ^ 97 ≤ u → 2 ^ 30 * lo ≤ 548000000 * u
lo-bound f hi lo z u a b c d = step f (2 ^ 77) hi lo z u (coarse (2 ^ 77) hi lo z a (lit≤ tt)) b c (le_trans (lit≤ tt) d)
  where
    coarse : (k hi lo z : ℕ) → 2 ^ 21 * hi ≤ 2 ^ 21 * (lo + z) + (hi + lo) + 2 ^ 20 → 2 ^ 20 ≤ k → 1000 * hi ≤ 1001 * (lo + z) + k
    coarse k hi lo z a i = omega arith

    step : (f : Format) (k hi lo z u : ℕ) → 1000 * hi ≤ 1001 * (lo + z) + k → 2 * suc (emax f) * lo ≤ hi + k → z ≤ suc (emax f) * u → 2 ^ 20 * k ≤ u
        → 2 ^ 30 * lo ≤ 548000000 * u
    step binary32 k hi lo z u a b c e = omega arith
    step binary64 k hi lo z u a b c e = omega arith

-- |a| is 1.081 at most: a is the sum o less lo, nearly
pub rest-bound : (pl ml lo pa ma a po mo o u : ℕ) → lo ≡ pl + ml → a ≡ pa + ma → o ≡ po + mo → (pa ≡ 0) ⊎ (ma ≡ 0) → 2 ^ 30 * lo ≤ 548000000 * u
    → 2 ^ 30 * o ≤ 600000000 * u
    → 2 ^ 30 * (po + (ml + ma)) ≤ 2 ^ 30 * (mo + (pl + pa)) + ((2 ^ 36 + 2 ^ 41) / 2 ^ 20 + 1) * u
    → 2 ^ 30 * (mo + (pl + pa)) ≤ 2 ^ 30 * (po + (ml + ma)) + ((2 ^ 36 + 2 ^ 41) / 2 ^ 20 + 1) * u → 2 ^ 30 * a ≤ 1160000000 * u
rest-bound pl ml lo pa ma a po mo o u e1 e2 e3 (inl z) h k x y = omega arith
rest-bound pl ml lo pa ma a po mo o u e1 e2 e3 (inr z) h k x y = omega arith

-- ---- lo + a is 0 at most: rounding keeps the order, and lo is exact
-- where lo + hi is M at most before it is rounded
pub below-limit : (f : Format) (ph mh pl ml pa ma M l : ℕ) → pa ≡ R f (ph - (mh + M)) → ma ≡ R f ((mh + M) - ph) → l ≡ pl + ml → R f l ≡ l → (pl ≡ 0) ⊎ (ml ≡ 0)
    → pl + ph ≤ ml + mh + M → pl + pa ≤ ml + ma
below-limit f ph mh pl ml pa ma M l ea em el x (inl z) h =
    fin pl ml pa ma l z el (le_trans (le_of_eq ea) (le_trans (round_mono f (ph - (mh + M)) l (under pl ph ml mh M l z el h)) (le_of_eq x)))
  where
    under : (pl ph ml mh M l : ℕ) → pl ≡ 0 → l ≡ pl + ml → pl + ph ≤ ml + mh + M → ph - (mh + M) ≤ l
    under pl ph ml mh M l z e h = omega arith

    fin : (pl ml pa ma l : ℕ) → pl ≡ 0 → l ≡ pl + ml → pa ≤ l → pl + pa ≤ ml + ma
    fin pl ml pa ma l z e h = omega arith
below-limit f ph mh pl ml pa ma M l ea em el x (inr z) h =
    fin pl ml pa ma l z el (ea ∙ ap (R f) (nil pl ph ml mh M z h) ∙ rq-zero (prec f))
    (le_trans (le_of_eq (sym x)) (le_trans (round_mono f l ((mh + M) - ph) (under pl ph ml mh M l z el h)) (le_of_eq (sym em))))
  where
    nil : (pl ph ml mh M : ℕ) → ml ≡ 0 → pl + ph ≤ ml + mh + M → ph - (mh + M) ≡ 0
    nil pl ph ml mh M z h = omega arith

    under : (pl ph ml mh M l : ℕ) → ml ≡ 0 → l ≡ pl + ml → pl + ph ≤ ml + mh + M → l ≤ (mh + M) - ph
    under pl ph ml mh M l z e h = omega arith

    fin : (pl ml pa ma l : ℕ) → ml ≡ 0 → l ≡ pl + ml → pa ≡ 0 → l ≤ ma → pl + pa ≤ ml + ma
    fin pl ml pa ma l z e g h = omega arith

-- where z is M, and the overflow test fails: lo with a little more (po) is not above M - hi
pub at-limit : (f : Format) (pl ml po pd md pa ma l : ℕ) → pd ≡ R f ((pl + po) - ml) → md ≡ R f (ml - (pl + po)) → l ≡ pl + ml → R f l ≡ l → (pl ≡ 0) ⊎ (ml ≡ 0)
    → pd + pa ≤ ma + md → pl + pa ≤ ml + ma
at-limit f pl ml po pd md pa ma l ep em el x (inl z) h =
    fin pl ml pd md pa ma l z el (le_trans (le_of_eq em) (le_trans (round_mono f (ml - (pl + po)) l (under pl ml po l z el)) (le_of_eq x))) h
  where
    under : (pl ml po l : ℕ) → pl ≡ 0 → l ≡ pl + ml → ml - (pl + po) ≤ l
    under pl ml po l z e = omega arith

    fin : (pl ml pd md pa ma l : ℕ) → pl ≡ 0 → l ≡ pl + ml → md ≤ l → pd + pa ≤ ma + md → pl + pa ≤ ml + ma
    fin pl ml pd md pa ma l z e k h = omega arith
at-limit f pl ml po pd md pa ma l ep em el x (inr z) h =
    fin pl ml pd md pa ma l z el (em ∙ ap (R f) (nil pl ml po z) ∙ rq-zero (prec f))
    (le_trans (le_of_eq (sym x)) (le_trans (round_mono f l ((pl + po) - ml) (under pl ml po l z el)) (le_of_eq (sym ep)))) h
  where
    nil : (pl ml po : ℕ) → ml ≡ 0 → ml - (pl + po) ≡ 0
    nil pl ml po z = omega arith

    under : (pl ml po l : ℕ) → ml ≡ 0 → l ≡ pl + ml → l ≤ (pl + po) - ml
    under pl ml po l z e = omega arith

    fin : (pl ml pd md pa ma l : ℕ) → ml ≡ 0 → l ≡ pl + ml → md ≡ 0 → l ≤ pd → pd + pa ≤ ma + md → pl + pa ≤ ml + ma
    fin pl ml pd md pa ma l z e g k h = omega arith
