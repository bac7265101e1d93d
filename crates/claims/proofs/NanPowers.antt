-- No NaN arises in the open chain, by the bounds of `chain`; and a power is a NaN where rules 3, 6 and 7 say so and nowhere else: every rule's answer is looked at, in their order. Assumes nothing.
use Prim.Native.Nat.{ℕ, zero, suc, ◌+◌, ◌*◌, ◌%◌, ◌^◌, ◌≤◌, ◌<◌, zero-le}
use mathlib.Core.Path.{◌≡◌, refl, sym, ap, subst, ◌∙◌}
use mathlib.Core.Logic.{◌⊎◌, inl, inr}
use mathlib.Core.Bool.{Bool, true, false, not, ◌&&◌, ◌||◌, cond, true≢false}
use native.Mathlib.Nat.{le_trans, le_refl, zero-lt-suc, mod-le, mod-eq_of_lt, add-mod_left, zero-mod}
use native.Mathlib.Omega.{arith}
use lib.Dec.{ltb, eqb, lit≤, lit<}
use lib.Ieee as Ieee
use borrow.Author.Tests.{ltb-true, ltb-false, leb-false, eqb-true, not-true, not-false, le-ltb}
use Rattle.words.specs.Format.{Format, low, top, infinity, one, quiet, magnitude, negative, is_nan_word, ours}
use Rattle.words.proofs.Words.{sign-and-size}
use Rattle.words.proofs.Rounded.{units-nothing}
use Rattle.root.specs.Root.{root_word}
use Rattle.root.proofs.Words.{Fine}
use Rattle.root.proofs.Order.{root-most}
use Rattle.power.specs.Numbers.{whole, odd}
use Rattle.power.specs.Sorting.{over, square, turned, at_infinity, on_edge, at_edge}
use Rattle.power.specs.Width.{Width}
use Rattle.power.specs.Chain.{open_of}
use Rattle.power.specs.Power.{single, double, pow_of}
use Rattle.power.proofs.Rules.{rule-nan-x, rule-nan-y}
use Rattle.power.specs.NoNan.{OpenPair}
use Rattle.power.proofs.ByRule.{Left, by-test, sorted-by-rule, off-edge, finite-base}
use Rattle.power.proofs.Words.{both}
use Rattle.power.proofs.AnnexF.{below-zero}
use Rattle.power.proofs.Nan.{over-number, square-number}
use Rattle.chain.proofs.Known.{Known}
use Rattle.chain.proofs.Widths.{known32, known64}
use Rattle.chain.proofs.Open.{open-number}
use Rattle.chain.proofs.Numbers.{walked}
use Rattle.claims.specs.NanPowers.{OpenNumbers, NanRule, rule-3, rule-6, rule-7, NanExactly}

-- ---- words that are no NaN's: all up to infinity's, with either sign
module _ (f : Format) (m : ℕ) (h : m ≤ infinity f) where
  plus-number : is_nan_word f m ≡ false
  plus-number = le-ltb (infinity f) (m % top f) (le_trans (mod-le m (top f)) h)

  minus_number : is_nan_word f (top f + m) ≡ false
  minus_number = ap (λ (n : ℕ). ltb (infinity f) n) (add-mod_left (top f) m) ∙ plus-number

one_below : (f : Ieee.Format) → one (ours f) ≤ infinity (ours f)
one_below Ieee.binary32 = lit≤ tt
one_below Ieee.binary64 = lit≤ tt

-- -1 is finite and below 0
minus_one : (f : Ieee.Format) → let m = top (ours f) + one (ours f) in (negative (ours f) m ≡ true) × (0 < magnitude (ours f) m) × (magnitude (ours f) m < infinity (ours f))
minus_one Ieee.binary32 = (refl, lit< tt, lit< tt)
minus_one Ieee.binary64 = (refl, lit< tt, lit< tt)

-- 0 is whole
whole-some : (f : Format) (m : ℕ) → whole f m ≡ false → 0 < m
unfolding whole
whole-some f zero e = absurd (true≢false (sym (ap (λ (u : ℕ). eqb (u % 2 ^ low f) 0) (units-nothing f) ∙ ap (λ (u : ℕ). eqb u 0) (zero-mod (2 ^ low f))) ∙ e))
whole-some f (suc m) e = zero-lt-suc m

numbers : (w : Width) → Known w → OpenNumbers w
numbers w K = record { answer = λ x y s p. open-number w K x y p.base p.not-one p.exponent s; way = walked w K }

module _ (w : Width) (fine : Fine (ours w.format)) (small : (ours w.format).digits ≤ 60) (o : OpenNumbers w) where
  abbrev f : Format
  f = ours w.format

  -- ---- there
  finite : (x y : ℕ) → negative f x ≡ true → 0 < magnitude f x → magnitude f x < infinity f → magnitude f y < infinity f → whole f (magnitude f y) ≡ false → pow_of w x y ≡ quiet f
  finite x y n a b c k = below-zero w x y n (record { some = a; below = b }) (record { some = whole-some f (magnitude f y) k; below = c }) k

  there : (x y : ℕ) → NanRule w x y → pow_of w x y ≡ quiet f
  unfolding pow_of
  there x y (rule-3 z o (inl e)) = sym (rule-nan-x (λ r. r) (open_of w x y) w.format x y z o (ltb-true (infinity f) (magnitude f x) e))
  there x y (rule-3 z o (inr e)) = by (is_nan_word f x) refl
    where
      by : (b : Bool) → is_nan_word f x ≡ b → pow_of w x y ≡ quiet f
      by true n = sym (rule-nan-x (λ r. r) (open_of w x y) w.format x y z o (ltb-true (infinity f) (magnitude f x) n))
      by false n = sym (rule-nan-y (λ r. r) (open_of w x y) w.format x y z o (ltb-false (infinity f) (magnitude f x) n) (ltb-true (infinity f) (magnitude f y) e))
  there x y (rule-6 e b k) =
      let m = minus_one w.format in
      finite x y (ap (negative f) e ∙ m.0) (subst (λ (n : ℕ). 0 < magnitude f n) (sym e) m.1) (subst (λ (n : ℕ). magnitude f n < infinity f) (sym e) m.2) b k
  there x y (rule-7 n a b o c k) = finite x y n a b c k

  -- ---- nowhere else
  module _ (x y : ℕ) (word : x < 2 * top f) where
    abbrev Says : ℕ → Type 0
    Says r = is_nan_word f r ≡ true → NanRule w x y

    abbrev ix : ℕ
    ix = magnitude f x

    abbrev iy : ℕ
    iy = magnitude f y

    -- an answer that is no NaN's says nothing
    silent : (r : ℕ) → is_nan_word f r ≡ false → Says r
    silent r n e = absurd (true≢false (sym e ∙ n))

    most : (b : Bool) {m n : ℕ} → m ≤ infinity f → n ≤ infinity f → cond b m n ≤ infinity f
    most true a b = a
    most false a b = b

    at-infinity : (m : ℕ) (down : Bool) → Says (at_infinity f m down)
    unfolding at_infinity
    at-infinity m down =
        let i = le_refl (infinity f) in
        silent _ (plus-number f _ (most (eqb m (one f)) (one_below w.format) (most (ltb (one f) m) (most down zero-le i) (most down i zero-le))))

    turned-most : (m : ℕ) (down : Bool) → m ≤ infinity f → turned f m down ≤ infinity f
    unfolding turned
    turned-most m down h = most down (most (eqb m 0) (le_refl (infinity f)) (most (eqb m (infinity f)) zero-le h)) h

    -- rule 6: NaN only of -1 to a y that is not whole
    at_edge_lem : Left f x y → Says (at_edge f ix (negative f x) iy (negative f y))
    unfolding at_edge
    at_edge_lem l =
        let z = turned f ix (negative f y) in
        let h = turned-most ix (negative f y) l.number in
        by-test Says (not (negative f x)) (λ e. silent z (plus-number f z h))
        (λ minus. by-test Says (odd f iy) (λ e. silent (top f + z) (minus_number f z h))
        (λ e. by-test Says (not (whole f iy) && eqb ix (one f))
        (λ t n. let b = both (not (whole f iy)) (eqb ix (one f)) t in
        rule-6 (minus_one_is (not-false (negative f x) minus) (eqb-true ix (one f) b.1)) l.finite (not-true (whole f iy) b.0))
        (λ e. silent z (plus-number f z h))))
      where
        minus_one_is : negative f x ≡ true → ix ≡ one f → x ≡ top f + one f
        minus_one_is n e = sym (sign-and-size (top f) x word) ∙ ap (λ (b : Bool). cond b (top f) 0 + ix) n ∙ ap (λ (m : ℕ). top f + m) e

    pair : Left f x y → on_edge f ix ≡ false → OpenPair f x y
    pair l e = record { base = finite-base f x y l e; not-one = (off-edge f ix e).2; exponent = l.finite }

    at_open : Left f x y → on_edge f ix ≡ false → (s : Bool) → Says (open_of w x y s)
    at_open l e s = silent (open_of w x y s) (o.answer x y s (pair l e))

    positive : negative f x ≡ false → ix ≤ infinity f → x ≤ infinity f
    positive n h = subst (λ (m : ℕ). m ≤ infinity f) (mod-eq_of_lt (leb-false (top f) x n)) h

    nowhere-else : is_nan_word f (pow_of w x y) ≡ true → NanRule w x y
    unfolding pow_of
    nowhere-else = sorted-by-rule (λ r. r) (open_of w x y) w.format x y Says (record {
      rules-1-2 = silent (one f) (plus-number f (one f) (one_below w.format));
      rule-3 = λ z o e n. rule-3 z o (either (is_nan_word f x) (is_nan_word f y) e);
      rule-4 = at-infinity ix (negative f y);
      rule-5-one = λ h. silent x (le-ltb (infinity f) ix h);
      rule-5-minus-one = λ h. silent (over w.format x) (over-number w.format x (le-ltb (infinity f) ix h));
      rule-5-two = λ h. silent (square w.format x) (square-number w.format x (le-ltb (infinity f) ix h));
      rule-5-half = λ h n. silent (root_word f x) (plus-number f (root_word f x) (root-most f fine small x (positive n h)));
      rule-6 = λ l e. at_edge_lem l;
      rule-7 = λ l e n k t. rule-7 n (off-edge f ix e).0 (finite-base f x y l e) (off-edge f ix e).2 l.finite k;
      open-plus = λ l e n. at_open l e false;
      open-minus = λ l e n k. at_open l e (odd f iy);
    })
      where
        either : (a b : Bool) → a || b ≡ true → (a ≡ true) ⊎ (b ≡ true)
        either true b e = inl refl
        either false b e = inr e

  nan-exactly : NanExactly w
  nan-exactly = record { there = there; nowhere-else = nowhere-else }

-- ---- at each width

pub open-chain-no-nan-32 : OpenNumbers single
open-chain-no-nan-32 = numbers single known32

pub open-chain-no-nan-64 : OpenNumbers double
open-chain-no-nan-64 = numbers double known64

pub power-nan-exactly-32 : NanExactly single
power-nan-exactly-32 = nan-exactly single (omega arith) (omega arith) open-chain-no-nan-32

pub power-nan-exactly-64 : NanExactly double
power-nan-exactly-64 = nan-exactly double (omega arith) (omega arith) open-chain-no-nan-64
