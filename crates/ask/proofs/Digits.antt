-- A number on its way: the digits that are read give a value, and the rest of the text follows it. Assumes nothing.
use Prim.Native.Nat.{ℕ, ◌+◌, ◌*◌, ◌^◌, ◌≤◌, ◌<◌}
use mathlib.Core.Path.{◌≡◌, refl, sym, ◌∙◌}
use mathlib.Core.Bool.{Bool, true, false, cond}
use mathlib.Core.List.{List}
use native.Mathlib.Omega.{arith}
use native.Mathlib.Numerals.{add-one}
use native.Mathlib.Nat.{mul-le-mul_left}
use lib.Dec.{ltb}
use lib.ListN.{length, drop, get_or, drop_of_length-le}
use lib.Seq.{drop-cons}
use lib.Pow.{pow_mono, pow-add}
use mir.Syntax.{w64}
use mir.Val.{Fits}
use borrow.Author.Tests.{ltb-true, le-leb, ne_eqb}
use Rattle.std.specs.Prelude.{Option, Some, None}
use Rattle.ask.specs.Text.{digit_of, read_digit, read_from, read_number}

pub record Reading (base : ℕ) (s : List ℕ) (value i : ℕ) : Type 0 where
  pub rest : read_number base s ≡ read_from base value (drop i s)
  pub small : value < 2 ^ (4 * i)
  pub few : length s ≤ 16

pub start : {base : ℕ} {s : List ℕ} → (length s ≡ 0 → ⊥) → length s ≤ 16 → Reading base s 0 0
start h k = record { rest = rw (ne_eqb _ _ h, le-leb _ _ k); small = omega arith; few = k }

-- a digit that is read, and none
read : (base x : ℕ) {d : ℕ} → read_digit base x ≡ Some d → (ltb (digit_of x) base ≡ true) × (digit_of x ≡ d)
read base x {d} e = go (ltb (digit_of x) base) e
  where
    go : (b : Bool) → cond b (Some (digit_of x)) None ≡ Some d → (b ≡ true) × (digit_of x ≡ d)
    go true e = (refl, cc)
    go false e = cc

unread : (base x : ℕ) → read_digit base x ≡ None → ltb (digit_of x) base ≡ false
unread base x e = go (ltb (digit_of x) base) e
  where
    go : (b : Bool) → cond b (Some (digit_of x)) None ≡ None → b ≡ false
    go true e = cc
    go false e = refl

below : (base x : ℕ) {d : ℕ} → read_digit base x ≡ Some d → d < base
below base x e = let r = read base x e in rw (← r.1) (ltb-true _ _ r.0)

-- a digit of the base
pub more : {base : ℕ} {s : List ℕ} {value i d : ℕ} {o : Option ℕ} → Reading base s value i → i < length s → base ≤ 16 → o ≡ read_digit base (get_or s i 0) → o ≡ Some d
    → Reading base s (value * base + d) (i + 1)
more {base} {s} {value} {i} {d} r h b o e =
    let k = read base (get_or s i 0) (sym o ∙ e) in
    record {
      rest = r.rest ∙ rw (drop-cons s i 0 h, k.0, k.1, add-one);
      small = rw (four i) (grow value base d (2 ^ (4 * i)) r.small b (below base (get_or s i 0) (sym o ∙ e)));
      few = r.few;
    }
  where
    four : (i : ℕ) → 2 ^ (4 * (i + 1)) ≡ 2 ^ (4 * i) * 16
    four i = let e : 4 * (i + 1) ≡ 4 * i + 4 = omega arith in rw e (pow-add 2 (4 * i) 4)

    grow : (v b d q : ℕ) → v < q → b ≤ 16 → d < b → v * b + d < q * 16
    grow v b d q h k l = omega (arith, mul-le-mul_left v k)

-- any other character
pub bad : {base : ℕ} {s : List ℕ} {value i : ℕ} → Reading base s value i → i < length s → read_digit base (get_or s i 0) ≡ None → read_number base s ≡ None
bad {base} {s} {value} {i} r h e = r.rest ∙ rw (drop-cons s i 0 h, unread base _ e)

-- the end of the text
pub end : {base : ℕ} {s : List ℕ} {value i : ℕ} → Reading base s value i → length s ≤ i → read_number base s ≡ Some value
end {base} {s} {value} {i} r h = r.rest ∙ rw (drop_of_length-le s h)

-- the value fits u64, with one digit more
pub room : {base : ℕ} {s : List ℕ} {value i d : ℕ} {o : Option ℕ} → Reading base s value i → i < length s → base ≤ 16 → o ≡ read_digit base (get_or s i 0) → o ≡ Some d
    → Fits w64 (value * base + d)
room {base} {s} {value} {i} {d} r h b o e =
    let p : 2 ^ (4 * i) ≤ 2 ^ 60 = pow_mono {i = 4 * i} {j = 60} (omega (arith, r.few)) in
    record { fits = fits value base d (2 ^ (4 * i)) r.small p b (below base (get_or s i 0) (sym o ∙ e)) }
  where
    fits : (v b d q : ℕ) → v < q → q ≤ 1152921504606846976 → b ≤ 16 → d < b → v * b + d < 18446744073709551616
    fits v b d q h k l m = omega (arith, mul-le-mul_left v l)
