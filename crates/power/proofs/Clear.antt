-- Clear pairs: what the test says of one; that it is plain and walks the chain to its end; and that what a block walks with is clear. Over the width. Assumes nothing.
use Prim.Native.Nat.{ℕ, suc, ◌+◌, ◌*◌, ◌/◌, ◌%◌, ◌^◌, ◌<◌, ◌≤◌}
use mathlib.Core.Path.{◌≡◌, refl, sym, ap, ◌∙◌}
use mathlib.Core.Bool.{Bool, true, false, not, ◌&&◌, cond}
use mathlib.Core.Logic.{inl}
use native.Mathlib.Nat.{lt_trans, lt_of_lt_of_le, mod-eq_of_lt, div-lt_iff_lt-mul, le-div_iff_mul-le, suc-le-suc_iff}
use native.Mathlib.Omega.{arith}
use lib.Dec.{leb, ltb, eqb}
use lib.Pow.{pow_pos}
use lib.Ieee.{Format, binary32, binary64, to_bits, of_bits, hid}
use borrow.Author.Tests.{le-ltb, lt-ltb, ne_eqb, leb-true, leb-false, ltb-true, eqb-false}
use Rattle.words.specs.Format as Ours
use Rattle.words.specs.Format.{infinity, top, one, magnitude, ours}
use Rattle.words.proofs.Words.{infinity-below}
use Rattle.power.specs.Width.{Width, Two}
use Rattle.power.specs.Sorting.{two_word, half_word}
use Rattle.power.specs.Plain.{plain}
use Rattle.power.specs.NoNan.{OpenPair, Reaches}
use Rattle.power.specs.Chain.{product_of, far_of, log_of, sign_of, finish_of, open_of}
use Rattle.power.specs.Power.{pow_of, single, double}
use Rattle.power.specs.Stages.{clear, walked_with}
use Rattle.power.proofs.Words.{both}
use Rattle.power.proofs.Unsettled.{off, plain_open}

-- a flag counts one at most
pub flag-most : {n : ℕ} (b : Bool) → n ≡ cond b 0 1 → n ≤ 1
flag-most true e = omega arith
flag-most false e = omega arith

-- a word below l + 1 times 2 ^ b, by what stands above its b lowest digits
pub high-below : (m b l : ℕ) → ltb m (suc l * 2 ^ b) ≡ leb (m / 2 ^ b) l
high-below m b l = go (leb (m / 2 ^ b) l) (leb-true (m / 2 ^ b) l) (leb-false (m / 2 ^ b) l)
  where
    go : (t : Bool) → (t ≡ true → m / 2 ^ b ≤ l) → (t ≡ false → l < m / 2 ^ b) → ltb m (suc l * 2 ^ b) ≡ t
    go true y n = lt-ltb m (suc l * 2 ^ b) ((div-lt_iff_lt-mul (pow_pos b)).0 (suc-le-suc_iff.1 (y refl)))
    go false y n = le-ltb m (suc l * 2 ^ b) ((le-div_iff_mul-le (pow_pos b)).0 (n refl))

-- the words that a rule names have no digits below the leading one
no-digits : (f : Format) → (one (ours f) % hid f ≡ 0) × ((top (ours f) + one (ours f)) % hid f ≡ 0) × (two_word (ours f) % hid f ≡ 0) × (half_word (ours f) % hid f ≡ 0)
no-digits binary32 = (refl, refl, refl, refl)
no-digits binary64 = (refl, refl, refl, refl)

hid-some : (f : Format) → 0 < hid f
hid-some binary32 = omega arith
hid-some binary64 = omega arith

module _ (w : Width) where
  abbrev g : Ours.Format
  g = ours w.format

  pub record Clear (x y : ℕ) : Type 0 where
    pub normal : hid w.format ≤ x
    pub positive : x < infinity g
    pub other : x ≡ one g → ⊥
    pub small : magnitude g y / 2 ^ w.below ≤ w.huge
    pub digits : 0 < y % hid w.format

  pub clear-is : (x y : ℕ) → clear w x y ≡ true → Clear x y
  unfolding clear
  clear-is x y e =
      let a = leb (hid w.format) x in
      let b = ltb x (infinity g) in
      let c = not (eqb x (one g)) in
      let d = leb (magnitude g y / 2 ^ w.below) w.huge in
      let k = ltb 0 (y % hid w.format) in
      let (p, q) = both ((a && b) && c) (d && k) e in
      let (r, s) = both (a && b) c p in
      let (t, u) = both a b r in
      let (m, n) = both d k q in
      record {
        normal = leb-true _ _ t;
        positive = ltb-true _ _ u;
        other = eqb-false _ _ (off (eqb x (one g)) s);
        small = leb-true _ _ m;
        digits = ltb-true _ _ n;
      }

  -- what a width's numbers must be: 1.5 to the 1.5 is clear, and a y that is not huge is finite
  pub record Room : Type 0 where
    pub filling : clear w (one g + hid w.format / 2) (one g + hid w.format / 2) ≡ true
    pub finite : suc w.huge * 2 ^ w.below ≤ infinity g

  -- what is walked with is clear
  pub walked-clear : Room → (x y : ℕ) {u v : ℕ} → u ≡ walked_with w (clear w x y) x → v ≡ walked_with w (clear w x y) y → clear w u v ≡ true
  walked-clear r x y {u} {v} a b = (λ n. clear w (a n) (b n)) ∙ go (clear w x y) refl
    where
      go : (c : Bool) → clear w x y ≡ c → clear w (walked_with w c x) (walked_with w c y) ≡ true
      go true e = e
      go false e = r.filling

  -- and it is the pair itself where the flag is 0
  pub walked-power : (x y : ℕ) {flag u v r : ℕ} → flag ≡ cond (clear w x y) 0 1 → u ≡ walked_with w (clear w x y) x → v ≡ walked_with w (clear w x y) y → flag ≡ 0
      → r ≡ pow_of w u v → r ≡ pow_of w x y
  walked-power x y {flag} {u} {v} {r} f a b z e = go (clear w x y) f a b
    where
      set : ◌≡◌ {A = ℕ} flag 1 → ⊥
      set i = omega (arith, z, i)

      go : (c : Bool) → flag ≡ cond c 0 1 → u ≡ walked_with w c x → v ≡ walked_with w c y → r ≡ pow_of w x y
      go true f a b = e ∙ (λ n. pow_of w (a n) (b n))
      go false f a b = absurd (set f)

  module _ (r : Room) {x y : ℕ} (c : Clear x y) where
    x-size : magnitude g x ≡ x
    x-size = mod-eq_of_lt (lt_trans c.positive (infinity-below g))

    pub y-finite : magnitude g y < infinity g
    y-finite = lt_of_lt_of_le ((div-lt_iff_lt-mul (pow_pos w.below)).0 (suc-le-suc_iff.1 c.small)) r.finite

    pub not-huge : ltb w.huge (magnitude g y / 2 ^ w.below) ≡ false
    not-huge = le-ltb w.huge _ c.small

    -- y is no word without digits
    off-y : (v : ℕ) → v % hid w.format ≡ 0 → y ≡ v → ⊥
    off-y v e q = some (y % hid w.format) c.digits (ap (λ (m : ℕ). m % hid w.format) q ∙ e)
      where
        some : (n : ℕ) → 0 < n → n ≡ 0 → ⊥
        some n h e = omega arith

    clear-plain : plain g x y ≡ true
    clear-plain =
        let n = no-digits w.format in
        rw (
          lt-ltb 0 x (lt_of_lt_of_le (hid-some w.format) c.normal),
          lt-ltb x (infinity g) c.positive,
          ne_eqb x (one g) c.other,
          lt-ltb 0 (magnitude g y) y-some,
          lt-ltb (magnitude g y) (infinity g) y-finite,
          ne_eqb y (one g) (off-y (one g) n.0),
          ne_eqb y (top g + one g) (off-y (top g + one g) n.1),
          ne_eqb y (two_word g) (off-y (two_word g) n.2),
          ne_eqb y (half_word g) (off-y (half_word g) n.3),
        ) refl
      where
        y-some : 0 < magnitude g y
        y-some = go w.format y c.digits
          where
            go : (f : Format) (y : ℕ) → 0 < y % hid f → 0 < magnitude (ours f) y
            go binary32 y h = omega arith
            go binary64 y h = omega arith

    pub clear-open : OpenPair g x y
    clear-open = record { base = rw x-size c.positive; not-one = λ e. c.other (sym x-size ∙ e); exponent = y-finite }

    pub clear-reaches : Reaches w (magnitude g x / 2 ^ w.below) (magnitude g y / 2 ^ w.below)
    clear-reaches = inl not-huge

    pub clear-log : log_of w (magnitude g x) (magnitude g y / 2 ^ w.below) ≡ far_of w x
    unfolding log_of
    clear-log = rw (not-huge, x-size) refl

    -- its power is the chain's end
    opened : to_bits w.format (finish_of w (product_of w (of_bits w.format y) (far_of w x)) (sign_of w false)) ≡ open_of w x y false
    unfolding open_of
    opened = rw not-huge (ap (λ (t : Two). to_bits w.format (finish_of w (product_of w (of_bits w.format y) t) (sign_of w false))) (sym clear-log))

    pub clear-power : to_bits w.format (finish_of w (product_of w (of_bits w.format y) (far_of w x)) (sign_of w false)) ≡ pow_of w x y
    unfolding pow_of
    clear-power = opened ∙ sym (plain_open (λ r. r) (open_of w x y) w.format x y clear-plain)

pub room32 : Room single
unfolding clear
room32 = record { filling = refl; finite = omega arith }

pub room64 : Room double
unfolding clear
room64 = record { filling = refl; finite = omega arith }
