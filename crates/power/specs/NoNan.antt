-- What the code of the open chain asks of its numbers, so that it need not test them: none is a NaN. The claim that no NaN arises is said in the same words. Definitions only.
use Rattle.std.specs.Prelude.{ℕ, ◌-◌, ◌/◌, ◌%◌, ◌^◌, ◌<◌, ◌≡◌, Bool, false, cond, ◌⊎◌, T, ltb, Float}
use Rattle.std.specs.Float.Ieee.{is_nan, add, sub, to_bits, hid, top}
use Rattle.std.specs.Float.Ieee.Scale.{finite}
use Rattle.words.specs.Format.{Format, infinity, one, magnitude, ours}
use Rattle.power.specs.Width.{Width, Two}
use Rattle.power.specs.Chain.{product_of, fate_of, nearest_of, parts_of, exponential_of, exp2_of, sign_of, finish_of}
use Rattle.power.specs.declared.answer.Fate.TheVariants.{Over, Under, Within}

-- a float that is no NaN
abbrev pub Number : Float → Type 0
Number x = is_nan x ≡ false

-- a float that is a number and no infinity
abbrev pub Finite : Float → Type 0
Finite x = T (finite x)

-- what the sorting leaves to the chain, as far as the chain's numbers depend on it: x and y are finite, and |x| is not 1
pub record OpenPair (f : Format) (x y : ℕ) : Type 0 where
  pub base : magnitude f x < infinity f
  pub not-one : ¬ (magnitude f x ≡ one f)
  pub exponent : magnitude f y < infinity f

-- p_h + p_l less the whole number nearest to it, where it is more than 0.5 in size: what the exponential is taken of
unfoldable pub fraction_of : Width → Two → Two
fraction_of w p =
    let j = to_bits w.format (add w.format p.lo p.hi) / 2 ^ w.below in
    cond (ltb ((one (ours w.format) - hid w.format) / 2 ^ w.below) (j % (top w.format / 2 ^ w.below)))
    (record { hi = sub w.format p.hi (nearest_of w j).float; lo = p.lo }) p

-- the exponential and 2 ** (p_h + p_l), which `exp2` finds, are numbers
pub record Raisable (w : Width) (p : Two) : Type 0 where
  pub exponential : Number (exponential_of w (parts_of w (fraction_of w p)))
  pub answer : Number (exp2_of w p)

-- what the chain's end asks of p: z is a number, and within the limits `exp2` may be called
pub record Finishable (w : Width) (p : Two) : Type 0 where
  pub sum : Number (add w.format p.lo p.hi)
  pub raisable : fate_of w Over Under Within p ≡ Within → Raisable w p

-- the high words ix and iy of |x| and |y| lead to the chain's end: |y| is not huge, or x is near 1 and |y| not past `must`
abbrev pub Reaches : Width → ℕ → ℕ → Type 0
Reaches w ix iy = (ltb w.huge iy ≡ false) ⊎ ((ltb w.must iy ≡ false) × (ltb ix w.less ≡ false) × (ltb w.more ix ≡ false))

-- the numbers on the way from y and the logarithm t to the answer
pub record Walked (w : Width) (y : Float) (t : Two) (s : Bool) : Type 0 where
  pub exponent : Number y
  pub logarithm : Number t.hi × Number t.lo
  pub product : Number (product_of w y t).hi × Number (product_of w y t).lo
  pub finish : Finishable w (product_of w y t)
  pub answer : Number (finish_of w (product_of w y t) (sign_of w s))
