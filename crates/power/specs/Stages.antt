-- The stages in which a block of pairs walks the open chain: the chain cut between its steps, one text for both widths. Which pairs walk so. Definitions only.
use Rattle.std.specs.Prelude.{ℕ, ◌+◌, ◌-◌, ◌*◌, ◌/◌, ◌%◌, ◌^◌, ◌<◌, ◌≤◌, ◌≡◌, Bool, not, ◌&&◌, cond, List, leb, ltb, eqb, length, Float}
use Rattle.std.specs.Float.Ieee.{add, sub, to_bits, of_bits, hid, top}
use Rattle.words.specs.Format.{ours, one, infinity, magnitude}
use Rattle.power.specs.Width.{Width, Two, Three}
use Rattle.power.specs.Places.{BP, DP-H, DP-L}
use Rattle.power.specs.Chain.{con, reduced_of, head_of, quotient_of, log2_of, product_of, nearest_of, whole, exponential_of}
use Rattle.power.specs.NoNan.{Number}

module _ (w : Width) where
  -- A pair is clear where x is positive, normal, finite and not 1, and y is not huge and no power of two: it has digits below its leading one.
  unfoldable pub clear : ℕ → ℕ → Bool
  clear x y =
      ((leb (hid w.format) x && ltb x (infinity (ours w.format))) && not (eqb x (one (ours w.format))))
      && (leb (magnitude (ours w.format) y / 2 ^ w.below) w.huge && ltb 0 (y % hid w.format))

  -- what is walked with in the place of a word: the word itself, or that of 1.5 where the pair is not clear
  abbrev pub walked_with : Bool → ℕ → ℕ
  walked_with b x = cond b x (one (ours w.format) + hid w.format / 2)

  -- s and its parts, of the word x
  unfoldable pub ratio_of : ℕ → Three
  ratio_of x =
      let r = reduced_of w x in
      quotient_of w (of_bits w.format r.word) (con w (BP + r.k)) (head_of w r.word r.k)

  -- p_h + p_l = y * log2(ax), from the logarithm p of z, the interval k and n as a float
  unfoldable pub times_of : Float → Two → ℕ → Float → Two
  times_of y p k t = product_of w y (log2_of w p (con w (DP-H + k)) (con w (DP-L + k)) t)

  -- z's high word, and whether it is more than that of 0.5 in size
  abbrev high : Float → ℕ
  high z = to_bits w.format z / 2 ^ w.below

  abbrev pub past_half : Float → Bool
  past_half z = ltb ((one (ours w.format) - hid w.format) / 2 ^ w.below) (high z % (top w.format / 2 ^ w.below))

  -- h less the whole number n nearest to z, and n as `raised_of` takes it; n is 0 where z is not past 0.5 in size
  unfoldable pub rest_of : Float → Float → Float
  rest_of h z = cond (past_half z) (sub w.format h (nearest_of w (high z)).float) h

  unfoldable pub lift_of : Float → ℕ
  lift_of z =
      cond (past_half z)
      (cond (leb (top w.format / 2 ^ w.below) (high z)) (whole w - (nearest_of w (high z)).size) (whole w + (nearest_of w (high z)).size))
      (whole w)

  -- ---- the flag of a pair, 0 or 1. As long as it is 0, what stands beside it is the chain's

  -- after the exponential's start, of p and its flag: z is below `large` in size, hi is what is left of p_h, and e is n
  pub record Stepped (p : Two) (flag : ℕ) (hi : Float) (e flag' : ℕ) : Type 0 where
    pub bit : flag' < 2
    pub number : Number (add w.format p.lo hi)
    pub clean : flag' ≡ 0 → (flag ≡ 0) × (to_bits w.format (add w.format p.lo p.hi) % top w.format < w.large)
        × (hi ≡ rest_of p.hi (add w.format p.lo p.hi)) × (e ≡ lift_of (add w.format p.lo p.hi))

  -- at the end, of z and w and the flag: the word is the exponential's with n added to its field, and a normal number's
  pub record Ended (q : Two) (e flag word flag' : ℕ) : Type 0 where
    pub bit : flag' < 2
    pub clean : flag' ≡ 0 → (flag ≡ 0) × (word ≡ (to_bits w.format (exponential_of w q) + e * hid w.format) % (2 * top w.format))
        × (hid w.format ≤ word) × (word < infinity (ours w.format))

-- ---- a block: arrays of 64

abbrev pub Full : {A : Type 0} → List A → Type 0
Full l = length l ≡ 64

abbrev pub Each : (ℕ → Type 0) → Type 0
Each P = (j : ℕ) → j < 64 → P j
