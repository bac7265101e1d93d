-- The open power: the Rust's float operations in their order, one rounding each, none fused. Definitions only, one text for both widths.
-- The names are the Rust's, with - for _. x ⊕ y, x ⊖ y, x ⊗ y and x ⊘ y are IEEE 754's four operations in the width's format.
use Rattle.std.specs.Prelude.{ℕ, ◌+◌, ◌-◌, ◌*◌, ◌/◌, ◌%◌, ◌^◌, Bool, ◌&&◌, ◌||◌, cond, leb, ltb, eqb, get_or, Float}
use Rattle.std.proofs.Math.IntN.{sub_ℕ}
use Rattle.std.specs.Float.Ieee.{add, sub, mul, div, lt, le, to_bits, of_bits, of_int, hid, top, emax, prec}
use Rattle.words.specs.Format.{ours, one, signed, magnitude, negative}
use Rattle.scale.specs.Scale.{power}
use Rattle.power.specs.Width.{Width, Two, Three, Reduction, Nearest}
use Rattle.power.specs.Places.{BP, DP-H, DP-L, TWO, HUGE, TINY, L1, L2, L3, L4, L5, L6, P1, P2, P3, P4, P5, LG2, LG2-H, LG2-L, OVT, CP, CP-H, CP-L, IVLN2, IVLN2-H, IVLN2-L, THIRD}

module _ (w : Width) where
  infixl 20 ◌⊕◌ ◌⊖◌
  infixl 30 ◌⊗◌ ◌⊘◌
  abbrev pub ◌⊕◌ : Float → Float → Float
  x ⊕ y = add w.format x y

  abbrev pub ◌⊖◌ : Float → Float → Float
  x ⊖ y = sub w.format x y

  abbrev pub ◌⊗◌ : Float → Float → Float
  x ⊗ y = mul w.format x y

  abbrev pub ◌⊘◌ : Float → Float → Float
  x ⊘ y = div w.format x y

  -- a word's float; the constant at a place of the table; 1, 2, 3, 0.5 and 0.25
  abbrev pub at : ℕ → Float
  at x = of_bits w.format x

  unfoldable pub con : ℕ → Float
  con i = at (get_or w.table i 0)

  abbrev pub #1 : Float
  #1 = at (one (ours w.format))

  abbrev pub #2 : Float
  #2 = at (one (ours w.format) + hid w.format)

  abbrev pub #3 : Float
  #3 = at (one (ours w.format) + hid w.format + hid w.format / 2)

  abbrev pub #half : Float
  #half = at (one (ours w.format) - hid w.format)

  abbrev pub #quarter : Float
  #quarter = at (one (ours w.format) - 2 * hid w.format)

  -- x without the d lowest digits of its word
  unfoldable pub chop : ℕ → Float → Float
  chop d x = at (to_bits w.format x / 2 ^ d * 2 ^ d)

  -- u + v in two parts, the first a leading part
  unfoldable pub split_of : Float → Float → Two
  split_of u v = let h = chop w.short (u ⊕ v) in record { hi = h; lo = v ⊖ (h ⊖ u) }

  -- ---- log2(ax) = t1 + t2, where |y| is not huge

  -- determine interval: k, n and the normalized ix
  unfoldable pub interval_of : ℕ → ℕ → Reduction
  interval_of ix e =
      let j = ix % hid w.format in
      let n = e + ix / hid w.format in
      cond (ltb j w.first) (record { word = one (ours w.format) + j; k = 0; e = n })
      (cond (ltb j w.second) (record { word = one (ours w.format) + j; k = 1; e = n })
      (record { word = one (ours w.format) + j - hid w.format; k = 0; e = n + 1 }))

  -- take care of subnormal numbers: they are multiplied by TWO first
  unfoldable pub reduced_of : ℕ → Reduction
  reduced_of ix =
      cond (ltb ix (hid w.format)) (interval_of (to_bits w.format (at ix ⊗ con TWO)) 0)
      (interval_of ix (prec w.format))

  -- t_h = ax + bp[k] High
  unfoldable pub head_of : ℕ → ℕ → Float
  head_of ix k =
      at (ix / 2 / 2 ^ w.short * 2 ^ w.short + top w.format / 4 + hid w.format / 2 + k * (hid w.format / 4))

  -- compute s = s_h + s_l = (x - 1) / (x + 1) or (x - 1.5) / (x + 1.5)
  unfoldable pub quotient_of : Float → Float → Float → Three
  quotient_of ax bp t-h =
      let u = ax ⊖ bp in
      let v = #1 ⊘ (ax ⊕ bp) in
      let s = u ⊗ v in
      let s-h = chop w.short s in
      let t-l = ax ⊖ (t-h ⊖ bp) in
      let s-l = v ⊗ ((u ⊖ s-h ⊗ t-h) ⊖ s-h ⊗ t-l) in
      record { s = s; hi = s-h; lo = s-l }

  -- compute log(ax): r
  unfoldable pub series_of : Three → Float
  series_of q =
      let s2 = q.s ⊗ q.s in
      s2 ⊗ s2 ⊗ (con L1 ⊕ s2 ⊗ (con L2 ⊕ s2 ⊗ (con L3 ⊕ s2 ⊗ (con L4 ⊕ s2 ⊗ (con L5 ⊕ s2 ⊗ con L6))))) ⊕ q.lo ⊗ (q.hi ⊕ q.s)

  -- p_h + p_l = u + v = s * (1 + ...)
  unfoldable pub logarithm_of : Three → Float → Two
  logarithm_of q r =
      let s2 = q.hi ⊗ q.hi in
      let t-h = chop w.short (#3 ⊕ s2 ⊕ r) in
      let t-l = r ⊖ ((t-h ⊖ #3) ⊖ s2) in
      split_of (q.hi ⊗ t-h) (q.lo ⊗ t-h ⊕ t-l ⊗ q.s)

  -- z_h + z_l + dp_h + t in two parts, the first a leading part
  unfoldable pub sum_of : Float → Float → Float → Float → Two
  sum_of z-h z-l dp-h t =
      let t1 = chop w.short ((z-h ⊕ z-l) ⊕ dp-h ⊕ t) in
      record { hi = t1; lo = z-l ⊖ (((t1 ⊖ t) ⊖ dp-h) ⊖ z-h) }

  -- t1 + t2 = log2(ax) = (s + ..) * 2 / (3 * log2) = n + dp_h + z_h + z_l
  unfoldable pub log2_of : Two → Float → Float → Float → Two
  log2_of p dp-h dp-l t =
      let z-h = con CP-H ⊗ p.hi in
      let z-l = con CP-L ⊗ p.hi ⊕ p.lo ⊗ con CP ⊕ dp-l in
      sum_of z-h z-l dp-h t

  -- t = n as a float
  unfoldable pub exponent_of : ℕ → Float
  exponent_of e = of_int w.format (sub_ℕ e (prec w.format + emax w.format))

  unfoldable pub far_at : Reduction → Two
  far_at r =
      let q = quotient_of (at r.word) (con (BP + r.k)) (head_of r.word r.k) in
      log2_of (logarithm_of q (series_of q)) (con (DP-H + r.k)) (con (DP-L + r.k)) (exponent_of r.e)

  unfoldable pub far_of : ℕ → Two
  far_of ix = far_at (reduced_of ix)

  -- ---- the same where |y| is huge and |1 - x| is tiny: log(x) by x - x ^ 2 / 2 + x ^ 3 / 3 - x ^ 4 / 4
  unfoldable pub near_of : ℕ → Two
  near_of ix =
      let t = at ix ⊖ #1 in
      let c = (t ⊗ t) ⊗ (#half ⊖ t ⊗ (con THIRD ⊖ t ⊗ #quarter)) in
      split_of (con IVLN2-H ⊗ t) (t ⊗ con IVLN2-L ⊖ c ⊗ con IVLN2)

  -- t1 and t2, by whether |y| is huge
  unfoldable pub log_of : ℕ → ℕ → Two
  log_of ix iy = cond (ltb w.huge iy) (near_of ix) (far_of ix)

  -- ---- split up y into y1 + y2 and compute p_h + p_l = (y1 + y2) * (t1 + t2)
  unfoldable pub product_of : Float → Two → Two
  product_of y t =
      let y1 = chop w.short y in
      record { hi = y1 ⊗ t.hi; lo = (y ⊖ y1) ⊗ t.hi ⊕ y ⊗ t.lo }

  -- overflow, underflow, or neither, by z = p_l + p_h and, at the limit, by what z has lost
  unfoldable pub fate_of : {R : Type 0} → R → R → R → Two → R
  fate_of over under within p =
      let z = p.lo ⊕ p.hi in
      let j = to_bits w.format z in
      cond (ltb j (top w.format))
      (cond (ltb w.large j || (eqb j w.large && lt (z ⊖ p.hi) (p.lo ⊕ con OVT))) over within)
      (cond (ltb (top w.format + w.small) j || (eqb j (top w.format + w.small) && le p.lo (z ⊖ p.hi))) under within)

  -- ---- compute 2 ** (p_h + p_l)

  -- n = [z + 0.5] and t, from the high word of a z with |z| > 0.5
  unfoldable pub nearest_of : ℕ → Nearest
  nearest_of j =
      let h = hid w.format / 2 ^ w.below in
      let s = top w.format / 2 ^ w.below in
      let n = j + h / 2 ^ (j % s / h - (emax w.format - 1)) in
      let d = prec w.format - 1 - w.below - (n % s / h - emax w.format) in
      record { size = (h + n % h) / 2 ^ d; float = at (n / 2 ^ d * 2 ^ d * 2 ^ w.below) }

  -- z and w, the number (p_h + p_l) * log 2 in two parts
  unfoldable pub parts_of : Two → Two
  parts_of p =
      let t = chop w.shorter (p.lo ⊕ p.hi) in
      let u = t ⊗ con LG2-H in
      let v = (p.lo ⊖ (t ⊖ p.hi)) ⊗ con LG2 ⊕ t ⊗ con LG2-L in
      let z = u ⊕ v in
      record { hi = z; lo = v ⊖ (z ⊖ u) }

  -- 1 - (r - z), with z and w in `hi` and `lo`
  unfoldable pub exponential_of : Two → Float
  exponential_of q =
      let z = q.hi in
      let t = z ⊗ z in
      let t1 = z ⊖ t ⊗ (con P1 ⊕ t ⊗ (con P2 ⊕ t ⊗ (con P3 ⊕ t ⊗ (con P4 ⊕ t ⊗ con P5)))) in
      let r = (z ⊗ t1) ⊘ (t1 ⊖ #2) ⊖ (q.lo ⊕ z ⊗ q.lo) in
      #1 ⊖ (r ⊖ z)

  -- j += n << 23 or 20, and a subnormal output is scaled. n is e less `whole`, 512 or 4096: shifted, that is a whole turn of j
  abbrev pub whole : ℕ
  whole = 4 * (emax w.format + 1)

  unfoldable pub raised_of : Float → ℕ → Float
  raised_of z e =
      let h = hid w.format / 2 ^ w.below in
      let s = top w.format / 2 ^ w.below in
      let x = to_bits w.format z in
      let j = (x / 2 ^ w.below + e * h) % (2 * s) in
      cond (leb s j || ltb j h) (z ⊗ power (sub_ℕ e whole)) (at (j * 2 ^ w.below + x % 2 ^ w.below))

  unfoldable pub exp2_of : Two → Float
  exp2_of p =
      let s = top w.format / 2 ^ w.below in
      let j = to_bits w.format (p.lo ⊕ p.hi) / 2 ^ w.below in
      let n = nearest_of j in
      cond (ltb ((one (ours w.format) - hid w.format) / 2 ^ w.below) (j % s))
      (raised_of (exponential_of (parts_of (record { hi = p.hi ⊖ n.float; lo = p.lo }))) (cond (leb s j) (whole - n.size) (whole + n.size)))
      (raised_of (exponential_of (parts_of p)) whole)

  -- ---- the whole, with the result's sign sn

  unfoldable pub over_of : Float → Float
  over_of sn = sn ⊗ con HUGE ⊗ con HUGE

  unfoldable pub under_of : Float → Float
  under_of sn = sn ⊗ con TINY ⊗ con TINY

  unfoldable pub finish_of : Two → Float → Float
  finish_of p sn = fate_of (over_of sn) (under_of sn) (sn ⊗ exp2_of p) p

  unfoldable pub sign_of : Bool → Float
  sign_of s = at (signed (ours w.format) s (one (ours w.format)))

  -- above `must` every x over- or underflows; the result is positive there, and the Rust leaves its sign out
  unfoldable pub huge_of : ℕ → Bool → Float
  huge_of ix down =
      cond (ltb ix (one (ours w.format) / 2 ^ w.below)) (cond down (over_of #1) (under_of #1)) (cond down (under_of #1) (over_of #1))

  -- Above `huge` x decides by itself, but for an x near 1.
  unfoldable pub open_of : ℕ → ℕ → Bool → ℕ
  open_of x y s =
      let sn = sign_of s in
      let m = magnitude (ours w.format) x in
      let ix = m / 2 ^ w.below in
      let iy = magnitude (ours w.format) y / 2 ^ w.below in
      let down = negative (ours w.format) y in
      let end = finish_of (product_of (at y) (log_of m iy)) sn in
      to_bits w.format
      (cond (ltb w.huge iy)
      (cond (ltb w.must iy) (huge_of ix down)
      (cond (ltb ix w.less) (cond down (over_of sn) (under_of sn)) (cond (ltb w.more ix) (cond down (under_of sn) (over_of sn)) end)))
      end)
