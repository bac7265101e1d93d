-- The bounds of the chain's constants in 2 ^ -30, one list for each part of the chain: each list holds by one test, which the two widths compute (Widths.antt).
use mathlib.Core.Path.{◌≡◌}
use mathlib.Core.List.{List, [], ◌∷◌}
use mathlib.Core.Bool.{Bool, true, false, ◌&&◌}
use Prim.Native.Nat.{ℕ, zero, suc, ◌+◌, ◌-◌, ◌*◌, ◌/◌, ◌^◌}
use lib.Dec.{T, leb}
use lib.IntN.{pos}
use lib.Ieee.{Float, fin, Format, binary32, binary64, hid, of_bits, fits}
use lib.Ieee.Scale.{finite}
use Rattle.bounds.proofs.Signed.{mag, plus, minus}
use Rattle.bounds.proofs.Within.{U, Within, literal}
use Rattle.bounds.proofs.Exp.{Consts}
use Rattle.bounds.proofs.Log.{LogConsts}
use Rattle.bounds.proofs.Close.{CloseConsts}
use Rattle.bounds.proofs.Least.{Least}
use Rattle.bounds.proofs.Formats.{one}
use Rattle.power.specs.Width.{Width}
use Rattle.power.specs.Chain.{con}
use Rattle.power.specs.Places.{L1, L2, L3, L4, L5, L6, P1, P2, P3, P4, P5, LG2, LG2-H, LG2-L, CP, CP-H, CP-L, IVLN2, IVLN2-H, IVLN2-L, THIRD}

-- ---- a list of floats and their bounds
pub record Bound : Type 0 where
  pub most : ℕ
  pub float : Float

unfoldable pub tested : Format → List Bound → Bool
tested f [] = true
tested f (b ∷ l) = finite b.float && (fits f b.float && (leb (2 ^ 30 * mag f b.float) (b.most * U f) && tested f l))

-- the bound at a place of the list; past its end 0 is 0 at most
unfoldable pick : List Bound → ℕ → Bound
pick [] i = record { most = 0; float = fin false 0 (pos 0) }
pick (b ∷ l) zero = b
pick (b ∷ l) (suc i) = pick l i

zero_in : (f : Format) → Within f (U f) 0 (fin false 0 (pos 0))
unfolding fits mag
zero_in binary32 = literal 0 tt tt tt
zero_in binary64 = literal 0 tt tt tt

both : (a b : Bool) → T (a && b) → T a × T b
both true b h = (tt, h)
both false b h = absurd h

all : (f : Format) (l : List Bound) → T (tested f l) → (i : ℕ) → Within f (U f) (pick l i).most (pick l i).float
unfolding tested pick
all f [] h i = zero_in f
all f (b ∷ l) h i =
    let x = b.float in
    let c : Bool = leb (2 ^ 30 * mag f x) (b.most * U f) in
    let p = both (finite x) (fits f x && (c && tested f l)) h in
    let q = both (fits f x) (c && tested f l) p.1 in
    let r = both c (tested f l) q.1 in
    go (literal b.most p.0 q.0 r.0) (all f l r.1) i
  where
    go : Within f (U f) b.most b.float → ((j : ℕ) → Within f (U f) (pick l j).most (pick l j).float) → (i : ℕ)
        → Within f (U f) (pick (b ∷ l) i).most (pick (b ∷ l) i).float
    go h k zero = h
    go h k (suc j) = k j

infixl 70 ◌up_to◌
abbrev pub ◌up_to◌ : Float → ℕ → Bound
x up_to c = record { float = x; most = c }

module _ (w : Width) where
  abbrev f : Format
  f = w.format

  abbrev at : ℕ → Float
  at x = of_bits w.format x

  -- ---- the logarithm
  abbrev pub in-log : List Bound
  in-log =
      con w L1 up_to 644300000 ∷ con w L2 up_to 460200000 ∷ con w L3 up_to 357950000 ∷ con w L4 up_to 292900000 ∷ con w L5 up_to
      247700000 ∷ con w L6 up_to 222300000
      ∷ con w CP up_to 1032850000 ∷ con w CP-H up_to 1032850000 ∷ con w CP-L up_to 130000 ∷ at (one f + hid f + hid f / 2) up_to 3221225472 ∷ []

  pub log-by : T (tested f in-log) → Least f (U f) 1032700000 (con w CP-H) → Least f (U f) 3221225472 (at (one f + hid f + hid f / 2))
      → LogConsts f (con w L1) (con w L2) (con w L3) (con w L4) (con w L5) (con w L6) (con w CP) (con w CP-H) (con w CP-L) (at (one f + hid f + hid f / 2))
  unfolding pick
  log-by t cp c3 =
      let a = all f in-log t in
      record {
        l1 = a 0;
        l2 = a 1;
        l3 = a 2;
        l4 = a 3;
        l5 = a 4;
        l6 = a 5;
        cp = a 6;
        cph = a 7;
        cph-lo = cp;
        cpl = a 8;
        three = (a 9, c3);
      }

  -- ---- the logarithm near 1
  abbrev pub in_near : List Bound
  in_near =
      con w IVLN2-H up_to 1549100000 ∷ con w IVLN2-L up_to 8000 ∷ con w IVLN2 up_to 1549100000 ∷ con w THIRD up_to 358000000
      ∷ at (one f - hid f) up_to 536870912 ∷ at (one f - 2 * hid f) up_to 268435456 ∷ []

  pub near_by : T (tested f in_near) → Least f (U f) 1549000000 (con w IVLN2-H)
      → CloseConsts f (con w IVLN2-H) (con w IVLN2-L) (con w IVLN2) (con w THIRD) (at (one f - hid f)) (at (one f - 2 * hid f))
  unfolding pick
  near_by t iv =
      let a = all f in_near t in
      record {
        ivh-in = a 0;
        ivh-lo = iv;
        ivl-in = a 1;
        iv-in = a 2;
        third-in = a 3;
        half_in = a 4;
        quarter-in = a 5;
      }

  -- ---- the exponential
  abbrev pub in-exp : List Bound
  in-exp =
      con w P1 up_to 179000000 ∷ con w P2 up_to 2983000 ∷ con w P3 up_to 72000 ∷ con w P4 up_to 1800 ∷ con w P5 up_to 50
      ∷ con w LG2 up_to 744300000 ∷ con w LG2-H up_to 744300000 ∷ con w LG2-L up_to 1600 ∷ at (one f) up_to 2 ^ 30 ∷ at (one f + hid f) up_to 2 ^ 31 ∷ []

  pub exp-by : T (tested f in-exp) → (plus f (at (one f)) ≡ U f) × (minus f (at (one f)) ≡ 0)
      → (plus f (at (one f + hid f)) ≡ 2 * U f) × (minus f (at (one f + hid f)) ≡ 0)
      → Consts f (con w P1) (con w P2) (con w P3) (con w P4) (con w P5) (con w LG2) (con w LG2-H) (con w LG2-L) (at (one f)) (at (one f + hid f))
  unfolding pick
  exp-by t c1 c2 =
      let a = all f in-exp t in
      record {
        p1 = a 0;
        p2 = a 1;
        p3 = a 2;
        p4 = a 3;
        p5 = a 4;
        lg = a 5;
        lgh = a 6;
        lgl = a 7;
        one = (a 8, c1.0, c1.1);
        two = (a 9, c2.0, c2.1);
      }
