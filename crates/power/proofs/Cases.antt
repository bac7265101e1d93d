-- The definitions that pick one of their arguments by tests: what is done to the answer may be done to the arguments. Assumes nothing.
use Prim.Native.Nat.{ℕ}
use mathlib.Core.Path.{◌≡◌, refl, sym, ap, ◌∙◌}
use mathlib.Core.Bool.{Bool, true, false, cond}
use lib.Ieee.{Float, Format, mul}
use Rattle.power.specs.declared.answer.Fate.{Fate}
use Rattle.power.specs.declared.answer.Fate.TheVariants.{Over, Under, Within}
use Rattle.power.specs.Sorting.{sorted, sorted5, sorted6, sorted7, Told, told_settled, told_open}
use Rattle.power.specs.Width.{Width, Two}
use Rattle.power.specs.Chain.{fate_of, exp2_of, over_of, under_of, finish_of, open_of}
use Rattle.power.specs.Power.{pow_of}

push : {A B : Type 0} (g : A → B) (t : Bool) (x y : A) → g (cond t x y) ≡ cond t (g x) (g y)
push g true x y = refl
push g false x y = refl

pub sorted-map : {A B : Type 0} (g : A → B) (s : ℕ → A) (u : Bool → A) (f : Format) (x y : ℕ) → g (sorted s u f x y) ≡ sorted (λ n. g (s n)) (λ b. g (u b)) f x y
unfolding sorted sorted5 sorted6 sorted7
sorted-map g s u f x y = simp (push g)

fate-map : {A B : Type 0} (g : A → B) (w : Width) (a b c : A) (p : Two) → g (fate_of w a b c p) ≡ fate_of w (g a) (g b) (g c) p
unfolding fate_of
fate-map g w a b c p = simp (push g)

-- ---- the power, from the sorting's answer

abbrev pub chosen : Width → ℕ → ℕ → Told → ℕ
chosen w x y t = cond t.settled t.word (open_of w x y t.negative)

pub pow-chosen : (w : Width) (x y : ℕ) (t : Told) → t ≡ sorted told_settled told_open w.format x y → chosen w x y t ≡ pow_of w x y
unfolding pow_of
pow-chosen w x y t e = ap (chosen w x y) e ∙ sorted-map (chosen w x y) told_settled told_open w.format x y

-- ---- the chain's end, from the fate

abbrev ended : Width → Two → Float → Fate → Float
ended w p sn Over = over_of w sn
ended w p sn Under = under_of w sn
ended w p sn Within = mul w.format sn (exp2_of w p)

-- v is what the fate f is told to be, and r what is returned there
pub finish-ended : (w : Width) (p : Two) (sn : Float) {f v : Fate} {r : Float} → f ≡ fate_of w Over Under Within p → f ≡ v → r ≡ ended w p sn v → r ≡ finish_of w p sn
unfolding finish_of
finish-ended w p sn e t k = k ∙ ap (ended w p sn) (sym t ∙ e) ∙ fate-map (ended w p sn) w Over Under Within p
