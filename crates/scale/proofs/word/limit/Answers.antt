-- `scale::word::limit` meets its contract: unchanged, an infinity or a zero. Assumes nothing.
use Prim.Native.Nat.{◌*◌, ◌%◌, ◌<◌, ◌≤◌}
use mathlib.Core.Path.{◌≡◌, ap, ◌∙◌, sym, subst}
use mathlib.Core.Bool.{true}
use mathlib.Core.Logic.{◌⊎◌, inl, inr}
use native.Mathlib.Nat.{le_antisymm, le_trans}
use lib.Dec.{lit≤}
use lib.IntN.{ℤ}
use lib.Signed.{lt_z}
use lib.Ieee.Fits.{two}
use lib.Ieee as Ieee
use lib.Ieee.{prec}
use mir.Syntax.{w32}
use mir.ValLaws.{to_z-of_z}
use Rattle.words.specs.Format.{Format, infinity, ours, top}
use Rattle.words.proofs.Words.{infinity-below}
use Rattle.scale.specs.Scale.{scaled}
use Rattle.scale.proofs.Machine.{held, up-held, down-limit}
use Rattle.scale.proofs.Scaled.{scaled-kept, sign_of, sign_or, sign_or-fits}
use Rattle.scale.proofs.Limits.{Beyond, limit-up, limit-down}
use Rattle.scale.proofs.word.limit.Given as given
use Rattle.scale.proofs.word.limit.Goals as goal
use Rattle.scale.proofs.word.limit.Goals.{After-digits, After-top, Then-n-down, then-n-up, else-n-up}

-- what the machine holds of the word, its size, infinity's word, the sign's weight and the format's numbers
word : (g : given.Over) (c : After-digits g) → g.F.Word.Word.number c.args.x < 2 * top (ours g.F.Width.format)
word g c = rw (← g.met.F.Width.word_size, ← c.wide-word.ensures.value) c.wide-word.ensures.bound

size : (g : given.Over) (c : After-digits g) → c.wide-size.result ≡ g.F.Word.Word.number c.args.x % top (ours g.F.Width.format)
size g c = c.wide-size.ensures.value ∙ c.fabs.ensures

most : (g : given.Over) (c : After-digits g) → c.infinity-infinity.result ≡ infinity (ours g.F.Width.format)
most g c = c.infinity-infinity.ensures.value ∙ ap infinity c.format-format.ensures

weight : (g : given.Over) (c : After-top g) → c.top.result ≡ top (ours g.F.Width.format)
weight g c = c.top.ensures.value ∙ ap top c.format-format.ensures

emax : (g : given.Over) (c : After-digits g) → c.emax.result ≡ Ieee.emax g.F.Width.format
emax g c = c.emax.ensures ∙ ap (λ (r : Format). r.emax) c.format-format.ensures

digits : (g : given.Over) (c : After-digits g) → c.digits.result ≡ prec g.F.Width.format
digits g c = c.digits.ensures.value ∙ ap (λ (r : Format). r.digits) c.format-format.ensures

-- past the tests n is far up or down
beyond : (g : given.Over) (c : Then-n-down g) → c.emax.result ≡ Ieee.emax g.F.Width.format → c.digits.result ≡ prec g.F.Width.format → Beyond g.F.Width.format (held w32 c.args.n)
beyond g c E D =
    elim c.if-n-up.branch [
      | then-n-up w ↦ inl (subst (λ (z : ℤ). lt_z z (held w32 c.args.n) ≡ true) (up-held g.F.Width.format E D) w.if-n-up.true)
      | else-n-up w ↦ inr (subst (λ (z : ℤ). lt_z (held w32 c.args.n) z ≡ true) (down-limit g.F.Width.format E D) (sym w.value-is ∙ c.if-n-down.true))
    ]

pub narrow-requires : goal.narrow-requires
narrow-requires g c =
    let s = (goal.at.narrow-requires g c).After-digits in
    let f = g.F.Width.format in
    rw (c.wide-word.ensures.value, weight g (goal.at.narrow-requires g c).After-top, most g s, g.met.F.Width.word_size) (sign_or-fits f _ _ (word g s) (infinity-below (ours f)))

-- zeros and infinities are unchanged, wherever n is
kept : (g : given.Over) (c : After-digits g) → (c.wide-size.result ≡ 0) ⊎ (c.infinity-infinity.result ≤ c.wide-size.result)
    → g.F.Word.Word.number c.args.x ≡ scaled (ours g.F.Width.format) (g.F.Word.Word.number c.args.x) c.args.n
kept g c e =
    scaled-kept (ours g.F.Width.format) _ c.wide-size.result c.args.n (le_trans (lit≤ tt) (two g.F.Width.format)) (word g c) (size g c)
    (elim e [ inl z ↦ inl z | inr z ↦ inr (le_antisymm (rw (size g c) c.requires) (rw (← most g c) z)) ])

pub returns-then-size-eq0-clause-some : goal.returns-then-size-eq0-clause-some
returns-then-size-eq0-clause-some g c = kept g (goal.at.returns-then-size-eq0-clause-some g c).After-digits (inl c.if-size-eq0.true)

pub returns-then-size-infinity-clause-some : goal.returns-then-size-infinity-clause-some
returns-then-size-infinity-clause-some g c = kept g (goal.at.returns-then-size-infinity-clause-some g c).After-digits (inr c.if-size-infinity.true)

pub returns-then-size-infinity-2-clause-some : goal.returns-then-size-infinity-2-clause-some
returns-then-size-infinity-2-clause-some g c = kept g (goal.at.returns-then-size-infinity-2-clause-some g c).After-digits (inr c.if-size-infinity-2.true)

pub returns-then-n-gt0-clause-some : goal.returns-then-n-gt0-clause-some
returns-then-n-gt0-clause-some g c =
    let p = goal.at.returns-then-n-gt0-clause-some g c in
    let s = p.After-digits in
    let f = g.F.Width.format in
    c.narrow.ensures
    ∙ rw (c.wide-word.ensures.value, weight g p.After-top, most g s) (sign_or f _ _ (word g s) (infinity-below (ours f)))
    ∙ limit-up f _ (word g s) (λ z. c.if-size-eq0.false (size g s ∙ z)) (rw (size g s, most g s) at c.if-size-infinity.false) _ (beyond g p.Then-n-down (emax g s) (digits g s)) c.if-n-gt0.true
    ∙ ap (scaled (ours f) (g.F.Word.Word.number c.args.x)) (to_z-of_z w32 c.args.n c.ranges.n)

pub returns-else-n-gt0-clause-some : goal.returns-else-n-gt0-clause-some
returns-else-n-gt0-clause-some g c =
    let p = goal.at.returns-else-n-gt0-clause-some g c in
    let s = p.After-digits in
    let f = g.F.Width.format in
    c.narrow-else-n-gt0.ensures
    ∙ rw (c.wide-word.ensures.value, weight g p.After-top) (sign_of f _ (word g s))
    ∙ limit-down f _ (word g s) (λ z. c.if-size-eq0.false (size g s ∙ z)) (rw (size g s, most g s) at c.if-size-infinity.false) _ (beyond g p.Then-n-down (emax g s) (digits g s)) c.if-n-gt0.false
    ∙ ap (scaled (ours f) (g.F.Word.Word.number c.args.x)) (to_z-of_z w32 c.args.n c.ranges.n)
