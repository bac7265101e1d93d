-- A room on its way through a stage: the lanes before i are what the step made of them, the others are as they were. Assumes nothing.
use Prim.Native.Nat.{ℕ, ◌+◌, ◌<◌, ◌≤◌}
use mathlib.Core.Path.{◌≡◌, refl, sym, ap, ◌∙◌, subst}
use mathlib.Core.List.{List}
use native.Mathlib.Omega.{arith}
use native.Mathlib.Decide.{dec_lt}
use lib.ListN.{length, get_or, set, length-set}
use lib.Seq.{get_or-set_same, get_or-set_other}
use Rattle.pow.specs.declared.lane.Lane.{Lane}
use Rattle.pow.specs.declared.block.Room.{Room}
use Rattle.pow.specs.Lanes.{Whole, lane_at, put}

module _ {F W : Type 0} (zero : W) (one : F) where
  whole-put : {r : Room F W} (i : ℕ) (l : Lane F W) → Whole r → Whole (put r i l)
  whole-put {r} i l w =
      record {
        flags = length-set r.flags i l.flag ∙ w.flags;
        ws = length-set r.ws i l.w ∙ w.ws;
        es = length-set r.es i l.e ∙ w.es;
        ss = length-set r.ss i l.s ∙ w.ss;
        hs = length-set r.hs i l.hi ∙ w.hs;
        ls = length-set r.ls i l.lo ∙ w.ls;
        rs = length-set r.rs i l.r ∙ w.rs;
        ts = length-set r.ts i l.t ∙ w.ts;
      }

  same : {r : Room F W} (i : ℕ) (l : Lane F W) → Whole r → i < 64 → lane_at zero one (put r i l) i ≡ l
  same {r} i l w h = λ n. record {
    flag = get_or-set_same r.flags i l.flag zero (omega (arith, w.flags)) n;
    w = get_or-set_same r.ws i l.w zero (omega (arith, w.ws)) n;
    e = get_or-set_same r.es i l.e zero (omega (arith, w.es)) n;
    s = get_or-set_same r.ss i l.s one (omega (arith, w.ss)) n;
    hi = get_or-set_same r.hs i l.hi one (omega (arith, w.hs)) n;
    lo = get_or-set_same r.ls i l.lo one (omega (arith, w.ls)) n;
    r = get_or-set_same r.rs i l.r one (omega (arith, w.rs)) n;
    t = get_or-set_same r.ts i l.t one (omega (arith, w.ts)) n;
  }

  other : (r : Room F W) (i : ℕ) (l : Lane F W) (j : ℕ) → (j ≡ i → ⊥) → lane_at zero one (put r i l) j ≡ lane_at zero one r j
  other r i l j h = λ n. record {
    flag = get_or-set_other r.flags i j l.flag zero h n;
    w = get_or-set_other r.ws i j l.w zero h n;
    e = get_or-set_other r.es i j l.e zero h n;
    s = get_or-set_other r.ss i j l.s one h n;
    hi = get_or-set_other r.hs i j l.hi one h n;
    lo = get_or-set_other r.ls i j l.lo one h n;
    r = get_or-set_other r.rs i j l.r one h n;
    t = get_or-set_other r.ts i j l.t one h n;
  }

  pub record Upto (P : ℕ → Lane F W → Lane F W → Type 0) (r₀ : Room F W) (i : ℕ) (r : Room F W) : Type 0 where
    pub long : Whole r
    pub within : i ≤ 64
    pub done : (j : ℕ) → j < i → P j (lane_at zero one r₀ j) (lane_at zero one r j)
    pub rest : (j : ℕ) → i ≤ j → lane_at zero one r j ≡ lane_at zero one r₀ j

  -- of each lane before i something holds with the word that stands at its place in a list
  pub record Told (P : ℕ → W → Lane F W → Type 0) (r : Room F W) (i : ℕ) (out : List W) : Type 0 where
    pub long : length out ≡ 64
    pub done : (j : ℕ) → j < i → P j (get_or out j zero) (lane_at zero one r j)

  below : (j : ℕ) → j < 0 → ⊥
  below j h = omega arith

  last : (i j : ℕ) → ¬ (j < i) → j < i + 1 → i ≡ j
  last i j n k = omega arith

  apart : (i j : ℕ) → j < i → j ≡ i → ⊥
  apart i j y q = omega arith

  after : (i j : ℕ) → i + 1 ≤ j → j ≡ i → ⊥
  after i j k q = omega arith

  refl-le : (i : ℕ) → i ≤ i
  refl-le i = omega arith

  pub none : {P : ℕ → Lane F W → Lane F W → Type 0} {r : Room F W} → Whole r → Upto P r 0 r
  none w = record { long = w; within = omega arith; done = λ j h. absurd (below j h); rest = λ j h. refl }

  pub one-more : {P : ℕ → Lane F W → Lane F W → Type 0} {r₀ r : Room F W} {i : ℕ} → Upto P r₀ i r → i < 64
      → (l : Lane F W) → P i (lane_at zero one r i) l → Upto P r₀ (i + 1) (put r i l)
  one-more {P} {r₀} {r} {i} u h l p =
      record {
        long = whole-put i l u.long;
        within = omega arith;
        done = λ j k. elim (dec_lt j i) [
          | yes y ↦ subst (λ (x : Lane F W). P j (lane_at zero one r₀ j) x) (sym (other r i l j (apart i j y))) (u.done j y)
          | no n ↦ subst (λ (m : ℕ). P m (lane_at zero one r₀ m) (lane_at zero one (put r i l) m)) (last i j n k)
              (subst (λ (x : Lane F W). P i x (lane_at zero one (put r i l) i)) (u.rest i (refl-le i))
              (subst (λ (x : Lane F W). P i (lane_at zero one r i) x) (sym (same i l u.long h)) p))
        ];
        rest = λ j k. other r i l j (after i j k) ∙ u.rest j (omega arith);
      }

  pub none-told : {P : ℕ → W → Lane F W → Type 0} {r : Room F W} {out : List W} → length out ≡ 64 → Told P r 0 out
  none-told e = record { long = e; done = λ j h. absurd (below j h) }

  pub one-more-told : {P : ℕ → W → Lane F W → Type 0} {r : Room F W} {i : ℕ} {out : List W} → Whole r → Told P r i out → i < 64
      → (v : W) (l : Lane F W) → P i v l → Told P (put r i l) (i + 1) (set out i v)
  one-more-told {P} {r} {i} {out} w u h v l p =
      record {
        long = length-set out i v ∙ u.long;
        done = λ j k. elim (dec_lt j i) [
          | yes y ↦ subst (λ (x : W). P j x (lane_at zero one (put r i l) j)) (sym (get_or-set_other out i j v zero (apart i j y)))
              (subst (λ (x : Lane F W). P j (get_or out j zero) x) (sym (other r i l j (apart i j y))) (u.done j y))
          | no n ↦ subst (λ (m : ℕ). P m (get_or (set out i v) m zero) (lane_at zero one (put r i l) m)) (last i j n k)
              (subst (λ (x : W). P i x (lane_at zero one (put r i l) i)) (sym (get_or-set_same out i v zero (omega (arith, u.long))))
              (subst (λ (x : Lane F W). P i v x) (sym (same i l w h)) p))
        ];
      }

  -- where no lane before i is flagged, nor the one that is stored
  pub unset : (number : W → ℕ) {r : Room F W} {i : ℕ} → Whole r → i < 64 → (l : Lane F W) → ((j : ℕ) → j < i → number (lane_at zero one r j).flag ≡ 0) → number l.flag ≡ 0
      → (j : ℕ) → j < i + 1 → number (lane_at zero one (put r i l) j).flag ≡ 0
  unset number {r} {i} w h l p z j k = elim (dec_lt j i) [
    | yes y ↦ ap (λ (x : Lane F W). number x.flag) (other r i l j (apart i j y)) ∙ p j y
    | no n ↦ subst (λ (m : ℕ). number (lane_at zero one (put r i l) m).flag ≡ 0) (last i j n k) (ap (λ (x : Lane F W). number x.flag) (same i l w h) ∙ z)
  ]
