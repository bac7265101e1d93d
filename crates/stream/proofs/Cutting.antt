-- A stream may be cut anywhere: what a piece cuts off is carried over and stands before the next piece, and the answers are the same.
-- For any size of record and of answer and any function. Assumes nothing.
use Prim.Native.Nat.{ℕ, zero, suc, ◌+◌, ◌*◌, ◌/◌, ◌-◌, ◌≤◌, ◌<◌}
use mathlib.Core.Path.{◌≡◌, ap, sym, ◌∙◌}
use mathlib.Core.List.{List, [], ◌∷◌, ◌++◌, append-nil, append_assoc}
use native.Mathlib.Omega.{arith}
use native.Mathlib.Nat.{mul-zero, mul-suc, zero-add, add-zero, suc-add, mul-div-le, mul-add-div, div-eq_of_lt, lt-mul-div-succ}
use lib.ListN.{length, take, drop, length-append, length-drop, take-append-drop}
use lib.Seq.{take-append-le, drop-append-le, length-take-le}
use Rattle.stream.specs.Bytes.{bytes_of}
use Rattle.stream.specs.Streams.{answers, streamed, cut_off, in_pieces, joined}

-- at the end of a record
between : (s t : ℕ) (f : List ℕ → ℕ) (m n : ℕ) (a b : List ℕ) → length a ≡ s * m → answers s t f (m + n) (a ++ b) ≡ answers s t f m a ++ answers s t f n b
between s t f zero n [] b e = rw zero-add
between s t f zero n (x ∷ a) b e = let z : ⊥ = omega (arith, mul-zero s) in absurd z
between s t f (suc m) n a b e =
    let h : s ≤ length a = omega (arith, mul-suc s m) in
    let i : length (drop s a) ≡ s * m = length-drop s a ∙ omega (arith, mul-suc s m) in
    rw (suc-add, take-append-le s a b h, drop-append-le s a b h, between s t f m n (drop s a) b i)
    (sym (append_assoc (bytes_of t (f (take s a))) (answers s t f m (drop s a)) (answers s t f n b)))

-- anywhere
pub cut : (s t : ℕ) (f : List ℕ → ℕ) (a b : List ℕ) → 0 < s → streamed s t f (a ++ b) ≡ streamed s t f a ++ streamed s t f (cut_off s a ++ b)
cut s t f a b h =
    let m = length a / s in
    let x = take (s * m) a in
    let y = cut_off s a in
    let l : length x ≡ s * m = length-take-le (s * m) a (mul-div-le (length a) s) in
    let e : a ≡ x ++ y = sym (take-append-drop (s * m) a) in
    let one : answers s t f m a ≡ answers s t f m x =
    ap (answers s t f m) e ∙ sym (ap (λ (k : ℕ). answers s t f k (x ++ y)) (add-zero m)) ∙ between s t f m 0 x y l ∙ append-nil (answers s t f m x) in
    let w : a ++ b ≡ x ++ (y ++ b) = ap (λ (k : List ℕ). k ++ b) e ∙ append_assoc x y b in
    let n : length (a ++ b) / s ≡ m + length (y ++ b) / s =
    ap (λ (k : List ℕ). length k / s) w ∙ ap (λ (k : ℕ). k / s) (length-append x (y ++ b) ∙ ap (λ (k : ℕ). k + length (y ++ b)) l) ∙ mul-add-div h m (length (y ++ b)) in
    (λ i. answers s t f (n i) (w i)) ∙ between s t f m (length (y ++ b) / s) x (y ++ b) l
    ∙ sym (ap (λ (k : List ℕ). k ++ streamed s t f (y ++ b)) one)

-- what is carried over is less than a record
pub cut-off-short : (s : ℕ) (a : List ℕ) → 0 < s → length (cut_off s a) < s
cut-off-short s a h =
    rw (length-drop (s * (length a / s)) a) (short s (length a / s) (length a) (s * (length a / s)) (mul-div-le (length a) s) (mul-suc s (length a / s)) (lt-mul-div-succ (length a) h))
  where
    short : (s q n p : ℕ) → p ≤ n → s * suc q ≡ p + s → n < s * (q + 1) → n - p < s
    short s q n p l e k = omega (arith, e)

-- in any number of pieces, of any sizes
pub pieces : (s t : ℕ) (f : List ℕ → ℕ) (carried : List ℕ) (ps : List (List ℕ)) → 0 < s → length carried < s
    → in_pieces s t f carried ps ≡ streamed s t f (carried ++ joined ps)
pieces s t f carried [] h k = rw (append-nil carried, div-eq_of_lt k)
pieces s t f carried (p ∷ ps) h k =
    ap (λ (r : List ℕ). streamed s t f (carried ++ p) ++ r) (pieces s t f (cut_off s (carried ++ p)) ps h (cut-off-short s (carried ++ p) h))
    ∙ sym (cut s t f (carried ++ p) (joined ps) h)
    ∙ ap (streamed s t f) (append_assoc carried p (joined ps))
