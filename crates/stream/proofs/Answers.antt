-- The answers on their way into a slice, for any size of record and of answer and any function. Assumes nothing.
use Prim.Native.Nat.{ℕ, zero, suc, ◌+◌, ◌-◌, ◌*◌, ◌/◌, ◌≤◌, ◌<◌}
use mathlib.Core.Path.{◌≡◌, refl, ap, sym, ◌∙◌}
use mathlib.Core.List.{List, ◌++◌, append-nil, append_assoc}
use native.Mathlib.Omega.{arith}
use native.Mathlib.Numerals.{add-one}
use native.Mathlib.Nat.{mul-zero, mul-suc, mul_comm, add_comm, le_trans, mul-le-mul_left, min-le_right, mul-div-le, le-div_iff_mul-le, div-lt_iff_lt-mul}
use lib.ListN.{length, take, drop, length-append, length-drop, drop_of_length-le}
use lib.Seq.{drop-drop, take_at, drop_at, drop-append-add, length-take-le}
use Rattle.std.proofs.lemmas.List.{take_all}
use Rattle.stream.specs.Bytes.{bytes_of}
use Rattle.stream.specs.Streams.{answers, streamed, whole, Answered}

pub length-bytes : (k w : ℕ) → length (bytes_of k w) ≡ k
length-bytes zero w = refl
length-bytes (suc k) w = ap suc (length-bytes k _)

length-answers : (s t : ℕ) (f : List ℕ → ℕ) (n : ℕ) (l : List ℕ) → length (answers s t f n l) ≡ t * n
length-answers s t f zero l = sym (mul-zero t)
length-answers s t f (suc n) l = rw (length-append, length-bytes, length-answers s t f n (drop s l), mul-suc) (add_comm t (t * n))

-- one record more
snoc : (s t : ℕ) (f : List ℕ → ℕ) (n : ℕ) (l : List ℕ) → answers s t f (suc n) l ≡ answers s t f n l ++ bytes_of t (f (take s (drop (s * n) l)))
snoc s t f zero l = rw mul-zero (append-nil (bytes_of t (f (take s l))))
snoc s t f (suc n) l =
    rw (snoc s t f n (drop s l), drop-drop, mul-suc, add_comm s)
    (sym (append_assoc (bytes_of t (f (take s l))) (answers s t f n (drop s l)) (bytes_of t (f (take s (drop (s * n + s) l))))))

-- where the turns over the records stand: i are answered, `rest` is the input after them, `left` more have room, and `count` bytes are written
pub record Turn (s t : ℕ) (input before : List ℕ) (i : ℕ) (rest : List ℕ) (left count : ℕ) (now : List ℕ) : Type 0 where
  pub rest-is : rest ≡ drop (s * i) input
  pub left-is : i + left ≡ length before / t
  pub count-is : count ≡ t * i
  pub kept : length now ≡ length before

-- the answers to the first i records are in place, and the rest is as before
pub record Filled (s t : ℕ) (f : List ℕ → ℕ) (input before : List ℕ) (i : ℕ) (now : List ℕ) : Type 0 where
  pub within : i ≤ length input / s
  pub filled : now ≡ answers s t f i input ++ drop (t * i) before

-- ---- one turn, which takes the record x off the front of what is left

pub record_is : {s t : ℕ} {input before rest now : List ℕ} {i left count : ℕ} (x others : List ℕ) → Turn s t input before i rest left count now
    → rest ≡ x ++ others → length x ≡ s → x ≡ take s (drop (s * i) input)
record_is {s} x others turn parts long = sym (ap (take s) (sym turn.rest-is ∙ parts) ∙ take_at x others s long)

pub there_is : {s t : ℕ} {input before rest now : List ℕ} {i left count : ℕ} (x others : List ℕ) → Turn s t input before i rest left count now
    → rest ≡ x ++ others → length x ≡ s → 0 < s → suc i ≤ length input / s
there_is {s} {t} {input} {before} {rest} {i = i} x others turn parts long some =
    let r : length rest ≡ length input - s * i = ap length turn.rest-is ∙ length-drop (s * i) input in
    let m : length rest ≡ length x + length others = ap length parts ∙ length-append x others in
    let n : s * suc i ≤ length input = rw (mul-suc s i) (omega arith) in
    let e : s * suc i ≡ suc i * s = mul_comm s (suc i) in
    (le-div_iff_mul-le some).1 (omega arith)

pub room_is : {s t : ℕ} {input before rest now : List ℕ} {i left count : ℕ} (fewer : ℕ) → Turn s t input before i rest left count now
    → fewer + 1 ≡ left → count + t ≤ length now
room_is {s} {t} {input} {before} {i = i} fewer turn one =
    let l = turn.left-is in
    let c = turn.count-is in
    let k = turn.kept in
    let m : t * suc i ≤ t * (length before / t) = mul-le-mul_left t (omega arith) in
    let n : t * suc i ≡ t * i + t = mul-suc t i in
    omega (arith, mul-div-le (length before) t)

pub turned : {s t : ℕ} {input before rest now after : List ℕ} {i left fewer count : ℕ} (x others : List ℕ) → Turn s t input before i rest left count now
    → rest ≡ x ++ others → length x ≡ s → fewer + 1 ≡ left → length after ≡ length now → Turn s t input before (i + 1) others fewer (count + t) after
turned {s} {t} {input} {before} {rest} {now} {after} {i} x others turn parts long one kept =
    let d : drop s rest ≡ others = ap (drop s) parts ∙ drop_at x others s long in
    let f : drop s rest ≡ drop (s * i + s) input = ap (drop s) turn.rest-is ∙ drop-drop s (s * i) input in
    let l = turn.left-is in
    let c = turn.count-is in
    record {
      rest-is = sym d ∙ f ∙ rw (add-one, mul-suc);
      left-is = omega arith;
      count-is = rw (add-one, mul-suc) (omega arith);
      kept = kept ∙ turn.kept;
    }

-- an answer is written at the start of what is left of the slice
pub put_there : (t k count : ℕ) (now part b : List ℕ) → count ≡ k → count + t ≤ length now → part ≡ b ++ drop t (take (length now - count) (drop count now))
    → take count now ++ (part ++ drop (length now - count) (drop count now)) ≡ take k now ++ b ++ drop (k + t) now
put_there t k count now part b at room is =
    let l : length (drop count now) ≤ length now - count = rw (length-drop count now) (omega arith) in
    rw (is, take_all (length now - count) (drop count now) l, drop_of_length-le (drop count now) l, append-nil, drop-drop t count now, at)
    (sym (append_assoc (take k now) b (drop (k + t) now)))

pub one_more : {s t : ℕ} {f : List ℕ → ℕ} {input before now after : List ℕ} {i w : ℕ} → Filled s t f input before i now → suc i ≤ length input / s
    → w ≡ f (take s (drop (s * i) input)) → after ≡ take (t * i) now ++ bytes_of t w ++ drop (t * i + t) now → Filled s t f input before (i + 1) after
one_more {s} {t} {f} {input} {before} {now} {after} {i} {w} g h b p =
    let a = answers s t f i input in
    let q : length a ≡ t * i = length-answers s t f i input in
    let u : take (t * i) now ≡ a = ap (take (t * i)) g.filled ∙ take_at a (drop (t * i) before) (t * i) q in
    let v : drop (t * i + t) now ≡ drop (t * i + t) before =
    ap (drop (t * i + t)) g.filled
    ∙ sym (ap (λ (n : ℕ). drop (n + t) (a ++ drop (t * i) before)) q)
    ∙ drop-append-add a (drop (t * i) before) t
    ∙ drop-drop t (t * i) before in
    record { within = omega arith; filled = p ∙ rw (u, v, b, add-one, snoc s t f i input, mul-suc) refl }

-- ---- where no turn is left

-- every record that is whole and has room is answered
pub all_turned : {s t : ℕ} {input before rest now : List ℕ} {i left count : ℕ} → Turn s t input before i rest left count now
    → 0 < s → (0 < left → length rest < s) → whole s t input before ≤ i
all_turned {left = zero} turn some short = let l = turn.left-is in omega arith
all_turned {s} {t} {input} {before} {rest} {now} {i} {left = suc left} turn some short =
    let l : length rest ≡ length input - s * i = ap length turn.rest-is ∙ length-drop (s * i) input in
    let h : length rest < s = short (omega arith) in
    let n : length input < s * suc i = rw (mul-suc s i) (omega arith) in
    let e : s * suc i ≡ suc i * s = mul_comm s (suc i) in
    let q : length input / s < suc i = (div-lt_iff_lt-mul some).1 (omega arith) in
    omega arith

pub finish : {s t : ℕ} {f : List ℕ → ℕ} {input before rest now : List ℕ} {i left count : ℕ} → Turn s t input before i rest left count now
    → Filled s t f input before i now → whole s t input before ≤ i → Answered s t f input before now count
finish {s} {t} {f} {input} {before} {rest} {now} {i} {left} {count} turn g h =
    let w = g.within in
    let l = turn.left-is in
    let z : i ≡ whole s t input before = omega arith in
    let r : t * whole s t input before ≤ length before = le_trans (mul-le-mul_left t (min-le_right (length input / s) (length before / t))) (mul-div-le (length before) t) in
    let n : count ≡ t * whole s t input before = turn.count-is ∙ ap (λ (k : ℕ). t * k) z in
    let q : count ≤ length now = rw (n, turn.kept) r in
    record { count-is = n; room = q; part = sym (length-take-le count now q); after_is = rw z at g.filled }

-- where there is room for all of them, the bytes that count are all that is written for the input
pub answered-whole : {s t : ℕ} {f : List ℕ → ℕ} {input before after : List ℕ} {count : ℕ} → Answered s t f input before after count
    → length input / s ≤ length before / t → take count after ≡ streamed s t f input
answered-whole {s} {t} {f} {input} {before} {after} {count} a h =
    let n : whole s t input before ≡ length input / s = omega arith in
    let w = answers s t f (whole s t input before) input in
    let l : length w ≡ count = length-answers s t f (whole s t input before) input ∙ sym a.count-is in
    ap (take count) a.after_is ∙ take_at w (drop (t * whole s t input before) before) count l ∙ ap (λ (k : ℕ). answers s t f k input) n
