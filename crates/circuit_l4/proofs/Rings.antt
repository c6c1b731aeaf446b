-- Parts of a ring, and the fragments of the messages in it.
use Rattle.std.proofs.Common.{◌≡◌, ℕ, zero, suc, ◌+◌, ◌*◌, ◌-◌, ◌<◌, ◌≤◌, Bool, nat_lt, min, List, [], ◌∷◌, ◌++◌, length, take, drop, Some, refl, ap, sym, ◌∙◌, subst, arith, length-drop}
use Rattle.std.specs.Prelude.{slice_get}
use Rattle.std.proofs.lemmas.Grind.{div_ceil_times}
use Rattle.std.proofs.lemmas.List.{drop-drop, drop-take, length-take-le, take_min, drop_min}
use Rattle.circuit_reassembly.specs.Fragments.{Fragment, fragment_at, fragments_in, fragments_of}
use Rattle.circuit_reassembly.proofs.Pieces.{counted, found}
use Rattle.circuit_l4.specs.State.{fragments_of_all}
use Rattle.circuit_l4.specs.Queued.{Lengths, cut}

-- ---- a part of two lists ----
take_both : (xs ys : List ℕ) (n : ℕ) → take n (xs ++ ys) ≡ take n xs ++ take (n - length xs) ys
take_both [] ys zero = refl
take_both [] ys (suc n) = let all : suc n - 0 ≡ suc n = omega arith in rw all refl
take_both (x ∷ xs) ys zero = let none : 0 - suc (length xs) ≡ 0 = omega arith in rw none refl
take_both (x ∷ xs) ys (suc n) = let rest : suc n - suc (length xs) ≡ n - length xs = omega arith in rw rest (ap (λ l. x ∷ l) (take_both xs ys n))

drop_both : (xs ys : List ℕ) (n : ℕ) → drop n (xs ++ ys) ≡ drop n xs ++ drop (n - length xs) ys
drop_both [] ys zero = refl
drop_both [] ys (suc n) = let all : suc n - 0 ≡ suc n = omega arith in rw all refl
drop_both (x ∷ xs) ys zero = let none : 0 - suc (length xs) ≡ 0 = omega arith in rw none refl
drop_both (x ∷ xs) ys (suc n) = let rest : suc n - suc (length xs) ≡ n - length xs = omega arith in rw rest (drop_both xs ys n)

pub part_is : (front back items a b : List ℕ) (start len from to end skip many : ℕ) → front ++ back ≡ items → end ≡ start + len → from ≡ min start (length front) → to ≡ min end (length front) →
    skip ≡ start - from → many ≡ end - to - skip → a ≡ take (to - from) (drop from front) → b ≡ take many (drop skip back) →
    a ++ b ≡ take len (drop start items)
part_is front back items a b start len from to end skip many e n f t s m p q =
    let begins : drop from front ≡ drop start front = ap (λ k. drop k front) f ∙ drop_min start front in
    let left : length (drop start front) ≡ length front - start = length-drop start front in
    let here : take (to - from) (drop start front) ≡ take len (drop start front) =
    ap (λ k. take k (drop start front)) {x = to - from} {y = min len (length (drop start front))} (omega (arith, n, f, t, left)) ∙ take_min len (drop start front) in
    let there : skip ≡ start - length front = omega (arith, s, f) in
    let rest : many ≡ len - length (drop start front) = omega (arith, m, s, f, t, n, left) in
    rw (p, q, begins, here, there, rest)
    (sym (ap (λ l. take len (drop start l)) (sym e) ∙ ap (take len) (drop_both front back start) ∙ take_both (drop start front) (drop (start - length front) back) len))

-- ---- fragments ----
take_less : (m k : ℕ) (xs : List ℕ) → take m (take k xs) ≡ take (min k m) xs
take_less zero k xs = let none : min k 0 ≡ 0 = omega arith in rw none refl
take_less (suc m) zero xs = let none : min 0 (suc m) ≡ 0 = omega arith in rw none refl
take_less (suc m) (suc k) [] = let some : min (suc k) (suc m) ≡ suc (min k m) = omega arith in rw some refl
take_less (suc m) (suc k) (x ∷ xs) = let some : min (suc k) (suc m) ≡ suc (min k m) = omega arith in rw some (ap (λ l. x ∷ l) (take_less m k xs))

-- a fragment lies within its message
pub inside : (nth len : ℕ) → nth < fragments_in len → nth * 236 < len
inside nth len h = let times = div_ceil_times len 236 (omega arith) in omega (arith, times.0, times.1, h)

pub fragment_is : (bytes text : List ℕ) (more : Bool) (start len nth before rest many : ℕ) → start + len ≤ length bytes → nth < fragments_in len → before ≡ nth * 236 →
    rest ≡ len - before → many ≡ min rest 236 → text ≡ take many (drop (start + before) bytes) → more ≡ nat_lt 236 rest →
    (text, more) ≡ fragment_at (take len (drop start bytes)) nth
fragment_is bytes text more start len nth before rest many fits h b r m t e =
    let in_it : nth * 236 < len = inside nth len h in
    let whole : len ≡ nth * 236 + rest = omega (arith, b, r, in_it) in
    let behind : drop (nth * 236) (take len (drop start bytes)) ≡ take rest (drop (start + before) bytes) =
    ap (λ k. drop (nth * 236) (take k (drop start bytes))) whole ∙ drop-take (nth * 236) rest (drop start bytes)
    ∙ ap (take rest) (drop-drop (nth * 236) start bytes ∙ ap (λ k. drop (start + k) bytes) (sym b)) in
    let long : length (take rest (drop (start + before) bytes)) ≡ rest =
    length-take-le rest (drop (start + before) bytes) (rw (length-drop (start + before) bytes) (omega (arith, fits, whole, b))) in
    rw (behind, long, t, e, m) (ap (λ l. (l, nat_lt 236 rest)) (sym (take_less 236 rest (drop (start + before) bytes))))

get-before : (fs gs : List Fragment) (n : ℕ) → n < length fs → slice_get (fs ++ gs) n ≡ slice_get fs n
get-before [] gs n h = absurd (omega (arith, h))
get-before (f ∷ fs) gs zero h = refl
get-before (f ∷ fs) gs (suc n) h = get-before fs gs n (omega (arith, h))

pub get-behind : (fs gs : List Fragment) (n : ℕ) → slice_get (fs ++ gs) (length fs + n) ≡ slice_get gs n
get-behind [] gs n = ap (slice_get gs) (omega arith)
get-behind (f ∷ fs) gs n = let e : suc (length fs) + n ≡ suc (length fs + n) = omega arith in rw e (get-behind fs gs n)

-- the fragments of messages of these lengths, from a place in the bytes on
abbrev pub fragments_from : List ℕ → List ℕ → ℕ → List Fragment
fragments_from lengths bytes start = fragments_of_all (cut lengths (drop start bytes))

-- the messages from a place on have these lengths
pub record Left (lengths bytes : List ℕ) (start : ℕ) : Type 0 where
  pub within : start ≤ length bytes
  pub cuts : Lengths lengths (length bytes - start)

first_long : (n : ℕ) (lengths bytes : List ℕ) (start : ℕ) → Left (n ∷ lengths) bytes start → length (take n (drop start bytes)) ≡ n
first_long n lengths bytes start h = length-take-le n (drop start bytes) (rw (length-drop start bytes) (h.cuts.2))

pub first_fits : (n : ℕ) (lengths bytes : List ℕ) (start : ℕ) → Left (n ∷ lengths) bytes start → start + n ≤ length bytes
first_fits n lengths bytes start h = omega (arith, h.within, h.cuts.2)

-- it is one of the first message
pub in_first : (n : ℕ) (lengths bytes : List ℕ) (start left : ℕ) → Left (n ∷ lengths) bytes start → left < fragments_in n →
    slice_get (fragments_from (n ∷ lengths) bytes start) left ≡ Some (fragment_at (take n (drop start bytes)) left)
in_first n lengths bytes start left h less =
    let message : List ℕ = take n (drop start bytes) in
    let long : length message ≡ n = first_long n lengths bytes start h in
    let there : left < fragments_in (length message) = rw long less in
    get-before (fragments_of message) (fragments_of_all (cut lengths (drop n (drop start bytes)))) left (rw (counted message) there) ∙ found message left there

-- it is one of the others
pub in_others : (n : ℕ) (lengths bytes : List ℕ) (start left : ℕ) → Left (n ∷ lengths) bytes start → fragments_in n ≤ left →
    slice_get (fragments_from (n ∷ lengths) bytes start) left ≡ slice_get (fragments_from lengths bytes (start + n)) (left - fragments_in n)
in_others n lengths bytes start left h less =
    let message : List ℕ = take n (drop start bytes) in
    let many : length (fragments_of message) ≡ fragments_in n = counted message ∙ ap fragments_in (first_long n lengths bytes start h) in
    let place : left ≡ length (fragments_of message) + (left - fragments_in n) = omega (arith, many, less) in
    ap (slice_get (fragments_from (n ∷ lengths) bytes start)) place
    ∙ get-behind (fragments_of message) (fragments_of_all (cut lengths (drop n (drop start bytes)))) (left - fragments_in n)
    ∙ ap (λ l. slice_get (fragments_of_all (cut lengths l)) (left - fragments_in n)) (drop-drop n start bytes)

pub next_left : (n : ℕ) (lengths bytes : List ℕ) (start : ℕ) → Left (n ∷ lengths) bytes start → Left lengths bytes (start + n)
next_left n lengths bytes start h =
    let rest : length bytes - (start + n) ≡ length bytes - start - n = omega arith in
    record { within = first_fits n lengths bytes start h; cuts = rw rest (h.cuts.3) }

-- ---- looking for a fragment ----
-- what is left has a first message
pub fits : (it rest bytes : List ℕ) (n start : ℕ) → it ≡ n ∷ rest → Left it bytes start → start + n ≤ length bytes
fits it rest bytes n start e h = first_fits n rest bytes start (subst (λ (ns : List ℕ). Left ns bytes start) e h)

pub is_here : (it rest bytes : List ℕ) (n start left count : ℕ) → it ≡ n ∷ rest → count ≡ fragments_in n → left < count → Left it bytes start →
    Some (fragment_at (take n (drop start bytes)) left) ≡ slice_get (fragments_from it bytes start) left
is_here it rest bytes n start left count e c less h =
    let first = subst (λ (ns : List ℕ). Left ns bytes start) e h in
    rw e (sym (in_first n rest bytes start left first (omega (arith, less, c))))

-- it isn't in the first one
pub record BehindFirst (it rest bytes : List ℕ) (n start left count : ℕ) : Type 0 where
  pub others : Left rest bytes (start + n)
  pub same : slice_get (fragments_from it bytes start) left ≡ slice_get (fragments_from rest bytes (start + n)) (left - count)

pub resume : (it rest bytes : List ℕ) (n start left count : ℕ) → it ≡ n ∷ rest → count ≡ fragments_in n → count ≤ left → Left it bytes start →
    BehindFirst it rest bytes n start left count
resume it rest bytes n start left count e c more h =
    let first = subst (λ (ns : List ℕ). Left ns bytes start) e h in
    record {
      others = next_left n rest bytes start first;
      same = rw (e, c) (in_others n rest bytes start left first (omega (arith, more, c)));
    }
