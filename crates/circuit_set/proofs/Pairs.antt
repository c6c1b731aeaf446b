-- The pairs that a node gives stand at the places of its walk.
use Rattle.std.specs.Prelude.{◌≡◌, ◌≢◌, ℕ, ◌+◌, ◌*◌, ◌-◌, ◌≤◌, ◌<◌, ◌/◌, ◌%◌, Bool, true, false, if◌then◌else◌, List, [], ◌∷◌, ◌++◌, map, length, get_or, slice_get, nat_eq, nat_lt, zero, suc, Some, refl}
use Rattle.std.proofs.Common.{sym, ◌∙◌, ap, arith}
use Rattle.std.proofs.lemmas.Bool.Decides.{nat_tests}
use Rattle.circuit_l4.specs.declared.pair.Pair.{Pair}
use Rattle.circuit_table.specs.Pairs.{Change, EndMade, Giving, EndGone, IsPair, PairsDiffer, pair_after, after_giving, pair_given, is_full, is_used, next_free, pairs_given, without}
use Rattle.circuit_set.proofs.Walks.{Walk, full, give_next, gone, next_place, give, places, skip, started, used}
use Rattle.circuit_set.proofs.Places.{PlacesOk, Rising, all_places, started_ok}

-- the pair at a place, counted from the start
at : ℕ → ℕ → Pair
at s n = record { index = (s + n) % 255 + 1; ident = (s + n) / 255 % 255 + 1 }

pair_is : (a b c d : ℕ) → a ≡ c → b ≡ d → (let p : Pair = record { index = a; ident = b } in p) ≡ record { index = c; ident = d }
pair_is a b c d e f = rw (e, f) refl

start_of : Pair → ℕ
start_of p = p.index - 1 + 255 * (p.ident - 1)

starts : (p : Pair) → IsPair p → at (start_of p) 0 ≡ p
unfolding at start_of
starts p h =
    let a : 1 ≤ p.index = h.index_some in
    let b : p.index ≤ 255 = h.index_most in
    let c : 1 ≤ p.ident = h.ident_some in
    let d : p.ident ≤ 255 = h.ident_most in
    pair_is _ _ p.index p.ident (omega arith) (omega arith)

-- two places of one turn have two pairs
at_once : (s m n : ℕ) → m < 65025 → n < 65025 → at s m ≡ at s n → m ≡ n
unfolding at
at_once s m n p q e =
    let i : (s + m) % 255 + 1 ≡ (s + n) % 255 + 1 = ap (λ (x : Pair). x.index) e in
    let d : (s + m) / 255 % 255 + 1 ≡ (s + n) / 255 % 255 + 1 = ap (λ (x : Pair). x.ident) e in
    omega arith

last_case : (s n : ℕ) (b : Bool) → nat_lt ((s + n) / 255 % 255 + 1) 255 ≡ b → (s + n) % 255 ≡ 254 → (if b then (s + n) / 255 % 255 + 1 + 1 else 1) ≡ (s + suc n) / 255 % 255 + 1
last_case s n true e h = let below : (s + n) / 255 % 255 + 1 < 255 = grind (arith, nat_tests) in omega arith
last_case s n false e h = let high : 255 ≤ (s + n) / 255 % 255 + 1 = grind (arith, nat_tests) in omega arith

following_case : (s n : ℕ) (b : Bool) → nat_lt ((s + n) % 255 + 1) 255 ≡ b
    → (let p : Pair = if b then record { index = (s + n) % 255 + 1 + 1; ident = (s + n) / 255 % 255 + 1 }
    else record { index = 1; ident = if nat_lt ((s + n) / 255 % 255 + 1) 255 then (s + n) / 255 % 255 + 1 + 1 else 1 } in p) ≡ at s (suc n)
unfolding at
following_case s n true e = let below : (s + n) % 255 + 1 < 255 = grind (arith, nat_tests) in pair_is _ _ _ _ (omega arith) (omega arith)
following_case s n false e =
    let high : 255 ≤ (s + n) % 255 + 1 = grind (arith, nat_tests) in
    let last : (s + n) % 255 ≡ 254 = omega arith in
    pair_is _ _ _ _ (omega arith) (last_case s n (nat_lt ((s + n) / 255 % 255 + 1) 255) refl last)

following_at : (s n : ℕ) → pair_after (at s n) ≡ at s (suc n)
unfolding at
following_at s n = following_case s n (nat_lt ((s + n) % 255 + 1) 255) refl

same_index : (s q n : ℕ) (b c : Bool) → nat_eq ((s + q) % 255 + 1) ((s + n) % 255 + 1) ≡ b → nat_eq (q % 255) (n % 255) ≡ c → b ≡ c
same_index s q n true true e f = refl
same_index s q n true false e f =
    let same : (s + q) % 255 + 1 ≡ (s + n) % 255 + 1 = grind (arith, nat_tests) in
    let apart : q % 255 ≢ n % 255 = grind (arith, nat_tests) in
    absurd (apart (omega arith))
same_index s q n false true e f =
    let same : q % 255 ≡ n % 255 = grind (arith, nat_tests) in
    let apart : (s + q) % 255 + 1 ≢ (s + n) % 255 + 1 = grind (arith, nat_tests) in
    absurd (apart (omega arith))
same_index s q n false false e f = refl

used_at : (s n : ℕ) (qs : List ℕ) → is_used (at s n) (map (at s) qs) ≡ used n qs
unfolding at
used_at s n [] = refl
used_at s n (q ∷ qs) = rw (same_index s q n (nat_eq ((s + q) % 255 + 1) ((s + n) % 255 + 1)) (nat_eq (q % 255) (n % 255)) refl refl, used_at s n qs) refl

free_case : (f s n : ℕ) (qs : List ℕ) (b : Bool) → next_free f (map (at s) qs) (at s (suc n)) ≡ at s (next_place f qs (suc n))
    → (if b then next_free f (map (at s) qs) (at s (suc n)) else at s n) ≡ at s (if b then next_place f qs (suc n) else n)
free_case f s n qs true h = h
free_case f s n qs false h = refl

free_at : (f s n : ℕ) (qs : List ℕ) → next_free f (map (at s) qs) (at s n) ≡ at s (next_place f qs n)
free_at zero s n qs = refl
free_at (suc f) s n qs = rw (used_at s n qs, following_at s n) (free_case f s n qs (used n qs) (free_at f s (suc n) qs))

-- what a giving leaves
record LeftAt (held : List ℕ) (v : Walk) (p : ℕ) : Type 0 where
  next : v.passed ≡ suc p
  has : v.held ≡ held ++ p ∷ []

left_case : (f : ℕ) (w : Walk) (b : Bool) → LeftAt w.held (give_next f (skip w)) (next_place f w.held (suc w.passed))
    → LeftAt w.held (if b then give_next f (skip w) else give w) (if b then next_place f w.held (suc w.passed) else w.passed)
left_case f w true h = h
left_case f w false h = record { next = refl; has = refl }

left_at : (f : ℕ) (w : Walk) → LeftAt w.held (give_next f w) (next_place f w.held w.passed)
left_at zero w = record { next = refl; has = refl }
left_at (suc f) w = left_case f w (used w.passed w.held) (left_at f (skip w))

map_push : (s p : ℕ) (qs : List ℕ) → map (at s) (qs ++ p ∷ []) ≡ map (at s) qs ++ at s p ∷ []
map_push s p [] = refl
map_push s p (q ∷ qs) = ap (λ xs. at s q ∷ xs) (map_push s p qs)

map_without : (s k : ℕ) (qs : List ℕ) → without k (map (at s) qs) ≡ map (at s) (without k qs)
map_without s k [] = refl
map_without s zero (q ∷ qs) = refl
map_without s (suc k) (q ∷ qs) = ap (λ xs. at s q ∷ xs) (map_without s k qs)

length_map : (s : ℕ) (qs : List ℕ) → length (map (at s) qs) ≡ length qs
length_map s [] = refl
length_map s (q ∷ qs) = ap suc (length_map s qs)

-- where a node stands, by its walk
stands : ℕ → Walk → Giving
stands s w = record { next = at s w.passed; held = map (at s) w.held }

given_at : (s : ℕ) (w : Walk) → pair_given (stands s w) ≡ at s (next_place 255 w.held w.passed)
unfolding stands
given_at s w = free_at 255 s w.passed w.held

giving_is : (a b : Pair) (xs ys : List Pair) → a ≡ b → xs ≡ ys → (let g : Giving = record { next = a; held = xs } in g) ≡ record { next = b; held = ys }
giving_is a b xs ys e f = rw (e, f) refl

gave_at : (s : ℕ) (w : Walk) → after_giving (stands s w) ≡ stands s (give_next 255 w)
unfolding stands
gave_at s w =
    let p : ℕ = next_place 255 w.held w.passed in
    let v : Walk = give_next 255 w in
    let l : LeftAt w.held v p = left_at 255 w in
    let e : next_free 255 (map (at s) w.held) (at s w.passed) ≡ at s p = free_at 255 s w.passed w.held in
    giving_is (pair_after (next_free 255 (map (at s) w.held) (at s w.passed))) (at s v.passed) (map (at s) w.held ++ next_free 255 (map (at s) w.held) (at s w.passed) ∷ []) (map (at s) v.held)
    (ap pair_after e ∙ following_at s p ∙ ap (at s) (sym l.next))
    (ap (λ x. map (at s) w.held ++ x ∷ []) e ∙ sym (map_push s p w.held) ∙ ap (λ qs. map (at s) qs) (sym l.has))

gone_at : (s k : ℕ) (w : Walk) → (let g : Giving = record { next = (stands s w).next; held = without k (stands s w).held } in g) ≡ stands s (gone w k)
unfolding stands
gone_at s k w = giving_is (at s w.passed) (at s w.passed) (without k (map (at s) w.held)) (map (at s) (without k w.held)) refl (map_without s k w.held)

full_at : (s : ℕ) (w : Walk) → is_full (stands s w) ≡ full w
unfolding stands
full_at s w = ap (λ n. nat_lt 63 n) (length_map s w.held)

gives_case : (s : ℕ) (w : Walk) (more : List Change) (b : Bool) → pairs_given more (stands s w) ≡ map (at s) (places more w)
    → pairs_given more (stands s (give_next 255 w)) ≡ map (at s) (places more (give_next 255 w))
    → (if b then pairs_given more (stands s w) else pair_given (stands s w) ∷ pairs_given more (after_giving (stands s w)))
    ≡ map (at s) (if b then places more w else next_place 255 w.held w.passed ∷ places more (give_next 255 w))
gives_case s w more true h k = h
gives_case s w more false h k =
    ap (λ g. pair_given (stands s w) ∷ pairs_given more g) (gave_at s w) ∙ ap (λ x. x ∷ pairs_given more (stands s (give_next 255 w))) (given_at s w)
    ∙ ap (λ xs. at s (next_place 255 w.held w.passed) ∷ xs) k

-- the pairs given are those of the places of the walk
places_at : (s : ℕ) (changes : List Change) (w : Walk) → pairs_given changes (stands s w) ≡ map (at s) (places changes w)
places_at s [] w = refl
places_at s (EndMade ∷ more) w =
    rw (full_at s w) (gives_case s w more (full w) (places_at s more w) (places_at s more (give_next 255 w)))
places_at s (EndGone k ∷ more) w = ap (λ g. pairs_given more g) (gone_at s k w) ∙ places_at s more (gone w k)

get_map : (s i : ℕ) (qs : List ℕ) (p : Pair) → slice_get (map (at s) qs) i ≡ Some p → (i < length qs) × (p ≡ at s (get_or qs i 0))
get_map s i [] p h = cc
get_map s zero (q ∷ qs) p h = (omega arith, cc)
get_map s (suc i) (q ∷ qs) p h = let k : (i < length qs) × (p ≡ at s (get_or qs i 0)) = get_map s i qs p h in (omega (arith, k.0), k.1)

start_at : (start : Pair) → IsPair start → (let g : Giving = record { next = start; held = [] } in g) ≡ stands (start_of start) started
unfolding stands
start_at start h = ap (λ p. (let g : Giving = record { next = p; held = [] } in g)) (sym (starts start h))

pub pairs_differ : PairsDiffer
pairs_differ start ok changes i j p q l few hp hq same =
    let s : ℕ = start_of start in
    let ps : List ℕ = places changes started in
    let e : pairs_given changes (record { next = start; held = [] }) ≡ map (at s) ps = ap (λ g. pairs_given changes g) (start_at start ok) ∙ places_at s changes started in
    let a : (i < length ps) × (p ≡ at s (get_or ps i 0)) = get_map s i ps p (ap (λ xs. slice_get xs i) (sym e) ∙ hp) in
    let b : (j < length ps) × (q ≡ at s (get_or ps j 0)) = get_map s j ps q (ap (λ xs. slice_get xs j) (sym e) ∙ hq) in
    let all : PlacesOk ps started × Rising ps = all_places changes started started_ok in
    let first : get_or ps i 0 < 65025 = (all.0 i a.0).1 (omega arith) in
    let second : get_or ps j 0 < 65025 = (all.0 j b.0).1 (omega arith) in
    let up : get_or ps i 0 < get_or ps j 0 = all.1 i j l b.0 in
    let one : get_or ps i 0 ≡ get_or ps j 0 = at_once s (get_or ps i 0) (get_or ps j 0) first second (sym a.1 ∙ same ∙ b.1) in
    omega arith
