-- The pair that a node gives next has an index that no end has which it holds.
use Rattle.std.specs.Prelude.{◌≡◌, ℕ, zero, suc, ◌+◌, ◌-◌, ◌≤◌, ◌<◌, ◌%◌, Bool, true, false, ◌||◌, nat_eq, nat_lt, if◌then◌else◌, List, [], ◌∷◌, length, refl}
use Rattle.std.proofs.Common.{sym, ◌∙◌, subst, inl, inr, arith}
use Rattle.std.proofs.lemmas.Bool.Decides.{nat_tests}
use Rattle.circuit_l4.specs.declared.pair.Pair.{Pair}
use Rattle.circuit_set.specs.Lines.{Elem, count_from}
use Rattle.circuit_table.specs.Pairs.{IsPair, pair_after, is_used, next_free}
use Rattle.circuit_set.proofs.Range.{range_counted}

abbrev indexes : List Pair → List ℕ
indexes [] = []
indexes (q ∷ qs) = q.index ∷ indexes qs

indexes_count : (lo : ℕ) (qs : List Pair) → count_from lo (indexes qs) ≤ length qs
indexes_count lo [] = omega arith
indexes_count lo (q ∷ qs) = let h : count_from lo (indexes qs) ≤ length qs = indexes_count lo qs in grind (arith, nat_tests)

used_case : (p q : Pair) (qs : List Pair) (b : Bool) → nat_eq q.index p.index ≡ b → (b || is_used p qs) ≡ true → (is_used p qs ≡ true → Elem p.index (indexes qs)) → Elem p.index (q.index ∷ indexes qs)
used_case p q qs true t h later = let same : q.index ≡ p.index = grind (arith, nat_tests) in inl (sym same)
used_case p q qs false t h later = inr (later h)

used_elem : (p : Pair) (qs : List Pair) → is_used p qs ≡ true → Elem p.index (indexes qs)
used_elem p [] h = cc
used_elem p (q ∷ qs) h = used_case p q qs (nat_eq q.index p.index) refl h (used_elem p qs)

-- the pair so many after p
abbrev nth : ℕ → Pair → Pair
nth zero p = p
nth (suc k) p = nth k (pair_after p)

all_case : (f : ℕ) (held : List Pair) (p : Pair) (b : Bool) → is_used p held ≡ b → is_used (if b then next_free f held (pair_after p) else p) held ≡ true
    → (is_used (next_free f held (pair_after p)) held ≡ true → (k : ℕ) → k < f → is_used (nth k (pair_after p)) held ≡ true) → (k : ℕ) → k < suc f → is_used (nth k p) held ≡ true
all_case f held p true t h later zero l = t
all_case f held p true t h later (suc k) l = later h k (omega arith)
all_case f held p false t h later k l = let bad : true ≡ false = sym h ∙ t in cc

-- where the search ends at a used one, it has passed used ones alone
all_used : (f : ℕ) (held : List Pair) (p : Pair) → is_used (next_free f held p) held ≡ true → (k : ℕ) → k < f → is_used (nth k p) held ≡ true
all_used zero held p h k l = absurd (omega arith)
all_used (suc f) held p h k l = all_case f held p (is_used p held) refl h (all_used f held (pair_after p)) k l

index_case : (p : Pair) (b : Bool) → nat_lt p.index 255 ≡ b → p.index ≤ 255
    → (let q : Pair = if b then record { index = p.index + 1; ident = p.ident } else record { index = 1; ident = if nat_lt p.ident 255 then p.ident + 1 else 1 } in q.index) ≡ p.index % 255 + 1
index_case p true e most = let low : p.index < 255 = grind (arith, nat_tests) in omega arith
index_case p false e most = let high : 255 ≤ p.index = grind (arith, nat_tests) in omega arith

index_next : (p : Pair) → p.index ≤ 255 → (pair_after p).index ≡ p.index % 255 + 1
index_next p most = index_case p (nat_lt p.index 255) refl most

nth_index : (k : ℕ) (p : Pair) → 1 ≤ p.index → p.index ≤ 255 → (nth k p).index ≡ (p.index - 1 + k) % 255 + 1
nth_index zero p some most = omega arith
nth_index (suc k) p some most =
    let e : (pair_after p).index ≡ p.index % 255 + 1 = index_next p most in
    let r : (nth k (pair_after p)).index ≡ ((pair_after p).index - 1 + k) % 255 + 1 = nth_index k (pair_after p) (omega arith) (omega arith) in
    omega arith

next_case : (held : List Pair) (p : Pair) (b : Bool) → IsPair p → length held ≤ 63 → is_used (next_free 255 held p) held ≡ b → b ≡ false
next_case held p false ok few e = refl
next_case held p true ok few e =
    let some : 1 ≤ p.index = ok.index_some in
    let most : p.index ≤ 255 = ok.index_most in
    let all : (i : ℕ) → 1 ≤ i → i < 1 + 255 → Elem i (indexes held) = λ i low high.
    let k : ℕ = (i + 255 - p.index) % 255 in
    let at : (nth ((i + 255 - p.index) % 255) p).index ≡ (p.index - 1 + (i + 255 - p.index) % 255) % 255 + 1 = nth_index ((i + 255 - p.index) % 255) p some most in
    let same : (nth ((i + 255 - p.index) % 255) p).index ≡ i = omega arith in
    subst (λ m. Elem m (indexes held)) same (used_elem (nth ((i + 255 - p.index) % 255) p) held (all_used 255 held p e ((i + 255 - p.index) % 255) (omega arith))) in
    let many : 255 ≤ count_from 1 (indexes held) = range_counted 255 1 (indexes held) all in
    absurd (omega (arith, indexes_count 1 held))

pub next_unused : (held : List Pair) (p : Pair) → IsPair p → length held ≤ 63 → is_used (next_free 255 held p) held ≡ false
next_unused held p ok few = next_case held p (is_used (next_free 255 held p) held) ok few refl

-- ---- it is a pair ----
following_case : (p : Pair) (b c : Bool) → nat_lt p.index 255 ≡ b → nat_lt p.ident 255 ≡ c → IsPair p
    → IsPair (if b then record { index = p.index + 1; ident = p.ident } else record { index = 1; ident = if c then p.ident + 1 else 1 })
following_case p true c e f ok =
    let low : p.index < 255 = grind (arith, nat_tests) in
    record { index_some = omega arith; index_most = omega arith; ident_some = ok.ident_some; ident_most = ok.ident_most }
following_case p false true e f ok =
    let low : p.ident < 255 = grind (arith, nat_tests) in
    record { index_some = omega arith; index_most = omega arith; ident_some = omega arith; ident_most = omega arith }
following_case p false false e f ok = record { index_some = omega arith; index_most = omega arith; ident_some = omega arith; ident_most = omega arith }

pub following_ok : (p : Pair) → IsPair p → IsPair (pair_after p)
following_ok p ok = following_case p (nat_lt p.index 255) (nat_lt p.ident 255) refl refl ok

next_ok_case : (f : ℕ) (held : List Pair) (p : Pair) (b : Bool) → IsPair p → IsPair (next_free f held (pair_after p)) → IsPair (if b then next_free f held (pair_after p) else p)
next_ok_case f held p true ok later = later
next_ok_case f held p false ok later = ok

pub next_ok : (f : ℕ) (held : List Pair) (p : Pair) → IsPair p → IsPair (next_free f held p)
next_ok zero held p ok = ok
next_ok (suc f) held p ok = next_ok_case f held p (is_used p held) ok (next_ok f held (pair_after p) (following_ok p ok))
