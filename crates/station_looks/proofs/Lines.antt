-- Rows that come to the same lines come to the same text.
use Rattle.std.proofs.Common.{◌≡◌, ◌-◌, ◌++◌, ◌∷◌, ◌∙◌, [], ℕ, Bool, true, false, cond, sym, ap, List, append-nil, flat_map, map, length, take}
use Rattle.std.proofs.lemmas.List.{length-map, map_push, take-map}
use Rattle.std.proofs.lemmas.List.Folds.{flat_map-map}

pub same_length : {A B : Type 0} (f : A → B) (xs ys : List A) → map f xs ≡ map f ys → length xs ≡ length ys
same_length f xs ys e = sym (length-map xs f) ∙ (ap length e ∙ length-map ys f)

pub same_text : {A B : Type 0} (f : A → List B) (xs ys : List A) → map f xs ≡ map f ys → flat_map f xs ≡ flat_map f ys
same_text f xs ys e = sym (flat_map-map (λ x. x) f xs) ∙ (ap (flat_map (λ x. x)) e ∙ flat_map-map (λ x. x) f ys)

pub same_front : {A B : Type 0} (f : A → B) (n : ℕ) (xs ys : List A) → map f xs ≡ map f ys → map f (take n xs) ≡ map f (take n ys)
same_front f n xs ys e = sym (take-map f n xs) ∙ (ap (take n) e ∙ take-map f n ys)

-- of a list that names the first of its rows, and then tells how many there are beside them
pub same_list : {A B : Type 0} (f : A → List B) (most : ℕ) (head : List B) (more : ℕ → List B) (xs ys : List A) → map f xs ≡ map f ys
    → head ++ flat_map f (take most xs) ++ more (length xs - most) ≡ head ++ flat_map f (take most ys) ++ more (length ys - most)
same_list f most head more xs ys e =
    ap (λ lines. head ++ lines ++ more (length xs - most)) (same_text f (take most xs) (take most ys) (same_front f most xs ys e))
    ∙ ap (λ n. head ++ flat_map f (take most ys) ++ more (n - most)) (same_length f xs ys e)

-- one row more, of the line of another one
pub row_added : {A B : Type 0} (line : A → B) (old new : List A) (row want : A) → new ≡ old ++ row ∷ [] → line row ≡ line want
    → map line new ≡ map line old ++ map line (want ∷ [])
row_added line old new row want more e = ap (map line) more ∙ (map_push line old row ∙ ap (λ one. map line old ++ one ∷ []) e)

-- the same under a test
pub row_added_by : {A B : Type 0} (line : A → B) (b : Bool) (old new : List A) (row want : A) → b ≡ true → new ≡ old ++ row ∷ [] → line row ≡ line want
    → map line new ≡ map line old ++ map line (cond b (want ∷ []) [])
row_added_by line b old new row want test more e =
    row_added line old new row want more e ∙ ap (λ t. map line old ++ map line (cond t (want ∷ []) [])) (sym test)

pub no_row_by : {A B : Type 0} (line : A → B) (b : Bool) (all : List A) (want : A) → b ≡ false
    → map line all ≡ map line all ++ map line (cond b (want ∷ []) [])
no_row_by line b all want test = sym (append-nil (map line all)) ∙ ap (λ t. map line all ++ map line (cond t (want ∷ []) [])) (sym test)
