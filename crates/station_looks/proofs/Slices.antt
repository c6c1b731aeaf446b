-- What is collected of the elements of a slice, one after another.
use Rattle.std.proofs.Common.{◌≡◌, ◌<◌, ◌+◌, ◌++◌, ◌∷◌, ◌∙◌, [], ℕ, refl, sym, ap, List, flat_map, get_or, length, map, take, append-nil, append_assoc}
use Rattle.std.proofs.lemmas.Grind.{flat_map-append}
use Rattle.std.proofs.lemmas.List.{map-append, map_more, take_more}

pub flat_more : {A B : Type 0} (f : A → List B) (xs : List A) (i : ℕ) (x : A) → i < length xs → x ≡ get_or xs i x
    → flat_map f (take (i + 1) xs) ≡ flat_map f (take i xs) ++ f x
flat_more f xs i x h is =
    ap (flat_map f) (take_more xs i x h ∙ ap (λ e. take i xs ++ e ∷ []) (sym is))
    ∙ (flat_map-append f (take i xs) (x ∷ []) ∙ ap (λ ys. flat_map f (take i xs) ++ ys) (append-nil (f x)))

pub listed : {A B : Type 0} (f : A → List B) (xs : List A) (i : ℕ) (x : A) (base old new one : List B) → i < length xs → x ≡ get_or xs i x
    → old ≡ base ++ flat_map f (take i xs) → new ≡ old ++ one → one ≡ f x → new ≡ base ++ flat_map f (take (i + 1) xs)
listed f xs i x base old new one h is before more eq =
    let front = flat_map f (take i xs) in
    more
    ∙ (ap (λ ys. ys ++ one) before
    ∙ (append_assoc base front one ∙ ap (λ ys. base ++ ys) (ap (λ ys. front ++ ys) eq ∙ sym (flat_more f xs i x h is))))

pub mapped : {A B : Type 0} (f : A → B) (xs : List A) (i : ℕ) (x : A) (base old new : List B) → i < length xs → x ≡ get_or xs i x
    → old ≡ base ++ map f (take i xs) → new ≡ old ++ f x ∷ [] → new ≡ base ++ map f (take (i + 1) xs)
mapped f xs i x base old new h is before more =
    let front = map f (take i xs) in
    more
    ∙ (ap (λ ys. ys ++ f x ∷ []) before
    ∙ (append_assoc base front (f x ∷ []) ∙ ap (λ ys. base ++ ys) (ap (λ y. front ++ f y ∷ []) is ∙ sym (map_more f xs i x h))))

-- lines of what is collected
pub lined : {A B C : Type 0} (line : B → C) (f : A → List B) (xs : List A) (i : ℕ) (x : A) (base old new : List C) → i < length xs
    → x ≡ get_or xs i x → old ≡ base ++ map line (flat_map f (take i xs)) → new ≡ old ++ map line (f x)
    → new ≡ base ++ map line (flat_map f (take (i + 1) xs))
lined line f xs i x base old new h is before more =
    let front = flat_map f (take i xs) in
    more
    ∙ (ap (λ ys. ys ++ map line (f x)) before
    ∙ (append_assoc base (map line front) (map line (f x))
    ∙ ap (λ ys. base ++ ys) (sym (map-append line front (f x)) ∙ ap (map line) (sym (flat_more f xs i x h is)))))

pub lines_of : {A B C : Type 0} (line : B → C) (f : A → List B) (xs : List A) → flat_map (λ x. map line (f x)) xs ≡ map line (flat_map f xs)
lines_of line f [] = refl
lines_of line f (x ∷ xs) = ap (λ ys. map line (f x) ++ ys) (lines_of line f xs) ∙ sym (map-append line (f x) (flat_map f xs))
