-- What a user sees of a node.
use Rattle.std.proofs.Common.{◌≡◌, ◌<◌, ◌≤◌, ◌+◌, ◌∙◌, ℕ, zero, suc, refl, sym, ap, arith, List, [], ◌∷◌, ◌++◌, length, take, get_or, add-one, Bool, true, false, filter, flat_map, length-append, append-nil}
use Rattle.std.specs.Prelude.{Option, Result, Ok, Err, IsOk, OnOk, OnErr, min, slice_get}
use Rattle.std.specs.Option.{option_to_list}
use Rattle.std.proofs.lemmas.List.{length-take, take_all, take-take}
use Rattle.std.proofs.lemmas.List.Concat.{flat_map-append}
use Rattle.std.proofs.lemmas.List.Elements.{filter_more}
use Rattle.arrayvec.specs.ArrayVec.{ArrayVec}
use Rattle.node_prompt.specs.declared.view.View.TheVariants as see
use Rattle.route_table.specs.declared.route.Route.{Route}

-- ---- a list that is full at so many

kept_behind : {X : Type 0} (n : ℕ) (xs : List X) (x : X) → length (take n xs) < n → take n xs ++ x ∷ [] ≡ take n (xs ++ x ∷ [])
kept_behind zero xs x h = absurd (omega (arith, h))
kept_behind (suc zero) [] x h = refl
kept_behind (suc (suc n)) [] x h = refl
kept_behind (suc n) (y ∷ ys) x h = ap (λ zs. y ∷ zs) (kept_behind n ys x (omega (arith, h)))

full_stays : {X : Type 0} (n : ℕ) (xs : List X) (x : X) → length (take n xs) ≡ n → take n xs ≡ take n (xs ++ x ∷ [])
full_stays zero xs x h = refl
full_stays (suc n) [] x h = absurd (omega (arith, h))
full_stays (suc n) (y ∷ ys) x h = ap (λ zs. y ∷ zs) (full_stays n ys x (omega (arith, h)))

-- one more item that a filter leaves out
pub left_out : {X : Type 0} (p : X → Bool) (xs : List X) (i : ℕ) (x : X) → i < length xs → x ≡ get_or xs i x → p x ≡ false → filter p (take (i + 1) xs) ≡ filter p (take i xs)
left_out p xs i x h e leaves = rw (filter_more p xs i x h, ← e, leaves) (append-nil (filter p (take i xs)))

-- one more that it keeps
pub kept_one : {X : Type 0} (p : X → Bool) (xs : List X) (i : ℕ) (x : X) → i < length xs → x ≡ get_or xs i x → p x ≡ true → filter p (take (i + 1) xs) ≡ filter p (take i xs) ++ x ∷ []
kept_one p xs i x h e keeps = rw (filter_more p xs i x h, ← e, keeps) refl

-- ---- what each item of a list brings

takes_suc : {X : Type 0} (xs : List X) (i : ℕ) → take (suc i) xs ≡ take i xs ++ option_to_list (slice_get xs i)
takes_suc [] zero = refl
takes_suc [] (suc i) = refl
takes_suc (x ∷ xs) zero = refl
takes_suc (x ∷ xs) (suc i) = ap (λ ys. x ∷ ys) (takes_suc xs i)

-- so many, and the next, where there is one
flat_next : {X Y : Type 0} (f : X → List Y) (xs : List X) (i : ℕ) → flat_map f (take (i + 1) xs) ≡ flat_map f (take i xs) ++ flat_map f (option_to_list (slice_get xs i))
flat_next f xs i = rw (add-one, takes_suc xs i) (flat_map-append f (take i xs) (option_to_list (slice_get xs i)))

-- what the next one brings is put behind
pub next_pushed : {X Y : Type 0} (f : X → List Y) (xs : List X) (i : ℕ) (o : Option Y) (old new : List Y) → old ≡ flat_map f (take i xs) → option_to_list o ≡ flat_map f (option_to_list (slice_get xs i)) → new ≡ old ++ option_to_list o
    → new ≡ flat_map f (take (i + 1) xs)
next_pushed f xs i o old new before brings is = rw (flat_next f xs i, ← before, ← brings) is

-- a push into such a list, which may be refused
pub pushed : {X E : Type 0} (n : ℕ) (xs : List X) (x : X) (old new : ArrayVec X) (r : Result (Unit {0}) E) → old.items ≡ take n xs → (IsOk r → length old.items < n) → OnOk r (new.items ≡ old.items ++ x ∷ []) → OnErr r (length old.items ≡ n) → OnErr r (new ≡ old)
    → (new.items ≡ take n (xs ++ x ∷ [])) × (length new.items ≤ n)
pushed n xs x old new (Ok u) e less items full stays =
    let k : length old.items < n = less refl in
    let m = ap (λ (ys : List _). length ys) items in
    (items ∙ ap (λ ys. ys ++ x ∷ []) e ∙ kept_behind n xs x (rw (← e) k), omega (arith, m, length-append old.items (x ∷ []), k))
pushed n xs x old new (Err w) e less items full stays =
    let same = ap (λ (v : ArrayVec _). v.items) stays in
    let m = ap (λ (ys : List _). length ys) same in
    (same ∙ e ∙ full_stays n xs x (rw (← e) full), omega (arith, m, full))

-- so many items, or all where there are fewer
pub first_so_many : {X : Type 0} (n m i : ℕ) (xs : List X) → m ≡ min (length xs) n → length (take m xs) ≤ i → take i (take m xs) ≡ take n xs
first_so_many n m i xs e h =
    take_all i (take m xs) h ∙ sym (take-take m n xs (omega (arith, e))) ∙ take_all m (take n xs) (omega (arith, length-take n xs, e))

-- ---- views

pub nodes_seen : (v : ArrayVec Route) (nodes : List Route) (m more : ℕ) → v.items ≡ nodes → m ≡ more → see.Nodes v m ≡ see.Nodes (record { items = nodes }) more
nodes_seen v nodes m more a b = rw (← a, ← b) refl

pub neighbours_seen : (v : ArrayVec Route) (routes : List Route) → v.items ≡ routes → see.Routes v ≡ see.Routes (record { items = routes })
neighbours_seen v routes a = rw (← a) refl
