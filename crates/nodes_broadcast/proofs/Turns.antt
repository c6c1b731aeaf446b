-- One entry more, as the loops go on.
use Rattle.std.proofs.Common.{◌≡◌, ◌<◌, ◌≤◌, ◌+◌, ◌++◌, ◌∙◌, ℕ, zero, suc, refl, sym, ap, subst, List, [], ◌∷◌, length, take, drop, get_or, arith, append_assoc, append-nil, drop-cons, add-one, length-drop}
use Rattle.std.specs.Prelude.{Result, Ok, Err}
use Rattle.std.specs.List.{AllByRecursion}
use Rattle.std.proofs.lemmas.List.{take_all, nil_from_length}
use Rattle.ax_address.specs.declared.entry.Entry.{Entry}
use Rattle.ax_address.specs.Results.{◌>>=◌}
use Rattle.nodes_broadcast.specs.declared.nodes.NodesRefusal.{NodesRefusal}
use Rattle.nodes_broadcast.specs.Nodes.{IsEntry, SpellsEntry, SpellsEntries, entry_octets, entries_octets, entry_at, entries_at}

-- what was read, before the rest
abbrev pub behind : List Entry → Result (List Entry) NodesRefusal → Result (List Entry) NodesRefusal
behind xs (Ok ys) = Ok (xs ++ ys)
behind xs (Err e) = Err e

pub behind_nothing : (r : Result (List Entry) NodesRefusal) → behind [] r ≡ r
behind_nothing (Ok ys) = refl
behind_nothing (Err e) = refl

behind_one : (xs : List Entry) (e : Entry) (r : Result (List Entry) NodesRefusal) → behind (xs ++ e ∷ []) r ≡ behind xs (r >>= (λ ys. Ok (e ∷ ys)))
behind_one xs e (Ok ys) = ap Ok (append_assoc xs (e ∷ []) ys)
behind_one xs e (Err w) = refl

first_read : (p : Result Entry NodesRefusal) (q : Result (List Entry) NodesRefusal) (e : Entry) (xs : List Entry) → p ≡ Ok e → behind (xs ++ e ∷ []) q ≡ behind xs (p >>= (λ x. q >>= (λ ys. Ok (x ∷ ys))))
first_read p q e xs h = rw h (behind_one xs e q)

pub read_on : (k n at after : ℕ) (os : List ℕ) (e : Entry) (xs : List Entry) → k ≡ suc n → after ≡ at + 21 → entry_at at (take 21 os) ≡ Ok e → behind (xs ++ e ∷ []) (entries_at n after (drop 21 os)) ≡ behind xs (entries_at k at os)
unfolding entries_at
read_on k n at after os e xs h g r = rw (h, g) (first_read (entry_at at (take 21 os)) (entries_at n (at + 21) (drop 21 os)) e xs r)

first_refused : (p : Result Entry NodesRefusal) (q : Result (List Entry) NodesRefusal) (w : NodesRefusal) (xs : List Entry) → p ≡ Err w → behind xs (p >>= (λ x. q >>= (λ ys. Ok (x ∷ ys)))) ≡ Err w
first_refused p q w xs h = rw h refl

pub refused_here : (k n at : ℕ) (os : List ℕ) (w : NodesRefusal) (xs : List Entry) → k ≡ suc n → entry_at at (take 21 os) ≡ Err w → behind xs (entries_at k at os) ≡ Err w
unfolding entries_at
refused_here k n at os w xs h r = rw h (first_refused (entry_at at (take 21 os)) (entries_at n (at + 21) (drop 21 os)) w xs r)

pub read_all : (k at : ℕ) (os : List ℕ) (xs : List Entry) → k ≡ 0 → behind xs (entries_at k at os) ≡ Ok xs
unfolding entries_at
read_all k at os xs h = rw h (ap Ok (append-nil xs))

-- the entries so far and one more, before others
pub spells_on : (whole : List ℕ) (xs : List Entry) (e : Entry) (os : List ℕ) → ((more : List Entry) → SpellsEntries more os → SpellsEntries (xs ++ more) whole)
    → SpellsEntry e (take 21 os) → (more : List Entry) → SpellsEntries more (drop 21 os) → SpellsEntries ((xs ++ e ∷ []) ++ more) whole
spells_on whole xs e os h s more t = rw (append_assoc xs (e ∷ []) more) (h (e ∷ more) (s, t))

pub spells_all : (whole os : List ℕ) (xs : List Entry) → ((more : List Entry) → SpellsEntries more os → SpellsEntries (xs ++ more) whole) → length os ≡ 0 → SpellsEntries xs whole
spells_all whole os xs h e = subst (λ ys. SpellsEntries ys whole) (append-nil xs) (h [] (nil_from_length os e))

pub written_on : (xs : List Entry) (i : ℕ) (e : Entry) (out new done : List ℕ) → i < length xs → e ≡ get_or xs i e → new ≡ out ++ entry_octets e → out ++ entries_octets (drop i xs) ≡ done → new ++ entries_octets (drop (i + 1) xs) ≡ done
written_on xs i e out new done within h n d =
    let this : drop i xs ≡ e ∷ drop (suc i) xs = drop-cons xs i e within ∙ ap (λ x. x ∷ drop (suc i) xs) (sym h) in
    rw (n, add-one) (append_assoc out (entry_octets e) (entries_octets (drop (suc i) xs)) ∙ (ap (λ ys. out ++ entries_octets ys) (sym this) ∙ d))

pub all_on : (xs : List Entry) (i : ℕ) (e : Entry) → i < length xs → e ≡ get_or xs i e → IsEntry e → AllByRecursion IsEntry (take i xs) → AllByRecursion IsEntry (take (i + 1) xs)
all_on xs i e within h p a = rw add-one (more xs i e within h p a)
  where
    more : (xs : List Entry) (i : ℕ) (e : Entry) → i < length xs → e ≡ get_or xs i e → IsEntry e → AllByRecursion IsEntry (take i xs) → AllByRecursion IsEntry (take (suc i) xs)
    more [] i e w h p a = absurd (omega arith)
    more (x ∷ xs) zero e w h p a = (subst IsEntry h p, tt)
    more (x ∷ xs) (suc i) e w h p a = (a.0, more xs i e (omega arith) h p a.1)

none_left : (xs : List Entry) (i : ℕ) → length xs ≤ i → drop i xs ≡ []
none_left xs i h = nil_from_length (drop i xs) (omega (arith, length-drop i xs))

pub written_all : (xs : List Entry) (i : ℕ) (out done : List ℕ) → length xs ≤ i → out ++ entries_octets (drop i xs) ≡ done → out ≡ done
written_all xs i out done h d = sym (append-nil out) ∙ (ap (λ ys. out ++ entries_octets ys) (sym (none_left xs i h)) ∙ d)

pub all_done : (xs : List Entry) (i : ℕ) → length xs ≤ i → AllByRecursion IsEntry (take i xs) → AllByRecursion IsEntry xs
all_done xs i h a = subst (λ ys. AllByRecursion IsEntry ys) (take_all i xs h) a
