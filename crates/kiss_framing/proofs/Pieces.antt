-- A stream that is one byte longer, piece by piece.
use Rattle.std.proofs.Common.{◌≡◌, ℕ, Bool, true, false, ◌==◌, List, [], ◌∷◌, ◌++◌, refl, ap, sym, ◌∙◌, append_assoc}
use Rattle.std.proofs.lemmas.Grind.{flat_map-append}
use Rattle.std.proofs.lemmas.List.{append-nil}
use Rattle.std.specs.List.{flat_map}
use Rattle.kiss_framing.specs.declared.TheConstants.{FEND}
use Rattle.kiss_framing.specs.Stream.{Item, pieces, items_of_pieces, ended_items, open_items, unescaped, items, last_piece}

-- the ended pieces and the last one, before and behind one byte more
pub record Cut (bytes : List ℕ) : Type 0 where
  pub front : List (List ℕ)
  pub last : List ℕ
  pub whole : pieces bytes ≡ front ++ last ∷ []
  pub ended : (b : ℕ) (more : List ℕ) → (b == FEND) ≡ true → pieces (bytes ++ b ∷ more) ≡ (front ++ last ∷ []) ++ pieces more
  pub longer : (b : ℕ) → (b == FEND) ≡ false → pieces (bytes ++ b ∷ []) ≡ front ++ (last ++ b ∷ []) ∷ []

cut_behind_fend : (x : ℕ) (xs : List ℕ) → (x == FEND) ≡ true → Cut xs → Cut (x ∷ xs)
cut_behind_fend x xs e c =
    record {
      front = [] ∷ c.front;
      last = c.last;
      whole = rw (e, c.whole);
      ended = λ b more h. rw (e, c.ended b more h);
      longer = λ b h. rw (e, c.longer b h);
    }

cut_onto_first : (x : ℕ) (xs : List ℕ) → (x == FEND) ≡ false → (c : Cut xs) → (front : List (List ℕ)) → c.front ≡ front → Cut (x ∷ xs)
cut_onto_first x xs e c [] h =
    record {
      front = [];
      last = x ∷ c.last;
      whole = rw (e, c.whole, h);
      ended = λ b more f. rw (e, c.ended b more f, h);
      longer = λ b n. rw (e, c.longer b n, h);
    }
cut_onto_first x xs e c (piece ∷ rest) h =
    record {
      front = (x ∷ piece) ∷ rest;
      last = c.last;
      whole = rw (e, c.whole, h);
      ended = λ b more f. rw (e, c.ended b more f, h);
      longer = λ b n. rw (e, c.longer b n, h);
    }

cut_by : (x : ℕ) (xs : List ℕ) → Cut xs → (t : Bool) → (x == FEND) ≡ t → Cut (x ∷ xs)
cut_by x xs c true e = cut_behind_fend x xs e c
cut_by x xs c false e = cut_onto_first x xs e c c.front refl

pub cut_of : (bytes : List ℕ) → Cut bytes
cut_of [] = record { front = []; last = []; whole = refl; ended = λ b more h. rw h; longer = λ b h. rw h }
cut_of (x ∷ xs) = cut_by x xs (cut_of xs) (x == FEND) refl

-- what ended pieces give
abbrev pub given_by : List (List ℕ) → List Item
given_by front = flat_map (λ piece. ended_items (unescaped piece)) front

pub items_of_front : (front : List (List ℕ)) (last : List ℕ) → items_of_pieces (front ++ last ∷ []) ≡ given_by front ++ open_items (unescaped last)
items_of_front [] last = refl
items_of_front (piece ∷ []) last = rw append-nil refl
items_of_front (piece ∷ next ∷ rest) last =
    ap (λ more. ended_items (unescaped piece) ++ more) (items_of_front (next ∷ rest) last)
    ∙ sym (append_assoc (ended_items (unescaped piece)) (given_by (next ∷ rest)) (open_items (unescaped last)))

pub last_of_front : (front : List (List ℕ)) (last : List ℕ) → last_piece (front ++ last ∷ []) ≡ last
last_of_front [] last = refl
last_of_front (piece ∷ []) last = refl
last_of_front (piece ∷ next ∷ rest) last = last_of_front (next ∷ rest) last

-- what pieces give behind ended ones
pub items_behind : (front : List (List ℕ)) (bytes : List ℕ) → items_of_pieces (front ++ pieces bytes) ≡ given_by front ++ items bytes
items_behind front bytes =
    let c = cut_of bytes in
    rw (c.whole)
    (ap items_of_pieces (sym (append_assoc front c.front (c.last ∷ [])))
    ∙ items_of_front (front ++ c.front) c.last
    ∙ ap (λ more. more ++ open_items (unescaped c.last)) (flat_map-append (λ piece. ended_items (unescaped piece)) front c.front)
    ∙ append_assoc (given_by front) (given_by c.front) (open_items (unescaped c.last))
    ∙ ap (λ more. given_by front ++ more) (sym (items_of_front c.front c.last)))
