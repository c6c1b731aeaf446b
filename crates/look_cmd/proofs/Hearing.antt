-- Items one after the other.
use Rattle.std.proofs.Common.{◌≡◌, ◌++◌, ◌∙◌, ℕ, refl, List, [], ◌∷◌, append_assoc, append-nil}
use Rattle.std.specs.Prelude.{Some}
use Rattle.kiss_framing.specs.Stream.{Item}
use Rattle.kiss_framing.specs.Feeding.{handed_out}
use Rattle.kiss_framing.specs.declared.item.KissItem.{KissItem}
use Rattle.kiss_framing.specs.declared.item.KissItem.TheVariants as kiss
use Rattle.kiss_framing.proofs.Handing.{handed_is}
use Rattle.frame_lines.specs.Hearing.{Listening, by_item, by_items, item_of}

abbrev both : Listening → List ℕ → Listening × List ℕ
both l text = (l, text)

ahead : (first : List ℕ) (r : Listening × List ℕ) (l : Listening) (a b : List ℕ) → r ≡ both l (a ++ b) → both r.0 (first ++ r.1) ≡ both l ((first ++ a) ++ b)
ahead first r l a b e = rw (e, append_assoc first a b) refl

items_add : (l : Listening) (items more : List Item) → by_items l (items ++ more) ≡ both (by_items (by_items l items).0 more).0 ((by_items l items).1 ++ (by_items (by_items l items).0 more).1)
items_add l [] more = refl
items_add l (item ∷ items) more =
    let next = (by_item l item).0 in
    ahead (by_item l item).1 (by_items next (items ++ more)) (by_items (by_items next items).0 more).0 (by_items next items).1 (by_items (by_items next items).0 more).1 (items_add next items more)

-- the items of a stream, and one more
pub one_more : (l last next : Listening) (before : List Item) (item : KissItem) (text more : List ℕ) → by_items l before ≡ (last, text) → next ≡ (by_item last (item_of item)).0 → more ≡ (by_item last (item_of item)).1 → by_items l (before ++ handed_out (Some item)) ≡ (next, text ++ more)
one_more l last next before item text more e n m =
    rw (handed_is item) (items_add l before (item_of item ∷ []) ∙ rw (e, n, m, append-nil (by_item last (item_of item)).1) refl)
