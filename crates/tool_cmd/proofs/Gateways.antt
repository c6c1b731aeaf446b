-- Items one after the other.
use Rattle.std.proofs.Common.{◌≡◌, ◌++◌, ◌∙◌, ℕ, refl, List, [], ◌∷◌, append_assoc, append-nil}
use Rattle.std.specs.Prelude.{Some}
use Rattle.kiss_framing.specs.Stream.{Item}
use Rattle.kiss_framing.specs.Feeding.{handed_out}
use Rattle.kiss_framing.specs.declared.item.KissItem.{KissItem}
use Rattle.kiss_framing.specs.declared.item.KissItem.TheVariants as kiss
use Rattle.kiss_framing.proofs.Handing.{handed_is}
use Rattle.ax_ip.specs.Machine.{State}
use Rattle.tool_cmd.specs.Gateways.{by_item, by_items, item_of}

abbrev both : State → List ℕ → State × List ℕ
both s sent = (s, sent)

ahead : (first : List ℕ) (r : State × List ℕ) (s : State) (a b : List ℕ) → r ≡ both s (a ++ b) → both r.0 (first ++ r.1) ≡ both s ((first ++ a) ++ b)
ahead first r s a b e = rw (e, append_assoc first a b) refl

items_add : (s : State) (items more : List Item) → by_items s (items ++ more) ≡ both (by_items (by_items s items).0 more).0 ((by_items s items).1 ++ (by_items (by_items s items).0 more).1)
items_add s [] more = refl
items_add s (item ∷ items) more =
    let next = (by_item s item).0 in
    ahead (by_item s item).1 (by_items next (items ++ more)) (by_items (by_items next items).0 more).0 (by_items next items).1 (by_items (by_items next items).0 more).1 (items_add next items more)

-- the items of a stream, and one more
pub one_more : (s last next : State) (before : List Item) (item : KissItem) (text more : List ℕ) → by_items s before ≡ (last, text) → next ≡ (by_item last (item_of item)).0 → more ≡ (by_item last (item_of item)).1 → by_items s (before ++ handed_out (Some item)) ≡ (next, text ++ more)
one_more s last next before item text more e n m =
    rw (handed_is item) (items_add s before (item_of item ∷ []) ∙ rw (e, n, m, append-nil (by_item last (item_of item)).1) refl)
