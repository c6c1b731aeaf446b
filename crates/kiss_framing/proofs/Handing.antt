-- What is handed out is the item itself.
use Rattle.std.proofs.Common.{◌≡◌, refl, [], ◌∷◌}
use Rattle.std.specs.Prelude.{Some}
use Rattle.kiss_framing.specs.declared.item.KissItem.{KissItem}
use Rattle.kiss_framing.specs.declared.item.KissItem.TheVariants as kiss
use Rattle.kiss_framing.specs.Feeding.{handed_out, item_of}

pub handed_is : (item : KissItem) → handed_out (Some item) ≡ item_of item ∷ []
handed_is (kiss.Frame port command payload) = refl
handed_is kiss.TooLong = refl
