-- What the deframer answers, and what it is once that is given back.
use Rattle.std.specs.Prelude.{◌≡◌, ℕ, ◌≤◌, ◌<◌, List, [], ◌∷◌, ◌++◌, length, take, Option, None, Some, ⊤}
use Rattle.std.specs.Borrow.{follows_so, MutBor, Fml}
use mathlib.Core.Option.{none}
use Rattle.kiss_framing.specs.declared.item.KissItem.{KissItem}
use Rattle.kiss_framing.specs.declared.item.KissItem.TheVariants as kiss
use Rattle.kiss_framing.specs.contracts.deframer.Deframer.{the_row}
use Rattle.kiss_framing.specs.Stream.{Item, Frame, Too_long, items, HeldPiece, StandsFor}

-- the item that is handed out, if any
abbrev pub handed_out : Option KissItem → List Item
handed_out None = []
handed_out (Some (kiss.Frame port command payload)) = Frame port command payload.now ∷ []
handed_out (Some kiss.TooLong) = Too_long ∷ []

-- an item of the code as such an item
abbrev pub item_of : KissItem → Item
item_of (kiss.Frame port command payload) = Frame port command payload.now
item_of kiss.TooLong = Too_long

-- the numbers of a frame, and its payload, are small
abbrev pub IsSmall : KissItem → Type 0
IsSmall (kiss.Frame port command payload) = (port ≤ 15) × (command ≤ 15) × (length payload.now ≤ 1023)
IsSmall kiss.TooLong = Unit {0}

-- once what was lent is given back, the deframer stands for the stream that it stood for, with these bytes behind it
abbrev pub TakesIn : MutBor HeldPiece → List ℕ → Fml
TakesIn deframer bytes =
    follows_so the_row the_row deframer.ghost_name none (λ _ _. ⊤)
    (λ later. (stream : List ℕ) → StandsFor deframer.now stream → StandsFor later (stream ++ bytes))

-- fewer than `count` of these bytes complete no item behind this stream
abbrev pub IsQuietBefore : ℕ → List ℕ → List ℕ → Type 0
IsQuietBefore count stream bytes = (fewer : ℕ) → fewer < count → items (stream ++ take fewer bytes) ≡ items stream
