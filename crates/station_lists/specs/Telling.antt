-- What a station tells a user in one line. Own profile.
use Rattle.std.specs.Prelude.{ℕ, List, [], ◌∷◌, ◌++◌, codes}
use Rattle.station_lists.specs.Lists.{ended, shown}
use Rattle.station_lists.specs.declared.shown_node.ShownNode.{ShownNode}
use Rattle.station_lists.specs.declared.told.Told.{Told}
use Rattle.station_lists.specs.declared.told.Told.TheVariants as told

abbrev pub about : List ℕ → List ℕ → List ℕ
about front back = front ++ back ++ 13 ∷ []

abbrev pub named : List ℕ → ShownNode → List ℕ → List ℕ
named front node back = front ++ shown node.alias node.call ++ back

abbrev pub told_text : Told → List ℕ
told_text (told.Welcome name) = about (codes "Welcome to ") name.now
told_text (told.Trying node) = named (codes "Trying ") node (ended [])
told_text (told.Connected node) = named (codes "Connected to ") node (ended [])
told_text (told.Busy node) = named (codes "Busy from ") node (ended [])
told_text (told.Failure node) = named (codes "Failure with ") node (ended [])
told_text (told.Disconnected node) = named (codes "Disconnected from ") node (ended [])
told_text (told.LinkFailed node) = named (codes "Link to ") node (ended (codes " failed: what was under way may be lost"))
told_text (told.NoRoute typed) = about (codes "No route to ") typed.now
told_text told.ThisNode = ended (codes "That is this node")
told_text told.Stopped = ended (codes "Stopped")
told_text told.NoCircuits = ended (codes "No circuits free")
told_text told.NoMail = ended (codes "No mail here")
told_text told.NoRoom = ended (codes "No room here")
told_text told.Idle = ended (codes "Idle too long")
told_text told.GoingDown = ended (codes "This node is going down")
told_text told.Bye = ended (codes "Bye")
told_text told.LineTooLong = ended (codes "Line too long")
told_text (told.UnknownCommand word) = about (codes "Unknown command: ") word.now
told_text (told.WrongWords forms) = about (codes "Wrong words: ") forms.now
told_text (told.BadCall word) = about (codes "Bad call: ") word.now
told_text (told.NoSuchPort word) = about (codes "No such port: ") word.now
told_text (told.Said text) = about [] text.now
