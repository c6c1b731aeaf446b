-- What would be heard was read.
use Rattle.std.proofs.Common.{◌≡◌, ℕ, List, drop, Bool, true, false, cond, Some, sym, subst}
use Rattle.ax_address.specs.Callsign.{Callsign}
use Rattle.node_mail.specs.declared.mail.Mail.{Mail}
use Rattle.node_mail.specs.declared.heard.Heard.{Heard}
use Rattle.node_mail.specs.declared.heard.Heard.TheVariants.{Stored, Again, Settled, Stray, Full}
use Rattle.node_mail.specs.declared.wire_head.WireHead.{WireHead}
use Rattle.node_mail.specs.declared.wire_head.WireHead.TheVariants as head
use Rattle.node_mail.specs.Heads.{wire_of}
use Rattle.node_mail.specs.Wires.{Spells, IsNumber, IsText}
use Rattle.node_mail.specs.Lists.{Letter, IsHeardIn, heard_by, is_full, is_stored, is_queued_for}

mail_case : (octets : List ℕ) (n : ℕ) (to : Callsign) (known full : Bool) → IsNumber n → IsText (drop 16 octets) → IsHeardIn octets (cond known (Again n) (cond full (Full n) (Stored n to)))
mail_case octets n to true full number text = tt
mail_case octets n to false true number text = tt
mail_case octets n to false false number text = (number, text)

receipt_case : (octets : List ℕ) (n : ℕ) (there : Bool) → IsNumber n → IsHeardIn octets (cond there (Settled n) (Stray n))
receipt_case octets n true number = number
receipt_case octets n false number = tt

by_head : (octets : List ℕ) (queued : List Letter) (stored : List Mail) (from : Callsign) (it : WireHead) → Spells (wire_of (drop 16 octets) it) octets
    → IsHeardIn octets (heard_by queued stored from (Some (wire_of (drop 16 octets) it)))
by_head octets queued stored from (head.Carries n to) spelled =
    mail_case octets n to (is_stored stored from n) (is_full stored) spelled.spells_number.is_number spelled.is_text
by_head octets queued stored from (head.Receipt n) spelled = receipt_case octets n (is_queued_for queued from n) spelled.spells_number.is_number

pub heard_in : (octets : List ℕ) (queued : List Letter) (stored : List Mail) (from : Callsign) (it : WireHead) → Spells (wire_of (drop 16 octets) it) octets
    → (h : Heard) → h ≡ heard_by queued stored from (Some (wire_of (drop 16 octets) it)) → IsHeardIn octets h
heard_in octets queued stored from it spelled h e = subst (IsHeardIn octets) (sym e) (by_head octets queued stored from it spelled)
