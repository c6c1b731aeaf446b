-- What the code has read, as a message. No public clause cites it: not for the reader of a contract.
use Rattle.std.specs.Prelude.{ℕ, ◌≤◌, List, length, Option, Some, None, Result, Ok, Err}
use Rattle.ax_address.specs.Callsign.{Callsign}
use Rattle.ax_address.specs.declared.address_refusal.AddressRefusal.{AddressRefusal}
use Rattle.node_mail.specs.declared.wire_head.WireHead.{WireHead}
use Rattle.node_mail.specs.declared.wire_head.WireHead.TheVariants as head
use Rattle.node_mail.specs.Wires.{Wire, Carries, Receipt}

-- with this text
abbrev pub wire_of : List ℕ → WireHead → Wire
wire_of text (head.Carries number to) = Carries number to text
wire_of text (head.Receipt number) = Receipt number

abbrev pub call_or_none : Result Callsign AddressRefusal → Option Callsign
call_or_none (Ok call) = Some call
call_or_none (Err refusal) = None

abbrev pub IsReceipt : WireHead → Type 0
IsReceipt (head.Carries number to) = ⊥
IsReceipt (head.Receipt number) = Unit {0}

-- a mail has room for its text
abbrev pub IsSized : List ℕ → WireHead → Type 0
IsSized octets (head.Carries number to) = (16 ≤ length octets) × (length octets ≤ 1040)
IsSized octets (head.Receipt number) = Unit {0}
