-- The frames of a node's links: what of a link's frames goes on the air, and over which addresses (AX.25 2.2, section 3).
use Rattle.std.specs.Prelude.{ℕ, Bool, not, nat_le, if◌then◌else◌, List, [], ◌∷◌, ◌++◌, length, true, false}
use Rattle.std.proofs.Common.{lit≤}
use Rattle.arrayvec.specs.ArrayVec.{ArrayVec}
use Rattle.ax_address.specs.Callsign.{Callsign}
use Rattle.ax_address.specs.declared.address.Address.{Address}
use Rattle.ax_frame.specs.declared.control.Control.{Control}
use Rattle.ax_frame.specs.declared.control.Control.TheVariants as control
use Rattle.ax_frame.specs.declared.head.Head.{Head}
use Rattle.ax_frame.specs.Frames.{Frame as AirFrame, frame, frame_octets, head}
use Rattle.ax_link.specs.Kinds.{control_of, info_of, pid_of}
use Rattle.ax_link.specs.State.{Frame}

-- the PIDs (AX.25 2.2, section 3.4) of what NET/ROM sends, of text, and of a segment of a longer message
abbrev pub netrom : ℕ
netrom = 0xCF

abbrev pub plain_text : ℕ
plain_text = 0xF0

abbrev pub segmented : ℕ
segmented = 0x08

-- the most octets of a frame that is put out
abbrev pub most_octets : ℕ
most_octets = 1023

-- the address of a node's own frame: its reserved bits are 1
abbrev pub end_address : Callsign → Bool → Address
end_address call bit7 = record { call = call; bit7 = bit7; reserved = 3; two_bits = lit≤ tt }

-- the addresses of a frame of the node `own` to a peer over these repeaters: a command has the C bit of the destination
-- set, a response that of the source
abbrev pub head_to : Callsign → Callsign → ArrayVec Address → Bool → Head
head_to own peer path command = head (end_address peer command) (end_address own (not command)) path

-- a frame that was put out, with sequence numbers modulo 8 or 128
pub record Sent : Type 0 where
  pub size : ℕ
  pub frame : AirFrame

abbrev pub sent : ℕ → AirFrame → Sent
sent size f = record { size = size; frame = f }

abbrev pub octets_of : Sent → List ℕ
octets_of s = frame_octets s.size s.frame

-- what goes on the air of a frame: nothing where it has too many octets, as an answer to TEST may have
abbrev pub fitting : Sent → List Sent
fitting s = if nat_le (length (octets_of s)) most_octets then s ∷ [] else []

-- a frame of a link of this modulus, as it goes to the peer over these repeaters
abbrev pub sent_by : ℕ → Callsign → Callsign → ArrayVec Address → Frame → Sent
sent_by size own peer path f =
    sent size (frame (head_to own peer path f.command) (control_of size f.kind) (pid_of f.payload) (info_of f.payload))

-- the frames of a link, one after another
abbrev pub all_sent : ℕ → Callsign → Callsign → ArrayVec Address → List Frame → List Sent
all_sent size own peer path [] = []
all_sent size own peer path (f ∷ fs) = fitting (sent_by size own peer path f) ++ all_sent size own peer path fs

-- whether a frame has sequence numbers; else its octets are the same by either modulus
abbrev pub is_numbered : Control → Bool
is_numbered (control.I ns nr pf) = true
is_numbered (control.Rr nr pf) = true
is_numbered (control.Rnr nr pf) = true
is_numbered (control.Rej nr pf) = true
is_numbered (control.Srej nr pf) = true
is_numbered _ = false
