-- The lines of items.
use Rattle.std.proofs.Common.{◌≡◌, ◌≢◌, ◌++◌, ◌-◌, ℕ, List, [], ◌∷◌, refl, sym, inl, inr, codes, length, arith, false, append_assoc, append-nil}
use Rattle.std.specs.Prelude.{◌==◌, Some}
use Rattle.std.proofs.lemmas.Bool.Decides.{nat_tests}
use Rattle.kiss_framing.specs.Stream.{Item, Frame as Piece}
use Rattle.ax_frame.specs.declared.frame.FrameRefusal.{FrameRefusal}
use Rattle.ax_frame.specs.Frames.{Frame, Spells}
use Rattle.ax_frame.specs.FrameText.{frame_text, number_text}
use Rattle.ax_frame.specs.Reading.{first_fault}
use Rattle.frame_lines.specs.Listing.{IsDataLine, IsLine, bad_line, command_line, frame_line, refusal_text, Lists}

-- one item's line lists that item
pub lists-one : (size : ℕ) (item : Item) (line : List ℕ) → IsLine size item line → Lists size (item ∷ []) line
lists-one size item line l = (line, [], l, refl, sym (append-nil line))

pub data_line : (size port command : ℕ) (payload line : List ℕ) → command ≡ 0 → IsDataLine size port payload line → IsLine size (Piece port command payload) line
data_line size port command payload line e l = rw e l

pub other_line : (size port command : ℕ) (payload : List ℕ) → command ≢ 0 → IsLine size (Piece port command payload) (command_line port command (length payload))
other_line size port command payload n = let e : (command == 0) ≡ false = grind (arith, nat_tests) in rw e refl

-- a text that gains the port, a space, a frame and a line feed has gained their line
pub gained : (old port space frame feed : List ℕ) → ((old ++ (port ++ space)) ++ frame) ++ feed ≡ old ++ (port ++ (space ++ (frame ++ feed)))
gained old port space frame feed = simp append_assoc

-- the same as port, text and line feed
as_three : (port start text feed : List ℕ) → port ++ (start ++ (text ++ feed)) ≡ (port ++ (start ++ text)) ++ feed
as_three port start text feed = simp append_assoc

pub shows_frame : (size port : ℕ) (octets : List ℕ) (f : Frame) → Spells size f octets → IsDataLine size port octets (frame_line port f)
shows_frame size port octets f spelled = (
  codes " " ++ frame_text f,
  inl (record { frame = f; spelled = spelled; shown = refl }),
  as_three (number_text (codes "port=") port) (codes " ") (frame_text f) (codes "\n"),
)

pub shows_fault : (size port : ℕ) (octets : List ℕ) (e : FrameRefusal) → first_fault size octets ≡ Some e → IsDataLine size port octets (bad_line port e)
shows_fault size port octets e first = (
  codes " bad " ++ refusal_text e,
  inr (record { fault = e; first = first; shown = refl }),
  as_three (number_text (codes "port=") port) (codes " bad ") (refusal_text e) (codes "\n"),
)
