-- The lines of a KISS stream, one for each of its items (this project's profile).
use Rattle.std.specs.Prelude.{ℕ, ◌≡◌, ◌⊎◌, ◌==◌, ◌++◌, List, [], ◌∷◌, length, Some, codes}
use Rattle.std.specs.Bool.{MatchBool}
use Rattle.kiss_framing.specs.Stream.{Item, Frame as Piece, Too_long}
use Rattle.ax_frame.specs.declared.frame.FrameRefusal.{FrameRefusal}
use Rattle.ax_frame.specs.declared.frame.FrameRefusal.TheVariants.{Short, BadCall, TooManyRepeaters, BadControl, NoPid, ExtraInfo}
use Rattle.ax_frame.specs.Frames.{Frame, Spells}
use Rattle.ax_frame.specs.Reading.{first_fault}
use Rattle.ax_frame.specs.FrameText.{frame_text, number_text}

-- a fault's word, and the place of the octet that shows it
abbrev pub refusal_text : FrameRefusal → List ℕ
refusal_text (Short at) = number_text (codes "short ") at
refusal_text (BadCall at) = number_text (codes "call ") at
refusal_text TooManyRepeaters = codes "repeaters"
refusal_text (BadControl at) = number_text (codes "control ") at
refusal_text (NoPid at) = number_text (codes "pid ") at
refusal_text (ExtraInfo at) = number_text (codes "extra ") at

-- the octets spell a frame, and the text is the frame's
pub record ShowsFrame (size : ℕ) (octets text : List ℕ) : Type 0 where
  pub frame : Frame
  pub spelled : Spells size frame octets
  pub shown : text ≡ codes " " ++ frame_text frame

-- the octets have a first fault, and the text names it
pub record ShowsFault (size : ℕ) (octets text : List ℕ) : Type 0 where
  pub fault : FrameRefusal
  pub first : first_fault size octets ≡ Some fault
  pub shown : text ≡ codes " bad " ++ refusal_text fault

-- port=P FRAME, or port=P bad FAULT
abbrev pub IsDataLine : ℕ → ℕ → List ℕ → List ℕ → Type 0
IsDataLine size port octets line =
    (text : List ℕ) × (ShowsFrame size octets text ⊎ ShowsFault size octets text) × (line ≡ number_text (codes "port=") port ++ text ++ codes "\n")

-- port=P command=C len=L
abbrev pub command_line : ℕ → ℕ → ℕ → List ℕ
command_line port command len =
    number_text (codes "port=") port ++ number_text (codes " command=") command ++ number_text (codes " len=") len ++ codes "\n"

-- the line of an item: command 0 is data
abbrev pub IsLine : ℕ → Item → List ℕ → Type 0
IsLine size (Piece port command payload) line =
    MatchBool (command == 0) (IsDataLine size port payload line) (line ≡ command_line port command (length payload))
IsLine size Too_long line = line ≡ codes "too long\n"

-- the text has the line of each item, in order
abbrev pub Lists : ℕ → List Item → List ℕ → Type 0
Lists size [] text = text ≡ []
Lists size (item ∷ later) text = (line : List ℕ) × (rest : List ℕ) × IsLine size item line × Lists size later rest × (text ≡ line ++ rest)

-- ---- the same as one text

-- port=P FRAME
abbrev pub frame_line : ℕ → Frame → List ℕ
frame_line port f = number_text (codes "port=") port ++ (codes " " ++ (frame_text f ++ codes "\n"))

-- port=P bad FAULT
abbrev pub bad_line : ℕ → FrameRefusal → List ℕ
bad_line port e = number_text (codes "port=") port ++ (codes " bad " ++ (refusal_text e ++ codes "\n"))
