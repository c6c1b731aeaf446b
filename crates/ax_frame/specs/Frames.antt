-- Frames, the octets that spell them, and what octets are read as (AX.25 2.2, section 3).
use Rattle.std.specs.Prelude.{◌≡◌, ℕ, ◌≤◌, List, [], ◌∷◌, ◌++◌, length, take, true, false, Option, Some, None, Ok, is_some, zero, suc, ◌-◌, ◌/◌, drop, Result}
use Rattle.std.specs.List.{AllByRecursion}
use Rattle.arrayvec.specs.ArrayVec.{ArrayVec}
use Rattle.ax_address.specs.declared.address.Address.{Address}
use Rattle.ax_address.specs.Callsign.{IsCallsign}
use Rattle.ax_address.specs.Octets.{address_octets, address_in}
use Rattle.ax_address.specs.Results.{◌>>=◌}
use Rattle.ax_frame.specs.declared.head.Head.{Head}
use Rattle.ax_frame.specs.declared.control.Control.{Control}
use Rattle.ax_frame.specs.declared.frame.Behind.{Behind}
use Rattle.ax_frame.specs.declared.frame.FrameView.{FrameView}
use Rattle.ax_frame.specs.Reading.{head_end, first_fault, frame_at}
use Rattle.ax_frame.specs.Controls.{IsLinkModulus, control_octets, NumbersFit, has_pid, takes_info}
use Rattle.ax_frame.specs.declared.frame.FrameRefusal.{FrameRefusal}

-- a frame without where it lies in memory
pub record Frame : Type 0 where
  pub head : Head
  pub control : Control
  pub pid : Option ℕ
  pub info : List ℕ

abbrev pub frame : Head → Control → Option ℕ → List ℕ → Frame
frame head control pid info = record { head = head; control = control; pid = pid; info = info }

abbrev pub view : FrameView → Frame
view v = frame v.head v.control v.pid v.info.now

-- the frame of a head and what stands behind it
abbrev pub with_head : Head → Behind → Frame
with_head h b = frame h b.control b.pid b.info.now

abbrev pub head : Address → Address → ArrayVec Address → Head
head dest source path = record { dest = dest; source = source; path = path }

-- destination, source and repeaters, in the order of their octets
abbrev pub addresses : Head → List Address
addresses h = h.dest ∷ h.source ∷ h.path.items

abbrev pub IsAddress : Address → Type 0
IsAddress a = IsCallsign a.call.letters a.call.ssid

-- one after the other; the last alone has the extension bit
abbrev pub addresses_octets : List Address → List ℕ
addresses_octets [] = []
addresses_octets (a ∷ []) = address_octets a true
addresses_octets (a ∷ b ∷ more) = address_octets a false ++ addresses_octets (b ∷ more)

abbrev pub pid_octets : Option ℕ → List ℕ
pid_octets None = []
pid_octets (Some pid) = pid ∷ []

-- the addresses, the control field, and the PID and the information, where the kind has them
abbrev pub frame_octets : ℕ → Frame → List ℕ
frame_octets size f = addresses_octets (addresses f.head) ++ control_octets size f.control ++ pid_octets f.pid ++ f.info

-- each kind of frame has its own parts
pub record HasParts (size : ℕ) (control : Control) (pid : Option ℕ) (info : List ℕ) : Type 0 where
  pub numbers : NumbersFit size control
  pub pid_there : is_some pid ≡ has_pid control
  pub no_info : takes_info control ≡ false → info ≡ []

-- the octets are the addresses of the head, of which at most eight are repeaters
pub record SpellsHead (h : Head) (octets : List ℕ) : Type 0 where
  pub calls : AllByRecursion IsAddress (addresses h)
  pub eight : length h.path.items ≤ 8
  pub spelled : octets ≡ addresses_octets (addresses h)

-- the octets begin with the head, and it ends there
pub record BeginsWith (octets : List ℕ) (h : Head) (end : ℕ) : Type 0 where
  pub within : end ≤ length octets
  pub spelled : SpellsHead h (take end octets)

-- the octets are the frame, with sequence numbers modulo 8 or 128
pub record Spells (size : ℕ) (f : Frame) (octets : List ℕ) : Type 0 where
  pub calls : AllByRecursion IsAddress (addresses f.head)
  pub eight : length f.head.path.items ≤ 8
  pub parts : HasParts size f.control f.pid f.info
  pub spelled : octets ≡ frame_octets size f

-- what begins with a head has no fault in it, and ends it there
abbrev pub HeadWithoutFault : Type 0
HeadWithoutFault = (h : Head) (octets rest : List ℕ) → SpellsHead h octets → head_end (octets ++ rest) ≡ Ok (length octets)

-- octets spell one head at most
abbrev pub HeadSpelledOnce : Type 0
HeadSpelledOnce = (h g : Head) (octets : List ℕ) → SpellsHead h octets → SpellsHead g octets → h ≡ g

-- octets that spell a frame have no fault
abbrev pub SpelledWithoutFault : Type 0
SpelledWithoutFault = (size : ℕ) (f : Frame) (octets : List ℕ) → IsLinkModulus size → Spells size f octets → first_fault size octets ≡ None

-- octets spell one frame at most
abbrev pub SpelledOnce : Type 0
SpelledOnce = (size : ℕ) (f g : Frame) (octets : List ℕ) → IsLinkModulus size → Spells size f octets → Spells size g octets → f ≡ g

-- What octets are read as: the frame that they spell, or the first octet that no frame has at its place. By the law
-- of `frame_spelling` octets are read as a frame exactly where they spell it. (AX.25 2.2, section 3.)

-- so many addresses, of seven octets each
abbrev pub addresses_in : ℕ → List ℕ → List Address
addresses_in zero octets = []
addresses_in (suc n) octets = address_in (take 7 octets) ∷ addresses_in n (drop 7 octets)

-- the addresses of octets in which they end at a place
unfoldable pub head_in : ℕ → List ℕ → Head
head_in end octets = record {
  dest = address_in (take 7 octets);
  source = address_in (take 7 (drop 7 octets));
  path = record { items = addresses_in ((end - 14) / 7) (drop 14 octets) };
}

-- the addresses, and where they end
unfoldable pub read_head_at : List ℕ → Result (Head × ℕ) FrameRefusal
read_head_at octets = do
  end ← head_end octets
  Ok (head_in end octets, end)

-- the frame, with sequence numbers modulo 8 or 128
unfoldable pub read_at : ℕ → List ℕ → Result Frame FrameRefusal
read_at size octets = do
  end ← head_end octets
  parts ← frame_at size octets
  Ok (frame (head_in end octets) parts.0 parts.1 (drop parts.2 octets))

-- octets that begin with a head are read as it
abbrev pub SpelledHeadIsRead : Type 0
SpelledHeadIsRead = (h : Head) (octets rest : List ℕ) → SpellsHead h octets → read_head_at (octets ++ rest) ≡ Ok (h, length octets)

-- octets that spell a frame are read as it
abbrev pub SpelledIsRead : Type 0
SpelledIsRead = (size : ℕ) (f : Frame) (octets : List ℕ) → IsLinkModulus size → Spells size f octets → read_at size octets ≡ Ok f
