-- Octets judged from the first on: where the parts of the frame end, or the first octet that no frame has
-- at its place.
use Rattle.std.specs.Prelude.{ℕ, zero, suc, ◌+◌, ◌-◌, ◌*◌, ◌/◌, ◌%◌, List, [], ◌∷◌, length, drop, slice_get, slice_index, Bool, false, ◌==◌, ◌||◌, nat_le, nat_lt, Option, Some, None, is_some, Result, Ok, Err, if◌then◌else◌}
use Rattle.std.specs.List.{find}
use Rattle.std.specs.Result.{result_err}
use Rattle.ax_address.specs.declared.address_refusal.AddressRefusal.{AddressRefusal}
use Rattle.ax_address.specs.Octets.{address_fault, refused_octet}
use Rattle.ax_address.specs.Results.{◌>>=◌}
use Rattle.ax_frame.specs.declared.control.Control.{Control}
use Rattle.ax_frame.specs.declared.control.Control.TheVariants.{I, Rr, Rnr, Rej, Srej, Sabm, Sabme, Disc, Dm, Ua, Frmr, Ui, Xid, Test}
use Rattle.ax_frame.specs.declared.control.Format.{Format}
use Rattle.ax_frame.specs.declared.control.Format.TheVariants.{Information, Supervisory, Unnumbered}
use Rattle.ax_frame.specs.declared.frame.FrameRefusal.{FrameRefusal}
use Rattle.ax_frame.specs.declared.frame.FrameRefusal.TheVariants.{Short, BadCall, TooManyRepeaters, BadControl, NoPid, ExtraInfo}
use Rattle.ax_frame.specs.Controls.{format_of, has_pid, takes_info}

-- ---- the addresses

-- the extension bit of the address at a place, which has seven octets of `len`
abbrev pub extension_from : ℕ → ℕ → ℕ → Option AddressRefusal → Result Bool FrameRefusal
extension_from at len ssid_octet (Some refusal) = Err (BadCall (at + refused_octet refusal))
extension_from at len ssid_octet None = if nat_lt len (at + 7) then Err (Short len) else Ok (ssid_octet % 2 == 1)

abbrev pub extension_at : ℕ → List ℕ → Result Bool FrameRefusal
extension_at at bytes = extension_from at (length bytes) (slice_index bytes (at + 6)) (address_fault (drop at bytes))

-- Where the address that has the extension bit ends, of at most n from a place on: one more is a repeater too many.
unfoldable pub addresses_end : ℕ → ℕ → List ℕ → Result ℕ FrameRefusal
addresses_end zero at bytes = Err TooManyRepeaters
addresses_end (suc n) at bytes = do
  last ← extension_at at bytes
  if last then Ok (at + 7) else addresses_end n (at + 7) bytes

-- the destination isn't the last address, but the source may be, or one of eight repeaters
unfoldable pub head_end : List ℕ → Result ℕ FrameRefusal
head_end bytes = do
  last ← extension_at 0 bytes
  if last then Err (BadCall 6) else addresses_end 9 7 bytes

-- ---- the control field

abbrev pub has_code : ℕ → Format → Bool
has_code code (Information ns nr pf) = false
has_code code (Supervisory c nr pf) = code == c
has_code code (Unnumbered c pf) = code == c

abbrev pub supervisory : ℕ → ℕ → Bool → Option Control
supervisory code nr pf = find (λ c. has_code code (format_of c)) (Rr nr pf ∷ Rnr nr pf ∷ Rej nr pf ∷ Srej nr pf ∷ [])

abbrev pub unnumbered : ℕ → Bool → Option Control
unnumbered code pf = find (λ c. has_code code (format_of c))
    (Sabm pf ∷ Sabme pf ∷ Disc pf ∷ Dm pf ∷ Ua pf ∷ Frmr pf ∷ Ui pf ∷ Xid pf ∷ Test pf ∷ [])

-- bit 0 of an information format is 0
abbrev pub numbered : ℕ → ℕ → ℕ → Bool → Option Control
numbered code ns nr pf = if code % 2 == 0 then Some (I ns nr pf) else supervisory code nr pf

abbrev pub poll_bit : ℕ → Bool
poll_bit b = b / 16 % 2 == 1

-- a control field and where it ends
abbrev pub field_end : ℕ → ℕ → Option Control → Result (Control × ℕ) FrameRefusal
field_end at end None = Err (BadControl at)
field_end at end (Some c) = Ok (c, end)

-- of two octets, the first of which is this
abbrev pub two_octets : ℕ → ℕ → Option ℕ → Result (Control × ℕ) FrameRefusal
two_octets at b None = if is_some (numbered b 0 0 false) then Err (Short (at + 1)) else Err (BadControl at)
two_octets at b (Some next) = field_end at (at + 2) (numbered b (b / 2) (next / 2) (next % 2 == 1))

-- Bits 0 and 1 of an unnumbered format are 1. The others have one octet modulo 8, and two modulo 128.
abbrev pub control_from : ℕ → ℕ → ℕ → Option ℕ → Result (Control × ℕ) FrameRefusal
control_from size at b next =
    if b % 4 == 3 then field_end at (at + 1) (unnumbered (b - 16 * (b / 16 % 2)) (poll_bit b))
    else if size == 8 then field_end at (at + 1) (numbered (b % 16) (b / 2 % 8) (b / 32) (poll_bit b))
    else two_octets at b next

abbrev pub control_or_short : ℕ → ℕ → Option ℕ → Option ℕ → Result (Control × ℕ) FrameRefusal
control_or_short size at None next = Err (Short at)
control_or_short size at (Some b) next = control_from size at b next

unfoldable pub control_at : ℕ → ℕ → List ℕ → Result (Control × ℕ) FrameRefusal
control_at size at bytes = control_or_short size at (slice_get bytes at) (slice_get bytes (at + 1))

-- ---- the PID and the information

abbrev pub pid_or_none : ℕ → Option ℕ → Result (Option ℕ × ℕ) FrameRefusal
pid_or_none at None = Err (NoPid at)
pid_or_none at (Some pid) = Ok (Some pid, at + 1)

-- the PID, where the kind has one, and where the information begins
unfoldable pub pid_at : Control → ℕ → List ℕ → Result (Option ℕ × ℕ) FrameRefusal
pid_at c at bytes =
    if has_pid c then pid_or_none at (slice_get bytes at)
    else if takes_info c || nat_le (length bytes) at then Ok (None, at) else Err (ExtraInfo at)

-- ---- the frame

unfoldable pub frame_at : ℕ → List ℕ → Result (Control × Option ℕ × ℕ) FrameRefusal
frame_at size bytes = do
  at ← head_end bytes
  control ← control_at size at bytes
  pid ← pid_at control.0 control.1 bytes
  Ok (control.0, pid.0, pid.1)

-- the first octet that can't stand at its place, or that is missing
abbrev pub first_fault : ℕ → List ℕ → Option FrameRefusal
first_fault size bytes = result_err (frame_at size bytes)
