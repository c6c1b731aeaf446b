-- What frames are on a link (AX.25 2.2, section 4.3).
use Rattle.std.specs.Prelude.{ℕ, Bool, false, not, ◌==◌, if◌then◌else◌, List, [], length, nat_le, Option, Some, None}
use Rattle.radio_base.specs.declared.payload.Payload.{Payload}
use Rattle.ax_frame.specs.declared.control.Control.{Control}
use Rattle.ax_frame.specs.declared.control.Control.TheVariants as control
use Rattle.ax_link.specs.declared.kind.Kind.{Kind}
use Rattle.ax_link.specs.State.{Frame}
use Rattle.ax_link.specs.declared.kind.Kind.TheVariants.{I, Rr, Rnr, Rej, Srej, SetUp, OtherSetUp, Disc, Dm, Ua, Frmr, Xid, Other}

-- a SABM or SABME: no response sets a link up
abbrev pub set_up_kind : Bool → Bool → Bool → Kind
set_up_kind command own_modulus pf = if not command then Other else if own_modulus then SetUp pf else OtherSetUp pf

-- a link whose numbers count modulo 8 is set up by SABM, any other by SABME
abbrev pub kind_of : ℕ → Bool → Control → Kind
kind_of size command (control.I ns nr pf) = I ns nr pf
kind_of size command (control.Rr nr pf) = Rr nr pf
kind_of size command (control.Rnr nr pf) = Rnr nr pf
kind_of size command (control.Rej nr pf) = Rej nr pf
kind_of size command (control.Srej nr pf) = Srej nr pf
kind_of size command (control.Sabm pf) = set_up_kind command (size == 8) pf
kind_of size command (control.Sabme pf) = set_up_kind command (not (size == 8)) pf
kind_of size command (control.Disc pf) = Disc pf
kind_of size command (control.Dm pf) = Dm pf
kind_of size command (control.Ua pf) = Ua pf
kind_of size command (control.Frmr pf) = Frmr pf
kind_of size command (control.Ui pf) = Other
kind_of size command (control.Xid pf) = Xid pf
kind_of size command (control.Test pf) = Other

-- the payload of this PID with these octets
abbrev pub payload : ℕ → List ℕ → Payload
payload pid info = record { pid = pid; info = record { items = info } }

-- the payload of an I frame: none without a PID, or where the information has more than 256 octets
abbrev pub payload_of : Option ℕ → List ℕ → Option Payload
payload_of None info = None
payload_of (Some pid) info = if nat_le (length info) 256 then Some (payload pid info) else None

-- a frame as it comes in
abbrev pub frame_in : ℕ → Bool → Control → Option ℕ → List ℕ → Frame
frame_in size command control pid info = record { command = command; kind = kind_of size command control; payload = payload_of pid info }

-- the control field of a frame of this kind. No link puts out the last four
abbrev pub control_of : ℕ → Kind → Control
control_of size (I ns nr pf) = control.I ns nr pf
control_of size (Rr nr pf) = control.Rr nr pf
control_of size (Rnr nr pf) = control.Rnr nr pf
control_of size (Rej nr pf) = control.Rej nr pf
control_of size (Srej nr pf) = control.Srej nr pf
control_of size (SetUp pf) = if size == 8 then control.Sabm pf else control.Sabme pf
control_of size (Disc pf) = control.Disc pf
control_of size (Dm pf) = control.Dm pf
control_of size (Ua pf) = control.Ua pf
control_of size (OtherSetUp pf) = if size == 8 then control.Sabme pf else control.Sabm pf
control_of size (Frmr pf) = control.Frmr pf
control_of size (Xid pf) = control.Xid pf
control_of size Other = control.Test false

-- the PID and the information of a frame with a payload, or without one
abbrev pub pid_of : Option Payload → Option ℕ
pid_of None = None
pid_of (Some p) = Some p.pid

abbrev pub info_of : Option Payload → List ℕ
info_of None = []
info_of (Some p) = p.info.items
