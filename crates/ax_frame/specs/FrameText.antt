-- A frame as a text, in this project's profile: as
-- `N0AAA>N0BBB,N0CCC* cmd I ns=1 nr=2 pf=0 pid=F0 len=5`.
use Rattle.std.specs.Prelude.{ℕ, List, [], ◌++◌, length, Bool, Option, Some, None, ◌||◌, not, codes, if◌then◌else◌}
use Rattle.std.specs.Fmt.{decimal}
use Rattle.std.specs.List.{flat_map}
use Rattle.radio_base.specs.Text.{hex_of}
use Rattle.ax_address.specs.declared.address.Address.{Address}
use Rattle.ax_address.specs.Callsign as calls
use Rattle.ax_frame.specs.declared.head.Head.{Head}
use Rattle.ax_frame.specs.declared.control.Control.{Control}
use Rattle.ax_frame.specs.declared.control.Control.TheVariants.{I, Rr, Rnr, Rej, Srej, Sabm, Sabme, Disc, Dm, Ua, Frmr, Ui, Xid, Test}
use Rattle.ax_frame.specs.declared.control.Format.{Format}
use Rattle.ax_frame.specs.declared.control.Format.TheVariants.{Information, Supervisory, Unnumbered}
use Rattle.ax_frame.specs.Controls.{format_of, takes_info}
use Rattle.ax_frame.specs.Frames.{Frame}

-- A response has the C bit of the source alone (AX.25 2.2, section 6.1.2). What has equal C bits is read as a
-- command.
abbrev pub is_command : Head → Bool
is_command h = h.dest.bit7 || not h.source.bit7

abbrev pub direction_text : Head → List ℕ
direction_text h = if is_command h then codes " cmd " else codes " res "

abbrev pub kind_name : Control → List ℕ
kind_name (I ns nr pf) = codes "I"
kind_name (Rr nr pf) = codes "RR"
kind_name (Rnr nr pf) = codes "RNR"
kind_name (Rej nr pf) = codes "REJ"
kind_name (Srej nr pf) = codes "SREJ"
kind_name (Sabm pf) = codes "SABM"
kind_name (Sabme pf) = codes "SABME"
kind_name (Disc pf) = codes "DISC"
kind_name (Dm pf) = codes "DM"
kind_name (Ua pf) = codes "UA"
kind_name (Frmr pf) = codes "FRMR"
kind_name (Ui pf) = codes "UI"
kind_name (Xid pf) = codes "XID"
kind_name (Test pf) = codes "TEST"

-- a repeater that has repeated the frame has its H bit set
abbrev pub repeater_text : Address → List ℕ
repeater_text a = codes "," ++ calls.shown a.call ++ (if a.bit7 then codes "*" else [])

abbrev pub head_text : Head → List ℕ
head_text h = calls.shown h.source.call ++ codes ">" ++ calls.shown h.dest.call ++ flat_map repeater_text h.path.items

abbrev pub number_text : List ℕ → ℕ → List ℕ
number_text name n = name ++ decimal n

abbrev pub poll_text : Bool → List ℕ
poll_text pf = if pf then codes " pf=1" else codes " pf=0"

-- the sequence numbers that the kind has, and the P/F bit
abbrev pub format_text : Format → List ℕ
format_text (Information ns nr pf) = number_text (codes " ns=") ns ++ number_text (codes " nr=") nr ++ poll_text pf
format_text (Supervisory code nr pf) = number_text (codes " nr=") nr ++ poll_text pf
format_text (Unnumbered code pf) = poll_text pf

abbrev pub pid_text : Option ℕ → List ℕ
pid_text None = []
pid_text (Some pid) = codes " pid=" ++ hex_of pid

abbrev pub info_text : Control → ℕ → List ℕ
info_text c len = if takes_info c then number_text (codes " len=") len else []

abbrev pub frame_text : Frame → List ℕ
frame_text f =
    head_text f.head ++ direction_text f.head ++ kind_name f.control ++ format_text (format_of f.control)
    ++ pid_text f.pid ++ info_text f.control (length f.info)
