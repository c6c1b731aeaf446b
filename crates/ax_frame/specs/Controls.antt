-- Control fields in octets (AX.25 2.2, sections 4.2 and 4.3).
use Rattle.std.specs.Prelude.{ℕ, ◌≡◌, ◌+◌, ◌*◌, ◌<◌, ◌⊎◌, List, [], ◌∷◌, Bool, true, false, ◌==◌, if◌then◌else◌}
use Rattle.ax_frame.specs.declared.control.Control.{Control}
use Rattle.ax_frame.specs.declared.control.Control.TheVariants.{I, Rr, Rnr, Rej, Srej, Sabm, Sabme, Disc, Dm, Ua, Frmr, Ui, Xid, Test}
use Rattle.ax_frame.specs.declared.control.Format.{Format}
use Rattle.ax_frame.specs.declared.control.Format.TheVariants.{Information, Supervisory, Unnumbered}

-- a link's sequence numbers count modulo 8, or after SABME modulo 128
abbrev pub IsLinkModulus : ℕ → Type 0
IsLinkModulus size = (size ≡ 8) ⊎ (size ≡ 128)

abbrev pub is_ui : Control → Bool
is_ui (Ui pf) = true
is_ui _ = false

-- The table of the kinds: whether the field has both sequence numbers, one or none, and else its code, the
-- octet with numbers and P/F bit 0.
abbrev pub format_of : Control → Format
format_of (I ns nr pf) = Information ns nr pf
format_of (Rr nr pf) = Supervisory 0x01 nr pf
format_of (Rnr nr pf) = Supervisory 0x05 nr pf
format_of (Rej nr pf) = Supervisory 0x09 nr pf
format_of (Srej nr pf) = Supervisory 0x0D nr pf
format_of (Sabm pf) = Unnumbered 0x2F pf
format_of (Sabme pf) = Unnumbered 0x6F pf
format_of (Disc pf) = Unnumbered 0x43 pf
format_of (Dm pf) = Unnumbered 0x0F pf
format_of (Ua pf) = Unnumbered 0x63 pf
format_of (Frmr pf) = Unnumbered 0x87 pf
format_of (Ui pf) = Unnumbered 0x03 pf
format_of (Xid pf) = Unnumbered 0xAF pf
format_of (Test pf) = Unnumbered 0xE3 pf

-- the code leaves room for the number and the P/F bit
abbrev pub CodeFits : Format → Type 0
CodeFits (Information ns nr pf) = Unit {0}
CodeFits (Supervisory code nr pf) = code < 16
CodeFits (Unnumbered code pf) = code < 240

-- the P/F bit of a field of one octet, and of the second octet of a field of two
abbrev pub poll : Bool → ℕ
poll pf = if pf then 16 else 0

abbrev pub low_bit : Bool → ℕ
low_bit pf = if pf then 1 else 0

-- one octet modulo 8; modulo 128 two, but for the unnumbered formats
abbrev pub format_octets : ℕ → Format → List ℕ
format_octets size (Information ns nr pf) = if size == 8 then (32 * nr + poll pf + 2 * ns) ∷ [] else 2 * ns ∷ (2 * nr + low_bit pf) ∷ []
format_octets size (Supervisory code nr pf) = if size == 8 then (32 * nr + poll pf + code) ∷ [] else code ∷ (2 * nr + low_bit pf) ∷ []
format_octets size (Unnumbered code pf) = (code + poll pf) ∷ []

abbrev pub control_octets : ℕ → Control → List ℕ
control_octets size c = format_octets size (format_of c)

-- the sequence numbers are below the modulus
abbrev pub FormatFits : ℕ → Format → Type 0
FormatFits size (Information ns nr pf) = (ns < size) × (nr < size)
FormatFits size (Supervisory code nr pf) = nr < size
FormatFits size (Unnumbered code pf) = Unit {0}

abbrev pub NumbersFit : ℕ → Control → Type 0
NumbersFit size c = FormatFits size (format_of c)

-- I and UI carry a PID and information, FRMR, XID and TEST information alone
abbrev pub has_pid : Control → Bool
has_pid (I ns nr pf) = true
has_pid (Ui pf) = true
has_pid _ = false

abbrev pub takes_info : Control → Bool
takes_info (Frmr pf) = true
takes_info (Xid pf) = true
takes_info (Test pf) = true
takes_info c = has_pid c
