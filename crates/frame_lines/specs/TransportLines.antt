-- The line of a transport: its kind, the pair of the end that it is for, and what its kind has. (NET/ROM, Appendix B; the text is own
-- profile.)
use Rattle.std.specs.Prelude.{ℕ, List, [], ◌++◌, length, Bool, codes, if◌then◌else◌, Result, Ok, Err}
use Rattle.std.specs.Fmt.{decimal}
use Rattle.ax_address.specs.Callsign as calls
use Rattle.ax_address.specs.Callsign.{Callsign}
use Rattle.circuit_l4.specs.declared.transport.Flags.{Flags}
use Rattle.circuit_l4.specs.declared.pair.Pair.{Pair}
use Rattle.circuit_l4.specs.declared.transport.Transport.{Transport}
use Rattle.circuit_l4.specs.declared.transport.Transport.TheVariants.{Request, Accept, Refuse, Disconnect, Disconnected, Info, InfoAck}
use Rattle.circuit_l4.specs.declared.transport.TransportRefusal.{TransportRefusal}
use Rattle.circuit_l4.specs.Transports.{transport_at}
use Rattle.text_lines.specs.Lines.{shown_text}
use Rattle.frame_lines.specs.Words.{transport_fault}

-- INDEX/IDENTIFICATION
abbrev pub pair_text : Pair → List ℕ
pair_text p = decimal p.index ++ (codes "/" ++ decimal p.ident)

abbrev pub flag_text : Bool → List ℕ → List ℕ
flag_text is_set word = if is_set then word else []

-- the flags that are set
abbrev pub flags_text : Flags → List ℕ
flags_text f = flag_text f.choke (codes " choke") ++ (flag_text f.nak (codes " nak") ++ flag_text f.more (codes " more"))

-- request PAIR window=W user=CALL node=CALL
abbrev pub request_line : Pair → ℕ → Callsign → Callsign → List ℕ
request_line pair window user node =
    codes "    request "
    ++ (pair_text pair ++ (codes " window=" ++ (decimal window ++ (codes " user=" ++ (calls.shown user ++ (codes " node=" ++ (calls.shown node ++ codes "\n")))))))

-- accept PAIR own=PAIR window=W
abbrev pub accept_line : Pair → Pair → ℕ → List ℕ
accept_line to own window =
    codes "    accept " ++ (pair_text to ++ (codes " own=" ++ (pair_text own ++ (codes " window=" ++ (decimal window ++ codes "\n")))))

-- KIND PAIR
abbrev pub kind_line : List ℕ → Pair → List ℕ
kind_line kind to = codes "    " ++ (kind ++ (codes " " ++ (pair_text to ++ codes "\n")))

-- info PAIR tx=N rx=N FLAGS len=L TEXT
abbrev pub info_line : Pair → ℕ → ℕ → Flags → List ℕ → List ℕ
info_line to tx rx flags text =
    codes "    info "
    ++ (pair_text to
    ++ (codes " tx="
    ++ (decimal tx
    ++ (codes " rx=" ++ (decimal rx ++ (flags_text flags ++ (codes " len=" ++ (decimal (length text) ++ (codes " " ++ (shown_text text ++ codes "\n"))))))))))

-- info ack PAIR rx=N FLAGS
abbrev pub ack_line : Pair → ℕ → Flags → List ℕ
ack_line to rx flags = codes "    info ack " ++ (pair_text to ++ (codes " rx=" ++ (decimal rx ++ (flags_text flags ++ codes "\n"))))

abbrev pub transport_line : Transport → List ℕ
transport_line (Request pair window user node) = request_line pair window user node
transport_line (Accept to own window) = accept_line to own window
transport_line (Refuse to) = kind_line (codes "refuse") to
transport_line (Disconnect to) = kind_line (codes "disconnect") to
transport_line (Disconnected to) = kind_line (codes "disconnect ack") to
transport_line (Info to tx rx flags text) = info_line to tx rx flags text.items
transport_line (InfoAck to rx flags) = ack_line to rx flags

abbrev pub bad_line : TransportRefusal → List ℕ
bad_line e = codes "    bad transport " ++ (transport_fault e ++ codes "\n")

abbrev pub transport_read : Result Transport TransportRefusal → List ℕ
transport_read (Ok transport) = transport_line transport
transport_read (Err e) = bad_line e

-- the transport that the octets spell, or why they spell none
abbrev pub transport_text : List ℕ → List ℕ
transport_text octets = transport_read (transport_at octets)
