-- The lines of a datagram: its head, and its transport. (NET/ROM, Appendix B; the text is own profile.)
use Rattle.std.specs.Prelude.{ℕ, List, ◌++◌, drop, codes, Result, Ok, Err}
use Rattle.std.specs.Fmt.{decimal}
use Rattle.ax_address.specs.Callsign as calls
use Rattle.l3_datagram.specs.Datagrams.{head_at}
use Rattle.l3_datagram.specs.declared.datagram.DatagramHead.{DatagramHead}
use Rattle.l3_datagram.specs.declared.datagram.DatagramRefusal.{DatagramRefusal}
use Rattle.frame_lines.specs.TransportLines.{transport_text}
use Rattle.frame_lines.specs.Words.{datagram_fault}

-- datagram ORIGIN>DEST ttl=T
abbrev pub head_line : DatagramHead → List ℕ
head_line h = codes "  datagram " ++ (calls.shown h.origin ++ (codes ">" ++ (calls.shown h.dest ++ (codes " ttl=" ++ (decimal h.ttl ++ codes "\n")))))

abbrev pub bad_line : DatagramRefusal → List ℕ
bad_line e = codes "  bad datagram " ++ (datagram_fault e ++ codes "\n")

-- the transport stands behind 15 octets
abbrev pub datagram_read : List ℕ → Result DatagramHead DatagramRefusal → List ℕ
datagram_read octets (Ok head) = head_line head ++ transport_text (drop 15 octets)
datagram_read octets (Err e) = bad_line e

-- the datagram that the octets spell, or why they spell none
abbrev pub datagram_text : List ℕ → List ℕ
datagram_text octets = datagram_read octets (head_at octets)
