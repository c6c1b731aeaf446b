-- What the nodes tell, of their links, their tables and their circuits, one JSON object a line. Own profile.
use Rattle.std.specs.Prelude.{ℕ, List, [], ◌∷◌, Option, Some, None}
use Rattle.ax_address.specs.Callsign as calls
use Rattle.ax_address.specs.Callsign.{Callsign}
use Rattle.ax_link.specs.declared.notice.LinkNotice.{LinkNotice}
use Rattle.circuit_l4.specs.declared.facts.EndFacts.{EndFacts}
use Rattle.circuit_l4.specs.declared.notice.EndNotice.{EndNotice}
use Rattle.circuit_l4.specs.declared.notice.EndNotice.TheVariants.{Opened}
use Rattle.circuit_l4.specs.declared.pair.Pair.{Pair}
use Rattle.circuit_table.specs.Pumps as pumps
use Rattle.circuit_table.specs.Pumps.{SetTold, Of, Dropped}
use Rattle.circuit_table.specs.Sets as sets
use Rattle.l3_datagram.specs.declared.routed.Routed.{Routed}
use Rattle.node_model.specs.States as nodes
use Rattle.net_report.specs.ToldLines.{drop_word, link_word, notice_word}
use Rattle.trace_lines.specs.declared.stands.AtNode.{AtNode}
use Rattle.trace_lines.specs.Json.{Number, NumberOrNull, Octets, OctetsOrNull, Word, WordOrNull}
use Rattle.trace_lines.specs.Left.{facts_fields}
use Rattle.trace_lines.specs.Stands.{node_event}

-- ---- links and tables

abbrev pub link_line : AtNode → Callsign → LinkNotice → List ℕ
link_line at peer notice = node_event "link" at (Word "peer" (calls.shown peer) ∷ Word "what" (link_word notice) ∷ [])

-- so many routes are in use, and so many would have been
abbrev pub overflow_line : AtNode → ℕ → ℕ → List ℕ
overflow_line at live would_be = node_event "overflow" at (Number "live" live ∷ Number "would_be" would_be ∷ [])

-- ---- circuits

-- an end that a request has opened has that datagram
abbrev pub made_line : AtNode → ℕ → Pair → Callsign → Option (List ℕ) → List ℕ
made_line at end pair partner request =
    node_event "made" at (Number "end" end ∷ Number "index" pair.index ∷ Number "ident" pair.ident ∷ Word "partner" (calls.shown partner)
    ∷ OctetsOrNull "request" request ∷ [])

-- that of an information message has the number of its fragment
abbrev pub sent_line : AtNode → ℕ → Option ℕ → List ℕ → List ℕ
sent_line at end number datagram =
    node_event "sent" at (Number "end" end ∷ NumberOrNull "fragment" number ∷ Octets "octets" datagram ∷ [])

abbrev pub heeded_line : AtNode → ℕ → List ℕ → List ℕ
heeded_line at end datagram = node_event "heeded" at (Number "end" end ∷ Octets "octets" datagram ∷ [])

abbrev pub window_of : EndNotice → Option ℕ
window_of (Opened window) = Some window
window_of notice = None

abbrev pub notice_line : AtNode → ℕ → EndNotice → List ℕ
notice_line at end notice =
    node_event "notice" at (Number "end" end ∷ Word "what" (notice_word notice) ∷ NumberOrNull "window" (window_of notice) ∷ [])

abbrev pub dropped_line : AtNode → Routed → List ℕ
dropped_line at routed = node_event "dropped" at (WordOrNull "why" (drop_word routed) ∷ [])

abbrev pub lost_neighbour_line : AtNode → Callsign → List ℕ
lost_neighbour_line at neighbour = node_event "lost_neighbour" at (Word "neighbour" (calls.shown neighbour) ∷ [])

abbrev pub gone_line : AtNode → ℕ → EndFacts → List ℕ
gone_line at end facts = node_event "gone" at (Number "end" end ∷ facts_fields facts)

-- ---- all that a node tells

-- what circuits tell; that a node starts again, and that this takes an end away, is no entry of a node
abbrev pub told_text : AtNode → sets.CircuitTold → List ℕ
told_text at (sets.Made id pair partner request) = made_line at id pair partner request
told_text at (sets.Sent id number datagram) = sent_line at id number datagram
told_text at (sets.Heeded id datagram) = heeded_line at id datagram
told_text at (sets.Notice id notice) = notice_line at id notice
told_text at (sets.Gone id facts) = gone_line at id facts
told_text at (sets.Restarted pair) = []
told_text at (sets.Lost id facts) = []

abbrev pub set_text : AtNode → SetTold → List ℕ
set_text at (Of told) = told_text at told
set_text at (Dropped routed) = dropped_line at routed
set_text at (pumps.Lost neighbour) = lost_neighbour_line at neighbour

abbrev pub entry_text : AtNode → nodes.Entry → List ℕ
entry_text at (nodes.Of_set told) = set_text at told
entry_text at (nodes.Of_link peer notice) = link_line at peer notice
entry_text at (nodes.Overflow live would_be) = overflow_line at live would_be
