-- The nodes as they were left: their tables, and the ends that they ever made, one JSON object a line. Own profile.
use Rattle.std.specs.Prelude.{ℕ, suc, List, [], ◌∷◌, ◌++◌, flat_map, length, codes, Option, Some, None}
use Rattle.ax_address.specs.Alias as aliases
use Rattle.ax_address.specs.Callsign as calls
use Rattle.ax_address.specs.Callsign.{Callsign}
use Rattle.circuit_l4.specs.declared.facts.EndFacts.{EndFacts}
use Rattle.circuit_table.specs.CircuitSets.{facts_at}
use Rattle.circuit_table.specs.Sets.{Holder, end_of}
use Rattle.route_table.specs.declared.route.Route.{Route}
use Rattle.net_model.specs.declared.ends.EndRecord.{EndRecord}
use Rattle.net_model.specs.declared.outcome.Outcome.{Outcome}
use Rattle.net_model.specs.declared.outcome.Outcome.TheVariants.{Held, Gone, Lost}
use Rattle.net_model.specs.Lines.{table_of}
use Rattle.net_report.specs.Reports.{by_place}
use Rattle.net_model.specs.Starting.{Placed}
use Rattle.net_model.specs.Tables.{Table}
use Rattle.net_report.specs.ToldLines.{phase_word}
use Rattle.node_mail.specs.Lists.{Lists}
use Rattle.trace_lines.specs.Json.{object, Field, Number, NumberOrNull, Bytes, Word}
use Rattle.trace_lines.specs.Mails.{mail_trace}

-- ---- tables

-- one that is locked has no count
unfoldable pub route_fields : Route → List Field
route_fields r =
    Word "dest" (calls.shown r.dest)
    ∷ Bytes "alias" (aliases.shown r.alias)
    ∷ Word "neighbour" (calls.shown r.neighbour)
    ∷ Number "quality" r.quality
    ∷ NumberOrNull "count" r.count
    ∷ []

abbrev pub route_line : ℕ → Route → List ℕ
route_line node r = object "route" (Number "node" node ∷ route_fields r)

abbrev pub table_line : ℕ → ℕ → List ℕ
table_line node routes = object "table" (Number "node" node ∷ Number "routes" routes ∷ [])

abbrev pub table_text : Table → List ℕ
table_text t = table_line t.node (length t.routes) ++ flat_map (route_line t.node) t.routes

-- ---- ends

-- fragments, and bytes
abbrev pub count_fields : EndFacts → List Field
count_fields f = Number "acked" f.acked ∷ Number "waiting" f.waiting ∷ Number "queued" f.queued ∷ []

-- `wrote` and `received` count messages
unfoldable pub facts_fields : EndFacts → List Field
facts_fields f =
    Word "phase" (phase_word f.phase)
    ∷ Number "window" f.window
    ∷ Number "wrote" f.wrote
    ∷ Number "received" f.received
    ∷ count_fields f

abbrev pub end_line : ℕ → ℕ → Callsign → List ℕ → EndFacts → List ℕ
end_line node end partner outcome facts =
    object "end" (Number "node" node ∷ Number "end" end ∷ Word "partner" (calls.shown partner) ∷ Word "outcome" outcome ∷ facts_fields facts)

abbrev pub held_text : ℕ → ℕ → Callsign → Option EndFacts → List ℕ
held_text node id partner None = []
held_text node id partner (Some facts) = end_line node id partner (codes "held") facts

-- a restart took it away, it ended and is gone, or it is still held
abbrev pub left_text : ℕ → ℕ → Callsign → Outcome → Option EndFacts → List ℕ
left_text node id partner (Lost facts) held = end_line node id partner (codes "lost") facts
left_text node id partner (Gone facts) held = end_line node id partner (codes "gone") facts
left_text node id partner Held held = held_text node id partner held

abbrev pub end_text : ℕ → ℕ → EndRecord → Option EndFacts → List ℕ
end_text node id end held = left_text node id end.partner end.outcome held

-- all ends that a node ever made, the first with this number; it holds these
abbrev pub ends_text : ℕ → ℕ → List EndRecord → List Holder → List ℕ
ends_text node id [] held = []
ends_text node id (end ∷ ends) held = end_text node id end (facts_at (end_of id held)) ++ ends_text node (suc id) ends held

-- ---- a node; these are the ends that nodes ever made

abbrev pub node_text : (ℕ → List EndRecord) → Placed → List ℕ
node_text ends p =
    table_text (table_of p) ++ ends_text p.declared.node 1 (ends p.declared.node) p.state.station.set.set.ends

-- a node and its mail
abbrev pub kept_trace : (ℕ → List EndRecord) → Placed → Option Lists → List ℕ
kept_trace ends p mail = node_text ends p ++ mail_trace p.declared.node mail

abbrev pub nodes_trace : (ℕ → List EndRecord) → List Placed → List (Option Lists) → List ℕ
nodes_trace ends nodes mails = by_place (kept_trace ends) nodes mails
