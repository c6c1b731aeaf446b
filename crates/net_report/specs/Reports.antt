-- The report of a network, line by line, and the line on what came of a soak. Own profile.
use Rattle.std.specs.Prelude.{ℕ, List, [], ◌∷◌, ◌++◌, flat_map, length, Option, Some, None, Result, Ok, Err, codes, suc, count_by, sum_by, Bool, true, false}
use Rattle.std.specs.Fmt.{decimal}
use Rattle.radio_base.specs.Modulus.{modulus_size}
use Rattle.ax_address.specs.Callsign as calls
use Rattle.ax_address.specs.Alias as aliases
use Rattle.ax_frame.specs.declared.frame.FrameRefusal.{FrameRefusal}
use Rattle.ax_frame.specs.Frames.{Frame, read_at}
use Rattle.ax_frame.specs.FrameText.{frame_text}
use Rattle.circuit_verdict.specs.declared.late.Late.{Late}
use Rattle.circuit_verdict.specs.declared.late.LateWhy.{LateWhy}
use Rattle.circuit_verdict.specs.declared.late.LateWhy.TheVariants.{Overtaken, Returned}
use Rattle.node_mail.specs.Lists.{Lists}
use Rattle.route_table.specs.declared.route.Route.{Route}
use Rattle.circuit_l4.specs.declared.facts.EndFacts.{EndFacts}
use Rattle.circuit_l4.specs.declared.notice.EndNotice.{EndNotice}
use Rattle.circuit_l4.specs.declared.notice.EndNotice.TheVariants.{FailedRetries, FailedOversize, FailedInactive}
use Rattle.circuit_table.specs.CircuitSets.{facts_at}
use Rattle.circuit_table.specs.Pumps.{Of}
use Rattle.circuit_table.specs.Sets.{Holder, Notice, end_of}
use Rattle.node_model.specs.States as nodes
use Rattle.net_model.specs.declared.air.Aired.{Aired}
use Rattle.net_model.specs.declared.ends.EndRecord.{EndRecord}
use Rattle.net_model.specs.World.{frame_of, World}
use Rattle.net_model.specs.Ends.{ends_of}
use Rattle.net_model.specs.Events as events
use Rattle.net_model.specs.Events.{Event, NumberedEvent, Entry}
use Rattle.net_report.specs.ToldLines.{event_line}
use Rattle.net_model.specs.Lines.{table_of}
use Rattle.net_model.specs.Refused.{word_for_why}
use Rattle.net_model.specs.Starting.{Placed}
use Rattle.net_model.specs.Tables.{Table}
use Rattle.net_report.specs.ToldLines.{entry_text, last_texts, mail_line}
use Rattle.net_model.specs.declared.outcome.Outcome.{Outcome}
use Rattle.net_model.specs.declared.outcome.Outcome.TheVariants as outcomes

-- of octets that spell a frame; all that are in the air do
abbrev pub text_of_frame : Result Frame FrameRefusal → List ℕ
text_of_frame (Ok f) = frame_text f
text_of_frame (Err e) = []

-- air K N FRAME; sequence numbers are read as the frame was written
abbrev pub air_line : ℕ → Option Aired → List ℕ
air_line number None = []
air_line number (Some f) =
    codes "air " ++ (decimal number ++ (codes " " ++ (decimal f.sender ++ (codes " " ++ (text_of_frame (read_at (modulus_size f.modulus) f.octets.items) ++ codes "\n")))))

-- table N CALL ALIAS
abbrev pub table_line : Table → List ℕ
table_line t =
    codes "table " ++ (decimal t.node ++ (codes " " ++ (calls.shown t.call ++ (codes " " ++ (aliases.shown t.alias ++ codes "\n")))))

abbrev pub count_text : Option ℕ → List ℕ
count_text None = codes "locked"
count_text (Some n) = decimal n

-- route DEST ALIAS NEIGHBOUR QUALITY COUNT
abbrev pub route_line : Route → List ℕ
route_line r =
    codes "route "
    ++ (calls.shown r.dest
    ++ (codes " " ++ (aliases.shown r.alias ++ (codes " " ++ (calls.shown r.neighbour ++ (codes " " ++ (decimal r.quality ++ (codes " " ++ (count_text r.count ++ codes "\n")))))))))

-- a node's table, and its routes
abbrev pub table_text : Table → List ℕ
table_text t = table_line t ++ flat_map route_line t.routes

-- refused L WHY
abbrev pub refused_line : ℕ → List ℕ → List ℕ
refused_line line why = codes "refused " ++ (decimal line ++ (codes " " ++ (why ++ codes "\n")))

-- what is written of an event of a line; these are the frames in the air, and the ends that each node ever made
abbrev pub event_text : List Aired → (ℕ → List EndRecord) → ℕ → Event → List ℕ
event_text air ends line (events.Entry node entry) = entry_text node (ends node) entry
event_text air ends line (events.InAir number) = air_line number (frame_of air number)
event_text air ends line (events.Shown table) = table_text table
event_text air ends line (events.Refused why) = refused_line line (word_for_why why)
event_text air ends line event = event_line event

abbrev pub told_text : List Aired → (ℕ → List EndRecord) → NumberedEvent → List ℕ
told_text air ends e = event_text air ends e.line e.event

-- how much mail a node has left, where it keeps any
abbrev pub mail_text : ℕ → Option Lists → List ℕ
mail_text node None = []
mail_text node (Some s) = mail_line node (length s.queued) (length s.stored)

-- a node as it was left: its table, and its ends
abbrev pub node_text : (ℕ → List EndRecord) → Placed → List ℕ
node_text ends p =
    table_text (table_of p) ++ last_texts p.declared.node 1 (ends p.declared.node) p.state.station.set.set.ends

abbrev pub kept_text : (ℕ → List EndRecord) → Placed → Option Lists → List ℕ
kept_text ends p mail = node_text ends p ++ mail_text p.declared.node mail

-- what is told of the nodes and their mail, place by place
abbrev pub by_place : {A : Type 0} → (Placed → Option Lists → List A) → List Placed → List (Option Lists) → List A
by_place of (p ∷ nodes) (mail ∷ mails) = of p mail ++ by_place of nodes mails
by_place of _ _ = []

abbrev pub nodes_text : (ℕ → List EndRecord) → List Placed → List (Option Lists) → List ℕ
nodes_text ends nodes mails = by_place (kept_text ends) nodes mails

abbrev pub late_word : LateWhy → List ℕ
late_word Overtaken = codes "overtaken"
late_word Returned = codes "returned"

-- verdict done, or verdict late L WHY
abbrev pub verdict_line : Option Late → List ℕ
verdict_line None = codes "verdict done\n"
verdict_line (Some late) = codes "verdict late " ++ (decimal late.line ++ (codes " " ++ (late_word late.why ++ codes "\n")))

-- what was told, each node with its mail as it was left, and the verdict
abbrev pub report_text : World → Option Late → List ℕ
report_text w late =
    (flat_map (told_text w.air (λ node. ends_of node w.told)) w.told ++ nodes_text (λ node. ends_of node w.told) w.nodes w.mails)
    ++ verdict_line late

-- The line on what came of a soak. Own profile.

-- ---- ends that failed

abbrev pub has_failed : EndNotice → Bool
has_failed FailedRetries = true
has_failed FailedOversize = true
has_failed FailedInactive = true
has_failed notice = false

-- an end was told that it failed, which it is once
abbrev pub is_failure : Event → Bool
is_failure (Entry node (nodes.Of_set (Of (Notice id notice)))) = has_failed notice
is_failure event = false

abbrev pub failures : List NumberedEvent → ℕ
failures told = count_by (λ (e : NumberedEvent). is_failure e.event) told

-- ---- ends as they were left

-- gone, lost in a restart, or held with these facts
abbrev pub facts_by : Outcome → Option EndFacts → List EndFacts
facts_by (outcomes.Gone facts) held = facts ∷ []
facts_by (outcomes.Lost facts) held = facts ∷ []
facts_by outcomes.Held (Some facts) = facts ∷ []
facts_by outcomes.Held None = []

-- all ends that a node ever made, the first with this number; it holds these
abbrev pub facts_from : ℕ → List EndRecord → List Holder → List EndFacts
facts_from id [] held = []
facts_from id (end ∷ ends) held = facts_by end.outcome (facts_at (end_of id held)) ++ facts_from (suc id) ends held

abbrev pub facts_of : (ℕ → List EndRecord) → Placed → List EndFacts
facts_of ends p = facts_from 1 (ends p.declared.node) p.state.station.set.set.ends

-- of all nodes
abbrev pub facts_left : World → List EndFacts
facts_left w = flat_map (facts_of (λ node. ends_of node w.told)) w.nodes

-- ---- the line

abbrev pub wrote_in : List EndFacts → ℕ
wrote_in ends = sum_by (λ (f : EndFacts). f.wrote) ends

abbrev pub received_in : List EndFacts → ℕ
received_in ends = sum_by (λ (f : EndFacts). f.received) ends

-- soak SEED frames=F wrote=W received=R failed=X, and a space
abbrev pub counts_text : ℕ → ℕ → List EndFacts → ℕ → List ℕ
counts_text seed frames ends failed =
    codes "soak "
    ++ (decimal seed
    ++ (codes " frames="
    ++ (decimal frames
    ++ (codes " wrote=" ++ (decimal (wrote_in ends) ++ (codes " received=" ++ (decimal (received_in ends) ++ (codes " failed=" ++ (decimal failed ++ codes " ")))))))))

-- the number of the soak, the frames put in the air, the messages over all ends, the ends that failed; and the verdict
abbrev pub soak_text : ℕ → World → Option Late → List ℕ
soak_text seed w late = counts_text seed (length w.air) (facts_left w) (failures w.told) ++ verdict_line late
