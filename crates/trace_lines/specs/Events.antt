-- The events of a trace, one JSON object a line. Own profile.
use Rattle.std.specs.Prelude.{ℕ, suc, List, [], ◌∷◌, ◌++◌, flat_map, length, Bool, true, false, ◌&&◌, ◌==◌, Option, Some, None}
use Rattle.std.specs.List.{list_any}
use Rattle.radio_base.specs.Modulus.{modulus_size}
use Rattle.circuit_l4.specs.declared.facts.EndFacts.{EndFacts}
use Rattle.circuit_l4.specs.declared.pair.Pair.{Pair}
use Rattle.network_file.specs.declared.plan.instructions.NumberedInstruction.{NumberedInstruction}
use Rattle.network_file.specs.declared.plan.instructions.Instruction.{Instruction}
use Rattle.network_file.specs.declared.plan.instructions.Instruction.TheVariants.{Again}
use Rattle.net_model.specs.declared.air.Aired.{Aired}
use Rattle.net_model.specs.World.{frame_of}
use Rattle.net_model.specs.Events as told
use Rattle.net_model.specs.Events.{Event, NumberedEvent}
use Rattle.net_model.specs.Refused.{word_for_why}
use Rattle.net_model.specs.Tables.{Table}
use Rattle.route_table.specs.declared.route.Route.{Route}
use Rattle.trace_lines.specs.declared.stands.AtNode.{AtNode}
use Rattle.trace_lines.specs.declared.stands.Stand.{Stand}
use Rattle.trace_lines.specs.Circuits.{entry_text}
use Rattle.trace_lines.specs.Json.{Bytes, Number, Octets, Truth, Word}
use Rattle.trace_lines.specs.Left.{facts_fields, route_fields}
use Rattle.trace_lines.specs.Mails.{stored_line}
use Rattle.trace_lines.specs.Stands.{at_node, event, node_event}

-- ---- which lines bring a frame again

abbrev pub is_again : Instruction → Bool
is_again (Again frame node) = true
is_again instruction = false

abbrev pub repeats : List NumberedInstruction → ℕ → Bool
repeats instructions line = list_any (λ (l : NumberedInstruction). (l.line == line) && is_again l.instruction) instructions

-- ---- frames, with what their sequence numbers count modulo: 8 or 128

abbrev pub frame_line : Stand → ℕ → Aired → List ℕ
frame_line s number f =
    event "frame" s (Number "frame" number ∷ Number "node" f.sender ∷ Number "modulo" (modulus_size f.modulus) ∷ Octets "octets" f.octets.items ∷ [])

abbrev pub aired_text : Stand → ℕ → Option Aired → List ℕ
aired_text s number None = []
aired_text s number (Some f) = frame_line s number f

abbrev pub delivered_line : Stand → ℕ → ℕ → Bool → List ℕ
delivered_line s frame node again = event "delivered" s (Number "frame" frame ∷ Number "node" node ∷ Truth "again" again ∷ [])

abbrev pub lost_frame_line : Stand → ℕ → List ℕ
lost_frame_line s frame = event "lost_frame" s (Number "frame" frame ∷ [])

-- ---- what users take, and what is shown to them

abbrev pub took_line : AtNode → ℕ → List ℕ → List ℕ
took_line at end message =
    node_event "took" at (Number "end" end ∷ Number "bytes" (length message) ∷ Bytes "text" message ∷ [])

abbrev pub shown_line : AtNode → ℕ → List ℕ
shown_line at routes = node_event "shown" at (Number "routes" routes ∷ [])

abbrev pub shown_route_line : AtNode → Route → List ℕ
shown_route_line at r = node_event "shown_route" at (route_fields r)

abbrev pub shown_text : Stand → Table → List ℕ
shown_text s t = shown_line (at_node s t.node) (length t.routes) ++ flat_map (shown_route_line (at_node s t.node)) t.routes

-- ---- restarts

abbrev pub restarted_line : AtNode → Pair → List ℕ
restarted_line at pair = node_event "restarted" at (Number "index" pair.index ∷ Number "ident" pair.ident ∷ [])

abbrev pub lost_end_line : AtNode → ℕ → EndFacts → List ℕ
lost_end_line at end facts = node_event "lost_end" at (Number "end" end ∷ facts_fields facts)

-- ---- what is told in one piece, of numbers and words

abbrev pub event_object : Stand → Event → List ℕ
event_object s (told.Wrote node end count) = node_event "wrote" (at_node s node) (Number "end" end ∷ Number "messages" count ∷ [])
event_object s (told.Refused why) = event "refused" s (Word "why" (word_for_why why) ∷ [])
event_object s (told.Posted node number) = node_event "posted" (at_node s node) (Number "mail" number ∷ [])
event_object s (told.Offered node end number) = node_event "offered" (at_node s node) (Number "end" end ∷ Number "mail" number ∷ [])
event_object s (told.MailSettled node number) = node_event "settled" (at_node s node) (Number "mail" number ∷ [])
event_object s other = []

-- ---- any event; `again` says which lines bring a frame again, and these are the frames in the air

abbrev pub event_text : (ℕ → Bool) → List Aired → Stand → Event → List ℕ
event_text again air s (told.Entry node entry) = entry_text (at_node s node) entry
event_text again air s (told.InAir number) = aired_text s number (frame_of air number)
event_text again air s (told.Delivered frame node) = delivered_line s frame node (again s.line)
event_text again air s (told.Settled frame) = lost_frame_line s frame
event_text again air s (told.Shown table) = shown_text s table
event_text again air s (told.Took node end message) = took_line (at_node s node) end message
event_text again air s (told.Restarted node pair) = restarted_line (at_node s node) pair
event_text again air s (told.Lost node end facts) = lost_end_line (at_node s node) end facts
event_text again air s (told.MailStored node origin number to len) = stored_line (at_node s node) origin number to len
event_text again air s other = event_object s other

-- all events, of which the first has this number
abbrev pub events_from : (ℕ → Bool) → List Aired → ℕ → List NumberedEvent → List ℕ
events_from again air number [] = []
events_from again air number (e ∷ es) =
    event_text again air (record { event = number; line = e.line }) e.event ++ events_from again air (suc number) es
