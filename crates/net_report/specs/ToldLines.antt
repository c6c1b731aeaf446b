-- The lines of a report on links, circuits and datagrams, on mail, and on the entries of nodes and their ends. Own profile.
use Rattle.std.specs.Prelude.{ℕ, ◌++◌, List, Bool, true, false, codes, Option, Some, None, length, suc, ◌-◌, [], ◌∷◌, slice_get, option_map, unwrap_or}
use Rattle.std.specs.Fmt.{decimal}
use Rattle.text_lines.specs.Lines.{shown_text}
use Rattle.ax_address.specs.Callsign as calls
use Rattle.ax_address.specs.Callsign.{Callsign}
use Rattle.ax_link.specs.declared.notice.LinkNotice.{LinkNotice}
use Rattle.ax_link.specs.declared.notice.LinkNotice.TheVariants as links
use Rattle.circuit_l4.specs.declared.facts.EndFacts.{EndFacts}
use Rattle.circuit_l4.specs.declared.notice.EndNotice.{EndNotice}
use Rattle.circuit_l4.specs.declared.notice.EndNotice.TheVariants.{Opened}
use Rattle.circuit_l4.specs.declared.phase.EndPhase.{EndPhase}
use Rattle.circuit_l4.specs.declared.notice.EndNotice.TheVariants as notices
use Rattle.circuit_l4.specs.declared.phase.EndPhase.TheVariants as phases
use Rattle.l3_datagram.specs.declared.routed.Routed.{Routed}
use Rattle.l3_datagram.specs.declared.routed.Routed.TheVariants as routed
use Rattle.circuit_table.specs.CircuitSets.{facts_at}
use Rattle.circuit_table.specs.Pumps.{SetTold, Of, Dropped}
use Rattle.circuit_table.specs.Sets.{Holder, Notice, end_of}
use Rattle.node_model.specs.States as nodes
use Rattle.net_model.specs.Events.{Event, Took, Wrote, Restarted, Posted, MailStored, MailSettled}
use Rattle.net_model.specs.declared.ends.EndRecord.{EndRecord}
use Rattle.net_model.specs.declared.outcome.Outcome.{Outcome}
use Rattle.net_model.specs.declared.outcome.Outcome.TheVariants.{Held, Gone, Lost}

-- The words by which a report shows what links, ends of circuits and routers tell. Own profile.

abbrev pub link_word : LinkNotice → List ℕ
link_word links.Opened = codes "opened"
link_word links.Reset = codes "reset"
link_word links.Closed = codes "closed"
link_word links.Refused = codes "refused"
link_word links.Failed = codes "failed"

abbrev pub notice_word : EndNotice → List ℕ
notice_word (notices.Opened window) = codes "opened"
notice_word notices.Refused = codes "refused"
notice_word notices.Closed = codes "closed"
notice_word notices.ClosedByPartner = codes "closed by partner"
notice_word notices.FailedRetries = codes "failed retries"
notice_word notices.FailedOversize = codes "failed oversize"
notice_word notices.FailedInactive = codes "failed inactive"

abbrev pub phase_word : EndPhase → List ℕ
phase_word phases.Connecting = codes "connecting"
phase_word phases.Up = codes "up"
phase_word phases.Closing = codes "closing"
phase_word phases.Ended = codes "ended"

-- why a router dropped a datagram; all else that it tells is no drop
abbrev pub drop_word : Routed → Option (List ℕ)
drop_word routed.Expired = Some (codes "expired")
drop_word routed.NoRoute = Some (codes "no route")
drop_word routed.Returned = Some (codes "returned")
drop_word routed.Dropped = Some (codes "carrier")
drop_word routed.Bad = Some (codes "bad")
drop_word other = None

-- The lines on links, circuits and datagrams. Own profile.

-- link N CALL WHAT
abbrev pub link_line : ℕ → Callsign → LinkNotice → List ℕ
link_line node peer notice =
    codes "link " ++ (decimal node ++ (codes " " ++ (calls.shown peer ++ (codes " " ++ (link_word notice ++ codes "\n")))))

-- event N X opened CALL window W
abbrev pub opened_line : ℕ → ℕ → Callsign → ℕ → List ℕ
opened_line node end partner window =
    codes "event "
    ++ (decimal node ++ (codes " " ++ (decimal end ++ (codes " opened " ++ (calls.shown partner ++ (codes " window " ++ (decimal window ++ codes "\n")))))))

-- event N X WHAT
abbrev pub what_line : ℕ → ℕ → List ℕ → List ℕ
what_line node end what = codes "event " ++ (decimal node ++ (codes " " ++ (decimal end ++ (codes " " ++ (what ++ codes "\n")))))

abbrev pub notice_line : ℕ → ℕ → Callsign → EndNotice → List ℕ
notice_line node end partner (Opened window) = opened_line node end partner window
notice_line node end partner notice = what_line node end (notice_word notice)

-- dropped N WHY
abbrev pub dropped_line : ℕ → List ℕ → List ℕ
dropped_line node why = codes "dropped " ++ (decimal node ++ (codes " " ++ (why ++ codes "\n")))

-- where an end stands at last; a restart took away what is lost
abbrev pub last_word : Bool → EndPhase → List ℕ
last_word true phase = codes "lost"
last_word false phase = phase_word phase

-- messages, messages, fragments
abbrev pub counts_text : EndFacts → List ℕ
counts_text facts = codes "wrote=" ++ (decimal facts.wrote ++ (codes " received=" ++ (decimal facts.received ++ (codes " acked=" ++ decimal facts.acked))))

-- end N X CALL PHASE wrote=M received=M acked=F
abbrev pub end_line : ℕ → ℕ → Callsign → Bool → EndFacts → List ℕ
end_line node end partner is_lost facts =
    codes "end "
    ++ (decimal node
    ++ (codes " "
    ++ (decimal end ++ (codes " " ++ (calls.shown partner ++ (codes " " ++ (last_word is_lost facts.phase ++ (codes " " ++ (counts_text facts ++ codes "\n")))))))))

-- What a report says of mail. Own profile.

-- stored N ORIGIN NUMBER TO LEN
abbrev pub stored_line : ℕ → Callsign → ℕ → Callsign → ℕ → List ℕ
stored_line node origin number to len =
    codes "stored "
    ++ (decimal node ++ (codes " " ++ (calls.shown origin ++ (codes " " ++ (decimal number ++ (codes " " ++ (calls.shown to ++ (codes " " ++ (decimal len ++ codes "\n")))))))))

-- mail N queued=Q stored=S
abbrev pub mail_line : ℕ → ℕ → ℕ → List ℕ
mail_line node queued stored =
    codes "mail " ++ (decimal node ++ (codes " queued=" ++ (decimal queued ++ (codes " stored=" ++ (decimal stored ++ codes "\n")))))

-- What a report says of the entries of nodes, and of their ends as they were left. Own profile.

-- ends are numbered from 1, in the order in which the node made them
abbrev pub notice_text : ℕ → List EndRecord → ℕ → EndNotice → List ℕ
notice_text node ends id notice =
    unwrap_or (option_map (λ (end : EndRecord). notice_line node id end.partner notice) (slice_get ends (id - 1))) []

abbrev pub drop_text : ℕ → Routed → List ℕ
drop_text node routed = unwrap_or (option_map (dropped_line node) (drop_word routed)) []

-- of all that a node's circuits tell, notices and drops alone are written
abbrev pub set_event_text : ℕ → List EndRecord → SetTold → List ℕ
set_event_text node ends (Of (Notice id notice)) = notice_text node ends id notice
set_event_text node ends (Dropped routed) = drop_text node routed
set_event_text node ends event = []

-- overflow N LIVE WOULDBE
abbrev pub overflow_line : ℕ → ℕ → ℕ → List ℕ
overflow_line node live would_be =
    codes "overflow " ++ (decimal node ++ (codes " " ++ (decimal live ++ (codes " " ++ (decimal would_be ++ codes "\n")))))

-- these are the ends that the node ever made
abbrev pub entry_text : ℕ → List EndRecord → nodes.Entry → List ℕ
entry_text node ends (nodes.Of_set told) = set_event_text node ends told
entry_text node ends (nodes.Of_link peer notice) = link_line node peer notice
entry_text node ends (nodes.Overflow live would_be) = overflow_line node live would_be

-- an end that is held, with its facts
abbrev pub held_text : ℕ → ℕ → Callsign → Option EndFacts → List ℕ
held_text node id partner None = []
held_text node id partner (Some facts) = end_line node id partner false facts

abbrev pub left_text : ℕ → ℕ → Callsign → Outcome → Option EndFacts → List ℕ
left_text node id partner (Lost facts) held = end_line node id partner true facts
left_text node id partner (Gone facts) held = end_line node id partner false facts
left_text node id partner Held held = held_text node id partner held

-- an end as it was left: gone, lost in a restart, or held with these facts
abbrev pub last_text : ℕ → ℕ → EndRecord → Option EndFacts → List ℕ
last_text node id end held = left_text node id end.partner end.outcome held

-- all ends that a node ever made, the first with this number; it holds these
abbrev pub last_texts : ℕ → ℕ → List EndRecord → List Holder → List ℕ
last_texts node id [] held = []
last_texts node id (end ∷ ends) held = last_text node id end (facts_at (end_of id held)) ++ last_texts node (suc id) ends held

-- ---- events that are told by themselves

-- the line that is made of what it holds alone: took N X LEN TEXT, wrote N X COUNT, restarted N, posted N NUMBER, `stored`, done N NUMBER
abbrev pub event_line : Event → List ℕ
event_line (Took node end message) =
    codes "took "
    ++ (decimal node ++ (codes " " ++ (decimal end ++ (codes " " ++ (decimal (length message) ++ (codes " " ++ (shown_text message ++ codes "\n")))))))
event_line (Wrote node end count) =
    codes "wrote " ++ (decimal node ++ (codes " " ++ (decimal end ++ (codes " " ++ (decimal count ++ codes "\n")))))
event_line (Restarted node pair) = codes "restarted " ++ (decimal node ++ codes "\n")
event_line (Posted node number) = codes "posted " ++ (decimal node ++ (codes " " ++ (decimal number ++ codes "\n")))
event_line (MailStored node origin number to len) = stored_line node origin number to len
event_line (MailSettled node number) = codes "done " ++ (decimal node ++ (codes " " ++ (decimal number ++ codes "\n")))
event_line event = []
