-- Texts that are written in pieces.
use Rattle.std.proofs.Common.{◌≡◌, ◌<◌, ◌++◌, [], ◌∙◌, ℕ, suc, Bool, List, ap, sym, subst, append_assoc, length, map, drop, get_or, drop-cons}
use Rattle.std.specs.Prelude.{Option}
use Rattle.circuit_l4.specs.declared.facts.EndFacts.{EndFacts}
use Rattle.circuit_table.specs.CircuitSets.{facts_at}
use Rattle.circuit_table.specs.Sets.{Holder, end_of}
use Rattle.circuit_verdict.specs.declared.late.Late.{Late}
use Rattle.network_file.specs.Plan.{Plan}
use Rattle.net_model.specs.declared.air.Aired.{Aired}
use Rattle.net_verdict.specs.declared.causes.LateCause.{LateCause}
use Rattle.net_model.specs.declared.ends.EndRecord.{EndRecord}
use Rattle.net_model.specs.declared.events.NumberedEvent as code
use Rattle.net_model.specs.Ends.{ends_of}
use Rattle.net_model.specs.Events.{event_of, numbered_of}
use Rattle.net_report.specs.Reporting.{ends_left}
use Rattle.net_model.specs.Standing.{IsTraceOf, Left}
use Rattle.net_model.specs.World.{World}
use Rattle.trace_lines.specs.Events.{event_text, events_from, repeats}
use Rattle.trace_lines.specs.Heads.{file_text, network_text}
use Rattle.trace_lines.specs.Left.{end_text, ends_text, nodes_trace}
use Rattle.trace_lines.specs.Marks.{mark_at}
use Rattle.trace_lines.specs.Texts.{trace_text}
use Rattle.trace_lines.specs.Verdicts.{cause_text, verdict_line}
use Rattle.trace_lines.proofs.Pieces.{piece}

-- ---- one end more

ends_on : (number place : ℕ) (ends : List EndRecord) (end : EndRecord) (facts : Option EndFacts) (held : List Holder) (text next all : List ℕ)
    → place < length ends → end ≡ get_or ends place end → facts ≡ facts_at (end_of (suc place) held) → next ≡ text ++ end_text number (suc place) end facts
    → text ++ ends_text number (suc place) (drop place ends) held ≡ all → next ++ ends_text number (suc (suc place)) (drop (suc place) ends) held ≡ all
ends_on number place ends end facts held text next all h is told wrote so_far =
    let line = end_text number (suc place) end facts in
    let rest = ends_text number (suc (suc place)) (drop (suc place) ends) held in
    let here : line ≡ end_text number (suc place) (get_or ends place end) (facts_at (end_of (suc place) held)) =
    ap (λ (x : EndRecord). end_text number (suc place) x facts) is ∙ ap (end_text number (suc place) (get_or ends place end)) told in
    let both : line ++ rest ≡ ends_text number (suc place) (drop place ends) held =
    ap (λ xs. xs ++ rest) here ∙ ap (λ (xs : List EndRecord). ends_text number (suc place) xs held) (sym (drop-cons ends place end h)) in
    piece text next line rest all wrote (ap (λ xs. text ++ xs) both ∙ so_far)

pub next_end : (number place id : ℕ) (ends : List EndRecord) (end : EndRecord) (facts : Option EndFacts) (held : List Holder) (text next all : List ℕ)
    → id ≡ suc place → place < length ends → end ≡ get_or ends place end
    → text ++ ends_text number (suc place) (drop place ends) held ≡ all → facts ≡ facts_at (end_of id held) → next ≡ text ++ end_text number id end facts
    → next ++ ends_text number (suc id) (drop id ends) held ≡ all
next_end number place id ends end facts held text next all e h is so_far =
    let P : ℕ → Type 0 =
    λ k. facts ≡ facts_at (end_of k held) → next ≡ text ++ end_text number k end facts → next ++ ends_text number (suc k) (drop k ends) held ≡ all in
    subst P (sym e) (λ told wrote. ends_on number place ends end facts held text next all h is told wrote so_far)

-- ---- one event more

-- what is written of an event by its number
abbrev line_at : List Bool → List Aired → ℕ → code.NumberedEvent → List ℕ
line_at marks air number e = event_text (mark_at marks) air (record { event = number; line = e.line }) (event_of e.event)

abbrev lines_on : List Bool → List Aired → ℕ → List code.NumberedEvent → List ℕ
lines_on marks air number es = events_from (mark_at marks) air number (map numbered_of es)

events_on : (marks : List Bool) (air : List Aired) (told : List code.NumberedEvent) (e : code.NumberedEvent) (place : ℕ) (text next all : List ℕ)
    → place < length told → e ≡ get_or told place e → next ≡ text ++ line_at marks air (suc place) e
    → text ++ lines_on marks air (suc place) (drop place told) ≡ all → next ++ lines_on marks air (suc (suc place)) (drop (suc place) told) ≡ all
events_on marks air told e place text next all h is wrote so_far =
    let line = line_at marks air (suc place) e in
    let rest = lines_on marks air (suc (suc place)) (drop (suc place) told) in
    let here : line ≡ line_at marks air (suc place) (get_or told place e) = ap (line_at marks air (suc place)) is in
    let both : line ++ rest ≡ lines_on marks air (suc place) (drop place told) =
    ap (λ xs. xs ++ rest) here ∙ ap (lines_on marks air (suc place)) (sym (drop-cons told place e h)) in
    piece text next line rest all wrote (ap (λ xs. text ++ xs) both ∙ so_far)

pub next_event : (marks : List Bool) (air : List Aired) (told : List code.NumberedEvent) (e : code.NumberedEvent) (place number : ℕ) (text next all : List ℕ)
    → number ≡ suc place → place < length told → e ≡ get_or told place e → text ++ lines_on marks air (suc place) (drop place told) ≡ all
    → next ≡ text ++ line_at marks air number e → next ++ lines_on marks air (suc number) (drop number told) ≡ all
next_event marks air told e place number text next all same h is so_far =
    let P : ℕ → Type 0 = λ k. next ≡ text ++ line_at marks air k e → next ++ lines_on marks air (suc k) (drop k told) ≡ all in
    subst P (sym same) (λ wrote. events_on marks air told e place text next all h is wrote so_far)

-- ---- the trace as a whole

six : (n f e l v c : List ℕ) → ((((n ++ f) ++ e) ++ l) ++ v) ++ c ≡ n ++ (f ++ (e ++ (l ++ (v ++ c))))
six n f e l v c = simp append_assoc

events_same : (left : Left) (w : World) (plan : Plan) (marks : List Bool) → IsTraceOf left w → ((line : ℕ) → mark_at marks line ≡ repeats plan.instructions line)
    → lines_on marks left.air 1 left.events ≡ events_from (repeats plan.instructions) w.air 1 w.told
events_same left w plan marks trace marked =
    let again : mark_at marks ≡ repeats plan.instructions = λ i line. marked line i in
    ap (λ (f : ℕ → Bool). events_from f left.air 1 (map numbered_of left.events)) again
    ∙ (ap (events_from (repeats plan.instructions) left.air 1) trace.told ∙ ap (λ air. events_from (repeats plan.instructions) air 1 w.told) trace.air)

nodes_same : (left : Left) (w : World) → IsTraceOf left w
    → nodes_trace (ends_left left) w.nodes w.mails ≡ nodes_trace (λ node. ends_of node w.told) w.nodes w.mails
nodes_same left w trace =
    let ends : ends_left left ≡ (λ node. ends_of node w.told) = λ i node. trace.ends node i in
    ap (λ (f : ℕ → List EndRecord). nodes_trace f w.nodes w.mails) ends

pub trace_joined : (left : Left) (w : World) (file : List ℕ) (plan : Plan) (marks : List Bool) (late : Option Late) (cause : Option LateCause)
    (empty first second third fourth fifth sixth : List ℕ) → IsTraceOf left w → ((line : ℕ) → mark_at marks line ≡ repeats plan.instructions line) → empty ≡ []
    → first ≡ empty ++ network_text plan → second ≡ first ++ file_text file → third ≡ second ++ lines_on marks left.air 1 left.events
    → fourth ≡ third ++ nodes_trace (ends_left left) w.nodes w.mails → fifth ≡ fourth ++ verdict_line late → sixth ≡ fifth ++ cause_text cause
    → sixth ≡ trace_text file plan w late cause
trace_joined left w file plan marks late cause empty first second third fourth fifth sixth trace marked none network lines events nodes verdict why =
    let n = network_text plan in
    let f = file_text file in
    let e = events_from (repeats plan.instructions) w.air 1 w.told in
    let l = nodes_trace (λ node. ends_of node w.told) w.nodes w.mails in
    let one : first ≡ n = network ∙ ap (λ t. t ++ n) none in
    let two : second ≡ n ++ f = lines ∙ ap (λ t. t ++ f) one in
    let three : third ≡ (n ++ f) ++ e = events ∙ (ap (λ t. t ++ lines_on marks left.air 1 left.events) two ∙ ap (λ t. (n ++ f) ++ t) (events_same left w plan marks trace marked)) in
    let four : fourth ≡ ((n ++ f) ++ e) ++ l = nodes ∙ (ap (λ t. t ++ nodes_trace (ends_left left) w.nodes w.mails) three ∙ ap (λ t. ((n ++ f) ++ e) ++ t) (nodes_same left w trace)) in
    let five : fifth ≡ (((n ++ f) ++ e) ++ l) ++ verdict_line late = verdict ∙ ap (λ t. t ++ verdict_line late) four in
    why ∙ (ap (λ t. t ++ cause_text cause) five ∙ six n f e l (verdict_line late) (cause_text cause))
