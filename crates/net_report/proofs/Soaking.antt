-- The line on a soak, from what a trace has.
use Rattle.std.proofs.Common.{◌≡◌, ◌<◌, ◌≤◌, ◌+◌, ◌++◌, [], ◌∙◌, ℕ, suc, List, cond, ap, sym, subst, append_assoc, length, map, take, drop, get_or, drop-cons}
use Rattle.std.specs.Prelude.{Option, count_by, flat_map}
use Rattle.std.proofs.lemmas.List.{take_all}
use Rattle.std.proofs.lemmas.List.Folds.{fold-map}
use Rattle.circuit_l4.specs.declared.facts.EndFacts.{EndFacts}
use Rattle.circuit_table.specs.CircuitSets.{facts_at}
use Rattle.circuit_table.specs.Sets.{Holder, end_of}
use Rattle.circuit_verdict.specs.declared.late.Late.{Late}
use Rattle.net_model.specs.declared.ends.EndRecord.{EndRecord}
use Rattle.net_model.specs.declared.events.NumberedEvent as code
use Rattle.net_model.specs.Events.{NumberedEvent, event_of, numbered_of}
use Rattle.net_report.specs.Reporting.{ends_left}
use Rattle.net_report.specs.Reports.{verdict_line, counts_text, facts_by, facts_from, facts_left, facts_of, failures, is_failure, soak_text}
use Rattle.net_model.specs.Standing.{IsTraceOf, Left}
use Rattle.net_model.specs.World.{World}
use Rattle.net_report.proofs.Texts.{ends_same}

-- all ends that failed are counted
pub failures_are : (told : List code.NumberedEvent) (i count : ℕ) → length told ≤ i → count ≡ count_by (λ (e : code.NumberedEvent). is_failure (event_of e.event)) (take i told)
    → count ≡ failures (map numbered_of told)
failures_are told i count h e =
    e ∙ (ap (count_by (λ (e : code.NumberedEvent). is_failure (event_of e.event))) (take_all i told h) ∙ sym (fold-map (λ n (e : NumberedEvent). n + cond (is_failure e.event) 1 0) numbered_of 0 told))

-- one end more
end_on : (place : ℕ) (made : List EndRecord) (end : EndRecord) (facts : Option EndFacts) (held : List Holder) (ends next all : List EndFacts)
    → place < length made → end ≡ get_or made place end → facts ≡ facts_at (end_of (suc place) held) → next ≡ ends ++ facts_by end.outcome facts
    → ends ++ facts_from (suc place) (drop place made) held ≡ all → next ++ facts_from (suc (suc place)) (drop (suc place) made) held ≡ all
end_on place made end facts held ends next all h is told added so_far =
    let one = facts_by end.outcome facts in
    let rest = facts_from (suc (suc place)) (drop (suc place) made) held in
    let here : one ≡ facts_by (get_or made place end).outcome (facts_at (end_of (suc place) held)) =
    ap (λ (x : EndRecord). facts_by x.outcome facts) is ∙ ap (facts_by (get_or made place end).outcome) told in
    let both : one ++ rest ≡ facts_from (suc place) (drop place made) held =
    ap (λ xs. xs ++ rest) here ∙ ap (λ (xs : List EndRecord). facts_from (suc place) xs held) (sym (drop-cons made place end h)) in
    ap (λ xs. xs ++ rest) added ∙ (append_assoc ends one rest ∙ (ap (λ xs. ends ++ xs) both ∙ so_far))

pub next_end : (place id : ℕ) (made : List EndRecord) (end : EndRecord) (facts : Option EndFacts) (held : List Holder) (ends next all : List EndFacts)
    → id ≡ suc place → place < length made → end ≡ get_or made place end
    → ends ++ facts_from (suc place) (drop place made) held ≡ all → facts ≡ facts_at (end_of id held) → next ≡ ends ++ facts_by end.outcome facts
    → next ++ facts_from (suc id) (drop id made) held ≡ all
next_end place id made end facts held ends next all e h is so_far =
    let P : ℕ → Type 0 =
    λ k. facts ≡ facts_at (end_of k held) → next ≡ ends ++ facts_by end.outcome facts → next ++ facts_from (suc k) (drop k made) held ≡ all in
    subst P (sym e) (λ told added. end_on place made end facts held ends next all h is told added so_far)

-- the ends of all nodes
pub facts_joined : (left : Left) (w : World) (empty ends : List EndFacts) → IsTraceOf left w → empty ≡ []
    → ends ≡ empty ++ flat_map (facts_of (ends_left left)) w.nodes → ends ≡ facts_left w
facts_joined left w empty ends trace none added =
    added ∙ (ap (λ xs. xs ++ flat_map (facts_of (ends_left left)) w.nodes) none ∙ ap (λ made. flat_map (facts_of made) w.nodes) (ends_same left w trace))

-- the counts, and the verdict
pub line_joined : (left : Left) (w : World) (seed : ℕ) (late : Option Late) (ends : List EndFacts) (empty first second : List ℕ) → IsTraceOf left w → ends ≡ facts_left w
    → empty ≡ [] → first ≡ empty ++ counts_text seed (length left.air) ends (failures (map numbered_of left.events)) → second ≡ first ++ verdict_line late
    → second ≡ soak_text seed w late
line_joined left w seed late ends empty first second trace are none counts verdict =
    let count : counts_text seed (length left.air) ends (failures (map numbered_of left.events)) ≡ counts_text seed (length w.air) (facts_left w) (failures w.told) =
    ap (λ air. counts_text seed (length air) ends (failures (map numbered_of left.events))) trace.air
    ∙ (ap (λ xs. counts_text seed (length w.air) xs (failures (map numbered_of left.events))) are ∙ ap (λ es. counts_text seed (length w.air) (facts_left w) (failures es)) trace.told) in
    verdict ∙ ap (λ t. t ++ verdict_line late) (counts ∙ (ap (λ t. t ++ counts_text seed (length left.air) ends (failures (map numbered_of left.events))) none ∙ count))
