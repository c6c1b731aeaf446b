-- What a verdict takes in of a trace, piece by piece.
use Rattle.std.proofs.Common.{◌≡◌, ◌<◌, ◌≤◌, ◌++◌, ◌+◌, ◌∷◌, [], ◌∙◌, ℕ, List, map, length, drop, get_or, refl, sym, ap, subst, append_assoc, append-nil, add-one, drop-cons}
use Rattle.std.proofs.lemmas.List.{drop_all}
use Rattle.std.specs.Prelude.{Option, Some, None, slice_get}
use Rattle.std.specs.List.{position_or_len}
use Rattle.std.specs.Option.{option_map}
use Rattle.ax_address.specs.Callsign.{Callsign}
use Rattle.circuit_table.specs.Pumps as pumps
use Rattle.circuit_table.specs.Sets as sets
use Rattle.circuit_verdict.specs.declared.event.Numbered.{Numbered}
use Rattle.circuit_verdict.specs.declared.late.Late.{Late}
use Rattle.circuit_verdict.specs.declared.verdict.Verdict.{Verdict}
use Rattle.circuit_verdict.specs.Standing.{StandsFor, allowance_in}
use Rattle.circuit_verdict.specs.Verdicts.{IsVerdict}
use Rattle.network_file.specs.declared.plan.declarations.Declaration.{Declaration}
use Rattle.network_file.specs.Plan.{Plan}
use Rattle.node_model.specs.States as states
use Rattle.net_model.specs.declared.events.NumberedEvent.{NumberedEvent}
use Rattle.net_model.specs.Circuits.{CircuitEvent, IsVerdictOn, allowance_of, at_node, event_at, events_at, judged, told_at}
use Rattle.net_model.specs.Events as events
use Rattle.net_model.specs.Events.{Event, event_of, numbered_of}
use Rattle.net_verdict.specs.Judging.{Heeds, circuit_told}
use Rattle.net_model.specs.Standing.{AreDeclared, is_member}
use Rattle.net_model.specs.Starting.{Placed}
use Rattle.net_model.specs.Standing.{IsTraceOf, Left}
use Rattle.net_model.specs.World.{World}
use Rattle.net_model.specs.declared.members.Member.{Member}
use Rattle.net_model.proofs.Stores.{all_declared, declared_at, declared_place}

-- ---- nothing, and one list behind another

heeds_none : (v : Verdict) → Heeds v v []
heeds_none v = record { stands = λ ns h. record { more = []; are = refl; stands = subst (λ xs. StandsFor v xs) (sym (append-nil ns)) h }; same = refl }

pub heeds_none_as : (v : Verdict) (told : List CircuitEvent) → told ≡ [] → Heeds v v told
heeds_none_as v told e = subst (λ es. Heeds v v es) (sym e) (heeds_none v)

pub heeds_one : (old new : Verdict) (n : Numbered) (told : List CircuitEvent) → told ≡ judged n ∷ [] → ((ns : List Numbered) → StandsFor old ns → StandsFor new (ns ++ n ∷ []))
    → allowance_in new ≡ allowance_in old → Heeds old new told
heeds_one old new n told e goes same =
    subst (λ es. Heeds old new es) (sym e) (record { stands = λ ns s. record { more = n ∷ []; are = refl; stands = goes ns s }; same = same })

map_joined : (xs ys : List Numbered) → map judged (xs ++ ys) ≡ map judged xs ++ map judged ys
map_joined [] ys = refl
map_joined (x ∷ xs) ys = ap (λ zs. judged x ∷ zs) (map_joined xs ys)

heeds_joined : (old mid new : Verdict) (a b : List CircuitEvent) → Heeds old mid a → Heeds mid new b → Heeds old new (a ++ b)
heeds_joined old mid new a b g h = record {
  stands = λ ns s.
      let first = g.stands ns s in
      let second = h.stands (ns ++ first.more) first.stands in
      record {
        more = first.more ++ second.more;
        are = map_joined first.more second.more ∙ (ap (λ xs. xs ++ map judged second.more) first.are ∙ ap (λ xs. a ++ xs) second.are);
        stands = subst (λ xs. StandsFor new xs) (append_assoc ns first.more second.more) second.stands;
      };
  same = h.same ∙ g.same;
}

-- ---- event by event

pub heeds_next : (es : List NumberedEvent) (i : ℕ) (x : NumberedEvent) (nodes : List Placed) (old mid new : Verdict) → i < length es → x ≡ get_or es i x
    → Heeds old mid (event_at nodes x.line (event_of x.event)) → Heeds mid new (events_at nodes (map numbered_of (drop (i + 1) es)))
    → Heeds old new (events_at nodes (map numbered_of (drop i es)))
heeds_next es i x nodes old mid new h is one later =
    let both : Heeds old new (event_at nodes x.line (event_of x.event) ++ events_at nodes (map numbered_of (drop (i + 1) es))) =
    heeds_joined old mid new (event_at nodes x.line (event_of x.event)) (events_at nodes (map numbered_of (drop (i + 1) es))) one later in
    let parts : x ∷ drop (i + 1) es ≡ drop i es = ap (λ (y : NumberedEvent). y ∷ drop (i + 1) es) is ∙ (ap (λ k. get_or es i x ∷ drop k es) (add-one i) ∙ sym (drop-cons es i x h)) in
    subst (λ (ys : List NumberedEvent). Heeds old new (events_at nodes (map numbered_of ys))) parts both

pub heeds_all : (es : List NumberedEvent) (i : ℕ) (nodes : List Placed) (v : Verdict) → length es ≤ i → Heeds v v (events_at nodes (map numbered_of (drop i es)))
heeds_all es i nodes v h = subst (λ (ys : List NumberedEvent). Heeds v v (events_at nodes (map numbered_of ys))) (sym (drop_all i es h)) (heeds_none v)

-- ---- what an event tells of circuits

abbrev pub at_told : List Placed → ℕ → Option (ℕ × sets.CircuitTold) → List CircuitEvent
at_told nodes line None = []
at_told nodes line (Some p) = told_at nodes line p.0 p.1

pub event_told : (nodes : List Placed) (line : ℕ) (e : Event) → event_at nodes line e ≡ at_told nodes line (circuit_told e)
event_told nodes line (events.Entry node (states.Of_set (pumps.Of told))) = refl
event_told nodes line (events.Entry node (states.Of_set (pumps.Dropped routed))) = refl
event_told nodes line (events.Entry node (states.Of_set (pumps.Lost call))) = refl
event_told nodes line (events.Entry node (states.Of_link peer notice)) = refl
event_told nodes line (events.Entry node (states.Overflow live would_be)) = refl
event_told nodes line (events.Restarted node pair) = refl
event_told nodes line (events.Lost node end facts) = refl
event_told nodes line other = refl

-- ---- what is told at the node of a number

one_at : (line at : ℕ) (o : Option Placed) (told : sets.CircuitTold) (own : Callsign) → option_map (λ p. p.declared.call) o ≡ Some own
    → at_node line at o told ≡ record { line = line; event = record { node = at; own = own; told = told } } ∷ []
one_at line at None told own e = cc
one_at line at (Some p) told own e = let same : p.declared.call ≡ own = cc in rw same refl

none_at : (line at : ℕ) (o : Option Placed) (told : sets.CircuitTold) → option_map (λ p. p.declared.call) o ≡ None → at_node line at o told ≡ []
none_at line at None told e = refl
none_at line at (Some p) told e = cc

calls_of : {A : Type 0} (f : A → Declaration) (o : Option A) → option_map (λ (d : Declaration). d.call) (option_map f o) ≡ option_map (λ x. (f x).call) o
calls_of f None = refl
calls_of f (Some x) = refl

call_there : (members : List Member) (nodes : List Placed) (k : ℕ) → AreDeclared members nodes
    → option_map (λ (p : Placed). p.declared.call) (slice_get nodes k) ≡ option_map (λ (m : Member). m.declared.call) (slice_get members k)
call_there members nodes k e =
    sym (calls_of (λ (p : Placed). p.declared) (slice_get nodes k))
    ∙ (ap (option_map (λ (d : Declaration). d.call)) (sym (declared_at members nodes k e)) ∙ calls_of (λ (m : Member). m.declared) (slice_get members k))

pub told_one : (members : List Member) (nodes : List Placed) (line number k : ℕ) (told : sets.CircuitTold) (own : Callsign) → AreDeclared members nodes
    → k ≡ position_or_len (is_member number) members → option_map (λ (m : Member). m.declared.call) (slice_get members k) ≡ Some own
    → told_at nodes line number told ≡ record { line = line; event = record { node = k; own = own; told = told } } ∷ []
told_one members nodes line number k told own e place h =
    ap (λ at. at_node line at (slice_get nodes at) told) (sym (place ∙ declared_place number members nodes e)) ∙ one_at line k (slice_get nodes k) told own (call_there members nodes k e ∙ h)

pub told_none : (members : List Member) (nodes : List Placed) (line number k : ℕ) (told : sets.CircuitTold) → AreDeclared members nodes
    → k ≡ position_or_len (is_member number) members → option_map (λ (m : Member). m.declared.call) (slice_get members k) ≡ None → told_at nodes line number told ≡ []
told_none members nodes line number k told e place h =
    ap (λ at. at_node line at (slice_get nodes at) told) (sym (place ∙ declared_place number members nodes e)) ∙ none_at line k (slice_get nodes k) told (call_there members nodes k e ∙ h)

-- ---- the verdict on all of it

pub judges_all : (old new : Verdict) (left : Left) (members : List Member) (events : List NumberedEvent) (late : Option Late) (plan : Plan) (w : World)
    → StandsFor old [] → allowance_in old ≡ allowance_of plan → IsTraceOf left w → members ≡ left.members → events ≡ left.events
    → ((nodes : List Placed) → AreDeclared members nodes → Heeds old new (events_at nodes (map numbered_of events)))
    → ((ns : List Numbered) → StandsFor new ns → IsVerdict (allowance_in new) ns late)
    → IsVerdictOn plan w late
judges_all old new left members events late plan w start allowed trace same_members same_events heeds judges =
    let declared : AreDeclared members w.nodes = ap (map (λ (m : Member). m.declared)) same_members ∙ all_declared left.members w.nodes w.mails trace.members in
    let taken = heeds w.nodes declared in
    let all = taken.stands [] start in
    record {
      events = all.more;
      are = all.are ∙ ap (events_at w.nodes) (ap (map numbered_of) same_events ∙ trace.told);
      verdict = subst (λ a. IsVerdict a all.more late) (taken.same ∙ allowed) (judges all.more all.stands);
    }
