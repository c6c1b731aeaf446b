-- The entries of a node, told one after another.
use Rattle.std.proofs.Common.{◌≡◌, ◌<◌, ◌++◌, ◌∙◌, ℕ, refl, sym, ap, subst, List, [], ◌∷◌, length, map, drop, get_or, append_assoc, append-nil}
use Rattle.std.specs.Prelude.{Option, Some, None, Result, Ok, Err, IfOk, IfSome, false, is_some, slice_get, slice_set}
use Rattle.std.specs.Option.{option_map}
use Rattle.radio_base.specs.declared.no_memory.NoMemory.{NoMemory}
use Rattle.network_file.specs.declared.plan.declarations.Declaration.{Declaration}
use Rattle.node_core.specs.Standing.{NodeStands}
use Rattle.net_model.specs.declared.events.Event.{Event as SeenEvent}
use Rattle.node_model.specs.States as states
use Rattle.node_model.specs.States.{NodeState}
use Rattle.net_model.specs.Events.{Entry, Event, NumberedEvent, event_of}
use Rattle.net_world.specs.Running.{Course, IsFirst, Stands, all_entries, change, entry_events, fetched_entry, first_entry}
use Rattle.net_model.specs.Starting.{Placed}
use Rattle.net_model.specs.World.{Input, World, after, all_told, numbered, reach, tell}
use Rattle.net_model.proofs.Looks.{all_entries_of, change_of, reaches}
use Rattle.net_model.proofs.Changing.{get_set, set_same, set_twice}
use Rattle.net_world.proofs.Placing.{at_place, declared_is}
use Rattle.net_model.specs.declared.members.Member.{Member}

-- ---- what reaches a node, and then its entries

reach_case : (line at : ℕ) (input : Input) (w : World) (o : Option Placed) → slice_get w.nodes at ≡ o
    → all_entries_of line at (slice_get (change_of at (after w.now input) o w).nodes at) (change_of at (after w.now input) o w) ≡ reaches line at input o w
reach_case line at input w None e = ap (λ o. all_entries_of line at o w) e
reach_case line at input w (Some p) e =
    let n : NodeState = after w.now input p.state in
    let q : Placed = record p { state = n } in
    let v : World = record w { nodes = slice_set w.nodes at q } in
    let told : Placed = record p { state = all_told n } in
    ap (λ o. all_entries_of line at o v) (get_set w.nodes at p q e)
    ∙ ap (λ (ns : List Placed). tell line (map (Entry p.declared.node) n.station.entries) (record w { nodes = ns })) (set_twice w.nodes at q told)

pub reach_is : (line at : ℕ) (input : Input) (w : World) → all_entries line at (change at (after w.now input) w) ≡ reach line at input w
unfolding all_entries change reach
reach_is line at input w = reach_case line at input w (slice_get w.nodes at) refl

-- ---- one entry

one_told : (told : List NumberedEvent) (line node : ℕ) (e : states.Entry) (es : List states.Entry)
    → (told ++ map (numbered line) (Entry node e ∷ [])) ++ map (numbered line) (map (Entry node) es) ≡ told ++ map (numbered line) (map (Entry node) (e ∷ es))
one_told told line node e es = append_assoc told (map (numbered line) (Entry node e ∷ [])) (map (numbered line) (map (Entry node) es))

entry_case : (line at : ℕ) (v : World) (e : states.Entry) (p : Placed) (es : List states.Entry) → slice_get v.nodes at ≡ Some p → p.state.station.entries ≡ es
    → Some e ≡ slice_get es 0
    → all_entries line at (tell line (entry_events e (slice_get (change_of at fetched_entry (Some p) v).nodes at)) (change_of at fetched_entry (Some p) v))
    ≡ all_entries_of line at (Some p) v
unfolding all_entries
entry_case line at v e p [] is entries first = absurd (cc)
entry_case line at v e p (f ∷ es) is entries first =
    let same : e ≡ f = cc in
    let q : Placed = record p { state = fetched_entry p.state } in
    let u : World = record v { nodes = slice_set v.nodes at q } in
    let got : slice_get u.nodes at ≡ Some q = get_set v.nodes at p q is in
    let left : q.state.station.entries ≡ es = ap (λ (xs : List states.Entry). drop 1 xs) entries in
    let told : Placed = record p { state = all_told p.state } in
    ap (λ o. all_entries_of line at (slice_get u.nodes at) (tell line (entry_events e o) u)) got
    ∙ (ap (λ o. all_entries_of line at o (tell line (Entry p.declared.node e ∷ []) u)) got
    ∙ (ap (λ (xs : List states.Entry). tell line (map (Entry p.declared.node) xs) (tell line (Entry p.declared.node e ∷ []) (record v { nodes = slice_set u.nodes at told }))) left
    ∙ (ap (λ (ns : List Placed). tell line (map (Entry p.declared.node) es) (tell line (Entry p.declared.node e ∷ []) (record v { nodes = ns }))) (set_twice v.nodes at q told)
    ∙ (ap (λ (ts : List NumberedEvent). record v { nodes = slice_set v.nodes at told; told = ts }) (one_told v.told line p.declared.node e es)
    ∙ ap (λ (xs : List states.Entry). tell line (map (Entry p.declared.node) xs) (record v { nodes = slice_set v.nodes at told })) (ap (λ k. k ∷ es) same ∙ sym entries)))))

entry_of_option : (line at : ℕ) (v : World) (e : states.Entry) (o : Option Placed) → slice_get v.nodes at ≡ o → Some e ≡ first_entry o
    → all_entries line at (tell line (entry_events e (slice_get (change_of at fetched_entry o v).nodes at)) (change_of at fetched_entry o v)) ≡ all_entries_of line at o v
entry_of_option line at v e None is first = absurd (cc)
entry_of_option line at v e (Some p) is first = entry_case line at v e p p.state.station.entries is refl first

-- an entry that is fetched and told leaves the others to be told
pub one_entry : (line at : ℕ) (v : World) (e : states.Entry) → Some e ≡ first_entry (slice_get v.nodes at)
    → all_entries line at (tell line (entry_events e (slice_get (change at fetched_entry v).nodes at)) (change at fetched_entry v)) ≡ all_entries line at v
unfolding all_entries change
one_entry line at v e first = entry_of_option line at v e (slice_get v.nodes at) refl first

-- so does the event of it
event_of_option : (line at : ℕ) (v : World) (event : Event) (o : Option Placed) → slice_get v.nodes at ≡ o → IsFirst (Some event) o
    → all_entries line at (tell line (event ∷ []) (change_of at fetched_entry o v)) ≡ all_entries_of line at o v
event_of_option line at v event None is first = absurd first
event_of_option line at v event (Some p) is first =
    let q : Placed = record p { state = fetched_entry p.state } in
    let u : World = record v { nodes = slice_set v.nodes at q } in
    let got : slice_get u.nodes at ≡ Some q = get_set v.nodes at p q is in
    ap (λ e. all_entries line at (tell line (e ∷ []) u)) first.2
    ∙ (ap (λ o. all_entries line at (tell line (entry_events first.0 o) u)) (sym got) ∙ entry_case line at v first.0 p p.state.station.entries is refl first.1)

pub one_event : (line at : ℕ) (v : World) (event : Event) → IsFirst (Some event) (slice_get v.nodes at)
    → all_entries line at (tell line (event ∷ []) (change at fetched_entry v)) ≡ all_entries line at v
unfolding all_entries change
one_event line at v event first = event_of_option line at v event (slice_get v.nodes at) refl first

-- what the first entry of a node is told as
first_is : (c : Course) (w : World) (at : ℕ) (kept : Member) (entry : states.Entry) (event : Option SeenEvent) → at < length c.left.members → kept ≡ get_or c.left.members at kept
    → ((s : NodeState) → NodeStands kept.node s → Some entry ≡ slice_get s.station.entries 0) → IfSome event (λ e. event_of e ≡ Entry kept.declared.node entry) → Stands c w
    → IsFirst (option_map event_of event) (slice_get w.nodes at)
first_is c w at kept entry None h ke says is t = tt
first_is c w at kept entry (Some e) h ke says is t =
    let place = at_place c.left.members w.nodes w.mails at kept h t.trace.members in
    let p : Placed = place.placed in
    let first : Some entry ≡ slice_get p.state.station.entries 0 = says p.state (subst (λ (m : Member). NodeStands m.node p.state) (sym ke) place.stands) in
    let same : p.declared ≡ kept.declared = declared_is c w at kept p h ke t place.is_in in
    subst (λ o. IsFirst (Some (event_of e)) o) (sym place.is_in) (entry, first, is ∙ ap (λ (x : Declaration). Entry x.node entry) (sym same))

pub first_told : (c : Course) (at : ℕ) (kept : Member) (entry : states.Entry) (r : Result (Option SeenEvent) NoMemory) → at < length c.left.members → kept ≡ get_or c.left.members at kept
    → ((s : NodeState) → NodeStands kept.node s → Some entry ≡ slice_get s.station.entries 0)
    → IfOk r (λ event. IfSome event (λ e. event_of e ≡ Entry kept.declared.node entry)) → IfOk r (λ event. (w : World) → Stands c w → IsFirst (option_map event_of event) (slice_get w.nodes at))
first_told c at kept entry (Ok event) h ke says is = λ w t. first_is c w at kept entry event h ke says is t
first_told c at kept entry (Err e) h ke says is = is

-- what an entry that was fetched is told as
told_case : (at : ℕ) (w : World) (entry : states.Entry) (p : Placed) → slice_get w.nodes at ≡ Some p
    → Entry p.declared.node entry ∷ [] ≡ entry_events entry (slice_get (change_of at fetched_entry (Some p) w).nodes at)
told_case at w entry p is = sym (ap (entry_events entry) (get_set w.nodes at p (record p { state = fetched_entry p.state }) is))

told_of_option : (at : ℕ) (w : World) (entry : states.Entry) (p : Placed) (o : Option Placed) → slice_get w.nodes at ≡ o → o ≡ Some p
    → Entry p.declared.node entry ∷ [] ≡ entry_events entry (slice_get (change_of at fetched_entry o w).nodes at)
told_of_option at w entry p None is e = absurd (cc)
told_of_option at w entry p (Some q) is e =
    let same : p ≡ q = cc in
    ap (λ (x : Placed). Entry x.declared.node entry ∷ []) same ∙ told_case at w entry q is

pub entry_told : (c : Course) (w : World) (at : ℕ) (kept : Member) (entry : states.Entry) (event : Event) → at < length c.left.members → kept ≡ get_or c.left.members at kept
    → Stands c w → event ≡ Entry kept.declared.node entry → event ∷ [] ≡ entry_events entry (slice_get (change at fetched_entry w).nodes at)
unfolding change
entry_told c w at kept entry event h here t is =
    let place = at_place c.left.members w.nodes w.mails at kept h t.trace.members in
    let p : Placed = place.placed in
    let same : p.declared ≡ kept.declared = declared_is c w at kept p h here t place.is_in in
    ap (λ e. e ∷ []) (is ∙ sym (ap (λ (x : Declaration). Entry x.node entry) same)) ∙ told_of_option at w entry p (slice_get w.nodes at) refl place.is_in

-- ---- none is left

none_case : (line at : ℕ) (v : World) (p : Placed) (es : List states.Entry) → p.state.station.entries ≡ es → None ≡ slice_get es 0
    → change_of at fetched_entry (Some p) v ≡ all_entries_of line at (Some p) v
none_case line at v p [] entries first =
    let fetched : fetched_entry p.state ≡ all_told p.state =
    ap (λ (xs : List states.Entry). record (p.state) { station = record (p.state.station) { entries = xs } }) (ap (λ (xs : List states.Entry). drop 1 xs) entries) in
    ap (λ (n : NodeState). record v { nodes = slice_set v.nodes at (record p { state = n }) }) fetched
    ∙ (ap (λ (ts : List NumberedEvent). record v { nodes = slice_set v.nodes at (record p { state = all_told p.state }); told = ts }) (sym (append-nil v.told))
    ∙ ap (λ (xs : List states.Entry). tell line (map (Entry p.declared.node) xs) (record v { nodes = slice_set v.nodes at (record p { state = all_told p.state }) })) (sym entries))
none_case line at v p (e ∷ es) entries first = absurd (cc)

none_of_option : (line at : ℕ) (v : World) (o : Option Placed) → None ≡ first_entry o → change_of at fetched_entry o v ≡ all_entries_of line at o v
none_of_option line at v None first = refl
none_of_option line at v (Some p) first = none_case line at v p p.state.station.entries refl first

pub no_entry : (line at : ℕ) (v : World) → None ≡ first_entry (slice_get v.nodes at) → change at fetched_entry v ≡ all_entries line at v
unfolding all_entries change
no_entry line at v first = none_of_option line at v (slice_get v.nodes at) first

-- ---- there is none

pub none_by : (o : Option states.Entry) → false ≡ is_some o → None ≡ o
none_by None e = refl
none_by (Some x) e = absurd (cc)

itself_case : (line at : ℕ) (v : World) (p : Placed) (es : List states.Entry) → slice_get v.nodes at ≡ Some p → p.state.station.entries ≡ es → None ≡ slice_get es 0
    → all_entries_of line at (Some p) v ≡ v
itself_case line at v p [] is entries first =
    let told : all_told p.state ≡ p.state = ap (λ (xs : List states.Entry). record (p.state) { station = record (p.state.station) { entries = xs } }) (sym entries) in
    ap (λ (xs : List states.Entry). tell line (map (Entry p.declared.node) xs) (record v { nodes = slice_set v.nodes at (record p { state = all_told p.state }) })) entries
    ∙ (ap (λ (n : NodeState). tell line [] (record v { nodes = slice_set v.nodes at (record p { state = n }) })) told
    ∙ (ap (λ (ns : List Placed). tell line [] (record v { nodes = ns })) (set_same v.nodes at p is) ∙ ap (λ (ts : List NumberedEvent). record v { told = ts }) (append-nil v.told)))
itself_case line at v p (e ∷ es) is entries first = absurd (cc)

itself_of : (line at : ℕ) (v : World) (o : Option Placed) → slice_get v.nodes at ≡ o → None ≡ first_entry o → all_entries_of line at o v ≡ v
itself_of line at v None is first = refl
itself_of line at v (Some p) is first = itself_case line at v p p.state.station.entries is refl first

pub none_to_tell : (line at : ℕ) (v : World) → None ≡ first_entry (slice_get v.nodes at) → all_entries line at v ≡ v
unfolding all_entries
none_to_tell line at v first = itself_of line at v (slice_get v.nodes at) refl first
