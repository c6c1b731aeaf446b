use Rattle.std.proofs.Common.{◌≡◌, ◌∷◌, ◌∙◌, [], List, ap, sym, refl, subst}
use Rattle.std.specs.Prelude.{None, Some, slice_get}
use Rattle.node_model.specs.States.{NodeState}
use Rattle.node_core.specs.Standing.{entries_left, entry_of}
use Rattle.net_model.specs.Events.{Event, event_of}
use Rattle.net_model.specs.declared.members.Member.{Member}
use Rattle.net_world.specs.Running.{Stands, change, course, entries_at, entry_events, fetched_entry, first_entry}
use Rattle.net_model.specs.World.{World, tell}
use Rattle.net_world.proofs.Entering.{entry_told, no_entry, one_entry}
use Rattle.net_world.proofs.Placing.{asked, changed, entries_got, entries_set, with_node}
use Rattle.net_world.proofs.world.World.tell_one.Goals as goal

pub returns-in_ok-tell-in-Some-clause-told : goal.returns-in_ok-tell-in-Some-clause-told
returns-in_ok-tell-in-Some-clause-told c = λ told w t.
    let old = course c.args.self.now in
    let at = c.args.at in
    let line = c.args.line in
    let m : Member = c.index_mut.result.now in
    let entry = entry_of c.in-Some.entry in
    let v : World = change at fetched_entry w in
    let goes = changed old w at m c.trace_entry.new.self fetched_entry c.requires t c.index_mut.ensures.value c.trace_entry.ensures.goes in
    let first : Some entry ≡ first_entry (slice_get w.nodes at) =
    rw c.in-Some.is at (asked old w at m (λ (n : NodeState). slice_get n.station.entries 0) first_entry _ c.requires t c.index_mut.ensures.value (λ p is. refl) c.trace_entry.ensures.answer) in
    let events : event_of c.in_ok-event-in-Some.event ∷ [] ≡ entry_events entry (slice_get v.nodes at) =
    entry_told old w at c.index.result.now entry _ c.requires c.index.ensures t c.in_ok-event-in-Some.ensures in (
      tell line (entry_events entry (slice_get v.nodes at)) v,
      subst (λ (es : List Event). Stands (course c.tell.new.self) (tell line es v)) events (c.in_ok-tell-in-Some.ensures.goes v goes),
      one_entry line at w entry first,
    )

pub returns-in-None-clause-none : goal.returns-in-None-clause-none
returns-in-None-clause-none c = λ told w t.
    let old = course c.args.self.now in
    let at = c.args.at in
    let m : Member = c.index_mut.result.now in
    let goes = changed old w at m c.trace_entry.new.self fetched_entry c.requires t c.index_mut.ensures.value c.trace_entry.ensures.goes in
    let none : None ≡ first_entry (slice_get w.nodes at) =
    rw c.in-None.is at (asked old w at m (λ (n : NodeState). slice_get n.station.entries 0) first_entry _ c.requires t c.index_mut.ensures.value (λ p is. refl) c.trace_entry.ensures.answer) in
    subst (λ v. Stands (with_node old at m c.trace_entry.new.self) v) (no_entry c.args.line at w none) goes

pub returns-in_ok-tell-in-Some-clause-left : goal.returns-in_ok-tell-in-Some-clause-left
returns-in_ok-tell-in-Some-clause-left c = λ told.
    let ms = c.args.self.now.members.items in
    let at = c.args.at in
    let m : Member = c.index_mut.result.now in
    let before : entries_at at ms ≡ entries_left m.node = entries_got ms at m c.requires ∙ ap (λ (x : Member). entries_left x.node) (sym c.index_mut.ensures.value) in
    rw (c.in_ok-tell-in-Some.ensures.members, entries_set ms at (record m { node = c.trace_entry.new.self }) c.requires, before) c.in-Some.ensures.left
