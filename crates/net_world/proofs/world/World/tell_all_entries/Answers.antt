use Rattle.std.proofs.Common.{◌≡◌, ◌<◌, ◌∙◌, List, [], ◌∷◌, ap, arith, false, length, not, refl, subst, sym, true}
use Rattle.std.proofs.lemmas.List.{length-set}
use Rattle.std.specs.Prelude.{IfSome, None, Option, Some, is_some, slice_get}
use Rattle.std.specs.Option.{option_map}
use Rattle.node_core.specs.Standing.{entries_left, entry_of}
use Rattle.node_core.specs.declared.entry.NodeEntry.{NodeEntry}
use Rattle.node_model.specs.States.{Entry, NodeState}
use Rattle.net_model.specs.Events.{event_of}
use Rattle.net_world.specs.Running.{Stands, change, course, entries_at, fetched_entry, first_entry}
use Rattle.net_model.specs.World.{World, tell}
use Rattle.net_model.specs.declared.members.Member.{Member}
use Rattle.net_world.proofs.Entering.{no_entry, one_event}
use Rattle.net_world.proofs.Placing.{asked, changed, entries_got, entries_set, with_node}
use Rattle.net_world.proofs.world.World.tell_all_entries.Goals as goal

-- what is said of a thing that was fetched, where one was
left_of_some : {A : Type 0} (r : Option A) (P : Type 0) → true ≡ is_some r → IfSome r (λ x. P) → P
left_of_some None P some h = absurd (cc)
left_of_some (Some x) P some h = h

none_fetched : (r : Option NodeEntry) (o : Option Entry) → false ≡ is_some r → option_map entry_of r ≡ o → None ≡ o
none_fetched None o none e = e
none_fetched (Some x) o none e = absurd (cc)

pub loop-event-preserved-in_ok-tell-in-Some : goal.loop-event-preserved-in_ok-tell-in-Some
loop-event-preserved-in_ok-tell-in-Some c =
    let old = c.loop-event.self in
    let at = c.args.at in
    let line = c.args.line in
    let m : Member = c.index_mut.result.now in
    record {
      within =
          omega (
            arith,
            c.loop-event.invariant.within,
            length-set old.members.items at (record m { node = c.trace_entry.new.self }),
            ap (λ (ms : List Member). length ms) c.in_ok-tell-in-Some.ensures.members,
          );
      goes = λ w t.
          let i = c.loop-event.invariant.goes w t in
          let event = event_of c.in-Some.event in
          let v : World = change at fetched_entry i.0 in
          let first = rw c.in-Some.is at (c.in_ok-event.ensures i.0 i.1) in
          let fetched = changed (course old) i.0 at m c.trace_entry.new.self fetched_entry c.loop-event.invariant.within i.1 c.index_mut.ensures.value c.trace_entry.ensures.goes in (
            tell line (event ∷ []) v,
            c.in_ok-tell-in-Some.ensures.goes v fetched,
            one_event line at i.0 event first ∙ i.2,
          );
    }

pub loop-event-smaller-in_ok-tell-in-Some : goal.loop-event-smaller-in_ok-tell-in-Some
loop-event-smaller-in_ok-tell-in-Some c =
    let ms = c.loop-event.self.members.items in
    let at = c.args.at in
    let m : Member = c.index_mut.result.now in
    let h : at < length ms = c.loop-event.invariant.within in
    let left = left_of_some c.trace_entry.result (entries_left c.trace_entry.new.self < entries_left m.node) (sym (c.is_none.ensures ∙ ap not c.if-is_none.false)) c.trace_entry.ensures.left in
    let before : entries_at at ms ≡ entries_left m.node = entries_got ms at m h ∙ ap (λ (x : Member). entries_left x.node) (sym c.index_mut.ensures.value) in
    rw (c.in_ok-tell-in-Some.ensures.members, entries_set ms at (record m { node = c.trace_entry.new.self }) h, before) left

pub returns-then-is_none : goal.returns-then-is_none
returns-then-is_none c = λ w t.
    let old = course c.loop-event.self in
    let at = c.args.at in
    let m : Member = c.index_mut.result.now in
    let h : at < length old.left.members = c.loop-event.invariant.within in
    let i = c.loop-event.invariant.goes w t in
    let fetched = changed old i.0 at m c.trace_entry.new.self fetched_entry h i.1 c.index_mut.ensures.value c.trace_entry.ensures.goes in
    let none : None ≡ first_entry (slice_get i.0.nodes at) =
    none_fetched c.trace_entry.result _ (sym (c.is_none.ensures ∙ ap not c.if-is_none.true))
    (asked old i.0 at m (λ (n : NodeState). slice_get n.station.entries 0) first_entry _ h i.1 c.index_mut.ensures.value (λ p is. refl) c.trace_entry.ensures.answer) in
    subst (λ v. Stands (with_node old at m c.trace_entry.new.self) v) (no_entry c.args.line at i.0 none ∙ i.2) fetched
