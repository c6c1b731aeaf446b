use Rattle.std.proofs.Common.{◌∙◌, ap, refl}
use Rattle.node_core.specs.Standing.{Kept, view_of}
use Rattle.node_model.specs.States.{State, fetch_entry}
use Rattle.node_core.specs.declared.station.Station.{Station}
use Rattle.node_core.specs.Bridged.{Fetches_entry}
use Rattle.node_core.proofs.Nodes.{entry_fetched, led, sound_fetched}
use Rattle.node_core.proofs.node.Node.trace_entry.Goals as goal

pub invariant_of-self : goal.invariant_of-self
invariant_of-self c unspent =
    let s : Station = c.self.inside.station in
    let s2 : Station = record s { entries = c.pop_front-entry.new.self } in
    sound_fetched (λ (n : State). fetch_entry n) (λ n told. told) (λ n. refl) (led Fetches_entry tt) (view_of c.self.inside.deframer s c.self.inside.spent) s2
    (entry_fetched s s2 c.pop_front-entry.ensures.rest (λ i. s2)) (λ drained. drained) (c.self.invariant unspent)

pub returns-clause-kept : goal.returns-clause-kept
returns-clause-kept c unspent = c.keeps_within.ensures (ap (λ (k : Kept). k.spent) c.self.view_is ∙ unspent)
