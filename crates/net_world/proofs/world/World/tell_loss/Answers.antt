use Rattle.std.proofs.Common.{◌∙◌, ◌∷◌, List, [], ap, refl, sym, subst}
use Rattle.circuit_table.specs.CircuitSets.{facts_at}
use Rattle.circuit_table.specs.Sets.{end_of}
use Rattle.node_model.specs.States.{NodeState}
use Rattle.net_model.specs.Events.{Event, Lost}
use Rattle.net_model.specs.declared.end_datagrams.LostEnd.{LostEnd}
use Rattle.net_model.specs.Lines.{loss_of}
use Rattle.net_world.specs.Running.{Stands, course, loss_at}
use Rattle.net_model.specs.World.{tell}
use Rattle.net_world.proofs.Placing.{asked}
use Rattle.net_world.proofs.Telling.{tell_none}
use Rattle.net_world.proofs.world.World.tell_loss.Goals as goal

pub returns-in_ok-tell-in-Some-clause-goes : goal.returns-in_ok-tell-in-Some-clause-goes
returns-in_ok-tell-in-Some-clause-goes c = λ w t.
    let node = c.args.node in
    let id = c.args.end in
    let here = asked (course c.args.self.now) w c.args.at c.index.result.now (λ (n : NodeState). loss_of node id (facts_at (end_of id n.station.set.set.ends))) (loss_at node id)
    (loss_of node id c.facts.result) c.requires t c.index.ensures (λ p is. refl) (λ s stands. ap (loss_of node id) (c.facts.ensures s stands)) in
    let lost = ap (λ (l : LostEnd). tell c.args.line (Lost node l.id l.facts ∷ []) w) c.in_ok-end-in-Some.ensures.ok in
    subst (λ v. Stands (course c.tell.new.self) v) (lost ∙ ap (λ (es : List Event). tell c.args.line es w) (rw c.in-Some.is at here)) (c.in_ok-tell-in-Some.ensures.goes w t)

pub returns-in-None-clause-goes : goal.returns-in-None-clause-goes
returns-in-None-clause-goes c = λ w t.
    let node = c.args.node in
    let id = c.args.end in
    let here = asked (course c.args.self.now) w c.args.at c.index.result.now (λ (n : NodeState). loss_of node id (facts_at (end_of id n.station.set.set.ends))) (loss_at node id)
    (loss_of node id c.facts.result) c.requires t c.index.ensures (λ p is. refl) (λ s stands. ap (loss_of node id) (c.facts.ensures s stands)) in
    subst (λ (es : List Event). Stands (course c.args.self.now) (tell c.args.line es w)) (rw c.in-None.is at here)
    (subst (λ v. Stands (course c.args.self.now) v) (sym (tell_none c.args.line w)) t)
