use Rattle.std.proofs.Common.{◌≡◌, ◌∙◌, refl, sym, subst}
use Rattle.std.specs.Prelude.{Option, None, is_some, slice_get}
use Rattle.node_model.specs.States.{NodeState}
use Rattle.net_world.specs.Running.{Stands, course, first_entry}
use Rattle.net_model.specs.Starting.{Placed}
use Rattle.net_world.proofs.Entering.{none_by, none_to_tell}
use Rattle.net_world.proofs.Placing.{asked}
use Rattle.net_world.proofs.world.World.tell_entries.Goals as goal

pub returns-then-not-has_entries : goal.returns-then-not-has_entries
returns-then-not-has_entries c = λ w t.
    let has = asked (course c.args.self.now) w c.args.at c.index.result.now (λ (n : NodeState). is_some (slice_get n.station.entries 0))
    (λ (o : Option Placed). is_some (first_entry o)) _ c.requires t c.index.ensures (λ p is. refl) c.has_entries.ensures in
    let none : None ≡ first_entry (slice_get w.nodes c.args.at) = none_by _ (sym c.if-not-has_entries.true ∙ has) in
    subst (λ v. Stands (course c.args.self.now) v) (sym (none_to_tell c.args.line c.args.at w none)) t
