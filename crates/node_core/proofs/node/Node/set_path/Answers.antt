use Rattle.std.proofs.Common.{◌∙◌, refl, subst, sym}
use Rattle.std.specs.Prelude.{Bool, Result, Err}
use Rattle.std.specs.Result.{result_eq}
use Rattle.std.specs.contracts.prelude.UnitPartialEq.TheImpl as unit_test
use Rattle.link_table.specs.Calls.{with_path}
use Rattle.link_table.specs.contracts.path_refusal.PathRefusalPartialEq.TheImpl as refused
use Rattle.link_table.specs.declared.path_refusal.PathRefusal.{PathRefusal}
use Rattle.link_table.specs.declared.path_refusal.PathRefusal.TheVariants as paths
use Rattle.node_core.specs.Standing.{view_of}
use Rattle.node_core.specs.Sound.{IsSound}
use Rattle.node_core.proofs.Holding.{with_carrier}
use Rattle.node_core.specs.Bridged.{Paths}
use Rattle.node_core.proofs.Nodes.{led, not_no_memory, sound_path}
use Rattle.node_core.proofs.node.Node.set_path.Goals as goal

abbrev is_no_memory : Result (Unit {0}) PathRefusal → Bool
is_no_memory r = result_eq unit_test.eq-value.it refused.eq-value.it r (Err paths.NoMemory)

pub invariant_of-self : goal.invariant_of-self
invariant_of-self c unspent =
    let e = c.set_path-outcome.ensures in
    let r = c.set_path-outcome.result in
    let some = not_no_memory is_no_memory refl r (sym unspent ∙ c.eq-self-inside.ensures) in
    let k = view_of c.self.inside.deframer c.self.inside.station c.self.inside.spent in
    let s = with_carrier c.self.inside.station c.router_mut.result.now c.set_path-outcome.new.self in
    subst (λ (b : Bool). IsSound (view_of c.self.inside.deframer s b)) (c.if-self.false ∙ sym unspent)
    (sound_path r (with_path c.args.peer.now c.args.path.now) k c.router_mut.result.now c.carrier_mut.result.now c.set_path-outcome.new.self
    c.router_mut.ensures.value c.carrier_mut.ensures.value some e.goes e.err (λ t. refl) (led (Paths c.args.peer.now c.args.path.now) tt) (c.self.invariant c.if-self.false))
