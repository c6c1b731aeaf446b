use Rattle.std.proofs.Common.{◌∙◌, refl, subst, sym}
use Rattle.std.specs.Prelude.{Bool, Result, Err, OnOk}
use Rattle.std.specs.Result.{result_eq}
use Rattle.std.specs.contracts.prelude.UnitPartialEq.TheImpl as unit_test
use Rattle.node_core.specs.contracts.quality_refusal.QualityRefusalPartialEq.TheImpl as refused
use Rattle.node_core.specs.declared.quality_refusal.QualityRefusal.{QualityRefusal}
use Rattle.node_core.specs.declared.quality_refusal.QualityRefusal.TheVariants as qualities
use Rattle.node_core.specs.Standing.{Kept, NodeGoes, view_of}
use Rattle.node_core.specs.Sound.{IsSound}
use Rattle.node_core.specs.Bridged.{Qualities}
use Rattle.node_core.specs.Qualities.{with_quality}
use Rattle.node_core.proofs.Nodes.{led}
use Rattle.node_core.proofs.Qualities.{known, quality_goes, sound_quality}
use Rattle.node_core.proofs.node.Node.set_quality.Goals as goal

abbrev is_no_memory : Result (Unit {0}) QualityRefusal → Bool
is_no_memory r = result_eq unit_test.eq-value.it refused.eq-value.it r (Err qualities.NoMemory)

pub invariant_of-self : goal.invariant_of-self
invariant_of-self c unspent =
    let e = c.set_quality-outcome.ensures in
    let r = c.set_quality-outcome.result in
    let some = known is_no_memory refl r (sym unspent ∙ c.eq-self-inside.ensures) in
    let k = view_of c.self.inside.deframer c.self.inside.station c.self.inside.spent in
    let s = c.set_quality-outcome.new.self in
    subst (λ (b : Bool). IsSound (view_of c.self.inside.deframer s b)) (c.if-self.false ∙ sym unspent)
    (sound_quality r c.args.neighbour.now c.args.quality k s some e.goes e.err e.drained (led (Qualities c.args.neighbour.now c.args.quality) tt) (c.self.invariant c.if-self.false))

pub returns-clause-goes : goal.returns-clause-goes
returns-clause-goes c =
    let k = view_of c.self.inside.deframer c.self.inside.station c.self.inside.spent in
    let r = c.set_quality-outcome.result in
    let s = c.set_quality-outcome.new.self in
    let b = c.eq-self-inside.result in
    subst
    (λ (old : Kept). OnOk r (NodeGoes (λ n. record n { station = with_quality c.args.neighbour.now c.args.quality n.station }) old (view_of c.self.inside.deframer s b))) c.self.view_is
    (quality_goes is_no_memory (λ u. refl) r c.args.neighbour.now c.args.quality k s b c.eq-self-inside.ensures c.set_quality-outcome.ensures.goes)
