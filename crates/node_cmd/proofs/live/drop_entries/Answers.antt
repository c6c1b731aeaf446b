use Rattle.std.proofs.Common.{◌∙◌, ap, subst, sym}
use Rattle.node_core.specs.Standing.{NodeStands}
use Rattle.node_model.specs.States.{NodeState, State}
use Rattle.node_cmd.proofs.Fetched.{all_heard}
use Rattle.node_cmd.proofs.live.drop_entries.Goals as goal

pub returns : goal.returns
returns c = record {
  goes = λ n stands.
      let i = c.loop-entry.invariant n stands in
      subst (λ (x : NodeState). NodeStands c.trace_entry.new.self x)
      (ap (λ (x : State). record i.0 { station = x }) (all_heard i.0.station (c.in_default.ensures.answer i.0 i.1)) ∙ i.2)
      (c.in_default.ensures.goes i.0 i.1);
  kept = λ unspent. c.in_default.ensures.kept (sym c.in_default.ensures.spent ∙ unspent);
}
