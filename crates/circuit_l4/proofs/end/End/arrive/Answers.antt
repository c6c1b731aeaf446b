use Rattle.std.proofs.Common.{ap, arith}
use Rattle.circuit_l4.specs.declared.config.EndConfig.{EndConfig}
use Rattle.circuit_l4.specs.Standing.{EndView, view_of}
use Rattle.circuit_l4.specs.Table.{arrive}
use Rattle.circuit_l4.proofs.Bounds.{keeps_on}
use Rattle.circuit_l4.proofs.Steps.{is_idle, stepped}
use Rattle.circuit_l4.proofs.Waiting.{few_out}
use Rattle.circuit_l4.proofs.end.End.arrive.Goals as goal

pub returns-clause-does : goal.returns-clause-does
returns-clause-does c =
    rw (← c.self.view_is)
    (stepped (view_of c.self.inside.machine) c.arrive.new.self _ _ (λ now g. arrive now c.args.transport.now g) (rw (← c.self.view_is) at c.requires) c.of.ensures c.arrive.ensures.does)

pub arrive-requires : goal.arrive-requires
arrive-requires c = is_idle c.self.inside.machine (rw (← c.self.view_is) at c.requires)

pub returns-clause-kept : goal.returns-clause-kept
returns-clause-kept c = keeps_on c.arrive.new.self

pub returns-clause-few : goal.returns-clause-few
returns-clause-few c =
    let window = ap (λ (config : EndConfig). config.window) c.arrive.ensures.config in
    let own = ap (λ (k : EndView). k.config.window) c.self.view_is in
    few_out _ _ _ _ (omega (arith, window, own, c.arrive.new.self.outs_fit))

pub returns-clause-most : goal.returns-clause-most
returns-clause-most c = few_out _ _ _ _ (omega (arith, c.arrive.new.self.outs_fit, c.arrive.new.self.own_window_fits))
