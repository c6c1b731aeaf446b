use Rattle.std.proofs.Common.{refl, ap, arith}
use Rattle.circuit_l4.specs.Table.{close}
use Rattle.circuit_l4.specs.declared.config.EndConfig.{EndConfig}
use Rattle.circuit_l4.specs.Standing.{EndView, view_of}
use Rattle.circuit_l4.proofs.Bounds.{keeps_on}
use Rattle.circuit_l4.proofs.Steps.{idle, stepped}
use Rattle.circuit_l4.proofs.Waiting.{few_out}
use Rattle.circuit_l4.proofs.end.End.close.Goals as goal

pub returns-clause-does : goal.returns-clause-does
returns-clause-does c =
    rw (← c.self.view_is) (stepped (view_of c.self.inside.machine) c.close.new.self _ _ close (rw (← c.self.view_is) at c.requires) c.of.ensures c.close.ensures.does)

pub close-requires : goal.close-requires
close-requires c = record { outs = idle (view_of c.self.inside.machine) c.self.inside.machine.outs.items refl (rw (← c.self.view_is) at c.requires) }

pub returns-clause-kept : goal.returns-clause-kept
returns-clause-kept c = keeps_on c.close.new.self

pub returns-clause-few : goal.returns-clause-few
returns-clause-few c =
    let window = ap (λ (config : EndConfig). config.window) c.close.ensures.config in
    let own = ap (λ (k : EndView). k.config.window) c.self.view_is in
    few_out _ _ _ _ (omega (arith, window, own, c.close.new.self.outs_fit))
