use Rattle.std.proofs.Common.{refl, ap, arith}
use Rattle.circuit_l4.specs.Table.{take_first}
use Rattle.circuit_l4.specs.declared.config.EndConfig.{EndConfig}
use Rattle.circuit_l4.specs.Standing.{EndView, view_of}
use Rattle.circuit_l4.proofs.Bounds.{keeps_on}
use Rattle.circuit_l4.proofs.Steps.{is_idle, stepped}
use Rattle.circuit_l4.proofs.Waiting.{few_out}
use Rattle.circuit_l4.proofs.end.End.take.Goals as goal

pub returns-clause-does : goal.returns-clause-does
returns-clause-does c =
    rw (← c.self.view_is)
    (stepped (view_of c.self.inside.machine) c.take.new.self 0 0 (λ _ g. take_first g) (rw (← c.self.view_is) at c.requires) refl c.take.ensures.does)

pub take-requires : goal.take-requires
take-requires c = is_idle c.self.inside.machine (rw (← c.self.view_is) at c.requires)

pub returns-clause-kept : goal.returns-clause-kept
returns-clause-kept c = keeps_on c.take.new.self

pub returns-clause-few : goal.returns-clause-few
returns-clause-few c =
    let window = ap (λ (config : EndConfig). config.window) c.take.ensures.config in
    let own = ap (λ (k : EndView). k.config.window) c.self.view_is in
    few_out _ _ _ _ (omega (arith, window, own, c.take.new.self.outs_fit))
