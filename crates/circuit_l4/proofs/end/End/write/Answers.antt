use Rattle.std.proofs.Common.{refl, ap, arith}
use Rattle.circuit_l4.specs.declared.config.EndConfig.{EndConfig}
use Rattle.circuit_l4.specs.Standing.{EndView, view_of}
use Rattle.circuit_l4.proofs.Bounds.{keeps_on}
use Rattle.circuit_l4.proofs.Steps.{accepts, idle, on_ok}
use Rattle.circuit_l4.proofs.Waiting.{few_out}
use Rattle.circuit_l4.proofs.end.End.write.Goals as goal

pub returns-clause-does : goal.returns-clause-does
returns-clause-does c =
    rw (← c.self.view_is)
    (on_ok c.write.result _ _
    (λ is does. accepts (view_of c.self.inside.machine) c.write.new.self _ _ c.args.message.now c.write.result (rw (← c.self.view_is) at c.requires) c.of.ensures is c.write.ensures.answer does)
    c.write.ensures.does)

pub write-requires : goal.write-requires
write-requires c = record { outs = idle (view_of c.self.inside.machine) c.self.inside.machine.outs.items refl (rw (← c.self.view_is) at c.requires) }

pub returns-clause-kept : goal.returns-clause-kept
returns-clause-kept c = keeps_on c.write.new.self

pub returns-clause-few : goal.returns-clause-few
returns-clause-few c =
    let window = ap (λ (config : EndConfig). config.window) c.write.ensures.config in
    let own = ap (λ (k : EndView). k.config.window) c.self.view_is in
    few_out _ _ _ _ (omega (arith, window, own, c.write.new.self.outs_fit))
