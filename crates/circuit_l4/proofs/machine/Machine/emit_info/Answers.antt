use Rattle.std.proofs.Common.{◌%◌, ◌<◌, ℕ, ap, subst, ◌∙◌, arith}
use Rattle.circuit_l4.specs.State.{Effect}
use Rattle.circuit_l4.specs.Moves.{emit_infos}
use Rattle.circuit_l4.specs.Standing.{EndView, KeepsEffect, view_of}
use Rattle.circuit_l4.proofs.Standings.{itself, standing}
use Rattle.circuit_l4.proofs.Waiting.{info_waits, none_waits}
use Rattle.circuit_l4.proofs.machine.Machine.emit_info.Goals as goal

pub returns-then-number-total-clause-does : goal.returns-then-number-total-clause-does
returns-then-number-total-clause-does c =
    let k : EndView = view_of c.args.self.now in
    standing k _ (emit_infos c.args.number 1) (λ s r a b.
    let there : c.args.number < c.args.self.now.outgoing.total = omega (arith, c.if-number-total.true, c.total.ensures) in
    subst (λ (g : Effect). KeepsEffect (view_of c.emit.new.self) g)
    (info_waits k s r c.args.number _ _ a c.requires.waits there (c.wire.ensures ∙ ap (λ (got : ℕ). got % 256) (c.got.ensures ∙ b.got)) (c.is_busy.ensures r b))
    (c.emit.ensures.does _ (itself k s r a b)))

pub returns-else-number-total-clause-does : goal.returns-else-number-total-clause-does
returns-else-number-total-clause-does c =
    let k : EndView = view_of c.args.self.now in
    standing k k (emit_infos c.args.number 1) (λ s r a b.
    subst (λ (g : Effect). KeepsEffect k g) (none_waits k s r c.args.number a (omega (arith, c.if-number-total.false, c.total.ensures))) (itself k s r a b))
