use Rattle.std.proofs.Common.{◌≡◌, ◌&&◌, true, false, nat_lt, length, ap, sym, ◌∙◌}
use Rattle.circuit_l4.specs.State.{busy, without_first, inbox, is_up}
use Rattle.circuit_l4.specs.Table.{take_first}
use Rattle.circuit_l4.specs.Standing.{EndView, view_of}
use Rattle.circuit_l4.proofs.Standings.{itself, standing}
use Rattle.circuit_l4.proofs.Takes.{taken_on}
use Rattle.circuit_l4.proofs.machine.Machine.take.Goals as goal

pub returns-then-not-is_busy-clause-does : goal.returns-then-not-is_busy-clause-does
returns-then-not-is_busy-clause-does c =
    let k : EndView = view_of c.args.self.now in
    standing k _ take_first (λ s r a b.
    let first = c.if-not-take.ensures.does r b in
    let some : nat_lt 0 (length (inbox r)) ≡ true = ap (λ ms. nat_lt 0 (length ms)) (sym b.messages) ∙ sym c.if-not-take.ensures.answer in
    let was : (is_up k.phase && busy r) ≡ true = sym (c.is_up_and_busy-was_busy.ensures r b) ∙ c.if-was_busy.true in
    let now : busy (without_first r) ≡ false = sym (c.is_busy.ensures (without_first r) first) ∙ c.if-not-is_busy.true in
    taken_on k _ s r some was now (c.resume.ensures.does _ (itself (record k { incoming = c.take.new.self }) s (without_first r) a first)))
