use Rattle.std.proofs.Common.{◌≡◌, ◌<◌, length, refl, arith}
use Rattle.std.proofs.lemmas.Bool.Decides.{nat_tests}
use Rattle.circuit_l4.specs.Standing.{view_of}
use Rattle.circuit_l4.proofs.Steps.{drained, waits}
use Rattle.circuit_l4.proofs.end.End.drained.Goals as goal

pub returns-then-is_empty : goal.returns-then-is_empty
returns-then-is_empty c =
    let none : length c.self.inside.machine.outs.items ≡ 0 = grind (arith, nat_tests, c.is_empty.ensures, c.if-is_empty.true) in
    rw (← c.self.view_is) (drained (view_of c.self.inside.machine) c.self.inside.machine.outs.items c.self.inside.machine.notice _ refl none refl c.is_none.ensures)

pub returns-else-is_empty : goal.returns-else-is_empty
returns-else-is_empty c =
    let some : 0 < length c.self.inside.machine.outs.items = grind (arith, nat_tests, c.is_empty.ensures, c.if-is_empty.false) in
    rw (← c.self.view_is) (waits (view_of c.self.inside.machine) c.self.inside.machine.outs.items _ refl some c.if-is_empty.false)
