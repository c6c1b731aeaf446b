use Rattle.std.proofs.Common.{ap, nat_eq, ◌+◌}
use Rattle.circuit_l4.proofs.machine.Machine.is_silent.Goals as goal

pub returns : goal.returns
returns c = λ s r a. ap (λ many. nat_eq (c.args.owed.many + many) 0) (c.fill_count.ensures.exact s r a)
