use Rattle.std.proofs.Common.{ap, sym, ◌∙◌}
use Rattle.circuit_l4.specs.Moves.{owed_by}
use Rattle.circuit_l4.proofs.machine.Machine.acknowledge_at.Goals as goal

pub returns-clause-does : goal.returns-clause-does
returns-clause-does c = λ g h.
    let advance = c.advance.ensures.does g h in (
      c.hold.ensures.does _ advance,
      c.owed_by-owed.ensures.exact advance.written advance.came advance.sending
          ∙ sym (ap (λ x. owed_by c.args.flags c.args.below x.end) advance.is),
    )
