use Rattle.std.proofs.Common.{◌≡◌, ◌∙◌, ◌+◌, true, nat_lt, length, sym, ap}
use Rattle.circuit_l4.specs.Table as table
use Rattle.circuit_l4.specs.State.{inbox}
use Rattle.circuit_table.specs.Standing.{capped_count}
use Rattle.circuit_table.proofs.Taken.{one_more, taken_by, taken_more}
use Rattle.circuit_table.proofs.holder.Holder.take.Goals as goal

pub returns-then-took-clause-taken : goal.returns-then-took-clause-taken
returns-then-took-clause-taken c = λ x s e.
    let some : nat_lt 0 (length (inbox x.receiving)) ≡ true = sym (c.take-took.ensures.answer x s) ∙ c.if-took.true in
    let more : (table.step x table.Take c.args.now.0).end.receiving.taken ≡ x.receiving.taken + 1 = taken_more x c.args.now.0 ∙ ap (λ b. taken_by b x.receiving.taken) some in
    one_more c.args.self.now.taken x.receiving.taken _ e c.saturating_add-self.ensures ∙ ap capped_count (sym more)
