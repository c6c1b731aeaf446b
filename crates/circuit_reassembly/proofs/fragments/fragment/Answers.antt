use Rattle.std.proofs.Common.{ap, sym, ◌∙◌, arith, Some}
use Rattle.circuit_reassembly.proofs.Pieces.{found, none_found}
use Rattle.circuit_reassembly.proofs.fragments.fragment.Goals as goal

pub returns-then-nth-fragment_count-clause-exact : goal.returns-then-nth-fragment_count-clause-exact
returns-then-nth-fragment_count-clause-exact c =
    found c.args.message.now c.args.nth (omega (arith, c.if-nth-fragment_count.true, c.fragment_count.ensures.value)) ∙ ap Some (sym c.piece_at.ensures.exact)

pub returns-else-nth-fragment_count-clause-exact : goal.returns-else-nth-fragment_count-clause-exact
returns-else-nth-fragment_count-clause-exact c =
    none_found c.args.message.now c.args.nth (omega (arith, c.if-nth-fragment_count.false, c.fragment_count.ensures.value))
