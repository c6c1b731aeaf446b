use Rattle.std.proofs.Common.{◌∙◌, sym, ap}
use Rattle.circuit_reassembly.specs.Fragments.{fragments_in}
use Rattle.circuit_reassembly.proofs.Pieces.{counted}
use Rattle.circuit_reassembly.proofs.fragments.fragment_count.Goals as goal

pub returns-clause-counted : goal.returns-clause-counted
returns-clause-counted c message e = c.div_ceil.ensures ∙ ap fragments_in (sym e) ∙ sym (counted message)
