use Rattle.circuit_verdict.proofs.Shows.{causes_show}
use Rattle.circuit_verdict.proofs.laws.causes_show.Goals as goal

pub returns : goal.returns
returns c =
    let why = c.book_tells_why.ensures in
    causes_show c.book_tells_what_is_late.ensures.fresh why.unsent why.overtaken why.many why.unasked why.held
