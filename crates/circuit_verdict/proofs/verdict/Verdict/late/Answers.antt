use Rattle.circuit_verdict.proofs.AsTold.{verdict_is}
use Rattle.circuit_verdict.proofs.verdict.Verdict.late.Goals as goal

pub returns : goal.returns
returns c events stands =
    let law = c.book_tells_what_is_late.ensures in
    verdict_is law.fresh law.timely law.fixed c.args.self.now.allowance c.args.self.now.late c.args.self.now.book events stands
