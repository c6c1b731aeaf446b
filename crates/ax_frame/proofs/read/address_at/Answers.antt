use Rattle.std.proofs.lemmas.List.{take_rest}
use Rattle.ax_frame.proofs.Addresses.{judged_ok}
use Rattle.ax_frame.proofs.read.address_at.Goals as goal

pub returns-in-Ok-clause-judged : goal.returns-in-Ok-clause-judged
returns-in-Ok-clause-judged c =
    judged_ok c.args.at c.args.bytes.now _ c.in-Some.octets.now c.in-Ok.read.0 c.in-Ok.read.1 c.requires (take_rest c.args.bytes.now c.args.at)
    c.in-Some.ensures.cases.enough c.in-Some.ensures.cases.same c.in-Ok.ensures.found c.in-Ok.ensures.refused
