use Rattle.std.proofs.Common.{◌∙◌, sym, arith}
use Rattle.circuit_set.specs.Books.{latest_in}
use Rattle.circuit_verdict.proofs.Causes.{in_time, overtaken, unsent}
use Rattle.circuit_verdict.proofs.book.Book.cause_of_copy.Goals as goal

pub returns-in_default : goal.returns-in_default
returns-in_default c b lost s joined =
    unsent c.args.allowance b c.args.end.now c.args.partner.now (latest_in b.sent c.args.partner.now c.args.datagram.now)
    (sym c.in_default.is ∙ c.in_ok-latest.ensures b.places b.sent b.heard s.sendings)

pub returns-then-overtakers-allowance : goal.returns-then-overtakers-allowance
returns-then-overtakers-allowance c b lost s joined =
    overtaken c.args.allowance b c.args.end.now c.args.partner.now (latest_in b.sent c.args.partner.now c.args.datagram.now) c.in-Some.latest c.overtakers-overtakers.result c.allowed-allowance.result
    (sym c.in-Some.is ∙ c.in_ok-latest.ensures b.places b.sent b.heard s.sendings) (c.overtakers-overtakers.ensures b.places b.sent b.heard s.sendings) (c.allowed-allowance.ensures b lost s joined)
    (omega arith)

pub returns-else-overtakers-allowance : goal.returns-else-overtakers-allowance
returns-else-overtakers-allowance c b lost s joined =
    in_time c.args.allowance b c.args.end.now c.args.partner.now (latest_in b.sent c.args.partner.now c.args.datagram.now) c.in-Some.latest c.overtakers-overtakers.result c.allowed-allowance.result
    (sym c.in-Some.is ∙ c.in_ok-latest.ensures b.places b.sent b.heard s.sendings) (c.overtakers-overtakers.ensures b.places b.sent b.heard s.sendings) (c.allowed-allowance.ensures b lost s joined)
    (omega arith)
