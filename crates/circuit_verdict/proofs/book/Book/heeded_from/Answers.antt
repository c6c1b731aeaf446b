use Rattle.std.proofs.Common.{◌≤◌, ◌<◌, ◌∙◌, sym, arith}
use Rattle.circuit_set.specs.Books.{overtakers}
use Rattle.circuit_verdict.specs.ByBook.{allowance_of}
use Rattle.circuit_verdict.proofs.Judged.{heard_is, in_time, none_sent, sendings_later, too_many}
use Rattle.circuit_verdict.proofs.book.Book.heeded_from.Goals as goal

pub returns-in_default : goal.returns-in_default
returns-in_default c b lost s joined own =
    none_sent (allowance_of c.args.allowance) b c.args.end.now c.args.partner.now c.args.datagram.now joined
    (sym c.in_default.is ∙ c.in_ok-latest.ensures b.places b.sent b.heard s.sendings)

pub returns-then-overtakers-allowed : goal.returns-then-overtakers-allowed
returns-then-overtakers-allowed c b lost s joined own =
    let counted = c.overtakers-overtakers.ensures b.places b.sent b.heard s.sendings in
    let allowed = c.allowed.ensures b lost s joined in
    let many : allowance_of c.args.allowance b c.args.end.now ≤ overtakers c.args.partner.now c.args.end.now c.in-Some.latest.place b.sent b.heard = rw (← counted, ← allowed) (omega arith) in
    too_many (allowance_of c.args.allowance) b c.args.end.now c.args.partner.now c.args.datagram.now c.in-Some.latest joined
    (sym c.in-Some.is ∙ c.in_ok-latest.ensures b.places b.sent b.heard s.sendings) many

pub returns : goal.returns
returns c b lost s joined own =
    let counted = c.overtakers-overtakers.ensures b.places b.sent b.heard s.sendings in
    let allowed = c.allowed.ensures b lost s joined in
    let few : overtakers c.args.partner.now c.args.end.now c.in-Some.latest.place b.sent b.heard < allowance_of c.args.allowance b c.args.end.now = rw (← counted, ← allowed) (omega arith) in
    let found = sym c.in-Some.is ∙ c.in_ok-latest.ensures b.places b.sent b.heard s.sendings in
    let heard = c.in_ok-hear.ensures b lost s in (
      in_time (allowance_of c.args.allowance) b c.args.end.now c.args.partner.now c.args.datagram.now c.in-Some.latest joined found few,
      record {
        ends = heard.ends;
        sendings = rw (heard_is b c.args.end.now c.args.partner.now c.args.datagram.now c.in-Some.latest joined found) (sendings_later _ _ _ _ heard.sendings);
      },
    )
