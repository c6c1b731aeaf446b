use Rattle.std.proofs.Common.{◌≡◌, ◌∙◌, sym, rules}
use Rattle.std.specs.Prelude.{Some, None, is_some, true, false}
use Rattle.circuit_verdict.proofs.Judged.{joins, not_joined}
use Rattle.circuit_verdict.proofs.book.Book.unless_joined.Goals as goal

pub returns-then-is_some : goal.returns-then-is_some
returns-then-is_some c b lost s =
    let some : is_some c.partner.result ≡ true = search rules in
    not_joined b c.args.end c.args.datagram.now c.partner.result (c.partner.ensures.exact b.made lost s.ends) some

pub returns-in-Some : goal.returns-in-Some
returns-in-Some c b lost s =
    let none : is_some c.partner.result ≡ false = search rules in
    joins b c.args.end c.args.datagram.now c.partner.result (Some c.in-Some.field-0) (c.partner.ensures.exact b.made lost s.ends) none
    (sym c.in-Some.is ∙ c.in_ok-latest.ensures b.places b.sent b.heard s.sendings)

pub returns-in-None : goal.returns-in-None
returns-in-None c b lost s =
    let none : is_some c.partner.result ≡ false = search rules in
    joins b c.args.end c.args.datagram.now c.partner.result None (c.partner.ensures.exact b.made lost s.ends) none
    (sym c.in-None.is ∙ c.in_ok-latest.ensures b.places b.sent b.heard s.sendings)
