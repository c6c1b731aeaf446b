use Rattle.std.proofs.Common.{◌∙◌, ◌-◌, sym, ap, arith, drop, length, length-drop, take_all}
use Rattle.std.proofs.lemmas.Result.{IfOk-weaker}
use Rattle.circuit_set.specs.Books.{asked_by, if_asked, made_last}
use Rattle.circuit_verdict.proofs.book.Book.asked_by.Goals as goal

pub returns-in-Some : goal.returns-in-Some
returns-in-Some c =
    let d = c.args.datagram.now in
    let pair = rw (take_all (length d - 15) (drop 15 d) (omega (arith, length-drop 15 d))) at c.pair_of-pair.ensures in
    IfOk-weaker c.unless_joined.result _ _
    (λ found told b lost s.
    told b lost s
    ∙ ap (if_asked b c.args.datagram.now)
    (sym c.in-Some.is ∙ c.made_last.ensures b.made lost s.ends ∙ ap (made_last b.made c.in-Ok.head.origin) pair)
    ∙ ap (asked_by b c.args.datagram.now) (sym c.in-Ok.is ∙ c.read_datagram.ensures.exact))
    c.unless_joined.ensures
