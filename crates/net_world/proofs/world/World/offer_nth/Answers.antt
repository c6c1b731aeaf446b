use Rattle.std.proofs.Common.{◌≡◌, ◌&&◌, arith, true, false}
use Rattle.std.specs.Prelude.{nat_lt}
use Rattle.ax_address.specs.Callsign.{same_call}
use Rattle.net_model.specs.Mailing.{mail_in, queued_of}
use Rattle.net_world.specs.Running.{course}
use Rattle.net_world.proofs.Offering.{nth_err, nth_ok, nth_passed, numbers_none}
use Rattle.net_world.proofs.Turning.{numbers_next, stores_as}
use Rattle.net_world.proofs.world.World.offer_nth.Goals as goal

pub returns-then-is_due-clause-ok : goal.returns-then-is_due-clause-ok
returns-then-is_due-clause-ok c =
    let dest = c.args.dest.now in
    let was = c.deref.ensures.value in
    let test : true ≡ (same_call c.in-Some.to dest && nat_lt c.args.last c.in-Some.number) = grind (arith, c.is_due.ensures, c.if-is_due.true) in
    nth_ok c.args.here.line c.args.here.node c.args.here.at c.args.id dest c.args.last c.args.nth (course c.args.self.now) (course c.offer.new.self) c.in-Some.number c.offer.result
    (λ w t. numbers_next dest c.in-Some.to c.args.last c.in-Some.number (queued_of (mail_in c.args.here.at w.mails)) c.args.nth true
    (c.in-Some.ensures w.nodes w.mails (stores_as w.nodes w.mails was t.trace.members)) test)
    c.offer.ensures.ok

pub returns-then-is_due-clause-err : goal.returns-then-is_due-clause-err
returns-then-is_due-clause-err c =
    let dest = c.args.dest.now in
    let was = c.deref.ensures.value in
    let test : true ≡ (same_call c.in-Some.to dest && nat_lt c.args.last c.in-Some.number) = grind (arith, c.is_due.ensures, c.if-is_due.true) in
    nth_err c.args.here.line c.args.here.node c.args.here.at c.args.id dest c.args.last c.args.nth (course c.args.self.now) (course c.offer.new.self) c.in-Some.number c.offer.result
    (λ w t. numbers_next dest c.in-Some.to c.args.last c.in-Some.number (queued_of (mail_in c.args.here.at w.mails)) c.args.nth true
    (c.in-Some.ensures w.nodes w.mails (stores_as w.nodes w.mails was t.trace.members)) test)
    c.offer.ensures.err

pub returns-else-is_due-clause-ok : goal.returns-else-is_due-clause-ok
returns-else-is_due-clause-ok c =
    let dest = c.args.dest.now in
    let was = c.deref.ensures.value in
    let test : false ≡ (same_call c.in-Some.to dest && nat_lt c.args.last c.in-Some.number) = grind (arith, c.is_due.ensures, c.if-is_due.false) in
    nth_passed c.args.here.line c.args.here.node c.args.here.at c.args.id dest c.args.last c.args.nth (course c.args.self.now) (course c.args.self.now)
    (λ w t. numbers_next dest c.in-Some.to c.args.last c.in-Some.number (queued_of (mail_in c.args.here.at w.mails)) c.args.nth false
    (c.in-Some.ensures w.nodes w.mails (stores_as w.nodes w.mails was t.trace.members)) test)

pub returns-in-None-clause-ok : goal.returns-in-None-clause-ok
returns-in-None-clause-ok c =
    let dest = c.args.dest.now in
    let was = c.deref.ensures.value in
    nth_passed c.args.here.line c.args.here.node c.args.here.at c.args.id dest c.args.last c.args.nth (course c.args.self.now) (course c.args.self.now)
    (λ w t. numbers_none dest c.args.last (queued_of (mail_in c.args.here.at w.mails)) c.args.nth (c.in-None.ensures w.nodes w.mails (stores_as w.nodes w.mails was t.trace.members)))
