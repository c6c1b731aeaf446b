use Rattle.std.proofs.Common.{◌<◌, ◌≤◌, ap, length, arith}
use Rattle.station_users.specs.Serving.{serve_nth, serves, serves_nth}
use Rattle.station_users.proofs.Loops.{does_begin, does_done, does_goes, does_says}
use Rattle.station_users.proofs.hall.Hall.serve_each.Goals as goal

pub loop-nth-init : goal.loop-nth-init
loop-nth-init c = does_begin (serves_nth c.args.turn.moment) (serve_nth c.args.turn.moment) (λ u. length u.sessions) c.args.self.now

pub loop-nth-preserved : goal.loop-nth-preserved
loop-nth-preserved c =
    does_goes (serves_nth c.args.turn.moment) (serve_nth c.args.turn.moment) (λ u. length u.sessions) c.loop-nth.nth c.loop-nth.served _ c.args.self.now c.loop-nth.self _
    (λ u t. let same = ap length t.sessions in omega (arith, c.loop-nth-test.true, c.len-nth-end.ensures, same)) c.loop-nth.invariant
    c.in_ok-served.ensures.served c.in_ok-served.ensures.goes

pub returns-clause-goes : goal.returns-clause-goes
returns-clause-goes c =
    does_done (serves_nth c.args.turn.moment) (serve_nth c.args.turn.moment) (λ u. length u.sessions) c.loop-nth.nth c.loop-nth.served c.args.self.now c.loop-nth.self
    (λ u t. let same = ap length t.sessions in omega (arith, c.loop-nth-test.false, c.len-nth-end.ensures, same)) c.loop-nth.invariant

pub returns-clause-served : goal.returns-clause-served
unfolding serves
returns-clause-served c =
    does_says (serves_nth c.args.turn.moment) (serve_nth c.args.turn.moment) (λ u. length u.sessions) c.loop-nth.nth c.loop-nth.served c.args.self.now c.loop-nth.self
    (λ u t. let same = ap length t.sessions in omega (arith, c.loop-nth-test.false, c.len-nth-end.ensures, same)) c.loop-nth.invariant
