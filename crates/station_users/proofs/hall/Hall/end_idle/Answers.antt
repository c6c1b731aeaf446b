use Rattle.std.proofs.Common.{◌<◌, ◌≤◌, ap, length, arith}
use Rattle.station_users.specs.Ending.{end_idle_nth}
use Rattle.station_users.proofs.Loops.{each_begin, each_done, each_goes}
use Rattle.station_users.proofs.hall.Hall.end_idle.Goals as goal

pub loop-nth-init : goal.loop-nth-init
loop-nth-init c = each_begin (end_idle_nth c.args.turn.moment) (λ u. length u.sessions) c.args.self.now

pub loop-nth-preserved : goal.loop-nth-preserved
loop-nth-preserved c =
    each_goes (end_idle_nth c.args.turn.moment) (λ u. length u.sessions) c.loop-nth.nth c.args.self.now c.loop-nth.self _
    (λ u t. let same = ap length t.sessions in omega (arith, c.loop-nth-test.true, c.len-nth-end.ensures, same)) c.loop-nth.invariant c.in_ok-end_idle_nth.ensures

pub returns : goal.returns
returns c =
    each_done (end_idle_nth c.args.turn.moment) (λ u. length u.sessions) c.loop-nth.nth c.args.self.now c.loop-nth.self
    (λ u t. let same = ap length t.sessions in omega (arith, c.loop-nth-test.false, c.len-nth-end.ensures, same)) c.loop-nth.invariant
