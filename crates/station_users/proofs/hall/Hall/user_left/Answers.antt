use Rattle.std.proofs.Common.{◌<◌, ◌≤◌, ap, length, arith}
use Rattle.station_users.specs.States.{at_nth}
use Rattle.station_users.specs.Hearing.{leaves_at, user_left}
use Rattle.station_sessions.specs.declared.place.Place.TheVariants.{Link}
use Rattle.station_users.proofs.Loops.{each_begin, each_done, each_goes}
use Rattle.station_users.proofs.hall.Hall.user_left.Goals as goal

pub loop-nth-init : goal.loop-nth-init
loop-nth-init c = each_begin (λ nth u. at_nth nth (leaves_at (Link c.args.member c.args.peer.now)) u) (λ u. length u.sessions) c.args.self.now

pub loop-nth-preserved : goal.loop-nth-preserved
loop-nth-preserved c =
    each_goes (λ nth u. at_nth nth (leaves_at (Link c.args.member c.args.peer.now)) u) (λ u. length u.sessions) c.loop-nth.nth c.args.self.now c.loop-nth.self _
    (λ u t. let same = ap length t.sessions in omega (arith, c.loop-nth-test.true, c.len-nth-end.ensures, same)) c.loop-nth.invariant c.leave_at.ensures

pub returns : goal.returns
unfolding user_left
returns c =
    each_done (λ nth u. at_nth nth (leaves_at (Link c.args.member c.args.peer.now)) u) (λ u. length u.sessions) c.loop-nth.nth c.args.self.now c.loop-nth.self
    (λ u t. let same = ap length t.sessions in omega (arith, c.loop-nth-test.false, c.len-nth-end.ensures, same)) c.loop-nth.invariant
