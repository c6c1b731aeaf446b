use Rattle.std.proofs.Common.{◌<◌, ◌≤◌, ap, length, arith}
use Rattle.station_users.specs.Unclaimed.{take_at, take_unclaimed, takes_at, takes_unclaimed}
use Rattle.station_users.proofs.Loops.{does_begin, does_done, does_goes, does_says}
use Rattle.station_users.proofs.hall.Hall.take_unclaimed.Goals as goal

pub loop-member-init : goal.loop-member-init
loop-member-init c = does_begin (takes_at c.args.turn.moment) (take_at c.args.turn.moment) (λ u. length u.sides.members.nodes) c.args.self.now

pub loop-member-preserved : goal.loop-member-preserved
loop-member-preserved c =
    does_goes (takes_at c.args.turn.moment) (take_at c.args.turn.moment) (λ u. length u.sides.members.nodes) c.loop-member.member c.loop-member.dropped _ c.args.self.now c.loop-member.self _
    (λ u t. let same = c.len-member-end.ensures _ t.sides.members in omega (arith, c.loop-member-test.true, same)) c.loop-member.invariant
    c.in_ok-dropped.ensures.dropped c.in_ok-dropped.ensures.goes

pub returns-clause-goes : goal.returns-clause-goes
unfolding take_unclaimed
returns-clause-goes c =
    does_done (takes_at c.args.turn.moment) (take_at c.args.turn.moment) (λ u. length u.sides.members.nodes) c.loop-member.member c.loop-member.dropped c.args.self.now c.loop-member.self
    (λ u t. let same = c.len-member-end.ensures _ t.sides.members in omega (arith, c.loop-member-test.false, same)) c.loop-member.invariant

pub returns-clause-dropped : goal.returns-clause-dropped
unfolding takes_unclaimed
returns-clause-dropped c =
    does_says (takes_at c.args.turn.moment) (take_at c.args.turn.moment) (λ u. length u.sides.members.nodes) c.loop-member.member c.loop-member.dropped c.args.self.now c.loop-member.self
    (λ u t. let same = c.len-member-end.ensures _ t.sides.members in omega (arith, c.loop-member-test.false, same)) c.loop-member.invariant
