use Rattle.std.proofs.Common.{◌<◌, ◌≤◌, ap, length, arith}
use Rattle.station_users.specs.Unclaimed.{drop_end_text, drop_end_texts, drops_end_text, drops_end_texts}
use Rattle.station_users.proofs.Loops.{does_begin, does_done, does_goes, does_says}
use Rattle.station_users.proofs.hall.Hall.drop_end_texts.Goals as goal

pub loop-nth-init : goal.loop-nth-init
loop-nth-init c = does_begin (drops_end_text c.args.member c.args.turn.moment) (drop_end_text c.args.member c.args.turn.moment) (λ u. 64) c.args.self.now

pub loop-nth-preserved : goal.loop-nth-preserved
loop-nth-preserved c =
    does_goes (drops_end_text c.args.member c.args.turn.moment) (drop_end_text c.args.member c.args.turn.moment) (λ u. 64) c.loop-nth.nth c.loop-nth.dropped _ c.args.self.now c.loop-nth.self _
    (λ u t. omega (arith, c.loop-nth-test.true)) c.loop-nth.invariant
    c.in_ok-dropped.ensures.dropped c.in_ok-dropped.ensures.goes

pub returns-clause-goes : goal.returns-clause-goes
unfolding drop_end_texts
returns-clause-goes c =
    does_done (drops_end_text c.args.member c.args.turn.moment) (drop_end_text c.args.member c.args.turn.moment) (λ u. 64) c.loop-nth.nth c.loop-nth.dropped c.args.self.now c.loop-nth.self
    (λ u t. omega (arith, c.loop-nth-test.false)) c.loop-nth.invariant

pub returns-clause-dropped : goal.returns-clause-dropped
unfolding drops_end_texts
returns-clause-dropped c =
    does_says (drops_end_text c.args.member c.args.turn.moment) (drop_end_text c.args.member c.args.turn.moment) (λ u. 64) c.loop-nth.nth c.loop-nth.dropped c.args.self.now c.loop-nth.self
    (λ u t. omega (arith, c.loop-nth-test.false)) c.loop-nth.invariant
