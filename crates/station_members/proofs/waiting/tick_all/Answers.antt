use Rattle.std.proofs.Common.{◌<◌, ◌≤◌, ◌∙◌, sym, ap, length, get_or, set, arith, add-one}
use Rattle.station_members.specs.Beacons.{ticked}
use Rattle.station_members.proofs.DeskMoves.{done_all, done_for, done_next}
use Rattle.station_members.proofs.waiting.tick_all.Goals as goal

pub loop-at-preserved : goal.loop-at-preserved
loop-at-preserved c =
    let f = ticked c.args.now.0 in
    let at = c.loop-at.at in
    let xs = c.args.beacons.now.items in
    let h : at < length xs = omega (arith, c.loop-at-test.true, c.len-at-end.ensures) in
    let here = c.index_mut.ensures.value ∙ ap (λ bs. get_or bs at c.index_mut.result.now) c.loop-at.invariant in
    ap (λ bs. set bs at c.tick.new.self) c.loop-at.invariant
    ∙ (done_next f at xs c.index_mut.result.now c.tick.new.self h here c.tick.ensures ∙ ap (λ k. done_for f k xs) (sym (add-one at)))

pub returns : goal.returns
returns c =
    let h : length c.args.beacons.now.items ≤ c.loop-at.at = omega (arith, c.loop-at-test.false, c.len-at-end.ensures) in
    c.loop-at.invariant ∙ done_all (ticked c.args.now.0) c.loop-at.at c.args.beacons.now.items h
