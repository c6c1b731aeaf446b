use Rattle.std.proofs.Common.{◌≡◌, arith, length}
use Rattle.station_looks.specs.Rows.{known_at}
use Rattle.station_looks.proofs.Places.{all_collected, collected}
use Rattle.station_looks.proofs.known.all_known.Goals as goal

pub loop-at-preserved : goal.loop-at-preserved
loop-at-preserved c = λ s stand.
    collected (known_at s) c.loop-at.at c.loop-at.all.items c.add_known_at.new.all.items (c.loop-at.invariant s stand) (c.in_ok-add_known_at.ensures s stand)

pub returns : goal.returns
returns c = λ s stand.
    let e : c.loop-at.at ≡ length s.nodes = omega (arith, c.loop-at-test.false, c.loop-at.auto.at-end, c.len-at-end.ensures s stand) in
    all_collected (known_at s) c.loop-at.at (length s.nodes) c.loop-at.all.items e (c.loop-at.invariant s stand)
