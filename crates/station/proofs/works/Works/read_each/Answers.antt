use Rattle.std.proofs.Common.{◌∙◌, sym}
use Rattle.node_core.specs.Standing.{entry_of}
use Rattle.station.specs.States.{read}
use Rattle.station.proofs.Loops.{entry_next}
use Rattle.station.proofs.works.Works.read_each.Goals as goal

pub loop-at-preserved : goal.loop-at-preserved
loop-at-preserved c = λ s stands.
    let i = c.loop-at.invariant s stands in
    let e = c.loop-at-item.result in (
      read e.0 (entry_of e.1) c.args.now i.0,
      c.in_ok-read.ensures i.0 i.1,
      sym (entry_next c.args.now c.args.told.now c.loop-at.at-index e i.0 c.loop-at-test.true c.loop-at-item.is) ∙ i.2,
    )
