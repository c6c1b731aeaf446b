use Rattle.std.proofs.Common.{◌∙◌, get_or, sym}
use Rattle.station_screen.specs.Screens.{tell_byte}
use Rattle.station_screen.proofs.Spelling.{tells_next}
use Rattle.station_screen.proofs.screen.Screen.tell.Goals as goal

pub loop-byte-preserved : goal.loop-byte-preserved
loop-byte-preserved c = λ s stands.
    let i = c.loop-byte.invariant s stands in (
      tell_byte c.args.station (get_or c.args.told.now c.loop-byte.byte-index 0) i.0,
      c.in_ok-tell_byte.ensures i.0 i.1,
      sym (tells_next c.args.station c.args.told.now c.loop-byte.byte-index i.0 c.loop-byte-test.true) ∙ i.2,
    )
