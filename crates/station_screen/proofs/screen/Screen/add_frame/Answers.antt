use Rattle.std.proofs.Common.{refl}
use Rattle.station_screen.proofs.Spelling.{adds_line}
use Rattle.station_screen.proofs.screen.Screen.add_frame.Goals as goal

pub returns-in_ok-add_item : goal.returns-in_ok-add_item
returns-in_ok-add_item c = λ s stands.
    let e = c.in_ok-add_item.ensures in
    adds_line c.self.inside.numbers c.self.inside.unended c.self.inside.text c.add_item.new.text c.args.frame.now 128 c.saturating_add.result c.as_slice.result.now e.0 s (rw c.if-frame.true refl) c.saturating_add.ensures c.as_slice.ensures e.1 e.2
    (rw (← c.self.view_is) at stands)

pub returns-in_ok-add_item-2 : goal.returns-in_ok-add_item-2
returns-in_ok-add_item-2 c = λ s stands.
    let e = c.in_ok-add_item-2.ensures in
    adds_line c.self.inside.numbers c.self.inside.unended c.self.inside.text c.add_item-else-frame.new.text c.args.frame.now 8 c.saturating_add.result c.as_slice.result.now e.0 s (rw c.if-frame.false refl) c.saturating_add.ensures c.as_slice.ensures e.1 e.2
    (rw (← c.self.view_is) at stands)
