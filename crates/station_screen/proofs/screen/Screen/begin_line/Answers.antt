use Rattle.std.proofs.Common.{◌∙◌, sym}
use Rattle.station_screen.proofs.Spelling.{begins}
use Rattle.station_screen.proofs.screen.Screen.begin_line.Goals as goal

pub returns-in_ok-add : goal.returns-in_ok-add
returns-in_ok-add c = λ s stands.
    let held = rw (← c.self.view_is) at stands in
    begins c.add.new.self c.args.station s (sym held.numbers ∙ c.if-self.true) (c.in_ok-add.ensures _ (c.in_ok-add_number.ensures s stands))
