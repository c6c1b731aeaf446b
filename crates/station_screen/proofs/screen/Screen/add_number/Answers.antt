use Rattle.std.specs.Fmt.{decimal}
use Rattle.station_screen.proofs.Spelling.{adds_bytes}
use Rattle.station_screen.proofs.screen.Screen.add_number.Goals as goal

pub returns : goal.returns
returns c = λ s stands.
    adds_bytes c.self.inside.numbers c.self.inside.unended c.self.inside.text c.number.new.self (decimal c.args.number) s c.in_ok-number.ensures.ok (rw (← c.self.view_is) at stands)
