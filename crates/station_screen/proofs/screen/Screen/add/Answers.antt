use Rattle.station_screen.proofs.Spelling.{adds_bytes}
use Rattle.station_screen.proofs.screen.Screen.add.Goals as goal

pub returns : goal.returns
returns c = λ s stands.
    adds_bytes c.self.inside.numbers c.self.inside.unended c.self.inside.text c.octets.new.self c.args.octets.now s c.in_ok-octets.ensures.ok (rw (← c.self.view_is) at stands)
