use Rattle.ax_address.proofs.Comparing.{are_digits}
use Rattle.ax_address.proofs.call.Call.number.Goals as goal

pub returns-clause-digits : goal.returns-clause-digits
returns-clause-digits c = rw (← c.self.view_is) (are_digits (record { letters = c.self.inside.letters; ssid = c.self.inside.ssid }) c.self.invariant.0)
