-- What waits for the consoles of a station. Own profile.
use Rattle.std.specs.Prelude.{ℕ, ◌+◌, ◌==◌, length, List, [], ◌∷◌, if◌then◌else◌}
use Rattle.station_places.specs.declared.console_outs.ConsoleOut.{ConsoleOut}
use Rattle.station_places.specs.declared.console_outs.ConsoleOut.TheVariants.{Text, Closed}

abbrev pub octets_in : ℕ → ConsoleOut → ℕ
octets_in at (Text console text) = if console == at then length text else 0
octets_in at (Closed console) = 0

-- how many octets wait for a console
abbrev pub octets_for : ℕ → List ConsoleOut → ℕ
octets_for at [] = 0
octets_for at (out ∷ outs) = octets_in at out + octets_for at outs
