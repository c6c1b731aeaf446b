-- What waits to be fetched of a station. Own profile.
use Rattle.std.specs.Prelude.{ℕ, ◌+◌, Bool, true, false, List, [], ◌∷◌, replicate, Option, Some, None}
use Rattle.station.specs.declared.outs.Waiting.{Waiting}
use Rattle.station.specs.declared.outs.Waiting.TheVariants.{Frame, Console}

abbrev pub is_for_console : Waiting → Bool
is_for_console Console = true
is_for_console (Frame frame) = false

abbrev pub is_console : Option Waiting → Bool
is_console None = false
is_console (Some waiting) = is_for_console waiting

abbrev pub one_if : Bool → ℕ
one_if true = 1
one_if false = 0

-- how many of these are for consoles
abbrev pub consoles_in : List Waiting → ℕ
consoles_in [] = 0
consoles_in (w ∷ ws) = one_if (is_for_console w) + consoles_in ws

-- so many things for consoles
abbrev pub consoles : ℕ → List Waiting
consoles count = replicate count Console
