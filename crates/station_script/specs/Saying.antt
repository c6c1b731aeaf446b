-- What consoles send on KISS port 15: an octet for the console, one for the kind, and the rest. Own profile.
use Rattle.std.specs.Prelude.{ℕ, List, [], ◌∷◌, Option, Some, None, ◌==◌, ◌&&◌, if◌then◌else◌}
use Rattle.std.specs.Option.{option_map}
use Rattle.station_script.specs.declared.consoles.ConsoleFrame.{ConsoleFrame}
use Rattle.station_script.specs.declared.consoles.ConsoleFrame.TheVariants as frames

-- the console opens under a call, as it was typed; a text is typed; the console closes; the station goes down
pub data Said : Type 0 where
  Open : ℕ → List ℕ → Said
  Text : ℕ → List ℕ → Said
  Close : ℕ → Said
  Stop : Said

-- O, T, C whatever stands behind it, and so S of console 255
abbrev pub said : ℕ → ℕ → List ℕ → Option Said
said console kind rest =
    if kind == 79 then Some (Open console rest)
    else (if kind == 84 then Some (Text console rest)
    else (if kind == 67 then Some (Close console)
    else (if kind == 83 && console == 255 then Some Stop else None)))

abbrev pub said_by : List ℕ → Option Said
said_by (console ∷ kind ∷ rest) = said console kind rest
said_by octets = None

-- what the code answers, as what it says
abbrev pub said_of : ConsoleFrame → Said
said_of (frames.Open console call) = Open console call.now
said_of (frames.Text console text) = Text console text.now
said_of (frames.Close console) = Close console
said_of frames.Stop = Stop

abbrev pub if_said : Option ConsoleFrame → Option Said
if_said frame = option_map said_of frame
