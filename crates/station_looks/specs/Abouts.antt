-- What the operator says of a station: its ports. Own profile.
use Rattle.std.specs.Prelude.{ℕ, ◌-◌, List, length, take, slice_get, Option, Some, None, Bool, nat_le, position, String, string_bytes, if◌then◌else◌}
use Rattle.std.specs.Option.{option_map, option_or}
use Rattle.std.specs.Str.{str_eq_ignore_ascii_case}
use Rattle.std.specs.declared.alloc.Global.{Global}
use Rattle.text_lines.specs.Lines.{number_of}
use Rattle.station_looks.specs.declared.about.About.{About}

-- the names of its ports, in their order: there are at most 8
abbrev pub names : About → List (String Global)
names about = take 8 about.ports.items

-- the name of a port, from 0
abbrev pub port_name : ℕ → About → Option (List ℕ)
port_name port about = option_map string_bytes (slice_get (names about) port)

abbrev pub among : ℕ → Option ℕ → Option ℕ
among count None = None
among count (Some number) = if nat_le number count then Some (number - 1) else None

-- the port of this number, from 1
abbrev pub port_numbered : List ℕ → About → Option ℕ
port_numbered word about = among (length (names about)) (number_of 1 8 word)

-- without regard to case
abbrev pub is_named : List ℕ → String Global → Bool
is_named word name = str_eq_ignore_ascii_case (string_bytes name) word

-- the first port of this name
abbrev pub port_of_name : List ℕ → About → Option ℕ
port_of_name word about = position (is_named word) (names about)

-- the port, from 0, that a word names: by its number, else by its name
abbrev pub port_named : List ℕ → About → Option ℕ
port_named word about = option_or (port_numbered word about) (port_of_name word about)
