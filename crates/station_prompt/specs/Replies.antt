-- How the replies of a station begin, and how they tell names and ages. Own profile.
use Rattle.std.specs.Prelude.{ℕ, ◌/◌, List, ◌∷◌, [], ◌++◌, nat_lt, codes, if◌then◌else◌}
use Rattle.std.specs.Fmt.{decimal}
use Rattle.ax_address.specs.Alias as aliases
use Rattle.ax_address.specs.Callsign as calls
use Rattle.ax_address.specs.Callsign.{Callsign}
use Rattle.ax_address.specs.declared.alias.Alias.{Alias}

-- ALIAS:CALL
abbrev pub name : Alias → Callsign → List ℕ
name alias call = aliases.shown alias ++ codes ":" ++ calls.shown call

-- how the replies begin that the member of this name gives
abbrev pub prefix : Alias → Callsign → List ℕ
prefix alias call = name alias call ++ codes "} "

-- a count, and what is counted
abbrev pub in_units : ℕ → ℕ → List ℕ
in_units count unit = decimal count ++ unit ∷ []

-- so many seconds: in whole seconds (s), minutes (m), hours (h) or days (d)
abbrev pub age_of : ℕ → List ℕ
age_of seconds =
    if nat_lt seconds 60 then in_units seconds 115
    else (if nat_lt seconds 3600 then in_units (seconds / 60) 109
    else (if nat_lt seconds 86400 then in_units (seconds / 3600) 104
    else in_units (seconds / 86400) 100))

-- so many milliseconds
abbrev pub age : ℕ → List ℕ
age ms = age_of (ms / 1000)
