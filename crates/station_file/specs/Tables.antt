-- What is wrong with the tables of a file, and where. Own profile.
use Rattle.std.specs.Prelude.{◌≡◌, ℕ, List, Option, Result, Ok, Err, if◌then◌else◌}
use Rattle.toml.specs.Data.{Data, Members, no_members, member, get_member}
use Rattle.station_file.specs.declared.section.Section.{Section}
use Rattle.station_file.specs.declared.file_key.FileKey.{FileKey}
use Rattle.station_file.specs.declared.fault.Fault.{Fault}
use Rattle.station_file.specs.declared.fault.Stop.{Stop}
use Rattle.station_file.specs.declared.fault.Stop.TheVariants.{Refused, NoMemory}
use Rattle.station_file.specs.declared.why.Why.{Why}
use Rattle.station_file.specs.declared.why.Why.TheVariants.{NoSuchKey}
use Rattle.station_file.specs.Keys.{word_of, knows}

-- the table, the word of the key, and what is wrong with it
abbrev pub fault_at : Section → List ℕ → Why → Fault
fault_at section key why = record { section = section; key = key; why = why }

-- what was read of a key, or what is wrong with it
abbrev pub placed : {A : Type 0} → Section → FileKey → Result A Why → Result A Fault
placed at key (Ok x) = Ok x
placed at key (Err why) = Err (fault_at at (word_of key) why)

-- a reader stopped for this, or since memory ran out
abbrev pub Tells : Stop → Fault → Type 0
Tells NoMemory fault = Unit {0}
Tells (Refused told) fault = told ≡ fault

-- a reader stopped for what the definition says, or since memory ran out
abbrev pub TellsOf : {A : Type 0} → Stop → Result A Fault → Type 0
TellsOf NoMemory r = Unit {0}
TellsOf (Refused told) r = r ≡ Err told

-- what a table has at a key
abbrev pub value_at : FileKey → Members → Option Data
value_at key ms = get_member (word_of key) ms

-- a table has no keys but those of its kind: the first other one, in the order of their bytes, is told
abbrev pub known_keys : Section → Members → Result (Unit {0}) Fault
known_keys at no_members = Ok tt
known_keys at (member k d ms) = if knows at k then known_keys at ms else Err (fault_at at k NoSuchKey)
