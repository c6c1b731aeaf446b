-- The line of a file on which a fault stands: all lines before it, read alone, are a document that lacks the key, or the table where it is
-- the table that lacks the key; and the next lines with which they are a document again have it. Own profile.
use Rattle.std.specs.Prelude.{ℕ, ◌+◌, ◌-◌, List, [], ◌∷◌, take, Option, Some, None, Bool, true, false, ◌||◌, ◌==◌, not, is_some, option_map, if◌then◌else◌}
use Rattle.std.specs.Str.{is_utf8}
use Rattle.toml.specs.Data.{Data, Members, Items, as_array, as_table, get_item, get_member}
use Rattle.toml.specs.Parse.{parse_document}
use Rattle.station_file.specs.declared.fault.Fault.{Fault}
use Rattle.station_file.specs.declared.file_key.FileKey.TheVariants as keys
use Rattle.station_file.specs.declared.lines.Placing.{Placing}
use Rattle.station_file.specs.declared.section.Section.{Section}
use Rattle.station_file.specs.declared.section.Section.TheVariants.{Station, Port, Node, Mail, Beacon}
use Rattle.station_file.specs.declared.why.Why.{Why}
use Rattle.station_file.specs.declared.why.Why.TheVariants.{Missing}
use Rattle.station_file.specs.Tables.{value_at}

-- the document that bytes are, where they are UTF-8 and TOML
abbrev pub document : List ℕ → Option Members
document text = if is_utf8 text then parse_document text else None

abbrev pub and_then : {A B : Type 0} → (A → Option B) → Option A → Option B
and_then next None = None
and_then next (Some x) = next x

-- the item of that number, from 1
abbrev pub nth : ℕ → Items → Option Data
nth n items = if n == 0 then None else get_item (n - 1) items

abbrev pub table_in : ℕ → Option Data → Option Members
table_in n list = and_then as_table (and_then (nth n) (and_then as_array list))

-- the table of a section
abbrev pub section_in : Section → Members → Option Members
section_in Station ms = Some ms
section_in (Port n) ms = table_in n (value_at keys.Port ms)
section_in (Node n) ms = table_in n (value_at keys.Node ms)
section_in Mail ms = and_then as_table (value_at keys.Mail ms)
section_in (Beacon n) ms = table_in n (value_at keys.Beacon ms)

abbrev pub is_missing : Why → Bool
is_missing Missing = true
is_missing why = false

abbrev pub table_has : Fault → Option Members → Bool
table_has fault None = false
table_has fault (Some ms) = is_missing fault.why || is_some (get_member fault.key ms)

-- the document has the key, or the table where it is the table that lacks the key
abbrev pub has_place : Fault → Members → Bool
has_place fault ms = table_has fault (section_in fault.section ms)

-- before any line
abbrev pub start : Placing
start = record { lines = 0; line = 1; found = false }

-- one line more, behind which the text is a document that has the place, or lacks it, or none
abbrev pub with_answer : Placing → Option Bool → Placing
with_answer p None = record { lines = p.lines + 1; line = p.line; found = p.found }
with_answer p (Some true) = record { lines = p.lines + 1; line = p.line; found = true }
with_answer p (Some false) = record { lines = p.lines + 1; line = p.lines + 1 + 1; found = false }

-- one byte more, the one at that place
abbrev pub with_byte : Fault → List ℕ → ℕ → Placing → ℕ → Placing
with_byte fault text at p b =
    if p.found || not (b == 10) then p else with_answer p (option_map (has_place fault) (document (take (at + 1) text)))

abbrev pub placing_from : Fault → List ℕ → ℕ → Placing → List ℕ → Placing
placing_from fault text at p [] = p
placing_from fault text at p (b ∷ bs) = placing_from fault text (at + 1) (with_byte fault text at p b) bs

unfoldable pub line_of : List ℕ → Fault → ℕ
line_of text fault = (placing_from fault text 0 start text).line
