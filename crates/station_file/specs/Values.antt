-- The values of keys, by their kinds. Own profile.
use Rattle.std.specs.Prelude.{ℕ, ℤ, pos, List, [], ◌∷◌, length, map, Option, Some, None, option_map, String, Result, Ok, Err, Bool, true, false, ◌||◌, nat_lt, int_lt, if◌then◌else◌}
use Rattle.std.specs.Borrow.{Bor}
use Rattle.ax_address.specs.Callsign as calls
use Rattle.ax_address.specs.Callsign.{Callsign}
use Rattle.ax_address.specs.Alias as aliases
use Rattle.ax_address.specs.declared.alias.AliasRefusal.{AliasRefusal}
use Rattle.ax_address.specs.declared.alias.AliasRefusal.TheVariants as alias_refusals
use Rattle.std.specs.BTreeMap.{BTreeMap}
use Rattle.std.specs.declared.alloc.Global.{Global}
use Rattle.toml.specs.View.{view, table_view}
use Rattle.toml.specs.declared.value.Value.{Value}
use Rattle.toml.specs.Data.{Data, Items, no_items, item, Members, as_str, as_integer, as_bool, as_array, as_table}
use Rattle.station_file.specs.declared.why.Why.{Why}
use Rattle.station_file.specs.declared.why.Why.TheVariants.{Missing, NotText, NotNumber, NotFlag, NotList, NotTable, TooShort, TooLong, OutOfRange, TooMany, NoCall, NoAlias}

-- what is wrong where the test fails
abbrev pub needs : Bool → Why → Result (Unit {0}) Why
needs true why = Ok tt
needs false why = Err why

-- ---- what the references point to

abbrev pub seen : Result (Bor (List ℕ)) Why → Result (List ℕ) Why
seen (Ok s) = Ok s.now
seen (Err why) = Err why

abbrev pub seen_items : Result (Bor (List Value)) Why → Result (List Data) Why
seen_items (Ok s) = Ok (map view s.now)
seen_items (Err why) = Err why

abbrev pub seen_table : Result (Bor (BTreeMap (String Global) Value)) Why → Result Members Why
seen_table (Ok t) = Ok (table_view t.now)
seen_table (Err why) = Err why

-- ---- texts

abbrev pub sized : ℕ → ℕ → List ℕ → Result (List ℕ) Why
sized least most text =
    if nat_lt (length text) least then Err (TooShort (length text) least)
    else (if nat_lt most (length text) then Err (TooLong (length text) most) else Ok text)

abbrev pub text_of : ℕ → ℕ → Option (List ℕ) → Result (List ℕ) Why
text_of least most (Some text) = sized least most text
text_of least most None = Err NotText

-- a text of at least and at most so many bytes, which has to be there
abbrev pub text : ℕ → ℕ → Option Data → Result (List ℕ) Why
text least most None = Err Missing
text least most (Some d) = text_of least most (as_str d)

-- a text of at most so many bytes, or none
abbrev pub text_or_none : ℕ → Option Data → Result (List ℕ) Why
text_or_none most None = Ok []
text_or_none most (Some d) = text_of 0 most (as_str d)

-- ---- numbers

abbrev pub magnitude : ℤ → ℕ
magnitude (pos n) = n
magnitude z = 0

abbrev pub in_range : ℕ → ℕ → ℤ → Result ℕ Why
in_range least most z =
    if int_lt z (pos least) || int_lt (pos most) z then Err (OutOfRange z least most) else Ok (magnitude z)

abbrev pub number_in : ℕ → ℕ → Option ℤ → Result ℕ Why
number_in least most (Some z) = in_range least most z
number_in least most None = Err NotNumber

abbrev pub number_of : ℕ → ℕ → Data → Result ℕ Why
number_of least most d = number_in least most (as_integer d)

-- a whole number from least to most, or else the default
abbrev pub number : ℕ → ℕ → ℕ → Option Data → Result ℕ Why
number least most default None = Ok default
number least most default (Some d) = number_of least most d

-- a whole number from least to most, which has to be there
abbrev pub needed_number : ℕ → ℕ → Option Data → Result ℕ Why
needed_number least most None = Err Missing
needed_number least most (Some d) = number_of least most d

-- ---- true and false

abbrev pub flag_of : Option Bool → Result Bool Why
flag_of (Some b) = Ok b
flag_of None = Err NotFlag

-- `true` or `false`, or else the default
abbrev pub flag : Bool → Option Data → Result Bool Why
flag default None = Ok default
flag default (Some d) = flag_of (as_bool d)

-- ---- calls and aliases

abbrev pub call_in : List ℕ → Result Callsign Why
call_in text = elim (calls.call_at text) [ Ok c ↦ Ok c | Err e ↦ Err NoCall ]

abbrev pub call_of : Option (List ℕ) → Result Callsign Why
call_of (Some text) = call_in text
call_of None = Err NotText

-- a call, which has to be there
abbrev pub call : Option Data → Result Callsign Why
call None = Err Missing
call (Some d) = call_of (as_str d)

abbrev pub alias_why : List ℕ → AliasRefusal → Why
alias_why text alias_refusals.Empty = TooShort 0 1
alias_why text alias_refusals.TooLong = TooLong (length text) 6
alias_why text (alias_refusals.BadChar at) = NoAlias

abbrev pub alias_in : List ℕ → Result (List ℕ) Why
alias_in text = elim (aliases.alias_at text) [ Ok a ↦ Ok a | Err e ↦ Err (alias_why text e) ]

abbrev pub alias_of : Option (List ℕ) → Result (List ℕ) Why
alias_of (Some text) = alias_in text
alias_of None = Err NotText

-- an alias, which has to be there
abbrev pub alias : Option Data → Result (List ℕ) Why
alias None = Err Missing
alias (Some d) = alias_of (as_str d)

-- ---- lists and tables

abbrev pub items_in : Items → List Data
items_in no_items = []
items_in (item d ds) = d ∷ items_in ds

abbrev pub few : ℕ → List Data → Result (List Data) Why
few most ds = if nat_lt most (length ds) then Err (TooMany (length ds) most) else Ok ds

abbrev pub items_of : Data → Option (List Data)
items_of d = option_map items_in (as_array d)

abbrev pub list_of : ℕ → Option (List Data) → Result (List Data) Why
list_of most (Some ds) = few most ds
list_of most None = Err NotList

-- a list of at most so many items, or none
abbrev pub list : ℕ → Option Data → Result (List Data) Why
list most None = Ok []
list most (Some d) = list_of most (items_of d)

abbrev pub table_in : Option Members → Result Members Why
table_in (Some ms) = Ok ms
table_in None = Err NotTable

abbrev pub table : Data → Result Members Why
table d = table_in (as_table d)
