-- The commands, and the words that ask for them. Own profile.
use Rattle.std.specs.Prelude.{ℕ, ◌≡◌, ◌≤◌, ◌⊎◌, ◌+◌, ◌==◌, nat_eq, Bool, List, ◌∷◌, [], codes, drop, length, map, position, take, Option, Some, None, String, string_bytes, if◌then◌else◌}
use Rattle.std.specs.Cmp.Lexicographic.{pointwise}
use Rattle.std.specs.declared.alloc.Global.{Global}
use Rattle.circuit_l4.specs.declared.pair.Pair.{Pair}
use Rattle.circuit_table.specs.Pairs.{IsPair}
use Rattle.text_lines.specs.Lines.{number_of}
use Rattle.station_cmd.specs.declared.command.StationCommand.{StationCommand}
use Rattle.station_cmd.specs.declared.command.StationCommand.TheVariants as code

-- ---- pair=I,D: two decimal numbers from 1 to 255

abbrev pub pair_by : Option ℕ → Option ℕ → Option Pair
pair_by (Some index) (Some ident) = Some (record { index = index; ident = ident })
pair_by (Some index) None = None
pair_by None ident = None

abbrev pub pair_in : List ℕ → List ℕ → Option Pair
pair_in index ident = pair_by (number_of 1 255 index) (number_of 1 255 ident)

abbrev pub pair_at_comma : List ℕ → Option ℕ → Option Pair
pair_at_comma numbers None = None
pair_at_comma numbers (Some at) = pair_in (take at numbers) (drop (at + 1) numbers)

abbrev pub is_comma : ℕ → Bool
is_comma b = b == 44

-- they stand before and behind the first comma
abbrev pub pair_behind : List ℕ → Option Pair
pair_behind numbers = pair_at_comma numbers (position is_comma numbers)

abbrev pub pair_at : List ℕ → Option Pair
pair_at word = if pointwise nat_eq (take 5 word) (codes "pair=") then pair_behind (drop 5 word) else None

-- ---- commands

-- where none is named
abbrev pub first_pair : Pair
first_pair = record { index = 1; ident = 1 }

-- `check` of a file; `run` of one, with the pair that each member gives first; `try` of some
pub data Asked : Type 0 where
  Check : List ℕ → Asked
  Run : List ℕ → Pair → Asked
  Try : List (List ℕ) → Asked

-- the words behind `run` name a file, and a pair or none
abbrev pub AreOfRun : List (List ℕ) → List ℕ → Pair → Type 0
AreOfRun words file pair =
    ((words ≡ file ∷ []) × (pair ≡ first_pair)) ⊎ ((word : List ℕ) × (words ≡ file ∷ word ∷ []) × (pair_at word ≡ Some pair))

abbrev pub Ask : List (List ℕ) → Asked → Type 0
Ask words (Check file) = words ≡ codes "check" ∷ file ∷ []
Ask words (Run file pair) = (later : List (List ℕ)) × (words ≡ codes "run" ∷ later) × AreOfRun later file pair
-- up to 8 files
Ask words (Try files) = (words ≡ codes "try" ∷ files) × (1 ≤ length files) × (length files ≤ 8)

abbrev pub texts_of : List (String Global) → List (List ℕ)
texts_of words = map (λ w. string_bytes w) words

-- these words ask for that
abbrev pub AskFor : List (String Global) → Asked → Type 0
AskFor words asked = Ask (texts_of words) asked

-- what the code answers, as what it asks for
abbrev pub asked : StationCommand → Asked
asked (code.Check file) = Check file.now
asked (code.Run file pair) = Run file.now pair
asked (code.Try files) = Try (texts_of files.now)

-- the pair of `run` is one that a member can give
abbrev pub HasPair : StationCommand → Type 0
HasPair (code.Run file pair) = IsPair pair
HasPair (code.Check file) = Unit {0}
HasPair (code.Try files) = Unit {0}

-- the words ask for the command; where there is none they ask for nothing
abbrev pub IsCommandOf : List (List ℕ) → Option StationCommand → Type 0
IsCommandOf words (Some command) = Ask words (asked command) × HasPair command
IsCommandOf words None = (a : Asked) → ¬ Ask words a
