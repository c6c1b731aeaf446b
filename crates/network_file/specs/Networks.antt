-- The network of a file: what its lines say, one after another, or the first bad line and why, with the word by which that is shown.
-- Own profile.
use Rattle.std.specs.Prelude.{ℕ, suc, ◌≡◌, List, [], ◌∷◌, ◌++◌, Some, None, Result, Ok, Err, nat_lt, if◌then◌else◌, codes}
use Rattle.std.specs.Str.Lines.{lines}
use Rattle.text_lines.specs.Lines.{is_skipped}
use Rattle.network_file.specs.declared.what.What.{What}
use Rattle.network_file.specs.declared.what.What.TheVariants.{Many}
use Rattle.network_file.specs.declared.network.NetworkRefusal.{NetworkRefusal}
use Rattle.network_file.specs.declared.network.NetworkRefusal.TheVariants.{BadLine, NoMemory}
use Rattle.network_file.specs.declared.lines.Line.{Line}
use Rattle.network_file.specs.declared.lines.Line.TheVariants.{Version, Node, Channel, Set, Via, Instruction}
use Rattle.network_file.specs.Plan.{Plan}
use Rattle.network_file.specs.Lines.{line_at}
use Rattle.network_file.specs.declared.what.What.TheVariants as whats

abbrev pub nothing : Plan
nothing = record { version = None; declared = []; channels = []; settings = []; vias = []; instructions = [] }

-- a plan with what line number n says
abbrev pub with_line : ℕ → Line → Plan → Plan
with_line n (Version version) plan = record plan { version = Some version }
with_line n (Node declaration) plan = record plan { declared = plan.declared ++ declaration ∷ [] }
with_line n (Channel channel) plan = record plan { channels = plan.channels ++ channel ∷ [] }
with_line n (Set setting) plan = record plan { settings = plan.settings ++ setting ∷ [] }
with_line n (Via via) plan = record plan { vias = plan.vias ++ via ∷ [] }
with_line n (Instruction instruction) plan = record plan { instructions = plan.instructions ++ record { line = n; instruction = instruction } ∷ [] }

-- a bad line's number, and why it is bad
abbrev pub Bad : Type 0
Bad = ℕ × What

abbrev pub with_said : ℕ → Plan → Result Line What → Result Plan Bad
with_said n plan (Ok line) = Ok (with_line n line plan)
with_said n plan (Err what) = Err (n, what)

-- the plan after line number n
abbrev pub after_line : ℕ → Plan → List ℕ → Result Plan Bad
after_line n plan line =
    if nat_lt 20000 n then Err (n, Many)
    else (if is_skipped line then Ok plan else with_said n plan (line_at plan line))

abbrev pub and_then : Result Plan Bad → (Plan → Result Plan Bad) → Result Plan Bad
and_then (Ok plan) next = next plan
and_then (Err bad) next = Err bad

-- the plan after these lines, of which the first has a number above n
abbrev pub after_lines : ℕ → Plan → List (List ℕ) → Result Plan Bad
after_lines n plan [] = Ok plan
after_lines n plan (line ∷ more) = and_then (after_line (suc n) plan line) (λ next. after_lines (suc n) next more)

-- what a file lays down: its lines end with a line feed, before which a carriage return is dropped, and the last may go without
unfoldable pub network_of : List ℕ → Result Plan Bad
network_of bytes = after_lines 0 nothing (lines bytes)

-- a refusal tells what the definition says, unless memory ran out
abbrev pub ReadAs : NetworkRefusal → Result Plan Bad → Type 0
ReadAs NoMemory r = Unit {0}
ReadAs (BadLine n what) r = r ≡ Err (n, what)

-- The word by which a reason is shown. Own profile.

abbrev pub word_for : What → List ℕ
word_for whats.Many = codes "many"
word_for whats.Char = codes "char"
word_for whats.Word = codes "word"
word_for whats.Late = codes "late"
word_for whats.Count = codes "count"
word_for whats.Number = codes "number"
word_for whats.Call = codes "call"
word_for whats.Alias = codes "alias"
word_for whats.Node = codes "node"
word_for whats.Twice = codes "twice"
word_for whats.Key = codes "key"
word_for whats.Value = codes "value"
