-- What a kind of line is, and what a line says by the first kind that its word names. Own profile.
use Rattle.std.specs.Prelude.{ℕ, suc, List, [], ◌∷◌, take, Result, Ok, Err, Bool, true, false, ◌&&◌, nat_le, nat_eq, if◌then◌else◌}
use Rattle.std.specs.Cmp.Lexicographic.{pointwise}
use Rattle.ax_address.specs.Results.{◌>>=◌}
use Rattle.network_file.specs.declared.what.What.{What}
use Rattle.network_file.specs.declared.what.What.TheVariants as whats
use Rattle.network_file.specs.declared.lines.Line.{Line}
use Rattle.network_file.specs.declared.lines.Line.TheVariants as lines
use Rattle.network_file.specs.declared.plan.instructions.Instruction.{Instruction}
use Rattle.network_file.specs.Places.{known, text_behind}
use Rattle.network_file.specs.Plan.{Plan, version_of, is_untouched, may_declare}

-- what a line and the words behind its first say, after the lines before; TEXT may hold spaces, and so is read from the line
abbrev pub Reader : Type 0
Reader = Plan → List ℕ → List (List ℕ) → Result Line What

-- a kind: its word, whether files of the plan's version have it, and what a line of it says
pub record Kind : Type 0 where
  pub word : List ℕ
  pub is_known : Plan → Bool
  pub says : Reader

abbrev pub in_time : Bool → Result Line What → Result Line What
in_time true said = said
in_time false said = Err whats.Late

-- the version line comes before all others, a declaration before all that is none
abbrev pub opening : List ℕ → Reader → Kind
opening word says =
    record { word = word; is_known = λ plan. true; says = λ plan line words. in_time (is_untouched plan) (says plan line words) }

abbrev pub declaring : List ℕ → Reader → Kind
declaring word says =
    record { word = word; is_known = λ plan. true; says = λ plan line words. in_time (may_declare plan) (says plan line words) }

abbrev pub instruction : List ℕ → Reader → Kind
instruction word says = record { word = word; is_known = λ plan. true; says = says }

abbrev pub instruction_since : ℕ → List ℕ → Reader → Kind
instruction_since version word says = record { word = word; is_known = λ plan. nat_le version (version_of plan); says = says }

-- what was read, as the line of the instruction that it makes
abbrev pub as_line : {A : Type 0} → Result A What → (A → Instruction) → Result Line What
as_line read makes = read >>= (λ x. Ok (lines.Instruction (makes x)))

-- so it is where these parts are read of the words
abbrev pub reads : {A : Type 0} → (Plan → List (List ℕ) → Result A What) → (A → Instruction) → Reader
reads parts makes = λ plan line words. as_line (parts plan words) makes

-- the parts that the `count` words behind the first are, and the text behind these; a line without the space before that text has too few words
abbrev pub with_text : {A : Type 0} → ℕ → (Plan → List (List ℕ) → Result A What) → Plan → List ℕ → List (List ℕ) → Result (A × List ℕ) What
with_text count parts plan line words = do
  text ← known whats.Count (text_behind (suc count) line)
  x ← parts plan (take count words)
  Ok (x, text)

abbrev pub reads_text : {A : Type 0} → ℕ → (Plan → List (List ℕ) → Result A What) → (A → List ℕ → Instruction) → Reader
reads_text count parts makes = λ plan line words. as_line (with_text count parts plan line words) (λ p. makes p.0 p.1)

-- what a line says, by the first of these kinds that its first word names
abbrev pub line_by : List Kind → Plan → List ℕ → List ℕ → List (List ℕ) → Result Line What
line_by [] plan line first words = Err whats.Word
line_by (k ∷ ks) plan line first words =
    if k.is_known plan && pointwise nat_eq first k.word then k.says plan line words else line_by ks plan line first words
