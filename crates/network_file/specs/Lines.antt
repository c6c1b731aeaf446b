-- The kinds of lines by their subjects, and what a line says. Own profile.
pub mod Kinds
pub mod Declaring
pub mod Instructions
use Rattle.std.specs.Prelude.{ℕ, List, [], ◌∷◌, ◌++◌, Result, Err}
use Rattle.network_file.specs.declared.what.What.{What}
use Rattle.network_file.specs.declared.what.What.TheVariants as whats
use Rattle.network_file.specs.declared.lines.Line.{Line}
use Rattle.network_file.specs.Plan.{Plan}
use Rattle.text_lines.specs.Lines.{is_text, words_of}
use Rattle.ax_address.specs.Results.{◌>>=◌}
use Rattle.network_file.specs.Places.{needs}
use Rattle.network_file.specs.Lines.Kinds.{Kind, line_by}
use Rattle.network_file.specs.Lines.Declaring.{declaring_kinds}
use Rattle.network_file.specs.Lines.Instructions.{node_kinds, circuit_kinds, mail_kinds, frame_kinds}

-- all kinds, from those of a subject on
abbrev pub from_mails : List Kind
from_mails = mail_kinds ++ frame_kinds

abbrev pub from_circuits : List Kind
from_circuits = circuit_kinds ++ from_mails

abbrev pub from_nodes : List Kind
from_nodes = node_kinds ++ from_circuits

abbrev pub all_kinds : List Kind
all_kinds = declaring_kinds ++ from_nodes

-- by its first word
abbrev pub line_of : Plan → List ℕ → List (List ℕ) → Result Line What
line_of plan line [] = Err whats.Word
line_of plan line (first ∷ words) = line_by all_kinds plan line first words

-- what a line says after the lines before it, or the first thing that is wrong with it
unfoldable pub line_at : Plan → List ℕ → Result Line What
line_at plan line = do
  u ← needs (is_text line) whats.Char
  line_of plan line (words_of line)
