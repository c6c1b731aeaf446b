-- What a word has to be in its place of a line, and what it then stands for. Own profile.
use Rattle.std.specs.Prelude.{ℕ, zero, suc, List, Option, Some, None, Result, Ok, Err, Bool, true, false, ◌==◌, not, nat_lt}
use Rattle.std.specs.List.{list_any}
use Rattle.ax_address.specs.Callsign.{Callsign, same_call}
use Rattle.ax_address.specs.Callsign as calls
use Rattle.ax_address.specs.Alias as aliases
use Rattle.ax_address.specs.declared.alias.Alias.{Alias}
use Rattle.ax_address.specs.Results.{◌>>=◌}
use Rattle.network_file.specs.declared.what.What.{What}
use Rattle.network_file.specs.declared.what.What.TheVariants as whats
use Rattle.network_file.specs.declared.plan.declarations.Declaration.{Declaration}
use Rattle.network_file.specs.declared.plan.vias.Via.{Via}
use Rattle.network_file.specs.Plan.{has_via, via_count}
use Rattle.text_lines.specs.Lines.{after_space, is_number, number_of, past_word}

-- what is wrong where the test fails
abbrev pub needs : Bool → What → Result (Unit {0}) What
needs true what = Ok tt
needs false what = Err what

-- the value, or what is wrong
abbrev pub known : {A : Type 0} → What → Option A → Result A What
known what (Some x) = Ok x
known what None = Err what

-- a number from least to most
abbrev pub number_at : ℕ → ℕ → List ℕ → Result ℕ What
number_at least most word = known whats.Number (number_of least most word)

-- the number of a frame or of an end
abbrev pub nth_at : List ℕ → Result ℕ What
nth_at word = number_at 1 4294967295 word

-- a number of any size, which has to be from least to most
unfoldable pub value_at : ℕ → ℕ → List ℕ → Result ℕ What
value_at least most word = do
  u ← needs (is_number word) whats.Number
  known whats.Value (number_of least most word)

-- a node with that number, or with that call, is declared
abbrev pub has_node : List Declaration → ℕ → Bool
has_node declared node = list_any (λ d. d.node == node) declared

abbrev pub has_call : List Declaration → Callsign → Bool
has_call declared call = list_any (λ d. same_call d.call call) declared

-- the number of a declared node
unfoldable pub node_at : List Declaration → List ℕ → Result ℕ What
node_at declared word = do
  n ← number_at 1 16 word
  u ← needs (has_node declared n) whats.Node
  Ok n

-- the number of a node that isn't declared yet
unfoldable pub new_node_at : List Declaration → List ℕ → Result ℕ What
new_node_at declared word = do
  n ← number_at 1 16 word
  u ← needs (not (has_node declared n)) whats.Twice
  Ok n

abbrev pub call_at : List ℕ → Result Callsign What
call_at word = elim (calls.call_at word) [ Ok c ↦ Ok c | Err e ↦ Err whats.Call ]

-- a call that no declared node has yet
unfoldable pub new_call_at : List Declaration → List ℕ → Result Callsign What
new_call_at declared word = do
  c ← call_at word
  u ← needs (not (has_call declared c)) whats.Twice
  Ok c

-- a call to which the node has no way over repeaters yet, of at most sixteen
unfoldable pub new_peer_at : List Via → ℕ → List ℕ → Result Callsign What
new_peer_at vias node word = do
  c ← call_at word
  u ← needs (not (has_via vias node c)) whats.Twice
  w ← needs (nat_lt (via_count vias node) 16) whats.Value
  Ok c

abbrev pub alias_at : List ℕ → Result Alias What
alias_at word = elim (aliases.alias_at word) [ Ok alias ↦ Ok alias | Err e ↦ Err whats.Alias ]

-- TEXT, which may hold spaces: what stands behind so many words of a line and one space, if that space is there
unfoldable pub text_behind : ℕ → List ℕ → Option (List ℕ)
text_behind zero line = after_space line
text_behind (suc words) line = text_behind words (past_word line)
