-- What a line of a script says, and what the script of a file asks for. Own profile.
use Rattle.std.specs.Prelude.{ℕ, List, [], ◌∷◌, length, Option, Some, None, Result, Ok, Err, Bool, true, false, ◌&&◌, nat_eq, nat_le, if◌then◌else◌, codes, suc, ◌≡◌, ◌++◌, nat_lt}
use Rattle.std.specs.Cmp.Lexicographic.{pointwise}
use Rattle.std.specs.Str.Lines.{lines}
use Rattle.radio_base.specs.declared.payload.Payload.{Payload}
use Rattle.text_lines.specs.Lines.{is_text, number_of, after_space, past_word, words_of, is_skipped}
use Rattle.ax_address.specs.Results.{◌>>=◌}
use Rattle.link_life.specs.declared.life_refusals.LifeWhat.{LifeWhat}
use Rattle.link_life.specs.declared.life_refusals.LifeWhat.TheVariants as whats
use Rattle.link_life.specs.declared.act.Side.{Side}
use Rattle.link_life.specs.declared.act.Side.TheVariants.{A, B}
use Rattle.link_life.specs.declared.act.EndAct.{EndAct}
use Rattle.link_life.specs.declared.act.EndAct.TheVariants.{SetUp, Send, Close, Take, Arrive, Lose}
use Rattle.link_life.specs.declared.act.LifeAct.{LifeAct}
use Rattle.link_life.specs.declared.act.LifeAct.TheVariants.{At, Tick}
use Rattle.link_life.specs.declared.life_refusals.LifeWhat.TheVariants.{Many}
use Rattle.link_life.specs.declared.life_refusals.LifeFileRefusal.{LifeFileRefusal}
use Rattle.link_life.specs.declared.life_refusals.LifeFileRefusal.TheVariants.{BadLine, NoMemory}
use Rattle.link_life.specs.declared.act.NumberedAct.{NumberedAct}

-- what is wrong where the test fails
abbrev pub needs : Bool → LifeWhat → Result (Unit {0}) LifeWhat
needs true what = Ok tt
needs false what = Err what

-- the value, or what is wrong
abbrev pub known : {A : Type 0} → LifeWhat → Option A → Result A LifeWhat
known what (Some x) = Ok x
known what None = Err what

abbrev pub side_at : List ℕ → Result Side LifeWhat
side_at word =
    if pointwise nat_eq word (codes "a") then Ok A else (if pointwise nat_eq word (codes "b") then Ok B else Err whats.Side)

-- setup S, close S, take S, arrive S, lose S
unfoldable pub end_at : EndAct → List ℕ → Result LifeAct LifeWhat
end_at act word = do
  side ← side_at word
  Ok (At side act)

abbrev pub end_line : EndAct → List (List ℕ) → Result LifeAct LifeWhat
end_line act (word ∷ []) = end_at act word
end_line act other = Err whats.Count

-- tick MS: at most a day
unfoldable pub tick_at : List ℕ → Result LifeAct LifeWhat
tick_at word = do
  passed ← known whats.Number (number_of 1 86400000 word)
  Ok (Tick passed)

abbrev pub tick_line : List (List ℕ) → Result LifeAct LifeWhat
tick_line (word ∷ []) = tick_at word
tick_line other = Err whats.Count

-- TEXT as a payload of no layer 3
abbrev pub payload_at : List ℕ → Result Payload LifeWhat
payload_at text =
    if nat_le 1 (length text) && nat_le (length text) 256
    then Ok (record { pid = 240; info = record { items = text } })
    else Err whats.Text

-- TEXT of a `send` line: what stands after its second word and the one space after that, if that space is there
unfoldable pub sent_text : List ℕ → Option (List ℕ)
sent_text line = after_space (past_word (past_word line))

-- send S TEXT: without the space that TEXT stands behind the line has too few words
unfoldable pub send_at : List ℕ → List ℕ → Result LifeAct LifeWhat
send_at line word = do
  text ← known whats.Count (sent_text line)
  side ← side_at word
  payload ← payload_at text
  Ok (At side (Send payload))

abbrev pub send_line : List ℕ → List (List ℕ) → Result LifeAct LifeWhat
send_line line (word ∷ more) = send_at line word
send_line line [] = Err whats.Count

-- the acts of an end that have no text, by their words
abbrev pub act_of : List ℕ → Option EndAct
act_of word =
    if pointwise nat_eq word (codes "setup") then Some SetUp
    else if pointwise nat_eq word (codes "close") then Some Close
    else if pointwise nat_eq word (codes "take") then Some Take
    else if pointwise nat_eq word (codes "arrive") then Some Arrive
    else if pointwise nat_eq word (codes "lose") then Some Lose
    else None

abbrev pub end_line_if : Option EndAct → List (List ℕ) → Result LifeAct LifeWhat
end_line_if None words = Err whats.Word
end_line_if (Some act) words = end_line act words

-- TEXT may hold spaces: it is read from the line, and all else from the words
abbrev pub line_of : List ℕ → List (List ℕ) → Result LifeAct LifeWhat
line_of line [] = Err whats.Word
line_of line (first ∷ words) =
    if pointwise nat_eq first (codes "send") then send_line line words
    else if pointwise nat_eq first (codes "tick") then tick_line words
    else end_line_if (act_of first) words

-- what a line says, or the first thing that is wrong with it
unfoldable pub line_at : List ℕ → Result LifeAct LifeWhat
line_at line = do
  u ← needs (is_text line) whats.Char
  line_of line (words_of line)

-- The script of a file: what its lines ask for, one after another, or the first bad line and why. Own profile.

-- a bad line's number, and why it is bad
abbrev pub Bad : Type 0
Bad = ℕ × LifeWhat

abbrev pub with_said : ℕ → List NumberedAct → Result LifeAct LifeWhat → Result (List NumberedAct) Bad
with_said n acts (Ok act) = Ok (acts ++ record { line = n; act = act } ∷ [])
with_said n acts (Err what) = Err (n, what)

-- the acts after line number n
abbrev pub after_line : ℕ → List NumberedAct → List ℕ → Result (List NumberedAct) Bad
after_line n acts line =
    if nat_lt 20000 n then Err (n, Many)
    else (if is_skipped line then Ok acts else with_said n acts (line_at line))

abbrev pub and_then : Result (List NumberedAct) Bad → (List NumberedAct → Result (List NumberedAct) Bad) → Result (List NumberedAct) Bad
and_then (Ok acts) next = next acts
and_then (Err bad) next = Err bad

-- the acts after these lines, of which the first has a number above n
abbrev pub after_lines : ℕ → List NumberedAct → List (List ℕ) → Result (List NumberedAct) Bad
after_lines n acts [] = Ok acts
after_lines n acts (line ∷ more) = and_then (after_line (suc n) acts line) (λ next. after_lines (suc n) next more)

-- what a script asks for: its lines end with a line feed, before which a carriage return is dropped, and the last may go without
unfoldable pub script_of : List ℕ → Result (List NumberedAct) Bad
script_of bytes = after_lines 0 [] (lines bytes)

-- a refusal tells what the definition says, unless memory ran out
abbrev pub ReadAs : LifeFileRefusal → Result (List NumberedAct) Bad → Type 0
ReadAs NoMemory r = Unit {0}
ReadAs (BadLine n what) r = r ≡ Err (n, what)
