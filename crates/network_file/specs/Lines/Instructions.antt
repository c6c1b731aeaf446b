-- The lines that are instructions, by their subjects: `heard`; nodes and time; circuits and their ends; mail; frames. Own profile.
use Rattle.std.specs.Prelude.{ℕ, ◌%◌, List, [], ◌∷◌, length, Result, Ok, Err, Bool, ◌&&◌, ◌==◌, nat_le, codes}
use Rattle.ax_address.specs.declared.entry.Entry.{Entry}
use Rattle.ax_address.specs.Results.{◌>>=◌}
use Rattle.ax_address.specs.Callsign.{Callsign}
use Rattle.network_file.specs.declared.what.What.{What}
use Rattle.network_file.specs.declared.what.What.TheVariants as whats
use Rattle.network_file.specs.declared.lines.Line.{Line}
use Rattle.network_file.specs.declared.lines.Line.TheVariants as lines
use Rattle.network_file.specs.declared.plan.instructions.Instruction.TheVariants as instructions
use Rattle.network_file.specs.Plan.{Plan}
use Rattle.network_file.specs.Places.{needs, number_at, node_at, call_at, alias_at, nth_at}
use Rattle.network_file.specs.Lines.Kinds.{Kind, instruction, instruction_since, reads, reads_text}

-- The line `heard`. Own profile.

-- DEST ALIAS BEST QUALITY
unfoldable pub entry_at : List ℕ → List ℕ → List ℕ → List ℕ → Result Entry What
entry_at dest nick best quality = do
  d ← call_at dest
  a ← alias_at nick
  b ← call_at best
  q ← number_at 0 255 quality
  Ok (record { dest = d; alias = a; best = b; quality = q })

-- four words to an entry
abbrev pub entries_at : List (List ℕ) → Result (List Entry) What
entries_at [] = Ok []
entries_at (d ∷ a ∷ b ∷ q ∷ more) = (entry_at d a b q) >>= (λ e. (entries_at more) >>= (λ es. Ok (e ∷ es)))
entries_at _ = Err whats.Count

-- four words to an entry, and at most eleven entries
abbrev pub are_entries : List (List ℕ) → Bool
are_entries words = (length words % 4 == 0) && nat_le (length words) 44

-- heard N CALL ALIAS, and up to eleven entries
unfoldable pub broadcast_at : Plan → List ℕ → List ℕ → List ℕ → List (List ℕ) → Result Line What
broadcast_at plan number name nick rest = do
  u ← needs (are_entries rest) whats.Count
  n ← node_at plan.declared number
  c ← call_at name
  a ← alias_at nick
  es ← entries_at rest
  Ok (lines.Instruction (instructions.Heard n c (record { alias = a; entries = record { items = es } })))

abbrev pub heard_line : Plan → List (List ℕ) → Result Line What
heard_line plan (number ∷ name ∷ nick ∷ rest) = broadcast_at plan number name nick rest
heard_line plan other = Err whats.Count

-- Lines that speak of a node, or of time. Own profile.

-- lock N DEST ALIAS NEIGHBOUR QUALITY
unfoldable pub lock_at : Plan → List ℕ → List ℕ → List ℕ → List ℕ → List ℕ → Result Line What
lock_at plan number dest nick neighbour quality = do
  n ← node_at plan.declared number
  d ← call_at dest
  a ← alias_at nick
  b ← call_at neighbour
  q ← number_at 0 255 quality
  Ok (lines.Instruction (instructions.Lock n d a b q))

abbrev pub lock_line : Plan → List (List ℕ) → Result Line What
lock_line plan (number ∷ dest ∷ nick ∷ neighbour ∷ quality ∷ []) = lock_at plan number dest nick neighbour quality
lock_line plan other = Err whats.Count

abbrev pub node_alone : Plan → List (List ℕ) → Result ℕ What
node_alone plan (number ∷ []) = node_at plan.declared number
node_alone plan other = Err whats.Count

unfoldable pub node_and_call_at : Plan → List ℕ → List ℕ → Result (ℕ × Callsign) What
node_and_call_at plan number name = do
  n ← node_at plan.declared number
  c ← call_at name
  Ok (n, c)

abbrev pub node_and_call : Plan → List (List ℕ) → Result (ℕ × Callsign) What
node_and_call plan (number ∷ name ∷ []) = node_and_call_at plan number name
node_and_call plan other = Err whats.Count

-- tick MS: at most a day
unfoldable pub tick_at : List ℕ → Result Line What
tick_at word = do
  ms ← number_at 1 86400000 word
  Ok (lines.Instruction (instructions.Tick ms))

abbrev pub tick_line : List (List ℕ) → Result Line What
tick_line (word ∷ []) = tick_at word
tick_line other = Err whats.Count

-- restart N INDEX IDENT: the pair that the node gives first
unfoldable pub restart_at : Plan → List ℕ → List ℕ → List ℕ → Result Line What
restart_at plan number index ident = do
  n ← node_at plan.declared number
  i ← number_at 1 255 index
  d ← number_at 1 255 ident
  Ok (lines.Instruction (instructions.Restart n (record { index = i; ident = d })))

abbrev pub restart_line : Plan → List (List ℕ) → Result Line What
restart_line plan (number ∷ index ∷ ident ∷ []) = restart_at plan number index ident
restart_line plan other = Err whats.Count

-- heard; lock; round N; linkfail N CALL; show N; tick; restart
abbrev pub node_kinds : List Kind
node_kinds =
    instruction (codes "heard") (λ plan line. heard_line plan)
    ∷ instruction (codes "lock") (λ plan line. lock_line plan)
    ∷ instruction (codes "round") (reads node_alone instructions.Round)
    ∷ instruction (codes "linkfail") (reads node_and_call (λ link. instructions.LinkFail link.0 link.1))
    ∷ instruction (codes "show") (reads node_alone instructions.Show)
    ∷ instruction (codes "tick") (λ plan line. tick_line)
    ∷ instruction_since 2 (codes "restart") (λ plan line. restart_line plan)
    ∷ []

-- Lines that speak of circuits and their ends. Own profile.

-- N X: an end of a node
unfoldable pub end_at : Plan → List ℕ → List ℕ → Result (ℕ × ℕ) What
end_at plan number nth = do
  n ← node_at plan.declared number
  x ← nth_at nth
  Ok (n, x)

-- burst N X COUNT
unfoldable pub burst_at : Plan → List ℕ → List ℕ → List ℕ → Result Line What
burst_at plan number nth count = do
  e ← end_at plan number nth
  c ← number_at 1 10000 count
  Ok (lines.Instruction (instructions.Burst e.0 e.1 c))

abbrev pub burst_line : Plan → List (List ℕ) → Result Line What
burst_line plan (number ∷ nth ∷ count ∷ []) = burst_at plan number nth count
burst_line plan other = Err whats.Count

abbrev pub end_alone : Plan → List (List ℕ) → Result (ℕ × ℕ) What
end_alone plan (number ∷ nth ∷ []) = end_at plan number nth
end_alone plan other = Err whats.Count

-- open N DEST; say N X TEXT; burst; take N X; close N X
abbrev pub circuit_kinds : List Kind
circuit_kinds =
    instruction (codes "open") (reads node_and_call (λ way. instructions.Open way.0 way.1))
    ∷ instruction (codes "say") (reads_text 2 end_alone (λ e. instructions.Say e.0 e.1))
    ∷ instruction (codes "burst") (λ plan line. burst_line plan)
    ∷ instruction (codes "take") (reads end_alone (λ e. instructions.Take e.0 e.1))
    ∷ instruction (codes "close") (reads end_alone (λ e. instructions.Close e.0 e.1))
    ∷ []

-- Lines that speak of mail. Own profile.

-- N TO DEST: a node, a user, and the user's node
unfoldable pub node_and_calls_at : Plan → List ℕ → List ℕ → List ℕ → Result (ℕ × Callsign × Callsign) What
node_and_calls_at plan number to dest = do
  n ← node_at plan.declared number
  t ← call_at to
  d ← call_at dest
  Ok (n, t, d)

abbrev pub node_and_calls : Plan → List (List ℕ) → Result (ℕ × Callsign × Callsign) What
node_and_calls plan (number ∷ to ∷ dest ∷ []) = node_and_calls_at plan number to dest
node_and_calls plan other = Err whats.Count

-- post N TO DEST TEXT; mail N
abbrev pub mail_kinds : List Kind
mail_kinds =
    instruction_since 4 (codes "post") (reads_text 3 node_and_calls (λ p. instructions.Post p.0 p.1 p.2))
    ∷ instruction_since 4 (codes "mail") (reads node_alone instructions.Mail)
    ∷ []

-- Lines that move frames. Own profile.

abbrev pub frame_alone : List (List ℕ) → Result ℕ What
frame_alone (word ∷ []) = nth_at word
frame_alone other = Err whats.Count

-- how many frames, and nothing else
abbrev pub count_alone : List (List ℕ) → Result ℕ What
count_alone (word ∷ []) = number_at 1 100000 word
count_alone other = Err whats.Count

-- a frame, and the node to which it goes
unfoldable pub frame_and_node_at : Plan → List ℕ → List ℕ → Result (ℕ × ℕ) What
frame_and_node_at plan frame number = do
  k ← nth_at frame
  n ← node_at plan.declared number
  Ok (k, n)

abbrev pub frame_and_node : Plan → List (List ℕ) → Result (ℕ × ℕ) What
frame_and_node plan (frame ∷ number ∷ []) = frame_and_node_at plan frame number
frame_and_node plan other = Err whats.Count

-- deliver K N; again K N; lose K; flow COUNT; cut COUNT
abbrev pub frame_kinds : List Kind
frame_kinds =
    instruction (codes "deliver") (reads frame_and_node (λ way. instructions.Deliver way.0 way.1))
    ∷ instruction (codes "again") (reads frame_and_node (λ way. instructions.Again way.0 way.1))
    ∷ instruction (codes "lose") (reads (λ plan. frame_alone) instructions.Lose)
    ∷ instruction (codes "flow") (reads (λ plan. count_alone) instructions.Flow)
    ∷ instruction (codes "cut") (reads (λ plan. count_alone) instructions.Cut)
    ∷ []
