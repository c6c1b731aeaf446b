-- The file of each number is one of a network: its first lines, those that are drawn, and the last.
use Rattle.std.proofs.Common.{◌≡◌, ◌+◌, ◌<◌, ◌≤◌, ◌∙◌, ◌*◌, ℕ, zero, suc, List, [], ◌∷◌, ◌++◌, refl, ap, sym, subst, length, arith, Ok, Err, Bool, true, false, cond, append_assoc, length-append}
use Rattle.std.specs.Prelude.{codes, Result, ◌==◌, ◌||◌, filter, not}
use Rattle.std.specs.Fmt.{decimal, digits}
use Rattle.std.specs.List.{slice_split}
use Rattle.std.specs.Str.Lines.{lines, lines_of_parts}
use Rattle.std.proofs.lemmas.List.Splits.{length-slice_split}
use Rattle.std.proofs.lemmas.Fmt.{length-decimal-le}
use Rattle.ax_address.specs.Callsign.{call_at}
use Rattle.ax_address.specs.Results.{◌>>=◌}
use Rattle.network_file.specs.declared.lines.Line.TheVariants as line
use Rattle.network_file.specs.declared.plan.instructions.NumberedInstruction.{NumberedInstruction}
use Rattle.network_file.specs.declared.plan.instructions.Instruction.{Instruction}
use Rattle.network_file.specs.declared.plan.instructions.Instruction.TheVariants.{Flow, Cut, Tick, Say}
use Rattle.network_file.specs.Keys.{key_at}
use Rattle.network_file.specs.Networks.{after_lines, network_of, nothing, Bad}
use Rattle.network_file.specs.Plan.{Plan}
use Rattle.network_file.specs.declared.what.What.TheVariants as whats
use Rattle.network_file.specs.Places.{needs, node_at, new_node_at, new_call_at, value_at, text_behind}
use Rattle.network_file.specs.Lines.{line_at, line_of}
use Rattle.network_file.specs.Lines.Instructions.{end_at, node_and_call_at, tick_at}
use Rattle.network_file.specs.Lines.Declaring.{declaration_at, channel_line, setting_at}
use Rattle.text_lines.specs.Lines.{is_skipped, is_text, past_word, words_of}
use Rattle.network_soak.specs.Files.{draw, next, soak_file, start_text, end_text, drawn_text, lines_of, drawn, Drawn, say_line, flow_line as flow_text}
use Rattle.network_soak.proofs.TextLines.{is_feed, is_space, pushed, parts_of, some_part, Says, one_line, some_length, decimal_is}

-- ---- the lines before those that are drawn

abbrev plan_in : Result Plan Bad → Plan
plan_in (Ok plan) = plan
plan_in (Err bad) = nothing

abbrev begun : Plan
begun = plan_in (after_lines 0 nothing (lines start_text))

started : (y : List ℕ) (more : List (List ℕ)) → after_lines 0 nothing (lines_of_parts (pushed is_feed start_text (y ∷ more))) ≡ after_lines 61 begun (lines_of_parts (y ∷ more))
unfolding start_text lines_of line_at declaration_at channel_line setting_at node_and_call_at node_at new_node_at new_call_at value_at digits call_at key_at
started y more = refl

starts : (rest : List ℕ) → after_lines 0 nothing (lines (start_text ++ rest)) ≡ after_lines 61 begun (lines rest)
starts rest =
    let parts = slice_split is_feed rest in
    ap (λ ps. after_lines 0 nothing (lines_of_parts ps)) (parts_of is_feed start_text rest)
    ∙ some_part (λ ps. after_lines 0 nothing (lines_of_parts (pushed is_feed start_text ps)) ≡ after_lines 61 begun (lines_of_parts ps)) parts (omega (arith, length-slice_split is_feed rest)) started

-- ---- the lines that are drawn

-- a plan that has come as far as the first lines, with these instructions
abbrev with_told : List NumberedInstruction → Plan
with_told told = record begun { instructions = told }

-- a text is one line, and an instruction
record IsLine (told : List NumberedInstruction) (text : List ℕ) : Type 0 where
  l : List ℕ
  what : Instruction
  spelled : text ≡ l ++ 10 ∷ []
  said : Says (with_told told) l (line.Instruction what)

cut_line_is : (told : List NumberedInstruction) → IsLine told (codes "cut 1\n")
unfolding start_text lines_of line_at declaration_at channel_line setting_at node_and_call_at node_at new_node_at new_call_at value_at digits call_at key_at
cut_line_is told = record { l = codes "cut 1"; what = Cut 1; spelled = refl; said = record { text = refl; some = refl; says = refl } }

tick_line_is : (told : List NumberedInstruction) → IsLine told (codes "tick 60000\n")
unfolding start_text lines_of line_at declaration_at channel_line setting_at node_and_call_at node_at new_node_at new_call_at value_at digits call_at key_at tick_at
tick_line_is told = record { l = codes "tick 60000"; what = Tick 60000; spelled = refl; said = record { text = refl; some = refl; says = refl } }

-- P of so many numbers, from one on
abbrev AllFrom : (ℕ → Type 0) → ℕ → ℕ → Type 0
AllFrom P from zero = Unit {0}
AllFrom P from (suc more) = P from × AllFrom P (suc from) more

one_of : (P : ℕ → Type 0) (from count d n : ℕ) → n ≡ d + from → AllFrom P from count → d < count → P n
one_of P from zero d n e all h = absurd (omega arith)
one_of P from (suc more) zero n e all h = let here : from ≡ n = omega arith in subst P here all.0
one_of P from (suc more) (suc d) n e all h = one_of P (suc from) more d n (omega arith) all.1 (omega arith)

module _ (told : List NumberedInstruction) where
  flow_at : (k : ℕ) → is_text (codes "flow " ++ decimal k) ≡ true → is_skipped (codes "flow " ++ decimal k) ≡ false
      → line_at (with_told told) (codes "flow " ++ decimal k) ≡ Ok (line.Instruction (Flow k)) → IsLine told (flow_text k)
  flow_at k text some says = record { l = codes "flow " ++ decimal k; what = Flow k; spelled = sym (append_assoc (codes "flow ") (decimal k) (10 ∷ [])); said = record { text = text; some = some; says = says } }

  flows : AllFrom (λ k. IsLine told (flow_text k)) 1 20
  unfolding start_text lines_of line_at declaration_at channel_line setting_at node_and_call_at node_at new_node_at new_call_at value_at digits call_at key_at
  flows = (flow_at 1 refl refl refl, (flow_at 2 refl refl refl, (flow_at 3 refl refl refl, (flow_at 4 refl refl refl, (flow_at 5 refl refl refl, (flow_at 6 refl refl refl, (flow_at 7 refl refl refl, (flow_at 8 refl refl refl, (flow_at 9 refl refl refl, (flow_at 10 refl refl refl, (flow_at 11 refl refl refl, (flow_at 12 refl refl refl, (flow_at 13 refl refl refl, (flow_at 14 refl refl refl, (flow_at 15 refl refl refl, (flow_at 16 refl refl refl, (flow_at 17 refl refl refl, (flow_at 18 refl refl refl, (flow_at 19 refl refl refl, (flow_at 20 refl refl refl, tt))))))))))))))))))))

flow_line_is : (told : List NumberedInstruction) (x : ℕ) → IsLine told (flow_text (draw 20 x + 1))
flow_line_is told x = one_of (λ k. IsLine told (flow_text k)) 1 20 (draw 20 x) (draw 20 x + 1) refl (flows told) (omega arith)

abbrev front : ℕ → List ℕ
front node = codes "say " ++ (decimal node ++ codes " 1 m")

abbrev some_words : List (List ℕ) → List (List ℕ)
some_words ws = filter (λ w. not (length w == 0)) ws

module _ (told : List NumberedInstruction) (t : List ℕ) (text : is_text t ≡ true) (one : slice_split is_space t ≡ t ∷ []) where
  say_at_node : (node : ℕ) → is_text (front node ++ t) ≡ is_text t → is_skipped (front node ++ t) ≡ ((suc (length (codes "ay 3 1 m" ++ t)) == 0) || false)
      → some_words (pushed is_space (front node) (t ∷ [])) ≡ codes "say" ∷ (decimal node ∷ (codes "1" ∷ cond (not (suc (length t) == 0)) ((109 ∷ t) ∷ []) []))
      → line_of (with_told told) (front node ++ t) (codes "say" ∷ (decimal node ∷ (codes "1" ∷ ((109 ∷ t) ∷ [])))) ≡ Ok (line.Instruction (Say node 1 (109 ∷ t)))
      → Says (with_told told) (front node ++ t) (line.Instruction (Say node 1 (109 ∷ t)))
  unfolding line_at
  say_at_node node all skipped words says =
      let l = front node ++ t in
      let whole : is_text l ≡ true = all ∙ text in
      let are : words_of l ≡ codes "say" ∷ (decimal node ∷ (codes "1" ∷ ((109 ∷ t) ∷ []))) =
      ap some_words (parts_of is_space (front node) t) ∙ (ap (λ ps. some_words (pushed is_space (front node) ps)) one
      ∙ (words ∙ ap (λ b. codes "say" ∷ (decimal node ∷ (codes "1" ∷ cond (not b) ((109 ∷ t) ∷ []) []))) (some_length (length t)))) in
      record {
        text = whole;
        some = skipped ∙ ap (λ b. b || false) (some_length (length (codes "ay 3 1 m" ++ t)));
        says = ap (λ b. (needs b whats.Char) >>= (λ u. line_of (with_told told) l (words_of l))) whole ∙ (ap (line_of (with_told told) l) are ∙ says);
      }

  says : AllFrom (λ node. Says (with_told told) (front node ++ t) (line.Instruction (Say node 1 (109 ∷ t)))) 1 6
  unfolding start_text lines_of line_at declaration_at channel_line setting_at node_and_call_at node_at new_node_at new_call_at value_at digits call_at key_at end_at text_behind past_word
  says = (say_at_node 1 refl refl refl refl, (say_at_node 2 refl refl refl refl, (say_at_node 3 refl refl refl refl, (say_at_node 4 refl refl refl refl, (say_at_node 5 refl refl refl refl, (say_at_node 6 refl refl refl refl, tt))))))

say_line_is : (told : List NumberedInstruction) (x nth : ℕ) → nth < 301 → IsLine told (say_line (draw 6 x + 1) nth)
say_line_is told x nth h =
    let t = decimal nth in
    let w = decimal_is nth h in
    let node = draw 6 x + 1 in
    record {
      l = front node ++ t;
      what = Say node 1 (109 ∷ t);
      spelled = simp append_assoc;
      said = one_of (λ n. Says (with_told told) (front n ++ t) (line.Instruction (Say n 1 (109 ∷ t)))) 1 6 (draw 6 x) node refl (says told t w.text w.one) (omega arith);
    }

pick : (P : List ℕ → Type 0) (a b c : Bool) (w x y z : Drawn) → P w.text → P x.text → P y.text → P z.text → P (cond a w (cond b x (cond c y z))).text
pick P true b c w x y z pw px py pz = pw
pick P false true c w x y z pw px py pz = px
pick P false false true w x y z pw px py pz = py
pick P false false false w x y z pw px py pz = pz

drawn_is : (told : List NumberedInstruction) (nth x : ℕ) → nth < 301 → IsLine told (drawn nth x).text
drawn_is told nth x h =
    let kind = draw 4 (next x) in
    let y = next (next x) in
    pick (IsLine told) (kind == 0) (kind == 1) (kind == 2)
    (record { text = say_line (draw 6 x + 1) nth; after = y })
    (record { text = flow_text (draw 20 y + 1); after = next y })
    (record { text = codes "cut 1\n"; after = y })
    (record { text = codes "tick 60000\n"; after = y })
    (say_line_is told x nth h) (flow_line_is told y) (cut_line_is told) (tick_line_is told)

-- a text brings the instructions from these to others, over so many lines
abbrev Brings : ℕ → ℕ → List NumberedInstruction → List ℕ → Type 0
Brings n m told text =
    (after : List NumberedInstruction) × ((rest : List ℕ) → after_lines n (with_told told) (lines (text ++ rest)) ≡ after_lines m (with_told after) (lines rest))

drawn_brings : (more nth x n m : ℕ) (told : List NumberedInstruction) → nth + more ≤ 301 → m ≡ n + more → m ≤ 20000 → Brings n m told (drawn_text nth more x)
unfolding drawn_text
drawn_brings zero nth x n m told h e few =
    let same : n ≡ m = omega arith in
    (told, λ rest. ap (λ k. after_lines k (with_told told) (lines rest)) same)
drawn_brings (suc more) nth x n m told h e few =
    let d = drawn nth x in
    let is = drawn_is told nth x (omega arith) in
    let next_told = told ++ record { line = suc n; instruction = is.what } ∷ [] in
    let later = drawn_brings more (nth + 1) d.after (suc n) m next_told (omega arith) (omega arith) few in (
      later.0,
      λ rest.
          let tail = drawn_text (nth + 1) more d.after ++ rest in
          let spelled : (d.text ++ drawn_text (nth + 1) more d.after) ++ rest ≡ is.l ++ (10 ∷ tail) =
          append_assoc d.text (drawn_text (nth + 1) more d.after) rest ∙ (ap (λ t. t ++ tail) is.spelled ∙ append_assoc is.l (10 ∷ []) tail) in
          ap (λ t. after_lines n (with_told told) (lines t)) spelled ∙ (one_line n (with_told told) is.l (line.Instruction is.what) tail (omega arith) is.said ∙ later.1 rest),
    )

-- ---- the lines after them

abbrev ended : List NumberedInstruction → Plan
ended told = plan_in (after_lines 361 (with_told told) (lines end_text))

ends : (told : List NumberedInstruction) → after_lines 361 (with_told told) (lines end_text) ≡ Ok (ended told)
unfolding start_text lines_of line_at declaration_at channel_line setting_at node_and_call_at node_at new_node_at new_call_at value_at digits call_at key_at end_text end_at
ends told = refl

pub file_is_good : (seed : ℕ) → (plan : Plan) × (network_of (soak_file seed) ≡ Ok plan)
unfolding network_of soak_file
file_is_good seed =
    let drawn = drawn_brings 300 1 seed 61 361 begun.instructions (omega arith) (omega arith) (omega arith) in
    (ended drawn.0, starts (drawn_text 1 300 seed ++ end_text) ∙ (drawn.1 end_text ∙ ends drawn.0))

-- ---- how long a file is

say_short : (node nth : ℕ) → node < 10 → nth < 1000 → length (say_line node nth) ≤ 64
say_short node nth a b =
    let n = length-decimal-le 1 node (omega arith) a (omega arith) in
    let t = length-decimal-le 3 nth (omega arith) b (omega arith) in
    simp length-append (omega arith)

flow_short : (count : ℕ) → count < 1000 → length (flow_text count) ≤ 64
flow_short count a =
    let n = length-decimal-le 3 count (omega arith) a (omega arith) in
    simp length-append (omega arith)

drawn_short : (nth x : ℕ) → nth < 301 → length (drawn nth x).text ≤ 64
drawn_short nth x h =
    let kind = draw 4 (next x) in
    let y = next (next x) in
    pick (λ t. length t ≤ 64) (kind == 0) (kind == 1) (kind == 2)
    (record { text = say_line (draw 6 x + 1) nth; after = y })
    (record { text = flow_text (draw 20 y + 1); after = next y })
    (record { text = codes "cut 1\n"; after = y })
    (record { text = codes "tick 60000\n"; after = y })
    (say_short (draw 6 x + 1) nth (omega arith) (omega arith)) (flow_short (draw 20 y + 1) (omega arith)) (omega arith) (omega arith)

all_short : (more nth x : ℕ) → nth + more ≤ 301 → length (drawn_text nth more x) ≤ more * 64
unfolding drawn_text
all_short zero nth x h = omega arith
all_short (suc more) nth x h =
    let d = drawn nth x in
    let here = drawn_short nth x (omega arith) in
    let later = all_short more (nth + 1) d.after (omega arith) in
    simp length-append (omega arith)

first_length : length start_text ≡ 664
unfolding start_text lines_of digits
first_length = refl

last_length : length end_text ≡ 84
unfolding end_text lines_of digits
last_length = refl

pub file_is_short : (seed : ℕ) → length (soak_file seed) ≤ 1048576
unfolding soak_file
file_is_short seed =
    let drawn = all_short 300 1 seed (omega arith) in
    simp length-append (omega (arith, first_length, last_length))
