-- The network file of a number, and the numbers that it is drawn by. Own profile.
use Rattle.std.specs.Prelude.{ℕ, zero, suc, ◌+◌, ◌%◌, ◌==◌, List, [], ◌∷◌, ◌++◌, if◌then◌else◌, codes, ◌*◌, ◌/◌, ◌^◌}
use Rattle.std.specs.Fmt.{decimal}
use Rattle.std.specs.List.{flat_map}
use Rattle.network_soak.specs.declared.lines.LineKind.{LineKind}
use Rattle.network_soak.specs.declared.lines.LineKind.TheVariants.{Declare, Join, WithoutLinks, Round, Open, Close}

-- Numbers that one number leads to. Own profile.

-- the state after a draw
abbrev pub next : ℕ → ℕ
next x = (x * 6364136223846793005 + 1442695040888963407) % 2 ^ 64

-- a draw below a bound
abbrev pub draw : ℕ → ℕ → ℕ
draw bound x = (next x / 2 ^ 33) % bound

-- The file. Own profile.

-- six nodes in a ring
abbrev pub six : List ℕ
six = 1 ∷ 2 ∷ 3 ∷ 4 ∷ 5 ∷ 6 ∷ []

abbrev pub call_of : ℕ → List ℕ
call_of node =
    if node == 1 then codes "N0AAA" else if node == 2 then codes "N0BBB" else if node == 3 then codes "N0CCC"
    else if node == 4 then codes "N0DDD" else if node == 5 then codes "N0EEE" else codes "N0FFF"

abbrev pub alias_of : ℕ → List ℕ
alias_of node =
    if node == 1 then codes "NODEA" else if node == 2 then codes "NODEB" else if node == 3 then codes "NODEC"
    else if node == 4 then codes "NODED" else if node == 5 then codes "NODEE" else codes "NODEF"

-- the node behind it, and the one that its circuit goes to
abbrev pub next_node : ℕ → ℕ
next_node node = node % 6 + 1

abbrev pub far_node : ℕ → ℕ
far_node node = (node + 2) % 6 + 1

-- lines of each node: it is declared, and hears the next one; its datagrams go in UI frames, without links; it broadcasts, and all
-- that comes of it goes on; it asks for a circuit with the one opposite, and closes it
abbrev pub line_of : LineKind → ℕ → List ℕ
line_of Declare node = codes "node " ++ (decimal node ++ (codes " " ++ (call_of node ++ (codes " " ++ (alias_of node ++ codes "\n")))))
line_of Join node = codes "channel " ++ (decimal node ++ (codes " " ++ (decimal (next_node node) ++ codes "\n")))
line_of WithoutLinks node = codes "set " ++ (decimal node ++ codes " links 0\n")
line_of Round node = codes "round " ++ (decimal node ++ codes "\nflow 100\n")
line_of Open node = codes "open " ++ (decimal node ++ (codes " " ++ (call_of (far_node node) ++ codes "\n")))
line_of Close node = codes "close " ++ (decimal node ++ codes " 1\n")

-- so it is for all six
unfoldable pub lines_of : LineKind → List ℕ
lines_of kind = flat_map (line_of kind) six

-- what the nodes know of each other, and a circuit of each
abbrev pub start_kinds : List LineKind
start_kinds = Declare ∷ Join ∷ WithoutLinks ∷ Round ∷ Round ∷ Round ∷ Open ∷ []

unfoldable pub start_text : List ℕ
start_text = flat_map lines_of start_kinds ++ codes "flow 1000\n"

-- a line that is drawn: a message with its number is written at a node's circuit, some frames go on, one is lost, or a minute goes by
abbrev pub say_line : ℕ → ℕ → List ℕ
say_line node nth = codes "say " ++ (decimal node ++ (codes " 1 m" ++ (decimal nth ++ codes "\n")))

abbrev pub flow_line : ℕ → List ℕ
flow_line count = codes "flow " ++ (decimal count ++ codes "\n")

-- of that kind, of four, at a node; and the state after it, where x is the one before
pub record Drawn : Type 0 where
  pub text : List ℕ
  pub after : ℕ

abbrev pub drawn_as : ℕ → ℕ → ℕ → ℕ → Drawn
drawn_as nth node kind x =
    if kind == 0 then record { text = say_line node nth; after = x }
    else if kind == 1 then record { text = flow_line (draw 20 x + 1); after = next x }
    else if kind == 2 then record { text = codes "cut 1\n"; after = x }
    else record { text = codes "tick 60000\n"; after = x }

abbrev pub drawn : ℕ → ℕ → Drawn
drawn nth x = drawn_as nth (draw 6 x + 1) (draw 4 (next x)) (next (next x))

-- so many lines, the first of them with this number
unfoldable pub drawn_text : ℕ → ℕ → ℕ → List ℕ
drawn_text nth zero x = []
drawn_text nth (suc more) x = (drawn nth x).text ++ drawn_text (nth + 1) more (drawn nth x).after

unfoldable pub end_text : List ℕ
end_text = codes "flow 100000\n" ++ (lines_of Close ++ codes "flow 100000\n")

-- 369 lines
unfoldable pub soak_file : ℕ → List ℕ
soak_file seed = start_text ++ (drawn_text 1 300 seed ++ end_text)
