-- A node that runs alone, as the words of a command declare it: by the rules of the lines of a file. Own profile.
use Rattle.std.specs.Prelude.{ℕ, List, [], ◌∷◌, ◌++◌, length, position, Option, Some, None, Result, Ok, Err, ◌==◌, is_none, nat_lt, nat_eq, if◌then◌else◌, codes}
use Rattle.std.specs.Cmp.Lexicographic.{pointwise}
use Rattle.ax_address.specs.Callsign.{Callsign}
use Rattle.ax_address.specs.declared.alias.Alias.{Alias}
use Rattle.ax_address.specs.Results.{◌>>=◌}
use Rattle.text_lines.specs.Lines.{parted}
use Rattle.network_file.specs.declared.what.What.{What}
use Rattle.network_file.specs.declared.what.What.TheVariants as whats
use Rattle.network_file.specs.declared.plan.live.LiveNode.{LiveNode}
use Rattle.network_file.specs.Keys.{key_at, least_of, most_of, takes, set_to}
use Rattle.network_file.specs.Places.{needs, number_at, value_at, call_at, new_peer_at, alias_at}
use Rattle.network_file.specs.Lines.Declaring.{calls_at}

-- what stands before and behind the first such character
abbrev pub split_once : ℕ → List ℕ → Option (List ℕ × List ℕ)
split_once mark text = parted (position (λ b. b == mark) text) text

abbrev pub behind : List ℕ → Option (List ℕ × List ℕ) → Result (List ℕ) What
behind name None = Err whats.Word
behind name (Some parts) = if pointwise nat_eq parts.0 name then Ok parts.1 else Err whats.Word

-- what stands behind `name=`
abbrev pub value_behind : List ℕ → List ℕ → Result (List ℕ) What
value_behind name word = behind name (split_once 61 word)

-- a key and its value: each key once, so nineteen at most
unfoldable pub with_setting : LiveNode → List ℕ → List ℕ → Result LiveNode What
with_setting node name text = do
  k ← key_at 3 name
  u ← needs (is_none (set_to node.settings.items 1 k)) whats.Twice
  v ← value_at (least_of k) (most_of k) text
  w ← needs (takes 3 k v) whats.Value
  x ← needs (nat_lt (length node.settings.items) 19) whats.Twice
  Ok (record node { settings = record { items = node.settings.items ++ record { node = 1; key = k; value = v } ∷ [] } })

-- a peer and the one or two repeaters over which it is reached: at most sixteen peers, each once
unfoldable pub with_way : LiveNode → List ℕ → List (List ℕ) → Result LiveNode What
with_way node name words = do
  p ← new_peer_at node.vias.items 1 name
  rs ← calls_at words
  u ← needs (nat_lt (length node.vias.items) 16) whats.Value
  Ok (record node { vias = record { items = node.vias.items ++ record { node = 1; peer = p; repeaters = record { items = rs } } ∷ [] } })

-- R, or R,R
abbrev pub repeaters_in : List ℕ → Option (List ℕ × List ℕ) → List (List ℕ)
repeaters_in text None = text ∷ []
repeaters_in text (Some parts) = parts.0 ∷ parts.1 ∷ []

abbrev pub with_via_parts : LiveNode → Option (List ℕ × List ℕ) → Result LiveNode What
with_via_parts node None = Err whats.Count
with_via_parts node (Some parts) = with_way node parts.0 (repeaters_in parts.1 (split_once 44 parts.1))

-- CALL,R or CALL,R,R
abbrev pub with_via : LiveNode → List ℕ → Result LiveNode What
with_via node text = with_via_parts node (split_once 44 text)

-- the pair that is given first, once
unfoldable pub with_pair_of : LiveNode → List ℕ → List ℕ → Result LiveNode What
with_pair_of node index ident = do
  u ← needs (is_none node.pair) whats.Twice
  i ← number_at 1 255 index
  d ← number_at 1 255 ident
  Ok (record node { pair = Some (record { index = i; ident = d }) })

abbrev pub with_pair_parts : LiveNode → Option (List ℕ × List ℕ) → Result LiveNode What
with_pair_parts node None = Err whats.Count
with_pair_parts node (Some parts) = with_pair_of node parts.0 parts.1

-- I,D
abbrev pub with_pair : LiveNode → List ℕ → Result LiveNode What
with_pair node text = with_pair_parts node (split_once 44 text)

abbrev pub after_parts : LiveNode → Option (List ℕ × List ℕ) → Result LiveNode What
after_parts node None = Err whats.Word
after_parts node (Some parts) =
    if pointwise nat_eq parts.0 (codes "via") then with_via node parts.1
    else (if pointwise nat_eq parts.0 (codes "pair") then with_pair node parts.1 else with_setting node parts.0 parts.1)

-- via=CALL,R or via=CALL,R,R; pair=I,D; key=value
abbrev pub after_word : LiveNode → List ℕ → Result LiveNode What
after_word node word = after_parts node (split_once 61 word)

abbrev pub after_words : LiveNode → List (List ℕ) → Result LiveNode What
after_words node [] = Ok node
after_words node (word ∷ words) = (after_word node word) >>= (λ next. after_words next words)

-- a node of which nothing else is said
abbrev pub new_live_node : Callsign → Alias → LiveNode
new_live_node call alias =
    record { declared = record { node = 1; call = call; alias = alias }; settings = record { items = [] }; vias = record { items = [] }; pair = None }

-- call=CALL alias=ALIAS, and these words
unfoldable pub live_node_of : List ℕ → List ℕ → List (List ℕ) → Result LiveNode What
live_node_of name nick words = do
  n ← value_behind (codes "call") name
  k ← value_behind (codes "alias") nick
  c ← call_at n
  a ← alias_at k
  after_words (new_live_node c a) words

-- what the words declare, or what is wrong with them
abbrev pub live_node_at : List (List ℕ) → Result LiveNode What
live_node_at (name ∷ nick ∷ words) = live_node_of name nick words
live_node_at words = Err whats.Count
