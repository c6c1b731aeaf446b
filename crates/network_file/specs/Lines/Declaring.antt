-- Lines that declare: what each says, one word after another. Own profile.
use Rattle.std.specs.Prelude.{ℕ, List, [], ◌∷◌, ◌++◌, length, Result, Ok, Err, Bool, ◌&&◌, not, nat_le, is_none, codes}
use Rattle.ax_address.specs.Callsign.{Callsign}
use Rattle.ax_address.specs.Results.{◌>>=◌}
use Rattle.network_file.specs.declared.what.What.{What}
use Rattle.network_file.specs.declared.what.What.TheVariants as whats
use Rattle.network_file.specs.declared.lines.Line.{Line}
use Rattle.network_file.specs.declared.lines.Line.TheVariants as lines
use Rattle.network_file.specs.declared.plan.declarations.Declaration.{Declaration}
use Rattle.network_file.specs.Plan.{has_member, Plan, version_of}
use Rattle.network_file.specs.Keys.{key_at, least_of, most_of, takes, clashes, set_to}
use Rattle.network_file.specs.Lines.Kinds.{Kind, declaring, opening}
use Rattle.network_file.specs.Places.{needs, value_at, node_at, new_node_at, call_at, new_call_at, new_peer_at, alias_at}

-- version V
unfoldable pub version_at : List ℕ → Result Line What
version_at word = do
  v ← value_at 1 4 word
  Ok (lines.Version v)

abbrev pub version_line : List (List ℕ) → Result Line What
version_line (word ∷ []) = version_at word
version_line other = Err whats.Count

-- node N CALL ALIAS
unfoldable pub declaration_at : Plan → List ℕ → List ℕ → List ℕ → Result Line What
declaration_at plan number name nick = do
  n ← new_node_at plan.declared number
  c ← new_call_at plan.declared name
  a ← alias_at nick
  Ok (lines.Node (record { node = n; call = c; alias = a }))

abbrev pub node_line : Plan → List (List ℕ) → Result Line What
node_line plan (number ∷ name ∷ nick ∷ []) = declaration_at plan number name nick
node_line plan other = Err whats.Count

-- these nodes, each declared and there once
abbrev pub members_at : List Declaration → List ℕ → List (List ℕ) → Result (List ℕ) What
members_at declared members [] = Ok members
members_at declared members (word ∷ words) =
    (node_at declared word) >>= (λ n. (needs (not (has_member members n)) whats.Twice) >>= (λ u. members_at declared (members ++ n ∷ []) words))

-- channel N N, and up to fourteen more
abbrev pub are_members : List (List ℕ) → Bool
are_members words = nat_le 2 (length words) && nat_le (length words) 16

unfoldable pub channel_line : Plan → List (List ℕ) → Result Line What
channel_line plan words = do
  u ← needs (are_members words) whats.Count
  ns ← members_at plan.declared [] words
  Ok (lines.Channel (record { nodes = record { items = ns } }))

-- set N KEY VALUE
unfoldable pub setting_at : Plan → List ℕ → List ℕ → List ℕ → Result Line What
setting_at plan number key word = do
  n ← node_at plan.declared number
  k ← key_at (version_of plan) key
  u ← needs (is_none (set_to plan.settings n k)) whats.Twice
  v ← value_at (least_of k) (most_of k) word
  w ← needs (takes (version_of plan) k v) whats.Value
  x ← needs (not (clashes plan.settings n k v)) whats.Value
  Ok (lines.Set (record { node = n; key = k; value = v }))

abbrev pub set_line : Plan → List (List ℕ) → Result Line What
set_line plan (number ∷ key ∷ word ∷ []) = setting_at plan number key word
set_line plan other = Err whats.Count

-- calls, one a word
abbrev pub calls_at : List (List ℕ) → Result (List Callsign) What
calls_at [] = Ok []
calls_at (word ∷ words) = (call_at word) >>= (λ c. (calls_at words) >>= (λ cs. Ok (c ∷ cs)))

-- via N CALL REPEATER, or with a second REPEATER
abbrev pub are_repeaters : List (List ℕ) → Bool
are_repeaters words = nat_le 1 (length words) && nat_le (length words) 2

unfoldable pub via_at : Plan → List ℕ → List ℕ → List (List ℕ) → Result Line What
via_at plan number name words = do
  u ← needs (are_repeaters words) whats.Count
  n ← node_at plan.declared number
  p ← new_peer_at plan.vias n name
  rs ← calls_at words
  Ok (lines.Via (record { node = n; peer = p; repeaters = record { items = rs } }))

abbrev pub via_line : Plan → List (List ℕ) → Result Line What
via_line plan (number ∷ name ∷ words) = via_at plan number name words
via_line plan other = Err whats.Count

abbrev pub declaring_kinds : List Kind
declaring_kinds =
    opening (codes "version") (λ plan line. version_line)
    ∷ declaring (codes "node") (λ plan line. node_line plan)
    ∷ declaring (codes "channel") (λ plan line. channel_line plan)
    ∷ declaring (codes "set") (λ plan line. set_line plan)
    ∷ declaring (codes "via") (λ plan line. via_line plan)
    ∷ []
