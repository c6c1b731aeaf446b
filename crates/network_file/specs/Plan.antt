-- What a network file lays down, each part in the order of the file; who hears whom, and over which repeaters nodes reach others. Own
-- profile.
use Rattle.std.specs.Prelude.{ℕ, List, length, Option, unwrap_or, is_none, Bool, ◌&&◌, ◌==◌, filter, not, count_by}
use Rattle.std.specs.List.{list_any, range_with_len}
use Rattle.ax_address.specs.Callsign.{Callsign, same_call}
use Rattle.network_file.specs.declared.plan.channels.Channel.{Channel}
use Rattle.network_file.specs.declared.plan.declarations.Declaration.{Declaration}
use Rattle.network_file.specs.declared.plan.vias.Via.{Via}
use Rattle.network_file.specs.Keys.{Assignment}
use Rattle.network_file.specs.declared.plan.instructions.NumberedInstruction.{NumberedInstruction}

pub record Plan : Type 0 where
  pub version : Option ℕ
  pub declared : List Declaration
  pub channels : List Channel
  pub settings : List Assignment
  pub vias : List Via
  pub instructions : List NumberedInstruction

-- the version of a file that doesn't name it is 1
abbrev pub version_of : Plan → ℕ
version_of plan = unwrap_or plan.version 1

-- declarations come before all else
abbrev pub may_declare : Plan → Bool
may_declare plan = length plan.instructions == 0

-- no line has said anything yet (channels, settings and ways over repeaters speak of declared nodes)
abbrev pub is_untouched : Plan → Bool
is_untouched plan = is_none plan.version && ((length plan.declared == 0) && (length plan.instructions == 0))

-- Who hears whom. Own profile.

abbrev pub has_member : List ℕ → ℕ → Bool
has_member members node = list_any (λ m. m == node) members

abbrev pub is_on : ℕ → Channel → Bool
is_on node channel = has_member channel.nodes.items node

-- the node is on a channel
abbrev pub is_on_air : List Channel → ℕ → Bool
is_on_air channels node = list_any (is_on node) channels

abbrev pub share_channel : List Channel → ℕ → ℕ → Bool
share_channel channels sender node = list_any (λ channel. is_on sender channel && is_on node channel) channels

-- nodes hear each other where they are two and share a channel
abbrev pub can_hear : List Channel → ℕ → ℕ → Bool
can_hear channels sender node = not (sender == node) && share_channel channels sender node

-- the nodes that hear a sender, by number
abbrev pub hearers : List Channel → ℕ → List ℕ
hearers channels sender = filter (can_hear channels sender) (range_with_len 1 16)

-- The repeaters over which nodes reach others. Own profile.

-- a line says over which repeaters the node reaches the peer
abbrev pub has_via : List Via → ℕ → Callsign → Bool
has_via vias node peer = list_any (λ v. (v.node == node) && same_call v.peer peer) vias

-- how many peers the node reaches over repeaters
abbrev pub via_count : List Via → ℕ → ℕ
via_count vias node = count_by (λ v. v.node == node) vias
