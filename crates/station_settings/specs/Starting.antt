-- The members of a station as they start, by its file. Own profile.
use Rattle.std.specs.Prelude.{ℕ, zero, suc, ◌+◌, ◌-◌, ◌*◌, ◌==◌, ◌++◌, Bool, true, false, List, [], ◌∷◌, length, filter, Option, Some, None, Result, Ok, Err}
use Rattle.std.specs.List.{list_any}
use Rattle.circuit_l4.specs.declared.pair.Pair.{Pair}
use Rattle.link_table.specs.declared.path_refusal.PathRefusal.{PathRefusal}
use Rattle.network_file.specs.declared.plan.declarations.Declaration.{Declaration}
use Rattle.network_file.specs.declared.plan.vias.Via.{Via}
use Rattle.node_core.specs.Acts.{Lock}
use Rattle.node_core.specs.Bridged.{Acts}
use Rattle.node_core.specs.declared.config.NodeConfig.{NodeConfig}
use Rattle.node_core.specs.declared.quality_refusal.QualityRefusal.{QualityRefusal}
use Rattle.node_settings.specs.Settings.{config_of, path_of}
use Rattle.station_file.specs.Station.{Station}
use Rattle.station_file.specs.declared.beacons.Beacon.{Beacon}
use Rattle.station_file.specs.declared.items.locks.Lock as locks
use Rattle.station_file.specs.declared.items.qualities.NeighbourQuality.{NeighbourQuality}
use Rattle.station_file.specs.declared.nodes.Member.{Member}
use Rattle.station_file.specs.declared.posts.Post.{Post}
use Rattle.station_members.specs.States as members
use Rattle.station_members.specs.States.{State, new_state}
use Rattle.station_members.specs.declared.config.BeaconConfig.{BeaconConfig}
use Rattle.station_members.specs.declared.config.MemberConfig.{MemberConfig}
use Rattle.station_members.specs.declared.config.MemberRules.{MemberRules}

-- ---- the settings of members

abbrev pub has_number : List ℕ → ℕ → Bool
has_number numbers number = list_any (λ n. n == number) numbers

-- numbers count from 1, and ports from 0
abbrev pub is_port_of : List ℕ → ℕ → Bool
is_port_of numbers port = has_number numbers (port + 1)

-- 0, 1, 2 and so on, so many of them
abbrev pub below : ℕ → List ℕ
below zero = []
below (suc n) = below n ++ n ∷ []

-- the ports of these numbers in the order of the station's, which are at most 8
abbrev pub ports_of : List ℕ → List ℕ
ports_of numbers = filter (is_port_of numbers) (below 8)

abbrev pub rules_of : Member → MemberRules
rules_of m =
    record {
      ports = record { items = ports_of m.ports.items };
      digipeat = m.digipeat;
      users = m.users;
      t2 = m.t2;
      paclen = m.paclen;
      first = m.first;
    }

-- its users are served by the station
abbrev pub hosted : NodeConfig → NodeConfig
hosted c = record c { prompt = false }

-- a round of its own each hour
abbrev pub hourly : NodeConfig → NodeConfig
hourly c = record c { interval = 3600000 }

-- its ends count from 1
abbrev pub member_config : Pair → Member → MemberConfig
member_config pair m = record { node = hosted (config_of m.settings.items m.declared pair 1); rules = rules_of m }

-- the post stands on no port and serves no users; its first round comes a minute after its first tick
abbrev pub post_rules : MemberRules
post_rules = record { ports = record { items = [] }; digipeat = true; users = false; t2 = 0; paclen = 256; first = 60000 }

-- what isn't said of it is as in network files
abbrev pub post_config : Pair → Post → MemberConfig
post_config pair p =
    record { node = hourly (hosted (config_of [] (record { node = 1; call = p.call; alias = p.alias }) pair 1)); rules = post_rules }

-- ---- the members, in the order of the file, the post last

abbrev pub with_members : Pair → List Member → State → State
with_members pair [] s = s
with_members pair (m ∷ ms) s = with_members pair ms (members.add (member_config pair m) s)

abbrev pub with_post : Pair → Option Post → State → State
with_post pair None s = s
with_post pair (Some p) s = members.add (post_config pair p) s

-- ---- what a file says of a member beside its settings: what the member refuses isn't set

abbrev pub path_if : Result (Unit {0}) PathRefusal → ℕ → Via → State → State
path_if (Ok _) at via s = members.set_path at via.peer (path_of via) s
path_if (Err why) at via s = s

-- the member at a place reaches a peer over repeaters
abbrev pub set_path : ℕ → Via → State → State
set_path at via s = path_if (members.path_answer at via.peer (path_of via) s) at via s

abbrev pub set_paths : ℕ → List Via → State → State
set_paths at [] s = s
set_paths at (via ∷ vias) s = set_paths at vias (set_path at via s)

abbrev pub quality_if : Result (Unit {0}) QualityRefusal → ℕ → NeighbourQuality → State → State
quality_if (Ok _) at q s = members.set_quality at q.neighbour q.quality s
quality_if (Err why) at q s = s

-- the path from the member at a place to a neighbour has a quality of its own
abbrev pub set_quality : ℕ → NeighbourQuality → State → State
set_quality at q s = quality_if (members.quality_answer at q.neighbour s) at q s

abbrev pub set_qualities : ℕ → List NeighbourQuality → State → State
set_qualities at [] s = s
set_qualities at (q ∷ qs) s = set_qualities at qs (set_quality at q s)

-- the member at a place locks a route in, at moment 0
abbrev pub set_lock : ℕ → locks.Lock → State → State
set_lock at l s = members.give at members.Own (Acts 0 (Lock l.dest l.alias l.neighbour l.quality)) s

abbrev pub set_locks : ℕ → List locks.Lock → State → State
set_locks at [] s = s
set_locks at (l ∷ ls) s = set_locks at ls (set_lock at l s)

abbrev pub set_up : ℕ → Member → State → State
set_up at m s = set_locks at m.locks.items (set_qualities at m.qualities.items (set_paths at m.vias.items s))

-- the members from a place on
abbrev pub all_set_up : ℕ → List Member → State → State
all_set_up at [] s = s
all_set_up at (m ∷ ms) s = all_set_up (at + 1) ms (set_up at m s)

-- ---- beacons

-- ports count from 0 here, and time in milliseconds; where the text stands doesn't matter
abbrev pub beacon_config : Beacon → BeaconConfig
beacon_config b =
    record { port = b.port - 1; from = b.from; to = b.to; text = record { ref_ptr = (0, 0); now = b.text }; every = b.every * 1000 }

abbrev pub with_beacon : Beacon → State → State
with_beacon b s = members.add_beacon (beacon_config b) s

abbrev pub with_beacons : List Beacon → State → State
with_beacons [] s = s
with_beacons (b ∷ bs) s = with_beacons bs (with_beacon b s)

-- ---- a station

-- the members of a station's file as they start; each gives this pair first
abbrev pub start_of : Pair → Station → State
start_of pair f =
    with_beacons f.beacons (all_set_up 0 f.members (with_post pair f.post
    (with_members pair f.members (new_state (length f.ports) f.denied))))
