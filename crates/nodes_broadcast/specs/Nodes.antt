-- What a NODES broadcast says, the octets that spell it, and what octets are read as (NET/ROM, Appendix B).
use Rattle.std.specs.Prelude.{ℕ, ◌≡◌, ◌≤◌, List, [], ◌∷◌, ◌++◌, length, take, drop, zero, suc, ◌+◌, ◌-◌, ◌/◌, ◌%◌, get_or, Bool, false, ◌&&◌, ◌==◌, nat_le, nat_lt, not, Option, Some, None, Result, Ok, Err, if◌then◌else◌, codes}
use Rattle.std.specs.List.{AllByRecursion}
use Rattle.ax_address.specs.Callsign.{IsCallsign, Callsign, padded}
use Rattle.ax_address.specs.Octets.{SpellsNetCall, net_call_octets, net_call_at, refused_octet}
use Rattle.ax_address.specs.declared.alias.Alias.{Alias}
use Rattle.ax_address.specs.declared.entry.Entry.{Entry}
use Rattle.ax_address.specs.declared.address_refusal.AddressRefusal.{AddressRefusal}
use Rattle.ax_address.specs.Results.{◌>>=◌}
use Rattle.nodes_broadcast.specs.declared.nodes.Nodes.{Nodes}
use Rattle.nodes_broadcast.specs.declared.nodes.NodesRefusal.{NodesRefusal}
use Rattle.nodes_broadcast.specs.declared.nodes.NodesRefusal.TheVariants.{NotNodes, BadLength, TooMany, BadCall}

-- the call to which nodes broadcast
abbrev pub nodes_call : Callsign
nodes_call = record { letters = padded (codes "NODES"); ssid = 0 }

-- the sender's alias, and its entries in their order
pub record Broadcast : Type 0 where
  pub alias : Alias
  pub entries : List Entry

abbrev pub view : Nodes → Broadcast
view n = record { alias = n.alias; entries = n.entries.items }

-- the parts of an entry are two calls and an alias
pub record IsEntry (e : Entry) : Type 0 where
  pub dest : IsCallsign e.dest.letters e.dest.ssid
  pub alias : length e.alias ≡ 6
  pub best : IsCallsign e.best.letters e.best.ssid

-- a broadcast has an alias and at most eleven entries
pub record IsBroadcast (b : Broadcast) : Type 0 where
  pub alias : length b.alias ≡ 6
  pub few : length b.entries ≤ 11
  pub entries : AllByRecursion IsEntry b.entries

-- 21 octets are the entry: destination, its alias, best neighbour, quality
pub record SpellsEntry (e : Entry) (octets : List ℕ) : Type 0 where
  pub dest : SpellsNetCall e.dest (take 7 octets)
  pub alias : take 6 (drop 7 octets) ≡ e.alias
  pub best : SpellsNetCall e.best (take 7 (drop 13 octets))
  pub quality : drop 20 octets ≡ e.quality ∷ []

-- one entry after the other, and nothing behind them
abbrev pub SpellsEntries : List Entry → List ℕ → Type 0
SpellsEntries [] octets = octets ≡ []
SpellsEntries (e ∷ es) octets = SpellsEntry e (take 21 octets) × SpellsEntries es (drop 21 octets)

-- The octets are the broadcast: 0xFF, the alias, and the entries.
pub record Spells (b : Broadcast) (octets : List ℕ) : Type 0 where
  pub is_nodes : take 1 octets ≡ 255 ∷ []
  pub alias : take 6 (drop 1 octets) ≡ b.alias
  pub six : length b.alias ≡ 6
  pub entries : SpellsEntries b.entries (drop 7 octets)
  pub few : length b.entries ≤ 11

-- what is written for an entry
abbrev pub entry_octets : Entry → List ℕ
entry_octets e = net_call_octets e.dest ++ e.alias ++ net_call_octets e.best ++ e.quality ∷ []

abbrev pub entries_octets : List Entry → List ℕ
entries_octets [] = []
entries_octets (e ∷ es) = entry_octets e ++ entries_octets es

-- what is written for a broadcast
abbrev pub nodes_octets : Broadcast → List ℕ
nodes_octets b = 255 ∷ b.alias ++ entries_octets b.entries

-- The information of a frame judged: the broadcast that it spells, or the first thing that shows that it spells none.

abbrev pub is_nodes : List ℕ → Bool
is_nodes [] = false
is_nodes (first ∷ rest) = first == 255

-- a head of 7 octets, and 21 for each entry
abbrev pub is_length : ℕ → Bool
is_length n = nat_le 7 n && ((n - 7) % 21 == 0)

-- what shows before any call is read
abbrev pub shape_fault : List ℕ → Option NodesRefusal
shape_fault octets =
    if not (is_nodes octets) then Some NotNodes
    else if not (is_length (length octets)) then Some (BadLength (length octets))
    else if nat_lt 238 (length octets) then Some TooMany
    else None

-- what holds of octets without such a fault
pub record HasShape (octets : List ℕ) : Type 0 where
  pub first : take 1 octets ≡ 255 ∷ []
  pub head : 7 ≤ length octets
  pub whole : (length octets - 7) % 21 ≡ 0
  pub few : length octets ≤ 238

abbrev pub call_from : ℕ → Result Callsign AddressRefusal → Result Callsign NodesRefusal
call_from at (Ok call) = Ok call
call_from at (Err refusal) = Err (BadCall (at + refused_octet refusal))

-- the call of these seven octets, which stand at that place
abbrev pub call_at : ℕ → List ℕ → Result Callsign NodesRefusal
call_at at octets = call_from at (net_call_at octets)

-- the entry of these 21 octets, which stand at that place
unfoldable pub entry_at : ℕ → List ℕ → Result Entry NodesRefusal
entry_at at octets = do
  dest ← call_at at (take 7 octets)
  best ← call_at (at + 13) (take 7 (drop 13 octets))
  Ok (record { dest = dest; alias = take 6 (drop 7 octets); best = best; quality = get_or octets 20 0 })

-- so many entries, of which the first stands at that place
unfoldable pub entries_at : ℕ → ℕ → List ℕ → Result (List Entry) NodesRefusal
entries_at zero at octets = Ok []
entries_at (suc n) at octets = do
  entry ← entry_at at (take 21 octets)
  entries ← entries_at n (at + 21) (drop 21 octets)
  Ok (entry ∷ entries)

unfoldable pub broadcast_at : List ℕ → Result Broadcast NodesRefusal
broadcast_at octets = do
  entries ← entries_at (length (drop 7 octets) / 21) 7 (drop 7 octets)
  Ok (record { alias = take 6 (drop 1 octets); entries = entries })

abbrev pub unless_misshapen : Option NodesRefusal → Result Broadcast NodesRefusal → Result Broadcast NodesRefusal
unless_misshapen None read = read
unless_misshapen (Some refusal) read = Err refusal

-- Octets are read as a broadcast exactly where they spell it, as the law of `nodes_spelling` says.
abbrev pub nodes_at : List ℕ → Result Broadcast NodesRefusal
nodes_at octets = unless_misshapen (shape_fault octets) (broadcast_at octets)
