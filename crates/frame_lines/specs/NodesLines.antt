-- The lines of a NODES broadcast: the sender's alias, and its entries. (NET/ROM, Appendix B; the text is own profile.)
use Rattle.std.specs.Prelude.{ℕ, List, ◌++◌, flat_map, length, codes, Result, Ok, Err}
use Rattle.std.specs.Fmt.{decimal}
use Rattle.ax_address.specs.Alias as aliases
use Rattle.ax_address.specs.Callsign as calls
use Rattle.ax_address.specs.declared.entry.Entry.{Entry}
use Rattle.nodes_broadcast.specs.declared.nodes.NodesRefusal.{NodesRefusal}
use Rattle.nodes_broadcast.specs.Nodes.{Broadcast, nodes_at}
use Rattle.frame_lines.specs.Words.{nodes_fault}

-- DEST ALIAS best=NEIGHBOUR quality=Q
abbrev pub entry_line : Entry → List ℕ
entry_line e =
    codes "    " ++ (calls.shown e.dest ++ (codes " " ++ (aliases.shown e.alias ++ (codes " best=" ++ (calls.shown e.best ++ (codes " quality=" ++ (decimal e.quality ++ codes "\n")))))))

-- nodes ALIAS entries=N
abbrev pub head_line : Broadcast → List ℕ
head_line b = codes "  nodes " ++ (aliases.shown b.alias ++ (codes " entries=" ++ (decimal (length b.entries) ++ codes "\n")))

abbrev pub broadcast_text : Broadcast → List ℕ
broadcast_text b = head_line b ++ flat_map entry_line b.entries

abbrev pub bad_line : NodesRefusal → List ℕ
bad_line e = codes "  bad nodes " ++ (nodes_fault e ++ codes "\n")

abbrev pub nodes_read : Result Broadcast NodesRefusal → List ℕ
nodes_read (Ok b) = broadcast_text b
nodes_read (Err e) = bad_line e

-- the broadcast that the octets spell, or why they spell none
abbrev pub nodes_text : List ℕ → List ℕ
nodes_text info = nodes_read (nodes_at info)
