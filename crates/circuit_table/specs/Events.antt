-- What is told at the nodes, and of which end (this project's profile).
use Rattle.std.specs.Prelude.{ℕ, Bool, true, false, ◌&&◌, nat_eq, nat_le, List, length, take, drop}
use Rattle.ax_address.specs.Callsign.{Callsign}
use Rattle.std.specs.Cmp.Lexicographic.{pointwise}
use Rattle.l3_datagram.specs.declared.datagram.TheConstants.{HEAD_SIZE, TTL_AT}
use Rattle.circuit_l4.specs.declared.notice.EndNotice.{EndNotice}
use Rattle.circuit_l4.specs.declared.notice.EndNotice.TheVariants.{Opened}
use Rattle.circuit_table.specs.Sets.{CircuitTold}

-- an end: its node, by its place among the nodes, and its number there
pub record Name : Type 0 where
  pub node : ℕ
  pub id : ℕ

abbrev pub same_name : Name → Name → Bool
same_name a b = nat_eq a.node b.node && nat_eq a.id b.id

-- what is told at a node, and that node's call
pub record Event : Type 0 where
  pub node : ℕ
  pub own : Callsign
  pub told : CircuitTold

-- two datagrams are the same but for the time to live
abbrev pub is_copy : List ℕ → List ℕ → Bool
is_copy d e =
    pointwise nat_eq (take TTL_AT d) (take TTL_AT e) && pointwise nat_eq (drop HEAD_SIZE d) (drop HEAD_SIZE e)
    && nat_le HEAD_SIZE (length d) && nat_le HEAD_SIZE (length e)

-- it tells how an end ended
abbrev pub ends_it : EndNotice → Bool
ends_it (Opened window) = false
ends_it _ = true
