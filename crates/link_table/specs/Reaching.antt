-- Each frame that a node's links put out can be written, and so be read: its addresses are calls, and its parts are those of its kind
-- (AX.25 2.2, section 3).
use Rattle.std.specs.Prelude.{ℕ, ◌≡◌, ◌≤◌, ◌⊎◌, List, length, Some}
use Rattle.std.specs.List.{AllByRecursion}
use Rattle.arrayvec.specs.ArrayVec.{ArrayVec}
use Rattle.ax_address.specs.Callsign.{Callsign}
pub use Rattle.ax_address.specs.Callsign.{IsCall}
use Rattle.ax_address.specs.declared.address.Address.{Address}
use Rattle.ax_frame.specs.Frames.{Frame as AirFrame, IsAddress, Spells}
use Rattle.ax_link.specs.Bounds.{Bounded, stock}
use Rattle.l3_datagram.specs.Datagrams.{Datagram}
use Rattle.link_table.specs.Calls.{arrive, break_link, close, collect, fetch, notice, offer, open_link, tell_lost, tick, set_up_size, with_path}
use Rattle.link_table.specs.Frames.{Sent, octets_of}
use Rattle.link_table.specs.Texts.{send_text, take_text}
use Rattle.link_table.specs.Table.{Linked, Table, Via}

-- repeaters that a frame may have
pub record IsWay (path : ArrayVec Address) : Type 0 where
  pub calls : AllByRecursion IsAddress path.items
  pub eight : length path.items ≤ 8

-- in a network of this modulus: a frame can be written, and sets up no link of another one
pub record IsSpelled (size : ℕ) (s : Sent) : Type 0 where
  pub spelled : Spells s.size s.frame (octets_of s)
  pub sets_up : (n : ℕ) → set_up_size s.frame.control ≡ Some n → n ≡ size

pub record LinkReaches (size : ℕ) (l : Linked) : Type 0 where
  pub bounds : Bounded (stock l.link)
  pub of_size : l.link.rules.size ≡ size
  pub peer : IsCall l.peer
  pub path : IsWay l.path

pub record Reaches (size : ℕ) (t : Table) : Type 0 where
  pub modulus : (size ≡ 8) ⊎ (size ≡ 128)
  pub of_size : t.size ≡ size
  pub own : IsCall t.own
  pub links : AllByRecursion (LinkReaches size) t.links
  pub paths : AllByRecursion (λ (v : Via). IsWay v.1) t.paths
  pub frames : AllByRecursion (IsSpelled size) t.pending.frames

-- a frame as a reader gives it: from a call, over repeaters that may be
pub record ComesFrom (size : ℕ) (f : AirFrame) : Type 0 where
  pub source : IsAddress f.head.source
  pub path : IsWay f.head.path
  pub sets_up : (n : ℕ) → set_up_size f.control ≡ Some n → n ≡ size

-- each call keeps it
pub record ReachesOn (size : ℕ) : Type 0 where
  pub arrives : (t : Table) (f : AirFrame) (now : ℕ) → ComesFrom size f → Reaches size t → Reaches size (arrive f now t)
  pub ticks : (t : Table) (now : ℕ) → Reaches size t → Reaches size (tick now t)
  pub opens : (t : Table) (peer : Callsign) (path : ArrayVec Address) (now : ℕ) → IsCall peer → IsWay path → Reaches size t
      → Reaches size (open_link peer path now t)
  pub closes : (t : Table) (peer : Callsign) (now : ℕ) → Reaches size t → Reaches size (close peer now t)
  pub breaks : (t : Table) (peer : Callsign) → Reaches size t → Reaches size (break_link peer t)
  pub takes : (t : Table) (peer : Callsign) (now : ℕ) → Reaches size t → Reaches size (take_text peer now t)
  pub sends : (t : Table) (peer : Callsign) (text : List ℕ) (now : ℕ) → Reaches size t → Reaches size (send_text peer text now t)
  pub offers : (t : Table) (to : Callsign) (d : Datagram) (now : ℕ) → IsCall to → Reaches size t → Reaches size (offer to d now t).table
  pub paths : (t : Table) (peer : Callsign) (path : ArrayVec Address) → IsWay path → Reaches size t → Reaches size (with_path peer path t)
  pub collects : (t : Table) → Reaches size t → Reaches size (collect t)
  pub tells_lost : (t : Table) → Reaches size t → Reaches size (tell_lost t)
  pub notices : (t : Table) → Reaches size t → Reaches size (notice t)
  pub fetches : (t : Table) → Reaches size t → Reaches size (fetch t)

abbrev pub FramesAreSpelled : Type 0
FramesAreSpelled = (size : ℕ) → ReachesOn size
