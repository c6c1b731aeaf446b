-- Who has set a link up is changed by frames alone (this project's profile).
use Rattle.std.specs.Prelude.{ℕ, ◌≡◌, true, List}
use Rattle.arrayvec.specs.ArrayVec.{ArrayVec}
use Rattle.ax_address.specs.Callsign.{Callsign}
use Rattle.ax_address.specs.declared.address.Address.{Address}
use Rattle.l3_datagram.specs.Datagrams.{Datagram}
use Rattle.link_table.specs.Calls.{break_link, close, is_called, offer, open_link, tick}
use Rattle.link_table.specs.Ending.{IsInOrder, has_link}
use Rattle.link_table.specs.Table.{Table}
use Rattle.link_table.specs.Texts.{send_text, take_text}

-- the peer of a link that stands afterwards has set it up exactly where it had before; it has not where the link is new
abbrev pub KeepsCallers : Table → Table → Type 0
KeepsCallers old new = IsInOrder old → (peer : Callsign) → has_link peer new ≡ true → is_called peer new ≡ is_called peer old

-- so it is with each call but `arrive`
pub record OnlyFramesCall : Type 0 where
  pub ticks : (t : Table) (now : ℕ) → KeepsCallers t (tick now t)
  pub opens : (t : Table) (peer : Callsign) (path : ArrayVec Address) (now : ℕ) → KeepsCallers t (open_link peer path now t)
  pub closes : (t : Table) (peer : Callsign) (now : ℕ) → KeepsCallers t (close peer now t)
  pub breaks : (t : Table) (peer : Callsign) → KeepsCallers t (break_link peer t)
  pub takes : (t : Table) (peer : Callsign) (now : ℕ) → KeepsCallers t (take_text peer now t)
  pub sends : (t : Table) (peer : Callsign) (text : List ℕ) (now : ℕ) → KeepsCallers t (send_text peer text now t)
  pub offers : (t : Table) (to : Callsign) (d : Datagram) (now : ℕ) → KeepsCallers t (offer to d now t).table
