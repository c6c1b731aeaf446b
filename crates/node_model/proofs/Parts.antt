-- What a node's settling rests on, of its links and its circuits: by the laws of their crates.
use Rattle.std.proofs.Common.{◌≡◌, ◌<◌, ℕ, refl}
use Rattle.std.specs.Prelude.{true, false}
use Rattle.ax_address.specs.Callsign.{Callsign}
use Rattle.circuit_table.specs.Pumps.{TellsLess}
use Rattle.l3_datagram.specs.Datagrams.{Datagram}
use Rattle.link_table.specs.Calls.{collect, tell_lost}
use Rattle.link_table.specs.Kept.{OffersLeave, TakesLower}
use Rattle.link_table.specs.Table.{Table}
use Rattle.node_model.specs.Links as links

-- nothing that waits for the node is changed but frames, and no payload that came
pub record Leaves (old new : Table) : Type 0 where
  pub waiting : new.pending.waiting ≡ old.pending.waiting
  pub lost : new.pending.lost ≡ old.pending.lost
  pub notices : new.pending.notices ≡ old.pending.notices
  pub payloads : links.payloads new ≡ links.payloads old

pub collect_payloads : (t : Table) → links.payloads (collect t) ≡ links.payloads t
unfolding links.payloads
collect_payloads t = refl

pub lost_payloads : (t : Table) → links.payloads (tell_lost t) ≡ links.payloads t
unfolding links.payloads
lost_payloads t = refl

pub noticed_payloads : (t : Table) → links.payloads (links.all_noticed t) ≡ links.payloads t
unfolding links.payloads
noticed_payloads t = refl

pub untaken : (peer : Callsign) (now : ℕ) (t : Table) → links.has_text peer t ≡ false → links.take_text peer now t ≡ t
unfolding links.has_text links.take_text
untaken peer now t e = rw e refl

module _ (offers : OffersLeave) (takes : TakesLower) (less : TellsLess) where
  pub offer_leaves : (to : Callsign) (d : Datagram) (now : ℕ) (t : Table) → Leaves t (links.offer to d now t)
  unfolding links.payloads links.offer
  offer_leaves to d now t =
      let leaves = offers to d now t in
      record { waiting = leaves.waiting; lost = leaves.lost; notices = leaves.notices; payloads = leaves.payloads }

  pub taken : (peer : Callsign) (now : ℕ) (t : Table) → links.has_text peer t ≡ true → links.payloads (links.take_text peer now t) < links.payloads t
  unfolding links.payloads links.has_text links.take_text
  taken peer now t e = takes peer now t e
