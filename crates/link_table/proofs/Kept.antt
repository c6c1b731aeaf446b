-- What a node's links keep.
use Rattle.std.proofs.Common.{ℕ, ◌*◌, ◌≤◌, List, [], ◌∷◌, length, arith}
use Rattle.std.specs.Prelude.{Result, Ok, Err, OnOk, IfOk}
use Rattle.ax_address.specs.Callsign.{Callsign}
use Rattle.ax_link.specs.Standing as link
use Rattle.ax_link.specs.Standing.{share}
use Rattle.ax_segment.specs.Joining as segment
use Rattle.l3_datagram.specs.Datagrams.{Datagram, Offer}
use Rattle.l3_datagram.specs.declared.carrier.Offered.{Offered}
use Rattle.link_table.specs.Calls.{offer}
use Rattle.link_table.specs.declared.entry.LinkEntry.{LinkEntry}
use Rattle.link_table.specs.declared.link_of.LinkOf.{LinkOf}
use Rattle.link_table.specs.declared.link_of.LinkOf.TheVariants.{Eight, Wide}
use Rattle.link_table.specs.Kept.{KeepsItsShare, KeepsOn, entry_kept, links_kept}
use Rattle.link_table.specs.Standing.{LinkStands, LinksStand, Made, TableGoes, TableView, size_of}
use Rattle.link_table.specs.Table.{Linked, Table}

module _ (of_link : link.KeepsItsShare) (of_joiner : segment.KeepsFew) where
  most : (l : LinkOf) → share (size_of l) ≤ 65536
  most (Eight h) = omega arith
  most (Wide h) = omega arith

  one : (own key : Callsign) (e : LinkEntry) (l : Linked) → LinkStands own key e l → entry_kept e ≤ 98175
  one own key e l s = omega (arith, of_link _ _ _ s.link, most e.link, of_joiner e.joiner s.within)

  all : (own : Callsign) (es : List (Callsign × LinkEntry)) (ls : List Linked) → LinksStand own es ls → links_kept es ≤ 98175 * length es
  all own [] ls s = omega arith
  all own (e ∷ es) [] s = absurd s
  all own (e ∷ es) (l ∷ ls) s = omega (arith, one own e.0 e.1 l s.0, all own es ls s.1)

  pub keeps_its_share : KeepsItsShare
  keeps_its_share k t s = omega (arith, all k.own k.links t.links s.links)

-- a call that is done leaves what is kept within its share
pub keeps_on : (part : Table → Table) (old new : TableView) → KeepsItsShare → TableGoes part old new → KeepsOn old new
keeps_on part old new law goes t s = law new (part t) (goes t s)

pub offer_keeps_on : {E : Type 0} (r : Result Offered E) (to : Callsign) (d : Datagram) (now : ℕ) (old new : TableView) → KeepsItsShare →
    IfOk r (λ answer. Made old (Offer to d now answer ∷ []) new) → OnOk r (KeepsOn old new)
offer_keeps_on (Ok answer) to d now old new law made = keeps_on (λ t. (offer to d now t).table) old new law (λ t s. (made t s).1)
offer_keeps_on (Err e) to d now old new law made = tt
