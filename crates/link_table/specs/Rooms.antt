-- Room at a link: what a datagram leaves of it, and which texts it takes. Own profile.
use Rattle.std.specs.Prelude.{ℕ, ◌≡◌, ◌≤◌, ◌+◌, false, List, length, Ok}
use Rattle.ax_address.specs.Callsign.{Callsign, same_call}
use Rattle.l3_datagram.specs.Datagrams.{Datagram}
use Rattle.link_table.specs.Calls.{offer}
use Rattle.link_table.specs.Texts.{payloads_of, text_answer, room}
use Rattle.link_table.specs.Table.{Table, link_with}

-- a datagram that is offered takes the place of one payload at most at the link with the peer to which it goes, and leaves the
-- links with others as they are
pub record OffersTakeOne : Type 0 where
  pub one : (peer to : Callsign) (d : Datagram) (now : ℕ) (t : Table) → room peer t ≤ room peer (offer to d now t).table + 1
  pub others : (peer to : Callsign) (d : Datagram) (now : ℕ) (t : Table) → same_call peer to ≡ false →
      link_with peer (offer to d now t).table.links ≡ link_with peer t.links

-- a text of at most 8,192 bytes is at most 33 payloads, over a link of either modulus
abbrev pub TextsAreFew : Type 0
TextsAreFew = (size : ℕ) (text : List ℕ) → length text ≤ 8192 → length (payloads_of size text) ≤ 33

-- so each link with room for 33 takes it
abbrev pub RoomTakesTexts : Type 0
RoomTakesTexts = (peer : Callsign) (text : List ℕ) (t : Table) → length text ≤ 8192 → 33 ≤ room peer t → text_answer peer text t ≡ Ok tt
