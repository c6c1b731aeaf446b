-- What holds of every table of links.
use Rattle.std.specs.Prelude.{ℕ, ◌≡◌, ◌≤◌, ◌==◌, ◌||◌, ◌⊎◌, not, nat_le, Bool, true, false, List, ◌++◌, length, None, Some, Ok}
use Rattle.std.specs.List.{AllByRecursion, concat}
use Rattle.arrayvec.specs.ArrayVec.{ArrayVec}
use Rattle.radio_base.specs.declared.payload.Payload.{Payload}
use Rattle.ax_address.specs.Callsign.{Callsign}
use Rattle.ax_address.specs.declared.address.Address.{Address}
use Rattle.ax_frame.specs.Frames.{Frame as AirFrame}
use Rattle.ax_link.specs.Kinds.{payload_of}
use Rattle.ax_link.specs.Bounds.{Bounded, stock, Has, HavePayloads}
use Rattle.l3_datagram.specs.Datagrams.{Datagram, Parcel}
use Rattle.l3_datagram.specs.declared.carrier.Offered.TheVariants.{Taken}
use Rattle.link_table.specs.Calls.{arrive, break_link, close, collect, fetch, tell_lost, most_links, notice, offer, open_link, pack, set_up_size, source, tick}
use Rattle.link_table.specs.Frames.{Sent, is_numbered, netrom}
use Rattle.link_table.specs.Table.{Linked, Table, link_with}
use Rattle.link_table.specs.Texts.{answer_of, cut, payloads_of, send_text, send_text_of, take_text}
use Rattle.link_table.specs.Works.{Work, first_to_take, most_taken, settle}

-- Three properties are any. The first two are of pairs of call and payload: the one is asked of what is offered, by the peer
-- to which, the other of what comes, by the neighbour from which. The third is of moduli.
module _ (offered came : Callsign → Payload → Bool) (sizes : ℕ → Bool) where
  -- a modulus with the third property
  abbrev pub IsOne : ℕ → Type 0
  IsOne size = sizes size ≡ true

  -- a payload for a peer: it isn't NET/ROM's, or it has the first property
  abbrev pub goes_to : Callsign → Payload → Bool
  goes_to peer p = not (p.pid == netrom) || offered peer p

  -- a link is within its bounds; what is accepted for its peer has the first property, what came from it the second
  pub record LinkHolds (l : Linked) : Type 0 where
    pub bounds : Bounded (stock l.link)
    pub payloads : HavePayloads (goes_to l.peer) (came l.peer) (stock l.link)
    pub size : IsOne l.link.rules.size

  abbrev pub ParcelCame : Parcel → Type 0
  ParcelCame p = Has (came p.0) (pack p.1)

  -- a frame with the PID of NET/ROM carries what was offered to the peer to which it goes; one with numbers is of such a modulus
  pub record FrameHolds (s : Sent) : Type 0 where
    pub payload : (p : Payload) → s.frame.pid ≡ Some p.pid → s.frame.info ≡ p.info.items → Has (goes_to s.frame.head.dest.call) p
    pub size : is_numbered s.frame.control ≡ true → IsOne s.size

  -- the table: its links, the datagrams that wait, and the frames that wait to be fetched
  pub record Carries (t : Table) : Type 0 where
    pub modulus : (t.size ≡ 8) ⊎ (t.size ≡ 128)
    pub size : IsOne t.size
    pub links : AllByRecursion LinkHolds t.links
    pub waiting : AllByRecursion ParcelCame t.pending.waiting
    pub frames : AllByRecursion FrameHolds t.pending.frames

  -- what a frame brings has the second property, and the modulus for which it sets a link up the third
  pub record Brings (f : AirFrame) : Type 0 where
    pub payload : (p : Payload) → payload_of f.pid f.info ≡ Some p → Has (came (source f)) p
    pub size : (n : ℕ) → set_up_size f.control ≡ Some n → IsOne n

  -- each call keeps it: only what a frame brings ever waits, and only what was offered to a peer is sent to it as NET/ROM's
  pub record CarriesOn : Type 0 where
    pub arrives : (t : Table) (f : AirFrame) (now : ℕ) → Brings f → Carries t → Carries (arrive f now t)
    pub ticks : (t : Table) (now : ℕ) → Carries t → Carries (tick now t)
    pub opens : (t : Table) (peer : Callsign) (path : ArrayVec Address) (now : ℕ) → Carries t → Carries (open_link peer path now t)
    pub closes : (t : Table) (peer : Callsign) (now : ℕ) → Carries t → Carries (close peer now t)
    pub breaks : (t : Table) (peer : Callsign) → Carries t → Carries (break_link peer t)
    pub takes : (t : Table) (peer : Callsign) (now : ℕ) → Carries t → Carries (take_text peer now t)
    pub sends : (t : Table) (peer : Callsign) (text : List ℕ) (now : ℕ) → Carries t → Carries (send_text peer text now t)
    pub offers : (t : Table) (to : Callsign) (d : Datagram) (now : ℕ) → Has (offered to) (pack d) → Carries t → Carries (offer to d now t).table
    pub collects : (t : Table) → Carries t → Carries (collect t)
    pub tells_lost : (t : Table) → Carries t → Carries (tell_lost t)
    pub notices : (t : Table) → Carries t → Carries (notice t)
    pub fetches : (t : Table) → Carries t → Carries (fetch t)

  -- a frame with sequence numbers brings nothing where no link stands with its source: then nothing is asked of it
  abbrev pub NumbersWantALink : Type 0
  NumbersWantALink =
      (t : Table) (f : AirFrame) (now : ℕ) → is_numbered f.control ≡ true → link_with (source f) t.links ≡ None → Carries t → Carries (arrive f now t)

abbrev pub CarriesWhatWasOffered : Type 0
CarriesWhatWasOffered = (offered came : Callsign → Payload → Bool) (sizes : ℕ → Bool) → CarriesOn offered came sizes

abbrev pub NumberedWithoutLink : Type 0
NumberedWithoutLink = (offered came : Callsign → Payload → Bool) (sizes : ℕ → Bool) → NumbersWantALink offered came sizes

-- what has the one property has the other
abbrev pub Implies : (one other : Callsign → Payload → Bool) → Type 0
Implies one other = (call : Callsign) (p : Payload) → Has (one call) p → Has (other call) p

-- what is so of a table by two properties is so by any that follow from them
abbrev pub CarriesByWeaker : Type 0
CarriesByWeaker =
    (offered offered2 came came2 : Callsign → Payload → Bool) (sizes : ℕ → Bool) (t : Table) → Implies offered offered2 → Implies came came2 →
    Carries offered came sizes t → Carries offered2 came2 sizes t

-- of a link within its bounds nothing is left in the inbox, or a text stands first, once payload by payload was taken
abbrev pub SettledAll : Type 0
SettledAll =
    (own : Callsign) (now : ℕ) (w : Work) → Bounded (stock w.linked.link) → w.linked.link.rules.size ≤ 128 →
    first_to_take (settle most_taken own now w) ≡ None

-- a datagram for a new link is taken, where fewer than 64 stand
abbrev pub NewLinkTakes : Type 0
NewLinkTakes =
    (to : Callsign) (d : Datagram) (now : ℕ) (t : Table) → link_with to t.links ≡ None → nat_le most_links (length t.links) ≡ false →
    (offer to d now t).answer ≡ Taken

-- Only a frame that comes and a text that is taken add to what waits, and only pairs with the frame's source or the text's
-- peer. No other call but `collect` changes it.
pub record OnlyFramesBring : Type 0 where
  pub arrives : (t : Table) (f : AirFrame) (now : ℕ) →
      (added : List Parcel) × ((arrive f now t).pending.waiting ≡ t.pending.waiting ++ added) × AllByRecursion (λ p. p.0 ≡ source f) added
  pub takes : (t : Table) (peer : Callsign) (now : ℕ) →
      (added : List Parcel) × ((take_text peer now t).pending.waiting ≡ t.pending.waiting ++ added) × AllByRecursion (λ p. p.0 ≡ peer) added
  pub ticks : (t : Table) (now : ℕ) → (tick now t).pending.waiting ≡ t.pending.waiting
  pub opens : (t : Table) (peer : Callsign) (path : ArrayVec Address) (now : ℕ) →
      (open_link peer path now t).pending.waiting ≡ t.pending.waiting
  pub closes : (t : Table) (peer : Callsign) (now : ℕ) → (close peer now t).pending.waiting ≡ t.pending.waiting
  pub breaks : (t : Table) (peer : Callsign) → (break_link peer t).pending.waiting ≡ t.pending.waiting
  pub sends : (t : Table) (peer : Callsign) (text : List ℕ) (now : ℕ) → (send_text peer text now t).pending.waiting ≡ t.pending.waiting
  pub offers : (t : Table) (to : Callsign) (d : Datagram) (now : ℕ) → (offer to d now t).table.pending.waiting ≡ t.pending.waiting

-- a text that isn't refused is given to the link whole: payload by payload, in order, behind what the link was given before
abbrev pub TextsAreGiven : Type 0
TextsAreGiven =
    (own : Callsign) (text : List ℕ) (now : ℕ) (w : Work) → answer_of text w.linked.link ≡ Ok tt →
    (send_text_of own text now w).linked.link.given ≡ w.linked.link.given ++ payloads_of w.linked.link.rules.size text

-- the pieces of a text are the text, cut
abbrev pub PiecesAreTheText : Type 0
PiecesAreTheText = (text : List ℕ) → concat (cut text) ≡ text
