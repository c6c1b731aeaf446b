-- A carrier in memory.
use Rattle.std.specs.Prelude.{◌≡◌, List, [], ◌∷◌, ◌++◌, length, drop, slice_get, nat_lt, if◌then◌else◌}
use Rattle.ax_address.specs.Callsign.{Callsign}
use Rattle.l3_datagram.specs.declared.carrier.Offered.{Offered}
use Rattle.l3_datagram.specs.declared.carrier.Offered.TheVariants.{Taken, Dropped}
use Rattle.l3_datagram.specs.Datagrams.{CarrierCall, Datagram, Parcel, Offer, Collect, Fail}

-- what waits to be collected, and what was offered and not yet fetched
pub record Plain : Type 0 where
  pub waiting : List Parcel
  pub offered : List Parcel

-- it loses no neighbour
abbrev pub lost_of : Plain → List Callsign
lost_of c = []

-- after a datagram came from a neighbour
abbrev pub brought : Plain → Callsign → Datagram → Plain
brought c from datagram = record { waiting = c.waiting ++ (from, datagram) ∷ []; offered = c.offered }

-- after the first datagram that was offered was fetched
abbrev pub fetched : Plain → Plain
fetched c = record { waiting = c.waiting; offered = drop 1 c.offered }

-- It takes a datagram where fewer than 1,024 wait to be fetched (this project's profile).
abbrev pub offer_answer : Plain → Offered
offer_answer c = if nat_lt (length c.offered) 1024 then Taken else Dropped

abbrev pub after_offer : Plain → Parcel → Offered → Plain
after_offer c parcel Taken = record { waiting = c.waiting; offered = c.offered ++ parcel ∷ [] }
after_offer c parcel Dropped = c

-- the call has this answer
abbrev pub Answers : Plain → CarrierCall → Type 0
Answers c (Offer to datagram now answer) = answer ≡ offer_answer c
Answers c (Collect answer) = answer ≡ slice_get c.waiting 0
Answers c (Fail answer) = answer ≡ slice_get (lost_of c) 0

-- after the call
abbrev pub after_call : Plain → CarrierCall → Plain
after_call c (Offer to datagram now answer) = after_offer c (to, datagram) answer
after_call c (Collect answer) = record { waiting = drop 1 c.waiting; offered = c.offered }
after_call c (Fail answer) = c

-- these calls have their answers, one after another, and lead from the one carrier to the other
abbrev pub Made : Plain → List CarrierCall → Plain → Type 0
Made old [] new = old ≡ new
Made old (call ∷ calls) new = Answers old call × Made (after_call old call) calls new
