-- What members keep is bounded.
use Rattle.std.proofs.Common.{◌≡◌, ◌<◌, ◌≤◌, ◌-◌, ◌∙◌, ℕ, zero, suc, refl, sym, ap, List, [], ◌∷◌, ◌++◌, length, filter, take, arith, Bool, true, false, cond, not}
use Rattle.std.proofs.lemmas.Bool.Decides.{nat_tests}
use Rattle.std.proofs.lemmas.List.{length-drop, length-take}
use Rattle.std.specs.Prelude.{◌==◌, ◌&&◌, nat_lt, position, slice_get, slice_set, Option, Some, None}
use Rattle.std.specs.List.{AllByRecursion}
use Rattle.ax_address.specs.Callsign.{Callsign, same_call}
use Rattle.radio_base.specs.declared.moment.Moment.{Moment}
use Rattle.link_table.specs.declared.written.Written.{Written}
use Rattle.node_core.specs.Bridged as nodes
use Rattle.node_core.specs.Bridged.{Input}
use Rattle.node_core.specs.Configs.{hosting_node}
use Rattle.station_ports.specs.Hearing as listening
use Rattle.station_ports.specs.Holding as holding
use Rattle.station_ports.specs.Known.{remembered}
use Rattle.station_ports.specs.Peers as peers
use Rattle.std.specs.Map.{remove_entry}
use Rattle.station_members.specs.Beacons.{due_frames}
use Rattle.station_ports.specs.Lasts.{last}
use Rattle.station_ports.specs.declared.heading.Heading.{Heading}
use Rattle.station_ports.specs.declared.held_back.Held.{Held}
use Rattle.station_ports.specs.declared.port_frame.PortFrame.{PortFrame}
use Rattle.station_members.specs.declared.config.MemberConfig.{MemberConfig}
use Rattle.station_members.specs.declared.outgoing.Outgoing.{Outgoing}
use Rattle.station_members.specs.declared.routing.Parcel.{Parcel}
use Rattle.station_members.specs.declared.routing.Parcel.TheVariants.{Nothing, For, ForFellows}
use Rattle.station_members.specs.declared.seat.Seat.{Seat}
use Rattle.station_members.specs.Desks as desks
use Rattle.station_members.specs.Desks.{Desk, at_seat}
use Rattle.station_members.specs.Hearing as hearing
use Rattle.station_members.specs.Laws.{IsSmall, MembersAreSmall, PortIsSmall, SeatIsSmall}
use Rattle.station_members.specs.Places.{at_place}
use Rattle.station_members.specs.Ports.{Air, put, silent}
use Rattle.station_members.specs.Ports as airs
use Rattle.station_members.specs.Routing as routing
use Rattle.station_members.specs.Seats as seats
use Rattle.station_members.specs.States as states
use Rattle.station_members.specs.States.{Fellow, Own, Port, Source, State, at_desk, each_from, give, given, new_state}
use Rattle.station_members.specs.Waiting as waiting
use Rattle.station_members.proofs.Keeping.{Keeps, always}
use Rattle.station_members.proofs.Places.{place_length}

-- ---- lengths

last_few : {A : Type 0} (n : ℕ) (xs : List A) → length (last n xs) ≤ n
last_few n xs = let is = length-drop (length xs - n) xs in omega (arith, is)

one_longer : {A : Type 0} (xs : List A) (x : A) → length (xs ++ x ∷ []) ≡ suc (length xs)
one_longer [] x = refl
one_longer (y ∷ xs) x = ap suc (one_longer xs x)

filter_few : {A : Type 0} (p : A → Bool) (xs : List A) → length (filter p xs) ≤ length xs
filter_few p [] = omega arith
filter_few {A} p (x ∷ xs) = by (p x) (filter_few p xs)
  where
    by : (b : Bool) → length (filter p xs) ≤ length xs → length (cond b (x ∷ filter p xs) (filter p xs)) ≤ suc (length xs)
    by true h = omega (arith, h)
    by false h = omega (arith, h)

take_few : {A : Type 0} (n : ℕ) (xs : List A) → length (take n xs) ≤ n
take_few n xs = let is = length-take n xs in omega (arith, is)

-- ---- seats

remembered_few : (call : Callsign) (port : ℕ) (known : List (Callsign × ℕ)) → length (remembered call port known) ≤ 256
remembered_few call port known =
    let others : List (Callsign × ℕ) = last 255 (remove_entry (same_call call) known) in
    let entry : Callsign × ℕ = (call, port) in
    let few : length others ≤ 255 = last_few 255 (remove_entry (same_call call) known) in
    let more : length (others ++ entry ∷ []) ≡ suc (length others) = one_longer others entry in
    omega (arith, few, more)

peers_few : (peer : Callsign) (ps : List Callsign) → length (peers.with_peer peer ps) ≤ 64
peers_few peer ps =
    let others : List Callsign = last 63 (peers.without peer ps) in
    let few : length others ≤ 63 = last_few 63 (peers.without peer ps) in
    let more : length (others ++ peer ∷ []) ≡ suc (length others) = one_longer others peer in
    omega (arith, few, more)

with_port : (port : ℕ) (h : Heading) (seat : Seat) → SeatIsSmall seat → SeatIsSmall (hearing.with_port port h seat)
with_port port h seat a = record { known = remembered_few h.hop port seat.known; peers = a.peers; held = a.held }

remembers : (call : Callsign) (port : ℕ) (seat : Seat) → SeatIsSmall seat → SeatIsSmall (seats.remembers call port seat)
remembers call port seat a = record { known = remembered_few call port seat.known; peers = a.peers; held = a.held }

unnames : (peer : Callsign) (seat : Seat) → SeatIsSmall seat → SeatIsSmall (seats.unnames peer seat)
unnames peer seat a = record { known = a.known; peers = (let few = filter_few (λ one. not (same_call one peer)) seat.peers in let h = a.peers in omega (arith, few, h)); held = a.held }

ticks : (now : ℕ) (seat : Seat) → SeatIsSmall seat → SeatIsSmall (seats.ticked now seat)
ticks now seat a = record { known = a.known; peers = a.peers; held = a.held }

named_by : (b : Bool) (h : Heading) (seat : Seat) → SeatIsSmall seat → SeatIsSmall (hearing.named h b seat)
named_by true h seat a =
    record { known = a.known; peers = peers_few h.source seat.peers; held = a.held }
named_by false h seat a = a

abbrev pub unnamed_if : Bool → Heading → Seat → Seat
unnamed_if b h seat = cond b (seats.unnames h.source seat) seat

unnamed_by : (b : Bool) (h : Heading) (seat : Seat) → SeatIsSmall seat → SeatIsSmall (unnamed_if b h seat)
unnamed_by true h seat a = unnames h.source seat a
unnamed_by false h seat a = a

takes_by : (b c : Bool) (h : Heading) (up : Bool) (seat : Seat) → SeatIsSmall seat → SeatIsSmall (cond b seat (cond c (hearing.named h up seat) (hearing.unnamed h up seat)))
takes_by true c h up seat a = a
takes_by false true h up seat a = named_by up h seat a
takes_by false false h up seat a = unnamed_by _ h seat a

hears_by : (b : Bool) (port : ℕ) (h : Heading) (up : Bool) (seat : Seat) → SeatIsSmall seat → SeatIsSmall (cond b (hearing.takes h up (hearing.with_port port h seat)) seat)
hears_by true port h up seat a = takes_by _ _ h up (hearing.with_port port h seat) (with_port port h seat a)
hears_by false port h up seat a = a

lets_go : (now : Moment) (seat : Seat) → SeatIsSmall seat → SeatIsSmall (waiting.lets_go now seat)
lets_go now seat a = record { known = a.known; peers = a.peers; held = (let few = filter_few (λ h. not (holding.is_due seat.rules.t2 now h)) seat.held in let h = a.held in omega (arith, few, h)) }

falls_by : (b : Bool) (out : Outgoing) (port : ℕ) (seat : Seat) → SeatIsSmall seat
    → SeatIsSmall (cond b (let fewer : Seat = record seat { held = holding.without out.heading.dest port seat.held } in fewer) seat)
falls_by true out port seat a = record { known = a.known; peers = a.peers; held = (let few = filter_few (λ h. not (holding.is_for out.heading.dest port h)) seat.held in let h = a.held in omega (arith, few, h)) }
falls_by false out port seat a = a

set_few : {A : Type 0} (xs : List A) (at : ℕ) (x : A) → length (slice_set xs at x) ≡ length xs
set_few [] at x = refl
set_few (y ∷ xs) zero x = refl
set_few (y ∷ xs) (suc at) x = ap suc (set_few xs at x)

puts_few : (o : Option ℕ) (peer : Callsign) (frame : PortFrame) (now : Moment) (held : List Held) → length held < 512 → length (holding.put o peer frame now held) ≤ 512
puts_few None peer frame now held h = let more = one_longer held (record { peer = peer; frame = frame; since = now }) in omega (arith, more, h)
puts_few (Some at) peer frame now held h = let same = set_few held at (record { peer = peer; frame = frame; since = holding.since_at at now held }) in omega (arith, same, h)

both : (a b : Bool) → a && b ≡ true → (a ≡ true) × (b ≡ true)
both true b e = (refl, e)
both false b e = absurd (cc e)

holds_by : (b : Bool) (out : Outgoing) (port : ℕ) (now : Moment) (seat : Seat) → routing.holds_back out seat ≡ b → SeatIsSmall seat
    → SeatIsSmall (cond b (let more : Seat = record seat { held = holding.held_with out.heading.dest (routing.on_port out port) now seat.held } in more) (routing.lets_fall out port seat))
holds_by true out port now seat e a =
    let waits = not (seat.rules.t2 == 0) in
    let few = nat_lt (length seat.held) 512 in
    let one : (out.may_wait ≡ true) × (waits && few ≡ true) = both out.may_wait (waits && few) e in
    let two : (waits ≡ true) × (few ≡ true) = both waits few one.1 in
    let room : length seat.held < 512 = (let t = two.1 in grind (arith, nat_tests, t)) in
    record { known = a.known; peers = a.peers; held = puts_few (position (holding.is_for out.heading.dest port) seat.held) out.heading.dest (routing.on_port out port) now seat.held room }
holds_by false out port now seat e a = falls_by out.is_own out port seat a

-- ---- the desk

pub record DeskIsSmall (d : Desk) : Type 0 where
  pub seats : AllByRecursion SeatIsSmall d.seats
  pub ports : AllByRecursion PortIsSmall d.air.ports

all_at : {A : Type 0} (P : A → Type 0) (step : A → A) → ((x : A) → P x → P (step x)) → (at : ℕ) (xs : List A) → AllByRecursion P xs → AllByRecursion P (at_place at step xs)
all_at P step one at [] a = tt
all_at P step one zero (x ∷ xs) a = (one x a.0, a.1)
all_at P step one (suc at) (x ∷ xs) a = (a.0, all_at P step one at xs a.1)

at_one : (step : Seat → Seat) → ((seat : Seat) → SeatIsSmall seat → SeatIsSmall (step seat)) → (at : ℕ) (d : Desk) → DeskIsSmall d → DeskIsSmall (at_seat at step d)
at_one step one at d a = record { seats = all_at SeatIsSmall step one at d.seats a.seats; ports = a.ports }

pub record AirIsSmall (air : Air) : Type 0 where
  pub ports : AllByRecursion PortIsSmall air.ports

puts_air : (f : PortFrame) (air : Air) → AirIsSmall air → AirIsSmall (put f air)
puts_air f air a = record { ports = all_at PortIsSmall airs.counts (λ p h. h) f.port air.ports a.ports }

puts_each : (fs : List PortFrame) (air : Air) → AirIsSmall air → AirIsSmall (waiting.put_each fs air)
puts_each [] air a = a
puts_each (f ∷ fs) air a = puts_each fs (put f air) (puts_air f air a)

airs_by : (b : Bool) (f : PortFrame) (air : Air) → AirIsSmall air → AirIsSmall (cond b air (put f air))
airs_by true f air a = a
airs_by false f air a = puts_air f air a

put_by : (o : Option Seat) (from : ℕ) (out : Outgoing) (port : ℕ) (now : Moment) (d : Desk) → DeskIsSmall d → DeskIsSmall (routing.put_by o from out port now d)
put_by None from out port now d a = a
put_by (Some seat) from out port now d a = record {
  seats = all_at SeatIsSmall (routing.holds out port now) (λ s h. holds_by _ out port now s refl h) from d.seats a.seats;
  ports = (airs_by (routing.holds_back out seat) (routing.on_port out port) d.air (record { ports = a.ports })).ports;
}

put_each : (ps : List ℕ) (from : ℕ) (out : Outgoing) (now : Moment) (d : Desk) → DeskIsSmall d → DeskIsSmall (routing.put_on_each ps from out now d)
put_each [] from out now d a = a
put_each (p ∷ ps) from out now d a = put_each ps from out now (routing.put_on from out p now d) (put_by (slice_get d.seats from) from out p now d a)

put_port : (o : Option ℕ) (from : ℕ) (out : Outgoing) (now : Moment) (d : Desk) → DeskIsSmall d → DeskIsSmall (routing.put_by_port o from out now d)
put_port None from out now d a = put_each (routing.ports_of from d) from out now d a
put_port (Some port) from out now d a = put_by (slice_get d.seats from) from out port now d a

aired : (o : Option (List ℕ)) (from : ℕ) (out : Outgoing) (now : Moment) (d : Desk) → DeskIsSmall d → DeskIsSmall (routing.aired o from out now d)
aired None from out now d a = put_port (routing.known_port from out.heading.towards d) from out now d a
aired (Some octets) from out now d a = put_each (routing.ports_of from d) from out now d a

routed_by : (o : Option ℕ) (from : ℕ) (out : Outgoing) (now : Moment) (d : Desk) → DeskIsSmall d → DeskIsSmall (routing.routed_by o from out now d)
routed_by None from out now d a = aired (routing.told_at from out d) from out now d a
routed_by (Some to) from out now d a = a

routed_if : (o : Option Outgoing) (from : ℕ) (now : Moment) (d : Desk) → DeskIsSmall d → DeskIsSmall (routing.routed_if o from now d)
routed_if None from now d a = a
routed_if (Some out) from now d a = routed_by (routing.fellow_of from out.heading.towards d) from out now d a

held_by : (o : Option Seat) (at : ℕ) (now : Moment) (d : Desk) → DeskIsSmall d → DeskIsSmall (waiting.held_by o at now d)
held_by None at now d a = a
held_by (Some seat) at now d a = record {
  seats = all_at SeatIsSmall (waiting.lets_go now) (lets_go now) at d.seats a.seats;
  ports = (puts_each (waiting.due_of now seat) d.air (record { ports = a.ports })).ports;
}

-- how many seats there are stays
seats_put : (o : Option Seat) (from : ℕ) (out : Outgoing) (port : ℕ) (now : Moment) (d : Desk) → length (routing.put_by o from out port now d).seats ≡ length d.seats
seats_put None from out port now d = refl
seats_put (Some seat) from out port now d = place_length d.seats from (routing.holds out port now)

seats_each : (ps : List ℕ) (from : ℕ) (out : Outgoing) (now : Moment) (d : Desk) → length (routing.put_on_each ps from out now d).seats ≡ length d.seats
seats_each [] from out now d = refl
seats_each (p ∷ ps) from out now d = seats_each ps from out now (routing.put_on from out p now d) ∙ seats_put (slice_get d.seats from) from out p now d

seats_port : (o : Option ℕ) (from : ℕ) (out : Outgoing) (now : Moment) (d : Desk) → length (routing.put_by_port o from out now d).seats ≡ length d.seats
seats_port None from out now d = seats_each (routing.ports_of from d) from out now d
seats_port (Some port) from out now d = seats_put (slice_get d.seats from) from out port now d

seats_aired : (o : Option (List ℕ)) (from : ℕ) (out : Outgoing) (now : Moment) (d : Desk) → length (routing.aired o from out now d).seats ≡ length d.seats
seats_aired None from out now d = seats_port (routing.known_port from out.heading.towards d) from out now d
seats_aired (Some octets) from out now d = seats_each (routing.ports_of from d) from out now d

seats_by : (o : Option ℕ) (from : ℕ) (out : Outgoing) (now : Moment) (d : Desk) → length (routing.routed_by o from out now d).seats ≡ length d.seats
seats_by None from out now d = seats_aired (routing.told_at from out d) from out now d
seats_by (Some to) from out now d = refl

seats_if : (o : Option Outgoing) (from : ℕ) (now : Moment) (d : Desk) → length (routing.routed_if o from now d).seats ≡ length d.seats
seats_if None from now d = refl
seats_if (Some out) from now d = seats_by (routing.fellow_of from out.heading.towards d) from out now d

seats_held : (o : Option Seat) (at : ℕ) (now : Moment) (d : Desk) → length (waiting.held_by o at now d).seats ≡ length d.seats
seats_held None at now d = refl
seats_held (Some seat) at now d = place_length d.seats at (waiting.lets_go now)

-- ---- states

works : (step : Desk → Desk) (s : State) → (DeskIsSmall s.desk → DeskIsSmall (step s.desk)) → length (step s.desk).seats ≡ length s.desk.seats → IsSmall s
    → IsSmall (at_desk step s)
works step s small same a =
    let d = small (record { seats = a.seats; ports = a.ports }) in
    record { members = a.members; seats = d.seats; as_many = same ∙ a.as_many; ports = d.ports }

gives_by : (b : Bool) (to : ℕ) (from : Source) (i : Input) (s : State) → IsSmall s → IsSmall (cond b (given to from i s) s)
gives_by true to from i s a =
    let same = place_length s.nodes to (nodes.after i) in
    record { members = (let h = a.members in omega (arith, same, h)); seats = a.seats; as_many = a.as_many ∙ sym same; ports = a.ports }
gives_by false to from i s a = a

gives : (to : ℕ) (from : Source) (i : Input) (s : State) → IsSmall s → IsSmall (give to from i s)
unfolding states.give
gives to from i s a = gives_by (nat_lt to (length s.nodes)) to from i s a

delivers_by : (b : Bool) (from to : ℕ) (i : Input) (s : State) → IsSmall s → IsSmall (cond b s (give to (Fellow from) i s))
delivers_by true from to i s a = a
delivers_by false from to i s a = gives to (Fellow from) i s a

delivers_all : (now : Moment) (from : ℕ) (octets : List ℕ) (at left : ℕ) (s : State) → IsSmall s → IsSmall (each_from (states.deliver_to now from octets) at left s)
delivers_all now from octets at zero s a = a
delivers_all now from octets at (suc left) s a = delivers_all now from octets (suc at) left _ (delivers_by (at == from) from at (states.frame_in now octets) s a)

delivers : (now : Moment) (from : ℕ) (parcel : Parcel) (s : State) → IsSmall s → IsSmall (states.deliver now from parcel s)
delivers now from Nothing s a = a
delivers now from (For to octets) s a = gives to (Fellow from) (states.frame_in now octets) s a
delivers now from (ForFellows octets) s a = delivers_all now from octets 0 (length s.nodes) s a

sends : (now : Moment) (from : ℕ) (w : Written) (s : State) → IsSmall s → IsSmall (states.send_one now from w s)
unfolding states.send_one
sends now from w s a =
    let b = works (routing.routed from w now) s (routed_if (routing.outgoing_at from w s.desk) from now s.desk) (seats_if (routing.outgoing_at from w s.desk) from now s.desk) a in
    delivers now from _ _ (record { members = b.members; seats = b.seats; as_many = b.as_many; ports = b.ports })

all_last : {A : Type 0} (P : A → Type 0) (xs : List A) (x : A) → AllByRecursion P xs → P x → AllByRecursion P (xs ++ x ∷ [])
all_last P [] x a one = (one, tt)
all_last P (y ∷ xs) x a one = (a.0, all_last P xs x a.1 one)

makes : (c : MemberConfig) (s : State) → nat_lt (length s.nodes) 8 ≡ true → IsSmall s → IsSmall (states.made c s)
makes c s room a =
    let more = one_longer s.nodes (hosting_node c.node) in
    let few : length s.nodes < 8 = grind (arith, nat_tests, room) in
    record {
      members = omega (arith, more, few);
      seats = all_last SeatIsSmall s.desk.seats (seats.new_seat c.node c.rules) a.seats (record { known = omega arith; peers = omega arith; held = omega arith });
      as_many = one_longer s.desk.seats (seats.new_seat c.node c.rules) ∙ (ap suc a.as_many ∙ sym more);
      ports = a.ports;
    }

notes : (port : ℕ) (hop : Callsign) (now : Moment) (d : Desk) → DeskIsSmall d → DeskIsSmall (desks.noted_at port hop now d)
notes port hop now d a =
    record { seats = a.seats; ports = all_at PortIsSmall (airs.hears hop now) (λ p h. (let few = take_few 31 (listening.without hop p.heard) in omega (arith, few))) port d.air.ports a.ports }

kept : Keeps IsSmall
kept = record {
  own = λ to i s a. gives to Own i s a;
  port = λ to port i s a. gives to (Port port) i s a;
  notes = λ port hop now s a. works (desks.noted_at port hop now) s (notes port hop now s.desk) refl a;
  hears = λ at port h up s a. works (desks.hears_at at port h up) s (at_one (hearing.hears port h up) (λ seat b. hears_by _ port h up seat b) at s.desk) (place_length s.desk.seats at (hearing.hears port h up)) a;
  ticks = λ at now s a. works (desks.ticked_at at now) s (at_one (seats.ticked now) (ticks now) at s.desk) (place_length s.desk.seats at (seats.ticked now)) a;
  beacons = λ now s a. works (waiting.beacons_sent now) s (λ d. record { seats = d.seats; ports = (puts_each (due_frames now s.desk.beacons) s.desk.air (record { ports = d.ports })).ports }) refl a;
  held = λ at now s a. works (waiting.held_sent at now) s (held_by (slice_get s.desk.seats at) at now s.desk) (seats_held (slice_get s.desk.seats at) at now s.desk) a;
  sends = sends;
  unnames = λ at peer s a. works (desks.unnamed_at at peer) s (at_one (seats.unnames peer) (unnames peer) at s.desk) (place_length s.desk.seats at (seats.unnames peer)) a;
  remembers = λ at call port s a. works (desks.remembers_at at call port) s (at_one (seats.remembers call port) (remembers call port) at s.desk) (place_length s.desk.seats at (seats.remembers call port)) a;
  beacon = λ c s a. works (desks.with_beacon c) s (λ d. record { seats = d.seats; ports = d.ports }) refl a;
  fetches = λ s a. works (desks.at_air airs.fetched) s (λ d. record { seats = d.seats; ports = d.ports }) refl a;
  makes = makes;
}

silent_small : (n : ℕ) → AllByRecursion PortIsSmall (silent n)
silent_small zero = tt
silent_small (suc n) = (omega arith, silent_small n)

pub members_are_small : MembersAreSmall
members_are_small = always kept (λ ports deny. record { members = omega arith; seats = tt; as_many = refl; ports = silent_small ports })
