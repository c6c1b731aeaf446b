-- What the members of a station are made with, and what they are given, where its moves may be.
use Rattle.std.proofs.Common.{◌≡◌, refl, ℕ, zero, suc, List, [], ◌∷◌, length, replicate, Bool, true, false, cond}
use Rattle.std.specs.Prelude.{not, ◌&&◌, slice_get, Option, Some, None, Result, Ok, Err, ◌==◌, nat_lt}
use Rattle.std.specs.List.{AllByRecursion}
use Rattle.radio_base.proofs.Each.{each_push}
use Rattle.radio_base.specs.declared.moment.Moment.{Moment}
use Rattle.ax_address.specs.Callsign.{Callsign, same_call}
use Rattle.ax_address.specs.declared.alias.Alias.{Alias}
use Rattle.link_table.specs.declared.written.Written.{Written}
use Rattle.node_core.specs.Acts.{Lock, Round}
use Rattle.node_core.specs.Bridged as nodes
use Rattle.node_core.specs.Bridged.{AsksForCall, Input}
use Rattle.node_core.specs.declared.quality_refusal.QualityRefusal.{QualityRefusal}
use Rattle.node_model.specs.States.{Entry}
use Rattle.station_ports.specs.declared.heading.Heading.{Heading}
use Rattle.station_ports.specs.Headings.{heading_at}
use Rattle.station_ports.specs.Peers.{is_peer}
use Rattle.station_ports.specs.Readdressed.{with_call_at}
use Rattle.station_members.specs.declared.config.MemberConfig.{MemberConfig}
use Rattle.station_members.specs.Desks as desks
use Rattle.station_members.specs.Desks.{Desk}
use Rattle.station_members.specs.Hearing.{is_set_up, named, with_port}
use Rattle.station_members.specs.Laws as moves
use Rattle.station_members.specs.Laws.{Move, after, after_all}
use Rattle.station_members.specs.Nodes.{fetches, first_telling}
use Rattle.station_members.specs.Ports.{fetched}
use Rattle.station_members.specs.Routing as routing
use Rattle.station_members.specs.Seats.{is_byname, is_on}
use Rattle.station_members.specs.States as states
use Rattle.station_members.specs.States.{Fellow, Given, Own, Port, Source, State, at_desk, each_from, give, give_all, given}
use Rattle.station_members.specs.Waiting.{beacons_sent, held_sent}
use Rattle.station_laws.specs.Happenings.{IsMade, IsMove, Station, state_of}

-- each member has a call and such settings, and what was given to members asks for calls
pub record Asks (s : State) : Type 0 where
  pub made : AllByRecursion IsMade s.made
  pub given : AllByRecursion (λ (g : Given). AsksForCall g.input) s.given

either : {G : Type 0} (b : Bool) → (b ≡ true → G) → (b ≡ false → G) → G
either true f g = f refl
either false f g = g refl

by_option : {X : Type 0} (P : Option X → Type 0) (o : Option X) → P None → ((x : X) → P (Some x)) → P o
by_option P None p f = p
by_option P (Some x) p f = f x

works : (step : Desk → Desk) (s : State) → Asks s → Asks (at_desk step s)
works step s a = record { made = a.made; given = a.given }

-- ---- a node is given an input

give_by : (b : Bool) (to : ℕ) (from : Source) (i : Input) (s : State) → AsksForCall i → Asks s → Asks (cond b (given to from i s) s)
give_by true to from i s asks a = record {
  made = a.made;
  given = each_push (λ (g : Given). AsksForCall g.input) s.given (record { to = to; from = from; input = i }) a.given asks;
}
give_by false to from i s asks a = a

gives : (to : ℕ) (from : Source) (i : Input) (s : State) → AsksForCall i → Asks s → Asks (give to from i s)
unfolding states.give
gives to from i s asks a = give_by (nat_lt to (length s.nodes)) to from i s asks a

each : (step : ℕ → State → State) → ((at : ℕ) (s : State) → Asks s → Asks (step at s)) → (at left : ℕ) (s : State) → Asks s → Asks (each_from step at left s)
each step one at zero s a = a
each step one at (suc left) s a = each step one (suc at) left (step at s) (one at s a)

-- ---- frames

-- where the member at a place stands on the port, and takes it in as it came, or as one to its call
takes : (at port : ℕ) (h : Heading) (up : Bool) (d : Desk) (octets : List ℕ) (now : Moment) (s : State) → Asks s
    → Asks (states.take_in at port (desks.intake_at at port h up d) octets now s)
takes at port h up d octets now s a =
    by_option (λ o. Asks (states.take_in at port (desks.intake_of port h up o) octets now s)) (slice_get d.seats at) a
    (λ seat.
    let as_it_came = gives at (Port port) (states.frame_in now octets) s tt a in
    let to_call = gives at (Port port) (states.frame_in now (with_call_at 0 seat.call octets)) s tt a in
    either (is_on port seat)
    (λ on.
    either h.has_come
    (λ come.
    either (is_byname h.dest (with_port port h seat))
    (λ byname. either (is_peer h.source (named h up (with_port port h seat)).peers) (λ peer. rw (on, come, byname, peer) to_call) (λ peer. rw (on, come, byname, peer) a))
    (λ byname. rw (on, come, byname) as_it_came))
    (λ come. either (same_call h.towards seat.call && not seat.rules.digipeat) (λ its. rw (on, come, its) a) (λ its. rw (on, come, its) as_it_came)))
    (λ on. rw on a))

hears_at : (port : ℕ) (h : Heading) (octets : List ℕ) (now : Moment) (at : ℕ) (s : State) → Asks s → Asks (states.hear_at port h octets now at s)
unfolding states.hear_at
hears_at port h octets now at s a =
    takes at port h (is_set_up octets) s.desk octets now (at_desk (desks.hears_at at port h (is_set_up octets)) s)
    (works (desks.hears_at at port h (is_set_up octets)) s a)

hears_all : (b : Bool) (port : ℕ) (h : Heading) (octets : List ℕ) (now : Moment) (s : State) → Asks s → Asks (cond b (states.hear_all port h octets now s) s)
hears_all true port h octets now s a = each (states.hear_at port h octets now) (hears_at port h octets now) 0 (length s.nodes) s a
hears_all false port h octets now s a = a

hears_if : (o : Option Heading) (port : ℕ) (octets : List ℕ) (now : Moment) (s : State) → Asks s → Asks (states.hear_if o port octets now s)
hears_if None port octets now s a = a
hears_if (Some h) port octets now s a = hears_all _ port h octets now _ (works (desks.noted_at port h.hop now) s a)

hear_by : (b : Bool) (port : ℕ) (octets : List ℕ) (now : Moment) (s : State) → Asks s → Asks (cond b (states.hear_if (heading_at octets) port octets now s) s)
hear_by true port octets now s a = hears_if (heading_at octets) port octets now s a
hear_by false port octets now s a = a

delivers_by : (b : Bool) (from to : ℕ) (i : Input) (s : State) → AsksForCall i → Asks s → Asks (cond b s (give to (Fellow from) i s))
delivers_by true from to i s asks a = a
delivers_by false from to i s asks a = gives to (Fellow from) i s asks a

delivers_all : (now : Moment) (from : ℕ) (octets : List ℕ) (s : State) → Asks s → Asks (states.deliver_all now from octets s)
delivers_all now from octets s a =
    each (states.deliver_to now from octets) (λ at u b. delivers_by (at == from) from at (states.frame_in now octets) u tt b) 0 (length s.nodes) s a

-- what passes of a frame in the backplane comes to its fellow, or to all
delivers : (now : Moment) (from : ℕ) (w : Written) (d : Desk) (s : State) → Asks s → Asks (states.deliver now from (routing.parcel_of from w d) s)
delivers now from w d s a =
    by_option (λ o. Asks (states.deliver now from (routing.parcel_if o from d) s)) _ a
    (λ out.
    by_option (λ o. Asks (states.deliver now from (routing.parcel_by o from out d) s)) _
    (by_option (λ o. Asks (states.deliver now from (routing.parcel_told o) s)) _ a (λ octets. delivers_all now from octets s a))
    (λ to. gives to (Fellow from) (states.frame_in now out.octets) s tt a))

sends : (now : Moment) (from : ℕ) (w : Written) (s : State) → Asks s → Asks (states.send_one now from w s)
unfolding states.send_one
sends now from w s a = delivers now from w s.desk _ (record { made = a.made; given = a.given })

sends_each : (now : Moment) (from : ℕ) (ws : List Written) (s : State) → Asks s → Asks (states.send_each now from ws s)
sends_each now from [] s a = a
sends_each now from (w ∷ ws) s a = sends_each now from ws _ (sends now from w s a)

gives_all : (to : ℕ) (is : List Input) (s : State) → AllByRecursion AsksForCall is → Asks s → Asks (give_all to Own is s)
gives_all to [] s asks a = a
gives_all to (i ∷ is) s asks a = gives_all to is _ asks.1 (gives to Own i s asks.0 a)

fetches_ask : (ws : List Written) → AllByRecursion AsksForCall (fetches ws)
fetches_ask ws = (tt, more (length ws))
  where
    more : (n : ℕ) → AllByRecursion AsksForCall (replicate n nodes.Fetches_frame)
    more zero = tt
    more (suc n) = (tt, more n)

waits : (now : Moment) (at : ℕ) (s : State) → Asks s → Asks (states.send_waiting now at s)
unfolding states.send_waiting
waits now at s a = sends_each now at (states.frames_at at s) _ (gives_all at (fetches (states.frames_at at s)) s (fetches_ask (states.frames_at at s)) a)

-- ---- time

rounds : (b : Bool) (now : Moment) (at : ℕ) (s : State) → Asks s → Asks (states.round_if b now at s)
rounds true now at s a = gives at Own (nodes.Acts now.0 Round) s tt a
rounds false now at s a = a

ticks_at : (now : Moment) (at : ℕ) (s : State) → Asks s → Asks (states.tick_at now at s)
unfolding states.tick_at
ticks_at now at s a = rounds _ now at _ (works (desks.ticked_at at now.0) _ (gives at Own (nodes.Ticks now.0) s tt a))

-- ---- entries

ends_by : (b : Bool) (step : Desk → Desk) (s : State) → Asks s → Asks (cond b s (at_desk step s))
ends_by true step s a = a
ends_by false step s a = works step s a

ends : (o : Option Callsign) (at : ℕ) (s : State) → Asks s → Asks (states.note_ended o at s)
ends None at s a = a
ends (Some peer) at s a = ends_by _ (desks.unnamed_at at peer) s a

notes : (o : Option Entry) (at : ℕ) (s : State) → Asks s → Asks (states.note_if o at s)
notes None at s a = a
notes (Some entry) at s a = ends (states.ended_peer entry) at s a

tells : (o : Option ℕ) (s : State) → Asks s → Asks (states.fetch_told_if o s)
tells None s a = a
tells (Some at) s a = notes (states.entry_at at s) at _ (gives at Own nodes.Fetches_entry s tt a)

-- ---- one member more

qualities : (r : Result (Unit {0}) QualityRefusal) (at : ℕ) (call : Callsign) (s : State) → Asks s → Asks (states.quality_if r at call s)
qualities (Ok _) at call s a = gives at Own (nodes.Qualities call 255) s tt a
qualities (Err why) at call s a = a

meets_one : (call : Callsign) (alias : Alias) (at : ℕ) (s : State) → Asks s → Asks (states.meet call alias at s)
unfolding states.meet
meets_one call alias at s a = gives at Own (nodes.Acts 0 (Lock call alias call 255)) _ tt (qualities (states.quality_answer at call s) at call s a)

meets_at : (fellow at : ℕ) (s : State) → Asks s → Asks (states.meet_at fellow at s)
meets_at fellow at s a = by_option (λ o. Asks (states.meet_by o at s)) _ a (λ seat. meets_one seat.call seat.alias at s a)

adds : (b : Bool) (c : MemberConfig) (s : State) → IsMade c.node → Asks s → Asks (cond b (states.meet_all (length s.nodes) (states.made c s)) s)
adds true c s m a =
    each (states.meet_both (length s.nodes)) (λ at u b. meets_at at (length s.nodes) _ (meets_at (length s.nodes) at u b)) 0 (length s.nodes) (states.made c s)
    (record { made = each_push IsMade s.made c.node a.made m; given = a.given })
adds false c s m a = a

-- ---- each move

one : (m : Move) (s : State) → IsMove m → Asks s → Asks (after m s)
one (moves.Adds c) s i a = adds _ c s i a
one (moves.Adds_beacon c) s i a = works (desks.with_beacon c) s a
one (moves.Sets_path at peer path) s i a = gives at Own (nodes.Paths peer path) s tt a
one (moves.Sets_quality at neighbour quality) s i a = gives at Own (nodes.Qualities neighbour quality) s tt a
one (moves.Remembers at call port) s i a = works (desks.remembers_at at call port) s a
one (moves.Hears port octets now) s i a = hear_by _ port octets now s a
one (moves.Ticks now) s i a =
    let v : State = each_from (states.tick_at now) 0 (length s.nodes) s in
    each (states.held_at now) (λ at u b. works (held_sent at now) u b) 0 (length v.nodes) _
    (works (beacons_sent now.0) v (each (states.tick_at now) (ticks_at now) 0 (length s.nodes) s a))
one (moves.Rounds now) s i a = each (states.round_at now) (λ at u b. gives at Own (nodes.Acts now.0 Round) u tt b) 0 (length s.nodes) s a
one (moves.Acts now at act) s i a = gives at Own (nodes.Acts now.0 act) s i a
one (moves.Settles now) s i a = each (states.send_waiting now) (waits now) 0 (length s.nodes) s a
one moves.Fetches_entry s i a = tells (first_telling s.nodes) s a
one moves.Fetches_frame s i a = works (desks.at_air fetched) s a

all_moves : (ms : List Move) (s : State) → AllByRecursion IsMove ms → Asks s → Asks (after_all ms s)
all_moves [] s are a = a
all_moves (m ∷ ms) s are a = all_moves ms (after m s) are.1 (one m s are.0 a)

pub station_asks : (s : Station) → AllByRecursion IsMove s.moves → Asks (state_of s)
station_asks s are = all_moves s.moves (states.new_state s.ports s.deny) are (record { made = tt; given = tt })
