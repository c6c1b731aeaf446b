-- What holds of a node's circuits and sessions, and is kept as each thing is told and heard, is kept as the circuits are pumped.
use Rattle.std.proofs.Common.{◌≡◌, ℕ, zero, suc, List, [], ◌∷◌, ◌++◌}
use Rattle.std.specs.Prelude.{Bool, true, false, if◌then◌else◌, nat_lt, Option, Some, None, Result, Ok, Err}
use Rattle.ax_address.specs.Callsign.{Callsign}
use Rattle.circuit_table.specs.Pumps.{OfEach, Of, Offers, Says, Turn, Turned, Waiting}
use Rattle.circuit_table.specs.Pumps as pumps
use Rattle.circuit_table.specs.Sets as sets
use Rattle.circuit_table.specs.Sets.{SetState, CircuitTold, set_step}
use Rattle.l3_datagram.specs.Datagrams.{Datagram, Parcel, head_at}
use Rattle.l3_datagram.specs.Routers.{Way, Ends, ToNeighbour, forwarded_by, way}
use Rattle.l3_datagram.specs.declared.carrier.Offered.{Offered}
use Rattle.l3_datagram.specs.declared.carrier.Offered.TheVariants.{Taken, Dropped as No_room}
use Rattle.l3_datagram.specs.declared.datagram.DatagramHead.{DatagramHead}
use Rattle.l3_datagram.specs.declared.datagram.DatagramRefusal.{DatagramRefusal}
use Rattle.l3_datagram.specs.declared.routed.Routed.{Routed}
use Rattle.l3_datagram.specs.declared.routed.Routed.TheVariants as routed
use Rattle.link_table.specs.Calls.{collect, tell_lost}
use Rattle.link_table.specs.Table.{Table}
use Rattle.node_model.specs.Links as links
use Rattle.node_model.specs.Pumping as p
use Rattle.node_model.specs.Sessions.{Session, hear_circuits, hear_if}
use Rattle.node_model.specs.States.{State, at_links, next_hop}
use Rattle.node_model.proofs.Telling.{told_kept}

module _ (R : SetState → List CircuitTold → List Session → Type 0)
    (tell : (prompt : Bool) (set : SetState) (t : CircuitTold) (ts : List CircuitTold) (ss : List Session) → R set (t ∷ ts) ss → R set ts (hear_circuits prompt (Of t) ss)) where
  -- it holds once a turn's telling was heard
  abbrev On : Bool → List Session → Turned → Type 0
  On prompt ss u = R u.after.set u.after.untold (hear_if prompt u.told ss)

  to_on : (prompt : Bool) (hop : Callsign → Option Callsign) (set : SetState) (t : CircuitTold) (d : List ℕ) (ts : List CircuitTold) (ss : List Session) (o : Option Callsign)
      → R set ts (hear_circuits prompt (Of t) ss) → OfEach (On prompt ss) (pumps.sent_to hop set t d ts o)
  to_on prompt hop set t d ts ss None r = r
  to_on prompt hop set t d ts ss (Some next) r = λ answer. r

  head_on : (prompt : Bool) (hop : Callsign → Option Callsign) (set : SetState) (t : CircuitTold) (d : List ℕ) (ts : List CircuitTold) (ss : List Session) (h : Result DatagramHead DatagramRefusal)
      → R set ts (hear_circuits prompt (Of t) ss) → OfEach (On prompt ss) (pumps.sent_by_head hop set t d ts h)
  head_on prompt hop set t d ts ss (Err e) r = to_on prompt hop set t d ts ss None r
  head_on prompt hop set t d ts ss (Ok head) r = to_on prompt hop set t d ts ss (hop head.dest) r

  first_on : (prompt : Bool) (hop : Callsign → Option Callsign) (set : SetState) (t : CircuitTold) (ts : List CircuitTold) (ss : List Session)
      → R set ts (hear_circuits prompt (Of t) ss) → OfEach (On prompt ss) (pumps.tells_first hop set t ts)
  first_on prompt hop set (sets.Sent id number d) ts ss r = head_on prompt hop set (sets.Sent id number d) d ts ss (head_at d) r
  first_on prompt hop set (sets.Made id pair partner request) ts ss r = r
  first_on prompt hop set (sets.Heeded id d) ts ss r = r
  first_on prompt hop set (sets.Notice id notice) ts ss r = r
  first_on prompt hop set (sets.Gone id facts) ts ss r = r
  first_on prompt hop set (sets.Restarted pair) ts ss r = r
  first_on prompt hop set (sets.Lost id facts) ts ss r = r

  told_on : (prompt : Bool) (hop : Callsign → Option Callsign) (set : SetState) (ts : List CircuitTold) (ss : List Session) (o : Option Routed) → R set ts ss
      → OfEach (On prompt ss) (pumps.tells hop (record { set = set; untold = ts; lost = o }))
  told_on prompt hop set ts ss (Some x) r = r
  told_on prompt hop set [] ss None r = r
  told_on prompt hop set (t ∷ ts) ss None r = first_on prompt hop set t ts ss (tell prompt set t ts ss r)

  tells_on : (prompt : Bool) (hop : Callsign → Option Callsign) (w : Waiting) (ss : List Session) → R w.set w.untold ss → OfEach (On prompt ss) (links.tells hop w)
  unfolding links.tells
  tells_on prompt hop w ss r = told_on prompt hop w.set w.untold ss w.lost r

  -- ---- a node

  abbrev pub At : State → Type 0
  At n = R n.set.set n.set.untold n.sessions

  take_on : (now : ℕ) (m : State) (t : Turn) → OfEach (On m.settings.prompt m.sessions) t → At (p.take_turn now t m)
  take_on now m (Says u) each = each
  take_on now m (Offers to d by) each = each (links.offer_answer to d now m.links)

  tell_by : (now : ℕ) (m : State) (b : Bool) → At m → At (if b then p.tell_one now m else m)
  tell_by now m true r = take_on now m (links.tells (next_hop m) m.set) (tells_on m.settings.prompt (next_hop m) m.set m.sessions r)
  tell_by now m false r = r

  all_on : (now : ℕ) (n : State) → At n → At (p.tell_all now n)
  all_on now n r = told_kept now At (λ m x. tell_by now m (nat_lt 0 (p.pending m)) x) n r

  -- where nothing waits at the router all is told, and no more
  pub dry_keeps : (now : ℕ) (n : State) → p.at_router n ≡ 0 → At n → At (p.pump now n)
  unfolding p.pump
  dry_keeps now n e r = rw e (all_on now n r)

  module _ (come : (set : SetState) (ts : List CircuitTold) (ss : List Session) (d : List ℕ) (now : ℕ) → R set ts ss → R (set_step set (sets.Comes d now)).set (ts ++ (set_step set (sets.Comes d now)).told) ss) where
    heard_on : (prompt : Bool) (now : ℕ) (w : Waiting) (ss : List Session) (r : Routed) → R w.set w.untold ss → On prompt ss (pumps.heard_as now w r)
    heard_on prompt now w ss (routed.Mine origin d) x = come w.set w.untold ss d.items now x
    heard_on prompt now w ss routed.Forwarded x = x
    heard_on prompt now w ss (routed.Lost call) x = x
    heard_on prompt now w ss routed.Expired x = x
    heard_on prompt now w ss routed.NoRoute x = x
    heard_on prompt now w ss routed.Returned x = x
    heard_on prompt now w ss routed.Dropped x = x
    heard_on prompt now w ss routed.Bad x = x

    way_on : (prompt : Bool) (now : ℕ) (w : Waiting) (ss : List Session) (x : Way) → R w.set w.untold ss → OfEach (On prompt ss) (pumps.hears_by now w x)
    way_on prompt now w ss (Ends r) x = heard_on prompt now w ss r x
    way_on prompt now w ss (ToNeighbour to d) x = by
      where
        by : (answer : Offered) → On prompt ss (pumps.heard_as now w (forwarded_by answer))
        by Taken = x
        by No_room = x

    hears_on : (prompt : Bool) (hop : Callsign → Option Callsign) (now : ℕ) (parcel : Parcel) (w : Waiting) (ss : List Session) → R w.set w.untold ss
        → OfEach (On prompt ss) (links.hears hop now parcel w)
    unfolding links.hears
    hears_on prompt hop now parcel w ss x = way_on prompt now w ss (way w.set.own hop parcel.1) x

    lost_on : (prompt : Bool) (c : Callsign) (w : Waiting) (ss : List Session) → R w.set w.untold ss → On prompt ss (links.hears_lost c w)
    unfolding links.hears_lost
    lost_on prompt c w ss x = x

    asked_on : (now : ℕ) (n : State) (lost : List Callsign) (waiting : List Parcel) → At n → At (p.ask_for now lost waiting n)
    asked_on now n (c ∷ cs) waiting r = lost_on n.settings.prompt c n.set n.sessions r
    asked_on now n [] (parcel ∷ parcels) r =
        take_on now (at_links collect n) (links.hears (next_hop n) now parcel n.set) (hears_on n.settings.prompt (next_hop n) now parcel n.set n.sessions r)
    asked_on now n [] [] r = r

    times_on : (now k : ℕ) (n : State) → At n → At (p.ask_times now k n)
    times_on now zero n r = r
    times_on now (suc k) n r =
        times_on now k (p.tell_all now (p.ask now n)) (all_on now (p.ask now n) (asked_on now n n.links.pending.lost n.links.pending.waiting r))

    pub pump_keeps : (now : ℕ) (n : State) → At n → At (p.pump now n)
    unfolding p.pump
    pump_keeps now n r = times_on now (p.at_router n) (p.tell_all now n) (all_on now n r)

-- ---- the links

module _ (L : Table → Type 0) (offer : (to : Callsign) (d : Datagram) (now : ℕ) (t : Table) → L t → L (links.offer to d now t)) where
  take_links : (now : ℕ) (m : State) (t : Turn) → L m.links → L (p.take_turn now t m).links
  take_links now m (Says u) x = x
  take_links now m (Offers to d by) x = offer to d now m.links x

  links_by : (now : ℕ) (m : State) (b : Bool) → L m.links → L (if b then p.tell_one now m else m).links
  links_by now m true x = take_links now m (links.tells (next_hop m) m.set) x
  links_by now m false x = x

  all_links : (now : ℕ) (n : State) → L n.links → L (p.tell_all now n).links
  all_links now n x = told_kept now (λ m. L m.links) (λ m y. links_by now m (nat_lt 0 (p.pending m)) y) n x

  module _ (collects : (t : Table) → L t → L (collect t)) (tells : (t : Table) → L t → L (tell_lost t)) where
    asked_links : (now : ℕ) (n : State) (lost : List Callsign) (waiting : List Parcel) → L n.links → L (p.ask_for now lost waiting n).links
    asked_links now n (c ∷ cs) waiting x = tells n.links x
    asked_links now n [] (parcel ∷ parcels) x = take_links now (at_links collect n) (links.hears (next_hop n) now parcel n.set) (collects n.links x)
    asked_links now n [] [] x = x

    times_links : (now k : ℕ) (n : State) → L n.links → L (p.ask_times now k n).links
    times_links now zero n x = x
    times_links now (suc k) n x = times_links now k (p.tell_all now (p.ask now n)) (all_links now (p.ask now n) (asked_links now n n.links.pending.lost n.links.pending.waiting x))

    pub pump_links : (now : ℕ) (n : State) → L n.links → L (p.pump now n).links
    unfolding p.pump
    pump_links now n x = times_links now (p.at_router n) (p.tell_all now n) (all_links now n x)
