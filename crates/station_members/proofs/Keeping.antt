-- What each part of the moves keeps, all moves keep.
use Rattle.std.proofs.Common.{◌≡◌, ℕ, zero, suc, refl, List, [], ◌∷◌, length, Bool, true, false, cond}
use Rattle.std.specs.Prelude.{Option, Some, None, Result, Ok, Err, nat_lt}
use Rattle.radio_base.specs.declared.moment.Moment.{Moment}
use Rattle.ax_address.specs.Callsign.{Callsign}
use Rattle.ax_address.specs.declared.alias.Alias.{Alias}
use Rattle.link_table.specs.declared.written.Written.{Written}
use Rattle.node_core.specs.Acts.{Lock, Round}
use Rattle.node_core.specs.Bridged as nodes
use Rattle.node_core.specs.Bridged.{Input}
use Rattle.station_ports.specs.Readdressed.{with_call_at}
use Rattle.node_core.specs.declared.quality_refusal.QualityRefusal.{QualityRefusal}
use Rattle.node_model.specs.States.{Entry}
use Rattle.station_ports.specs.declared.heading.Heading.{Heading}
use Rattle.station_ports.specs.Headings.{heading_at}
use Rattle.station_members.specs.declared.config.BeaconConfig.{BeaconConfig}
use Rattle.station_members.specs.declared.config.MemberConfig.{MemberConfig}
use Rattle.station_members.specs.declared.hearing.Intake.{Intake}
use Rattle.station_members.specs.declared.hearing.Intake.TheVariants.{No, AsItCame, To}
use Rattle.station_members.specs.declared.seat.Seat.{Seat}
use Rattle.station_members.specs.Desks as desks
use Rattle.station_members.specs.Hearing.{is_set_up}
use Rattle.station_members.specs.Laws.{Always, Move, after, after_all, Adds, Adds_beacon, Sets_path, Sets_quality, Remembers, Hears, Ticks, Rounds, Acts, Settles, Fetches_entry, Fetches_frame}
use Rattle.station_members.specs.Nodes.{fetches, first_telling}
use Rattle.station_members.specs.States as states
use Rattle.station_members.specs.States.{Own, Port, State, at_desk, each_from, give, give_all, new_state}
use Rattle.station_members.specs.Waiting.{beacons_sent, held_sent}

pub record Keeps (P : State → Type 0) : Type 0 where
  pub own : (to : ℕ) (input : Input) (s : State) → P s → P (give to Own input s)
  pub port : (to port : ℕ) (input : Input) (s : State) → P s → P (give to (Port port) input s)
  pub notes : (port : ℕ) (hop : Callsign) (now : Moment) (s : State) → P s → P (at_desk (desks.noted_at port hop now) s)
  pub hears : (at port : ℕ) (h : Heading) (up : Bool) (s : State) → P s → P (at_desk (desks.hears_at at port h up) s)
  pub ticks : (at now : ℕ) (s : State) → P s → P (at_desk (desks.ticked_at at now) s)
  pub beacons : (now : ℕ) (s : State) → P s → P (at_desk (beacons_sent now) s)
  pub held : (at : ℕ) (now : Moment) (s : State) → P s → P (at_desk (held_sent at now) s)
  pub sends : (now : Moment) (from : ℕ) (w : Written) (s : State) → P s → P (states.send_one now from w s)
  pub unnames : (at : ℕ) (peer : Callsign) (s : State) → P s → P (at_desk (desks.unnamed_at at peer) s)
  pub remembers : (at : ℕ) (call : Callsign) (port : ℕ) (s : State) → P s → P (states.remember at call port s)
  pub beacon : (c : BeaconConfig) (s : State) → P s → P (states.add_beacon c s)
  pub fetches : (s : State) → P s → P (states.fetch_frame s)
  pub makes : (c : MemberConfig) (s : State) → nat_lt (length s.nodes) 8 ≡ true → P s → P (states.made c s)

module _ {P : State → Type 0} (k : Keeps P) where
  each : (step : ℕ → State → State) → ((at : ℕ) (s : State) → P s → P (step at s)) → (at left : ℕ) (s : State) → P s → P (each_from step at left s)
  each step one at zero s p = p
  each step one at (suc left) s p = each step one (suc at) left (step at s) (one at s p)

  takes : (at port : ℕ) (i : Intake) (octets : List ℕ) (now : Moment) (s : State) → P s → P (states.take_in at port i octets now s)
  takes at port No octets now s p = p
  takes at port AsItCame octets now s p = k.port at port (states.frame_in now octets) s p
  takes at port (To call) octets now s p = k.port at port (states.frame_in now (with_call_at 0 call octets)) s p

  hears_at : (port : ℕ) (h : Heading) (octets : List ℕ) (now : Moment) (at : ℕ) (s : State) → P s → P (states.hear_at port h octets now at s)
  unfolding states.hear_at
  hears_at port h octets now at s p = takes at port _ octets now _ (k.hears at port h (is_set_up octets) s p)

  hears_all : (b : Bool) (port : ℕ) (h : Heading) (octets : List ℕ) (now : Moment) (s : State) → P s → P (cond b (states.hear_all port h octets now s) s)
  hears_all true port h octets now s p = each (states.hear_at port h octets now) (hears_at port h octets now) 0 (length s.nodes) s p
  hears_all false port h octets now s p = p

  hears_if : (o : Option Heading) (port : ℕ) (octets : List ℕ) (now : Moment) (s : State) → P s → P (states.hear_if o port octets now s)
  hears_if None port octets now s p = p
  hears_if (Some h) port octets now s p = hears_all _ port h octets now _ (k.notes port h.hop now s p)

  hear_by : (b : Bool) (port : ℕ) (octets : List ℕ) (now : Moment) (s : State) → P s → P (cond b (states.hear_if (heading_at octets) port octets now s) s)
  hear_by true port octets now s p = hears_if (heading_at octets) port octets now s p
  hear_by false port octets now s p = p

  rounds : (b : Bool) (now : Moment) (at : ℕ) (s : State) → P s → P (states.round_if b now at s)
  rounds true now at s p = k.own at (nodes.Acts now.0 Round) s p
  rounds false now at s p = p

  ticks_at : (now : Moment) (at : ℕ) (s : State) → P s → P (states.tick_at now at s)
  unfolding states.tick_at
  ticks_at now at s p = rounds _ now at _ (k.ticks at now.0 _ (k.own at (nodes.Ticks now.0) s p))

  sends_each : (now : Moment) (from : ℕ) (ws : List Written) (s : State) → P s → P (states.send_each now from ws s)
  sends_each now from [] s p = p
  sends_each now from (w ∷ ws) s p = sends_each now from ws _ (k.sends now from w s p)

  gives_all : (to : ℕ) (is : List Input) (s : State) → P s → P (give_all to Own is s)
  gives_all to [] s p = p
  gives_all to (i ∷ is) s p = gives_all to is _ (k.own to i s p)

  waits : (now : Moment) (at : ℕ) (s : State) → P s → P (states.send_waiting now at s)
  unfolding states.send_waiting
  waits now at s p = sends_each now at (states.frames_at at s) _ (gives_all at (fetches (states.frames_at at s)) s p)

  unnames_by : (b : Bool) (at : ℕ) (peer : Callsign) (s : State) → P s → P (cond b s (at_desk (desks.unnamed_at at peer) s))
  unnames_by true at peer s p = p
  unnames_by false at peer s p = k.unnames at peer s p

  ends : (o : Option Callsign) (at : ℕ) (s : State) → P s → P (states.note_ended o at s)
  ends None at s p = p
  ends (Some peer) at s p = unnames_by _ at peer s p

  notes_if : (o : Option Entry) (at : ℕ) (s : State) → P s → P (states.note_if o at s)
  notes_if None at s p = p
  notes_if (Some entry) at s p = ends (states.ended_peer entry) at s p

  tells : (o : Option ℕ) (s : State) → P s → P (states.fetch_told_if o s)
  tells None s p = p
  tells (Some at) s p = notes_if (states.entry_at at s) at _ (k.own at nodes.Fetches_entry s p)

  qualities : (r : Result (Unit {0}) QualityRefusal) (at : ℕ) (call : Callsign) (s : State) → P s → P (states.quality_if r at call s)
  qualities (Ok _) at call s p = k.own at (nodes.Qualities call 255) s p
  qualities (Err why) at call s p = p

  meets_one : (call : Callsign) (alias : Alias) (at : ℕ) (s : State) → P s → P (states.meet call alias at s)
  unfolding states.meet
  meets_one call alias at s p = k.own at (nodes.Acts 0 (Lock call alias call 255)) _ (qualities (states.quality_answer at call s) at call s p)

  meets_by : (o : Option Seat) (at : ℕ) (s : State) → P s → P (states.meet_by o at s)
  meets_by None at s p = p
  meets_by (Some fellow) at s p = meets_one fellow.call fellow.alias at s p

  meets : (last at : ℕ) (s : State) → P s → P (states.meet_both last at s)
  meets last at s p = meets_by _ last _ (meets_by _ at s p)

  adds : (b : Bool) (c : MemberConfig) (s : State) → nat_lt (length s.nodes) 8 ≡ b → P s
      → P (cond b (states.meet_all (length s.nodes) (states.made c s)) s)
  adds true c s e p = each (states.meet_both (length s.nodes)) (meets (length s.nodes)) 0 (length s.nodes) _ (k.makes c s e p)
  adds false c s e p = p

  one : (m : Move) (s : State) → P s → P (after m s)
  one (Adds c) s p = adds _ c s refl p
  one (Adds_beacon c) s p = k.beacon c s p
  one (Sets_path at peer path) s p = k.own at (nodes.Paths peer path) s p
  one (Sets_quality at neighbour quality) s p = k.own at (nodes.Qualities neighbour quality) s p
  one (Remembers at call port) s p = k.remembers at call port s p
  one (Hears port octets now) s p = hear_by _ port octets now s p
  one (Ticks now) s p =
      let all = each (states.tick_at now) (ticks_at now) 0 (length s.nodes) s p in
      let v : State = each_from (states.tick_at now) 0 (length s.nodes) s in
      let w : State = at_desk (beacons_sent now.0) v in
      each (states.held_at now) (λ at u q. k.held at now u q) 0 (length w.nodes) w (k.beacons now.0 v all)
  one (Rounds now) s p = each (states.round_at now) (λ at v q. k.own at (nodes.Acts now.0 Round) v q) 0 (length s.nodes) s p
  one (Acts now at act) s p = k.own at (nodes.Acts now.0 act) s p
  one (Settles now) s p = each (states.send_waiting now) (waits now) 0 (length s.nodes) s p
  one Fetches_entry s p = tells (first_telling s.nodes) s p
  one Fetches_frame s p = k.fetches s p

  all_moves : (ms : List Move) (s : State) → P s → P (after_all ms s)
  all_moves [] s p = p
  all_moves (m ∷ ms) s p = all_moves ms (after m s) (one m s p)

pub always : {P : State → Type 0} → Keeps P → ((ports : ℕ) (deny : List Callsign) → P (new_state ports deny)) → Always P
always k begins ports deny moves = all_moves k moves (new_state ports deny) (begins ports deny)
