-- Each line of a network carries on what comes of datagrams that were sent.
use Rattle.std.proofs.Common.{◌≡◌, ◌∙◌, ◌+◌, ◌≤◌, ℕ, refl, sym, ap, subst, arith, List, [], ◌∷◌, ◌++◌, length, append_assoc, append-nil, map, filter, Bool, true, false}
use Rattle.std.specs.Prelude.{◌≢◌, ◌==◌, ◌⊎◌, nat_eq, nat_lt, slice_get, slice_set, if◌then◌else◌, Option, Some, None, Result, Ok, Err}
use Rattle.std.specs.List.{AllByRecursion}
use Rattle.std.proofs.lemmas.Bool.{ltb-false}
use Rattle.radio_base.specs.declared.modulus.LinkModulus.{LinkModulus}
use Rattle.ax_address.specs.Callsign.{Callsign}
use Rattle.ax_frame.specs.Frames.{IsAddress}
use Rattle.circuit_l4.specs.declared.pair.Pair.{Pair}
use Rattle.circuit_table.specs.Events as set_events
use Rattle.circuit_table.specs.Pumps.{runs}
use Rattle.circuit_table.specs.Pairs.{IsPair}
use Rattle.circuit_table.specs.Runs.{Step, events_of, sets_run}
use Rattle.circuit_table.specs.Sets as sets
use Rattle.circuit_table.specs.Sets.{Act}
use Rattle.link_table.specs.Calls as links
use Rattle.link_table.specs.Reaching.{IsCall}
use Rattle.radio_base.specs.Modulus.{extended_if, modulus_size}
use Rattle.link_table.specs.declared.path_refusal.PathRefusal.{PathRefusal}
use Rattle.link_table.specs.declared.path_refusal.PathRefusal.TheVariants.{TooLong as PathLong, Full as PathFull}
use Rattle.link_table.specs.declared.written.Written.{Written}
use Rattle.kiss_framing.specs.Laws.{FendParts, FramesReadBack, LongFramesAreTooLong}
use Rattle.network_file.specs.declared.plan.declarations.Declaration.{Declaration}
use Rattle.network_file.specs.declared.plan.keys.Key.TheVariants.{Modulo}
use Rattle.network_file.specs.declared.plan.vias.Via.{Via}
use Rattle.network_file.specs.Plan.{Plan, is_on_air}
use Rattle.network_file.specs.Keys.{value_of}
use Rattle.node_core.specs.Broadcasts.{broadcast_octets}
use Rattle.node_core.specs.Carried.{ActsCarry, Borne, BytesCarry, CarriedFurther, CarriedOn, CarriesTraced, IsAloft, IsOfNode, Offered, Place, TicksCarry, WasBorne, borne_in, is_borne, offers_traced, sends_in, with_borne}
use Rattle.node_core.specs.Configs.{new_node}
use Rattle.node_core.specs.Runs.{ActsRun, BytesRun, InputsAreSteps, RunsOn, StepsOf, TicksRun, steps_at}
use Rattle.node_core.specs.Standing.{IsTold}
use Rattle.node_model.specs.States.{NodeState, frames}
use Rattle.node_core.specs.Acts as acts
use Rattle.node_core.specs.Acts.{UserAct}
use Rattle.net_model.specs.declared.air.Aired.{Aired}
use Rattle.net_model.specs.World.{settled_at, Bytes, Input, Time, World, after, aired, aired_as, air_events, all_fetched_of, all_told, numbered, place_of_node, put, reach, tell}
use Rattle.net_model.specs.SoundPlans.{first_sets, set_of}
use Rattle.net_model.specs.Events.{Event, NumberedEvent}
use Rattle.net_model.specs.Ends.{ends_of}
use Rattle.net_model.specs.Mailing.{with_mail}
use Rattle.node_mail.specs.Lists.{Lists}
use Rattle.net_laws.specs.Hops.{all_borne, node_at}
use Rattle.net_model.specs.Lines.{kiss_bytes, restart, settle}
use Rattle.net_model.specs.Starting.{Placed, by_number, new_nodes}
use Rattle.node_settings.specs.Settings.{config_of, is_via_of, path_of, repeater, with_via, with_via_by, with_vias}
use Rattle.net_model.specs.World as worlds
use Rattle.net_model.proofs.Containing.{AreApart, Contains, IsQuiet, Tracks, TracksAt, comes_contains, events_append, name_at, names, quiet_contains}
use Rattle.net_model.proofs.LineWalks.{IsPlain, Moves}
use Rattle.net_model.proofs.Looks.{put_of, reaches, restart_of}
use Rattle.net_laws.proofs.Moving.{placed, told_entries}
use Rattle.net_laws.proofs.MovesRun.{put_comes, quiet_air, reach_comes, restart_comes}
use Rattle.net_laws.proofs.Comings.{KnownAir, StepsCame, came_both, inputs_came, named_alike, new_known, steps_within}
use Rattle.net_laws.proofs.Hopping.{Known, borne_append, borne_settled, known_more, known_within, within_more, within_settled}
use Rattle.net_laws.proofs.LineRuns.{placed_names}
use Rattle.net_laws.proofs.Lists.{both, every, kept_by, one_of, settled_all}
use Rattle.net_laws.proofs.Origins.{IsNamed, told_by_names}
use Rattle.net_laws.proofs.Traced.{IsRested, inputs_send, items_carried, others_send, rested_then, sent_at, sent_at_both, told_there}
use Rattle.net_model.proofs.Changing.{get_set, get_other}

module _ (plan : Plan) (size : ℕ) (apart : AreApart (names (new_nodes plan))) (are_steps : InputsAreSteps) (bytes : BytesRun) (ticks : TicksRun) (acts_run : ActsRun)
    (parts : FendParts) (read_back : FramesReadBack) (too_long : LongFramesAreTooLong) (bytes_carry : BytesCarry) (ticks_carry : TicksCarry) (acts_carry : ActsCarry) (further : CarriedFurther)
    (modulus : (size ≡ 8) ⊎ (size ≡ 128)) (starts : (d : Declaration) (at : ℕ) → slice_get (names (new_nodes plan)) at ≡ Some d → IsCall d.call × (modulus_size (extended_if (value_of plan.settings d.node Modulo == 128)) ≡ size))
    (vias : AllByRecursion (λ (v : Via). AllByRecursion IsCall v.repeaters.items) plan.vias) where
  abbrev pub told : List Step → List set_events.Event
  told steps = events_of (first_sets plan) steps

  abbrev pub here : List Aired → Placed → Place
  here air p = record { size = size; own = p.declared.call; borne = all_borne size air }

  abbrev pub NodeFlies : List Aired → List (List ℕ) → Placed → Type 0
  NodeFlies air ds p = CarriesTraced (here air p) ds p.state.station × IsRested p.state.stream

  abbrev pub AirFlies : List Aired → Type 0
  AirFlies air = AllByRecursion (λ (f : Aired). IsAloft size (all_borne size air) f.octets.items) air

  -- all that is under way in a world, after these steps of its circuits
  pub record Flies (steps : List Step) (w : World) : Type 0 where
    pub contains : Contains plan steps w.nodes w.told
    pub came : StepsCame plan size [] w.air (first_sets plan) steps
    pub nodes : (at : ℕ) (p : Placed) → slice_get w.nodes at ≡ Some p → NodeFlies w.air (sent_at at (told steps)) p
    pub air : AirFlies w.air
    pub known : KnownAir plan size (told steps) w.air

  abbrev pub Goes : World → World → Type 0
  Goes w v = (steps : List Step) → Flies steps w → (more : List Step) × Flies (steps ++ more) v

  still : (w : World) → Goes w w
  still w steps f = ([], subst (λ ss. Flies ss w) (sym (append-nil steps)) f)

  follows : (u v w : World) → Goes u v → Goes v w → Goes u w
  follows u v w g h steps f =
      let a = g steps f in
      let b = h (steps ++ a.0) a.1 in
      (a.0 ++ b.0, subst (λ ss. Flies ss w) (append_assoc steps a.0 b.0) b.1)

  at_once : (w v : World) → ((steps : List Step) → Flies steps w → Flies steps v) → Goes w v
  at_once w v g steps f = ([], subst (λ ss. Flies ss v) (sym (append-nil steps)) (g steps f))

  tells : (line : ℕ) (es : List Event) (w : World) → AllByRecursion IsQuiet es → Goes w (tell line es w)
  tells line es w quiet =
      at_once w (tell line es w)
      (λ steps f. record { contains = quiet_contains plan apart are_steps steps w.nodes w.told line es quiet f.contains; came = f.came; nodes = f.nodes; air = f.air; known = f.known })

  settles : (at : ℕ) (w : World) → Goes w (settle at w)
  settles at w =
      at_once w (settle at w)
      (λ steps f. (let same : all_borne size (settled_at at w.air) ≡ all_borne size w.air = borne_settled size at w.air in
      record {
        contains = f.contains;
        came = steps_within plan size [] w.air (settled_at at w.air) (within_settled at w.air) (first_sets plan) steps f.came;
        nodes = λ i p e. (
          subst (λ bs. CarriesTraced (record { size = size; own = p.declared.call; borne = bs }) (sent_at i (told steps)) p.state.station) (sym same) (f.nodes i p e).0,
          (f.nodes i p e).1,
        );
        air = subst (λ bs. AllByRecursion (λ (g : Aired). IsAloft size bs g.octets.items) (settled_at at w.air)) (sym same) (settled_all (IsAloft size (all_borne size w.air)) at w.air f.air);
        known = λ to d e. known_within plan size (told steps) w.air (settled_at at w.air) (within_settled at w.air) to d (f.known to d (ap (λ bs. is_borne bs to d) (sym same) ∙ e));
      }))

  later : (milliseconds : ℕ) (w : World) → Goes w (record w { now = w.now + milliseconds })
  later milliseconds w =
      at_once w (record w { now = w.now + milliseconds }) (λ steps f. record { contains = f.contains; came = f.came; nodes = f.nodes; air = f.air; known = f.known })

  mails_go : (at : ℕ) (s : Lists) (w : World) → Goes w (with_mail at s w)
  mails_go at s w = at_once w (with_mail at s w) (λ steps f. record { contains = f.contains; came = f.came; nodes = f.nodes; air = f.air; known = f.known })

  -- ---- more steps

  told_then : (steps more : List Step) → told (steps ++ more) ≡ told steps ++ events_of (sets_run (first_sets plan) steps) more
  told_then steps more = events_append steps more (first_sets plan)

  sent_then : (at : ℕ) (steps more : List Step) → sent_at at (told (steps ++ more)) ≡ sent_at at (told steps) ++ sent_at at (events_of (sets_run (first_sets plan) steps) more)
  sent_then at steps more = ap (sent_at at) (told_then steps more) ∙ sent_at_both at (told steps) (events_of (sets_run (first_sets plan) steps) more)

  -- the node at a place has changed
  beside : (F G : ℕ → Placed → Type 0) (nodes : List Placed) (at : ℕ) (p q : Placed) → slice_get nodes at ≡ Some p → ((k : ℕ) (r : Placed) → slice_get nodes k ≡ Some r → F k r) → ((k : ℕ) (r : Placed) → nat_eq at k ≡ false → F k r → G k r)
      → G at q → (k : ℕ) (r : Placed) → slice_get (slice_set nodes at q) k ≡ Some r → (b : Bool) → nat_eq at k ≡ b → G k r
  beside F G nodes at p q e all grow mine k r f true b =
      let same : at ≡ k = grind (arith, b) in
      let is : q ≡ r = (let some : Some q ≡ Some r = sym (get_set nodes at p q e) ∙ (ap (slice_get (slice_set nodes at q)) same ∙ f) in cc some) in
      subst (λ x. G x r) same (subst (G at) is mine)
  beside F G nodes at p q e all grow mine k r f false b =
      let apart_are : at ≢ k = λ same. (let bad : ⊥ = grind (arith, b, same) in bad) in
      grow k r b (all k r (sym (get_other nodes at k q apart_are) ∙ f))

  -- the node at a place has the name that it was declared with
  named : (steps : List Step) (w : World) (at : ℕ) (p : Placed) → Flies steps w → slice_get w.nodes at ≡ Some p → node_at plan at ≡ Some p.declared
  named steps w at p f e =
      ap (λ ds. slice_get ds at) (sym (placed_names plan (by_number plan.declared 1 16)) ∙ sym f.contains.names_are) ∙ name_at w.nodes at p e

  all_named : (steps : List Step) (w : World) → Flies steps w → AllByRecursion (IsNamed (by_number plan.declared 1 16)) (told steps)
  all_named steps w f =
      subst (λ ds. AllByRecursion (IsNamed ds) (told steps)) (placed_names plan (by_number plan.declared 1 16)) (told_by_names (names (new_nodes plan)) w.told (told steps) f.contains.events_are)

  -- the node at a place goes on with inputs of its circuits
  goes_on : (steps : List Step) (w : World) (told2 : List NumberedEvent) (at : ℕ) (p q : Placed) (inputs : List Act) → slice_get w.nodes at ≡ Some p → q.declared ≡ p.declared → Flies steps w
      → Contains plan (steps ++ steps_at at inputs) (slice_set w.nodes at q) told2 → AllByRecursion (WasBorne (here w.air p)) inputs
      → ((place : ℕ) → nat_eq at place ≡ false → sent_at place (events_of (sets_run (first_sets plan) steps) (steps_at at inputs)) ≡ [])
      → NodeFlies w.air (sent_at at (told steps) ++ sent_at at (events_of (sets_run (first_sets plan) steps) (steps_at at inputs))) q
      → Flies (steps ++ steps_at at inputs) (record w { nodes = slice_set w.nodes at q; told = told2 })
  goes_on steps w told2 at p q inputs e same f contains come others mine =
      let more : List Step = steps_at at inputs in
      let then_told : List set_events.Event = events_of (sets_run (first_sets plan) steps) more in
      record {
        contains = contains;
        came = came_both plan size [] w.air (first_sets plan) steps more f.came
            (inputs_came plan size (here w.air p) at p.declared (named steps w at p f e) w.air inputs (told steps) (sets_run (first_sets plan) steps) (λ d b. f.known p.declared.call d b) come);
        nodes = λ i x g. beside (λ k r. NodeFlies w.air (sent_at k (told steps)) r) (λ k r. NodeFlies w.air (sent_at k (told (steps ++ more))) r) w.nodes at p q e f.nodes
            (λ k r n y. subst (λ ds. NodeFlies w.air ds r) (sym (sent_then k steps more ∙ (ap (λ ds. sent_at k (told steps) ++ ds) (others k n) ∙ append-nil (sent_at k (told steps))))) y)
            (subst (λ ds. NodeFlies w.air ds q) (sym (sent_then at steps more)) mine) i x g (nat_eq at i) refl;
        air = f.air;
        known = λ to d b. subst (λ es. Known plan size es w.air to d) (sym (told_then steps more)) (known_more plan size (told steps) then_told w.air to d (f.known to d b));
      }

  -- ---- something reaches a node

  module _ (line at : ℕ) (input : Input) (w : World)
      (carried : (ds : List (List ℕ)) (p : Placed) → AirFlies w.air → IsTold p.state.station → NodeFlies w.air ds p
      → CarriedOn (here w.air p) ds p.state.station (after w.now input p.state).station × IsRested (after w.now input p.state).stream) where
    reached : (p : Placed) → slice_get w.nodes at ≡ Some p → Goes w (reaches line at input (Some p) w)
    reached p e steps f =
        let t : TracksAt plan w.told (sets_run (first_sets plan) steps) at p = f.contains.tracks at p e in
        let k : Tracks plan w.told t.set p = t.tracks in
        let n : NodeState = after w.now input p.state in
        let ds : List (List ℕ) = sent_at at (told steps) in
        let both = carried ds p f.air k.rest (f.nodes at p e) in
        let c : CarriedOn (here w.air p) ds p.state.station n.station = both.0 in
        let r : RunsOn p.state.station n.station = c.run in
        let q : Placed = record p { state = all_told n } in
        let entries : n.station.entries ≡ r.more = r.entries ∙ ap (λ xs. xs ++ r.more) k.heard in
        let sends : sent_at at (events_of (sets_run (first_sets plan) steps) (steps_at at r.inputs)) ≡ sends_in (runs r.inputs (set_of p)).told =
        inputs_send k.base k.past k.lost are_steps r.inputs (sets_run (first_sets plan) steps) at (set_of p) t.set t.here k.is k.rises in
        let mine : NodeFlies w.air (ds ++ sent_at at (events_of (sets_run (first_sets plan) steps) (steps_at at r.inputs))) q =
        (subst (λ xs. CarriesTraced (here w.air p) (ds ++ xs) (all_told n).station) (sym sends) (further.told (here w.air p) _ n.station c.carries), both.1) in (
          steps_at at r.inputs,
          goes_on steps w (w.told ++ told_entries line p.declared.node n.station.entries) at p q r.inputs e refl f
              (subst (λ xs. Contains plan (steps ++ steps_at at r.inputs) (slice_set w.nodes at q) (w.told ++ told_entries line p.declared.node xs)) (sym entries)
              (comes_contains plan apart are_steps steps w.nodes w.told (told_entries line p.declared.node r.more) at p q t.set r.inputs f.contains e t.here
              (reach_comes plan apart are_steps bytes ticks acts_run steps w line at p n f.contains e t r)))
              c.come (λ place other. others_send k.base k.past k.lost are_steps r.inputs (sets_run (first_sets plan) steps) at place (set_of p) t.set t.here k.is k.rises other) mine,
        )

    reach_by : (o : Option Placed) → slice_get w.nodes at ≡ o → Goes w (reaches line at input o w)
    reach_by None e = still w
    reach_by (Some p) e = reached p e

    reach_goes : Goes w (reach line at input w)
    unfolding reach
    reach_goes = reach_by (slice_get w.nodes at) refl

  bytes_go : (line at : ℕ) (octets : List ℕ) (w : World) → (AirFlies w.air → IsAloft size (all_borne size w.air) octets) → Goes w (reach line at (Bytes (kiss_bytes octets)) w)
  bytes_go line at octets w x =
      reach_goes line at (Bytes (kiss_bytes octets)) w
      (λ ds p air told f. (
        bytes_carry (here w.air p) ds w.now (kiss_bytes octets) p.state told f.0 (items_carried parts read_back too_long (here w.air p) p.state.stream octets f.1 (x air)),
        rested_then parts read_back too_long p.state.stream octets f.1,
      ))

  times_go : (line at : ℕ) (w : World) → Goes w (reach line at Time w)
  times_go line at w = reach_goes line at Time w (λ ds p air told f. (ticks_carry (here w.air p) ds w.now p.state told f.0, f.1))

  plain_go : (line at : ℕ) (act : UserAct) (w : World) → IsPlain act → Goes w (reach line at (worlds.Act act) w)
  plain_go line at acts.Round w i = reach_goes line at (worlds.Act acts.Round) w (λ ds p air told f. (acts_carry (here w.air p) ds w.now acts.Round p.state tt tt told f.0, f.1))
  plain_go line at (acts.LinkFail peer) w i = reach_goes line at (worlds.Act (acts.LinkFail peer)) w (λ ds p air told f. (acts_carry (here w.air p) ds w.now (acts.LinkFail peer) p.state tt tt told f.0, f.1))
  plain_go line at (acts.Lock dest alias neighbour quality) w i = absurd i
  plain_go line at (acts.Connect dest) w i = absurd i
  plain_go line at (acts.ConnectFor user dest) w i = absurd i
  plain_go line at (acts.TakeText peer) w i = absurd i
  plain_go line at (acts.SendText to text) w i = absurd i
  plain_go line at (acts.OpenLink to path) w i = absurd i
  plain_go line at (acts.CloseLink peer) w i = absurd i
  plain_go line at (acts.Write id message) w i = reach_goes line at (worlds.Act (acts.Write id message)) w (λ ds p air told f. (acts_carry (here w.air p) ds w.now (acts.Write id message) p.state tt tt told f.0, f.1))
  plain_go line at (acts.Take id) w i = reach_goes line at (worlds.Act (acts.Take id)) w (λ ds p air told f. (acts_carry (here w.air p) ds w.now (acts.Take id) p.state tt tt told f.0, f.1))
  plain_go line at (acts.Close id) w i = reach_goes line at (worlds.Act (acts.Close id)) w (λ ds p air told f. (acts_carry (here w.air p) ds w.now (acts.Close id) p.state tt tt told f.0, f.1))

  -- ---- frames are put in the air

  bears : (air new : List Aired) (ds : List (List ℕ)) (p : Placed) (f : Written) → IsOfNode (here air p) ds f.octets.items
      → AllByRecursion (Offered (offers_traced (here air p) ds)) (borne_in size f.octets.items) × IsAloft size (borne_in size f.octets.items) f.octets.items
  bears air new ds p f x = further.bears size (offers_traced (here air p) ds) f.octets.items modulus x

  new_frames : (air : List Aired) (ds : List (List ℕ)) (p : Placed) (came : LinkModulus) (fs : List Written) → AllByRecursion (λ (f : Written). IsOfNode (here air p) ds f.octets.items) fs
      → AllByRecursion (λ (f : Aired). (f.sender ≡ p.declared.node) × AllByRecursion (Offered (offers_traced (here air p) ds)) (borne_in size f.octets.items)) (map (aired_as p.declared.node came) fs)
  new_frames air ds p came [] a = tt
  new_frames air ds p came (f ∷ fs) a = ((refl, (bears air [] ds p f a.0).0), new_frames air ds p came fs a.1)

  new_aloft : (air : List Aired) (ds : List (List ℕ)) (p : Placed) (came : LinkModulus) (fs : List Written) → AllByRecursion (λ (f : Written). IsOfNode (here air p) ds f.octets.items) fs
      → AirFlies (map (aired_as p.declared.node came) fs)
  new_aloft air ds p came [] a = tt
  new_aloft air ds p came (f ∷ fs) a =
      let rest : List Aired = map (aired_as p.declared.node came) fs in
      let first : List Borne = borne_in size f.octets.items in (
        further.aloft size first (all_borne size rest) f.octets.items (bears air [] ds p f a.0).1,
        every (λ (g : Aired). IsAloft size (all_borne size rest) g.octets.items) (λ (g : Aired). IsAloft size (first ++ all_borne size rest) g.octets.items)
            (λ g x. further.behind size first (all_borne size rest) g.octets.items x) rest (new_aloft air ds p came fs a.1),
      )

  aired_new : (air : List Aired) (ds : List (List ℕ)) (came : LinkModulus) (b : Bool) (p : Placed) → NodeFlies air ds p
      → AllByRecursion (λ (f : Aired). (f.sender ≡ p.declared.node) × AllByRecursion (Offered (offers_traced (here air p) ds)) (borne_in size f.octets.items))
      (if b then map (aired_as p.declared.node came) (frames p.state.station) else [])
  aired_new air ds came true p f = new_frames air ds p came (frames p.state.station) (further.frames (here air p) ds p.state.station f.0)
  aired_new air ds came false p f = tt

  aired_aloft : (air : List Aired) (ds : List (List ℕ)) (came : LinkModulus) (b : Bool) (p : Placed) → NodeFlies air ds p → AirFlies (if b then map (aired_as p.declared.node came) (frames p.state.station) else [])
  aired_aloft air ds came true p f = new_aloft air ds p came (frames p.state.station) (further.frames (here air p) ds p.state.station f.0)
  aired_aloft air ds came false p f = tt

  -- a node goes on where more is in the air
  node_more : (air new : List Aired) (ds : List (List ℕ)) (p : Placed) → NodeFlies air ds p → NodeFlies (air ++ new) ds p
  node_more air new ds p f = (
    subst (λ bs. CarriesTraced (record { size = size; own = p.declared.call; borne = bs }) ds p.state.station) (sym (borne_append size air new))
        (subst (λ xs. CarriesTraced (with_borne (all_borne size new) (here air p)) xs p.state.station) (append-nil ds) (further.more (here air p) ds [] (all_borne size new) p.state.station f.0)),
    f.1,
  )

  air_both : (air new : List Aired) → AirFlies air → AirFlies new → AirFlies (air ++ new)
  air_both air new a b =
      subst (λ bs. AllByRecursion (λ (f : Aired). IsAloft size bs f.octets.items) (air ++ new)) (sym (borne_append size air new))
      (both (λ (f : Aired). IsAloft size (all_borne size air ++ all_borne size new) f.octets.items) air new
      (every (λ (f : Aired). IsAloft size (all_borne size air) f.octets.items) (λ (f : Aired). IsAloft size (all_borne size air ++ all_borne size new) f.octets.items)
      (λ f x. further.aloft size (all_borne size air) (all_borne size new) f.octets.items x) air a)
      (every (λ (f : Aired). IsAloft size (all_borne size new) f.octets.items) (λ (f : Aired). IsAloft size (all_borne size air ++ all_borne size new) f.octets.items)
      (λ f x. further.behind size (all_borne size air) (all_borne size new) f.octets.items x) new b))

  put_by : (line at : ℕ) (came : LinkModulus) (w : World) (o : Option Placed) → slice_get w.nodes at ≡ o → Goes w (put_of line at came o w)
  put_by line at came w None e = still w
  put_by line at came w (Some p) e =
      at_once w (put_of line at came (Some p) w)
      (λ steps f. (let t : TracksAt plan w.told (sets_run (first_sets plan) steps) at p = f.contains.tracks at p e in
      let new : List Aired = aired w.channels came p in
      let es : List Event = air_events (length w.air) (length new) in
      let q : Placed = record p { state = all_fetched_of p.state } in
      let ds : List (List ℕ) = sent_at at (told steps) in
      let contains : Contains plan (steps ++ []) (slice_set w.nodes at q) (w.told ++ map (numbered line) es) =
      comes_contains plan apart are_steps steps w.nodes w.told (map (numbered line) es) at p q t.set [] f.contains e t.here
      (put_comes plan apart are_steps bytes ticks acts_run w.told line at p t.set es (quiet_air plan apart are_steps bytes ticks acts_run (length w.air) (length new)) t.tracks) in
      let mine : NodeFlies w.air ds q = (further.fetched (here w.air p) ds p.state.station (f.nodes at p e).0, (f.nodes at p e).1) in
      record {
        contains = subst (λ ss. Contains plan ss (slice_set w.nodes at q) (w.told ++ map (numbered line) es)) (append-nil steps) contains;
        came = steps_within plan size [] w.air (w.air ++ new) (within_more w.air new) (first_sets plan) steps f.came;
        nodes = λ i x g. beside (λ k r. NodeFlies w.air (sent_at k (told steps)) r) (λ k r. NodeFlies (w.air ++ new) (sent_at k (told steps)) r) w.nodes at p q e f.nodes
            (λ k r n y. node_more w.air new (sent_at k (told steps)) r y) (node_more w.air new ds q mine) i x g (nat_eq at i) refl;
        air = air_both w.air new f.air (aired_aloft w.air ds came (is_on_air w.channels p.declared.node) p (f.nodes at p e));
        known = new_known plan size (told steps) w.air new at p.declared (named steps w at p f e)
            (named_alike (by_number plan.declared 1 16) at p.declared (told steps) (named steps w at p f e) (all_named steps w f)) f.known
            (aired_new w.air ds came (is_on_air w.channels p.declared.node) p (f.nodes at p e));
      }))

  puts_go : (line at : ℕ) (came : LinkModulus) (w : World) → Goes w (put line at came w)
  unfolding put
  puts_go line at came w = put_by line at came w (slice_get w.nodes at) refl

  -- ---- a node starts

  repeaters_are : (cs : List Callsign) → AllByRecursion IsCall cs → AllByRecursion IsAddress (map repeater cs)
  repeaters_are [] a = tt
  repeaters_are (c ∷ cs) a = (a.0, repeaters_are cs a.1)

  few_path : (here2 : Place) (ds : List (List ℕ)) (via : Via) (n : NodeState) (long full : Bool) → nat_lt links.most_repeaters (length (path_of via).items) ≡ long → AllByRecursion IsCall via.repeaters.items → CarriesTraced here2 ds n.station
      → CarriesTraced here2 ds (with_via_by (if long then Err PathLong else if full then Err PathFull else Ok tt) via n).station
  few_path here2 ds via n true full e a x = x
  few_path here2 ds via n false true e a x = x
  few_path here2 ds via n false false e a x =
      let few : length (path_of via).items ≤ 2 = ltb-false 2 (length (path_of via).items) e in
      further.paths here2 ds via.peer (path_of via) n.station (record { calls = repeaters_are via.repeaters.items a; eight = omega (arith, few) }) x

  via_carried : (here2 : Place) (ds : List (List ℕ)) (via : Via) (n : NodeState) → AllByRecursion IsCall via.repeaters.items → CarriesTraced here2 ds n.station → CarriesTraced here2 ds (with_via via n).station
  via_carried here2 ds via n a x = few_path here2 ds via n (nat_lt links.most_repeaters (length (path_of via).items)) _ refl a x

  vias_carried : (here2 : Place) (ds : List (List ℕ)) (vs : List Via) (n : NodeState) → AllByRecursion (λ (v : Via). AllByRecursion IsCall v.repeaters.items) vs → CarriesTraced here2 ds n.station → CarriesTraced here2 ds (with_vias vs n).station
  vias_carried here2 ds [] n a x = x
  vias_carried here2 ds (v ∷ vs) n a x = vias_carried here2 ds vs (with_via v n) a.1 (via_carried here2 ds v n a.0 x)

  via_stream : (r : Result (Unit {0}) PathRefusal) (via : Via) (n : NodeState) → (with_via_by r via n).stream ≡ n.stream
  via_stream (Ok _) via n = refl
  via_stream (Err why) via n = refl

  vias_stream : (vs : List Via) (n : NodeState) → (with_vias vs n).stream ≡ n.stream
  vias_stream [] n = refl
  vias_stream (v ∷ vs) n = vias_stream vs (with_via v n) ∙ via_stream (links.path_answer v.peer (path_of v) n.station.links) v n

  pub started_flies : (air : List Aired) (ds : List (List ℕ)) (d : Declaration) (pair : Pair) (first : ℕ) → IsCall d.call × (modulus_size (extended_if (value_of plan.settings d.node Modulo == 128)) ≡ size) → NodeFlies air ds (placed plan d pair first)
  started_flies air ds d pair first s =
      let n : NodeState = new_node (config_of plan.settings d pair first) in
      let vs : List Via = filter (is_via_of d.node) plan.vias in (
        vias_carried (here air (placed plan d pair first)) ds vs n (kept_by (λ (v : Via). AllByRecursion IsCall v.repeaters.items) (is_via_of d.node) plan.vias vias) (further.starts (here air (placed plan d pair first)) ds false (config_of plan.settings d pair first) refl s.0 modulus s.1),
        subst IsRested (sym (vias_stream vs n)) refl,
      )

  restart_by : (line at : ℕ) (pair : Pair) (w : World) (o : Option Placed) → slice_get w.nodes at ≡ o → IsPair pair → Goes w (restart_of plan line at pair o w)
  restart_by line at pair w None e i = still w
  restart_by line at pair w (Some p) e i = λ steps f.
      let t : TracksAt plan w.told (sets_run (first_sets plan) steps) at p = f.contains.tracks at p e in
      let k : Tracks plan w.told t.set p = t.tracks in
      let made : ℕ = length (ends_of p.declared.node w.told) in
      let q : Placed = placed plan p.declared pair (made + 1) in
      let inputs : List Act = sets.Restart pair 0 ∷ [] in
      let of : StepsOf (sets_run (first_sets plan) steps) at t.set inputs = are_steps (sets_run (first_sets plan) steps) at t.set inputs t.here in
      let declared : slice_get (names (new_nodes plan)) at ≡ Some p.declared = ap (λ xs. slice_get xs at) (sym f.contains.names_are) ∙ name_at w.nodes at p e in
      let ds : List (List ℕ) = sent_at at (told steps) ++ sent_at at (events_of (sets_run (first_sets plan) steps) (steps_at at inputs)) in (
        steps_at at inputs,
        goes_on steps w _ at p q inputs e refl f
            (comes_contains plan apart are_steps steps w.nodes w.told _ at p q t.set inputs f.contains e t.here (restart_comes plan apart are_steps bytes ticks acts_run steps w line at pair p i f.contains e t))
            (tt, tt) (λ place other. ap (sent_at place) of.events ∙ ap sends_in (told_there place at t.set.own (runs inputs t.set).told other))
            (started_flies w.air ds p.declared pair (made + 1) (starts p.declared at declared)),
      )

  restarts_go : (line number : ℕ) (pair : Pair) (w : World) → IsPair pair → Goes w (restart plan line number pair w)
  restarts_go line number pair w i = restart_by line (place_of_node number w.nodes) pair w (slice_get w.nodes (place_of_node number w.nodes)) refl i

  -- ---- all moves

  pub moves : Moves plan IsCall IsCall IsPair Goes
  moves = record {
    still = still;
    follows = follows;
    tells = tells;
    does = plain_go;
    locks = λ line at dest alias neighbour quality w i.
        reach_goes line at (worlds.Act (acts.Lock dest alias neighbour quality)) w (λ ds p air told f. (acts_carry (here w.air p) ds w.now (acts.Lock dest alias neighbour quality) p.state tt i told f.0, f.1));
    connects = λ line at dest w i. reach_goes line at (worlds.Act (acts.Connect dest)) w (λ ds p air told f. (acts_carry (here w.air p) ds w.now (acts.Connect dest) p.state i tt told f.0, f.1));
    times = times_go;
    broadcasts = λ line at call b w i. bytes_go line at (broadcast_octets call b) w (λ air. further.broadcasts size (all_borne size w.air) call b i);
    frames = λ line at place f w e. bytes_go line at f.octets.items w (λ air. one_of (λ (y : Aired). IsAloft size (all_borne size w.air) y.octets.items) w.air place f air e);
    puts = puts_go;
    mails = mails_go;
    restarts = restarts_go;
    settles = settles;
    later = later;
  }
