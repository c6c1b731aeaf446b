-- What happens to members is a run of their nodes' circuits.
use Rattle.std.proofs.Common.{◌≡◌, ◌∙◌, ◌-◌, ℕ, refl, sym, ap, subst, arith, List, [], ◌∷◌, ◌++◌, append_assoc, drop, length, map, Bool, true, false, cond}
use Rattle.std.proofs.lemmas.Bool.Decides.{nat_tests}
use Rattle.std.specs.Prelude.{◌==◌, nat_lt, slice_get, slice_set, Option, Some, None}
use Rattle.std.specs.Option.{option_map}
use Rattle.std.specs.List.{AllByRecursion}
use Rattle.radio_base.proofs.Each.{each_append, each_at}
use Rattle.ax_address.specs.Callsign.{Callsign}
use Rattle.circuit_set.proofs.Differing.{all_parts}
use Rattle.circuit_table.specs.Events.{Event}
use Rattle.circuit_table.specs.Givings.{IsUp}
use Rattle.circuit_table.specs.Pumps.{Waiting, at_rest, runs}
use Rattle.circuit_table.specs.Runs.{AreStarts, AreSteps, IsAct, Step, events_at, events_of, sets_at, sets_run}
use Rattle.circuit_table.specs.Runs as sets
use Rattle.circuit_table.specs.Sets.{Act, SetState}
use Rattle.link_table.specs.declared.written.Written.{Written}
use Rattle.node_core.specs.Bridged.{Acts, AsksForCall, Bytes, Fetches_entry, Fetches_frame, Input, Paths, Qualities, Ticks, after}
use Rattle.node_core.specs.Configs.{hosting_node}
use Rattle.node_core.specs.declared.config.NodeConfig.{NodeConfig}
use Rattle.node_core.specs.Runs.{ActsRun, BytesRun, InputsAreSteps, RunsOn, StepsOf, TicksRun, circuits_told, steps_at}
use Rattle.node_core.specs.Standing.{IsTold}
use Rattle.node_model.specs.States.{NodeState, Settings, fetch_own}
use Rattle.station_members.specs.Laws.{inputs_of}
use Rattle.station_members.specs.Places.{at_place}
use Rattle.station_members.specs.States.{Given}
use Rattle.station_laws.specs.Happenings.{Happening, IsMade, IsStation, Station, given_in, inputs_to, made_in, nodes_after, started_in, state_of, told_at, told_by}
use Rattle.station_laws.specs.Laws.{StationsAreCircuitRuns, circuits_of}
use Rattle.station_laws.proofs.Asking.{station_asks}
use Rattle.station_laws.proofs.Lists.{drop_all, drop_fewer, drop_same, get_map, place_all, place_map, place_none}

abbrev set_of : NodeState → SetState
set_of n = n.station.set.set

-- ---- one input of a node

-- a node between two inputs
record IsAtRest (n : NodeState) : Type 0 where
  told : IsTold n.station
  own : (set_of n).own ≡ n.station.settings.call

-- what an input is to its circuits
record Goes (old new : NodeState) : Type 0 where
  inputs : List Act
  allowed : AllByRecursion IsAct inputs
  up : AllByRecursion IsUp inputs
  set : set_of new ≡ (runs inputs (set_of old)).set
  told : circuits_told (drop (length old.station.entries) new.station.entries) ≡ (runs inputs (set_of old)).told
  rest : IsAtRest new

ran : (old new : NodeState) → IsAtRest old → RunsOn old.station new.station → Goes old new
ran old new a r = record {
  inputs = r.inputs;
  allowed = r.allowed;
  up = r.up;
  set = ap (λ (w : Waiting). w.set) r.set;
  told = ap circuits_told (ap (drop (length old.station.entries)) r.entries ∙ drop_all old.station.entries r.more) ∙ r.told;
  rest = record {
    told = r.set ∙ ap at_rest (sym (ap (λ (w : Waiting). w.set) r.set));
    own = r.own ∙ (a.own ∙ sym (ap (λ (s : Settings). s.call) r.settings));
  };
}

-- its circuits stay as they are
stays : (old new : NodeState) → IsAtRest old → new.station.set ≡ old.station.set → new.station.settings.call ≡ old.station.settings.call
    → drop (length old.station.entries) new.station.entries ≡ [] → Goes old new
stays old new a set call none = record {
  inputs = [];
  allowed = tt;
  up = tt;
  set = ap (λ (w : Waiting). w.set) set;
  told = ap circuits_told none;
  rest = record {
    told = set ∙ (a.told ∙ ap (λ (w : Waiting). at_rest w.set) (sym set));
    own = ap (λ (w : Waiting). w.set.own) set ∙ (a.own ∙ sym call);
  };
}

frame_fetched : (own : List Written) (n : NodeState) → IsAtRest n → Goes n (record n { station = fetch_own own n.station })
frame_fetched [] n a = stays n (record n { station = fetch_own [] n.station }) a refl refl (drop_same n.station.entries)
frame_fetched (f ∷ fs) n a = stays n (record n { station = fetch_own (f ∷ fs) n.station }) a refl refl (drop_same n.station.entries)

module _ (bytes : BytesRun) (ticks : TicksRun) (acts : ActsRun) (are_steps : InputsAreSteps) where
  goes : (i : Input) (n : NodeState) → AsksForCall i → IsAtRest n → Goes n (after i n)
  goes (Bytes now octets) n asks a = ran n _ a (bytes now octets n a.told).run
  goes (Ticks now) n asks a = ran n _ a (ticks now n a.told).run
  goes (Acts now act) n asks a = ran n _ a (acts now act n asks a.told).run
  goes (Paths peer path) n asks a = stays n _ a refl refl (drop_same n.station.entries)
  goes (Qualities neighbour quality) n asks a = stays n _ a refl refl (drop_same n.station.entries)
  goes Fetches_frame n asks a = frame_fetched n.station.own n a
  goes Fetches_entry n asks a = stays n _ a refl refl (drop_fewer n.station.entries)

-- ---- steps of several sets

run_both : (xs ys : List Step) (ss : List SetState) → sets_run ss (xs ++ ys) ≡ sets_run (sets_run ss xs) ys
run_both [] ys ss = refl
run_both (st ∷ xs) ys ss = run_both xs ys (sets_at ss st.node (slice_get ss st.node) st.act)

events_both : (xs ys : List Step) (ss : List SetState) → events_of ss (xs ++ ys) ≡ events_of ss xs ++ events_of (sets_run ss xs) ys
events_both [] ys ss = refl
events_both (st ∷ xs) ys ss =
    let next : List SetState = sets_at ss st.node (slice_get ss st.node) st.act in
    let now : List Event = sets.told_at ss st.node (slice_get ss st.node) st.act in
    ap (λ es. now ++ es) (events_both xs ys next) ∙ sym (append_assoc now (events_of next xs) (events_of (sets_run next xs) ys))

are_both : (xs ys : List Step) → AreSteps xs → AreSteps ys → AreSteps (xs ++ ys)
are_both [] ys a b = b
are_both (x ∷ xs) ys a b = (a.0, are_both xs ys a.1 b)

are_at : (node : ℕ) (inputs : List Act) → AllByRecursion IsAct inputs → AreSteps (steps_at node inputs)
are_at node [] a = tt
are_at node (x ∷ xs) a = (a.0, are_at node xs a.1)

up_at : (node : ℕ) (inputs : List Act) → AllByRecursion IsUp inputs → AllByRecursion (λ (st : Step). IsUp st.act) (steps_at node inputs)
up_at node [] a = tt
up_at node (x ∷ xs) a = (a.0, up_at node xs a.1)

-- ---- all that happens

record Runs (ns : List NodeState) (hs : List Happening) : Type 0 where
  steps : List Step
  are : AreSteps steps
  up : AllByRecursion (λ (st : Step). IsUp st.act) steps
  circuits : sets_run (circuits_of ns) steps ≡ circuits_of (nodes_after hs ns)
  told : events_of (circuits_of ns) steps ≡ told_by hs ns

abbrev next : Happening → List NodeState → List NodeState
next h ns = at_place h.member (after h.input) ns

-- where no such member stands nothing happens
runs_none : (h : Happening) (hs : List Happening) (ns : List NodeState) → slice_get ns h.member ≡ None → Runs ns hs → Runs ns (h ∷ hs)
runs_none h hs ns e r =
    let same : next h ns ≡ ns = place_none ns h.member (after h.input) e in
    record {
      steps = r.steps;
      are = r.are;
      up = r.up;
      circuits = r.circuits ∙ ap (λ ms. circuits_of (nodes_after hs ms)) (sym same);
      told = r.told ∙ (ap (told_by hs) (sym same) ∙ sym (ap (λ o. told_at h.member h.input o ++ told_by hs (next h ns)) e));
    }

runs_some : InputsAreSteps → (h : Happening) (hs : List Happening) (ns : List NodeState) (n : NodeState) → slice_get ns h.member ≡ Some n → IsAtRest n
    → Goes n (after h.input n) → Runs (next h ns) hs → Runs ns (h ∷ hs)
runs_some are_steps h hs ns n e a g r =
    let ss : List SetState = circuits_of ns in
    let xs : List Step = steps_at h.member g.inputs in
    let here : slice_get ss h.member ≡ Some (set_of n) = get_map set_of ns h.member ∙ ap (option_map set_of) e in
    let of : StepsOf ss h.member (set_of n) g.inputs = are_steps ss h.member (set_of n) g.inputs here in
    let then : sets_run ss xs ≡ circuits_of (next h ns) =
    of.sets_then ∙ (ap (slice_set ss h.member) (sym g.set) ∙ place_map set_of ns h.member (after h.input) n e)
    in
    let first : events_of ss xs ≡ told_at h.member h.input (slice_get ns h.member) =
    of.events
    ∙ (ap (λ (own : Callsign). events_at h.member own (runs g.inputs (set_of n)).told) a.own
    ∙ (ap (events_at h.member n.station.settings.call) (sym g.told) ∙ sym (ap (told_at h.member h.input) e)))
    in
    record {
      steps = xs ++ r.steps;
      are = are_both xs r.steps (are_at h.member g.inputs g.allowed) r.are;
      up = each_append (λ (st : Step). IsUp st.act) xs r.steps (up_at h.member g.inputs g.up) r.up;
      circuits = run_both xs r.steps ss ∙ (ap (λ ts. sets_run ts r.steps) then ∙ r.circuits);
      told =
          events_both xs r.steps ss
          ∙ (ap (λ es. es ++ events_of (sets_run ss xs) r.steps) first
          ∙ ap (λ es. told_at h.member h.input (slice_get ns h.member) ++ es) (ap (λ ts. events_of ts r.steps) then ∙ r.told));
    }

module _ (bytes : BytesRun) (ticks : TicksRun) (acts : ActsRun) (are_steps : InputsAreSteps) where
  runs_on : (hs : List Happening) (ns : List NodeState) → AllByRecursion (λ (h : Happening). AsksForCall h.input) hs → AllByRecursion IsAtRest ns → Runs ns hs
  runs_on [] ns asks all = record { steps = []; are = tt; up = tt; circuits = refl; told = refl }
  runs_on (h ∷ hs) ns asks all = by (slice_get ns h.member) refl (λ ms rest. runs_on hs ms asks.1 rest)
    where
      by : (o : Option NodeState) → slice_get ns h.member ≡ o → ((ms : List NodeState) → AllByRecursion IsAtRest ms → Runs ms hs) → Runs ns (h ∷ hs)
      by None e more = runs_none h hs ns e (more ns all)
      by (Some n) e more =
          let rests : IsAtRest n = each_at IsAtRest ns h.member n all e in
          let g : Goes n (after h.input n) = goes bytes ticks acts are_steps h.input n asks.0 rests in
          runs_some are_steps h hs ns n e rests g (more (next h ns) (place_all IsAtRest ns h.member (after h.input) n e g.rest all))

-- ---- stations

all_start : (cs : List NodeConfig) → AllByRecursion IsMade cs → AreStarts (circuits_of (map hosting_node cs))
all_start [] made = tt
all_start (c ∷ cs) made =
    let call = made.0.0 in
    let good = made.0.1 in
    (record { own = call; user = call; config = good.ends; pair = good.pair; first = good.first; none = refl }, all_start cs made.1)

all_rest : (cs : List NodeConfig) → AllByRecursion IsAtRest (map hosting_node cs)
all_rest [] = tt
all_rest (c ∷ cs) = (record { told = refl; own = refl }, all_rest cs)

all_made : (ss : List Station) → AllByRecursion IsStation ss → AllByRecursion IsMade (made_in ss)
all_made [] are = tt
all_made (s ∷ ss) are = each_append IsMade (state_of s).made (made_in ss) (station_asks s are.0).made (all_made ss are.1)

inputs_ask : (at : ℕ) (gs : List Given) → AllByRecursion (λ (g : Given). AsksForCall g.input) gs → AllByRecursion AsksForCall (inputs_of at gs)
inputs_ask at [] asks = tt
inputs_ask at (g ∷ gs) asks = by (g.to == at) (inputs_ask at gs asks.1)
  where
    by : (b : Bool) → AllByRecursion AsksForCall (inputs_of at gs) → AllByRecursion AsksForCall (cond b (g.input ∷ inputs_of at gs) (inputs_of at gs))
    by true rest = (asks.0, rest)
    by false rest = rest

given_ask : (ss : List Station) → AllByRecursion IsStation ss → (n : ℕ) → AllByRecursion AsksForCall (given_in n ss)
given_ask [] are n = tt
given_ask (s ∷ ss) are n = by (nat_lt n (length (state_of s).nodes)) (given_ask ss are.1 (n - length (state_of s).nodes))
  where
    by : (b : Bool) → AllByRecursion AsksForCall (given_in (n - length (state_of s).nodes) ss)
        → AllByRecursion AsksForCall (cond b (inputs_of n (state_of s).given) (given_in (n - length (state_of s).nodes) ss))
    by true rest = inputs_ask n (state_of s).given (station_asks s are.0).given
    by false rest = rest

-- each asks for calls where what happens to each member does
first_asks : (b : Bool) (i : Input) (is : List Input) → b ≡ true → AllByRecursion AsksForCall (cond b (i ∷ is) is) → AsksForCall i
first_asks true i is e asks = asks.0
first_asks false i is e asks = absurd (cc e)

others_ask : (b : Bool) (i : Input) (is : List Input) → AllByRecursion AsksForCall (cond b (i ∷ is) is) → AllByRecursion AsksForCall is
others_ask true i is asks = asks.1
others_ask false i is asks = asks

all_ask : (hs : List Happening) → ((n : ℕ) → AllByRecursion AsksForCall (inputs_to n hs)) → AllByRecursion (λ (h : Happening). AsksForCall h.input) hs
all_ask [] asks = tt
all_ask (h ∷ hs) asks =
    let own : (h.member == h.member) ≡ true = grind (arith, nat_tests) in (
      first_asks (h.member == h.member) h.input (inputs_to h.member hs) own (asks h.member),
      all_ask hs (λ n. others_ask (h.member == n) h.input (inputs_to n hs) (asks n)),
    )

pub are_circuit_runs : BytesRun → TicksRun → ActsRun → InputsAreSteps → StationsAreCircuitRuns
are_circuit_runs bytes ticks acts are_steps stations are all order done later is =
    let asks = all_ask all (λ n. subst (AllByRecursion AsksForCall) (sym (order n)) (given_ask stations are n)) in
    let front = all_parts (λ (h : Happening). AsksForCall h.input) done later (subst (AllByRecursion (λ (h : Happening). AsksForCall h.input)) is asks) in
    let r : Runs (started_in stations) done = runs_on bytes ticks acts are_steps done (started_in stations) front.0 (all_rest (made_in stations)) in
    record { starts = all_start (made_in stations) (all_made stations are); steps = r.steps; are = r.are; up = r.up; circuits = r.circuits; told = r.told }
