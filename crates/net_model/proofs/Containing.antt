-- What happens in a network is a run of its nodes' circuits: line by line, and move by move.
use Rattle.std.proofs.Common.{◌≡◌, ◌∙◌, ◌+◌, ◌-◌, ◌≤◌, ℕ, zero, suc, refl, sym, ap, subst, arith, List, [], ◌∷◌, ◌++◌, length, append_assoc, append-nil, map, Bool, true, false, cond}
use Rattle.std.specs.Prelude.{◌≢◌, ◌==◌, nat_eq, not, slice_get, slice_set, Option, Some, None}
use Rattle.std.specs.List.{AllByRecursion, position_or_len}
use Rattle.std.proofs.lemmas.List.{map-append}
use Rattle.circuit_l4.specs.declared.config.EndConfig.{EndConfig}
use Rattle.circuit_table.specs.Givings.{IsUp}
use Rattle.circuit_table.specs.Pumps.{runs, at_rest}
use Rattle.circuit_table.specs.Pumps as pumps
use Rattle.circuit_table.specs.Runs as net
use Rattle.circuit_table.specs.Runs.{AreSteps, IsAct, Step, sets_at, sets_run}
use Rattle.circuit_table.specs.Sets as sets
use Rattle.circuit_table.specs.Sets.{Act, Holder, SetState, CircuitTold}
use Rattle.network_file.specs.declared.plan.declarations.Declaration.{Declaration}
use Rattle.network_file.specs.declared.plan.keys.Key.TheVariants.{TimeToLive}
use Rattle.network_file.specs.Plan.{Plan}
use Rattle.network_file.specs.Keys.{value_of}
use Rattle.node_core.specs.Runs.{InputsAreSteps, StepsOf, steps_at}
use Rattle.node_model.specs.States as states
use Rattle.net_model.specs.declared.ends.EndRecord.{EndRecord}
use Rattle.net_model.specs.SoundPlans.{first_sets, set_of}
use Rattle.net_model.specs.Circuits as circuits
use Rattle.net_model.specs.Circuits.{CircuitEvent}
use Rattle.net_model.specs.Ends.{ends_of, note_event, note_events, with_offered}
use Rattle.net_model.specs.Events as events
use Rattle.net_model.specs.Events.{Event, NumberedEvent}
use Rattle.net_model.specs.Starting.{Placed, new_nodes, has_number}
use Rattle.node_settings.specs.Settings.{config_of}
use Rattle.net_model.specs.World.{is_node, numbered, place_of_node}
use Rattle.net_model.proofs.Remembering.{Past, Rising, lift}
use Rattle.net_model.proofs.Changing.{get_set, get_other, map_set}

-- ---- steps of several sets

pub run_append : (xs ys : List Step) (ss : List SetState) → sets_run ss (xs ++ ys) ≡ sets_run (sets_run ss xs) ys
run_append [] ys ss = refl
run_append (st ∷ xs) ys ss = run_append xs ys (sets_at ss st.node (slice_get ss st.node) st.act)

pub events_append : (xs ys : List Step) (ss : List SetState) → net.events_of ss (xs ++ ys) ≡ net.events_of ss xs ++ net.events_of (sets_run ss xs) ys
events_append [] ys ss = refl
events_append (st ∷ xs) ys ss =
    ap (λ es. net.told_at ss st.node (slice_get ss st.node) st.act ++ es) (events_append xs ys (sets_at ss st.node (slice_get ss st.node) st.act))
    ∙ sym (append_assoc (net.told_at ss st.node (slice_get ss st.node) st.act) (net.events_of (sets_at ss st.node (slice_get ss st.node) st.act) xs)
    (net.events_of (sets_run (sets_at ss st.node (slice_get ss st.node) st.act) xs) ys))

pub are_append : (xs ys : List Step) → AreSteps xs → AreSteps ys → AreSteps (xs ++ ys)
are_append [] ys a b = b
are_append (x ∷ xs) ys a b = (a.0, are_append xs ys a.1 b)

pub are_at : (node : ℕ) (inputs : List Act) → AllByRecursion IsAct inputs → AreSteps (steps_at node inputs)
are_at node [] a = tt
are_at node (x ∷ xs) a = (a.0, are_at node xs a.1)

pub up_append : (xs ys : List Step) → AllByRecursion (λ (st : Step). IsUp st.act) xs → AllByRecursion (λ (st : Step). IsUp st.act) ys → AllByRecursion (λ (st : Step). IsUp st.act) (xs ++ ys)
up_append [] ys a b = b
up_append (x ∷ xs) ys a b = (a.0, up_append xs ys a.1 b)

pub up_at : (node : ℕ) (inputs : List Act) → AllByRecursion IsUp inputs → AllByRecursion (λ (st : Step). IsUp st.act) (steps_at node inputs)
up_at node [] a = tt
up_at node (x ∷ xs) a = (a.0, up_at node xs a.1)

-- ---- names of nodes

abbrev pub names : List Placed → List Declaration
names nodes = map (λ p. p.declared) nodes

pub place_named : (number : ℕ) (nodes : List Placed) → place_of_node number nodes ≡ position_or_len (has_number number) (names nodes)
place_named number [] = refl
place_named number (p ∷ nodes) = ap (λ n. cond (not (is_node number p)) (1 + n) 0) (place_named number nodes)

-- what is told of circuits, by the names of the nodes alone
abbrev pub at_name : ℕ → ℕ → Option Declaration → CircuitTold → List CircuitEvent
at_name line at None told = []
at_name line at (Some d) told = record { line = line; event = record { node = at; own = d.call; told = told } } ∷ []

abbrev pub told_by : List Declaration → ℕ → ℕ → CircuitTold → List CircuitEvent
told_by ds line number told = at_name line (position_or_len (has_number number) ds) (slice_get ds (position_or_len (has_number number) ds)) told

abbrev pub event_by : List Declaration → ℕ → Event → List CircuitEvent
event_by ds line (events.Entry node (states.Of_set (pumps.Of told))) = told_by ds line node told
event_by ds line (events.Restarted node pair) = told_by ds line node (sets.Restarted pair)
event_by ds line (events.Lost node end facts) = told_by ds line node (sets.Lost end facts)
event_by ds line event = []

abbrev pub events_by : List Declaration → List NumberedEvent → List CircuitEvent
events_by ds [] = []
events_by ds (e ∷ es) = event_by ds e.line e.event ++ events_by ds es

pub at_named : (nodes : List Placed) (line at k : ℕ) (told : CircuitTold) → circuits.at_node line at (slice_get nodes k) told ≡ at_name line at (slice_get (names nodes) k) told
at_named [] line at k told = refl
at_named (p ∷ nodes) line at zero told = refl
at_named (p ∷ nodes) line at (suc k) told = at_named nodes line at k told

pub told_named : (nodes : List Placed) (line number : ℕ) (told : CircuitTold) → circuits.told_at nodes line number told ≡ told_by (names nodes) line number told
told_named nodes line number told =
    ap (λ k. circuits.at_node line k (slice_get nodes k) told) (place_named number nodes)
    ∙ at_named nodes line (position_or_len (has_number number) (names nodes)) (position_or_len (has_number number) (names nodes)) told

pub event_named : (nodes : List Placed) (line : ℕ) (e : Event) → circuits.event_at nodes line e ≡ event_by (names nodes) line e
event_named nodes line (events.Entry node (states.Of_set (pumps.Of told))) = told_named nodes line node told
event_named nodes line (events.Entry node (states.Of_set (pumps.Dropped routed))) = refl
event_named nodes line (events.Entry node (states.Of_set (pumps.Lost call))) = refl
event_named nodes line (events.Entry node (states.Of_link peer notice)) = refl
event_named nodes line (events.Entry node (states.Overflow live would_be)) = refl
event_named nodes line (events.Restarted node pair) = told_named nodes line node (sets.Restarted pair)
event_named nodes line (events.Lost node end facts) = told_named nodes line node (sets.Lost end facts)
event_named nodes line other = refl

pub events_named : (nodes : List Placed) (es : List NumberedEvent) → circuits.events_at nodes es ≡ events_by (names nodes) es
events_named nodes [] = refl
events_named nodes (e ∷ es) =
    ap (λ xs. xs ++ circuits.events_at nodes es) (event_named nodes e.line e.event) ∙ ap (λ xs. event_by (names nodes) e.line e.event ++ xs) (events_named nodes es)

pub events_by_append : (ds : List Declaration) (xs ys : List NumberedEvent) → events_by ds (xs ++ ys) ≡ events_by ds xs ++ events_by ds ys
events_by_append ds [] ys = refl
events_by_append ds (x ∷ xs) ys =
    ap (λ es. event_by ds x.line x.event ++ es) (events_by_append ds xs ys) ∙ sym (append_assoc (event_by ds x.line x.event) (events_by ds xs) (events_by ds ys))

pub note_append : (number : ℕ) (xs ys : List NumberedEvent) (ends : List EndRecord) → note_events number (xs ++ ys) ends ≡ note_events number ys (note_events number xs ends)
note_append number [] ys ends = refl
note_append number (x ∷ xs) ys ends = note_append number xs ys (note_event number x.event ends)

-- ---- events that tell nothing of circuits

abbrev pub IsQuiet : Event → Type 0
IsQuiet (events.Entry node entry) = ⊥
IsQuiet (events.Restarted node pair) = ⊥
IsQuiet (events.Lost node end facts) = ⊥
IsQuiet event = Unit {0}

pub quiet_event : (ds : List Declaration) (line : ℕ) (e : Event) → IsQuiet e → event_by ds line e ≡ []
quiet_event ds line (events.Entry node entry) q = absurd q
quiet_event ds line (events.Restarted node pair) q = absurd q
quiet_event ds line (events.Lost node end facts) q = absurd q
quiet_event ds line other q = refl

offered_length : (mail at : ℕ) (ends : List EndRecord) → length (with_offered mail at ends) ≡ length ends
offered_length mail at [] = refl
offered_length mail zero (e ∷ ends) = refl
offered_length mail (suc at) (e ∷ ends) = ap suc (offered_length mail at ends)

either_length : (b : Bool) (new ends : List EndRecord) → length new ≡ length ends → length (cond b new ends) ≡ length ends
either_length true new ends e = e
either_length false new ends e = refl

-- they make no ends
pub quiet_note : (number : ℕ) (e : Event) (ends : List EndRecord) → IsQuiet e → length (note_event number e ends) ≡ length ends
quiet_note number (events.Entry node entry) ends q = absurd q
quiet_note number (events.Restarted node pair) ends q = absurd q
quiet_note number (events.Lost node end facts) ends q = absurd q
quiet_note number (events.Offered node end mail) ends q = either_length (node == number) (with_offered mail (end - 1) ends) ends (offered_length mail (end - 1) ends)
quiet_note number other ends q = refl

pub quiet_events : (ds : List Declaration) (line : ℕ) (es : List Event) → AllByRecursion IsQuiet es → events_by ds (map (numbered line) es) ≡ []
quiet_events ds line [] q = refl
quiet_events ds line (e ∷ es) q = ap (λ xs. xs ++ events_by ds (map (numbered line) es)) (quiet_event ds line e q.0) ∙ quiet_events ds line es q.1

pub quiet_notes : (number line : ℕ) (es : List Event) (ends : List EndRecord) → AllByRecursion IsQuiet es
    → length (note_events number (map (numbered line) es) ends) ≡ length ends
quiet_notes number line [] ends q = refl
quiet_notes number line (e ∷ es) ends q = quiet_notes number line es (note_event number e ends) q.1 ∙ quiet_note number e ends q.0

-- ---- events by which no node starts again

abbrev pub IsOn : Event → Type 0
IsOn (events.Restarted node pair) = ⊥
IsOn event = Unit {0}

abbrev pub AreOn : List NumberedEvent → Type 0
AreOn es = AllByRecursion (λ (e : NumberedEvent). IsOn e.event) es

pub on_parts : (xs ys : List NumberedEvent) → AreOn (xs ++ ys) → AreOn xs × AreOn ys
on_parts [] ys a = (tt, a)
on_parts (x ∷ xs) ys a = let r = on_parts xs ys a.1 in ((a.0, r.0), r.1)

pub on_both : (xs ys : List NumberedEvent) → AreOn xs → AreOn ys → AreOn (xs ++ ys)
on_both [] ys a b = b
on_both (x ∷ xs) ys a b = (a.0, on_both xs ys a.1 b)

-- ---- a node and its circuits in the run

-- the settings with which its circuits start
abbrev pub ends_config : Plan → Declaration → EndConfig
ends_config plan d = (config_of plan.settings d (record { index = 1; ident = 1 }) 1).ends

pub record Tracks (plan : Plan) (told : List NumberedEvent) (s : SetState) (p : Placed) : Type 0 where
  pub past : List Holder
  pub base : ℕ
  pub some : 1 ≤ base
  pub lost : Past base past
  pub is : s ≡ lift past (set_of p)
  pub rises : Rising base (set_of p).ends (set_of p).number
  pub rest : p.state.station.set ≡ at_rest (set_of p)
  pub heard : p.state.station.entries ≡ []
  pub number : (set_of p).number ≡ length (ends_of p.declared.node told) + 1
  pub own : (set_of p).own ≡ p.declared.call
  pub ttl : (set_of p).ttl ≡ value_of plan.settings p.declared.node TimeToLive
  pub user : (set_of p).user ≡ p.declared.call
  pub config : (set_of p).config ≡ ends_config plan p.declared

pub record TracksAt (plan : Plan) (told : List NumberedEvent) (ss : List SetState) (at : ℕ) (p : Placed) : Type 0 where
  pub set : SetState
  pub here : slice_get ss at ≡ Some set
  pub tracks : Tracks plan told set p

-- no two nodes have one number
abbrev pub AreApart : List Declaration → Type 0
AreApart ds = (at : ℕ) (d : Declaration) → slice_get ds at ≡ Some d → position_or_len (has_number d.node) ds ≡ at

pub name_at : (nodes : List Placed) (at : ℕ) (p : Placed) → slice_get nodes at ≡ Some p → slice_get (names nodes) at ≡ Some p.declared
name_at [] at p e = absurd (cc e)
name_at (q ∷ nodes) zero p e = let same : q ≡ p = cc e in ap (λ (x : Placed). Some x.declared) same
name_at (q ∷ nodes) (suc at) p e = name_at nodes at p e

-- the nodes and the events of a world, at the end of these steps
pub record Contains (plan : Plan) (steps : List Step) (nodes : List Placed) (told : List NumberedEvent) : Type 0 where
  pub are : AreSteps steps
  pub up : AreOn told → AllByRecursion (λ (st : Step). IsUp st.act) steps
  pub names_are : names nodes ≡ names (new_nodes plan)
  pub tracks : (at : ℕ) (p : Placed) → slice_get nodes at ≡ Some p → TracksAt plan told (sets_run (first_sets plan) steps) at p
  pub events_are : map (λ (e : CircuitEvent). e.event) (events_by (names (new_nodes plan)) told) ≡ net.events_of (first_sets plan) steps

-- the same node, of which others' events make no ends
pub retold : (plan : Plan) (told told2 : List NumberedEvent) (s : SetState) (p : Placed) → length (ends_of p.declared.node told2) ≡ length (ends_of p.declared.node told) → Tracks plan told s p → Tracks plan told2 s p
retold plan told told2 s p e t = record {
  past = t.past;
  base = t.base;
  some = t.some;
  lost = t.lost;
  is = t.is;
  rises = t.rises;
  rest = t.rest;
  heard = t.heard;
  number = t.number ∙ ap (λ n. n + 1) (sym e);
  own = t.own;
  ttl = t.ttl;
  user = t.user;
  config = t.config;
}

-- the node at a place has taken inputs
pub record Comes (plan : Plan) (told : List NumberedEvent) (at : ℕ) (p q : Placed) (s : SetState) (inputs : List Act) (es : List NumberedEvent) : Type 0 where
  pub declared : q.declared ≡ p.declared
  pub allowed : AllByRecursion IsAct inputs
  pub up : AreOn es → AllByRecursion IsUp inputs
  pub tracks : Tracks plan (told ++ es) (runs inputs s).set q
  pub tells : map (λ (e : CircuitEvent). e.event) (events_by (names (new_nodes plan)) es) ≡ net.events_at at s.own (runs inputs s).told
  pub others : (n : ℕ) → n ≢ p.declared.node → length (ends_of n (told ++ es)) ≡ length (ends_of n told)

module _ (plan : Plan) (apart : AreApart (names (new_nodes plan))) (are_steps : InputsAreSteps) where
  pub place_is : (steps : List Step) (nodes : List Placed) (told : List NumberedEvent) (at : ℕ) (p : Placed) → Contains plan steps nodes told → slice_get nodes at ≡ Some p
      → position_or_len (has_number p.declared.node) (names (new_nodes plan)) ≡ at
  place_is steps nodes told at p c e =
      apart at p.declared (ap (λ ds. slice_get ds at) (sym c.names_are) ∙ name_at nodes at p e)

  pub other_number : (steps : List Step) (nodes : List Placed) (told : List NumberedEvent) (at k : ℕ) (p r : Placed) → Contains plan steps nodes told → slice_get nodes at ≡ Some p → slice_get nodes k ≡ Some r
      → at ≢ k → r.declared.node ≢ p.declared.node
  other_number steps nodes told at k p r c e f n same =
      n (sym (place_is steps nodes told at p c e) ∙ (ap (λ m. position_or_len (has_number m) (names (new_nodes plan))) (sym same) ∙ place_is steps nodes told k r c f))

  pub comes_at : (steps : List Step) (nodes : List Placed) (told es : List NumberedEvent) (at : ℕ) (p q : Placed) (s : SetState) (inputs : List Act) → Contains plan steps nodes told
      → slice_get nodes at ≡ Some p → slice_get (sets_run (first_sets plan) steps) at ≡ Some s → Comes plan told at p q s inputs es
      → (k : ℕ) (r : Placed) → slice_get (slice_set nodes at q) k ≡ Some r → (b : Bool) → nat_eq at k ≡ b
      → TracksAt plan (told ++ es) (slice_set (sets_run (first_sets plan) steps) at (runs inputs s).set) k r
  comes_at steps nodes told es at p q s inputs c e here m k r f true b =
      let same : at ≡ k = grind (arith, b) in
      let is : q ≡ r = let some : Some q ≡ Some r = sym (get_set nodes at p q e) ∙ (ap (slice_get (slice_set nodes at q)) same ∙ f) in cc some in
      record {
        set = (runs inputs s).set;
        here = ap (slice_get (slice_set (sets_run (first_sets plan) steps) at (runs inputs s).set)) (sym same) ∙ get_set (sets_run (first_sets plan) steps) at s (runs inputs s).set here;
        tracks = subst (Tracks plan (told ++ es) (runs inputs s).set) is m.tracks;
      }
  comes_at steps nodes told es at p q s inputs c e here m k r f false b =
      let apart_are : at ≢ k = λ same. (let bad : ⊥ = grind (arith, b, same) in bad) in
      let old : slice_get nodes k ≡ Some r = sym (get_other nodes at k q apart_are) ∙ f in
      let t : TracksAt plan told (sets_run (first_sets plan) steps) k r = c.tracks k r old in
      record {
        set = t.set;
        here = get_other (sets_run (first_sets plan) steps) at k (runs inputs s).set apart_are ∙ t.here;
        tracks = retold plan told (told ++ es) t.set r (m.others r.declared.node (other_number steps nodes told at k p r c e old apart_are)) t.tracks;
      }

  pub comes_contains : (steps : List Step) (nodes : List Placed) (told es : List NumberedEvent) (at : ℕ) (p q : Placed) (s : SetState) (inputs : List Act) → Contains plan steps nodes told
      → slice_get nodes at ≡ Some p → slice_get (sets_run (first_sets plan) steps) at ≡ Some s → Comes plan told at p q s inputs es
      → Contains plan (steps ++ steps_at at inputs) (slice_set nodes at q) (told ++ es)
  comes_contains steps nodes told es at p q s inputs c e here m =
      let of : StepsOf (sets_run (first_sets plan) steps) at s inputs = are_steps (sets_run (first_sets plan) steps) at s inputs here in
      let then : sets_run (first_sets plan) (steps ++ steps_at at inputs) ≡ slice_set (sets_run (first_sets plan) steps) at (runs inputs s).set =
      run_append steps (steps_at at inputs) (first_sets plan)
      ∙ of.sets_then in
      record {
        are = are_append steps (steps_at at inputs) c.are (are_at at inputs m.allowed);
        up = λ on. (let parts = on_parts told es on in up_append steps (steps_at at inputs) (c.up parts.0) (up_at at inputs (m.up parts.1)));
        names_are = map_set (λ (x : Placed). x.declared) nodes at p q e m.declared ∙ c.names_are;
        tracks = λ k r f. subst (λ ss. TracksAt plan (told ++ es) ss k r) (sym then) (comes_at steps nodes told es at p q s inputs c e here m k r f (nat_eq at k) refl);
        events_are =
            ap (map (λ (x : CircuitEvent). x.event)) (events_by_append (names (new_nodes plan)) told es)
            ∙ (map-append (λ (x : CircuitEvent). x.event) (events_by (names (new_nodes plan)) told) (events_by (names (new_nodes plan)) es)
            ∙ (ap (λ xs. xs ++ map (λ (x : CircuitEvent). x.event) (events_by (names (new_nodes plan)) es)) c.events_are
            ∙ (ap (λ xs. net.events_of (first_sets plan) steps ++ xs) (m.tells ∙ sym of.events)
            ∙ sym (events_append steps (steps_at at inputs) (first_sets plan)))));
      }

  -- events that tell nothing of circuits change nothing of it
  pub quiet_contains : (steps : List Step) (nodes : List Placed) (told : List NumberedEvent) (line : ℕ) (es : List Event) → AllByRecursion IsQuiet es → Contains plan steps nodes told
      → Contains plan steps nodes (told ++ map (numbered line) es)
  quiet_contains steps nodes told line es quiet c = record {
    are = c.are;
    up = λ on. c.up (on_parts told (map (numbered line) es) on).0;
    names_are = c.names_are;
    tracks = λ k r f. (let t : TracksAt plan told (sets_run (first_sets plan) steps) k r = c.tracks k r f in
        record {
          set = t.set;
          here = t.here;
          tracks = retold plan told (told ++ map (numbered line) es) t.set r (ap length (note_append r.declared.node told (map (numbered line) es) []) ∙ quiet_notes r.declared.node line es (ends_of r.declared.node told) quiet) t.tracks;
        });
    events_are =
        ap (map (λ (x : CircuitEvent). x.event)) (events_by_append (names (new_nodes plan)) told (map (numbered line) es)
        ∙ (ap (λ xs. events_by (names (new_nodes plan)) told ++ xs) (quiet_events (names (new_nodes plan)) line es quiet) ∙ append-nil (events_by (names (new_nodes plan)) told)))
        ∙ c.events_are;
  }
