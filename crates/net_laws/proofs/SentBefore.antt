-- Each datagram that reaches its node was sent before.
use Rattle.std.proofs.Common.{◌≡◌, ◌∙◌, ℕ, zero, suc, refl, sym, ap, subst, List, [], ◌∷◌, ◌++◌, filter, map, inl, inr}
use Rattle.std.specs.Prelude.{◌==◌, ◌⊎◌, slice_get, Contains, Option, Some, None}
use Rattle.std.specs.List.{AllByRecursion}
use Rattle.ax_address.specs.Callsign.{Callsign, IsCallsign}
use Rattle.ax_address.specs.Octets.{SpelledNetCallIsRead, WrittenNetCallSpellsIt}
use Rattle.net_model.specs.Circuits.{CircuitEvent, circuit_events}
use Rattle.net_model.specs.Events.{NumberedEvent}
use Rattle.circuit_table.specs.Events as events
use Rattle.circuit_table.specs.Pairs.{IsPair}
use Rattle.circuit_table.specs.Runs as net
use Rattle.circuit_table.specs.Runs.{AreStarts, Step, events_of, sets_run}
use Rattle.circuit_set.specs.Heedings.{SetsHeedPartners}
use Rattle.circuit_set.specs.Refusals.{RefusalsAreUnheeded, SetsRefuseUnder0, StartsAreNumbered}
use Rattle.circuit_set.specs.Sendings.{IsFrom, SendsFrom, SetsSendTheirOwn}
use Rattle.circuit_table.specs.Sets as sets
use Rattle.circuit_table.specs.Sets.{SetState, CircuitTold}
use Rattle.link_table.specs.Reaching.{IsCall}
use Rattle.radio_base.specs.Modulus.{extended_if, modulus_size}
use Rattle.kiss_framing.specs.Laws.{FendParts, FramesReadBack, LongFramesAreTooLong}
use Rattle.network_file.specs.declared.plan.instructions.NumberedInstruction.{NumberedInstruction}
use Rattle.network_file.specs.declared.plan.declarations.Declaration.{Declaration}
use Rattle.network_file.specs.declared.plan.instructions.Instruction.{Instruction}
use Rattle.network_file.specs.declared.plan.instructions.Instruction.TheVariants as instructions
use Rattle.network_file.specs.declared.plan.keys.Key.TheVariants.{Modulo}
use Rattle.network_file.specs.Laws.{CallsAreCalls, DeclaredOnce, HasCalls, NamesCalls}
use Rattle.network_file.specs.Plan.{Plan}
use Rattle.network_file.specs.Keys.{value_of}
use Rattle.node_core.specs.Carried.{ActsCarry, BytesCarry, CarriedFurther, TicksCarry}
use Rattle.node_core.specs.Runs.{ActsRun, BytesRun, InputsAreSteps, TicksRun}
use Rattle.net_model.specs.SoundPlans.{IsInstruction, IsSound, first_sets, set_of}
use Rattle.net_laws.specs.Promises.{NetworksAreSound}
use Rattle.net_laws.specs.Datagrams.{DatagramsSent, IsOfModulus, SendsAll, WasSent}
use Rattle.net_model.specs.Lines.{do_lines}
use Rattle.net_model.specs.Starting.{Placed, by_number, has_number, new_nodes, new_placed}
use Rattle.net_model.specs.World.{World, start}
use Rattle.net_model.proofs.Containing.{AreApart, events_append, events_by, name_at, names}
use Rattle.net_laws.proofs.Lists as lists
use Rattle.net_laws.proofs.Flying as flying
use Rattle.net_laws.proofs.Flying.{Flies, NodeFlies}
use Rattle.net_laws.proofs.GoingOn.{lines_on}
use Rattle.net_laws.proofs.LineRuns as runs
use Rattle.net_model.proofs.LineWalks.{LineIs, lines_lead}
use Rattle.net_laws.proofs.Moving.{set_is}
use Rattle.net_laws.proofs.Origins.{origin_is, told_by_calls}
use Rattle.net_laws.proofs.Comings.{StepsCame, came_at}
use Rattle.net_laws.proofs.Heeding.{contains_map, heeded_came}
use Rattle.net_laws.proofs.ByEnds.{RefusesAt0, events_refuse, sent_by_end}
use Rattle.net_laws.proofs.Hopping.{Known, came_copy, came_ttl}

-- ---- what is sent is from its node

abbrev FromTold : Callsign → CircuitTold → Type 0
FromTold own (sets.Sent id number d) = (ttl : ℕ) × IsFrom own ttl d
FromTold own t = Unit {0}

abbrev FromNode : events.Event → Type 0
FromNode e = FromTold e.own e.told

at_from : (node : ℕ) (own : Callsign) (ttl : ℕ) (ts : List CircuitTold) → SendsFrom own ttl ts → AllByRecursion FromNode (net.events_at node own ts)
at_from node own ttl [] a = tt
at_from node own ttl (sets.Sent id number d ∷ ts) a = ((ttl, a.0), at_from node own ttl ts a.1)
at_from node own ttl (sets.Made id pair partner request ∷ ts) a = (tt, at_from node own ttl ts a)
at_from node own ttl (sets.Heeded id d ∷ ts) a = (tt, at_from node own ttl ts a)
at_from node own ttl (sets.Notice id notice ∷ ts) a = (tt, at_from node own ttl ts a)
at_from node own ttl (sets.Gone id facts ∷ ts) a = (tt, at_from node own ttl ts a)
at_from node own ttl (sets.Restarted pair ∷ ts) a = (tt, at_from node own ttl ts a)
at_from node own ttl (sets.Lost id facts ∷ ts) a = (tt, at_from node own ttl ts a)

step_from : SetsSendTheirOwn → (ss : List SetState) (node : ℕ) (o : Option SetState) (act : sets.Act) → AllByRecursion FromNode (net.told_at ss node o act)
step_from law ss node None act = tt
step_from law ss node (Some s) act = at_from node s.own s.ttl (sets.set_step s act).told (law s act)

events_from : SetsSendTheirOwn → (ss : List SetState) (steps : List Step) → AllByRecursion FromNode (events_of ss steps)
events_from law ss [] = tt
events_from law ss (st ∷ sts) =
    let then_sets = net.sets_at ss st.node (slice_get ss st.node) st.act in
    lists.both FromNode (net.told_at ss st.node (slice_get ss st.node) st.act) (events_of then_sets sts) (step_from law ss st.node (slice_get ss st.node) st.act) (events_from law then_sets sts)

-- ---- the nodes of the network

numbered_all : (P : Declaration → Type 0) (n : ℕ) (ds : List Declaration) → AllByRecursion P ds → AllByRecursion P (filter (has_number n) ds)
numbered_all P n ds a = lists.kept_by P (has_number n) ds a

pub by_number_all : (P : Declaration → Type 0) (ds : List Declaration) (count n : ℕ) → AllByRecursion P ds → AllByRecursion P (by_number ds n count)
unfolding by_number
by_number_all P ds zero n a = tt
by_number_all P ds (suc count) n a = lists.both P (filter (has_number n) ds) (by_number ds (suc n) count) (numbered_all P n ds a) (by_number_all P ds count (suc n) a)

pub own_calls : (plan : Plan) (ds : List Declaration) → AreStarts (map set_of (map (new_placed plan) ds)) → AllByRecursion (λ (d : Declaration). IsCall d.call) ds
own_calls plan [] s = tt
own_calls plan (d ∷ ds) s = (subst (λ (x : SetState). IsCallsign x.own.letters x.own.ssid) (set_is plan d (record { index = 1; ident = 1 }) 1) s.0.own, own_calls plan ds s.1)

size_is : (size k : ℕ) → (size ≡ 8) ⊎ (size ≡ 128) → k ≡ size → modulus_size (extended_if (k == 128)) ≡ size
size_is size k (inl e) f = rw (f, e) refl
size_is size k (inr e) f = rw (f, e) refl

module _ (sounds : NetworksAreSound) (are_steps : InputsAreSteps) (bytes : BytesRun) (ticks : TicksRun) (acts_run : ActsRun) (declared : DeclaredOnce) (calls_are : CallsAreCalls)
    (parts : FendParts) (read_back : FramesReadBack) (too_long : LongFramesAreTooLong) (bytes_carry : BytesCarry) (ticks_carry : TicksCarry) (acts_carry : ActsCarry) (further : CarriedFurther) (sendings : SetsSendTheirOwn) (heedings : SetsHeedPartners) (numbered : StartsAreNumbered) (refuse : SetsRefuseUnder0) (unheeded : RefusalsAreUnheeded) (written : WrittenNetCallSpellsIt) (read : SpelledNetCallIsRead) where
  abbrev IsNode : ℕ → Plan → Declaration → Type 0
  IsNode size plan d = IsCall d.call × (modulus_size (extended_if (value_of plan.settings d.node Modulo == 128)) ≡ size)

  both_all : (P Q : Declaration → Type 0) (ds : List Declaration) → AllByRecursion P ds → AllByRecursion Q ds → AllByRecursion (λ (d : Declaration). P d × Q d) ds
  both_all P Q [] a b = tt
  both_all P Q (d ∷ ds) a b = ((a.0, b.0), both_all P Q ds a.1 b.1)

  all_nodes : (size : ℕ) (plan : Plan) → IsSound plan → IsOfModulus size plan → AllByRecursion (IsNode size plan) (by_number plan.declared 1 16)
  all_nodes size plan sound of =
      both_all (λ (d : Declaration). IsCall d.call) (λ (d : Declaration). modulus_size (extended_if (value_of plan.settings d.node Modulo == 128)) ≡ size) (by_number plan.declared 1 16)
      (own_calls plan (by_number plan.declared 1 16) sound.starts)
      (by_number_all (λ (d : Declaration). modulus_size (extended_if (value_of plan.settings d.node Modulo == 128)) ≡ size) plan.declared 16 1
      (lists.every (λ (d : Declaration). value_of plan.settings d.node Modulo ≡ size) (λ (d : Declaration). modulus_size (extended_if (value_of plan.settings d.node Modulo == 128)) ≡ size)
      (λ d e. size_is size (value_of plan.settings d.node Modulo) of.modulus e) plan.declared of.nodes))

  line_is : (i : Instruction) → IsInstruction i → NamesCalls i → LineIs IsCall IsCall IsPair i
  line_is (instructions.Heard node call nodes) i n = n
  line_is (instructions.Lock node dest alias neighbour quality) i n = n
  line_is (instructions.Restart node pair) i n = i
  line_is (instructions.Open node dest) i n = i
  line_is other i n = tt

  lines_are : (ls : List NumberedInstruction) → AllByRecursion (λ (l : NumberedInstruction). IsInstruction l.instruction) ls → AllByRecursion (λ (l : NumberedInstruction). NamesCalls l.instruction) ls
      → AllByRecursion (λ (l : NumberedInstruction). LineIs IsCall IsCall IsPair l.instruction) ls
  lines_are [] a b = tt
  lines_are (l ∷ ls) a b = (line_is l.instruction a.0 b.0, lines_are ls a.1 b.1)

  module _ (size : ℕ) (plan : Plan) (sound : IsSound plan) (calls : HasCalls plan) (of : IsOfModulus size plan) (apart : AreApart (names (new_nodes plan))) where
    starts : (d : Declaration) (at : ℕ) → slice_get (names (new_nodes plan)) at ≡ Some d → IsNode size plan d
    starts d at e =
        lists.one_of (IsNode size plan) (by_number plan.declared 1 16) at d (all_nodes size plan sound of) (ap (λ ds. slice_get ds at) (sym (runs.placed_names plan (by_number plan.declared 1 16))) ∙ e)

    abbrev Under : List Step → World → Type 0
    Under steps w = Flies plan size apart are_steps bytes ticks acts_run parts read_back too_long bytes_carry ticks_carry acts_carry further of.modulus starts calls.vias steps w

    start_node : (at : ℕ) (p : Placed) → slice_get (new_nodes plan) at ≡ Some p
        → NodeFlies plan size apart are_steps bytes ticks acts_run parts read_back too_long bytes_carry ticks_carry acts_carry further of.modulus starts calls.vias [] [] p
    start_node at p e =
        let from = runs.placed_at plan apart are_steps bytes ticks acts_run (by_number plan.declared 1 16) at p e in
        let named : slice_get (names (new_nodes plan)) at ≡ Some from.0 = name_at (new_nodes plan) at p e ∙ ap (λ (x : Placed). Some x.declared) (sym from.1) in
        subst (NodeFlies plan size apart are_steps bytes ticks acts_run parts read_back too_long bytes_carry ticks_carry acts_carry further of.modulus starts calls.vias [] []) from.1
        (flying.started_flies plan size apart are_steps bytes ticks acts_run parts read_back too_long bytes_carry ticks_carry acts_carry further of.modulus starts calls.vias [] [] from.0 (record { index = 1; ident = 1 }) 1
        (starts from.0 at named))

    start_flies : Under [] (start plan)
    start_flies = record { contains = runs.start_contains plan apart are_steps bytes ticks acts_run; came = tt; nodes = start_node; air = tt; known = λ to d e. absurd (cc e) }

    -- what was told of circuits by some of the steps was told by calls
    front_calls : (before after steps : List Step) → steps ≡ before ++ after → (told : List NumberedEvent)
        → map (λ (x : CircuitEvent). x.event) (events_by (names (new_nodes plan)) told) ≡ events_of (first_sets plan) steps → AllByRecursion (λ (x : events.Event). IsCall x.own) (events_of (first_sets plan) before)
    front_calls before after steps e told are =
        let named : AllByRecursion (λ (d : Declaration). IsCall d.call) (names (new_nodes plan)) =
        subst (AllByRecursion (λ (d : Declaration). IsCall d.call)) (sym (runs.placed_names plan (by_number plan.declared 1 16))) (own_calls plan (by_number plan.declared 1 16) sound.starts) in
        lists.front (λ (x : events.Event). IsCall x.own) (events_of (first_sets plan) before) (events_of (sets_run (first_sets plan) before) after)
        (told_by_calls (names (new_nodes plan)) told _ named (are ∙ (ap (events_of (first_sets plan)) e ∙ events_append before after (first_sets plan))))

    through : (done later : List NumberedInstruction) → plan.instructions ≡ done ++ later → SendsAll plan size done
    through done later is =
        let goods = runs.front_all plan apart are_steps bytes ticks acts_run done later (λ (l : NumberedInstruction). IsInstruction l.instruction) (subst (AllByRecursion (λ (l : NumberedInstruction). IsInstruction l.instruction)) is sound.instructions) in
        let named = runs.front_all plan apart are_steps bytes ticks acts_run done later (λ (l : NumberedInstruction). NamesCalls l.instruction) (subst (AllByRecursion (λ (l : NumberedInstruction). NamesCalls l.instruction)) is calls.lines) in
        let w : World = do_lines plan done (start plan) in
        let a = lines_lead plan IsCall IsCall IsPair (flying.Goes plan size apart are_steps bytes ticks acts_run parts read_back too_long bytes_carry ticks_carry acts_carry further of.modulus starts calls.vias)
        (flying.moves plan size apart are_steps bytes ticks acts_run parts read_back too_long bytes_carry ticks_carry acts_carry further of.modulus starts calls.vias) done (start plan) (lines_are done goods.0 named.0) [] start_flies in
        let sent : (before after : List Step) (node now : ℕ) (d : List ℕ) → a.0 ≡ before ++ record { node = node; act = sets.Comes d now } ∷ after → WasSent plan size w.air before node d =
        λ before after node now d e.
        (let es : List events.Event = events_of (first_sets plan) before in
        let step : Step = record { node = node; act = sets.Comes d now } in
        let c = came_at plan size [] w.air (first_sets plan) before step after (subst (StepsCame plan size [] w.air (first_sets plan)) e a.1.came) in
        let k : Known plan size es w.air c.0.call d = c.2 in
        let event : events.Event = record { node = k.node; own = k.own; told = sets.Sent k.id k.number k.sent } in
        let was : FromNode event = lists.one_in FromNode es event (events_from sendings (first_sets plan) before) k.told in
        let call : IsCall k.own = lists.one_in (λ (x : events.Event). IsCall x.own) es event (front_calls before (step ∷ after) a.0 e w.told a.1.contains.events_are) k.told in
        let copy = came_copy plan size w.air k.own k.sent k.hops c.0.call d k.long k.came in
        record {
          sending = record { node = k.node; own = k.own; id = k.id; number = k.number; sent = k.sent; told = k.told; copy = copy };
          ttl = was.0;
          from = was.1;
          origin = λ head h. origin_is written read k.own was.0 k.sent d head call was.1 copy h;
          node = c.0;
          is = c.1;
          hops = k.hops;
          came = k.came;
          left = came_ttl plan size w.air k.own k.sent k.hops c.0.call d k.came;
        }) in
        record {
          steps = a.0;
          run = runs.is_run plan apart are_steps bytes ticks acts_run a.0 w a.1.contains;
          sent = sent;
          told = λ e id d c told.
              (let at = heeded_came heedings (first_sets plan) a.0 e.event id d (subst (λ xs. Contains xs e.event) (runs.is_run plan apart are_steps bytes ticks acts_run a.0 w a.1.contains).told (contains_map (λ (x : CircuitEvent). x.event) (circuit_events w) e c)) told in
              let was = sent at.0 at.1 e.event.node at.2 d at.3 in
              record {
                came = record { before = at.0; after = at.1; now = at.2; step = at.3; was = was };
                end = sent_by_end unheeded at.4 at.5 id was.sending.id d was.sending.sent at.6 was.sending.copy
                    (lists.one_in RefusesAt0 (events_of (first_sets plan) at.0) (record { node = was.sending.node; own = was.sending.own; told = sets.Sent was.sending.id was.sending.number was.sending.sent })
                    (events_refuse numbered refuse (first_sets plan) sound.starts at.0) was.sending.told);
              });
          heeded = λ before after step s e g. heedings s step.act;
          up = λ on. a.1.contains.up (lines_on plan done (start plan) goods.0 on tt);
        }

  pub datagrams_sent : DatagramsSent
  datagrams_sent bytes2 plan size e of done later is = through size plan (sounds bytes2 plan e) (calls_are bytes2 plan e) of (runs.nodes_apart plan (declared bytes2 plan e)) done later is
