-- The moves of a world are runs of its nodes' circuits.
use Rattle.std.proofs.Common.{◌≡◌, ◌∙◌, ◌+◌, ◌≤◌, ℕ, zero, suc, refl, sym, ap, subst, arith, List, [], ◌∷◌, ◌++◌, length, append_assoc, append-nil, map}
use Rattle.std.specs.Prelude.{slice_get, slice_set, Option, Some, None}
use Rattle.std.specs.List.{AllByRecursion}
use Rattle.radio_base.specs.declared.modulus.LinkModulus.{LinkModulus}
use Rattle.circuit_l4.specs.declared.pair.Pair.{Pair}
use Rattle.circuit_table.specs.Pumps.{runs, at_rest}
use Rattle.circuit_table.specs.Pairs.{IsPair}
use Rattle.circuit_table.specs.Runs as net
use Rattle.circuit_table.specs.Runs.{Step, sets_run}
use Rattle.circuit_table.specs.Sets as sets
use Rattle.circuit_table.specs.Sets.{SetState, all_gone, losses}
use Rattle.network_file.specs.Plan.{Plan}
use Rattle.node_core.specs.Runs.{ActsRun, BytesRun, InputsAreSteps, IsUserAct, RunsOn, TicksRun, steps_at}
use Rattle.node_model.specs.States.{NodeState}
use Rattle.net_model.specs.SoundPlans.{first_sets, set_of}
use Rattle.net_model.specs.Ends.{ends_of, note_events}
use Rattle.net_model.specs.Events as events
use Rattle.net_model.specs.Events.{Event, NumberedEvent}
use Rattle.net_model.specs.Lines.{losses_of, restart}
use Rattle.net_model.specs.Starting.{Placed, new_nodes}
use Rattle.net_model.specs.World as worlds
use Rattle.net_model.specs.World.{Bytes, Input, Time, World, after, aired, air_events, all_fetched_of, all_told, numbered, place_of_node, put, reach, tell, tells_entries}
use Rattle.net_model.proofs.Containing.{AreApart, Comes, Contains, IsQuiet, Tracks, TracksAt, comes_contains, events_by, name_at, names, note_append, place_is, quiet_contains, quiet_events, quiet_notes}
use Rattle.net_model.proofs.Looks.{put_of, reaches, restart_of}
use Rattle.net_model.proofs.Remembering.{Lifts, Rising, lift, losses_lift, rising_le, runs_lift}
use Rattle.net_laws.proofs.Moving.{told_entries, made_length, entries_other, TellsAt, tells_at, event, entries_tell, lost_events, losses_are, lost_tell, lost_length, lost_other, placed, new_tracks, all_gone_gone, past_below, same_set, sent_tracks}

module _ (plan : Plan) (apart : AreApart (names (new_nodes plan))) (are_steps : InputsAreSteps) (bytes : BytesRun) (ticks : TicksRun) (acts : ActsRun) where
  -- one world goes on to another, whatever steps led to it
  abbrev pub Leads : World → World → Type 0
  Leads w v = (steps : List Step) → Contains plan steps w.nodes w.told → (more : List Step) × Contains plan (steps ++ more) v.nodes v.told

  pub still : (w : World) → Leads w w
  still w steps c = ([], subst (λ ss. Contains plan ss w.nodes w.told) (sym (append-nil steps)) c)

  pub then : (u v w : World) → Leads u v → Leads v w → Leads u w
  then u v w f g steps c =
      let a = f steps c in
      let b = g (steps ++ a.0) a.1 in
      (a.0 ++ b.0, subst (λ ss. Contains plan ss w.nodes w.told) (append_assoc steps a.0 b.0) b.1)

  pub tell_leads : (line : ℕ) (es : List Event) (w : World) → AllByRecursion IsQuiet es → Leads w (tell line es w)
  tell_leads line es w quiet steps c =
      ([], subst (λ ss. Contains plan ss w.nodes (w.told ++ map (numbered line) es)) (sym (append-nil steps)) (quiet_contains plan apart are_steps steps w.nodes w.told line es quiet c))

  -- something reaches a node
  abbrev pub IsInput : Input → Type 0
  IsInput (worlds.Act act) = IsUserAct act
  IsInput _ = Unit {0}

  runs_on : (now : ℕ) (input : Input) (n : NodeState) → IsInput input → n.station.set ≡ at_rest n.station.set.set → RunsOn n.station (after now input n).station
  runs_on now (Bytes b) n i rest = (bytes now b n rest).run
  runs_on now Time n i rest = (ticks now n rest).run
  runs_on now (worlds.Act act) n i rest = (acts now act n i rest).run

  pub reach_comes : (steps : List Step) (w : World) (line at : ℕ) (p : Placed) (n : NodeState) → Contains plan steps w.nodes w.told → slice_get w.nodes at ≡ Some p → (t : TracksAt plan w.told (sets_run (first_sets plan) steps) at p)
      → (r : RunsOn p.state.station n.station) → Comes plan w.told at p (record p { state = all_told n }) t.set r.inputs (told_entries line p.declared.node r.more)
  reach_comes steps w line at p n c e t r =
      let k : Tracks plan w.told t.set p = t.tracks in
      let l : Lifts k.base k.past (set_of p) (runs r.inputs (lift k.past (set_of p))) (runs r.inputs (set_of p)) = runs_lift k.base k.past k.lost r.inputs (set_of p) k.rises in
      let set : n.station.set.set ≡ (runs r.inputs (set_of p)).set = ap (λ w. w.set) r.set in
      let run : runs r.inputs t.set ≡ record { set = lift k.past (runs r.inputs (set_of p)).set; told = (runs r.inputs (set_of p)).told } = ap (runs r.inputs) k.is ∙ l.is in
      let here : TellsAt (names (new_nodes plan)) p.declared.node at p.declared.call =
      tells_at (names (new_nodes plan)) p.declared.node at p.declared (place_is plan apart are_steps steps w.nodes w.told at p c e) (ap (λ ds. slice_get ds at) (sym c.names_are) ∙ name_at w.nodes at p e) in
      let long = made_length line p.declared.node r.more (set_of p).number n.station.set.set.number (ends_of p.declared.node w.told) r.made in
      let was = k.number in
      record {
        declared = refl;
        allowed = r.allowed;
        up = λ on. r.up;
        tracks = record {
          past = k.past;
          base = k.base;
          some = k.some;
          lost = k.lost;
          is = ap (λ d. d.set) run ∙ ap (lift k.past) (sym set);
          rises = subst (λ (x : SetState). Rising k.base x.ends x.number) (sym set) l.rises;
          rest = r.set ∙ ap at_rest (sym set);
          heard = refl;
          number =
              (let is : n.station.set.set.number ≡ length (note_events p.declared.node (told_entries line p.declared.node r.more) (ends_of p.declared.node w.told)) + 1 = omega (arith, long, was) in is)
              ∙ ap (λ ends. length ends + 1) (sym (note_append p.declared.node w.told (told_entries line p.declared.node r.more) []));
          own = ap (λ (x : SetState). x.own) set ∙ (l.own ∙ k.own);
          ttl = ap (λ (x : SetState). x.ttl) set ∙ (l.ttl ∙ k.ttl);
          user = ap (λ (x : SetState). x.user) set ∙ (l.user ∙ k.user);
          config = ap (λ (x : SetState). x.config) set ∙ (l.config ∙ k.config);
        };
        tells =
            entries_tell (names (new_nodes plan)) line p.declared.node at p.declared.call here r.more
            ∙ (ap (net.events_at at p.declared.call) (r.told ∙ sym (ap (λ d. d.told) run))
            ∙ ap (λ call. net.events_at at call (runs r.inputs t.set).told) (sym (ap (λ (x : SetState). x.own) k.is ∙ k.own)));
        others = λ m d. ap length (note_append m w.told (told_entries line p.declared.node r.more) [] ∙ entries_other line p.declared.node m r.more (ends_of m w.told) d);
      }

  pub reach_contains : (steps : List Step) (w : World) (line at : ℕ) (p : Placed) (n : NodeState) → Contains plan steps w.nodes w.told → slice_get w.nodes at ≡ Some p → (r : RunsOn p.state.station n.station)
      → Contains plan (steps ++ steps_at at r.inputs) (tells_entries line at p n w).nodes (tells_entries line at p n w).told
  reach_contains steps w line at p n c e r =
      let t : TracksAt plan w.told (sets_run (first_sets plan) steps) at p = c.tracks at p e in
      let entries : n.station.entries ≡ r.more = r.entries ∙ ap (λ xs. xs ++ r.more) t.tracks.heard in
      subst (λ xs. Contains plan (steps ++ steps_at at r.inputs) (slice_set w.nodes at (record p { state = all_told n })) (w.told ++ told_entries line p.declared.node xs)) (sym entries)
      (comes_contains plan apart are_steps steps w.nodes w.told (told_entries line p.declared.node r.more) at p (record p { state = all_told n }) t.set r.inputs c e t.here
      (reach_comes steps w line at p n c e t r))

  reach_case : (line at : ℕ) (input : Input) (w : World) (o : Option Placed) → slice_get w.nodes at ≡ o → IsInput input → Leads w (reaches line at input o w)
  reach_case line at input w None e i steps c = still w steps c
  reach_case line at input w (Some p) e i steps c =
      let n : NodeState = after w.now input p.state in
      let r : RunsOn p.state.station n.station = runs_on w.now input p.state i (c.tracks at p e).tracks.rest in (steps_at at r.inputs, reach_contains steps w line at p n c e r)

  pub reach_leads : (line at : ℕ) (input : Input) (w : World) → IsInput input → Leads w (reach line at input w)
  unfolding reach
  reach_leads line at input w i = reach_case line at input w (slice_get w.nodes at) refl i

  -- frames are put in the air
  pub quiet_air : (count more : ℕ) → AllByRecursion IsQuiet (air_events count more)
  quiet_air count zero = tt
  quiet_air count (suc more) = (tt, quiet_air (suc count) more)

  pub put_comes : (told : List NumberedEvent) (line at : ℕ) (p : Placed) (s : SetState) (es : List Event) → AllByRecursion IsQuiet es → Tracks plan told s p
      → Comes plan told at p (record p { state = all_fetched_of p.state }) s [] (map (numbered line) es)
  put_comes told line at p s es quiet t = record {
    declared = refl;
    allowed = tt;
    up = λ on. tt;
    tracks = sent_tracks plan told (told ++ map (numbered line) es) s p (ap length (note_append p.declared.node told (map (numbered line) es) []) ∙ quiet_notes p.declared.node line es (ends_of p.declared.node told) quiet) t;
    tells = ap (map event) (quiet_events (names (new_nodes plan)) line es quiet);
    others = λ n d. ap length (note_append n told (map (numbered line) es) []) ∙ quiet_notes n line es (ends_of n told) quiet;
  }

  pub put_contains : (line at : ℕ) (came : LinkModulus) (w : World) (p : Placed) → slice_get w.nodes at ≡ Some p → (steps : List Step) → Contains plan steps w.nodes w.told
      → Contains plan (steps ++ []) (put_of line at came (Some p) w).nodes (put_of line at came (Some p) w).told
  put_contains line at came w p e steps c =
      let t : TracksAt plan w.told (sets_run (first_sets plan) steps) at p = c.tracks at p e in
      let es : List Event = air_events (length w.air) (length (aired w.channels came p)) in
      comes_contains plan apart are_steps steps w.nodes w.told (map (numbered line) es) at p (record p { state = all_fetched_of p.state }) t.set [] c e t.here
      (put_comes w.told line at p t.set es (quiet_air (length w.air) (length (aired w.channels came p))) t.tracks)

  put_case : (line at : ℕ) (came : LinkModulus) (w : World) (o : Option Placed) → slice_get w.nodes at ≡ o → Leads w (put_of line at came o w)
  put_case line at came w None e steps c = still w steps c
  put_case line at came w (Some p) e steps c = ([], put_contains line at came w p e steps c)

  pub put_leads : (line at : ℕ) (came : LinkModulus) (w : World) → Leads w (put line at came w)
  unfolding put
  put_leads line at came w = put_case line at came w (slice_get w.nodes at) refl

  -- a node starts again
  pub restart_comes : (steps : List Step) (w : World) (line at : ℕ) (pair : Pair) (p : Placed) → IsPair pair → Contains plan steps w.nodes w.told → slice_get w.nodes at ≡ Some p
      → (t : TracksAt plan w.told (sets_run (first_sets plan) steps) at p)
      → Comes plan w.told at p (placed plan p.declared pair (length (ends_of p.declared.node w.told) + 1)) t.set (sets.Restart pair 0 ∷ [])
      (map (numbered line) (events.Restarted p.declared.node pair ∷ losses_of p.declared.node (length (ends_of p.declared.node w.told)) (set_of p).ends))
  restart_comes steps w line at pair p is_pair c e t =
      let k : Tracks plan w.told t.set p = t.tracks in
      let made : ℕ = length (ends_of p.declared.node w.told) in
      let number : (set_of p).number ≡ made + 1 = k.number in
      let rises : Rising k.base (set_of p).ends (made + 1) = subst (λ n. Rising k.base (set_of p).ends n) number k.rises in
      let low : k.base ≤ made + 1 = rising_le k.base (made + 1) (set_of p).ends rises in
      let lost : losses_of p.declared.node made (set_of p).ends ≡ lost_events p.declared.node (set_of p).ends = losses_are p.declared.node made k.base (set_of p).ends k.some rises in
      let here : TellsAt (names (new_nodes plan)) p.declared.node at p.declared.call =
      tells_at (names (new_nodes plan)) p.declared.node at p.declared (place_is plan apart are_steps steps w.nodes w.told at p c e) (ap (λ ds. slice_get ds at) (sym c.names_are) ∙ name_at w.nodes at p e) in
      let ends : t.set.ends ≡ k.past ++ (set_of p).ends = ap (λ (x : SetState). x.ends) k.is in
      let owned : t.set.own ≡ p.declared.call = ap (λ (x : SetState). x.own) k.is ∙ k.own in
      let told : List Event = events.Restarted p.declared.node pair ∷ lost_events p.declared.node (set_of p).ends in
      subst (λ xs. Comes plan w.told at p (placed plan p.declared pair (made + 1)) t.set (sets.Restart pair 0 ∷ []) (map (numbered line) (events.Restarted p.declared.node pair ∷ xs))) (sym lost)
      (record {
        declared = refl;
        allowed = (is_pair, tt);
        up = λ on. absurd on.0;
        tracks = new_tracks plan (w.told ++ map (numbered line) told) p.declared pair (made + 1) (made + 1) (all_gone (k.past ++ (set_of p).ends)) _
            (record { gone = all_gone_gone (k.past ++ (set_of p).ends); below = past_below k.base (made + 1) k.past (set_of p).ends low k.lost.below rises })
            (omega arith) (omega arith)
            (ap (λ n. n + 1) (sym (ap length (note_append p.declared.node w.told (map (numbered line) told) []) ∙ lost_length line p.declared.node (set_of p).ends (ends_of p.declared.node w.told))))
            (same_set _ _ (ap (λ (x : SetState). x.own) k.is ∙ k.own) (ap (λ (x : SetState). x.ttl) k.is ∙ k.ttl) (ap (λ (x : SetState). x.user) k.is ∙ k.user) (ap (λ (x : SetState). x.config) k.is ∙ k.config)
            refl (let n : t.set.number ≡ made + 1 = ap (λ (x : SetState). x.number) k.is ∙ number in omega (arith, n)) (ap all_gone ends ∙ sym (append-nil (all_gone (k.past ++ (set_of p).ends)))));
        tells =
            ap (λ xs. map event (xs ++ events_by (names (new_nodes plan)) (map (numbered line) (lost_events p.declared.node (set_of p).ends)))) (here line (sets.Restarted pair))
            ∙ (ap (λ xs. record { node = at; own = p.declared.call; told = sets.Restarted pair } ∷ xs) (lost_tell (names (new_nodes plan)) line p.declared.node at p.declared.call here (set_of p).ends)
            ∙ (ap (λ ts. net.events_at at p.declared.call (sets.Restarted pair ∷ ts)) (sym (append-nil (losses t.set.ends) ∙ (ap losses ends ∙ losses_lift k.past (set_of p).ends k.lost.gone)))
            ∙ ap (λ call. net.events_at at call (sets.Restarted pair ∷ losses t.set.ends ++ [])) (sym owned)));
        others = λ n d. ap length (note_append n w.told (map (numbered line) told) [] ∙ lost_other line p.declared.node n (set_of p).ends (ends_of n w.told) d);
      })

  pub restart_contains : (line at : ℕ) (pair : Pair) (w : World) (p : Placed) → slice_get w.nodes at ≡ Some p → IsPair pair → (steps : List Step) → Contains plan steps w.nodes w.told
      → Contains plan (steps ++ steps_at at (sets.Restart pair 0 ∷ [])) (restart_of plan line at pair (Some p) w).nodes (restart_of plan line at pair (Some p) w).told
  restart_contains line at pair w p e i steps c =
      let t : TracksAt plan w.told (sets_run (first_sets plan) steps) at p = c.tracks at p e in
      comes_contains plan apart are_steps steps w.nodes w.told _ at p (placed plan p.declared pair (length (ends_of p.declared.node w.told) + 1)) t.set (sets.Restart pair 0 ∷ []) c e t.here
      (restart_comes steps w line at pair p i c e t)

  restart_case : (line at : ℕ) (pair : Pair) (w : World) (o : Option Placed) → slice_get w.nodes at ≡ o → IsPair pair → Leads w (restart_of plan line at pair o w)
  restart_case line at pair w None e i steps c = still w steps c
  restart_case line at pair w (Some p) e i steps c = (steps_at at (sets.Restart pair 0 ∷ []), restart_contains line at pair w p e i steps c)

  pub restart_leads : (line number : ℕ) (pair : Pair) (w : World) → IsPair pair → Leads w (restart plan line number pair w)
  restart_leads line number pair w i = restart_case line (place_of_node number w.nodes) pair w (slice_get w.nodes (place_of_node number w.nodes)) refl i
