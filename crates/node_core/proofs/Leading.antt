-- What the code keeps after a call of `pump`.
use Rattle.std.proofs.Common.{◌≡◌, ◌++◌, ◌∙◌, ℕ, refl, sym, ap, subst, List, [], ◌∷◌, append-nil, map}
use Rattle.std.specs.Prelude.{Option, Some, None}
use Rattle.std.specs.Option.{option_map}
use Rattle.circuit_table.specs.CircuitSets.{Circuits, DoesPump, Pumps}
use Rattle.circuit_table.specs.Pumps.{TellsLess, Pumped, SetTold}
use Rattle.circuit_table.specs.Pumps as pumps
use Rattle.circuit_table.specs.Standing.{event_told}
use Rattle.circuit_table.specs.declared.event.SetEvent.{SetEvent}
use Rattle.l3_datagram.specs.Datagrams.{Parcel}
use Rattle.l3_datagram.specs.Routers.{SameRouter}
use Rattle.l3_datagram.specs.declared.carrier.Offered.{Offered}
use Rattle.link_table.specs.Kept.{OffersLeave, TakesLower}
use Rattle.link_table.specs.Standing.{AllAnswer, Made, TableView as Kept, after_calls}
use Rattle.route_table.specs.Table as routes
use Rattle.node_core.specs.declared.station.Station.{Station}
use Rattle.node_model.specs.Pumping.{pump, told_entries}
use Rattle.node_model.specs.Sessions.{hear_circuits, hear_if}
use Rattle.node_core.specs.Standing.{Holds}
use Rattle.node_model.specs.States.{Entry, Of_set, State, next_hop}
use Rattle.node_core.proofs.Calls.{after_call, call_leads, pumped_on}

-- the node after a call, before what was told is entered
abbrev pub before_entering : Pumped → State → State
before_entering q n = record n { links = after_calls q.calls n.links; set = q.after; log = n.log ++ q.items }

pub record Called (now : ℕ) (s : Station) (new : Circuits Kept) (n : State) (result : Option SetEvent) : Type 0 where
  pub q : Pumped
  pub told : option_map event_told result ≡ q.told
  pub leads : pump now n ≡ pumped_on now q.told (after_call q n)
  pub holds : Holds (record s { set = new }) (before_entering q n)

does : (now : ℕ) (s : Station) (new : Circuits Kept) (n : State) (result : Option SetEvent) (q : Pumped) → Holds s n → SameRouter s.set.router new.router
    → DoesPump Made s.set new n.log result q → (AllAnswer n.links q.calls → pump now n ≡ pumped_on now q.told (after_call q n)) → Called now s new n result
does now s new n result q h same d leads =
    let made = d.calls n.links h.parts.links in
    record {
      q = q;
      told = d.told;
      leads = leads made.0;
      holds = record {
        parts = record {
          links = made.1;
          log = d.table;
          rules = same.node.rules ∙ h.parts.rules;
          own = same.node.own ∙ h.parts.own;
          call = same.own ∙ h.parts.call;
          set = d.stands;
        };
        names = record { alias = h.names.alias; path_quality = h.names.path_quality; qualities = h.names.qualities; interval = h.names.interval; fits = h.names.fits };
        queues = record { own = h.queues.own; entries = h.queues.entries };
        users = record { prompt = h.users.prompt; hosts = h.users.hosts; sessions = h.users.sessions };
        next_round = h.next_round;
      };
    }

module _ (offers : OffersLeave) (takes : TakesLower) (less : TellsLess) where
  pub was_called : (now : ℕ) (s : Station) (new : Circuits Kept) (n : State) (result : Option SetEvent) → Holds s n → SameRouter s.set.router new.router
      → Pumps Made s.set new s.set.router.carrier.lost s.set.router.carrier.waiting now result → Called now s new n result
  was_called now s new n result h same p =
      let ps = p.0 in
      let answer = p.1 in
      let fits : map (λ (y : Parcel × Offered). y.0) ps ≡ n.links.pending.waiting = p.2 ∙ h.parts.links.waiting in
      let q = pumps.pump_step (next_hop n) now n.set n.links.pending.lost ps answer in
      let d : DoesPump Made s.set new n.log result q =
      subst (λ r. DoesPump Made s.set new n.log result (pumps.pump_step (routes.next_hop r n.log) now n.set n.links.pending.lost ps answer)) h.parts.rules
      (subst (λ lost. DoesPump Made s.set new n.log result (pumps.pump_step (routes.next_hop s.set.router.table.rules n.log) now n.set lost ps answer)) h.parts.links.lost (p.3 n.log n.set h.parts.log h.parts.set)) in
      does now s new n result q h same d (call_leads offers takes less now n ps answer fits)

-- what was told is entered
pub told_on : (now : ℕ) (n : State) (q : Pumped) (e : SetTold) → Some e ≡ q.told → pump now n ≡ pumped_on now q.told (after_call q n)
    → pump now n ≡ pump now (record (before_entering q n) { entries = n.entries ++ Of_set e ∷ []; sessions = hear_circuits n.settings.prompt e n.sessions })
told_on now n q e told leads =
    leads ∙ (ap (λ (o : Option SetTold). pumped_on now o (after_call q n)) (sym told)
    ∙ ap (λ (o : Option SetTold). pump now (record (before_entering q n) { entries = n.entries ++ told_entries o; sessions = hear_if n.settings.prompt o n.sessions })) (sym told))

-- nothing was told
pub pumped_is : (now : ℕ) (n : State) (q : Pumped) → None ≡ q.told → pump now n ≡ pumped_on now q.told (after_call q n) → pump now n ≡ before_entering q n
pumped_is now n q told leads =
    leads ∙ (ap (λ (o : Option SetTold). pumped_on now o (after_call q n)) (sym told)
    ∙ (ap (λ (o : Option SetTold). record (before_entering q n) { entries = n.entries ++ told_entries o; sessions = hear_if n.settings.prompt o n.sessions }) (sym told)
    ∙ ap (λ (es : List Entry). record (before_entering q n) { entries = es }) (append-nil n.entries)))

-- nothing lies anywhere, so that nothing is told and all stays
pub nothing_lies : OffersLeave → TakesLower → TellsLess → (now : ℕ) (s : Station) (n : State) → Holds s n
    → Pumps Made s.set s.set s.set.router.carrier.lost s.set.router.carrier.waiting now None → Holds s (pump now n)
nothing_lies offers takes less now s n h p =
    let same : SameRouter s.set.router s.set.router = record { own = refl; ttl = refl; node = record { own = refl; rules = refl } } in
    let x = was_called offers takes less now s s.set n None h same p in
    subst (Holds s) (sym (pumped_is now n x.q x.told x.leads)) x.holds
