-- Every node that inputs may have led to serves no more users than it has links and ends.
use Rattle.std.proofs.Common.{ℕ, arith, List, [], ◌∷◌}
use Rattle.std.specs.List.{AllByRecursion}
use Rattle.ax_address.specs.Callsign.{ReadsCallTexts}
use Rattle.circuit_table.specs.Pumps.{TellsLess}
use Rattle.kiss_framing.specs.Stream as kiss
use Rattle.link_table.specs.Ending.{EndsAreTold, TextsAreOfLinks}
use Rattle.link_table.specs.Laws.{CarriesWhatWasOffered}
use Rattle.link_table.specs.Kept.{OffersLeave, TakesLower}
use Rattle.link_table.specs.declared.written.Written.{Written}
use Rattle.node_core.specs.Acts as acts
use Rattle.node_core.specs.Bridged.{Acts, AsksForCall, Bytes, Fetches_entry, Fetches_frame, Input, Paths, Qualities, Ticks, UsersAreFew as EveryNodes, after, after_all}
use Rattle.node_core.specs.Configs.{node_of}
use Rattle.node_core.specs.Inputs.{after_input, after_item, after_items, moment, new_items}
use Rattle.node_core.specs.Receiving as receiving
use Rattle.node_core.specs.Broadcasts as rounds
use Rattle.node_model.specs.States.{NodeState, State, fetch_own}
use Rattle.node_core.specs.Acts.{UserAct}
use Rattle.node_core.proofs.Counting.{UsersAreFew, users_few}
use Rattle.node_core.proofs.Housing.{Goes, Peopled, fetched_on, item_on, path_on, starts_on, walks}
use Rattle.node_core.proofs.Nodes.{told_after}
use Rattle.node_core.proofs.Reached.{Reached, Ready, items_ready, reaches, starts}
use Rattle.node_core.proofs.Rested.{nothing_left}
use Rattle.node_core.proofs.Walking.{LocksBy, do_on, settled_on, tick_on}

module _ (offers : OffersLeave) (takes : TakesLower) (less : TellsLess) (law : CarriesWhatWasOffered) (reads : ReadsCallTexts) (told : EndsAreTold) (texts : TextsAreOfLinks) where
  abbrev Fit : State → Type 0
  Fit n = Ready offers takes less law reads n

  record Crowd (n : State) : Type 0 where
    people : Peopled n
    few : UsersAreFew n

  settles : (now : ℕ) (m : State) → Fit (after_input now m) → Peopled m → Crowd (after_input now m)
  settles now m ready people =
      let on = settled_on Goes (λ item. Unit {0}) (walks told texts) reads now m people in
      let all = nothing_left offers takes less in
      record { people = on; few = users_few now (after_input now m) (all now m) (told_after all now m) on.0 on.1 ready.0.0 }

  items_on : (now : ℕ) (items : List kiss.Item) (n : State) → Fit n → Crowd n → Crowd (after_items now items n)
  items_on now [] n r c = c
  items_on now (item ∷ more) n r c =
      let next = items_ready offers takes less law reads now (item ∷ []) n r in
      items_on now more (after_item now item n) next (settles now (receiving.take_item now item n) next (item_on told texts now item n c.people))

  any_lock : (act : UserAct) → LocksBy (λ item. Unit {0}) act
  any_lock acts.Round = tt
  any_lock (acts.LinkFail peer) = tt
  any_lock (acts.Lock dest alias neighbour quality) = tt
  any_lock (acts.Connect dest) = tt
  any_lock (acts.ConnectFor user dest) = tt
  any_lock (acts.Write id message) = tt
  any_lock (acts.Take id) = tt
  any_lock (acts.Close id) = tt
  any_lock (acts.TakeText peer) = tt
  any_lock (acts.SendText to text) = tt
  any_lock (acts.OpenLink to path) = tt
  any_lock (acts.CloseLink peer) = tt

  fetched : (own : List Written) (n : State) → Crowd n → Crowd (fetch_own own n)
  fetched [] n c = record { people = fetched_on [] n c.people; few = c.few }
  fetched (f ∷ fs) n c = record { people = c.people; few = c.few }

  goes_on : (i : Input) (n : NodeState) → AsksForCall i → Reached offers takes less law reads n.station → Reached offers takes less law reads (after i n).station → Crowd n.station → Crowd (after i n).station
  goes_on (Bytes now bytes) n call r s c = items_on (moment now) (new_items n.stream bytes) n.station r.ready c
  goes_on (Ticks now) n call r s c =
      settles (moment now) (rounds.tick (moment now) n.station) s.ready (tick_on Goes (λ item. Unit {0}) (walks told texts) (moment now) n.station c.people)
  goes_on (Acts now act) n call r s c =
      settles (moment now) (acts.do_act (moment now) act n.station).node s.ready (do_on Goes (λ item. Unit {0}) (walks told texts) (moment now) act n.station call (any_lock act) c.people)
  goes_on (Paths peer path) n call r s c = record { people = path_on peer path n.station c.people; few = c.few }
  goes_on (Qualities neighbour quality) n call r s c = record { people = c.people; few = c.few }
  goes_on Fetches_frame n call r s c = fetched n.station.own n.station c
  goes_on Fetches_entry n call r s c = record { people = c.people; few = c.few }

  all_on : (inputs : List Input) (n : NodeState) → AllByRecursion AsksForCall inputs → Reached offers takes less law reads n.station → Crowd n.station → Crowd (after_all inputs n).station
  all_on [] n calls r c = c
  all_on (i ∷ inputs) n calls r c =
      let s = reaches offers takes less law reads i n calls.0 r in
      all_on inputs (after i n) calls.1 s (goes_on i n calls.0 r s c)

  pub every : EveryNodes
  every hosts c inputs call calls =
      let crowd = all_on inputs (node_of hosts c) calls (starts offers takes less law reads hosts c call) (record { people = starts_on hosts c; few = omega arith }) in
      (crowd.few, crowd.people.0.order.few)
