-- Every node that inputs may have led to is fine.
use Rattle.std.proofs.Common.{◌≡◌, ◌∙◌, ℕ, zero, suc, refl, sym, ap, subst, arith, length, List, [], ◌∷◌, ◌++◌, append-nil, append_assoc, slice_get}
use Rattle.std.specs.List.{AllByRecursion}
use Rattle.std.specs.Prelude.{Bool, true, false, ◌||◌, ◌&&◌, ◌==◌, is_none, not, nat_le, nat_lt, if◌then◌else◌, Option, Some, None, Result, Ok, Err}
use Rattle.std.proofs.lemmas.Bool.{ne_eqb}
use Rattle.ax_address.specs.Callsign.{Callsign, same_call, ReadsCallTexts}
use Rattle.ax_frame.specs.declared.head.Head.{Head}
use Rattle.ax_frame.specs.declared.frame.FrameRefusal.{FrameRefusal}
use Rattle.ax_frame.specs.Frames.{Frame, read_head_at, read_at}
use Rattle.circuit_l4.specs.Opening.{facts_of}
use Rattle.circuit_l4.specs.State.{inbox}
use Rattle.node_model.specs.declared.user.User.{User}
use Rattle.node_model.specs.declared.user.User.TheVariants.{AtEnd, AtLink}
use Rattle.circuit_table.specs.CircuitSets.{facts_at}
use Rattle.circuit_table.specs.Pumps.{TellsLess, runs, ticks_of}
use Rattle.circuit_table.specs.Sets as sets
use Rattle.circuit_table.specs.Sets.{Act, Holder, SetDone, SetState, CircuitTold, set_step}
use Rattle.circuit_table.specs.Standing.{take_answer}
use Rattle.digi_path.specs.Paths.{Action, For_me, Repeat, Not_yet, Heard}
use Rattle.kiss_framing.specs.Stream as kiss
use Rattle.link_table.specs.Laws.{CarriesWhatWasOffered}
use Rattle.link_table.specs.Reaching.{IsCall}
use Rattle.link_table.specs.Kept.{OffersLeave, TakesLower}
use Rattle.link_table.specs.declared.written.Written.{Written}
use Rattle.nodes_broadcast.specs.declared.nodes.NodesRefusal.{NodesRefusal}
use Rattle.nodes_broadcast.specs.Nodes.{Broadcast, nodes_at}
use Rattle.route_table.specs.Log as logs
use Rattle.route_table.specs.Log.{Item}
use Rattle.node_core.specs.declared.config.NodeConfig.{NodeConfig}
use Rattle.node_core.specs.Acts as acts
use Rattle.node_model.specs.declared.stage.Stage.{Stage}
use Rattle.node_model.specs.declared.stage.Stage.TheVariants.{AtPrompt, Trying, Failed, Connected}
use Rattle.node_core.specs.Bridged.{Acts, BridgedAt, Bytes, EverySession, Fetches_entry, Fetches_frame, Input, IsBounded, IsBridged, IsClosedLast, IsEndsReader, IsEndsWriter, AsksForCall, Paths, Qualities, SessionsBounded, SessionsBridged, SessionsClosedLast, SessionsReadTheirEnds, SessionsWriteTheirEnds, Ticks, after, after_all}
use Rattle.node_core.specs.Broadcasts.{is_broadcast}
use Rattle.node_core.specs.Deeds.{EndsAreNumbered, IsApart, SessionsApart}
use Rattle.node_model.specs.Links as links
use Rattle.node_core.specs.Configs.{node_of, start_of}
use Rattle.node_core.specs.Inputs.{after_input, after_item, after_items, moment, new_items, turns_settle}
use Rattle.node_model.specs.Pumping.{pump}
use Rattle.node_core.specs.Receiving as receiving
use Rattle.node_core.specs.Broadcasts as rounds
use Rattle.node_model.specs.Serving.{serve_sessions}
use Rattle.node_model.specs.Sessions.{Session, leaves}
use Rattle.node_model.specs.Serving as s
use Rattle.node_model.specs.Serving.{is_at_end}
use Rattle.node_core.specs.Standing.{IsTold}
use Rattle.node_model.specs.States.{NodeState, State, at_links, at_set, fetch_own, with_items}
use Rattle.node_model.specs.Users.{has_taken, session_at}
use Rattle.node_core.specs.Waits.{has_text_at}
use Rattle.node_core.proofs.Faithful.{sessions_fine}
use Rattle.node_core.proofs.FineActs.{act_fine, round_fine}
use Rattle.node_core.proofs.FineGiving.{ends_differ}
use Rattle.node_core.proofs.Fine.{All, Fine, goes_on, pumped}
use Rattle.node_core.proofs.Holders.{Any, ticks_keep}
use Rattle.node_core.proofs.Given.{Given, GivesAt, away, deaf, deaf_is, given_left}
use Rattle.node_core.proofs.Soundness.{Every, Sound, WritesAt, links_every, sound_leaves}
use Rattle.node_core.proofs.Making.{step_ok}
use Rattle.node_core.proofs.Nodes.{items_told, told_after}
use Rattle.node_core.proofs.Owning.{links_fewer, owns_fewer, owns_input}
use Rattle.node_model.proofs.Resting.{pumped_dry}
use Rattle.node_core.proofs.Rested.{nothing_left}
use Rattle.node_core.proofs.Shown.{apart_of, numbers_of}
use Rattle.node_core.proofs.Short.{Goes, IsShort, act_short, fetched_short, item_short, path_short, starts_short, walks}
use Rattle.node_core.proofs.Walking.{tick_on, turn_on}
use Rattle.node_core.proofs.Wrote.{Written as WritesAll, WrittenAt, WroteAt, rest_waits, ticks_wrote, written_same}
use Rattle.node_model.proofs.Turns.{kept, settled_kept}
use Rattle.node_core.proofs.Leaving.{calls_leaves}

-- ---- the settling

module _ (offers : OffersLeave) (takes : TakesLower) (less : TellsLess) (law : CarriesWhatWasOffered) (reads : ReadsCallTexts) where
  abbrev pub Ready : State → Type 0
  Ready n = Fine n × IsShort n.links

  noticed : (n : State) → Fine n → Fine (s.enter_notices n)
  noticed n f =
      let ns = n.links.pending.notices in
      (owns_fewer n.set.set n.set.untold n.sessions _ f.0 (links_fewer ns n.sessions), (links_every Sound sound_leaves ns n.sessions f.1.0, (links_every (Given n.set.set) (given_left n.set.set) ns n.sessions f.1.1.0, links_every (WritesAll n.set.set) (λ x w. written_same n.set.set x (leaves x) refl refl refl w) ns n.sessions f.1.1.1)))

  drop_fine : (now : ℕ) (n : State) (peers : List Callsign) → Fine n → Fine (s.drop_first now peers n).after
  drop_fine now n [] f = f
  drop_fine now n (peer ∷ peers) f = f

  dropped : (now : ℕ) (n : State) → Fine n → Fine (s.drop_texts now n)
  dropped now n f = kept (s.drop_text now) s.payloads Fine (λ m g. drop_fine now m (s.dropped_peers m) g) n f

  turned : (now : ℕ) (n : State) → Fine n → IsShort n.links → Fine (s.turn now n).after
  turned now n f short = by b.settings.prompt
    where
      a : State
      a = s.enter_notices n

      b : State
      b = pump now a

      fine : Fine b
      fine = pumped now a (noticed n f)

      still : IsShort b.links
      still = (walks law).serves.pumps now a ((walks law).others.notices n short)

      by : (c : Bool) → Fine (if c then serve_sessions now b else s.drop_turn now b).after
      by true = let dry = pumped_dry offers takes less now a in sessions_fine offers takes less law reads now b fine still dry.router dry.pending
      by false = dropped now b fine

  settled : (now : ℕ) (n : State) → Ready n → Ready (after_input now n)
  unfolding after_input
  settled now n r = settled_kept (s.turn now) (turns_settle now) Ready (λ m q. (turned now m q.0 q.1, turn_on Goes (λ item. Unit {0}) (walks law) reads now m q.1)) n r

  -- ---- KISS items

  either : (x y : State) (b : Bool) → Fine x → Fine y → Fine (if b then x else y)
  either x y true f g = f
  either x y false f g = g

  taken_in : (items : List Item) (n : State) → Fine n → Fine (receiving.take_in items n)
  taken_in items n f = either (with_items items n) _ (receiving.has_room items n) f f

  heard : (source : Callsign) (b : Result Broadcast NodesRefusal) (n : State) → Fine n → Fine (receiving.hear source b n)
  heard source (Ok b) n f = taken_in (logs.broadcast n.settings.call source b.alias (receiving.quality_to source n) b.entries) n f
  heard source (Err e) n f = f

  framed : (now : ℕ) (mine : Bool) (r : Result Frame FrameRefusal) (n : State) → Fine n → Fine (receiving.take_frame now mine r n)
  framed now mine (Err e) n f = f
  framed now mine (Ok x) n f = either _ _ (is_broadcast x) (heard x.head.source.call (nodes_at x.info) n f) (either (at_links (links.arrive x now) n) n mine f f)

  by_path : (now : ℕ) (octets : List ℕ) (h : Head) (a : Action) (n : State) → Fine n → Fine (receiving.take_by_path now octets h a n)
  by_path now octets h (Repeat path) n f = f
  by_path now octets h Not_yet n f = f
  by_path now octets h For_me n f = framed now true (read_at (receiving.modulus_with h.source.call n) octets) n f
  by_path now octets h Heard n f = framed now false (read_at (receiving.modulus_with h.source.call n) octets) n f

  headed : (now : ℕ) (octets : List ℕ) (h : Result (Head × ℕ) FrameRefusal) (n : State) → Fine n → Fine (receiving.take_head now octets h n)
  headed now octets (Err e) n f = f
  headed now octets (Ok h) n f = either n _ (same_call h.0.source.call n.settings.call) f (by_path now octets h.0 _ n f)

  item_fine : (now : ℕ) (item : kiss.Item) (n : State) → Fine n → Fine (receiving.take_item now item n)
  item_fine now (kiss.Frame port command payload) n f = either _ n ((port == 0) && (command == 0)) (headed now payload (read_head_at payload) n f) f
  item_fine now kiss.Too_long n f = f

  pub items_ready : (now : ℕ) (items : List kiss.Item) (n : State) → Ready n → Ready (after_items now items n)
  items_ready now [] n r = r
  items_ready now (item ∷ more) n r = items_ready now more (after_item now item n) (settled now (receiving.take_item now item n) (item_fine now item n r.0, item_short law now item n r.1))

  -- ---- ticks

  due_fine : (now : ℕ) (due : Option ℕ) (n : State) → Fine n → Fine (rounds.round_by now due n)
  due_fine now None n f = f
  due_fine now (Some due) n f = either _ n (nat_le due now) (round_fine n f) f

  abbrev Ticked : SetState → List CircuitTold → List Session → List Act → Type 0
  Ticked set ts ss inputs = All (runs inputs set).set (ts ++ (runs inputs set).told) ss

  ticks_all : (now : ℕ) (hs : List Holder) (set : SetState) (ts : List CircuitTold) (ss : List Session) → All set ts ss
      → All (runs (ticks_of now hs) set).set (ts ++ (runs (ticks_of now hs) set).told) ss
  ticks_all now [] set ts ss o = subst (λ (us : List CircuitTold). All set us ss) (sym (append-nil ts)) o
  ticks_all now (h ∷ hs) set ts ss o = by h.gone (λ set2 ts2 o2. ticks_all now hs set2 ts2 ss o2)
    where
      d : SetDone
      d = set_step set (sets.Calls h.id sets.Ticks now)

      one_tick : All d.set (ts ++ d.told) ss
      one_tick =
          let k = ticks_keep set now h.id in
          (owns_input Any set d ts ss o.0 k (step_ok set (sets.Calls h.id sets.Ticks now) tt).made (λ id some. tt) (λ id some. tt) (calls_leaves set h.id sets.Ticks now), goes_on Any set d.set ts ss k (ticks_wrote set now h.id) o)

      by : (b : Bool) → ((set2 : SetState) (ts2 : List CircuitTold) → All set2 ts2 ss → Ticked set2 ts2 ss (ticks_of now hs))
          → Ticked set ts ss (if b then ticks_of now hs else sets.Calls h.id sets.Ticks now ∷ ticks_of now hs)
      by true more = more set ts o
      by false more =
          let rest : SetDone = runs (ticks_of now hs) d.set in
          subst (λ (us : List CircuitTold). All rest.set us ss) (append_assoc ts d.told rest.told) (more d.set (ts ++ d.told) one_tick)

  set_ticked : (now : ℕ) (n : State) → Fine n → Fine (at_set (links.ticks now) n)
  unfolding links.ticks
  set_ticked now n f = ticks_all now n.set.set.ends n.set.set n.set.untold n.sessions f

  tick_fine : (now : ℕ) (n : State) → Fine n → Fine (rounds.tick now n)
  tick_fine now n f =
      let m : State = at_set (links.ticks now) (at_links (links.tick_links now) n) in
      let g = set_ticked now (at_links (links.tick_links now) n) f in
      either m _ (m.settings.interval == 0) g (due_fine now m.next_round m g)

  -- ---- every node

  pub record Reached (n : State) : Type 0 where
    pub ready : Ready n
    pub told : IsTold n

  fetched : (own : List Written) (n : State) → Reached n → Reached (fetch_own own n)
  fetched [] n r = record { ready = (r.ready.0, fetched_short law [] n r.ready.1); told = r.told }
  fetched (x ∷ fs) n r = record { ready = r.ready; told = r.told }

  pub reaches : (i : Input) (n : NodeState) → AsksForCall i → Reached n.station → Reached (after i n).station
  reaches (Bytes now bytes) n call r =
      let items = new_items n.stream bytes in
      record { ready = items_ready (moment now) items n.station r.ready; told = items_told (nothing_left offers takes less) (moment now) items n.station r.told }
  reaches (Ticks now) n call r =
      let m : State = rounds.tick (moment now) n.station in
      record { ready = settled (moment now) m (tick_fine (moment now) n.station r.ready.0, tick_on Goes (λ item. Unit {0}) (walks law) (moment now) n.station r.ready.1); told = told_after (nothing_left offers takes less) (moment now) m }
  reaches (Acts now act) n call r =
      let m : State = (acts.do_act (moment now) act n.station).node in
      record { ready = settled (moment now) m (act_fine (moment now) act n.station call r.told r.ready.0, act_short law (moment now) act n.station r.ready.1); told = told_after (nothing_left offers takes less) (moment now) m }
  reaches (Paths peer path) n call r = record { ready = (r.ready.0, path_short law peer path n.station r.ready.1); told = r.told }
  reaches (Qualities neighbour quality) n call r = record { ready = r.ready; told = r.told }
  reaches Fetches_frame n call r = fetched n.station.own n.station r
  reaches Fetches_entry n call r = record { ready = r.ready; told = r.told }

  reached : (inputs : List Input) (n : NodeState) → AllByRecursion AsksForCall inputs → Reached n.station → Reached (after_all inputs n).station
  reached [] n calls r = r
  reached (i ∷ inputs) n calls r = reached inputs (after i n) calls.1 (reaches i n calls.0 r)

  pub starts : (hosts : Bool) (c : NodeConfig) → IsCall c.call → Reached (start_of hosts c)
  starts hosts c call = record {
    ready = (
      (
        record {
          below = tt;
          once = tt;
          messages = tt;
          named = (call, tt);
          few = λ id. omega arith;
          fresh = λ id over. omega arith;
          unshut = λ id some. tt;
          held = λ id some. absurd (omega (arith, some));
        },
        (tt, (tt, tt)),
      ),
      starts_short hosts c,
    );
    told = refl;
  }

  all_of : (P : Session → Type 0) (set : SetState) → ((x : Session) → Sound x → Given set x → WritesAll set x → P x) → (ss : List Session) → Every Sound ss → Every (Given set) ss → Every (WritesAll set) ss → AllByRecursion P ss
  all_of P set f [] e g w = tt
  all_of P set f (x ∷ ss) e g w = (f x e.0 g.0 w.0, all_of P set f ss e.1 g.1 w.1)

  every : (P : State → Session → Type 0) → ((n : State) (x : Session) → Sound x → Given n.set.set x → WritesAll n.set.set x → P n x) → EverySession P
  every P f hosts c inputs call calls =
      let n : State = (after_all inputs (node_of hosts c)).station in
      let fine = (reached inputs (node_of hosts c) calls (starts hosts c call)).ready.0 in
      all_of (P n) n.set.set (f n) n.sessions fine.1.0 fine.1.1.0 fine.1.1.1

  is_bridged : (n : State) (x : Session) → Sound x → Given n.set.set x → WritesAll n.set.set x → IsBridged n x
  is_bridged n x p g w = by x.stage p.writes g.gives
    where
      by : (stage : Stage) → WritesAt stage x → GivesAt stage x.bridge (deaf n.set.set x) → BridgedAt stage n x
      by AtPrompt w f = tt
      by (Trying c) w f = tt
      by (Failed c) w f = tt
      by (Connected c) w f = record { writes = w; gives = λ a d. f a (sym (deaf_is x n) ∙ d) }

  pub bridged : SessionsBridged
  bridged = every IsBridged is_bridged

  is_closed_last : (n : State) (x : Session) → Sound x → Given n.set.set x → WritesAll n.set.set x → IsClosedLast n x
  is_closed_last n x p g w c h k =
      let d = g.closed c h k in
      ap (λ (bs : List ℕ). nat_lt 0 (length bs) || (not x.left && has_text_at x.user n)) d.0 ∙ by x.user x.left d.1
    where
      none : (o : Option Holder) → is_none (facts_at o) ≡ true → has_taken (take_answer o) ≡ false
      none None e = refl
      none (Some w) e = held w.gone e
        where
          held : (b : Bool) → is_none (if b then None else Some (facts_of w.end)) ≡ true → has_taken (if b then Err (record {}) else Ok (nat_lt 0 (length (inbox w.end.receiving)))) ≡ false
          held true f = refl
          held false f = absurd (cc f)

      by : (u : User) (left : Bool) → away u left n.set.set ≡ true → (not left && has_text_at u n) ≡ false
      by (AtEnd id) true e = refl
      by (AtEnd id) false e = none (sets.end_of id n.set.set.ends) e
      by (AtLink peer) true e = refl
      by (AtLink peer) false e = absurd (cc e)

  is_writer : (n : State) (x : Session) → Sound x → Given n.set.set x → WritesAll n.set.set x → IsEndsWriter n x
  is_writer n x p g w c h = let here : WroteAt n.set.set c.id x.bridge.wrote x.bridge.got = subst (λ (stage : Stage). WrittenAt n.set.set stage x.bridge) h w.all in (here.holder, here.is, here.wrote)

  is_reader : (n : State) (x : Session) → Sound x → Given n.set.set x → WritesAll n.set.set x → IsEndsReader n x
  is_reader n x p g w c h =
      let here : WroteAt n.set.set c.id x.bridge.wrote x.bridge.got = subst (λ (stage : Stage). WrittenAt n.set.set stage x.bridge) h w.all in
      (here.holder, here.is, rest_waits x.bridge.got here.holder.end.receiving here.taken)

  pub reads_ends : SessionsReadTheirEnds
  reads_ends = every IsEndsReader is_reader

  pub writes_ends : SessionsWriteTheirEnds
  writes_ends = every IsEndsWriter is_writer

  pub closed_last : SessionsClosedLast
  closed_last = every IsClosedLast is_closed_last

  pub bounded : SessionsBounded
  bounded = every (λ n. IsBounded) (λ n x p g w. record { rest = p.rest; replies = p.replies })

  -- the end of a circuit isn't its user's
  all_at : (P : Session → Type 0) (ss : List Session) → ((nth : ℕ) (x : Session) → slice_get ss nth ≡ Some x → P x) → AllByRecursion P ss
  all_at P [] f = tt
  all_at P (x ∷ ss) f = (f zero x refl, all_at P ss (λ nth y e. f (suc nth) y e))

  is_apart : (n : State) → Fine n → (nth : ℕ) (x : Session) → session_at nth n ≡ Some x → IsApart n x
  is_apart n f nth x e c h = by x.user refl
    where
      by : (u : User) → x.user ≡ u → is_at_end c.id u ≡ false
      by (AtEnd id) g = ne_eqb id c.id (λ same. ends_differ id n nth x f e g c h (sym same))
      by (AtLink peer) g = refl

  pub apart : SessionsApart
  apart hosts c inputs call calls =
      let n : State = (after_all inputs (node_of hosts c)).station in
      all_at (IsApart n) n.sessions (λ nth x e. is_apart n (reached inputs (node_of hosts c) calls (starts hosts c call)).ready.0 nth x e)

  pub numbered : EndsAreNumbered
  numbered hosts c inputs call calls =
      let n : State = (after_all inputs (node_of hosts c)).station in
      let f = (reached inputs (node_of hosts c) calls (starts hosts c call)).ready.0 in
      (numbers_of n.set.set.number n.set.set.ends f.0.below, apart_of n.set.set.ends f.0.once)
