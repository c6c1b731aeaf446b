-- A whole node, between two inputs.
use Rattle.std.proofs.Common.{◌≡◌, ◌∙◌, ℕ, List, [], ◌∷◌, ◌++◌, ◌-◌, ap, append-nil, append_assoc, arith, drop, length, map, refl, subst, sym}
use Rattle.std.specs.Prelude.{Bool, true, false, Result, Ok, Err, OnOk, OnErr}
use Rattle.std.specs.List.{AllByRecursion}
use Rattle.std.proofs.lemmas.List.{drop_at}
use Rattle.std.proofs.lemmas.Bool.Decides.{nat_tests}
use Rattle.circuit_table.specs.Pumps.{Waiting, at_rest, is_drained, TellsLess}
use Rattle.kiss_framing.specs.Stream as kiss
use Rattle.kiss_framing.specs.Stream.{Item, items}
use Rattle.kiss_framing.specs.declared.item.KissItem.TheVariants as kiss_items
use Rattle.l3_datagram.specs.Routers.{Routing}
use Rattle.link_table.specs.Standing.{NotNoMemory, TableGoes, TableStands, TableView as LinkTable}
use Rattle.link_table.specs.Table.{Table}
use Rattle.link_table.specs.declared.path_refusal.PathRefusal.{PathRefusal}
use Rattle.link_table.specs.declared.path_refusal.PathRefusal.TheVariants as paths
use Rattle.node_core.specs.declared.station.Station.{Station}
use Rattle.node_model.specs.Links as circuits
use Rattle.node_core.specs.Inputs.{after_bytes, after_input, after_item, after_items, moment, new_items}
use Rattle.node_core.specs.Standing.{Kept, NodeStands, view_of, Holds, IsDrained, IsTold, entry_of}
use Rattle.node_core.specs.Sound.{IsReached, IsSound}
use Rattle.node_core.specs.Taking.{Takes}
use Rattle.node_core.specs.Bridged.{AsksForCall, Bytes, Input, after, after_all}
use Rattle.node_core.specs.Configs.{node_of}
use Rattle.node_core.specs.Laws.{NothingLeftAfterInputs}
use Rattle.node_core.specs.Receiving.{take_item}
use Rattle.link_table.specs.declared.written.Written.{Written}
use Rattle.node_core.specs.declared.entry.NodeEntry.{NodeEntry}
use Rattle.link_table.specs.Kept.{OffersLeave, TakesLower}
use Rattle.node_model.specs.Pumping.{pump}
use Rattle.node_model.proofs.Resting.{pumped_dry}
use Rattle.node_core.specs.Going.{StationGoes}
use Rattle.node_model.specs.States.{NodeState, State, at_links, fetch_entry, fetch_frame, fetch_own}
use Rattle.node_core.proofs.Calls.{rest_of, some_pending}
use Rattle.node_core.proofs.Holding.{links_go, with_carrier}

told_by : (w : Waiting) → circuits.pending w ≡ 0 → (b : Bool) → is_drained w ≡ b → w ≡ at_rest w.set
told_by w none true e = rest_of w e
told_by w none false e =
    let some = some_pending w e in
    absurd (grind (arith, nat_tests, none, some))

-- nothing of a node's circuits is untold once they were pumped
pub pumped_told : OffersLeave → TakesLower → TellsLess → (now : ℕ) (n : State) → IsTold (pump now n)
pumped_told offers takes less now n = told_by (pump now n).set (pumped_dry offers takes less now n).pending (is_drained (pump now n).set) refl

-- nothing of a node's circuits is untold after an input
pub told_after : NothingLeftAfterInputs → (now : ℕ) (n : State) → IsTold (after_input now n)
told_after nothing now n =
    let all = (nothing now n).pending in
    let none : circuits.pending (after_input now n).set ≡ 0 = omega (arith, all) in
    told_by (after_input now n).set none (is_drained (after_input now n).set) refl

-- ---- inputs that lead to it

-- inputs lead on from each state to which inputs led
abbrev pub Leads : (NodeState → NodeState) → Type 0
Leads step = (n : NodeState) → IsReached n → IsReached (step n)

after_more : (inputs : List Input) (i : Input) (n : NodeState) → after_all (inputs ++ i ∷ []) n ≡ after i (after_all inputs n)
after_more [] i n = refl
after_more (j ∷ inputs) i n = after_more inputs i (after j n)

asked_more : (inputs : List Input) (i : Input) → AllByRecursion AsksForCall inputs → AsksForCall i → AllByRecursion AsksForCall (inputs ++ i ∷ [])
asked_more [] i a b = (b, tt)
asked_more (j ∷ inputs) i a b = (a.0, asked_more inputs i a.1 b)

pub led : (i : Input) → AsksForCall i → Leads (after i)
led i asks n r = record {
  hosts = r.hosts;
  config = r.config;
  inputs = r.inputs ++ i ∷ [];
  call = r.call;
  asked = asked_more r.inputs i r.asked asks;
  is = after_more r.inputs i (node_of r.hosts r.config) ∙ ap (after i) r.is;
}

-- what an input leaves of what a node stands for, at a moment that is cut off
pub stands_on : NothingLeftAfterInputs → (step : ℕ → State → State) (now m : ℕ) (k : Kept) (s : Station) → m ≡ moment now
    → ((n : State) → Holds k.station n → IsTold n → Holds s (after_input m (step m n)))
    → (n : NodeState) → NodeStands k n → NodeStands (view_of k.deframer s false) (record n { station = after_input (moment now) (step (moment now) n.station) })
stands_on nothing step now m k s e goes n h = record {
  unspent = refl;
  stream = h.stream;
  station = subst (λ (x : ℕ). Holds s (after_input x (step x n.station))) e (goes n.station h.station h.told);
  told = told_after nothing (moment now) (step (moment now) n.station);
}

pub sound_on : NothingLeftAfterInputs → (step : ℕ → State → State) (now m : ℕ) (k : Kept) (s : Station) → m ≡ moment now
    → ((n : State) → Holds k.station n → IsTold n → Holds s (after_input m (step m n)))
    → IsDrained s → Leads (λ n. record n { station = after_input (moment now) (step (moment now) n.station) }) → IsSound k → IsSound (view_of k.deframer s false)
sound_on nothing step now m k s e goes drained leads sound =
    record {
      state = _;
      stands = stands_on nothing step now m k s e goes sound.state sound.stands;
      drained = drained;
      collected = (nothing (moment now) (step (moment now) sound.state.station)).waiting;
      reached = leads sound.state sound.reached;
    }

-- ---- outputs

-- what the fetching of an output leaves
pub fetched_on : (step : State → State) → ((n : State) → IsTold n → IsTold (step n)) → (k : Kept) (s : Station) → StationGoes step k.station s
    → (n : NodeState) → NodeStands k n → NodeStands (view_of k.deframer s k.spent) (record n { station = step n.station })
fetched_on step told k s goes n h = record {
  unspent = h.unspent;
  stream = h.stream;
  station = goes n.station h.station;
  told = told n.station h.told;
}

pub sound_fetched : (step : State → State) → ((n : State) → IsTold n → IsTold (step n)) → ((n : State) → (step n).links.pending.waiting ≡ n.links.pending.waiting)
    → Leads (λ n. record n { station = step n.station }) → (k : Kept) (s : Station) → StationGoes step k.station s → (IsDrained k.station → IsDrained s) → IsSound k
    → IsSound (view_of k.deframer s k.spent)
sound_fetched step told waits leads k s goes drained sound =
    record {
      state = _;
      stands = fetched_on step told k s goes sound.state sound.stands;
      drained = drained sound.drained;
      collected = waits sound.state.station ∙ sound.collected;
      reached = leads sound.state sound.reached;
    }

own_told : (fs : List Written) (n : State) → IsTold n → IsTold (fetch_own fs n)
own_told [] n told = told
own_told (f ∷ fs) n told = told

pub frame_told : (n : State) → IsTold n → IsTold (fetch_frame n)
frame_told n told = own_told n.own n told

own_waits : (fs : List Written) (n : State) → (fetch_own fs n).links.pending.waiting ≡ n.links.pending.waiting
own_waits [] n = refl
own_waits (f ∷ fs) n = refl

pub frame_waits : (n : State) → (fetch_frame n).links.pending.waiting ≡ n.links.pending.waiting
frame_waits n = own_waits n.own n

dropped_first : (xs : List NodeEntry) → map entry_of (drop 1 xs) ≡ drop 1 (map entry_of xs)
dropped_first [] = refl
dropped_first (x ∷ xs) = refl

pub entry_fetched : (s s2 : Station) → s2.entries.items ≡ drop 1 s.entries.items → s2 ≡ record s { entries = s2.entries } → StationGoes fetch_entry s s2
entry_fetched s s2 e same n h =
    let entries : map entry_of s2.entries.items ≡ drop 1 n.entries =
    ap (map entry_of) e ∙ (dropped_first s.entries.items ∙ ap (drop 1) h.queues.entries) in
    subst (λ (x : Station). Holds x (fetch_entry n)) (sym same) (record {
      parts = record { links = h.parts.links; log = h.parts.log; rules = h.parts.rules; own = h.parts.own; call = h.parts.call; set = h.parts.set };
      names = record { alias = h.names.alias; path_quality = h.names.path_quality; qualities = h.names.qualities; interval = h.names.interval; fits = h.names.fits };
      queues = record { own = h.queues.own; entries = entries };
      users = record { prompt = h.users.prompt; hosts = h.users.hosts; sessions = h.users.sessions };
      next_round = h.next_round;
    })

-- ---- KISS bytes

pub items_both : (now : ℕ) (is js : List Item) (n : State) → after_items now (is ++ js) n ≡ after_items now js (after_items now is n)
items_both now [] js n = refl
items_both now (i ∷ is) js n = items_both now is js (after_item now i n)

pub takes_nothing : (now : ℕ) (a : Station) (stream : List ℕ) → Takes now a a stream []
takes_nothing now a stream = record {
  given = [];
  adds = ap items (append-nil stream) ∙ sym (append-nil (items stream));
  taken = λ n h. h;
}

pub takes_both : (now : ℕ) (a b c : Station) (stream first second : List ℕ) → Takes now a b stream first → Takes now b c (stream ++ first) second → Takes now a c stream (first ++ second)
takes_both now a b c stream first second f g = record {
  given = f.given ++ g.given;
  adds = ap items (sym (append_assoc stream first second)) ∙ (g.adds ∙ (ap (λ (is : List Item). is ++ g.given) f.adds ∙ append_assoc (items stream) f.given g.given));
  taken = λ n h. rw (items_both now f.given g.given n) (g.taken (after_items now f.given n) (f.taken n h));
}

-- what was given is what is new
pub given_is_new : (stream bytes : List ℕ) (given : List Item) → items (stream ++ bytes) ≡ items stream ++ given → new_items stream bytes ≡ given
given_is_new stream bytes given e = ap (drop (length (items stream))) e ∙ drop_at (items stream) given (length (items stream)) refl

pub items_told : NothingLeftAfterInputs → (now : ℕ) (is : List Item) (n : State) → IsTold n → IsTold (after_items now is n)
items_told nothing now [] n told = told
items_told nothing now (i ∷ is) n told = items_told nothing now is (after_item now i n) (told_after nothing now (take_item now i n))

items_collected : NothingLeftAfterInputs → (now : ℕ) (is : List Item) (n : State) → n.links.pending.waiting ≡ [] → (after_items now is n).links.pending.waiting ≡ []
items_collected nothing now [] n e = e
items_collected nothing now (i ∷ is) n e = items_collected nothing now is (after_item now i n) (nothing now (take_item now i n)).waiting

pub bytes_on : NothingLeftAfterInputs → (now m : ℕ) (bytes : List ℕ) (k : Kept) (d : kiss.HeldPiece) (s : Station) → m ≡ moment now
    → ((stream : List ℕ) → kiss.StandsFor k.deframer stream → kiss.StandsFor d (stream ++ bytes))
    → ((stream : List ℕ) → kiss.StandsFor k.deframer stream → Takes m k.station s stream bytes)
    → (n : NodeState) → NodeStands k n → NodeStands (view_of d s false) (after_bytes now bytes n)
bytes_on nothing now m bytes k d s e fed taken n h =
    let t = taken n.stream h.stream in
    let new : new_items n.stream bytes ≡ t.given = given_is_new n.stream bytes t.given t.adds in
    record {
      unspent = refl;
      stream = fed n.stream h.stream;
      station = rw new (subst (λ (x : ℕ). Holds s (after_items x t.given n.station)) e (t.taken n.station h.station));
      told = items_told nothing (moment now) (new_items n.stream bytes) n.station h.told;
    }

pub sound_bytes : NothingLeftAfterInputs → (now m : ℕ) (bytes : List ℕ) (k : Kept) (d : kiss.HeldPiece) (s : Station) → m ≡ moment now
    → ((stream : List ℕ) → kiss.StandsFor k.deframer stream → kiss.StandsFor d (stream ++ bytes))
    → ((stream : List ℕ) → kiss.StandsFor k.deframer stream → Takes m k.station s stream bytes)
    → (IsDrained k.station → IsDrained s) → IsSound k → IsSound (view_of d s false)
sound_bytes nothing now m bytes k d s e fed taken drained sound =
    record {
      state = _;
      stands = bytes_on nothing now m bytes k d s e fed taken sound.state sound.stands;
      drained = drained sound.drained;
      collected = items_collected nothing (moment now) (new_items sound.state.stream bytes) sound.state.station sound.collected;
      reached = led (Bytes now bytes) tt sound.state sound.reached;
    }

-- ---- repeaters

pub not_no_memory : (test : Result (Unit {0}) PathRefusal → Bool) → test (Err paths.NoMemory) ≡ true → (r : Result (Unit {0}) PathRefusal) → false ≡ test r → NotNoMemory r
not_no_memory test e (Ok _) f = tt
not_no_memory test e (Err paths.NoMemory) f = absurd (cc (f ∙ e))
not_no_memory test e (Err paths.TooLong) f = tt
not_no_memory test e (Err paths.Full) f = tt

path_step : Result (Unit {0}) PathRefusal → (Table → Table) → Table → Table
path_step (Ok _) step t = step t
path_step (Err e) step t = t

path_waits : (r : Result (Unit {0}) PathRefusal) (step : Table → Table) → ((t : Table) → (step t).pending.waiting ≡ t.pending.waiting) → (t : Table)
    → (path_step r step t).pending.waiting ≡ t.pending.waiting
unfolding path_step
path_waits (Ok x) step waits t = waits t
path_waits (Err e) step waits t = refl

path_leads : (r : Result (Unit {0}) PathRefusal) (step : Table → Table) → Leads (λ n. record n { station = at_links step n.station })
    → Leads (λ n. record n { station = at_links (path_step r step) n.station })
unfolding path_step
path_leads (Ok x) step leads n r = leads n r
path_leads (Err e) step leads n r = r

path_goes : (r : Result (Unit {0}) PathRefusal) (step : Table → Table) (old new : LinkTable) → NotNoMemory r → OnOk r (TableGoes step old new) → OnErr r (NotNoMemory r → new ≡ old)
    → TableGoes (path_step r step) old new
unfolding path_step
path_goes (Ok x) step old new a goes err = goes
path_goes (Err e) step old new a goes err = λ t h. subst (λ (k : LinkTable). TableStands k t) (sym (err a)) h

pub sound_path : (r : Result (Unit {0}) PathRefusal) (step : Table → Table) (k : Kept) (router : Routing LinkTable) (old new : LinkTable) → router ≡ k.station.set.router → old ≡ router.carrier
    → NotNoMemory r → OnOk r (TableGoes step old new) → OnErr r (NotNoMemory r → new ≡ old) → ((t : Table) → (step t).pending.waiting ≡ t.pending.waiting)
    → Leads (λ n. record n { station = at_links step n.station }) → IsSound k → IsSound (view_of k.deframer (with_carrier k.station router new) k.spent)
sound_path r step k router old new e f a goes err waits leads sound =
    sound_fetched (at_links (path_step r step)) (λ n told. told) (λ n. path_waits r step waits n.links) (path_leads r step leads) k (with_carrier k.station router new)
    (links_go (path_step r step) k.station router old new e f (path_goes r step old new a goes err)) (λ drained. drained) sound
