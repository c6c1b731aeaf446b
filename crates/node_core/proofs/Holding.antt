-- What a change of one part leaves of what the code stands for.
use Rattle.std.proofs.Common.{◌≡◌, ◌<◌, ◌≤◌, ◌++◌, ◌∙◌, ℕ, refl, sym, ap, subst, arith, append-nil, append_assoc, drop, List, [], ◌∷◌, length, map, slice_get, true, false}
use Rattle.std.specs.Prelude.{Some, None}
use Rattle.std.proofs.lemmas.Bool.Decides.{nat_tests}
use Rattle.std.proofs.lemmas.List.{map-append}
use Rattle.ax_address.specs.Callsign.{Callsign}
use Rattle.ax_address.specs.declared.alias.Alias.{Alias}
use Rattle.ax_address.specs.declared.entry.Entry.{Entry as Reported}
use Rattle.circuit_table.specs.CircuitSets as sets
use Rattle.circuit_table.specs.CircuitSets.{Circuits, SetStands}
use Rattle.circuit_table.specs.Pumps.{Waiting, at_rest}
use Rattle.circuit_table.specs.Sets.{SetState}
use Rattle.l3_datagram.specs.Routers.{Routing}
use Rattle.link_table.specs.Calls.{fetch}
use Rattle.link_table.specs.Table.{written, Table}
use Rattle.link_table.specs.Frames.{Sent}
use Rattle.link_table.specs.declared.written.Written.{Written}
use Rattle.link_table.specs.Standing.{TableView as Kept, TableGoes}
use Rattle.route_table.specs.Held.{TableGoesOn, HasRoom, TableRoutes, IsFull, SameNode, StandsFor}
use Rattle.route_table.specs.Log.{Item, broadcast}
use Rattle.route_table.specs.Table.{usable}
use Rattle.node_core.specs.declared.entry.NodeEntry.{NodeEntry}
use Rattle.node_core.specs.declared.station.Station.{Station}
use Rattle.node_core.specs.Receiving.{has_room, live_with, quality_to, take_in}
use Rattle.node_model.specs.Sessions.{Session, bare}
use Rattle.node_core.specs.Standing.{Holds, IsTold, entry_of}
use Rattle.node_core.specs.Broadcasts.{put_all}
use Rattle.node_model.specs.States.{Overflow, State, at_links, at_set, enter, fetch_frame, fetch_own, put, with_items}
use Rattle.node_model.specs.Links.{all_fetched, sent_frames}

-- ---- the links alone

abbrev pub with_carrier : Station → Routing Kept → Kept → Station
with_carrier s r k = record s { set = record s.set { router = record r { carrier = k } } }

-- the router is that of the set, and the links go on
pub links_go : (step : Table → Table) (s : Station) (r : Routing Kept) (old new : Kept) → r ≡ s.set.router → old ≡ r.carrier → TableGoes step old new
    → (n : State) → Holds s n → Holds (with_carrier s r new) (at_links step n)
links_go step s r old new e f goes n h = record {
  parts = record {
    links = goes n.links (rw (f, e) h.parts.links);
    log = rw e h.parts.log;
    rules = rw e h.parts.rules;
    own = rw e h.parts.own;
    call = rw e h.parts.call;
    set = record { ends = h.parts.set.ends; own = rw e h.parts.set.own; ttl = rw e h.parts.set.ttl; lost = h.parts.set.lost; unspent = h.parts.set.unspent };
  };
  names = record { alias = h.names.alias; path_quality = h.names.path_quality; qualities = h.names.qualities; interval = h.names.interval; fits = h.names.fits };
  queues = record { own = h.queues.own; entries = h.queues.entries };
  users = record { prompt = h.users.prompt; hosts = h.users.hosts; sessions = h.users.sessions };
  next_round = h.next_round;
}

-- ---- the routing table alone

abbrev pub with_table : Station → Routing Kept → TableRoutes → Station
with_table s r t = record s { set = record s.set { router = record r { table = t } } }

pub table_goes : (items : List Item) (s : Station) (r : Routing Kept) (old new : TableRoutes) → r ≡ s.set.router → old ≡ r.table → TableGoesOn old new items → SameNode old new
    → (n : State) → Holds s n → Holds (with_table s r new) (with_items items n)
table_goes items s r old new e f goes same n h = record {
  parts = record {
    links = rw e h.parts.links;
    log = goes n.log (rw (f, e) h.parts.log);
    rules = same.rules ∙ rw (f, e) h.parts.rules;
    own = same.own ∙ rw (f, e) h.parts.own;
    call = rw e h.parts.call;
    set = record { ends = h.parts.set.ends; own = rw e h.parts.set.own; ttl = rw e h.parts.set.ttl; lost = h.parts.set.lost; unspent = h.parts.set.unspent };
  };
  names = record { alias = h.names.alias; path_quality = h.names.path_quality; qualities = h.names.qualities; interval = h.names.interval; fits = h.names.fits };
  queues = record { own = h.queues.own; entries = h.queues.entries };
  users = record { prompt = h.users.prompt; hosts = h.users.hosts; sessions = h.users.sessions };
  next_round = h.next_round;
}

pub table_stays : (s : Station) (r : Routing Kept) (old new : TableRoutes) → r ≡ s.set.router → old ≡ r.table → new ≡ old
    → (n : State) → Holds s n → Holds (with_table s r new) n
table_stays s r old new e f g n h = record {
  parts = record {
    links = rw e h.parts.links;
    log = rw (g, f, e) h.parts.log;
    rules = rw (g, f, e) h.parts.rules;
    own = rw (g, f, e) h.parts.own;
    call = rw e h.parts.call;
    set = record { ends = h.parts.set.ends; own = rw e h.parts.set.own; ttl = rw e h.parts.set.ttl; lost = h.parts.set.lost; unspent = h.parts.set.unspent };
  };
  names = record { alias = h.names.alias; path_quality = h.names.path_quality; qualities = h.names.qualities; interval = h.names.interval; fits = h.names.fits };
  queues = record { own = h.queues.own; entries = h.queues.entries };
  users = record { prompt = h.users.prompt; hosts = h.users.hosts; sessions = h.users.sessions };
  next_round = h.next_round;
}

-- ---- the circuits

pub set_goes : (to : SetState → Waiting) (s : Station) (new : Circuits Kept) → sets.SetGoes s.set new to → (n : State) → Holds s n → IsTold n
    → Holds (record s { set = new }) (record n { set = to n.set.set })
set_goes to s new goes n h told =
    let e = goes.router in
    record {
      parts = record {
        links = rw e h.parts.links;
        log = rw e h.parts.log;
        rules = rw e h.parts.rules;
        own = rw e h.parts.own;
        call = rw e h.parts.call;
        set = goes.stands n.set.set (subst (SetStands s.set) told h.parts.set);
      };
      names = record { alias = h.names.alias; path_quality = h.names.path_quality; qualities = h.names.qualities; interval = h.names.interval; fits = h.names.fits };
      queues = record { own = h.queues.own; entries = h.queues.entries };
      users = record { prompt = h.users.prompt; hosts = h.users.hosts; sessions = h.users.sessions };
      next_round = h.next_round;
    }

-- a call of the circuits that was refused
pub set_unchanged : (s : Station) (new : Circuits Kept) → sets.IsUnchanged s.set new → (n : State) → Holds s n → Holds (record s { set = new }) n
set_unchanged s new same n h =
    let e = same.router in
    record {
      parts = record {
        links = rw e h.parts.links;
        log = rw e h.parts.log;
        rules = rw e h.parts.rules;
        own = rw e h.parts.own;
        call = rw e h.parts.call;
        set = same.stands n.set h.parts.set;
      };
      names = record { alias = h.names.alias; path_quality = h.names.path_quality; qualities = h.names.qualities; interval = h.names.interval; fits = h.names.fits };
      queues = record { own = h.queues.own; entries = h.queues.entries };
      users = record { prompt = h.users.prompt; hosts = h.users.hosts; sessions = h.users.sessions };
      next_round = h.next_round;
    }

-- ---- entries

pub entered : (s s2 : Station) (e : NodeEntry) → s2.entries.items ≡ s.entries.items ++ e ∷ [] → s2 ≡ record s { entries = s2.entries }
    → (n : State) → Holds s n → Holds s2 (enter (entry_of e ∷ []) n)
entered s s2 e f same n h =
    let entries : map entry_of s2.entries.items ≡ n.entries ++ entry_of e ∷ [] =
    ap (map entry_of) f ∙ (map-append entry_of s.entries.items (e ∷ []) ∙ ap (λ xs. xs ++ entry_of e ∷ []) h.queues.entries) in
    subst (λ (x : Station). Holds x (enter (entry_of e ∷ []) n)) (sym same) (record {
      parts = record { links = h.parts.links; log = h.parts.log; rules = h.parts.rules; own = h.parts.own; call = h.parts.call; set = h.parts.set };
      names = record { alias = h.names.alias; path_quality = h.names.path_quality; qualities = h.names.qualities; interval = h.names.interval; fits = h.names.fits };
      queues = record { own = h.queues.own; entries = entries };
      users = record { prompt = h.users.prompt; hosts = h.users.hosts; sessions = h.users.sessions };
      next_round = h.next_round;
    })

-- ---- sessions

pub with_sessions : (s s2 : Station) (ss : List Session) → s2.sessions.items ≡ map bare ss → s2 ≡ record s { sessions = s2.sessions }
    → (n : State) → Holds s n → Holds s2 (record n { sessions = ss })
with_sessions s s2 ss f same n h =
    subst (λ (x : Station). Holds x (record n { sessions = ss })) (sym same) (record {
      parts = record { links = h.parts.links; log = h.parts.log; rules = h.parts.rules; own = h.parts.own; call = h.parts.call; set = h.parts.set };
      names = record { alias = h.names.alias; path_quality = h.names.path_quality; qualities = h.names.qualities; interval = h.names.interval; fits = h.names.fits };
      queues = record { own = h.queues.own; entries = h.queues.entries };
      users = record { prompt = h.users.prompt; hosts = h.users.hosts; sessions = f };
      next_round = h.next_round;
    })

-- ---- broadcasts and locks, by the room of the table

pub room : (t : TableRoutes) (n : State) (items : List Item) → StandsFor t n.log → t.rules ≡ n.settings.rules → HasRoom t items → has_room items n ≡ true
room t n items stands rules has =
    let few : length (usable n.settings.rules (n.log ++ items)) ≤ 16384 = rw rules at (has n.log stands) in
    grind (arith, nat_tests)

pub record NoRoom (n : State) (items : List Item) (live would_be : ℕ) : Type 0 where
  pub room : has_room items n ≡ false
  pub live_is : live ≡ length (usable n.settings.rules n.log)
  pub would_be_is : would_be ≡ live_with items n

pub no_room : (t : TableRoutes) (n : State) (items : List Item) (live would_be : ℕ) → StandsFor t n.log → t.rules ≡ n.settings.rules → IsFull t items live would_be → NoRoom n items live would_be
no_room t n items live would_be stands rules full =
    let after : would_be ≡ length (usable n.settings.rules (n.log ++ items)) = rw rules at (full.after n.log stands) in
    let now : live ≡ length (usable n.settings.rules n.log) = rw rules at (full.held n.log stands) in
    let over : 16384 < would_be = full.over in
    record { room = grind (arith, nat_tests); live_is = now; would_be_is = after }

-- what a table has taken in that had room for it
pub heard_in : (items : List Item) (s : Station) (r : Routing Kept) (old new : TableRoutes) → r ≡ s.set.router → old ≡ r.table → TableGoesOn old new items → HasRoom old items
    → SameNode old new → (n : State) → Holds s n → Holds (with_table s r new) (take_in items n)
heard_in items s r old new e f goes has same n h =
    rw (room old n items (rw (f, e) h.parts.log) (rw (f, e) h.parts.rules) has) (table_goes items s r old new e f goes same n h)

pub full_in : (items : List Item) (n : State) (live would_be : ℕ) (s : Station) → NoRoom n items live would_be → Holds s (enter (Overflow live would_be ∷ []) n) → Holds s (take_in items n)
full_in items n live would_be s full h =
    rw full.room (subst (λ k. Holds s (enter (Overflow (length (usable n.settings.rules n.log)) k ∷ []) n)) full.would_be_is (subst (λ k. Holds s (enter (Overflow k would_be ∷ []) n)) full.live_is h))

-- what a neighbour has broadcast, by the node's own call and path quality
pub same_items : (s : Station) (r : Routing Kept) (t : TableRoutes) → r ≡ s.set.router → t ≡ r.table → (n : State) → Holds s n → (source : Callsign) (alias : Alias) (quality : ℕ) (es : List Reported)
    → quality ≡ quality_to source n → broadcast t.own source alias quality es ≡ broadcast n.settings.call source alias (quality_to source n) es
same_items s r t e f n h source alias quality es same =
    let own : t.own ≡ n.settings.call = rw (f, e) h.parts.own in
    rw (own, same) refl

-- ---- frames

pub with_own : (s s2 : Station) (own : List Written) → s2.own.items ≡ own → s2 ≡ record s { own = s2.own } → (n : State) → Holds s n → Holds s2 (record n { own = own })
with_own s s2 own f same n h =
    subst (λ (x : Station). Holds x (record n { own = own })) (sym same) (record {
      parts = record { links = h.parts.links; log = h.parts.log; rules = h.parts.rules; own = h.parts.own; call = h.parts.call; set = h.parts.set };
      names = record { alias = h.names.alias; path_quality = h.names.path_quality; qualities = h.names.qualities; interval = h.names.interval; fits = h.names.fits };
      queues = record { own = f; entries = h.queues.entries };
      users = record { prompt = h.users.prompt; hosts = h.users.hosts; sessions = h.users.sessions };
      next_round = h.next_round;
    })

-- where the node has no frames of its own, the first of the links is fetched
pub fetched_of_links : (n : State) → n.own ≡ [] → fetch_frame n ≡ at_links fetch n
fetched_of_links n e = ap (λ (fs : List Written). fetch_own fs n) e

first_moves : (own : List Written) (e : Written) (fs : List Sent) → Some e ≡ slice_get (map written fs) 0 → own ++ map written fs ≡ (own ++ e ∷ []) ++ map written (drop 1 fs)
first_moves own e [] p = absurd (cc p)
first_moves own e (f ∷ fs) p =
    let same : e ≡ written f = cc p in
    rw same (sym (append_assoc own (written f ∷ []) (map written fs)))

-- a frame that waits at the links may be moved behind the node's own before another is put out
pub put_moves : (f e : Written) (m : State) → Some e ≡ slice_get (sent_frames m.links) 0 → put f m ≡ put f (record (at_links fetch m) { own = m.own ++ e ∷ [] })
put_moves f e m p = ap (λ (xs : List Written). record m { own = xs ++ f ∷ []; links = all_fetched m.links }) (first_moves m.own e m.links.pending.frames p)

none_sent : (fs : List Sent) → None ≡ slice_get (map written fs) 0 → fs ≡ []
none_sent [] p = refl
none_sent (f ∷ fs) p = absurd (cc p)

-- where none waits at the links, a frame goes behind the node's own
pub put_none : (f : Written) (m : State) → None ≡ slice_get (sent_frames m.links) 0 → put f m ≡ record (at_links fetch m) { own = m.own ++ f ∷ [] }
put_none f m p =
    let none : m.links.pending.frames ≡ [] = none_sent m.links.pending.frames p in
    let own : m.own ++ sent_frames m.links ≡ m.own = ap (λ (fs : List Sent). m.own ++ map written fs) none ∙ append-nil m.own in
    ap (λ (xs : List Written). record m { own = xs ++ f ∷ []; links = all_fetched m.links }) own
    ∙ ap (λ (fs : List Sent). record m { own = m.own ++ f ∷ []; links = record m.links { pending = record m.links.pending { frames = fs } } }) (sym (ap (drop 1) none))

-- ---- calls of the circuits

pub set_steps : (step : Waiting → Waiting) (s : Station) (new : Circuits Kept) → sets.SetGoes s.set new (λ x. step (at_rest x)) → (n : State) → Holds s n → IsTold n
    → Holds (record s { set = new }) (at_set step n)
set_steps step s new goes n h told =
    subst (λ (w : Waiting). Holds (record s { set = new }) (record n { set = w })) (sym (ap step told)) (set_goes (λ x. step (at_rest x)) s new goes n h told)

-- ---- rounds

pub settings_stay : (fs : List Written) (n : State) → (put_all fs n).settings ≡ n.settings
settings_stay [] n = refl
settings_stay (f ∷ fs) n = settings_stay fs (put f n)

pub put_last : (fs : List Written) (f : Written) (n : State) → put_all (fs ++ f ∷ []) n ≡ put f (put_all fs n)
put_last [] f n = refl
put_last (g ∷ fs) f n = put_last fs f (put g n)
