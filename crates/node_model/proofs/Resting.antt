-- A node comes to rest after each input.
use Rattle.std.proofs.Common.{◌≡◌, ◌≤◌, ◌<◌, ◌-◌, ◌∙◌, ℕ, zero, suc, refl, ap, arith, drop, List, [], ◌∷◌}
use Rattle.std.specs.Prelude.{Bool, true, false, nat_lt, not, ◌&&◌, ◌||◌, if◌then◌else◌}
use Rattle.std.proofs.lemmas.Bool.Decides.{nat_tests}
use Rattle.ax_address.specs.Callsign.{Callsign}
use Rattle.circuit_table.specs.Pumps.{TellsLess, Offers, Says, Turn}
use Rattle.l3_datagram.specs.Datagrams.{Parcel}
use Rattle.link_table.specs.Calls.{collect, tell_lost}
use Rattle.link_table.specs.Kept.{OffersLeave, TakesLower}
use Rattle.link_table.specs.Table.{Table}
use Rattle.node_model.specs.Links as links
use Rattle.node_model.specs.Pumping as p
use Rattle.node_model.specs.Serving as s
use Rattle.node_model.specs.States.{State, next_hop}
use Rattle.node_model.proofs.Parts.{Leaves, collect_payloads, lost_payloads, offer_leaves, taken, untaken}
use Rattle.node_model.proofs.Telling.{told_kept, told_nothing, told_on, told_rests}
use Rattle.node_model.proofs.Turns.{Falls, ends, goes_on, kept}
use Rattle.node_model.proofs.Weights.{is_quiet}

module _ (offers : OffersLeave) (takes : TakesLower) (less : TellsLess) where
  -- what is told, and handed down, leaves what waits for the node
  pub talked_leaves : (now : ℕ) (t : Turn) (n : State) → Leaves n.links (p.take_turn now t n).links
  talked_leaves now (Says t) n = record { waiting = refl; lost = refl; notices = refl; payloads = refl }
  talked_leaves now (Offers to d told) n = offer_leaves offers takes less to d now n.links

  -- two nodes of which the links hold the same for the node
  abbrev pub Same : State → State → Type 0
  Same old new = Leaves old.links new.links

  same_by : (now : ℕ) (o n : State) (b : Bool) → nat_lt 0 (links.pending n.set) ≡ b → Same o n → Same o (p.tell_turn now n).after
  same_by now o n true e same =
      let more = talked_leaves now (links.tells (next_hop n) n.set) n in
      rw e (record { waiting = more.waiting ∙ same.waiting; lost = more.lost ∙ same.lost; notices = more.notices ∙ same.notices; payloads = more.payloads ∙ same.payloads })
  same_by now o n false e same = rw e same

  pub told_same : (now : ℕ) (n : State) → Same n (p.tell_all now n)
  told_same now n =
      told_kept now (Same n) (λ m same. same_by now n m (nat_lt 0 (links.pending m.set)) refl same) n
      (record { waiting = refl; lost = refl; notices = refl; payloads = refl })

  last_by : (now : ℕ) (n : State) → nat_lt 0 (links.pending n.set) ≡ false → links.pending (p.tell_turn now n).after.set ≡ 0
  last_by now n e = rw e (grind (arith, nat_tests, e))

  -- once all is told, nothing waits to be told
  pub told_none : (now : ℕ) (n : State) → links.pending (p.tell_all now n).set ≡ 0
  told_none now n =
      let r = told_rests now n in
      rw r.is (last_by now r.last r.nothing)

  -- one thing less waits at the router, and nothing else is changed
  pub record Asked (old new : State) : Type 0 where
    pub one : p.at_router new ≡ p.at_router old - 1
    pub notices : new.links.pending.notices ≡ old.links.pending.notices
    pub payloads : links.payloads new.links ≡ links.payloads old.links

  pub asked_by : (now : ℕ) (n : State) (lost : List Callsign) (waiting : List Parcel) → n.links.pending.lost ≡ lost → n.links.pending.waiting ≡ waiting
      → Asked n (p.ask_for now lost waiting n)
  asked_by now n (c ∷ cs) waiting e f =
      let here : (tell_lost n.links).pending.lost ≡ cs = ap (drop 1) e in
      record {
        one = rw (here, e) (omega arith);
        notices = refl;
        payloads = lost_payloads n.links;
      }
  asked_by now n [] (parcel ∷ parcels) e f =
      let m : State = record n { links = collect n.links } in
      let here : (collect n.links).pending.waiting ≡ parcels = ap (drop 1) f in
      let talk = talked_leaves now (links.hears (next_hop n) now parcel n.set) m in
      record {
        one = rw (talk.lost, talk.waiting, here, e, f) (omega arith);
        notices = talk.notices;
        payloads = talk.payloads ∙ collect_payloads n.links;
      }
  asked_by now n [] [] e f = record { one = rw (e, f) refl; notices = refl; payloads = refl }

  pub asked_one : (now : ℕ) (n : State) → Asked n (p.ask now n)
  asked_one now n = asked_by now n (n.links.pending.lost) (n.links.pending.waiting) refl refl

  -- what is pumped dry
  pub record Dry (old new : State) : Type 0 where
    pub router : p.at_router new ≡ 0
    pub pending : links.pending new.set ≡ 0
    pub notices : new.links.pending.notices ≡ old.links.pending.notices
    pub payloads : links.payloads new.links ≡ links.payloads old.links

  pub routed_dry : (now k : ℕ) (n : State) → p.at_router n ≡ k → links.pending n.set ≡ 0 → Dry n (p.ask_times now k n)
  routed_dry now zero n e none = record { router = e; pending = none; notices = refl; payloads = refl }
  routed_dry now (suc k) n e none =
      let one = asked_one now n in
      let told = told_same now (p.ask now n) in
      let count : p.at_router (p.tell_all now (p.ask now n)) ≡ k = rw (told.lost, told.waiting) (omega (arith, one.one, e)) in
      let rest = routed_dry now k (p.tell_all now (p.ask now n)) count (told_none now (p.ask now n)) in
      record { router = rest.router; pending = rest.pending; notices = rest.notices ∙ (told.notices ∙ one.notices); payloads = rest.payloads ∙ (told.payloads ∙ one.payloads) }

  pub pumped_dry : (now : ℕ) (n : State) → Dry n (p.pump now n)
  unfolding p.pump
  pumped_dry now n =
      let told = told_same now n in
      let rest = routed_dry now (p.at_router n) (p.tell_all now n) (rw (told.lost, told.waiting) refl) (told_none now n) in
      record { router = rest.router; pending = rest.pending; notices = rest.notices ∙ told.notices; payloads = rest.payloads ∙ told.payloads }

  -- ---- texts

  drop_by : (now : ℕ) (n : State) (peers : List Callsign) → (s.drop_first now peers n).did ≡ true
      → links.payloads (s.drop_first now peers n).after.links < links.payloads n.links
  drop_by now n [] did = absurd (cc did)
  drop_by now n (peer ∷ peers) did = taken offers takes less peer now n.links did

  pub drop_falls : (now : ℕ) → Falls (s.drop_text now) (s.payloads)
  drop_falls now n did = drop_by now n (s.dropped_peers n) did

  abbrev pub Fewer : ℕ → State → Type 0
  Fewer bound n = links.payloads n.links ≤ bound

  fewer_if : (now bound : ℕ) (n : State) (peer : Callsign) (b : Bool) → links.has_text peer n.links ≡ b → links.payloads n.links ≤ bound → links.payloads (links.take_text peer now n.links) ≤ bound
  fewer_if now bound n peer true e few = omega (arith, few, taken offers takes less peer now n.links e)
  fewer_if now bound n peer false e few = rw (untaken peer now n.links e) few

  fewer_by : (now bound : ℕ) (n : State) (peers : List Callsign) → Fewer bound n → Fewer bound (s.drop_first now peers n).after
  fewer_by now bound n [] few = few
  fewer_by now bound n (peer ∷ peers) few = fewer_if now bound n peer (links.has_text peer n.links) refl few

  pub dropped_fewer : (now bound : ℕ) (n : State) → Fewer bound n → Fewer bound (s.drop_texts now n)
  dropped_fewer now bound n few = kept (s.drop_text now) (s.payloads) (Fewer bound) (λ m f. fewer_by now bound m (s.dropped_peers m) f) n few

  pub dropped_some : (now : ℕ) (n : State) → (s.drop_text now n).did ≡ true → links.payloads (s.drop_texts now n).links < links.payloads n.links
  dropped_some now n e =
      let one : links.payloads (s.drop_text now n).after.links < links.payloads n.links = drop_falls now n e in
      let rest = dropped_fewer now (links.payloads (s.drop_text now n).after.links) (s.drop_text now n).after (omega arith) in
      rw (goes_on (s.drop_text now) (s.payloads) (drop_falls now) n e) (omega (arith, one, rest))

  none_by : (now : ℕ) (n : State) (peers : List Callsign) → (s.drop_first now peers n).did ≡ false → (s.drop_first now peers n).after ≡ n
  none_by now n [] e = refl
  none_by now n (peer ∷ peers) e = ap (λ (t : Table). record n { links = t }) (untaken peer now n.links e)

  pub dropped_none : (now : ℕ) (n : State) → (s.drop_text now n).did ≡ false → s.drop_texts now n ≡ n
  dropped_none now n e =
      ends (s.drop_text now) (s.payloads) (drop_falls now) n e ∙ none_by now n (s.dropped_peers n) e

  -- ---- a turn

  -- where nothing waits to be told or routed, pumping does nothing
  pub pumped_nothing : (now : ℕ) (n : State) → nat_lt 0 (links.pending n.set) ≡ false → p.at_router n ≡ 0 → p.pump now n ≡ n
  unfolding p.pump
  pumped_nothing now n e f = rw f (told_nothing now n e)

  pub record Quiet (n : State) : Type 0 where
    pub notices : s.has_some (n.links.pending.notices) ≡ false
    pub pending : nat_lt 0 (links.pending n.set) ≡ false
    pub router : p.at_router n ≡ 0

  quiet_by : (n : State) (a b c : Bool) → s.has_some (n.links.pending.notices) ≡ a → nat_lt 0 (links.pending n.set) ≡ b → nat_lt 0 (p.at_router n) ≡ c
      → (not a && (not b && not c)) ≡ true → Quiet n
  quiet_by n true b c e f g q = absurd (grind (arith, q))
  quiet_by n false true c e f g q = absurd (grind (arith, q))
  quiet_by n false false true e f g q = absurd (grind (arith, q))
  quiet_by n false false false e f g q = record { notices = e; pending = f; router = grind (arith, nat_tests, g) }

  pub quiet_is : (n : State) → is_quiet n ≡ true → Quiet n
  quiet_is n q = quiet_by n (s.has_some (n.links.pending.notices)) (nat_lt 0 (links.pending n.set)) (nat_lt 0 (p.at_router n)) refl refl refl q

  -- what is pumped dry, and has no notice, is quiet
  pub dry_is_quiet : (n : State) → n.links.pending.notices ≡ [] → links.pending n.set ≡ 0 → p.at_router n ≡ 0 → is_quiet n ≡ true
  dry_is_quiet n e f g = rw (e, f, g) refl

  pub same_entries : (n : State) → s.has_told n n ≡ false
  same_entries n = grind (arith, nat_tests)

  pub or_false : (a b c : Bool) → a ≡ false → b ≡ false → c ≡ false → ((a || b) || c) ≡ false
  or_false a b c e f g = rw (e, f, g) refl

  -- a turn of a quiet node that finds no text does nothing
  pub quiet_pumped : (now : ℕ) (n : State) → Quiet n → p.pump now (s.enter_notices n) ≡ s.enter_notices n
  quiet_pumped now n q = pumped_nothing now (s.enter_notices n) q.pending q.router

  -- ---- the pumping, call by call

  -- where something waits to be told, the set tells it and is pumped on
  pub tells_on : (now : ℕ) (n : State) → nat_lt 0 (links.pending n.set) ≡ true → p.pump now n ≡ p.pump now (p.tell_one now n)
  unfolding p.pump
  tells_on now n e =
      let leaves = talked_leaves now (links.tells (next_hop n) n.set) n in
      let same : p.at_router (p.tell_one now n) ≡ p.at_router n = rw (leaves.lost, leaves.waiting) refl in
      rw (same, told_on now n e) refl

  asks_by : (now k : ℕ) (n : State) → nat_lt 0 (links.pending n.set) ≡ false → p.at_router n ≡ suc k → p.at_router (p.ask now n) ≡ k
      → p.pump now n ≡ p.pump now (p.ask now n)
  unfolding p.pump
  asks_by now k n e f g = rw (f, g, told_nothing now n e) refl

  -- where nothing does and something waits at the router, that is asked and the set pumped on
  pub asks_on : (now k : ℕ) (n : State) → nat_lt 0 (links.pending n.set) ≡ false → p.at_router n ≡ suc k → p.pump now n ≡ p.pump now (p.ask now n)
  asks_on now k n e f = asks_by now k n e f ((asked_one now n).one ∙ omega (arith, f))
