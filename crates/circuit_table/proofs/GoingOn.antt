-- A call of `pump`: what is untold, or what comes of the router.
use Rattle.std.specs.Prelude.{◌≡◌, ℕ, true, false, is_some, Bool, List, [], ◌∷◌, Option, Some, None, Result, Ok, Err, OnOk, refl}
use Rattle.std.proofs.Common.{sym, ◌∙◌, ap, subst}
use Rattle.std.proofs.lemmas.List.{append-nil}
use Rattle.radio_base.specs.declared.no_memory.NoMemory.{NoMemory}
use Rattle.ax_address.specs.Callsign.{Callsign}
use Rattle.route_table.specs.Log.{Item}
use Rattle.route_table.specs.Held.{StandsFor}
use Rattle.route_table.specs.Table.{next_hop}
use Rattle.l3_datagram.specs.declared.carrier.Offered.{Offered}
use Rattle.l3_datagram.specs.declared.carrier.Offered.TheVariants as offered
use Rattle.l3_datagram.specs.declared.routed.Routed.{Routed}
use Rattle.l3_datagram.specs.Datagrams.{CarrierCall, Parcel}
use Rattle.circuit_table.specs.declared.event.SetEvent.{SetEvent}
use Rattle.circuit_table.specs.declared.event.SetEvent.TheVariants as event
use Rattle.circuit_table.specs.declared.held_ends.HeldEnds.{HeldEnds}
use Rattle.circuit_table.specs.declared.untold.Untold.{Untold}
use Rattle.circuit_table.specs.Sets.{SetState, CircuitTold}
use Rattle.circuit_table.specs.Pumps.{Dropped, Pumped, asks, at_rest, ends_with, is_empty, pump_step, says_nothing, tells_first, turn_step}
use Rattle.circuit_table.specs.Standing.{FirstLoud, Gives, HeldStands}
use Rattle.circuit_table.specs.CircuitSets.{Circuits, DoesPump, Pumps, SetStands}
use Rattle.circuit_table.specs.SetTurns.{Asks, Tells}
use Rattle.circuit_table.proofs.Looping.{all_taken, firsts-taken}
use Rattle.circuit_table.proofs.Searching.{gives_none}

pub is_none_by : {A : Type 0} (o : Option A) → false ≡ is_some o → o ≡ None
is_none_by None e = refl
is_none_by (Some r) e = absurd (cc e)

module _ {C : Type 0} (made : C → List CarrierCall → C → Type 0) (none_made : (c : C) → made c [] c) (old : Circuits C) (lost : List Callsign) (waiting : List Parcel) (now : ℕ) where
  -- what a sending came to
  lost_case : (nh : Callsign → Option Callsign) (s : SetState) (ts : List CircuitTold) (o : Option Routed) (r : Routed) (ps : List (Parcel × Offered)) (a : Offered) → o ≡ Some r
      → ends_with [] (record { told = Some (Dropped r); after = record { set = s; untold = ts; lost = None }; items = [] }) ≡ pump_step nh now (record { set = s; untold = ts; lost = o }) lost ps a
  lost_case nh s ts None r ps a e = absurd (cc e)
  lost_case nh s ts (Some x) r ps a e =
      let same : r ≡ x = cc (sym e) in
      ap (λ (y : Routed). ends_with [] (record { told = Some (Dropped y); after = record { set = s; untold = ts; lost = None }; items = [] })) same

  pub tells_lost : (r : Routed) (left : Option Routed) → old.lost ≡ Some r → left ≡ None → Pumps made old (record old { lost = left }) lost waiting now (Some (event.Dropped r))
  tells_lost r left e n = (
    all_taken waiting,
    offered.Taken,
    firsts-taken waiting,
    λ log w stands st.
        let nh = next_hop old.router.table.rules log in
        let done : DoesPump made old (record old { lost = left }) log (Some (event.Dropped r)) (ends_with [] (record { told = Some (Dropped r); after = record { set = w.set; untold = w.untold; lost = None }; items = [] })) = record {
          told = refl;
          calls = none_made old.router.carrier;
          table = subst (λ (l : List Item). StandsFor old.router.table l) (sym (append-nil log)) stands;
          stands = record { ends = st.ends; own = st.own; ttl = st.ttl; lost = sym n; unspent = st.unspent };
        } in
        subst (λ (p : Pumped). DoesPump made old (record old { lost = left }) log (Some (event.Dropped r)) p) (lost_case nh w.set w.untold w.lost r (all_taken waiting) offered.Taken (st.lost ∙ e)) done,
  )

  -- what an end tells
  told_case : (nh : Callsign → Option Callsign) (s : SetState) (ts : List CircuitTold) (o : Option Routed) (t : CircuitTold) (rest : List CircuitTold) (ps : List (Parcel × Offered)) (a : Offered) → ts ≡ t ∷ rest → o ≡ None
      → turn_step now (tells_first nh s t rest) a ≡ pump_step nh now (record { set = s; untold = ts; lost = o }) lost ps a
  told_case nh s ts (Some r) t rest ps a e f = absurd (cc f)
  told_case nh s [] None t rest ps a e f = absurd (cc e)
  told_case nh s (x ∷ xs) None t rest ps a e f =
      let one : t ≡ x = cc (sym e) in
      let two : rest ≡ xs = cc (sym e) in
      ap (λ y. turn_step now (tells_first nh s y rest) a) one ∙ ap (λ ys. turn_step now (tells_first nh s x ys) a) two

  abbrev mid : HeldEnds → Option Routed → Circuits C
  mid h left = record { router = old.router; held = h; lost = left; spent = old.spent }

  tells_one : (new : Circuits C) (h : HeldEnds) (left : Option Routed) (u : Untold) (r : Option Untold) (told : Option SetEvent) → old.lost ≡ None → left ≡ None → r ≡ Some u
      → ((s : SetState) (ts : List CircuitTold) → HeldStands old.held s ts → Gives (record { set = s; told = ts }) r h) → Tells made (mid h left) new u now told
      → Pumps made old new lost waiting now told
  tells_one new h left u r told e n is gives tells = (
    all_taken waiting,
    tells.0,
    firsts-taken waiting,
    λ log w stands st.
        let nh = next_hop old.router.table.rules log in
        let x = subst (λ (o : Option Untold). Gives (record { set = w.set; told = w.untold }) o h) is (gives w.set w.untold st.ends) in
        let held : SetStands (mid h left) (record { set = w.set; untold = x.1; lost = None }) = record { ends = x.4; own = st.own; ttl = st.ttl; lost = sym n; unspent = st.unspent } in
        let y : DoesPump made (mid h left) new log told (turn_step now (tells_first nh w.set x.0 x.1) tells.0) = tells.1 log w.set x.0 x.1 stands held x.3 in
        let z : DoesPump made old new log told (turn_step now (tells_first nh w.set x.0 x.1) tells.0) = record { told = y.told; calls = y.calls; table = y.table; stands = y.stands } in
        subst (λ (p : Pumped). DoesPump made old new log told p) (told_case nh w.set w.untold w.lost x.0 x.1 (all_taken waiting) tells.0 x.2 (st.lost ∙ e)) z,
  )

  pub tells_on : (new : Circuits C) (h : HeldEnds) (u : Untold) (r : Option Untold) (told : Option SetEvent) (result : Result (Unit {0}) NoMemory) → old.lost ≡ None → r ≡ Some u
      → ((s : SetState) (ts : List CircuitTold) → HeldStands old.held s ts → Gives (record { set = s; told = ts }) r h) → OnOk result (Tells made (record old { held = h }) new u now told)
      → OnOk result (Pumps made old new lost waiting now told)
  tells_on new h u r told (Ok x) e is gives tells = tells_one new h old.lost u r told e e is gives tells
  tells_on new h u r told (Err x) e is gives tells = tells

  -- what comes of the router
  asks_case : (nh : Callsign → Option Callsign) (s : SetState) (ts : List CircuitTold) (o : Option Routed) (ps : List (Parcel × Offered)) → ts ≡ [] → o ≡ None
      → asks nh now s lost ps ≡ pump_step nh now (record { set = s; untold = ts; lost = o }) lost ps offered.Taken
  asks_case nh s ts (Some r) ps e f = absurd (cc f)
  asks_case nh s (t ∷ ts) None ps e f = absurd (cc e)
  asks_case nh s [] None ps e f = refl

  asks_one : (new : Circuits C) (h : HeldEnds) (left : Option Routed) (r : Option Untold) (told : Option SetEvent) → old.lost ≡ None → left ≡ None → r ≡ None
      → ((s : SetState) (ts : List CircuitTold) → HeldStands old.held s ts → Gives (record { set = s; told = ts }) r h) → Asks made (mid h left) new lost waiting now told
      → Pumps made old new lost waiting now told
  asks_one new h left r told e n is gives asked = (
    asked.0,
    offered.Taken,
    asked.1,
    λ log w stands st.
        let nh = next_hop old.router.table.rules log in
        let x = subst (λ (o : Option Untold). Gives (record { set = w.set; told = w.untold }) o h) is (gives w.set w.untold st.ends) in
        let held : SetStands (mid h left) (at_rest w.set) = record { ends = x.1; own = st.own; ttl = st.ttl; lost = sym n; unspent = st.unspent } in
        let y : DoesPump made (mid h left) new log told (asks nh now w.set lost asked.0) = asked.2 log w.set stands held in
        let z : DoesPump made old new log told (asks nh now w.set lost asked.0) = record { told = y.told; calls = y.calls; table = y.table; stands = y.stands } in
        subst (λ (p : Pumped). DoesPump made old new log told p) (asks_case nh w.set w.untold w.lost asked.0 x.0 (st.lost ∙ e)) z,
  )

  asks_on : (new : Circuits C) (h : HeldEnds) (r : Option Untold) (told : Option SetEvent) (result : Result (Unit {0}) NoMemory) → old.lost ≡ None → r ≡ None
      → ((s : SetState) (ts : List CircuitTold) → HeldStands old.held s ts → Gives (record { set = s; told = ts }) r h) → OnOk result (Asks made (record old { held = h }) new lost waiting now told)
      → OnOk result (Pumps made old new lost waiting now told)
  asks_on new h r told (Ok x) e is gives asked = asks_one new h old.lost r told e e is gives asked
  asks_on new h r told (Err x) e is gives asked = asked

  -- nothing lies anywhere
  empty_is : (ts : List CircuitTold) → is_empty ts ≡ true → ts ≡ []
  empty_is [] e = refl
  empty_is (t ∷ ts) e = absurd (cc e)

  idle_case : (nh : Callsign → Option Callsign) (s : SetState) (ts : List CircuitTold) (o : Option Routed) (ls : List Callsign) → ts ≡ [] → o ≡ None → ls ≡ []
      → ends_with [] (says_nothing (at_rest s)) ≡ pump_step nh now (record { set = s; untold = ts; lost = o }) ls [] offered.Taken
  idle_case nh s (t ∷ ts) o ls e f g = absurd (cc e)
  idle_case nh s [] (Some r) ls e f g = absurd (cc f)
  idle_case nh s [] None (l ∷ ls) e f g = absurd (cc g)
  idle_case nh s [] None [] e f g = refl

  pub tells_nothing : lost ≡ [] → waiting ≡ [] → old.lost ≡ None
      → ((s : SetState) (ts : List CircuitTold) → HeldStands old.held s ts → is_empty ts ≡ true) → Pumps made old old lost waiting now None
  tells_nothing l w n quiet = (
    [],
    offered.Taken,
    sym w,
    λ log at stands st.
        let nh = next_hop old.router.table.rules log in
        let none : at.untold ≡ [] = empty_is at.untold (quiet at.set at.untold st.ends) in
        let done : DoesPump made old old log None (ends_with [] (says_nothing (at_rest at.set))) = record {
          told = refl;
          calls = none_made old.router.carrier;
          table = subst (λ (items : List Item). StandsFor old.router.table items) (sym (append-nil log)) stands;
          stands = record { ends = subst (HeldStands old.held at.set) none st.ends; own = st.own; ttl = st.ttl; lost = sym n; unspent = st.unspent };
        } in
        subst (λ (p : Pumped). DoesPump made old old log None p) (idle_case nh at.set at.untold at.lost lost none (st.lost ∙ n) l) done,
  )

  -- the ends have nothing to tell
  pub asks_quiet : (new : Circuits C) (told : Option SetEvent) (result : Result (Unit {0}) NoMemory) → old.lost ≡ None → FirstLoud None old.held.ends.entries
      → OnOk result (Asks made old new lost waiting now told) → OnOk result (Pumps made old new lost waiting now told)
  asks_quiet new told result e first asked = asks_on new old.held None told result e refl (λ s ts st. gives_none old.held s ts st first) asked
