-- What is sent under number 0 is a refusal, and no end heeds that or a copy of it: so what is heeded was sent by an end.
use Rattle.std.proofs.Common.{◌≡◌, ◌∙◌, ◌≤◌, ℕ, zero, suc, refl, ap, arith, List, [], ◌∷◌, drop, true}
use Rattle.std.specs.Prelude.{slice_get, slice_set, Option, Some, None}
use Rattle.std.specs.List.{AllByRecursion}
use Rattle.ax_address.specs.Callsign.{Callsign}
use Rattle.circuit_l4.specs.Transports.{transport_at}
use Rattle.circuit_table.specs.Events.{is_copy}
use Rattle.circuit_table.specs.Events as events
use Rattle.circuit_set.specs.Heedings.{IsFor}
use Rattle.circuit_set.specs.Refusals.{IsNumbered, IsRefusal, RefusalsAreUnheeded, RefusesUnder0, SetsRefuseUnder0, StartsAreNumbered}
use Rattle.circuit_table.specs.Runs as net
use Rattle.circuit_table.specs.Runs.{AreStarts, Step, events_of}
use Rattle.circuit_table.specs.Sets as sets
use Rattle.circuit_table.specs.Sets.{Act, SetState, CircuitTold, set_step}
use Rattle.net_laws.proofs.Hopping.{all_parts, same_list}
use Rattle.net_laws.proofs.Lists.{both, one_of}

-- ---- what is told

abbrev RefusesTold : CircuitTold → Type 0
RefusesTold (sets.Sent id number d) = id ≡ 0 → IsRefusal d
RefusesTold t = Unit {0}

-- where it was sent under number 0, it is a refusal
abbrev pub RefusesAt0 : events.Event → Type 0
RefusesAt0 e = RefusesTold e.told

at_refuse : (node : ℕ) (own : Callsign) (ts : List CircuitTold) → RefusesUnder0 ts → AllByRecursion RefusesAt0 (net.events_at node own ts)
at_refuse node own [] a = tt
at_refuse node own (sets.Sent id number d ∷ ts) a = (a.0, at_refuse node own ts a.1)
at_refuse node own (sets.Made id pair partner request ∷ ts) a = (tt, at_refuse node own ts a)
at_refuse node own (sets.Heeded id d ∷ ts) a = (tt, at_refuse node own ts a)
at_refuse node own (sets.Notice id notice ∷ ts) a = (tt, at_refuse node own ts a)
at_refuse node own (sets.Gone id facts ∷ ts) a = (tt, at_refuse node own ts a)
at_refuse node own (sets.Restarted pair ∷ ts) a = (tt, at_refuse node own ts a)
at_refuse node own (sets.Lost id facts ∷ ts) a = (tt, at_refuse node own ts a)

-- ---- a run

put_all : {A : Type 0} (P : A → Type 0) (xs : List A) (at : ℕ) (x : A) → AllByRecursion P xs → P x → AllByRecursion P (slice_set xs at x)
put_all P [] at x a p = tt
put_all P (y ∷ xs) zero x a p = (p, a.1)
put_all P (y ∷ xs) (suc at) x a p = (a.0, put_all P xs at x a.1 p)

starts_numbered : StartsAreNumbered → (ss : List SetState) → AreStarts ss → AllByRecursion IsNumbered ss
starts_numbered law [] a = tt
starts_numbered law (s ∷ ss) a = (law s a.0, starts_numbered law ss a.1)

module _ (law : SetsRefuseUnder0) where
  set_numbered : (ss : List SetState) (node : ℕ) (o : Option SetState) (act : Act) → slice_get ss node ≡ o → AllByRecursion IsNumbered ss → AllByRecursion IsNumbered (net.sets_at ss node o act)
  set_numbered ss node None act e a = a
  set_numbered ss node (Some s) act e a = put_all IsNumbered ss node (set_step s act).set a (law s (one_of IsNumbered ss node s a e) act).0

  step_refuses : (ss : List SetState) (node : ℕ) (o : Option SetState) (act : Act) → slice_get ss node ≡ o → AllByRecursion IsNumbered ss → AllByRecursion RefusesAt0 (net.told_at ss node o act)
  step_refuses ss node None act e a = tt
  step_refuses ss node (Some s) act e a = at_refuse node s.own (set_step s act).told (law s (one_of IsNumbered ss node s a e) act).1

  run_refuses : (ss : List SetState) (steps : List Step) → AllByRecursion IsNumbered ss → AllByRecursion RefusesAt0 (events_of ss steps)
  run_refuses ss [] a = tt
  run_refuses ss (st ∷ sts) a =
      let o : Option SetState = slice_get ss st.node in
      both RefusesAt0 (net.told_at ss st.node o st.act) (events_of (net.sets_at ss st.node o st.act) sts) (step_refuses ss st.node o st.act refl a)
      (run_refuses (net.sets_at ss st.node o st.act) sts (set_numbered ss st.node o st.act refl a))

pub events_refuse : StartsAreNumbered → SetsRefuseUnder0 → (ss : List SetState) → AreStarts ss → (steps : List Step) → AllByRecursion RefusesAt0 (events_of ss steps)
events_refuse starts law ss a steps = run_refuses law ss steps (starts_numbered starts ss a)

-- ---- what is heeded

copied : (d sent : List ℕ) → is_copy d sent ≡ true → IsRefusal sent → IsRefusal d
copied d sent e r =
    let back : drop 15 d ≡ drop 15 sent = same_list (drop 15 d) (drop 15 sent) (all_parts _ _ _ _ e).1 in
    record { pair = r.pair; carried = ap transport_at back ∙ r.carried }

pub sent_by_end : RefusalsAreUnheeded → (s : SetState) (a : Act) (id by : ℕ) (d sent : List ℕ) → IsFor s a id d → is_copy d sent ≡ true → (by ≡ 0 → IsRefusal sent) → 1 ≤ by
sent_by_end unheeded s a id zero d sent f copy refuses = absurd (unheeded s a id d f (copied d sent copy (refuses refl)))
sent_by_end unheeded s a id (suc by) d sent f copy refuses = omega arith
