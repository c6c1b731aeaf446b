-- What was sent, step by step of several nodes' circuits; and that a carried frame is taken as it is from KISS bytes.
use Rattle.std.proofs.Common.{◌≡◌, ◌∙◌, ◌≤◌, ◌<◌, ℕ, refl, sym, ap, subst, arith, List, [], ◌∷◌, ◌++◌, length, append_assoc, append-nil, drop, Bool, true, false}
use Rattle.std.specs.Prelude.{nat_eq, nat_le, slice_get, Some, if◌then◌else◌}
use Rattle.std.specs.List.{AllByRecursion, flat_map}
use Rattle.std.proofs.lemmas.Bool.Decides.{nat_tests}
use Rattle.ax_address.specs.Callsign.{Callsign}
use Rattle.circuit_table.specs.Events as set_events
use Rattle.circuit_table.specs.Pumps.{runs}
use Rattle.circuit_set.specs.Returning.{told_at_node}
use Rattle.circuit_table.specs.Runs as net
use Rattle.circuit_table.specs.Runs.{events_of}
use Rattle.circuit_table.specs.Sets as sets
use Rattle.circuit_table.specs.Sets.{Act, Holder, SetDone, SetState, CircuitTold}
use Rattle.kiss_framing.specs.Stream.{escape_of, framed}
use Rattle.kiss_framing.specs.Laws.{FendParts, FramesReadBack, LongFramesAreTooLong}
use Rattle.kiss_framing.specs.Stream as kiss
use Rattle.kiss_framing.specs.declared.TheConstants.{FEND}
use Rattle.node_core.specs.Carried.{IsAloft, ItemAloft, Place, sends_in}
use Rattle.node_core.specs.Inputs.{new_items}
use Rattle.node_core.specs.Runs.{InputsAreSteps, StepsOf, steps_at}
use Rattle.net_model.proofs.Remembering.{Lifts, Past, Rising, lift, runs_lift}

-- ---- what was sent, in what happened at several nodes' circuits

sends_both : (xs ys : List CircuitTold) → sends_in (xs ++ ys) ≡ sends_in xs ++ sends_in ys
sends_both [] ys = refl
sends_both (sets.Sent id number d ∷ xs) ys = ap (λ ds. d ∷ ds) (sends_both xs ys)
sends_both (sets.Made id pair partner request ∷ xs) ys = sends_both xs ys
sends_both (sets.Heeded id d ∷ xs) ys = sends_both xs ys
sends_both (sets.Notice id notice ∷ xs) ys = sends_both xs ys
sends_both (sets.Gone id facts ∷ xs) ys = sends_both xs ys
sends_both (sets.Restarted pair ∷ xs) ys = sends_both xs ys
sends_both (sets.Lost id facts ∷ xs) ys = sends_both xs ys

-- ---- by whom: what the node at a place has sent

abbrev pub sent_at : ℕ → List set_events.Event → List (List ℕ)
sent_at place es = sends_in (told_at_node place es)

told_both : (place : ℕ) (xs ys : List set_events.Event) → told_at_node place (xs ++ ys) ≡ told_at_node place xs ++ told_at_node place ys
told_both place [] ys = refl
told_both place (e ∷ xs) ys = by (nat_eq e.node place) (told_both place xs ys)
  where
    by : (b : Bool) → told_at_node place (xs ++ ys) ≡ told_at_node place xs ++ told_at_node place ys
        → (if b then e.told ∷ told_at_node place (xs ++ ys) else told_at_node place (xs ++ ys)) ≡ (if b then e.told ∷ told_at_node place xs else told_at_node place xs) ++ told_at_node place ys
    by true r = ap (λ ts. e.told ∷ ts) r
    by false r = r

pub sent_at_both : (place : ℕ) (xs ys : List set_events.Event) → sent_at place (xs ++ ys) ≡ sent_at place xs ++ sent_at place ys
sent_at_both place xs ys = ap sends_in (told_both place xs ys) ∙ sends_both (told_at_node place xs) (told_at_node place ys)

told_here : (place : ℕ) (own : Callsign) (ts : List CircuitTold) → told_at_node place (net.events_at place own ts) ≡ ts
told_here place own [] = refl
told_here place own (t ∷ ts) =
    let same : nat_eq place place ≡ true = grind (arith, nat_tests) in
    ap (λ b. if b then t ∷ told_at_node place (net.events_at place own ts) else told_at_node place (net.events_at place own ts)) same ∙ ap (λ us. t ∷ us) (told_here place own ts)

pub told_there : (place at : ℕ) (own : Callsign) (ts : List CircuitTold) → nat_eq at place ≡ false → told_at_node place (net.events_at at own ts) ≡ []
told_there place at own [] n = refl
told_there place at own (t ∷ ts) n =
    ap (λ b. if b then t ∷ told_at_node place (net.events_at at own ts) else told_at_node place (net.events_at at own ts)) n ∙ told_there place at own ts n

-- ---- the inputs of one node

module _ (base : ℕ) (past : List Holder) (lost : Past base past) where
  -- what these steps tell is what the inputs do
  inputs_tell : InputsAreSteps → (inputs : List Act) (ss : List SetState) (at : ℕ) (s t : SetState) → slice_get ss at ≡ Some t → t ≡ lift past s → Rising base s.ends s.number
      → events_of ss (steps_at at inputs) ≡ net.events_at at t.own (runs inputs s).told
  inputs_tell are_steps inputs ss at s t here is r =
      let of : StepsOf ss at t inputs = are_steps ss at t inputs here in
      let l : Lifts base past s (runs inputs (lift past s)) (runs inputs s) = runs_lift base past lost inputs s r in
      of.events ∙ (ap (λ x. net.events_at at t.own (runs inputs x).told) is ∙ ap (λ (d : SetDone). net.events_at at t.own d.told) l.is)

  pub inputs_send : InputsAreSteps → (inputs : List Act) (ss : List SetState) (at : ℕ) (s t : SetState) → slice_get ss at ≡ Some t → t ≡ lift past s → Rising base s.ends s.number
      → sent_at at (events_of ss (steps_at at inputs)) ≡ sends_in (runs inputs s).told
  inputs_send are_steps inputs ss at s t here is r =
      ap (sent_at at) (inputs_tell are_steps inputs ss at s t here is r) ∙ ap sends_in (told_here at t.own (runs inputs s).told)

  -- and nobody else has sent anything
  pub others_send : InputsAreSteps → (inputs : List Act) (ss : List SetState) (at place : ℕ) (s t : SetState) → slice_get ss at ≡ Some t → t ≡ lift past s → Rising base s.ends s.number
      → nat_eq at place ≡ false → sent_at place (events_of ss (steps_at at inputs)) ≡ []
  others_send are_steps inputs ss at place s t here is r n =
      ap (sent_at place) (inputs_tell are_steps inputs ss at s t here is r) ∙ ap sends_in (told_there place at t.own (runs inputs s).told n)

-- ---- KISS bytes

-- a stream at whose end a frame begins anew
abbrev pub IsRested : List ℕ → Type 0
IsRested stream = kiss.items (stream ++ FEND ∷ []) ≡ kiss.items stream

drop_front : {A : Type 0} (xs ys : List A) → drop (length xs) (xs ++ ys) ≡ ys
drop_front [] ys = refl
drop_front (x ∷ xs) ys = drop_front xs ys

module _ (parts : FendParts) (read_back : FramesReadBack) (too_long : LongFramesAreTooLong) where
  rested_end : (front : List ℕ) → IsRested (front ++ FEND ∷ [])
  rested_end front = ap kiss.items (append_assoc front (FEND ∷ []) (FEND ∷ [])) ∙ (parts front (FEND ∷ []) ∙ append-nil (kiss.items (front ++ FEND ∷ [])))

  module _ (stream octets : List ℕ) (r : IsRested stream) where
    body : List ℕ
    body = flat_map escape_of (0 ∷ octets)

    pub new_are : new_items stream (framed 0 0 octets) ≡ kiss.items (framed 0 0 octets)
    unfolding body
    new_are =
        let tail : List ℕ = body ++ FEND ∷ [] in
        ap (drop (length (kiss.items stream))) (parts stream tail ∙ ap (λ xs. xs ++ kiss.items tail) r) ∙ (drop_front (kiss.items stream) (kiss.items tail) ∙ sym (parts [] tail))

    pub rested_then : IsRested (stream ++ framed 0 0 octets)
    unfolding body
    rested_then = subst IsRested (append_assoc stream (FEND ∷ body) (FEND ∷ [])) (rested_end (stream ++ FEND ∷ body))

  items_by : (here : Place) (octets : List ℕ) (b : Bool) → nat_le (length octets) 1023 ≡ b → IsAloft here.size here.borne octets → AllByRecursion (ItemAloft here) (kiss.items (framed 0 0 octets))
  items_by here octets true e x =
      let fits : length octets ≤ 1023 = grind (arith, nat_tests, e) in
      subst (AllByRecursion (ItemAloft here)) (sym (read_back 0 0 octets (omega arith) (omega arith) fits)) (x, tt)
  items_by here octets false e x =
      let over : 1023 < length octets = grind (arith, nat_tests, e) in
      subst (AllByRecursion (ItemAloft here)) (sym (too_long 0 0 octets over)) (tt, tt)

  pub items_carried : (here : Place) (stream octets : List ℕ) → IsRested stream → IsAloft here.size here.borne octets → AllByRecursion (ItemAloft here) (new_items stream (framed 0 0 octets))
  items_carried here stream octets r x = subst (AllByRecursion (ItemAloft here)) (sym (new_are stream octets r)) (items_by here octets (nat_le (length octets) 1023) refl x)
