-- Inputs of one set as steps of a run of sets.
use Rattle.std.proofs.Common.{◌≡◌, ◌∙◌, ℕ, zero, suc, refl, sym, ap, List, [], ◌∷◌, ◌++◌, slice_get}
use Rattle.std.specs.Prelude.{slice_set, Option, Some}
use Rattle.ax_address.specs.Callsign.{Callsign}
use Rattle.circuit_table.specs.Events.{Event}
use Rattle.circuit_table.specs.Pumps.{runs}
use Rattle.circuit_table.specs.Runs.{events_at, events_of, sets_at, sets_run, told_at}
use Rattle.circuit_table.specs.Sets.{SetState, CircuitTold, set_step}
use Rattle.node_core.specs.Runs.{InputsAreSteps, StepsOf, steps_at}
use Rattle.node_core.proofs.Making.{own_stays}

-- ---- one of a list

put_is : (ss : List SetState) (n : ℕ) (s t : SetState) → slice_get ss n ≡ Some s → slice_get (slice_set ss n t) n ≡ Some t
put_is [] n s t h = absurd (cc h)
put_is (x ∷ ss) zero s t h = refl
put_is (x ∷ ss) (suc n) s t h = put_is ss n s t h

put_twice : (ss : List SetState) (n : ℕ) (t u : SetState) → slice_set (slice_set ss n t) n u ≡ slice_set ss n u
put_twice [] n t u = refl
put_twice (x ∷ ss) zero t u = refl
put_twice (x ∷ ss) (suc n) t u = ap (λ (ys : List SetState). x ∷ ys) (put_twice ss n t u)

put_same : (ss : List SetState) (n : ℕ) (s : SetState) → slice_get ss n ≡ Some s → slice_set ss n s ≡ ss
put_same [] n s h = refl
put_same (x ∷ ss) zero s h = let same : x ≡ s = cc h in ap (λ (y : SetState). y ∷ ss) (sym same)
put_same (x ∷ ss) (suc n) s h = ap (λ (ys : List SetState). x ∷ ys) (put_same ss n s h)

events_both : (node : ℕ) (own : Callsign) (xs ys : List CircuitTold) → events_at node own (xs ++ ys) ≡ events_at node own xs ++ events_at node own ys
events_both node own [] ys = refl
events_both node own (x ∷ xs) ys = ap (λ (es : List Event). record { node = node; own = own; told = x } ∷ es) (events_both node own xs ys)

-- ---- the steps

pub inputs_are_steps : InputsAreSteps
inputs_are_steps sets node s [] h = record { events = refl; sets_then = sym (put_same sets node s h) }
inputs_are_steps sets node s (a ∷ inputs) h =
    let t : SetState = (set_step s a).set in
    let rest : StepsOf (slice_set sets node t) node t inputs = inputs_are_steps (slice_set sets node t) node t inputs (put_is sets node s t h) in
    let steps = steps_at node inputs in
    record {
      events =
          ap (λ (o : Option SetState). told_at sets node o a ++ events_of (sets_at sets node o a) steps) h
          ∙ (ap (λ (es : List Event). events_at node s.own (set_step s a).told ++ es) rest.events
          ∙ (ap (λ (own : Callsign). events_at node s.own (set_step s a).told ++ events_at node own (runs inputs t).told) (own_stays s a)
          ∙ sym (events_both node s.own (set_step s a).told (runs inputs t).told)));
      sets_then = ap (λ (o : Option SetState). sets_run (sets_at sets node o a) steps) h ∙ (rest.sets_then ∙ put_twice sets node t (runs inputs t).set);
    }
