-- The event of a cause stands at the line of the verdict, and where nothing came too late there is no cause.
use Rattle.std.proofs.Common.{◌≡◌, ◌∙◌, ℕ, refl, sym, ap, subst, List, [], ◌∷◌, ◌++◌, append_assoc, map}
use Rattle.std.specs.Prelude.{slice_get, Option, Some, None}
use Rattle.std.proofs.lemmas.List.{map-append}
use Rattle.circuit_table.specs.Events as set_events
use Rattle.circuit_table.specs.Pumps.{Of}
use Rattle.circuit_table.specs.Sets.{Restarted, Lost, CircuitTold}
use Rattle.circuit_set.specs.TooLate.{Allowing, IsFresh, IsTimely}
use Rattle.circuit_verdict.specs.Verdicts as told
use Rattle.circuit_verdict.specs.Verdicts.{events_of, AreInTime, Fails, IsFirstLate, allows_of}
use Rattle.circuit_verdict.specs.declared.cause.Cause.{Cause}
use Rattle.circuit_verdict.specs.declared.allowance.Allowance.{Allowance}
use Rattle.circuit_verdict.specs.declared.late.Late.{Late}
use Rattle.circuit_verdict.specs.declared.late.LateWhy.{LateWhy}
use Rattle.circuit_verdict.specs.declared.late.LateWhy.TheVariants.{Overtaken, Returned}
use Rattle.network_file.specs.Plan.{Plan}
use Rattle.node_model.specs.States as states
use Rattle.net_verdict.specs.declared.causes.LateCause.{LateCause}
use Rattle.net_verdict.specs.Causes.{ComesLateBy, IsCauseOf, sign_of}
use Rattle.net_model.specs.Circuits.{what_was_told}
use Rattle.net_model.specs.Circuits.{CircuitEvent, IsVerdictOn, allowance_of, at_node, event_at, events_at, judged}
use Rattle.net_model.specs.Events as events
use Rattle.net_model.specs.Events.{Event, NumberedEvent}
use Rattle.net_model.specs.Starting.{Placed}
use Rattle.net_model.specs.World.{World, place_of_node}
use Rattle.net_model.proofs.WhatWasTold.{told_are}

-- ---- lists: what is so of each front, up to the first item with which it isn't

first_same : {A : Type 0} (T : List A → Type 0) → ((xs ys : List A) → T (xs ++ ys) → T xs) → (xs ys zs us : List A) (x z : A) → xs ++ x ∷ ys ≡ zs ++ z ∷ us
    → T xs → (T (xs ++ x ∷ []) → ⊥) → T zs → (T (zs ++ z ∷ []) → ⊥) → x ≡ z
first_same T shorter [] ys [] us x z e a b c d = cc e
first_same T shorter [] ys (w ∷ zs) us x z e a b c d = let same : w ≡ x = cc e in absurd (b (subst (λ v. T (v ∷ [])) same (shorter (w ∷ []) zs c)))
first_same T shorter (w ∷ xs) ys [] us x z e a b c d = let same : w ≡ z = cc e in absurd (d (subst (λ v. T (v ∷ [])) same (shorter (w ∷ []) xs a)))
first_same T shorter (v ∷ xs) ys (w ∷ zs) us x z e a b c d =
    let same : v ≡ w = cc e in
    let rest : xs ++ x ∷ ys ≡ zs ++ z ∷ us = cc e in
    first_same (λ l. T (v ∷ l)) (λ l m. shorter (v ∷ l) m) xs ys zs us x z rest a b (subst (λ k. T (k ∷ zs)) (sym same) c) (λ t. d (subst (λ k. T (k ∷ (zs ++ z ∷ []))) same t))

-- ---- what is in time

timely_front : (allows : Allowing) (xs ys : List set_events.Event) → IsTimely allows (xs ++ ys) → IsTimely allows xs
timely_front allows xs ys t before after e x d split heeds =
    t before (after ++ ys) e x d (ap (λ (zs : List set_events.Event). zs ++ ys) split ∙ append_assoc before (e ∷ after) ys) heeds

fresh_front : (xs ys : List set_events.Event) → IsFresh (xs ++ ys) → IsFresh xs
fresh_front xs ys t before after e x pair at request split made =
    t before (after ++ ys) e x pair at request (ap (λ (zs : List set_events.Event). zs ++ ys) split ∙ append_assoc before (e ∷ after) ys) made

none_split : (before after : List set_events.Event) (e : set_events.Event) → [] ≡ before ++ e ∷ after → ⊥
none_split [] after e split = absurd (cc split)
none_split (x ∷ before) after e split = absurd (cc split)

-- none comes too late among none
pub empty_in_time : (a : Allowance) → AreInTime a []
empty_in_time a = (λ before after e x d split heeds. absurd (none_split before after e split), λ before after e x pair at request split made. absurd (none_split before after e split))

abbrev IsInTime : Allowance → List CircuitEvent → Type 0
IsInTime a es = AreInTime a (what_was_told es)

shorter : (a : Allowance) (xs ys : List CircuitEvent) → IsInTime a (xs ++ ys) → IsInTime a xs
shorter a xs ys t =
    let both : AreInTime a (what_was_told xs ++ what_was_told ys) = subst (AreInTime a) (map-append (λ (e : CircuitEvent). e.event) xs ys) t in
    (timely_front (allows_of a) (what_was_told xs) (what_was_told ys) both.0, fresh_front (what_was_told xs) (what_was_told ys) both.1)

-- where they fail they aren't in time
fails_late : (a : Allowance) (es : List set_events.Event) (why : LateWhy) → Fails a es why → AreInTime a es → ⊥
fails_late a es Overtaken fails t = fails t.0
fails_late a es Returned fails t = fails t.1

-- ---- what the events tell of circuits

told_both : (nodes : List Placed) (xs ys : List NumberedEvent) → events_at nodes (xs ++ ys) ≡ events_at nodes xs ++ events_at nodes ys
told_both nodes [] ys = refl
told_both nodes (x ∷ xs) ys =
    ap (λ (ts : List CircuitEvent). event_at nodes x.line x.event ++ ts) (told_both nodes xs ys) ∙ sym (append_assoc (event_at nodes x.line x.event) (events_at nodes xs) (events_at nodes ys))

-- with the number of their line
line_there : (line at : ℕ) (o : Option Placed) (t : CircuitTold) (x : CircuitEvent) → at_node line at o t ≡ x ∷ [] → x.line ≡ line
line_there line at None t x e = absurd (cc e)
line_there line at (Some p) t x e =
    let same : record { line = line; event = record { node = at; own = p.declared.call; told = t } } ≡ x = cc e in ap (λ (y : CircuitEvent). y.line) (sym same)

line_of : (nodes : List Placed) (line : ℕ) (e : Event) (x : CircuitEvent) → event_at nodes line e ≡ x ∷ [] → x.line ≡ line
line_of nodes line (events.Entry node (states.Of_set (Of t))) x e = line_there line (place_of_node node nodes) (slice_get nodes (place_of_node node nodes)) t x e
line_of nodes line (events.Restarted node pair) x e = line_there line (place_of_node node nodes) (slice_get nodes (place_of_node node nodes)) (Restarted pair) x e
line_of nodes line (events.Lost node end facts) x e = line_there line (place_of_node node nodes) (slice_get nodes (place_of_node node nodes)) (Lost end facts) x e
line_of nodes line other x e = absurd (cc e)

module _ (plan : Plan) (w : World) (number : ℕ) (cause : Cause) (c : ComesLateBy (allowance_of plan) w.nodes w.told number cause) where
  all_told : events_at w.nodes w.told ≡ events_at w.nodes c.before ++ c.event ∷ events_at w.nodes c.after
  all_told =
      ap (events_at w.nodes) c.parts
      ∙ (told_both w.nodes c.before (c.at ∷ c.after) ∙ ap (λ ts. events_at w.nodes c.before ++ (ts ++ events_at w.nodes c.after)) c.told_is)

  with_it : IsInTime (allowance_of plan) (events_at w.nodes c.before ++ c.event ∷ []) → ⊥
  with_it t = c.late (subst (AreInTime (allowance_of plan)) (map-append (λ (e : CircuitEvent). e.event) (events_at w.nodes c.before) (c.event ∷ [])) t)

  -- something came too late
  pub not_none : IsVerdictOn plan w None → ⊥
  not_none v =
      let all : IsInTime (allowance_of plan) (events_at w.nodes w.told) = subst (AreInTime (allowance_of plan)) (told_are v.events ∙ ap what_was_told v.are) (v.verdict.none.0 refl) in
      with_it (shorter (allowance_of plan) (events_at w.nodes c.before ++ c.event ∷ []) (events_at w.nodes c.after)
      (subst (IsInTime (allowance_of plan)) (all_told ∙ sym (append_assoc (events_at w.nodes c.before) (c.event ∷ []) (events_at w.nodes c.after))) all))

  -- at the line of the verdict
  pub on_line : (late : Late) → IsVerdictOn plan w (Some late) → c.at.line ≡ late.line
  on_line late v =
      let f : IsFirstLate (allowance_of plan) v.events late = v.verdict.first late refl in
      let all : map judged f.before ++ judged f.at ∷ map judged f.after ≡ events_at w.nodes c.before ++ c.event ∷ events_at w.nodes c.after =
      sym (map-append judged f.before (f.at ∷ f.after)) ∙ (sym (ap (map judged) f.parts) ∙ (v.are ∙ all_told)) in
      let with_at : what_was_told (map judged f.before ++ judged f.at ∷ []) ≡ events_of f.before ++ told.event_of f.at.event ∷ [] =
      map-append (λ (e : CircuitEvent). e.event) (map judged f.before) (judged f.at ∷ []) ∙ ap (λ (es : List set_events.Event). es ++ told.event_of f.at.event ∷ []) (sym (told_are f.before)) in
      let fails : IsInTime (allowance_of plan) (map judged f.before ++ judged f.at ∷ []) → ⊥ =
      λ t. fails_late (allowance_of plan) (events_of f.before ++ told.event_of f.at.event ∷ []) late.why f.fails (subst (AreInTime (allowance_of plan)) with_at t) in
      let same : judged f.at ≡ c.event =
      first_same (IsInTime (allowance_of plan)) (shorter (allowance_of plan)) (map judged f.before) (map judged f.after) (events_at w.nodes c.before) (events_at w.nodes c.after) (judged f.at) c.event all
      (subst (AreInTime (allowance_of plan)) (told_are f.before) f.in_time) fails c.in_time with_it in
      sym (line_of w.nodes c.at.line c.at.event c.event c.told_is) ∙ (ap (λ (x : CircuitEvent). x.line) (sym same) ∙ sym f.line)

-- the cause of a verdict
pub cause_is : (plan : Plan) (w : World) (answer : Option Late) (found : LateCause) (cause : Cause) → ComesLateBy (allowance_of plan) w.nodes w.told found.event cause
    → found.sign ≡ sign_of w.nodes w.told cause → IsVerdictOn plan w answer → IsCauseOf plan w answer (Some found)
cause_is plan w None found cause c sign v = absurd (not_none plan w found.event cause c v)
cause_is plan w (Some late) found cause c sign v = (cause, c, on_line plan w found.event cause c late v, sign)

-- what the verdict is of isn't all in time
pub no_cause : (plan : Plan) (w : World) (answer : Option Late) → IsInTime (allowance_of plan) (events_at w.nodes w.told) → IsVerdictOn plan w answer → IsCauseOf plan w answer None
no_cause plan w None all v = refl
no_cause plan w (Some late) all v =
    let own : AreInTime (allowance_of plan) (events_of v.events) = subst (AreInTime (allowance_of plan)) (sym (told_are v.events ∙ ap what_was_told v.are)) all in
    let none = v.verdict.none.1 own in
    absurd (cc none)
