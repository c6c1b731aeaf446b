-- By what it shows that something came too late, event by event.
use Rattle.std.proofs.Common.{◌≡◌, ◌<◌, ◌≤◌, ◌+◌, ◌-◌, ◌∙◌, ℕ, zero, suc, refl, sym, ap, subst, arith, add-one, append_assoc, append-nil, drop, drop-cons, get_or, length, map, take, take_all, List, [], ◌∷◌, ◌++◌}
use Rattle.std.specs.Prelude.{Bool, true, false, is_some, if◌then◌else◌, slice_get, slice_index, Option, Some, None}
use Rattle.std.specs.Option.{option_map}
use Rattle.std.proofs.lemmas.List.{drop_all, length-map, length-take-le, map-append, take-append-drop, take_more}
use Rattle.circuit_table.specs.Events as set_events
use Rattle.circuit_verdict.specs.Causes.{Shows, cause_after}
use Rattle.circuit_verdict.specs.Verdicts.{AreInTime, allows_of, events_of}
use Rattle.circuit_verdict.specs.Verdicts as told
use Rattle.circuit_verdict.specs.declared.cause.Cause.{Cause}
use Rattle.circuit_verdict.specs.declared.event.Event.{Event as Coming}
use Rattle.circuit_verdict.specs.declared.event.Numbered.{Numbered}
use Rattle.circuit_verdict.specs.declared.allowance.Allowance.{Allowance}
use Rattle.circuit_verdict.specs.declared.verdict.Verdict.{Verdict}
use Rattle.circuit_verdict.specs.Standing.{StandsFor, allowance_in}
use Rattle.network_file.specs.declared.plan.declarations.Declaration.{Declaration}
use Rattle.net_model.specs.declared.events.NumberedEvent.{NumberedEvent}
use Rattle.net_verdict.specs.Causes.{ComesLateBy, HasTaken, Judges, number_in, telling, tells}
use Rattle.net_model.specs.Circuits.{what_was_told}
use Rattle.net_model.specs.Circuits.{CircuitEvent, event_at, events_at, judged}
use Rattle.net_model.specs.Events as events
use Rattle.net_model.specs.Events.{event_of, numbered_of}
use Rattle.net_verdict.specs.Judging.{told_here}
use Rattle.net_model.specs.Standing.{AreDeclared}
use Rattle.net_model.specs.Starting.{Placed}
use Rattle.net_model.proofs.WhatWasTold.{told_are}
use Rattle.net_model.specs.declared.members.Member.{Member}
use Rattle.net_model.proofs.Stores.{declared_at}

-- ---- what a verdict has taken in

one_more : (ns : List Numbered) (n : Numbered) → events_of (ns ++ n ∷ []) ≡ events_of ns ++ told.event_of n.event ∷ []
one_more [] n = refl
one_more (m ∷ ns) n = ap (λ (es : List set_events.Event). told.event_of m.event ∷ es) (one_more ns n)

-- what the events of a verdict are, as they were told
seen_so : (a : Allowance) (v : Verdict) (before : List CircuitEvent) (h : HasTaken a v before) → events_of h.events ≡ what_was_told before
seen_so a v before h = told_are h.events ∙ ap what_was_told h.are

-- one event more is in time
pub taken_more : (old new : Verdict) (n : Numbered) → ((ns : List Numbered) → StandsFor old ns → StandsFor new (ns ++ n ∷ [])) → allowance_in new ≡ allowance_in old
    → ((ns : List Numbered) → StandsFor old ns → AreInTime (allowance_in old) (events_of ns)
    → AreInTime (allowance_in old) (events_of ns ++ told.event_of n.event ∷ []))
    → Judges old new (judged n ∷ []) None
taken_more old new n goes same timely a before h =
    let own : AreInTime (allowance_in old) (events_of h.events) = subst (λ b. AreInTime b (events_of h.events)) (sym h.allows) h.in_time in
    let next : AreInTime a (events_of h.events ++ told.event_of n.event ∷ []) =
    subst (λ b. AreInTime b (events_of h.events ++ told.event_of n.event ∷ [])) h.allows (timely h.events h.stands own) in
    record {
      allows = same ∙ h.allows;
      events = h.events ++ n ∷ [];
      are = map-append judged h.events (n ∷ []) ∙ ap (λ (es : List CircuitEvent). es ++ judged n ∷ []) h.are;
      stands = goes h.events h.stands;
      in_time = subst (AreInTime a) (sym (one_more h.events n)) next;
    }

-- one that comes too late
pub found_late : (old new : Verdict) (n : Numbered) (cause : Cause)
    → ((ns : List Numbered) → StandsFor old ns → AreInTime (allowance_in old) (events_of ns) → Some cause ≡ cause_after (allowance_in old) (events_of ns) (told.event_of n.event))
    → ((ns : List Numbered) → StandsFor old ns → AreInTime (allowance_in old) (events_of ns)
    → AreInTime (allowance_in old) (events_of ns ++ told.event_of n.event ∷ []) → ⊥)
    → ((ns : List Numbered) → StandsFor old ns → AreInTime (allowance_in old) (events_of ns) → Shows (allows_of (allowance_in old)) (events_of ns) (told.event_of n.event) cause)
    → Judges old new (judged n ∷ []) (Some cause)
found_late old new n cause exact late shows a before h =
    let own : AreInTime (allowance_in old) (events_of h.events) = subst (λ b. AreInTime b (events_of h.events)) (sym h.allows) h.in_time in
    let here : cause_after (allowance_in old) (events_of h.events) (told.event_of n.event) ≡ Some cause = sym (exact h.events h.stands own) in
    let by : cause_after a (events_of h.events) (told.event_of n.event) ≡ Some cause =
    subst (λ b. cause_after b (events_of h.events) (told.event_of n.event) ≡ Some cause) h.allows here in
    let with_it : AreInTime a (events_of h.events ++ told.event_of n.event ∷ []) → ⊥ =
    λ t. late h.events h.stands own (subst (λ b. AreInTime b (events_of h.events ++ told.event_of n.event ∷ [])) (sym h.allows) t) in
    let shown : Shows (allows_of a) (events_of h.events) (told.event_of n.event) cause =
    subst (λ b. Shows (allows_of b) (events_of h.events) (told.event_of n.event) cause) h.allows (shows h.events h.stands own) in (
      judged n,
      refl,
      subst (λ es. cause_after a es (told.event_of n.event) ≡ Some cause) (seen_so a old before h) by,
      subst (λ (es : List set_events.Event). AreInTime a (es ++ told.event_of n.event ∷ []) → ⊥) (seen_so a old before h) with_it,
      subst (λ (es : List set_events.Event). Shows (allows_of a) es (told.event_of n.event) cause) (seen_so a old before h) shown,
    )

-- nothing was told
pub taken_none : (v : Verdict) → Judges v v [] None
taken_none v a before h = subst (HasTaken a v) (sym (append-nil before)) h

pub judges_as : (old new : Verdict) (xs ys : List CircuitEvent) (o : Option Cause) → ys ≡ xs → Judges old new xs o → Judges old new ys o
judges_as old new xs ys o e j = subst (λ es. Judges old new es o) (sym e) j

-- ---- the events of a trace

rest_of : (es : List NumberedEvent) (i : ℕ) (x : NumberedEvent) → i < length es → x ≡ get_or es i x → drop i es ≡ x ∷ drop (i + 1) es
rest_of es i x h is = sym (ap (λ (y : NumberedEvent). y ∷ drop (i + 1) es) is ∙ (ap (λ k. get_or es i x ∷ drop k es) (add-one i) ∙ sym (drop-cons es i x h)))

front_of : (es : List NumberedEvent) (i : ℕ) (x : NumberedEvent) → i < length es → x ≡ get_or es i x → take (i + 1) es ≡ take i es ++ x ∷ []
front_of es i x h is = take_more es i x h ∙ ap (λ (y : NumberedEvent). take i es ++ y ∷ []) (sym is)

at_more : (nodes : List Placed) (es : List events.NumberedEvent) (e : events.NumberedEvent) → events_at nodes (es ++ e ∷ []) ≡ events_at nodes es ++ event_at nodes e.line e.event
at_more nodes [] e = append-nil (event_at nodes e.line e.event)
at_more nodes (x ∷ es) e =
    ap (λ (ts : List CircuitEvent). event_at nodes x.line x.event ++ ts) (at_more nodes es e)
    ∙ sym (append_assoc (event_at nodes x.line x.event) (events_at nodes es) (event_at nodes e.line e.event))

next_told : (es : List NumberedEvent) (i : ℕ) (x : NumberedEvent) (nodes : List Placed) → i < length es → x ≡ get_or es i x
    → events_at nodes (map numbered_of (take (i + 1) es)) ≡ events_at nodes (map numbered_of (take i es)) ++ event_at nodes x.line (event_of x.event)
next_told es i x nodes h is =
    ap (λ (ys : List NumberedEvent). events_at nodes (map numbered_of ys)) (front_of es i x h is)
    ∙ (ap (events_at nodes) (map-append numbered_of (take i es) (x ∷ [])) ∙ at_more nodes (map numbered_of (take i es)) (numbered_of x))

pub taken_on : (es : List NumberedEvent) (i : ℕ) (x : NumberedEvent) (nodes : List Placed) (a : Allowance) (old new : Verdict) → i < length es → x ≡ get_or es i x
    → Judges old new (event_at nodes x.line (event_of x.event)) None → HasTaken a old (events_at nodes (map numbered_of (take i es)))
    → HasTaken a new (events_at nodes (map numbered_of (take (i + 1) es)))
taken_on es i x nodes a old new h is j taken =
    subst (HasTaken a new) (sym (next_told es i x nodes h is)) (j a (events_at nodes (map numbered_of (take i es))) taken)

pub comes_late : (es : List NumberedEvent) (i : ℕ) (x : NumberedEvent) (nodes : List Placed) (a : Allowance) (old new : Verdict) (cause : Cause) → i < length es → x ≡ get_or es i x
    → Judges old new (event_at nodes x.line (event_of x.event)) (Some cause) → HasTaken a old (events_at nodes (map numbered_of (take i es)))
    → ComesLateBy a nodes (map numbered_of es) (i + 1) cause
comes_late es i x nodes a old new cause h is j taken =
    let late = j a (events_at nodes (map numbered_of (take i es))) taken in
    let count = length-take-le i es (omega arith) in
    let same = length-map (take i es) numbered_of in
    record {
      before = map numbered_of (take i es);
      at = numbered_of x;
      after = map numbered_of (drop (i + 1) es);
      event = late.0;
      parts = ap (map numbered_of) (sym (take-append-drop i es))
          ∙ (map-append numbered_of (take i es) (drop i es) ∙ ap (λ (ys : List NumberedEvent). map numbered_of (take i es) ++ map numbered_of ys) (rest_of es i x h is));
      number_is = omega (arith, count, same);
      told_is = late.1;
      in_time = subst (AreInTime a) (seen_so a old (events_at nodes (map numbered_of (take i es))) taken) taken.in_time;
      late = late.3;
      found = late.2;
      shows = late.4;
    }

pub all_in_time : (es : List NumberedEvent) (i : ℕ) (nodes : List Placed) (a : Allowance) (v : Verdict) → length es ≤ i → HasTaken a v (events_at nodes (map numbered_of (take i es)))
    → AreInTime a (what_was_told (events_at nodes (map numbered_of es)))
all_in_time es i nodes a v h taken =
    subst (λ (ys : List NumberedEvent). AreInTime a (what_was_told (events_at nodes (map numbered_of ys)))) (take_all i es h)
    (subst (AreInTime a) (seen_so a v (events_at nodes (map numbered_of (take i es))) taken) taken.in_time)

-- ---- events by their numbers

pub tells_here : (line : ℕ) (o : Option Coming) → tells (told_here line o) ≡ is_some o
tells_here line None = refl
tells_here line (Some e) = refl

telling_next : (es : List NumberedEvent) (i : ℕ) (x : NumberedEvent) (nodes : List Placed) (b : Bool) → i < length es → x ≡ get_or es i x
    → tells (event_at nodes x.line (event_of x.event)) ≡ b
    → telling nodes (i + 1) (map numbered_of (drop i es))
    ≡ (if b then (i + 1) ∷ telling nodes (i + 1 + 1) (map numbered_of (drop (i + 1) es)) else telling nodes (i + 1 + 1) (map numbered_of (drop (i + 1) es)))
telling_next es i x nodes b h is e =
    ap (λ (ys : List NumberedEvent). telling nodes (i + 1) (map numbered_of ys)) (rest_of es i x h is)
    ∙ (ap (λ (c : Bool). if c then (i + 1) ∷ telling nodes (suc (i + 1)) (map numbered_of (drop (i + 1) es)) else telling nodes (suc (i + 1)) (map numbered_of (drop (i + 1) es))) e
    ∙ ap (λ k. if b then (i + 1) ∷ telling nodes k (map numbered_of (drop (i + 1) es)) else telling nodes k (map numbered_of (drop (i + 1) es))) (sym (add-one (i + 1))))

pub passes_by : (es : List NumberedEvent) (i left : ℕ) (x : NumberedEvent) (nodes : List Placed) → i < length es → x ≡ get_or es i x
    → tells (event_at nodes x.line (event_of x.event)) ≡ false
    → slice_index (telling nodes (i + 1) (map numbered_of (drop i es))) left ≡ slice_index (telling nodes (i + 1 + 1) (map numbered_of (drop (i + 1) es))) left
passes_by es i left x nodes h is e = ap (λ (ns : List ℕ). slice_index ns left) (telling_next es i x nodes false h is e)

pub is_here : (es : List NumberedEvent) (i left : ℕ) (x : NumberedEvent) (nodes : List Placed) → i < length es → x ≡ get_or es i x
    → tells (event_at nodes x.line (event_of x.event)) ≡ true → left ≡ 0
    → slice_index (telling nodes (i + 1) (map numbered_of (drop i es))) left ≡ i + 1
is_here es i left x nodes h is e none =
    ap (λ (ns : List ℕ). slice_index ns left) (telling_next es i x nodes true h is e)
    ∙ ap (λ k. slice_index ((i + 1) ∷ telling nodes (i + 1 + 1) (map numbered_of (drop (i + 1) es))) k) none

behind_first : (n left : ℕ) (ns : List ℕ) → 0 < left → slice_index (n ∷ ns) left ≡ slice_index ns (left - 1)
behind_first n zero ns h = absurd (omega (arith, h))
behind_first n (suc k) ns h = ap (slice_index ns) (let same : k ≡ suc k - 1 = omega arith in same)

pub goes_past : (es : List NumberedEvent) (i left : ℕ) (x : NumberedEvent) (nodes : List Placed) → i < length es → x ≡ get_or es i x
    → tells (event_at nodes x.line (event_of x.event)) ≡ true → 0 < left
    → slice_index (telling nodes (i + 1) (map numbered_of (drop i es))) left ≡ slice_index (telling nodes (i + 1 + 1) (map numbered_of (drop (i + 1) es))) (left - 1)
goes_past es i left x nodes h is e some =
    ap (λ (ns : List ℕ). slice_index ns left) (telling_next es i x nodes true h is e)
    ∙ behind_first (i + 1) left (telling nodes (i + 1 + 1) (map numbered_of (drop (i + 1) es))) some

pub none_left : (es : List NumberedEvent) (i left number : ℕ) (nodes : List Placed) → length es ≤ i → slice_index (telling nodes number (map numbered_of (drop i es))) left ≡ 0
none_left es i left number nodes h = ap (λ (ys : List NumberedEvent). slice_index (telling nodes number (map numbered_of ys)) left) (drop_all i es h)

-- ---- nodes by their numbers

number_some : (o : Option Placed) (d : Declaration) → Some d ≡ option_map (λ (p : Placed). p.declared) o → d.node ≡ number_in o
number_some None d e = absurd (cc e)
number_some (Some p) d e = let same : d ≡ p.declared = cc e in ap (λ (x : Declaration). x.node) same

number_none : (o : Option Placed) → None ≡ option_map (λ (p : Placed). p.declared) o → 0 ≡ number_in o
number_none None e = refl
number_none (Some p) e = absurd (cc e)

pub number_found : (members : List Member) (nodes : List Placed) (k : ℕ) (m : Member) → AreDeclared members nodes → slice_get members k ≡ Some m → m.declared.node ≡ number_in (slice_get nodes k)
number_found members nodes k m e f =
    number_some (slice_get nodes k) m.declared (sym (ap (option_map (λ (x : Member). x.declared)) f) ∙ declared_at members nodes k e)

pub number_missing : (members : List Member) (nodes : List Placed) (k : ℕ) → AreDeclared members nodes → slice_get members k ≡ None → 0 ≡ number_in (slice_get nodes k)
number_missing members nodes k e f = number_none (slice_get nodes k) (sym (ap (option_map (λ (x : Member). x.declared)) f) ∙ declared_at members nodes k e)
