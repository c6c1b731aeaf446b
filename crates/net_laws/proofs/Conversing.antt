-- In a network in time each user agrees with the other end of its circuit.
use Rattle.std.proofs.Common.{◌≡◌, ◌∙◌, ℕ, refl, sym, ap, subst, List, [], ◌∷◌, ◌++◌, append_assoc}
use Rattle.std.specs.Prelude.{false, slice_get, Option, Some}
use Rattle.std.specs.List.{AllByRecursion}
use Rattle.circuit_l4.specs.State.{inbox}
use Rattle.circuit_table.specs.Events.{Event, Name}
use Rattle.circuit_set.specs.Safe.{IsBeginning, CircuitsSafe, IsSafe, PartnersLast, Safe, SafeBetween}
use Rattle.circuit_set.specs.NotedRuns.{NarrowIsTimely}
use Rattle.circuit_set.specs.ByBook.{FreshByBook, TimelyBy128, TimelyByBook}
use Rattle.circuit_table.specs.Runs.{Step, end_in, end_named, events_of, sets_run}
use Rattle.circuit_table.specs.Sets.{Holder, SetState, end_of}
use Rattle.circuit_set.specs.TooLate.{Partners}
use Rattle.network_file.specs.Laws.{SettingsFit}
use Rattle.node_core.specs.Bridged.{Bridged, BridgedAt, IsBridged, IsEndsReader, IsEndsWriter, SessionsBridged, SessionsReadTheirEnds, SessionsWriteTheirEnds}
use Rattle.node_core.specs.Fetching.{FetchesAllEntries, FetchesAllFrames}
use Rattle.node_model.specs.Sessions.{Session, waits}
use Rattle.node_model.specs.States.{State}
use Rattle.node_model.specs.Users.{is_deaf}
use Rattle.net_laws.specs.Promises.{NetworksAreSound, WorldsAreRuns}
use Rattle.net_model.specs.SoundPlans.{first_sets}
use Rattle.net_laws.specs.Conversations.{Agree, AgreeWith, AgreesAt, InTimeUsersAgree, IsSession, WritesTexts}
use Rattle.net_model.specs.Lines.{do_lines}
use Rattle.net_model.specs.Starting.{Placed}
use Rattle.net_model.specs.World.{World, start}
use Rattle.net_laws.proofs.Lists.{one_in}
use Rattle.net_laws.proofs.NodeRuns.{AllLed, lines_led, sessions_of}
use Rattle.net_laws.proofs.Promising.{InTime, in_time}

nothing : {A : Type 0} (xs ys : List A) → xs ++ ys ≡ [] → xs ≡ []
nothing [] ys e = refl
nothing (x ∷ xs) ys e = absurd (cc e)

-- one end is held under a name
one_end : {h k : Holder} (o : Option Holder) → o ≡ Some h → o ≡ Some k → k ≡ h
one_end {h} {k} o e f = let both : Some k ≡ Some h = sym f ∙ e in cc both

all_agree : (P Q R S : Session → Type 0) → ((s : Session) → P s → Q s → R s → S s) → (ss : List Session) → AllByRecursion P ss → AllByRecursion Q ss → AllByRecursion R ss → AllByRecursion S ss
all_agree P Q R S f [] a b c = tt
all_agree P Q R S f (s ∷ ss) a b c = (f s a.0 b.0 c.0, all_agree P Q R S f ss a.1 b.1 c.1)

module _ (starts : List SetState) (steps : List Step) (safe : Safe starts steps) (back : (x y : Name) → Partners (events_of starts steps) x y → Partners (events_of starts steps) y x) where
  abbrev events : List Event
  events = events_of starts steps

  abbrev sets : List SetState
  sets = sets_run starts steps

  -- the end of a session whose circuit stands, with what it has written and received
  record Stands (x : Name) (n : State) (s : Session) : Type 0 where
    end : Holder
    here : end_named sets x ≡ Some end
    wrote : end.end.sending.wrote ≡ s.bridge.wrote
    received : end.end.receiving.received ≡ s.bridge.got ++ inbox end.end.receiving
    bridged : Bridged n s
    quiet : s.bridge.exhausted ≡ false

  -- what its end wrote is a beginning of what was taken from the user
  bridged_wrote : (x : Name) (n : State) (s : Session) (t : Stands x n s) → s.bridge.taken ≡ t.end.end.sending.wrote ++ waits s.rest
  bridged_wrote x n s t = t.bridged.writes t.quiet ∙ ap (λ ms. ms ++ waits s.rest) (sym t.wrote)

  agree_with : (x y : Name) (n : State) (s : Session) (t : Stands x n s) (k : Holder) → SafeBetween events x y t.end.end k.end → SafeBetween events y x k.end t.end.end → Agree n s k.end
  agree_with x y n s t k to from =
      let sent = to.received in
      let came = from.received in
      let got : k.end.sending.wrote ≡ (s.bridge.got ++ inbox t.end.end.receiving) ++ came.0 = came.1 ∙ ap (λ ms. ms ++ came.0) t.received in
      record {
        given = λ hears.
            (inbox t.end.end.receiving ++ came.0, got ∙ (append_assoc s.bridge.got (inbox t.end.end.receiving) came.0 ∙ ap (λ ms. ms ++ (inbox t.end.end.receiving ++ came.0)) (sym (t.bridged.gives t.quiet hears))));
        received = (
          sent.0 ++ waits s.rest,
          bridged_wrote x n s t ∙ (ap (λ ms. ms ++ waits s.rest) sent.1 ∙ append_assoc k.end.receiving.received sent.0 (waits s.rest)),
        );
      }

  agrees_with : (x : Name) (n : State) (s : Session) (t : Stands x n s) → IsSafe starts steps x t.end → AgreeWith events sets n x s
  agrees_with x n s t is = record {
    joined = λ y j. (let k = is.partner y j in
        let there : IsSafe starts steps y k.0 = safe y k.0 k.1 in
        (k.0, k.1, agree_with x y n s t k.0 (is.end.joined y k.0 j k.1) (there.end.joined x t.end (back x y j) t.here)));
    alone = λ none hears. t.bridged.gives t.quiet hears ∙ nothing s.bridge.got (inbox t.end.end.receiving) (sym t.received ∙ (is.end.alone none).received);
  }

  agrees : (place : ℕ) (n : State) → ((id : ℕ) (h : Holder) → end_of id n.set.set.ends ≡ Some h → end_named sets (record { node = place; id = id }) ≡ Some h)
      → (s : Session) → IsBridged n s → IsEndsWriter n s → IsEndsReader n s → AgreesAt events sets place n s
  agrees place n held s bridged writes reads c stands quiet =
      let x : Name = record { node = place; id = c.id } in
      let w = writes c stands in
      let r = reads c stands in
      let t : Stands x n s = record {
        end = w.0;
        here = held c.id w.0 w.1;
        wrote = w.2;
        received = subst (λ (h : Holder). h.end.receiving.received ≡ s.bridge.got ++ inbox h.end.receiving) (one_end (end_of c.id n.set.set.ends) w.1 r.1) r.2;
        bridged = subst (λ st. BridgedAt st n s) stands bridged;
        quiet = quiet;
      } in
      (record { end = t.end; here = t.here; wrote = (waits s.rest, bridged_wrote x n s t) }, agrees_with x n s t (safe x w.0 t.here))

-- ---- from user to user

both_begin : (xs ys zs : List (List ℕ)) → IsBeginning xs ys → IsBeginning ys zs → IsBeginning xs zs
both_begin xs ys zs a b = (a.0 ++ b.0, b.1 ∙ (ap (λ ms. ms ++ b.0) a.1 ∙ append_assoc xs a.0 b.0))

abbrev name : ℕ → ℕ → Name
name node id = record { node = node; id = id }

module _ (w : World) (events : List Event) (sets : List SetState) (users : (at : ℕ) (p : Placed) → slice_get w.nodes at ≡ Some p → AllByRecursion (AgreesAt events sets at p.state.station) p.state.station.sessions) where
  agrees_there : (x : Name) (p : Placed) (s : Session) → IsSession w x p s → WritesTexts sets x s × AgreeWith events sets p.state.station x s
  agrees_there x p s i =
      subst (λ z. WritesTexts sets z s × AgreeWith events sets p.state.station z s) (ap (name x.node) i.end)
      (one_in (AgreesAt events sets x.node p.state.station) p.state.station.sessions s (users x.node p i.there) i.among i.circuit i.stands i.quiet)

  between_users : (x y : Name) (p q : Placed) (s t : Session) → IsSession w x p s → IsSession w y q t → Partners events x y → is_deaf s p.state.station ≡ false → IsBeginning s.bridge.gave t.bridge.taken
  between_users x y p q s t i j e hears =
      let with_y = (agrees_there x p s i).1.joined y e in
      let wrote : WritesTexts sets y t = (agrees_there y q t j).0 in
      let same : with_y.0 ≡ wrote.end = one_end (end_named sets y) wrote.here with_y.1 in
      both_begin s.bridge.gave with_y.0.end.sending.wrote t.bridge.taken (with_y.2.given hears)
      (subst (λ (h : Holder). IsBeginning h.end.sending.wrote t.bridge.taken) (sym same) wrote.wrote)

-- ---- in time

pub in_time_users_agree : FreshByBook → TimelyByBook → TimelyBy128 → NetworksAreSound → WorldsAreRuns → CircuitsSafe → PartnersLast → NarrowIsTimely → SettingsFit → SessionsBridged → SessionsWriteTheirEnds → SessionsReadTheirEnds → FetchesAllEntries → FetchesAllFrames → InTimeUsersAgree
in_time_users_agree pairs by_window by_128 sounds runs circuits_safe last narrow fit bridged writes reads entries sent bytes plan e v done later is =
    let t : InTime plan done later = in_time pairs by_window by_128 sounds runs narrow fit bytes plan e v done later is in
    let starts = (sounds bytes plan e).starts in
    let steps : List Step = t.runs.steps in
    let events : List Event = events_of (first_sets plan) steps in
    let sets : List SetState = sets_run (first_sets plan) steps in
    let safe : Safe (first_sets plan) steps = circuits_safe (first_sets plan) starts steps t.runs.then t.runs.all.are t.timely t.fresh in
    let w : World = do_lines plan done (start plan) in
    let led : AllLed w = lines_led entries sent plan (sounds bytes plan e) done later is in
    let users : (at : ℕ) (p : Placed) → slice_get w.nodes at ≡ Some p → AllByRecursion (AgreesAt events sets at p.state.station) p.state.station.sessions =
    λ at p f.
    (let l = led at p f in
    let remembers = t.runs.is.nodes at p f in
    all_agree (IsBridged p.state.station) (IsEndsWriter p.state.station) (IsEndsReader p.state.station) (AgreesAt events sets at p.state.station)
    (agrees (first_sets plan) steps safe (λ x y j. (last (first_sets plan) starts steps t.runs.then t.runs.all.are t.timely t.fresh x y j).1) at p.state.station
    (λ id h here. ap (λ o. end_in o id) remembers.1 ∙ remembers.2.held id h here))
    p.state.station.sessions (sessions_of IsBridged bridged p l) (sessions_of IsEndsWriter writes p l) (sessions_of IsEndsReader reads p l)) in
    record { steps = steps; run = t.runs.is; users = users; between = between_users w events sets users }
