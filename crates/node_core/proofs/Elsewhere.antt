-- What sessions list of their users stays as they were in all that isn't their serving.
use Rattle.std.proofs.Common.{◌≡◌, ◌∙◌, ◌⊎◌, inl, inr, ℕ, zero, suc, refl, sym, ap, subst, arith, List, [], ◌∷◌, slice_get, slice_set}
use Rattle.std.specs.List.{AllByRecursion}
use Rattle.std.specs.Prelude.{Bool, true, false, not, ◌&&◌, nat_eq, if◌then◌else◌, Option, Some, None, Result, Ok, Err}
use Rattle.std.proofs.lemmas.Bool.Decides.{nat_tests}
use Rattle.ax_address.specs.Callsign.{Callsign}
use Rattle.circuit_l4.specs.declared.notice.EndNotice.{EndNotice}
use Rattle.circuit_table.specs.Pumps.{connect_answer}
use Rattle.circuit_table.specs.Sets as sets
use Rattle.circuit_table.specs.Standing as answers
use Rattle.circuit_table.specs.declared.refusal.ConnectRefusal.{ConnectRefusal}
use Rattle.circuit_table.specs.declared.refusal.SetRefusal.{SetRefusal}
use Rattle.node_prompt.specs.declared.action.Action.{Action as Asked}
use Rattle.node_prompt.specs.declared.action.Action.TheVariants.{Say, Show, Connect, Bye, Nothing}
use Rattle.node_core.specs.Deeds.{AllGoOn, BeginsAt, GoesOn, GoesOnAt, GoesOnIn, HasBegun, ListsNothing, ListsStayElsewhere, is_tried}
use Rattle.node_model.specs.declared.circuit.Circuit.{Circuit}
use Rattle.node_model.specs.declared.reply.Reply.{Reply}
use Rattle.node_model.specs.declared.stage.Stage.{Stage}
use Rattle.node_model.specs.declared.stage.Stage.TheVariants.{AtPrompt, Trying, Failed, Connected}
use Rattle.node_model.specs.declared.user.User.{User}
use Rattle.node_model.specs.declared.user.User.TheVariants.{AtEnd, AtLink}
use Rattle.node_model.specs.Asking as asking
use Rattle.node_model.specs.Bridging as bridging
use Rattle.node_model.specs.Links as links
use Rattle.node_model.specs.Pumping.{pump}
use Rattle.node_model.specs.Serving as serving
use Rattle.node_model.specs.Sessions as s
use Rattle.node_model.specs.Sessions.{Session}
use Rattle.node_model.specs.States.{State, at_links, at_set, next_hop}
use Rattle.node_model.specs.Turns.{Turn, done, idle, or_else}
use Rattle.node_model.specs.Users as users
use Rattle.node_model.specs.Users.{at_session, session_at}
use Rattle.node_core.proofs.Fine.{placed_said, pumped_placed}
use Rattle.node_core.proofs.Pumped.{pump_keeps}
use Rattle.node_core.proofs.Soundness.{Every, Hears, Placed, changed_here, filter_every, greeted_every, heard_every, links_every}
use Rattle.node_core.proofs.Incoming.{act_stays, item_stays, texts_stay, tick_stays}

-- ---- sessions go on as they hear

record Goes (o x : Session) : Type 0 where
  user : x.user ≡ o.user
  gave : x.bridge.gave ≡ o.bridge.gave
  taken : is_tried o.stage ≡ false → (is_tried x.stage ≡ false) × (x.bridge.taken ≡ o.bridge.taken)
  begins : (x.bridge.taken ≡ o.bridge.taken) ⊎ (x.bridge.taken ≡ s.waits x.rest)

goes_itself : (x : Session) → Goes x x
goes_itself x = record { user = refl; gave = refl; taken = λ e. (e, refl); begins = inl refl }

goes_on : (o x : Session) → Goes o x → GoesOn o x
goes_on o x p = record { user = p.user; gave = p.gave; taken = by (is_tried o.stage) refl p.begins }
  where
    by : (b : Bool) → is_tried o.stage ≡ b → (x.bridge.taken ≡ o.bridge.taken) ⊎ (x.bridge.taken ≡ s.waits x.rest)
        → (x.bridge.taken ≡ o.bridge.taken) ⊎ ((is_tried o.stage ≡ true) × (x.bridge.taken ≡ s.waits x.rest))
    by false e q = inl (p.taken e).1
    by true e (inl q) = inl q
    by true e (inr q) = inr (e, q)

goes_either : (o x y : Session) (b : Bool) → Goes o x → Goes o y → Goes o (if b then y else x)
goes_either o x y true p q = q
goes_either o x y false p q = p

goes_noticed : (o : Session) (id : ℕ) (notice : EndNotice) (x : Session) (stage : Stage) → x.stage ≡ stage → Goes o x → Goes o (s.notice_at stage id notice x)
goes_noticed o id notice x AtPrompt e p = p
goes_noticed o id notice x (Failed c) e p = p
goes_noticed o id notice x (Connected c) e p = p
goes_noticed o id notice x (Trying c) e p =
    goes_either o x (s.hear_tried c notice x) (nat_eq c.id id) p
    (record { user = p.user; gave = p.gave; taken = λ t. let tried : true ≡ false = sym (ap is_tried e) ∙ (p.taken t).0 in absurd (cc tried); begins = inr refl })

to_prompt : (o x : Session) (c : Circuit) → Goes o x → Goes o (s.at_prompt x) × Goes o (s.hear_end c x)
to_prompt o x c p = (
  record { user = p.user; gave = p.gave; taken = λ t. (refl, (p.taken t).1); begins = p.begins },
  record { user = p.user; gave = p.gave; taken = λ t. (refl, (p.taken t).1); begins = p.begins },
)

goes_gone : (o : Session) (id : ℕ) (x : Session) (stage : Stage) → Goes o x → Goes o (s.gone_at stage id x)
goes_gone o id x AtPrompt p = p
goes_gone o id x (Trying c) p = goes_either o x (s.at_prompt x) (nat_eq c.id id) p (to_prompt o x c p).0
goes_gone o id x (Failed c) p = goes_either o x (s.at_prompt x) (nat_eq c.id id) p (to_prompt o x c p).0
goes_gone o id x (Connected c) p = goes_either o x (s.hear_end c x) (nat_eq c.id id) p (to_prompt o x c p).1

goes_hear : (o : Session) → Hears (Goes o)
goes_hear o = record { notice = λ id notice x p. goes_noticed o id notice x x.stage refl p; gone = λ id x p. goes_gone o id x x.stage p }

-- one that lists nothing still does
nothing_noticed : (id : ℕ) (notice : EndNotice) (x : Session) → ListsNothing x → ListsNothing (s.hear_notice id notice x)
nothing_noticed id notice x p = subst (λ (stage : Stage). ListsNothing (s.notice_at stage id notice x)) (sym p.stage) p

nothing_gone : (id : ℕ) (x : Session) → ListsNothing x → ListsNothing (s.hear_gone id x)
nothing_gone id x p = subst (λ (stage : Stage). ListsNothing (s.gone_at stage id x)) (sym p.stage) p

abbrev In : List Session → Session → Type 0
In old x = ListsNothing x ⊎ ((nth : ℕ) × ((o : Session) × ((slice_get old nth ≡ Some o) × Goes o x)))

module _ (old : List Session) where
  in_noticed : (id : ℕ) (notice : EndNotice) (x : Session) → In old x → In old (s.hear_notice id notice x)
  in_noticed id notice x (inl p) = inl (nothing_noticed id notice x p)
  in_noticed id notice x (inr (nth, (o, (e, p)))) = inr (nth, (o, (e, (goes_hear o).notice id notice x p)))

  in_gone : (id : ℕ) (x : Session) → In old x → In old (s.hear_gone id x)
  in_gone id x (inl p) = inl (nothing_gone id x p)
  in_gone id x (inr (nth, (o, (e, p)))) = inr (nth, (o, (e, (goes_hear o).gone id x p)))

  in_hear : Hears (In old)
  in_hear = record { notice = in_noticed; gone = in_gone }

  in_new : (user : User) → In old (s.new_session user)
  in_new user = inl (record { stage = refl; gave = refl; taken = refl })

  in_left : (x : Session) → In old x → In old (s.leaves x)
  in_left x (inl p) = inl (record { stage = p.stage; gave = p.gave; taken = p.taken })
  in_left x (inr (nth, (o, (e, p)))) = inr (nth, (o, (e, record { user = p.user; gave = p.gave; taken = p.taken; begins = p.begins })))

  -- each goes on from itself
  in_itself : (ss : List Session) → ((nth : ℕ) (x : Session) → slice_get ss nth ≡ Some x → (at : ℕ) × (slice_get old at ≡ Some x)) → Every (In old) ss
  in_itself [] f = tt
  in_itself (x ∷ ss) f = let p = f zero x refl in (inr (p.0, (x, (p.1, goes_itself x))), in_itself ss (λ nth y e. f (suc nth) y e))

  shown : (x : Session) → In old x → GoesOnIn old x
  shown x (inl p) = inl p
  shown x (inr (nth, (o, (e, p)))) = inr (nth, (o, (e, goes_on o x p)))

  all_of : (ss : List Session) → Every (In old) ss → AllByRecursion (GoesOnIn old) ss
  all_of [] e = tt
  all_of (x ∷ ss) e = (shown x e.0, all_of ss e.1)

  in_greeted : (b : Bool) (peers : List Callsign) (ss : List Session) → Every (In old) ss → Every (In old) (serving.greet_each b peers ss)
  in_greeted b [] ss e = e
  in_greeted b (peer ∷ peers) ss e = in_greeted b peers (serving.greet_link b peer ss) (by (serving.is_served_link peer ss))
    where
      by : (c : Bool) → Every (In old) (if c then ss else s.greet b (AtLink peer) ss)
      by true = e
      by false = greeted_every (In old) in_new b (AtLink peer) ss e

at_first : (n : State) → Every (In n.sessions) n.sessions
at_first n = in_itself n.sessions n.sessions (λ nth x e. (nth, e))

notices_go : (n : State) → AllGoOn n (serving.enter_notices n)
notices_go n = all_of n.sessions _ (links_every (In n.sessions) (in_left n.sessions) n.links.pending.notices n.sessions (at_first n))

pumps_go : (now : ℕ) (n : State) → AllGoOn n (pump now n)
pumps_go now n =
    let old = n.sessions in
    all_of old _ (pump_keeps (λ set ts ss. Every (In old) ss) (λ prompt set t ts ss a. heard_every (In old) (in_hear old) (in_new old) prompt t ss a) (λ set ts ss d now a. a) now n (at_first n))

greets_go : (n : State) → AllGoOn n (serving.greet_links n)
greets_go n = all_of n.sessions _ (in_greeted n.sessions n.settings.prompt (links.text_peers n.links) n.sessions (at_first n))

drops_go : (n : State) → AllGoOn n (serving.drop_over n)
drops_go n = all_of n.sessions _ (filter_every (In n.sessions) (λ x. not (serving.is_over n x)) n.sessions (at_first n))

-- ---- another session is served

set_other : (ss : List Session) (nth at : ℕ) (y : Session) → (at ≡ nth → ⊥) → slice_get (slice_set ss nth y) at ≡ slice_get ss at
set_other [] nth at y apart = refl
set_other (z ∷ ss) zero zero y apart = absurd (apart refl)
set_other (z ∷ ss) zero (suc at) y apart = refl
set_other (z ∷ ss) (suc nth) zero y apart = refl
set_other (z ∷ ss) (suc nth) (suc at) y apart = set_other ss nth at y (λ e. apart (ap suc e))

changed_other : (f : Session → Session) (ss : List Session) (nth at : ℕ) (o : Option Session) → (at ≡ nth → ⊥) → slice_get (users.change_if o nth f ss) at ≡ slice_get ss at
changed_other f ss nth at None apart = refl
changed_other f ss nth at (Some x) apart = set_other ss nth at (f x) apart

-- what is such of a session in a place stays so, or comes to be another thing as a circuit is asked for
abbrev KeepsPrompt : (Session → Session) → Type 0
KeepsPrompt f = (x : Session) → x.stage ≡ AtPrompt → (f x).stage ≡ AtPrompt

module _ (now nth at : ℕ) (P Q : Session → Type 0) (hears : Hears P) (hears_then : Hears Q) (weak : (x : Session) → P x → Q x)
    (changed : (f : Session → Session) → KeepsPrompt f → (n : State) → Placed P at n.sessions → Placed P at (at_session nth f n).sessions)
    (tries : (id : ℕ) (dest : Callsign) (n : State) → Placed P at n.sessions → Placed Q at (at_session nth (asking.tries id dest) n).sessions)
    (shuts : (n : State) → Placed Q at n.sessions → Placed Q at (at_session nth bridging.note_closed n).sessions) where
  abbrev Here : State → Type 0
  Here n = Placed P at n.sessions

  abbrev Then : State → Type 0
  Then n = Placed Q at n.sessions

  later : (n : State) → Here n → Then n
  later n p = record { x = p.x; is = p.is; holds = weak p.x p.holds }

  pumped : (n : State) → Here n → Here (pump now n)
  pumped n p = pumped_placed P hears now at n p

  acted : (a : sets.Act) (n : State) → Here n → Here (users.acts now a n)
  acted a n p = pumped (at_set (links.acts a) n) p

  said : (text : List ℕ) (n : State) → Here n → Here (users.say now nth text n)
  said text n p = placed_said P hears now at nth text n p

  acted_then : (a : sets.Act) (n : State) → Then n → Then (users.acts now a n)
  acted_then a n p = pumped_placed Q hears_then now at (at_set (links.acts a) n) p

  said_then : (text : List ℕ) (n : State) → Then n → Then (users.say now nth text n)
  said_then text n p = placed_said Q hears_then now at nth text n p

  written : (id : ℕ) (text : List ℕ) (n : State) → Here n → Here (users.write_to now id text n)
  written id text n p = pumped _ (by (users.write_answer id text n))
    where
      by : (r : Result (Unit {0}) SetRefusal) → Here (users.write_if_ok r (sets.Calls id (sets.Writes text) now) n)
      by (Ok _) = p
      by (Err why) = p

  replied : (r : Option Reply) (n : State) → Here n → Here (bridging.reply_by r now nth n).after
  replied None n p = p
  replied (Some r) n p = said (bridging.reply_text (bridging.prompt_of n) r) (at_session nth bridging.drop_reply n) (changed bridging.drop_reply (λ x e. e) n p)

  given : (q : Option Circuit) (n : State) → Here n → Here (bridging.give_of q now nth n).after
  given None n p = p
  given (Some c) n p = by (users.has_taken (answers.take_answer (users.end_at c.id n)))
    where
      message : List ℕ
      message = answers.message_at [] (users.end_at c.id n)

      got : State
      got = at_session nth (bridging.log_got message) (users.acts now (sets.Calls c.id sets.Takes now) n)

      log : Session → Session
      log = bridging.log_gave (users.outcome_for nth message got) message

      by : (b : Bool) → Here (if b then done (bridging.pass_on now nth message got) else idle n).after
      by true = said message (at_session nth log got) (changed log (λ x e. e) got (changed (bridging.log_got message) (λ x e. e) (users.acts now (sets.Calls c.id sets.Takes now) n) (acted (sets.Calls c.id sets.Takes now) n p)))
      by false = p

  text_taken : (u : Option User) (n : State) → Here n → Here (users.take_by u now nth n).after
  text_taken None n p = p
  text_taken (Some (AtEnd id)) n p = by (users.has_taken (answers.take_answer (users.end_at id n)))
    where
      f : Session → Session
      f = users.with_text (answers.message_at [] (users.end_at id n))

      m : State
      m = at_set (links.acts (sets.Calls id sets.Takes now)) n

      by : (b : Bool) → Here (users.take_if b (pump now (at_session nth f m)) n).after
      by true = pumped (at_session nth f m) (changed f (λ x e. e) m p)
      by false = p
  text_taken (Some (AtLink peer)) n p = by (links.has_text peer n.links)
    where
      f : Session → Session
      f = users.with_text (links.text_with peer n.links)

      m : State
      m = at_links (links.take_text peer now) n

      by : (b : Bool) → Here (users.take_if b (at_session nth f m) n).after
      by true = changed f (λ x e. e) m p
      by false = p

  text_next : (n : State) → Here n → Here (bridging.next_text now nth n).after
  text_next n p = by (bridging.has_rest (session_at nth n))
    where
      by : (b : Bool) → Here (if b then done n else users.take_text now nth n).after
      by true = p
      by false = text_taken (users.present (session_at nth n)) n p

  rest_written : (id : ℕ) (t : Turn State) → Here t.after → Here (bridging.text_written now nth id t).after
  rest_written id t p = by t.did
    where
      text : List ℕ
      text = bridging.rest_of (session_at nth t.after)

      log : Session → Session
      log = bridging.log_wrote (users.wrote_by (users.write_answer id text t.after)) text

      by : (b : Bool) → Here (if b then done (bridging.write_rest now nth id t.after) else idle t.after).after
      by true = written id text (at_session nth log t.after) (changed log (λ x e. e) t.after p)
      by false = p

  closed_user : (u : Option User) (n : State) → Here n → Here (users.close_by u now n)
  closed_user None n p = p
  closed_user (Some (AtEnd id)) n p = acted (sets.Calls id sets.Closes now) n p
  closed_user (Some (AtLink peer)) n p = p

  tried : (dest : Callsign) (r : Result ℕ ConnectRefusal) (n : State) → Here n → Then (asking.try_by now nth dest r n)
  tried dest (Ok id) n p =
      let m : State = at_session nth (asking.tries id dest) n in
      said_then _ (users.acts now (sets.Connect dest now) m) (acted_then (sets.Connect dest now) m (tries id dest n p))
  tried dest (Err why) n p = said_then _ n (later n p)

  acted_on : (a : Asked) (n : State) → Here n → Then (asking.do_action now nth a n)
  acted_on (Say text) n p = said_then text.items n (later n p)
  acted_on (Show sight) n p = said_then _ n (later n p)
  acted_on (Bye text) n p =
      let m : State = users.say now nth text.items n in
      let k : State = at_session nth asking.leaves m in
      later (users.close_by (users.present (session_at nth k)) now k) (closed_user (users.present (session_at nth k)) k (changed asking.leaves (λ x e. e) m (said text.items n p)))
  acted_on (Connect dest) n p = tried dest (connect_answer (next_hop n) dest n.set.set) n p
  acted_on Nothing n p = later n p

  line_done : (n : State) → Here n → Then (asking.do_line now nth n)
  line_done n p = acted_on (asking.action_at (session_at nth n) n) (at_session nth asking.cut_line n) (changed asking.cut_line (λ x e. e) n p)

  if_text : (t : Turn State) (step : State → State) → Here t.after → (Here t.after → Then (step t.after)) → Then (asking.if_text t step).after
  if_text t step p more = by t.did
    where
      by : (b : Bool) → Then (if b then done (step t.after) else idle t.after).after
      by true = more p
      by false = later t.after p

  line_taken : (n : State) → Here n → Then (asking.take_line now nth n).after
  line_taken n p = by (asking.is_deaf_at (session_at nth n) n) (asking.has_room_at (session_at nth n) n)
    where
      t : Turn State
      t = bridging.next_text now nth n

      by : (a b : Bool) → Then (if a then asking.drop_text_of now nth n else if b then asking.do_next_line now nth n else idle n).after
      by true b = if_text t (at_session nth bridging.drop_rest) (text_next n p) (λ q. later (at_session nth bridging.drop_rest t.after) (changed bridging.drop_rest (λ x e. e) t.after q))
      by false true = if_text t (asking.do_line now nth) (text_next n p) (λ q. line_done t.after q)
      by false false = later n p

  taken_up : (o : Option Stage) (n : State) → Here n → Then (serving.take_up_by o now nth n).after
  taken_up None n p = later n p
  taken_up (Some AtPrompt) n p = line_taken n p
  taken_up (Some (Trying c)) n p = later n p
  taken_up (Some (Failed c)) n p = later n p
  taken_up (Some (Connected c)) n p = by (not c.closed && users.end_has_room c.id n)
    where
      by : (b : Bool) → Then (if b then bridging.text_written now nth c.id (bridging.next_text now nth n) else idle n).after
      by true = later (bridging.text_written now nth c.id (bridging.next_text now nth n)).after (rest_written c.id (bridging.next_text now nth n) (text_next n p))
      by false = later n p

  closed : (q : Option Circuit) (n : State) → Then n → Then (bridging.close_by q now nth n).after
  closed None n p = p
  closed (Some c) n p = acted_then (sets.Calls c.id sets.Closes now) (at_session nth bridging.note_closed n) (shuts n p)

  first_or : (first next : State → Turn State) (n : State) → Here (first n).after → ((m : State) → Here m → Then (next m).after) → Then (or_else first next n).after
  first_or first next n p more = by (first n).did
    where
      by : (b : Bool) → Then (if b then first n else next (first n).after).after
      by true = later (first n).after p
      by false = more (first n).after p

  up_or_close : (n : State) → Here n → Then (or_else (serving.take_up now nth) (bridging.close_circuit now nth) n).after
  up_or_close n p = by (serving.take_up now nth n).did (taken_up (serving.stage_of (session_at nth n)) n p)
    where
      by : (b : Bool) → Then (serving.take_up now nth n).after → Then (if b then serving.take_up now nth n else bridging.close_circuit now nth (serving.take_up now nth n).after).after
      by true q = q
      by false q = closed (bridging.circuit_to_close (session_at nth (serving.take_up now nth n).after) (serving.take_up now nth n).after) (serving.take_up now nth n).after q

  served : (n : State) → Here n → Then (serving.serve now nth n).after
  served n p =
      pumped_placed Q hears_then now at (serving.serve_once now nth n).after
      (first_or (bridging.give_reply now nth) (or_else (bridging.give_message now nth) (or_else (serving.take_up now nth) (bridging.close_circuit now nth))) n (replied (bridging.next_reply (session_at nth n) n) n p)
      (λ m q. first_or (bridging.give_message now nth) (or_else (serving.take_up now nth) (bridging.close_circuit now nth)) m (given (bridging.giving_circuit (session_at nth m) m) m q) up_or_close))

-- ---- of another session

other_changed : (nth at : ℕ) (apart : at ≡ nth → ⊥) (o : Session) (f : Session → Session) (n : State) → Placed (Goes o) at n.sessions → Placed (Goes o) at (at_session nth f n).sessions
other_changed nth at apart o f n p = record { x = p.x; is = changed_other f n.sessions nth at (slice_get n.sessions nth) apart ∙ p.is; holds = p.holds }

others_go : (now nth at : ℕ) (n : State) (x : Session) → nat_eq at nth ≡ false → session_at at n ≡ Some x → GoesOnAt at x (serving.serve now nth n).after
others_go now nth at n x e here =
    let apart : at ≡ nth → ⊥ = λ same. absurd (grind (arith, nat_tests, same, e)) in
    let p = served now nth at (Goes x) (Goes x) (goes_hear x) (goes_hear x) (λ y g. g) (λ f k m q. other_changed nth at apart x f m q) (λ id dest m q. other_changed nth at apart x (asking.tries id dest) m q) (λ m q. other_changed nth at apart x bridging.note_closed m q) n (record { x = x; is = here; holds = goes_itself x }) in
    (p.x, (p.is, goes_on x p.x p.holds))

-- ---- of one that asks for a circuit

abbrev AtPromptNow : Session → Type 0
AtPromptNow x = x.stage ≡ AtPrompt

prompt_hears : Hears AtPromptNow
prompt_hears = record {
  notice = λ id notice x e. subst (λ (stage : Stage). (s.notice_at stage id notice x).stage ≡ AtPrompt) (sym e) e;
  gone = λ id x e. subst (λ (stage : Stage). (s.gone_at stage id x).stage ≡ AtPrompt) (sym e) e;
}

begun_noticed : (id : ℕ) (notice : EndNotice) (x : Session) (stage : Stage) → x.stage ≡ stage → HasBegun x → HasBegun (s.notice_at stage id notice x)
begun_noticed id notice x AtPrompt e p = p
begun_noticed id notice x (Failed c) e p = p
begun_noticed id notice x (Connected c) e p = p
begun_noticed id notice x (Trying c) e (inl p) = let clash : Trying c ≡ AtPrompt = sym e ∙ p in absurd (cc clash)
begun_noticed id notice x (Trying c) e (inr p) = by (nat_eq c.id id)
  where
    by : (b : Bool) → HasBegun (if b then s.hear_tried c notice x else x)
    by true = inr (p.0, inr refl)
    by false = inr p

begun_gone : (id : ℕ) (x : Session) (stage : Stage) → HasBegun x → HasBegun (s.gone_at stage id x)
begun_gone id x AtPrompt p = p
begun_gone id x (Trying c) p = by (nat_eq c.id id)
  where
    by : (b : Bool) → HasBegun (if b then s.at_prompt x else x)
    by true = inl refl
    by false = p
begun_gone id x (Failed c) p = by (nat_eq c.id id)
  where
    by : (b : Bool) → HasBegun (if b then s.at_prompt x else x)
    by true = inl refl
    by false = p
begun_gone id x (Connected c) p = by (nat_eq c.id id)
  where
    by : (b : Bool) → HasBegun (if b then s.hear_end c x else x)
    by true = inl refl
    by false = p

begun_hears : Hears HasBegun
begun_hears = record { notice = λ id notice x p. begun_noticed id notice x x.stage refl p; gone = λ id x p. begun_gone id x x.stage p }

begun_shuts : (x : Session) → HasBegun x → HasBegun (bridging.note_closed x)
begun_shuts x (inl e) = inl (ap bridging.stage_closed e)
begun_shuts x (inr p) = inr p

here_changed : (Q : Session → Type 0) (nth : ℕ) (f : Session → Session) (n : State) (x : Session) → session_at nth n ≡ Some x → Q (f x) → Placed Q nth (at_session nth f n).sessions
here_changed Q nth f n x e q = record { x = f x; is = changed_here f n.sessions nth x e; holds = q }

begins_go : (now nth : ℕ) (n : State) (x : Session) → session_at nth n ≡ Some x → x.stage ≡ AtPrompt → BeginsAt nth (serving.serve now nth n).after
begins_go now nth n x here e =
    let p = served now nth nth AtPromptNow HasBegun prompt_hears begun_hears (λ y g. inl g) (λ f keeps m q. here_changed AtPromptNow nth f m q.x q.is (keeps q.x q.holds))
    (λ id dest m q. here_changed HasBegun nth (asking.tries id dest) m q.x q.is (inr (refl, inl refl))) (λ m q. here_changed HasBegun nth bridging.note_closed m q.x q.is (begun_shuts q.x q.holds)) n
    (record { x = x; is = here; holds = e }) in
    (p.x, (p.is, p.holds))

pub stays_elsewhere : ListsStayElsewhere
stays_elsewhere = record {
  items = item_stays;
  ticks = tick_stays;
  acts = act_stays;
  texts = texts_stay;
  notices = notices_go;
  pumps = pumps_go;
  greets = greets_go;
  drops = drops_go;
  others = others_go;
  begins = begins_go;
}
