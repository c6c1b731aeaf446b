-- What is done for a user, but for the lines at the prompt, leaves less to do, and what isn't done leaves all as it is.
use Rattle.std.proofs.Common.{◌≡◌, ◌≤◌, ◌<◌, ◌+◌, ◌*◌, ◌⊎◌, inl, inr, ℕ, zero, suc, refl, ap, arith, length, length-take, drop, take, List, [], ◌∷◌}
use Rattle.std.specs.Prelude.{Bool, true, false, not, ◌&&◌, if◌then◌else◌, slice_get, slice_set, Option, Some, None, Result, Ok, Err}
use Rattle.std.proofs.lemmas.Bool.Decides.{nat_tests}
use Rattle.ax_address.specs.Callsign.{Callsign}
use Rattle.circuit_table.specs.declared.refusal.SetRefusal.{SetRefusal}
use Rattle.circuit_table.specs.Pumps.{TellsLess}
use Rattle.circuit_table.specs.Sets as sets
use Rattle.circuit_table.specs.Standing as answers
use Rattle.link_table.specs.Kept.{OffersLeave, TakesLower}
use Rattle.link_table.specs.declared.text_refusal.TextRefusal.{TextRefusal}
use Rattle.node_model.specs.declared.circuit.Circuit.{Circuit}
use Rattle.node_model.specs.declared.reply.Reply.{Reply}
use Rattle.node_model.specs.declared.stage.Stage.{Stage}
use Rattle.node_model.specs.declared.stage.Stage.TheVariants.{AtPrompt, Trying, Failed, Connected}
use Rattle.node_model.specs.declared.user.User.{User}
use Rattle.node_model.specs.declared.user.User.TheVariants.{AtEnd, AtLink}
use Rattle.node_model.specs.Asking as asking
use Rattle.node_model.specs.Bridging as bridging
use Rattle.node_model.specs.Links as links
use Rattle.node_model.specs.Pumping.{pump}
use Rattle.node_model.specs.Sessions.{Session, circuit_of}
use Rattle.node_model.specs.States.{State, at_links, at_set}
use Rattle.node_model.specs.Turns.{Turn, done, idle}
use Rattle.node_model.specs.Users as users
use Rattle.node_model.specs.Users.{at_session, change_if, session_at}
use Rattle.node_model.proofs.Heaping.{closes_most, connects_most, takes_fewer, writes_most}
use Rattle.node_model.proofs.Texting.{sent_most, text_leaves_less}
use Rattle.node_model.proofs.Working.{Below, pumped_below, units}
use Rattle.node_model.proofs.Weights.{is_unclosed, messages, session_work, sessions_work, stage_replies, work}

-- ---- sessions by their place

placed : (ss : List Session) (nth : ℕ) (s x : Session) → slice_get ss nth ≡ Some s → sessions_work (slice_set ss nth x) + session_work s ≡ sessions_work ss + session_work x
placed [] nth s x e = absurd (cc e)
placed (y ∷ ss) zero s x e = let same : y ≡ s = cc e in rw same (omega arith)
placed (y ∷ ss) (suc nth) s x e = omega (arith, placed ss nth s x e)

-- a change of a session adds at most so much
changed_most : (k : ℕ) (f : Session → Session) (ss : List Session) (nth : ℕ) (o : Option Session) → slice_get ss nth ≡ o → ((s : Session) → session_work (f s) ≤ session_work s + k)
    → sessions_work (change_if o nth f ss) ≤ sessions_work ss + k
changed_most k f ss nth None e few = omega arith
changed_most k f ss nth (Some s) e few = omega (arith, placed ss nth s (f s) e, few s)

-- a change of this session
pub changed_to : (f : Session → Session) (n : State) (nth : ℕ) (s : Session) → session_at nth n ≡ Some s
    → sessions_work (at_session nth f n).sessions + session_work s ≡ sessions_work n.sessions + session_work (f s)
changed_to f n nth s e = rw e (placed n.sessions nth s (f s) e)

-- ---- what adds no more than so much

pub record Adds (k : ℕ) (old new : State) : Type 0 where
  pub units : units new ≤ units old
  pub sessions : sessions_work new.sessions ≤ sessions_work old.sessions + k

below_adds : (n m : State) → Below n m → Adds 0 n m
below_adds n m b = record { units = b.units; sessions = omega (arith, b.sessions) }

then_adds : (j k : ℕ) (a b c : State) → Adds j a b → Adds k b c → Adds (j + k) a c
then_adds j k a b c x y = record { units = omega (arith, x.units, y.units); sessions = omega (arith, x.sessions, y.sessions) }

pub itself : (n : State) → Adds 0 n n
itself n = record { units = omega arith; sessions = omega arith }

pub session_adds : (k : ℕ) (nth : ℕ) (f : Session → Session) (n : State) → ((s : Session) → session_work (f s) ≤ session_work s + k) → Adds k n (at_session nth f n)
session_adds k nth f n few = record { units = omega arith; sessions = changed_most k f n.sessions nth (slice_get n.sessions nth) refl few }

set_adds : (a : sets.Act) (n : State) → messages (at_set (links.acts a) n) ≤ messages n → Adds 0 n (at_set (links.acts a) n)
set_adds a n few = record { units = omega (arith, few); sessions = omega arith }

writes_less : (text : List ℕ) (now id : ℕ) (n : State) → messages (at_set (links.acts (sets.Calls id (sets.Writes text) now)) n) ≤ messages n
unfolding links.acts
writes_less text now id n = writes_most n.set.set text now id

closes_less : (now id : ℕ) (n : State) → messages (at_set (links.acts (sets.Calls id sets.Closes now)) n) ≤ messages n
unfolding links.acts
closes_less now id n = closes_most n.set.set now id

pub connects_less : (dest : Callsign) (now : ℕ) (n : State) → messages (at_set (links.acts (sets.Connect dest now)) n) ≤ messages n
unfolding links.acts
connects_less dest now n = connects_most n.set.set dest now

takes_less : (now id : ℕ) (n : State) → users.has_taken (answers.take_answer (users.end_at id n)) ≡ true → messages (at_set (links.acts (sets.Calls id sets.Takes now)) n) < messages n
unfolding links.acts
takes_less now id n e = takes_fewer n.set.set now id e

-- what is done leaves less, and what isn't leaves all
pub record Lowers (n : State) (t : Turn State) : Type 0 where
  pub less : t.did ≡ true → work t.after < work n
  pub idle : t.did ≡ false → t.after ≡ n

pub idles : (n : State) → Lowers n (idle n)
idles n = record { less = λ e. absurd (cc e); idle = λ e. refl }

dones : (n m : State) → work m < work n → Lowers n (done m)
dones n m less = record { less = λ e. less; idle = λ e. absurd (cc e) }

pub either : (n : State) (t u : Turn State) (b : Bool) → (b ≡ true → Lowers n t) → (b ≡ false → Lowers n u) → Lowers n (if b then t else u)
either n t u true x y = x refl
either n t u false x y = y refl

-- what is left of the text, if anything
pub record Next (n : State) (nth : ℕ) (t : Turn State) : Type 0 where
  pub idle : t.did ≡ false → t.after ≡ n
  pub some : t.did ≡ true → (work t.after < work n) ⊎ ((t.after ≡ n) × ((s : Session) × ((session_at nth n ≡ Some s) × (0 < length s.rest))))

module _ (offers : OffersLeave) (takes : TakesLower) (less : TellsLess) where
  pub pumped : (now : ℕ) (n : State) → Adds 0 n (pump now n)
  pumped now n = below_adds n (pump now n) (pumped_below offers takes less now n)

  pub acted : (now : ℕ) (a : sets.Act) (n : State) → messages (at_set (links.acts a) n) ≤ messages n → Adds 0 n (users.acts now a n)
  acted now a n few = let m : State = at_set (links.acts a) n in then_adds 0 0 n m (users.acts now a n) (set_adds a n few) (pumped now m)

  written : (text : List ℕ) (now id : ℕ) (r : Result (Unit {0}) SetRefusal) (n : State) → Adds 0 n (users.write_if_ok r (sets.Calls id (sets.Writes text) now) n)
  written text now id (Ok _) n = set_adds (sets.Calls id (sets.Writes text) now) n (writes_less text now id n)
  written text now id (Err why) n = itself n

  wrote : (now id : ℕ) (text : List ℕ) (n : State) → Adds 0 n (users.write_to now id text n)
  wrote now id text n =
      let m : State = users.write_if_ok (users.write_answer id text n) (sets.Calls id (sets.Writes text) now) n in
      then_adds 0 0 n m (users.write_to now id text n) (written text now id (users.write_answer id text n) n) (pumped now m)

  pub closed : (now id : ℕ) (n : State) → Adds 0 n (users.close now id n)
  closed now id n = acted now (sets.Calls id sets.Closes now) n (closes_less now id n)

  sent : (now : ℕ) (peer : Callsign) (text : List ℕ) (r : Result (Unit {0}) TextRefusal) (n : State) → Adds 0 n (users.send_if_ok r peer text now n)
  sent now peer text (Ok _) n =
      let x = sent_most peer text now n.links in
      let same = ap (λ xs. length xs) x.waiting in
      record { units = omega (arith, x.payloads, same); sessions = omega arith }
  sent now peer text (Err why) n = itself n

  said_to : (o : Option User) (now : ℕ) (text : List ℕ) (n : State) → Adds 0 n (users.say_if o now text n)
  said_to None now text n = itself n
  said_to (Some (AtEnd id)) now text n = wrote now id text n
  said_to (Some (AtLink peer)) now text n = sent now peer text (links.text_answer peer text n.links) n

  pub said : (now nth : ℕ) (text : List ℕ) (n : State) → Adds 0 n (users.say now nth text n)
  said now nth text n = said_to (users.listener (session_at nth n) n) now text n

  -- ---- replies

  pub replied : (now nth : ℕ) (n : State) (o : Option Session) → session_at nth n ≡ o → Lowers n (bridging.reply_by (bridging.next_reply o n) now nth n)
  replied now nth n None e = idles n
  replied now nth n (Some s) e = by (users.can_give s n) (slice_get s.replies 0) refl
    where
      by : (b : Bool) (r : Option Reply) → slice_get s.replies 0 ≡ r → Lowers n (bridging.reply_by (if b then r else None) now nth n)
      by false r f = idles n
      by true None f = idles n
      by true (Some r) f =
          let m : State = at_session nth bridging.drop_reply n in
          let text = bridging.reply_text (bridging.prompt_of n) r in
          let to = changed_to bridging.drop_reply n nth s e in
          let fewer : suc (length (drop 1 s.replies)) ≡ length s.replies = one s.replies f in
          let x = said now nth text m in
          dones n (users.say now nth text m) (omega (arith, to, fewer, x.units, x.sessions))
        where
          one : (rs : List Reply) → slice_get rs 0 ≡ Some r → suc (length (drop 1 rs)) ≡ length rs
          one [] g = absurd (cc g)
          one (q ∷ rs) g = refl

  -- ---- messages

  passed : (now nth : ℕ) (message : List ℕ) (n : State) → Adds 0 n (bridging.pass_on now nth message n)
  passed now nth message n =
      let step = bridging.log_gave (users.outcome_for nth message n) message in
      let m : State = at_session nth step n in
      then_adds 0 0 n m (bridging.pass_on now nth message n) (session_adds 0 nth step n (λ s. omega arith)) (said now nth message m)

  gave : (now nth id : ℕ) (n : State) → Lowers n (bridging.give_from now nth id n)
  gave now nth id n = by (users.has_taken (answers.take_answer (users.end_at id n))) refl
    where
      message : List ℕ
      message = answers.message_at [] (users.end_at id n)

      took : State
      took = at_set (links.acts (sets.Calls id sets.Takes now)) n

      told : State
      told = pump now took

      logged : State
      logged = at_session nth (bridging.log_got message) told

      by : (b : Bool) → users.has_taken (answers.take_answer (users.end_at id n)) ≡ b → Lowers n (if b then done (bridging.pass_on now nth message logged) else idle n)
      by false f = idles n
      by true f =
          let a = takes_less now id n f in
          let b = pumped now took in
          let c = session_adds 0 nth (bridging.log_got message) told (λ s. omega arith) in
          let d = passed now nth message logged in
          dones n (bridging.pass_on now nth message logged) (omega (arith, a, b.units, b.sessions, c.units, c.sessions, d.units, d.sessions))

  pub given : (now nth : ℕ) (n : State) (o : Option Circuit) → Lowers n (bridging.give_of o now nth n)
  given now nth n None = idles n
  given now nth n (Some c) = gave now nth c.id n

  -- ---- texts of the user

  few_bytes : (text : List ℕ) → length (take 8192 text) ≤ 8192
  few_bytes text = let l = length-take 8192 text in grind (arith, l)

  with_text_most : (text : List ℕ) (s : Session) → session_work (users.with_text text s) ≤ session_work s + 32768
  with_text_most text s = omega (arith, few_bytes text)

  from_end : (now nth id : ℕ) (n : State) → Lowers n (users.take_from_end now nth id n)
  from_end now nth id n = by (users.has_taken (answers.take_answer (users.end_at id n))) refl
    where
      text : List ℕ
      text = answers.message_at [] (users.end_at id n)

      took : State
      took = at_set (links.acts (sets.Calls id sets.Takes now)) n

      begun : State
      begun = at_session nth (users.with_text text) took

      by : (b : Bool) → users.has_taken (answers.take_answer (users.end_at id n)) ≡ b → Lowers n (users.take_if b (pump now begun) n)
      by false f = idles n
      by true f =
          let a = takes_less now id n f in
          let b = session_adds 32768 nth (users.with_text text) took (with_text_most text) in
          let c = pumped now begun in
          dones n (pump now begun) (omega (arith, a, b.units, b.sessions, c.units, c.sessions))

  from_link : (now nth : ℕ) (peer : Callsign) (n : State) → Lowers n (users.take_from_link now nth peer n)
  from_link now nth peer n = by (links.has_text peer n.links) refl
    where
      text : List ℕ
      text = links.text_with peer n.links

      took : State
      took = at_links (links.take_text peer now) n

      by : (b : Bool) → links.has_text peer n.links ≡ b → Lowers n (users.take_if b (at_session nth (users.with_text text) took) n)
      by false f = idles n
      by true f =
          let a = text_leaves_less peer now n.links f in
          let b = session_adds 32768 nth (users.with_text text) took (with_text_most text) in
          dones n (at_session nth (users.with_text text) took) (omega (arith, a, b.units, b.sessions))

  taken_by : (o : Option User) (now nth : ℕ) (n : State) → Lowers n (users.take_by o now nth n)
  taken_by None now nth n = idles n
  taken_by (Some (AtEnd id)) now nth n = from_end now nth id n
  taken_by (Some (AtLink peer)) now nth n = from_link now nth peer n

  next : (now nth : ℕ) (n : State) (o : Option Session) → session_at nth n ≡ o → (b : Bool) → bridging.has_rest o ≡ b → Next n nth (if b then done n else users.take_by (users.present o) now nth n)
  next now nth n None e true f = absurd (cc f)
  next now nth n (Some s) e true f =
      let some : 0 < length s.rest = grind (arith, nat_tests, f) in
      record { idle = λ g. absurd (cc g); some = λ g. inr (refl, (s, (e, some))) }
  next now nth n o e false f =
      let x = taken_by (users.present o) now nth n in
      record { idle = x.idle; some = λ g. inl (x.less g) }

  next_text : (now nth : ℕ) (n : State) → Next n nth (bridging.next_text now nth n)
  next_text now nth n = next now nth n (session_at nth n) refl (bridging.has_rest (session_at nth n)) refl

  -- where a step leaves no more, and less where something of the text is left, it leaves less behind the next text
  pub then_less : (now nth : ℕ) (n : State) (step : State → State) → ((m : State) → work (step m) ≤ work m)
      → ((m : State) (s : Session) → session_at nth m ≡ Some s → 0 < length s.rest → work (step m) < work m) → Lowers n (asking.if_text (bridging.next_text now nth n) step)
  then_less now nth n step most lower = by (bridging.next_text now nth n).did refl
    where
      t : Turn State
      t = bridging.next_text now nth n

      some : (work t.after < work n) ⊎ ((t.after ≡ n) × ((s : Session) × ((session_at nth n ≡ Some s) × (0 < length s.rest)))) → work (step t.after) < work n
      some (inl fewer) = let x = most t.after in omega (arith, fewer, x)
      some (inr (same, (s, (e, rest)))) = rw same (lower n s e rest)

      by : (b : Bool) → t.did ≡ b → Lowers n (if b then done (step t.after) else idle t.after)
      by false f = record { less = λ e. absurd (cc e); idle = λ e. (next_text now nth n).idle f }
      by true f = dones n (step t.after) (some ((next_text now nth n).some f))

  no_rest : (s : Session) → session_work (bridging.drop_rest s) + 4 * length s.rest ≡ session_work s
  no_rest s = omega arith

  rest_written : (now nth id : ℕ) (n : State) → work (bridging.write_rest now nth id n) ≤ work n
  rest_written now nth id n =
      let text = bridging.rest_of (session_at nth n) in
      let step = bridging.log_wrote (users.wrote_by (users.write_answer id text n)) text in
      let m : State = at_session nth step n in
      let a = session_adds 0 nth step n (λ x. omega arith) in
      let b = wrote now id text m in
      omega (arith, a.units, a.sessions, b.units, b.sessions)

  some_written : (now nth id : ℕ) (n : State) (s : Session) → session_at nth n ≡ Some s → 0 < length s.rest → work (bridging.write_rest now nth id n) < work n
  some_written now nth id n s e some =
      let text = bridging.rest_of (session_at nth n) in
      let step = bridging.log_wrote (users.wrote_by (users.write_answer id text n)) text in
      let m : State = at_session nth step n in
      let a = changed_to step n nth s e in
      let b = wrote now id text m in
      omega (arith, a, b.units, b.sessions, some)

  pub text_written : (now nth : ℕ) (c : Circuit) (n : State) → Lowers n (bridging.write_text now nth c n)
  text_written now nth c n =
      either n _ _ (not c.closed && users.end_has_room c.id n)
      (λ e. then_less now nth n (bridging.write_rest now nth c.id) (rest_written now nth c.id) (some_written now nth c.id))
      (λ e. idles n)

  -- ---- the end of a circuit

  closing : (s : Session) (c : Circuit) → circuit_of s.stage ≡ Some c → c.closed ≡ false → session_work (bridging.note_closed s) + 1 ≡ session_work s
  closing s c e f = by s.stage refl e
    where
      by : (stage : Stage) → s.stage ≡ stage → circuit_of stage ≡ Some c
          → 4 * length s.rest + length s.replies + stage_replies (bridging.stage_closed s.stage) + is_unclosed (circuit_of (bridging.stage_closed s.stage)) + 1
          ≡ 4 * length s.rest + length s.replies + stage_replies s.stage + is_unclosed (circuit_of s.stage)
      by AtPrompt g h = absurd (cc h)
      by (Trying d) g h = let same : d ≡ c = cc h in let unclosed : d.closed ≡ false = rw same f in rw (g, unclosed) (omega arith)
      by (Failed d) g h = let same : d ≡ c = cc h in let unclosed : d.closed ≡ false = rw same f in rw (g, unclosed) (omega arith)
      by (Connected d) g h = let same : d ≡ c = cc h in let unclosed : d.closed ≡ false = rw same f in rw (g, unclosed) (omega arith)

  not_first : (a b : Bool) → (not a && b) ≡ true → a ≡ false
  not_first true b e = absurd (cc e)
  not_first false b e = refl

  pub closes : (now nth : ℕ) (n : State) (o : Option Session) → session_at nth n ≡ o → Lowers n (bridging.close_by (bridging.circuit_to_close o n) now nth n)
  closes now nth n None e = idles n
  closes now nth n (Some s) e = by (circuit_of s.stage) refl
    where
      shut : (c : Circuit) → circuit_of s.stage ≡ Some c → (b : Bool) → bridging.may_close s c n ≡ b → Lowers n (bridging.close_by (if b then Some c else None) now nth n)
      shut c f false g = idles n
      shut c f true g =
          let m : State = at_session nth bridging.note_closed n in
          let a = changed_to bridging.note_closed n nth s e in
          let one = closing s c f (not_first c.closed _ g) in
          let b = closed now c.id m in
          dones n (users.close now c.id m) (omega (arith, a, one, b.units, b.sessions))

      by : (o : Option Circuit) → circuit_of s.stage ≡ o → Lowers n (bridging.close_by (bridging.if_may_close s o n) now nth n)
      by None f = idles n
      by (Some c) f = shut c f (bridging.may_close s c n) refl
