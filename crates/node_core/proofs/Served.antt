-- What is so from one state of a node to another, and behind one another, is so of what the users are served with where it is so of each thing
-- that is done for them.
use Rattle.std.proofs.Common.{◌≡◌, ℕ, zero, suc, refl, List, [], ◌∷◌}
use Rattle.std.specs.Prelude.{Bool, true, false, if◌then◌else◌, not, ◌&&◌, length, map, nat_lt, Option, Some, None, Result, Ok, Err}
use Rattle.ax_address.specs.Callsign.{ReadsCallTexts, call_at, Callsign, IsCallsign}
use Rattle.ax_address.specs.declared.call.CallRefusal.{CallRefusal}
use Rattle.circuit_table.specs.declared.refusal.ConnectRefusal.{ConnectRefusal}
use Rattle.circuit_table.specs.declared.refusal.SetRefusal.{SetRefusal}
use Rattle.circuit_table.specs.Pumps.{connect_answer}
use Rattle.circuit_table.specs.Sets as sets
use Rattle.circuit_table.specs.Standing as answers
use Rattle.link_table.specs.declared.text_refusal.TextRefusal.{TextRefusal}
use Rattle.node_prompt.specs.Commands as commands
use Rattle.node_prompt.specs.Commands.{capital, words_of}
use Rattle.node_prompt.specs.Replies.{Prompt}
use Rattle.node_prompt.specs.Replies as texts
use Rattle.node_prompt.specs.declared.action.Action.{Action}
use Rattle.node_prompt.specs.declared.action.Action.TheVariants as action
use Rattle.node_prompt.specs.declared.command.Command.{Command}
use Rattle.node_prompt.specs.declared.command.Command.TheVariants as command
use Rattle.node_prompt.specs.declared.line_refusal.LineRefusal.{LineRefusal}
use Rattle.node_prompt.specs.declared.line_refusal.LineRefusal.TheVariants.{TooLong}
use Rattle.node_model.specs.Links as links
use Rattle.node_prompt.specs.declared.command.Verb.{Verb}
use Rattle.node_prompt.specs.declared.command.Verb.TheVariants as verb
use Rattle.node_model.specs.declared.circuit.Circuit.{Circuit}
use Rattle.node_model.specs.declared.reply.Reply.{Reply}
use Rattle.node_model.specs.declared.stage.Stage.{Stage}
use Rattle.node_model.specs.declared.stage.Stage.TheVariants.{AtPrompt, Trying, Failed, Connected}
use Rattle.node_model.specs.declared.user.User.{User}
use Rattle.node_model.specs.declared.user.User.TheVariants.{AtEnd, AtLink}
use Rattle.node_model.specs.Asking as asking
use Rattle.node_model.specs.Bridging as bridging
use Rattle.node_model.specs.Pumping.{pump}
use Rattle.node_model.specs.Serving as serving
use Rattle.node_model.specs.Sessions.{Session}
use Rattle.node_model.specs.States.{State, at_links, at_set, next_hop}
use Rattle.node_model.specs.Turns.{Turn, or_else}
use Rattle.node_model.specs.Users as users
use Rattle.node_model.specs.Asking.{view}
use Rattle.node_model.specs.Users.{at_session, session_at}

-- what a user asks the circuits for
abbrev pub IsAsking : sets.Act → Type 0
IsAsking (sets.Connect dest now) = IsCallsign dest.letters dest.ssid
IsAsking (sets.ConnectFor user dest now) = IsCallsign user.letters user.ssid × IsCallsign dest.letters dest.ssid
IsAsking (sets.Comes datagram now) = ⊥
IsAsking (sets.Calls id call now) = Unit {0}
IsAsking (sets.Discard id) = Unit {0}
IsAsking (sets.Restart pair more) = ⊥

-- a step of a session that leaves its user
abbrev pub KeepsUser : (Session → Session) → Type 0
KeepsUser step = (x : Session) → ((step x).user ≡ x.user) × ((step x).left ≡ x.left)

-- what is so of a state and itself, and behind one another, of each thing that is done for a user, and as the circuits are pumped
pub record Serves (P : State → State → Type 0) : Type 0 where
  pub still : (n : State) → P n n
  pub follows : (a b c : State) → P a b → P b c → P a c
  pub changes : (nth : ℕ) (step : Session → Session) (n : State) → KeepsUser step → P n (at_session nth step n)
  pub greets : (n : State) → P n (serving.greet_links n)
  pub drops : (n : State) → P n (serving.drop_over n)
  pub acts : (a : sets.Act) (n : State) → IsAsking a → P n (at_set (links.acts a) n)
  pub pumps : (now : ℕ) (n : State) → P n (pump now n)
  pub takes_text : (peer : Callsign) (now : ℕ) (n : State) → P n (at_links (links.take_text peer now) n)
  pub sends_text : (peer : Callsign) (text : List ℕ) (now : ℕ) (n : State) → P n (at_links (links.send_text peer text now) n)
  pub closes_link : (peer : Callsign) (now : ℕ) (n : State) → P n (at_links (links.close peer now) n)

-- ---- lines

-- a circuit is asked for with a callsign
abbrev pub IsNamed : Action → Type 0
IsNamed (action.Connect dest) = IsCallsign dest.letters dest.ssid
IsNamed _ = Unit {0}

abbrev IsAsked : Result Command LineRefusal → Type 0
IsAsked (Ok (command.Connect dest)) = IsCallsign dest.letters dest.ssid
IsAsked _ = Unit {0}

named : (p : Prompt) (r : Result Command LineRefusal) → IsAsked r → IsNamed (texts.action_of p r)
named p (Err why) i = tt
named p (Ok command.Nothing) i = tt
named p (Ok (command.Connect dest)) i = i
named p (Ok command.Nodes) i = tt
named p (Ok (command.RoutesTo dest)) i = tt
named p (Ok command.Routes) i = tt
named p (Ok command.Users) i = tt
named p (Ok command.Info) i = tt
named p (Ok command.Bye) i = tt
named p (Ok command.Help) i = tt

module _ (reads : ReadsCallTexts) where
  read_call : (word : List ℕ) (r : Result Callsign CallRefusal) → call_at word ≡ r → IsAsked (commands.about command.Connect r)
  read_call word (Ok dest) e = ((reads word dest).0 e).0
  read_call word (Err why) e = tt

  about_other : (r : Result Callsign CallRefusal) → IsAsked (commands.about command.RoutesTo r)
  about_other (Ok dest) = tt
  about_other (Err why) = tt

  asked_about : (v : Verb) (word : List ℕ) → IsAsked (commands.command_about v word)
  asked_about verb.Connect word = read_call word (call_at word) refl
  asked_about verb.Nodes word = about_other (call_at word)
  asked_about verb.Routes word = tt
  asked_about verb.Users word = tt
  asked_about verb.Info word = tt
  asked_about verb.Bye word = tt
  asked_about verb.Help word = tt

  asked_alone : (v : Verb) → IsAsked (commands.command_alone v)
  asked_alone verb.Connect = tt
  asked_alone verb.Nodes = tt
  asked_alone verb.Routes = tt
  asked_alone verb.Users = tt
  asked_alone verb.Info = tt
  asked_alone verb.Bye = tt
  asked_alone verb.Help = tt

  asked_with : (v : Verb) (words : List (List ℕ)) → IsAsked (commands.command_with v words)
  asked_with v [] = asked_alone v
  asked_with v (word ∷ []) = asked_about v word
  asked_with v (word ∷ next ∷ more) = tt

  asked_from : (v : Option Verb) (words : List (List ℕ)) → IsAsked (commands.command_from v words)
  asked_from None words = tt
  asked_from (Some v) words = asked_with v words

  asked_of : (words : List (List ℕ)) → IsAsked (commands.command_of words)
  asked_of [] = tt
  asked_of (first ∷ words) = asked_from (commands.verb_of first) words

  asked_if : (b : Bool) (why : LineRefusal) (r : Result Command LineRefusal) → IsAsked r → IsAsked (if b then Err why else r)
  asked_if true why r i = tt
  asked_if false why r i = i

  asked_at : (line : List ℕ) → IsAsked (commands.command_at line)
  unfolding commands.command_at
  asked_at line = asked_if (nat_lt 80 (length line)) TooLong (commands.command_of (words_of (map capital line))) (asked_of (words_of (map capital line)))

  action_named : (line : List ℕ) (n : State) → IsNamed (asking.action_for line n)
  action_named line n = named (bridging.prompt_of n) (commands.command_at line) (asked_at line)

  pub at_named : (o : Option Session) (n : State) → IsNamed (asking.action_at o n)
  at_named None n = tt
  at_named (Some s) n = action_named (asking.first_line s.rest) n

module _ (P : State → State → Type 0) (w : Serves P) (reads : ReadsCallTexts) where
  -- ---- calls of the circuits

  acts_on : (now : ℕ) (a : sets.Act) (n : State) → IsAsking a → P n (users.acts now a n)
  acts_on now a n i = let m : State = at_set (links.acts a) n in w.follows n m (users.acts now a n) (w.acts a n i) (w.pumps now m)

  -- behind a change of a session
  behind : (nth : ℕ) (step : Session → Session) (n m : State) → KeepsUser step → P (at_session nth step n) m → P n m
  behind nth step n m keeps c = w.follows n (at_session nth step n) m (w.changes nth step n keeps) c

  written_on : (id : ℕ) (text : List ℕ) (now : ℕ) (r : Result (Unit {0}) SetRefusal) (n : State) → P n (users.write_if_ok r (sets.Calls id (sets.Writes text) now) n)
  written_on id text now (Ok _) n = w.acts (sets.Calls id (sets.Writes text) now) n tt
  written_on id text now (Err why) n = w.still n

  write_on : (now id : ℕ) (text : List ℕ) (n : State) → P n (users.write_to now id text n)
  write_on now id text n =
      let m : State = users.write_if_ok (users.write_answer id text n) (sets.Calls id (sets.Writes text) now) n in
      w.follows n m _ (written_on id text now (users.write_answer id text n) n) (w.pumps now m)

  close_on : (now id : ℕ) (n : State) → P n (users.close now id n)
  close_on now id n = acts_on now (sets.Calls id sets.Closes now) n tt

  -- ---- the user's side

  sent_on : (now : ℕ) (peer : Callsign) (text : List ℕ) (r : Result (Unit {0}) TextRefusal) (n : State) → P n (users.send_if_ok r peer text now n)
  sent_on now peer text (Ok _) n = w.sends_text peer text now n
  sent_on now peer text (Err why) n = w.still n

  say_to_on : (user : Option User) (now : ℕ) (text : List ℕ) (n : State) → P n (users.say_if user now text n)
  say_to_on None now text n = w.still n
  say_to_on (Some (AtEnd id)) now text n = write_on now id text n
  say_to_on (Some (AtLink peer)) now text n = sent_on now peer text (links.text_answer peer text n.links) n

  say_on : (now nth : ℕ) (text : List ℕ) (n : State) → P n (users.say now nth text n)
  say_on now nth text n = say_to_on (users.listener (session_at nth n) n) now text n

  abbrev TurnOn : State → Turn State → Type 0
  TurnOn n t = P n t.after

  take_if_on : (b : Bool) (m n : State) → P n m → TurnOn n (users.take_if b m n)
  take_if_on true m n c = c
  take_if_on false m n c = w.still n

  either_turn : (b : Bool) (t u : Turn State) (n : State) → TurnOn n t → TurnOn n u → TurnOn n (if b then t else u)
  either_turn true t u n c d = c
  either_turn false t u n c d = d

  from_end_on : (now nth id : ℕ) (n : State) → TurnOn n (users.take_from_end now nth id n)
  from_end_on now nth id n =
      let m : State = at_set (links.acts (sets.Calls id sets.Takes now)) n in
      let step = users.with_text (answers.message_at [] (users.end_at id n)) in
      let b : State = at_session nth step m in
      take_if_on (users.has_taken (answers.take_answer (users.end_at id n))) (pump now b) n
      (w.follows n m (pump now b) (w.acts (sets.Calls id sets.Takes now) n tt) (behind nth step m (pump now b) (λ x. (refl, refl)) (w.pumps now b)))

  from_link_on : (now nth : ℕ) (peer : Callsign) (n : State) → TurnOn n (users.take_from_link now nth peer n)
  from_link_on now nth peer n =
      let m : State = at_links (links.take_text peer now) n in
      let step = users.with_text (links.text_with peer n.links) in
      take_if_on (links.has_text peer n.links) (at_session nth step m) n (w.follows n m (at_session nth step m) (w.takes_text peer now n) (w.changes nth step m (λ x. (refl, refl))))

  taken_on : (o : Option User) (now nth : ℕ) (n : State) → TurnOn n (users.take_by o now nth n)
  taken_on None now nth n = w.still n
  taken_on (Some (AtEnd id)) now nth n = from_end_on now nth id n
  taken_on (Some (AtLink peer)) now nth n = from_link_on now nth peer n

  side_closed_on : (o : Option User) (now : ℕ) (n : State) → P n (users.close_by o now n)
  side_closed_on None now n = w.still n
  side_closed_on (Some (AtEnd id)) now n = close_on now id n
  side_closed_on (Some (AtLink peer)) now n = w.closes_link peer now n

  -- ---- replies, messages, texts

  reply_on : (o : Option Reply) (now nth : ℕ) (n : State) → TurnOn n (bridging.reply_by o now nth n)
  reply_on None now nth n = w.still n
  reply_on (Some r) now nth n = behind nth bridging.drop_reply n _ (λ x. (refl, refl)) (say_on now nth _ (at_session nth bridging.drop_reply n))

  pass_on : (now nth : ℕ) (message : List ℕ) (n : State) → P n (bridging.pass_on now nth message n)
  pass_on now nth message n = behind nth (bridging.log_gave (users.outcome_for nth message n) message) n _ (λ x. (refl, refl)) (say_on now nth message _)

  given_on : (o : Option Circuit) (now nth : ℕ) (n : State) → TurnOn n (bridging.give_of o now nth n)
  given_on None now nth n = w.still n
  given_on (Some c) now nth n =
      let end = users.end_at c.id n in
      let m : State = users.acts now (sets.Calls c.id sets.Takes now) n in
      either_turn (users.has_taken (answers.take_answer end)) _ _ n
      (w.follows n m _ (acts_on now (sets.Calls c.id sets.Takes now) n tt) (behind nth (bridging.log_got (answers.message_at [] end)) m _ (λ x. (refl, refl)) (pass_on now nth (answers.message_at [] end) _))) (w.still n)

  next_on : (now nth : ℕ) (n : State) → TurnOn n (bridging.next_text now nth n)
  next_on now nth n = either_turn (bridging.has_rest (session_at nth n)) _ _ n (w.still n) (taken_on (users.present (session_at nth n)) now nth n)

  rest_on : (now nth id : ℕ) (n : State) → P n (bridging.write_rest now nth id n)
  rest_on now nth id n =
      let text = bridging.rest_of (session_at nth n) in
      let step = bridging.log_wrote (users.wrote_by (users.write_answer id text n)) text in
      behind nth step n (bridging.write_rest now nth id n) (λ x. (refl, refl)) (write_on now id text (at_session nth step n))

  text_on : (now nth : ℕ) (c : Circuit) (n : State) → TurnOn n (bridging.write_text now nth c n)
  text_on now nth c n =
      let t : Turn State = bridging.next_text now nth n in
      either_turn (not c.closed && users.end_has_room c.id n) _ _ n
      (either_turn t.did _ _ n (w.follows n t.after _ (next_on now nth n) (rest_on now nth c.id t.after)) (next_on now nth n)) (w.still n)

  closed_on : (o : Option Circuit) (now nth : ℕ) (n : State) → TurnOn n (bridging.close_by o now nth n)
  closed_on None now nth n = w.still n
  closed_on (Some c) now nth n = behind nth bridging.note_closed n _ (λ x. (refl, refl)) (close_on now c.id _)

  tried_on : (now nth : ℕ) (dest : Callsign) (r : Result ℕ ConnectRefusal) (n : State) → IsCallsign dest.letters dest.ssid → P n (asking.try_by now nth dest r n)
  tried_on now nth dest (Ok id) n i =
      let a : State = at_session nth (asking.tries id dest) n in
      let b : State = users.acts now (sets.Connect dest now) a in
      behind nth (asking.tries id dest) n _ (λ x. (refl, refl)) (w.follows a b _ (acts_on now (sets.Connect dest now) a i) (say_on now nth _ b))
  tried_on now nth dest (Err why) n i = say_on now nth _ n

  bye_on : (now nth : ℕ) (text : List ℕ) (n : State) → P n (asking.say_bye now nth text n)
  bye_on now nth text n =
      let a : State = users.say now nth text n in
      w.follows n a _ (say_on now nth text n) (let b : State = at_session nth asking.leaves a in behind nth asking.leaves a (users.close_user now nth b) (λ x. (refl, refl)) (side_closed_on (users.present (session_at nth b)) now b))

  done_on : (now nth : ℕ) (a : Action) (n : State) → IsNamed a → P n (asking.do_action now nth a n)
  done_on now nth (action.Say text) n i = say_on now nth text.items n
  done_on now nth (action.Show sight) n i = say_on now nth (texts.view_text (bridging.prompt_of n) (view sight n)).items n
  done_on now nth (action.Bye text) n i = bye_on now nth text.items n
  done_on now nth (action.Connect dest) n i = tried_on now nth dest (connect_answer (next_hop n) dest n.set.set) n i
  done_on now nth action.Nothing n i = w.still n

  line_on : (now nth : ℕ) (n : State) → P n (asking.do_line now nth n)
  line_on now nth n = behind nth asking.cut_line n _ (λ x. (refl, refl)) (done_on now nth (asking.action_at (session_at nth n) n) _ (at_named reads (session_at nth n) n))

  if_text_on : (t : Turn State) (step : State → State) (n : State) → TurnOn n t → ((m : State) → P m (step m)) → TurnOn n (asking.if_text t step)
  if_text_on t step n c steps = either_turn t.did _ _ n (w.follows n t.after (step t.after) c (steps t.after)) c

  take_line_on : (now nth : ℕ) (n : State) → TurnOn n (asking.take_line now nth n)
  take_line_on now nth n =
      either_turn (asking.is_deaf_at (session_at nth n) n) _ _ n
      (if_text_on (bridging.next_text now nth n) _ n (next_on now nth n) (λ m. w.changes nth bridging.drop_rest m (λ x. (refl, refl))))
      (either_turn (asking.has_room_at (session_at nth n) n) _ _ n (if_text_on (bridging.next_text now nth n) _ n (next_on now nth n) (line_on now nth)) (w.still n))

  -- ---- serving

  up_at_on : (stage : Stage) (now nth : ℕ) (n : State) → TurnOn n (serving.take_up_at stage now nth n)
  up_at_on AtPrompt now nth n = take_line_on now nth n
  up_at_on (Trying c) now nth n = w.still n
  up_at_on (Failed c) now nth n = w.still n
  up_at_on (Connected c) now nth n = text_on now nth c n

  up_on : (o : Option Stage) (now nth : ℕ) (n : State) → TurnOn n (serving.take_up_by o now nth n)
  up_on None now nth n = w.still n
  up_on (Some stage) now nth n = up_at_on stage now nth n

  else_on : (first next : State → Turn State) (n : State) → ((m : State) → TurnOn m (first m)) → ((m : State) → TurnOn m (next m)) → TurnOn n (or_else first next n)
  else_on first next n f g = either_turn (first n).did _ _ n (f n) (w.follows n (first n).after _ (f n) (g (first n).after))

  once_on : (now nth : ℕ) (n : State) → TurnOn n (serving.serve_once now nth n)
  once_on now nth n =
      else_on (bridging.give_reply now nth) (or_else (bridging.give_message now nth) (or_else (serving.take_up now nth) (bridging.close_circuit now nth))) n (λ m. reply_on (bridging.next_reply (session_at nth m) m) now nth m)
      (λ a. else_on (bridging.give_message now nth) (or_else (serving.take_up now nth) (bridging.close_circuit now nth)) a (λ m. given_on (bridging.giving_circuit (session_at nth m) m) now nth m)
      (λ b. else_on (serving.take_up now nth) (bridging.close_circuit now nth) b (λ m. up_on (serving.stage_of (session_at nth m)) now nth m)
      (λ m. closed_on (bridging.circuit_to_close (session_at nth m) m) now nth m)))

  pub serve_on : (now nth : ℕ) (n : State) → TurnOn n (serving.serve now nth n)
  serve_on now nth n = w.follows n _ _ (once_on now nth n) (w.pumps now _)

  each_on : (now nth k : ℕ) (n : State) → TurnOn n (serving.serve_each now nth k n)
  each_on now nth zero n = w.still n
  each_on now nth (suc k) n = w.follows n _ _ (serve_on now nth n) (each_on now (suc nth) k _)

  pub served_on : (now : ℕ) (n : State) → TurnOn n (serving.serve_sessions now n)
  unfolding serving.serve_sessions
  served_on now n =
      let a : State = serving.greet_links n in
      let b : State = (serving.serve_all now a).after in
      w.follows n a _ (w.greets n) (w.follows a b _ (each_on now 0 (length a.sessions) a) (w.drops b))
