-- What is done for a user at the prompt, and in serving all, leaves less to do, and what isn't done leaves all as it is.
use Rattle.std.proofs.Common.{◌≡◌, ◌≤◌, ◌<◌, ◌+◌, ◌∙◌, ◌⊎◌, inl, inr, ℕ, zero, suc, refl, sym, ap, subst, arith, length, List, [], ◌∷◌}
use Rattle.std.specs.Prelude.{Bool, true, false, not, ◌||◌, nat_eq, filter, if◌then◌else◌, Option, Some, None, Result, Ok, Err}
use Rattle.ax_address.specs.Callsign.{Callsign}
use Rattle.circuit_table.specs.declared.refusal.ConnectRefusal.{ConnectRefusal}
use Rattle.circuit_table.specs.Pumps.{TellsLess, connect_answer}
use Rattle.circuit_table.specs.Sets as sets
use Rattle.link_table.specs.Kept.{OffersLeave, TakesLower}
use Rattle.node_prompt.specs.declared.action.Action.{Action}
use Rattle.node_prompt.specs.declared.action.Action.TheVariants as action
use Rattle.node_model.specs.declared.stage.Stage.{Stage}
use Rattle.node_model.specs.declared.stage.Stage.TheVariants.{AtPrompt, Trying, Failed, Connected}
use Rattle.node_model.specs.declared.user.User.{User}
use Rattle.node_model.specs.declared.user.User.TheVariants.{AtEnd, AtLink}
use Rattle.node_model.specs.Asking as asking
use Rattle.node_model.specs.Bridging as bridging
use Rattle.node_model.specs.Links as links
use Rattle.node_model.specs.Pumping.{at_router, pump}
use Rattle.node_model.specs.Asking.{view}
use Rattle.node_prompt.specs.Commands as commands
use Rattle.node_prompt.specs.Replies as texts
use Rattle.node_prompt.specs.declared.command.Command.TheVariants as command
use Rattle.node_model.specs.Serving as serving
use Rattle.node_model.specs.Sessions as sessions
use Rattle.node_model.specs.Sessions.{Session}
use Rattle.node_model.specs.States.{State, next_hop}
use Rattle.node_model.specs.Turns.{Turn, or_else}
use Rattle.node_model.specs.Users as users
use Rattle.node_model.specs.Users.{at_session, session_at}
use Rattle.text_lines.proofs.UserLines.{behind_most, without_lf_most}
use Rattle.node_model.proofs.Texting.{closed_most}
use Rattle.node_model.proofs.Resting.{pumped_nothing}
use Rattle.node_model.proofs.Working.{greeted_same}
use Rattle.node_model.proofs.Lowering.{changed_to, Adds, itself, session_adds, connects_less, Lowers, idles, either}
use Rattle.node_model.proofs.Lowering as lowering
use Rattle.node_model.proofs.Weights.{session_work, sessions_work, work}

-- pumping it does nothing
abbrev pub IsPumped : ℕ → State → Type 0
IsPumped now n = pump now n ≡ n

-- none leaves more; what was done leaves less, and where nothing was done a node that is pumped stays as it is
pub record Serves (now : ℕ) (n : State) (t : Turn State) : Type 0 where
  pub most : work t.after ≤ work n
  pub less : t.did ≡ true → work t.after < work n
  pub idle : t.did ≡ false → IsPumped now n → t.after ≡ n

-- serving the sessions: it leaves no more, less where any was served, and else all but the sessions as they were, where the node was pumped
pub record ServesAll (n : State) (t : Turn State) : Type 0 where
  pub most : work t.after ≤ work n
  pub less : t.did ≡ true → work t.after < work n
  pub idle : t.did ≡ false → links.pending n.set ≡ 0 → at_router n ≡ 0 → (ss : List Session) × (t.after ≡ record n { sessions = ss })

module _ (offers : OffersLeave) (takes : TakesLower) (less : TellsLess) where
  -- ---- lines

  tried_most : (id : ℕ) (dest : Callsign) (s : Session) → session_work (asking.tries id dest s) ≤ session_work s + 3
  tried_most id dest s = omega arith

  tried : (now nth : ℕ) (dest : Callsign) (r : Result ℕ ConnectRefusal) (n : State) → Adds 3 n (asking.try_by now nth dest r n)
  tried now nth dest (Ok id) n =
      let a : State = at_session nth (asking.tries id dest) n in
      let b : State = users.acts now (sets.Connect dest now) a in
      let x = session_adds 3 nth (asking.tries id dest) n (tried_most id dest) in
      let y = lowering.acted offers takes less now (sets.Connect dest now) a (connects_less dest now a) in
      let z = lowering.said offers takes less now nth (texts.trying (bridging.prompt_of n) dest).items b in
      record { units = omega (arith, x.units, y.units, z.units); sessions = omega (arith, x.sessions, y.sessions, z.sessions) }
  tried now nth dest (Err why) n = let z = lowering.said offers takes less now nth (texts.refused (bridging.prompt_of n) dest (asking.trouble_of why)).items n in record { units = omega (arith, z.units); sessions = omega (arith, z.sessions) }

  user_closed : (o : Option User) (now : ℕ) (n : State) → Adds 0 n (users.close_by o now n)
  user_closed None now n = itself n
  user_closed (Some (AtEnd id)) now n = lowering.closed offers takes less now id n
  user_closed (Some (AtLink peer)) now n =
      let x = closed_most peer now n.links in
      let same = ap (λ xs. length xs) x.waiting in
      record { units = omega (arith, x.payloads, same); sessions = omega arith }

  byes : (now nth : ℕ) (text : List ℕ) (n : State) → Adds 0 n (asking.say_bye now nth text n)
  byes now nth text n =
      let a : State = users.say now nth text n in
      let b : State = at_session nth asking.leaves a in
      let x = lowering.said offers takes less now nth text n in
      let y = session_adds 0 nth asking.leaves a (λ s. omega arith) in
      let z = user_closed (users.present (session_at nth b)) now b in
      record { units = omega (arith, x.units, y.units, z.units); sessions = omega (arith, x.sessions, y.sessions, z.sessions) }

  acting : (now nth : ℕ) (a : Action) (n : State) → Adds 3 n (asking.do_action now nth a n)
  acting now nth (action.Say text) n = let x = lowering.said offers takes less now nth text.items n in record { units = x.units; sessions = omega (arith, x.sessions) }
  acting now nth (action.Show sight) n = let x = lowering.said offers takes less now nth (texts.view_text (bridging.prompt_of n) (view sight n)).items n in record { units = x.units; sessions = omega (arith, x.sessions) }
  acting now nth (action.Bye text) n = let x = byes now nth text.items n in record { units = x.units; sessions = omega (arith, x.sessions) }
  acting now nth (action.Connect dest) n = tried now nth dest (connect_answer (next_hop n) dest n.set.set) n
  acting now nth action.Nothing n = record { units = omega arith; sessions = omega arith }

  behind_less : (text : List ℕ) → 0 < length text → length (asking.behind_line text) < length text
  behind_less [] some = absurd (omega (arith, some))
  behind_less (b ∷ bs) some = by (nat_eq b 13)
    where
      by : (c : Bool) → length (if c then asking.without_lf bs else asking.behind_line bs) < suc (length bs)
      by true = let l = without_lf_most bs in omega (arith, l)
      by false = let l = behind_most bs in omega (arith, l)

  cut_most : (s : Session) → session_work (asking.cut_line s) ≤ session_work s + 0
  cut_most s = omega (arith, behind_most s.rest)

  nothing_asked : commands.command_at [] ≡ Ok command.Nothing
  unfolding commands.command_at
  nothing_asked = refl

  nothing_done : (n : State) → asking.action_for [] n ≡ action.Nothing
  nothing_done n = ap (texts.action_of (bridging.prompt_of n)) nothing_asked

  line_less : (now nth : ℕ) (n : State) (s : Session) → session_at nth n ≡ Some s → 0 < length s.rest → work (asking.do_line now nth n) < work n
  line_less now nth n s e some =
      let m : State = at_session nth asking.cut_line n in
      let a = changed_to asking.cut_line n nth s e in
      let b = behind_less s.rest some in
      let c = acting now nth (asking.action_at (session_at nth n) n) m in
      omega (arith, a, b, c.units, c.sessions)

  -- a line of no bytes asks for nothing
  empty_line : (now nth : ℕ) (n : State) (s : Session) → s.rest ≡ [] → work (asking.do_action now nth (asking.action_for (asking.first_line s.rest) n) (at_session nth asking.cut_line n)) ≤ work n
  empty_line now nth n s e =
      let a = session_adds 0 nth asking.cut_line n cut_most in
      rw (e, nothing_done n) (omega (arith, a.units, a.sessions))

  line_most : (now nth : ℕ) (n : State) → work (asking.do_line now nth n) ≤ work n
  line_most now nth n = by (session_at nth n) refl
    where
      some : (s : Session) → session_at nth n ≡ Some s → (xs : List ℕ) → s.rest ≡ xs → work (asking.do_action now nth (asking.action_for (asking.first_line s.rest) n) (at_session nth asking.cut_line n)) ≤ work n
      some s e [] f = empty_line now nth n s f
      some s e (b ∷ bs) f =
          let bytes = ap (λ (ys : List ℕ). length ys) f in
          let x : work (asking.do_line now nth n) < work n = line_less now nth n s e (omega (arith, bytes)) in
          let y : work (asking.do_action now nth (asking.action_for (asking.first_line s.rest) n) (at_session nth asking.cut_line n)) < work n =
          subst (λ (o : Option Session). work (asking.do_action now nth (asking.action_at o n) (at_session nth asking.cut_line n)) < work n) e x in
          omega (arith, y)

      by : (o : Option Session) → session_at nth n ≡ o → work (asking.do_action now nth (asking.action_at o n) (at_session nth asking.cut_line n)) ≤ work n
      by None e = let a = session_adds 0 nth asking.cut_line n cut_most in omega (arith, a.units, a.sessions)
      by (Some s) e = some s e s.rest refl

  rest_dropped : (nth : ℕ) (n : State) → work (at_session nth bridging.drop_rest n) ≤ work n
  rest_dropped nth n = let a = session_adds 0 nth bridging.drop_rest n (λ s. omega arith) in omega (arith, a.units, a.sessions)

  some_dropped : (nth : ℕ) (n : State) (s : Session) → session_at nth n ≡ Some s → 0 < length s.rest → work (at_session nth bridging.drop_rest n) < work n
  some_dropped nth n s e some = let a = changed_to bridging.drop_rest n nth s e in omega (arith, a, some)

  lined : (now nth : ℕ) (n : State) → Lowers n (asking.take_line now nth n)
  lined now nth n =
      either n _ _ (asking.is_deaf_at (session_at nth n) n)
      (λ e. lowering.then_less offers takes less now nth n (at_session nth bridging.drop_rest) (rest_dropped nth) (some_dropped nth))
      (λ e. either n _ _ (asking.has_room_at (session_at nth n) n) (λ f. lowering.then_less offers takes less now nth n (asking.do_line now nth) (line_most now nth) (line_less now nth)) (λ f. idles n))

  -- ---- a session is served

  up_at : (stage : Stage) (now nth : ℕ) (n : State) → Lowers n (serving.take_up_at stage now nth n)
  up_at AtPrompt now nth n = lined now nth n
  up_at (Trying c) now nth n = idles n
  up_at (Failed c) now nth n = idles n
  up_at (Connected c) now nth n = lowering.text_written offers takes less now nth c n

  pub taken_up : (o : Option Stage) (now nth : ℕ) (n : State) → Lowers n (serving.take_up_by o now nth n)
  taken_up None now nth n = idles n
  taken_up (Some stage) now nth n = up_at stage now nth n

  first_of : (first next : State → Turn State) (n : State) → Lowers n (first n) → ((m : State) → Lowers m (next m)) → Lowers n (or_else first next n)
  first_of first next n x y = by (first n).did refl
    where
      by : (b : Bool) → (first n).did ≡ b → Lowers n (if b then first n else next (first n).after)
      by true e = x
      by false e = subst (λ (m : State). Lowers n (next m)) (sym (x.idle e)) (y n)

  served_once : (now nth : ℕ) (n : State) → Lowers n (serving.serve_once now nth n)
  served_once now nth n =
      first_of (bridging.give_reply now nth) (or_else (bridging.give_message now nth) (or_else (serving.take_up now nth) (bridging.close_circuit now nth))) n (lowering.replied offers takes less now nth n (session_at nth n) refl)
      (λ a. first_of (bridging.give_message now nth) (or_else (serving.take_up now nth) (bridging.close_circuit now nth)) a (lowering.given offers takes less now nth a (bridging.giving_circuit (session_at nth a) a))
      (λ b. first_of (serving.take_up now nth) (bridging.close_circuit now nth) b (taken_up (serving.stage_of (session_at nth b)) now nth b) (λ m. lowering.closes offers takes less now nth m (session_at nth m) refl)))

  -- ---- all of them

  pub served : (now nth : ℕ) (n : State) → Serves now n (serving.serve now nth n)
  served now nth n =
      let t : Turn State = serving.serve_once now nth n in
      let x = served_once now nth n in
      let y = lowering.pumped offers takes less now t.after in
      record { most = by t.did refl; less = λ e. let z = x.less e in omega (arith, z, y.units, y.sessions); idle = λ e f. ap (pump now) (x.idle e) ∙ f }
    where
      by : (b : Bool) → (serving.serve_once now nth n).did ≡ b → work (pump now (serving.serve_once now nth n).after) ≤ work n
      by true e = let z = (served_once now nth n).less e in let y = lowering.pumped offers takes less now (serving.serve_once now nth n).after in omega (arith, z, y.units, y.sessions)
      by false e =
          let same = ap work ((served_once now nth n).idle e) in
          let y = lowering.pumped offers takes less now (serving.serve_once now nth n).after in
          omega (arith, same, y.units, y.sessions)

  none_of : (a b : Bool) → (a || b) ≡ false → (a ≡ false) × (b ≡ false)
  none_of true b e = absurd (cc e)
  none_of false b e = (refl, e)

  one_of : (a b : Bool) → (a || b) ≡ true → (a ≡ true) ⊎ (b ≡ true)
  one_of true b e = inl refl
  one_of false b e = inr e

  pub served_each : (now nth k : ℕ) (n : State) → Serves now n (serving.serve_each now nth k n)
  served_each now nth zero n = record { most = omega arith; less = λ e. absurd (cc e); idle = λ e f. refl }
  served_each now nth (suc k) n =
      let t : Turn State = serving.serve now nth n in
      let u : Turn State = serving.serve_each now (suc nth) k t.after in
      let x = served now nth n in
      let y = served_each now (suc nth) k t.after in
      record {
        most = omega (arith, x.most, y.most);
        less = λ e. some t u x y (one_of t.did u.did e);
        idle = λ e f. let a = none_of t.did u.did e in let same = x.idle a.0 f in y.idle a.1 (subst (IsPumped now) (sym same) f) ∙ same;
      }
    where
      some : (t u : Turn State) → Serves now n t → Serves now t.after u → (t.did ≡ true) ⊎ (u.did ≡ true) → work u.after < work n
      some t u x y (inl e) = let a = x.less e in omega (arith, a, y.most)
      some t u x y (inr e) = let a = y.less e in omega (arith, a, x.most)

  kept_most : (test : Session → Bool) (ss : List Session) → sessions_work (filter test ss) ≤ sessions_work ss
  kept_most test [] = omega arith
  kept_most test (s ∷ ss) = by (test s) (kept_most test ss)
    where
      by : (b : Bool) → sessions_work (filter test ss) ≤ sessions_work ss → sessions_work (if b then s ∷ filter test ss else filter test ss) ≤ session_work s + sessions_work ss
      by true few = omega (arith, few)
      by false few = omega (arith, few)

  greets : (b : Bool) (peers : List Callsign) (ss : List Session) → sessions_work (serving.greet_each b peers ss) ≡ sessions_work ss
  greets b [] ss = refl
  greets b (peer ∷ peers) ss = greets b peers (serving.greet_link b peer ss) ∙ by (serving.is_served_link peer ss)
    where
      by : (c : Bool) → sessions_work (if c then ss else sessions.greet b (AtLink peer) ss) ≡ sessions_work ss
      by true = refl
      by false = greeted_same b (AtLink peer) ss

  -- two nodes of which pumping does as little
  pub pumps_alike : (now : ℕ) (n : State) (ss : List Session) → links.pending n.set ≡ 0 → at_router n ≡ 0 → IsPumped now (record n { sessions = ss })
  pumps_alike now n ss e f = pumped_nothing offers takes less now (record n { sessions = ss }) (rw e refl) f

  pub sessions_served : (now : ℕ) (n : State) → ServesAll n (serving.serve_sessions now n)
  unfolding serving.serve_sessions
  sessions_served now n =
      let m : State = serving.greet_links n in
      let t : Turn State = serving.serve_all now m in
      let same = greets n.settings.prompt (links.text_peers n.links) n.sessions in
      let x = served_each now 0 (length m.sessions) m in
      let few = kept_most (λ s. not (serving.is_over t.after s)) t.after.sessions in
      record {
        most = omega (arith, same, x.most, few);
        less = λ e. let y = x.less e in omega (arith, same, y, few);
        idle = λ e f g. let y = x.idle e (pumps_alike now n m.sessions f g) in (filter (λ s. not (serving.is_over t.after s)) t.after.sessions, ap (λ (u : State). record u { sessions = filter (λ s. not (serving.is_over t.after s)) t.after.sessions }) y);
      }
