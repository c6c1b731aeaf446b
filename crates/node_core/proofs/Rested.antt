-- A node comes to rest after each input, and in one state alone.
use Rattle.std.proofs.Common.{◌≡◌, ◌∙◌, ℕ, refl, ap, subst, arith, length, sym, List, [], ◌∷◌}
use Rattle.std.specs.List.{AllByRecursion}
use Rattle.std.specs.Prelude.{Bool, true, false, ◌||◌, if◌then◌else◌}
use Rattle.circuit_table.specs.Pumps.{TellsLess}
use Rattle.link_table.specs.Kept.{OffersLeave, TakesLower}
use Rattle.node_model.specs.Links as links
use Rattle.node_core.specs.Inputs.{after_input, turns_settle}
use Rattle.node_core.specs.Laws.{InputsSettle, NothingLeft, NothingLeftAfterInputs, SettlesAs}
use Rattle.node_model.specs.Pumping as p
use Rattle.node_model.specs.Serving as serving
use Rattle.node_model.specs.Sessions.{Session}
use Rattle.node_model.specs.States.{State}
use Rattle.node_model.specs.Turns.{SettlesTo, Turn, idle}
use Rattle.node_core.specs.Waits.{WaitsForRoom}
use Rattle.node_model.proofs.Falling.{sessions_served}
use Rattle.node_model.proofs.Resting.{drop_falls, dropped_none, pumped_dry}
use Rattle.node_model.proofs.Settled.{users_served, hosted_idle}
use Rattle.node_model.proofs.Telling.{tells_to}
use Rattle.node_model.proofs.Turns.{once, settle_to, settled_rests}
use Rattle.node_core.proofs.Waiting.{sessions_rest}

module _ (offers : OffersLeave) (takes : TakesLower) (less : TellsLess) where
  no_list : {A : Type 0} (xs : List A) → length xs ≡ 0 → xs ≡ []
  no_list [] e = refl
  no_list (x ∷ xs) e = absurd (omega (arith, e))

  last_false : (a b c : Bool) → ((a || b) || c) ≡ false → c ≡ false
  last_false true b c e = absurd (cc e)
  last_false false true c e = absurd (cc e)
  last_false false false c e = e

  record Rested (now : ℕ) (n : State) : Type 0 where
    served : serving.serve_users now n ≡ idle n
    greeted : n.settings.prompt ≡ true → AllByRecursion (λ peer. serving.is_served_link peer n.sessions ≡ true) (links.text_peers n.links)
    sessions : n.settings.prompt ≡ true → AllByRecursion (WaitsForRoom n) n.sessions

  sessions_prompt : (now : ℕ) (m n : State) (ss : List Session) → n ≡ record m { sessions = ss } → n.settings.prompt ≡ m.settings.prompt
  sessions_prompt now m n ss e = ap (λ (x : State). x.settings.prompt) e

  -- when the users were served and nothing could be done
  rested : (now : ℕ) (m : State) → links.pending m.set ≡ 0 → p.at_router m ≡ 0 → (b : Bool) → m.settings.prompt ≡ b
      → (if b then serving.serve_sessions now m else serving.drop_turn now m).did ≡ false → Rested now (if b then serving.serve_sessions now m else serving.drop_turn now m).after
  rested now m told router true prompt e =
      let r = sessions_rest offers takes less now m prompt told router e in
      let y = (sessions_served offers takes less now m).idle e told router in
      let n : State = (serving.serve_sessions now m).after in
      let still : n.settings.prompt ≡ true = sessions_prompt now m n y.0 y.1 ∙ prompt in
      record {
        served = ap (λ (b : Bool). if b then serving.serve_sessions now n else serving.drop_turn now n) still ∙ r.served;
        greeted = λ on. r.greeted;
        sessions = λ on. r.sessions;
      }
  rested now m told router false prompt e =
      let same : serving.drop_texts now m ≡ m = dropped_none offers takes less now m e in
      let none : serving.drop_turn now m ≡ idle m = rw (e, same) refl in
      let at : Rested now m =
      record {
        served = ap (λ (b : Bool). if b then serving.serve_sessions now m else serving.drop_turn now m) prompt ∙ none;
        greeted = λ on. absurd (cc (on, prompt));
        sessions = λ on. absurd (cc (on, prompt));
      } in
      subst (Rested now) (sym same) at

  -- after an input nothing is left to be done
  pub nothing_left : (now : ℕ) (n : State) → NothingLeft now (after_input now n)
  unfolding after_input
  nothing_left now n =
      let r = settled_rests (serving.turn now) (turns_settle now) n in
      let m : State = p.pump now (serving.enter_notices r.last) in
      let dry = pumped_dry offers takes less now (serving.enter_notices r.last) in
      let none : (serving.serve_users now m).did ≡ false =
      last_false (serving.has_some r.last.links.pending.notices) (serving.has_told (serving.enter_notices r.last) m) (serving.serve_users now m).did r.nothing in
      let y = (users_served offers takes less now m).idle none dry.pending dry.router in
      let is = r.is ∙ y.1 in
      let rest = subst (Rested now) (sym r.is) (rested now m dry.pending dry.router m.settings.prompt refl none) in
      record {
        notices = ap (λ (x : State). x.links.pending.notices) is ∙ dry.notices;
        pending = ap (λ (x : State). p.pending x) is ∙ dry.pending;
        lost = ap (λ (x : State). x.links.pending.lost) is ∙ no_list (m.links.pending.lost) (omega (arith, dry.router));
        waiting = ap (λ (x : State). x.links.pending.waiting) is ∙ no_list (m.links.pending.waiting) (omega (arith, dry.router));
        served = rest.served;
        greeted = rest.greeted;
        sessions = rest.sessions;
      }

  pub nothing_is_left : NothingLeftAfterInputs
  nothing_is_left now n = nothing_left now n

  -- ---- where turns settle, they do so once

  settles_as : (turn : State → Turn State) (settled : State → State) → ((n : State) → SettlesTo turn n (settled n)) → SettlesAs turn settled
  settles_as turn settled settles n m = (λ e. subst (SettlesTo turn n) e (settles n), λ to. once (settles n) to)

  inputs_at : (now : ℕ) → SettlesAs (serving.turn now) (after_input now)
  unfolding after_input
  inputs_at now = settles_as (serving.turn now) (after_input now) (λ n. (turns_settle now n).settles)

  pub inputs_settle : InputsSettle
  inputs_settle = record {
    inputs = inputs_at;
    tells = λ now. settles_as (p.tell_turn now) (p.tell_all now) (tells_to now);
    drops = λ now. settles_as (serving.drop_text now) (serving.drop_texts now) (settle_to (serving.drop_text now) serving.payloads (drop_falls offers takes less now));
    hosts = λ now n unserved hosted. hosted_idle offers takes less now n unserved hosted;
  }
