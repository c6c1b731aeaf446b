-- Doing what the lines at the prompt ask for keeps a node fine.
use Rattle.std.proofs.Common.{◌≡◌, ◌≤◌, ◌<◌, ◌+◌, ◌∙◌, ℕ, refl, sym, ap, subst, arith, length, List, [], ◌∷◌, slice_get}
use Rattle.std.specs.Prelude.{Bool, true, false, nat_eq, if◌then◌else◌, Option, Some, None}
use Rattle.std.proofs.lemmas.Bool.Decides.{nat_tests}
use Rattle.std.proofs.Math.Bool.{and-false}
use Rattle.ax_address.specs.Callsign.{ReadsCallTexts}
use Rattle.circuit_table.specs.Pumps.{connect_answer}
use Rattle.node_prompt.specs.Replies as texts
use Rattle.node_prompt.specs.declared.action.Action.{Action}
use Rattle.node_prompt.specs.declared.action.Action.TheVariants as action
use Rattle.node_model.specs.declared.reply.Reply.{Reply}
use Rattle.node_model.specs.declared.stage.Stage.{Stage}
use Rattle.node_model.specs.declared.stage.Stage.TheVariants.{AtPrompt, Trying, Failed, Connected}
use Rattle.node_model.specs.declared.user.User.{User}
use Rattle.node_model.specs.declared.user.User.TheVariants.{AtEnd, AtLink}
use Rattle.node_model.specs.Asking as asking
use Rattle.node_model.specs.Bridging as bridging
use Rattle.node_model.specs.Pumping.{at_router}
use Rattle.node_model.specs.Serving as serving
use Rattle.node_model.specs.Serving.{is_at_end}
use Rattle.node_model.specs.Sessions.{Bridge, Session}
use Rattle.node_model.specs.States.{State, next_hop}
use Rattle.node_model.specs.Turns.{Turn, done, idle}
use Rattle.node_model.specs.Users as users
use Rattle.node_model.specs.Users.{at_session, session_at}
use Rattle.node_model.specs.Asking.{view}
use Rattle.text_lines.proofs.UserLines.{behind_most}
use Rattle.node_core.proofs.Fine.{Fine, close_fine, placed_said, said, session_fine}
use Rattle.node_core.proofs.Given.{Given, given_bye, given_cut, given_dropped}
use Rattle.node_core.proofs.Served.{IsNamed, at_named}
use Rattle.node_core.proofs.Soundness.{Idle, Placed, changed_here, idle_hears, sound_at_prompt}
use Rattle.node_core.proofs.Trying.{tried}
use Rattle.node_core.proofs.Owning.{Less, mades, opens_by, owned_by, total}
use Rattle.node_core.proofs.FineGiving.{less_same, shut_end}
use Rattle.node_core.proofs.Wrote.{written_same}
use Rattle.node_core.proofs.FineTexts.{Next, TextsFit, same_session, next, text_written}

-- ---- lines

idle_text : (text : List ℕ) (y : Session) → Idle y → Idle (users.with_text text y)
idle_text text y i = record { stage = i.stage; replies = i.replies }

none_waits : (y : Session) → Idle y → length y.replies ≤ 2
none_waits y i = let same = ap (λ (rs : List Reply). length rs) i.replies in omega (arith, same)

-- at the prompt what is left of a text may be cut
at_prompt_fine : (nth : ℕ) (step : Session → Session) (m : State) (y : Session) → Fine m → session_at nth m ≡ Some y → Idle y
    → ((z : Session) → (step z).stage ≡ z.stage) → ((z : Session) → (step z).replies ≡ z.replies) → ((z : Session) → length (step z).rest ≤ length z.rest)
    → ((z : Session) → Given m.set.set z → Given m.set.set (step z)) → ((z : Session) → (step z).bridge ≡ z.bridge) → ((z : Session) → Less z (step z)) → Fine (at_session nth step m)
at_prompt_fine nth step m y f e i stages replies shorter given bridges less =
    session_fine nth step m (λ z k s.
    let same = same_session nth m y z e k in
    let at : z.stage ≡ AtPrompt = subst (λ (w : Session). w.stage ≡ AtPrompt) same i.stage in
    let none = subst Idle same i in
    let few = none_waits z none in
    let here = ap (λ (rs : List Reply). length rs) (replies z) in
    sound_at_prompt (step z) (stages z ∙ at) (omega (arith, shorter z, s.rest)) (omega (arith, here, few))) (λ z k g. given z g) (λ z w. written_same m.set.set z (step z) (stages z) (ap (λ (b : Bridge). b.wrote) (bridges z)) (ap (λ (b : Bridge). b.got) (bridges z)) w) less f

bye_less : (x : Session) → Less x (asking.leaves x)
bye_less x = record {
  owned = λ id. omega arith;
  opens = λ id. let none = and-false (is_at_end id x.user) in rw none (omega arith);
  asked = λ id. omega arith;
}

-- the last text is said, and the user's side is closed
said_bye : (now nth : ℕ) (text : List ℕ) (m : State) (y : Session) → Fine m → session_at nth m ≡ Some y → Idle y → Fine (asking.say_bye now nth text m)
said_bye now nth text m y f e i = subst (λ (o : Option Session). Fine (users.close_by (users.present o) now left)) (sym at_left) (present z.left)
  where
    told : State
    told = users.say now nth text m

    p : Placed Idle nth told.sessions
    p = placed_said Idle idle_hears now nth nth text m (record { x = y; is = e; holds = i })

    left : State
    left = at_session nth asking.leaves told

    z : Session
    z = asking.leaves p.x

    at_left : session_at nth left ≡ Some z
    at_left = changed_here asking.leaves told.sessions nth p.x p.is

    fine : Fine left
    fine = at_prompt_fine nth asking.leaves told p.x (said now nth text m f) p.is p.holds (λ w. refl) (λ w. refl) (λ w. omega arith) (given_bye told.set.set) (λ w. refl) bye_less

    shut : (u : ℕ) → z.user ≡ AtEnd u → total (opens_by u) left.sessions + mades u left.set.untold ≡ 0
    shut u g =
        let self : nat_eq u u ≡ true = grind (arith, nat_tests) in
        let none : opens_by u z ≡ 0 = rw (p.holds.stage, and-false (is_at_end u z.user)) refl in
        let some : 0 < owned_by u z = rw (g, self) (omega arith) in
        shut_end u left nth z fine at_left none some

    side : (w : User) → z.user ≡ w → Fine (users.close_side w now left)
    side (AtEnd u) g = close_fine now u left (shut u g) fine
    side (AtLink peer) g = fine

    present : (b : Bool) → Fine (users.close_by (if b then None else Some z.user) now left)
    present true = fine
    present false = side z.user refl

acting : (now nth : ℕ) (a : Action) (m : State) (y : Session) → IsNamed a → Fine m → session_at nth m ≡ Some y → Idle y → Fine (asking.do_action now nth a m)
acting now nth (action.Say text) m y named f e i = said now nth text.items m f
acting now nth (action.Show sight) m y named f e i = said now nth (texts.view_text (bridging.prompt_of m) (view sight m)).items m f
acting now nth (action.Bye text) m y named f e i = said_bye now nth text.items m y f e i
acting now nth (action.Connect dest) m y named f e i = tried now nth dest (connect_answer (next_hop m) dest m.set.set) m y named refl f e i
acting now nth action.Nothing m y named f e i = f

line_done : ReadsCallTexts → (now nth : ℕ) (m : State) (y : Session) → Fine m → session_at nth m ≡ Some y → Idle y → Fine (asking.do_line now nth m)
line_done reads now nth m y f e i =
    let cut : State = at_session nth asking.cut_line m in
    let fine = at_prompt_fine nth asking.cut_line m y f e i (λ z. refl) (λ z. refl) (λ z. behind_most z.rest) (given_cut m.set.set) (λ z. refl) (λ z. less_same z (asking.cut_line z) refl refl refl) in
    acting now nth (asking.action_at (session_at nth m) m) cut (asking.cut_line y) (at_named reads (session_at nth m) m) fine (changed_here asking.cut_line m.sessions nth y e) (record { stage = i.stage; replies = i.replies })

-- what is done with the next text of a user at the prompt
if_text : (now nth : ℕ) (n : State) (x : Session) (step : State → State) → Fine n → TextsFit n.links → at_router n ≡ 0 → session_at nth n ≡ Some x → Idle x
    → ((m : State) (y : Session) → Fine m → session_at nth m ≡ Some y → Idle y → Fine (step m)) → Fine (asking.if_text (bridging.next_text now nth n) step).after
if_text now nth n x step f fits router e i does = by t.did refl
  where
    t : Turn State
    t = bridging.next_text now nth n

    k : Next nth Idle n x t
    k = next Idle idle_hears idle_text now nth n x f fits router e i

    by : (b : Bool) → t.did ≡ b → Fine (if b then done (step t.after) else idle t.after).after
    by false d = k.fine
    by true d = let y = k.some d in does t.after y.0 k.fine y.1 y.3

first_none : (rs : List Reply) → slice_get rs 0 ≡ None → rs ≡ []
first_none [] e = refl
first_none (r ∷ rs) e = absurd (cc e)

-- no reply waits where it could be given
none_given : (x : Session) (n : State) → bridging.next_reply (Some x) n ≡ None → users.can_give x n ≡ true → x.replies ≡ []
none_given x n e g = first_none x.replies (sym (ap (λ (b : Bool). if b then slice_get x.replies 0 else None) g) ∙ e)

lined : ReadsCallTexts → (now nth : ℕ) (n : State) (x : Session) → Fine n → TextsFit n.links → at_router n ≡ 0 → session_at nth n ≡ Some x → x.stage ≡ AtPrompt → bridging.next_reply (Some x) n ≡ None → Fine (asking.take_line now nth n).after
lined reads now nth n x f fits router e g none =
    subst (λ (o : Option Session). Fine (if asking.is_deaf_at o n then asking.drop_text_of now nth n else (if asking.has_room_at o n then asking.do_next_line now nth n else idle n)).after) (sym e)
    (by (users.is_deaf x n) (users.has_room x n) refl refl)
  where
    dropped : (m : State) (y : Session) → Fine m → session_at nth m ≡ Some y → Idle y → Fine (at_session nth bridging.drop_rest m)
    dropped m y h k i = at_prompt_fine nth bridging.drop_rest m y h k i (λ z. refl) (λ z. refl) (λ z. omega arith) (given_dropped m.set.set) (λ z. refl) (λ z. less_same z (bridging.drop_rest z) refl refl refl)

    by : (a b : Bool) → users.is_deaf x n ≡ a → users.has_room x n ≡ b → Fine (if a then asking.drop_text_of now nth n else (if b then asking.do_next_line now nth n else idle n)).after
    by true b d r =
        let gives : users.can_give x n ≡ true = rw d refl in
        if_text now nth n x (at_session nth bridging.drop_rest) f fits router e (record { stage = g; replies = none_given x n none gives }) dropped
    by false true d r =
        let gives : users.can_give x n ≡ true = rw (d, r) refl in
        if_text now nth n x (asking.do_line now nth) f fits router e (record { stage = g; replies = none_given x n none gives }) (line_done reads now nth)
    by false false d r = f

pub taken_up : ReadsCallTexts → (now nth : ℕ) (n : State) → Fine n → TextsFit n.links → at_router n ≡ 0 → bridging.next_reply (session_at nth n) n ≡ None → (o : Option Session) → session_at nth n ≡ o → Fine (serving.take_up_by (serving.stage_of o) now nth n).after
taken_up reads now nth n f fits router none None e = f
taken_up reads now nth n f fits router none (Some x) e = by x.stage refl
  where
    here : bridging.next_reply (Some x) n ≡ None
    here = subst (λ (o : Option Session). bridging.next_reply o n ≡ None) e none

    by : (stage : Stage) → x.stage ≡ stage → Fine (serving.take_up_at stage now nth n).after
    by AtPrompt g = lined reads now nth n x f fits router e g here
    by (Trying c) g = f
    by (Failed c) g = f
    by (Connected c) g = text_written now nth c n x f fits router e g
