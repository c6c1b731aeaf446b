-- Taking the next text of a user, and writing it to the circuit, keeps a node fine.
use Rattle.std.proofs.Common.{◌≡◌, ◌≤◌, ◌<◌, ◌∙◌, ◌⊎◌, inl, inr, ℕ, refl, sym, ap, subst, arith, take, length, length-take, slice_get, List, []}
use Rattle.std.specs.Prelude.{Bool, true, false, not, ◌&&◌, is_none, nat_eq, nat_lt, if◌then◌else◌, Option, Some, None, Result, Ok, Err}
use Rattle.std.proofs.lemmas.Bool.Decides.{nat_tests}
use Rattle.std.proofs.lemmas.Bool.{ne_eqb}
use Rattle.ax_address.specs.Callsign.{Callsign}
use Rattle.circuit_table.specs.CircuitSets.{facts_at}
use Rattle.circuit_table.specs.Sets as sets
use Rattle.circuit_l4.specs.Opening.{facts_of}
use Rattle.circuit_l4.specs.State.{inbox}
use Rattle.circuit_table.specs.Sets.{Holder, SetState, end_of}
use Rattle.circuit_table.specs.Standing as answers
use Rattle.link_table.specs.Table.{Table}
use Rattle.circuit_l4.specs.declared.notice.EndNotice.{EndNotice}
use Rattle.circuit_l4.specs.declared.refusal.WriteRefusal.TheVariants as refusal
use Rattle.circuit_table.specs.declared.refusal.SetRefusal.{SetRefusal}
use Rattle.circuit_table.specs.declared.refusal.SetRefusal.TheVariants as set_refusal
use Rattle.node_model.specs.declared.stage.Stage.{Stage}
use Rattle.node_model.specs.declared.stage.Stage.TheVariants.{AtPrompt, Connected}
use Rattle.node_model.specs.declared.circuit.Circuit.{Circuit}
use Rattle.node_model.specs.declared.user.User.{User}
use Rattle.node_model.specs.declared.user.User.TheVariants.{AtEnd, AtLink}
use Rattle.node_model.specs.Bridging as bridging
use Rattle.node_model.specs.Links as links
use Rattle.node_model.specs.Pumping.{at_router, pump}
use Rattle.node_model.specs.Sessions as s
use Rattle.node_model.specs.Sessions.{Bridge, Session, circuit_of}
use Rattle.node_model.specs.States.{State, at_links, at_set}
use Rattle.node_model.specs.Turns.{Turn, done, idle}
use Rattle.node_model.specs.Users as users
use Rattle.node_model.specs.Users.{Outcome, Taken, Exhausts, Unheard, Refused, at_session, session_at}
use Rattle.node_core.proofs.Bytes.{text_has_bytes}
use Rattle.node_core.proofs.Fine.{Dry, Fine, fewer_at, pumped, pumped_dry, session_fine, takes_fine, took_message, write_goes}
use Rattle.node_core.proofs.Holders.{Any, AreOpen, others_stay, takes_keep, writes_keep}
use Rattle.node_core.proofs.Making.{step_ok}
use Rattle.node_core.proofs.Pumped.{pump_keeps}
use Rattle.node_core.proofs.Others.{OthersNot, alone, only, others_changed, others_hear}
use Rattle.node_core.proofs.Wrote.{Written, its_written, written_same}
use Rattle.node_core.proofs.Given.{Given, IsDone, Unclosed, away, given_later, given_text, given_wrote}
use Rattle.node_core.proofs.Soundness.{Every, Hears, Same, Sound, changed_every, changed_here, every_at, same_hears, same_itself, sound_text, sound_wrote}
use Rattle.node_core.proofs.Owning.{opens_by, owns_fewer, owns_input}
use Rattle.node_core.proofs.FineGiving.{less_same, ends_differ, open_end, closing_of, messages_of, not_and}
use Rattle.node_core.proofs.Leaving.{calls_leaves}

-- ---- texts of the user

-- the next text of a session's user, if there is one
pub record Next (nth : ℕ) (P : Session → Type 0) (n : State) (x : Session) (t : Turn State) : Type 0 where
  pub fine : Fine t.after
  pub some : t.did ≡ true → (y : Session) × (session_at nth t.after ≡ Some y) × (1 ≤ length y.rest) × P y
  pub ends : (id : ℕ) → ((u : ℕ) → x.user ≡ AtEnd u → u ≡ id → ⊥) → users.end_at id t.after ≡ users.end_at id n
  pub unshut : (id : ℕ) → AreOpen id n.set.set.ends → AreOpen id t.after.set.set.ends
  pub others : (id : ℕ) → OthersNot id nth n.sessions → OthersNot id nth t.after.sessions

no_next : (nth : ℕ) (P : Session → Type 0) (n : State) (x : Session) → Fine n → Next nth P n x (idle n)
no_next nth P n x f = record { fine = f; some = λ d. absurd (cc d); ends = λ id d. refl; unshut = λ id o. o; others = λ id o. o }

pub same_session : (nth : ℕ) (n : State) (x y : Session) → session_at nth n ≡ Some x → session_at nth n ≡ Some y → x ≡ y
same_session nth n x y e g = let same : Some x ≡ Some y = sym e ∙ g in cc same

-- no text that waits at a link is longer than 8,192 bytes
abbrev pub TextsFit : Table → Type 0
TextsFit t = (peer : Callsign) → links.has_text peer t ≡ true → length (links.text_with peer t) ≤ 8192

-- one whose user's text is taken hasn't closed its circuit
took_held : (o : Option Holder) → users.has_taken (answers.take_answer o) ≡ true → is_none (facts_at o) ≡ true → ⊥
took_held None e f = absurd (cc e)
took_held (Some h) e f = by h.gone e f
  where
    by : (b : Bool) → users.has_taken (if b then Err (record {}) else Ok (nat_lt 0 (length (inbox h.end.receiving)))) ≡ true → is_none (if b then None else Some (facts_of h.end)) ≡ true → ⊥
    by true g k = absurd (cc g)
    by false g k = absurd (cc k)

still_open : (nth : ℕ) (n : State) (x y : Session) → Fine n → session_at nth n ≡ Some x → session_at nth n ≡ Some y → (IsDone n.set.set x → ⊥) → Unclosed y
still_open nth n x y f e k undone c h closed =
    let same = same_session nth n x y e k in
    let g = every_at (Given n.set.set) n.sessions nth y f.1.1.0 k in
    undone (subst (IsDone n.set.set) (sym same) (g.closed c h closed))

some_taken : (text : List ℕ) → 1 ≤ length text → 1 ≤ length (take 8192 text)
some_taken text some = let l = length-take 8192 text in grind (arith, l)

module _ (P : Session → Type 0) (hears : Hears P) (texts_leave : (text : List ℕ) (y : Session) → P y → P (users.with_text text y)) where
  end_next : (now nth u : ℕ) (n : State) (x : Session) → Fine n → at_router n ≡ 0 → session_at nth n ≡ Some x → x.user ≡ AtEnd u → length x.rest ≤ 0 → P x
      → Next nth P n x (users.take_from_end now nth u n)
  unfolding links.acts
  end_next now nth u n x f router e at none p = by (users.has_taken (answers.take_answer (users.end_at u n))) refl
    where
      text : List ℕ
      text = answers.message_at [] (users.end_at u n)

      took : State
      took = at_set (links.acts (sets.Calls u sets.Takes now)) n

      begun : State
      begun = at_session nth (users.with_text text) took

      at_begun : session_at nth begun ≡ Some (users.with_text text x)
      at_begun = changed_here (users.with_text text) n.sessions nth x e

      z : Session
      z = users.with_text text x

      dry : Dry (Same z) nth begun (pump now begun)
      dry = pumped_dry (Same z) (same_hears z) now nth begun router (record { x = z; is = at_begun; holds = same_itself z })

      held : Dry P nth begun (pump now begun)
      held = pumped_dry P hears now nth begun router (record { x = z; is = at_begun; holds = texts_leave text x p })

      by : (b : Bool) → users.has_taken (answers.take_answer (users.end_at u n)) ≡ b → Next nth P n x (users.take_if b (pump now begun) n)
      by false t = no_next nth P n x f
      by true t =
          let is = took_message (users.end_at u n) t (messages_of u n f) in
          let same = same_session nth (pump now begun) held.placed.x dry.placed.x held.placed.is dry.placed.is in
          let rest : held.placed.x.rest ≡ take 8192 text = ap (λ (y : Session). y.rest) same ∙ dry.placed.holds.rest in
          let bytes = some_taken text is.0 in
          record {
            fine =
                pumped now begun
                (session_fine nth (users.with_text text) took (λ y k s. sound_text text y is.0 is.1 (subst (λ (w : Session). length w.rest ≤ 0) (same_session nth n x y e k) none) s)
                (λ y k g. given_text took.set.set text y (still_open nth n x y f e k (λ d. took_held (users.end_at u n) t (subst (λ (w : User). away w x.left n.set.set ≡ true) at d.1))) g) (λ y w. written_same took.set.set y (users.with_text text y) refl refl refl w) (λ y. less_same y (users.with_text text y) refl refl refl) (takes_fine now u n (alone n.set.set n.set.untold n.sessions nth u x f.0 e at) f));
            some = λ d. (held.placed.x, held.placed.is, rw rest bytes, held.placed.holds);
            ends = λ id differ. ap (λ (set : SetState). end_of id set.ends) dry.set ∙ others_stay n.set.set id u sets.Takes now (ne_eqb u id (differ u at));
            unshut = λ id o. rw dry.set ((takes_keep n.set.set now u).unshut id tt o);
            others = λ id o.
                pump_keeps (λ set ts ss. OthersNot id nth ss) (λ prompt set t ts ss a. others_hear id nth prompt t ss a) (λ set ts ss d now a. a) now begun
                (others_changed id nth (users.with_text text) n.sessions (slice_get n.sessions nth) o);
          }

  link_next : (now nth : ℕ) (peer : Callsign) (n : State) (x : Session) → Fine n → TextsFit n.links → session_at nth n ≡ Some x → x.user ≡ AtLink peer → x.left ≡ false → length x.rest ≤ 0 → P x
      → Next nth P n x (users.take_from_link now nth peer n)
  link_next now nth peer n x f fits e at present none p = by (links.has_text peer n.links) refl
    where
      text : List ℕ
      text = links.text_with peer n.links

      took : State
      took = at_links (links.take_text peer now) n

      by : (b : Bool) → links.has_text peer n.links ≡ b → Next nth P n x (users.take_if b (at_session nth (users.with_text text) took) n)
      by false t = no_next nth P n x f
      by true t =
          let bytes = text_has_bytes peer n.links t in
          record {
            fine =
                session_fine nth (users.with_text text) took (λ y k s. sound_text text y bytes (fits peer t) (subst (λ (w : Session). length w.rest ≤ 0) (same_session nth n x y e k) none) s)
                (λ y k g. given_text took.set.set text y (still_open nth n x y f e k (λ d. absurd (cc (sym present ∙ subst (λ (w : User). away w x.left n.set.set ≡ true) at d.1)))) g) (λ y w. written_same took.set.set y (users.with_text text y) refl refl refl w) (λ y. less_same y (users.with_text text y) refl refl refl) f;
            some = λ d. (users.with_text text x, changed_here (users.with_text text) n.sessions nth x e, some_taken text bytes, texts_leave text x p);
            ends = λ id differ. refl;
            unshut = λ id o. o;
            others = λ id o. others_changed id nth (users.with_text text) n.sessions (slice_get n.sessions nth) o;
          }

  user_next : (now nth : ℕ) (n : State) (x : Session) → Fine n → TextsFit n.links → at_router n ≡ 0 → session_at nth n ≡ Some x → x.left ≡ false → length x.rest ≤ 0 → P x → (y : User) → x.user ≡ y
      → Next nth P n x (users.take_next y now nth n)
  user_next now nth n x f fits router e here none p (AtEnd u) g = end_next now nth u n x f router e g none p
  user_next now nth n x f fits router e here none p (AtLink peer) g = link_next now nth peer n x f fits e g here none p

  pub next : (now nth : ℕ) (n : State) (x : Session) → Fine n → TextsFit n.links → at_router n ≡ 0 → session_at nth n ≡ Some x → P x → Next nth P n x (bridging.next_text now nth n)
  next now nth n x f fits router e p =
      subst (λ (o : Option Session). Next nth P n x (if bridging.has_rest o then done n else users.take_by (users.present o) now nth n)) (sym e) (by (nat_lt 0 (length x.rest)) refl)
    where
      present : (b : Bool) → x.left ≡ b → length x.rest ≤ 0 → Next nth P n x (users.take_by (if b then None else Some x.user) now nth n)
      present true h none = no_next nth P n x f
      present false h none = user_next now nth n x f fits router e h none p x.user refl

      by : (b : Bool) → nat_lt 0 (length x.rest) ≡ b → Next nth P n x (if b then done n else users.take_by (users.present (Some x)) now nth n)
      by true t = record { fine = f; some = λ d. (x, e, grind (arith, nat_tests, t), p); ends = λ id differ. refl; unshut = λ id o. o; others = λ id o. o }
      by false t = present x.left refl (grind (arith, nat_tests, t))

-- the circuit of a session stands, or is gone
abbrev Its : Circuit → Session → Type 0
Its c x = (x.stage ≡ Connected c) ⊎ (x.stage ≡ AtPrompt)

its_notice : (c : Circuit) (id : ℕ) (notice : EndNotice) (x : Session) → Its c x → Its c (s.hear_notice id notice x)
its_notice c id notice x (inl e) = inl (ap (λ (y : Session). y.stage) (ap (λ (stage : Stage). s.notice_at stage id notice x) e) ∙ e)
its_notice c id notice x (inr e) = inr (ap (λ (y : Session). y.stage) (ap (λ (stage : Stage). s.notice_at stage id notice x) e) ∙ e)

its_gone : (c : Circuit) (id : ℕ) (x : Session) → Its c x → Its c (s.hear_gone id x)
its_gone c id x (inr e) = inr (ap (λ (y : Session). y.stage) (ap (λ (stage : Stage). s.gone_at stage id x) e) ∙ e)
its_gone c id x (inl e) = subst (λ (stage : Stage). Its c (s.gone_at stage id x)) (sym e) (by (nat_eq c.id id))
  where
    by : (b : Bool) → Its c (if b then s.hear_end c x else x)
    by true = inr refl
    by false = inl e

its_hears : (c : Circuit) → Hears (Its c)
its_hears c = record { notice = its_notice c; gone = its_gone c }

-- what is left of the text is written to the circuit, which has room for it
module _ (now nth : ℕ) (c : Circuit) (m : State) (y : Session) (f : Fine m) (e : session_at nth m ≡ Some y) (some : 1 ≤ length y.rest) (room : users.room_by (facts_at (users.end_at c.id m)) ≡ true)
    (unshut : AreOpen c.id m.set.set.ends) (its : Its c y) (others : OthersNot c.id nth m.sessions) where
  abbrev step : Outcome → Session → Session
  step outcome z = bridging.log_wrote outcome y.rest z

  sounds : (outcome : Outcome) → (outcome ≡ Taken) ⊎ (outcome ≡ Exhausts) → (z : Session) → session_at nth m ≡ Some z → Sound z → Sound (step outcome z)
  sounds outcome goes z k q = sound_wrote outcome y.rest z (ap (λ (w : Session). w.rest) (same_session nth m z y k e)) some goes q

  -- a text that isn't written
  refused : (outcome : Outcome) → (outcome ≡ Taken → ⊥) → (outcome ≡ Taken) ⊎ (outcome ≡ Exhausts) → Fine (at_session nth (step outcome) m)
  refused outcome none goes =
      session_fine nth (step outcome) m (sounds outcome goes) (λ z k g. given_wrote m.set.set outcome y.rest z g) (λ z w. written_same m.set.set z (step outcome z) refl (same outcome none z.bridge) (got outcome z.bridge) w)
      (λ z. less_same z (step outcome z) refl refl refl) f
    where
      same : (o : Outcome) → (o ≡ Taken → ⊥) → (b : Bridge) → (bridging.after_writing o y.rest b).wrote ≡ b.wrote
      same Taken n b = absurd (n refl)
      same Exhausts n b = refl
      same Unheard n b = refl
      same Refused n b = refl

      got : (o : Outcome) (b : Bridge) → (bridging.after_writing o y.rest b).got ≡ b.got
      got Taken b = refl
      got Exhausts b = refl
      got Unheard b = refl
      got Refused b = refl

  accepted : users.write_answer c.id y.rest m ≡ Ok tt → Fine (at_set (links.acts (sets.Calls c.id (sets.Writes y.rest) now)) (at_session nth (step Taken) m))
  unfolding links.acts
  accepted ok =
      let set : SetState = m.set.set in
      let a : sets.Act = sets.Calls c.id (sets.Writes y.rest) now in
      let d : sets.SetDone = sets.set_step set a in
      let k = writes_keep set y.rest now c.id in
      let o : Option Session = slice_get m.sessions nth in
      let ss : List Session = (at_session nth (step Taken) m).sessions in
      let fewer = owns_fewer set m.set.untold m.sessions ss f.0 (fewer_at nth (step Taken) m.sessions o refl (λ z. less_same z (step Taken z) refl refl refl)) in
      let sound = changed_every Sound (step Taken) m.sessions nth o (λ z g. sounds Taken (inl refl) z g (every_at Sound m.sessions nth z f.1.0 g)) f.1.0 in
      let given = changed_every (Given set) (step Taken) m.sessions nth o (λ z g. given_wrote set Taken y.rest z (every_at (Given set) m.sessions nth z f.1.1.0 g)) f.1.1.0 in
      let wrote = its_written set y.rest now nth c y m.sessions ok e its others f.1.1.1 in (
        owns_input Any set d m.set.untold ss fewer k (step_ok set a tt).made (λ i some. tt) (λ i some. tt) (calls_leaves set c.id (sets.Writes y.rest) now),
        (
          sound,
          (
            given_later set d.set k.number (λ i low g. k.ended i f.0.once low g) (λ i low g. k.away i f.0.once low g) ss given,
            subst (λ (p : Option Session). Every (Written d.set) (users.change_if p nth (step Taken) m.sessions)) (sym e) wrote,
          ),
        ),
      )

  not_taken : (why : SetRefusal) → users.wrote_by (Err why) ≡ Taken → ⊥
  not_taken (set_refusal.Write refusal.Exhausted) g = absurd (cc g)
  not_taken (set_refusal.Write refusal.NotUp) g = absurd (cc g)
  not_taken (set_refusal.Write refusal.Closing) g = absurd (cc g)
  not_taken (set_refusal.Write refusal.Empty) g = absurd (cc g)
  not_taken (set_refusal.Write refusal.TooLong) g = absurd (cc g)
  not_taken (set_refusal.Write refusal.QueueFull) g = absurd (cc g)
  not_taken set_refusal.NoEnd g = absurd (cc g)
  not_taken set_refusal.NoMemory g = absurd (cc g)

  by_answer : (r : Result (Unit {0}) SetRefusal) → users.write_answer c.id y.rest m ≡ r → (users.wrote_by r ≡ Taken) ⊎ (users.wrote_by r ≡ Exhausts)
      → Fine (users.write_if_ok r (sets.Calls c.id (sets.Writes y.rest) now) (at_session nth (step (users.wrote_by r)) m))
  by_answer (Ok _) ok goes = accepted ok
  by_answer (Err why) g goes2 = refused (users.wrote_by (Err why)) (not_taken why) goes2

  rest_written : Fine (bridging.write_rest now nth c.id m)
  rest_written =
      let s = every_at Sound m.sessions nth y f.1.0 e in
      let r = users.write_answer c.id y.rest m in
      let goes = write_goes (users.end_at c.id m) y.rest room (λ h k. closing_of c.id m.set.set.ends h unshut k) (some, s.rest) in
      subst (λ (o : Option Session). (let t = bridging.rest_of o in Fine (users.write_to now c.id t (at_session nth (bridging.log_wrote (users.wrote_by (users.write_answer c.id t m)) t) m)))) (sym e)
      (pumped now (users.write_if_ok r (sets.Calls c.id (sets.Writes y.rest) now) (at_session nth (step (users.wrote_by r)) m)) (by_answer r refl goes))

unclosed : (c : Circuit) (x : Session) → circuit_of x.stage ≡ Some c → c.closed ≡ false → 0 < opens_by c.id x
unclosed c x h g =
    let self : nat_eq c.id c.id ≡ true = grind (arith, nat_tests) in
    rw (h, g, self) (omega arith)

pub text_written : (now nth : ℕ) (c : Circuit) (n : State) (x : Session) → Fine n → TextsFit n.links → at_router n ≡ 0 → session_at nth n ≡ Some x → x.stage ≡ Connected c → Fine (bridging.write_text now nth c n).after
text_written now nth c n x f fits router e g = by (not c.closed && users.end_has_room c.id n) refl
  where
    t : Turn State
    t = bridging.next_text now nth n

    h : circuit_of x.stage ≡ Some c
    h = ap circuit_of g

    k : Next nth (Its c) n x t
    k = next (Its c) (its_hears c) (λ text y p. p) now nth n x f fits router e (inl g)

    written : (not c.closed && users.end_has_room c.id n) ≡ true → (b : Bool) → t.did ≡ b → Fine (if b then done (bridging.write_rest now nth c.id t.after) else idle t.after).after
    written r false d = k.fine
    written r true d =
        let both = not_and c.closed (users.end_has_room c.id n) r in
        let y = k.some d in
        let same = k.ends c.id (λ u at q. ends_differ u n nth x f e at c h (sym q)) in
        let open_still = k.unshut c.id (open_end c.id n nth x f e (unclosed c x h both.0)) in
        rest_written now nth c t.after y.0 k.fine y.1 y.2 (rw same both.1) open_still y.3 (k.others c.id (only n.set.set n.set.untold n.sessions nth c x f.0 e h))

    by : (b : Bool) → (not c.closed && users.end_has_room c.id n) ≡ b → Fine (if b then bridging.text_written now nth c.id t else idle n).after
    by false r = f
    by true r = written r t.did refl
