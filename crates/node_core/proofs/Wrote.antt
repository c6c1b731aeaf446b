-- What was written to an end stays, but for a write to it, and what was taken of it, but for a take. What a session has written is all that was
-- ever written to the end of its circuit, and what it has got is all that was ever taken of it.
use Rattle.std.proofs.Common.{◌≡◌, ◌<◌, ◌+◌, ◌∙◌, ◌⊎◌, inl, inr, ℕ, refl, sym, ap, subst, arith, drop, length, length-append, append_assoc, List, [], ◌∷◌, ◌++◌, slice_get, slice_set}
use Rattle.std.proofs.Math.Seq.{drop-append_seam}
use Rattle.std.specs.Prelude.{Bool, true, false, min, nat_eq, nat_lt, if◌then◌else◌, Option, Some, None, Result, Ok, Err}
use Rattle.std.proofs.lemmas.Bool.Decides.{nat_tests}
use Rattle.ax_address.specs.Callsign.{Callsign}
use Rattle.circuit_l4.specs.State.{Effect, State, Receiving, inbox}
use Rattle.circuit_l4.specs.Table as end
use Rattle.circuit_l4.specs.Halves.{first_or}
use Rattle.circuit_l4.specs.declared.notice.EndNotice.{EndNotice}
use Rattle.circuit_l4.specs.declared.notice.EndNotice.TheVariants as notice
use Rattle.circuit_l4.specs.declared.pair.Pair.{Pair}
use Rattle.circuit_l4.specs.declared.transport.Transport.{Transport}
use Rattle.circuit_table.specs.Sets as s
use Rattle.circuit_table.specs.Sets.{Call, Calls, Comes, ConnectFor, Holder, SetState, CircuitTold, Closes, Takes, Ticks, Writes}
use Rattle.circuit_table.specs.Standing as answers
use Rattle.circuit_table.specs.declared.refusal.SetRefusal.TheVariants as set_refusal
use Rattle.circuit_l4.specs.Opening.{requesting}
use Rattle.circuit_l4.specs.declared.refusal.WriteRefusal.{WriteRefusal}
use Rattle.radio_base.specs.declared.modulus.TheConstants.{COUNT_MAX}
use Rattle.ax_address.proofs.SameNumbers.{nat_apart}
use Rattle.node_model.specs.Asking as asking
use Rattle.node_model.specs.declared.circuit.Circuit.{Circuit}
use Rattle.node_model.specs.declared.stage.Stage.{Stage}
use Rattle.node_model.specs.declared.stage.Stage.TheVariants.{AtPrompt, Trying, Failed, Connected}
use Rattle.node_model.specs.declared.user.User.{User}
use Rattle.node_model.specs.Bridging as bridging
use Rattle.node_model.specs.Serving.{is_circuit}
use Rattle.node_model.specs.Sessions as sessions
use Rattle.node_model.specs.Sessions.{Bridge, Session, circuit_of}
use Rattle.node_model.specs.Users as users
use Rattle.node_model.specs.Users.{Outcome, Taken, Exhausts, Unheard, Refused}
use Rattle.node_core.proofs.Ends as ends_of
use Rattle.node_core.proofs.Ends.{In, Once, number_of, end_here, is_end, other_end}
use Rattle.node_core.proofs.Holders.{Alive, Below, calls, comes, connects, others_stay}
use Rattle.node_core.proofs.Growing as grown
use Rattle.node_core.proofs.Others.{NotIts, OthersNot, but_on, but_whole}
use Rattle.node_core.proofs.Soundness.{Every, Hears, every_at}
use Rattle.node_core.proofs.Unclosed as one_end
use Rattle.node_core.proofs.Unclosed.{IsMessage}

-- ---- an end

-- of what was received these are the messages that were taken
abbrev pub AreTaken : List (List ℕ) → List (List ℕ) → ℕ → Type 0
AreTaken gs received taken = (taken ≡ length gs) × ((more : List (List ℕ)) × (received ≡ gs ++ more))

one_more : (gs : List (List ℕ)) (ms : List (List ℕ)) (k : ℕ) (x : List ℕ) → IsMessage x → AreTaken gs ms k → AreTaken gs (ms ++ x ∷ []) k
one_more gs ms k x is (many, (more, e)) = (many, (more ++ x ∷ [], ap (λ (xs : List (List ℕ)). xs ++ x ∷ []) e ∙ append_assoc gs more (x ∷ [])))

-- an end has this number, this was written to it, and this was taken of what it received
pub record WroteAt (set : SetState) (id : ℕ) (ms gs : List (List ℕ)) : Type 0 where
  pub holder : Holder
  pub is : s.end_of id set.ends ≡ Some holder
  pub wrote : holder.end.sending.wrote ≡ ms
  pub taken : AreTaken gs holder.end.receiving.received holder.end.receiving.taken

abbrev pub KeepsWrote : SetState → SetState → Type 0
KeepsWrote old new = (id : ℕ) (ms gs : List (List ℕ)) → Once old.ends → WroteAt old id ms gs → WroteAt new id ms gs

record SameWrote (u v : State) : Type 0 where
  wrote : v.sending.wrote ≡ u.sending.wrote
  taken : (gs : List (List ℕ)) → AreTaken gs u.receiving.received u.receiving.taken → AreTaken gs v.receiving.received v.receiving.taken

same_itself : (u : State) → SameWrote u u
same_itself u = record { wrote = refl; taken = λ gs t. t }

arrives_same : (u : State) (x : Transport) (now : ℕ) → SameWrote u (end.step u (end.Arrive x) now).end
arrives_same u x now = record { wrote = one_end.arrives_wrote u x now; taken = λ gs t. (grown.arrives (AreTaken gs) (one_more gs) u x now).received t }

wrote_here : (id : ℕ) (k h x : Holder) (set new : SetState) (ms gs : List (List ℕ)) → s.end_of id set.ends ≡ Some x → s.end_of id set.ends ≡ Some h → s.end_of id new.ends ≡ Some k → SameWrote h.end k.end
    → x.end.sending.wrote ≡ ms → AreTaken gs x.end.receiving.received x.end.receiving.taken → WroteAt new id ms gs
wrote_here id k h x set new ms gs e f g stays w t =
    let found : Some h ≡ Some x = sym f ∙ e in
    let same : h ≡ x = cc found in
    record {
      holder = k;
      is = g;
      wrote = stays.wrote ∙ subst (λ (y : Holder). y.end.sending.wrote ≡ ms) (sym same) w;
      taken = stays.taken gs (subst (λ (y : Holder). AreTaken gs y.end.receiving.received y.end.receiving.taken) (sym same) t);
    }

wrote_at : (set : SetState) (h : Holder) (first : List CircuitTold) (g : Effect) → In h set.ends → Alive h g → SameWrote h.end g.end → KeepsWrote set (s.goes_to set h first g).set
wrote_at set h first g i v stays id ms gs o w = by (nat_eq h.id id) refl
  where
    k : Holder
    k = s.after_effect h g

    by : (b : Bool) → nat_eq h.id id ≡ b → WroteAt (s.goes_to set h first g).set id ms gs
    by true f =
        let was = is_end id h set.ends o i f in
        wrote_here id k h w.holder set (s.goes_to set h first g).set ms gs w.is was (end_here id k h set.ends was f) stays w.wrote w.taken
    by false f = record { holder = w.holder; is = other_end id k set.ends f ∙ w.is; wrote = w.wrote; taken = w.taken }

some_before : (id : ℕ) (k h : Holder) (hs : List Holder) → s.end_of id hs ≡ Some h → s.end_of id (hs ++ k ∷ []) ≡ Some h
some_before id k h [] e = absurd (cc e)
some_before id k h (x ∷ xs) e = by (nat_eq x.id id) e (some_before id k h xs)
  where
    by : (b : Bool) → (if b then Some x else s.end_of id xs) ≡ Some h → (s.end_of id xs ≡ Some h → s.end_of id (xs ++ k ∷ []) ≡ Some h) → (if b then Some x else s.end_of id (xs ++ k ∷ [])) ≡ Some h
    by true f rest = f
    by false f rest = rest f

wrote_made : (set : SetState) (at : Callsign) (asked : Option Pair) (request : Option (List ℕ)) (g : Effect) → Unit {0} → g.end.closing ≡ false → g.end.receiving.received ≡ [] → KeepsWrote set (s.makes_end set at asked request g).set
wrote_made set at asked request g is shut none id ms gs o w = record { holder = w.holder; is = some_before id (s.holder_of set at asked g) w.holder set.ends w.is; wrote = w.wrote; taken = w.taken }

wrote_stays : (set : SetState) → KeepsWrote set set
wrote_stays set id ms gs o w = w

pub comes_wrote : (set : SetState) (d : List ℕ) (now : ℕ) → KeepsWrote set (s.set_step set (Comes d now)).set
comes_wrote set d now = comes (λ d. KeepsWrote set d.set) (λ c. Unit {0}) set (λ told. wrote_stays set) SameWrote same_itself arrives_same (wrote_at set) (wrote_made set) d now (λ head e. tt)

pub connects_wrote : (set : SetState) (user dest : Callsign) (now : ℕ) → KeepsWrote set (s.set_step set (ConnectFor user dest now)).set
connects_wrote set user dest now = connects (λ d. KeepsWrote set d.set) (λ c. Unit {0}) set (λ told. wrote_stays set) SameWrote same_itself arrives_same (wrote_at set) (wrote_made set) user dest now tt

calls_wrote : (set : SetState) (id : ℕ) (call : Call) (now : ℕ) → ((h : Holder) → SameWrote h.end (end.step h.end (s.input_of call) now).end) → KeepsWrote set (s.set_step set (Calls id call now)).set
calls_wrote set id call now l = calls (λ d. KeepsWrote set d.set) (λ c. Unit {0}) set (λ told. wrote_stays set) SameWrote same_itself arrives_same (wrote_at set) (wrote_made set) id call now l

pub ticks_wrote : (set : SetState) (now id : ℕ) → KeepsWrote set (s.set_step set (Calls id Ticks now)).set
ticks_wrote set now id =
    calls_wrote set id Ticks now (λ h. record { wrote = one_end.ticks_wrote h.end now; taken = λ gs t. (grown.ticks (AreTaken gs) (one_more gs) h.end now).received t })

pub closes_wrote : (set : SetState) (now id : ℕ) → KeepsWrote set (s.set_step set (Calls id Closes now)).set
closes_wrote set now id =
    calls_wrote set id Closes now
    (λ h. record { wrote = one_end.closes_wrote h.end now; taken = λ gs t. subst (λ (x : Receiving). AreTaken gs x.received x.taken) (sym (one_end.closes h.end now)) t })

-- a call of another end
pub others_wrote : (set : SetState) (call : Call) (now at id : ℕ) (ms gs : List (List ℕ)) → nat_eq at id ≡ false → WroteAt set id ms gs → WroteAt (s.set_step set (Calls at call now)).set id ms gs
others_wrote set call now at id ms gs apart w = record { holder = w.holder; is = others_stay set id at call now apart ∙ w.is; wrote = w.wrote; taken = w.taken }

-- ---- a session and the end of its circuit

abbrev pub WrittenAt : SetState → Stage → Bridge → Type 0
WrittenAt set AtPrompt b = Unit {0}
WrittenAt set (Trying c) b = WroteAt set c.id [] b.got
WrittenAt set (Failed c) b = Unit {0}
WrittenAt set (Connected c) b = WroteAt set c.id b.wrote b.got

pub record Written (set : SetState) (x : Session) : Type 0 where
  pub all : WrittenAt set x.stage x.bridge

at_stage : (old new : SetState) (b d : Bridge) (stage : Stage) → d.wrote ≡ b.wrote → d.got ≡ b.got
    → ((c : Circuit) (ms gs : List (List ℕ)) → circuit_of stage ≡ Some c → WroteAt old c.id ms gs → WroteAt new c.id ms gs) → WrittenAt old stage b → WrittenAt new stage d
at_stage old new b d AtPrompt e g f w = tt
at_stage old new b d (Trying c) e g f w = subst (λ (gs : List (List ℕ)). WroteAt new c.id [] gs) (sym g) (f c [] b.got refl w)
at_stage old new b d (Failed c) e g f w = tt
at_stage old new b d (Connected c) e g f w =
    subst (λ (ms : List (List ℕ)). WroteAt new c.id ms d.got) (sym e) (subst (λ (gs : List (List ℕ)). WroteAt new c.id b.wrote gs) (sym g) (f c b.wrote b.got refl w))

-- as the circuits go on
pub written_later : (old new : SetState) → KeepsWrote old new → Once old.ends → (ss : List Session) → Every (Written old) ss → Every (Written new) ss
written_later old new k o [] e = tt
written_later old new k o (x ∷ ss) e = (record { all = at_stage old new x.bridge x.bridge x.stage refl refl (λ c ms gs h w. k c.id ms gs o w) e.0.all }, written_later old new k o ss e.1)

pub written_other : (set : SetState) (call : Call) (now at : ℕ) (x : Session) → NotIts at x → Written set x → Written (s.set_step set (Calls at call now)).set x
written_other set call now at x other w = record {
  all = at_stage set (s.set_step set (Calls at call now)).set x.bridge x.bridge x.stage refl refl
      (λ c ms gs h. others_wrote set call now at c.id ms gs (nat_apart c.id at (subst (λ (o : Option Circuit). is_circuit at o ≡ false) h other))) w.all;
}

pub written_others : (set : SetState) (call : Call) (now at : ℕ) (ss : List Session) → Every (NotIts at) ss → Every (Written set) ss → Every (Written (s.set_step set (Calls at call now)).set) ss
written_others set call now at [] n e = tt
written_others set call now at (x ∷ ss) n e = (written_other set call now at x n.0 e.0, written_others set call now at ss n.1 e.1)

-- as a session goes on
pub written_same : (set : SetState) (x y : Session) → y.stage ≡ x.stage → y.bridge.wrote ≡ x.bridge.wrote → y.bridge.got ≡ x.bridge.got → Written set x → Written set y
written_same set x y e f g w = record { all = subst (λ (stage : Stage). WrittenAt set stage y.bridge) (sym e) (at_stage set set x.bridge y.bridge x.stage f g (λ c ms gs h v. v) w.all) }

gave_wrote : (o : Outcome) (message : List ℕ) (b : Bridge) → (bridging.after_giving o message b).wrote ≡ b.wrote
gave_wrote Taken message b = refl
gave_wrote Exhausts message b = refl
gave_wrote Unheard message b = refl
gave_wrote Refused message b = refl

gave_got : (o : Outcome) (message : List ℕ) (b : Bridge) → (bridging.after_giving o message b).got ≡ b.got
gave_got Taken message b = refl
gave_got Exhausts message b = refl
gave_got Unheard message b = refl
gave_got Refused message b = refl

pub written_gave : (set : SetState) (o : Outcome) (message : List ℕ) (x : Session) → Written set x → Written set (bridging.log_gave o message x)
written_gave set o message x w = written_same set x (bridging.log_gave o message x) refl (gave_wrote o message x.bridge) (gave_got o message x.bridge) w

pub written_closed : (set : SetState) (x : Session) → Written set x → Written set (bridging.note_closed x)
written_closed set x w = record { all = by x.stage w.all }
  where
    by : (stage : Stage) → WrittenAt set stage x.bridge → WrittenAt set (bridging.stage_closed stage) x.bridge
    by AtPrompt v = tt
    by (Trying c) v = v
    by (Failed c) v = tt
    by (Connected c) v = v

-- as it hears
either : (set : SetState) (x y : Session) (b : Bool) → Written set x → Written set y → Written set (if b then y else x)
either set x y true p q = q
either set x y false p q = p

opened : (set : SetState) (c : Circuit) (n : EndNotice) (rest : List ℕ) (b : Bridge) → WroteAt set c.id [] b.got → WrittenAt set (sessions.stage_by c n) (sessions.after_opening rest b)
opened set c (notice.Opened window) rest b w = w
opened set c notice.Refused rest b w = tt
opened set c notice.Closed rest b w = tt
opened set c notice.ClosedByPartner rest b w = tt
opened set c notice.FailedRetries rest b w = tt
opened set c notice.FailedOversize rest b w = tt
opened set c notice.FailedInactive rest b w = tt

noticed_at : (set : SetState) (id : ℕ) (n : EndNotice) (x : Session) (stage : Stage) → x.stage ≡ stage → Written set x → Written set (sessions.notice_at stage id n x)
noticed_at set id n x AtPrompt e w = w
noticed_at set id n x (Failed c) e w = w
noticed_at set id n x (Connected c) e w = w
noticed_at set id n x (Trying c) e w =
    either set x (sessions.hear_tried c n x) (nat_eq c.id id) w (record { all = opened set c n x.rest x.bridge (subst (λ (stage : Stage). WrittenAt set stage x.bridge) e w.all) })

gone_at : (set : SetState) (id : ℕ) (x : Session) (stage : Stage) → Written set x → Written set (sessions.gone_at stage id x)
gone_at set id x AtPrompt w = w
gone_at set id x (Trying c) w = either set x (sessions.at_prompt x) (nat_eq c.id id) w (record { all = tt })
gone_at set id x (Failed c) w = either set x (sessions.at_prompt x) (nat_eq c.id id) w (record { all = tt })
gone_at set id x (Connected c) w = either set x (sessions.hear_end c x) (nat_eq c.id id) w (record { all = tt })

pub written_hears : (set : SetState) → Hears (Written set)
written_hears set = record { notice = λ id n x w. noticed_at set id n x x.stage refl w; gone = λ id x w. gone_at set id x x.stage w }

pub written_new : (set : SetState) (user : User) → Written set (sessions.new_session user)
written_new set user = record { all = tt }

-- ---- the session whose circuit it is

-- a text was written to the circuit of the session in that place
pub its_write : (set : SetState) (text : List ℕ) (now id : ℕ) (ms gs : List (List ℕ)) → answers.write_answer (s.end_of id set.ends) text ≡ Ok tt → WroteAt set id ms gs
    → WroteAt (s.set_step set (Calls id (Writes text) now)).set id (ms ++ text ∷ []) gs
its_write set text now id ms gs ok w = by (s.end_of id set.ends) refl ok
  where
    taken : (h : Holder) (b : Bool) → h.gone ≡ b → s.end_of id set.ends ≡ Some h → (if b then Err set_refusal.NoEnd else answers.by_write (end.write_answer h.end text)) ≡ Ok tt
        → WroteAt (if b then s.does_nothing set else s.goes_to set h [] (end.step h.end (end.Write text) now)).set id (ms ++ text ∷ []) gs
    taken h true k e f = absurd (cc f)
    taken h false k e f =
        let g : Effect = end.step h.end (end.Write text) now in
        let mine : nat_eq h.id id ≡ true = let n = number_of id set.ends h e in grind (arith, nat_tests, n) in
        let found : Some h ≡ Some w.holder = sym e ∙ w.is in
        let same : h ≡ w.holder = cc found in
        let before : h.end.sending.wrote ≡ ms = subst (λ (y : Holder). y.end.sending.wrote ≡ ms) (sym same) w.wrote in
        record {
          holder = s.after_effect h g;
          is = end_here id (s.after_effect h g) h set.ends e mine;
          wrote = one_end.writes_wrote h.end text now (answered (end.write_answer h.end text) f) ∙ ap (λ (xs : List (List ℕ)). xs ++ text ∷ []) before;
          taken = (grown.writes (AreTaken gs) (one_more gs) h.end text now).received (subst (λ (y : Holder). AreTaken gs y.end.receiving.received y.end.receiving.taken) (sym same) w.taken);
        }
      where
        answered : (r : Result (Unit {0}) WriteRefusal) → answers.by_write r ≡ Ok tt → r ≡ Ok tt
        answered (Ok _) f = refl
        answered (Err why) f = absurd (cc f)

    by : (o : Option Holder) → s.end_of id set.ends ≡ o → answers.write_answer o text ≡ Ok tt → WroteAt (s.after_call set o (Writes text) now).set id (ms ++ text ∷ []) gs
    by None e f = absurd (cc f)
    by (Some h) e f = taken h h.gone refl e f

-- what is behind the messages that were taken waits
rest_is : (k : ℕ) (gs received more : List (List ℕ)) → k ≡ length gs → received ≡ gs ++ more → drop k received ≡ more
rest_is k gs received more many e = ap (λ j. drop j received) many ∙ (ap (drop (length gs)) e ∙ drop-append_seam gs more)

pub rest_waits : (gs : List (List ℕ)) (h : Receiving) → AreTaken gs h.received h.taken → h.received ≡ gs ++ inbox h
rest_waits gs h (many, (more, e)) = e ∙ ap (λ (xs : List (List ℕ)). gs ++ xs) (sym (rest_is h.taken gs h.received more many e))

-- a message of it was taken
first_of : (k : ℕ) (gs received : List (List ℕ)) → AreTaken gs received k → 0 < length (drop k received) → AreTaken (gs ++ first_or [] (drop k received) ∷ []) received (k + 1)
first_of k gs received (many, (more, e)) some = by more (rest_is k gs received more many e) e
  where
    by : (xs : List (List ℕ)) → drop k received ≡ xs → received ≡ gs ++ xs → AreTaken (gs ++ first_or [] (drop k received) ∷ []) received (k + 1)
    by [] f g = let none = ap (λ (ys : List (List ℕ)). length ys) f in absurd (omega (arith, none, some))
    by (x ∷ xs) f g = rw f (omega (arith, many, length-append gs (x ∷ [])), (xs, g ∙ sym (append_assoc gs (x ∷ []) xs)))

pub its_take : (set : SetState) (now id : ℕ) (ms gs : List (List ℕ)) → users.has_taken (answers.take_answer (s.end_of id set.ends)) ≡ true → WroteAt set id ms gs
    → WroteAt (s.set_step set (Calls id Takes now)).set id ms (gs ++ answers.message_at [] (s.end_of id set.ends) ∷ [])
its_take set now id ms gs ok w = by (s.end_of id set.ends) refl ok
  where
    taken : (h : Holder) (b : Bool) → h.gone ≡ b → s.end_of id set.ends ≡ Some h → users.has_taken (if b then Err (record {}) else Ok (nat_lt 0 (length (inbox h.end.receiving)))) ≡ true
        → WroteAt (if b then s.does_nothing set else s.goes_to set h [] (end.step h.end end.Take now)).set id ms (gs ++ (if b then [] else first_or [] (inbox h.end.receiving)) ∷ [])
    taken h true k e f = absurd (cc f)
    taken h false k e f =
        let g : Effect = end.step h.end end.Take now in
        let m : List ℕ = first_or [] (inbox h.end.receiving) in
        let mine : nat_eq h.id id ≡ true = let n = number_of id set.ends h e in grind (arith, nat_tests, n) in
        let found : Some h ≡ Some w.holder = sym e ∙ w.is in
        let same : h ≡ w.holder = cc found in
        let before = subst (λ (y : Holder). AreTaken gs y.end.receiving.received y.end.receiving.taken) (sym same) w.taken in
        let one = first_of h.end.receiving.taken gs h.end.receiving.received before (grind (arith, nat_tests, f)) in
        record {
          holder = s.after_effect h g;
          is = end_here id (s.after_effect h g) h set.ends e mine;
          wrote = one_end.takes_wrote h.end now ∙ subst (λ (y : Holder). y.end.sending.wrote ≡ ms) (sym same) w.wrote;
          taken = grown.takes_one (AreTaken (gs ++ m ∷ [])) (one_more (gs ++ m ∷ [])) h.end now f one;
        }

    by : (o : Option Holder) → s.end_of id set.ends ≡ o → users.has_taken (answers.take_answer o) ≡ true → WroteAt (s.after_call set o Takes now).set id ms (gs ++ answers.message_at [] o ∷ [])
    by None e f = absurd (cc f)
    by (Some h) e f = taken h h.gone refl e f

-- so the session has, once the message is noted
pub its_taken : (set : SetState) (now : ℕ) (c : Circuit) (x : Session) → users.has_taken (answers.take_answer (s.end_of c.id set.ends)) ≡ true → circuit_of x.stage ≡ Some c → Written set x
    → Written (s.set_step set (Calls c.id Takes now)).set (bridging.log_got (answers.message_at [] (s.end_of c.id set.ends)) x)
its_taken set now c x ok e w = record { all = by x.stage e w.all }
  where
    message : List ℕ
    message = answers.message_at [] (s.end_of c.id set.ends)

    by : (stage : Stage) → circuit_of stage ≡ Some c → WrittenAt set stage x.bridge → WrittenAt (s.set_step set (Calls c.id Takes now)).set stage (bridging.log_got message x).bridge
    by AtPrompt f v = tt
    by (Failed d) f v = tt
    by (Trying d) f v = let same : d ≡ c = cc f in rw same (its_take set now c.id [] x.bridge.got ok (subst (λ (k : Circuit). WroteAt set k.id [] x.bridge.got) same v))
    by (Connected d) f v = let same : d ≡ c = cc f in rw same (its_take set now c.id x.bridge.wrote x.bridge.got ok (subst (λ (k : Circuit). WroteAt set k.id x.bridge.wrote x.bridge.got) same v))

-- a session of which that will be noted hears as it would then
abbrev pub WillBe : SetState → List ℕ → Session → Type 0
WillBe set message x = Written set (bridging.log_got message x)

pub will_hear : (set : SetState) (message : List ℕ) → Hears (WillBe set message)
will_hear set message = record { notice = λ id n x w. subst (Written set) (noticed id n x x.stage) ((written_hears set).notice id n (bridging.log_got message x) w); gone = λ id x w. subst (Written set) (left id x x.stage) ((written_hears set).gone id (bridging.log_got message x) w) }
  where
    got : Session → Session
    got x = bridging.log_got message x

    either_got : (x y : Session) (b : Bool) → (if b then got y else got x) ≡ got (if b then y else x)
    either_got x y true = refl
    either_got x y false = refl

    noticed : (id : ℕ) (n : EndNotice) (x : Session) (stage : Stage) → sessions.notice_at stage id n (got x) ≡ got (sessions.notice_at stage id n x)
    noticed id n x AtPrompt = refl
    noticed id n x (Failed c) = refl
    noticed id n x (Connected c) = refl
    noticed id n x (Trying c) = either_got x (sessions.hear_tried c n x) (nat_eq c.id id)

    left : (id : ℕ) (x : Session) (stage : Stage) → sessions.gone_at stage id (got x) ≡ got (sessions.gone_at stage id x)
    left id x AtPrompt = refl
    left id x (Trying c) = either_got x (sessions.at_prompt x) (nat_eq c.id id)
    left id x (Failed c) = either_got x (sessions.at_prompt x) (nat_eq c.id id)
    left id x (Connected c) = either_got x (sessions.hear_end c x) (nat_eq c.id id)

pub its_written : (set : SetState) (text : List ℕ) (now nth : ℕ) (c : Circuit) (y : Session) (ss : List Session) → answers.write_answer (s.end_of c.id set.ends) text ≡ Ok tt → slice_get ss nth ≡ Some y
    → (y.stage ≡ Connected c) ⊎ (y.stage ≡ AtPrompt) → OthersNot c.id nth ss → Every (Written set) ss → Every (Written (s.set_step set (Calls c.id (Writes text) now)).set) (slice_set ss nth (bridging.log_wrote Taken text y))
its_written set text now nth c y ss ok e its n w =
    let new : SetState = (s.set_step set (Calls c.id (Writes text) now)).set in
    let was = every_at (Written set) ss nth y w e in
    but_whole (Written new) nth (bridging.log_wrote Taken text y) ss (by its was)
    (but_on (NotIts c.id) (Written set) (Written new) (λ x other v. written_other set (Writes text) now c.id x other v) nth ss n w)
  where
    by : (y.stage ≡ Connected c) ⊎ (y.stage ≡ AtPrompt) → Written set y → Written (s.set_step set (Calls c.id (Writes text) now)).set (bridging.log_wrote Taken text y)
    by (inl g) v =
        let here : WroteAt set c.id y.bridge.wrote y.bridge.got = subst (λ (stage : Stage). WrittenAt set stage y.bridge) g v.all in
        record { all = subst (λ (stage : Stage). WrittenAt (s.set_step set (Calls c.id (Writes text) now)).set stage (bridging.log_wrote Taken text y).bridge) (sym g) (its_write set text now c.id y.bridge.wrote y.bridge.got ok here) }
    by (inr g) v = record { all = subst (λ (stage : Stage). WrittenAt (s.set_step set (Calls c.id (Writes text) now)).set stage (bridging.log_wrote Taken text y).bridge) (sym g) tt }

-- ---- an end that asks for a circuit

pub end_new : (id : ℕ) (k : Holder) (hs : List Holder) → ends_of.Every (λ x. x.id < id) hs → nat_eq k.id id ≡ true → s.end_of id (hs ++ k ∷ []) ≡ Some k
end_new id k [] e f = rw f refl
end_new id k (x ∷ xs) e f = by (nat_eq x.id id) refl (end_new id k xs e.1 f)
  where
    by : (b : Bool) → nat_eq x.id id ≡ b → s.end_of id (xs ++ k ∷ []) ≡ Some k → (if b then Some x else s.end_of id (xs ++ k ∷ [])) ≡ Some k
    by true g rest = let same : x.id ≡ id = grind (arith, nat_tests, g) in absurd (omega (arith, same, e.0))
    by false g rest = rest

pub asked_wrote : (set : SetState) (dest : Callsign) (now : ℕ) → Below set → WroteAt (s.requests set dest now).set set.number [] []
asked_wrote set dest now below =
    let g : Effect = requesting (s.new_pair set) set.user set.own set.config (min now COUNT_MAX) in
    let self : nat_eq set.number set.number ≡ true = grind (arith, nat_tests) in
    record { holder = s.holder_of set dest None g; is = end_new set.number (s.holder_of set dest None g) set.ends below self; wrote = refl; taken = (refl, ([], refl)) }

pub written_tries : (set : SetState) (id : ℕ) (dest : Callsign) (x : Session) → WroteAt set id [] [] → Written set (asking.tries id dest x)
written_tries set id dest x w = record { all = w }
