-- A node whose sessions are sound and own what they own, as its circuits take inputs, are pumped and are written to.
use Rattle.std.proofs.Common.{◌≡◌, ◌≤◌, ◌<◌, ◌+◌, ◌⊎◌, inl, inr, ℕ, zero, suc, refl, sym, subst, arith, drop, length, List, [], ◌∷◌, ◌++◌, slice_get}
use Rattle.std.specs.Prelude.{Bool, true, false, not, ◌&&◌, ◌^◌, nat_eq, nat_le, nat_lt, if◌then◌else◌, Option, Some, None, Result, Ok, Err}
use Rattle.std.proofs.lemmas.Bool.Decides.{nat_tests}
use Rattle.std.proofs.lemmas.Bool.{and_parts}
use Rattle.ax_address.specs.Callsign.{Callsign}
use Rattle.circuit_l4.specs.Opening.{facts_of}
use Rattle.circuit_l4.specs.State.{State as End, is_up, inbox, total as all_fragments, unacknowledged}
use Rattle.circuit_l4.specs.Table as ends
use Rattle.circuit_l4.specs.Halves.{first_or}
use Rattle.circuit_l4.specs.declared.refusal.WriteRefusal.TheVariants as refusal
use Rattle.circuit_reassembly.specs.Fragments.{fragments_of}
use Rattle.circuit_table.specs.CircuitSets.{facts_at}
use Rattle.circuit_table.specs.Pumps.{Of}
use Rattle.circuit_table.specs.Sets as sets
use Rattle.circuit_table.specs.Sets.{Holder, SetDone, SetState, CircuitTold, end_of, set_step}
use Rattle.circuit_table.specs.Standing as answers
use Rattle.circuit_table.specs.declared.refusal.SetRefusal.{SetRefusal}
use Rattle.circuit_table.specs.declared.refusal.SetRefusal.TheVariants as set_refusal
use Rattle.link_table.specs.declared.text_refusal.TextRefusal.{TextRefusal}
use Rattle.node_model.specs.declared.user.User.{User}
use Rattle.node_model.specs.declared.user.User.TheVariants.{AtEnd, AtLink}
use Rattle.node_model.specs.Links as links
use Rattle.node_model.specs.Pumping.{at_router, pump}
use Rattle.node_core.specs.Runs.{MadeFrom}
use Rattle.node_model.specs.Sessions.{Session, hear_circuits}
use Rattle.node_model.specs.States.{State, at_set}
use Rattle.node_model.specs.Users as users
use Rattle.node_model.specs.Users.{Outcome, Taken, Exhausts, at_session, change_if, session_at}
use Rattle.node_core.proofs.Given.{Given, given_heard, given_later}
use Rattle.node_core.proofs.Holders.{Any, Keeps, Differs, closes_keep, comes_keeps, takes_keep, writes_keep}
use Rattle.node_core.proofs.Soundness.{Every, Hears, Placed, Sound, changed_every, every_at, heard_every, heard_place, sound_hears, sound_new}
use Rattle.node_core.proofs.Making.{step_ok}
use Rattle.node_core.proofs.Owning.{Fewer, Less, Owns, changed_less, mades, none_made, opens_by, owned_by, owns_fewer, owns_input, owns_told, total, asked_by}
use Rattle.node_core.proofs.Pumped.{dry_keeps, pump_keeps}
use Rattle.node_core.proofs.Unclosed.{IsMessage, Messages}
use Rattle.node_core.proofs.Others.{NotIts, alone}
use Rattle.node_core.proofs.Wrote.{KeepsWrote, Written, closes_wrote, comes_wrote, written_hears, written_later, written_new, written_others}
use Rattle.node_core.proofs.Leaving.{LeavesHeld, calls_leaves, comes_leaves}

abbrev pub All : SetState → List CircuitTold → List Session → Type 0
All set ts ss = Owns set ts ss × (Every Sound ss × (Every (Given set) ss × Every (Written set) ss))

abbrev pub Fine : State → Type 0
Fine n = All n.set.set n.set.untold n.sessions

-- ---- the pumping

tell_all : (prompt : Bool) (set : SetState) (t : CircuitTold) (ts : List CircuitTold) (ss : List Session) → All set (t ∷ ts) ss → All set ts (hear_circuits prompt (Of t) ss)
tell_all prompt set t ts ss a = (owns_told prompt set t ts ss a.0, (heard_every Sound sound_hears sound_new prompt t ss a.1.0, (given_heard set prompt t ts ss a.0 a.1.1.0, heard_every (Written set) (written_hears set) (written_new set) prompt t ss a.1.1.1)))

-- what the sessions keep as the set goes on
pub goes_on : (admits : ℕ → Type 0) (set new : SetState) (ts : List CircuitTold) (ss : List Session) → Keeps admits set new → KeepsWrote set new → All set ts ss → Every Sound ss × (Every (Given new) ss × Every (Written new) ss)
goes_on admits set new ts ss k kw a = (a.1.0, (given_later set new k.number (λ id low e. k.ended id a.0.once low e) (λ id low e. k.away id a.0.once low e) ss a.1.1.0, written_later set new kw a.0.once ss a.1.1.1))

come_all : (set : SetState) (ts : List CircuitTold) (ss : List Session) (d : List ℕ) (now : ℕ) → All set ts ss → All (set_step set (sets.Comes d now)).set (ts ++ (set_step set (sets.Comes d now)).told) ss
come_all set ts ss d now a =
    let k = comes_keeps set d now in
    (owns_input Any set (set_step set (sets.Comes d now)) ts ss a.0 k (step_ok set (sets.Comes d now) tt).made (λ id some. tt) (λ id some. tt) (comes_leaves set d now), goes_on Any set _ ts ss k (comes_wrote set d now) a)

pub pumped : (now : ℕ) (n : State) → Fine n → Fine (pump now n)
pumped now n f = pump_keeps All tell_all come_all now n f

-- where nothing waits at the router the ends stay, and a session keeps what it keeps as it hears
abbrev Stays : SetState → (Session → Type 0) → ℕ → SetState → List CircuitTold → List Session → Type 0
Stays old P nth set ts ss = (set ≡ old) × Placed P nth ss

pub record Dry (P : Session → Type 0) (nth : ℕ) (old new : State) : Type 0 where
  pub set : new.set.set ≡ old.set.set
  pub placed : Placed P nth new.sessions

pub pumped_dry : (P : Session → Type 0) → Hears P → (now nth : ℕ) (n : State) → at_router n ≡ 0 → Placed P nth n.sessions → Dry P nth n (pump now n)
pumped_dry P h now nth n e p =
    let x = dry_keeps (Stays n.set.set P nth) (λ prompt set t ts ss a. (a.0, heard_place P h prompt t nth ss a.1)) now n e (refl, p) in
    record { set = x.0; placed = x.1 }

pub pumped_placed : (P : Session → Type 0) → Hears P → (now nth : ℕ) (n : State) → Placed P nth n.sessions → Placed P nth (pump now n).sessions
pumped_placed P h now nth n p =
    pump_keeps (λ set ts ss. Placed P nth ss) (λ prompt set t ts ss a. heard_place P h prompt t nth ss a) (λ set ts ss d now a. a) now n p

-- ---- sessions

pub fewer_at : (nth : ℕ) (f : Session → Session) (ss : List Session) (o : Option Session) → slice_get ss nth ≡ o → ((x : Session) → Less x (f x)) → Fewer ss (change_if o nth f ss)
fewer_at nth f ss o e less = record {
  owned = λ id. changed_less (owned_by id) f ss nth o e (λ x. (less x).owned id);
  opens = λ id. changed_less (opens_by id) f ss nth o e (λ x. (less x).opens id);
  asked = λ id. changed_less (asked_by id) f ss nth o e (λ x. (less x).asked id);
}

pub session_fine : (nth : ℕ) (f : Session → Session) (n : State) → ((x : Session) → session_at nth n ≡ Some x → Sound x → Sound (f x)) → ((x : Session) → session_at nth n ≡ Some x → Given n.set.set x → Given n.set.set (f x))
    → ((x : Session) → Written n.set.set x → Written n.set.set (f x)) → ((x : Session) → Less x (f x)) → Fine n → Fine (at_session nth f n)
session_fine nth f n on given wrote less a =
    let o = slice_get n.sessions nth in (
      owns_fewer n.set.set n.set.untold n.sessions _ a.0 (fewer_at nth f n.sessions o refl less),
      (
        changed_every Sound f n.sessions nth o (λ x e. on x e (every_at Sound n.sessions nth x a.1.0 e)) a.1.0,
        (
          changed_every (Given n.set.set) f n.sessions nth o (λ x e. given x e (every_at (Given n.set.set) n.sessions nth x a.1.1.0 e)) a.1.1.0,
          changed_every (Written n.set.set) f n.sessions nth o (λ x e. wrote x (every_at (Written n.set.set) n.sessions nth x a.1.1.1 e)) a.1.1.1,
        ),
      ),
    )

-- ---- inputs of the circuits

pub acted : (a : sets.Act) (n : State) → Keeps Any n.set.set (set_step n.set.set a).set → KeepsWrote n.set.set (set_step n.set.set a).set → MadeFrom n.set.set.number (set_step n.set.set a).told (set_step n.set.set a).set.number
    → LeavesHeld n.set.set (set_step n.set.set a) → Fine n → Fine (at_set (links.acts a) n)
unfolding links.acts
acted a n k kw made leaves f =
    (owns_input Any n.set.set (set_step n.set.set a) n.set.untold n.sessions f.0 k made (λ id some. tt) (λ id some. tt) leaves, goes_on Any n.set.set _ n.set.untold n.sessions k kw f)

-- a call of an end that is no session's circuit
call_fine : (call : sets.Call) (now id : ℕ) (n : State) → Keeps Any n.set.set (set_step n.set.set (sets.Calls id call now)).set → Every (NotIts id) n.sessions → Fine n → Fine (at_set (links.acts (sets.Calls id call now)) n)
unfolding links.acts
call_fine call now id n k none f =
    let a : sets.Act = sets.Calls id call now in (
      owns_input Any n.set.set (set_step n.set.set a) n.set.untold n.sessions f.0 k (step_ok n.set.set a tt).made (λ i some. tt) (λ i some. tt) (calls_leaves n.set.set id call now),
      (
        f.1.0,
        (
          given_later n.set.set (set_step n.set.set a).set k.number (λ i low e. k.ended i f.0.once low e) (λ i low e. k.away i f.0.once low e) n.sessions f.1.1.0,
          written_others n.set.set call now id n.sessions none f.1.1.1,
        ),
      ),
    )

pub takes_fine : (now id : ℕ) (n : State) → Every (NotIts id) n.sessions → Fine n → Fine (at_set (links.acts (sets.Calls id sets.Takes now)) n)
takes_fine now id n none f = call_fine sets.Takes now id n (takes_keep n.set.set now id) none f

pub writes_fine : (now id : ℕ) (text : List ℕ) (n : State) → Every (NotIts id) n.sessions → Fine n → Fine (at_set (links.acts (sets.Calls id (sets.Writes text) now)) n)
writes_fine now id text n none f = call_fine (sets.Writes text) now id n (writes_keep n.set.set text now id) none f

same_number : (set : SetState) (now : ℕ) (o : Option Holder) → (sets.after_call set o sets.Closes now).set.number ≡ set.number
same_number set now None = refl
same_number set now (Some h) = by h.gone
  where
    by : (b : Bool) → (if b then sets.does_nothing set else sets.goes_to set h [] (ends.step h.end ends.Close now)).set.number ≡ set.number
    by true = refl
    by false = refl

other_by : (id k : ℕ) (b : Bool) → nat_eq id k ≡ b → (id ≡ k → ⊥) → nat_eq id k ≡ false
other_by id k true e f = absurd (f (grind (arith, nat_tests, e)))
other_by id k false e f = e

-- an end is closed that is none of those that are to stay open
pub closes_fine : (now id : ℕ) (n : State) → total (opens_by id) n.sessions + mades id n.set.untold ≡ 0 → Fine n → Fine (at_set (links.acts (sets.Calls id sets.Closes now)) n)
unfolding links.acts
closes_fine now id n none f =
    let set = n.set.set in
    let d : SetDone = set_step set (sets.Calls id sets.Closes now) in
    let made : MadeFrom set.number d.told d.set.number = (step_ok set (sets.Calls id sets.Closes now) tt).made in
    let still : MadeFrom set.number d.told set.number = subst (MadeFrom set.number d.told) (same_number set now (end_of id set.ends)) made in (
      owns_input (Differs id) set d n.set.untold n.sessions f.0 (closes_keep set now id) made
          (λ k some. other_by id k (nat_eq id k) refl (λ same. let gone : total (opens_by k) n.sessions + mades k n.set.untold ≡ 0 = subst (λ j. total (opens_by j) n.sessions + mades j n.set.untold ≡ 0) same none in absurd (omega (arith, some, gone))))
          (λ k some. let gone = none_made set.number d.told still k in absurd (omega (arith, some, gone)))
          (calls_leaves set id sets.Closes now),
      goes_on (Differs id) set d.set n.set.untold n.sessions (closes_keep set now id) (closes_wrote set now id) f,
    )

pub close_fine : (now id : ℕ) (n : State) → total (opens_by id) n.sessions + mades id n.set.untold ≡ 0 → Fine n → Fine (users.close now id n)
close_fine now id n none f = pumped now (at_set (links.acts (sets.Calls id sets.Closes now)) n) (closes_fine now id n none f)

written_fine : (now id : ℕ) (text : List ℕ) (r : Result (Unit {0}) SetRefusal) (n : State) → Every (NotIts id) n.sessions → Fine n → Fine (users.write_if_ok r (sets.Calls id (sets.Writes text) now) n)
written_fine now id text (Ok _) n none f = writes_fine now id text n none f
written_fine now id text (Err why) n none f = f

wrote_fine : (now id : ℕ) (text : List ℕ) (n : State) → Every (NotIts id) n.sessions → Fine n → Fine (users.write_to now id text n)
wrote_fine now id text n none f =
    let m : State = users.write_if_ok (users.write_answer id text n) (sets.Calls id (sets.Writes text) now) n in
    pumped now m (written_fine now id text (users.write_answer id text n) n none f)

sent_fine : (now : ℕ) (peer : Callsign) (text : List ℕ) (r : Result (Unit {0}) TextRefusal) (n : State) → Fine n → Fine (users.send_if_ok r peer text now n)
sent_fine now peer text (Ok _) n f = f
sent_fine now peer text (Err why) n f = f

-- the end of a user is no session's circuit
speaks : (n : State) → Fine n → (nth : ℕ) (o : Option Session) → session_at nth n ≡ o → (id : ℕ) → users.listener o n ≡ Some (AtEnd id) → Every (NotIts id) n.sessions
speaks n f nth None e id g = absurd (cc g)
speaks n f nth (Some x) e id g = by (users.is_deaf x n) g
  where
    by : (b : Bool) → (if b then None else Some x.user) ≡ Some (AtEnd id) → Every (NotIts id) n.sessions
    by true h = absurd (cc h)
    by false h = let user : x.user ≡ AtEnd id = cc h in alone n.set.set n.set.untold n.sessions nth id x f.0 e user

said_to : (o : Option User) (now : ℕ) (text : List ℕ) (n : State) → ((id : ℕ) → o ≡ Some (AtEnd id) → Every (NotIts id) n.sessions) → Fine n → Fine (users.say_if o now text n)
said_to None now text n none f = f
said_to (Some (AtEnd id)) now text n none f = wrote_fine now id text n (none id refl) f
said_to (Some (AtLink peer)) now text n none f = sent_fine now peer text (links.text_answer peer text n.links) n f

pub said : (now nth : ℕ) (text : List ℕ) (n : State) → Fine n → Fine (users.say now nth text n)
said now nth text n f = said_to (users.listener (session_at nth n) n) now text n (λ id e. speaks n f nth (session_at nth n) refl id e) f

-- what a session keeps as it hears, it keeps while something is said
written_sessions : (now id : ℕ) (text : List ℕ) (r : Result (Unit {0}) SetRefusal) (n : State) → (users.write_if_ok r (sets.Calls id (sets.Writes text) now) n).sessions ≡ n.sessions
written_sessions now id text (Ok _) n = refl
written_sessions now id text (Err why) n = refl

sent_sessions : (now : ℕ) (peer : Callsign) (text : List ℕ) (r : Result (Unit {0}) TextRefusal) (n : State) → (users.send_if_ok r peer text now n).sessions ≡ n.sessions
sent_sessions now peer text (Ok _) n = refl
sent_sessions now peer text (Err why) n = refl

placed_to : (P : Session → Type 0) → Hears P → (o : Option User) (now nth : ℕ) (text : List ℕ) (n : State) → Placed P nth n.sessions → Placed P nth (users.say_if o now text n).sessions
placed_to P h None now nth text n p = p
placed_to P h (Some (AtEnd id)) now nth text n p =
    let r = users.write_answer id text n in
    let m : State = users.write_if_ok r (sets.Calls id (sets.Writes text) now) n in
    pumped_placed P h now nth m (subst (Placed P nth) (sym (written_sessions now id text r n)) p)
placed_to P h (Some (AtLink peer)) now nth text n p = subst (Placed P nth) (sym (sent_sessions now peer text (links.text_answer peer text n.links) n)) p

pub placed_said : (P : Session → Type 0) → Hears P → (now nth at : ℕ) (text : List ℕ) (n : State) → Placed P nth n.sessions → Placed P nth (users.say now at text n).sessions
placed_said P h now nth at text n p = placed_to P h (users.listener (session_at at n) n) now nth text n p

-- ---- what is taken, and written

first_message : (k : ℕ) (ms : List (List ℕ)) → Messages ms → 0 < length (drop k ms) → IsMessage (first_or [] (drop k ms))
first_message zero [] a some = absurd (omega (arith, some))
first_message (suc k) [] a some = absurd (omega (arith, some))
first_message zero (m ∷ ms) a some = a.0
first_message (suc k) (m ∷ ms) a some = first_message k ms a.1 some

pub took_message : (o : Option Holder) → users.has_taken (answers.take_answer o) ≡ true → ((h : Holder) → o ≡ Some h → Messages h.end.receiving.received) → IsMessage (answers.message_at [] o)
took_message None e a = absurd (cc e)
took_message (Some h) e a = by h.gone e
  where
    by : (b : Bool) → users.has_taken (if b then Err (record {}) else Ok (nat_lt 0 (length (inbox h.end.receiving)))) ≡ true → IsMessage (if b then [] else first_or [] (inbox h.end.receiving))
    by true f = absurd (cc f)
    by false f = first_message h.end.receiving.taken h.end.receiving.received (a h refl) (grind (arith, nat_tests, f))

-- a text with room for it goes, unless the numbers have come to their end
abbrev pub Goes : Outcome → Type 0
Goes o = (o ≡ Taken) ⊎ (o ≡ Exhausts)

by_tests : (up closing empty long full ended : Bool) → up ≡ true → closing ≡ false → empty ≡ false → long ≡ false → full ≡ false
    → Goes (users.wrote_by (answers.by_write (
    if not up then Err refusal.NotUp
    else if closing then Err refusal.Closing
    else if empty then Err refusal.Empty
    else if long then Err refusal.TooLong
    else if full then Err refusal.QueueFull
    else if ended then Err refusal.Exhausted
    else Ok tt)))
by_tests true false false false false true a b c d e = inr refl
by_tests true false false false false false a b c d e = inl refl
by_tests false closing empty long full ended a b c d e = absurd (cc a)
by_tests true true empty long full ended a b c d e = absurd (cc b)
by_tests true false true long full ended a b c d e = absurd (cc c)
by_tests true false false true full ended a b c d e = absurd (cc d)
by_tests true false false false true ended a b c d e = absurd (cc e)

pub write_goes : (o : Option Holder) (message : List ℕ) → users.room_by (facts_at o) ≡ true → ((h : Holder) → o ≡ Some h → h.end.closing ≡ false) → IsMessage message
    → Goes (users.wrote_by (answers.write_answer o message))
write_goes None message room unshut m = absurd (cc room)
write_goes (Some h) message room unshut m = by h.gone room
  where
    s : End
    s = h.end

    up : (is_up s.phase && nat_le (unacknowledged s.sending) 57344) ≡ true → Goes (users.wrote_by (answers.by_write (ends.write_answer s message)))
    up r =
        let both = and_parts (is_up s.phase) (nat_le (unacknowledged s.sending) 57344) r in
        let queued : unacknowledged s.sending ≤ 57344 = grind (arith, nat_tests, both.1) in
        let some : nat_eq (length message) 0 ≡ false = grind (arith, nat_tests, m.0) in
        let short : nat_lt 8192 (length message) ≡ false = grind (arith, nat_tests, m.1) in
        let most : unacknowledged s.sending + length message ≤ 65536 = omega (arith, queued, m.1) in
        let room : nat_lt 65536 (unacknowledged s.sending + length message) ≡ false = grind (arith, nat_tests, most) in
        by_tests (is_up s.phase) s.closing (nat_eq (length message) 0) (nat_lt 8192 (length message)) (nat_lt 65536 (unacknowledged s.sending + length message))
        (nat_lt (2 ^ 62) (all_fragments s.sending + length (fragments_of message))) both.0 (unshut h refl) some short room

    by : (b : Bool) → users.room_by (if b then None else Some (facts_of s)) ≡ true → Goes (users.wrote_by (if b then Err set_refusal.NoEnd else answers.by_write (ends.write_answer s message)))
    by true r = absurd (cc r)
    by false r = up r
