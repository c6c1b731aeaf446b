-- Giving a user replies and messages keeps a node fine.
use Rattle.std.proofs.Common.{◌≡◌, ◌≤◌, ◌<◌, ◌+◌, ◌∙◌, inl, inr, ℕ, zero, suc, refl, sym, ap, subst, arith, List, [], ◌∷◌, ◌++◌, slice_get, slice_set}
use Rattle.std.specs.Prelude.{Bool, true, false, not, ◌||◌, ◌&&◌, nat_eq, if◌then◌else◌, Option, Some, None, Result, Ok}
use Rattle.std.proofs.lemmas.Bool.Decides.{nat_tests}
use Rattle.std.proofs.lemmas.Bool.{or_parts, ne_eqb}
use Rattle.ax_address.specs.Callsign.{Callsign}
use Rattle.circuit_table.specs.CircuitSets.{facts_at}
use Rattle.circuit_table.specs.Sets as sets
use Rattle.circuit_table.specs.Pumps.{Of}
use Rattle.circuit_table.specs.Sets.{Holder, SetState, CircuitTold, end_of, set_step}
use Rattle.circuit_table.specs.Standing as answers
use Rattle.link_table.specs.declared.text_refusal.TextRefusal.{TextRefusal}
use Rattle.node_model.specs.declared.circuit.Circuit.{Circuit}
use Rattle.node_model.specs.declared.reply.Reply.{Reply}
use Rattle.node_model.specs.declared.user.User.{User}
use Rattle.node_model.specs.declared.user.User.TheVariants.{AtEnd, AtLink}
use Rattle.node_model.specs.Bridging as bridging
use Rattle.node_model.specs.Links as links
use Rattle.node_model.specs.Pumping.{at_router, pump}
use Rattle.node_model.specs.Serving.{is_at_end, is_circuit}
use Rattle.node_model.specs.Sessions.{Session, circuit_of, hear_circuits}
use Rattle.node_model.specs.States.{State, at_set}
use Rattle.node_model.specs.Turns.{done, idle}
use Rattle.node_model.specs.Users as users
use Rattle.node_model.specs.Users.{Outcome, at_session, change_if, session_at}
use Rattle.node_core.proofs.Fine.{Dry, Fine, Goes, fewer_at, pumped_dry, said, session_fine, took_message, write_goes}
use Rattle.node_core.proofs.Ends.{end_in, every_in, number_of}
use Rattle.node_core.proofs.Holders.{Any, AreOpen, others_stay, takes_keep}
use Rattle.node_core.proofs.Given.{Given, IsGood, deaf, deaf_is, given_gave, given_heard, given_later, given_reply}
use Rattle.node_core.proofs.Making.{step_ok}
use Rattle.node_core.proofs.Others.{But, NotIts, but_hear, but_on, but_whole, only}
use Rattle.node_core.proofs.Soundness.{Every, Placed, Same, Sound, changed_every, changed_here, every_at, heard_every, heard_place, same_hears, same_itself, sound_gave, sound_hears, sound_new, sound_reply}
use Rattle.node_core.proofs.Owning.{Less, Owns, at_least, but_here, mades, opens_by, owned_by, owns_fewer, owns_input, owns_told, total, asked_by}
use Rattle.node_core.proofs.Pumped.{dry_keeps}
use Rattle.node_core.proofs.Rooms.{room_after, text_goes}
use Rattle.node_core.proofs.Unclosed.{IsMessage, Messages}
use Rattle.node_core.proofs.Wrote.{WillBe, Written, its_taken, will_hear, written_gave, written_hears, written_new, written_other, written_same}
use Rattle.node_core.proofs.Leaving.{calls_leaves}

-- ---- a session in its place

pub less_same : (x y : Session) → y.user ≡ x.user → y.bye ≡ x.bye → y.stage ≡ x.stage → Less x y
less_same x y e f g = record {
  owned = λ id. let same : owned_by id y ≡ owned_by id x = rw (e, g) refl in omega (arith, same);
  opens = λ id. let same : opens_by id y ≡ opens_by id x = rw (e, f, g) refl in omega (arith, same);
  asked = λ id. let same : asked_by id y ≡ asked_by id x = rw g refl in omega (arith, same);
}

twice : (ss : List Session) (nth : ℕ) (x y : Session) → slice_set (slice_set ss nth x) nth y ≡ slice_set ss nth y
twice [] nth x y = refl
twice (z ∷ ss) zero x y = refl
twice (z ∷ ss) (suc nth) x y = ap (λ (zs : List Session). z ∷ zs) (twice ss nth x y)

put_is : (ss : List Session) (nth : ℕ) (x y : Session) → slice_get ss nth ≡ Some x → slice_get (slice_set ss nth y) nth ≡ Some y
put_is [] nth x y e = absurd (cc e)
put_is (z ∷ ss) zero x y e = refl
put_is (z ∷ ss) (suc nth) x y e = put_is ss nth x y e

changed_twice : (f g : Session → Session) (ss : List Session) (nth : ℕ) (x : Session) → slice_get ss nth ≡ Some x
    → change_if (slice_get (change_if (Some x) nth f ss) nth) nth g (change_if (Some x) nth f ss) ≡ slice_set ss nth (g (f x))
changed_twice f g ss nth x e = rw (put_is ss nth x (f x) e) (twice ss nth (f x) (g (f x)))

-- two changes of one session are one
both_changed : (f g : Session → Session) (n : State) (nth : ℕ) (x : Session) → session_at nth n ≡ Some x
    → at_session nth g (at_session nth f n) ≡ at_session nth (λ y. g (f y)) n
both_changed f g n nth x e =
    ap (λ (ss : List Session). record n { sessions = ss }) (ap (λ (o : Option Session). change_if (slice_get (change_if o nth f n.sessions) nth) nth g (change_if o nth f n.sessions)) e
    ∙ (changed_twice f g n.sessions nth x e ∙ sym (ap (λ (o : Option Session). change_if o nth (λ y. g (f y)) n.sessions) e)))

-- ---- what is owned

-- the user's end isn't that of the circuit
pub ends_differ : (u : ℕ) (n : State) (nth : ℕ) (x : Session) → Fine n → session_at nth n ≡ Some x → x.user ≡ AtEnd u → (c : Circuit) → circuit_of x.stage ≡ Some c → c.id ≡ u → ⊥
ends_differ u n nth x f e g c h same =
    let self : nat_eq u u ≡ true = grind (arith, nat_tests) in
    let mine : is_at_end u x.user ≡ true = rw g self in
    let its : is_circuit u (circuit_of x.stage) ≡ true = rw (h, same) self in
    let two : owned_by u x ≡ 2 = rw (mine, its) refl in
    let least = at_least (owned_by u) n.sessions nth x e in
    omega (arith, least, two, f.0.few u)

-- the end of a number is open where one that owns it has neither closed it nor said BYE
pub open_end : (id : ℕ) (n : State) (nth : ℕ) (x : Session) → Fine n → session_at nth n ≡ Some x → 0 < opens_by id x → AreOpen id n.set.set.ends
open_end id n nth x f e some = let least = at_least (opens_by id) n.sessions nth x e in f.0.unshut id (omega (arith, least, some))

-- one that is open no longer of the session that owns it is open of none
pub shut_end : (id : ℕ) (n : State) (nth : ℕ) (x : Session) → Fine n → session_at nth n ≡ Some x → opens_by id x ≡ 0 → 0 < owned_by id x → total (opens_by id) n.sessions + mades id n.set.untold ≡ 0
shut_end id n nth x f e none some =
    let least = at_least (owned_by id) n.sessions nth x e in
    omega (arith, but_here id n.sessions nth x e, none, some, least, f.0.few id)

pub closing_of : (id : ℕ) (hs : List Holder) (h : Holder) → AreOpen id hs → end_of id hs ≡ Some h → h.end.closing ≡ false
closing_of id hs h unshut e = every_in (λ x. x.id ≡ id → x.end.closing ≡ false) h hs unshut (end_in id hs h e) (number_of id hs h e)

pub messages_of : (id : ℕ) (n : State) → Fine n → (h : Holder) → users.end_at id n ≡ Some h → Messages h.end.receiving.received
messages_of id n f h e = every_in (λ x. Messages x.end.receiving.received) h n.set.set.ends f.0.messages (end_in id n.set.set.ends h e)

spoken_for : (u : ℕ) (x : Session) → x.user ≡ AtEnd u → x.bye ≡ false → 0 < opens_by u x
spoken_for u x g spoke =
    let self : nat_eq u u ≡ true = grind (arith, nat_tests) in
    rw (g, spoke, self) (omega arith)

-- ---- replies

pub replied : (o : Option Reply) (now nth : ℕ) (n : State) → Fine n → Fine (bridging.reply_by o now nth n).after
replied None now nth n f = f
replied (Some r) now nth n f =
    let m : State = at_session nth bridging.drop_reply n in
    said now nth _ m (session_fine nth bridging.drop_reply n (λ x e s. sound_reply x s) (λ x e g. given_reply n.set.set x g) (λ x w. written_same n.set.set x (bridging.drop_reply x) refl refl refl w) (λ x. less_same x (bridging.drop_reply x) refl refl refl) f)

-- ---- messages

or_rest : (a b : Bool) → (a || b) ≡ true → a ≡ false → b ≡ true
or_rest true b e f = absurd (cc f)
or_rest false b e f = e

pub not_and : (a b : Bool) → (not a && b) ≡ true → (a ≡ false) × (b ≡ true)
not_and true b e = absurd (cc e)
not_and false b e = (refl, e)

good_wrote : (set : SetState) (d : Bool) (o : Outcome) → Goes o → IsGood set d o
good_wrote set d o (inl e) = rw e tt
good_wrote set d o (inr e) = rw e tt

good_sent : (set : SetState) (d : Bool) (r : Result (Unit {0}) TextRefusal) → r ≡ Ok tt → IsGood set d (users.sent_by r)
good_sent set d r e = rw e tt

-- a message that is given to a session's user after this, from a state in which its side had room
module _ (now nth id : ℕ) (n m : State) (x z : Session) (message : List ℕ) (f : Fine n) (e : session_at nth n ≡ Some x) (is : IsMessage message)
    (user : z.user ≡ x.user) (left : z.left ≡ x.left) (bye : z.bye ≡ x.bye)
    (ends : (u : ℕ) → x.user ≡ AtEnd u → users.end_at u m ≡ users.end_at u n)
    (room : (peer : Callsign) → users.link_has_room_beside peer id n ≡ true → 33 ≤ links.room peer m.links)
    (gives : users.can_pass_on x id n ≡ true) where
  abbrev IsFine : Outcome → Type 0
  IsFine o = IsGood m.set.set (users.is_deaf z m) o

  heard_at_end : (u : ℕ) → x.user ≡ AtEnd u → users.is_deaf z m ≡ false → IsFine (users.wrote_by (users.write_answer u message m))
  heard_at_end u g deaf =
      let at = user ∙ g in
      let same = ends u g in
      let parts = or_parts z.bye (users.has_ended z m) deaf in
      let hears : users.has_ended z m ≡ users.has_ended x n = rw (at, g, same) refl in
      let before : users.is_deaf x n ≡ false = rw (← bye, parts.0) (sym hears ∙ parts.1) in
      let room : users.has_room_beside x id n ≡ true = or_rest (users.is_deaf x n) (users.has_room_beside x id n) gives before in
      let here : users.room_by (facts_at (users.end_at u m)) ≡ true = rw same (subst (λ (y : User). users.has_room_beside_at y id x.left n ≡ true) g room) in
      let spoke : x.bye ≡ false = sym bye ∙ parts.0 in
      let some = spoken_for u x g spoke in
      let unshut = open_end u n nth x f e some in
      good_wrote m.set.set (users.is_deaf z m) _ (write_goes (users.end_at u m) message here (λ h k. closing_of u n.set.set.ends h unshut (sym same ∙ k)) is)

  heard_at_link : (peer : Callsign) → x.user ≡ AtLink peer → users.is_deaf z m ≡ false → IsFine (users.sent_by (links.text_answer peer message m.links))
  heard_at_link peer g deaf =
      let at = user ∙ g in
      let parts = or_parts z.bye (users.has_ended z m) deaf in
      let hears : users.has_ended z m ≡ users.has_ended x n = rw (at, g, left) refl in
      let before : users.is_deaf x n ≡ false = rw (← bye, parts.0) (sym hears ∙ parts.1) in
      let has : users.has_room_beside x id n ≡ true = or_rest (users.is_deaf x n) (users.has_room_beside x id n) gives before in
      let here : users.has_room_beside_at (AtLink peer) id x.left n ≡ true = subst (λ (y : User). users.has_room_beside_at y id x.left n ≡ true) g has in
      let both = not_and x.left (users.link_has_room_beside peer id n) here in
      good_sent m.set.set (users.is_deaf z m) _ (text_goes peer message m.links is.1 (room peer both.1))

  goes_to : (y : User) → x.user ≡ y → users.is_deaf z m ≡ false → IsFine (users.outcome_at y message m)
  goes_to (AtEnd u) g deaf = heard_at_end u g deaf
  goes_to (AtLink peer) g deaf = heard_at_link peer g deaf

  good_said : IsFine (users.outcome_if (users.listener (Some z) m) message m)
  good_said = by (users.is_deaf z m) refl
    where
      by : (b : Bool) → users.is_deaf z m ≡ b → IsFine (users.outcome_if (if b then None else Some z.user) message m)
      by true d = d
      by false d = subst (λ (y : User). IsFine (users.outcome_at y message m)) (sym user) (goes_to x.user refl d)

-- a message was taken from the circuit of the session in a place, and isn't noted there: all else is fine, and so will that be once it is
record IsTaking (old : SetState) (message : List ℕ) (nth : ℕ) (set : SetState) (ts : List CircuitTold) (ss : List Session) : Type 0 where
  same : set ≡ old
  owns : Owns set ts ss
  sound : Every Sound ss
  given : Every (Given set) ss
  others : But (Written set) nth ss
  its : Placed (WillBe set message) nth ss

taking_told : (old : SetState) (message : List ℕ) (nth : ℕ) (prompt : Bool) (set : SetState) (t : CircuitTold) (ts : List CircuitTold) (ss : List Session) → IsTaking old message nth set (t ∷ ts) ss
    → IsTaking old message nth set ts (hear_circuits prompt (Of t) ss)
taking_told old message nth prompt set t ts ss a = record {
  same = a.same;
  owns = owns_told prompt set t ts ss a.owns;
  sound = heard_every Sound sound_hears sound_new prompt t ss a.sound;
  given = given_heard set prompt t ts ss a.owns a.given;
  others = but_hear (Written set) (written_hears set) (written_new set) nth prompt t ss a.others;
  its = heard_place (WillBe set message) (will_hear set message) prompt t nth ss a.its;
}

taking : (now nth : ℕ) (n : State) (x : Session) (c : Circuit) → Fine n → session_at nth n ≡ Some x → circuit_of x.stage ≡ Some c → users.has_taken (answers.take_answer (users.end_at c.id n)) ≡ true
    → (let d = set_step n.set.set (sets.Calls c.id sets.Takes now) in IsTaking d.set (answers.message_at [] (users.end_at c.id n)) nth d.set (n.set.untold ++ d.told) n.sessions)
taking now nth n x c f e h t =
    let set : SetState = n.set.set in
    let a : sets.Act = sets.Calls c.id sets.Takes now in
    let d = set_step set a in
    let k = takes_keep set now c.id in
    let its = only set n.set.untold n.sessions nth c x f.0 e h in
    record {
      same = refl;
      owns = owns_input Any set d n.set.untold n.sessions f.0 k (step_ok set a tt).made (λ i some. tt) (λ i some. tt) (calls_leaves set c.id sets.Takes now);
      sound = f.1.0;
      given = given_later set d.set k.number (λ i low g. k.ended i f.0.once low g) (λ i low g. k.away i f.0.once low g) n.sessions f.1.1.0;
      others = but_on (NotIts c.id) (Written set) (Written d.set) (λ y other w. written_other set sets.Takes now c.id y other w) nth n.sessions its f.1.1.1;
      its = record { x = x; is = e; holds = its_taken set now c x t h (every_at (Written set) n.sessions nth x f.1.1.1 e) };
    }

-- once it is noted, all is fine
taken_fine : (old : SetState) (message : List ℕ) (nth : ℕ) (n : State) (outcome : Outcome) → IsTaking old message nth n.set.set n.set.untold n.sessions
    → ((y : Session) → session_at nth n ≡ Some y → Given n.set.set y → Given n.set.set (bridging.log_gave outcome message (bridging.log_got message y)))
    → Fine (at_session nth (λ y. bridging.log_gave outcome message (bridging.log_got message y)) n)
taken_fine old message nth n outcome a given = (
  owns_fewer set n.set.untold ss _ a.owns (fewer_at nth both ss (slice_get ss nth) refl (λ y. less_same y (both y) refl refl refl)),
  (
    changed_every Sound both ss nth (slice_get ss nth) (λ y k. sound_gave outcome message y (every_at Sound ss nth y a.sound k)) a.sound,
    (
      changed_every (Given set) both ss nth (slice_get ss nth) (λ y k. given y k (every_at (Given set) ss nth y a.given k)) a.given,
      subst (λ (o : Option Session). Every (Written set) (change_if o nth both ss)) (sym a.its.is)
          (but_whole (Written set) nth (both a.its.x) ss (written_gave set outcome message (bridging.log_got message a.its.x) a.its.holds) a.others),
    ),
  ),
)
  where
    set : SetState
    set = n.set.set

    ss : List Session
    ss = n.sessions

    both : Session → Session
    both y = bridging.log_gave outcome message (bridging.log_got message y)

-- what of a session's circuit came to the node is given to its user
given_from : (now nth : ℕ) (n : State) (x : Session) (c : Circuit) → Fine n → at_router n ≡ 0 → n.set.untold ≡ [] → session_at nth n ≡ Some x → circuit_of x.stage ≡ Some c → users.can_pass_on x c.id n ≡ true
    → Fine (bridging.give_from now nth c.id n).after
unfolding links.acts
given_from now nth n x c f router none e h gives = by (users.has_taken (answers.take_answer (users.end_at c.id n))) refl
  where
    message : List ℕ
    message = answers.message_at [] (users.end_at c.id n)

    took : State
    took = at_set (links.acts (sets.Calls c.id sets.Takes now)) n

    told : State
    told = pump now took

    dry : Dry (Same x) nth took told
    dry = pumped_dry (Same x) (same_hears x) now nth took router (record { x = x; is = e; holds = same_itself x })

    got : State
    got = at_session nth (bridging.log_got message) told

    z : Session
    z = bridging.log_got message dry.placed.x

    at_got : session_at nth got ≡ Some z
    at_got = changed_here (bridging.log_got message) told.sessions nth dry.placed.x dry.placed.is

    ends : (u : ℕ) → x.user ≡ AtEnd u → users.end_at u got ≡ users.end_at u n
    ends u g =
        ap (λ (set : SetState). end_of u set.ends) dry.set
        ∙ others_stay n.set.set u c.id sets.Takes now (ne_eqb c.id u (ends_differ u n nth x f e g c h))

    room : users.has_taken (answers.take_answer (users.end_at c.id n)) ≡ true → (peer : Callsign) → users.link_has_room_beside peer c.id n ≡ true → 33 ≤ links.room peer got.links
    room t peer has = room_after now c.id n peer f.0.named router none t has

    outcome : Outcome
    outcome = users.outcome_for nth message got

    good : users.has_taken (answers.take_answer (users.end_at c.id n)) ≡ true → IsMessage message → IsGood told.set.set (users.is_deaf z got) outcome
    good t is =
        subst (λ (o : Option Session). IsGood told.set.set (users.is_deaf z got) (users.outcome_if (users.listener o got) message got)) (sym at_got)
        (good_said now nth c.id n got x z message f e is dry.placed.holds.user dry.placed.holds.left dry.placed.holds.bye ends (room t) gives)

    gave : State
    gave = at_session nth (bridging.log_gave outcome message) got

    both : Session → Session
    both y = bridging.log_gave outcome message (bridging.log_got message y)

    given_both : users.has_taken (answers.take_answer (users.end_at c.id n)) ≡ true → IsMessage message → (y : Session) → session_at nth told ≡ Some y → Given told.set.set y → Given told.set.set (both y)
    given_both t is y k g =
        let found : Some dry.placed.x ≡ Some y = sym dry.placed.is ∙ k in
        let same : dry.placed.x ≡ y = cc found in
        let heard : IsGood told.set.set (deaf told.set.set z) outcome = subst (λ (d : Bool). IsGood told.set.set d outcome) (deaf_is z got) (good t is) in
        given_gave told.set.set outcome message y (subst (λ (w : Session). IsGood told.set.set (deaf told.set.set w) outcome) same heard) g

    by : (b : Bool) → users.has_taken (answers.take_answer (users.end_at c.id n)) ≡ b → Fine (if b then done (users.say now nth message gave) else idle n).after
    by false t = f
    by true t =
        let is = took_message (users.end_at c.id n) t (messages_of c.id n f) in
        let same : gave ≡ at_session nth both told = both_changed (bridging.log_got message) (bridging.log_gave outcome message) told nth dry.placed.x dry.placed.is in
        let taken = dry_keeps (IsTaking took.set.set message nth) (taking_told took.set.set message nth) now took router (taking now nth n x c f e h t) in
        let fine = taken_fine took.set.set message nth told outcome taken (given_both t is) in
        said now nth message gave (subst Fine (sym same) fine)

pub given : (now nth : ℕ) (n : State) → Fine n → at_router n ≡ 0 → n.set.untold ≡ [] → (o : Option Session) → session_at nth n ≡ o → Fine (bridging.give_of (bridging.giving_circuit o n) now nth n).after
given now nth n f router none None e = f
given now nth n f router none (Some x) e = of (circuit_of x.stage) refl
  where
    by : (c : Circuit) → circuit_of x.stage ≡ Some c → (b : Bool) → users.can_pass_on x c.id n ≡ b → Fine (bridging.give_of (if b then Some c else None) now nth n).after
    by c h false g = f
    by c h true g = given_from now nth n x c f router none e h g

    of : (o : Option Circuit) → circuit_of x.stage ≡ o → Fine (bridging.give_of (bridging.giving_by x o n) now nth n).after
    of None h = f
    of (Some c) h = by c h (users.can_pass_on x c.id n) refl
