-- A session that has written what was taken, and is bounded, stays so as it hears, and as texts and messages go over its bridge.
use Rattle.std.proofs.Common.{◌≡◌, ◌≤◌, ◌∙◌, ◌⊎◌, inl, inr, ℕ, zero, suc, refl, sym, ap, subst, arith, append-nil, length, length-append, length-drop, length-take, take, List, [], ◌∷◌, ◌++◌, map, slice_get, slice_set}
use Rattle.std.specs.Prelude.{Bool, true, false, nat_eq, filter, if◌then◌else◌, Option, Some, None}
use Rattle.ax_address.specs.Callsign.{Callsign}
use Rattle.ax_link.specs.declared.notice.LinkNotice.{LinkNotice}
use Rattle.circuit_l4.specs.declared.notice.EndNotice.{EndNotice}
use Rattle.circuit_l4.specs.declared.notice.EndNotice.TheVariants as end
use Rattle.circuit_table.specs.Pumps.{Of}
use Rattle.circuit_table.specs.Sets.{CircuitTold, Made, Sent, Heeded, Notice, Gone, Restarted, Lost}
use Rattle.node_model.specs.declared.circuit.Circuit.{Circuit}
use Rattle.node_model.specs.declared.reply.Reply.TheVariants as reply
use Rattle.node_model.specs.declared.stage.Stage.{Stage}
use Rattle.node_model.specs.declared.stage.Stage.TheVariants.{AtPrompt, Trying, Failed, Connected}
use Rattle.node_model.specs.declared.user.User.{User}
use Rattle.node_model.specs.declared.user.User.TheVariants.{AtEnd}
use Rattle.node_core.specs.Bridged.{WritesTaken, most_replies}
use Rattle.node_model.specs.Bridging as bridging
use Rattle.node_model.specs.Sessions as s
use Rattle.node_model.specs.Sessions.{Session, after_opening, waits}
use Rattle.node_model.specs.Users as users
use Rattle.node_model.specs.Users.{Outcome, Taken, Exhausts, Unheard, Refused, change_if}

abbrev pub WritesAt : Stage → Session → Type 0
WritesAt AtPrompt x = Unit {0}
WritesAt (Trying c) x = Unit {0}
WritesAt (Failed c) x = Unit {0}
WritesAt (Connected c) x = WritesTaken x.bridge x.rest

pub record Sound (x : Session) : Type 0 where
  pub writes : WritesAt x.stage x
  pub rest : length x.rest ≤ 8192
  pub replies : length x.replies ≤ most_replies x.stage

abbrev pub Every : (Session → Type 0) → List Session → Type 0
Every P [] = Unit {0}
Every P (x ∷ ss) = P x × Every P ss

-- ---- what is heard

-- what is kept as a session hears what happens at the circuits
pub record Hears (P : Session → Type 0) : Type 0 where
  pub notice : (id : ℕ) (notice : EndNotice) (x : Session) → P x → P (s.hear_notice id notice x)
  pub gone : (id : ℕ) (x : Session) → P x → P (s.hear_gone id x)

opened_bridge : (c : Circuit) (notice : EndNotice) (x : Session) → WritesAt (s.stage_by c notice) (record x { stage = s.stage_by c notice; bridge = after_opening x.rest x.bridge })
opened_bridge c (end.Opened window) x = λ e. refl
opened_bridge c end.Refused x = tt
opened_bridge c end.Closed x = tt
opened_bridge c end.ClosedByPartner x = tt
opened_bridge c end.FailedRetries x = tt
opened_bridge c end.FailedOversize x = tt
opened_bridge c end.FailedInactive x = tt

one_reply : (c : Circuit) (notice : EndNotice) → most_replies (s.stage_by c notice) ≡ 1
one_reply c (end.Opened window) = refl
one_reply c end.Refused = refl
one_reply c end.Closed = refl
one_reply c end.ClosedByPartner = refl
one_reply c end.FailedRetries = refl
one_reply c end.FailedOversize = refl
one_reply c end.FailedInactive = refl

-- the bridge doesn't look at its replies
same_bridge : (stage : Stage) (x y : Session) → y.bridge ≡ x.bridge → y.rest ≡ x.rest → WritesAt stage x → WritesAt stage y
same_bridge AtPrompt x y e f b = tt
same_bridge (Trying c) x y e f b = tt
same_bridge (Failed c) x y e f b = tt
same_bridge (Connected c) x y e f b = rw (e, f) b

heard_tried : (c : Circuit) (notice : EndNotice) (x : Session) → x.stage ≡ Trying c → Sound x → Sound (s.hear_tried c notice x)
heard_tried c notice x e p =
    let few = ap most_replies e in
    record {
      writes = same_bridge (s.stage_by c notice) (record x { stage = s.stage_by c notice; bridge = after_opening x.rest x.bridge }) (s.hear_tried c notice x) refl refl (opened_bridge c notice x);
      rest = p.rest;
      replies = omega (arith, p.replies, few, one_reply c notice, length-append x.replies (s.told_by c.dest notice ∷ []));
    }

either : (P : Session → Type 0) (x y : Session) (b : Bool) → P x → P y → P (if b then y else x)
either P x y true p q = q
either P x y false p q = p

noticed_at : (id : ℕ) (notice : EndNotice) (x : Session) (stage : Stage) → x.stage ≡ stage → Sound x → Sound (s.notice_at stage id notice x)
noticed_at id notice x AtPrompt e p = p
noticed_at id notice x (Failed c) e p = p
noticed_at id notice x (Connected c) e p = p
noticed_at id notice x (Trying c) e p = either Sound x (s.hear_tried c notice x) (nat_eq c.id id) p (heard_tried c notice x e p)

gone_at : (id : ℕ) (x : Session) (stage : Stage) → x.stage ≡ stage → Sound x → Sound (s.gone_at stage id x)
gone_at id x AtPrompt e p = p
gone_at id x (Trying c) e p =
    let few = ap most_replies e in
    either Sound x (s.at_prompt x) (nat_eq c.id id) p (record { writes = tt; rest = p.rest; replies = omega (arith, p.replies, few) })
gone_at id x (Failed c) e p =
    let few = ap most_replies e in
    either Sound x (s.at_prompt x) (nat_eq c.id id) p (record { writes = tt; rest = p.rest; replies = omega (arith, p.replies, few) })
gone_at id x (Connected c) e p =
    let few = ap most_replies e in
    either Sound x (s.hear_end c x) (nat_eq c.id id) p (record { writes = tt; rest = p.rest; replies = omega (arith, p.replies, few, length-append x.replies (reply.Ended c.dest ∷ [])) })

pub sound_hears : Hears Sound
sound_hears = record {
  notice = λ id notice x p. noticed_at id notice x x.stage refl p;
  gone = λ id x p. gone_at id x x.stage refl p;
}

pub sound_new : (user : User) → Sound (s.new_session user)
sound_new user = record { writes = tt; rest = omega arith; replies = omega arith }

pub sound_leaves : (x : Session) → Sound x → Sound (s.leaves x)
sound_leaves x p = record { writes = same_bridge x.stage x (s.leaves x) refl refl p.writes; rest = p.rest; replies = p.replies }

-- ---- all of them

pub map_every : (P : Session → Type 0) (f : Session → Session) → ((x : Session) → P x → P (f x)) → (ss : List Session) → Every P ss → Every P (map f ss)
map_every P f on [] e = tt
map_every P f on (x ∷ ss) e = (on x e.0, map_every P f on ss e.1)

pub push_every : (P : Session → Type 0) (ss : List Session) (x : Session) → Every P ss → P x → Every P (ss ++ x ∷ [])
push_every P [] x e p = (p, tt)
push_every P (y ∷ ss) x e p = (e.0, push_every P ss x e.1 p)

pub every_at : (P : Session → Type 0) (ss : List Session) (nth : ℕ) (x : Session) → Every P ss → slice_get ss nth ≡ Some x → P x
every_at P [] nth x e f = absurd (cc f)
every_at P (y ∷ ss) zero x e f = let same : y ≡ x = cc f in subst P same e.0
every_at P (y ∷ ss) (suc nth) x e f = every_at P ss nth x e.1 f

set_every : (P : Session → Type 0) (ss : List Session) (nth : ℕ) (x : Session) → Every P ss → P x → Every P (slice_set ss nth x)
set_every P [] nth x e p = tt
set_every P (y ∷ ss) zero x e p = (p, e.1)
set_every P (y ∷ ss) (suc nth) x e p = (e.0, set_every P ss nth x e.1 p)

pub changed_every : (P : Session → Type 0) (f : Session → Session) (ss : List Session) (nth : ℕ) (o : Option Session) → ((x : Session) → o ≡ Some x → P (f x)) → Every P ss → Every P (change_if o nth f ss)
changed_every P f ss nth None on e = e
changed_every P f ss nth (Some x) on e = set_every P ss nth (f x) e (on x refl)

pub filter_every : (P : Session → Type 0) (test : Session → Bool) (ss : List Session) → Every P ss → Every P (filter test ss)
filter_every P test [] e = tt
filter_every P test (x ∷ ss) e = by (test x) (filter_every P test ss e.1)
  where
    by : (b : Bool) → Every P (filter test ss) → Every P (if b then x ∷ filter test ss else filter test ss)
    by true rest = (e.0, rest)
    by false rest = rest

pub greeted_every : (P : Session → Type 0) → ((user : User) → P (s.new_session user)) → (b : Bool) (user : User) (ss : List Session) → Every P ss → Every P (s.greet b user ss)
greeted_every P new true user ss e = push_every P ss (s.new_session user) e (new user)
greeted_every P new false user ss e = e

pub heard_every : (P : Session → Type 0) → Hears P → ((user : User) → P (s.new_session user)) → (prompt : Bool) (t : CircuitTold) (ss : List Session) → Every P ss → Every P (s.hear_circuits prompt (Of t) ss)
heard_every P h new prompt (Made id pair partner None) ss e = e
heard_every P h new prompt (Made id pair partner (Some d)) ss e = greeted_every P new prompt (AtEnd id) ss e
heard_every P h new prompt (Notice id notice) ss e = map_every P (s.hear_notice id notice) (h.notice id notice) ss e
heard_every P h new prompt (Gone id facts) ss e = map_every P (s.hear_gone id) (h.gone id) ss e
heard_every P h new prompt (Sent id number d) ss e = e
heard_every P h new prompt (Heeded id d) ss e = e
heard_every P h new prompt (Restarted pair) ss e = e
heard_every P h new prompt (Lost id facts) ss e = e

left_every : (P : Session → Type 0) → ((x : Session) → P x → P (s.leaves x)) → (b : Bool) (peer : Callsign) (ss : List Session) → Every P ss → Every P (if b then map (s.leave peer) ss else ss)
left_every P on true peer ss e = map_every P (s.leave peer) (λ x p. either P x (s.leaves x) (s.is_at_link peer x.user) p (on x p)) ss e
left_every P on false peer ss e = e

pub links_every : (P : Session → Type 0) → ((x : Session) → P x → P (s.leaves x)) → (ns : List (Callsign × LinkNotice)) (ss : List Session) → Every P ss → Every P (s.hear_links ns ss)
links_every P on [] ss e = e
links_every P on (x ∷ ns) ss e = links_every P on ns (s.hear_link x.0 x.1 ss) (left_every P on (s.ends_link x.1) x.0 ss e)

-- ---- one place

-- there is a session in a place, and it is such
pub record Placed (P : Session → Type 0) (nth : ℕ) (ss : List Session) : Type 0 where
  pub x : Session
  pub is : slice_get ss nth ≡ Some x
  pub holds : P x

map_placed : (P : Session → Type 0) (f : Session → Session) → ((x : Session) → P x → P (f x)) → (nth : ℕ) (ss : List Session) (x : Session) → slice_get ss nth ≡ Some x → P x → Placed P nth (map f ss)
map_placed P f on nth [] x e p = absurd (cc e)
map_placed P f on zero (y ∷ ss) x e p = let same : y ≡ x = cc e in record { x = f y; is = refl; holds = on y (subst P (sym same) p) }
map_placed P f on (suc nth) (y ∷ ss) x e p = let r = map_placed P f on nth ss x e p in record { x = r.x; is = r.is; holds = r.holds }

push_place : (nth : ℕ) (ss : List Session) (x y : Session) → slice_get ss nth ≡ Some x → slice_get (ss ++ y ∷ []) nth ≡ Some x
push_place nth [] x y e = absurd (cc e)
push_place zero (z ∷ ss) x y e = e
push_place (suc nth) (z ∷ ss) x y e = push_place nth ss x y e

greet_place : (P : Session → Type 0) (b : Bool) (user : User) (nth : ℕ) (ss : List Session) → Placed P nth ss → Placed P nth (s.greet b user ss)
greet_place P true user nth ss p = record { x = p.x; is = push_place nth ss p.x (s.new_session user) p.is; holds = p.holds }
greet_place P false user nth ss p = p

pub heard_place : (P : Session → Type 0) → Hears P → (prompt : Bool) (t : CircuitTold) (nth : ℕ) (ss : List Session) → Placed P nth ss → Placed P nth (s.hear_circuits prompt (Of t) ss)
heard_place P h prompt (Made id pair partner None) nth ss p = p
heard_place P h prompt (Made id pair partner (Some d)) nth ss p = greet_place P prompt (AtEnd id) nth ss p
heard_place P h prompt (Notice id notice) nth ss p = map_placed P (s.hear_notice id notice) (h.notice id notice) nth ss p.x p.is p.holds
heard_place P h prompt (Gone id facts) nth ss p = map_placed P (s.hear_gone id) (h.gone id) nth ss p.x p.is p.holds
heard_place P h prompt (Sent id number d) nth ss p = p
heard_place P h prompt (Heeded id d) nth ss p = p
heard_place P h prompt (Restarted pair) nth ss p = p
heard_place P h prompt (Lost id facts) nth ss p = p

set_here : (ss : List Session) (nth : ℕ) (x y : Session) → slice_get ss nth ≡ Some x → slice_get (slice_set ss nth y) nth ≡ Some y
set_here [] nth x y e = absurd (cc e)
set_here (z ∷ ss) zero x y e = refl
set_here (z ∷ ss) (suc nth) x y e = set_here ss nth x y e

pub changed_here : (f : Session → Session) (ss : List Session) (nth : ℕ) (x : Session) → slice_get ss nth ≡ Some x → slice_get (change_if (slice_get ss nth) nth f ss) nth ≡ Some (f x)
changed_here f ss nth x e = rw e (set_here ss nth x (f x) e)

-- what a session that hears keeps: its user, whether that has left or said BYE, and the rest of its text
pub record Same (y x : Session) : Type 0 where
  pub user : x.user ≡ y.user
  pub left : x.left ≡ y.left
  pub bye : x.bye ≡ y.bye
  pub rest : x.rest ≡ y.rest

same_notice : (id : ℕ) (notice : EndNotice) (y x : Session) (stage : Stage) → Same y x → Same y (s.notice_at stage id notice x)
same_notice id notice y x AtPrompt p = p
same_notice id notice y x (Failed c) p = p
same_notice id notice y x (Connected c) p = p
same_notice id notice y x (Trying c) p =
    either (Same y) x (s.hear_tried c notice x) (nat_eq c.id id) p (record { user = p.user; left = p.left; bye = p.bye; rest = p.rest })

same_gone : (id : ℕ) (y x : Session) (stage : Stage) → Same y x → Same y (s.gone_at stage id x)
same_gone id y x AtPrompt p = p
same_gone id y x (Trying c) p = either (Same y) x (s.at_prompt x) (nat_eq c.id id) p (record { user = p.user; left = p.left; bye = p.bye; rest = p.rest })
same_gone id y x (Failed c) p = either (Same y) x (s.at_prompt x) (nat_eq c.id id) p (record { user = p.user; left = p.left; bye = p.bye; rest = p.rest })
same_gone id y x (Connected c) p = either (Same y) x (s.hear_end c x) (nat_eq c.id id) p (record { user = p.user; left = p.left; bye = p.bye; rest = p.rest })

pub same_hears : (y : Session) → Hears (Same y)
same_hears y = record { notice = λ id notice x p. same_notice id notice y x x.stage p; gone = λ id x p. same_gone id y x x.stage p }

pub same_itself : (y : Session) → Same y y
same_itself y = record { user = refl; left = refl; bye = refl; rest = refl }

-- a session at the prompt to which no reply waits hears nothing
pub record Idle (x : Session) : Type 0 where
  pub stage : x.stage ≡ AtPrompt
  pub replies : x.replies ≡ []

idle_notice : (id : ℕ) (notice : EndNotice) (x : Session) (stage : Stage) → x.stage ≡ stage → Idle x → Idle (s.notice_at stage id notice x)
idle_notice id notice x AtPrompt e p = p
idle_notice id notice x (Failed c) e p = p
idle_notice id notice x (Connected c) e p = p
idle_notice id notice x (Trying c) e p = absurd (cc (e, p.stage))

idle_gone : (id : ℕ) (x : Session) (stage : Stage) → x.stage ≡ stage → Idle x → Idle (s.gone_at stage id x)
idle_gone id x AtPrompt e p = p
idle_gone id x (Trying c) e p = absurd (cc (e, p.stage))
idle_gone id x (Failed c) e p = absurd (cc (e, p.stage))
idle_gone id x (Connected c) e p = absurd (cc (e, p.stage))

pub idle_hears : Hears Idle
idle_hears = record { notice = λ id notice x p. idle_notice id notice x x.stage refl p; gone = λ id x p. idle_gone id x x.stage refl p }

-- ---- what goes over the bridge

waits_some : (text : List ℕ) → 1 ≤ length text → waits text ≡ text ∷ []
waits_some [] e = absurd (omega (arith, e))
waits_some (b ∷ bs) e = refl

take_whole : (k : ℕ) (xs : List ℕ) → length xs ≤ k → take k xs ≡ xs
take_whole zero [] few = refl
take_whole zero (x ∷ xs) few = absurd (omega (arith, few))
take_whole (suc k) [] few = refl
take_whole (suc k) (x ∷ xs) few = ap (λ (ys : List ℕ). x ∷ ys) (take_whole k xs (omega (arith, few)))

-- a text was taken, where none was left
pub sound_text : (text : List ℕ) (x : Session) → 1 ≤ length text → length text ≤ 8192 → length x.rest ≤ 0 → Sound x → Sound (users.with_text text x)
sound_text text x some short none p = record { writes = by x.stage p.writes; rest = few; replies = p.replies }
  where
    few : length (take 8192 text) ≤ 8192
    few = let l = length-take 8192 text in grind (arith, l)

    gone : (xs : List ℕ) → length xs ≤ 0 → xs ≡ []
    gone [] e = refl
    gone (b ∷ bs) e = absurd (omega (arith, e))

    writes : WritesTaken x.bridge x.rest → WritesTaken (users.with_text text x).bridge (take 8192 text)
    writes w e =
        let before : x.bridge.taken ≡ x.bridge.wrote ++ [] = w e ∙ ap (λ (r : List ℕ). x.bridge.wrote ++ waits r) (gone x.rest none) in
        let all : x.bridge.taken ≡ x.bridge.wrote = before ∙ append-nil x.bridge.wrote in
        let whole : take 8192 text ≡ text = take_whole 8192 text short in
        rw (whole, waits_some text some, all) refl

    by : (stage : Stage) → WritesAt stage x → WritesAt stage (users.with_text text x)
    by AtPrompt b = tt
    by (Trying c) b = tt
    by (Failed c) b = tt
    by (Connected c) b = writes b

-- what is left was written
pub sound_wrote : (outcome : Outcome) (text : List ℕ) (x : Session) → x.rest ≡ text → 1 ≤ length text → (outcome ≡ Taken) ⊎ (outcome ≡ Exhausts) → Sound x
    → Sound (bridging.log_wrote outcome text x)
sound_wrote outcome text x e some good p = record { writes = by x.stage p.writes; rest = omega arith; replies = p.replies }
  where
    taken : WritesTaken x.bridge x.rest → x.bridge.exhausted ≡ false → x.bridge.taken ≡ (x.bridge.wrote ++ text ∷ []) ++ []
    taken w f = w f ∙ (ap (λ (r : List ℕ). x.bridge.wrote ++ waits r) e ∙ (ap (λ (r : List (List ℕ)). x.bridge.wrote ++ r) (waits_some text some) ∙ sym (append-nil (x.bridge.wrote ++ text ∷ []))))

    goes : (outcome ≡ Taken) ⊎ (outcome ≡ Exhausts) → WritesTaken x.bridge x.rest → WritesTaken (bridging.after_writing outcome text x.bridge) []
    goes (inl f) b = rw f (λ g. taken b g)
    goes (inr f) b = rw f (λ g. absurd (cc g))

    by : (stage : Stage) → WritesAt stage x → WritesAt stage (bridging.log_wrote outcome text x)
    by AtPrompt b = tt
    by (Trying c) b = tt
    by (Failed c) b = tt
    by (Connected c) b = goes good b

-- a message was taken from the circuit, and went to the user or was dropped
pub sound_gave : (outcome : Outcome) (message : List ℕ) (x : Session) → Sound x → Sound (bridging.log_gave outcome message (bridging.log_got message x))
sound_gave outcome message x p = record { writes = by x.stage p.writes; rest = p.rest; replies = p.replies }
  where
    goes : (o : Outcome) → WritesTaken x.bridge x.rest → WritesTaken (bridging.log_gave o message (bridging.log_got message x)).bridge x.rest
    goes Taken w = w
    goes Exhausts w = λ e. absurd (cc e)
    goes Unheard w = w
    goes Refused w = w

    by : (stage : Stage) → WritesAt stage x → WritesAt stage (bridging.log_gave outcome message (bridging.log_got message x))
    by AtPrompt b = tt
    by (Trying c) b = tt
    by (Failed c) b = tt
    by (Connected c) b = goes outcome b

-- its circuit was closed
pub sound_closed : (x : Session) → Sound x → Sound (bridging.note_closed x)
sound_closed x p = record { writes = by x.stage refl p.writes; rest = p.rest; replies = few x.stage refl }
  where
    by : (stage : Stage) → x.stage ≡ stage → WritesAt stage x → WritesAt (bridging.stage_closed x.stage) (bridging.note_closed x)
    by AtPrompt e b = rw e tt
    by (Trying c) e b = rw e tt
    by (Failed c) e b = rw e tt
    by (Connected c) e b = rw e b

    few : (stage : Stage) → x.stage ≡ stage → length x.replies ≤ most_replies (bridging.stage_closed x.stage)
    few AtPrompt e = let r = ap most_replies e in rw e (omega (arith, p.replies, r))
    few (Trying c) e = let r = ap most_replies e in rw e (omega (arith, p.replies, r))
    few (Failed c) e = let r = ap most_replies e in rw e (omega (arith, p.replies, r))
    few (Connected c) e = let r = ap most_replies e in rw e (omega (arith, p.replies, r))

pub sound_reply : (x : Session) → Sound x → Sound (bridging.drop_reply x)
sound_reply x p = record {
  writes = same_bridge x.stage x (bridging.drop_reply x) refl refl p.writes;
  rest = p.rest;
  replies = omega (arith, p.replies, length-drop 1 x.replies);
}

-- at the prompt its text may be cut
pub sound_at_prompt : (x : Session) → x.stage ≡ AtPrompt → length x.rest ≤ 8192 → length x.replies ≤ 2 → Sound x
sound_at_prompt x e few r = record { writes = rw e tt; rest = few; replies = rw e r }
