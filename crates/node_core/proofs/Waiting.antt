-- What waits when the users were served and nothing could be done waits for room, and to serve them again does nothing.
use Rattle.std.proofs.Common.{◌≡◌, ◌<◌, ◌+◌, ◌∙◌, ℕ, suc, refl, sym, ap, subst, arith, length, List, [], ◌∷◌, ◌++◌, slice_get}
use Rattle.std.specs.List.{AllByRecursion}
use Rattle.std.specs.Prelude.{Bool, true, false, not, ◌||◌, ◌&&◌, filter, is_none, is_some, nat_le, nat_lt, if◌then◌else◌, Option, Some, None}
use Rattle.std.proofs.lemmas.Bool.{or_parts, not-true}
use Rattle.std.proofs.Math.Bool.{or-true}
use Rattle.ax_address.specs.Callsign.{Callsign, same_call}
use Rattle.ax_address.proofs.SameCalls.{call_refl}
use Rattle.circuit_table.specs.CircuitSets.{partner_at}
use Rattle.circuit_table.specs.Pumps.{TellsLess}
use Rattle.link_table.specs.Kept.{OffersLeave, TakesLower}
use Rattle.node_model.specs.declared.circuit.Circuit.{Circuit}
use Rattle.node_model.specs.declared.reply.Reply.{Reply}
use Rattle.node_model.specs.declared.stage.Stage.{Stage}
use Rattle.node_model.specs.declared.stage.Stage.TheVariants.{AtPrompt, Trying, Failed, Connected}
use Rattle.node_model.specs.declared.user.User.{User}
use Rattle.node_model.specs.declared.user.User.TheVariants.{AtEnd, AtLink}
use Rattle.node_model.specs.Asking as asking
use Rattle.node_model.specs.Bridging as bridging
use Rattle.node_model.specs.Links as links
use Rattle.node_model.specs.Pumping.{at_router}
use Rattle.node_model.specs.Serving as serving
use Rattle.node_model.specs.Sessions as sessions
use Rattle.node_model.specs.Sessions.{Session, circuit_of}
use Rattle.node_model.specs.States.{State}
use Rattle.node_model.specs.Turns.{Turn, done, idle, or_else}
use Rattle.node_model.specs.Users as users
use Rattle.node_model.specs.Users.{at_session, session_at}
use Rattle.node_core.specs.Waits.{WaitsForRoom, has_message, has_text, has_text_at}
use Rattle.node_model.proofs.Falling as falling
use Rattle.node_model.proofs.Falling.{IsPumped, pumps_alike}
use Rattle.node_model.proofs.Lowering as lowering

-- ---- whether something is done

if_did : (b : Bool) (x y : State) → (if b then done x else idle y).did ≡ b
if_did true x y = refl
if_did false x y = refl

take_if_did : (b : Bool) (x n : State) → (users.take_if b x n).did ≡ b
take_if_did true x n = refl
take_if_did false x n = refl

if_text_did : (t : Turn State) (step : State → State) → (asking.if_text t step).did ≡ t.did
if_text_did t step = if_did t.did (step t.after) t.after

reply_did : (now nth : ℕ) (n : State) (s : Session) → (bridging.reply_by (bridging.next_reply (Some s) n) now nth n).did ≡ (users.can_give s n && is_some (slice_get s.replies 0))
reply_did now nth n s = by (users.can_give s n) (slice_get s.replies 0)
  where
    by : (b : Bool) (r : Option Reply) → (bridging.reply_by (if b then r else None) now nth n).did ≡ (b && is_some r)
    by true None = refl
    by true (Some r) = refl
    by false r = refl

message_did : (now nth : ℕ) (n : State) (s : Session) (c : Circuit) → (bridging.give_of (bridging.giving_by s (Some c) n) now nth n).did ≡ (users.can_pass_on s c.id n && has_message c.id n)
message_did now nth n s c = by (users.can_pass_on s c.id n)
  where
    by : (b : Bool) → (bridging.give_of (if b then Some c else None) now nth n).did ≡ (b && has_message c.id n)
    by true = if_did (has_message c.id n) _ n
    by false = refl

text_did : (now nth : ℕ) (n : State) (s : Session) → session_at nth n ≡ Some s → (bridging.next_text now nth n).did ≡ has_text s n
text_did now nth n s e =
    subst (λ (o : Option Session). (if bridging.has_rest o then done n else users.take_by (users.present o) now nth n).did ≡ has_text s n) (sym e) (by (nat_lt 0 (length s.rest)) s.left s.user)
  where
    at : (u : User) → (users.take_next u now nth n).did ≡ has_text_at u n
    at (AtEnd id) = take_if_did (has_message id n) _ n
    at (AtLink peer) = take_if_did (links.has_text peer n.links) _ n

    by : (a b : Bool) (u : User) → (if a then done n else users.take_by (if b then None else Some u) now nth n).did ≡ (a || (not b && has_text_at u n))
    by true b u = refl
    by false true u = refl
    by false false u = at u

line_did : (now nth : ℕ) (n : State) (s : Session) → session_at nth n ≡ Some s → (asking.take_line now nth n).did ≡ (users.can_give s n && has_text s n)
line_did now nth n s e =
    subst (λ (o : Option Session). (if asking.is_deaf_at o n then asking.drop_text_of now nth n else (if asking.has_room_at o n then asking.do_next_line now nth n else idle n)).did ≡ (users.can_give s n && has_text s n)) (sym e)
    (by (users.is_deaf s n) (users.has_room s n))
  where
    by : (a b : Bool) → (if a then asking.drop_text_of now nth n else (if b then asking.do_next_line now nth n else idle n)).did ≡ ((a || b) && has_text s n)
    by true b = if_text_did (bridging.next_text now nth n) (at_session nth bridging.drop_rest) ∙ text_did now nth n s e
    by false true = if_text_did (bridging.next_text now nth n) (asking.do_line now nth) ∙ text_did now nth n s e
    by false false = refl

write_did : (now nth : ℕ) (n : State) (s : Session) (c : Circuit) → session_at nth n ≡ Some s → (bridging.write_text now nth c n).did ≡ ((not c.closed && users.end_has_room c.id n) && has_text s n)
write_did now nth n s c e = by (not c.closed && users.end_has_room c.id n)
  where
    by : (b : Bool) → (if b then bridging.text_written now nth c.id (bridging.next_text now nth n) else idle n).did ≡ (b && has_text s n)
    by true = if_did (bridging.next_text now nth n).did _ _ ∙ text_did now nth n s e
    by false = refl

close_did : (now nth : ℕ) (n : State) (s : Session) (c : Circuit) → (bridging.close_by (bridging.if_may_close s (Some c) n) now nth n).did ≡ bridging.may_close s c n
close_did now nth n s c = by (bridging.may_close s c n)
  where
    by : (b : Bool) → (bridging.close_by (if b then Some c else None) now nth n).did ≡ b
    by true = refl
    by false = refl

-- ---- a session for which nothing can be done, whatever the others are

pub record Still (n : State) (s : Session) : Type 0 where
  pub reply : (users.can_give s n && is_some (slice_get s.replies 0)) ≡ false
  pub line : s.stage ≡ AtPrompt → (users.can_give s n && has_text s n) ≡ false
  pub message : (c : Circuit) → circuit_of s.stage ≡ Some c → (users.can_pass_on s c.id n && has_message c.id n) ≡ false
  pub text : (c : Circuit) → s.stage ≡ Connected c → ((not c.closed && users.end_has_room c.id n) && has_text s n) ≡ false
  pub circuit : (c : Circuit) → circuit_of s.stage ≡ Some c → bridging.may_close s c n ≡ false

-- none of the four things is done
record Idles (now nth : ℕ) (n : State) : Type 0 where
  reply : (bridging.give_reply now nth n).did ≡ false
  message : (bridging.give_message now nth n).did ≡ false
  up : (serving.take_up now nth n).did ≡ false
  close : (bridging.close_circuit now nth n).did ≡ false

still_of : (now nth : ℕ) (n : State) (s : Session) → session_at nth n ≡ Some s → Idles now nth n → Still n s
still_of now nth n s e i = record {
  reply = sym (reply_did now nth n s) ∙ subst (λ (o : Option Session). (bridging.reply_by (bridging.next_reply o n) now nth n).did ≡ false) e i.reply;
  line = λ g. sym (line_did now nth n s e) ∙ subst (λ (stage : Stage). (serving.take_up_at stage now nth n).did ≡ false) g up;
  message = λ c h.
      let here = subst (λ (o : Option Session). (bridging.give_of (bridging.giving_circuit o n) now nth n).did ≡ false) e i.message in
      sym (message_did now nth n s c) ∙ subst (λ (o : Option Circuit). (bridging.give_of (bridging.giving_by s o n) now nth n).did ≡ false) h here;
  text = λ c g. sym (write_did now nth n s c e) ∙ subst (λ (stage : Stage). (serving.take_up_at stage now nth n).did ≡ false) g up;
  circuit = λ c h.
      let here = subst (λ (o : Option Session). (bridging.close_by (bridging.circuit_to_close o n) now nth n).did ≡ false) e i.close in
      sym (close_did now nth n s c) ∙ subst (λ (o : Option Circuit). (bridging.close_by (bridging.if_may_close s o n) now nth n).did ≡ false) h here;
}
  where
    up : (serving.take_up_at s.stage now nth n).did ≡ false
    up = subst (λ (o : Option Session). (serving.take_up_by (serving.stage_of o) now nth n).did ≡ false) e i.up

still_idles : (now nth : ℕ) (n : State) (s : Session) → session_at nth n ≡ Some s → Still n s → Idles now nth n
still_idles now nth n s e t = record {
  reply = subst (λ (o : Option Session). (bridging.reply_by (bridging.next_reply o n) now nth n).did ≡ false) (sym e) (reply_did now nth n s ∙ t.reply);
  message = subst (λ (o : Option Session). (bridging.give_of (bridging.giving_circuit o n) now nth n).did ≡ false) (sym e) (given (circuit_of s.stage) refl);
  up = subst (λ (o : Option Session). (serving.take_up_by (serving.stage_of o) now nth n).did ≡ false) (sym e) (up s.stage refl);
  close = subst (λ (o : Option Session). (bridging.close_by (bridging.circuit_to_close o n) now nth n).did ≡ false) (sym e) (closes (circuit_of s.stage) refl);
}
  where
    given : (o : Option Circuit) → circuit_of s.stage ≡ o → (bridging.give_of (bridging.giving_by s o n) now nth n).did ≡ false
    given None h = refl
    given (Some c) h = message_did now nth n s c ∙ t.message c h

    up : (stage : Stage) → s.stage ≡ stage → (serving.take_up_at stage now nth n).did ≡ false
    up AtPrompt g = line_did now nth n s e ∙ t.line g
    up (Trying c) g = refl
    up (Failed c) g = refl
    up (Connected c) g = write_did now nth n s c e ∙ t.text c g

    closes : (o : Option Circuit) → circuit_of s.stage ≡ o → (bridging.close_by (bridging.if_may_close s o n) now nth n).did ≡ false
    closes None h = refl
    closes (Some c) h = close_did now nth n s c ∙ t.circuit c h

-- ---- what is asked of a state needs none of its sessions

module _ (g : State) (ss : List Session) (s : Session) where
  abbrev with : State
  with = record g { sessions = ss }

  can_give_same : users.can_give s with ≡ users.can_give s g
  can_give_same = by s.user
    where
      by : (u : User) → ((s.bye || users.has_ended_at u s.left with) || users.has_room_at u s.left with) ≡ ((s.bye || users.has_ended_at u s.left g) || users.has_room_at u s.left g)
      by (AtEnd id) = refl
      by (AtLink peer) = refl

  hop_same : (o : Option Callsign) → users.hop_to o with ≡ users.hop_to o g
  hop_same None = refl
  hop_same (Some node) = refl

  can_pass_on_same : (id : ℕ) → users.can_pass_on s id with ≡ users.can_pass_on s id g
  can_pass_on_same id = by s.user
    where
      by : (u : User) → ((s.bye || users.has_ended_at u s.left with) || users.has_room_beside_at u id s.left with) ≡ ((s.bye || users.has_ended_at u s.left g) || users.has_room_beside_at u id s.left g)
      by (AtEnd user) = refl
      by (AtLink peer) =
          ap (λ (hop : Option Callsign). (s.bye || s.left) || (not s.left && nat_le (if users.goes_over peer hop then 34 else 33) (links.room peer g.links)))
          (hop_same (partner_at (users.end_at id g)))

  has_text_same : has_text s with ≡ has_text s g
  has_text_same = by s.user
    where
      by : (u : User) → (nat_lt 0 (length s.rest) || (not s.left && has_text_at u with)) ≡ (nat_lt 0 (length s.rest) || (not s.left && has_text_at u g))
      by (AtEnd id) = refl
      by (AtLink peer) = refl

  gone_same : users.is_gone s with ≡ users.is_gone s g
  gone_same = by s.user
    where
      by : (u : User) → users.is_gone_at u s.left with ≡ users.is_gone_at u s.left g
      by (AtEnd id) = refl
      by (AtLink peer) = refl

  over_same : serving.is_over with s ≡ serving.is_over g s
  over_same = ap (λ (b : Bool). b && (is_none (circuit_of s.stage) && (is_none (slice_get s.replies 0) && not (nat_lt 0 (length s.rest))))) gone_same

  still_with : Still g s → Still with s
  still_with t = record {
    reply = ap (λ (b : Bool). b && is_some (slice_get s.replies 0)) can_give_same ∙ t.reply;
    line = λ h. ap (λ (b : Bool). b && has_text s with) can_give_same ∙ (ap (λ (b : Bool). users.can_give s g && b) has_text_same ∙ t.line h);
    message = λ c h. ap (λ (b : Bool). b && has_message c.id g) (can_pass_on_same c.id) ∙ t.message c h;
    text = λ c h. ap (λ (b : Bool). (not c.closed && users.end_has_room c.id g) && b) has_text_same ∙ t.text c h;
    circuit = λ c h. ap (λ (b : Bool). not c.closed && (b && not (nat_lt 0 (length s.rest)))) gone_same ∙ t.circuit c h;
  }

-- ---- the same in words

and_first : (a b : Bool) → (a && b) ≡ false → b ≡ true → a ≡ false
and_first true b e f = absurd (cc (e, f))
and_first false b e f = refl

and_room : (a b : Bool) → (not a && b) ≡ false → a ≡ false → b ≡ false
and_room true b e f = absurd (cc f)
and_room false b e f = e

some_first : (rs : List Reply) → 0 < length rs → is_some (slice_get rs 0) ≡ true
some_first [] some = absurd (omega (arith, some))
some_first (r ∷ rs) some = refl

pub in_words : (n : State) (s : Session) → Still n s → serving.is_over n s ≡ false → WaitsForRoom n s
in_words n s t over = record {
  reply = λ some. and_first (users.can_give s n) (is_some (slice_get s.replies 0)) t.reply (some_first s.replies some);
  line = λ g some. and_first (users.can_give s n) (has_text s n) (t.line g) some;
  message = λ c h some. and_first (users.can_pass_on s c.id n) (has_message c.id n) (t.message c h) some;
  text = λ c g unclosed some. and_room c.closed (users.end_has_room c.id n) (and_first (not c.closed && users.end_has_room c.id n) (has_text s n) (t.text c g) some) unclosed;
  circuit = t.circuit;
  goes_on = over;
}

-- ---- links with a text have a session

pushed : (peer : Callsign) (ss : List Session) (x : Session) → serving.is_served_link peer ss ≡ true → serving.is_served_link peer (ss ++ x ∷ []) ≡ true
pushed peer [] x e = absurd (cc e)
pushed peer (s ∷ ss) x e = by (serving.serves_link peer s) e (pushed peer ss x)
  where
    by : (b : Bool) → (b || serving.is_served_link peer ss) ≡ true → (serving.is_served_link peer ss ≡ true → serving.is_served_link peer (ss ++ x ∷ []) ≡ true) → (b || serving.is_served_link peer (ss ++ x ∷ [])) ≡ true
    by true f rest = refl
    by false f rest = rest f

pushed_here : (peer : Callsign) (ss : List Session) → serving.is_served_link peer (ss ++ sessions.new_session (AtLink peer) ∷ []) ≡ true
pushed_here peer [] = ap (λ b. (b && true) || false) (call_refl peer)
pushed_here peer (s ∷ ss) = ap (λ b. serving.serves_link peer s || b) (pushed_here peer ss) ∙ or-true (serving.serves_link peer s)

greet_keeps : (b : Bool) (peer new : Callsign) (ss : List Session) → serving.is_served_link peer ss ≡ true → serving.is_served_link peer (serving.greet_link b new ss) ≡ true
greet_keeps b peer new ss e = by (serving.is_served_link new ss) b
  where
    by : (c d : Bool) → serving.is_served_link peer (if c then ss else sessions.greet d (AtLink new) ss) ≡ true
    by true d = e
    by false true = pushed peer ss (sessions.new_session (AtLink new)) e
    by false false = e

greets_keep : (b : Bool) (peer : Callsign) (peers : List Callsign) (ss : List Session) → serving.is_served_link peer ss ≡ true → serving.is_served_link peer (serving.greet_each b peers ss) ≡ true
greets_keep b peer [] ss e = e
greets_keep b peer (new ∷ peers) ss e = greets_keep b peer peers (serving.greet_link b new ss) (greet_keeps b peer new ss e)

greet_serves : (b : Bool) (peer : Callsign) (ss : List Session) → b ≡ true → serving.is_served_link peer (serving.greet_link b peer ss) ≡ true
greet_serves b peer ss f = by (serving.is_served_link peer ss) refl b f
  where
    by : (c : Bool) → serving.is_served_link peer ss ≡ c → (d : Bool) → d ≡ true → serving.is_served_link peer (if c then ss else sessions.greet d (AtLink peer) ss) ≡ true
    by true e d g = e
    by false e true g = pushed_here peer ss
    by false e false g = absurd (cc g)

abbrev AreServed : List Callsign → List Session → Type 0
AreServed peers ss = AllByRecursion (λ peer. serving.is_served_link peer ss ≡ true) peers

greets_serve : (b : Bool) (peers : List Callsign) (ss : List Session) → b ≡ true → AreServed peers (serving.greet_each b peers ss)
greets_serve b [] ss f = tt
greets_serve b (peer ∷ peers) ss f =
    let one : List Session = serving.greet_link b peer ss in
    (greets_keep b peer peers one (greet_serves b peer ss f), greets_serve b peers one f)

none_greeted : (b : Bool) (peers : List Callsign) (ss : List Session) → AreServed peers ss → serving.greet_each b peers ss ≡ ss
none_greeted b [] ss a = refl
none_greeted b (peer ∷ peers) ss a =
    ap (λ (c : Bool). serving.greet_each b peers (if c then ss else sessions.greet b (AtLink peer) ss)) a.0 ∙ none_greeted b peers ss a.1

-- a session that serves a link isn't over
serves_on : (g : State) (peer : Callsign) (s : Session) → serving.serves_link peer s ≡ true → serving.is_over g s ≡ false
serves_on g peer s e = by s.user s.left (is_none (circuit_of s.stage) && (is_none (slice_get s.replies 0) && not (nat_lt 0 (length s.rest)))) e
  where
    at : (a l b : Bool) → (a && not l) ≡ true → (l && b) ≡ false
    at true true b f = absurd (cc f)
    at false true b f = absurd (cc f)
    at a false b f = refl

    by : (u : User) (l b : Bool) → (sessions.is_at_link peer u && not l) ≡ true → (users.is_gone_at u l g && b) ≡ false
    by (AtEnd id) l b f = absurd (cc f)
    by (AtLink call) l b f = at (same_call call peer) l b f

abbrev goes_on : State → Session → Bool
goes_on g s = not (serving.is_over g s)

still_served : (g : State) (peer : Callsign) (ss : List Session) → serving.is_served_link peer ss ≡ true → serving.is_served_link peer (filter (goes_on g) ss) ≡ true
still_served g peer [] e = e
still_served g peer (s ∷ ss) e = by (serving.serves_link peer s) refl e (serving.is_over g s) refl (still_served g peer ss)
  where
    by : (b : Bool) → serving.serves_link peer s ≡ b → (b || serving.is_served_link peer ss) ≡ true → (c : Bool) → serving.is_over g s ≡ c
        → (serving.is_served_link peer ss ≡ true → serving.is_served_link peer (filter (goes_on g) ss) ≡ true) → serving.is_served_link peer (if not c then s ∷ filter (goes_on g) ss else filter (goes_on g) ss) ≡ true
    by true f h true k rest = let on = serves_on g peer s f in absurd (cc (on, k))
    by true f h false k rest = ap (λ b. b || serving.is_served_link peer (filter (goes_on g) ss)) f
    by false f h true k rest = rest h
    by false f h false k rest = ap (λ b. b || serving.is_served_link peer (filter (goes_on g) ss)) f ∙ rest h

all_served : (g : State) (peers : List Callsign) (ss : List Session) → AreServed peers ss → AreServed peers (filter (goes_on g) ss)
all_served g [] ss a = tt
all_served g (peer ∷ peers) ss a = (still_served g peer ss a.0, all_served g peers ss a.1)

-- ---- those that aren't over

kept_in : (P Q : Session → Type 0) (test : Session → Bool) → ((s : Session) → test s ≡ true → P s → Q s) → (ss : List Session) → AllByRecursion P ss → AllByRecursion Q (filter test ss)
kept_in P Q test f [] a = tt
kept_in P Q test f (s ∷ ss) a = by (test s) refl (kept_in P Q test f ss a.1)
  where
    by : (b : Bool) → test s ≡ b → AllByRecursion Q (filter test ss) → AllByRecursion Q (if b then s ∷ filter test ss else filter test ss)
    by true e rest = (f s e a.0, rest)
    by false e rest = rest

all_kept : (test : Session → Bool) (ss : List Session) → AllByRecursion (λ s. test s ≡ true) ss → filter test ss ≡ ss
all_kept test [] a = refl
all_kept test (s ∷ ss) a = by (test s) a.0 (all_kept test ss a.1)
  where
    by : (b : Bool) → b ≡ true → filter test ss ≡ ss → (if b then s ∷ filter test ss else filter test ss) ≡ s ∷ ss
    by true e rest = ap (λ (xs : List Session). s ∷ xs) rest
    by false e rest = absurd (cc e)

-- ---- all of them

-- these sessions stand from a place on
abbrev From : ℕ → List Session → List Session → Type 0
From nth xs ss = (i : ℕ) → slice_get ss (nth + i) ≡ slice_get xs i

here : (nth : ℕ) (x : Session) (xs ss : List Session) → From nth (x ∷ xs) ss → slice_get ss nth ≡ Some x
here nth x xs ss at = let place : nth ≡ nth + 0 = omega arith in ap (slice_get ss) place ∙ at 0

next_place : (nth : ℕ) (x : Session) (xs ss : List Session) → From nth (x ∷ xs) ss → From (suc nth) xs ss
next_place nth x xs ss at i = let place : suc nth + i ≡ nth + suc i = omega arith in ap (slice_get ss) place ∙ at (suc i)

from_start : (ss : List Session) → From 0 ss ss
from_start ss i = let place : 0 + i ≡ i = omega arith in ap (slice_get ss) place

or_did : (first next : State → Turn State) (n : State) → ((first n).did ≡ false → (first n).after ≡ n) → (or_else first next n).did ≡ ((first n).did || (next n).did)
or_did first next n idle = by (first n).did refl
  where
    by : (b : Bool) → (first n).did ≡ b → (if b then first n else next (first n).after).did ≡ (b || (next n).did)
    by true e = e
    by false e = ap (λ (m : State). (next m).did) (idle e)

module _ (offers : OffersLeave) (takes : TakesLower) (less : TellsLess) where
  abbrev from_message : ℕ → ℕ → State → Turn State
  from_message now nth = or_else (bridging.give_message now nth) (or_else (serving.take_up now nth) (bridging.close_circuit now nth))

  once_did : (now nth : ℕ) (n : State) → (serving.serve_once now nth n).did
      ≡ ((bridging.give_reply now nth n).did || ((bridging.give_message now nth n).did || ((serving.take_up now nth n).did || (bridging.close_circuit now nth n).did)))
  once_did now nth n =
      let up = or_did (serving.take_up now nth) (bridging.close_circuit now nth) n (falling.taken_up offers takes less (serving.stage_of (session_at nth n)) now nth n).idle in
      let message = or_did (bridging.give_message now nth) (or_else (serving.take_up now nth) (bridging.close_circuit now nth)) n (lowering.given offers takes less now nth n (bridging.giving_circuit (session_at nth n) n)).idle in
      let reply = or_did (bridging.give_reply now nth) (from_message now nth) n (lowering.replied offers takes less now nth n (session_at nth n) refl).idle in
      reply ∙ (ap (λ (b : Bool). (bridging.give_reply now nth n).did || b) message ∙ ap (λ (b : Bool). (bridging.give_reply now nth n).did || ((bridging.give_message now nth n).did || b)) up)

  idles : (now nth : ℕ) (n : State) → (serving.serve_once now nth n).did ≡ false → Idles now nth n
  idles now nth n e =
      let a = or_parts (bridging.give_reply now nth n).did _ (sym (once_did now nth n) ∙ e) in
      let b = or_parts (bridging.give_message now nth n).did _ a.1 in
      let c = or_parts (serving.take_up now nth n).did (bridging.close_circuit now nth n).did b.1 in
      record { reply = a.0; message = b.0; up = c.0; close = c.1 }

  none_done : (now nth : ℕ) (n : State) → Idles now nth n → (serving.serve_once now nth n).did ≡ false
  none_done now nth n i = once_did now nth n ∙ rw (i.reply, i.message, i.up, i.close) refl

  each_still : (now nth : ℕ) (n : State) (xs : List Session) → IsPumped now n → From nth xs n.sessions → (serving.serve_each now nth (length xs) n).did ≡ false → AllByRecursion (Still n) xs
  each_still now nth n [] p at e = tt
  each_still now nth n (x ∷ xs) p at e =
      let t : Turn State = serving.serve now nth n in
      let both = or_parts t.did (serving.serve_each now (suc nth) (length xs) t.after).did e in
      let same : t.after ≡ n = (falling.served offers takes less now nth n).idle both.0 p in
      let rest = subst (λ (m : State). (serving.serve_each now (suc nth) (length xs) m).did ≡ false) same both.1 in
      (still_of now nth n x (here nth x xs n.sessions at) (idles now nth n both.0), each_still now (suc nth) n xs p (next_place nth x xs n.sessions at) rest)

  each_idle : (now nth : ℕ) (n : State) (xs : List Session) → IsPumped now n → From nth xs n.sessions → AllByRecursion (Still n) xs → (serving.serve_each now nth (length xs) n).did ≡ false
  each_idle now nth n [] p at a = refl
  each_idle now nth n (x ∷ xs) p at a =
      let t : Turn State = serving.serve now nth n in
      let none : t.did ≡ false = none_done now nth n (still_idles now nth n x (here nth x xs n.sessions at) a.0) in
      let same : t.after ≡ n = (falling.served offers takes less now nth n).idle none p in
      let rest = each_idle now (suc nth) n xs p (next_place nth x xs n.sessions at) a.1 in
      ap (λ (b : Bool). b || (serving.serve_each now (suc nth) (length xs) t.after).did) none ∙ (ap (λ (m : State). (serving.serve_each now (suc nth) (length xs) m).did) same ∙ rest)

  -- ---- serving them when nothing could be done

  pub record Rests (now : ℕ) (n : State) : Type 0 where
    pub served : serving.serve_sessions now n ≡ idle n
    pub greeted : AreServed (links.text_peers n.links) n.sessions
    pub sessions : AllByRecursion (WaitsForRoom n) n.sessions

  abbrev with_sessions : State → List Session → State
  with_sessions n ss = record n { sessions = ss }

  -- a node of which no session is over, and for none of which anything can be done
  stays : (now : ℕ) (n : State) → IsPumped now n → AreServed (links.text_peers n.links) n.sessions → AllByRecursion (Still n) n.sessions → AllByRecursion (λ s. goes_on n s ≡ true) n.sessions
      → serving.serve_sessions now n ≡ idle n
  unfolding serving.serve_sessions
  stays now n p a still on =
      let greet : serving.greet_links n ≡ n = ap (with_sessions n) (none_greeted n.settings.prompt (links.text_peers n.links) n.sessions a) in
      let none : (serving.serve_all now n).did ≡ false = each_idle now 0 n n.sessions p (from_start n.sessions) still in
      let same : (serving.serve_all now n).after ≡ n = (falling.served_each offers takes less now 0 (length n.sessions) n).idle none p in
      let drop : serving.drop_over n ≡ n = ap (with_sessions n) (all_kept (goes_on n) n.sessions on) in
      ap (serving.serve_greeted now) greet
      ∙ (ap (λ (b : Bool). record { did = b; after = serving.drop_over (serving.serve_all now n).after }) none
      ∙ (ap (λ (m : State). idle (serving.drop_over m)) same ∙ ap (λ (m : State). idle m) drop))

  abbrev without : State → State
  without g = serving.drop_over g

  rests_at : (now : ℕ) (g : State) → IsPumped now (without g) → AreServed (links.text_peers g.links) g.sessions → AllByRecursion (Still g) g.sessions → Rests now (without g)
  rests_at now g p a still =
      let n : State = without g in
      let served = all_served g (links.text_peers g.links) g.sessions a in
      let stills = kept_in (Still g) (Still n) (goes_on g) (λ s e t. still_with g n.sessions s t) g.sessions still in
      let on = kept_in (Still g) (λ s. goes_on n s ≡ true) (goes_on g) (λ s e t. ap (λ (b : Bool). not b) (over_same g n.sessions s) ∙ e) g.sessions still in
      record {
        served = stays now n p served stills on;
        greeted = served;
        sessions = kept_in (Still g) (WaitsForRoom n) (goes_on g) (λ s e t. in_words n s (still_with g n.sessions s t) (over_same g n.sessions s ∙ not-true (serving.is_over g s) e)) g.sessions still;
      }

  -- what is left of a node of which all was told when the users were served and nothing could be done
  pub sessions_rest : (now : ℕ) (m : State) → m.settings.prompt ≡ true → links.pending m.set ≡ 0 → at_router m ≡ 0 → (serving.serve_sessions now m).did ≡ false → Rests now (serving.serve_sessions now m).after
  unfolding serving.serve_sessions
  sessions_rest now m prompt told router e =
      let g : State = serving.greet_links m in
      let p = pumps_alike offers takes less now m g.sessions told router in
      let n : State = without g in
      let q = pumps_alike offers takes less now m n.sessions told router in
      let same : (serving.serve_all now g).after ≡ g = (falling.served_each offers takes less now 0 (length g.sessions) g).idle e p in
      let still = each_still now 0 g g.sessions p (from_start g.sessions) e in
      subst (Rests now) (sym (ap serving.drop_over same)) (rests_at now g q (greets_serve m.settings.prompt (links.text_peers m.links) m.sessions prompt) still)
