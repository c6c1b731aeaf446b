-- The ends that sessions own: no two own the same, each has a number that was given, and none is closing that isn't to be.
use Rattle.std.proofs.Common.{◌≡◌, ◌≤◌, ◌<◌, ◌+◌, ◌⊎◌, inl, inr, ℕ, zero, suc, refl, sym, ap, subst, arith, List, [], ◌∷◌, ◌++◌, map, slice_get, slice_set}
use Rattle.std.specs.Prelude.{Bool, true, false, not, ◌&&◌, nat_eq, filter, if◌then◌else◌, Option, Some, None}
use Rattle.std.proofs.lemmas.Bool.Decides.{nat_tests}
use Rattle.std.proofs.lemmas.Bool.{cases_lt}
use Rattle.ax_address.specs.Callsign.{Callsign}
use Rattle.ax_link.specs.declared.notice.LinkNotice.{LinkNotice}
use Rattle.circuit_l4.specs.declared.notice.EndNotice.{EndNotice}
use Rattle.circuit_l4.specs.declared.notice.EndNotice.TheVariants as end
use Rattle.circuit_l4.specs.declared.pair.Pair.{Pair}
use Rattle.circuit_table.specs.Pumps.{Of}
use Rattle.circuit_table.specs.Sets.{SetDone, SetState, CircuitTold, Made, Sent, Heeded, Notice, Gone, Restarted, Lost}
use Rattle.node_model.specs.declared.circuit.Circuit.{Circuit}
use Rattle.node_model.specs.declared.stage.Stage.{Stage}
use Rattle.node_model.specs.declared.stage.Stage.TheVariants.{AtPrompt, Trying, Failed, Connected}
use Rattle.node_model.specs.declared.user.User.{User}
use Rattle.node_model.specs.declared.user.User.TheVariants.{AtEnd}
use Rattle.node_core.specs.Runs.{MadeFrom}
use Rattle.node_model.specs.Serving.{is_at_end, is_circuit}
use Rattle.node_model.specs.Sessions as s
use Rattle.node_model.specs.Sessions.{Session, circuit_of}
use Rattle.node_model.specs.Users.{change_if}
use Rattle.node_core.proofs.Ends.{Once}
use Rattle.node_core.proofs.Holders.{AreNamed, AreOpen, Below, HaveMessages, Keeps, none_closing}
use Rattle.node_core.proofs.Leaving.{IsHeld, LeavesHeld, gone_by, gones_both}

-- ---- what the sessions own

abbrev pub one : Bool → ℕ
one true = 1
one false = 0

abbrev pub total : (Session → ℕ) → List Session → ℕ
total of [] = 0
total of (x ∷ ss) = of x + total of ss

-- its user's end, and that of its circuit
abbrev pub owned_by : ℕ → Session → ℕ
owned_by id x = one (is_at_end id x.user) + one (is_circuit id (circuit_of x.stage))

-- those of them that nobody has closed here
abbrev pub is_unshut : ℕ → Option Circuit → Bool
is_unshut id None = false
is_unshut id (Some c) = nat_eq c.id id && not c.closed

abbrev pub opens_by : ℕ → Session → ℕ
opens_by id x = one (is_at_end id x.user && not x.bye) + one (is_unshut id (circuit_of x.stage))

-- that of its circuit alone
abbrev pub asked_by : ℕ → Session → ℕ
asked_by id x = one (is_circuit id (circuit_of x.stage))

-- an end that a request has made is to have a session
abbrev pub made_by : ℕ → CircuitTold → ℕ
made_by id (Made at pair partner (Some d)) = one (nat_eq at id)
made_by id _ = 0

abbrev pub mades : ℕ → List CircuitTold → ℕ
mades id [] = 0
mades id (t ∷ ts) = made_by id t + mades id ts

pub record Owns (set : SetState) (untold : List CircuitTold) (ss : List Session) : Type 0 where
  pub below : Below set
  pub once : Once set.ends
  pub messages : HaveMessages set.ends
  pub named : AreNamed set
  pub few : (id : ℕ) → total (owned_by id) ss + mades id untold ≤ 1
  pub fresh : (id : ℕ) → set.number ≤ id → total (owned_by id) ss + mades id untold ≡ 0
  pub unshut : (id : ℕ) → 0 < total (opens_by id) ss + mades id untold → AreOpen id set.ends
  pub held : (id : ℕ) → 0 < total (asked_by id) ss → IsHeld id set untold

-- ---- sums

pub placed : (of : Session → ℕ) (ss : List Session) (nth : ℕ) (x y : Session) → slice_get ss nth ≡ Some x → total of (slice_set ss nth y) + of x ≡ total of ss + of y
placed of [] nth x y e = absurd (cc e)
placed of (z ∷ ss) zero x y e = let same : z ≡ x = cc e in rw same (omega arith)
placed of (z ∷ ss) (suc nth) x y e = omega (arith, placed of ss nth x y e)

pub changed_less : (of : Session → ℕ) (f : Session → Session) (ss : List Session) (nth : ℕ) (o : Option Session) → slice_get ss nth ≡ o → ((x : Session) → of (f x) ≤ of x) → total of (change_if o nth f ss) ≤ total of ss
changed_less of f ss nth None e less = omega arith
changed_less of f ss nth (Some x) e less = omega (arith, placed of ss nth x (f x) e, less x)

pub map_less : (of : Session → ℕ) (f : Session → Session) → ((x : Session) → of (f x) ≤ of x) → (ss : List Session) → total of (map f ss) ≤ total of ss
map_less of f less [] = omega arith
map_less of f less (x ∷ ss) = omega (arith, less x, map_less of f less ss)

pub push_one : (of : Session → ℕ) (ss : List Session) (x : Session) → total of (ss ++ x ∷ []) ≡ total of ss + of x
push_one of [] x = omega arith
push_one of (y ∷ ss) x = omega (arith, push_one of ss x)

pub filter_less : (of : Session → ℕ) (test : Session → Bool) (ss : List Session) → total of (filter test ss) ≤ total of ss
filter_less of test [] = omega arith
filter_less of test (x ∷ ss) = by (test x) (filter_less of test ss)
  where
    by : (b : Bool) → total of (filter test ss) ≤ total of ss → total of (if b then x ∷ filter test ss else filter test ss) ≤ of x + total of ss
    by true few = omega (arith, few)
    by false few = omega (arith, few)

pub at_least : (of : Session → ℕ) (ss : List Session) (nth : ℕ) (x : Session) → slice_get ss nth ≡ Some x → of x ≤ total of ss
at_least of [] nth x e = absurd (cc e)
at_least of (z ∷ ss) zero x e = let same : z ≡ x = cc e in rw same (omega arith)
at_least of (z ∷ ss) (suc nth) x e = omega (arith, at_least of ss nth x e)

part_of : (a b : Bool) → one (a && b) ≤ one a
part_of true true = omega arith
part_of true false = omega arith
part_of false b = omega arith

unshut_of : (id : ℕ) (o : Option Circuit) → one (is_unshut id o) ≤ one (is_circuit id o)
unshut_of id None = omega arith
unshut_of id (Some c) = part_of (nat_eq c.id id) (not c.closed)

opens_owned : (id : ℕ) (x : Session) → opens_by id x ≤ owned_by id x
opens_owned id x = omega (arith, part_of (is_at_end id x.user) (not x.bye), unshut_of id (circuit_of x.stage))

pub all_opens : (id : ℕ) (ss : List Session) → total (opens_by id) ss ≤ total (owned_by id) ss
all_opens id [] = omega arith
all_opens id (x ∷ ss) = omega (arith, opens_owned id x, all_opens id ss)

-- what isn't open of a session isn't open of all
pub but_here : (id : ℕ) (ss : List Session) (nth : ℕ) (x : Session) → slice_get ss nth ≡ Some x → total (opens_by id) ss + owned_by id x ≤ total (owned_by id) ss + opens_by id x
but_here id [] nth x e = absurd (cc e)
but_here id (z ∷ ss) zero x e = let same : z ≡ x = cc e in rw same (omega (arith, all_opens id ss))
but_here id (z ∷ ss) (suc nth) x e = omega (arith, but_here id ss nth x e, opens_owned id z)

-- ---- what is heard

-- nothing more is owned
pub record Fewer (old new : List Session) : Type 0 where
  pub owned : (id : ℕ) → total (owned_by id) new ≤ total (owned_by id) old
  pub opens : (id : ℕ) → total (opens_by id) new ≤ total (opens_by id) old
  pub asked : (id : ℕ) → total (asked_by id) new ≤ total (asked_by id) old

-- the same of one
pub record Less (x y : Session) : Type 0 where
  pub owned : (id : ℕ) → owned_by id y ≤ owned_by id x
  pub opens : (id : ℕ) → opens_by id y ≤ opens_by id x
  pub asked : (id : ℕ) → asked_by id y ≤ asked_by id x

pub less_itself : (x : Session) → Less x x
less_itself x = record { owned = λ id. omega arith; opens = λ id. omega arith; asked = λ id. omega arith }

either_less : (x y : Session) (b : Bool) → Less x y → Less x (if b then y else x)
either_less x y true less = less
either_less x y false less = less_itself x

-- its user stays, and of its circuit what there was of it
by_stage : (x y : Session) → y.user ≡ x.user → y.bye ≡ x.bye → ((id : ℕ) → one (is_circuit id (circuit_of y.stage)) ≤ one (is_circuit id (circuit_of x.stage)))
    → ((id : ℕ) → one (is_unshut id (circuit_of y.stage)) ≤ one (is_unshut id (circuit_of x.stage))) → Less x y
by_stage x y e f owned opens = record {
  owned = λ id. let a = ap (λ (u : User). one (is_at_end id u)) e in omega (arith, a, owned id);
  opens = λ id.
      let a : one (is_at_end id y.user && not y.bye) ≡ one (is_at_end id x.user && not x.bye) = rw (e, f) refl in
      omega (arith, a, opens id);
  asked = λ id. owned id;
}

pub staged : (c : Circuit) (notice : EndNotice) → circuit_of (s.stage_by c notice) ≡ Some c
staged c (end.Opened window) = refl
staged c end.Refused = refl
staged c end.Closed = refl
staged c end.ClosedByPartner = refl
staged c end.FailedRetries = refl
staged c end.FailedOversize = refl
staged c end.FailedInactive = refl

tried_less : (c : Circuit) (notice : EndNotice) (x : Session) → circuit_of x.stage ≡ Some c → Less x (s.hear_tried c notice x)
tried_less c notice x e =
    let f = staged c notice in
    by_stage x (s.hear_tried c notice x) refl refl (λ id. rw (f, e) (omega arith)) (λ id. rw (f, e) (omega arith))

noticed_at : (id : ℕ) (notice : EndNotice) (x : Session) (stage : Stage) → x.stage ≡ stage → Less x (s.notice_at stage id notice x)
noticed_at id notice x AtPrompt e = less_itself x
noticed_at id notice x (Failed c) e = less_itself x
noticed_at id notice x (Connected c) e = less_itself x
noticed_at id notice x (Trying c) e = either_less x (s.hear_tried c notice x) (nat_eq c.id id) (tried_less c notice x (ap circuit_of e))

at_prompt : (x y : Session) → y.user ≡ x.user → y.bye ≡ x.bye → y.stage ≡ AtPrompt → Less x y
at_prompt x y e f g = by_stage x y e f (λ id. rw g (omega arith)) (λ id. rw g (omega arith))

gone_at : (id : ℕ) (x : Session) (stage : Stage) → Less x (s.gone_at stage id x)
gone_at id x AtPrompt = less_itself x
gone_at id x (Trying c) = either_less x (s.at_prompt x) (nat_eq c.id id) (at_prompt x (s.at_prompt x) refl refl refl)
gone_at id x (Failed c) = either_less x (s.at_prompt x) (nat_eq c.id id) (at_prompt x (s.at_prompt x) refl refl refl)
gone_at id x (Connected c) = either_less x (s.hear_end c x) (nat_eq c.id id) (at_prompt x (s.hear_end c x) refl refl refl)

left_less : (peer : Callsign) (x : Session) → Less x (s.leave peer x)
left_less peer x = either_less x (s.leaves x) (s.is_at_link peer x.user) (record { owned = λ id. omega arith; opens = λ id. omega arith; asked = λ id. omega arith })

all_less : (f : Session → Session) → ((x : Session) → Less x (f x)) → (ss : List Session) → Fewer ss (map f ss)
all_less f less ss = record {
  owned = λ id. map_less (owned_by id) f (λ x. (less x).owned id) ss;
  opens = λ id. map_less (opens_by id) f (λ x. (less x).opens id) ss;
  asked = λ id. map_less (asked_by id) f (λ x. (less x).asked id) ss;
}

pub few_itself : (ss : List Session) → Fewer ss ss
few_itself ss = record { owned = λ id. omega arith; opens = λ id. omega arith; asked = λ id. omega arith }

pub then_fewer : (a b c : List Session) → Fewer a b → Fewer b c → Fewer a c
then_fewer a b c x y = record { owned = λ id. omega (arith, x.owned id, y.owned id); opens = λ id. omega (arith, x.opens id, y.opens id); asked = λ id. omega (arith, x.asked id, y.asked id) }

left_all : (b : Bool) (peer : Callsign) (ss : List Session) → Fewer ss (if b then map (s.leave peer) ss else ss)
left_all true peer ss = all_less (s.leave peer) (left_less peer) ss
left_all false peer ss = few_itself ss

pub links_fewer : (ns : List (Callsign × LinkNotice)) (ss : List Session) → Fewer ss (s.hear_links ns ss)
links_fewer [] ss = few_itself ss
links_fewer (x ∷ ns) ss = then_fewer ss (s.hear_link x.0 x.1 ss) _ (left_all (s.ends_link x.1) x.0 ss) (links_fewer ns (s.hear_link x.0 x.1 ss))

-- a session more owns its user's end alone
pub record Greets (id : ℕ) (user : User) (old new : List Session) : Type 0 where
  pub owned : total (owned_by id) new ≤ total (owned_by id) old + one (is_at_end id user)
  pub opens : total (opens_by id) new ≤ total (opens_by id) old + one (is_at_end id user)
  pub asked : total (asked_by id) new ≤ total (asked_by id) old

and_true : (a : Bool) → one (a && true) ≡ one a
and_true true = refl
and_true false = refl

pub greets : (b : Bool) (id : ℕ) (user : User) (ss : List Session) → Greets id user ss (s.greet b user ss)
greets true id user ss =
    let x : Session = s.new_session user in
    record { owned = omega (arith, push_one (owned_by id) ss x); opens = omega (arith, push_one (opens_by id) ss x, and_true (is_at_end id user)); asked = omega (arith, push_one (asked_by id) ss x) }
greets false id user ss = record { owned = omega arith; opens = omega arith; asked = omega arith }

-- what is told of the circuits is heard
pub record Hears (id : ℕ) (t : CircuitTold) (old new : List Session) : Type 0 where
  pub owned : total (owned_by id) new ≤ total (owned_by id) old + made_by id t
  pub opens : total (opens_by id) new ≤ total (opens_by id) old + made_by id t
  pub asked : total (asked_by id) new ≤ total (asked_by id) old

by_fewer : (id : ℕ) (t : CircuitTold) (old new : List Session) → Fewer old new → Hears id t old new
by_fewer id t old new f = record { owned = omega (arith, f.owned id); opens = omega (arith, f.opens id); asked = f.asked id }

made_hears : (prompt : Bool) (id at : ℕ) (pair : Pair) (partner : Callsign) (request : Option (List ℕ)) (ss : List Session)
    → Hears id (Made at pair partner request) ss (s.hear_circuits prompt (Of (Made at pair partner request)) ss)
made_hears prompt id at pair partner None ss = by_fewer id (Made at pair partner None) ss ss (few_itself ss)
made_hears prompt id at pair partner (Some d) ss = let g = greets prompt id (AtEnd at) ss in record { owned = g.owned; opens = g.opens; asked = g.asked }

pub hears : (prompt : Bool) (id : ℕ) (t : CircuitTold) (ss : List Session) → Hears id t ss (s.hear_circuits prompt (Of t) ss)
hears prompt id (Made at pair partner request) ss = made_hears prompt id at pair partner request ss
hears prompt id (Notice at notice) ss = by_fewer id (Notice at notice) ss _ (all_less (s.hear_notice at notice) (λ x. noticed_at at notice x x.stage refl) ss)
hears prompt id (Gone at facts) ss = by_fewer id (Gone at facts) ss _ (all_less (s.hear_gone at) (λ x. gone_at at x x.stage) ss)
hears prompt id (Sent at number d) ss = by_fewer id (Sent at number d) ss ss (few_itself ss)
hears prompt id (Heeded at d) ss = by_fewer id (Heeded at d) ss ss (few_itself ss)
hears prompt id (Restarted pair) ss = by_fewer id (Restarted pair) ss ss (few_itself ss)
hears prompt id (Lost at facts) ss = by_fewer id (Lost at facts) ss ss (few_itself ss)

-- ---- what the sessions own, from then on

-- where the set stays, and no more is owned
pub owns_less : (set : SetState) (ts us : List CircuitTold) (ss xs : List Session) → Owns set ts ss
    → ((id : ℕ) → total (owned_by id) xs + mades id us ≤ total (owned_by id) ss + mades id ts)
    → ((id : ℕ) → total (opens_by id) xs + mades id us ≤ total (opens_by id) ss + mades id ts) → ((id : ℕ) → 0 < total (asked_by id) xs → IsHeld id set us) → Owns set us xs
owns_less set ts us ss xs o owned opens held = record {
  below = o.below;
  once = o.once;
  messages = o.messages;
  named = o.named;
  few = λ id. omega (arith, o.few id, owned id);
  fresh = λ id over. omega (arith, o.fresh id over, owned id);
  unshut = λ id some. o.unshut id (omega (arith, some, opens id));
  held = held;
}

pub owns_fewer : (set : SetState) (ts : List CircuitTold) (ss xs : List Session) → Owns set ts ss → Fewer ss xs → Owns set ts xs
owns_fewer set ts ss xs o f = owns_less set ts ts ss xs o (λ id. omega (arith, f.owned id)) (λ id. omega (arith, f.opens id)) (λ id some. o.held id (omega (arith, some, f.asked id)))

-- a session that hears that an end is gone has asked for it no longer
none_asked : (id : ℕ) (x : Session) (stage : Stage) → x.stage ≡ stage → asked_by id (s.gone_at stage id x) ≡ 0
none_asked id x AtPrompt e = rw e refl
none_asked id x (Trying c) e = by (nat_eq c.id id) refl
  where
    by : (b : Bool) → nat_eq c.id id ≡ b → asked_by id (if b then s.at_prompt x else x) ≡ 0
    by true f = refl
    by false f = rw (e, f) refl
none_asked id x (Failed c) e = by (nat_eq c.id id) refl
  where
    by : (b : Bool) → nat_eq c.id id ≡ b → asked_by id (if b then s.at_prompt x else x) ≡ 0
    by true f = refl
    by false f = rw (e, f) refl
none_asked id x (Connected c) e = by (nat_eq c.id id) refl
  where
    by : (b : Bool) → nat_eq c.id id ≡ b → asked_by id (if b then s.hear_end c x else x) ≡ 0
    by true f = refl
    by false f = rw (e, f) refl

none_left : (id : ℕ) (ss : List Session) → total (asked_by id) (map (s.hear_gone id) ss) ≡ 0
none_left id [] = refl
none_left id (x ∷ ss) = let here = none_asked id x x.stage refl in let rest = none_left id ss in omega (arith, here, rest)

gone_heard : (prompt : Bool) (id : ℕ) (t : CircuitTold) (ss : List Session) → 0 < gone_by id t → total (asked_by id) (s.hear_circuits prompt (Of t) ss) ≡ 0
gone_heard prompt id (Gone at facts) ss some = by (nat_eq at id) refl some
  where
    by : (b : Bool) → nat_eq at id ≡ b → 0 < one b → total (asked_by id) (map (s.hear_gone at) ss) ≡ 0
    by true e more = let same : id ≡ at = grind (arith, nat_tests, e) in subst (λ k. total (asked_by k) (map (s.hear_gone at) ss) ≡ 0) (sym same) (none_left at ss)
    by false e more = absurd (omega (arith, more))
gone_heard prompt id (Made at pair partner request) ss some = absurd (omega (arith, some))
gone_heard prompt id (Notice at notice) ss some = absurd (omega (arith, some))
gone_heard prompt id (Sent at number d) ss some = absurd (omega (arith, some))
gone_heard prompt id (Heeded at d) ss some = absurd (omega (arith, some))
gone_heard prompt id (Restarted pair) ss some = absurd (omega (arith, some))
gone_heard prompt id (Lost at facts) ss some = absurd (omega (arith, some))

-- what is untold is told
pub owns_told : (prompt : Bool) (set : SetState) (t : CircuitTold) (ts : List CircuitTold) (ss : List Session) → Owns set (t ∷ ts) ss → Owns set ts (s.hear_circuits prompt (Of t) ss)
owns_told prompt set t ts ss o =
    owns_less set (t ∷ ts) ts ss (s.hear_circuits prompt (Of t) ss) o
    (λ id. let h = hears prompt id t ss in omega (arith, h.owned))
    (λ id. let h = hears prompt id t ss in omega (arith, h.opens))
    (λ id some. let h = hears prompt id t ss in still id some (o.held id (omega (arith, some, h.asked))))
  where
    still : (id : ℕ) → 0 < total (asked_by id) (s.hear_circuits prompt (Of t) ss) → IsHeld id set (t ∷ ts) → IsHeld id set ts
    still id some (inl e) = inl e
    still id some (inr gone) = by (gone_by id t) refl
      where
        by : (k : ℕ) → gone_by id t ≡ k → IsHeld id set ts
        by zero e = inr (omega (arith, gone, e))
        by (suc k) e = let none = gone_heard prompt id t ss (omega (arith, e)) in absurd (omega (arith, some, none))

pub mades_both : (id : ℕ) (ts us : List CircuitTold) → mades id (ts ++ us) ≡ mades id ts + mades id us
mades_both id [] us = omega arith
mades_both id (t ∷ ts) us = omega (arith, mades_both id ts us)

-- each end that is made has a number of its own
record Numbered (first next : ℕ) (ts : List CircuitTold) : Type 0 where
  up : first ≤ next
  few : (id : ℕ) → mades id ts ≤ 1
  none : (id : ℕ) → id < first → mades id ts ≡ 0
  over : (id : ℕ) → next ≤ id → mades id ts ≡ 0

one_here : (id at : ℕ) (pair : Pair) (partner : Callsign) (request : Option (List ℕ)) → made_by id (Made at pair partner request) ≤ one (nat_eq at id)
one_here id at pair partner None = omega arith
one_here id at pair partner (Some d) = omega arith

test_one : (at id : ℕ) → (at ≡ id) ⊎ (nat_eq at id ≡ false)
test_one at id = by (nat_eq at id) refl
  where
    by : (b : Bool) → nat_eq at id ≡ b → (at ≡ id) ⊎ (nat_eq at id ≡ false)
    by true e = inl (grind (arith, nat_tests, e))
    by false e = inr e

most_one : (b : Bool) → one b ≤ 1
most_one true = omega arith
most_one false = omega arith

made_few : (first id at mine more : ℕ) → at ≡ first → mine ≤ one (nat_eq at id) → more ≤ 1 → (id < first + 1 → more ≡ 0) → mine + more ≤ 1
made_few first id at mine more e m few none = by (test_one at id)
  where
    by : (at ≡ id) ⊎ (nat_eq at id ≡ false) → mine + more ≤ 1
    by (inl same) = let zeroed = none (omega (arith, e, same)) in omega (arith, m, zeroed, most_one (nat_eq at id))
    by (inr other) = let gone : mine ≤ 0 = rw other at m in omega (arith, gone, few)

not_here : (id at mine : ℕ) → (at ≡ id → ⊥) → mine ≤ one (nat_eq at id) → mine ≡ 0
not_here id at mine other m = by (test_one at id)
  where
    by : (at ≡ id) ⊎ (nat_eq at id ≡ false) → mine ≡ 0
    by (inl same) = absurd (other same)
    by (inr f) = let gone : mine ≤ 0 = rw f at m in omega (arith, gone)

passes : (first next : ℕ) (t : CircuitTold) (ts : List CircuitTold) → ((id : ℕ) → made_by id t ≡ 0) → Numbered first next ts → Numbered first next (t ∷ ts)
passes first next t ts none n = record {
  up = n.up;
  few = λ id. omega (arith, none id, n.few id);
  none = λ id low. let a = n.none id low in omega (arith, none id, a);
  over = λ id high. let a = n.over id high in omega (arith, none id, a);
}

numbered : (first next : ℕ) (ts : List CircuitTold) → MadeFrom first ts next → Numbered first next ts
numbered first next [] e = record { up = omega (arith, e); few = λ id. omega arith; none = λ id low. refl; over = λ id high. refl }
numbered first next (Made at pair partner request ∷ ts) e =
    let rest = numbered (first + 1) next ts e.1 in
    let t : CircuitTold = Made at pair partner request in
    record {
      up = omega (arith, rest.up);
      few = λ id. made_few first id at (made_by id t) (mades id ts) e.0 (one_here id at pair partner request) (rest.few id) (rest.none id);
      none = λ id low.
          let a = not_here id at (made_by id t) (λ same. omega (arith, e.0, same, low)) (one_here id at pair partner request) in
          let b = rest.none id (omega (arith, low)) in
          omega (arith, a, b);
      over = λ id high.
          let a = not_here id at (made_by id t) (λ same. omega (arith, e.0, same, high, rest.up)) (one_here id at pair partner request) in
          let b = rest.over id high in
          omega (arith, a, b);
    }
numbered first next (Sent at number d ∷ ts) e = passes first next (Sent at number d) ts (λ id. refl) (numbered first next ts e)
numbered first next (Heeded at d ∷ ts) e = passes first next (Heeded at d) ts (λ id. refl) (numbered first next ts e)
numbered first next (Notice at notice ∷ ts) e = passes first next (Notice at notice) ts (λ id. refl) (numbered first next ts e)
numbered first next (Gone at facts ∷ ts) e = passes first next (Gone at facts) ts (λ id. refl) (numbered first next ts e)
numbered first next (Restarted pair ∷ ts) e = passes first next (Restarted pair) ts (λ id. refl) (numbered first next ts e)
numbered first next (Lost at facts ∷ ts) e = passes first next (Lost at facts) ts (λ id. refl) (numbered first next ts e)

-- where the next number stays none is made
pub none_made : (number : ℕ) (ts : List CircuitTold) → MadeFrom number ts number → (id : ℕ) → mades id ts ≡ 0
none_made number ts e id = by (cases_lt id number)
  where
    by : (id < number) ⊎ (number ≤ id) → mades id ts ≡ 0
    by (inl low) = (numbered number number ts e).none id low
    by (inr high) = (numbered number number ts e).over id high

either_some : (a b : ℕ) → 0 < a + b → (0 < a) ⊎ (0 < b)
either_some zero b some = inr (omega (arith, some))
either_some (suc a) b some = inl (omega arith)

-- an end is held still, or it is untold that it is gone
pub held_on : (set : SetState) (d : SetDone) (ts : List CircuitTold) (id : ℕ) → Once set.ends → LeavesHeld set d → IsHeld id set ts → IsHeld id d.set (ts ++ d.told)
held_on set d ts id once leaves (inr some) = inr (omega (arith, some, gones_both id ts d.told))
held_on set d ts id once leaves (inl held) = by (leaves id once held)
  where
    by : IsHeld id d.set d.told → IsHeld id d.set (ts ++ d.told)
    by (inl e) = inl e
    by (inr some) = inr (omega (arith, some, gones_both id ts d.told))

-- an input of the set, which leaves the ends of the numbers that are admitted
pub owns_input : (admits : ℕ → Type 0) (set : SetState) (d : SetDone) (ts : List CircuitTold) (ss : List Session) → Owns set ts ss → Keeps admits set d.set → MadeFrom set.number d.told d.set.number
    → ((id : ℕ) → 0 < total (opens_by id) ss + mades id ts → admits id) → ((id : ℕ) → 0 < mades id d.told → admits id) → LeavesHeld set d → Owns d.set (ts ++ d.told) ss
owns_input admits set d ts ss o k made known later leaves =
    let n = numbered set.number d.set.number d.told made in
    record {
      below = k.below o.below;
      once = k.once o.below o.once;
      messages = k.messages o.messages;
      named = k.named o.named;
      few = λ id. few id (le id);
      fresh = λ id high.
          let a = o.fresh id (omega (arith, high, n.up)) in
          let b = n.over id high in
          omega (arith, a, b, mades_both id ts d.told);
      unshut = λ id some.
          let both = mades_both id ts d.told in
          opened id n (either_some (total (opens_by id) ss + mades id ts) (mades id d.told) (omega (arith, some, both)));
      held = λ id some. held_on set d ts id o.once leaves (o.held id some);
    }
  where
    le : (id : ℕ) → (id < set.number) ⊎ (set.number ≤ id)
    le id = cases_lt id set.number

    few : (id : ℕ) → (id < set.number) ⊎ (set.number ≤ id) → total (owned_by id) ss + mades id (ts ++ d.told) ≤ 1
    few id (inl low) =
        let n = numbered set.number d.set.number d.told made in
        omega (arith, o.few id, n.none id low, mades_both id ts d.told)
    few id (inr high) =
        let n = numbered set.number d.set.number d.told made in
        omega (arith, o.fresh id high, n.few id, mades_both id ts d.told)

    opened : (id : ℕ) → Numbered set.number d.set.number d.told → (0 < total (opens_by id) ss + mades id ts) ⊎ (0 < mades id d.told) → AreOpen id d.set.ends
    opened id n (inl before) = k.unshut id (known id before) (o.unshut id before)
    opened id n (inr new) = by (le id)
      where
        by : (id < set.number) ⊎ (set.number ≤ id) → AreOpen id d.set.ends
        by (inl low) = let none = n.none id low in absurd (omega (arith, new, none))
        by (inr high) = k.unshut id (later id new) (none_closing set.number id set.ends o.below high)
