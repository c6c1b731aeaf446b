-- All that is untold is told turn by turn: the turns settle to what the definition says, so what each of them keeps it keeps.
use Rattle.std.proofs.Common.{◌≡◌, ◌<◌, ◌+◌, ◌∙◌, ℕ, refl, sym, ap, subst, arith, List, [], ◌∷◌}
use Rattle.std.specs.Prelude.{Bool, true, false, nat_lt, if◌then◌else◌, is_some, Option, Some, None, Result, Ok, Err}
use Rattle.std.proofs.lemmas.Bool.Decides.{nat_tests}
use Rattle.ax_address.specs.Callsign.{Callsign}
use Rattle.circuit_table.specs.Pumps.{OfEach, Offers, Says, Turn, Turned, Waiting, weight, weights}
use Rattle.circuit_table.specs.Pumps as pumps
use Rattle.circuit_table.specs.Sets.{SetState, CircuitTold, Made, Sent, Heeded, Notice, Gone, Restarted, Lost}
use Rattle.l3_datagram.specs.Datagrams.{head_at}
use Rattle.l3_datagram.specs.declared.datagram.DatagramHead.{DatagramHead}
use Rattle.l3_datagram.specs.declared.datagram.DatagramRefusal.{DatagramRefusal}
use Rattle.l3_datagram.specs.declared.routed.Routed.{Routed}
use Rattle.node_model.specs.Links as links
use Rattle.node_model.specs.Pumping as p
use Rattle.node_model.specs.States.{State, next_hop}
use Rattle.node_model.specs.Turns.{SettlesTo, Rests, Goes_on}
use Rattle.node_model.proofs.Turns.{IsAtRest, Keeps, kept_to, once, rests_at}

-- ---- what a turn leaves untold

-- the answer of a link is one of those that there may be
talked : (now : ℕ) (P : Waiting → Type 0) (t : Turn) (n : State) → OfEach (λ u. P u.after) t → P (p.take_turn now t n).set
talked now P (Says t) n each = each
talked now P (Offers to d by) n each = each (links.offer_answer to d now n.links)

-- the first thing that is told is untold no more
module _ (hop : Callsign → Option Callsign) (s : SetState) (rest : List CircuitTold) where
  abbrev LeavesRest : Turn → Type 0
  LeavesRest t = OfEach (λ u. u.after.untold ≡ rest) t

  to_rest : (t : CircuitTold) (d : List ℕ) (o : Option Callsign) → LeavesRest (pumps.sent_to hop s t d rest o)
  to_rest t d None = refl
  to_rest t d (Some to) = λ answer. refl

  head_rest : (t : CircuitTold) (d : List ℕ) (r : Result DatagramHead DatagramRefusal) → LeavesRest (pumps.sent_by_head hop s t d rest r)
  head_rest t d (Err e) = refl
  head_rest t d (Ok head) = to_rest t d (hop head.dest)

  first_rest : (t : CircuitTold) → LeavesRest (pumps.tells_first hop s t rest)
  first_rest (Sent id number d) = head_rest (Sent id number d) d (head_at d)
  first_rest (Made id pair partner request) = refl
  first_rest (Heeded id d) = refl
  first_rest (Notice id notice) = refl
  first_rest (Gone id facts) = refl
  first_rest (Restarted pair) = refl
  first_rest (Lost id facts) = refl

tells_rest : (hop : Callsign → Option Callsign) (w : Waiting) (t : CircuitTold) (rest : List CircuitTold) → w.lost ≡ None → w.untold ≡ t ∷ rest → OfEach (λ u. u.after.untold ≡ rest) (links.tells hop w)
unfolding links.tells
tells_rest hop w t rest e f = rw (e, f) (first_rest hop w.set rest t)

tells_outcome : (hop : Callsign → Option Callsign) (w : Waiting) (r : Routed) → w.lost ≡ Some r → OfEach (λ u. (u.after.untold ≡ w.untold) × (u.after.lost ≡ None)) (links.tells hop w)
unfolding links.tells
tells_outcome hop w r e = rw e (refl, refl)

rest_left : (now : ℕ) (n : State) (t : CircuitTold) (rest : List CircuitTold) → n.set.lost ≡ None → n.set.untold ≡ t ∷ rest → (p.tell_one now n).set.untold ≡ rest
rest_left now n t rest e f = talked now (λ w. w.untold ≡ rest) (links.tells (next_hop n) n.set) n (tells_rest (next_hop n) n.set t rest e f)

outcome_left : (now : ℕ) (n : State) (r : Routed) → n.set.lost ≡ Some r → ((p.tell_one now n).set.untold ≡ n.set.untold) × ((p.tell_one now n).set.lost ≡ None)
outcome_left now n r e =
    talked now (λ w. (w.untold ≡ n.set.untold) × (w.lost ≡ None)) (links.tells (next_hop n) n.set) n (tells_outcome (next_hop n) n.set r e)

-- ---- whether something is untold

some_weight : (t : CircuitTold) → 0 < weight t
some_weight (Sent id number d) = omega arith
some_weight (Made id pair partner request) = omega arith
some_weight (Heeded id d) = omega arith
some_weight (Notice id notice) = omega arith
some_weight (Gone id facts) = omega arith
some_weight (Restarted pair) = omega arith
some_weight (Lost id facts) = omega arith

none_pending : (w : Waiting) → w.lost ≡ None → w.untold ≡ [] → nat_lt 0 (links.pending w) ≡ false
unfolding links.pending
none_pending w e f = rw (e, f) refl

first_pending : (w : Waiting) (t : CircuitTold) (rest : List CircuitTold) → w.lost ≡ None → w.untold ≡ t ∷ rest → nat_lt 0 (links.pending w) ≡ true
unfolding links.pending
first_pending w t rest e f =
    let some = some_weight t in
    let more : 0 < 0 + (weight t + weights rest) = omega (arith, some) in
    rw (e, f) (grind (arith, nat_tests, more))

outcome_pending : (w : Waiting) (r : Routed) → w.lost ≡ Some r → nat_lt 0 (links.pending w) ≡ true
unfolding links.pending
outcome_pending w r e =
    let more : 0 < 1 + weights w.untold = omega arith in
    rw e (grind (arith, nat_tests, more))

-- ---- turn by turn

goes_to : (now : ℕ) (n m : State) → nat_lt 0 (p.pending n) ≡ true → SettlesTo (p.tell_turn now) (p.tell_one now n) m → SettlesTo (p.tell_turn now) n m
goes_to now n m e more = Goes_on n m e (subst (λ (s : State). SettlesTo (p.tell_turn now) s m) (sym (ap (λ b. if b then p.tell_one now n else n) e)) more)

rests_here : (now : ℕ) (n : State) → nat_lt 0 (p.pending n) ≡ false → SettlesTo (p.tell_turn now) n n
rests_here now n e = subst (SettlesTo (p.tell_turn now) n) (ap (λ b. if b then p.tell_one now n else n) e) (Rests n e)

abbrev EachTo : ℕ → List CircuitTold → Type 0
EachTo now ts = (n : State) → n.set.lost ≡ None → n.set.untold ≡ ts → SettlesTo (p.tell_turn now) n (p.tell_each now ts n)

behind_outcome : (now : ℕ) (ts : List CircuitTold) → EachTo now ts → (n : State) (o : Option Routed) → n.set.lost ≡ o → n.set.untold ≡ ts
    → SettlesTo (p.tell_turn now) n (p.tell_each now ts (p.tell_outcome now n))
behind_outcome now ts each n None e f =
    let same : p.tell_outcome now n ≡ n = ap (λ (o : Option Routed). if is_some o then p.tell_one now n else n) e in
    subst (λ (s : State). SettlesTo (p.tell_turn now) n (p.tell_each now ts s)) (sym same) (each n e f)
behind_outcome now ts each n (Some r) e f =
    let m : State = p.tell_one now n in
    let same : p.tell_outcome now n ≡ m = ap (λ (o : Option Routed). if is_some o then p.tell_one now n else n) e in
    let left = outcome_left now n r e in
    subst (λ (s : State). SettlesTo (p.tell_turn now) n (p.tell_each now ts s)) (sym same)
    (goes_to now n (p.tell_each now ts m) (outcome_pending n.set r e) (each m left.1 (left.0 ∙ f)))

each_to : (now : ℕ) (ts : List CircuitTold) → EachTo now ts
each_to now [] n e f = rests_here now n (none_pending n.set e f)
each_to now (t ∷ ts) n e f =
    let m : State = p.tell_one now n in
    goes_to now n (p.tell_each now ts (p.tell_outcome now m)) (first_pending n.set t ts e f)
    (behind_outcome now ts (each_to now ts) m m.set.lost refl (rest_left now n t ts e f))

pub tells_to : (now : ℕ) (n : State) → SettlesTo (p.tell_turn now) n (p.tell_all now n)
unfolding p.tell_all
tells_to now n = behind_outcome now n.set.untold (each_to now n.set.untold) n n.set.lost refl refl

-- ---- so of all that is told

pub told_kept : (now : ℕ) (P : State → Type 0) → Keeps (p.tell_turn now) P → (n : State) → P n → P (p.tell_all now n)
told_kept now P keeps n x = kept_to P keeps (tells_to now n) x

pub told_rests : (now : ℕ) (n : State) → IsAtRest (p.tell_turn now) (p.tell_all now n)
told_rests now n = rests_at (tells_to now n)

-- it goes on behind the first, and where nothing is untold it is nothing
pub told_on : (now : ℕ) (n : State) → nat_lt 0 (p.pending n) ≡ true → p.tell_all now n ≡ p.tell_all now (p.tell_one now n)
told_on now n e = once (tells_to now n) (goes_to now n (p.tell_all now (p.tell_one now n)) e (tells_to now (p.tell_one now n)))

pub told_nothing : (now : ℕ) (n : State) → nat_lt 0 (p.pending n) ≡ false → p.tell_all now n ≡ n
told_nothing now n e = once (tells_to now n) (rests_here now n e)
