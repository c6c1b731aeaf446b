-- A run in which a copy of a connect request returns after its circuit.
use Rattle.std.specs.Prelude.{◌≡◌, ℕ, zero, suc, ◌≤◌, Bool, true, false, nat_eq, if◌then◌else◌, List, [], ◌∷◌, ◌++◌, length, take, Option, Some, None, refl}
use Rattle.std.proofs.Common.{sym, ◌∙◌, ap, subst, arith, lit<}
use Rattle.ax_address.specs.Callsign.{same_call}
use Rattle.l3_datagram.specs.Datagrams.{head_at}
use Rattle.circuit_l4.specs.Transports as reading
use Rattle.circuit_l4.specs.Transports.{transport_at}
use Rattle.circuit_set.specs.Books.{Fresh, empty}
use Rattle.circuit_table.specs.Events.{Event}
use Rattle.circuit_set.specs.Examples.{CopyReturns, ask, asked_again, n0aaa, node, n0bbb}
use Rattle.circuit_table.specs.Givings.{pairs_made}
use Rattle.circuit_set.specs.Returning.{CallsDiffer, WasSent, given_by, told_at_node}
use Rattle.circuit_table.specs.Runs.{Step, events_of}
use Rattle.circuit_table.specs.Sets.{Act, Comes, Made, Sent, Heeded, Notice, Gone, Restarted, Lost, SetState, CircuitTold}

abbrev both : List SetState
both = node n0aaa ∷ node n0bbb ∷ []

stale : Fresh empty (events_of both asked_again) → ⊥
unfolding head_at transport_at reading.request_at
stale f = let met = f.1.1.1.1.1.1.1.0.0.1 in cc met

-- ---- few pairs ----
one_more : (t : CircuitTold) (ts : List CircuitTold) → length (pairs_made (t ∷ ts)) ≤ suc (length (pairs_made ts))
one_more (Made id pair at request) ts = omega arith
one_more (Sent id number d) ts = omega arith
one_more (Heeded id d) ts = omega arith
one_more (Notice id n) ts = omega arith
one_more (Gone id facts) ts = omega arith
one_more (Restarted pair) ts = omega arith
one_more (Lost id facts) ts = omega arith

few_case : (n : ℕ) (e : Event) (es : List Event) (b : Bool) → given_by n es ≤ length es → length (pairs_made (if b then e.told ∷ told_at_node n es else told_at_node n es)) ≤ suc (length es)
few_case n e es true l = let m : length (pairs_made (e.told ∷ told_at_node n es)) ≤ suc (length (pairs_made (told_at_node n es))) = one_more e.told (told_at_node n es) in omega arith
few_case n e es false l = omega arith

few_given : (n : ℕ) (es : List Event) → given_by n es ≤ length es
few_given n [] = omega arith
few_given n (e ∷ es) = few_case n e es (nat_eq e.node n) (few_given n es)

events_are : length (events_of both asked_again) ≡ 10
unfolding head_at transport_at reading.request_at
events_are = refl

few : (n : ℕ) → given_by n (events_of both asked_again) ≤ 48960
few n = let l : given_by n (events_of both asked_again) ≤ length (events_of both asked_again) = few_given n (events_of both asked_again) in let m : length (events_of both asked_again) ≡ 10 = events_are in omega arith

-- ---- two calls ----
not_both : (P : Type 0) → n0aaa ≡ n0bbb → P
not_both P e = let bad : false ≡ true = ap (λ c. same_call c n0bbb) e in cc

calls_differ : CallsDiffer both
calls_differ zero zero s t e f same = refl
calls_differ (suc zero) (suc zero) s t e f same = refl
calls_differ zero (suc zero) s t e f same =
    let a : node n0aaa ≡ s = cc in
    let b : node n0bbb ≡ t = cc in
    not_both (0 ≡ 1) (ap (λ (u : SetState). u.own) a ∙ same ∙ sym (ap (λ (u : SetState). u.own) b))
calls_differ (suc zero) zero s t e f same =
    let a : node n0bbb ≡ s = cc in
    let b : node n0aaa ≡ t = cc in
    not_both (1 ≡ 0) (ap (λ (u : SetState). u.own) b ∙ sym same ∙ sym (ap (λ (u : SetState). u.own) a))
calls_differ (suc (suc i)) j s t e f same = cc
calls_differ zero (suc (suc j)) s t e f same = cc
calls_differ (suc zero) (suc (suc j)) s t e f same = cc

-- ---- what comes was sent ----
first_sent : WasSent (events_of both (take 1 asked_again)) ask
first_sent = record { node = 0; own = n0aaa; id = 1; number = None; sent = ask; told = (1, lit< tt, refl); copy = refl }

then_sent : WasSent (events_of both (take 3 asked_again)) ask
unfolding head_at transport_at reading.request_at
then_sent = record { node = 0; own = n0aaa; id = 1; number = None; sent = ask; told = (1, lit< tt, refl); copy = refl }

-- what comes by the step at a place
abbrev comes_by : Act → Option (List ℕ)
comes_by (Comes d now) = Some d
comes_by _ = None

abbrev comes_at : ℕ → List Step → Option (List ℕ)
comes_at i [] = None
comes_at zero (st ∷ sts) = comes_by st.act
comes_at (suc i) (st ∷ sts) = comes_at i sts

was_sent : (before after : List Step) (n now : ℕ) (d : List ℕ) → asked_again ≡ before ++ record { node = n; act = Comes d now } ∷ after → WasSent (events_of both before) d
was_sent [] after n now d e = let bad : None ≡ Some d = ap (comes_at 0) e in cc
was_sent (x ∷ []) after n now d e =
    let came : Some ask ≡ Some d = ap (comes_at 1) e in
    let same : ask ≡ d = cc in
    subst (λ ys. WasSent (events_of both ys) d) (ap (take 1) e) (subst (WasSent (events_of both (take 1 asked_again))) same first_sent)
was_sent (x ∷ y ∷ []) after n now d e = let bad : None ≡ Some d = ap (comes_at 2) e in cc
was_sent (x ∷ y ∷ z ∷ []) after n now d e =
    let came : Some ask ≡ Some d = ap (comes_at 3) e in
    let same : ask ≡ d = cc in
    subst (λ ys. WasSent (events_of both ys) d) (ap (take 3) e) (subst (WasSent (events_of both (take 3 asked_again))) same then_sent)
was_sent (x ∷ y ∷ z ∷ w ∷ []) after n now d e = let bad : None ≡ Some d = ap (comes_at 4) e in cc
was_sent (x ∷ y ∷ z ∷ w ∷ v ∷ before) after n now d e =
    let long : 4 ≡ suc (suc (suc (suc (suc (length (before ++ record { node = n; act = Comes d now } ∷ after)))))) = ap length e in absurd (omega arith)

pub copy_returns : CopyReturns
copy_returns = record {
  unbroken = record { apart = calls_differ; up = (tt, (tt, (tt, (tt, tt)))); few = few; sent = was_sent };
  stale = stale;
}
