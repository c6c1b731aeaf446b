-- The backplane loses nothing.
use Rattle.std.proofs.Common.{◌≡◌, ◌≢◌, ◌<◌, ◌≤◌, ◌+◌, ◌∙◌, ℕ, zero, suc, refl, sym, ap, List, [], ◌∷◌, ◌++◌, length, arith, Bool, true, false, cond, not, append_assoc, append-nil}
use Rattle.std.proofs.lemmas.Bool.Decides.{nat_tests}
use Rattle.std.specs.Prelude.{◌==◌, ◌&&◌, nat_lt}
use Rattle.radio_base.specs.declared.moment.Moment.{Moment}
use Rattle.link_table.specs.declared.written.Written.{Written}
use Rattle.node_core.specs.Bridged as nodes
use Rattle.node_core.specs.Bridged.{Input}
use Rattle.station_members.specs.declared.routing.Parcel.{Parcel}
use Rattle.station_members.specs.declared.routing.Parcel.TheVariants.{Nothing, For, ForFellows}
use Rattle.station_members.specs.Laws.{BackplaneLosesNothing, LosesNothing, given_from, is_from, parcel_for, sent_for, sent_to}
use Rattle.station_members.specs.Routing.{parcel_of, routed}
use Rattle.station_members.specs.States as states
use Rattle.station_members.specs.States.{Fellow, Given, Own, Port, Sent, Source, State, at_desk, each_from, frame_in, give, given, new_state, note_sent}
use Rattle.station_members.proofs.Keeping.{Keeps, always}
use Rattle.station_members.proofs.Places.{place_length}

-- ---- lists

given_cons : (b : Bool) (i : Input) (xs ys more : List Input) → xs ≡ ys ++ more → cond b (i ∷ xs) xs ≡ cond b (i ∷ ys) ys ++ more
given_cons true i xs ys more e = ap (λ zs. i ∷ zs) e
given_cons false i xs ys more e = e

given_more : (f to : ℕ) (gs : List Given) (g : Given) → given_from f to (gs ++ g ∷ []) ≡ given_from f to gs ++ given_from f to (g ∷ [])
given_more f to [] g = refl
given_more f to (h ∷ gs) g = given_cons (is_from f h.from && (h.to == to)) h.input _ _ (given_from f to (g ∷ [])) (given_more f to gs g)

sent_more : (f to : ℕ) (xs : List Sent) (x : Sent) → sent_to f to (xs ++ x ∷ []) ≡ sent_to f to xs ++ sent_for f to x
sent_more f to [] x = append-nil (sent_for f to x)
sent_more f to (y ∷ xs) x = ap (λ zs. sent_for f to y ++ zs) (sent_more f to xs x) ∙ sym (append_assoc (sent_for f to y) (sent_to f to xs) (sent_for f to x))

-- ---- what is given from elsewhere

stays : (at : ℕ) (from : Source) (i : Input) (s : State) → ((f to : ℕ) → given_from f to (record { to = at; from = from; input = i } ∷ []) ≡ [])
    → LosesNothing s → LosesNothing (give at from i s)
unfolding states.give
stays at from i s none l = by (nat_lt at (length s.nodes))
  where
    by : (b : Bool) → LosesNothing (cond b (given at from i s) s)
    by true = λ f to. given_more f to s.given (record { to = at; from = from; input = i }) ∙ (ap (λ xs. given_from f to s.given ++ xs) (none f to) ∙ (append-nil (given_from f to s.given) ∙ l f to))
    by false = l

-- ---- what is given from a fellow

-- what of it is for a member
abbrev pub one_for : (from f at to : ℕ) → Input → List Input
one_for from f at to i = cond (from == f && (at == to)) (i ∷ []) []

given_one : (at from : ℕ) (i : Input) (s : State) → at < length s.nodes → (f to : ℕ)
    → given_from f to (give at (Fellow from) i s).given ≡ given_from f to s.given ++ one_for from f at to i
unfolding states.give
given_one at from i s low f to =
    let is : nat_lt at (length s.nodes) ≡ true = grind (arith, nat_tests, low) in
    rw is (given_more f to s.given (record { to = at; from = Fellow from; input = i }))

-- it is for those from a place on, but for who has sent it
abbrev pub each_for : (from f to : ℕ) → Input → ℕ → ℕ → List Input
each_for from f to i at zero = []
each_for from f to i at (suc left) = cond (at == from) [] (one_for from f at to i) ++ each_for from f to i (suc at) left

given_if : (b : Bool) (at from : ℕ) (i : Input) (s : State) → at < length s.nodes → (f to : ℕ)
    → given_from f to (cond b s (give at (Fellow from) i s)).given ≡ given_from f to s.given ++ cond b [] (one_for from f at to i)
given_if true at from i s low f to = sym (append-nil (given_from f to s.given))
given_if false at from i s low f to = given_one at from i s low f to

same_by : (b : Bool) (at : ℕ) (from : Source) (i : Input) (s : State) → length (cond b (given at from i s) s).nodes ≡ length s.nodes
same_by true at from i s = place_length s.nodes at (nodes.after i)
same_by false at from i s = refl

same_if : (b : Bool) (at from : ℕ) (i : Input) (s : State) → length (cond b s (give at (Fellow from) i s)).nodes ≡ length s.nodes
unfolding states.give
same_if true at from i s = refl
same_if false at from i s = same_by (nat_lt at (length s.nodes)) at (Fellow from) i s

given_each : (now : Moment) (from : ℕ) (octets : List ℕ) (at left : ℕ) (s : State) → at + left ≤ length s.nodes → (f to : ℕ)
    → given_from f to (each_from (states.deliver_to now from octets) at left s).given ≡ given_from f to s.given ++ each_for from f to (frame_in now octets) at left
given_each now from octets at zero s low f to = sym (append-nil (given_from f to s.given))
given_each now from octets at (suc left) s low f to =
    let i = frame_in now octets in
    let once : State = states.deliver_to now from octets at s in
    let here : at < length s.nodes = omega (arith, low) in
    let same = same_if (at == from) at from i s in
    let rest = given_each now from octets (suc at) left once (omega (arith, low, same)) f to in
    rest
    ∙ (ap (λ xs. xs ++ each_for from f to i (suc at) left) (given_if (at == from) at from i s here f to)
    ∙ append_assoc (given_from f to s.given) (cond (at == from) [] (one_for from f at to i)) (each_for from f to i (suc at) left))

-- ---- so it is for each fellow once

none_behind : (from f to : ℕ) (i : Input) (at left : ℕ) → to < at → each_for from f to i at left ≡ []
none_behind from f to i at zero h = refl
none_behind from f to i at (suc left) h =
    let other : at == to ≡ false = grind (arith, nat_tests, h) in
    rw other (both_none (at == from) (from == f) (none_behind from f to i (suc at) left (omega (arith, h))))
  where
    both_none : (a b : Bool) → each_for from f to i (suc at) left ≡ [] → cond a [] (cond (b && false) (i ∷ []) []) ++ each_for from f to i (suc at) left ≡ []
    both_none true b e = e
    both_none false true e = e
    both_none false false e = e

-- what it comes to
abbrev pub once_for : (from f to : ℕ) → Input → Bool → List Input
once_for from f to i stands = cond (from == f) (cond (not (to == from) && stands) (i ∷ []) []) []

none_for : (a b : Bool) (i : Input) → [] ≡ cond a (cond (b && false) (i ∷ []) []) []
none_for true true i = refl
none_for true false i = refl
none_for false b i = refl

here_for : (a b : Bool) (i : Input) → cond a [] (cond (b && true) (i ∷ []) []) ++ [] ≡ cond b (cond (not a && true) (i ∷ []) []) []
here_for true true i = refl
here_for true false i = refl
here_for false true i = refl
here_for false false i = refl

each_once : (from f to : ℕ) (i : Input) (at left : ℕ) → at ≤ to → each_for from f to i at left ≡ once_for from f to i (nat_lt to (at + left))
each_once from f to i at zero h =
    let past : nat_lt to (at + 0) ≡ false = grind (arith, nat_tests, h) in
    rw past (none_for (from == f) (not (to == from)) i)
each_once from f to i at (suc left) h = by (at == to) refl (λ more. each_once from f to i (suc at) left more)
  where
    by : (b : Bool) → at == to ≡ b → (suc at ≤ to → each_for from f to i (suc at) left ≡ once_for from f to i (nat_lt to (suc at + left)))
        → cond (at == from) [] (cond (from == f && (at == to)) (i ∷ []) []) ++ each_for from f to i (suc at) left ≡ once_for from f to i (nat_lt to (at + suc left))
    by true e rest =
        let same : at ≡ to = grind (arith, nat_tests, e) in
        let within : nat_lt to (at + suc left) ≡ true = grind (arith, nat_tests, same) in
        let none = none_behind from f to i (suc at) left (omega (arith, same)) in
        let swap : to == from ≡ at == from = ap (λ k. k == from) (sym same) in
        rw (e, none, within, swap) (here_for (at == from) (from == f) i)
    by false e rest =
        let apart : at ≢ to = (λ same. (let bad : ⊥ = grind (arith, nat_tests, e, same) in bad)) in
        let more : suc at ≤ to = omega (arith, h, apart) in
        let shift : suc at + left ≡ at + suc left = omega arith in
        rw e (other_for (at == from) (from == f) (rest more ∙ ap (λ n. once_for from f to i (nat_lt to n)) shift))
      where
        other_for : (a b : Bool) → each_for from f to i (suc at) left ≡ once_for from f to i (nat_lt to (at + suc left))
            → cond a [] (cond (b && false) (i ∷ []) []) ++ each_for from f to i (suc at) left ≡ once_for from f to i (nat_lt to (at + suc left))
        other_for true b g = g
        other_for false true g = g
        other_for false false g = g

-- ---- what passes in the backplane

nothing_more : (b : Bool) (xs : List Input) → xs ≡ xs ++ cond b [] []
nothing_more true xs = sym (append-nil xs)
nothing_more false xs = sym (append-nil xs)

one_as : (a b : Bool) (i : Input) → cond (a && b) (i ∷ []) [] ≡ cond a (cond (b && true) (i ∷ []) []) []
one_as true true i = refl
one_as true false i = refl
one_as false b i = refl

none_as : (a b : Bool) (i : Input) → [] ≡ cond a (cond (b && false) (i ∷ []) []) []
none_as true true i = refl
none_as true false i = refl
none_as false b i = refl

delivered_by : (b : Bool) (at from : ℕ) (i : Input) (s : State) (f to : ℕ)
    → given_from f to (cond b (given at (Fellow from) i s) s).given ≡ given_from f to s.given ++ cond (from == f) (cond ((at == to) && b) (i ∷ []) []) []
delivered_by true at from i s f to =
    given_more f to s.given (record { to = at; from = Fellow from; input = i }) ∙ ap (λ xs. given_from f to s.given ++ xs) (one_as (from == f) (at == to) i)
delivered_by false at from i s f to =
    sym (append-nil (given_from f to s.given)) ∙ ap (λ xs. given_from f to s.given ++ xs) (none_as (from == f) (at == to) i)

delivered_one : (at from : ℕ) (i : Input) (s : State) (f to : ℕ)
    → given_from f to (give at (Fellow from) i s).given ≡ given_from f to s.given ++ cond (from == f) (cond ((at == to) && nat_lt at (length s.nodes)) (i ∷ []) []) []
unfolding states.give
delivered_one at from i s f to = delivered_by (nat_lt at (length s.nodes)) at from i s f to

pub delivered : (now : Moment) (from : ℕ) (parcel : Parcel) (s : State) (f to : ℕ)
    → given_from f to (states.deliver now from parcel s).given ≡ given_from f to s.given ++ cond (from == f) (parcel_for from to (length s.nodes) now parcel) []
delivered now from Nothing s f to = nothing_more (from == f) (given_from f to s.given)
delivered now from (For at octets) s f to = delivered_one at from (frame_in now octets) s f to
delivered now from (ForFellows octets) s f to =
    let i = frame_in now octets in
    let zero_more : 0 + length s.nodes ≡ length s.nodes = omega arith in
    given_each now from octets 0 (length s.nodes) s (omega arith) f to
    ∙ ap (λ xs. given_from f to s.given ++ xs)
    (each_once from f to i 0 (length s.nodes) (omega arith) ∙ ap (λ n. once_for from f to i (nat_lt to n)) zero_more)

-- ---- what was sent stays

give_sent_by : (b : Bool) (at : ℕ) (from : Source) (i : Input) (s : State) → (cond b (given at from i s) s).sent ≡ s.sent
give_sent_by true at from i s = refl
give_sent_by false at from i s = refl

give_sent : (at : ℕ) (from : Source) (i : Input) (s : State) → (give at from i s).sent ≡ s.sent
unfolding states.give
give_sent at from i s = give_sent_by (nat_lt at (length s.nodes)) at from i s

if_sent : (b : Bool) (at from : ℕ) (i : Input) (s : State) → (cond b s (give at (Fellow from) i s)).sent ≡ s.sent
if_sent true at from i s = refl
if_sent false at from i s = give_sent at (Fellow from) i s

each_sent : (now : Moment) (from : ℕ) (octets : List ℕ) (at left : ℕ) (s : State) → (each_from (states.deliver_to now from octets) at left s).sent ≡ s.sent
each_sent now from octets at zero s = refl
each_sent now from octets at (suc left) s =
    each_sent now from octets (suc at) left (states.deliver_to now from octets at s) ∙ if_sent (at == from) at from (frame_in now octets) s

delivered_sent : (now : Moment) (from : ℕ) (parcel : Parcel) (s : State) → (states.deliver now from parcel s).sent ≡ s.sent
delivered_sent now from Nothing s = refl
delivered_sent now from (For at octets) s = give_sent at (Fellow from) (frame_in now octets) s
delivered_sent now from (ForFellows octets) s = each_sent now from octets 0 (length s.nodes) s

sends : (now : Moment) (from : ℕ) (w : Written) (s : State) → LosesNothing s → LosesNothing (states.send_one now from w s)
unfolding states.send_one
sends now from w s l f to =
    let parcel = parcel_of from w s.desk in
    let noted : State = note_sent now from w parcel (at_desk (routed from w now) s) in
    let x : Sent = record { from = from; frame = w; parcel = parcel; now = now; members = length s.nodes } in
    delivered now from parcel noted f to
    ∙ (ap (λ xs. xs ++ cond (from == f) (parcel_for from to (length s.nodes) now parcel) []) (l f to)
    ∙ (sym (sent_more f to s.sent x) ∙ ap (sent_to f to) (sym (delivered_sent now from parcel noted))))

kept : Keeps LosesNothing
kept = record {
  own = λ to i s l. stays to Own i s (λ f t. refl) l;
  port = λ to port i s l. stays to (Port port) i s (λ f t. refl) l;
  notes = λ port hop now s l. l;
  hears = λ at port h up s l. l;
  ticks = λ at now s l. l;
  beacons = λ now s l. l;
  held = λ at now s l. l;
  sends = sends;
  unnames = λ at peer s l. l;
  remembers = λ at call port s l. l;
  beacon = λ c s l. l;
  fetches = λ s l. l;
  makes = λ c s room l. l;
}

pub loses_nothing : BackplaneLosesNothing
loses_nothing = always kept (λ ports deny f to. refl)
