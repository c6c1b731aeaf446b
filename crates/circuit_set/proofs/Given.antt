-- The pairs that a set tells are those that it gives.
use Rattle.std.specs.Prelude.{◌≡◌, ℕ, suc, ◌+◌, ◌≤◌, ◌<◌, Bool, true, false, ◌&&◌, ◌||◌, nat_eq, nat_lt, nat_le, if◌then◌else◌, List, [], ◌∷◌, ◌++◌, length, slice_get, Option, Some, None, refl}
use Rattle.std.proofs.Common.{sym, ◌∙◌, ap, subst, arith}
use Rattle.std.proofs.lemmas.Bool.Decides.{nat_tests}
use Rattle.radio_base.specs.declared.modulus.TheConstants.{COUNT_MAX}
use Rattle.ax_address.specs.Callsign.{Callsign}
use Rattle.circuit_l4.specs.declared.pair.Pair.{Pair}
use Rattle.circuit_l4.specs.declared.notice.EndNotice.{EndNotice}
use Rattle.circuit_l4.specs.State.{Effect, Out, inbox}
use Rattle.circuit_l4.specs.Opening.{facts_of}
use Rattle.circuit_table.specs.Pairs.{Change, EndMade, Giving, EndGone, pair_after, after_giving, pair_given, pairs_given, without}
use Rattle.circuit_table.specs.Pairs as pairs
use Rattle.circuit_table.specs.Sets.{Act, Calls, Comes, Connect, ConnectFor, Discard, Restart, Made, Sent, Heeded, Notice, Gone, Restarted, Lost, Holder, SetDone, SetState, CircuitTold, all_gone, end_of, held_pairs, holder_of, is_over, makes_end, new_pair, notices, after_restart, sendings, set_step, after_effect, told_by, with_end}
use Rattle.circuit_table.specs.Pumps.{runs}
use Rattle.circuit_table.specs.Runs.{IsStart}
use Rattle.circuit_table.specs.Givings.{GivenBy, MadeAreGiven, MadeDiffer, StaysUp, after_changes, giving, pairs_made}
use Rattle.circuit_set.proofs.Cases.{Apart, Cases, IsNew, Once, found, step_cases}
use Rattle.circuit_set.proofs.Lookups.{InEnds}
use Rattle.circuit_set.proofs.Pairs.{pairs_differ}

-- ---- the numbers of ends ----
abbrev pub Below : ℕ → List Holder → Type 0
Below n [] = Unit {0}
Below n (h ∷ hs) = (h.id < n) × Below n hs

pub record Numbers (s : SetState) : Type 0 where
  pub below : Below s.number s.ends
  pub once : Once s.ends

put_id : (h x : Holder) (b : Bool) → nat_eq x.id h.id ≡ b → (if b then h else x).id ≡ x.id
put_id h x true e = grind (arith, nat_tests)
put_id h x false e = refl

below_up : (n m : ℕ) (hs : List Holder) → n ≤ m → Below n hs → Below m hs
below_up n m [] l b = tt
below_up n m (h ∷ hs) l b = let low : h.id < n = b.0 in (omega arith, below_up n m hs l b.1)

none_case : (n : ℕ) (h : Holder) (hs : List Holder) (b : Bool) → nat_eq h.id n ≡ b → h.id < n → end_of n hs ≡ None → (if b then Some h else end_of n hs) ≡ None
none_case n h hs true e l later = absurd (let same : h.id ≡ n = grind (arith, nat_tests) in omega arith)
none_case n h hs false e l later = later

pub none_of : (n : ℕ) (hs : List Holder) → Below n hs → end_of n hs ≡ None
none_of n [] b = refl
none_of n (h ∷ hs) b = none_case n h hs (nat_eq h.id n) refl b.0 (none_of n hs b.1)

below_put : (n : ℕ) (h : Holder) (hs : List Holder) → Below n hs → Below n (with_end h hs)
below_put n h [] b = tt
below_put n h (x ∷ xs) b = (subst (λ i. i < n) (sym (put_id h x (nat_eq x.id h.id) refl)) b.0, below_put n h xs b.1)

below_push : (n : ℕ) (h : Holder) (hs : List Holder) → h.id < n → Below n hs → Below n (hs ++ h ∷ [])
below_push n h [] l b = (l, tt)
below_push n h (x ∷ xs) l b = (b.0, below_push n h xs l b.1)

below_gone : (n : ℕ) (hs : List Holder) → Below n hs → Below n (all_gone hs)
below_gone n [] b = tt
below_gone n (x ∷ xs) b = (b.0, below_gone n xs b.1)

apart_put : (id : ℕ) (h : Holder) (hs : List Holder) → Apart id hs → Apart id (with_end h hs)
apart_put id h [] a = tt
apart_put id h (x ∷ xs) a = (ap (λ i. nat_eq i id) (put_id h x (nat_eq x.id h.id) refl) ∙ a.0, apart_put id h xs a.1)

apart_push : (id : ℕ) (h : Holder) (hs : List Holder) → nat_eq h.id id ≡ false → Apart id hs → Apart id (hs ++ h ∷ [])
apart_push id h [] e a = (e, tt)
apart_push id h (x ∷ xs) e a = (a.0, apart_push id h xs e a.1)

apart_gone : (id : ℕ) (hs : List Holder) → Apart id hs → Apart id (all_gone hs)
apart_gone id [] a = tt
apart_gone id (x ∷ xs) a = (a.0, apart_gone id xs a.1)

once_put : (h : Holder) (hs : List Holder) → Once hs → Once (with_end h hs)
once_put h [] o = tt
once_put h (x ∷ xs) o = (subst (λ i. Apart i (with_end h xs)) (sym (put_id h x (nat_eq x.id h.id) refl)) (apart_put x.id h xs o.0), once_put h xs o.1)

other_number : (m n : ℕ) → n < m → nat_eq m n ≡ false
other_number m n l = grind (arith, nat_tests)

once_push : (h : Holder) (hs : List Holder) → Below h.id hs → Once hs → Once (hs ++ h ∷ [])
once_push h [] b o = (tt, tt)
once_push h (x ∷ xs) b o = (apart_push x.id h xs (other_number h.id x.id b.0) o.0, once_push h xs b.1 o.1)

once_gone : (hs : List Holder) → Once hs → Once (all_gone hs)
once_gone [] o = tt
once_gone (x ∷ xs) o = (apart_gone x.id xs o.0, once_gone xs o.1)

-- ---- the pairs of the ends that are held ----
apart_same : (h : Holder) (hs : List Holder) → Apart h.id hs → with_end h hs ≡ hs
apart_same h [] a = refl
apart_same h (x ∷ xs) a = ap (λ b. (if b then h else x) ∷ with_end h xs) a.0 ∙ ap (λ ys. x ∷ ys) (apart_same h xs a.1)

-- what is held once h stands in the place of an end that was held
abbrev Leaves : Holder → List Pair → List Pair → Type 0
Leaves h ys xs = (n : ℕ) × (ys ≡ (if h.gone then without n xs else xs))

put_here : (g : Bool) (p q : Pair) (ps : List Pair) → p ≡ q → (if g then ps else p ∷ ps) ≡ (if g then without 0 (q ∷ ps) else q ∷ ps)
put_here true p q ps e = refl
put_here false p q ps e = ap (λ r. r ∷ ps) e

put_there : (g gone : Bool) (p : Pair) (ys xs : List Pair) (n : ℕ) → ys ≡ (if gone then without n xs else xs)
    → (m : ℕ) × ((if g then ys else p ∷ ys) ≡ (if gone then without m (if g then xs else p ∷ xs) else (if g then xs else p ∷ xs)))
put_there true gone p ys xs n e = (n, e)
put_there false true p ys xs n e = (suc n, ap (λ zs. p ∷ zs) e)
put_there false false p ys xs n e = (n, ap (λ zs. p ∷ zs) e)

put_case : (h k x : Holder) (xs : List Holder) (b : Bool) → nat_eq x.id h.id ≡ b → Once (x ∷ xs) → (if b then Some x else end_of h.id xs) ≡ Some k → k.gone ≡ false → h.end.pair ≡ k.end.pair
    → (end_of h.id xs ≡ Some k → Leaves h (held_pairs (with_end h xs)) (held_pairs xs)) → Leaves h (held_pairs ((if b then h else x) ∷ with_end h xs)) (held_pairs (x ∷ xs))
put_case h k x xs true t o e lasts same later =
    let is : x ≡ k = cc in
    let number : x.id ≡ h.id = grind (arith, nat_tests) in
    let rest : with_end h xs ≡ xs = apart_same h xs (subst (λ i. Apart i xs) number o.0) in
    let held : x.gone ≡ false = ap (λ (j : Holder). j.gone) is ∙ lasts in
    let pair : h.end.pair ≡ x.end.pair = same ∙ sym (ap (λ (j : Holder). j.end.pair) is) in (
      0,
      ap (λ ys. held_pairs (h ∷ ys)) rest ∙ put_here h.gone h.end.pair x.end.pair (held_pairs xs) pair
          ∙ sym (ap (λ g. (let ps : List Pair = if g then held_pairs xs else x.end.pair ∷ held_pairs xs in if h.gone then without 0 ps else ps)) held),
    )
put_case h k x xs false t o e lasts same later =
    let r : Leaves h (held_pairs (with_end h xs)) (held_pairs xs) = later e in
    put_there x.gone h.gone x.end.pair (held_pairs (with_end h xs)) (held_pairs xs) r.0 r.1

held_put : (h k : Holder) (hs : List Holder) → Once hs → end_of h.id hs ≡ Some k → k.gone ≡ false → h.end.pair ≡ k.end.pair → Leaves h (held_pairs (with_end h hs)) (held_pairs hs)
held_put h k [] o e lasts same = cc
held_put h k (x ∷ xs) o e lasts same = put_case h k x xs (nat_eq x.id h.id) refl o e lasts same (λ f. held_put h k xs o.1 f lasts same)

push_case : (g : Bool) (p : Pair) (ys zs ws : List Pair) → ys ≡ zs ++ ws → (if g then ys else p ∷ ys) ≡ (if g then zs else p ∷ zs) ++ ws
push_case true p ys zs ws e = e
push_case false p ys zs ws e = ap (λ xs. p ∷ xs) e

held_push : (h : Holder) (hs : List Holder) → h.gone ≡ false → held_pairs (hs ++ h ∷ []) ≡ held_pairs hs ++ h.end.pair ∷ []
held_push h [] e = ap (λ g. if g then [] else h.end.pair ∷ []) e
held_push h (x ∷ xs) e = push_case x.gone x.end.pair (held_pairs (xs ++ h ∷ [])) (held_pairs xs) (h.end.pair ∷ []) (held_push h xs e)

-- ---- what is told of pairs ----
pub made_append : (xs ys : List CircuitTold) → pairs_made (xs ++ ys) ≡ pairs_made xs ++ pairs_made ys
made_append [] ys = refl
made_append (Made id pair at request ∷ xs) ys = ap (λ ps. pair ∷ ps) (made_append xs ys)
made_append (Sent id number d ∷ xs) ys = made_append xs ys
made_append (Heeded id d ∷ xs) ys = made_append xs ys
made_append (Notice id n ∷ xs) ys = made_append xs ys
made_append (Gone id facts ∷ xs) ys = made_append xs ys
made_append (Restarted pair ∷ xs) ys = made_append xs ys
made_append (Lost id facts ∷ xs) ys = made_append xs ys

pub none_append : (xs ys : List CircuitTold) → pairs_made xs ≡ [] → pairs_made ys ≡ [] → pairs_made (xs ++ ys) ≡ []
none_append xs ys p q = made_append xs ys ∙ ap (λ ps. ps ++ pairs_made ys) p ∙ q

sents_none : (s : SetState) (id : ℕ) (at : Callsign) (os : List Out) → pairs_made (sendings s id at os) ≡ []
sents_none s id at [] = refl
sents_none s id at (o ∷ os) = sents_none s id at os

notices_none : (id : ℕ) (ns : List EndNotice) → pairs_made (notices id ns) ≡ []
notices_none id [] = refl
notices_none id (n ∷ ns) = notices_none id ns

gone_none : (b : Bool) (t : CircuitTold) → pairs_made (t ∷ []) ≡ [] → pairs_made (if b then t ∷ [] else []) ≡ []
gone_none true t e = e
gone_none false t e = refl

pub told_none : (s : SetState) (h : Holder) (g : Effect) → pairs_made (told_by s h g) ≡ []
told_none s h g =
    none_append (sendings s h.id h.at g.outs ++ notices h.id g.notes) (if is_over g.end then Gone h.id (facts_of g.end) ∷ [] else [])
    (none_append (sendings s h.id h.at g.outs) (notices h.id g.notes) (sents_none s h.id h.at g.outs) (notices_none h.id g.notes)) (gone_none (is_over g.end) (Gone h.id (facts_of g.end)) refl)

-- ---- changes, one after another ----
given_case : (b : Bool) (cs ds : List Change) (g h : Giving) (p : Pair) → pairs_given (cs ++ ds) g ≡ pairs_given cs g ++ pairs_given ds (after_changes cs g)
    → pairs_given (cs ++ ds) h ≡ pairs_given cs h ++ pairs_given ds (after_changes cs h)
    → (if b then pairs_given (cs ++ ds) g else p ∷ pairs_given (cs ++ ds) h)
    ≡ (if b then pairs_given cs g else p ∷ pairs_given cs h) ++ pairs_given ds (if b then after_changes cs g else after_changes cs h)
given_case true cs ds g h p e f = e
given_case false cs ds g h p e f = ap (λ ps. p ∷ ps) f

given_append : (cs ds : List Change) (g : Giving) → pairs_given (cs ++ ds) g ≡ pairs_given cs g ++ pairs_given ds (after_changes cs g)
given_append [] ds g = refl
given_append (EndMade ∷ cs) ds g = given_case (pairs.is_full g) cs ds g (after_giving g) (pair_given g) (given_append cs ds g) (given_append cs ds (after_giving g))
given_append (EndGone nth ∷ cs) ds g = given_append cs ds (record { next = g.next; held = without nth g.held })

after_case : (b : Bool) (cs ds : List Change) (g h : Giving) → after_changes (cs ++ ds) g ≡ after_changes ds (after_changes cs g) → after_changes (cs ++ ds) h ≡ after_changes ds (after_changes cs h)
    → (if b then after_changes (cs ++ ds) g else after_changes (cs ++ ds) h) ≡ after_changes ds (if b then after_changes cs g else after_changes cs h)
after_case true cs ds g h e f = e
after_case false cs ds g h e f = f

after_append : (cs ds : List Change) (g : Giving) → after_changes (cs ++ ds) g ≡ after_changes ds (after_changes cs g)
after_append [] ds g = refl
after_append (EndMade ∷ cs) ds g = after_case (pairs.is_full g) cs ds g (after_giving g) (after_append cs ds g) (after_append cs ds (after_giving g))
after_append (EndGone nth ∷ cs) ds g = after_append cs ds (record { next = g.next; held = without nth g.held })

held_is : (p : Pair) (xs ys : List Pair) → xs ≡ ys → (let g : Giving = record { next = p; held = xs } in g) ≡ record { next = p; held = ys }
held_is p xs ys e = ap (λ ps. (let g : Giving = record { next = p; held = ps } in g)) e

-- ---- one input ----
-- what an input comes to
abbrev Fine : SetState → SetDone → Type 0
Fine s done = GivenBy s done × Numbers done.set

or_false : (a b : Bool) → (a || b) ≡ false → a ≡ false
or_false true b e = cc
or_false false b e = refl

room_is : (n : ℕ) → nat_le 64 n ≡ false → nat_lt 63 n ≡ false
room_is n e = grind (arith, nat_tests)

pub heard_none : (b : Bool) (id : ℕ) (d : List ℕ) → pairs_made (if b then Heeded id d ∷ [] else []) ≡ []
heard_none true id d = refl
heard_none false id d = refl

module _ (s : SetState) (nums : Numbers s) where
  pub one : (h : Holder) → InEnds h s.ends → end_of h.id s.ends ≡ Some h
  one h i = found h s.ends nums.once i

  put_numbers : (h : Holder) → Numbers (record s { ends = with_end h s.ends })
  put_numbers h = record { below = below_put s.number h s.ends nums.below; once = once_put h s.ends nums.once }

  -- an end is held as before, or no longer
  leaves : (b : Bool) (n : ℕ) (to : List Holder) (told : List CircuitTold) → held_pairs to ≡ (if b then without n (held_pairs s.ends) else held_pairs s.ends) → pairs_made told ≡ []
      → GivenBy s (record { set = record s { ends = to }; told = told })
  leaves true n to told e none = record { changes = EndGone n ∷ []; pairs = none; stands = held_is s.next (held_pairs to) (without n (held_pairs s.ends)) e }
  leaves false n to told e none = record { changes = []; pairs = none; stands = held_is s.next (held_pairs to) (held_pairs s.ends) e }

  changed : (h to : Holder) (told : List CircuitTold) → to.id ≡ h.id → end_of h.id s.ends ≡ Some h → h.gone ≡ false → to.end.pair ≡ h.end.pair → pairs_made told ≡ []
      → Fine s (record { set = record s { ends = with_end to s.ends }; told = told })
  changed h to told number there lasts same none =
      let r : Leaves to (held_pairs (with_end to s.ends)) (held_pairs s.ends) = held_put to h s.ends nums.once (ap (λ i. end_of i s.ends) number ∙ there) lasts same in
      (leaves to.gone r.0 (with_end to s.ends) told r.1 none, put_numbers to)

  new_one : (at : Callsign) (asked : Option Pair) (request : Option (List ℕ)) (g : Effect) → IsNew s asked request g → Fine s (makes_end s at asked request g)
  new_one at asked request g new =
      let h : Holder = holder_of s at asked g in
      let lasts : is_over g.end ≡ false = ap (λ b. b && nat_eq (length (inbox g.end.receiving)) 0) new.lasts in
      let fits : pairs.is_full (giving s) ≡ false = room_is (length (held_pairs s.ends)) (or_false (nat_le 64 (length (held_pairs s.ends))) (nat_lt COUNT_MAX s.number) new.room) in
      let up : Below (s.number + 1) s.ends = below_up s.number (s.number + 1) s.ends (omega arith) nums.below in (
        record {
          changes = EndMade ∷ [];
          pairs = ap (λ ps. new_pair s ∷ ps) (told_none s h g) ∙ sym (ap (λ b. if b then [] else pair_given (giving s) ∷ []) fits);
          stands =
              held_is (pair_after (new_pair s)) (held_pairs (s.ends ++ h ∷ [])) (held_pairs s.ends ++ new_pair s ∷ []) (held_push h s.ends lasts ∙ ap (λ p. held_pairs s.ends ++ p ∷ []) new.pair)
              ∙ sym (ap (λ b. if b then giving s else after_giving (giving s)) fits);
        },
        record { below = below_push (s.number + 1) h s.ends (omega arith) up; once = once_push h s.ends nums.below nums.once },
      )

  cases : Cases s (Fine s)
  cases = record {
    rests = (record { changes = []; pairs = refl; stands = refl }, nums);
    refuses = λ d. (record { changes = []; pairs = refl; stands = refl }, nums);
    moves = λ h b d g there lasts same ends says lives.
        changed h (after_effect h g) ((if b then Heeded h.id d ∷ [] else []) ++ told_by s h g) refl there lasts same.pair
        (none_append (if b then Heeded h.id d ∷ [] else []) (told_by s h g) (heard_none b h.id d) (told_none s h g));
    leaves = λ h there lasts. changed h (record h { gone = true }) (Gone h.id (facts_of h.end) ∷ []) refl there lasts refl refl;
    makes = new_one;
  }

  -- the node starts again
  again_numbers : (pair : Pair) (more : ℕ) → Numbers (after_restart s pair more).set
  again_numbers pair more = record {
    below = below_gone (s.number + more) s.ends (below_up s.number (s.number + more) s.ends (omega arith) nums.below);
    once = once_gone s.ends nums.once;
  }

  pub step_numbers : (a : Act) → Numbers (set_step s a).set
  step_numbers (Connect dest now) = (step_cases s one (Fine s) cases (Connect dest now) tt).1
  step_numbers (ConnectFor user dest now) = (step_cases s one (Fine s) cases (ConnectFor user dest now) tt).1
  step_numbers (Comes d now) = (step_cases s one (Fine s) cases (Comes d now) tt).1
  step_numbers (Calls id call now) = (step_cases s one (Fine s) cases (Calls id call now) tt).1
  step_numbers (Discard id) = (step_cases s one (Fine s) cases (Discard id) tt).1
  step_numbers (Restart pair more) = again_numbers pair more

  -- one input, and then the others
  and_then : (a : Act) (acts : List Act) → GivenBy s (set_step s a) → GivenBy (set_step s a).set (runs acts (set_step s a).set) → GivenBy s (runs (a ∷ acts) s)
  and_then a acts x y = record {
    changes = x.changes ++ y.changes;
    pairs =
        made_append (set_step s a).told (runs acts (set_step s a).set).told ∙ ap (λ ps. ps ++ pairs_made (runs acts (set_step s a).set).told) x.pairs
        ∙ ap (λ ps. pairs_given x.changes (giving s) ++ ps) (y.pairs ∙ ap (λ g. pairs_given y.changes g) x.stands) ∙ sym (given_append x.changes y.changes (giving s));
    stands = y.stands ∙ ap (λ g. after_changes y.changes g) x.stands ∙ sym (after_append x.changes y.changes (giving s));
  }

-- ---- a run of a set ----
pub runs_numbers : (acts : List Act) (s : SetState) → Numbers s → Numbers (runs acts s).set
runs_numbers [] s n = n
runs_numbers (a ∷ acts) s n = runs_numbers acts (set_step s a).set (step_numbers s n a)

pub runs_given : (acts : List Act) (s : SetState) → Numbers s → StaysUp acts → GivenBy s (runs acts s)
runs_given [] s n up = record { changes = []; pairs = refl; stands = refl }
runs_given (a ∷ acts) s n up =
    let x : Fine s (set_step s a) = step_cases s (one s n) (Fine s) (cases s n) a up.0 in and_then s n a acts x.0 (runs_given acts (set_step s a).set x.1 up.1)

pub start_numbers : (s : SetState) → IsStart s → Numbers s
start_numbers s a = record { below = subst (λ hs. Below s.number hs) (sym a.none) tt; once = subst Once (sym a.none) tt }

pub made_are_given : MadeAreGiven
made_are_given s start before acts up = runs_given acts (runs before s).set (runs_numbers before s (start_numbers s start)) up

pub made_differ : MadeDiffer
made_differ s start before acts up none ok i j p q l few hp hq =
    let t : SetState = (runs before s).set in
    let g : GivenBy t (runs acts t) = made_are_given s start before acts up in
    let e : pairs_made (runs acts t).told ≡ pairs_given g.changes (record { next = t.next; held = [] }) = g.pairs ∙ ap (λ x. pairs_given g.changes x) (held_is t.next (held_pairs t.ends) [] none) in
    pairs_differ t.next ok g.changes i j p q l few (ap (λ xs. slice_get xs i) (sym e) ∙ hp) (ap (λ xs. slice_get xs j) (sym e) ∙ hq)
