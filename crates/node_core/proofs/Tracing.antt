-- Datagrams that were sent or that the air has carried: of more of them, and one hop on.
use Rattle.std.proofs.Common.{◌≡◌, ◌∙◌, ◌≤◌, ◌<◌, ◌+◌, ℕ, zero, suc, refl, ap, arith, List, [], ◌∷◌, ◌++◌, length, take, drop}
use Rattle.std.specs.Prelude.{Bool, true, false, ◌&&◌, ◌||◌, nat_eq, nat_le, slice_get, Result, Ok, Err, nat_lt, if◌then◌else◌}
use Rattle.std.specs.Cmp.Lexicographic.{pointwise}
use Rattle.std.specs.List.{AllByRecursion}
use Rattle.std.proofs.lemmas.Bool.Decides.{nat_tests}
use Rattle.std.proofs.lemmas.Bool.{ltb-false, or_right, and_from}
use Rattle.std.proofs.lemmas.Cmp.{nat_list_eq_equiv}
use Rattle.ax_address.specs.Callsign.{Callsign, same_call}
use Rattle.ax_address.specs.Results.{◌>>=◌}
use Rattle.ax_address.proofs.SameCalls.{same_letters}
use Rattle.circuit_table.specs.Events.{is_copy}
use Rattle.circuit_table.specs.Sets as sets
use Rattle.circuit_table.specs.Sets.{CircuitTold}
use Rattle.l3_datagram.specs.Datagrams.{head_at}
use Rattle.l3_datagram.specs.Onward.{IsOneHopOn}
use Rattle.l3_datagram.specs.declared.datagram.DatagramHead.{DatagramHead}
use Rattle.l3_datagram.specs.declared.datagram.DatagramRefusal.{DatagramRefusal}
use Rattle.l3_datagram.specs.declared.datagram.DatagramRefusal.TheVariants.{Short, TooLong}
use Rattle.link_table.proofs.Reports.{or_both}
use Rattle.link_table.proofs.Widening.{or_map}
use Rattle.node_core.specs.Carried.{Borne, is_borne, is_hop, is_passed, is_sent, sends_in, ttl_of}

-- ---- more that were sent, or that the air has carried

pub sent_more : (sent more : List (List ℕ)) (d : List ℕ) → is_sent sent d ≡ true → is_sent (sent ++ more) d ≡ true
sent_more [] more d e = absurd (cc e)
sent_more (s ∷ sent) more d e = or_map (pointwise nat_eq s d && nat_le 15 (length d)) (is_sent sent d) (is_sent (sent ++ more) d) (sent_more sent more d) e

sent_behind : (sent more : List (List ℕ)) (d : List ℕ) → is_sent more d ≡ true → is_sent (sent ++ more) d ≡ true
sent_behind [] more d e = e
sent_behind (s ∷ sent) more d e = or_right (pointwise nat_eq s d && nat_le 15 (length d)) (is_sent (sent ++ more) d) (sent_behind sent more d e)

pub borne_more : (borne more : List Borne) (to : Callsign) (d : List ℕ) → is_borne borne to d ≡ true → is_borne (borne ++ more) to d ≡ true
borne_more [] more to d e = absurd (cc e)
borne_more (b ∷ bs) more to d e = or_map (same_call b.to to && pointwise nat_eq b.datagram d) (is_borne bs to d) (is_borne (bs ++ more) to d) (borne_more bs more to d) e

pub borne_behind : (borne more : List Borne) (to : Callsign) (d : List ℕ) → is_borne more to d ≡ true → is_borne (borne ++ more) to d ≡ true
borne_behind [] more to d e = e
borne_behind (b ∷ bs) more to d e = or_right (same_call b.to to && pointwise nat_eq b.datagram d) (is_borne (bs ++ more) to d) (borne_behind bs more to d e)

pub passed_more : (borne more : List Borne) (own : Callsign) (d : List ℕ) → is_passed borne own d ≡ true → is_passed (borne ++ more) own d ≡ true
passed_more [] more own d e = absurd (cc e)
passed_more (b ∷ bs) more own d e = or_map (same_call b.to own && is_hop b.datagram d) (is_passed bs own d) (is_passed (bs ++ more) own d) (passed_more bs more own d) e

-- ---- one that was sent is one of those

pub and_left : (a b : Bool) → (a && b) ≡ true → a ≡ true
and_left true b e = refl
and_left false b e = absurd (cc e)

pub and_right : (a b : Bool) → (a && b) ≡ true → b ≡ true
and_right true b e = e
and_right false b e = absurd (cc e)

own_one : (d : List ℕ) → 15 ≤ length d → (pointwise nat_eq d d && nat_le 15 (length d)) ≡ true
own_one d long =
    let size : nat_le 15 (length d) ≡ true = grind (arith, nat_tests, long) in
    and_from (pointwise nat_eq d d) (nat_le 15 (length d)) (nat_list_eq_equiv.refl d) size

-- those that may be read are among these
abbrev pub AreTraced : List (List ℕ) → List (List ℕ) → Type 0
AreTraced sent ds = AllByRecursion (λ (d : List ℕ). 15 ≤ length d → is_sent sent d ≡ true) ds

more_traced : (sent sent2 ds : List (List ℕ)) → ((d : List ℕ) → is_sent sent d ≡ true → is_sent sent2 d ≡ true) → AreTraced sent ds
    → AreTraced sent2 ds
more_traced sent sent2 [] f a = tt
more_traced sent sent2 (d ∷ ds) f a = (λ long. f d (a.0 long), more_traced sent sent2 ds f a.1)

pub all_more : (sent more ds : List (List ℕ)) → AreTraced sent ds → AreTraced (sent ++ more) ds
all_more sent more ds a = more_traced sent (sent ++ more) ds (sent_more sent more) a

pub own_traced : (ds : List (List ℕ)) → AreTraced ds ds
own_traced [] = tt
own_traced (d ∷ ds) =
    (λ long. ap (λ b. b || is_sent ds d) (own_one d long), more_traced ds (d ∷ ds) ds (λ e. or_right (pointwise nat_eq d e && nat_le 15 (length e)) (is_sent ds e)) (own_traced ds))

pub all_behind : (sent more : List (List ℕ)) → AreTraced (sent ++ more) more
all_behind sent more = more_traced more (sent ++ more) more (sent_behind sent more) (own_traced more)

-- ---- what is told

pub sends_append : (xs ys : List CircuitTold) → sends_in (xs ++ ys) ≡ sends_in xs ++ sends_in ys
sends_append [] ys = refl
sends_append (sets.Sent id number d ∷ xs) ys = ap (λ ds. d ∷ ds) (sends_append xs ys)
sends_append (sets.Made id pair partner request ∷ xs) ys = sends_append xs ys
sends_append (sets.Heeded id d ∷ xs) ys = sends_append xs ys
sends_append (sets.Notice id notice ∷ xs) ys = sends_append xs ys
sends_append (sets.Gone id facts ∷ xs) ys = sends_append xs ys
sends_append (sets.Restarted pair ∷ xs) ys = sends_append xs ys
sends_append (sets.Lost id facts ∷ xs) ys = sends_append xs ys

pub all_back : (P : List ℕ → Type 0) (xs ys : List (List ℕ)) → AllByRecursion P (xs ++ ys) → AllByRecursion P ys
all_back P [] ys a = a
all_back P (x ∷ xs) ys a = all_back P xs ys a.1

-- ---- one hop on

get_all : (xs ys : List ℕ) → length ys ≡ length xs → ((at : ℕ) → slice_get ys at ≡ slice_get xs at) → ys ≡ xs
get_all [] [] e f = refl
get_all [] (y ∷ ys) e f = absurd (omega (arith, e))
get_all (x ∷ xs) [] e f = absurd (omega (arith, e))
get_all (x ∷ xs) (y ∷ ys) e f =
    let first : y ≡ x = cc (f 0) in
    ap (λ zs. y ∷ zs) (get_all xs ys (omega (arith, e)) (λ at. f (suc at))) ∙ ap (λ z. z ∷ xs) first

take_same : (k : ℕ) (xs ys : List ℕ) → length ys ≡ length xs → ((at : ℕ) → at < k → slice_get ys at ≡ slice_get xs at) → take k ys ≡ take k xs
take_same zero xs ys e f = refl
take_same (suc k) [] [] e f = refl
take_same (suc k) [] (y ∷ ys) e f = absurd (omega (arith, e))
take_same (suc k) (x ∷ xs) [] e f = absurd (omega (arith, e))
take_same (suc k) (x ∷ xs) (y ∷ ys) e f =
    let first : y ≡ x = cc (f 0 (omega arith)) in
    ap (λ zs. y ∷ zs) (take_same k xs ys (omega (arith, e)) (λ at l. f (suc at) (omega (arith, l)))) ∙ ap (λ z. z ∷ take k xs) first

drop_same : (k : ℕ) (xs ys : List ℕ) → length ys ≡ length xs → ((at : ℕ) → k ≤ at → slice_get ys at ≡ slice_get xs at) → drop k ys ≡ drop k xs
drop_same zero xs ys e f = get_all xs ys e (λ at. f at (omega arith))
drop_same (suc k) [] [] e f = refl
drop_same (suc k) [] (y ∷ ys) e f = absurd (omega (arith, e))
drop_same (suc k) (x ∷ xs) [] e f = absurd (omega (arith, e))
drop_same (suc k) (x ∷ xs) (y ∷ ys) e f = drop_same k xs ys (omega (arith, e)) (λ at l. f (suc at) (omega (arith, l)))

all_true : (a b c d : Bool) → a ≡ true → b ≡ true → c ≡ true → d ≡ true → (a && b && c && d) ≡ true
all_true a b c d p q r s = rw (p, q, r, s) refl

pub hop_is : (old new : List ℕ) → IsOneHopOn old new → 15 ≤ length old → is_hop old new ≡ true
hop_is old new h long =
    let front : take 14 new ≡ take 14 old = take_same 14 old new h.size (λ at l. h.others at (λ same. (let bad : ⊥ = omega (arith, l, same) in bad))) in
    let back : drop 15 new ≡ drop 15 old = drop_same 15 old new h.size (λ at l. h.others at (λ same. (let bad : ⊥ = omega (arith, l, same) in bad))) in
    let size : nat_le 15 (length old) ≡ true = grind (arith, nat_tests, long) in
    let size2 : nat_le 15 (length new) ≡ true = ap (nat_le 15) h.size ∙ size in
    let first : pointwise nat_eq (take 14 new) (take 14 old) ≡ true = ap (λ xs. pointwise nat_eq xs (take 14 old)) front ∙ nat_list_eq_equiv.refl (take 14 old) in
    let second : pointwise nat_eq (drop 15 new) (drop 15 old) ≡ true = ap (λ xs. pointwise nat_eq xs (drop 15 old)) back ∙ nat_list_eq_equiv.refl (drop 15 old) in
    let copy : is_copy new old ≡ true = all_true _ _ _ _ first second size2 size in
    let ttl : nat_eq (ttl_of new + 1) (ttl_of old) ≡ true = (let e = h.ttl in grind (arith, nat_tests, e)) in
    and_from (is_copy new old) (nat_eq (ttl_of new + 1) (ttl_of old)) copy ttl

-- what came to a node is passed on by it
pub passed_on : (borne : List Borne) (own : Callsign) (old new : List ℕ) → is_hop old new ≡ true → is_borne borne own old ≡ true → is_passed borne own new ≡ true
passed_on [] own old new h e = absurd (cc e)
passed_on (b ∷ bs) own old new h e =
    or_both (same_call b.to own && pointwise nat_eq b.datagram old) (is_borne bs own old) (same_call b.to own && is_hop b.datagram new) (is_passed bs own new)
    (λ f. and_from (same_call b.to own) (is_hop b.datagram new) (and_left (same_call b.to own) _ f)
    (ap (λ d. is_hop d new) (same_letters b.datagram old (and_right (same_call b.to own) _ f)) ∙ h))
    (passed_on bs own old new h) e

-- ---- what can be read as a datagram has a head's octets

sized_by : {A : Type 0} (octets : List ℕ) (low high : Bool) (f : List ℕ → Result A DatagramRefusal) (a : A) → nat_lt (length octets) 15 ≡ low
    → ((if low then Err (Short (length octets)) else (if high then Err TooLong else Ok octets)) >>= f) ≡ Ok a → 15 ≤ length octets
sized_by octets true high f a l e = absurd (cc e)
sized_by octets false high f a l e = ltb-false (length octets) 15 l

pub read_long : (octets : List ℕ) (head : DatagramHead) → head_at octets ≡ Ok head → 15 ≤ length octets
unfolding head_at
read_long octets head e = sized_by octets (nat_lt (length octets) 15) (nat_lt 256 (length octets)) _ head refl e
