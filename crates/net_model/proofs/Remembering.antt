-- A set that keeps the ends that restarts took away goes on as one that knows nothing of them.
use Rattle.std.proofs.Common.{◌≡◌, ◌∙◌, ◌+◌, ◌<◌, ◌≤◌, ℕ, suc, refl, sym, ap, subst, arith, List, [], ◌∷◌, ◌++◌, length, append_assoc, Bool, true, false, cond}
use Rattle.std.specs.Prelude.{◌&&◌, ◌||◌, not, min, nat_eq, nat_le, nat_lt, Option, Some, None, Result, Ok, Err, drop}
use Rattle.std.specs.List.{AllByRecursion}
use Rattle.radio_base.specs.declared.modulus.TheConstants.{COUNT_MAX}
use Rattle.ax_address.specs.Callsign.{Callsign, same_call}
use Rattle.l3_datagram.specs.declared.datagram.DatagramHead.{DatagramHead}
use Rattle.l3_datagram.specs.declared.datagram.DatagramRefusal.{DatagramRefusal}
use Rattle.l3_datagram.specs.declared.datagram.TheConstants.{HEAD_SIZE}
use Rattle.l3_datagram.specs.Datagrams.{head_at}
use Rattle.circuit_l4.specs.declared.pair.Pair.{Pair}
use Rattle.circuit_l4.specs.declared.transport.Transport.{Transport}
use Rattle.circuit_l4.specs.declared.transport.Transport.TheVariants.{Request, Accept, Refuse, Disconnect, Disconnected, Info, InfoAck}
use Rattle.circuit_l4.specs.declared.transport.TransportRefusal.{TransportRefusal}
use Rattle.circuit_l4.specs.Opening.{facts_of, requesting, responding}
use Rattle.circuit_l4.specs.State.{Effect}
use Rattle.circuit_l4.specs.Table.{Arrive, step}
use Rattle.circuit_l4.specs.Transports.{transport_at}
use Rattle.circuit_table.specs.Sets.{heeds, Act, Connect, ConnectFor, Comes, Calls, Discard, Restart, Call, Holder, SetDone, SetState, CircuitTold, Heeded, Made, Lost, Gone, Restarted, Sent, accept_again, all_gone, arrives_at, after_call, after_connecting_for, datagram_to, after_discarding, end_of, first_open, goes_to, hands_to, after_datagram, has_ended, held_pairs, holder_of, input_of, is_open, losses, named_by, opened_by, read_as, after_transport, after_request, after_new_request, after_restart, set_step, after_effect, told_by, does_nothing, with_end}
use Rattle.circuit_table.specs.Pumps.{runs}
use Rattle.circuit_table.specs.Pairs.{pair_after, next_free}

-- the ends that were lost: each is gone, and its number is below that of each end since
pub record Past (base : ℕ) (past : List Holder) : Type 0 where
  pub gone : AllByRecursion (λ (h : Holder). h.gone ≡ true) past
  pub below : AllByRecursion (λ (h : Holder). h.id < base) past

-- numbers rise, from `lo` on, and stay below `hi`
abbrev pub Rising : ℕ → List Holder → ℕ → Type 0
Rising lo [] hi = lo ≤ hi
Rising lo (h ∷ hs) hi = (lo ≤ h.id) × Rising (suc h.id) hs hi

abbrev pub lift : List Holder → SetState → SetState
lift past s = record s { ends = past ++ s.ends }

abbrev pub lifted : List Holder → SetDone → SetDone
lifted past d = record { set = lift past d.set; told = d.told }

-- what a set comes to, with the lost ends and without them
pub record Lifts (base : ℕ) (past : List Holder) (s : SetState) (with_past without : SetDone) : Type 0 where
  pub is : with_past ≡ lifted past without
  pub rises : Rising base without.set.ends without.set.number
  pub own : without.set.own ≡ s.own
  pub ttl : without.set.ttl ≡ s.ttl
  pub user : without.set.user ≡ s.user
  pub config : without.set.config ≡ s.config

-- ---- lists of ends

pub pairs_lift : (past es : List Holder) → AllByRecursion (λ (h : Holder). h.gone ≡ true) past → held_pairs (past ++ es) ≡ held_pairs es
pairs_lift [] es all = refl
pairs_lift (h ∷ past) es all = ap (λ b. cond b (held_pairs (past ++ es)) (h.end.pair ∷ held_pairs (past ++ es))) all.0 ∙ pairs_lift past es all.1

open_lift : (test : Holder → Bool) (past es : List Holder) → AllByRecursion (λ (h : Holder). h.gone ≡ true) past → first_open test (past ++ es) ≡ first_open test es
open_lift test [] es all = refl
open_lift test (h ∷ past) es all =
    ap (λ b. cond ((not b && not (has_ended h.end.phase)) && test h) (Some h) (first_open test (past ++ es))) all.0 ∙ open_lift test past es all.1

differ : (a b base : ℕ) → a < base → base ≤ b → nat_eq a b ≡ false
differ a b base h k = grind (arith, h, k)

pub end_lift : (base id : ℕ) (past es : List Holder) → AllByRecursion (λ (h : Holder). h.id < base) past → base ≤ id → end_of id (past ++ es) ≡ end_of id es
end_lift base id [] es all k = refl
end_lift base id (h ∷ past) es all k = ap (λ b. cond b (Some h) (end_of id (past ++ es))) (differ h.id id base all.0 k) ∙ end_lift base id past es all.1 k

-- what is found among the lost ends is gone
data IsLost : Option Holder → Type 0 where
  nothing : IsLost None
  gone : (h : Holder) → h.gone ≡ true → IsLost (Some h)

lost_case : (b : Bool) (h : Holder) (o : Option Holder) → h.gone ≡ true → IsLost o → IsLost (cond b (Some h) o)
lost_case true h o g l = gone h g
lost_case false h o g l = l

end_lost : (id : ℕ) (past es : List Holder) → AllByRecursion (λ (h : Holder). h.gone ≡ true) past → end_of id es ≡ None → IsLost (end_of id (past ++ es))
end_lost id [] es all e = subst IsLost (sym e) nothing
end_lost id (h ∷ past) es all e = lost_case (nat_eq h.id id) h (end_of id (past ++ es)) all.0 (end_lost id past es all.1 e)

with_lift : (base : ℕ) (h : Holder) (past es : List Holder) → AllByRecursion (λ (x : Holder). x.id < base) past → base ≤ h.id → with_end h (past ++ es) ≡ past ++ with_end h es
with_lift base h [] es all k = refl
with_lift base h (x ∷ past) es all k =
    ap (λ b. cond b h x ∷ with_end h (past ++ es)) (differ x.id h.id base all.0 k) ∙ ap (λ xs. x ∷ xs) (with_lift base h past es all.1 k)

pub gone_same : (past : List Holder) → AllByRecursion (λ (h : Holder). h.gone ≡ true) past → all_gone past ≡ past
gone_same [] all = refl
gone_same (h ∷ past) all = ap (λ b. record h { gone = b } ∷ all_gone past) (sym all.0) ∙ ap (λ xs. h ∷ xs) (gone_same past all.1)

gone_append : (past es : List Holder) → all_gone (past ++ es) ≡ all_gone past ++ all_gone es
gone_append [] es = refl
gone_append (h ∷ past) es = ap (λ xs. record h { gone = true } ∷ xs) (gone_append past es)

pub losses_lift : (past es : List Holder) → AllByRecursion (λ (h : Holder). h.gone ≡ true) past → losses (past ++ es) ≡ losses es
losses_lift [] es all = refl
losses_lift (h ∷ past) es all = ap (λ b. cond b (losses (past ++ es)) (Lost h.id (facts_of h.end) ∷ losses (past ++ es))) all.0 ∙ losses_lift past es all.1

-- ---- rising numbers

pub rising_more : (lo low hi : ℕ) (es : List Holder) → low ≤ lo → Rising lo es hi → Rising low es hi
rising_more lo low hi [] k r = omega (arith, k, r)
rising_more lo low hi (h ∷ es) k r = (let p : lo ≤ h.id = r.0 in omega (arith, k, p), r.1)

pub rising_le : (lo hi : ℕ) (es : List Holder) → Rising lo es hi → lo ≤ hi
rising_le lo hi [] r = r
rising_le lo hi (h ∷ es) r = let up : lo ≤ h.id = r.0 in let more : suc h.id ≤ hi = rising_le (suc h.id) hi es r.1 in omega (arith, up, more)

pub rising_up : (lo hi high : ℕ) (es : List Holder) → hi ≤ high → Rising lo es hi → Rising lo es high
rising_up lo hi high [] k r = omega (arith, k, r)
rising_up lo hi high (h ∷ es) k r = (r.0, rising_up (suc h.id) hi high es k r.1)

same_id : (b : Bool) (h x : Holder) → nat_eq x.id h.id ≡ b → (cond b h x).id ≡ x.id
same_id true h x e = grind (arith, e)
same_id false h x e = refl

with_rises : (lo hi : ℕ) (h : Holder) (es : List Holder) → Rising lo es hi → Rising lo (with_end h es) hi
with_rises lo hi h [] r = r
with_rises lo hi h (x ∷ es) r =
    let same : (cond (nat_eq x.id h.id) h x).id ≡ x.id = same_id (nat_eq x.id h.id) h x refl in
    (subst (λ i. lo ≤ i) (sym same) r.0, subst (λ i. Rising (suc i) (with_end h es) hi) (sym same) (with_rises (suc x.id) hi h es r.1))

add_rises : (lo hi : ℕ) (h : Holder) (es : List Holder) → h.id ≡ hi → Rising lo es hi → Rising lo (es ++ h ∷ []) (hi + 1)
add_rises lo hi h [] e r = (let k : lo ≤ hi = r in omega (arith, e, k), omega (arith, e))
add_rises lo hi h (x ∷ es) e r = (r.0, add_rises (suc x.id) hi h es e r.1)

gone_rises : (lo hi : ℕ) (es : List Holder) → Rising lo es hi → Rising lo (all_gone es) hi
gone_rises lo hi [] r = r
gone_rises lo hi (h ∷ es) r = (r.0, gone_rises (suc h.id) hi es r.1)

pub below_none : (id lo hi : ℕ) (es : List Holder) → id < lo → Rising lo es hi → end_of id es ≡ None
below_none id lo hi [] k r = refl
below_none id lo hi (h ∷ es) k r =
    let up : lo ≤ h.id = r.0 in
    let apart : nat_eq h.id id ≡ false = grind (arith, k, up) in
    ap (λ b. cond b (Some h) (end_of id es)) apart ∙ below_none id (suc h.id) hi es (omega (arith, k, up)) r.1

open_case : (base : ℕ) (b : Bool) (x : Holder) (o : Option Holder) (h : Holder) → base ≤ x.id → (o ≡ Some h → base ≤ h.id) → cond b (Some x) o ≡ Some h → base ≤ h.id
open_case base true x o h k rest e = let same : x ≡ h = cc e in subst (λ y. base ≤ y.id) same k
open_case base false x o h k rest e = rest e

open_above : (test : Holder → Bool) (base lo hi : ℕ) (es : List Holder) (h : Holder) → base ≤ lo → Rising lo es hi → first_open test es ≡ Some h → base ≤ h.id
open_above test base lo hi [] h k r e = absurd (cc e)
open_above test base lo hi (x ∷ es) h k r e =
    let up : lo ≤ x.id = r.0 in
    open_case base (is_open x && test x) x (first_open test es) h (omega (arith, k, up)) (open_above test base (suc x.id) hi es h (omega (arith, k, up)) r.1) e

pub end_above : (id base lo hi : ℕ) (es : List Holder) (h : Holder) → base ≤ lo → Rising lo es hi → end_of id es ≡ Some h → base ≤ h.id
end_above id base lo hi [] h k r e = absurd (cc e)
end_above id base lo hi (x ∷ es) h k r e =
    let up : lo ≤ x.id = r.0 in
    open_case base (nat_eq x.id id) x (end_of id es) h (omega (arith, k, up)) (end_above id base (suc x.id) hi es h (omega (arith, k, up)) r.1) e

end_id_case : (id : ℕ) (x h : Holder) (o : Option Holder) (b : Bool) → nat_eq x.id id ≡ b → (o ≡ Some h → h.id ≡ id) → cond b (Some x) o ≡ Some h → h.id ≡ id
end_id_case id x h o true t rest e =
    let same : x ≡ h = cc e in
    let is : x.id ≡ id = grind (arith, t) in
    subst (λ (y : Holder). y.id ≡ id) same is
end_id_case id x h o false t rest e = rest e

pub end_id : (id : ℕ) (es : List Holder) (h : Holder) → end_of id es ≡ Some h → h.id ≡ id
end_id id [] h e = absurd (cc e)
end_id id (x ∷ es) h e = end_id_case id x h (end_of id es) (nat_eq x.id id) refl (end_id id es h) e

-- ---- one step

module _ (base : ℕ) (past : List Holder) (lost : Past base past) where
  abbrev Lifting : SetState → SetDone → SetDone → Type 0
  Lifting s d e = Lifts base past s d e

  stays : (s : SetState) → Rising base s.ends s.number → Lifting s (does_nothing (lift past s)) (does_nothing s)
  stays s r = record { is = refl; rises = r; own = refl; ttl = refl; user = refl; config = refl }

  choose : (s : SetState) (b : Bool) (d d2 e e2 : SetDone) → Lifting s d e → Lifting s d2 e2 → Lifting s (cond b d d2) (cond b e e2)
  choose s true d d2 e e2 l l2 = l
  choose s false d d2 e e2 l l2 = l2

  goes_lift : (s : SetState) (h : Holder) (first : List CircuitTold) (g : Effect) → base ≤ h.id → Rising base s.ends s.number → Lifting s (goes_to (lift past s) h first g) (goes_to s h first g)
  goes_lift s h first g k r = record {
    is = ap (λ es. record { set = record s { ends = es }; told = first ++ told_by s h g }) (with_lift base (after_effect h g) past s.ends lost.below k);
    rises = with_rises base s.number (after_effect h g) s.ends r;
    own = refl;
    ttl = refl;
    user = refl;
    config = refl;
  }

  -- a new end, with this pair
  abbrev make : Pair → SetState → Callsign → Option Pair → Option (List ℕ) → Effect → SetDone
  make pair s at asked request g = record {
    set = record s { next = pair_after pair; number = s.number + 1; ends = s.ends ++ holder_of s at asked g ∷ [] };
    told = Made s.number pair at request ∷ told_by s (holder_of s at asked g) g;
  }

  make_lift : (pair : Pair) (s : SetState) (at : Callsign) (asked : Option Pair) (request : Option (List ℕ)) (g : Effect) → Rising base s.ends s.number
      → Lifting s (make pair (lift past s) at asked request g) (make pair s at asked request g)
  make_lift pair s at asked request g r = record {
    is = ap (λ es. record { set = record s { next = pair_after pair; number = s.number + 1; ends = es }; told = Made s.number pair at request ∷ told_by s (holder_of s at asked g) g })
        (append_assoc past s.ends (holder_of s at asked g ∷ []));
    rises = add_rises base s.number (holder_of s at asked g) s.ends refl r;
    own = refl;
    ttl = refl;
    user = refl;
    config = refl;
  }

  -- whether there is no room, by the pairs that are held
  abbrev full : List Pair → SetState → Bool
  full pairs s = nat_le 64 (length pairs) || nat_lt COUNT_MAX s.number

  abbrev connect_by : List Pair → SetState → Callsign → Callsign → ℕ → SetDone
  connect_by pairs s user dest now =
      cond (same_call dest s.own || full pairs s) (does_nothing s)
      (make (next_free 255 pairs s.next) s dest None None (requesting (next_free 255 pairs s.next) user s.own s.config (min now COUNT_MAX)))

  connect_lift : (s : SetState) (user dest : Callsign) (now : ℕ) → Rising base s.ends s.number → Lifting s (after_connecting_for (lift past s) user dest now) (after_connecting_for s user dest now)
  connect_lift s user dest now r =
      subst (λ pairs. Lifting s (connect_by pairs (lift past s) user dest now) (connect_by (held_pairs s.ends) s user dest now)) (sym (pairs_lift past s.ends lost.gone))
      (choose s (same_call dest s.own || full (held_pairs s.ends) s) _ _ _ _ (stays s r)
      (make_lift (next_free 255 (held_pairs s.ends) s.next) s dest None None (requesting (next_free 255 (held_pairs s.ends) s.next) user s.own s.config (min now COUNT_MAX)) r))

  abbrev respond_by : List Pair → SetState → Callsign → List ℕ → Pair → ℕ → ℕ → SetDone
  respond_by pairs s origin d pair window now =
      cond (full pairs s) (record { set = s; told = Sent 0 None (datagram_to s origin (Refuse pair)) ∷ [] })
      (make (next_free 255 pairs s.next) s origin (Some pair) (Some d) (responding (next_free 255 pairs s.next) pair window s.config (min now COUNT_MAX)))

  refuse_lift : (s : SetState) (told : List CircuitTold) → Rising base s.ends s.number → Lifting s (record { set = lift past s; told = told }) (record { set = s; told = told })
  refuse_lift s told r = record { is = refl; rises = r; own = refl; ttl = refl; user = refl; config = refl }

  anew_lift : (s : SetState) (origin : Callsign) (d : List ℕ) (pair : Pair) (window now : ℕ) → Rising base s.ends s.number
      → Lifting s (after_new_request (lift past s) origin d pair window now) (after_new_request s origin d pair window now)
  anew_lift s origin d pair window now r =
      subst (λ pairs. Lifting s (respond_by pairs (lift past s) origin d pair window now) (respond_by (held_pairs s.ends) s origin d pair window now)) (sym (pairs_lift past s.ends lost.gone))
      (choose s (full (held_pairs s.ends) s) _ _ _ _ (refuse_lift s _ r)
      (make_lift (next_free 255 (held_pairs s.ends) s.next) s origin (Some pair) (Some d) (responding (next_free 255 (held_pairs s.ends) s.next) pair window s.config (min now COUNT_MAX)) r))

  -- ---- a datagram

  abbrev request_by : Option Holder → SetState → Callsign → List ℕ → Pair → ℕ → ℕ → SetDone
  request_by o s origin d pair window now =
      elim o as (λ x. SetDone) [ Some h ↦ goes_to s h [] (accept_again h.end) | None ↦ after_new_request s origin d pair window now ]

  request_case : (o : Option Holder) (s : SetState) (origin : Callsign) (d : List ℕ) (pair : Pair) (window now : ℕ) → ((h : Holder) → o ≡ Some h → base ≤ h.id) → Rising base s.ends s.number
      → Lifting s (request_by o (lift past s) origin d pair window now) (request_by o s origin d pair window now)
  request_case None s origin d pair window now above r = anew_lift s origin d pair window now r
  request_case (Some h) s origin d pair window now above r = goes_lift s h [] (accept_again h.end) (above h refl) r

  request_lift : (s : SetState) (origin : Callsign) (d : List ℕ) (pair : Pair) (window now : ℕ) → Rising base s.ends s.number
      → Lifting s (after_request (lift past s) origin d pair window now) (after_request s origin d pair window now)
  request_lift s origin d pair window now r =
      subst (λ o. Lifting s (request_by o (lift past s) origin d pair window now) (request_by (first_open (opened_by origin pair) s.ends) s origin d pair window now))
      (sym (open_lift (opened_by origin pair) past s.ends lost.gone))
      (request_case (first_open (opened_by origin pair) s.ends) s origin d pair window now (λ h. open_above (opened_by origin pair) base base s.number s.ends h (omega arith) r) r)

  abbrev arrive_by : Option Holder → SetState → List ℕ → Transport → ℕ → SetDone
  arrive_by o s d t now = elim o as (λ x. SetDone) [ Some h ↦ hands_to s h d t now | None ↦ does_nothing s ]

  arrive_case : (o : Option Holder) (s : SetState) (d : List ℕ) (t : Transport) (now : ℕ) → ((h : Holder) → o ≡ Some h → base ≤ h.id) → Rising base s.ends s.number
      → Lifting s (arrive_by o (lift past s) d t now) (arrive_by o s d t now)
  arrive_case None s d t now above r = stays s r
  arrive_case (Some h) s d t now above r = goes_lift s h (cond (heeds h.end.phase t) (Heeded h.id d ∷ []) []) (step h.end (Arrive t) now) (above h refl) r

  arrive_lift : (s : SetState) (origin : Callsign) (d : List ℕ) (to : Pair) (t : Transport) (now : ℕ) → Rising base s.ends s.number
      → Lifting s (arrives_at (lift past s) origin d to t now) (arrives_at s origin d to t now)
  arrive_lift s origin d to t now r =
      subst (λ o. Lifting s (arrive_by o (lift past s) d t now) (arrive_by (first_open (named_by origin to) s.ends) s d t now)) (sym (open_lift (named_by origin to) past s.ends lost.gone))
      (arrive_case (first_open (named_by origin to) s.ends) s d t now (λ h. open_above (named_by origin to) base base s.number s.ends h (omega arith) r) r)

  receive_lift : (s : SetState) (origin : Callsign) (d : List ℕ) (t : Transport) (now : ℕ) → Rising base s.ends s.number
      → Lifting s (after_transport (lift past s) origin d t now) (after_transport s origin d t now)
  receive_lift s origin d (Request pair window user node) now r = request_lift s origin d pair window now r
  receive_lift s origin d (Accept to own window) now r = arrive_lift s origin d to (Accept to own window) now r
  receive_lift s origin d (Refuse to) now r = arrive_lift s origin d to (Refuse to) now r
  receive_lift s origin d (Disconnect to) now r = arrive_lift s origin d to (Disconnect to) now r
  receive_lift s origin d (Disconnected to) now r = arrive_lift s origin d to (Disconnected to) now r
  receive_lift s origin d (Info to tx rx flags text) now r = arrive_lift s origin d to (Info to tx rx flags text) now r
  receive_lift s origin d (InfoAck to rx flags) now r = arrive_lift s origin d to (InfoAck to rx flags) now r

  read_lift : (s : SetState) (origin : Callsign) (d : List ℕ) (t : Result Transport TransportRefusal) (now : ℕ) → Rising base s.ends s.number
      → Lifting s (read_as (lift past s) origin d t now) (read_as s origin d t now)
  read_lift s origin d (Err e) now r = stays s r
  read_lift s origin d (Ok t) now r = receive_lift s origin d t now r

  hand_lift : (s : SetState) (d : List ℕ) (head : Result DatagramHead DatagramRefusal) (now : ℕ) → Rising base s.ends s.number
      → Lifting s (after_datagram (lift past s) d head now) (after_datagram s d head now)
  hand_lift s d (Err e) now r = stays s r
  hand_lift s d (Ok head) now r =
      choose s (same_call head.origin s.own || not (same_call head.dest s.own)) _ _ _ _ (stays s r) (read_lift s head.origin d (transport_at (drop HEAD_SIZE d)) now r)

  -- ---- an end that is called

  call_lost : (s : SetState) (call : Call) (now : ℕ) (o : Option Holder) → IsLost o → after_call (lift past s) o call now ≡ does_nothing (lift past s)
  call_lost s call now None nothing = refl
  call_lost s call now (Some h) (gone _ g) = ap (λ b. cond b (does_nothing (lift past s)) (goes_to (lift past s) h [] (step h.end (input_of call) now))) g

  call_case : (s : SetState) (id : ℕ) (call : Call) (now : ℕ) (o : Option Holder) → end_of id s.ends ≡ o → Rising base s.ends s.number
      → Lifting s (after_call (lift past s) (end_of id (past ++ s.ends)) call now) (after_call s o call now)
  call_case s id call now None e r =
      subst (λ d. Lifting s d (does_nothing s)) (sym (call_lost s call now (end_of id (past ++ s.ends)) (end_lost id past s.ends lost.gone e))) (stays s r)
  call_case s id call now (Some h) e r =
      let is : h.id ≡ id = end_id id s.ends h e in
      let above : base ≤ h.id = end_above id base base s.number s.ends h (omega arith) r e in
      let same : end_of id (past ++ s.ends) ≡ Some h = end_lift base id past s.ends lost.below (omega (arith, is, above)) ∙ e in
      subst (λ o. Lifting s (after_call (lift past s) o call now) (after_call s (Some h) call now)) (sym same)
      (choose s h.gone _ _ _ _ (stays s r) (goes_lift s h [] (step h.end (input_of call) now) above r))

  discard_lost : (s : SetState) (o : Option Holder) → IsLost o → after_discarding (lift past s) o ≡ does_nothing (lift past s)
  discard_lost s None nothing = refl
  discard_lost s (Some h) (gone _ g) =
      ap (λ b. cond (not b && has_ended h.end.phase) (record { set = record (lift past s) { ends = with_end (record h { gone = true }) (past ++ s.ends) }; told = Gone h.id (facts_of h.end) ∷ [] }) (does_nothing (lift past s))) g

  drop_lift : (s : SetState) (h : Holder) → base ≤ h.id → Rising base s.ends s.number
      → Lifting s (record { set = record (lift past s) { ends = with_end (record h { gone = true }) (past ++ s.ends) }; told = Gone h.id (facts_of h.end) ∷ [] })
      (record { set = record s { ends = with_end (record h { gone = true }) s.ends }; told = Gone h.id (facts_of h.end) ∷ [] })
  drop_lift s h k r = record {
    is = ap (λ es. record { set = record s { ends = es }; told = Gone h.id (facts_of h.end) ∷ [] }) (with_lift base (record h { gone = true }) past s.ends lost.below k);
    rises = with_rises base s.number (record h { gone = true }) s.ends r;
    own = refl;
    ttl = refl;
    user = refl;
    config = refl;
  }

  discard_case : (s : SetState) (id : ℕ) (o : Option Holder) → end_of id s.ends ≡ o → Rising base s.ends s.number
      → Lifting s (after_discarding (lift past s) (end_of id (past ++ s.ends))) (after_discarding s o)
  discard_case s id None e r =
      subst (λ d. Lifting s d (does_nothing s)) (sym (discard_lost s (end_of id (past ++ s.ends)) (end_lost id past s.ends lost.gone e))) (stays s r)
  discard_case s id (Some h) e r =
      let is : h.id ≡ id = end_id id s.ends h e in
      let above : base ≤ h.id = end_above id base base s.number s.ends h (omega arith) r e in
      let same : end_of id (past ++ s.ends) ≡ Some h = end_lift base id past s.ends lost.below (omega (arith, is, above)) ∙ e in
      subst (λ o. Lifting s (after_discarding (lift past s) o) (after_discarding s (Some h))) (sym same)
      (choose s (not h.gone && has_ended h.end.phase) _ _ _ _ (drop_lift s h above r) (stays s r))

  -- ---- the node starts again

  again_lift : (s : SetState) (pair : Pair) (more : ℕ) → Rising base s.ends s.number → Lifting s (after_restart (lift past s) pair more) (after_restart s pair more)
  again_lift s pair more r = record {
    is =
        ap (λ es. record { set = record s { next = pair; number = s.number + more; ends = es }; told = Restarted pair ∷ losses (past ++ s.ends) })
        (gone_append past s.ends ∙ ap (λ xs. xs ++ all_gone s.ends) (gone_same past lost.gone))
        ∙ ap (λ ts. record { set = record s { next = pair; number = s.number + more; ends = past ++ all_gone s.ends }; told = Restarted pair ∷ ts }) (losses_lift past s.ends lost.gone);
    rises = rising_up base s.number (s.number + more) (all_gone s.ends) (omega arith) (gone_rises base s.number s.ends r);
    own = refl;
    ttl = refl;
    user = refl;
    config = refl;
  }

  pub step_lifts : (s : SetState) (a : Act) → Rising base s.ends s.number → Lifting s (set_step (lift past s) a) (set_step s a)
  step_lifts s (Connect dest now) r = connect_lift s s.user dest now r
  step_lifts s (ConnectFor user dest now) r = connect_lift s user dest now r
  step_lifts s (Comes d now) r = hand_lift s d (head_at d) now r
  step_lifts s (Calls id call now) r = call_case s id call now (end_of id s.ends) refl r
  step_lifts s (Discard id) r = discard_case s id (end_of id s.ends) refl r
  step_lifts s (Restart pair more) r = again_lift s pair more r

  then_lifts : (s : SetState) (acts : List Act) (d e : SetDone) → Lifting s d e → Lifting e.set (runs acts (lift past e.set)) (runs acts e.set)
      → Lifting s (record { set = (runs acts d.set).set; told = d.told ++ (runs acts d.set).told }) (record { set = (runs acts e.set).set; told = e.told ++ (runs acts e.set).told })
  then_lifts s acts d e l more = record {
    is =
        ap (λ (x : SetDone). record { set = (runs acts x.set).set; told = x.told ++ (runs acts x.set).told }) l.is
        ∙ ap (λ (x : SetDone). record { set = x.set; told = e.told ++ x.told }) more.is;
    rises = more.rises;
    own = more.own ∙ l.own;
    ttl = more.ttl ∙ l.ttl;
    user = more.user ∙ l.user;
    config = more.config ∙ l.config;
  }

  -- some steps, one after another
  pub runs_lift : (acts : List Act) (s : SetState) → Rising base s.ends s.number → Lifting s (runs acts (lift past s)) (runs acts s)
  runs_lift [] s r = stays s r
  runs_lift (a ∷ acts) s r =
      let first = step_lifts s a r in then_lifts s acts (set_step (lift past s) a) (set_step s a) first (runs_lift acts (set_step s a).set first.rises)
