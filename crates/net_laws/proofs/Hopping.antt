-- What the air has carried, as more is put in it; and by how many hops.
use Rattle.std.proofs.Common.{◌≡◌, ◌∙◌, ◌+◌, ◌<◌, ℕ, zero, suc, refl, sym, ap, subst, arith, List, [], ◌∷◌, ◌++◌, length, append_assoc, take, drop, Bool, true, false, inl, inr}
use Rattle.std.specs.Prelude.{◌&&◌, ◌||◌, ◌⊎◌, nat_eq, nat_le, slice_get, slice_index_or, Contains, Option, Some}
use Rattle.std.specs.Cmp.Lexicographic.{pointwise}
use Rattle.std.specs.List.{AllByRecursion}
use Rattle.std.proofs.lemmas.Bool.Decides.{nat_tests}
use Rattle.std.proofs.lemmas.Cmp.{nat_list_eq_equiv}
use Rattle.ax_address.specs.Callsign.{Callsign, same_call}
use Rattle.circuit_table.specs.Events.{is_copy}
use Rattle.circuit_table.specs.Events as events
use Rattle.circuit_table.specs.Sets as sets
use Rattle.network_file.specs.Plan.{Plan}
use Rattle.node_core.specs.Carried.{Borne, borne_in, is_borne, ttl_of}
use Rattle.net_model.specs.declared.air.Aired.{Aired}
use Rattle.net_model.specs.World.{settled_at}
use Rattle.net_laws.specs.Hops.{CameBy, HopsTakeOne, Puts, all_borne}
use Rattle.node_core.proofs.Tracing.{and_left, and_right}

-- ---- tests

pub and_of : (a b : Bool) → a ≡ true → b ≡ true → (a && b) ≡ true
and_of a b p q = rw (p, q) refl

pub or_cases : (a b : Bool) → (a || b) ≡ true → (a ≡ true) ⊎ (b ≡ true)
or_cases true b e = inl refl
or_cases false b e = inr e

pub all_parts : (a b c d : Bool) → (a && b && c && d) ≡ true → (a ≡ true) × (b ≡ true) × (c ≡ true) × (d ≡ true)
all_parts true true true true e = (refl, refl, refl, refl)
all_parts false b c d e = absurd (cc e)
all_parts true false c d e = absurd (cc e)
all_parts true true false d e = absurd (cc e)
all_parts true true true false e = absurd (cc e)

pub same_list : (xs ys : List ℕ) → pointwise nat_eq xs ys ≡ true → xs ≡ ys
same_list [] [] e = refl
same_list [] (y ∷ ys) e = absurd (cc e)
same_list (x ∷ xs) [] e = absurd (cc e)
same_list (x ∷ xs) (y ∷ ys) e =
    let first : x ≡ y = (let f : nat_eq x y ≡ true = and_left (nat_eq x y) (pointwise nat_eq xs ys) e in grind (arith, nat_tests, f)) in
    ap (λ zs. x ∷ zs) (same_list xs ys (and_right (nat_eq x y) (pointwise nat_eq xs ys) e)) ∙ ap (λ z. z ∷ ys) first

pub same_is : (a b : Callsign) → same_call a b ≡ true → a ≡ b
same_is a b e =
    let letters : a.letters ≡ b.letters = same_list a.letters b.letters (and_left (pointwise nat_eq a.letters b.letters) (nat_eq a.ssid b.ssid) e) in
    let ssid : a.ssid ≡ b.ssid = (let f = and_right (pointwise nat_eq a.letters b.letters) (nat_eq a.ssid b.ssid) e in grind (arith, nat_tests, f)) in
    ap (λ ls. record a { letters = ls }) letters ∙ ap (λ k. record b { ssid = k }) ssid

-- ---- what the air has carried

pub borne_append : (size : ℕ) (xs ys : List Aired) → all_borne size (xs ++ ys) ≡ all_borne size xs ++ all_borne size ys
borne_append size [] ys = refl
borne_append size (f ∷ xs) ys =
    ap (λ bs. borne_in size f.octets.items ++ bs) (borne_append size xs ys) ∙ sym (append_assoc (borne_in size f.octets.items) (all_borne size xs) (all_borne size ys))

pub borne_settled : (size at : ℕ) (air : List Aired) → all_borne size (settled_at at air) ≡ all_borne size air
borne_settled size at [] = refl
borne_settled size zero (f ∷ air) = refl
borne_settled size (suc at) (f ∷ air) = ap (λ bs. borne_in size f.octets.items ++ bs) (borne_settled size at air)

pub borne_split : (xs ys : List Borne) (to : Callsign) (d : List ℕ) → is_borne (xs ++ ys) to d ≡ true → (is_borne xs to d ≡ true) ⊎ (is_borne ys to d ≡ true)
borne_split [] ys to d e = inr e
borne_split (b ∷ xs) ys to d e = by (same_call b.to to && pointwise nat_eq b.datagram d) e (borne_split xs ys to d)
  where
    by : (a : Bool) → (a || is_borne (xs ++ ys) to d) ≡ true → (is_borne (xs ++ ys) to d ≡ true → (is_borne xs to d ≡ true) ⊎ (is_borne ys to d ≡ true)) → ((a || is_borne xs to d) ≡ true) ⊎ (is_borne ys to d ≡ true)
    by true f rest = inl refl
    by false f rest = rest f

-- the frame that carries it
abbrev CarriedIn : ℕ → Callsign → List ℕ → List Aired → Type 0
CarriedIn size to d air = (at : ℕ) × (f : Aired) × (slice_get air at ≡ Some f) × (is_borne (borne_in size f.octets.items) to d ≡ true)

pub frame_with : (size : ℕ) (air : List Aired) (to : Callsign) (d : List ℕ) → is_borne (all_borne size air) to d ≡ true
    → (at : ℕ) × (f : Aired) × (slice_get air at ≡ Some f) × (is_borne (borne_in size f.octets.items) to d ≡ true)
frame_with size [] to d e = absurd (cc e)
frame_with size (f ∷ air) to d e = by (borne_split (borne_in size f.octets.items) (all_borne size air) to d e) (frame_with size air to d)
  where
    by : (is_borne (borne_in size f.octets.items) to d ≡ true) ⊎ (is_borne (all_borne size air) to d ≡ true) → (is_borne (all_borne size air) to d ≡ true → CarriedIn size to d air) → CarriedIn size to d (f ∷ air)
    by (inl h) rest = (0, f, refl, h)
    by (inr h) rest = let r = rest h in (suc r.0, r.1, r.2, r.3)

-- it has the property of all
pub offered_one : (offers : Callsign → List ℕ → Bool) (bs : List Borne) (to : Callsign) (d : List ℕ) → AllByRecursion (λ (b : Borne). offers b.to b.datagram ≡ true) bs → is_borne bs to d ≡ true
    → offers to d ≡ true
offered_one offers [] to d a e = absurd (cc e)
offered_one offers (b ∷ bs) to d a e = by (or_cases (same_call b.to to && pointwise nat_eq b.datagram d) (is_borne bs to d) e) (offered_one offers bs to d a.1)
  where
    by : ((same_call b.to to && pointwise nat_eq b.datagram d) ≡ true) ⊎ (is_borne bs to d ≡ true) → (is_borne bs to d ≡ true → offers to d ≡ true) → offers to d ≡ true
    by (inr h) rest = rest h
    by (inl h) rest =
        let call = same_is b.to to (and_left (same_call b.to to) _ h) in
        let octets = same_list b.datagram d (and_right (same_call b.to to) _ h) in
        subst (λ c. offers c d ≡ true) call (subst (λ x. offers b.to x ≡ true) octets a.0)

-- ---- where a datagram came

get_append : {A : Type 0} (xs ys : List A) (at : ℕ) (x : A) → slice_get xs at ≡ Some x → slice_get (xs ++ ys) at ≡ Some x
get_append [] ys at x e = absurd (cc e)
get_append (z ∷ xs) ys zero x e = e
get_append (z ∷ xs) ys (suc at) x e = get_append xs ys at x e

pub get_behind : {A : Type 0} (xs ys : List A) (at : ℕ) (x : A) → slice_get ys at ≡ Some x → slice_get (xs ++ ys) (length xs + at) ≡ Some x
get_behind [] ys at x e = let same : 0 + at ≡ at = omega arith in ap (slice_get ys) same ∙ e
get_behind (z ∷ xs) ys at x e =
    let same : length (z ∷ xs) + at ≡ suc (length xs + at) = omega arith in
    ap (slice_get (z ∷ (xs ++ ys))) same ∙ get_behind xs ys at x e

-- each frame of one air is in another, with its octets and its sender
abbrev pub Within : List Aired → List Aired → Type 0
Within air air2 = (at : ℕ) (f : Aired) → slice_get air at ≡ Some f → (g : Aired) × (slice_get air2 at ≡ Some g) × (g.octets ≡ f.octets) × (g.sender ≡ f.sender)

pub within_more : (air new : List Aired) → Within air (air ++ new)
within_more air new at f e = (f, get_append air new at f e, refl, refl)

pub within_settled : (k : ℕ) (air : List Aired) → Within air (settled_at k air)
within_settled k [] at f e = absurd (cc e)
within_settled zero (x ∷ air) zero f e = let same : x ≡ f = cc e in (_, refl, ap (λ (y : Aired). y.octets) same, ap (λ (y : Aired). y.sender) same)
within_settled zero (x ∷ air) (suc at) f e = (f, e, refl, refl)
within_settled (suc k) (x ∷ air) zero f e = (f, e, refl, refl)
within_settled (suc k) (x ∷ air) (suc at) f e = within_settled k air at f e

module _ (plan : Plan) (size : ℕ) where
  puts_within : (air air2 : List Aired) → Within air air2 → (by to : Callsign) (d : List ℕ) → Puts plan size air by to d → Puts plan size air2 by to d
  puts_within air air2 w by to d p =
      let g = w p.at p.frame p.there in
      record {
        at = p.at;
        frame = g.0;
        there = g.1;
        carries = ap (λ os. is_borne (borne_in size os.items) to d) g.2 ∙ p.carries;
        place = p.place;
        node = p.node;
        is = p.is;
        call = p.call;
        sender = g.3 ∙ p.sender;
      }

  came_within : (air air2 : List Aired) → Within air air2 → (origin : Callsign) (sent : List ℕ) (hops : ℕ) (to : Callsign) (d : List ℕ) → CameBy plan size air origin sent hops to d
      → CameBy plan size air2 origin sent hops to d
  came_within air air2 w origin sent zero to d c = (c.0, puts_within air air2 w origin to d c.1)
  came_within air air2 w origin sent (suc hops) to d c = (c.0, c.1, came_within air air2 w origin sent hops c.0 c.1 c.2, c.3, puts_within air air2 w c.0 to d c.4)

  -- each hop took one
  pub came_ttl : (air : List Aired) (origin : Callsign) (sent : List ℕ) (hops : ℕ) (to : Callsign) (d : List ℕ) → CameBy plan size air origin sent hops to d → ttl_of d + hops ≡ ttl_of sent
  came_ttl air origin sent zero to d c = let same : ttl_of d ≡ ttl_of sent = ap ttl_of c.0 in omega (arith, same)
  came_ttl air origin sent (suc hops) to d c =
      let before : ttl_of c.1 + hops ≡ ttl_of sent = came_ttl air origin sent hops c.0 c.1 c.2 in
      let one : nat_eq (ttl_of d + 1) (ttl_of c.1) ≡ true = and_right (is_copy d c.1) (nat_eq (ttl_of d + 1) (ttl_of c.1)) c.3 in
      let is : ttl_of d + 1 ≡ ttl_of c.1 = grind (arith, nat_tests, one) in
      omega (arith, before, is)

  -- without a hop it came from its origin
  came_alike : (air : List Aired) (origin : Callsign) (sent : List ℕ) (hops : ℕ) (to : Callsign) (d : List ℕ) → CameBy plan size air origin sent hops to d → ttl_of d ≡ ttl_of sent → Puts plan size air origin to d
  came_alike air origin sent zero to d c e = c.1
  came_alike air origin sent (suc hops) to d c e = let left = came_ttl air origin sent (suc hops) to d c in absurd (omega (arith, left, e))

  copy_then : (e d s : List ℕ) → is_copy e d ≡ true → is_copy d s ≡ true → is_copy e s ≡ true
  copy_then e d s p q =
      let a = all_parts _ _ _ _ p in
      let b = all_parts _ _ _ _ q in
      let front : take 14 e ≡ take 14 d = same_list (take 14 e) (take 14 d) a.0 in
      let back : drop 15 e ≡ drop 15 d = same_list (drop 15 e) (drop 15 d) a.1 in
      all_of _ _ _ _ (ap (λ xs. pointwise nat_eq xs (take 14 s)) front ∙ b.0) (ap (λ xs. pointwise nat_eq xs (drop 15 s)) back ∙ b.1) a.2 b.3
    where
      all_of : (a b c d : Bool) → a ≡ true → b ≡ true → c ≡ true → d ≡ true → (a && b && c && d) ≡ true
      all_of a b c d p q r t = rw (p, q, r, t) refl

  own_copy : (d : List ℕ) → nat_le 15 (length d) ≡ true → is_copy d d ≡ true
  own_copy d long = all_of _ _ _ _ (nat_list_eq_equiv.refl (take 14 d)) (nat_list_eq_equiv.refl (drop 15 d)) long long
    where
      all_of : (a b c d : Bool) → a ≡ true → b ≡ true → c ≡ true → d ≡ true → (a && b && c && d) ≡ true
      all_of a b c d p q r t = rw (p, q, r, t) refl

  pub came_copy : (air : List Aired) (origin : Callsign) (sent : List ℕ) (hops : ℕ) (to : Callsign) (d : List ℕ) → nat_le 15 (length sent) ≡ true → CameBy plan size air origin sent hops to d → is_copy d sent ≡ true
  came_copy air origin sent zero to d long c = subst (λ x. is_copy x sent ≡ true) (sym c.0) (own_copy sent long)
  came_copy air origin sent (suc hops) to d long c =
      copy_then d c.1 sent (and_left (is_copy d c.1) (nat_eq (ttl_of d + 1) (ttl_of c.1)) c.3) (came_copy air origin sent hops c.0 c.1 long c.2)

  -- ---- what is known of a datagram that the air has carried: it was sent, and came by so many hops

  pub record Known (es : List events.Event) (air : List Aired) (to : Callsign) (d : List ℕ) : Type 0 where
    pub node : ℕ
    pub own : Callsign
    pub id : ℕ
    pub number : Option ℕ
    pub sent : List ℕ
    pub told : Contains es (record { node = node; own = own; told = sets.Sent id number sent })
    pub long : nat_le 15 (length sent) ≡ true
    pub hops : ℕ
    pub came : CameBy plan size air own sent hops to d

  contains_more : (xs ys : List events.Event) (e : events.Event) → Contains xs e → Contains (xs ++ ys) e
  contains_more [] ys e c = let low = c.1 in absurd (omega (arith, low))
  contains_more (x ∷ xs) ys e c = by c.0 c.1 c.2 (contains_more xs ys e)
    where
      by : (k : ℕ) → k < length (x ∷ xs) → slice_index_or (x ∷ xs) k e ≡ e → (Contains xs e → Contains (xs ++ ys) e) → Contains (x ∷ (xs ++ ys)) e
      by zero low is rest = (0, omega arith, is)
      by (suc k) low is rest = let r = rest (k, omega (arith, low), is) in (suc r.0, (let l = r.1 in omega (arith, l)), r.2)

  pub known_more : (es more : List events.Event) (air : List Aired) (to : Callsign) (d : List ℕ) → Known es air to d → Known (es ++ more) air to d
  known_more es more air to d k = record {
    node = k.node;
    own = k.own;
    id = k.id;
    number = k.number;
    sent = k.sent;
    told = contains_more es more (record { node = k.node; own = k.own; told = sets.Sent k.id k.number k.sent }) k.told;
    long = k.long;
    hops = k.hops;
    came = k.came;
  }

  pub known_within : (es : List events.Event) (air air2 : List Aired) → Within air air2 → (to : Callsign) (d : List ℕ) → Known es air to d → Known es air2 to d
  known_within es air air2 w to d k = record {
    node = k.node;
    own = k.own;
    id = k.id;
    number = k.number;
    sent = k.sent;
    told = k.told;
    long = k.long;
    hops = k.hops;
    came = came_within air air2 w k.own k.sent k.hops to d k.came;
  }

pub hops_take_one : HopsTakeOne
hops_take_one plan size air origin sent hops to d c = (came_ttl plan size air origin sent hops to d c, came_alike plan size air origin sent hops to d c)
