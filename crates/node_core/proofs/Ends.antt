-- The ends of a set, by their numbers, of which no two are alike.
use Rattle.std.proofs.Common.{◌≡◌, ◌<◌, ◌∙◌, ◌⊎◌, inl, inr, ℕ, refl, sym, ap, subst, arith, List, [], ◌∷◌, ◌++◌}
use Rattle.std.specs.Prelude.{Bool, true, false, ◌&&◌, nat_eq, if◌then◌else◌, Some}
use Rattle.std.proofs.lemmas.Bool.Decides.{nat_tests}
use Rattle.circuit_table.specs.Sets as s
use Rattle.circuit_table.specs.Sets.{Holder}

-- ---- all ends

abbrev pub Every : (Holder → Type 0) → List Holder → Type 0
Every Q [] = Unit {0}
Every Q (h ∷ hs) = Q h × Every Q hs

abbrev pub In : Holder → List Holder → Type 0
In h [] = ⊥
In h (x ∷ xs) = (x ≡ h) ⊎ In h xs

pub every_in : (Q : Holder → Type 0) (h : Holder) (hs : List Holder) → Every Q hs → In h hs → Q h
every_in Q h [] e i = absurd i
every_in Q h (x ∷ xs) e (inl same) = subst Q same e.0
every_in Q h (x ∷ xs) e (inr i) = every_in Q h xs e.1 i

pub weaker : (P Q : Holder → Type 0) → ((h : Holder) → P h → Q h) → (hs : List Holder) → Every P hs → Every Q hs
weaker P Q f [] e = tt
weaker P Q f (h ∷ hs) e = (f h e.0, weaker P Q f hs e.1)

pub put_in : (Q : Holder → Type 0) (k : Holder) (hs : List Holder) → Q k → Every Q hs → Every Q (s.with_end k hs)
put_in Q k [] q e = tt
put_in Q k (x ∷ xs) q e = (by (nat_eq x.id k.id), put_in Q k xs q e.1)
  where
    by : (b : Bool) → Q (if b then k else x)
    by true = q
    by false = e.0

pub push_in : (Q : Holder → Type 0) (k : Holder) (hs : List Holder) → Q k → Every Q hs → Every Q (hs ++ k ∷ [])
push_in Q k [] q e = (q, tt)
push_in Q k (x ∷ xs) q e = (e.0, push_in Q k xs q e.1)

pub end_in : (id : ℕ) (hs : List Holder) (h : Holder) → s.end_of id hs ≡ Some h → In h hs
end_in id [] h e = absurd (cc e)
end_in id (x ∷ xs) h e = by (nat_eq x.id id) e (end_in id xs h)
  where
    by : (b : Bool) → (if b then Some x else s.end_of id xs) ≡ Some h → (s.end_of id xs ≡ Some h → In h xs) → In h (x ∷ xs)
    by true f rest = inl (cc f)
    by false f rest = inr (rest f)

pub open_in : (test : Holder → Bool) (hs : List Holder) (h : Holder) → s.first_open test hs ≡ Some h → In h hs
open_in test [] h e = absurd (cc e)
open_in test (x ∷ xs) h e = by (s.is_open x && test x) e (open_in test xs h)
  where
    by : (b : Bool) → (if b then Some x else s.first_open test xs) ≡ Some h → (s.first_open test xs ≡ Some h → In h xs) → In h (x ∷ xs)
    by true f rest = inl (cc f)
    by false f rest = inr (rest f)

pub number_of : (id : ℕ) (hs : List Holder) (h : Holder) → s.end_of id hs ≡ Some h → h.id ≡ id
number_of id [] h e = absurd (cc e)
number_of id (x ∷ xs) h e = by (nat_eq x.id id) refl e (number_of id xs h)
  where
    by : (b : Bool) → nat_eq x.id id ≡ b → (if b then Some x else s.end_of id xs) ≡ Some h → (s.end_of id xs ≡ Some h → h.id ≡ id) → h.id ≡ id
    by true t f rest = let same : x ≡ h = cc f in subst (λ (k : Holder). k.id ≡ id) same (grind (arith, nat_tests, t))
    by false t f rest = rest f

-- an end of another number in the place of one leaves this one
pub other_end : (id : ℕ) (k : Holder) (hs : List Holder) → nat_eq k.id id ≡ false → s.end_of id (s.with_end k hs) ≡ s.end_of id hs
other_end id k [] e = refl
other_end id k (x ∷ xs) e = by (nat_eq x.id k.id) refl (other_end id k xs e)
  where
    by : (b : Bool) → nat_eq x.id k.id ≡ b → s.end_of id (s.with_end k xs) ≡ s.end_of id xs → s.end_of id ((if b then k else x) ∷ s.with_end k xs) ≡ s.end_of id (x ∷ xs)
    by true f rest =
        let same : x.id ≡ k.id = grind (arith, nat_tests, f) in
        let other : nat_eq x.id id ≡ false = rw same e in
        rw (e, other) rest
    by false f rest = rw rest refl

-- ---- each number is that of one end

abbrev pub Other : ℕ → Holder → Type 0
Other id h = nat_eq h.id id ≡ false

abbrev pub Once : List Holder → Type 0
Once [] = Unit {0}
Once (h ∷ hs) = Every (Other h.id) hs × Once hs

pub with_ids : (P : ℕ → Type 0) (k : Holder) (hs : List Holder) → Every (λ x. P x.id) hs → Every (λ x. P x.id) (s.with_end k hs)
with_ids P k [] e = tt
with_ids P k (x ∷ xs) e = (by (nat_eq x.id k.id) refl, with_ids P k xs e.1)
  where
    by : (b : Bool) → nat_eq x.id k.id ≡ b → P (if b then k else x).id
    by true f = let same : x.id ≡ k.id = grind (arith, nat_tests, f) in subst P same e.0
    by false f = e.0

pub put_once : (k : Holder) (hs : List Holder) → Once hs → Once (s.with_end k hs)
put_once k [] o = tt
put_once k (x ∷ xs) o = by (nat_eq x.id k.id) refl (put_once k xs o.1)
  where
    others : Every (Other x.id) (s.with_end k xs)
    others = with_ids (λ id. nat_eq id x.id ≡ false) k xs o.0

    by : (b : Bool) → nat_eq x.id k.id ≡ b → Once (s.with_end k xs) → Once ((if b then k else x) ∷ s.with_end k xs)
    by true f rest = let same : x.id ≡ k.id = grind (arith, nat_tests, f) in (subst (λ id. Every (Other id) (s.with_end k xs)) same others, rest)
    by false f rest = (others, rest)

pub push_once : (k : Holder) (hs : List Holder) → Every (λ x. nat_eq k.id x.id ≡ false) hs → Once hs → Once (hs ++ k ∷ [])
push_once k [] e o = (tt, tt)
push_once k (x ∷ xs) e o = (push_in (Other x.id) k xs e.0 o.0, push_once k xs e.1 o.1)

pub differ : (a b : ℕ) → b < a → nat_eq a b ≡ false
differ a b less = by (nat_eq a b) refl
  where
    by : (c : Bool) → nat_eq a b ≡ c → nat_eq a b ≡ false
    by true e = let same : a ≡ b = grind (arith, nat_tests, e) in absurd (omega (arith, same, less))
    by false e = e

-- an end among them is the one of its number
pub is_end : (id : ℕ) (h : Holder) (hs : List Holder) → Once hs → In h hs → nat_eq h.id id ≡ true → s.end_of id hs ≡ Some h
is_end id h [] o i e = absurd i
is_end id h (x ∷ xs) o (inl same) e =
    let here : nat_eq x.id id ≡ true = subst (λ (k : Holder). nat_eq k.id id ≡ true) (sym same) e in
    ap (λ b. if b then Some x else s.end_of id xs) here ∙ ap (λ (k : Holder). Some k) same
is_end id h (x ∷ xs) o (inr i) e = by (nat_eq x.id id) refl (is_end id h xs o.1 i e)
  where
    by : (b : Bool) → nat_eq x.id id ≡ b → s.end_of id xs ≡ Some h → (if b then Some x else s.end_of id xs) ≡ Some h
    by true f rest =
        let apart : nat_eq h.id x.id ≡ false = every_in (Other x.id) h xs o.0 i in
        let one : h.id ≡ id = grind (arith, nat_tests, e) in
        let two : x.id ≡ id = grind (arith, nat_tests, f) in
        absurd (grind (arith, nat_tests, apart, one, two))
    by false f rest = rest

-- an end in the place of the one of its number
pub end_here : (id : ℕ) (k h : Holder) (hs : List Holder) → s.end_of id hs ≡ Some h → nat_eq k.id id ≡ true → s.end_of id (s.with_end k hs) ≡ Some k
end_here id k h [] e f = absurd (cc e)
end_here id k h (x ∷ xs) e f = by (nat_eq x.id id) refl e (λ g. end_here id k h xs g f)
  where
    by : (b : Bool) → nat_eq x.id id ≡ b → (if b then Some x else s.end_of id xs) ≡ Some h → (s.end_of id xs ≡ Some h → s.end_of id (s.with_end k xs) ≡ Some k)
        → s.end_of id ((if nat_eq x.id k.id then k else x) ∷ s.with_end k xs) ≡ Some k
    by true t g rest =
        let here : nat_eq x.id k.id ≡ true = grind (arith, nat_tests, t, f) in
        rw (here, f) refl
    by false t g rest =
        let apart : nat_eq x.id k.id ≡ false = other (nat_eq x.id k.id) refl t in
        rw (apart, t) (rest g)
      where
        other : (c : Bool) → nat_eq x.id k.id ≡ c → nat_eq x.id id ≡ false → nat_eq x.id k.id ≡ false
        other true u v =
            let one : x.id ≡ k.id = grind (arith, nat_tests, u) in
            let two : k.id ≡ id = grind (arith, nat_tests, f) in
            absurd (grind (arith, nat_tests, one, two, v))
        other false u v = u

pub end_before : (id : ℕ) (k : Holder) (hs : List Holder) → nat_eq k.id id ≡ false → s.end_of id (hs ++ k ∷ []) ≡ s.end_of id hs
end_before id k [] f = rw f refl
end_before id k (x ∷ xs) f = by (nat_eq x.id id) (end_before id k xs f)
  where
    by : (b : Bool) → s.end_of id (xs ++ k ∷ []) ≡ s.end_of id xs → (if b then Some x else s.end_of id (xs ++ k ∷ [])) ≡ (if b then Some x else s.end_of id xs)
    by true rest = refl
    by false rest = rest
