-- What is under way.
use Rattle.std.proofs.Common.{◌≡◌, ℕ, zero, suc, ◌+◌, ◌-◌, ◌*◌, ◌/◌, ◌%◌, ◌<◌, ◌≤◌, List, [], ◌∷◌, ◌++◌, length, drop, Option, Some, slice_get, nat_lt, refl, ap, ◌∙◌, arith, max, if◌then◌else◌, ◌&&◌, true, false, None, Bool, nat_eq, slice_set, subst, length-append}
use Rattle.std.proofs.lemmas.Bool.Decides.{nat_tests}
use Rattle.std.proofs.Math.Nat.{mod-eq_of_lt, mod-add-mod, add-mod-mod, mul-add-mod_self_left}
use mathlib.Core.List.{IsPrefix}
use Rattle.ax_link.specs.Moves.{take_next}
use Rattle.ax_link.specs.State.{State, top, high}
use Rattle.radio_base.specs.Modulus.{place_of}
use Rattle.radio_base.specs.declared.payload.Payload.{Payload}
use Rattle.ax_link.specs.Pair.{AcksFine, TextsFine, EarlyFine}

-- n lies far past base: the way that place_of goes
far_is : (n base size : ℕ) → 0 < size → base ≤ n → n < base + size → (n % size + (size - base % size)) % size ≡ n - base
far_is n base size z l u =
    let b : base % size < size = omega (arith, z) in
    let e : n + (size - base % size) ≡ size * (base / size + 1) + (n - base) = omega (arith, z, l, b) in
    mod-add-mod n size (size - base % size) ∙ (ap (λ k. k % size) e ∙ (mul-add-mod_self_left size (base / size + 1) (n - base) ∙ mod-eq_of_lt (omega (arith, l, u))))

place_by : (r size far n base many : ℕ) → r < size → far ≡ n - base → base ≤ n → n < base + many → (if nat_lt r size && nat_lt far many then Some (base + far) else None) ≡ Some n
place_by r size far n base many w e l u =
    let t : (nat_lt r size && nat_lt far many) ≡ true = grind (arith, nat_tests, e, l, u, w) in
    let m : base + far ≡ n = omega (arith, e, l) in
    cc (t, m)

-- the place_of of a number that lies there
pub place_is : (n base many size : ℕ) → 0 < size → base ≤ n → n < base + many → many ≤ size → place_of size (n % size) base many ≡ Some n
place_is n base many size z l u f = place_by (n % size) size ((n % size + (size - base % size)) % size) n base many (omega (arith, z)) (far_is n base size z l (omega (arith, u, f))) l u

pub acks_low : (size got : ℕ) (rs : List ℕ) (low : ℕ) → AcksFine size got rs low → low ≤ got
acks_low size got [] low p = p
acks_low size got (r ∷ rs) low p = omega (arith, acks_low size got rs p.0 p.3, p.2)

pub acks_under : (size got : ℕ) (rs : List ℕ) (low low2 : ℕ) → low2 ≤ low → AcksFine size got rs low → AcksFine size got rs low2
acks_under size got [] low low2 l p = omega (arith, l, p)
acks_under size got (r ∷ rs) low low2 l p = (p.0, p.1, omega (arith, l, p.2), p.3)

pub acks_over : (size got got2 : ℕ) (rs : List ℕ) (low : ℕ) → got ≤ got2 → AcksFine size got rs low → AcksFine size got2 rs low
acks_over size got got2 [] low l p = omega (arith, l, p)
acks_over size got got2 (r ∷ rs) low l p = (p.0, p.1, p.2, acks_over size got got2 rs p.0 l p.3)

pub acks_snoc : (size got : ℕ) (rs : List ℕ) (low : ℕ) → AcksFine size got rs low → AcksFine size got (rs ++ (got % size) ∷ []) low
acks_snoc size got [] low p = (got, refl, p, omega arith)
acks_snoc size got (r ∷ rs) low p = (p.0, p.1, p.2, acks_snoc size got rs p.0 p.3)

pub texts_reach : {A : Type 0} (given : List A) (size window sent : ℕ) (ts : List (ℕ × A)) (reach : ℕ) → TextsFine given size window sent ts reach → reach ≤ sent
texts_reach given size window sent [] reach p = p
texts_reach given size window sent (t ∷ ts) reach p = omega (arith, texts_reach given size window sent ts (max reach (suc p.0)) p.4)

pub texts_under : {A : Type 0} (given : List A) (size window sent : ℕ) (ts : List (ℕ × A)) (reach low : ℕ) → low ≤ reach → TextsFine given size window sent ts reach → TextsFine given size window sent ts low
texts_under given size window sent [] reach low l p = omega (arith, l, p)
texts_under given size window sent (t ∷ ts) reach low l p =
    (p.0, p.1, p.2, omega (arith, l, p.3), texts_under given size window sent ts (max reach (suc p.0)) (max low (suc p.0)) (omega (arith, l)) p.4)

pub texts_snoc : {A : Type 0} (given : List A) (size window sent : ℕ) (ts : List (ℕ × A)) (reach n : ℕ) (x : A) → n < sent → sent ≤ n + window → slice_get given n ≡ Some x → TextsFine given size window sent ts reach → TextsFine given size window sent (ts ++ (n % size, x) ∷ []) reach
texts_snoc given size window sent [] reach n x l w s p = (n, refl, s, omega (arith, w, p), omega (arith, l, p))
texts_snoc given size window sent (t ∷ ts) reach n x l w s p = (p.0, p.1, p.2, p.3, texts_snoc given size window sent ts (max reach (suc p.0)) n x l w s p.4)

-- more sent
pub texts_over : {A : Type 0} (given : List A) (size window sent sent2 : ℕ) (ts : List (ℕ × A)) (reach : ℕ) → sent ≤ sent2 → TextsFine given size window sent ts reach → TextsFine given size window sent2 ts reach
texts_over given size window sent sent2 [] reach l p = omega (arith, l, p)
texts_over given size window sent sent2 (t ∷ ts) reach l p = (p.0, p.1, p.2, p.3, texts_over given size window sent sent2 ts (max reach (suc p.0)) l p.4)

pub get_more : {A : Type 0} (xs ys : List A) (n : ℕ) (x : A) → slice_get xs n ≡ Some x → slice_get (xs ++ ys) n ≡ Some x
get_more [] ys n x h = absurd cc
get_more (z ∷ xs) ys zero x h = h
get_more (z ∷ xs) ys (suc n) x h = get_more xs ys n x h

-- more given
pub texts_given : {A : Type 0} (given more : List A) (size window sent : ℕ) (ts : List (ℕ × A)) (reach : ℕ) → TextsFine given size window sent ts reach → TextsFine (given ++ more) size window sent ts reach
texts_given given more size window sent [] reach p = p
texts_given given more size window sent (t ∷ ts) reach p = (p.0, p.1, get_more given more p.0 t.1 p.2, p.3, texts_given given more size window sent ts (max reach (suc p.0)) p.4)

-- the next payload goes on the beginning
pub prefix_next : {A : Type 0} (xs ys : List A) (x : A) → IsPrefix xs ys → slice_get ys (length xs) ≡ Some x → IsPrefix (xs ++ x ∷ []) ys
prefix_next [] [] x p h = absurd cc
prefix_next [] (y ∷ ys) x p h = (ys, cc h)
prefix_next (z ∷ xs) [] x p h = absurd (cc (p.1))
prefix_next (z ∷ xs) (y ∷ ys) x p h =
    let r = prefix_next xs ys x (p.0, cc (p.1)) h in (r.0, cc (p.1, r.1))

place_cut : (r size far many base x : ℕ) (b : Bool) → (nat_lt r size && nat_lt far many) ≡ b → (if b then Some (base + far) else None) ≡ Some x → (x ≡ base + far) × (far < many) × (r < size)
place_cut r size far many base x true t h = (cc h, grind (arith, nat_tests, t), grind (arith, nat_tests, t))
place_cut r size far many base x false t h = absurd (cc h)

-- what place_of gives
pub place_in : (r base many size x : ℕ) → 0 < size → place_of size r base many ≡ Some x → (x % size ≡ r) × (base ≤ x) × (x < base + many)
place_in r base many size x z h =
    let c = place_cut r size ((r + (size - base % size)) % size) many base x (nat_lt r size && nat_lt ((r + (size - base % size)) % size) many) refl h in
    let b : base % size < size = omega (arith, z) in
    let e : base + (r + (size - base % size)) ≡ size * (base / size + 1) + r = omega (arith, z, b) in (
      ap (λ k. k % size) c.0 ∙ (add-mod-mod base (r + (size - base % size)) size ∙ (ap (λ k. k % size) e ∙ (mul-add-mod_self_left size (base / size + 1) r ∙ mod-eq_of_lt c.2))),
      omega (arith, c.0),
      omega (arith, c.0, c.1),
    )

-- ---- early payloads ----
early_snoc : {A : Type 0} (given : List A) (base : ℕ) (e : List (Option A)) → EarlyFine given base e → EarlyFine given base (e ++ None ∷ [])
early_snoc given base [] p = tt
early_snoc given base (None ∷ e) p = early_snoc given (suc base) e p
early_snoc given base (Some x ∷ e) p = (p.0, early_snoc given (suc base) e p.1)

pub early_next : {A : Type 0} (given : List A) (base : ℕ) (e : List (Option A)) → EarlyFine given base e → EarlyFine given (suc base) (drop 1 (e ++ None ∷ []))
early_next given base [] p = tt
early_next given base (None ∷ e) p = early_snoc given (suc base) e p
early_next given base (Some x ∷ e) p = early_snoc given (suc base) e p.1

pub early_set : {A : Type 0} (given : List A) (base i : ℕ) (x : A) (e : List (Option A)) → EarlyFine given base e → slice_get given (base + i) ≡ Some x → EarlyFine given base (slice_set e i (Some x))
early_set given base i x [] p h = tt
early_set given base zero x (None ∷ e) p h = (ap (slice_get given) (omega arith) ∙ h, p)
early_set given base zero x (Some y ∷ e) p h = (ap (slice_get given) (omega arith) ∙ h, p.1)
early_set given base (suc i) x (None ∷ e) p h = early_set given (suc base) i x e p (ap (slice_get given) (omega arith) ∙ h)
early_set given base (suc i) x (Some y ∷ e) p h = (p.0, early_set given (suc base) i x e p.1 (ap (slice_get given) (omega arith) ∙ h))

top_snoc : (e : List (Option Payload)) → top (e ++ None ∷ []) ≡ top e
top_snoc [] = refl
top_snoc (None ∷ e) = ap (λ t. if nat_eq t 0 then 0 else suc t) (top_snoc e)
top_snoc (Some x ∷ e) = ap suc (top_snoc e)

top_less : (t : ℕ) → t ≡ (if nat_eq t 0 then 0 else suc t) - 1
top_less t = grind (arith, nat_tests)

pub top_next : (e : List (Option Payload)) → top (drop 1 (e ++ None ∷ [])) ≡ top e - 1
top_next [] = refl
top_next (None ∷ e) = top_snoc e ∙ top_less (top e)
top_next (Some x ∷ e) = omega (arith, top_snoc e)

top_both : (a b i : ℕ) → a ≤ max b (suc i) → (if nat_eq a 0 then 0 else suc a) ≤ max (if nat_eq b 0 then 0 else suc b) (suc (suc i))
top_both a b i l = grind (arith, nat_tests, l)

-- a payload in place_of i makes the top at most i + 1, or leaves it
pub top_set : (e : List (Option Payload)) (i : ℕ) (x : Payload) → top (slice_set e i (Some x)) ≤ max (top e) (suc i)
top_set [] i x = omega arith
top_set (None ∷ e) zero x = grind (arith, nat_tests)
top_set (Some y ∷ e) zero x = omega arith
top_set (None ∷ e) (suc i) x = top_both (top (slice_set e i (Some x))) (top e) i (top_set e i x)
top_set (Some y ∷ e) (suc i) x = omega (arith, top_set e i x)

pub high_take : (p : Payload) (s : State) → high (take_next p s) ≡ max (high s) (suc (length s.received))
high_take p s = omega (arith, top_next s.early, length-append s.received (p ∷ []))

-- what an end holds of what was given
pub record LinkView (given : List Payload) (s : State) : Type 0 where
  pub begun : IsPrefix s.received given
  pub early : EarlyFine given (length s.received) s.early

pub held_take : (given : List Payload) (p : Payload) (s : State) → LinkView given s → slice_get given (length s.received) ≡ Some p → LinkView given (take_next p s)
held_take given p s h g = record {
  begun = prefix_next s.received given p h.begun g;
  early = subst (λ n. EarlyFine given n (drop 1 (s.early ++ None ∷ []))) (omega (arith, length-append s.received (p ∷ []))) (early_next given (length s.received) s.early h.early);
}
