-- Marks by number.
use Rattle.std.proofs.Common.{◌≡◌, ◌<◌, ◌≤◌, ℕ, zero, suc, Bool, true, false, ◌||◌, ◌&&◌, ◌==◌, not, if◌then◌else◌, List, [], ◌∷◌, length, drop, take, ◌-◌, slice_get, slice_index, slice_index_or, slice_set, replicate, Some, refl, ap, ◌∙◌, arith}
use Rattle.std.proofs.Math.Seq.{take-length}
use Rattle.std.proofs.lemmas.Bool.Decides.{nat_tests}
use Rattle.std.proofs.lemmas.Option.{slice_get_within}
use Rattle.network_file.specs.Plan.{has_member, is_on, share_channel}
use Rattle.network_file.specs.declared.plan.channels.Channel.{Channel}

either : (p q b : Bool) → Some (q || (if p then true else b)) ≡ Some ((p || q) || b)
either true true b = refl
either true false b = refl
either false q b = refl

-- what is left behind the first
rest_is : {A : Type 0} (x : A) (xs : List A) → take (length (x ∷ xs) - 1) xs ≡ xs
rest_is x xs =
    let e : length (x ∷ xs) - 1 ≡ length xs = omega arith in
    ap (λ k. take k xs) e ∙ take-length xs

pub member_by : (xs : List ℕ) (n : ℕ) (b : Bool) → 1 ≤ length xs
    → Some (has_member (take (length xs - 1) (drop 1 xs)) n || (if slice_index xs 0 == n then true else b)) ≡ Some (has_member xs n || b)
member_by [] n b l = grind (arith, l)
member_by (x ∷ xs) n b l =
    ap (λ ys. Some (has_member ys n || (if x == n then true else b))) (rest_is x xs) ∙ either (x == n) (has_member xs n) b

beside : (p q b : Bool) → Some (q || (p || b)) ≡ Some ((p || q) || b)
beside true true b = refl
beside true false b = refl
beside false q b = refl

pub share_by : (cs : List Channel) (c : Channel) (sender n : ℕ) (b : Bool) → c ≡ slice_index_or cs 0 c → 1 ≤ length cs
    → Some (share_channel (take (length cs - 1) (drop 1 cs)) sender n || ((is_on sender c && is_on n c) || b)) ≡ Some (share_channel cs sender n || b)
share_by [] c sender n b e l = grind (arith, l)
share_by (x ∷ cs) c sender n b e l =
    ap (λ (ds : List Channel). Some (share_channel ds sender n || ((is_on sender c && is_on n c) || b))) (rest_is x cs)
    ∙ ap (λ (d : Channel). Some (share_channel cs sender n || ((is_on sender d && is_on n d) || b))) e
    ∙ beside (is_on sender x && is_on n x) (share_channel cs sender n) b

other : (i n : ℕ) (m b : Bool) → (i == n) ≡ false → Some b ≡ Some (if i == n then m else b)
other i n m b e = rw e refl

pub set_mark : (xs : List Bool) (i n : ℕ) (m b : Bool) → slice_get xs n ≡ Some b → slice_get (slice_set xs i m) n ≡ Some (if i == n then m else b)
set_mark [] i n m b e = absurd (cc e)
set_mark (x ∷ xs) zero zero m b e = refl
set_mark (x ∷ xs) zero (suc n) m b e = e ∙ other zero (suc n) m b (grind (arith, nat_tests))
set_mark (x ∷ xs) (suc i) zero m b e = e ∙ other (suc i) zero m b (grind (arith, nat_tests))
set_mark (x ∷ xs) (suc i) (suc n) m b e =
    let same : (i == n) ≡ (suc i == suc n) = grind (arith, nat_tests) in
    set_mark xs i n m b e ∙ ap (λ t. Some (if t then m else b)) same

pub beyond : (xs : List Bool) (i n : ℕ) (m b : Bool) → length xs ≤ i → slice_get xs n ≡ Some b → slice_get xs n ≡ Some (if i == n then m else b)
beyond xs i n m b l e =
    let within : n < length xs = slice_get_within xs n b e in
    e ∙ other i n m b (grind (arith, nat_tests, l, within))

pub blank : (k n : ℕ) → n < k → slice_get (replicate k false) n ≡ Some false
blank zero n l = grind (arith, l)
blank (suc k) zero l = refl
blank (suc k) (suc n) l = blank k n (omega (arith, l))

pub hears : (t s : Bool) → (if t then false else (s || false)) ≡ not t && s
hears true s = refl
hears false true = refl
hears false false = refl
