-- The longest match.
use Rattle.std.proofs.Common.{◌≡◌, ◌<◌, ◌≤◌, ℕ, zero, suc, refl, subst, List, [], ◌∷◌, length, get_or, arith, Bool, true, false, cond, ◌⊎◌, inl, inr}
use Rattle.std.specs.Prelude.{Option, Some, None, Contains, MatchOption, nat_lt}
use Rattle.std.proofs.lemmas.Bool.Decides.{nat_tests}
use Rattle.ax_ip.specs.Laws.{IsLongest, LongestIsTaken}
use Rattle.ax_ip.specs.Routes.{IpRoute, matches, longest, longer}

here : (r : IpRoute) (rs : List IpRoute) → Contains (r ∷ rs) r
here r rs = (0, omega arith, refl)

there : (r x : IpRoute) (rs : List IpRoute) → Contains rs x → Contains (r ∷ rs) x
there r x rs c = (suc c.0, omega (arith, c.1), c.2)

place : (r x : IpRoute) (rs : List IpRoute) (k : ℕ) → k < length (r ∷ rs) → get_or (r ∷ rs) k x ≡ x → (r ≡ x) ⊎ Contains rs x
place r x rs zero h e = inl e
place r x rs (suc k) h e = inr (k, omega arith, e)

-- an element is the first one, or stands behind it
first_or : (r x : IpRoute) (rs : List IpRoute) → Contains (r ∷ rs) x → (r ≡ x) ⊎ Contains rs x
first_or r x rs c = place r x rs c.0 c.1 c.2

abbrev Unmatched : ℕ → List IpRoute → Type 0
Unmatched dest rs = (other : IpRoute) → Contains rs other → matches dest other ≡ false

-- no route that matches is longer
abbrev NoLonger : ℕ → List IpRoute → ℕ → Type 0
NoLonger dest rs len = (other : IpRoute) → Contains rs other → matches dest other ≡ true → other.len ≤ len

unmatched_on : (dest : ℕ) (r : IpRoute) (rs : List IpRoute) → matches dest r ≡ false → Unmatched dest rs → Unmatched dest (r ∷ rs)
unmatched_on dest r rs h f = λ other c. one other (first_or r other rs c)
  where
    one : (other : IpRoute) → (r ≡ other) ⊎ Contains rs other → matches dest other ≡ false
    one other (inl e) = subst (λ x. matches dest x ≡ false) e h
    one other (inr c) = f other c

no_longer_on : (dest : ℕ) (r : IpRoute) (rs : List IpRoute) (len : ℕ) → (matches dest r ≡ true → r.len ≤ len) → NoLonger dest rs len → NoLonger dest (r ∷ rs) len
no_longer_on dest r rs len h f = λ other c m. one other (first_or r other rs c) m
  where
    one : (other : IpRoute) → (r ≡ other) ⊎ Contains rs other → matches dest other ≡ true → other.len ≤ len
    one other (inl e) m = subst (λ x. matches dest x ≡ true → x.len ≤ len) e h m
    one other (inr c) m = f other c m

-- where none matches, none is longer
none_longer : (dest : ℕ) (rs : List IpRoute) (len : ℕ) → Unmatched dest rs → NoLonger dest rs len
none_longer dest rs len f = λ other c m. let u = f other c in absurd (cc)

shorter : (m n k : ℕ) → n ≤ m → m < k → n ≤ k
shorter m n k h g = omega arith

picked : (dest : ℕ) (r x : IpRoute) (rs : List IpRoute) (t : Bool) → nat_lt r.len x.len ≡ t → matches dest r ≡ true → IsLongest dest rs x → IsLongest dest (r ∷ rs) (cond t x r)
picked dest r x rs true e h f =
    let less : r.len < x.len = grind (arith, nat_tests) in
    record { stands = there r x rs f.stands; fits = f.fits; longest = no_longer_on dest r rs x.len (λ m. omega (arith, less)) f.longest }
picked dest r x rs false e h f =
    let most : x.len ≤ r.len = grind (arith, nat_tests) in
    record {
      stands = here r rs;
      fits = h;
      longest = no_longer_on dest r rs r.len (λ m. omega arith) (λ other c m. let shorter = f.longest other c m in omega arith);
    }

on : (dest : ℕ) (r : IpRoute) (rs : List IpRoute) (b : Bool) (o : Option IpRoute) → matches dest r ≡ b → MatchOption o (Unmatched dest rs) (IsLongest dest rs)
    → MatchOption (cond b (Some (longer r o)) o) (Unmatched dest (r ∷ rs)) (IsLongest dest (r ∷ rs))
on dest r rs false None h f = unmatched_on dest r rs h f
on dest r rs false (Some x) h f = record { stands = there r x rs f.stands; fits = f.fits; longest = no_longer_on dest r rs x.len (λ m. absurd (cc)) f.longest }
on dest r rs true None h f = record { stands = here r rs; fits = h; longest = no_longer_on dest r rs r.len (λ m. omega arith) (none_longer dest rs r.len f) }
on dest r rs true (Some x) h f = picked dest r x rs (nat_lt r.len x.len) refl h f

pub longest_taken : LongestIsTaken
longest_taken dest [] = λ other c. absurd (omega (arith, c.1))
longest_taken dest (r ∷ rs) = on dest r rs (matches dest r) (longest dest rs) refl (longest_taken dest rs)
