-- Calls compared: `==` on them is equality, and their order is total.
use Rattle.std.proofs.Common.{◌≡◌, ◌∙◌, ℕ, refl, sym, ap, Bool, true, false, cond}
use Rattle.std.specs.Prelude.{◌==◌, nat_lt}
use Rattle.std.specs.Cmp.{IsTotalOrder}
use Rattle.std.specs.Cmp.Lexicographic.{slice_cmp}
use Rattle.std.specs.Ordering.{nat_cmp, ordering_then, ordering_reverse, is_lt}
use Rattle.std.specs.declared.cmp.Ordering.{Ordering}
use Rattle.std.specs.declared.cmp.Ordering.TheVariants.{Less, Equal, Greater}
use Rattle.std.proofs.lemmas.Bool.{eqb-true}
use Rattle.std.proofs.lemmas.Cmp.{then_total, on_total, nat_cmp_total, nat_list_cmp_total, tied_itself}
use Rattle.std.proofs.lemmas.Map.Lookups.{exact_bytes}
use Rattle.ax_address.specs.Callsign.{Callsign, same_call, call_cmp, call_lt}
use Rattle.ax_address.proofs.SameCalls.{same_call-true, same_call-equal}

pub call_total : IsTotalOrder call_cmp
call_total = then_total (on_total (λ (c : Callsign). c.letters) nat_list_cmp_total) (on_total (λ (c : Callsign). c.ssid) nat_cmp_total)

pub then_equal : (p q : Ordering) → ordering_then p q ≡ Equal → (p ≡ Equal) × (q ≡ Equal)
then_equal Less q h = absurd (cc)
then_equal Equal q h = (refl, h)
then_equal Greater q h = absurd (cc)

nat_cmp_equal : (x y : ℕ) → nat_cmp x y ≡ Equal → x ≡ y
nat_cmp_equal x y h = eqb-true x y (tie (nat_lt x y) (x == y) h)
  where
    tie : (a b : Bool) → cond a Less (cond b Equal Greater) ≡ Equal → b ≡ true
    tie true b h = absurd (cc)
    tie false true h = refl
    tie false false h = absurd (cc)

pub call_cmp-Equal : (a b : Callsign) → call_cmp a b ≡ Equal → a ≡ b
call_cmp-Equal a b h =
    let p = then_equal (slice_cmp nat_cmp a.letters b.letters) (nat_cmp a.ssid b.ssid) h in
    let e : a.letters ≡ b.letters = exact_bytes a.letters b.letters p.0 in
    let f : a.ssid ≡ b.ssid = nat_cmp_equal a.ssid b.ssid p.1 in
    λ i. record { letters = e i; ssid = f i }

pub less_from_lt : (o : Ordering) → is_lt o ≡ true → o ≡ Less
less_from_lt Less h = refl
less_from_lt Equal h = absurd (cc)
less_from_lt Greater h = absurd (cc)

pub call_lt_trans : (a b c : Callsign) → call_lt a b ≡ true → call_lt b c ≡ true → call_lt a c ≡ true
call_lt_trans a b c h k = ap is_lt (call_total.trans a b c (less_from_lt (call_cmp a b) h) (less_from_lt (call_cmp b c) k))

pub call_lt_irrefl : (a : Callsign) → call_lt a a ≡ false
call_lt_irrefl a = ap is_lt (tied_itself call_total a)

pub call_lt_equal : (a b : Callsign) → a ≡ b → call_lt a b ≡ false
call_lt_equal a b e = ap (call_lt a) (sym e) ∙ call_lt_irrefl a

reversed : (o p : Ordering) → o ≡ ordering_reverse p → is_lt p ≡ true → is_lt o ≡ false
reversed o Less e h = ap is_lt e
reversed o Equal e h = absurd (cc)
reversed o Greater e h = absurd (cc)

-- of two calls at most one is below the other
pub call_lt_asym : (a b : Callsign) → call_lt a b ≡ true → call_lt b a ≡ false
call_lt_asym a b h = reversed (call_cmp b a) (call_cmp a b) (call_total.antisymm b a) h

total_case : (a b : Callsign) (o : Ordering) → call_cmp a b ≡ o → is_lt o ≡ false → same_call a b ≡ false → call_lt b a ≡ true
total_case a b Less e h s = absurd (cc)
total_case a b Equal e h s = let k = same_call-equal a b (call_cmp-Equal a b e) in absurd (cc)
total_case a b Greater e h s = ap is_lt (call_total.antisymm b a ∙ ap ordering_reverse e)

-- of two calls that differ one is below the other
pub call_lt_total : (a b : Callsign) → call_lt a b ≡ false → same_call a b ≡ false → call_lt b a ≡ true
call_lt_total a b h s = total_case a b (call_cmp a b) refl h s

pub call_cmp_equal : (a b : Callsign) → a ≡ b → call_cmp a b ≡ Equal
call_cmp_equal a b e = ap (call_cmp a) (sym e) ∙ tied_itself call_total a

greater_case : (a b : Callsign) (t : Bool) → same_call a b ≡ t → call_cmp a b ≡ Greater → t ≡ false
greater_case a b false s g = refl
greater_case a b true s g = let e = call_cmp_equal a b (same_call-true a b s) in absurd (cc)

pub greater_apart : (a b : Callsign) → call_cmp a b ≡ Greater → same_call a b ≡ false
greater_apart a b g = greater_case a b (same_call a b) refl g
