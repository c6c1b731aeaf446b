-- What a station does, by the place of the first repeater whose H bit is unset.
use Rattle.std.proofs.Common.{◌≡◌, ℕ, zero, suc, ◌<◌, ◌≤◌, Bool, true, false, if◌then◌else◌, List, [], ◌∷◌, refl, sym, ◌∙◌, ap, slice_set, get_or, length, arith}
use Rattle.std.specs.List.{prefix_len}
use Rattle.ax_address.specs.declared.address.Address.{Address}
use Rattle.ax_address.specs.Callsign.{Callsign, same_call}
use Rattle.digi_path.specs.Paths.{Action, For_me, Repeat, Not_yet, Heard, action, behind, repeated, has_repeated}
use Rattle.digi_path.specs.Laws.{AllHaveRepeated}
use Rattle.digi_path.proofs.Acting.{at_end}

-- the answer where the repeater at a place is next
abbrev pub at_place : List Address → ℕ → Address → Bool → Action
at_place path at r t = if t then Repeat (slice_set path at (repeated r)) else Not_yet

behind_place : (x : Address) (path : List Address) (m : ℕ) (r : Address) (t : Bool) → behind x (at_place path m r t) ≡ at_place (x ∷ path) (suc m) r t
behind_place x path m r true = refl
behind_place x path m r false = refl

passed : (x : Address) (path : List Address) (dest own : Callsign) → has_repeated x ≡ true → action (x ∷ path) dest own ≡ behind x (action path dest own)
passed x path dest own e =
    ap (λ h. if h then behind x (action path dest own) else (if same_call x.call own then Repeat (repeated x ∷ path) else Not_yet)) e

next_by : (x : Address) (path : List Address) (at : ℕ) (d : Address) (dest own : Callsign) (t h : Bool) → has_repeated x ≡ h →
    ((m : ℕ) → prefix_len has_repeated path ≡ m → m < length path → same_call (get_or path m d).call own ≡ t → action path dest own ≡ at_place path m (get_or path m d) t) →
    prefix_len has_repeated (x ∷ path) ≡ at → at < length (x ∷ path) → same_call (get_or (x ∷ path) at d).call own ≡ t →
    action (x ∷ path) dest own ≡ at_place (x ∷ path) at (get_or (x ∷ path) at d) t
next_by x path zero d dest own t true e ih p l s = let q = rw e at p in absurd (omega (arith, q))
next_by x path (suc m) d dest own t true e ih p l s =
    let q = rw e at p in
    passed x path dest own e ∙ ap (behind x) (ih m (omega (arith, q)) (omega (arith, l)) s) ∙ behind_place x path m (get_or path m d) t
next_by x path zero d dest own t false e ih p l s = rw (e, s) refl
next_by x path (suc m) d dest own t false e ih p l s = let q = rw e at p in absurd (omega (arith, q))

next_at : (path : List Address) (at : ℕ) (d : Address) (dest own : Callsign) (t : Bool) → prefix_len has_repeated path ≡ at → at < length path →
    same_call (get_or path at d).call own ≡ t → action path dest own ≡ at_place path at (get_or path at d) t
next_at [] at d dest own t p l s = absurd (omega (arith, l))
next_at (x ∷ path) at d dest own t p l s = next_by x path at d dest own t (has_repeated x) refl (λ m. next_at path m d dest own t) p l s

pub next_is : (path : List Address) (at : ℕ) (r : Address) (dest own : Callsign) (t : Bool) → at ≡ prefix_len has_repeated path → at < length path →
    r ≡ get_or path at r → same_call r.call own ≡ t → action path dest own ≡ at_place path at r t
next_is path at r dest own t p l g s =
    let s' : same_call (get_or path at r).call own ≡ t = ap (λ (a : Address). same_call a.call own) (sym g) ∙ s in
    next_at path at r dest own t (sym p) l s' ∙ ap (λ a. at_place path at a t) (sym g)

all_by : (x : Address) (path : List Address) (h : Bool) → has_repeated x ≡ h → (length path ≤ prefix_len has_repeated path → AllHaveRepeated path) →
    length (x ∷ path) ≤ prefix_len has_repeated (x ∷ path) → AllHaveRepeated (x ∷ path)
all_by x path true e ih l = let m = rw e at l in (e, ih (omega (arith, m)))
all_by x path false e ih l = let m = rw e at l in absurd (omega (arith, m))

all_repeated : (path : List Address) → length path ≤ prefix_len has_repeated path → AllHaveRepeated path
all_repeated [] l = tt
all_repeated (x ∷ path) l = all_by x path (has_repeated x) refl (all_repeated path) l

pub none_is : (path : List Address) (at : ℕ) (dest own : Callsign) (t : Bool) → at ≡ prefix_len has_repeated path → length path ≤ at →
    same_call dest own ≡ t → action path dest own ≡ (if t then For_me else Heard)
none_is path at dest own t p l s = at_end path dest own t s (all_repeated path (rw p at l))
