-- A step of what is kept is one within the bounds, and leaves what is kept within its share.
use Rattle.std.proofs.Common.{◌≡◌, ℕ, zero, suc, ◌==◌, inl, inr, ◌+◌, ◌*◌, ◌≤◌, Bool, true, false, if◌then◌else◌, List, [], ◌∷◌, ◌++◌, length, length-append, min, nat_le, replicate, Option, Some, None, refl, ap, sym, subst, arith}
use Rattle.std.specs.List.{AllByRecursion}
use Rattle.std.specs.Prelude.{◌⊎◌}
use Rattle.std.proofs.lemmas.Bool.Decides.{nat_tests}
use Rattle.radio_base.specs.declared.payload.Payload.{Payload}
use Rattle.ax_link.specs.Bounds.{Bounded, stock, Brings, Has, HasIf, Sized, is_small}
use Rattle.ax_link.specs.Standing.{KeepsItsShare, early_octets, kept, octets, share, LinkView, Keeps, KeepsEffect, Stands, StandsFor, state_of}
use Rattle.ax_link.specs.Kinds.{payload, payload_of}
use Rattle.ax_link.specs.Opening.{opening, rules_new, window_most, window_used}
use Rattle.ax_link.specs.State.{Effect, Rules, State, count_end, places}
use Rattle.ax_link.specs.Table.{Input, step}
use Rattle.ax_link.specs.declared.config.LinkConfig.{LinkConfig}
use Rattle.ax_link.proofs.Notices.{settings_stay}
use Rattle.ax_link.proofs.PutFrames.{bounds_stay}
use Rattle.ax_link.proofs.PutSteps.{good_step}

-- ---- what comes in is small

pub small_of : (p : Payload) → length p.info.items ≤ 256 → Has is_small p
small_of p few = grind (arith, nat_tests, few)

pub small_in : (pid : Option ℕ) (info : List ℕ) → HasIf is_small (payload_of pid info)
small_in None info = tt
small_in (Some pid) info = by (nat_le (length info) 256) refl
  where
    by : (b : Bool) → nat_le (length info) 256 ≡ b → HasIf is_small (if b then Some (payload pid info) else None)
    by true e = e
    by false e = tt

-- ---- a step

sized_on : (s : State) (i : Input) (now : ℕ) → Brings is_small is_small i → Bounded (stock s) → Sized s → Sized (step s i now).link
sized_on s i now brings b z = record {
  payloads = (good_step is_small is_small (min now count_end) s i brings (b, z.payloads)).0.1;
  window = subst (λ (r : Rules). r.srej ≡ true → 2 * r.window ≤ r.size) (sym (settings_stay s i now)) z.window;
}

pub within : (size : ℕ) (h later : LinkView) (i : Input) (now : ℕ) → Brings is_small is_small i → ((s : State) → Keeps size h s → KeepsEffect size later (step s i now)) →
    (s : State) → StandsFor size h s → Stands size later (step s i now)
within size h later i now brings does s stands =
    record { keeps = does s stands.keeps; bounds = bounds_stay s i now stands.bounds; sized = sized_on s i now brings stands.bounds stands.sized }

-- ---- what is kept

octets_most : (ps : List Payload) → AllByRecursion (Has is_small) ps → octets ps ≤ 256 * length ps
octets_most [] a = omega arith
octets_most (p ∷ ps) a =
    let few : length p.info.items ≤ 256 = grind (arith, nat_tests, a.0) in
    omega (arith, few, octets_most ps a.1)

early_most : (ps : List (Option Payload)) → AllByRecursion (HasIf is_small) ps → early_octets ps ≤ 256 * length ps
early_most [] a = omega arith
early_most (None ∷ ps) a = omega (arith, early_most ps a.1)
early_most (Some p ∷ ps) a =
    let few : length p.info.items ≤ 256 = grind (arith, nat_tests, a.0) in
    omega (arith, few, early_most ps a.1)

all_behind : (ps qs : List Payload) → AllByRecursion (Has is_small) (ps ++ qs) → AllByRecursion (Has is_small) qs
all_behind [] qs a = a
all_behind (p ∷ ps) qs a = all_behind ps qs a.1

places_few : (b : Bool) (window size : ℕ) → (b ≡ true → 2 * window ≤ size) → 2 * (if b then window else 0) ≤ size
places_few true window size few = few refl
places_few false window size few = omega arith

kept_in : (size : ℕ) (h : LinkView) (before received : List Payload) → length before ≡ h.acked → Bounded (stock (state_of size h before received)) → Sized (state_of size h before received)
    → kept h ≤ share size
kept_in size h before received acked b z =
    let queue = octets_most h.queue (all_behind before h.queue z.payloads.given) in
    let early = early_most h.early z.payloads.early in
    let inbox = octets_most h.inbox z.payloads.inbox in
    omega (arith, queue, early, inbox, b.held, length-append before h.queue, acked, b.inbox, b.places, places_few h.srej h.window size z.window)

pub keeps_its_share : KeepsItsShare
keeps_its_share size h s stands =
    kept_in size h stands.keeps.before stands.keeps.received stands.keeps.acked
    (subst (λ (x : State). Bounded (stock x)) stands.keeps.is stands.bounds) (subst Sized stands.keeps.is stands.sized)

kept_after : (size : ℕ) (h : LinkView) (g : Effect) → Stands size h g → kept h ≤ share size
kept_after size h g stands =
    kept_in size h stands.keeps.before stands.keeps.received stands.keeps.acked
    (subst (λ (x : Effect). Bounded (stock x.link)) stands.keeps.is stands.bounds) (subst (λ (x : Effect). Sized x.link) stands.keeps.is stands.sized)

-- a call keeps within the share
pub keeps_on : (size : ℕ) (h later : LinkView) (i : Input) (now : ℕ) → Brings is_small is_small i → ((s : State) → Keeps size h s → KeepsEffect size later (step s i now)) →
    (s : State) → StandsFor size h s → kept later ≤ share size
keeps_on size h later i now brings does s stands = kept_after size later (step s i now) (within size h later i now brings does s stands)

-- ---- a new link

early_none : (n : ℕ) → AllByRecursion (HasIf is_small) (replicate n None)
early_none zero = tt
early_none (suc n) = (tt, early_none n)

window_half : (size window : ℕ) → (size ≡ 8) ⊎ (size ≡ 128) → 2 * window_used size true window ≤ size
window_half size window m = by (window == 0) m
  where
    by : (b : Bool) → (size ≡ 8) ⊎ (size ≡ 128) → 2 * (if b then (if size == 8 then 4 else 32) else min window (window_most size true)) ≤ size
    by true (inl e) = rw e (omega arith)
    by true (inr e) = rw e (omega arith)
    by false (inl e) = rw e (omega arith)
    by false (inr e) = rw e (omega arith)

pub opening_sized : (size : ℕ) (c : LinkConfig) → (size ≡ 8) ⊎ (size ≡ 128) → Sized (opening (rules_new size c))
opening_sized size c m = record {
  payloads = record { given = tt; received = tt; inbox = tt; early = early_none (places (rules_new size c)) };
  window = λ e. rw e (window_half size c.window m);
}
