-- Payloads that came before their turn.
use Rattle.std.proofs.Common.{◌≡◌, ℕ, zero, suc, ◌+◌, ◌-◌, ◌%◌, ◌≤◌, Bool, true, false, List, [], ◌∷◌, ◌++◌, take, length, slice_get, slice_set, Option, Some, None, is_some, refl, ap, sym, ◌∙◌, subst, arith, append_assoc, add-one}
use Rattle.std.proofs.lemmas.Bool.Decides.{nat_tests}
use Rattle.radio_base.specs.declared.payload.Payload.{Payload}
use Rattle.ax_link.specs.declared.kind.Kind.TheVariants.{Srej}
use Rattle.ax_link.specs.State.{Frame, State, Effect, top}
use Rattle.ax_link.specs.Moves.{asks_of, follow_by, next_early, emit, take_next}
use Rattle.ax_link.specs.Standing.{LinkView, KeepsEffect, effect_of, state_of}
use Rattle.ax_link.specs.Calls.{ask_for_each, is_filled, take_next_payload, with_early}
use Rattle.ax_link.proofs.Standings.{itself, standing}

-- ---- places ----
set_same : (e : List (Option Payload)) (i : ℕ) (x : Option Payload) → slice_get e i ≡ Some x → slice_set e i x ≡ e
set_same [] i x h = refl
set_same (y ∷ e) zero x h = ap (λ k. k ∷ e) (cc h)
set_same (y ∷ e) (suc i) x h = ap (λ k. y ∷ k) (set_same e i x h)

-- what is kept in a place stays there
pub kept_already : (e : List (Option Payload)) (i : ℕ) (p : Payload) (x : Option Payload) → Some x ≡ slice_get e i → is_some x ≡ true → slice_set e i x ≡ with_early i p e
kept_already e i p None h n = absurd (cc n)
kept_already e i p (Some q) h n = rw (← h) (set_same e i (Some q) (sym h))

top_filled : (e : List (Option Payload)) (i : ℕ) → is_filled (slice_get e i) ≡ true → top (take (suc i) e) ≡ suc i
top_filled [] i h = absurd (cc h)
top_filled (None ∷ e) zero h = absurd (cc h)
top_filled (Some q ∷ e) zero h = refl
top_filled (None ∷ e) (suc i) h = grind (arith, nat_tests, top_filled e i h)
top_filled (Some q ∷ e) (suc i) h = ap suc (top_filled e i h)

top_empty : (e : List (Option Payload)) (i : ℕ) → is_filled (slice_get e i) ≡ false → top (take (suc i) e) ≡ top (take i e)
top_empty [] zero h = refl
top_empty [] (suc i) h = refl
top_empty (None ∷ e) zero h = refl
top_empty (Some q ∷ e) zero h = absurd (cc h)
top_empty (None ∷ e) (suc i) h = rw (top_empty e i h) refl
top_empty (Some q ∷ e) (suc i) h = ap suc (top_empty e i h)

-- one place more was looked at
pub top_at : (e : List (Option Payload)) (i top_now : ℕ) (filled : Bool) → filled ≡ is_filled (slice_get e i) → filled ≡ true → top_now ≡ i + 1 → top_now ≡ top (take (i + 1) e)
top_at e i top_now filled f t n = rw (n, add-one i) (sym (top_filled e i (sym f ∙ t)))

pub top_before : (e : List (Option Payload)) (i top_now before : ℕ) (filled : Bool) → filled ≡ is_filled (slice_get e i) → filled ≡ false → before ≡ top (take i e) → top_now ≡ before → top_now ≡ top (take (i + 1) e)
top_before e i top_now before filled f t b n = rw (n, add-one i) (b ∙ sym (top_empty e i (sym f ∙ t)))

-- ---- what is asked for ----
asks_step : (size n many : ℕ) → asks_of size n (suc many) ≡ asks_of size n many ++ record { command = false; kind = Srej ((n + many) % size) false; payload = None } ∷ []
asks_step size n zero = ap (λ (m : ℕ). record { command = false; kind = Srej (m % size) false; payload = None } ∷ []) (omega arith)
asks_step size n (suc many) =
    let m : suc n + many ≡ n + suc many = omega arith in
    ap (λ (fs : List Frame). record { command = false; kind = Srej (n % size) false; payload = None } ∷ fs)
    (subst (λ (m : ℕ). asks_of size (suc n) (suc many) ≡ asks_of size (suc n) many ++ record { command = false; kind = Srej (m % size) false; payload = None } ∷ []) m (asks_step size (suc n) many))

one_more : (size from many number : ℕ) (g : Effect) → g.link.rules.size ≡ size → number ≡ from + many →
    emit false (Srej (number % size) false) (ask_for_each from many g) ≡ ask_for_each from (suc many) g
one_more size from many number g z e = rw (e, ← z, asks_step g.link.rules.size from many) (ap (λ (fs : List Frame). record g { outs = fs }) (append_assoc g.outs _ _))

-- one more is asked for
pub one_more_asked : (size from number : ℕ) (old mid later : LinkView) → from ≤ number →
    ((g : Effect) → KeepsEffect size old g → KeepsEffect size mid (ask_for_each from (number - from) g)) →
    ((g : Effect) → KeepsEffect size mid g → KeepsEffect size later (emit false (Srej (number % size) false) g)) →
    (g : Effect) → KeepsEffect size old g → KeepsEffect size later (ask_for_each from (number + 1 - from) g)
one_more_asked size from number old mid later l before does =
    standing size old later (ask_for_each from (number + 1 - from)) (λ kept received a b.
    let g : Effect = effect_of size old kept received in
    let n : number + 1 - from ≡ suc (number - from) = omega (arith, l) in
    rw n (subst (KeepsEffect size later) (one_more size from (number - from) number g refl (omega (arith, l))) (does _ (before g (itself size old kept received a b)))))

-- ---- moving on ----
-- what is kept stands for a step that will be this one, once at most k early payloads have followed
pub record Goes (size : ℕ) (h : LinkView) (k : ℕ) (goal : Effect) : Type 0 where
  pub at : Effect
  pub stands : KeepsEffect size h at
  pub goes : record at { link = follow_by k at.link } ≡ goal

move_some : (k : ℕ) (s : State) (p : Payload) → Some p ≡ next_early s → follow_by (suc k) s ≡ follow_by k (take_next p s)
move_some k s p e = ap (λ (x : Option Payload). elim x as (λ y. State) [ None ↦ s | Some q ↦ follow_by k (take_next q s) ]) (sym e)

move_none : (k : ℕ) (s : State) → None ≡ next_early s → follow_by k s ≡ s
move_none zero s e = refl
move_none (suc k) s e = ap (λ (x : Option Payload). elim x as (λ y. State) [ None ↦ s | Some q ↦ follow_by k (take_next q s) ]) (sym e)

-- one has followed
pub goes_on : (size k rest : ℕ) (h later : LinkView) (p : Payload) (goal : Effect) → k ≡ suc rest →
    ((before received : List Payload) → length received ≡ h.got → Some p ≡ next_early (state_of size h before received)) →
    ((g : Effect) → KeepsEffect size h g → KeepsEffect size later (take_next_payload p g)) →
    Goes size h k goal → Goes size later rest goal
goes_on size k rest h later p goal e next does w =
    let n : Some p ≡ next_early w.at.link = next w.stands.before w.stands.received w.stands.got ∙ ap (λ (x : Effect). next_early x.link) (sym w.stands.is) in
    record {
      at = take_next_payload p w.at;
      stands = does w.at w.stands;
      goes = ap (λ (x : State). record w.at { link = x }) (sym (move_some rest w.at.link p n)) ∙ (ap (λ (m : ℕ). record w.at { link = follow_by m w.at.link }) (sym e) ∙ w.goes);
    }

-- none follows
pub goes_no_further : (size k : ℕ) (h : LinkView) (goal : Effect) →
    ((before received : List Payload) → length received ≡ h.got → None ≡ next_early (state_of size h before received)) →
    Goes size h k goal → KeepsEffect size h goal
goes_no_further size k h goal next w =
    let n : None ≡ next_early w.at.link = next w.stands.before w.stands.received w.stands.got ∙ ap (λ (x : Effect). next_early x.link) (sym w.stands.is) in
    subst (KeepsEffect size h) (ap (λ (x : State). record w.at { link = x }) (sym (move_none k w.at.link n)) ∙ w.goes) w.stands
