-- An end that was held is held still after an input, or it is told that it is gone.
use Rattle.std.proofs.Common.{◌≡◌, ◌<◌, ◌+◌, ◌⊎◌, ◌∙◌, inl, inr, ℕ, refl, ap, subst, arith, List, [], ◌∷◌, ◌++◌}
use Rattle.std.specs.Prelude.{Bool, true, false, is_none, nat_eq, if◌then◌else◌, Option, Some, None}
use Rattle.std.proofs.lemmas.Bool.{eq-eqb}
use Rattle.std.proofs.lemmas.Bool.Decides.{nat_tests}
use Rattle.ax_address.specs.Callsign.{Callsign}
use Rattle.circuit_l4.specs.Opening.{facts_of}
use Rattle.circuit_l4.specs.State.{Effect}
use Rattle.circuit_l4.specs.declared.pair.Pair.{Pair}
use Rattle.circuit_table.specs.CircuitSets.{facts_at}
use Rattle.circuit_table.specs.Sets as s
use Rattle.circuit_table.specs.Sets.{Call, Calls, Comes, ConnectFor, Holder, SetDone, SetState, CircuitTold, Made, Sent, Heeded, Notice, Gone, Restarted, Lost}
use Rattle.node_core.proofs.Ends.{In, Once, end_here, is_end, other_end}
use Rattle.node_core.proofs.Holders.{Alive, calls, comes, connects, is_away}

abbrev one : Bool → ℕ
one true = 1
one false = 0

-- how often it is told that the end of a number is gone
abbrev pub gone_by : ℕ → CircuitTold → ℕ
gone_by id (Gone at facts) = one (nat_eq at id)
gone_by id (Made at pair partner request) = 0
gone_by id (Sent at number d) = 0
gone_by id (Heeded at d) = 0
gone_by id (Notice at notice) = 0
gone_by id (Restarted pair) = 0
gone_by id (Lost at facts) = 0

abbrev pub gones : ℕ → List CircuitTold → ℕ
gones id [] = 0
gones id (t ∷ ts) = gone_by id t + gones id ts

pub gones_both : (id : ℕ) (ts us : List CircuitTold) → gones id (ts ++ us) ≡ gones id ts + gones id us
gones_both id [] us = omega arith
gones_both id (t ∷ ts) us = omega (arith, gones_both id ts us)

-- the end of a number is held, or it is untold that it is gone
abbrev pub IsHeld : ℕ → SetState → List CircuitTold → Type 0
IsHeld id set ts = (is_away id set ≡ false) ⊎ (0 < gones id ts)

-- each end that is held is held still, or it is told that it is gone
abbrev pub LeavesHeld : SetState → SetDone → Type 0
LeavesHeld set d = (id : ℕ) → Once set.ends → is_away id set ≡ false → IsHeld id d.set d.told

stays : (set : SetState) (told : List CircuitTold) → LeavesHeld set (record { set = set; told = told })
stays set told id o e = inl e

-- what an end tells that has come to this
told_gone : (set : SetState) (h : Holder) (g : Effect) → s.is_over g.end ≡ true → 0 < gones h.id (s.told_by set h g)
told_gone set h g over =
    let self : nat_eq h.id h.id ≡ true = eq-eqb h.id h.id refl in
    let outs : List CircuitTold = s.sendings set h.id h.at g.outs in
    let notes : List CircuitTold = s.notices h.id g.notes in
    let end : List CircuitTold = if s.is_over g.end then Gone h.id (facts_of g.end) ∷ [] else [] in
    let last : gones h.id end ≡ 1 = rw (over, self) refl in
    let all : gones h.id (s.told_by set h g) ≡ gones h.id (outs ++ notes) + gones h.id end = gones_both h.id (outs ++ notes) end in
    omega (arith, last, all)

-- an end that has come to this is held, or it is told that it is gone
held_or_told : (set new : SetState) (first : List CircuitTold) (h k : Holder) (g : Effect) → s.end_of h.id new.ends ≡ Some k → k.gone ≡ s.is_over g.end → IsHeld h.id new (first ++ s.told_by set h g)
held_or_told set new first h k g is gone = by (s.is_over g.end) refl
  where
    by : (b : Bool) → s.is_over g.end ≡ b → IsHeld h.id new (first ++ s.told_by set h g)
    by true over = inr (let some = told_gone set h g over in omega (arith, some, gones_both h.id first (s.told_by set h g)))
    by false over = inl (ap (λ (o : Option Holder). is_none (facts_at o)) is ∙ ap (λ b. is_none (if b then None else Some (facts_of k.end))) (gone ∙ over))

goes_on : (set : SetState) (h : Holder) (first : List CircuitTold) (g : Effect) → In h set.ends → Alive h g → Unit {0} → LeavesHeld set (s.goes_to set h first g)
goes_on set h first g i v l id o e = by (nat_eq h.id id) refl
  where
    d : SetDone
    d = s.goes_to set h first g

    by : (b : Bool) → nat_eq h.id id ≡ b → IsHeld id d.set d.told
    by true f =
        let same : h.id ≡ id = grind (arith, nat_tests, f) in
        let self : nat_eq h.id h.id ≡ true = eq-eqb h.id h.id refl in
        subst (λ k. IsHeld k d.set d.told) same
        (held_or_told set d.set first h (s.after_effect h g) g (end_here h.id (s.after_effect h g) h set.ends (is_end h.id h set.ends o i self) self) refl)
    by false f = inl (ap (λ (x : Option Holder). is_none (facts_at x)) (other_end id (s.after_effect h g) set.ends f) ∙ e)

held_before : (id : ℕ) (k : Holder) (hs : List Holder) → is_none (facts_at (s.end_of id hs)) ≡ false → is_none (facts_at (s.end_of id (hs ++ k ∷ []))) ≡ false
held_before id k [] e = absurd (cc e)
held_before id k (x ∷ xs) e = by (nat_eq x.id id) e (λ f. held_before id k xs f)
  where
    by : (b : Bool) → is_none (facts_at (if b then Some x else s.end_of id xs)) ≡ false → (is_none (facts_at (s.end_of id xs)) ≡ false → is_none (facts_at (s.end_of id (xs ++ k ∷ []))) ≡ false)
        → is_none (facts_at (if b then Some x else s.end_of id (xs ++ k ∷ []))) ≡ false
    by true f rest = f
    by false f rest = rest f

makes : (set : SetState) (at : Callsign) (asked : Option Pair) (request : Option (List ℕ)) (g : Effect) → Unit {0} → g.end.closing ≡ false → g.end.receiving.received ≡ [] → LeavesHeld set (s.makes_end set at asked request g)
makes set at asked request g c shut none id o e = inl (held_before id (s.holder_of set at asked g) set.ends e)

pub comes_leaves : (set : SetState) (d : List ℕ) (now : ℕ) → LeavesHeld set (s.set_step set (Comes d now))
comes_leaves set d now =
    comes (LeavesHeld set) (λ c. Unit {0}) set (stays set) (λ u v. Unit {0}) (λ u. tt) (λ u t now. tt) (goes_on set) (makes set) d now (λ head e. tt)

pub connects_leaves : (set : SetState) (user dest : Callsign) (now : ℕ) → LeavesHeld set (s.set_step set (ConnectFor user dest now))
connects_leaves set user dest now =
    connects (LeavesHeld set) (λ c. Unit {0}) set (stays set) (λ u v. Unit {0}) (λ u. tt) (λ u t now. tt) (goes_on set) (makes set) user dest now tt

pub calls_leaves : (set : SetState) (id : ℕ) (call : Call) (now : ℕ) → LeavesHeld set (s.set_step set (Calls id call now))
calls_leaves set id call now =
    calls (LeavesHeld set) (λ c. Unit {0}) set (stays set) (λ u v. Unit {0}) (λ u. tt) (λ u t now. tt) (goes_on set) (makes set) id call now (λ h. tt)

-- so is the end that a request makes
pub requested_held : (set : SetState) (dest : Callsign) (g : Effect) → s.end_of set.number (s.makes_end set dest None None g).set.ends ≡ Some (s.holder_of set dest None g)
    → IsHeld set.number (s.makes_end set dest None None g).set (s.makes_end set dest None None g).told
requested_held set dest g is = held_or_told set (s.makes_end set dest None None g).set (Made set.number (s.new_pair set) dest None ∷ []) (s.holder_of set dest None g) (s.holder_of set dest None g) g is refl
