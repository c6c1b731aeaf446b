-- What the parts of an end's step leave as it is: the phase, the configuration, and how the tries count.
use Rattle.std.proofs.Common.{◌≡◌, ℕ, ◌-◌, ◌<◌, ◌⊎◌, inl, inr, suc, Bool, true, false, nat_lt, if◌then◌else◌, Option, Some, None, refl, ◌∙◌, arith}
use Rattle.std.proofs.lemmas.Bool.Decides.{nat_tests}
use Rattle.radio_base.specs.Modulus.{place_of}
use Rattle.circuit_l4.specs.declared.transport.Flags.{Flags}
use Rattle.circuit_l4.specs.State.{Effect, State}
use Rattle.circuit_l4.specs.Moves.{acknowledge, acknowledge_by, advance, wait, wait_if_out, hold, count_out}

-- more is acknowledged and the tries count anew, or neither
abbrev pub Counts : State → State → Type 0
Counts s t = ((s.sending.acked < t.sending.acked) × (t.tries ≡ 0)) ⊎ ((t.sending.acked ≡ s.sending.acked) × (t.tries ≡ s.tries))

-- after a part of a step, the phase and the retries are those of s, and the tries count on
abbrev pub Keeps : State → State → Type 0
Keeps s t = (t.phase ≡ s.phase) × (t.config.retries ≡ s.config.retries) × Counts s t

pub itself : (s : State) → Keeps s s
itself s = (refl, refl, inr (refl, refl))

pub counts_on : (s t u : State) → Counts s t → Counts t u → Counts s u
counts_on s t u (inl a) (inl b) = inl (omega (arith, a.0, b.0), b.1)
counts_on s t u (inl a) (inr b) = inl (omega (arith, a.0, b.0), b.1 ∙ a.1)
counts_on s t u (inr a) (inl b) = inl (omega (arith, a.0, b.0), b.1)
counts_on s t u (inr a) (inr b) = inr (b.0 ∙ a.0, b.1 ∙ a.1)

-- ---- a choice ----
pub either : (P : State → Type 0) (b : Bool) (s t : State) → P s → P t → P (if b then s else t)
either P true s t h k = h
either P false s t h k = k

pub either_going : (P : Effect → Type 0) (b : Bool) (g h : Effect) → P g → P h → P (if b then g else h)
either_going P true g h p q = p
either_going P false g h p q = q

-- ---- what is put out is counted ----
waits : (s t : State) (now : ℕ) (due : Option ℕ) → Keeps s t → Keeps s (elim due as (λ d. State) [ None ↦ wait now t | Some d ↦ t ])
waits s t now None h = h
waits s t now (Some d) h = h

pub keeps-counted_out : (s : State) (now many : ℕ) → Keeps s (count_out now many s)
keeps-counted_out s now many = either (Keeps s) (nat_lt 0 many) _ _ (waits s _ now s.answer_due (itself s)) (itself s)

-- ---- the acknowledgement ----
pub keeps-awaited_if_out : (s t : State) (now : ℕ) → Keeps s t → Keeps s (wait_if_out now t)
keeps-awaited_if_out s t now h = either (Keeps s) (nat_lt t.sending.acked t.sending.sent) _ _ h h

advanced : (s : State) (now x : ℕ) (b : Bool) → nat_lt s.sending.acked x ≡ b
    → Keeps s (if b then wait_if_out now (record s { sending = record s.sending { acked = x }; tries = 0 }) else s)
advanced s now x true e =
    let more : s.sending.acked < x = grind (arith, nat_tests) in
    keeps-awaited_if_out s (record s { sending = record s.sending { acked = x }; tries = 0 }) now (refl, refl, inl (more, refl))
advanced s now x false e = itself s

keeps-advanced : (s : State) (now x : ℕ) → Keeps s (advance now x s)
keeps-advanced s now x = advanced s now x (nat_lt s.sending.acked x) refl

keeps-choked : (s t : State) (now : ℕ) (choke : Bool) → Keeps s t → Keeps s (hold now choke t)
keeps-choked s t now true h = h
keeps-choked s t now false h = either (Keeps s) t.choked _ _ (keeps-awaited_if_out s (record t { choked = false }) now h) h

found : (s : State) (now : ℕ) (flags : Flags) (place : Option ℕ) → Keeps s (acknowledge_by now flags place s).end
found s now flags None = itself s
found s now flags (Some x) = keeps-choked s (advance now x s) now flags.choke (keeps-advanced s now x)

pub keeps-acknowledged : (s : State) (now rx : ℕ) (flags : Flags) → Keeps s (acknowledge now rx flags s).end
keeps-acknowledged s now rx flags = found s now flags (place_of 256 rx s.sending.acked (suc (s.sending.sent - s.sending.acked)))
