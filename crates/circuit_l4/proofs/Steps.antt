-- A call of an end is a step of the machine.
use Rattle.std.proofs.Common.{◌≡◌, ℕ, ◌-◌, ◌<◌, Bool, true, false, not, is_some, IsTrue, if◌then◌else◌, List, [], length, Option, Some, None, Result, Ok, Err, is_ok, OnOk, refl, ap, sym, ◌∙◌, subst, arith}
use Rattle.std.proofs.lemmas.List.{nil_from_length}
use Rattle.circuit_l4.specs.declared.notice.EndNotice.{EndNotice}
use Rattle.circuit_l4.specs.declared.refusal.WriteRefusal.{WriteRefusal}
use Rattle.circuit_l4.specs.State.{Effect, State, begin}
use Rattle.circuit_l4.specs.Table.{write_answer, write}
use Rattle.circuit_l4.specs.Standing.{IsDrained, EndView, KeepsEffect, Stands, StandsFor, view_of}
use Rattle.circuit_l4.specs.declared.machine.Machine.{Machine}
use Rattle.circuit_l4.specs.Calls.{IsIdle}
use Rattle.circuit_l4.specs.Outputs.{outs_of}
use Rattle.circuit_l4.specs.declared.output.Output.{Output}
use Rattle.circuit_l4.proofs.Bounds.{stands}
use Rattle.circuit_l4.proofs.Waiting.{emptied, none_out}

-- a step begins where nothing waits
begins : (k : EndView) (s : State) → IsDrained k → StandsFor k s → KeepsEffect k (begin s)
begins k s drained h =
    record {
      written = h.written;
      came = h.came;
      sending = h.sending;
      receiving = h.receiving;
      is = ap begin h.is ∙ rw (drained.outs, drained.notice) refl;
    }

-- a part that is done from what is kept is a step
pub stepped : (k : EndView) (later : Machine) (now moment : ℕ) (part : ℕ → Effect → Effect) → IsDrained k → now ≡ moment →
    ((g : Effect) → KeepsEffect k g → KeepsEffect (view_of later) (part now g)) →
    (s : State) → StandsFor k s → Stands (view_of later) (part moment (begin s))
stepped k later now moment part drained e does s h =
    subst (λ n. Stands (view_of later) (part n (begin s))) e (stands later (part now (begin s)) (does (begin s) (begins k s drained h)))

-- where the answer is Ok, the machine takes the message
pub accepts : (k : EndView) (later : Machine) (now moment : ℕ) (message : List ℕ) (r : Result (Unit {0}) WriteRefusal) → IsDrained k → now ≡ moment → r ≡ Ok tt →
    ((s : State) → StandsFor k s → r ≡ write_answer s message) →
    ((g : Effect) → KeepsEffect k g → KeepsEffect (view_of later) (write now message g)) →
    (s : State) → StandsFor k s → Stands (view_of later) (if is_ok (write_answer s message) then write moment message (begin s) else begin s)
accepts k later now moment message r drained e is answer does s h =
    subst (λ (ok : Bool). Stands (view_of later) (if ok then write moment message (begin s) else begin s)) (ap is_ok (sym is ∙ answer s h))
    (stepped k later now moment (λ n g. write n message g) drained e does s h)

pub on_ok : (r : Result (Unit {0}) WriteRefusal) (P Q : Type 0) → (r ≡ Ok tt → P → Q) → OnOk r P → OnOk r Q
on_ok (Ok tt) P Q f p = f refl p
on_ok (Err e) P Q f p = tt

-- where nothing goes out, nothing waits
pub idle : (k : EndView) (outputs : List Output) → k.outs ≡ outs_of k.outgoing.queue (k.outgoing.acked - k.outgoing.done) outputs → IsDrained k → outputs ≡ []
idle k outputs e h = emptied _ _ outputs (sym e ∙ h.outs)

pub is_idle : (m : Machine) → IsDrained (view_of m) → IsIdle m
is_idle m h = record { outs = idle (view_of m) m.outs.items refl h; notice = h.notice }

-- no output waits, so nothing does where there is no notice
pub drained : (k : EndView) (outputs : List Output) (notice : Option EndNotice) (none : Bool) → k.outs ≡ outs_of k.outgoing.queue (k.outgoing.acked - k.outgoing.done) outputs →
    length outputs ≡ 0 → k.notice ≡ notice → is_some notice ≡ not none → (IsTrue none → IsDrained k) × (IsDrained k → IsTrue none)
drained k outputs None true e z n h =
    let nothing : k.outs ≡ [] = rw (e, nil_from_length outputs z) (none_out k.outgoing.queue (k.outgoing.acked - k.outgoing.done)) in
    (λ t. record { outs = nothing; notice = n }, λ d. refl)
drained k outputs None false e z n h = absurd (cc h)
drained k outputs (Some notice) true e z n h = absurd (cc h)
drained k outputs (Some notice) false e z n h = (λ t. absurd (cc t), λ d. absurd (cc (n, d.notice)))

-- an output waits
pub waits : (k : EndView) (outputs : List Output) (none : Bool) → k.outs ≡ outs_of k.outgoing.queue (k.outgoing.acked - k.outgoing.done) outputs →
    0 < length outputs → none ≡ false → (IsTrue none → IsDrained k) × (IsDrained k → IsTrue none)
waits k outputs none e some h = (λ t. absurd (cc (h, t)), λ d. absurd (omega (arith, some, ap length (idle k outputs e d))))
