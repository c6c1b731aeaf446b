-- What the answers to fragments tell.
use Rattle.std.proofs.Common.{◌≡◌, ℕ, Bool, true, false, ◌||◌, if◌then◌else◌, Ok, Err, refl, sym, subst}
use Rattle.circuit_reassembly.specs.declared.gather.Oversize.{Oversize}
use Rattle.circuit_l4.specs.State.{Appended, Receipt, Effect}
use Rattle.circuit_l4.specs.Halves.{receipt_answer, moved_answer}
use Rattle.circuit_l4.specs.declared.owed.Owed.{Owed}
use Rattle.circuit_l4.specs.declared.notice.EndNotice.TheVariants.{FailedOversize}
use Rattle.circuit_l4.specs.Moves.{answer_all, end_with, with_receiving, answer_text}
use Rattle.circuit_l4.specs.Standing.{EndView, KeepsEffect}

fitted : {A : Type 0} (fits : Bool) (x y : A) (e : Oversize) → (if fits then Ok x else Err e) ≡ Ok y → (fits ≡ true) × (x ≡ y)
fitted true x y e h = (refl, cc h)
fitted false x y e h = absurd (cc h)

unfitted : {A : Type 0} (fits : Bool) (x : A) (e d : Oversize) → (if fits then Ok x else Err e) ≡ Err d → fits ≡ false
unfitted true x e d h = absurd (cc h)
unfitted false x e d h = refl

pub moved_fits : (a : Appended) (x : Unit {0}) → moved_answer a ≡ Ok x → a.fits ≡ true
moved_fits a x h = (fitted a.fits tt x _ h).0

pub moved_fails : (a : Appended) (e : Oversize) → moved_answer a ≡ Err e → a.fits ≡ false
moved_fails a e h = unfitted a.fits tt _ e h

pub receipt_fits : (c : Receipt) (asks : Bool) → receipt_answer c ≡ Ok asks → (c.fits ≡ true) × (c.nak ≡ asks)
receipt_fits c asks h = fitted c.fits c.nak asks _ h

pub receipt_fails : (c : Receipt) (e : Oversize) → receipt_answer c ≡ Err e → c.fits ≡ false
receipt_fails c e h = unfitted c.fits c.nak _ e h

-- a text that fitted its message, and one that didn't
pub texted_fits : (now : ℕ) (owed known : Owed) (c : Receipt) (nak : Bool) (later : EndView) (g : Effect) → c.fits ≡ true → c.nak ≡ nak → known ≡ owed →
    KeepsEffect later (answer_all now nak known (with_receiving c.half g)) → KeepsEffect later (answer_text now owed c g)
texted_fits now owed known c nak later g f n o h =
    subst (λ (b : Bool). KeepsEffect later (if b then answer_all now c.nak owed (with_receiving c.half g) else end_with FailedOversize (with_receiving c.half g))) (sym f)
    (subst (λ (b : Bool). KeepsEffect later (answer_all now b owed (with_receiving c.half g))) (sym n)
    (subst (λ (w : Owed). KeepsEffect later (answer_all now nak w (with_receiving c.half g))) o h))

pub texted_fails : (now : ℕ) (owed : Owed) (c : Receipt) (later : EndView) (g : Effect) → c.fits ≡ false →
    KeepsEffect later (end_with FailedOversize (with_receiving c.half g)) → KeepsEffect later (answer_text now owed c g)
texted_fails now owed c later g f h =
    subst (λ (b : Bool). KeepsEffect later (if b then answer_all now c.nak owed (with_receiving c.half g) else end_with FailedOversize (with_receiving c.half g))) (sym f) h

-- what was got is told where a negative acknowledgement is owed, and where no text goes out
pub told_by : (nak silent : Bool) (later : EndView) (told untold : Effect) → nak ≡ true → KeepsEffect later told → KeepsEffect later (if nak || silent then told else untold)
told_by true silent later told untold e h = h
told_by false silent later told untold e h = absurd (cc e)

pub silent_by : (nak silent : Bool) (later : EndView) (told untold : Effect) → silent ≡ true → KeepsEffect later told → KeepsEffect later (if nak || silent then told else untold)
silent_by true silent later told untold e h = h
silent_by false true later told untold e h = h
silent_by false false later told untold e h = absurd (cc e)

pub untold_by : (nak silent : Bool) (later : EndView) (told untold : Effect) → nak ≡ false → silent ≡ false → KeepsEffect later untold →
    KeepsEffect later (if nak || silent then told else untold)
untold_by false false later told untold e f h = h
untold_by true silent later told untold e f h = absurd (cc e)
untold_by false true later told untold e f h = absurd (cc f)
