-- What the code keeps of an end, a step further.
use Rattle.std.proofs.Common.{◌≡◌, refl, sym, subst}
use Rattle.circuit_l4.specs.State.{Sending, Receiving, Effect}
use Rattle.circuit_l4.specs.Halves.{IsSending, IsReceiving}
use Rattle.circuit_l4.specs.Standing.{EndView, KeepsEffect, effect_of}

-- what is kept stands for itself, with halves that agree
pub itself : (k : EndView) (s : Sending) (r : Receiving) → IsSending k.outgoing s → IsReceiving k.incoming r → KeepsEffect k (effect_of k s r)
itself k s r a b = record { written = s; came = r; sending = a; receiving = b; is = refl }

-- a part that does so from what is kept does so from all that it stands for
pub standing : (k later : EndView) (part : Effect → Effect) →
    ((s : Sending) (r : Receiving) → IsSending k.outgoing s → IsReceiving k.incoming r → KeepsEffect later (part (effect_of k s r))) →
    (g : Effect) → KeepsEffect k g → KeepsEffect later (part g)
standing k later part f g h = subst (λ x. KeepsEffect later (part x)) (sym h.is) (f h.written h.came h.sending h.receiving)

-- what holds of what is kept, with halves that agree, holds of all that it stands for
pub standing_all : (k : EndView) (P : Effect → Type 0) →
    ((s : Sending) (r : Receiving) → IsSending k.outgoing s → IsReceiving k.incoming r → P (effect_of k s r)) →
    (g : Effect) → KeepsEffect k g → P g
standing_all k P f g h = subst P (sym h.is) (f h.written h.came h.sending h.receiving)

-- a part that changes what is kept and nothing of the halves
pub changes : (k later : EndView) (part : Effect → Effect) → later.outgoing ≡ k.outgoing → later.incoming ≡ k.incoming →
    ((s : Sending) (r : Receiving) → part (effect_of k s r) ≡ effect_of later s r) →
    (g : Effect) → KeepsEffect k g → KeepsEffect later (part g)
changes k later part o i f =
    standing k later part (λ s r a b.
    record {
      written = s;
      came = r;
      sending = subst (λ x. IsSending x s) (sym o) a;
      receiving = subst (λ x. IsReceiving x r) (sym i) b;
      is = f s r;
    })
