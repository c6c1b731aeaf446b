-- The note by which an end has its partner.
use Rattle.std.specs.Prelude.{◌≡◌, ◌⊎◌, Bool, true, false, if◌then◌else◌, List, [], ◌∷◌, Option, Some, None, refl}
use Rattle.std.specs.List.{AllByRecursion}
use Rattle.std.proofs.Common.{sym, ◌∙◌, ap, subst, inl, inr}
use Rattle.circuit_set.specs.Books.{MadeNote, first_name, is_some_name, partner_in}
use Rattle.circuit_table.specs.Events.{Name, same_name}
use Rattle.circuit_set.proofs.Bridge.{same_names}
use Rattle.circuit_set.proofs.Fair.{InMade}
use Rattle.circuit_set.proofs.NewName.{some_is}

pub of_made : (P : MadeNote → Type 0) (ms : List MadeNote) (m : MadeNote) → AllByRecursion P ms → InMade m ms → P m
of_made P [] m a i = absurd i
of_made P (x ∷ ms) m a (inl e) = subst P (sym e) a.0
of_made P (x ∷ ms) m a (inr i) = of_made P ms m a.1 i

-- it stands in x's own note, or x in its
pub record Partner (ms : List MadeNote) (x z : Name) : Type 0 where
  pub note : MadeNote
  pub inside : InMade note ms
  pub which : ((note.partner ≡ Some x) × (note.who ≡ z)) ⊎ ((note.who ≡ x) × (note.partner ≡ Some z))

partner_later : (m : MadeNote) (ms : List MadeNote) (x z : Name) → Partner ms x z → Partner (m ∷ ms) x z
partner_later m ms x z p = record { note = p.note; inside = inr p.inside; which = p.which }

own_case : (m : MadeNote) (ms : List MadeNote) (x z : Name) (o : Option Name) (b : Bool) → m.partner ≡ o → same_name m.who x ≡ b → first_name (if b then o else None) (partner_in ms x) ≡ Some z
    → (partner_in ms x ≡ Some z → Partner ms x z) → Partner (m ∷ ms) x z
own_case m ms x z (Some y) true p t e later = let same : y ≡ z = cc in record { note = m; inside = inl refl; which = inr (same_names m.who x t, p ∙ ap (λ w. Some w) same) }
own_case m ms x z None true p t e later = partner_later m ms x z (later e)
own_case m ms x z o false p t e later = partner_later m ms x z (later e)

partner_case : (m : MadeNote) (ms : List MadeNote) (x z : Name) (b : Bool) → is_some_name m.partner x ≡ b → (if b then Some m.who else first_name (if same_name m.who x then m.partner else None) (partner_in ms x)) ≡ Some z
    → (partner_in ms x ≡ Some z → Partner ms x z) → Partner (m ∷ ms) x z
partner_case m ms x z true t e later = let same : m.who ≡ z = cc in record { note = m; inside = inl refl; which = inl (some_is m.partner x t, same) }
partner_case m ms x z false t e later = own_case m ms x z m.partner (same_name m.who x) refl refl e later

pub partner_of : (ms : List MadeNote) (x z : Name) → partner_in ms x ≡ Some z → Partner ms x z
partner_of [] x z e = cc
partner_of (m ∷ ms) x z e = partner_case m ms x z (is_some_name m.partner x) refl e (partner_of ms x z)
