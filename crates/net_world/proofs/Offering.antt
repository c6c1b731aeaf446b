-- The nth queued mail is offered at an end, or passed over.
use Rattle.std.proofs.Common.{◌≡◌, ◌∙◌, ◌+◌, ℕ, zero, suc, refl, sym, ap, subst, add-one, List, [], ◌∷◌, length, drop, Bool, true, false}
use Rattle.std.specs.Prelude.{Option, None, IfOk, IfErr, Result, Ok, Err, slice_get}
use Rattle.std.specs.Option.{option_map}
use Rattle.ax_address.specs.Callsign.{Callsign}
use Rattle.node_mail.specs.Lists.{Letter, Lists, number_and_dest}
use Rattle.net_model.specs.declared.refusals.ReplayRefusal.{ReplayRefusal}
use Rattle.net_world.specs.Agents.{Offers, offer_from}
use Rattle.net_model.specs.Mailing.{mail_in, numbers_for, offer, queued_of}
use Rattle.net_world.specs.Running.{Course, Stands, Stops}
use Rattle.net_model.specs.Traces.{IsRefusal}
use Rattle.net_model.specs.World.{World}

pub numbers_none : (dest : Callsign) (last : ℕ) (ls : List Letter) (nth : ℕ) → None ≡ option_map number_and_dest (slice_get ls nth)
    → numbers_for dest last (drop nth ls) ≡ numbers_for dest last (drop (suc nth) ls)
numbers_none dest last [] zero e = refl
numbers_none dest last [] (suc nth) e = refl
numbers_none dest last (l ∷ ls) zero e = absurd (cc)
numbers_none dest last (l ∷ ls) (suc nth) e = numbers_none dest last ls nth e

module _ (line node at id : ℕ) (dest : Callsign) (last nth : ℕ) (old new : Course) where
  -- what is left to be offered from a queued mail on
  abbrev pub left_from : ℕ → List (Option Lists) → List ℕ
  left_from k mails = numbers_for dest last (drop k (queued_of (mail_in at mails)))

  abbrev pub IsNext : ℕ → Type 0
  IsNext number = (w : World) → Stands old w → left_from nth w.mails ≡ number ∷ left_from (suc nth) w.mails

  nth_offered : (number : ℕ) (refused : Bool) → IsNext number
      → ((numbers : List ℕ) → Offers old new (offer line node at id (number ∷ numbers)) (offer line node at id numbers) refused)
      → Offers old new (offer_from line node at id dest last nth) (offer_from line node at id dest last (nth + 1)) refused
  nth_offered number true first says = λ w t.
      subst (λ ns. Stands new (offer line node at id ns w)) (sym (first w t)) (says (left_from (suc nth) w.mails) w t)
  nth_offered number false first says = λ w t.
      let x = says (left_from (suc nth) w.mails) w t in
      let same : left_from (suc nth) w.mails ≡ left_from (nth + 1) x.0.mails =
      ap (left_from (suc nth)) (sym x.2) ∙ ap (λ k. left_from k x.0.mails) (sym (add-one nth)) in
      (x.0, x.1, x.2, ap (λ ns. offer line node at id ns w) (first w t) ∙ (x.3 ∙ ap (λ ns. offer line node at id ns x.0) same))

  pub nth_ok : (number : ℕ) (r : Result Bool ReplayRefusal) → IsNext number
      → IfOk r (λ refused. (numbers : List ℕ) → Offers old new (offer line node at id (number ∷ numbers)) (offer line node at id numbers) refused)
      → IfOk r (Offers old new (offer_from line node at id dest last nth) (offer_from line node at id dest last (nth + 1)))
  nth_ok number (Ok refused) first says = nth_offered number refused first says
  nth_ok number (Err e) first says = says

  pub nth_err : (number : ℕ) (r : Result Bool ReplayRefusal) → IsNext number
      → IfErr r (λ e. (numbers : List ℕ) → Stops old e (offer line node at id (number ∷ numbers)))
      → IfErr r (λ e. Stops old e (offer_from line node at id dest last nth))
  nth_err number (Ok refused) first says = says
  nth_err number (Err e) first says = λ w t.
      subst (λ ns. IsRefusal e (length (offer line node at id ns w).air)) (sym (first w t)) (says (left_from (suc nth) w.mails) w t)

  pub nth_passed : ((w : World) → Stands old w → left_from nth w.mails ≡ left_from (suc nth) w.mails)
      → Offers old old (offer_from line node at id dest last nth) (offer_from line node at id dest last (nth + 1)) false
  nth_passed same = λ w t.
      (w, t, refl, ap (λ ns. offer line node at id ns w) (same w t ∙ ap (λ k. left_from k w.mails) (sym (add-one nth))))
