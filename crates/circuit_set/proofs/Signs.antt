-- By what it shows that something comes too late: by the book and by the events.
use Rattle.std.specs.Prelude.{◌≡◌, ◌≢◌, ℕ, suc, ◌+◌, Bool, true, false, List, [], ◌∷◌, ◌++◌, length, Contains, Option, Some, None, refl}
use Rattle.std.proofs.Common.{sym, ◌∙◌, ap, subst, inl, inr, append_assoc, length-append, arith}
use Rattle.std.proofs.lemmas.Bool.{both_ways}
use Rattle.circuit_l4.specs.declared.pair.Pair.{Pair}
use Rattle.circuit_set.specs.Books.{Fresh, MadeNote, SentNote, any_ends, empty, is_lost, latest_by, latest_in, lost_in, overtakers, partner_in, was_asked}
use Rattle.circuit_set.specs.ByBook.{HeldByBook, OvertakenByBook, TooManyByBook, UnaskedByBook, UnsentByBook}
use Rattle.circuit_table.specs.Events.{Event, Name}
use Rattle.circuit_set.specs.NotedRuns.{allowance, allowance_at, opened_window, told_to}
use Rattle.circuit_set.specs.Signs.{AreTooMany, IsUnsent, OvertakenBy, StillHolds}
use Rattle.circuit_set.specs.TooLate.{AllowsByWindow, Gives, Has, OpenedWith, SendsCopy}
use Rattle.circuit_set.proofs.Among.{has_so}
use Rattle.circuit_set.proofs.ByBook.{by_itself, by_partner, open_end}
use Rattle.circuit_set.proofs.Joined.{asked_marks, is_free, partner_looks, requests}
use Rattle.circuit_set.proofs.Noted.{book, finds, found, marked, marks, none_found}
use Rattle.circuit_set.proofs.Notes.{MadeAt, in_notes, made_at}
use Rattle.circuit_set.proofs.Opened.{opened_with, opens_with}
use Rattle.circuit_set.proofs.Overtakers.{are_as_many, they_are, told}
use Rattle.circuit_set.proofs.Sought.{latest_looks, noted_sending, sending_of}

size_of : (p : List Event) (e : Event) → length (p ++ e ∷ []) ≡ suc (length p)
size_of p e = let c : length (p ++ e ∷ []) ≡ length p + 1 = length-append p (e ∷ []) in omega (arith, c)

module _ (events : List Event) (fresh : Fresh empty events) where
  -- ---- what was not sent
  unsent_by : (x : Name) (d : List ℕ) (o : Option Name) → partner_in (book events).made x ≡ o → latest_by (book events) o d ≡ None → IsUnsent events x d
  unsent_by x d None e none s = let met : None ≡ Some s.0 = sym e ∙ found (partner_looks x) events fresh s.0 s.1 in cc met
  unsent_by x d (Some y) e none s =
      let both : Some y ≡ Some s.0 = sym e ∙ found (partner_looks x) events fresh s.0 s.1 in
      let same : s.0 ≡ y = cc both in
      let sent : Has (λ p k. (number : Option ℕ) × SendsCopy y d number k) events = subst (λ z. Has (λ p k. (number : Option ℕ) × SendsCopy z d number k) events) same s.2 in
      none_found (latest_looks y d) events fresh none (has_so events (λ p k c. noted_sending y d c.0 p k c.1) sent)

  -- ---- what has overtaken
  overtaken_by : (x y : Name) (d : List ℕ) (s : SentNote) → partner_in (book events).made x ≡ Some y → latest_in (book events).sent y d ≡ Some s
      → OvertakenBy events x y d s.place (overtakers y x s.place (book events).sent (book events).heard)
  overtaken_by x y d s joined latest =
      let last = finds (latest_looks y d) events fresh s latest in
      let upto : List Event = last.before ++ last.at ∷ [] in
      let w : events ≡ upto ++ last.after = last.parts ∙ sym (append_assoc last.before (last.at ∷ []) last.after) in
      let size = size_of last.before last.at in
      let counted : length (told x y upto last.after (subst (Fresh empty) w fresh) (length last.before) size) ≡ overtakers y x (length last.before) (book (upto ++ last.after)).sent (book (upto ++ last.after)).heard =
      are_as_many x y upto last.after (subst (Fresh empty) w fresh) (length last.before) size in
      record {
        joined = finds (partner_looks x) events fresh y joined;
        number = s.number;
        sending = sending_of y d s events last;
        place_is = sym last.is.place;
        overtakers = told x y upto last.after (subst (Fresh empty) w fresh) (length last.before) size;
        are = they_are x y upto last.after (subst (Fresh empty) w fresh) (length last.before) size;
        count_is = counted
            ∙ (ap (λ i. overtakers y x i (book (upto ++ last.after)).sent (book (upto ++ last.after)).heard) (sym last.is.place)
            ∙ ap (λ zs. overtakers y x s.place (book zs).sent (book zs).heard) (sym w));
      }

  -- ---- how many are too many
  module _ (x y : Name) (joined : partner_in (book events).made x ≡ Some y) where
    asked_many : was_asked (book events).made x ≡ true → (o : Option ℕ) → opened_window (told_to (book events).made x) ≡ o → AreTooMany AllowsByWindow events x y (allowance_at (book events) x)
    asked_many h (Some w) e =
        inl (record {
          opened = x;
          which = inl (marks (asked_marks x) events fresh h, refl);
          window = w;
          told = opened_with x events fresh w e;
          is = by_itself events fresh x y joined 0 h ∙ ap allowance e;
        })
    asked_many h None e =
        inr (
          (λ m a. elim a.which [
            | inl p ↦ (let seen : None ≡ Some a.window = sym e ∙ opens_with x events fresh a.window (subst (λ z. OpenedWith events z a.window) p.1 a.told) in cc seen)
            | inr p ↦ p.0 (marks (asked_marks x) events fresh h)
          ]),
          by_itself events fresh x y joined 0 h ∙ ap allowance e,
        )

    asking_many : was_asked (book events).made x ≡ false → (o : Option ℕ) → opened_window (told_to (book events).made y) ≡ o → AreTooMany AllowsByWindow events x y (allowance_at (book events) x)
    asking_many h (Some w) e =
        inl (record {
          opened = y;
          which = inr ((λ p. both_ways (was_asked (book events).made x) h (marked (asked_marks x) events fresh p)), refl);
          window = w;
          told = opened_with y events fresh w e;
          is = by_partner events fresh x y joined 0 h ∙ ap allowance e;
        })
    asking_many h None e =
        inr (
          (λ m a. elim a.which [
            | inl p ↦ both_ways (was_asked (book events).made x) h (marked (asked_marks x) events fresh p.0)
            | inr p ↦ (let seen : None ≡ Some a.window = sym e ∙ opens_with y events fresh a.window (subst (λ z. OpenedWith events z a.window) p.1 a.told) in cc seen)
          ]),
          by_partner events fresh x y joined 0 h ∙ ap allowance e,
        )

    many_by : (c : Bool) → was_asked (book events).made x ≡ c → AreTooMany AllowsByWindow events x y (allowance_at (book events) x)
    many_by true h = asked_many h (opened_window (told_to (book events).made x)) refl
    many_by false h = asking_many h (opened_window (told_to (book events).made y)) refl

  -- ---- what holds a pair
  held_by : (node : ℕ) (pair : Pair) (m q : MadeNote) → Contains (book events).made m → Contains (book events).made q → any_ends m.told ≡ false → is_lost (lost_in [] events) m.who ≡ false → m.who.node ≢ node
      → partner_in (book events).made m.who ≡ Some q.who → q.who.node ≡ node → q.pair ≡ pair → StillHolds events node pair m.who
  held_by node pair m q in_m in_q lasts kept far joined there same =
      let a : MadeAt events q = made_at events q (in_notes q (book events).made in_q) in
      record {
        stands = open_end events fresh node pair m in_m lasts kept;
        far = far;
        partner = q.who;
        joined = finds (partner_looks m.who) events fresh q.who joined;
        there = there;
        given = record { before = a.before; at = a.at; after = a.after; parts = a.parts; is = (a.gives.0, subst (λ p. Gives a.gives.0 p q.who a.at) same a.gives.1) };
      }

pub unsent_by_book : UnsentByBook
unsent_by_book events fresh x d none = unsent_by events fresh x d (partner_in (book events).made x) refl none

pub overtaken_by_book : OvertakenByBook
overtaken_by_book events fresh x y d s joined latest = overtaken_by events fresh x y d s joined latest

pub too_many_by_book : TooManyByBook
too_many_by_book events fresh x y joined = many_by events fresh x y joined (was_asked (book events).made x) refl

pub unasked_by_book : UnaskedByBook
unasked_by_book events fresh d none x a free = let asked : None ≡ Some x = sym none ∙ requests events fresh d x a (is_free events fresh x free) in cc asked

pub held_by_book : HeldByBook
held_by_book events fresh = held_by events fresh
