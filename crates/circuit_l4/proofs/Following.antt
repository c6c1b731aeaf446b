-- Early fragments follow.
use Rattle.std.proofs.Common.{◌≡◌, ℕ, zero, suc, ◌+◌, ◌-◌, ◌<◌, Bool, true, false, if◌then◌else◌, length, Option, Some, None, Result, Ok, Err, refl, ap, sym, ◌∙◌, subst, arith}
use Rattle.std.specs.Prelude.{IsErr}
use Rattle.circuit_reassembly.specs.declared.gather.Oversize.{Oversize}
use Rattle.circuit_l4.specs.declared.piece.Piece.{Piece}
use Rattle.circuit_l4.specs.State.{Appended, Receiving, append, follow_by, follow, next_early}
use Rattle.circuit_l4.specs.Halves.{Inbox, IsReceiving, moved_answer}

-- what is kept stands for a half that will be this one, once at most k early fragments have followed
pub record Goes (i : Inbox) (k : ℕ) (goal : Appended) : Type 0 where
  pub at : Receiving
  pub stands : IsReceiving i at
  pub goes : follow_by k at ≡ goal

-- so it does at first
pub starts : (i : Inbox) (r : Receiving) → IsReceiving i r → Goes i (length i.early - 0) (follow r)
starts i r h =
    let same : length i.early ≡ length r.early = ap length h.early in
    let all : length i.early - 0 ≡ length r.early = omega (arith, same) in
    record { at = r; stands = h; goes = ap (λ n. follow_by n r) all }

-- what is kept stands for this half, and this is the answer
pub record Ends (i : Inbox) (answer : Result (Unit {0}) Oversize) (goal : Appended) : Type 0 where
  pub half : IsReceiving i goal.half
  pub is : answer ≡ moved_answer goal

-- there is one error
pub an_error : {A : Type 0} (result : Result A Oversize) (x : Oversize) → IsErr result → result ≡ Err x
an_error (Ok y) x h = absurd (cc h)
an_error (Err y) x h = refl

-- one fragment more, and what follows it
followed : ℕ → Appended → Appended
followed k a = if a.fits then follow_by k a.half else a

move_some : (k : ℕ) (r : Receiving) (p : Piece) → Some p ≡ next_early r → follow_by (suc k) r ≡ followed k (append p.text.items p.more r)
unfolding followed
move_some k r p e =
    ap (λ (x : Option Piece). elim x as (λ y. Appended) [ None ↦ record { half = r; fits = true } | Some q ↦ followed k (append q.text.items q.more r) ]) (sym e)

move_none : (k : ℕ) (r : Receiving) → None ≡ next_early r → follow_by k r ≡ record { half = r; fits = true }
unfolding followed
move_none zero r e = refl
move_none (suc k) r e =
    ap (λ (x : Option Piece). elim x as (λ y. Appended) [ None ↦ record { half = r; fits = true } | Some q ↦ followed k (append q.text.items q.more r) ]) (sym e)

followed_fits : (k : ℕ) (a : Appended) (fits : Bool) → a.fits ≡ fits → Ok tt ≡ moved_answer (record a { fits = fits }) → followed k a ≡ follow_by k a.half
unfolding followed
followed_fits k a true e h = rw e refl
followed_fits k a false e h = absurd (cc h)

followed_fails : (k : ℕ) (a : Appended) (fits : Bool) (x : Oversize) → a.fits ≡ fits → Err x ≡ moved_answer (record a { fits = fits }) → followed k a ≡ a
unfolding followed
followed_fails k a true x e h = absurd (cc h)
followed_fails k a false x e h = rw e refl

-- one place fewer is left to be looked at
pub one_left : (places many done : ℕ) → many ≡ places → done < many → places - done ≡ suc (places - (done + 1))
one_left places many done e h = omega arith

-- one has followed
pub resume : (i j : Inbox) (k rest : ℕ) (p : Piece) (goal : Appended) → k ≡ suc rest →
    ((r : Receiving) → IsReceiving i r → Some p ≡ next_early r) →
    ((r : Receiving) → IsReceiving i r → IsReceiving j (append p.text.items p.more r).half) →
    ((r : Receiving) → IsReceiving i r → Ok tt ≡ moved_answer (append p.text.items p.more r)) →
    Goes i k goal → Goes j rest goal
resume i j k rest p goal e next does answer w =
    let a : Appended = append p.text.items p.more w.at in
    record {
      at = a.half;
      stands = does w.at w.stands;
      goes = sym (move_some rest w.at p (next w.at w.stands) ∙ followed_fits rest a a.fits refl (answer w.at w.stands)) ∙ (ap (λ (m : ℕ). follow_by m w.at) (sym e) ∙ w.goes);
    }

-- one doesn't fit
pub goes_wrong : (i j : Inbox) (k rest : ℕ) (p : Piece) (x : Oversize) (goal : Appended) → k ≡ suc rest →
    ((r : Receiving) → IsReceiving i r → Some p ≡ next_early r) →
    ((r : Receiving) → IsReceiving i r → IsReceiving j (append p.text.items p.more r).half) →
    ((r : Receiving) → IsReceiving i r → Err x ≡ moved_answer (append p.text.items p.more r)) →
    Goes i k goal → Ends j (Err x) goal
goes_wrong i j k rest p x goal e next does answer w =
    let a : Appended = append p.text.items p.more w.at in
    let is : a ≡ goal = sym (move_some rest w.at p (next w.at w.stands) ∙ followed_fails rest a a.fits x refl (answer w.at w.stands)) ∙ (ap (λ (m : ℕ). follow_by m w.at) (sym e) ∙ w.goes) in
    record {
      half = subst (λ (g : Appended). IsReceiving j g.half) is (does w.at w.stands);
      is = answer w.at w.stands ∙ ap moved_answer is;
    }

-- none follows
pub goes_no_further : (i : Inbox) (k : ℕ) (goal : Appended) → ((r : Receiving) → IsReceiving i r → None ≡ next_early r) → Goes i k goal → Ends i (Ok tt) goal
goes_no_further i k goal next w =
    let is : record { half = w.at; fits = true } ≡ goal = sym (move_none k w.at (next w.at w.stands)) ∙ w.goes in
    record { half = subst (λ (g : Appended). IsReceiving i g.half) is w.stands; is = ap moved_answer is }
