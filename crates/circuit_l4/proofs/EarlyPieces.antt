-- Fragments that came before their turn.
use Rattle.std.proofs.Common.{◌≡◌, ℕ, zero, suc, true, List, [], ◌∷◌, slice_get, slice_set, Option, Some, None, is_some, refl, ap, sym}
use Rattle.circuit_l4.specs.declared.piece.Piece.{Piece}
use Rattle.circuit_l4.specs.State.{keep}

pub set_same : (e : List (Option Piece)) (i : ℕ) (x : Option Piece) → slice_get e i ≡ Some x → slice_set e i x ≡ e
set_same [] i x h = refl
set_same (y ∷ e) zero x h = ap (λ k. k ∷ e) (cc h)
set_same (y ∷ e) (suc i) x h = ap (λ k. y ∷ k) (set_same e i x h)

-- what is kept in a place stays there
pub kept_already : (e : List (Option Piece)) (i : ℕ) (p : Piece) (x : Option Piece) → Some x ≡ slice_get e i → is_some x ≡ true → slice_set e i x ≡ keep i p e
kept_already e i p None h n = absurd (cc n)
kept_already e i p (Some q) h n = rw (← h) (set_same e i (Some q) (sym h))
