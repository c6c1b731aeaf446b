-- A pair that is faced is one that no node may give again.
use Rattle.std.proofs.Common.{◌≡◌, ℕ, refl, List}
use Rattle.circuit_l4.specs.declared.pair.Pair.{Pair}
use Rattle.circuit_set.specs.Books.{MadeNote}
use Rattle.circuit_table.specs.Events.{Name}
use Rattle.circuit_verdict.specs.declared.ends.Ends.{Ends}
use Rattle.circuit_verdict.specs.Ends.{EndsStand, faces, facing_in, given_in, has_open_partner, is_faced, is_open, kept_faced, kept_faces, kept_open, keeps_open_partner}
use Rattle.circuit_verdict.proofs.Same.{any_same}
use Rattle.circuit_verdict.proofs.Made.{going_kept}

open_kept : (e : Ends) (ms : List MadeNote) (lost : List Name) → EndsStand e ms lost → (x : Name) → kept_open e x ≡ is_open ms lost x
open_kept e ms lost s x = rw (s.notes x, s.gone x, going_kept ms x) refl

pub faces_kept : (e : Ends) (ms : List MadeNote) (lost : List Name) → EndsStand e ms lost → (x y : Name) → kept_faces e x y ≡ faces ms lost x y
faces_kept e ms lost s x y = rw (open_kept e ms lost s y, s.partners y) refl

partner_kept : (e : Ends) (ms : List MadeNote) (lost : List Name) → EndsStand e ms lost → (x : Name) → keeps_open_partner e x ≡ has_open_partner ms lost x
partner_kept e ms lost s x = rw (s.facing x) (any_same (kept_faces e x) (faces ms lost x) (faces_kept e ms lost s x) (facing_in ms x))

pub faced_kept : (e : Ends) (ms : List MadeNote) (lost : List Name) → EndsStand e ms lost → (node : ℕ) (pair : Pair) → kept_faced e node pair ≡ is_faced ms lost node pair
faced_kept e ms lost s node pair = rw (s.given node pair) (any_same (keeps_open_partner e) (has_open_partner ms lost) (partner_kept e ms lost s) (given_in ms node pair))
