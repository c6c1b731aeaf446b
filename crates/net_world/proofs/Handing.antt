-- A frame goes to a node.
use Rattle.std.proofs.Common.{◌≡◌, ◌<◌, ◌+◌, ◌∙◌, ℕ, ap, sym, subst, List, [], ◌∷◌, length, get_or, false}
use Rattle.std.specs.Prelude.{Some, None, Result, nat_lt, slice_get}
use Rattle.std.proofs.lemmas.Bool.{ltb-false}
use Rattle.std.proofs.lemmas.Option.{slice_get-get_or, slice_get_past}
use Rattle.net_model.specs.declared.air.Aired.{Aired}
use Rattle.net_model.specs.declared.refusals.ReplayRefusal.{ReplayRefusal}
use Rattle.net_model.specs.Events.{Delivered}
use Rattle.net_model.specs.Lines.{deliver_at, hear, kiss_bytes}
use Rattle.net_world.specs.Running.{Course, GoesOn, Runs, Stands}
use Rattle.net_model.specs.World.{tell}
use Rattle.net_model.proofs.Looks.{deliver_of}
use Rattle.net_world.proofs.Runs.{runs_as, runs_then}

-- a frame that the code has found at a place
pub found : (frames air : List Aired) (at : ℕ) (f : Aired) → frames ≡ air → at < length frames → f ≡ get_or frames at f → slice_get air at ≡ Some f
found frames air at f same h e = ap (λ (fs : List Aired). slice_get fs at) (sym same) ∙ (slice_get-get_or frames at f h ∙ ap (λ (g : Aired). Some g) (sym e))

pub not_found : (frames air : List Aired) (at : ℕ) → frames ≡ air → false ≡ nat_lt at (length frames) → slice_get air at ≡ None
not_found frames air at same e = ap (λ (fs : List Aired). slice_get fs at) (sym same) ∙ slice_get_past frames at (ltb-false at (length frames) (sym e))

pub delivered : (old mid new : Course) (line at node : ℕ) (f : Aired) (r : Result (Unit {0}) ReplayRefusal)
    → slice_get old.left.air at ≡ Some f → GoesOn old mid (tell line (Delivered (at + 1) node ∷ []))
    → Runs mid new (hear line node (kiss_bytes f.octets.items) f.modulus) r → Runs old new (deliver_at line at node) r
unfolding deliver_at
delivered old mid new line at node f r is tells hears =
    runs_as old new (λ w. hear line node (kiss_bytes f.octets.items) f.modulus (tell line (Delivered (at + 1) node ∷ []) w)) (λ w. deliver_of line at node (slice_get w.air at) w) r
    (λ w t. sym (ap (λ o. deliver_of line at node o w) (ap (λ (fs : List Aired). slice_get fs at) (sym t.trace.air) ∙ is)))
    (runs_then old mid new (tell line (Delivered (at + 1) node ∷ [])) (hear line node (kiss_bytes f.octets.items) f.modulus) r tells hears)

pub not_delivered : (c : Course) (line at node : ℕ) → slice_get c.left.air at ≡ None → GoesOn c c (deliver_at line at node)
unfolding deliver_at
not_delivered c line at node is w t =
    subst (λ v. Stands c v) (sym (ap (λ o. deliver_of line at node o w) (ap (λ (fs : List Aired). slice_get fs at) (sym t.trace.air) ∙ is))) t
