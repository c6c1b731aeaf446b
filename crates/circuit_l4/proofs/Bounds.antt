-- What an end keeps is within its bounds, and so within its share.
use Rattle.std.proofs.Common.{ℕ, zero, suc, ◌*◌, ◌≤◌, List, [], ◌∷◌, ◌++◌, length, drop, replicate, Option, Some, None, arith}
use Rattle.std.specs.Prelude.{slice_set}
use Rattle.circuit_l4.specs.declared.incoming.Incoming.TheInside.{Inside}
use Rattle.circuit_l4.specs.declared.machine.Machine.{Machine}
use Rattle.circuit_l4.specs.declared.piece.Piece.{Piece}
use Rattle.circuit_l4.specs.State.{Effect}
use Rattle.circuit_l4.specs.Standing.{EndView, KeepsEffect, Stands, view_of, KeepsItsShare, kept, share}
use Rattle.circuit_l4.specs.Inboxes.{AreSmall, IsInbox, inbox_of}
use Rattle.circuit_l4.specs.Halves.{IsFew, IsWithin, early_octets}

-- ---- what came early is small ----
pub small_set : (early : List (Option Piece)) (i : ℕ) (p : Piece) → length p.text.items ≤ 236 → AreSmall early → AreSmall (slice_set early i (Some p))
small_set [] i p few a = tt
small_set (None ∷ early) zero p few a = (few, a)
small_set (None ∷ early) (suc i) p few a = small_set early i p few a
small_set (Some q ∷ early) zero p few a = (few, a.1)
small_set (Some q ∷ early) (suc i) p few a = (a.0, small_set early i p few a.1)

pub small_none : (n : ℕ) → AreSmall (replicate n None)
small_none zero = tt
small_none (suc n) = small_none n

one_more : (early : List (Option Piece)) → AreSmall early → AreSmall (early ++ None ∷ [])
one_more [] a = tt
one_more (None ∷ early) a = one_more early a
one_more (Some p ∷ early) a = (a.0, one_more early a.1)

one_less : (early : List (Option Piece)) → AreSmall early → AreSmall (drop 1 early)
one_less [] a = tt
one_less (None ∷ early) a = a
one_less (Some p ∷ early) a = a.1

-- what came early is one place nearer
pub small_nearer : (early : List (Option Piece)) → AreSmall early → AreSmall (drop 1 (early ++ None ∷ []))
small_nearer early a = one_less (early ++ None ∷ []) (one_more early a)

pub early_most : (early : List (Option Piece)) → AreSmall early → early_octets early ≤ 236 * length early
early_most [] a = omega arith
early_most (None ∷ early) a = omega (arith, early_most early a)
early_most (Some p ∷ early) a = omega (arith, a.0, early_most early a.1)

-- ---- the halves are within their bounds ----
pub few_of : (i : Inside) → IsInbox i → IsFew (inbox_of i)
few_of i h = record { waits = omega (arith, h.waits, h.most); early = early_most i.early.items h.small }

pub within_of : (m : Machine) → IsWithin m.config.window m.outgoing m.incoming
within_of m = record { queue = m.queue_fits; few = m.few; places = m.places; most = m.own_window_fits }

-- so what stands for a step under way is within them
pub stands : (m : Machine) (g : Effect) → KeepsEffect (view_of m) g → Stands (view_of m) g
stands m g h = record { written = h.written; came = h.came; sending = h.sending; receiving = h.receiving; within = within_of m; is = h.is }

-- ---- the share ----
in_share : (e : EndView) → IsWithin e.config.window e.outgoing e.incoming → kept e ≤ share e.config.window
in_share e w = omega (arith, w.queue, w.few.waits, w.few.early, w.places)

pub keeps_its_share : KeepsItsShare
keeps_its_share e s h = in_share e h.within

pub keeps_on : (m : Machine) → kept (view_of m) ≤ share m.config.window
keeps_on m = in_share (view_of m) (within_of m)
