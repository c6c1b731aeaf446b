-- What the ends of a set keep.
use Rattle.std.specs.Prelude.{◌≡◌, ℕ, suc, ◌+◌, ◌*◌, ◌≤◌, List, [], ◌∷◌, length}
use Rattle.std.proofs.Common.{sym, subst, inl, inr, arith, OnOk, Option, Result, Ok, Err}
use Rattle.ax_address.specs.Callsign.{Callsign}
use Rattle.circuit_l4.proofs.Bounds as ends
use Rattle.l3_datagram.specs.Datagrams.{CarrierCall, Parcel}
use Rattle.circuit_table.specs.CircuitSets.{Circuits, Pumps, SetStands}
use Rattle.circuit_table.specs.Kept.{KeepsItsShare, KeepsOn, PumpKeepsOn, WindowsAreSmall, ends_kept, kept, share, windows}
use Rattle.circuit_table.specs.Pumps.{at_rest}
use Rattle.circuit_table.specs.declared.event.SetEvent.{SetEvent}
use Rattle.circuit_table.specs.declared.held_ends.HeldEnds.{HeldEnds}
use Rattle.circuit_table.specs.Sets as sets
use Rattle.circuit_table.specs.Sets.{SetState, CircuitTold}
use Rattle.circuit_table.specs.Standing.{EachStands, HeldStands}
use Rattle.circuit_table.specs.declared.holder.Holder.{Holder}
use Rattle.circuit_table.proofs.Holding.{stood}

abbrev InShare : List (ℕ × Holder) → Type 0
InShare es = ends_kept es ≤ 90347 * length es + 236 * windows es

abbrev AreSmall : List (ℕ × Holder) → Type 0
AreSmall es = windows es ≤ 127 * length es

all : (own : Callsign) (ttl hi lo : ℕ) (es : List (ℕ × Holder)) (hs : List sets.Holder) (told : List CircuitTold) → EachStands own ttl hi lo es hs told → InShare es × AreSmall es
all own ttl hi lo es [] told p = subst (λ (xs : List (ℕ × Holder)). InShare xs × AreSmall xs) (sym p.0) (omega arith, omega arith)
all own ttl hi lo es (h ∷ hs) told (low, inl past) = all own ttl hi (suc h.id) es hs told past.others
all own ttl hi lo es (h ∷ hs) told (low, inr here) =
    let within = here.keeps.stands.within in
    let one = ends.keeps_its_share here.k.end here.keeps.going.end (stood here.k.end here.keeps.going here.keeps.stands) in
    let rest = all own ttl hi (suc h.id) here.rest hs here.theirs here.others in
    subst (λ (xs : List (ℕ × Holder)). InShare xs × AreSmall xs) (sym here.is) (omega (arith, one, rest.0), omega (arith, within.most, rest.1))

pub keeps_its_share : KeepsItsShare
keeps_its_share c s told st = (all s.own s.ttl s.number 0 c.ends.entries s.ends told st.ends).0

pub windows_are_small : WindowsAreSmall
windows_are_small c s told st = (all s.own s.ttl s.number 0 c.ends.entries s.ends told st.ends).1

-- so do those of a set that goes on from a state of which nothing is untold
pub held_keeps : {C : Type 0} (old : Circuits C) (h : HeldEnds) (to : SetState → sets.SetDone) → ((s : SetState) → HeldStands old.held s [] → HeldStands h (to s).set (to s).told)
    → (s : SetState) → SetStands old (at_rest s) → kept h ≤ share h
held_keeps old h to goes s stands = keeps_its_share h (to s).set (to s).told (goes s stands.ends)

pub held_keeps_ok : {C E : Type 0} (old : Circuits C) (h : HeldEnds) (to : SetState → sets.SetDone) (r : Result (Unit {0}) E)
    → OnOk r ((s : SetState) → HeldStands old.held s [] → HeldStands h (to s).set (to s).told) → OnOk r ((s : SetState) → SetStands old (at_rest s) → kept h ≤ share h)
held_keeps_ok old h to (Ok x) goes = held_keeps old h to goes
held_keeps_ok old h to (Err e) goes = tt

-- and those of one that stays
pub same_keeps : {C : Type 0} (old : Circuits C) → KeepsOn old old
same_keeps old s stands = keeps_its_share old.held s [] stands.ends

pub pump_keeps : {C : Type 0} (made : C → List CarrierCall → C → Type 0) (old new : Circuits C) (lost : List Callsign) (waiting : List Parcel) (now : ℕ) (r : Option SetEvent)
    → Pumps made old new lost waiting now r → PumpKeepsOn old new
pump_keeps made old new lost waiting now r pumps log w table stands =
    let did = pumps.3 log w table stands in
    keeps_its_share new.held _ _ did.stands.ends

pub pump_keeps_on : {C A E : Type 0} (made : C → List CarrierCall → C → Type 0) (old new : Circuits C) (lost : List Callsign) (waiting : List Parcel) (now : ℕ) (told : Option SetEvent)
    (r : Result A E) (x : A) → r ≡ Ok x → OnOk r (Pumps made old new lost waiting now told) → PumpKeepsOn old new
pump_keeps_on made old new lost waiting now told r x e pumps =
    pump_keeps made old new lost waiting now told (subst (λ q. OnOk q (Pumps made old new lost waiting now told)) e pumps)
