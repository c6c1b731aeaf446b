-- What a router's calls of its carrier come to, one after another.
use Rattle.std.proofs.Common.{◌≡◌, ℕ, List, [], ◌∷◌, ◌++◌, Option, Some, None, slice_get, refl, ap, subst, sym, append-nil}
use Rattle.ax_address.specs.Callsign.{Callsign}
use Rattle.route_table.specs.Log.{Item, Failure}
use Rattle.route_table.specs.Held.{StandsFor}
use Rattle.l3_datagram.specs.declared.carrier.Offered.{Offered}
use Rattle.l3_datagram.specs.declared.routed.Routed.{Routed}
use Rattle.l3_datagram.specs.declared.routed.Routed.TheVariants.{Lost}
use Rattle.l3_datagram.specs.Datagrams.{CarrierCall, Parcel, Collect, Fail}
use Rattle.l3_datagram.specs.Routers.{way, pumping, Routing, DoesRoute, DoesPump}

-- nothing was lost and nothing waits
pub idle :
    {C : Type 0} (made : C → List CarrierCall → C → Type 0)
    (more_made : (a b c : C) (calls more : List CarrierCall) → made a calls b → made b more c → made a (calls ++ more) c)
    (old new : Routing C) (mid : C) (lost : List Callsign) (waiting : List Parcel)
    (next : Callsign → Option Callsign) (log : List Item) (now : ℕ) (answer : Offered) →
    StandsFor new.table log → None ≡ slice_get lost 0 → None ≡ slice_get waiting 0 →
    made old.carrier (Fail None ∷ []) mid → made mid (Collect None ∷ []) new.carrier →
    DoesPump made old new log None (pumping old.own next lost waiting now answer)
idle made more_made old new mid [] [] next log now answer stands l w first then = record {
  told = refl;
  calls = more_made old.carrier mid new.carrier (Fail None ∷ []) (Collect None ∷ []) first then;
  table = rw append-nil stands;
}
idle made more_made old new mid (c ∷ lost) waiting next log now answer stands l w first then = cc
idle made more_made old new mid [] (p ∷ waiting) next log now answer stands l w first then = cc

-- a neighbour was lost
pub lost_one :
    {C : Type 0} (made : C → List CarrierCall → C → Type 0)
    (old new : Routing C) (lost : List Callsign) (waiting : List Parcel) (neighbour : Callsign)
    (next : Callsign → Option Callsign) (log : List Item) (now : ℕ) (answer : Offered) →
    StandsFor new.table (log ++ Failure neighbour ∷ []) → Some neighbour ≡ slice_get lost 0 → made old.carrier (Fail (Some neighbour) ∷ []) new.carrier →
    DoesPump made old new log (Some (Lost neighbour)) (pumping old.own next lost waiting now answer)
lost_one made old new [] waiting neighbour next log now answer stands l first = cc
lost_one made old new (c ∷ lost) waiting neighbour next log now answer stands l first =
    let e : c ≡ neighbour = cc in
    subst (λ k. DoesPump made old new log (Some (Lost neighbour)) (pumping old.own next (k ∷ lost) waiting now answer)) (sym e) (record { told = refl; calls = first; table = stands })

-- nothing was lost, and a datagram waits
pub taken :
    {C : Type 0} (made : C → List CarrierCall → C → Type 0)
    (more_made : (a b c : C) (calls more : List CarrierCall) → made a calls b → made b more c → made a (calls ++ more) c)
    (old mid new : Routing C) (told : C) (lost : List Callsign) (waiting : List Parcel) (parcel : Parcel)
    (next : Callsign → Option Callsign) (log : List Item) (now : ℕ) (result : Routed) (answer : Offered) →
    StandsFor new.table log → None ≡ slice_get lost 0 → Some parcel ≡ slice_get waiting 0 →
    made old.carrier (Fail None ∷ []) told → made told (Collect (Some parcel) ∷ []) mid.carrier →
    DoesRoute made mid new now result answer (way old.own next parcel.1) →
    DoesPump made old new log (Some result) (pumping old.own next lost waiting now answer)
taken made more_made old mid new told [] (p ∷ waiting) parcel next log now result answer stands l w first second then =
    let e : p ≡ parcel = cc in
    subst (λ (p : Parcel). DoesPump made old new log (Some result) (pumping old.own next [] (p ∷ waiting) now answer)) (sym e)
    (record {
      told = ap Some then.told;
      calls =
          more_made old.carrier told new.carrier (Fail None ∷ []) _ first
          (more_made told mid.carrier new.carrier (Collect (Some parcel) ∷ []) _ second then.calls);
      table = rw append-nil stands;
    })
taken made more_made old mid new told (c ∷ lost) waiting parcel next log now result answer stands l w first second then = cc
taken made more_made old mid new told [] [] parcel next log now result answer stands l w first second then = cc
