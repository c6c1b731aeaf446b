-- In a network of carriers in memory each pair that waits was offered.
use Rattle.std.proofs.Common.{◌≡◌, ℕ, zero, suc, refl, sym, subst, List, [], ◌∷◌, drop, Some, slice_get, Bool, true, false, arith, inl, inr}
use Rattle.std.specs.Prelude.{Contains, ◌⊎◌, if◌then◌else◌}
use Rattle.std.proofs.lemmas.List.Elements.{Contains-append_right, Contains-push_cases}
use Rattle.ax_address.specs.Callsign.{Callsign, same_call}
use Rattle.ax_address.proofs.SameCalls.{same_call-true}
use Rattle.l3_datagram.specs.declared.carrier.Offered.TheVariants.{Taken, Dropped}
use Rattle.l3_datagram.specs.Datagrams.{Parcel, Offer, Collect, Fail}
use Rattle.l3_datagram.specs.PlainCarriers.{Plain}
use Rattle.l3_datagram.specs.Network.{Act, Called, Brought, Fetched, Event, after_act, carrier_of, Happens, History, WasOffered, WaitingWasOffered}

module _ {X : Type 0} where
  -- what is in a list is in a longer one
  later : (y : X) (xs : List X) (x : X) → Contains xs x → Contains (y ∷ xs) x
  later y xs x h = Contains-append_right (y ∷ []) xs x h

  now : (xs : List X) (x : X) → Contains (x ∷ xs) x
  now xs x = (0, omega arith, refl)

  now_or_later : (y : X) (xs : List X) (x : X) → Contains (y ∷ xs) x → (y ≡ x) ⊎ Contains xs x
  now_or_later y xs x (zero, below, is) = inl is
  now_or_later y xs x (suc k, below, is) = inr (k, omega arith, is)

  after_first : (xs : List X) (x : X) → Contains (drop 1 xs) x → Contains xs x
  after_first [] x h = h
  after_first (y ∷ xs) x h = later y xs x h

  first : (xs : List X) (x : X) → Some x ≡ slice_get xs 0 → Contains xs x
  first [] x e = absurd (cc)
  first (y ∷ xs) x e = let f : y ≡ x = cc in (0, omega arith, f)

-- an offer of the pair at a node
abbrev WasTaken : List Event → Callsign → Parcel → Type 0
WasTaken events node parcel = (at : ℕ) × Contains events (record { node = node; act = Called (Offer parcel.0 parcel.1 at Taken) })

taken_later : (e : Event) (events : List Event) (node : Callsign) (parcel : Parcel) → WasTaken events node parcel → WasTaken (e ∷ events) node parcel
taken_later e events node parcel (at, h) = (at, later e events _ h)

-- what a call adds to what was offered
offered_by : (c : Plain) (node : Callsign) (act : Act) (before : List Event) (parcel : Parcel) →
    (Contains c.offered parcel → WasTaken before node parcel) →
    Contains (after_act c act).offered parcel → WasTaken (record { node = node; act = act } ∷ before) node parcel
offered_by c node (Called (Offer to d at Taken)) before parcel stood h =
    elim (Contains-push_cases c.offered (to, d) parcel h) [
      | inl old ↦ taken_later _ before node parcel (stood old)
      | inr e ↦ subst (λ (p : Parcel). WasTaken (record { node = node; act = Called (Offer to d at Taken) } ∷ before) node p) e (at, now before _)
    ]
offered_by c node (Called (Offer to d at Dropped)) before parcel stood h = taken_later _ before node parcel (stood h)
offered_by c node (Called (Collect answer)) before parcel stood h = taken_later _ before node parcel (stood h)
offered_by c node (Called (Fail answer)) before parcel stood h = taken_later _ before node parcel (stood h)
offered_by c node (Brought from d) before parcel stood h = taken_later _ before node parcel (stood h)
offered_by c node (Fetched answer) before parcel stood h = taken_later _ before node parcel (stood (after_first c.offered parcel h))

-- by whether the last event was at the node
offered_if : (e : Event) (before : List Event) (node : Callsign) (parcel : Parcel) (b : Bool) → same_call e.node node ≡ b →
    (Contains (carrier_of node before).offered parcel → WasTaken before node parcel) →
    Contains (if b then after_act (carrier_of node before) e.act else carrier_of node before).offered parcel →
    WasTaken (e ∷ before) node parcel
offered_if e before node parcel true t stood h =
    subst (λ (n : Callsign). WasTaken (record { node = n; act = e.act } ∷ before) node parcel) (sym (same_call-true e.node node t))
    (offered_by (carrier_of node before) node e.act before parcel stood h)
offered_if e before node parcel false t stood h = taken_later e before node parcel (stood h)

-- what was offered and not fetched was offered by the node's router
offered : (events : List Event) (node : Callsign) (parcel : Parcel) → Contains (carrier_of node events).offered parcel → WasTaken events node parcel
offered [] node parcel h = absurd (omega (arith, h.1))
offered (e ∷ before) node parcel h = offered_if e before node parcel (same_call e.node node) refl (offered before node parcel) h

-- what was fetched was offered by the node's router
fetched_first : (e : Event) (before : List Event) (node : Callsign) (parcel : Parcel) → Happens before e.node e.act →
    e ≡ record { node = node; act = Fetched (Some parcel) } → WasTaken (e ∷ before) node parcel
fetched_first e before node parcel happens is =
    let P : Event → Type 0 = λ f. Happens before f.node f.act in
    taken_later e before node parcel (offered before node parcel (first _ parcel (subst P is happens)))

fetched : (events : List Event) (node : Callsign) (parcel : Parcel) → History events →
    Contains events (record { node = node; act = Fetched (Some parcel) }) → WasTaken events node parcel
fetched [] node parcel history h = absurd (omega (arith, h.1))
fetched (e ∷ before) node parcel history h =
    elim (now_or_later e before _ h) [
      | inl is ↦ fetched_first e before node parcel history.0 is
      | inr earlier ↦ taken_later e before node parcel (fetched before node parcel history.1 earlier)
    ]

-- what an act adds to what waits
waiting_by : (before : List Event) (node : Callsign) (act : Act) (c : Plain) (parcel : Parcel) → History before → Happens before node act →
    (Contains c.waiting parcel → WasOffered before node parcel) →
    Contains (after_act c act).waiting parcel → WasOffered before node parcel
waiting_by before node (Called (Offer to d at Taken)) c parcel history happens stood h = stood h
waiting_by before node (Called (Offer to d at Dropped)) c parcel history happens stood h = stood h
waiting_by before node (Called (Collect answer)) c parcel history happens stood h = stood (after_first c.waiting parcel h)
waiting_by before node (Called (Fail answer)) c parcel history happens stood h = stood h
waiting_by before node (Brought from d) c parcel history happens stood h =
    elim (Contains-push_cases c.waiting (from, d) parcel h) [
      | inl old ↦ stood old
      | inr e ↦ subst (λ (p : Parcel). WasOffered before node p) e (fetched before from (node, d) history happens)
    ]
waiting_by before node (Fetched answer) c parcel history happens stood h = stood h

waiting_if : (e : Event) (before : List Event) (node : Callsign) (parcel : Parcel) (b : Bool) → same_call e.node node ≡ b →
    History before → Happens before e.node e.act →
    (Contains (carrier_of node before).waiting parcel → WasOffered before node parcel) →
    Contains (if b then after_act (carrier_of node before) e.act else carrier_of node before).waiting parcel →
    WasOffered before node parcel
waiting_if e before node parcel true t history happens stood h =
    let P : Callsign → Type 0 = λ n. Happens before n e.act in
    waiting_by before node e.act (carrier_of node before) parcel history (subst P (same_call-true e.node node t) happens) stood h
waiting_if e before node parcel false t history happens stood h = stood h

pub waiting_was_offered : WaitingWasOffered
waiting_was_offered [] node parcel history h = absurd (omega (arith, h.1))
waiting_was_offered (e ∷ before) node parcel history h =
    let held = waiting_if e before node parcel (same_call e.node node) refl history.1 history.0 (waiting_was_offered before node parcel history.1) h in
    taken_later e before parcel.0 (node, parcel.1) held
