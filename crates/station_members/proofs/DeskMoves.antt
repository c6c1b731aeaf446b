-- The moves of the desk.
use Rattle.std.proofs.Common.{◌≡◌, ◌<◌, ◌≤◌, ◌∙◌, ℕ, zero, suc, refl, sym, ap, List, [], ◌∷◌, length, map, get_or, set, arith}
use Rattle.std.specs.Prelude.{Some}
use Rattle.radio_base.specs.declared.moment.Moment.{Moment}
use Rattle.station_members.specs.declared.outgoing.Outgoing.{Outgoing}
use Rattle.station_members.specs.declared.seat.Seat.{Seat}
use Rattle.station_members.specs.Desks.{Desk}
use Rattle.station_members.specs.Ports.{Air}
use Rattle.station_members.specs.Routing.{airs, holds, put_by, put_on}
use Rattle.station_members.specs.Waiting.{due_of, held_by, held_sent, lets_go, put_each}
use Rattle.station_members.proofs.Places.{get_past, place_get, place_set}

pub puts : (d : Desk) (from : ℕ) (out : Outgoing) (port : ℕ) (now : Moment) (before y : Seat) (air : Air) → from < length d.seats → before ≡ get_or d.seats from before
    → y ≡ holds out port now before → air ≡ airs out port before d.air
    → (let new : Desk = record d { seats = set d.seats from y; air = air } in new) ≡ put_on from out port now d
puts d from out port now before y air h here seat is =
    let seats = place_set d.seats from (holds out port now) before y h here seat in
    let same : (let new : Desk = record d { seats = set d.seats from y; air = air } in new) ≡ put_by (Some before) from out port now d = λ i. record d { seats = seats i; air = is i } in
    same ∙ sym (ap (λ o. put_by o from out port now d) (place_get d.seats from before h here))

pub puts_none : (d : Desk) (from : ℕ) (out : Outgoing) (port : ℕ) (now : Moment) → length d.seats ≤ from → d ≡ put_on from out port now d
puts_none d from out port now h = sym (ap (λ o. put_by o from out port now d) (get_past d.seats from h))

pub lets : (d : Desk) (at : ℕ) (now : Moment) (before y : Seat) (air : Air) → at < length d.seats → before ≡ get_or d.seats at before
    → y ≡ lets_go now before → air ≡ put_each (due_of now before) d.air
    → (let new : Desk = record d { seats = set d.seats at y; air = air } in new) ≡ held_sent at now d
lets d at now before y air h here seat is =
    let seats = place_set d.seats at (lets_go now) before y h here seat in
    let same : (let new : Desk = record d { seats = set d.seats at y; air = air } in new) ≡ held_by (Some before) at now d = λ i. record d { seats = seats i; air = is i } in
    same ∙ sym (ap (λ o. held_by o at now d) (place_get d.seats at before h here))

pub lets_none : (d : Desk) (at : ℕ) (now : Moment) → length d.seats ≤ at → d ≡ held_sent at now d
lets_none d at now h = sym (ap (λ o. held_by o at now d) (get_past d.seats at h))

-- ---- something is done with the items of a list, from its front on

abbrev pub done_for : {A : Type 0} → (A → A) → ℕ → List A → List A
done_for f zero xs = xs
done_for f (suc at) [] = []
done_for f (suc at) (x ∷ xs) = f x ∷ done_for f at xs

pub done_next : {A : Type 0} (f : A → A) (at : ℕ) (xs : List A) (before y : A) → at < length xs → before ≡ get_or (done_for f at xs) at before → y ≡ f before
    → set (done_for f at xs) at y ≡ done_for f (suc at) xs
done_next f at [] before y h here e = absurd (omega (arith, h))
done_next f zero (x ∷ xs) before y h here e = ap (λ z. z ∷ xs) (e ∙ ap f here)
done_next f (suc at) (x ∷ xs) before y h here e = ap (λ zs. f x ∷ zs) (done_next f at xs before y (omega (arith, h)) here e)

pub done_all : {A : Type 0} (f : A → A) (at : ℕ) (xs : List A) → length xs ≤ at → done_for f at xs ≡ map f xs
done_all f zero [] h = refl
done_all f (suc at) [] h = refl
done_all f zero (x ∷ xs) h = absurd (omega (arith, h))
done_all f (suc at) (x ∷ xs) h = ap (λ zs. f x ∷ zs) (done_all f at xs (omega (arith, h)))

pub done_length : {A : Type 0} (f : A → A) (at : ℕ) (xs : List A) → length (done_for f at xs) ≡ length xs
done_length f zero xs = refl
done_length f (suc at) [] = refl
done_length f (suc at) (x ∷ xs) = ap suc (done_length f at xs)
