-- The beacons of a list: the first, and the others.
use Rattle.std.proofs.Common.{◌≡◌, ◌≤◌, ◌-◌, ◌∷◌, [], List, arith, drop, get_or, length, length-drop, subst, take}
use Rattle.std.proofs.lemmas.List.{take_all}
use Rattle.station_file.specs.declared.beacons.Beacon.{Beacon}
use Rattle.station_members.specs.Standing.{Kept, MembersStand}
use Rattle.station_members.specs.States.{State}
use Rattle.station_settings.specs.Starting.{with_beacon, with_beacons}

first_by : (k : Kept) (bs : List Beacon) (b : Beacon) (s : State) → 1 ≤ length bs → b ≡ get_or bs 0 b → MembersStand k (with_beacons (drop 1 bs) (with_beacon b s)) → MembersStand k (with_beacons bs s)
first_by k [] b s h is stands = absurd (omega (arith, h))
first_by k (x ∷ xs) b s h is stands =
    let same : b ≡ x = is in
    subst (λ y. MembersStand k (with_beacons xs (with_beacon y s))) same stands

pub first_and_others : (k : Kept) (bs : List Beacon) (b : Beacon) (s : State) → 1 ≤ length bs → b ≡ get_or bs 0 b → MembersStand k (with_beacons (take (length bs - 1) (drop 1 bs)) (with_beacon b s)) → MembersStand k (with_beacons bs s)
first_and_others k bs b s h is stands =
    let others : take (length bs - 1) (drop 1 bs) ≡ drop 1 bs = take_all (length bs - 1) (drop 1 bs) (omega (arith, length-drop 1 bs)) in
    first_by k bs b s h is (subst (λ xs. MembersStand k (with_beacons xs (with_beacon b s))) others stands)
