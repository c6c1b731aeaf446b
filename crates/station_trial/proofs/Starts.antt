-- One station more.
use Rattle.std.proofs.Common.{◌≡◌, ◌<◌, ◌∙◌, ◌++◌, ◌+◌, ◌∷◌, [], ℕ, List, refl, ap, sym, subst, arith, length, get_or, take, drop, append-nil, length-append}
use Rattle.circuit_l4.specs.declared.pair.Pair.{Pair}
use Rattle.station.specs.Standing.{Kept, StationStand}
use Rattle.station.specs.States.{new_state}
use Rattle.station_file.specs.Station.{Station}
use Rattle.station_looks.specs.declared.about.About.{About}
use Rattle.station_settings.specs.Starting.{start_of}
use Rattle.station_start.specs.Starts.{IsAbout}
use Rattle.station_users.specs.States as users
use Rattle.station_trial.specs.declared.tried.Tried.{Tried}
use Rattle.station_trial.specs.Standing.{AllStand, TriedStands}
use Rattle.station_trial.specs.Starting.{AllStart, new_tried, pair_at, start_at}
use Rattle.station_trial.specs.Stations.{TriedState}

pub one_starts : (files : List Station) (ts : List TriedState) (file : Station) (who : About) → IsAbout file who → AllStart files ts → AllStart (files ++ file ∷ []) (ts ++ new_tried who file ∷ [])
one_starts [] [] file who about all = ((who, about, refl), tt)
one_starts (f ∷ fs) (t ∷ ts) file who about all = (all.0, one_starts fs ts file who about all.1)
one_starts [] (t ∷ ts) file who about all = absurd all
one_starts (f ∷ fs) [] file who about all = absurd all

pub one_stands : (ks : List Tried) (ts : List TriedState) (k : Tried) (t : TriedState) → TriedStands k t → AllStand ks ts → AllStand (ks ++ k ∷ []) (ts ++ t ∷ [])
one_stands [] [] k t stands all = (stands, tt)
one_stands (j ∷ js) (u ∷ us) k t stands all = (all.0, one_stands js us k t stands all.1)
one_stands [] (u ∷ us) k t stands all = absurd all
one_stands (j ∷ js) [] k t stands all = absurd all

-- the first file that is left, and the others
pub first_left : (files rest : List Station) (file : Station) → 0 < length files → file ≡ get_or files 0 file → rest ≡ take 0 files ++ drop 1 files → files ≡ file ∷ rest
first_left [] rest file h is left = absurd (omega (arith, h))
first_left (f ∷ fs) rest file h is left = let same : rest ≡ fs = left in cc (is, same)

-- one more has started, and one less is left
pub one_less : (ks js : List Tried) (k : Tried) (files rest : List Station) (file : Station) (n : ℕ) → js ≡ ks ++ k ∷ [] → files ≡ file ∷ rest
    → length ks + length files ≡ n → length js + length rest ≡ n
one_less ks js k files rest file n pushed left many =
    let more : length js ≡ length ks + 1 = ap length pushed ∙ length-append ks (k ∷ []) in
    let fewer : length files ≡ length (file ∷ rest) = ap length left in
    omega (arith, more, fewer, many)

-- none is left
pub all_started : (done left all : List Station) (ts : List TriedState) → all ≡ done ++ left → length left ≡ 0 → AllStart done ts → AllStart all ts
all_started done [] all ts is none start = subst (λ fs. AllStart fs ts) (sym (is ∙ append-nil done)) start
all_started done (f ∷ fs) all ts is none start = absurd (omega (arith, none))

-- ---- a station as it starts

pub starts_so : (who : About) (pair : Pair) (n m : ℕ) (file g : Station) (k : Kept) → pair ≡ pair_at n → n ≡ m → file ≡ g
    → StationStand k (new_state (users.new_state who (start_of pair file))) → StationStand k (start_at m who g)
starts_so who pair n m file g k is more same stands =
    subst (λ f. StationStand k (new_state (users.new_state who (start_of (pair_at m) f)))) same
    (subst (λ p. StationStand k (new_state (users.new_state who (start_of p file)))) (is ∙ ap pair_at more) stands)
