-- The oldest frame that isn't settled, and a frame settled at its place.
use Rattle.std.proofs.Common.{◌≡◌, ◌<◌, ◌≤◌, ◌+◌, ℕ, zero, suc, refl, ap, List, [], ◌∷◌, length, take, arith, true, false, get_or, set}
use Rattle.std.specs.Prelude.{not}
use Rattle.std.specs.List.{position_or_len}
use Rattle.net_model.specs.declared.air.Aired.{Aired}
use Rattle.net_model.specs.World.{AllSettled, settled, settled_at}

abbrev open_place : List Aired → ℕ
open_place fs = position_or_len (λ (f : Aired). not f.settled) fs

pub place_at : (fs : List Aired) (at : ℕ) (d : Aired) → at < length fs → AllSettled (take at fs) → (get_or fs at d).settled ≡ false → open_place fs ≡ at
place_at [] at d h all e = absurd (omega arith)
place_at (f ∷ fs) zero d h all e = rw e refl
place_at (f ∷ fs) (suc at) d h all e = rw all.0 (let ih = place_at fs at d (omega arith) all.1 e in omega (arith, ih))

pub place_none : (fs : List Aired) → AllSettled fs → open_place fs ≡ length fs
place_none [] all = refl
place_none (f ∷ fs) all = rw all.0 (let ih = place_none fs all.1 in omega (arith, ih))

pub settled_more : (fs : List Aired) (at : ℕ) (d : Aired) → at < length fs → AllSettled (take at fs) → (get_or fs at d).settled ≡ true → AllSettled (take (at + 1) fs)
settled_more [] at d h all e = absurd (omega arith)
settled_more (f ∷ fs) zero d h all e = (e, tt)
settled_more (f ∷ fs) (suc at) d h all e =
    let rest : AllSettled (take (at + 1) fs) = settled_more fs at d (omega arith) all.1 e in
    let next : suc at + 1 ≡ suc (at + 1) = omega arith in
    rw next (all.0, rest)

pub set_settled : (fs : List Aired) (at : ℕ) (f : Aired) → at < length fs → f ≡ get_or fs at f → set fs at (settled f) ≡ settled_at at fs
set_settled [] at f h e = absurd (omega arith)
set_settled (g ∷ fs) zero f h e = ap (λ k. settled k ∷ fs) e
set_settled (g ∷ fs) (suc at) f h e = ap (λ ks. g ∷ ks) (set_settled fs at f (omega arith) e)

-- settling keeps what is settled
pub settled_stays : (fs : List Aired) (at n : ℕ) → AllSettled (take n fs) → AllSettled (take n (settled_at at fs))
settled_stays [] at n all = all
settled_stays (f ∷ fs) at zero all = tt
settled_stays (f ∷ fs) zero (suc n) all = (refl, all.1)
settled_stays (f ∷ fs) (suc at) (suc n) all = (all.0, settled_stays fs at n all.1)

pub length-settled_at : (fs : List Aired) (at : ℕ) → length (settled_at at fs) ≡ length fs
length-settled_at [] at = refl
length-settled_at (f ∷ fs) zero = refl
length-settled_at (f ∷ fs) (suc at) = ap suc (length-settled_at fs at)

pub settled_past : (fs : List Aired) (at : ℕ) → length fs ≤ at → settled_at at fs ≡ fs
settled_past [] at h = refl
settled_past (f ∷ fs) zero h = absurd (omega arith)
settled_past (f ∷ fs) (suc at) h = ap (λ gs. f ∷ gs) (settled_past fs at (omega arith))
