-- A step for each session, member or end, one after another.
use Rattle.std.proofs.Common.{◌≡◌, ◌<◌, ◌≤◌, ◌+◌, ◌-◌, ◌∙◌, ℕ, suc, refl, sym, ap, subst, length, arith, add-one, Bool, true, false}
use Rattle.std.specs.Prelude.{◌||◌}
use Rattle.station_users.specs.declared.hall.Hall.{Hall}
use Rattle.station_users.specs.Standing.{HallGoes, HallStands}
use Rattle.station_users.specs.States.{UsersState, any_from, each_from}

pub each_next : (step : ℕ → UsersState → UsersState) (nth count : ℕ) (u : UsersState) → nth < count
    → each_from step nth (count - nth) u ≡ each_from step (nth + 1) (count - (nth + 1)) (step nth u)
each_next step nth count u h = let left : count - nth ≡ suc (count - (nth + 1)) = omega (arith, h) in rw (left, add-one) refl

pub any_next : (does : ℕ → UsersState → Bool) (step : ℕ → UsersState → UsersState) (nth count : ℕ) (u : UsersState) → nth < count
    → any_from does step nth (count - nth) u ≡ (does nth u || any_from does step (nth + 1) (count - (nth + 1)) (step nth u))
any_next does step nth count u h = let left : count - nth ≡ suc (count - (nth + 1)) = omega (arith, h) in rw (left, add-one) refl

-- so many steps there are, by the state at the start; those before a place were done
abbrev pub Each : (ℕ → UsersState → UsersState) → (UsersState → ℕ) → ℕ → Hall → Hall → Type 0
Each step count nth old now =
    (u : UsersState) → HallStands old u
    → (v : UsersState) × HallStands now v × (each_from step nth (count u - nth) v ≡ each_from step 0 (count u) u)

abbrev pub Before : (UsersState → ℕ) → ℕ → Hall → Type 0
Before count nth old = (u : UsersState) → HallStands old u → nth < count u

abbrev pub Behind : (UsersState → ℕ) → ℕ → Hall → Type 0
Behind count nth old = (u : UsersState) → HallStands old u → count u ≤ nth

pub each_begin : (step : ℕ → UsersState → UsersState) (count : UsersState → ℕ) (h : Hall) → Each step count 0 h h
each_begin step count h = λ u t. (u, t, (let same : count u - 0 ≡ count u = omega arith in ap (λ n. each_from step 0 n u) same))

pub each_goes : (step : ℕ → UsersState → UsersState) (count : UsersState → ℕ) (nth : ℕ) (old now next : Hall) → Before count nth old
    → Each step count nth old now → HallGoes (step nth) now next → Each step count (nth + 1) old next
each_goes step count nth old now next h before goes = λ u t.
    let i = before u t in
    (step nth i.0, goes i.0 i.1, sym (each_next step nth (count u) i.0 (h u t)) ∙ i.2)

each_end : (step : ℕ → UsersState → UsersState) (nth n : ℕ) (u : UsersState) → n ≡ 0 → each_from step nth n u ≡ u
each_end step nth n u e = ap (λ k. each_from step nth k u) e

pub each_done : (step : ℕ → UsersState → UsersState) (count : UsersState → ℕ) (nth : ℕ) (old now : Hall) → Behind count nth old
    → Each step count nth old now → HallGoes (λ u. each_from step 0 (count u) u) old now
each_done step count nth old now h before = λ u t.
    let i = before u t in
    let past = h u t in
    let none : count u - nth ≡ 0 = omega (arith, past) in
    subst (λ v. HallStands now v) (sym (each_end step nth (count u - nth) i.0 none) ∙ i.2) i.1

-- and whether one of them did something
abbrev pub EachDoes : (ℕ → UsersState → Bool) → (ℕ → UsersState → UsersState) → (UsersState → ℕ) → ℕ → Bool → Hall → Hall → Type 0
EachDoes does step count nth did old now =
    (u : UsersState) → HallStands old u
    → (v : UsersState) × HallStands now v × (each_from step nth (count u - nth) v ≡ each_from step 0 (count u) u)
    × ((did || any_from does step nth (count u - nth) v) ≡ any_from does step 0 (count u) u)

pub does_begin : (does : ℕ → UsersState → Bool) (step : ℕ → UsersState → UsersState) (count : UsersState → ℕ) (h : Hall)
    → EachDoes does step count 0 false h h
does_begin does step count h = λ u t.
    let same : count u - 0 ≡ count u = omega arith in
    (u, t, ap (λ n. each_from step 0 n u) same, ap (λ n. any_from does step 0 n u) same)

or_more : (a b c : Bool) → ((a || b) || c) ≡ (a || (b || c))
or_more true b c = refl
or_more false b c = refl

or_none : (a : Bool) → a ≡ (a || false)
or_none true = refl
or_none false = refl

pub does_goes : (does : ℕ → UsersState → Bool) (step : ℕ → UsersState → UsersState) (count : UsersState → ℕ) (nth : ℕ) (did now_does : Bool)
    (old now next : Hall) → Before count nth old → EachDoes does step count nth did old now
    → ((u : UsersState) → HallStands now u → now_does ≡ does nth u) → HallGoes (step nth) now next
    → EachDoes does step count (nth + 1) (did || now_does) old next
does_goes does step count nth did now_does old now next h before says goes = λ u t.
    let i = before u t in
    let after : Bool = any_from does step (nth + 1) (count u - (nth + 1)) (step nth i.0) in (
      step nth i.0,
      goes i.0 i.1,
      sym (each_next step nth (count u) i.0 (h u t)) ∙ i.2,
      (ap (λ b. (did || b) || after) (says i.0 i.1) ∙ (or_more did (does nth i.0) after
          ∙ (sym (ap (λ b. did || b) (any_next does step nth (count u) i.0 (h u t))) ∙ i.3))),
    )

any_end : (does : ℕ → UsersState → Bool) (step : ℕ → UsersState → UsersState) (nth n : ℕ) (u : UsersState) (did : Bool) → n ≡ 0
    → did ≡ (did || any_from does step nth n u)
any_end does step nth n u did e = or_none did ∙ sym (ap (λ k. did || any_from does step nth k u) e)

pub does_done : (does : ℕ → UsersState → Bool) (step : ℕ → UsersState → UsersState) (count : UsersState → ℕ) (nth : ℕ) (did : Bool)
    (old now : Hall) → Behind count nth old → EachDoes does step count nth did old now
    → HallGoes (λ u. each_from step 0 (count u) u) old now
does_done does step count nth did old now h before =
    each_done step count nth old now h (λ u t. let i = before u t in (i.0, i.1, i.2))

pub does_says : (does : ℕ → UsersState → Bool) (step : ℕ → UsersState → UsersState) (count : UsersState → ℕ) (nth : ℕ) (did : Bool)
    (old now : Hall) → Behind count nth old → EachDoes does step count nth did old now
    → (u : UsersState) → HallStands old u → did ≡ any_from does step 0 (count u) u
does_says does step count nth did old now h before = λ u t.
    let i = before u t in
    let past = h u t in
    let none : count u - nth ≡ 0 = omega (arith, past) in
    any_end does step nth (count u - nth) i.0 did none ∙ i.3
