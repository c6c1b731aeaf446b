-- Texts that are dropped, one after another.
use Rattle.std.proofs.Common.{◌≡◌, ◌∙◌, ◌<◌, ◌≤◌, ◌+◌, ◌-◌, ℕ, zero, suc, refl, sym, ap, subst, arith, List}
use Rattle.std.specs.Prelude.{Bool, true, false, is_some, if◌then◌else◌, Option}
use Rattle.radio_base.specs.declared.moment.Moment.{Moment}
use Rattle.station_places.specs.declared.sides.Sides.{Sides}
use Rattle.station_places.specs.Sides.{SidesGo, SidesStand, SidesState}
use Rattle.station_places.specs.Taking.{drop_texts, drop_up_to, take_from, taken}
use Rattle.station_sessions.specs.declared.place.Place.{Place}

-- where a text is taken the others are dropped, and where none is nothing more is done
pub one_dropped : (n : ℕ) (place : Place) (now : Moment) (s : SidesState) (b : Bool) → is_some (taken place now s) ≡ b
    → drop_up_to (suc n) place now s ≡ (if b then drop_up_to n place now (take_from place now s) else take_from place now s)
one_dropped n place now s b e = ap (λ c. if c then drop_up_to n place now (take_from place now s) else take_from place now s) e

-- so many were dropped, and the sides go on to the same
abbrev pub Drops : ℕ → ℕ → Place → Moment → Sides → Sides → Type 0
Drops at most place now old new =
    (s : SidesState) → SidesStand old s
    → (v : SidesState) × SidesStand new v × (drop_up_to (most - at) place now v ≡ drop_up_to most place now s)

pub drops_begin : (most : ℕ) (place : Place) (now : Moment) (k : Sides) → Drops 0 most place now k k
drops_begin most place now k = λ s t. let same : most - 0 ≡ most = omega arith in (s, t, ap (λ n. drop_up_to n place now s) same)

pub drops_next : (at most : ℕ) (place : Place) (now : Moment) (old mid new : Sides) (text : Option (List ℕ)) → at < most → is_some text ≡ true
    → Drops at most place now old mid → SidesGo (take_from place now) mid new → ((s : SidesState) → SidesStand mid s → text ≡ taken place now s)
    → Drops (at + 1) most place now old new
drops_next at most place now old mid new text h some before goes takes = λ s t.
    let i = before s t in
    let left : most - at ≡ suc (most - (at + 1)) = omega (arith, h) in
    let one = one_dropped (most - (at + 1)) place now i.0 true (sym (ap is_some (takes i.0 i.1)) ∙ some) in
    (take_from place now i.0, goes i.0 i.1, sym one ∙ (sym (ap (λ n. drop_up_to n place now i.0) left) ∙ i.2))

pub drops_stop : (at most : ℕ) (place : Place) (now : Moment) (old mid new : Sides) (text : Option (List ℕ)) → at < most → is_some text ≡ false
    → Drops at most place now old mid → SidesGo (take_from place now) mid new → ((s : SidesState) → SidesStand mid s → text ≡ taken place now s)
    → SidesGo (drop_up_to most place now) old new
drops_stop at most place now old mid new text h none before goes takes = λ s t.
    let i = before s t in
    let left : most - at ≡ suc (most - (at + 1)) = omega (arith, h) in
    let one = one_dropped (most - (at + 1)) place now i.0 false (sym (ap is_some (takes i.0 i.1)) ∙ none) in
    subst (λ v. SidesStand new v) (sym one ∙ (sym (ap (λ n. drop_up_to n place now i.0) left) ∙ i.2)) (goes i.0 i.1)

pub drops_end : (at most : ℕ) (place : Place) (now : Moment) (old new : Sides) → most ≤ at → Drops at most place now old new
    → SidesGo (drop_up_to most place now) old new
drops_end at most place now old new h before = λ s t.
    let i = before s t in
    let none : most - at ≡ 0 = omega (arith, h) in
    subst (λ v. SidesStand new v) (sym (ap (λ n. drop_up_to n place now i.0) none) ∙ i.2) i.1

-- all of them: the first, and then the others
pub all_dropped : (place : Place) (now : Moment) (old mid new : Sides) (text : Option (List ℕ)) → is_some text ≡ true
    → SidesGo (take_from place now) old mid → ((s : SidesState) → SidesStand old s → text ≡ taken place now s)
    → SidesGo (drop_up_to 65535 place now) mid new → SidesGo (drop_texts place now) old new
unfolding drop_texts
all_dropped place now old mid new text some first takes others = λ s t.
    subst (λ v. SidesStand new v) (sym (one_dropped 65535 place now s true (sym (ap is_some (takes s t)) ∙ some)))
    (others (take_from place now s) (first s t))

pub none_dropped : (place : Place) (now : Moment) (old new : Sides) (text : Option (List ℕ)) → is_some text ≡ false
    → SidesGo (take_from place now) old new → ((s : SidesState) → SidesStand old s → text ≡ taken place now s) → SidesGo (drop_texts place now) old new
unfolding drop_texts
none_dropped place now old new text none first takes = λ s t.
    subst (λ v. SidesStand new v) (sym (one_dropped 65535 place now s false (sym (ap is_some (takes s t)) ∙ none))) (first s t)
