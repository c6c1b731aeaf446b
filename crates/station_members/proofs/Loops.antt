-- A step for each member, one after another.
use Rattle.std.proofs.Common.{◌≡◌, ◌<◌, ◌≤◌, ◌+◌, ◌-◌, ◌∙◌, ℕ, suc, refl, sym, ap, subst, length, arith, add-one, Bool, true, false}
use Rattle.std.specs.Prelude.{◌||◌}
use Rattle.station_members.specs.declared.backplane.Backplane.{Backplane}
use Rattle.station_members.specs.Standing.{PlaneGoes, PlaneStands}
use Rattle.station_members.specs.States.{State, each_from, each_member, sends_from, send_waiting, has_frames}
use Rattle.station_members.proofs.NodesStand.{same_length}
use Rattle.radio_base.specs.declared.moment.Moment.{Moment}

pub each_next : (step : ℕ → State → State) (at count : ℕ) (s : State) → at < count
    → each_from step at (count - at) s ≡ each_from step (at + 1) (count - (at + 1)) (step at s)
each_next step at count s h = let left : count - at ≡ suc (count - (at + 1)) = omega (arith, h) in rw (left, add-one) refl

pub each_end : (step : ℕ → State → State) (at n : ℕ) (s : State) → n ≡ 0 → each_from step at n s ≡ s
each_end step at n s e = ap (λ k. each_from step at k s) e

-- steps were done for those before a place
abbrev pub Each : (ℕ → State → State) → ℕ → Backplane → Backplane → Type 0
Each step at old now =
    (s : State) → PlaneStands old s
    → (v : State) × PlaneStands now v × (each_from step at (length s.nodes - at) v ≡ each_member step s)

pub each_begin : (step : ℕ → State → State) (p : Backplane) → Each step 0 p p
each_begin step p = λ s t. (s, t, (let same : length s.nodes - 0 ≡ length s.nodes = omega arith in ap (λ n. each_from step 0 n s) same))

pub each_goes : (step : ℕ → State → State) (at : ℕ) (old now next : Backplane) → at < length old.nodes.items → Each step at old now
    → PlaneGoes (step at) now next → Each step (at + 1) old next
each_goes step at old now next h before goes = λ s t.
    let i = before s t in
    let same = same_length old.nodes.items s.nodes t.nodes in
    let in_range : at < length s.nodes = omega (arith, h, same) in
    (step at i.0, goes i.0 i.1, sym (each_next step at (length s.nodes) i.0 in_range) ∙ i.2)

pub each_done : (step : ℕ → State → State) (at : ℕ) (old now : Backplane) → length old.nodes.items ≤ at → Each step at old now
    → PlaneGoes (each_member step) old now
each_done step at old now h before = λ s t.
    let i = before s t in
    let same = same_length old.nodes.items s.nodes t.nodes in
    let none : length s.nodes - at ≡ 0 = omega (arith, h, same) in
    subst (λ v. PlaneStands now v) (sym (each_end step at (length s.nodes - at) i.0 none) ∙ i.2) i.1

-- ---- whether a frame was sent

pub sends_next : (now : Moment) (at count : ℕ) (s : State) → at < count
    → sends_from now at (count - at) s ≡ (has_frames at s || sends_from now (at + 1) (count - (at + 1)) (send_waiting now at s))
sends_next now at count s h = let left : count - at ≡ suc (count - (at + 1)) = omega (arith, h) in rw (left, add-one) refl

pub or_more : (a b c : Bool) → ((a || b) || c) ≡ (a || (b || c))
or_more true b c = refl
or_more false b c = refl

or_none : (a : Bool) → a ≡ (a || false)
or_none true = refl
or_none false = refl

pub sends_end : (now : Moment) (at n : ℕ) (s : State) (sent : Bool) → n ≡ 0 → sent ≡ (sent || sends_from now at n s)
sends_end now at n s sent e = or_none sent ∙ sym (ap (λ k. sent || sends_from now at k s) e)
