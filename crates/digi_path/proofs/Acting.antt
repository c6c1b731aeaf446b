-- What a station does is what the rule says, and the other way round.
use Rattle.std.proofs.Common.{◌≡◌, Bool, true, false, if◌then◌else◌, List, [], ◌∷◌, ◌++◌, refl, ap}
use Rattle.ax_address.specs.declared.address.Address.{Address}
use Rattle.ax_address.specs.Callsign.{Callsign, same_call}
use Rattle.ax_address.proofs.SameCalls.{same_call-true, same_call-equal, same_call-apart, apart}
use Rattle.digi_path.specs.Paths.{Action, For_me, Repeat, Not_yet, Heard, action, behind, repeated}
use Rattle.digi_path.specs.Laws.{ActsByTheNextRepeater, AllHaveRepeated, IsNext, Acts, For_this_station, For_another_station, By_this_repeater, By_another_repeater}

-- a repeater in front that has repeated the frame changes nothing but the path
next_behind : (r : Address) (before : List Address) (next : Address) (rest path : List Address) → r.bit7 ≡ true → IsNext before next rest path → IsNext (r ∷ before) next rest (r ∷ path)
next_behind r before next rest path e n = record { whole = ap (λ more. r ∷ more) n.whole; done = (e, n.done); unset = n.unset }

acts_behind : (r : Address) (path : List Address) (dest own : Callsign) (what : Action) → r.bit7 ≡ true → Acts path dest own what → Acts (r ∷ path) dest own (behind r what)
acts_behind r path dest own For_me e (For_this_station done same) = For_this_station (e, done) same
acts_behind r path dest own Heard e (For_another_station done other) = For_another_station (e, done) other
acts_behind r path dest own (Repeat p) e (By_this_repeater before next rest n same) = By_this_repeater (r ∷ before) next rest (next_behind r before next rest path e n) same
acts_behind r path dest own Not_yet e (By_another_repeater before next rest n other) = By_another_repeater (r ∷ before) next rest (next_behind r before next rest path e n) other

acts_at_end : (dest own : Callsign) (t : Bool) → same_call dest own ≡ t → Acts [] dest own (if t then For_me else Heard)
acts_at_end dest own true e = For_this_station tt (same_call-true dest own e)
acts_at_end dest own false e = For_another_station tt (apart dest own e)

acts_at_next : (r : Address) (path : List Address) (dest own : Callsign) (t : Bool) → r.bit7 ≡ false → same_call r.call own ≡ t →
    Acts (r ∷ path) dest own (if t then Repeat (repeated r ∷ path) else Not_yet)
acts_at_next r path dest own true e s = By_this_repeater [] r path (record { whole = refl; done = tt; unset = e }) (same_call-true r.call own s)
acts_at_next r path dest own false e s = By_another_repeater [] r path (record { whole = refl; done = tt; unset = e }) (apart r.call own s)

acts_by : (r : Address) (path : List Address) (dest own : Callsign) (t : Bool) → r.bit7 ≡ t → Acts path dest own (action path dest own) →
    Acts (r ∷ path) dest own (if t then behind r (action path dest own) else (if same_call r.call own then Repeat (repeated r ∷ path) else Not_yet))
acts_by r path dest own true e h = acts_behind r path dest own (action path dest own) e h
acts_by r path dest own false e h = acts_at_next r path dest own (same_call r.call own) e refl

acts : (path : List Address) (dest own : Callsign) → Acts path dest own (action path dest own)
acts [] dest own = acts_at_end dest own (same_call dest own) refl
acts (r ∷ path) dest own = acts_by r path dest own r.bit7 refl (acts path dest own)

-- where every repeater has repeated the frame, the destination decides
pub at_end : (path : List Address) (dest own : Callsign) (t : Bool) → same_call dest own ≡ t → AllHaveRepeated path → action path dest own ≡ (if t then For_me else Heard)
at_end [] dest own t e h = rw e refl
at_end (r ∷ path) dest own true e h = rw (h.0, at_end path dest own true e h.1) refl
at_end (r ∷ path) dest own false e h = rw (h.0, at_end path dest own false e h.1) refl

-- else the next repeater
at_next : (before : List Address) (r : Address) (rest : List Address) (dest own : Callsign) (t : Bool) → same_call r.call own ≡ t → AllHaveRepeated before → r.bit7 ≡ false →
    action (before ++ r ∷ rest) dest own ≡ (if t then Repeat (before ++ repeated r ∷ rest) else Not_yet)
at_next [] r rest dest own t e h u = rw (u, e) refl
at_next (b ∷ before) r rest dest own true e h u = rw (h.0, at_next before r rest dest own true e h.1 u) refl
at_next (b ∷ before) r rest dest own false e h u = rw (h.0, at_next before r rest dest own false e h.1 u) refl

as_the_rule_says : (path : List Address) (dest own : Callsign) (what : Action) → Acts path dest own what → action path dest own ≡ what
as_the_rule_says path dest own For_me (For_this_station done same) = at_end path dest own true (same_call-equal dest own same) done
as_the_rule_says path dest own Heard (For_another_station done other) = at_end path dest own false (same_call-apart dest own other) done
as_the_rule_says path dest own (Repeat p) (By_this_repeater before r rest n same) =
    rw (n.whole) (at_next before r rest dest own true (same_call-equal r.call own same) n.done n.unset)
as_the_rule_says path dest own Not_yet (By_another_repeater before r rest n other) =
    rw (n.whole) (at_next before r rest dest own false (same_call-apart r.call own other) n.done n.unset)

pub acts_by_the_next_repeater : ActsByTheNextRepeater
acts_by_the_next_repeater path dest own what =
    (λ e. rw e at (acts path dest own), as_the_rule_says path dest own what)
