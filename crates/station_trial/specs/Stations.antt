-- The stations of a trial, and what each does with what it is given. Own profile.
use Rattle.std.specs.Prelude.{ℕ, ◌+◌, List, [], ◌∷◌, Option, Some, None}
use Rattle.ax_address.specs.Callsign.{Callsign}
use Rattle.radio_base.specs.declared.moment.Moment.{Moment}
use Rattle.station.specs.Fetching.{all_outs, without_entries, without_outs}
use Rattle.station.specs.States.{StationState}
use Rattle.station_file.specs.Station.{Station}
use Rattle.station_trial.specs.Gifts.{Dealt, Gift, gift_at, take_gift}
use Rattle.station_trial.specs.Outlets.{OutletState, put_all}

pub record TriedState : Type 0 where
  pub file : Station
  pub station : StationState
  pub restarts : ℕ
  pub call : Option Callsign  -- under which its console opens

abbrev pub at_station : (StationState → StationState) → TriedState → TriedState
at_station step t = record t { station = step t.station }

abbrev pub with_gift : Gift → Moment → TriedState → TriedState
with_gift gift now t = at_station (take_gift gift now) t

-- all that it has put out and told is fetched
abbrev pub fetched : TriedState → TriedState
fetched t = at_station (λ s. without_entries (without_outs s)) t

abbrev pub gave : Option Gift → Moment → TriedState → TriedState
gave None now t = t
gave (Some gift) now t = fetched (with_gift gift now t)

-- what it puts out then goes
abbrev pub put_out : Option Gift → Moment → ℕ → TriedState → OutletState → OutletState
put_out None now at t o = o
put_out (Some gift) now at t o = put_all at (all_outs (with_gift gift now t).station) o

-- each of those from a place on is given what it is dealt
abbrev pub all_gave : Dealt → Moment → ℕ → List TriedState → List TriedState
all_gave dealt now at [] = []
all_gave dealt now at (t ∷ ts) = gave (gift_at dealt at t.file) now t ∷ all_gave dealt now (at + 1) ts

abbrev pub all_put : Dealt → Moment → ℕ → List TriedState → OutletState → OutletState
all_put dealt now at [] o = o
all_put dealt now at (t ∷ ts) o = all_put dealt now (at + 1) ts (put_out (gift_at dealt at t.file) now at t o)
