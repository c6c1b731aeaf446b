-- All that a station has put out and told, one thing after another. Own profile.
use Rattle.std.specs.Prelude.{ℕ, zero, suc, List, [], ◌∷◌, length, Option, Some, None}
use Rattle.station.specs.declared.station_out.StationOut.{StationOut}
use Rattle.station.specs.States.{StationState, fetch_out, next_out}

-- so many things at most
abbrev pub outs_by : Option StationOut → (StationState → List StationOut) → StationState → List StationOut
outs_by None later s = []
outs_by (Some out) later s = out ∷ later (fetch_out s)

abbrev pub outs : ℕ → StationState → List StationOut
outs zero s = []
outs (suc left) s = outs_by (next_out s) (outs left) s

-- and they are fetched
abbrev pub fetch_outs_by : Option StationOut → (StationState → StationState) → StationState → StationState
fetch_outs_by None later s = fetch_out s
fetch_outs_by (Some out) later s = later (fetch_out s)

abbrev pub fetch_outs : ℕ → StationState → StationState
fetch_outs zero s = s
fetch_outs (suc left) s = fetch_outs_by (next_out s) (fetch_outs left) s

-- all of them
unfoldable pub all_outs : StationState → List StationOut
all_outs s = outs (suc (length s.outs)) s

unfoldable pub without_outs : StationState → StationState
without_outs s = fetch_outs (suc (length s.outs)) s

abbrev pub without_entries : StationState → StationState
without_entries s = record s { entries = [] }
