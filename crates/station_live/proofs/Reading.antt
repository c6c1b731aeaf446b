-- What a station has told stays while what it has put out is fetched.
use Rattle.std.proofs.Common.{◌≡◌, ℕ, zero, suc, refl, length}
use Rattle.std.specs.Prelude.{Option, Some, None}
use Rattle.station.specs.Fetching.{fetch_outs, fetch_outs_by, without_outs}
use Rattle.station.specs.States.{StationState, fetch_out, next_out}
use Rattle.station.specs.declared.station_out.StationOut.{StationOut}

kept_by : (left : ℕ) (out : Option StationOut) (s : StationState) → (fetch_outs_by out (fetch_outs left) s).entries ≡ s.entries
kept_by left None s = refl
kept_by zero (Some out) s = refl
kept_by (suc left) (Some out) s = kept_by left (next_out (fetch_out s)) (fetch_out s)

pub entries_kept : (s : StationState) → (without_outs s).entries ≡ s.entries
unfolding without_outs
entries_kept s = kept_by (length s.outs) (next_out s) s
