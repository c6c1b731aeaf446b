-- What a station has put out is fetched, one thing after another.
use Rattle.std.proofs.Common.{◌≡◌, ◌∙◌, ◌∷◌, [], ℕ, suc, List, refl, sym, ap, drop, length}
use Rattle.std.specs.Prelude.{Some, None, slice_get}
use Rattle.station_entries.specs.declared.entry.StationEntry.{StationEntry}
use Rattle.station_users.specs.States.{UsersState}
use Rattle.station.specs.Fetching.{all_outs, fetch_outs, fetch_outs_by, outs, outs_by, without_entries, without_outs}
use Rattle.station.specs.States.{StationState, fetch_entry, fetch_out, next_out, out_by}
use Rattle.station.specs.declared.outs.Waiting.{Waiting}
use Rattle.station.specs.declared.station_out.StationOut.{StationOut}

some_by : (ws : List Waiting) (u : UsersState) (out : StationOut) → Some out ≡ out_by (slice_get ws 0) u → length ws ≡ suc (length (drop 1 ws))
some_by [] u out is = absurd (cc is)
some_by (w ∷ ws) u out is = refl

-- where something comes, it is one less then
one_less : (s : StationState) (out : StationOut) → Some out ≡ next_out s → length s.outs ≡ suc (length (fetch_out s).outs)
one_less s out is = some_by s.outs s.users out is

-- what comes first, and the rest
pub first_out : (s : StationState) (out : StationOut) → Some out ≡ next_out s → all_outs s ≡ out ∷ all_outs (fetch_out s)
unfolding all_outs
first_out s out is =
    ap (λ o. outs_by o (outs (length s.outs)) s) (sym is) ∙ ap (λ n. out ∷ outs n (fetch_out s)) (one_less s out is)

pub rest_fetched : (s : StationState) (out : StationOut) → Some out ≡ next_out s → without_outs (fetch_out s) ≡ without_outs s
unfolding without_outs
rest_fetched s out is =
    sym (ap (λ o. fetch_outs_by o (fetch_outs (length s.outs)) s) (sym is) ∙ ap (λ n. fetch_outs n (fetch_out s)) (one_less s out is))

-- where nothing comes
pub no_outs : (s : StationState) → None ≡ next_out s → all_outs s ≡ []
unfolding all_outs
no_outs s is = ap (λ o. outs_by o (outs (length s.outs)) s) (sym is)

pub all_fetched : (s : StationState) → None ≡ next_out s → fetch_out s ≡ without_outs s
unfolding without_outs
all_fetched s is = sym (ap (λ o. fetch_outs_by o (fetch_outs (length s.outs)) s) (sym is))

-- ---- entries

none_by : (es : List StationEntry) → None ≡ slice_get es 0 → drop 1 es ≡ []
none_by [] is = refl
none_by (e ∷ es) is = absurd (cc is)

pub all_told : (s : StationState) → None ≡ slice_get s.entries 0 → fetch_entry s ≡ without_entries s
all_told s is = ap (λ es. record s { entries = es }) (none_by s.entries is)

first_by : (es : List StationEntry) (entry : StationEntry) → Some entry ≡ slice_get es 0 → es ≡ entry ∷ drop 1 es
first_by [] entry is = absurd (cc is)
first_by (e ∷ es) entry is = let same : entry ≡ e = cc is in rw same refl

pub first_told : (s : StationState) (entry : StationEntry) → Some entry ≡ slice_get s.entries 0 → s.entries ≡ entry ∷ (fetch_entry s).entries
first_told s entry is = first_by s.entries entry is

none_is_all : (es : List StationEntry) → None ≡ slice_get es 0 → es ≡ []
none_is_all [] is = refl
none_is_all (e ∷ es) is = absurd (cc is)

pub none_told : (s : StationState) → None ≡ slice_get s.entries 0 → s.entries ≡ []
none_told s is = none_is_all s.entries is
