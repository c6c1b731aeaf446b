use Rattle.std.proofs.Common.{◌++◌, ◌∙◌, List, ℕ, ap, append_assoc}
use Rattle.std.specs.List.{flat_map}
use Rattle.station.specs.Fetching.{without_outs}
use Rattle.station_entries.specs.Lines.{entry_line}
use Rattle.station_live.specs.Lives.{Live, after_read, all_fetched, at_station, entries_text, status_at, ticked, told_at}
use Rattle.station_live.proofs.Reading.{entries_kept}
use Rattle.station_live.proofs.live_station.LiveStation.take.Goals as goal

pub returns-clause-goes : goal.returns-clause-goes
unfolding after_read ticked
returns-clause-goes c = λ l stands.
    let taken = c.in_ok-take_items.ensures l stands in
    let sent = c.in_ok-add_outs.ensures.goes _ (c.in_ok-tick.ensures.goes _ taken.station) in
    let told = c.in_ok-add_entries.ensures.goes _ sent in
    c.in_ok-tell_status.ensures.goes (at_station all_fetched (ticked c.args.bytes.now c.args.now l))
    (record { stream = taken.stream; station = told; every = taken.every; next = taken.next })

pub returns-clause-lines : goal.returns-clause-lines
unfolding told_at ticked
returns-clause-lines c = λ l stands.
    let taken = c.in_ok-take_items.ensures l stands in
    let sent = c.in_ok-add_outs.ensures.goes _ (c.in_ok-tick.ensures.goes _ taken.station) in
    let told = c.in_ok-add_entries.ensures.goes _ sent in
    let now = c.args.now in
    let lines : List ℕ = c.args.lines.now in
    let t : Live = ticked c.args.bytes.now now l in
    let status : List ℕ = status_at now (at_station all_fetched t) in
    c.in_ok-tell_status.ensures.lines (at_station all_fetched t)
    (record { stream = taken.stream; station = told; every = taken.every; next = taken.next })
    ∙ (ap (λ (front : List ℕ). front ++ status) (c.in_ok-add_entries.ensures.added (without_outs t.station) sent
    ∙ ap (λ es. lines ++ flat_map (entry_line now.0) es) (entries_kept t.station))
    ∙ append_assoc lines (entries_text now t.station) status)
