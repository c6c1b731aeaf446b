use Rattle.std.proofs.Common.{◌∙◌}
use Rattle.station.specs.States.{fetch_entry}
use Rattle.station.proofs.Fetched.{all_told}
use Rattle.station_trial.proofs.Stands.{station_as}
use Rattle.station_trial.proofs.outlet.drop_entries.Goals as goal

pub loop-entry-preserved : goal.loop-entry-preserved
loop-entry-preserved c = λ s stands.
    let i = c.loop-entry.invariant s stands in
    (fetch_entry i.0, c.in-Some.ensures.goes i.0 i.1, i.2)

pub returns : goal.returns
returns c = λ s stands.
    let i = c.loop-entry.invariant s stands in
    station_as _ _ _ (all_told i.0 (c.in_default.ensures.answer i.0 i.1) ∙ i.2) (c.in_default.ensures.goes i.0 i.1)
