use Rattle.std.proofs.Common.{ap, subst}
use Rattle.station_members.specs.Standing.{MembersStand}
use Rattle.station_settings.specs.Starting.{quality_if}
use Rattle.station_settings.proofs.setting_up.set_quality.Goals as goal

pub returns-in-Err-Full : goal.returns-in-Err-Full
returns-in-Err-Full c = λ s t.
    let e = rw c.in-Err-Full.field-0-is at c.in-Err-Full.ensures in
    subst (λ v. MembersStand c.set_quality.new.self v) (ap (λ r. quality_if r c.args.at c.args.quality.now s) (e.answer tt s t)) (e.err tt s t)
