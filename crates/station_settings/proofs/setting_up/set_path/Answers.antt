use Rattle.std.proofs.Common.{ap, subst}
use Rattle.station_members.specs.Standing.{MembersStand}
use Rattle.station_settings.specs.Starting.{path_if}
use Rattle.station_settings.proofs.setting_up.set_path.Goals as goal

pub returns-in-Err-TooLong : goal.returns-in-Err-TooLong
returns-in-Err-TooLong c = λ s t.
    let e = rw c.in-Err-TooLong.field-0-is at c.in-Err-TooLong.ensures in
    let says = rw c.path_of.ensures at (e.answer tt s t) in
    subst (λ v. MembersStand c.set_path.new.self v) (ap (λ r. path_if r c.args.at c.args.via.now s) says) (e.err tt s t)

pub returns-in-Err-Full : goal.returns-in-Err-Full
returns-in-Err-Full c = λ s t.
    let e = rw c.in-Err-Full.field-0-is at c.in-Err-Full.ensures in
    let says = rw c.path_of.ensures at (e.answer tt s t) in
    subst (λ v. MembersStand c.set_path.new.self v) (ap (λ r. path_if r c.args.at c.args.via.now s) says) (e.err tt s t)
