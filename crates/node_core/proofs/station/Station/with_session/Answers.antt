use Rattle.std.proofs.Common.{ap, refl, rules, slice_set}
use Rattle.std.proofs.lemmas.Option.{slice_get_read}
use Rattle.std.specs.Fn.{FnOnceReturnsAtMut}
use Rattle.node_core.proofs.station.Station.with_session.Goals as goal

pub returns-in-Some : goal.returns-in-Some
returns-in-Some g c = λ step does.
    let xs = c.args.self.now.sessions.items in
    let x = c.in-Some.session.now in
    let y = c.change.new.arg2 in
    let gave : FnOnceReturnsAtMut g.F.FnOnce c.args.change x tt y = record { shown = _; shows = refl; left = _; met = c.change.ensures; leaves = refl } in
    let here = slice_get_read xs _ c.args.nth x refl (search rules) c.in-Some.ensures.item.1 in
    record { sessions = rw here (ap (slice_set xs c.args.nth) (does x y gave)); same = refl }
