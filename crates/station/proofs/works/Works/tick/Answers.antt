use Rattle.std.proofs.Common.{refl}
use Rattle.station.proofs.Going.{users_go}
use Rattle.station.proofs.works.Works.tick.Goals as goal

pub returns : goal.returns
returns c = λ s stands.
    let ticked = users_go _ c.args.self.now _ s c.in_ok-tick_members.ensures.goes refl refl stands in
    let put = c.in_ok-fetch_frames.ensures _ ticked in
    c.in_ok-settle.ensures _ (users_go _ c.fetch_frames.new.self _ _ c.in_ok-tick.ensures.goes refl refl put)
