use Rattle.std.proofs.Common.{refl}
use Rattle.station.proofs.Going.{users_go}
use Rattle.station.proofs.works.Works.open.Goals as goal

pub returns : goal.returns
returns c = λ s stands. c.in_ok-settle.ensures _ (users_go _ c.args.self.now _ s c.in_ok-open.ensures.goes refl refl stands)
