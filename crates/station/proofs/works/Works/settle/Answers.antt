use Rattle.std.proofs.Common.{refl}
use Rattle.station.proofs.Going.{users_go}
use Rattle.station.specs.States.{settle}
use Rattle.station.proofs.works.Works.settle.Goals as goal

pub returns : goal.returns
unfolding settle
returns c = λ s stands.
    users_go _ c.take_turns.new.self _ _ c.settled.ensures.goes refl refl (c.in_ok-take_turns.ensures s stands)
