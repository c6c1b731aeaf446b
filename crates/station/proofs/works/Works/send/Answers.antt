use Rattle.std.proofs.Common.{refl}
use Rattle.station.proofs.Going.{users_go}
use Rattle.station.specs.States.{send}
use Rattle.station.proofs.works.Works.send.Goals as goal

pub returns-clause-goes : goal.returns-clause-goes
unfolding send
returns-clause-goes c = λ s stands. c.in_ok-fetch_frames.ensures _ (users_go _ c.args.self.now _ s c.in_ok-sent.ensures.goes refl refl stands)
