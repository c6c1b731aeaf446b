use Rattle.std.proofs.Common.{refl}
use Rattle.station.proofs.Going.{users_go}
use Rattle.station.specs.States.{serve}
use Rattle.station.proofs.works.Works.serve.Goals as goal

pub returns-clause-goes : goal.returns-clause-goes
unfolding serve
returns-clause-goes c = λ s stands. c.in_ok-note_consoles.ensures _ (users_go _ c.args.self.now _ s c.in_ok-served.ensures.goes refl refl stands)
