use Rattle.std.proofs.Common.{◌∙◌, ap}
use Rattle.station_users.specs.Ending.{first_moment}
use Rattle.station_users.proofs.hall.Hall.start.Goals as goal

pub returns : goal.returns
returns c = λ u t. record {
  about = t.about;
  sides = t.sides;
  sessions = t.sessions;
  stopping = t.stopping;
  started = c.first_moment-self.ensures ∙ ap (λ o. first_moment o c.args.now) t.started;
}
