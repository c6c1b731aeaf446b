use Rattle.std.proofs.Common.{◌∙◌, ap}
use Rattle.node_model.specs.Serving as serving
use Rattle.node_core.proofs.Keeping.{served_bare}
use Rattle.node_core.proofs.station.Station.is_served.Goals as goal

pub returns : goal.returns
returns c = λ n h. c.is_served.ensures ∙ (ap (serving.is_served c.args.id) (c.deref.ensures.value ∙ h.users.sessions) ∙ served_bare c.args.id n.sessions)
