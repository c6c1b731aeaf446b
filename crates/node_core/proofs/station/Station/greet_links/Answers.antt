use Rattle.std.proofs.Common.{◌∙◌, subst}
use Rattle.node_model.specs.Links as links
use Rattle.node_model.specs.Serving.{greet_each}
use Rattle.node_core.specs.Going.{HoldsTold}
use Rattle.node_model.specs.States.{at_sessions}
use Rattle.node_core.proofs.station.Station.greet_links.Goals as goal

pub returns : goal.returns
unfolding links.text_peers
returns c = λ n t.
    let peers = c.deref.ensures.0 ∙ c.texts-peers.ensures n.links (rw (c.carrier.ensures, c.router.ensures) t.0.parts.links) in
    subst (λ ps. HoldsTold c.greet_each.new.self (at_sessions (greet_each n.settings.prompt ps) n)) peers (c.in_ok-greet_each.ensures n t)
