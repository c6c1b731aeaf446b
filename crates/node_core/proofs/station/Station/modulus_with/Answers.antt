use Rattle.std.proofs.Common.{◌∙◌, ap}
use Rattle.node_model.specs.Links.{is_128}
use Rattle.radio_base.specs.Modulus.{extended_if, modulus_size}
use Rattle.node_core.proofs.station.Station.modulus_with.Goals as goal

pub returns : goal.returns
unfolding is_128
returns c = λ n h. ap modulus_size c.extended_if.ensures ∙ ap (λ b. modulus_size (extended_if b)) (c.is_128.ensures n.links (rw (c.carrier.ensures, c.router.ensures) h.parts.links))
