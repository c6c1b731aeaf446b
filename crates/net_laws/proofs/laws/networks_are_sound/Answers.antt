use Rattle.net_laws.proofs.Sound.{networks_are_sound}
use Rattle.net_laws.proofs.laws.networks_are_sound.Goals as goal

pub returns : goal.returns
returns c = networks_are_sound c.networks_fit.ensures.calls c.networks_fit.ensures.pairs c.networks_fit.ensures.ranges
