use Rattle.std.proofs.Common.{◌∙◌}
use Rattle.link_table.proofs.Links.{ticks_first}
use Rattle.link_table.proofs.held_links.HeldLinks.tick.Goals as goal

pub loop-peer-init : goal.loop-peer-init
loop-peer-init c = record { rests = c.requires; left = ticks_first _ c.args.now.0 c.args.self.now (c.as_slice-peer-items.ensures.value ∙ c.peers-peers.ensures) }
