use Rattle.link_table.proofs.LinkOffers.{opens}
use Rattle.link_table.proofs.held_links.HeldLinks.set_up_over.Goals as goal

pub returns-clause-goes : goal.returns-clause-goes
returns-clause-goes c =
    opens c.args.self.now c.make.new.self c.set_up_link.new.self c.args.peer.now c.args.path c.args.now.0 c.in_ok-make.ensures.goes c.in_ok-set_up_link.ensures.goes
