use Rattle.link_table.proofs.Opens.{open_made}
use Rattle.link_table.proofs.held_links.HeldLinks.open.Goals as goal

pub returns-clause-goes : goal.returns-clause-goes
returns-clause-goes c =
    open_made c.args.self.now c.set_up_over.new.self c.args.peer.now c.args.path.now c.open_path-over.result c.args.now.0 c.requires.none c.requires.short c.requires.room c.open_path-over.ensures
    c.in_ok-set_up_over.ensures.goes
