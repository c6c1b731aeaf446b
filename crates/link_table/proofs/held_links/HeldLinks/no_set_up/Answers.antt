use Rattle.ax_frame.specs.Frames.{view}
use Rattle.link_table.proofs.Arriving.{none_there, stands_there}
use Rattle.link_table.proofs.held_links.HeldLinks.no_set_up.Goals as goal

pub returns-then-stood-clause-goes : goal.returns-then-stood-clause-goes
returns-then-stood-clause-goes c =
    stands_there c.args.self.now c.to_link.new.self (view c.args.frame.now) c.args.now.0 c.in_ok-stood.stood c.in_ok-stood.ensures.stood c.if-stood.true c.in_ok-stood.ensures.goes

pub returns-in_ok-answer_down-clause-goes : goal.returns-in_ok-answer_down-clause-goes
returns-in_ok-answer_down-clause-goes c =
    none_there c.args.self.now c.to_link.new.self c.answer_down.new.self (view c.args.frame.now) c.args.now.0 c.in_ok-stood.stood c.args.command c.in_ok-stood.ensures.stood c.if-stood.false c.requires.command
    c.in_ok-stood.ensures.goes (rw c.if-command.true c.in_ok-answer_down.ensures.goes)

pub returns-else-command-clause-goes : goal.returns-else-command-clause-goes
returns-else-command-clause-goes c =
    none_there c.args.self.now c.to_link.new.self c.to_link.new.self (view c.args.frame.now) c.args.now.0 c.in_ok-stood.stood c.args.command c.in_ok-stood.ensures.stood c.if-stood.false c.requires.command
    c.in_ok-stood.ensures.goes (rw c.if-command.false (λ t s. s))
