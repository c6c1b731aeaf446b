use Rattle.std.proofs.Common.{drop}
use Rattle.node_mail.proofs.Asked.{heard_in}
use Rattle.node_mail.proofs.asking.would_hear.Goals as goal

pub returns-in-Some-clause-read : goal.returns-in-Some-clause-read
returns-in-Some-clause-read c =
    heard_in c.args.bytes.now c.args.queue.now.letters c.args.mailbox.now c.args.from.now c.in-Some.head c.in-Some.ensures.spelled c.would_hear_wire.result (c.would_hear_wire.ensures (drop 16 c.args.bytes.now))
