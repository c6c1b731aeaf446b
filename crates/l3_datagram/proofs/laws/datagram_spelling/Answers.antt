use Rattle.l3_datagram.proofs.Spelling.{spelled_is_read, written_again, written_spells}
use Rattle.l3_datagram.proofs.laws.datagram_spelling.Goals as goal

pub returns-clause-read : goal.returns-clause-read
returns-clause-read c = spelled_is_read c.net_call_spelling.ensures.read

pub returns-clause-written : goal.returns-clause-written
returns-clause-written c = written_spells c.net_call_spelling.ensures.written

pub returns-clause-same : goal.returns-clause-same
returns-clause-same c = written_again
