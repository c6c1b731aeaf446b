use Rattle.circuit_l4.proofs.Spelling.{spelled_is_read, written_spells, written_is_read}
use Rattle.circuit_l4.proofs.Again.{written_again}
use Rattle.circuit_l4.proofs.laws.transport_spelling.Goals as goal

pub returns-clause-read : goal.returns-clause-read
returns-clause-read c = spelled_is_read c.net_call_spelling.ensures.read

pub returns-clause-written : goal.returns-clause-written
returns-clause-written c = written_spells c.net_call_spelling.ensures.written

pub returns-clause-read_back : goal.returns-clause-read_back
returns-clause-read_back c = written_is_read (spelled_is_read c.net_call_spelling.ensures.read) (written_spells c.net_call_spelling.ensures.written)

pub returns-clause-same : goal.returns-clause-same
returns-clause-same c = written_again
