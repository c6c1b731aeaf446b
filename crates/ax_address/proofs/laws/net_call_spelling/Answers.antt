use Rattle.ax_address.proofs.NetCallLaws.{spelled_is_read, written_spells, written_again}
use Rattle.ax_address.proofs.laws.net_call_spelling.Goals as goal

pub returns-clause-read : goal.returns-clause-read
returns-clause-read c = spelled_is_read

pub returns-clause-written : goal.returns-clause-written
returns-clause-written c = written_spells

pub returns-clause-again : goal.returns-clause-again
returns-clause-again c = written_again
