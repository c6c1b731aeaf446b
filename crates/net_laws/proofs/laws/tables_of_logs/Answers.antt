use Rattle.net_laws.proofs.Logs.{tables_of_logs}
use Rattle.net_laws.proofs.laws.tables_of_logs.Goals as goal

pub returns : goal.returns
returns c = tables_of_logs
