use Rattle.circuit_table.proofs.Kept.{keeps_its_share, windows_are_small}
use Rattle.circuit_table.proofs.laws.kept.Goals as goal

pub returns-clause-share : goal.returns-clause-share
returns-clause-share c = keeps_its_share

pub returns-clause-windows : goal.returns-clause-windows
returns-clause-windows c = windows_are_small
