use Rattle.ax_address.proofs.FirstFaults.{fault_is_first, front_goes_on}
use Rattle.ax_address.proofs.laws.address_faults.Goals as goal

pub returns-clause-first : goal.returns-clause-first
returns-clause-first c = fault_is_first

pub returns-clause-front : goal.returns-clause-front
returns-clause-front c = front_goes_on
