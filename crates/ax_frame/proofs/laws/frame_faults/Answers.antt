use Rattle.ax_frame.proofs.FirstFaults.{fault_is_first}
use Rattle.ax_frame.proofs.laws.frame_faults.Goals as goal

pub returns : goal.returns
returns c = fault_is_first c.address_faults.ensures.first c.address_faults.ensures.front
