use Rattle.ax_address.proofs.AddressLaws.{spelled_without_fault, spelled_once}
use Rattle.ax_address.proofs.NetCallLaws.{spelled_is_held}
use Rattle.ax_address.proofs.laws.address_spelling.Goals as goal

pub returns-clause-without_fault : goal.returns-clause-without_fault
returns-clause-without_fault c = spelled_without_fault

pub returns-clause-once : goal.returns-clause-once
returns-clause-once c = spelled_once

pub returns-clause-held : goal.returns-clause-held
returns-clause-held c = spelled_is_held
