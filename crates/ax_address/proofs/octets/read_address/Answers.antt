use Rattle.std.proofs.Common.{Ok, Err}
use Rattle.ax_address.proofs.AddressLaws.{reads_only}
use Rattle.ax_address.proofs.octets.read_address.Goals as goal

pub returns-in-Some-clause-only : goal.returns-in-Some-clause-only
returns-in-Some-clause-only c = reads_only c.args.octets.now (Err c.in-Some.refusal) tt c.in-Some.ensures.exact

pub returns-in-None-clause-only : goal.returns-in-None-clause-only
returns-in-None-clause-only c = reads_only c.args.octets.now (Ok c.address_in.result) c.address_in.ensures c.in-None.ensures.exact
