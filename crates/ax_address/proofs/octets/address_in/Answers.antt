use Rattle.std.proofs.Common.{arith}
use Rattle.ax_address.proofs.CallOctets.{six_are_call, seven_again}
use Rattle.ax_address.proofs.octets.address_in.Goals as goal

pub from_letters-requires : goal.from_letters-requires
from_letters-requires c = six_are_call c.args.octets.now _ (omega arith) c.requires (omega arith)

pub returns : goal.returns
returns c = rw c.from_letters.ensures (record {
  is_call = six_are_call c.args.octets.now _ (omega arith) c.requires (omega arith);
  spelled = seven_again c.args.octets.now (omega arith) c.requires (omega arith);
})
