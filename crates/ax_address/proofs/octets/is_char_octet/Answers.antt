use Rattle.std.proofs.Common.{arith}
use Rattle.ax_address.proofs.CharTable.{marked}
use Rattle.ax_address.proofs.octets.is_char_octet.Goals as goal

pub returns : goal.returns
returns c = marked c.args.o (omega arith)
