use Rattle.std.proofs.Common.{◌∙◌, ◌/◌, ◌%◌, ap, sym, refl, arith, get_or}
use Rattle.ax_address.proofs.CallOctets.{six_are_call}
use Rattle.ax_address.proofs.NetCallLaws.{call_made, letters_taken, six_are}
use Rattle.ax_address.proofs.net_calls.call_in.Goals as goal

pub from_letters-requires : goal.from_letters-requires
from_letters-requires c = six_are_call c.args.octets.now _ (omega arith) c.requires (omega arith)

pub returns-clause-value : goal.returns-clause-value
returns-clause-value c = c.from_letters.ensures ∙ ap (λ letters. call_made letters (get_or c.args.octets.now 6 0 / 2 % 16)) (sym (letters_taken c.args.octets.now (omega arith)))

pub returns-clause-spelled : goal.returns-clause-spelled
returns-clause-spelled c = rw c.from_letters.ensures (record {
  is_call = six_are_call c.args.octets.now _ (omega arith) c.requires (omega arith);
  last = get_or c.args.octets.now 6 0;
  spelled = six_are c.args.octets.now (omega arith) c.requires;
  ssid = refl;
})
