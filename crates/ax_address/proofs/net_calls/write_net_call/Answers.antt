use Rattle.std.proofs.Common.{◌+◌, ◌*◌, ◌++◌, ◌∙◌, [], ◌∷◌, ap, arith}
use Rattle.ax_address.proofs.CallOctets.{doubles}
use Rattle.ax_address.proofs.NetCallLaws.{six_letters}
use Rattle.ax_address.proofs.net_calls.write_net_call.Goals as goal

pub returns-clause-spelled : goal.returns-clause-spelled
returns-clause-spelled c = record {
  is_call = c.letters.ensures.call;
  last = 96 + 2 * c.ssid.result;
  spelled = six_letters c.letters.result (96 + 2 * c.ssid.result) (omega arith) ∙ ap (λ ls. doubles ls ++ (96 + 2 * c.ssid.result) ∷ []) c.letters.ensures.value;
  ssid = let same = c.ssid.ensures.value in let small = c.letters.ensures.call.small in omega arith;
}
