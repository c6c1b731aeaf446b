use Rattle.std.proofs.Common.{◌∙◌, ap, Ok}
use Rattle.ax_address.specs.Octets.{net_call_in, unless_at_fault}
use Rattle.ax_address.proofs.NetCallLaws.{spelled_is_read}
use Rattle.ax_address.proofs.net_calls.read_net_call.Goals as goal

pub returns-in-Some-clause-only : goal.returns-in-Some-clause-only
returns-in-Some-clause-only c call h = ap (λ fault. unless_at_fault fault (net_call_in c.args.octets.now)) c.in-Some.ensures.exact ∙ spelled_is_read call c.args.octets.now h

pub returns-in-None-clause-only : goal.returns-in-None-clause-only
returns-in-None-clause-only c call h = ap Ok c.call_in.ensures.value ∙ (ap (λ fault. unless_at_fault fault (net_call_in c.args.octets.now)) c.in-None.ensures.exact ∙ spelled_is_read call c.args.octets.now h)
