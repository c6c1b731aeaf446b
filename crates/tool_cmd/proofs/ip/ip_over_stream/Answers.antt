use Rattle.std.proofs.Common.{sym, ap, ℕ, List}
use Rattle.ax_ip.specs.Machine.{State}
use Rattle.cmd_streams.specs.Wider.{ends-map}
use Rattle.tool_cmd.proofs.ip.ip_over_stream.Goals as goal

pub returns-clause-ends : goal.returns-clause-ends
returns-clause-ends g c = ends-map _ _ _ _ _ _ _ _ (λ reads text took. sym (ap (λ (p : State × List ℕ). p.1) took.1)) c.answer_items.ensures.ends
