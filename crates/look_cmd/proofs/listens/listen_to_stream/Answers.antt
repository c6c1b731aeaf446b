use Rattle.std.proofs.Common.{sym, ap, ℕ, List}
use Rattle.cmd_streams.specs.Wider.{ends-map}
use Rattle.frame_lines.specs.Hearing.{Listening}
use Rattle.look_cmd.proofs.listens.listen_to_stream.Goals as goal

pub returns-clause-ends : goal.returns-clause-ends
returns-clause-ends g c = ends-map _ _ _ _ _ _ _ _ (λ reads text took. sym (ap (λ (p : Listening × List ℕ). p.1) (rw c.new-listener.ensures at took.1))) c.answer_items.ensures.ends
