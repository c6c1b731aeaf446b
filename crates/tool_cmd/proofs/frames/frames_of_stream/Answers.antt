use Rattle.cmd_streams.specs.Wider.{ends-map}
use Rattle.tool_cmd.proofs.frames.frames_of_stream.Goals as goal

pub returns-clause-ends : goal.returns-clause-ends
returns-clause-ends g c = ends-map _ _ _ _ _ _ _ _ (λ reads text took. took.1.1) c.answer_items.ensures.ends
