use Rattle.cmd_streams.specs.Wider.{ends-map}
use Rattle.cmd_streams.proofs.items.answer_items.Goals as goal

pub returns-clause-ends : goal.returns-clause-ends
returns-clause-ends g c = ends-map _ _ _ _ _ _ _ _ (λ reads text took. (took.0.taker, took.1.1)) c.answer_stream.ensures.ends
