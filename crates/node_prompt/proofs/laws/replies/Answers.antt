use Rattle.node_prompt.proofs.LineLaws.{all_is_reply}
use Rattle.node_prompt.proofs.laws.replies.Goals as goal

pub returns : goal.returns
returns c = all_is_reply
