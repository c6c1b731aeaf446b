use Rattle.node_prompt.proofs.LineLaws.{case_is_nothing}
use Rattle.node_prompt.proofs.laws.letter_case.Goals as goal

pub returns : goal.returns
returns c = case_is_nothing
