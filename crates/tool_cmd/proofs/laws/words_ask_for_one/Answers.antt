use Rattle.tool_cmd.proofs.GatewayWords.{same_gateway}
use Rattle.tool_cmd.proofs.ThreeWords.{one_settings}
use Rattle.tool_cmd.proofs.laws.words_ask_for_one.Goals as goal

pub returns : goal.returns
returns c = record { gateway = same_gateway; life = one_settings }
