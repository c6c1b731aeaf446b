use Rattle.std.proofs.Common.{length}
use Rattle.tool_cmd.proofs.ip.words.+add_routes.Given as goal

abbrev pub decreases-add_routes : goal.decreases-add_routes
decreases-add_routes l = length l.words.now
