use Rattle.std.proofs.Common.{◌∙◌}
use Rattle.circuit_verdict.proofs.Facing.{faced_kept}
use Rattle.circuit_verdict.proofs.ends.Ends.is_faced.Goals as goal

pub returns : goal.returns
returns c ms lost s = c.keeps_faced.ensures ∙ faced_kept c.args.self.now ms lost s c.args.node c.args.pair.now
