use Rattle.std.proofs.Common.{◌∙◌, ◌==◌, Some, ap, false}
use Rattle.network_file.specs.Plan.{share_channel}
use Rattle.network_file.proofs.Marks.{blank, hears}
use Rattle.network_file.proofs.plan.channels.heard_by.Goals as goal

pub returns : goal.returns
returns c = λ n l.
    c.set.ensures n _ (c.mark_near.ensures n false (blank 17 n l)) ∙ ap Some (hears (c.args.sender == n) (share_channel c.args.channels.now c.args.sender n))
