use Rattle.std.proofs.Common.{◌∙◌, arith}
use Rattle.network_file.proofs.Marks.{share_by}
use Rattle.network_file.proofs.plan.channels.+mark_near.Goals as goal

pub returns-in-len1-up : goal.returns-in-len1-up
returns-in-len1-up t c = λ n b e.
    c.mark_near.ensures n _ (c.mark_with.ensures n b e)
    ∙ share_by c.args.channels.now c.channel-item.result c.args.sender n b c.channel-item.is (omega (arith, c.in-len1-up.len_at_least))
