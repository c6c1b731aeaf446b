use Rattle.std.proofs.Common.{◌∙◌, arith}
use Rattle.network_file.proofs.Marks.{member_by}
use Rattle.network_file.proofs.plan.channels.+mark.Goals as goal

pub returns-in-len1-up : goal.returns-in-len1-up
returns-in-len1-up t c = λ n b e.
    c.mark.ensures n _ (c.set.ensures n b e) ∙ member_by c.args.nodes.now n b (omega (arith, c.in-len1-up.len_at_least))
