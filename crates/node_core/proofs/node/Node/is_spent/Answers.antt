use Rattle.std.proofs.Common.{◌∙◌, ap, sym}
use Rattle.node_core.specs.Standing.{Kept}
use Rattle.node_core.proofs.node.Node.is_spent.Goals as goal

pub returns-clause-kept : goal.returns-clause-kept
returns-clause-kept c unspent = c.keeps_within.ensures (sym (ap (λ (k : Kept). k.spent) c.self.view_is) ∙ unspent)
