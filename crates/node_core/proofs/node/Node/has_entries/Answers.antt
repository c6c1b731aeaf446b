use Rattle.std.proofs.Common.{◌∙◌, ap, not}
use Rattle.node_core.proofs.Entering.{some_entries}
use Rattle.node_core.proofs.node.Node.has_entries.Goals as goal

pub returns : goal.returns
returns c =
    let s = c.self.inside.station in
    rw (← c.self.view_is) (λ n t. ap not c.is_empty.ensures ∙ some_entries s n.station _ t.station s.entries.ok.0)
