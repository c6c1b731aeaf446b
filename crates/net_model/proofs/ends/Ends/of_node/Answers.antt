use Rattle.std.proofs.Common.{◌<◌, ◌∙◌, ap, sym, arith, length}
use Rattle.net_model.specs.Ends.{ends_at}
use Rattle.net_model.proofs.Noting.{at_is}
use Rattle.net_model.proofs.ends.Ends.of_node.Goals as goal

pub returns : goal.returns
returns c =
    let lists = c.self.inside.lists.items in
    let h : c.args.node < length lists = omega (arith, c.self.invariant, c.ranges.node.fits) in
    c.deref.ensures.value ∙ (ap (λ v. v.items) c.index.ensures ∙ (sym (at_is lists c.args.node c.index.result.now h) ∙ ap (ends_at c.args.node) c.self.view_is))
