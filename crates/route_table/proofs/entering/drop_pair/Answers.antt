use Rattle.std.proofs.Common.{◌∙◌, sym, subst, Some, None}
use Rattle.route_table.specs.Places.{PairAt}
use Rattle.route_table.proofs.Changing.{beside_found, beside_none}
use Rattle.route_table.proofs.entering.drop_pair.Goals as goal

pub returns-in-Some-clause-items : goal.returns-in-Some-clause-items
returns-in-Some-clause-items c =
    let at : PairAt c.args.route.now c.args.waiting.now.items (Some c.in-Some.at) = subst (λ xs. PairAt c.args.route.now xs (Some c.in-Some.at)) c.deref-2.ensures.0 c.in-Some.ensures in
    c.remove.ensures.items ∙ sym (beside_found c.args.route.now c.args.waiting.now.items c.in-Some.at c.args.route.now c.requires.once at.0 (at.1 c.args.route.now))

pub returns-in_default-clause-items : goal.returns-in_default-clause-items
returns-in_default-clause-items c =
    let none : PairAt c.args.route.now c.args.waiting.now.items None = subst (λ xs. PairAt c.args.route.now xs None) c.deref-2.ensures.0 c.in_default.ensures in
    sym (beside_none c.args.route.now c.args.waiting.now.items none)
