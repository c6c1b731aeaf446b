use Rattle.std.proofs.Common.{◌∙◌, ◌∷◌, ◌++◌, [], ap, sym, add-one, take}
use Rattle.circuit_table.specs.CircuitSets.{held_ids}
use Rattle.net_model.specs.Mailing.{ends_here}
use Rattle.net_world.proofs.Looking.{ids_end, ids_more}
use Rattle.net_world.proofs.world.World.held_ids.Goals as goal

pub loop-nth-preserved : goal.loop-nth-preserved
loop-nth-preserved c = λ w t.
    let ids = held_ids (ends_here c.args.at w) in
    let here = c.in-Some.ensures w t in
    c.in_ok-push-in-Some.ensures.items
    ∙ (ap (λ xs. xs ++ c.in-Some.id ∷ []) (c.loop-nth.invariant w t)
    ∙ (sym (ids_more ids c.loop-nth.nth c.in-Some.id here) ∙ ap (λ k. take k ids) (sym (add-one c.loop-nth.nth))))

pub returns-in-None : goal.returns-in-None
returns-in-None c = λ w t. c.loop-nth.invariant w t ∙ ids_end (held_ids (ends_here c.args.at w)) c.loop-nth.nth (c.in-None.ensures w t)
