use Rattle.std.proofs.Common.{◌∙◌, ◌++◌, ◌∷◌, [], ap, sym, append_assoc}
use Rattle.route_table.specs.Rows.{calls_of}
use Rattle.route_table.proofs.Groups.{calls_step}
use Rattle.route_table.proofs.listing.destinations_of.Goals as goal

pub loop-first-preserved : goal.loop-first-preserved
loop-first-preserved c =
    ap (λ xs. xs ++ calls_of c.behind-rest.result.now) c.in_ok-push.ensures.items
    ∙ (append_assoc c.loop-first.calls.items (c.in-Some.first.now.dest ∷ []) (calls_of c.behind-rest.result.now)
    ∙ (ap (λ xs. c.loop-first.calls.items ++ c.in-Some.first.now.dest ∷ calls_of xs) c.behind-rest.ensures.rest
    ∙ (ap (λ xs. c.loop-first.calls.items ++ xs) (sym (calls_step c.loop-first.rest.now c.in-Some.first.now c.in-Some.ensures.value)) ∙ c.loop-first.invariant)))
