use Rattle.std.proofs.Common.{◌∙◌, ◌-◌, ap, slice_get}
use Rattle.route_table.specs.Rows.{calls_of}
use Rattle.route_table.proofs.Groups.{calls_step, first_of, next_of}
use Rattle.route_table.proofs.listing.destination_of.Goals as goal

pub returns-then-skip-eq0 : goal.returns-then-skip-eq0
returns-then-skip-eq0 c =
    first_of c.in-Some.first.now.dest _ _ c.loop-first.skip c.if-skip-eq0.true (calls_step c.loop-first.rest.now c.in-Some.first.now c.in-Some.ensures.value) ∙ c.loop-first.invariant

pub loop-first-preserved : goal.loop-first-preserved
loop-first-preserved c =
    ap (λ xs. slice_get (calls_of xs) (c.loop-first.skip - 1)) c.behind-rest.ensures.rest
    ∙ (next_of c.in-Some.first.now.dest _ _ c.loop-first.skip c.if-skip-eq0.false (calls_step c.loop-first.rest.now c.in-Some.first.now c.in-Some.ensures.value) ∙ c.loop-first.invariant)
