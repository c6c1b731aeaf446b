use Rattle.std.proofs.Common.{◌∙◌, sym, ap, List}
use Rattle.std.specs.Prelude.{filter, slice_get}
use Rattle.std.proofs.lemmas.List.{drop_all}
use Rattle.circuit_table.specs.Events.{Name}
use Rattle.circuit_verdict.specs.Ends.{kept_faces}
use Rattle.circuit_verdict.proofs.Causes.{fails, passes}
use Rattle.circuit_verdict.proofs.ends.Ends.open_partner.Goals as goal

pub loop-other-preserved : goal.loop-other-preserved
loop-other-preserved c =
    sym (fails (kept_faces c.args.self.now c.args.end.now) c.of-facing.result.now c.loop-other.other-index c.other-item.result c.loop-other-test.true c.other-item.is
    (sym c.faces.ensures ∙ c.if-faces.false)) ∙ c.loop-other.invariant

pub returns-then-faces : goal.returns-then-faces
returns-then-faces c =
    sym (passes (kept_faces c.args.self.now c.args.end.now) c.of-facing.result.now c.loop-other.other-index c.other-item.result c.loop-other-test.true c.other-item.is
    (sym c.faces.ensures ∙ c.if-faces.true))
    ∙ ap (λ (xs : List Name). slice_get xs 0) c.loop-other.invariant

pub returns : goal.returns
returns c =
    let rest = ap (λ (xs : List Name). filter (kept_faces c.args.self.now c.args.end.now) xs) (drop_all c.loop-other.other-index c.of-facing.result.now c.loop-other-test.false) in
    ap (λ (xs : List Name). slice_get xs 0) (sym rest ∙ c.loop-other.invariant)
