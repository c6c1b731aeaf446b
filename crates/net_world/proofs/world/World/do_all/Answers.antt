use Rattle.std.proofs.Common.{◌≡◌, ◌≤◌, ◌+◌, ◌++◌, ◌∷◌, [], ◌∙◌, List, suc, sym, ap, subst, add-one, drop, take, length}
use Rattle.std.specs.List.{AllByRecursion}
use Rattle.std.proofs.lemmas.List.{take_more}
use Rattle.network_file.specs.declared.plan.instructions.NumberedInstruction.{NumberedInstruction}
use Rattle.net_model.specs.SoundPlans.{IsLine}
use Rattle.std.proofs.Math.Seq.{drop-cons}
use Rattle.std.proofs.lemmas.Result.{err_from_is_err_and}
use Rattle.net_model.specs.Lines.{do_line, do_lines}
use Rattle.net_model.specs.World.{World}
use Rattle.net_world.proofs.Growing.{line_behind, lines_grow}
use Rattle.net_world.proofs.Runs.{refused_still}
use Rattle.net_world.proofs.world.World.do_all.Goals as goal

pub returns-in_err-do_line-clause-runs : goal.returns-in_err-do_line-clause-runs
returns-in_err-do_line-clause-runs c =
    let p = err_from_is_err_and c.from_residual.result c.from_residual.ensures.1 in
    rw (p.1, p.2) (λ w t.
    let i = c.loop-numbered.invariant.runs w t in
    let plan = c.args.network.now in
    let ls = c.args.instructions.now in
    let l = c.numbered-item.result in
    let k = c.loop-numbered.numbered-index in
    let once : World = do_line plan l.line l.instruction i.0 in
    let first : drop k ls ≡ l ∷ drop (suc k) ls = drop-cons ls k l c.loop-numbered-test.true ∙ ap (λ m. m ∷ drop (suc k) ls) (sym c.numbered-item.is) in
    let whole : do_lines plan (drop (suc k) ls) once ≡ do_lines plan ls w = sym (ap (λ ms. do_lines plan ms i.0) first) ∙ i.2 in
    let more : length once.air ≤ length (do_lines plan ls w).air = subst (λ (v : World). length once.air ≤ length v.air) whole (lines_grow plan (drop (suc k) ls) once) in
    refused_still _ _ _ more (c.in_err-do_line.ensures i.0 i.1))

pub loop-numbered-preserved : goal.loop-numbered-preserved
loop-numbered-preserved c =
    let plan = c.args.network.now in
    let ls = c.args.instructions.now in
    let l = c.numbered-item.result in
    let k = c.loop-numbered.numbered-index in
    record {
      runs = λ w t.
          let i = c.loop-numbered.invariant.runs w t in
          let once : World = do_line plan l.line l.instruction i.0 in
          let first : drop k ls ≡ l ∷ drop (suc k) ls = drop-cons ls k l c.loop-numbered-test.true ∙ ap (λ m. m ∷ drop (suc k) ls) (sym c.numbered-item.is) in
          (once, c.in_ok-do_line.ensures i.0 i.1, ap (λ j. do_lines plan (drop j ls) once) (add-one k) ∙ (sym (ap (λ ms. do_lines plan ms i.0) first) ∙ i.2));
      sound =
          let more : take (k + 1) ls ≡ take k ls ++ l ∷ [] = take_more ls k l c.loop-numbered-test.true ∙ ap (λ (e : NumberedInstruction). take k ls ++ e ∷ []) (sym c.numbered-item.is) in
          subst (λ (xs : List NumberedInstruction). AllByRecursion IsLine xs) (sym more) (line_behind (take k ls) l c.loop-numbered.invariant.sound c.is_instruction.ensures);
    }
