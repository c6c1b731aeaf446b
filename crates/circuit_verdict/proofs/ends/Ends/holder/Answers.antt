use Rattle.std.proofs.Common.{◌+◌, ◌∙◌, sym, ap, drop, List}
use Rattle.std.specs.Prelude.{flat_map, slice_get, Option}
use Rattle.std.proofs.lemmas.List.{drop_all}
use Rattle.circuit_set.specs.Books.{first_name}
use Rattle.circuit_table.specs.Events.{Name}
use Rattle.circuit_verdict.specs.Causes.{kept_partners}
use Rattle.circuit_verdict.proofs.Causes.{found_first, holders_kept}
use Rattle.circuit_verdict.proofs.ends.Ends.holder.Goals as goal

pub loop-end-preserved : goal.loop-end-preserved
loop-end-preserved c =
    let given = c.of-given.result.now in
    let later = slice_get (flat_map (kept_partners c.args.self.now) (drop (c.loop-end.end-index + 1) given)) 0 in
    sym (found_first (kept_partners c.args.self.now) given c.loop-end.end-index c.end-item.result c.open_partner.result c.loop-end-test.true c.end-item.is c.open_partner.ensures
    ∙ ap (λ (o : Option Name). first_name o later) c.in_default.is)
    ∙ c.loop-end.invariant

pub returns-in-Some : goal.returns-in-Some
returns-in-Some c ms lost s =
    let given = c.of-given.result.now in
    let later = slice_get (flat_map (kept_partners c.args.self.now) (drop (c.loop-end.end-index + 1) given)) 0 in
    let kept = rw c.of.ensures at c.of-given.ensures in
    sym (found_first (kept_partners c.args.self.now) given c.loop-end.end-index c.end-item.result c.open_partner.result c.loop-end-test.true c.end-item.is c.open_partner.ensures
    ∙ ap (λ (o : Option Name). first_name o later) c.in-Some.is)
    ∙ (c.loop-end.invariant ∙ ap (λ (xs : List Name). slice_get xs 0) (holders_kept c.args.self.now ms lost s c.args.node c.args.pair.now given (kept ∙ s.given c.args.node c.args.pair.now)))

pub returns : goal.returns
returns c ms lost s =
    let given = c.of-given.result.now in
    let kept = rw c.of.ensures at c.of-given.ensures in
    let rest = ap (λ (xs : List Name). slice_get (flat_map (kept_partners c.args.self.now) xs) 0) (drop_all c.loop-end.end-index given c.loop-end-test.false) in
    sym rest
    ∙ (c.loop-end.invariant ∙ ap (λ (xs : List Name). slice_get xs 0) (holders_kept c.args.self.now ms lost s c.args.node c.args.pair.now given (kept ∙ s.given c.args.node c.args.pair.now)))
