use Rattle.std.proofs.Common.{◌<◌, ◌≤◌, ◌+◌, ◌-◌, ◌++◌, ◌∙◌, List, ap, sym, filter, arith, append_assoc, append-nil}
use Rattle.network_file.specs.declared.plan.declarations.Declaration.{Declaration}
use Rattle.net_model.specs.Starting.{by_number, has_number}
use Rattle.net_model.proofs.Numbers.{from_last, from_next}
use Rattle.net_model.proofs.stations.declared_by_number.Goals as goal

pub loop-number-preserved : goal.loop-number-preserved
loop-number-preserved c =
    let ds = c.args.network.now.declared in
    let n = c.loop-number.number in
    let all = c.loop-number.all.items in
    let rest = by_number ds (n + 1) (17 - (n + 1)) in
    let h : n < 17 = omega (arith, c.loop-number-test.true) in
    let added = rw c.declared.ensures at c.in_ok-add_declared.ensures in
    ap (λ (xs : List Declaration). xs ++ rest) added
    ∙ (append_assoc all (filter (has_number n) ds) rest ∙ (ap (λ (xs : List Declaration). all ++ xs) (sym (from_next ds n h)) ∙ c.loop-number.invariant))

pub returns : goal.returns
returns c =
    let ds = c.args.network.now.declared in
    let n = c.loop-number.number in
    let all = c.loop-number.all.items in
    let h : 17 ≤ n = omega (arith, c.loop-number-test.false) in
    sym (append-nil all) ∙ (ap (λ (xs : List Declaration). all ++ xs) (sym (from_last ds n h)) ∙ c.loop-number.invariant)
