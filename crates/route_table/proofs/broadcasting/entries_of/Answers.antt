use Rattle.std.proofs.Common.{◌≡◌, ◌∙◌, ◌++◌, ap, sym, subst, drop, length, rules, Some}
use Rattle.std.specs.List.{cons_option}
use Rattle.route_table.specs.Table.{entry_by}
use Rattle.route_table.specs.Places.{InRows}
use Rattle.route_table.proofs.Groups.{told, told_step, rest_rows, page_full, page_done, none_left}
use Rattle.route_table.proofs.broadcasting.entries_of.Goals as goal

pub returns-then-is_full : goal.returns-then-is_full
returns-then-is_full c =
    let full : length c.loop-first.entries.items ≡ 11 = search rules in
    page_full c.loop-first.entries.items (drop c.loop-first.skip (told c.args.least c.loop-first.rest.now)) _ full c.loop-first.invariant.told

pub loop-first-preserved : goal.loop-first-preserved
loop-first-preserved c = record {
  told =
      c.add_entry.ensures.told (told c.args.least c.behind-rest.result.now)
      ∙ (ap (λ o. c.loop-first.entries.items ++ drop c.loop-first.skip (cons_option o (told c.args.least c.behind-rest.result.now))) c.entry_of.ensures
      ∙ (ap (λ xs. c.loop-first.entries.items ++ drop c.loop-first.skip (cons_option (entry_by c.args.least c.in-Some.first.now.dest (Some c.in-Some.first.now)) (told c.args.least xs))) c.behind-rest.ensures.rest
      ∙ (ap (λ xs. c.loop-first.entries.items ++ drop c.loop-first.skip xs) (sym (told_step c.args.least c.loop-first.rest.now c.in-Some.first.now c.loop-first.invariant.order c.in-Some.ensures.value)) ∙ c.loop-first.invariant.told)));
  order = subst InRows (sym c.behind-rest.ensures.rest) (rest_rows c.loop-first.rest.now c.loop-first.invariant.order);
  few = c.add_entry.ensures.few;
}

pub returns : goal.returns
returns c =
    page_done c.args.least c.loop-first.skip c.loop-first.rest.now c.loop-first.entries.items _ c.loop-first.invariant.few (none_left c.loop-first.rest.now c.in_default.ensures.value) c.loop-first.invariant.told
