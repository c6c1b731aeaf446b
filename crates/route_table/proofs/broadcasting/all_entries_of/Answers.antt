use Rattle.std.proofs.Common.{◌∙◌, ◌++◌, ap, sym, subst, Some}
use Rattle.std.specs.List.{cons_option}
use Rattle.route_table.specs.Table.{entry_by}
use Rattle.route_table.specs.Places.{InRows}
use Rattle.route_table.proofs.Groups.{told, told_step, rest_rows}
use Rattle.route_table.proofs.broadcasting.all_entries_of.Goals as goal

pub loop-first-preserved : goal.loop-first-preserved
loop-first-preserved c = record {
  told =
      c.in_ok-push_entry.ensures (told c.args.least c.behind-rest.result.now)
      ∙ (ap (λ xs. c.loop-first.entries.items ++ cons_option (entry_by c.args.least c.in-Some.first.now.dest (Some c.in-Some.first.now)) (told c.args.least xs)) c.behind-rest.ensures.rest
      ∙ (ap (λ xs. c.loop-first.entries.items ++ xs) (sym (told_step c.args.least c.loop-first.rest.now c.in-Some.first.now c.loop-first.invariant.order c.in-Some.ensures.value)) ∙ c.loop-first.invariant.told));
  order = subst InRows (sym c.behind-rest.ensures.rest) (rest_rows c.loop-first.rest.now c.loop-first.invariant.order);
}
