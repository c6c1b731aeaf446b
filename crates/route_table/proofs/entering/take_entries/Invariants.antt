use Rattle.std.proofs.Common.{◌≡◌, ◌≤◌, ◌+◌, ◌-◌, drop, length, vec_len, vec_capacity}
use Rattle.route_table.specs.Places.{AreWaiting}
use Rattle.route_table.specs.Table.{all_placed}
use Rattle.route_table.specs.Rows as spec
use Rattle.route_table.proofs.entering.take_entries.Given as goal

abbrev pub invariant-loop-entry : goal.invariant-loop-entry
invariant-loop-entry l = record {
  told : spec.after_reports l.minq (spec.reported_by l.sender (drop l.entry-index l.entries)) (all_placed l.waiting.items l.rows.items)
      ≡ spec.after_reports l.minq (spec.reported_by l.sender l.entries) (all_placed l.fn.waiting.items l.fn.rows.items);
  waiting : AreWaiting l.waiting.items l.rows.items;
  few : length l.waiting.items ≤ length l.fn.waiting.items + l.entry-index;
  room : vec_len l.rows + length l.waiting.items + (length l.entries - l.entry-index) ≤ vec_capacity l.rows;
}
