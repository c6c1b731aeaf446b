use Rattle.std.proofs.Common.{◌≡◌, ◌≤◌, ◌+◌, ◌-◌, drop, length, vec_len, vec_capacity}
use Rattle.route_table.specs.Places.{Stand}
use Rattle.route_table.specs.Rows as spec
use Rattle.route_table.proofs.entering.take_known.Given as goal

abbrev pub invariant-loop-at : goal.invariant-loop-at
invariant-loop-at l = record {
  told : spec.after_reports l.minq (spec.reported_by l.sender (drop l.at l.entries)) l.rows.items ≡ spec.after_reports l.minq (spec.reported_by l.sender l.entries) l.fn.rows.items;
  stand : Stand l.rows.items;
  room : vec_len l.rows + (length l.entries - l.at) ≤ vec_capacity l.rows;
}
