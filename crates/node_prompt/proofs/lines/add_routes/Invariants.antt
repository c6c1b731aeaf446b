use Rattle.std.proofs.Common.{◌≡◌, ◌≤◌, ◌+◌, ◌*◌, ◌++◌, length, take}
use Rattle.std.specs.Prelude.{codes}
use Rattle.std.specs.List.{flat_map}
use Rattle.node_prompt.specs.Replies.{ended}
use Rattle.node_prompt.specs.Replies as replies
use Rattle.node_prompt.proofs.lines.add_routes.Given as goal

abbrev pub invariant-loop-route : goal.invariant-loop-route
invariant-loop-route l = record {
  text : l.reply.items ≡ l.fn.reply.items ++ ended (codes "Routes:") ++ flat_map replies.neighbour_line (take l.route-index l.neighbours);
  len : length l.reply.items ≤ 26 + 14 * l.route-index;
}
