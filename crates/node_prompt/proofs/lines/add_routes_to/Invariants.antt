use Rattle.std.proofs.Common.{◌≡◌, ◌≤◌, ◌+◌, ◌*◌, ◌++◌, length, take}
use Rattle.std.specs.Prelude.{codes}
use Rattle.std.specs.List.{flat_map}
use Rattle.ax_address.specs.Callsign as calls
use Rattle.node_prompt.specs.Replies.{ended}
use Rattle.node_prompt.specs.Replies as replies
use Rattle.node_prompt.proofs.lines.add_routes_to.Given as goal

abbrev pub invariant-loop-route : goal.invariant-loop-route
invariant-loop-route l = record {
  text : l.reply.items ≡ l.fn.reply.items ++ ended (codes "Routes to " ++ calls.shown l.dest ++ codes ":") ++ flat_map replies.route_line (take l.route-index l.routes);
  len : length l.reply.items ≤ 39 + 21 * l.route-index;
}
