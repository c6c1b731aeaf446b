use Rattle.std.proofs.Common.{◌≡◌, ◌≤◌, ◌+◌, ◌*◌, ◌++◌, length, take}
use Rattle.std.specs.Prelude.{codes}
use Rattle.std.specs.List.{flat_map}
use Rattle.node_prompt.specs.Replies.{ended}
use Rattle.node_prompt.specs.Replies as replies
use Rattle.node_prompt.proofs.lines.add_users.Given as goal

abbrev pub invariant-loop-user : goal.invariant-loop-user
invariant-loop-user l = record {
  text : l.reply.items ≡ l.fn.reply.items ++ ended (codes "Users:") ++ flat_map replies.user_line (take l.user-index l.users);
  len : length l.reply.items ≤ 25 + 10 * l.user-index;
}
