use Rattle.std.proofs.Common.{◌≡◌, ◌<◌, ◌≤◌, arith, length, get_or}
use Rattle.std.proofs.lemmas.Bool.Decides.{nat_tests}
use Rattle.net_model.specs.declared.members.Member.{Member}
use Rattle.net_world.specs.Running.{course}
use Rattle.net_world.proofs.Looking.{lent_at, lent_none}
use Rattle.net_world.proofs.world.World.node_at.Goals as goal

pub returns : goal.returns
returns c = λ w t.
    let ms = c.args.self.now.members.items in
    let m : Member = c.in_ok-member.member.now in
    let found = rw c.deref.ensures.value at c.in_ok-member.ensures.lookup in
    let h : c.args.at < length ms = found.3.0 in
    let here : m ≡ get_or ms c.args.at m = found.1 in
    lent_at (course c.args.self.now) w c.args.at m h here t

pub returns-in_err-member : goal.returns-in_err-member
returns-in_err-member c = rw c.from_residual.ensures (λ w t.
    let far = rw c.deref.ensures.value at c.in_err-member.ensures.lookup in
    let h : length c.args.self.now.members.items ≤ c.args.at = grind (arith, nat_tests, far) in
    lent_none (course c.args.self.now) w c.args.at h t)
