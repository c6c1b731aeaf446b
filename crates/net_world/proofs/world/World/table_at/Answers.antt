use Rattle.std.proofs.Common.{◌<◌, ◌≤◌, ap, arith, length}
use Rattle.std.specs.Prelude.{Option, Some}
use Rattle.std.specs.Option.{option_map}
use Rattle.network_file.specs.declared.plan.declarations.Declaration.{Declaration}
use Rattle.node_model.specs.States.{NodeState}
use Rattle.net_model.specs.Lines.{table_of}
use Rattle.net_world.specs.Running.{course}
use Rattle.net_model.specs.Starting.{Placed}
use Rattle.net_model.specs.Tables.{Table}
use Rattle.net_world.proofs.Placing.{asked, asked_none, declared_is}
use Rattle.net_world.proofs.world.World.table_at.Goals as goal
use Rattle.net_model.specs.declared.members.Member.{Member}

pub returns-in_ok-table : goal.returns-in_ok-table
returns-in_ok-table c = λ w t.
    let old = course c.args.self.now in
    let at = c.args.at in
    let m : Member = c.index-member.result.now in
    let h : at < length c.args.self.now.members.items = omega (arith, c.if-at-len.true, c.len.ensures) in
    let f : NodeState → Option Table = λ n. Some (table_of (record { declared = m.declared; state = n })) in
    asked old w at m f (option_map table_of) (Some c.in_ok-table.table) h t c.index-member.ensures
    (λ (p : Placed) is. ap (λ (e : Declaration). Some (table_of (record { declared = e; state = p.state }))) (declared_is old w at m p h c.index-member.ensures t is))
    (λ n stands. ap (λ (x : Table). Some x) (c.in_ok-table.ensures n stands))

pub returns-else-at-len : goal.returns-else-at-len
returns-else-at-len c = λ w t.
    let h : length c.args.self.now.members.items ≤ c.args.at = omega (arith, c.if-at-len.false, c.len.ensures) in
    asked_none (course c.args.self.now) w c.args.at (option_map table_of) h t
