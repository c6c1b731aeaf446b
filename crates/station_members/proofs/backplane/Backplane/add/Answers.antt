use Rattle.std.proofs.Common.{◌≡◌, ◌<◌, sym, subst, length, arith}
use Rattle.station_members.specs.Standing.{PlaneGoes}
use Rattle.station_members.specs.States.{meet_all}
use Rattle.station_members.proofs.Moves.{adds, full, no_room, some_room}
use Rattle.station_members.proofs.backplane.Backplane.add.Goals as goal

pub returns-then-last-ge-MAX_MEMBERS-clause-goes : goal.returns-then-last-ge-MAX_MEMBERS-clause-goes
returns-then-last-ge-MAX_MEMBERS-clause-goes c = full c.args.self.now c.args.config (omega (arith, c.if-last-ge-MAX_MEMBERS.true, c.len-last.ensures))

pub returns-then-last-ge-MAX_MEMBERS-clause-added : goal.returns-then-last-ge-MAX_MEMBERS-clause-added
returns-then-last-ge-MAX_MEMBERS-clause-added c = λ s t. sym (no_room c.args.self.now s (omega (arith, c.if-last-ge-MAX_MEMBERS.true, c.len-last.ensures)) t)

pub returns-clause-goes : goal.returns-clause-goes
returns-clause-goes c =
    let last : c.len-last.result ≡ length c.args.self.now.nodes.items = omega (arith, c.len-last.ensures) in
    let few : length c.args.self.now.nodes.items < 8 = omega (arith, c.if-last-ge-MAX_MEMBERS.false, c.len-last.ensures) in
    adds c.args.self.now c.make.new.self _ c.args.config few c.in_ok-make.ensures (subst (λ n. PlaneGoes (meet_all n) c.make.new.self c.meet_all.new.self) last c.in_ok-meet_all.ensures)

pub returns-clause-added : goal.returns-clause-added
returns-clause-added c = λ s t. sym (some_room c.args.self.now s (omega (arith, c.if-last-ge-MAX_MEMBERS.false, c.len-last.ensures)) t)
