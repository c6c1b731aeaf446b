use Rattle.std.proofs.Common.{◌≡◌, ◌<◌, ◌∙◌, sym, ap, subst, length, arith, ◌-◌, ◌+◌}
use Rattle.std.specs.Prelude.{◌||◌}
use Rattle.station_members.specs.Standing.{PlaneStands}
use Rattle.station_members.specs.States.{has_frames, send_waiting, sends_from}
use Rattle.station_members.proofs.Loops.{each_end, each_next, or_more, sends_end, sends_next}
use Rattle.station_members.proofs.NodesStand.{same_length}
use Rattle.station_members.proofs.backplane.Backplane.send_all.Goals as goal

pub loop-at-preserved : goal.loop-at-preserved
loop-at-preserved c = λ s t.
    let i = c.loop-at.invariant s t in
    let now = c.args.now in
    let at = c.loop-at.at in
    let same = same_length c.args.self.now.nodes.items s.nodes t.nodes in
    let h : at < length s.nodes = omega (arith, same, c.loop-at-test.true, c.len-at-end.ensures) in
    let more = or_more c.loop-at.sent (has_frames at i.0) (sends_from now (at + 1) (length s.nodes - (at + 1)) (send_waiting now at i.0)) in
    let any = ap (λ b. (c.loop-at.sent || b) || sends_from now (at + 1) (length s.nodes - (at + 1)) (send_waiting now at i.0)) (c.in_ok-any.ensures.sent i.0 i.1) in
    let all = ap (λ b. b || sends_from now (at + 1) (length s.nodes - (at + 1)) (send_waiting now at i.0)) c.either-sent.ensures in (
      send_waiting now at i.0,
      c.in_ok-any.ensures.goes i.0 i.1,
      (
        sym (each_next (send_waiting now) at (length s.nodes) i.0 h) ∙ i.2.0,
        all ∙ (any ∙ (more ∙ (sym (ap (λ b. c.loop-at.sent || b) (sends_next now at (length s.nodes) i.0 h)) ∙ i.2.1))),
      ),
    )

pub returns-clause-goes : goal.returns-clause-goes
returns-clause-goes c = λ s t.
    let i = c.loop-at.invariant s t in
    let at = c.loop-at.at in
    let same = same_length c.args.self.now.nodes.items s.nodes t.nodes in
    let none : length s.nodes - at ≡ 0 = omega (arith, same, c.loop-at-test.false, c.len-at-end.ensures) in
    subst (λ v. PlaneStands c.loop-at.self v) (sym (each_end (send_waiting c.args.now) at (length s.nodes - at) i.0 none) ∙ i.2.0) i.1

pub returns-clause-sent : goal.returns-clause-sent
returns-clause-sent c = λ s t.
    let i = c.loop-at.invariant s t in
    let at = c.loop-at.at in
    let same = same_length c.args.self.now.nodes.items s.nodes t.nodes in
    let none : length s.nodes - at ≡ 0 = omega (arith, same, c.loop-at-test.false, c.len-at-end.ensures) in
    sends_end c.args.now at (length s.nodes - at) i.0 c.loop-at.sent none ∙ i.2.1
