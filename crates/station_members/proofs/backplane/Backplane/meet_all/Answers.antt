use Rattle.std.proofs.Common.{◌≡◌, ◌∙◌, sym, ap, subst, arith, ◌-◌}
use Rattle.station_members.specs.Standing.{PlaneStands}
use Rattle.station_members.specs.States.{each_from, meet_both}
use Rattle.station_members.proofs.Loops.{each_end, each_next}
use Rattle.station_members.proofs.backplane.Backplane.meet_all.Goals as goal

pub loop-at-init : goal.loop-at-init
loop-at-init c = λ s t.
    let last = c.args.last in
    (s, t, (let same : last - 0 ≡ last = omega arith in ap (λ n. each_from (meet_both last) 0 n s) same))

pub loop-at-preserved : goal.loop-at-preserved
loop-at-preserved c = λ s t.
    let i = c.loop-at.invariant s t in
    let last = c.args.last in
    let at = c.loop-at.at in
    (meet_both last at i.0, c.in_ok-meet_both.ensures i.0 i.1, sym (each_next (meet_both last) at last i.0 c.loop-at-test.true) ∙ i.2)

pub returns : goal.returns
returns c = λ s t.
    let i = c.loop-at.invariant s t in
    let last = c.args.last in
    let at = c.loop-at.at in
    let none : last - at ≡ 0 = omega (arith, c.loop-at-test.false) in
    subst (λ v. PlaneStands c.loop-at.self v) (sym (each_end (meet_both last) at (last - at) i.0 none) ∙ i.2) i.1
