use Rattle.std.proofs.Common.{sym, subst}
use Rattle.std.proofs.lemmas.List.{take_all}
use Rattle.net_model.specs.World.{AllSettled}
use Rattle.net_model.proofs.Oldest.{place_at, place_none}
use Rattle.net_model.proofs.air.open_from.Goals as goal

pub returns-then-not-frames-at-clause-place : goal.returns-then-not-frames-at-clause-place
returns-then-not-frames-at-clause-place c = sym (place_at c.args.frames.now c.loop-at.at c.index-frames-at.result c.loop-at-test.true c.loop-at.invariant c.if-not-frames-at.true)

pub returns-clause-place : goal.returns-clause-place
returns-clause-place c = sym (place_none c.args.frames.now (subst AllSettled (take_all c.loop-at.at c.args.frames.now c.loop-at-test.false) c.loop-at.invariant))
