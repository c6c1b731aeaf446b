use Rattle.std.proofs.Common.{◌<◌, length, arith}
use Rattle.std.proofs.lemmas.Grind.{common_steps}
use Rattle.ax_segment.proofs.Cutting.{first_given, next_given}
use Rattle.ax_segment.proofs.split.Split.next.Goals as goal

pub returns-then-not-self : goal.returns-then-not-self
returns-then-not-self c = (
  c.segment.ensures.pid,
  rw (← c.self.view_is, c.if-not-self.true, c.segment.ensures.info, c.split_at.ensures.front, c.split_at.ensures.back, c.min.ensures)
      (first_given _ _),
)

pub returns : goal.returns
returns c =
    let some : 0 < length c.self.inside.left.now = grind (arith, common_steps) in (
      c.segment-2.ensures.pid,
      rw (← c.self.view_is, c.if-not-self.false, c.segment-2.ensures.info, c.split_at-2.ensures.front, c.split_at-2.ensures.back, c.min-2.ensures)
          (next_given _ some),
    )
