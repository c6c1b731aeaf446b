use Rattle.std.proofs.Common.{◌∙◌, sym}
use Rattle.node_core.proofs.AtEnds.{closes_free, no_close, no_take, no_write, takes_free, writes_free}
use Rattle.node_core.proofs.station.Station.do_act.Goals.{in-Close, in-Close-2, in-Take, in-Take-2, in-Write-2, in-Write-2-2}
use Rattle.node_core.proofs.station.Station.do_act.Goals as goal

pub returns-in-Close : goal.returns-in-Close
returns-in-Close c =
    elim c.in-Close-1.branch [
      | in-Close w ↦ λ a n h told.
          closes_free c.close.new.self c.close.result c.args.now.0 n c.args.act.now w.in-Write.id w.in-Close.id w.in-Write.is
          (sym (w.is_kept_from.ensures n (h, told)) ∙ w.if-is_kept_from.false) w.in-Close.is (rw w.id-is at (c.close.ensures a n h told))
      | in-Close-2 w ↦ no_close c.args.act.now w.in-Close.id w.in-TakeText.is w.in-Close.is
    ]

pub returns-in-Take : goal.returns-in-Take
returns-in-Take c =
    elim c.in-Take-1.branch [
      | in-Take w ↦ λ a n h told.
          takes_free c.take.new.self c.take.result c.args.now.0 n c.args.act.now w.in-Write.id w.in-Take.id w.in-Write.is
          (sym (w.is_kept_from.ensures n (h, told)) ∙ w.if-is_kept_from.false) w.in-Take.is (rw w.id-is at (c.take.ensures a n h told))
      | in-Take-2 w ↦ no_take c.args.act.now w.in-Take.id w.in-TakeText.is w.in-Take.is
    ]

pub returns-in-Write-2 : goal.returns-in-Write-2
returns-in-Write-2 c =
    elim c.in-Write-2-1.branch [
      | in-Write-2 w ↦ λ a n h told.
          writes_free c.write.new.self c.write.result c.args.now.0 n c.args.act.now w.in-Write.id w.in-Write-2.id w.in-Write.is
          (sym (w.is_kept_from.ensures n (h, told)) ∙ w.if-is_kept_from.false) w.in-Write-2.message w.in-Write-2.is
          (rw (w.id-is, w.message-is) at (c.write.ensures a n h told))
      | in-Write-2-2 w ↦ no_write c.args.act.now w.in-Write-2.id w.in-Write-2.message w.in-TakeText.is w.in-Write-2.is
    ]
