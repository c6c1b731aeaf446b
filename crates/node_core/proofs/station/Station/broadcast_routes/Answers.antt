use Rattle.std.proofs.Common.{◌≡◌, ◌∙◌, ap, arith, map, refl, subst}
use Rattle.std.specs.List.{range_with_len}
use Rattle.node_core.specs.Broadcasts.{frame_count, round_frame, put_all}
use Rattle.node_core.specs.Standing.{Holds}
use Rattle.node_model.specs.States.{State, put}
use Rattle.node_core.proofs.Holding.{put_last, settings_stay}
use Rattle.node_core.proofs.Paging.{map_more}
use Rattle.node_core.proofs.station.Station.broadcast_routes.Goals as goal

pub loop-nth-preserved : goal.loop-nth-preserved
loop-nth-preserved c = λ n h.
    let es = c.in_ok-entries.entries.items in
    let nth = c.loop-nth.nth in
    let frame = round_frame n.settings.call n.settings.alias es in
    let fs = map frame (range_with_len 0 nth) in
    let m : State = put_all fs n in
    let b = c.in_ok-broadcast.ensures m (c.loop-nth.invariant n h) in
    let same : round_frame m.settings.call m.settings.alias c.deref-in-loop-nth.result.now nth ≡ frame nth = rw (settings_stay fs n, c.deref-in-loop-nth.ensures.value) refl in
    rw (← map_more frame nth, put_last fs (frame nth) n) (subst (λ f. Holds c.broadcast.new.self (put f m)) same b)

pub returns : goal.returns
returns c = λ n h.
    let es = c.in_ok-entries.entries.items in
    let all = rw (c.table.ensures, c.router.ensures, h.parts.rules) at (c.in_ok-entries.ensures n.log (rw (c.table.ensures, c.router.ensures) h.parts.log)) in
    let count : c.loop-nth.nth ≡ frame_count es = omega (arith, c.frame_count-nth-end.ensures ∙ ap frame_count c.deref.ensures.value, c.loop-nth-test.false, c.loop-nth.auto.nth-end) in
    rw (← all, ← count) (c.loop-nth.invariant n h)
