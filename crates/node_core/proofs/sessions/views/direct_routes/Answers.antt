use Rattle.std.proofs.Common.{◌∙◌, filter, sym, take}
use Rattle.node_model.specs.Asking as views
use Rattle.node_core.proofs.Seeing.{kept_one, left_out, pushed}
use Rattle.node_core.proofs.sessions.views.direct_routes.Goals as goal
use Rattle.node_core.proofs.sessions.views.direct_routes.Goals.{then-eq, else-eq}

pub loop-route-preserved : goal.loop-route-preserved
loop-route-preserved c =
    let rs = c.args.routes.now in
    let i = c.loop-route.route-index in
    let x = c.route-item.result in
    let before = c.loop-route.invariant in
    elim c.if-eq.branch [
      | then-eq w ↦
          (let more = kept_one views.is_direct rs i x c.loop-route-test.true c.route-item.is (sym c.eq.ensures ∙ w.if-eq.true) in
          let h = w.try_push.ensures in
          rw (w.direct-is, more) (pushed 64 (filter views.is_direct (take i rs)) x c.loop-route.direct w.try_push.new.self w.try_push.result before.0 h.variant.0 h.ok h.full h.err))
      | else-eq w ↦
          (let same = left_out views.is_direct rs i x c.loop-route-test.true c.route-item.is (sym c.eq.ensures ∙ w.if-eq.false) in
          rw (w.direct-is, same) before)
    ]
