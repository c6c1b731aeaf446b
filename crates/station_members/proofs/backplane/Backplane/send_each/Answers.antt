use Rattle.std.proofs.Common.{◌≡◌, ◌∷◌, ◌∙◌, suc, sym, ap, add-one, drop}
use Rattle.std.proofs.Math.Seq.{drop-cons}
use Rattle.station_members.specs.States.{State, send_each, send_one}
use Rattle.station_members.proofs.backplane.Backplane.send_each.Goals as goal

pub loop-frame-preserved : goal.loop-frame-preserved
loop-frame-preserved c = λ s t.
    let i = c.loop-frame.invariant s t in
    let ws = c.args.frames.now in
    let w = c.frame-item.result in
    let k = c.loop-frame.frame-index in
    let now = c.args.now in
    let from = c.args.from in
    let once : State = send_one now from w i.0 in
    let first : drop k ws ≡ w ∷ drop (suc k) ws = drop-cons ws k w c.loop-frame-test.true ∙ ap (λ m. m ∷ drop (suc k) ws) (sym c.frame-item.is) in (
      once,
      c.in_ok-send_one.ensures i.0 i.1,
      ap (λ j. send_each now from (drop j ws) once) (add-one k) ∙ (sym (ap (λ ms. send_each now from ms i.0) first) ∙ i.2),
    )
