use Rattle.std.proofs.Common.{◌∙◌, ◌++◌, sym, ap, subst, append_assoc, append-nil}
use Rattle.std.specs.List.{flat_map}
use Rattle.station.specs.Standing.{StationStand}
use Rattle.station.specs.States.{StationState, fetch_out}
use Rattle.station.proofs.Fetched.{all_fetched, first_out, no_outs, rest_fetched}
use Rattle.station_live.specs.Lives.{out_text, outs_text}
use Rattle.station_live.proofs.sending.add_outs.Goals as goal

pub loop-out-preserved : goal.loop-out-preserved
loop-out-preserved c = λ s stands.
    let i = c.loop-out.invariant s stands in
    let t : StationState = i.0 in
    let out = c.in-Some.out in
    let is = c.in-Some.ensures.answer t i.1 in (
      fetch_out t,
      c.in-Some.ensures.goes t i.1,
      rest_fetched t out is ∙ i.2,
      (ap (λ text. text ++ outs_text (fetch_out t)) c.in_ok-add_out.ensures
          ∙ (append_assoc c.loop-out.text (out_text out) (outs_text (fetch_out t))
          ∙ sym (ap (λ outs. c.loop-out.text ++ flat_map out_text outs) (first_out t out is)))) ∙ i.3,
    )

pub returns : goal.returns
returns c = record {
  goes = λ s stands.
      let i = c.loop-out.invariant s stands in
      subst (λ t. StationStand c.next_out.new.self t) (all_fetched i.0 (c.in_default.ensures.answer i.0 i.1) ∙ i.2) (c.in_default.ensures.goes i.0 i.1);
  added = λ s stands.
      let i = c.loop-out.invariant s stands in
      sym (append-nil c.loop-out.text) ∙ (sym (ap (λ outs. c.loop-out.text ++ flat_map out_text outs) (no_outs i.0 (c.in_default.ensures.answer i.0 i.1))) ∙ i.3);
}
