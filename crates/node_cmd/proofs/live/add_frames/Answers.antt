use Rattle.std.proofs.Common.{◌≡◌, ◌∙◌, ◌++◌, [], ℕ, List, sym, ap, subst, append_assoc, append-nil}
use Rattle.std.specs.Prelude.{Some, slice_get}
use Rattle.link_table.specs.declared.written.Written.{Written}
use Rattle.node_core.specs.Standing.{NodeStands}
use Rattle.node_model.specs.States.{NodeState, State, fetch_frame, frames}
use Rattle.node_cmd.specs.Live.{kiss_of, kiss_of_frame}
use Rattle.node_cmd.proofs.Fetched.{all_sent, first_bytes, no_frames, rest}
use Rattle.node_cmd.proofs.live.add_frames.Goals as goal

pub loop-frame-preserved : goal.loop-frame-preserved
loop-frame-preserved c = record {
  told = λ n stands.
      let i = c.loop-frame.invariant.told n stands in
      let f = c.in-Some.frame in
      let s : State = i.0.station in
      let first : Some f ≡ slice_get (frames s) 0 = rw c.in-Some.is at (c.next_frame.ensures.answer i.0 i.1) in (
        record i.0 { station = fetch_frame s },
        c.next_frame.ensures.goes i.0 i.1,
        ap (λ (x : State). record i.0 { station = x }) (rest s) ∙ i.2,
        i.3 ∙ (ap (λ (bytes : List ℕ). c.loop-frame.text ++ bytes) (first_bytes s f c.fetching_empties.ensures.order first)
            ∙ (sym (append_assoc c.loop-frame.text (kiss_of_frame f) (kiss_of (frames (fetch_frame s))))
            ∙ ap (λ (text : List ℕ). text ++ kiss_of (frames (fetch_frame s))) (sym c.in_ok-add_frame.ensures))),
      );
  grows = (
    c.loop-frame.invariant.grows.0 ++ kiss_of_frame c.in-Some.frame,
    c.in_ok-add_frame.ensures ∙ (ap (λ (text : List ℕ). text ++ kiss_of_frame c.in-Some.frame) c.loop-frame.invariant.grows.1
        ∙ append_assoc c.args.text.now c.loop-frame.invariant.grows.0 (kiss_of_frame c.in-Some.frame)),
  );
}

pub returns : goal.returns
returns c = record {
  goes = λ n stands.
      let i = c.loop-frame.invariant.told n stands in
      let s : State = i.0.station in
      let none : frames s ≡ [] = no_frames s (c.in_default.ensures.answer i.0 i.1) in
      subst (λ (x : NodeState). NodeStands c.next_frame.new.self x)
      (ap (λ (x : State). record i.0 { station = x }) (all_sent s c.fetching_empties.ensures.order c.fetching_empties.ensures.frames none) ∙ i.2)
      (c.in_default.ensures.goes i.0 i.1);
  added = λ n stands.
      let i = c.loop-frame.invariant.told n stands in
      let none : frames i.0.station ≡ [] = no_frames i.0.station (c.in_default.ensures.answer i.0 i.1) in
      sym (i.3 ∙ (ap (λ (fs : List Written). c.loop-frame.text ++ kiss_of fs) none ∙ append-nil c.loop-frame.text));
  grows = c.loop-frame.invariant.grows;
}
