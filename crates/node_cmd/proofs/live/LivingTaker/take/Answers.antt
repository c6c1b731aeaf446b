use Rattle.std.proofs.Common.{◌≡◌, ◌∙◌, ◌++◌, ℕ, List, [], ◌∷◌, sym, ap}
use Rattle.std.proofs.lemmas.List.{append_cancel_left}
use Rattle.node_core.specs.Standing.{NodeStands}
use Rattle.node_model.specs.States.{NodeState}
use Rattle.node_cmd.specs.Live.{HasLived, NodeAtRead, after_read, after_reads, answer_to, fetched}
use Rattle.cmd_streams.specs.Streams.{Read, read_of}
use Rattle.node_cmd.proofs.Fetched.{after_reads-more, answer_to_reads-more, stays-more}
use Rattle.node_cmd.proofs.live.LivingTaker.take.Goals as goal

pub returns-clause-takes : goal.returns-clause-takes
returns-clause-takes c = λ first reads text more grown took n stands within.
    let before : HasLived first c.self.inside.node reads text n = rw (← c.self.view_is) at (took n stands within) in
    let m : NodeState = after_reads reads n in
    let read : Read = read_of c.args.bytes.now c.args.now.0 in
    let fed = c.in_ok-kiss_bytes.ensures.goes m before.stands in
    let ticked = c.in_ok-tick.ensures.goes _ fed in
    let sent_all = c.in_ok-add_frames.ensures.goes (after_read read m) ticked in
    let grows = c.in_ok-add_frames.ensures.added (after_read read m) ticked in
    let same : more ≡ answer_to read m = append_cancel_left c.args.answer.now (more) (answer_to read m) (sym grown ∙ grows) in
    let done : NodeStands c.drop_entries.new.node (fetched (after_read read m)) = c.drop_entries.ensures.goes _ sent_all in
    let kept = c.drop_entries.ensures.kept done.unspent in
    let next : NodeAtRead = record { fed = c.kiss_bytes.new.self; ticked = c.tick.new.self; fetched = c.drop_entries.new.node } in
    record {
      stands = rw (after_reads-more reads read n) done;
      within = kept;
      answer = rw (answer_to_reads-more reads read n) (rw same (ap (λ (xs : List ℕ). xs ++ answer_to read m) before.answer));
      nodes = before.nodes ++ next ∷ [];
      stays = stays-more first before.nodes _ next reads read n before.stays (fed, c.in_ok-kiss_bytes.ensures.kept) (ticked, c.in_ok-tick.ensures.kept)
          (done, kept);
    }
