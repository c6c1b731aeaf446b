use Rattle.std.proofs.Common.{◌≤◌, length, subst}
use Rattle.net_model.specs.World.{most_frames}
use Rattle.net_model.specs.Lines.{world}
use Rattle.look_cmd.proofs.traces.traced_trace.Goals as goal

pub returns : goal.returns
returns c = λ allowed trace few.
    let plan = c.args.network.now in
    let verdict = c.in_ok-late.ensures plan (world plan) allowed trace in
    record {
      few = subst (λ air. length air ≤ most_frames) trace.air few;
      verdict = verdict;
      cause = c.in_ok-cause.cause;
      caused = c.in_ok-cause.ensures plan allowed trace verdict;
      text_is = c.in_ok-text.ensures (world plan) trace;
    }
