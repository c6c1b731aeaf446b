use Rattle.std.proofs.Common.{◌≡◌, ◌++◌, ◌∙◌, ℕ, List, map, sym, subst, ap}
use Rattle.network_file.specs.declared.plan.instructions.NumberedInstruction.{NumberedInstruction}
use Rattle.net_model.specs.Events.{numbered_of}
use Rattle.net_model.specs.declared.members.Member.{Member}
use Rattle.net_model.specs.Standing.{MembersStand}
use Rattle.net_model.specs.Traces.{left_of}
use Rattle.trace_lines.specs.Events.{events_from, repeats}
use Rattle.trace_lines.specs.Marks.{mark_at}
use Rattle.trace_lines.proofs.Joining.{trace_joined}
use Rattle.trace_lines.proofs.traces.trace_text.Goals as goal

pub returns : goal.returns
returns c = λ w trace.
    let left = left_of c.args.trace.now in
    let marks = c.in_ok-marks.marks.items in
    let marked : (line : ℕ) → mark_at marks line ≡ repeats c.args.network.now.instructions line =
    λ line. c.in_ok-marks.ensures line ∙ ap (λ (is : List NumberedInstruction). repeats is line) c.instructions.ensures in
    let events : c.write_events.new.out ≡ c.write_lines.new.out ++ events_from (mark_at marks) left.air 1 (map numbered_of left.events) =
    rw (← c.deref.ensures.value, ← c.frames.ensures, ← c.events.ensures) c.in_ok-write_events.ensures in
    let members : MembersStand c.members.result.now w.nodes w.mails =
    subst (λ (ms : List Member). MembersStand ms w.nodes w.mails) (sym c.members.ensures) trace.members in
    c.into_text.ensures ∙ trace_joined left w c.args.file.now c.args.network.now marks c.args.verdict.late c.args.verdict.cause
    c.new-out.result c.write_network.new.out c.write_lines.new.out c.write_events.new.out c.write_nodes.new.out c.write_verdict.new.out c.write_cause.new.out
    trace marked c.new-out.ensures c.in_ok-write_network.ensures c.in_ok-write_lines.ensures events
    (c.in_ok-write_nodes.ensures w.nodes w.mails members) c.in_ok-write_verdict.ensures c.in_ok-write_cause.ensures
