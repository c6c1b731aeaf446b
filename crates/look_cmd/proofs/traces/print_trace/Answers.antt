use Rattle.std.proofs.Common.{rules, inl, inr, refl, subst, None, Some}
use Rattle.std.specs.Io.KnownBytes.{Appends}
use Rattle.look_cmd.specs.Traced.{IsTraced}
use Rattle.net_verdict.proofs.Verdicts.{few_many, in_time_not_late, late_not_in_time}
use Rattle.look_cmd.proofs.traces.print_trace.Goals as goal

-- the file's first bad line is the one that the note names
pub returns-in-Err-BadLine-clause-ends : goal.returns-in-Err-BadLine-clause-ends
returns-in-Err-BadLine-clause-ends g c =
    let bad = rw c.in-Err-BadLine.field-0-is at c.in-Err-BadLine.ensures.err in
    elim c.refuse_line.ensures.status [
      | inl is ↦ record {
        done = search rules;
        late = search rules;
        done_comes = λ n _. absurd (cc (bad, n.1));
        late_comes = λ n _. absurd (cc (bad, n.1));
        too_long = search rules;
        too_long_comes = λ n. absurd (cc (bad, n.1));
        bad_file = λ _. ((c.in-Err-BadLine.line, c.in-Err-BadLine.what), bad, c.refuse_line.ensures.noted is _ refl);
        bad_file_comes = search rules;
        write_fault = search rules;
        write_front = search rules;
        write_same = search rules;
        others = search rules;
      }
      | inr is ↦ search rules
    ]

-- nothing came back too late
pub returns-in-None-clause-ends : goal.returns-in-None-clause-ends
returns-in-None-clause-ends g c =
    let ok = c.in-Ok.ensures.ok in
    let traced : IsTraced c.args.bytes.now c.in-Ok.traced.text None ok.0 = subst (λ l. IsTraced c.args.bytes.now c.in-Ok.traced.text l ok.0) c.in-None.is ok.2 in
    let written : Appends (g.K.Sink.written c.args.sink.now) (g.K.Sink.written c.write_all.new.sink) c.in-Ok.traced.text =
    subst (Appends (g.K.Sink.written c.args.sink.now) (g.K.Sink.written c.write_all.new.sink)) c.bytes.ensures c.in-Ok-write_all.ensures.all in
    record {
      done = λ _. (ok.0, ok.1, (c.in-Ok.traced.text, traced, written));
      late = search rules;
      done_comes = search rules;
      late_comes = λ n _. absurd (in_time_not_late c.args.bytes.now ok.0 ok.1 traced.verdict n);
      too_long = search rules;
      too_long_comes = λ n. absurd (few_many c.args.bytes.now ok.0 ok.1 traced.few n);
      bad_file = search rules;
      bad_file_comes = λ b. absurd (cc (ok.1, b.1));
      write_fault = search rules;
      write_front = search rules;
      write_same = search rules;
      others = search rules;
    }

-- something did
pub returns-in-Ok-write_all-clause-ends : goal.returns-in-Ok-write_all-clause-ends
returns-in-Ok-write_all-clause-ends g c =
    let ok = c.in-Ok.ensures.ok in
    let late = c.in-Some.field-0 in
    let traced : IsTraced c.args.bytes.now c.in-Ok.traced.text (Some late) ok.0 = subst (λ l. IsTraced c.args.bytes.now c.in-Ok.traced.text l ok.0) c.in-Some.is ok.2 in
    let written : Appends (g.K.Sink.written c.args.sink.now) (g.K.Sink.written c.write_all.new.sink) c.in-Ok.traced.text =
    subst (Appends (g.K.Sink.written c.args.sink.now) (g.K.Sink.written c.write_all.new.sink)) c.bytes.ensures c.in-Ok-write_all.ensures.all in
    record {
      done = search rules;
      late = λ _. (ok.0, ok.1, (late, (c.in-Ok.traced.text, traced, written)));
      done_comes = λ n _. absurd (late_not_in_time c.args.bytes.now ok.0 ok.1 late traced.verdict n);
      late_comes = search rules;
      too_long = search rules;
      too_long_comes = λ n. absurd (few_many c.args.bytes.now ok.0 ok.1 traced.few n);
      bad_file = search rules;
      bad_file_comes = λ b. absurd (cc (ok.1, b.1));
      write_fault = search rules;
      write_front = search rules;
      write_same = search rules;
      others = search rules;
    }
