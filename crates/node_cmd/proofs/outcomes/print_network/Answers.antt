use Rattle.std.proofs.Common.{rules, ◌≡◌, ◌∙◌, inl, inr, refl, ap, subst, None, Some}
use Rattle.std.specs.Io.KnownBytes.{Appends}
use Rattle.net_model.specs.Circuits.{IsVerdictOn}
use Rattle.net_model.specs.Lines.{world}
use Rattle.node_cmd.specs.Outcomes.{text_of}
use Rattle.net_verdict.proofs.Verdicts.{few_many, in_time_not_late, late_not_in_time}
use Rattle.node_cmd.proofs.outcomes.print_network.Goals as goal

-- the file's first bad line is the one that the note names
pub returns-in-Err-BadLine-clause-ends : goal.returns-in-Err-BadLine-clause-ends
returns-in-Err-BadLine-clause-ends g c =
    let bad = rw c.in-Err-BadLine.field-0-is at c.in-Err-BadLine.ensures.err in
    elim c.refuse_line.ensures.status [
      | inl is ↦ record {
        done = search rules;
        late = search rules;
        done_comes = λ n _. absurd (cc (bad, n.1));
        late_comes = λ n _. absurd (cc (bad, n.1));
        too_long = search rules;
        too_long_comes = λ n. absurd (cc (bad, n.1));
        bad_file = λ _. ((c.in-Err-BadLine.line, c.in-Err-BadLine.what), bad, c.refuse_line.ensures.noted is _ refl);
        bad_file_comes = search rules;
        write_fault = search rules;
        write_front = search rules;
        write_same = search rules;
        others = search rules;
      }
      | inr is ↦ search rules
    ]

-- nothing came back too late
pub returns-in-None-clause-ends : goal.returns-in-None-clause-ends
returns-in-None-clause-ends g c =
    let ok = c.in-Ok.ensures.ok in
    let late = c.in-None.is in
    let verdict : IsVerdictOn ok.0 (world ok.0) None = subst (IsVerdictOn ok.0 (world ok.0)) late ok.2.verdict in
    let text : c.bytes.result.now ≡ text_of c.args.what (world ok.0) None = c.bytes.ensures ∙ (ok.2.text ∙ ap (text_of c.args.what (world ok.0)) late) in
    let written : Appends (g.K.Sink.written c.args.sink.now) (g.K.Sink.written c.write_all.new.sink) (text_of c.args.what (world ok.0) None) =
    subst (Appends (g.K.Sink.written c.args.sink.now) (g.K.Sink.written c.write_all.new.sink)) text c.in-Ok-write_all.ensures.all in
    record {
      done = λ _. (ok.0, ok.1, (record { few = ok.2.few; verdict = verdict; written = written; left = ok.2.trace; retries = ok.3 }, (ok.4 late).0, (ok.4 late).1));
      late = search rules;
      done_comes = search rules;
      late_comes = λ n _. absurd (in_time_not_late c.args.bytes.now ok.0 ok.1 verdict n);
      too_long = search rules;
      too_long_comes = λ n. absurd (few_many c.args.bytes.now ok.0 ok.1 ok.2.few n);
      bad_file = search rules;
      bad_file_comes = λ b. absurd (cc (ok.1, b.1));
      write_fault = search rules;
      write_front = search rules;
      write_same = search rules;
      others = search rules;
    }

-- something did
pub returns-in-Ok-write_all-clause-ends : goal.returns-in-Ok-write_all-clause-ends
returns-in-Ok-write_all-clause-ends g c =
    let ok = c.in-Ok.ensures.ok in
    let late = c.in-Some.is in
    let verdict : IsVerdictOn ok.0 (world ok.0) (Some c.in-Some.field-0) = subst (IsVerdictOn ok.0 (world ok.0)) late ok.2.verdict in
    let text : c.bytes.result.now ≡ text_of c.args.what (world ok.0) (Some c.in-Some.field-0) = c.bytes.ensures ∙ (ok.2.text ∙ ap (text_of c.args.what (world ok.0)) late) in
    let written : Appends (g.K.Sink.written c.args.sink.now) (g.K.Sink.written c.write_all.new.sink) (text_of c.args.what (world ok.0) (Some c.in-Some.field-0)) =
    subst (Appends (g.K.Sink.written c.args.sink.now) (g.K.Sink.written c.write_all.new.sink)) text c.in-Ok-write_all.ensures.all in
    record {
      done = search rules;
      late = λ _. (ok.0, ok.1, (c.in-Some.field-0, record { few = ok.2.few; verdict = verdict; written = written; left = ok.2.trace; retries = ok.3 }));
      done_comes = λ n _. absurd (late_not_in_time c.args.bytes.now ok.0 ok.1 c.in-Some.field-0 verdict n);
      late_comes = search rules;
      too_long = search rules;
      too_long_comes = λ n. absurd (few_many c.args.bytes.now ok.0 ok.1 ok.2.few n);
      bad_file = search rules;
      bad_file_comes = λ b. absurd (cc (ok.1, b.1));
      write_fault = search rules;
      write_front = search rules;
      write_same = search rules;
      others = search rules;
    }
