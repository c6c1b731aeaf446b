use Rattle.std.proofs.Common.{rules, inl, inr, refl}
use Rattle.tool_cmd.proofs.lives.life_of_file.Goals as goal

-- the script's first bad line is the one that the note names
pub returns-in-Err-BadLine-clause-ends : goal.returns-in-Err-BadLine-clause-ends
returns-in-Err-BadLine-clause-ends g c =
    let bad = rw (c.in-Err-BadLine.field-0-is, c.deref.ensures.value) at c.in-Err-BadLine.ensures.err in
    elim c.refuse_line.ensures.status [
      | inl is ↦ record {
        done = search rules;
        complete = search rules;
        read_fault = search rules;
        read_few = search rules;
        read_same = search rules;
        too_long = search rules;
        too_long_comes = search rules;
        bad_file = λ _. (c.in-Ok.bytes.items, c.in-Ok.ensures.all, ((c.in-Err-BadLine.line, c.in-Err-BadLine.what), bad, c.refuse_line.ensures.noted is _ refl));
        bad_file_comes = search rules;
        write_fault = search rules;
        write_front = search rules;
        write_same = search rules;
        others = search rules;
      }
      | inr is ↦ search rules
    ]
