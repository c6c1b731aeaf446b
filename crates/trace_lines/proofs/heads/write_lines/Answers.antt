use Rattle.std.proofs.Common.{◌+◌, add-one, arith}
use Rattle.std.specs.Str.Lines.{lines}
use Rattle.trace_lines.proofs.Pieces.{next_line}
use Rattle.trace_lines.proofs.heads.write_lines.Goals as goal

pub loop-rest-preserved : goal.loop-rest-preserved
loop-rest-preserved c =
    let number = c.loop-rest.number in
    record {
      told = next_line c.loop-rest.out c.write_line.new.out number (number + 1) c.first_line.result.0.now (lines c.loop-rest.rest.now) (lines c.first_line.result.1.now) _
          (add-one number) c.first_line.ensures.cut c.in_ok-write_line.ensures c.loop-rest.invariant.told;
      few = omega (arith, c.loop-rest.invariant.few, c.first_line.ensures.shorter);
    }
