use Rattle.std.proofs.Common.{◌≡◌, ◌≤◌, length}
use Rattle.std.specs.Str.Lines.{lines}
use Rattle.link_life.specs.Lines as scripts
use Rattle.link_life.proofs.script.read_life.Given as goal

abbrev pub invariant-loop-rest : goal.invariant-loop-rest
invariant-loop-rest l = record {
  told : scripts.after_lines l.number l.script (lines l.rest) ≡ scripts.script_of l.bytes;
  few : l.number ≤ 20000;
}

abbrev pub decreases-loop-rest : goal.decreases-loop-rest
decreases-loop-rest l = length l.rest
