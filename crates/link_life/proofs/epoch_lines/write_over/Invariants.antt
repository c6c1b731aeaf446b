use Rattle.std.proofs.Common.{◌≡◌, ◌++◌, drop}
use Rattle.link_life.specs.Standing.{epoch_lines_kept}
use Rattle.link_life.proofs.epoch_lines.write_over.Given as goal

abbrev pub invariant-loop-epoch : goal.invariant-loop-epoch
invariant-loop-epoch l = record {
  number : l.number ≡ l.epoch-index;
  text : l.text ++ epoch_lines_kept l.side l.number (drop l.epoch-index l.epochs) ≡ l.fn.text ++ epoch_lines_kept l.side 0 l.epochs;
}
