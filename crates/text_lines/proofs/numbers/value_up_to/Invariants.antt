use Rattle.std.proofs.Common.{◌≡◌, ◌≤◌, drop}
use Rattle.text_lines.specs.Lines as numbers
use Rattle.text_lines.proofs.numbers.value_up_to.Given as goal

abbrev pub invariant-loop-digit : goal.invariant-loop-digit
invariant-loop-digit l = record {
  told : numbers.value_onto l.value (drop l.digit-index l.digits) ≡ numbers.value_onto 0 l.digits;
  small : l.value ≤ l.most;
}
