use Rattle.std.proofs.Common.{◌≡◌, ◌≤◌, length, take, map}
use Rattle.digi_path.specs.Paths.{unrepeated}
use Rattle.digi_path.proofs.reversal.reversed.Given as goal

abbrev pub invariant-loop-repeater : goal.invariant-loop-repeater
invariant-loop-repeater l = record {
  so_far : l.back.items ≡ map unrepeated (take l.repeater-index l.repeater-items);
  same : l.repeater-items ≡ l.fn.path.items;
  eight : length l.repeater-items ≤ 8;
}
