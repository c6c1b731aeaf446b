use Rattle.std.proofs.Common.{◌≡◌, ◌≤◌, ◌+◌, ◌*◌, ◌++◌, length, take}
use Rattle.std.specs.Prelude.{codes}
use Rattle.std.specs.List.{flat_map}
use Rattle.ax_address.specs.Callsign as calls
use Rattle.ax_frame.specs.FrameText as texts
use Rattle.ax_frame.proofs.show.push_head.Given as goal

abbrev pub invariant-loop-repeater : goal.invariant-loop-repeater
invariant-loop-repeater l = record {
  text : l.line.bytes ≡ calls.shown l.head.source.call ++ codes ">" ++ calls.shown l.head.dest.call ++ flat_map texts.repeater_text (take l.repeater-index l.head.path.items);
  len : length l.line.bytes ≤ 19 + 11 * l.repeater-index;
}
