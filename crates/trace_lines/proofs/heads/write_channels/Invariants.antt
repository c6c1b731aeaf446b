use Rattle.std.proofs.Common.{◌≡◌, ◌++◌, take}
use Rattle.std.specs.Prelude.{flat_map}
use Rattle.trace_lines.specs.Heads.{channel_line}
use Rattle.trace_lines.proofs.heads.write_channels.Given as goal

abbrev pub invariant-loop-channel : goal.invariant-loop-channel
invariant-loop-channel l = l.out ≡ l.fn.out ++ flat_map channel_line (take l.channel-index l.channels)
