use Rattle.std.proofs.Common.{◌≡◌, ◌++◌, take}
use Rattle.std.specs.Prelude.{flat_map}
use Rattle.trace_lines.specs.Heads.{setting_line}
use Rattle.trace_lines.proofs.heads.write_settings.Given as goal

abbrev pub invariant-loop-setting : goal.invariant-loop-setting
invariant-loop-setting l = l.out ≡ l.fn.out ++ flat_map setting_line (take l.setting-index l.settings)
