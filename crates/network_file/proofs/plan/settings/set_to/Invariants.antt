use Rattle.std.proofs.Common.{◌≡◌, drop}
use Rattle.std.specs.Prelude.{find}
use Rattle.network_file.specs.Keys.{is_of}
use Rattle.network_file.proofs.plan.settings.set_to.Given as goal

abbrev pub invariant-loop-setting : goal.invariant-loop-setting
invariant-loop-setting l = find (is_of l.node l.key) (drop l.setting-index l.settings) ≡ find (is_of l.node l.key) l.settings
