use Rattle.std.proofs.Common.{◌≡◌, ◌++◌, ◌-◌}
use Rattle.network_soak.specs.Files as files
use Rattle.network_soak.proofs.file.write_drawn.Given as goal

-- what is written and what is left to be drawn is all
abbrev pub invariant-loop-nth : goal.invariant-loop-nth
invariant-loop-nth l = l.text.items ++ files.drawn_text l.nth (301 - l.nth) l.draws.x ≡ l.fn.text.items ++ files.drawn_text 1 300 l.seed
