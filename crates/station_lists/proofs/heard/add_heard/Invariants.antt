use Rattle.std.proofs.Common.{◌≡◌, ◌++◌, drop}
use Rattle.std.specs.Prelude.{flat_map}
use Rattle.station_lists.specs.Lists as lists
use Rattle.station_lists.proofs.heard.add_heard.Given as goal

abbrev pub invariant-loop-one : goal.invariant-loop-one
invariant-loop-one l = l.reply ++ flat_map (lists.heard_line l.now.0) (drop l.one-index l.heard) ≡ l.fn.reply ++ (lists.heard_head l.name) ++ flat_map (lists.heard_line l.now.0) l.heard
