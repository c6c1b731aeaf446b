use Rattle.std.proofs.Common.{◌≡◌, ◌++◌, take, codes}
use Rattle.std.specs.Prelude.{flat_map, string_bytes}
use Rattle.ax_address.specs.Callsign as calls
use Rattle.trace_lines.specs.Json.{quoted}
use Rattle.trace_lines.proofs.heads.push_calls.Given as goal

abbrev pub invariant-loop-name : goal.invariant-loop-name
invariant-loop-name l = string_bytes l.text ≡ string_bytes l.fn.text ++ flat_map (λ c. codes "," ++ quoted (calls.shown c)) (take l.name-index l.names)
