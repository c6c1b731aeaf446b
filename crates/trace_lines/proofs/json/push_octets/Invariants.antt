use Rattle.std.proofs.Common.{◌≡◌, ◌++◌, take}
use Rattle.std.specs.Prelude.{flat_map, string_bytes}
use Rattle.radio_base.specs.Text.{hex_of}
use Rattle.trace_lines.proofs.json.push_octets.Given as goal

abbrev pub invariant-loop-octet : goal.invariant-loop-octet
invariant-loop-octet l = string_bytes l.text ≡ string_bytes l.fn.text ++ flat_map hex_of (take l.octet-index l.octets)
