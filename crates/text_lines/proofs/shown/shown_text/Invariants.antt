use Rattle.std.proofs.Common.{◌≡◌, take, map}
use Rattle.std.specs.Prelude.{string_bytes}
use Rattle.text_lines.specs.Lines.{shown_byte}
use Rattle.text_lines.proofs.shown.shown_text.Given as goal

abbrev pub invariant-loop-byte : goal.invariant-loop-byte
invariant-loop-byte l = string_bytes l.shown ≡ map shown_byte (take l.byte-index l.bytes)
