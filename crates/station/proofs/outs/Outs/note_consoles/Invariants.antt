use Rattle.std.proofs.Common.{◌≡◌, ◌+◌, ◌++◌}
use Rattle.station.specs.Outs.{consoles}
use Rattle.station.proofs.outs.Outs.note_consoles.Given as goal

abbrev pub invariant-loop : goal.invariant-loop
invariant-loop l = (l.self.waiting.items ≡ l.fn.self.waiting.items ++ consoles l.counter) × (l.self.consoles ≡ l.fn.self.consoles + l.counter)
