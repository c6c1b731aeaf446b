-- What waits for a console is counted, one text after another.
use Rattle.std.proofs.Common.{◌≡◌, ◌∙◌, ◌≤◌, ◌+◌, ℕ, sym, ap, arith, List, [], ◌∷◌, length}
use Rattle.std.specs.Prelude.{min}
use Rattle.station_places.specs.Consoles.{octets_for, octets_in}
use Rattle.station_places.specs.declared.console_outs.ConsoleOut.{ConsoleOut}

capped : (m b x r : ℕ) → min (min (b + x) m + r) m ≡ min (b + (x + r)) m
capped m b x r = omega arith

pub counts_next : (m at bytes total : ℕ) (out : ConsoleOut) (rest next : List ConsoleOut) → rest ≡ out ∷ next
    → min (bytes + octets_for at rest) m ≡ total → min (min (bytes + octets_in at out) m + octets_for at next) m ≡ total
counts_next m at bytes total out rest next e before =
    capped m bytes (octets_in at out) (octets_for at next) ∙ (sym (ap (λ (outs : List ConsoleOut). min (bytes + octets_for at outs) m) e) ∙ before)

pub counts_end : (m at bytes total : ℕ) (rest : List ConsoleOut) → length rest ≡ 0 → bytes ≤ m → min (bytes + octets_for at rest) m ≡ total → bytes ≡ total
counts_end m at bytes total [] e fits before = let same : bytes ≡ min (bytes + 0) m = omega (arith, fits) in same ∙ before
counts_end m at bytes total (out ∷ rest) e fits before = absurd (omega (arith, e))
