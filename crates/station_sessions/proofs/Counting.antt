-- The octets of texts that were typed are counted, one text after another.
use Rattle.std.proofs.Common.{◌≡◌, ◌∙◌, ◌≤◌, ◌+◌, ℕ, sym, ap, arith, List, [], ◌∷◌, length}
use Rattle.std.specs.Prelude.{min}
use Rattle.station_sessions.specs.Sessions.{typed_size}

capped : (m b x r : ℕ) → min (min (b + x) m + r) m ≡ min (b + (x + r)) m
capped m b x r = omega arith

pub counts_next : (m size total : ℕ) (text : List ℕ) (rest next : List (List ℕ)) → rest ≡ text ∷ next
    → min (size + typed_size rest) m ≡ total → min (min (size + length text) m + typed_size next) m ≡ total
counts_next m size total text rest next e before =
    capped m size (length text) (typed_size next) ∙ (sym (ap (λ (texts : List (List ℕ)). min (size + typed_size texts) m) e) ∙ before)

pub counts_end : (m size total : ℕ) (rest : List (List ℕ)) → length rest ≡ 0 → size ≤ m → min (size + typed_size rest) m ≡ total → size ≡ total
counts_end m size total [] e fits before = let same : size ≡ min (size + 0) m = omega (arith, fits) in same ∙ before
counts_end m size total (text ∷ rest) e fits before = absurd (omega (arith, e))
