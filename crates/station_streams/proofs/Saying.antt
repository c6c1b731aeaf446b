-- What is told, one text after another.
use Rattle.std.proofs.Common.{◌++◌, ◌∷◌, [], ℕ, List, refl}
use Rattle.std.specs.Prelude.{Option}
use Rattle.cmd_streams.specs.Told.{Says}
use Rattle.station_streams.specs.Telling.{SaysEach}

-- one text more
pub says-more : (old mid new : Option (List ℕ)) (before between now : ℕ) (texts : List (List ℕ)) (text : List ℕ) → SaysEach old mid before between texts → Says mid new between now text → SaysEach old new before now (texts ++ text ∷ [])
says-more old mid new before between now [] text each says =
    (new, now, rw each.1 at (rw each.0 at says), (refl, refl))
says-more old mid new before between now (t ∷ ts) text each says =
    (each.0, each.1, each.2, says-more each.0 mid new each.1 between now ts text each.3 says)
