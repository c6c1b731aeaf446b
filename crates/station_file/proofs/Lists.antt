-- The items of an array as a list.
use Rattle.std.proofs.Common.{◌≡◌, List, [], ◌∷◌, refl, ap}
use Rattle.toml.specs.Data.{Data}
use Rattle.toml.specs.View.{items_of}
use Rattle.station_file.specs.Values.{items_in}

pub items_in_of : (ds : List Data) → items_in (items_of ds) ≡ ds
items_in_of [] = refl
items_in_of (d ∷ ds) = ap (λ more. d ∷ more) (items_in_of ds)
