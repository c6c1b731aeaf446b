-- Items, one after another.
use Rattle.std.proofs.Common.{◌≡◌, ◌++◌, ◌∷◌, [], List, refl}
use Rattle.kiss_framing.specs.Stream.{Item}
use Rattle.radio_base.specs.declared.moment.Moment.{Moment}
use Rattle.station.specs.States.{StationState}
use Rattle.station_live.specs.Lives.{after_items, take_item}

-- those of two lists
pub after_both : (now : Moment) (xs ys : List Item) (s : StationState) → after_items now (xs ++ ys) s ≡ after_items now ys (after_items now xs s)
after_both now [] ys s = refl
after_both now (x ∷ xs) ys s = after_both now xs ys (take_item now x s)
