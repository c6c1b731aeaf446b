-- The events that a verdict takes in are what was told.
use Rattle.std.proofs.Common.{◌≡◌, refl, ap, List, [], ◌∷◌, map}
use Rattle.circuit_table.specs.Events as set_events
use Rattle.circuit_verdict.specs.Verdicts.{events_of}
use Rattle.circuit_verdict.specs.Verdicts as told
use Rattle.circuit_verdict.specs.declared.event.Numbered.{Numbered}
use Rattle.net_model.specs.Circuits.{judged, what_was_told}

pub told_are : (ns : List Numbered) → events_of ns ≡ what_was_told (map judged ns)
told_are [] = refl
told_are (n ∷ ns) = ap (λ (es : List set_events.Event). told.event_of n.event ∷ es) (told_are ns)
