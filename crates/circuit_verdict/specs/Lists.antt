-- The list that is held for a key: an empty one for a key for which nothing was put in.
use Rattle.std.specs.Prelude.{List, [], Option, Some, None}
use Rattle.std.specs.declared.vec.Vec.{Vec}

abbrev pub list_in : {V A : Type 0} → Option (Vec V A) → List V
list_in None = []
list_in (Some list) = list.items
