-- What a node that is lent shows is what its state shows.
use Rattle.std.proofs.Common.{◌≡◌, refl}
use Rattle.std.specs.Prelude.{Option, Some, None}
use Rattle.node_core.specs.Standing.{Kept, NodeStands}
use Rattle.node_model.specs.States.{NodeState}
use Rattle.station_members.specs.Looks.{LentStands}

pub shown_by : {A : Type 0} (f : Option NodeState → A) (k : Kept) (o : Option NodeState) (a : A) → LentStands (Some k) o
    → ((n : NodeState) → NodeStands k n → a ≡ f (Some n)) → a ≡ f o
shown_by f k None a t h = absurd t
shown_by f k (Some n) a t h = h n t

pub shown_none : {A : Type 0} (f : Option NodeState → A) (o : Option NodeState) → LentStands None o → f None ≡ f o
shown_none f None t = refl
shown_none f (Some n) t = absurd t
