-- What the code of a station's members keeps, and for which states it stands.
use Rattle.std.specs.Prelude.{ℕ, ◌≡◌, Bool, false}
use Rattle.node_core.specs.declared.entry.NodeEntry.{NodeEntry}
use Rattle.node_core.specs.Standing.{entry_of}
use Rattle.node_model.specs.States.{Entry}
use Rattle.station_members.specs.declared.backplane.Backplane.{Backplane}
use Rattle.station_members.specs.Desks.{desk_of}
use Rattle.station_members.specs.Nodes.{AllStand}
use Rattle.station_members.specs.States.{State}

-- each node stands for its state, and the desk is that of the state
pub record PlaneStands (p : Backplane) (s : State) : Type 0 where
  pub nodes : AllStand p.nodes.items s.nodes
  pub desk : desk_of p.desk ≡ s.desk

-- Whatever state it stood for, it stands for the one after the step now.
abbrev pub PlaneGoes : (State → State) → Backplane → Backplane → Type 0
PlaneGoes step old new = (s : State) → PlaneStands old s → PlaneStands new (step s)

-- It stands for the same states as before.
abbrev pub PlaneStays : Backplane → Backplane → Type 0
PlaneStays old new = (s : State) → PlaneStands old s → PlaneStands new s

-- an entry with the place of its member
abbrev pub told_by : ℕ × NodeEntry → ℕ × Entry
told_by told = (told.0, entry_of told.1)

-- ---- what contracts see of the members of a station

pub record Kept : Type 0 where
  pub plane : Backplane
  pub spent : Bool  -- memory ran out in an earlier call

abbrev pub view_of : Backplane → Bool → Kept
view_of plane spent = record { plane = plane; spent = spent }

-- Members for whom memory hasn't run out stand for a state between two calls.
pub record MembersStand (k : Kept) (s : State) : Type 0 where
  pub unspent : k.spent ≡ false
  pub plane : PlaneStands k.plane s

abbrev pub MembersGo : (State → State) → Kept → Kept → Type 0
MembersGo step old new = (s : State) → MembersStand old s → MembersStand new (step s)

abbrev pub MembersStay : Kept → Kept → Type 0
MembersStay old new = (s : State) → MembersStand old s → MembersStand new s
