-- All at which users of a station are: its members, and what waits for its consoles. Own profile.
use Rattle.std.specs.Prelude.{ℕ, ◌≡◌, List, slice_get, Option}
use Rattle.node_core.specs.Acts.{UserAct}
use Rattle.node_model.specs.States.{NodeState}
use Rattle.radio_base.specs.declared.moment.Moment.{Moment}
use Rattle.station_members.specs.Standing.{MembersStand}
use Rattle.station_members.specs.States as states
use Rattle.station_members.specs.States.{State}
use Rattle.station_places.specs.declared.console_outs.ConsoleOut.{ConsoleOut}
use Rattle.station_places.specs.declared.sides.Sides.{Sides}

pub record SidesState : Type 0 where
  pub members : State
  pub outs : List ConsoleOut  -- what waits for consoles, the oldest first

-- sides whose members stand for those of the state
pub record SidesStand (k : Sides) (s : SidesState) : Type 0 where
  pub members : MembersStand k.members s.members
  pub outs : k.outs ≡ s.outs

-- whatever state they stood for, they stand for the one after the step now
abbrev pub SidesGo : (SidesState → SidesState) → Sides → Sides → Type 0
SidesGo step old new = (s : SidesState) → SidesStand old s → SidesStand new (step s)

-- they stand for the same states as before
abbrev pub SidesStay : Sides → Sides → Type 0
SidesStay old new = (s : SidesState) → SidesStand old s → SidesStand new s

-- the node of the member at a place
abbrev pub node_at : ℕ → SidesState → Option NodeState
node_at member s = slice_get s.members.nodes member

-- something is done with the members
abbrev pub at_members : (State → State) → SidesState → SidesState
at_members step s = record s { members = step s.members }

-- something is done at the member at a place
abbrev pub act : Moment → ℕ → UserAct → SidesState → SidesState
act now member a s = at_members (states.act now member a) s
