-- What a replay leaves, as its code keeps it, and when it is refused. Own profile.
use Rattle.std.specs.Prelude.{ℕ, ◌<◌, List}
use Rattle.circuit_verdict.specs.declared.allowance.Allowance.{Allowance}
use Rattle.net_model.specs.declared.air.Aired.{Aired}
use Rattle.net_model.specs.declared.ends.EndRecord.{EndRecord}
use Rattle.net_model.specs.declared.events.NumberedEvent.{NumberedEvent}
use Rattle.net_model.specs.declared.members.Member.{Member}
use Rattle.net_model.specs.declared.refusals.ReplayRefusal.{ReplayRefusal}
use Rattle.net_model.specs.declared.refusals.ReplayRefusal.TheVariants.{FramesFull, NoMemory}
use Rattle.net_model.specs.Standing.{Left}
use Rattle.net_model.specs.World.{most_frames}
use Rattle.net_model.specs.declared.trace.Trace.{Trace}

abbrev pub left_with : List Member → List Aired → List (List EndRecord) → List NumberedEvent → Allowance → Left
left_with members air ends events allowance =
    record { members = members; air = air; ends = ends; events = events; allowance = allowance }

abbrev pub left_of : Trace → Left
left_of t = left_with t.members.items t.air t.ends t.events.items t.allowance

-- how many overtakers are too many
abbrev pub allowance_in : Trace → Allowance
allowance_in t = t.allowance

-- what isn't done would have put so many frames in the air, more than may be there, or memory ran out
abbrev pub IsRefusal : ReplayRefusal → ℕ → Type 0
IsRefusal FramesFull count = most_frames < count
IsRefusal NoMemory count = Unit {0}
