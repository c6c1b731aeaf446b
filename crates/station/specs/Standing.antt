-- What the code of a station keeps, and for which states it stands.
use Rattle.std.specs.Prelude.{ℕ, ◌≡◌, length, Bool, false}
use Rattle.station.specs.declared.works.Works.{Works}
use Rattle.station.specs.Outs.{consoles_in}
use Rattle.station.specs.States.{StationState}
use Rattle.station_users.specs.Standing.{UsersStand}

pub record WorksStand (w : Works) (s : StationState) : Type 0 where
  pub users : UsersStand w.users s.users
  pub outs : w.outs.waiting.items ≡ s.outs
  pub counted : w.outs.consoles ≡ consoles_in s.outs
  pub entries : w.entries.items ≡ s.entries

-- whatever state they stood for, they stand for the one after the step now
abbrev pub WorksGo : (StationState → StationState) → Works → Works → Type 0
WorksGo step old new = (s : StationState) → WorksStand old s → WorksStand new (step s)

-- ---- what contracts see of a station

pub record Kept : Type 0 where
  pub works : Works
  pub spent : Bool  -- memory ran out in an earlier call

abbrev pub view_of : Works → Bool → Kept
view_of works spent = record { works = works; spent = spent }

-- A station for which memory hasn't run out stands for a state between two calls.
pub record StationStand (k : Kept) (s : StationState) : Type 0 where
  pub unspent : k.spent ≡ false
  pub works : WorksStand k.works s

-- how much waits to be fetched
abbrev pub outs_left : Kept → ℕ
outs_left k = length k.works.outs.waiting.items

abbrev pub entries_left : Kept → ℕ
entries_left k = length k.works.entries.items

abbrev pub StationGo : (StationState → StationState) → Kept → Kept → Type 0
StationGo step old new = (s : StationState) → StationStand old s → StationStand new (step s)
