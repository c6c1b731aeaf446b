-- The users of a station make a step, and what waits stays.
use Rattle.std.proofs.Common.{◌≡◌, subst}
use Rattle.station_users.specs.Standing.{UsersGo}
use Rattle.station_users.specs.States.{UsersState}
use Rattle.station.specs.declared.works.Works.{Works}
use Rattle.station.specs.Standing.{WorksStand}
use Rattle.station.specs.States.{StationState, at_users}

pub users_go : (step : UsersState → UsersState) (old new : Works) (s : StationState) → UsersGo step old.users new.users → new.outs ≡ old.outs → new.entries ≡ old.entries → WorksStand old s → WorksStand new (at_users step s)
users_go step old new s goes outs entries stands =
    record { users = goes s.users stands.users; outs = rw outs stands.outs; counted = rw outs stands.counted; entries = rw entries stands.entries }

-- a state that is the same
pub same_stands : (w : Works) (s t : StationState) → s ≡ t → WorksStand w s → WorksStand w t
same_stands w s t e stands = subst (λ x. WorksStand w x) e stands
