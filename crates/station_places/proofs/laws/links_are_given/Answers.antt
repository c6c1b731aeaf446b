use Rattle.station_places.proofs.Sending as sending
use Rattle.station_places.proofs.laws.links_are_given.Goals as goal

pub returns-clause-pieces : goal.returns-clause-pieces
returns-clause-pieces c = sending.links_are_given

pub returns-clause-taken : goal.returns-clause-taken
returns-clause-taken c = sending.pieces_are_taken
