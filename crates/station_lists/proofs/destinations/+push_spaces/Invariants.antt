use Rattle.station_lists.proofs.destinations.+push_spaces.Given as goal

abbrev pub decreases-push_spaces : goal.decreases-push_spaces
decreases-push_spaces l = l.count
