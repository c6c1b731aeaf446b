use Rattle.network_file.proofs.places.+text_behind.Given as goal

abbrev pub decreases-text_behind : goal.decreases-text_behind
decreases-text_behind l = l.words
