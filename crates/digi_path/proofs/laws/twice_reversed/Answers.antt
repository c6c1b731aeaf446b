use Rattle.digi_path.proofs.WaysBack.{twice_reversed}
use Rattle.digi_path.proofs.laws.twice_reversed.Goals as goal

pub returns : goal.returns
returns c = twice_reversed
