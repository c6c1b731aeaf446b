use Rattle.digi_path.proofs.Acting.{acts_by_the_next_repeater}
use Rattle.digi_path.proofs.laws.acts_by_the_next_repeater.Goals as goal

pub returns : goal.returns
returns c = acts_by_the_next_repeater
