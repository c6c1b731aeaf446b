use Rattle.circuit_set.proofs.Given.{made_are_given, made_differ}
use Rattle.circuit_set.proofs.laws.made_are_given.Goals as goal

pub returns : goal.returns
returns c = record { given = made_are_given; differ = made_differ }
