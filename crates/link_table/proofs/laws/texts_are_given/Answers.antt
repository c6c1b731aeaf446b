use Rattle.link_table.proofs.Sending.{texts_are_given}
use Rattle.link_table.proofs.laws.texts_are_given.Goals as goal

pub returns : goal.returns
returns c = texts_are_given
