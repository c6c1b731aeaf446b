use Rattle.link_table.proofs.Endings.{ends_are_told, texts_are_of_links}
use Rattle.link_table.proofs.laws.ends_are_told.Goals as goal

pub returns-clause-told : goal.returns-clause-told
returns-clause-told c = ends_are_told

pub returns-clause-texts : goal.returns-clause-texts
returns-clause-texts c = texts_are_of_links
