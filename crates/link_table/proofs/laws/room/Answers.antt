use Rattle.link_table.proofs.Rooms.{offers_take_one, room_takes_texts, texts_are_few}
use Rattle.link_table.proofs.laws.room.Goals as goal

pub returns-clause-few : goal.returns-clause-few
returns-clause-few c = texts_are_few

pub returns-clause-texts : goal.returns-clause-texts
returns-clause-texts c = room_takes_texts

pub returns-clause-offers : goal.returns-clause-offers
returns-clause-offers c = offers_take_one
