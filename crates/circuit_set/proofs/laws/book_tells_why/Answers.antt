use Rattle.circuit_set.proofs.Signs.{held_by_book, overtaken_by_book, too_many_by_book, unasked_by_book, unsent_by_book}
use Rattle.circuit_set.proofs.laws.book_tells_why.Goals as goal

pub returns : goal.returns
returns c = record {
  unsent = unsent_by_book;
  overtaken = overtaken_by_book;
  many = too_many_by_book;
  unasked = unasked_by_book;
  held = held_by_book;
}
