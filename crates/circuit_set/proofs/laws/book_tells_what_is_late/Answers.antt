use Rattle.circuit_set.proofs.ByBook.{fresh_by_book, partners_by_book, timely_by_128, timely_by_book}
use Rattle.circuit_set.proofs.laws.book_tells_what_is_late.Goals as goal

pub returns : goal.returns
returns c = record { fresh = fresh_by_book; timely = timely_by_book; fixed = timely_by_128; partners = partners_by_book }
