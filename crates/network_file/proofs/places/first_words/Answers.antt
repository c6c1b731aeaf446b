use Rattle.std.proofs.Common.{ℕ, List, sym}
use Rattle.std.proofs.lemmas.List.{take-map}
use Rattle.std.specs.Borrow.{Bor}
use Rattle.network_file.proofs.places.first_words.Goals as goal

pub returns-then-count-words : goal.returns-then-count-words
returns-then-count-words c = sym (take-map (λ (w : Bor (List ℕ)). w.now) c.args.count c.args.words.now)
