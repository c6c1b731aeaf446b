use Rattle.std.proofs.Common.{◌≡◌, ◌==◌, ◌∙◌, ap, arith, length, not, vec_len}
use Rattle.station.proofs.Loops.{any_told}
use Rattle.station.specs.States.{reads}
use Rattle.station.proofs.works.Works.read_entries.Goals as goal

pub returns-clause-read : goal.returns-clause-read
unfolding reads
returns-clause-read c = λ s stands.
    let count : vec_len c.fetch_told.new.told ≡ length c.fetch_told.new.told.items = omega arith in
    ap not (c.is_empty.ensures ∙ ap (λ n. n == 0) count) ∙ any_told _ s (c.in_ok-fetch_told.ensures.told s stands)
