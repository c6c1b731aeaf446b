-- A station on a stream, one read more.
use Rattle.std.proofs.Common.{◌≡◌, ◌∙◌, ◌++◌, ◌∷◌, [], ℕ, List, refl, sym, ap, append_assoc, append-nil}
use Rattle.cmd_streams.specs.Streams.{Read}
use Rattle.station_live.specs.Lives.{Live, sent_at, told_at}
use Rattle.station_run.specs.Living.{after, after_reads, moment_of, sent_by, told_by}

pub after_more : (reads : List Read) (read : Read) (l : Live) → after_reads (reads ++ read ∷ []) l ≡ after read (after_reads reads l)
after_more [] read l = refl
after_more (first ∷ later) read l = after_more later read (after first l)

pub sent_more : (reads : List Read) (read : Read) (l : Live) → sent_by (reads ++ read ∷ []) l ≡ sent_by reads l ++ sent_at read.bytes (moment_of read) (after_reads reads l)
sent_more [] read l = append-nil (sent_at read.bytes (moment_of read) l)
sent_more (first ∷ later) read l =
    ap (λ (xs : List ℕ). sent_at first.bytes (moment_of first) l ++ xs) (sent_more later read (after first l))
    ∙ sym (append_assoc (sent_at first.bytes (moment_of first) l) (sent_by later (after first l)) (sent_at read.bytes (moment_of read) (after_reads later (after first l))))

pub told_more : (reads : List Read) (read : Read) (l : Live) → told_by (reads ++ read ∷ []) l ≡ told_by reads l ++ told_at read.bytes (moment_of read) (after_reads reads l) ∷ []
told_more [] read l = refl
told_more (first ∷ later) read l = ap (λ (xs : List (List ℕ)). told_at first.bytes (moment_of first) l ∷ xs) (told_more later read (after first l))
