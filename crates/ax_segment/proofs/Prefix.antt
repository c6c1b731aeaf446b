-- The messages joined are a prefix of those split.
use Rattle.std.proofs.Common.{◌≡◌, ℕ, zero, suc, ◌<◌, List, [], ◌∷◌, ◌++◌, length, replicate, slice_index_or, refl, ap, sym, ◌∙◌, arith}
use Rattle.std.proofs.lemmas.Grind.{flat_map-append}
use Rattle.ax_segment.specs.Segments.{segments_of, IsSplittable}
use Rattle.ax_segment.specs.Joining.{HeldMessage, Nothing, Answer, More, Whole, join_step, held_after, answers}
use Rattle.ax_segment.specs.Laws.{Message, segments_of_all, whole_in, wholes, JoinedPrefix}
use Rattle.ax_segment.proofs.Joins.{joins_whole}

-- the answers to segments that come in two parts
answers-append : (held : HeldMessage) (first rest : List (List ℕ)) → answers held (first ++ rest) ≡ answers held first ++ answers (held_after held first) rest
answers-append held [] rest = refl
answers-append held (segment ∷ first) rest =
    ap (λ given. (join_step held segment).1 ∷ given) (answers-append (join_step held segment).0 first rest)

wholes-append : (first rest : List Answer) → wholes (first ++ rest) ≡ wholes first ++ wholes rest
wholes-append first rest = flat_map-append whole_in first rest

-- of one message
wholes_of_one : (n pid : ℕ) (message : List ℕ) → wholes (replicate n More ++ Whole pid message ∷ []) ≡ record { pid = pid; bytes = message } ∷ []
wholes_of_one zero pid message = refl
wholes_of_one (suc n) pid message = wholes_of_one n pid message

-- of all messages, where each segment has come
wholes_of_all : (messages : List Message) → ((k : ℕ) (d : Message) → k < length messages → IsSplittable (slice_index_or messages k d).pid (slice_index_or messages k d).bytes) → wholes (answers Nothing (segments_of_all messages)) ≡ messages
wholes_of_all [] each = refl
wholes_of_all (m ∷ rest) each =
    let one = joins_whole m.pid m.bytes (each 0 m (omega arith)) in
    let others = wholes_of_all rest (λ k d h. each (suc k) d (omega arith)) in
    rw (answers-append Nothing (segments_of m.pid m.bytes) (segments_of_all rest), one.left, one.given, wholes-append, wholes_of_one, others) refl

pub joined_prefix : JoinedPrefix
joined_prefix messages each got missing e = (
  wholes (answers (held_after Nothing got) missing),
  sym (ap wholes (answers-append Nothing got missing) ∙ wholes-append (answers Nothing got) _) ∙ ap (λ segments. wholes (answers Nothing segments)) e ∙ wholes_of_all messages each,
)
