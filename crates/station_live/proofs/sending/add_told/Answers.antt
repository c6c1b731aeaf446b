use Rattle.std.proofs.Common.{◌≡◌, ◌<◌, ◌++◌, ◌∙◌, List, ℕ, ap, append_assoc, arith, drop, length, min, sym, take}
use Rattle.std.proofs.lemmas.Bool.Decides.{nat_tests}
use Rattle.std.proofs.lemmas.List.{take_rest}
use Rattle.station_live.specs.Lives.{piece_text, told_frames}
use Rattle.station_live.proofs.Pieces.{told_next}
use Rattle.station_live.proofs.sending.add_told.Goals as goal

pub loop-rest-preserved : goal.loop-rest-preserved
loop-rest-preserved c =
    let console = c.args.console in
    let text : List ℕ = c.loop-rest.text in
    let rest : List ℕ = c.loop-rest.rest.now in
    let count : ℕ = c.min-count.result in
    let some : 0 < length c.loop-rest.rest.now = grind (arith, nat_tests, c.is_empty.ensures, c.loop-rest-test.true) in
    let least : c.min-count.result ≡ min (length c.loop-rest.rest.now) 1000 = omega (arith, c.min-count.ensures) in
    ap (λ (xs : List ℕ). c.add_piece.new.text ++ told_frames console xs) (take_rest rest count)
    ∙ (ap (λ (front : List ℕ). front ++ told_frames console (drop count rest)) c.in_ok-add_piece.ensures
    ∙ (append_assoc text (piece_text console (take count rest)) (told_frames console (drop count rest))
    ∙ (sym (ap (λ (frames : List ℕ). text ++ frames) (told_next console count rest some least)) ∙ c.loop-rest.invariant)))
