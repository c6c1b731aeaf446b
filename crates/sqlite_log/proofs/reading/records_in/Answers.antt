use Rattle.std.proofs.Common.{◌≡◌, ◌<◌, ◌+◌, ◌++◌, [], ◌∷◌, length, take, Some, sym, ap, subst, subst₂, ◌∙◌, arith, rules}
use Rattle.std.proofs.lemmas.List.{take_more, length-take}
use Rattle.sqlite_log.specs.Reading.{record_at, AreReadAs}
use Rattle.sqlite_log.proofs.Readable.{reads_push}
use Rattle.sqlite_log.proofs.reading.records_in.Goals as goal

pub loop-row-preserved : goal.loop-row-preserved
loop-row-preserved c =
    let i = c.loop-row.row-index in
    let all = c.args.found.now in
    let one = c.row-item.result in
    let e = c.in-Some.entry in
    let inside : i < length all = search rules in
    let step : take (i + 1) all ≡ take i all ++ one ∷ [] = take_more all i one inside ∙ ap (λ x. take i all ++ x ∷ []) (search rules) in
    let here : record_at (c.loop-row.place + 1) one ≡ Some e = search rules in
    let place : c.loop-row.place + 1 ≡ 1 + length (take i all) = omega (arith, c.loop-row.invariant.place, length-take i all) in
    let pushed = reads_push 1 (take i all) c.loop-row.records.items one e c.loop-row.invariant.read (subst (λ k. record_at k one ≡ Some e) place here) in
    record { read = subst₂ (AreReadAs 1) (sym step) (sym c.in_ok-push-in-Some.ensures.items) pushed; place = omega (arith, c.loop-row.invariant.place) }
