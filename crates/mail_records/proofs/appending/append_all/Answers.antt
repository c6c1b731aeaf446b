use Rattle.std.proofs.lemmas.Result.{err_from_is_err_and}
use Rattle.std.proofs.Common.{◌≡◌, ◌<◌, ◌≤◌, ◌+◌, ◌++◌, [], ◌∷◌, length, take, inl, inr, arith, append_assoc, sym, ap, ◌∙◌, rules}
use Rattle.std.proofs.lemmas.List.{take_more}
use Rattle.mail_records.proofs.appending.append_all.Goals as goal

pub returns-in_err-append-clause-crash : goal.returns-in_err-append-clause-crash
returns-in_err-append-clause-crash g c clean kept found held may =
    let early = c.append.ensures.honest clean in
    let now = c.loop-entry.invariant.holds early kept held in
    let i = c.loop-entry.entry-index in
    let all = c.args.entries.now in
    let one = c.entry-item.result in
    let inside : i < length all = search rules in
    let step : take (i + 1) all ≡ take i all ++ one ∷ [] = take_more all i one inside ∙ ap (λ x. take i all ++ x ∷ []) (search rules) in
    elim (c.append.ensures.crash clean (kept ++ take i all) found now may) [
      | inl was ↦ let n = c.loop-entry.invariant.crash early kept found held was in (n.0, omega (arith, n.1, inside), n.2)
      | inr more ↦ (i + 1, omega (arith, inside), more ∙ append_assoc kept (take i all) (one ∷ []) ∙ ap (λ l. kept ++ l) (sym step))
    ]

pub returns-in_err-append-clause-cause : goal.returns-in_err-append-clause-cause
returns-in_err-append-clause-cause g c clean =
    let p = err_from_is_err_and c.from_residual.result c.from_residual.ensures.1 in
    let early = c.append.ensures.honest clean in
    let i = c.loop-entry.entry-index in
    let all = c.args.entries.now in
    rw (p.1, p.2) (λ kept held. (i, g.L.Log.faults c.loop-entry.log, c.in_err-append.ensures.cause clean (kept ++ take i all) (c.loop-entry.invariant.holds early kept held)))
