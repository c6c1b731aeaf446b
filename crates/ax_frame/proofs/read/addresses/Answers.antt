use Rattle.std.proofs.Common.{◌≡◌, ◌+◌, ◌*◌, ◌∙◌, ap, length, Ok, arith}
use Rattle.std.proofs.lemmas.Result.{err_from_is_err_and}
use Rattle.ax_frame.proofs.Addresses.{head_refused, head_ended, head_goes_on, end_refused, end_here, end_later, more_spelled}
use Rattle.ax_frame.proofs.read.addresses.Goals as goal

pub returns-in_err-dest-clause-judged : goal.returns-in_err-dest-clause-judged
returns-in_err-dest-clause-judged c =
    let p = err_from_is_err_and c.from_residual.result c.from_residual.ensures.1 in
    rw (p.1, p.2) (head_refused _ _ c.in_err-dest.ensures.judged)

pub returns-then-last-clause-judged : goal.returns-then-last-clause-judged
returns-then-last-clause-judged c = head_ended _ (rw c.if-last.true at c.in_ok-dest.ensures.judged)

pub returns-in_err-source-clause-judged : goal.returns-in_err-source-clause-judged
returns-in_err-source-clause-judged c =
    let p = err_from_is_err_and c.from_residual-in_err-source.result c.from_residual-in_err-source.ensures.1 in
    rw (p.1, p.2) (head_goes_on _ (rw c.if-last.false at c.in_ok-dest.ensures.judged) ∙ end_refused 9 7 _ _ (omega arith) c.in_err-source.ensures.judged)

pub returns-then-last-2-clause-judged : goal.returns-then-last-2-clause-judged
returns-then-last-2-clause-judged c =
    head_goes_on _ (rw c.if-last.false at c.in_ok-dest.ensures.judged) ∙ end_here 9 7 _ (omega arith) (rw c.if-last-2.true at c.in_ok-source.ensures.judged)

pub returns-in_err-repeaters-clause-judged : goal.returns-in_err-repeaters-clause-judged
returns-in_err-repeaters-clause-judged c =
    let p = err_from_is_err_and c.from_residual-in_err-repeaters.result c.from_residual-in_err-repeaters.ensures.1 in
    rw (p.1, p.2) (head_goes_on _ (rw c.if-last.false at c.in_ok-dest.ensures.judged)
    ∙ (end_later 9 7 _ (omega arith) (rw c.if-last-2.false at c.in_ok-source.ensures.judged) ∙ c.in_err-repeaters.ensures.judged))

pub returns-clause-judged : goal.returns-clause-judged
returns-clause-judged c =
    let len : 14 + 7 * length c.repeaters.new.path.items ≡ 14 + 7 * c.len.result = omega (arith, c.len.ensures.value) in
    head_goes_on _ (rw c.if-last.false at c.in_ok-dest.ensures.judged)
    ∙ (end_later 9 7 _ (omega arith) (rw c.if-last-2.false at c.in_ok-source.ensures.judged) ∙ (c.in_ok-repeaters.ensures.judged ∙ ap Ok len))

pub returns-clause-found : goal.returns-clause-found
returns-clause-found c =
    let dest = rw c.if-last.false at c.in_ok-dest.ensures.found in
    let source = rw c.if-last-2.false at c.in_ok-source.ensures.found in
    let path = c.in_ok-repeaters.ensures.found in (
      omega (arith, path.within, c.len.ensures.value),
      record {
        calls = (dest.1.is_call, (source.1.is_call, path.calls));
        eight = omega (arith, c.len.ensures.value, c.len.ensures.fits);
        spelled = more_spelled _ _ _ _ _ (omega (arith, c.len.ensures.value)) dest.1 source.1 path;
      },
    )
