use Rattle.std.proofs.Common.{◌≡◌, ◌+◌, ◌*◌, ◌-◌, ◌∙◌, sym, ap, length, Ok, arith}
use Rattle.std.proofs.lemmas.Result.{err_from_is_err_and}
use Rattle.ax_frame.proofs.Addresses.{first_more, last_more, end_refused, end_here, end_later, end_nowhere}
use Rattle.ax_frame.proofs.read.repeaters.Goals as goal

pub returns-in_err-repeater-clause-judged : goal.returns-in_err-repeater-clause-judged
returns-in_err-repeater-clause-judged c =
    let p = err_from_is_err_and c.from_residual.result c.from_residual.ensures.1 in
    rw (p.1, p.2) (sym c.loop-nth.invariant.judged ∙ end_refused _ _ _ _ (omega arith) c.in_err-repeater.ensures.judged)

pub returns-then-last-clause-judged : goal.returns-then-last-clause-judged
returns-then-last-clause-judged c =
    let last = rw c.if-last.true at c.in_ok-repeater.ensures.judged in
    let len : (14 + 7 * c.loop-nth.nth) + 7 ≡ 14 + 7 * length c.push.new.self.items = omega arith in
    sym c.loop-nth.invariant.judged ∙ (end_here _ _ _ (omega arith) last ∙ ap Ok len)

pub returns-then-last-clause-found : goal.returns-then-last-clause-found
returns-then-last-clause-found c =
    let found = rw c.if-last.true at c.in_ok-repeater.ensures.found in
    rw c.push.ensures.items (last_more 14 (14 + 7 * c.loop-nth.nth) _ _ _ c.loop-nth.invariant.so_far (omega arith) found.0 found.1)

pub loop-nth-preserved : goal.loop-nth-preserved
loop-nth-preserved c =
    let judged = rw c.if-last.false at c.in_ok-repeater.ensures.judged in
    let found = rw c.if-last.false at c.in_ok-repeater.ensures.found in
    let left : 8 - (c.loop-nth.nth + 1) ≡ (8 - c.loop-nth.nth) - 1 = omega arith in
    let next : 14 + 7 * (c.loop-nth.nth + 1) ≡ (14 + 7 * c.loop-nth.nth) + 7 = omega arith in
    record {
      count = omega arith;
      so_far = rw c.push.ensures.items (first_more 14 (14 + 7 * c.loop-nth.nth) _ _ _ c.loop-nth.invariant.so_far (omega arith) found.0 found.1);
      judged = rw (left, next) (sym (end_later _ _ _ (omega arith) judged) ∙ c.loop-nth.invariant.judged);
    }

pub returns-clause-judged : goal.returns-clause-judged
returns-clause-judged c = sym c.loop-nth.invariant.judged ∙ end_nowhere _ _ _ (omega arith)
