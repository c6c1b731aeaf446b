use Rattle.std.proofs.Common.{◌≡◌, arith, false, refl}
use Rattle.text_lines.specs.Lines.{value_onto}
use Rattle.std.specs.Prelude.{nat_le}
use Rattle.text_lines.proofs.Values.{over}
use Rattle.text_lines.proofs.numbers.value_up_to.Goals as goal

pub returns-then-value-most : goal.returns-then-value-most
returns-then-value-most c =
    let e : nat_le (value_onto 0 c.args.digits.now) c.args.most ≡ false = over c.args.digits.now c.loop-digit.digit-index c.loop-digit.value c.args.most c.loop-digit-test.true c.loop-digit.invariant.told (omega arith) in
    rw e refl
