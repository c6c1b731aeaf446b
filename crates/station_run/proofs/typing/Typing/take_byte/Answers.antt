use Rattle.std.proofs.Common.{◌≡◌, ◌∙◌, ◌++◌, ◌∷◌, [], ap, append-nil, arith, false, sym}
use Rattle.std.specs.Prelude.{◌==◌}
use Rattle.std.proofs.lemmas.Bool.Decides.{nat_tests}
use Rattle.station_run.specs.Typing.{with_byte}
use Rattle.station_run.proofs.OneByte.{goes_on}
use Rattle.station_run.proofs.typing.Typing.take_byte.Goals as goal

pub returns-in_ok-push : goal.returns-in_ok-push
returns-in_ok-push c = λ s stands.
    let other : (c.args.byte == 10) ≡ false = grind (arith, nat_tests, c.if-byte-eq10.false) in (
      [],
      with_byte c.args.byte s,
      goes_on c.args.byte s (sym stands.over ∙ c.if-self.false) other,
      sym (append-nil c.args.told.now),
      record {
        trial = stands.trial;
        line = c.in_ok-push.ensures.items ∙ ap (λ l. l ++ c.args.byte ∷ []) stands.line;
        lines = stands.lines;
        over = stands.over;
      },
    )
