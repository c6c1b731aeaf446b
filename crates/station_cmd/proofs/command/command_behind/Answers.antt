use Rattle.std.proofs.Common.{◌∷◌, sym, subst}
use Rattle.station_cmd.specs.Words.{IsCommandOf, texts_of}
use Rattle.station_cmd.proofs.Commands.{other_word}
use Rattle.station_cmd.proofs.command.command_behind.Goals as goal

pub returns-then-is_check : goal.returns-then-is_check
returns-then-is_check c =
    subst (λ w. IsCommandOf (w ∷ texts_of c.args.rest.now) c.check_of.result) (sym (c.is_check.ensures.0 c.if-is_check.true)) c.check_of.ensures

pub returns-then-is_run : goal.returns-then-is_run
returns-then-is_run c =
    subst (λ w. IsCommandOf (w ∷ texts_of c.args.rest.now) c.run_of.result) (sym (c.is_run.ensures.0 c.if-is_run.true)) c.run_of.ensures

pub returns-then-is_try : goal.returns-then-is_try
returns-then-is_try c =
    subst (λ w. IsCommandOf (w ∷ texts_of c.args.rest.now) c.try_of.result) (sym (c.is_try.ensures.0 c.if-is_try.true)) c.try_of.ensures

pub returns-else-is_try : goal.returns-else-is_try
returns-else-is_try c =
    other_word c.args.word.now (texts_of c.args.rest.now)
    (λ e. absurd (cc (c.is_check.ensures.1 e, c.if-is_check.false)))
    (λ e. absurd (cc (c.is_run.ensures.1 e, c.if-is_run.false)))
    (λ e. absurd (cc (c.is_try.ensures.1 e, c.if-is_try.false)))
