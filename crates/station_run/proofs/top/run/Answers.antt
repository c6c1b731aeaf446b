use Rattle.std.proofs.Common.{◌≡◌, refl}
use Rattle.cmd_streams.specs.Told.{output_by, told_by}
use Rattle.station_cmd.specs.Words.{Check, Run, Try, texts_of}
use Rattle.station_run.proofs.Commands.{check_or_run, check_or_try, check_usage, one_check, one_run, one_try, run_or_try, run_usage, try_usage}
use Rattle.station_run.proofs.top.run.Goals as goal

-- ---- `check`

pub returns-in-Some-Check-clause-usage : goal.returns-in-Some-Check-clause-usage
returns-in-Some-Check-clause-usage g c =
    let found = (rw c.in-Some-Check.field-0-is at c.in-Some-Check.ensures).0 in (
      λ e. absurd (check_usage c.in-Some-Check.file.now _ _ _ c.check.result c.check.ensures.ends e),
      λ none. absurd (none (Check c.in-Some-Check.file.now) found),
    )

pub returns-in-Some-Check-clause-usage_noted : goal.returns-in-Some-Check-clause-usage_noted
returns-in-Some-Check-clause-usage_noted g c = λ e. absurd (check_usage c.in-Some-Check.file.now _ _ _ c.check.result c.check.ensures.ends e)

pub returns-in-Some-Check-clause-unwritten : goal.returns-in-Some-Check-clause-unwritten
returns-in-Some-Check-clause-unwritten g c = λ e. absurd (check_usage c.in-Some-Check.file.now _ _ _ c.check.result c.check.ensures.ends e)

pub returns-in-Some-Check-clause-check : goal.returns-in-Some-Check-clause-check
returns-in-Some-Check-clause-check g c = λ file asked.
    let found = (rw c.in-Some-Check.field-0-is at c.in-Some-Check.ensures).0 in
    let same : c.in-Some-Check.file.now ≡ file = one_check (texts_of c.args.words.now) c.in-Some-Check.file.now file found asked in
    rw (← same) c.check.ensures.ends

pub returns-in-Some-Check-clause-run : goal.returns-in-Some-Check-clause-run
returns-in-Some-Check-clause-run g c = λ file pair asked.
    absurd (check_or_run (texts_of c.args.words.now) c.in-Some-Check.file.now file pair (rw c.in-Some-Check.field-0-is at c.in-Some-Check.ensures).0 asked)

pub returns-in-Some-Check-clause-tries : goal.returns-in-Some-Check-clause-tries
returns-in-Some-Check-clause-tries g c = λ files asked.
    absurd (check_or_try (texts_of c.args.words.now) c.in-Some-Check.file.now files (rw c.in-Some-Check.field-0-is at c.in-Some-Check.ensures).0 asked)

-- ---- `run`

pub returns-in-Some-Run-clause-usage : goal.returns-in-Some-Run-clause-usage
returns-in-Some-Run-clause-usage g c =
    let found = (rw c.in-Some-Run.field-0-is at c.in-Some-Run.ensures).0 in (
      λ e. absurd (run_usage c.in-Some-Run.file.now c.in-Some-Run.pair _ _ _ _ c.run_file.result c.run_file.ensures.ends e),
      λ none. absurd (none (Run c.in-Some-Run.file.now c.in-Some-Run.pair) found),
    )

pub returns-in-Some-Run-clause-usage_noted : goal.returns-in-Some-Run-clause-usage_noted
returns-in-Some-Run-clause-usage_noted g c = λ e. absurd (run_usage c.in-Some-Run.file.now c.in-Some-Run.pair _ _ _ _ c.run_file.result c.run_file.ensures.ends e)

pub returns-in-Some-Run-clause-unread : goal.returns-in-Some-Run-clause-unread
returns-in-Some-Run-clause-unread g c = λ e. absurd (run_usage c.in-Some-Run.file.now c.in-Some-Run.pair _ _ _ _ c.run_file.result c.run_file.ensures.ends e)

pub returns-in-Some-Run-clause-unwritten : goal.returns-in-Some-Run-clause-unwritten
returns-in-Some-Run-clause-unwritten g c = λ e. absurd (run_usage c.in-Some-Run.file.now c.in-Some-Run.pair _ _ _ _ c.run_file.result c.run_file.ensures.ends e)

pub returns-in-Some-Run-clause-check : goal.returns-in-Some-Run-clause-check
returns-in-Some-Run-clause-check g c = λ file asked.
    absurd (check_or_run (texts_of c.args.words.now) file c.in-Some-Run.file.now c.in-Some-Run.pair asked (rw c.in-Some-Run.field-0-is at c.in-Some-Run.ensures).0)

pub returns-in-Some-Run-clause-run : goal.returns-in-Some-Run-clause-run
returns-in-Some-Run-clause-run g c = λ file pair asked.
    let found = (rw c.in-Some-Run.field-0-is at c.in-Some-Run.ensures).0 in
    let same = one_run (texts_of c.args.words.now) c.in-Some-Run.file.now file c.in-Some-Run.pair pair found asked in
    rw (← same.0, ← same.1) c.run_file.ensures.ends

pub returns-in-Some-Run-clause-tries : goal.returns-in-Some-Run-clause-tries
returns-in-Some-Run-clause-tries g c = λ files asked.
    absurd (run_or_try (texts_of c.args.words.now) c.in-Some-Run.file.now c.in-Some-Run.pair files (rw c.in-Some-Run.field-0-is at c.in-Some-Run.ensures).0 asked)

pub returns-in-Some-Run-clause-sourceless : goal.returns-in-Some-Run-clause-sourceless
returns-in-Some-Run-clause-sourceless g c = λ file asked.
    absurd (check_or_run (texts_of c.args.words.now) file c.in-Some-Run.file.now c.in-Some-Run.pair asked (rw c.in-Some-Run.field-0-is at c.in-Some-Run.ensures).0)

-- ---- `try`

pub returns-in-Some-Try-clause-usage : goal.returns-in-Some-Try-clause-usage
returns-in-Some-Try-clause-usage g c =
    let found = (rw c.in-Some-Try.field-0-is at c.in-Some-Try.ensures).0 in (
      λ e. absurd (try_usage (texts_of c.in-Some-Try.files.now) _ _ _ _ c.try_files.result c.try_files.ensures.ends e),
      λ none. absurd (none (Try (texts_of c.in-Some-Try.files.now)) found),
    )

pub returns-in-Some-Try-clause-usage_noted : goal.returns-in-Some-Try-clause-usage_noted
returns-in-Some-Try-clause-usage_noted g c = λ e. absurd (try_usage (texts_of c.in-Some-Try.files.now) _ _ _ _ c.try_files.result c.try_files.ensures.ends e)

pub returns-in-Some-Try-clause-unread : goal.returns-in-Some-Try-clause-unread
returns-in-Some-Try-clause-unread g c = λ e. absurd (try_usage (texts_of c.in-Some-Try.files.now) _ _ _ _ c.try_files.result c.try_files.ensures.ends e)

pub returns-in-Some-Try-clause-unwritten : goal.returns-in-Some-Try-clause-unwritten
returns-in-Some-Try-clause-unwritten g c = λ e. absurd (try_usage (texts_of c.in-Some-Try.files.now) _ _ _ _ c.try_files.result c.try_files.ensures.ends e)

pub returns-in-Some-Try-clause-check : goal.returns-in-Some-Try-clause-check
returns-in-Some-Try-clause-check g c = λ file asked.
    absurd (check_or_try (texts_of c.args.words.now) file (texts_of c.in-Some-Try.files.now) asked (rw c.in-Some-Try.field-0-is at c.in-Some-Try.ensures).0)

pub returns-in-Some-Try-clause-run : goal.returns-in-Some-Try-clause-run
returns-in-Some-Try-clause-run g c = λ file pair asked.
    absurd (run_or_try (texts_of c.args.words.now) file pair (texts_of c.in-Some-Try.files.now) asked (rw c.in-Some-Try.field-0-is at c.in-Some-Try.ensures).0)

pub returns-in-Some-Try-clause-tries : goal.returns-in-Some-Try-clause-tries
returns-in-Some-Try-clause-tries g c = λ files asked.
    let found = (rw c.in-Some-Try.field-0-is at c.in-Some-Try.ensures).0 in
    let same = one_try (texts_of c.args.words.now) (texts_of c.in-Some-Try.files.now) files found asked in
    rw (← same) c.try_files.ensures.ends

pub returns-in-Some-Try-clause-sourceless : goal.returns-in-Some-Try-clause-sourceless
returns-in-Some-Try-clause-sourceless g c = λ file asked.
    absurd (check_or_try (texts_of c.args.words.now) file (texts_of c.in-Some-Try.files.now) asked (rw c.in-Some-Try.field-0-is at c.in-Some-Try.ensures).0)

-- ---- words that are no command's

pub returns-in-None-clause-check : goal.returns-in-None-clause-check
returns-in-None-clause-check g c = λ file asked. absurd (c.in-None.ensures (Check file) asked)

pub returns-in-None-clause-run : goal.returns-in-None-clause-run
returns-in-None-clause-run g c = λ file pair asked. absurd (c.in-None.ensures (Run file pair) asked)

pub returns-in-None-clause-tries : goal.returns-in-None-clause-tries
returns-in-None-clause-tries g c = λ files asked. absurd (c.in-None.ensures (Try files) asked)

pub returns-in-None-clause-sourceless : goal.returns-in-None-clause-sourceless
returns-in-None-clause-sourceless g c = λ file asked. absurd (c.in-None.ensures (Check file) asked)
