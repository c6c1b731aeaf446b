use Rattle.std.proofs.Common.{◌∙◌, ◌++◌, [], ap, append-nil, refl, sym}
use Rattle.station_trial.specs.declared.trial.Came.TheVariants.{Done, Quit, Refused}
use Rattle.station_run.specs.Typing.{note_of, one_more}
use Rattle.station_run.proofs.OneByte.{line_done, line_ends}
use Rattle.station_run.proofs.typing.Typing.end_line.Goals as goal

pub returns-in-Done : goal.returns-in-Done
returns-in-Done c = λ s stands.
    let took = rw c.in-Done.is at (c.in_ok-take_line.ensures s.trial stands.trial) in
    let read = c.deref.ensures.value ∙ (ap (λ v. v.items) c.replace-line.ensures.value ∙ stands.line) in (
      [],
      line_done Done took.0 s,
      line_ends s c.without_return.result.now c.deref.result.now Done took.0 read c.without_return.ensures took.1,
      sym (append-nil c.args.told.now),
      record {
        trial = took.2;
        line = ap (λ v. v.items) c.replace-line.ensures.after ∙ c.new.ensures.items;
        lines = c.saturating_add-self.ensures ∙ ap one_more stands.lines;
        over = c.requires;
      },
    )

pub returns-in-Quit : goal.returns-in-Quit
returns-in-Quit c = λ s stands.
    let took = rw c.in-Quit.is at (c.in_ok-take_line.ensures s.trial stands.trial) in
    let read = c.deref.ensures.value ∙ (ap (λ v. v.items) c.replace-line.ensures.value ∙ stands.line) in (
      [],
      line_done Quit took.0 s,
      line_ends s c.without_return.result.now c.deref.result.now Quit took.0 read c.without_return.ensures took.1,
      sym (append-nil c.args.told.now),
      record {
        trial = took.2;
        line = ap (λ v. v.items) c.replace-line.ensures.after ∙ c.new.ensures.items;
        lines = c.saturating_add-self.ensures ∙ ap one_more stands.lines;
        over = refl;
      },
    )

pub returns : goal.returns
returns c = λ s stands.
    let why = c.in-Refused.why in
    let took = rw c.in-Refused.is at (c.in_ok-take_line.ensures s.trial stands.trial) in
    let read = c.deref.ensures.value ∙ (ap (λ v. v.items) c.replace-line.ensures.value ∙ stands.line) in
    let lines = c.saturating_add-self.ensures ∙ ap one_more stands.lines in (
      note_of (one_more s.lines) (Refused why),
      line_done (Refused why) took.0 s,
      line_ends s c.without_return.result.now c.deref.result.now (Refused why) took.0 read c.without_return.ensures took.1,
      c.in_ok-add_refusal-in-Refused.ensures ∙ ap (λ n. c.args.told.now ++ note_of n (Refused why)) lines,
      record {
        trial = took.2;
        line = ap (λ v. v.items) c.replace-line.ensures.after ∙ c.new.ensures.items;
        lines = lines;
        over = c.requires;
      },
    )
