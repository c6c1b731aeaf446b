use Rattle.std.proofs.Common.{◌++◌, ◌∙◌, ap, map}
use Rattle.std.specs.Prelude.{codes}
use Rattle.station_lists.specs.Lists.{ended, user_line}
use Rattle.station_looks.specs.Rows.{user_rows}
use Rattle.station_looks.proofs.Lines.{same_text}
use Rattle.station_looks.proofs.users.see_users.Goals as goal

pub returns : goal.returns
returns c = λ s stand.
    c.in_ok-add_users.ensures
    ∙ ap (λ lines. c.args.text.now ++ (ended (codes "Users:") ++ lines))
    (same_text user_line c.deref.result.now (user_rows c.args.about.now c.args.sessions.now s)
    (ap (map user_line) c.deref.ensures.value ∙ c.in_ok-all.ensures s stand))
