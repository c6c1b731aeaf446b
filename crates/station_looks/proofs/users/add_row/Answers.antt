use Rattle.std.proofs.Common.{◌∙◌, sym}
use Rattle.std.proofs.lemmas.Result.{on_ok_weaker}
use Rattle.station_lists.specs.Lists.{user_line}
use Rattle.station_looks.specs.Ended.{is_user}
use Rattle.station_looks.specs.Rows.{user_row}
use Rattle.station_looks.proofs.Lines.{no_row_by, row_added_by}
use Rattle.station_looks.proofs.users.add_row.Goals as goal

pub returns-then-is_user : goal.returns-then-is_user
returns-then-is_user c = on_ok_weaker c.push_row.result
    (λ more s stand. row_added_by user_line (is_user s c.args.session.now) c.args.all.now.items c.push_row.new.all.items c.row_of.result
    (user_row c.args.about.now s c.args.session.now) (sym (c.is_user.ensures s stand) ∙ c.if-is_user.true) more (c.row_of.ensures s stand))
    c.push_row.ensures

pub returns-else-is_user : goal.returns-else-is_user
returns-else-is_user c = λ s stand.
    no_row_by user_line (is_user s c.args.session.now) c.args.all.now.items (user_row c.args.about.now s c.args.session.now)
    (sym (c.is_user.ensures s stand) ∙ c.if-is_user.false)
