use Rattle.std.proofs.Common.{◌≡◌, ◌∙◌, sym}
use Rattle.std.proofs.lemmas.List.{append_cancel_left}
use Rattle.frame_lines.specs.Hearing.{by_item, item_of}
use Rattle.look_cmd.proofs.Hearing.{one_more}
use Rattle.look_cmd.proofs.listens.HearerItemTaker.take_item.Goals as goal

pub returns-clause-takes : goal.returns-clause-takes
returns-clause-takes c = λ first before text more grown took.
    let told = (by_item c.args.self.now.listener (item_of c.args.item.now)).1 in
    let same : more ≡ told = append_cancel_left c.args.answer.now more told (sym grown ∙ c.in_ok-hear.ensures.told) in
    one_more first.listener c.args.self.now.listener c.hear.new.self before c.args.item.now text more took c.in_ok-hear.ensures.heard same
