use Rattle.std.proofs.Common.{◌≡◌, ◌∙◌, sym, rules}
use Rattle.std.specs.Prelude.{◌&&◌, is_some, true, false}
use Rattle.std.specs.Option.{option_copied}
use Rattle.circuit_set.specs.Books.{is_unknown}
use Rattle.circuit_verdict.proofs.Judged.{copied_some, having, lacking, sendings_later}
use Rattle.circuit_verdict.proofs.Returns.{faced_fails, unfaced}
use Rattle.circuit_verdict.proofs.book.Book.made.Goals as goal

pub returns-then-lacks_requester : goal.returns-then-lacks_requester
returns-then-lacks_requester c b lost s at fresh =
    let lacks : is_some (option_copied c.args.request) && is_unknown c.in_ok-requester.requester ≡ true = rw (copied_some c.args.request) (search rules) in
    lacking b (option_copied c.args.request) c.in_ok-requester.requester (c.in_ok-requester.ensures b lost s) lacks fresh.0

pub returns-then-is_faced : goal.returns-then-is_faced
returns-then-is_faced c b lost s at fresh =
    let faced = rw c.node.ensures at (sym (c.is_faced.ensures b.made lost s.ends) ∙ c.if-is_faced.true) in
    faced_fails b lost c.args.end.now.node c.args.pair.now faced fresh.1

pub returns : goal.returns
returns c b lost s at =
    let has : is_some (option_copied c.args.request) && is_unknown c.in_ok-requester.requester ≡ false = rw (copied_some c.args.request) (search rules) in
    let found = c.in_ok-requester.ensures b lost s in
    let free = rw c.node.ensures at (sym (c.is_faced.ensures b.made lost s.ends) ∙ c.if-is_faced.false) in (
      (having b (option_copied c.args.request) c.in_ok-requester.requester found has, unfaced b lost c.args.end.now.node c.args.pair.now free),
      record {
        ends = rw (← found) (c.in_ok-make.ensures b.made lost s.ends);
        sendings = sendings_later _ _ _ _ s.sendings;
      },
    )
