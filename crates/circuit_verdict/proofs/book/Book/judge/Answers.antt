use Rattle.std.specs.Option.{option_copied}
use Rattle.std.proofs.lemmas.Result.{IfOk-weaker}
use Rattle.circuit_verdict.proofs.Judged.{judged_heeded, judged_made, sendings_later}
use Rattle.circuit_verdict.proofs.book.Book.judge.Goals as goal

pub returns-in-Made : goal.returns-in-Made
returns-in-Made c =
    IfOk-weaker c.made.result _ _
    (λ why told b lost s.
    rw c.in-Made.is
    (judged_made c.args.allowance b lost c.args.event.now.node c.args.event.now.own c.in-Made.id c.in-Made.pair c.in-Made.partner (option_copied c.in-Made.request) why
    c.made.new.self (told b lost s.parts c.in-Made.partner)))
    c.made.ensures

pub returns-in-Heeded : goal.returns-in-Heeded
returns-in-Heeded c =
    IfOk-weaker c.heeded.result _ _
    (λ why told b lost s.
    rw c.in-Heeded.is
    (judged_heeded c.args.allowance b lost c.args.event.now.node c.args.event.now.own c.in-Heeded.id c.in-Heeded.datagram.now why
    c.heeded.new.self (told b lost s.parts c.args.event.now.own)))
    c.heeded.ensures

pub returns-in-Notice : goal.returns-in-Notice
returns-in-Notice c b lost s =
    rw c.in-Notice.is (record {
      timely = tt;
      fresh = tt;
      parts = record { ends = c.notice.ensures b.made lost s.parts.ends; sendings = sendings_later _ _ _ _ s.parts.sendings };
    })

pub returns-in_ok-lose-in-Lost : goal.returns-in_ok-lose-in-Lost
returns-in_ok-lose-in-Lost c b lost s =
    rw c.in-Lost.is (record {
      timely = tt;
      fresh = tt;
      parts = record { ends = c.in_ok-lose-in-Lost.ensures b.made lost s.parts.ends; sendings = sendings_later _ _ _ _ s.parts.sendings };
    })

pub returns-in-Gone : goal.returns-in-Gone
returns-in-Gone c b lost s =
    rw c.in-Gone.is (record {
      timely = tt;
      fresh = tt;
      parts = record { ends = s.parts.ends; sendings = sendings_later _ _ _ _ s.parts.sendings };
    })

pub returns-in-Restarted : goal.returns-in-Restarted
returns-in-Restarted c b lost s =
    rw c.in-Restarted.is (record {
      timely = tt;
      fresh = tt;
      parts = record { ends = s.parts.ends; sendings = sendings_later _ _ _ _ s.parts.sendings };
    })
