use Rattle.net_model.proofs.Stores.{called, here, none_here, past}
use Rattle.net_model.proofs.mails.post_at.Goals as goal

pub returns-then-at-members-clause-answer : goal.returns-then-at-members-clause-answer
returns-then-at-members-clause-answer c = λ ps ls h. rw (past c.args.members.now ps ls c.args.at h c.if-at-members.true) tt

pub returns-in-Ok-clause-answer : goal.returns-in-Ok-clause-answer
returns-in-Ok-clause-answer c = λ ps ls h.
    let r = here c.args.members.now ps ls c.args.at c.index-members-at.result h c.if-at-members.false c.in-Some.store c.in-Some.is in
    rw (r.there) (c.in-Ok.ensures.answer r.lists r.stands)

pub returns-in-Ok-clause-goes : goal.returns-in-Ok-clause-goes
returns-in-Ok-clause-goes c = λ ps ls h.
    called c.args.members.now ps ls c.args.at c.in-Some.store c.post.new.self c.index-members-at.result _ h c.if-at-members.false c.in-Some.is c.in-Ok.ensures.posted

pub returns-in-Err-clause-answer : goal.returns-in-Err-clause-answer
returns-in-Err-clause-answer c = λ ps ls h.
    let r = here c.args.members.now ps ls c.args.at c.index-members-at.result h c.if-at-members.false c.in-Some.store c.in-Some.is in
    rw (r.there) (c.in-Err.ensures.answer r.lists r.stands)

pub returns-in-None-clause-answer : goal.returns-in-None-clause-answer
returns-in-None-clause-answer c = λ ps ls h. rw (none_here c.args.members.now ps ls c.args.at c.index-members-at.result h c.if-at-members.false c.in-None.is) tt
