use Rattle.std.proofs.Common.{◌∙◌, ap, refl, sym, get_or}
use Rattle.std.specs.Prelude.{Option, Some, slice_set}
use Rattle.std.proofs.lemmas.Result.{err_from_is_err_and}
use Rattle.node_mail.specs.Lists.{StoreView}
use Rattle.net_model.specs.declared.members.Member.{Member}
use Rattle.net_model.proofs.Stores.{called, here, none_here, past, same_set}
use Rattle.net_model.proofs.mails.hear_at.Goals as goal

pub returns-then-at-members : goal.returns-then-at-members
returns-then-at-members c = record {
  answer = λ ps ls h. rw (past c.args.members.now ps ls c.args.at h c.if-at-members.true) refl;
  message = refl;
  goes = λ ps ls h. rw (past c.args.members.now ps ls c.args.at h c.if-at-members.true) h;
  err = tt;
  err_out = tt;
}

pub returns-in_err-heard-in-Some-clause-err : goal.returns-in_err-heard-in-Some-clause-err
returns-in_err-heard-in-Some-clause-err c =
    let p = err_from_is_err_and c.from_residual.result c.from_residual.ensures.1 in
    let ms = c.args.members.now in
    let m : Member = get_or ms c.args.at c.index-members-at.result in
    rw (p.1) (ap (λ (v : StoreView). slice_set ms c.args.at (record m { mail = Some v })) c.in_err-heard-in-Some.ensures.err
    ∙ (ap (λ (o : Option StoreView). slice_set ms c.args.at (record m { mail = o })) (sym c.in-Some.is) ∙ same_set ms c.args.at c.index-members-at.result c.if-at-members.false))

pub returns-in_ok-heard-in-Some : goal.returns-in_ok-heard-in-Some
returns-in_ok-heard-in-Some c = record {
  answer = λ ps ls h. (let r = here c.args.members.now ps ls c.args.at c.index-members-at.result h c.if-at-members.false c.in-Some.store c.in-Some.is in
      rw (r.there) (ap (λ x. Some x) (c.in_ok-heard-in-Some.ensures.answer r.lists r.stands)));
  message = c.in_ok-heard-in-Some.ensures.message;
  goes = λ ps ls h. called c.args.members.now ps ls c.args.at c.in-Some.store c.hear.new.self c.index-members-at.result _ h c.if-at-members.false c.in-Some.is c.in_ok-heard-in-Some.ensures.heard;
  err = tt;
  err_out = tt;
}

pub returns-in-None : goal.returns-in-None
returns-in-None c = record {
  answer = λ ps ls h. rw (none_here c.args.members.now ps ls c.args.at c.index-members-at.result h c.if-at-members.false c.in-None.is) refl;
  message = refl;
  goes = λ ps ls h. rw (same_set c.args.members.now c.args.at c.index-members-at.result c.if-at-members.false, none_here c.args.members.now ps ls c.args.at c.index-members-at.result h c.if-at-members.false c.in-None.is) h;
  err = tt;
  err_out = tt;
}
