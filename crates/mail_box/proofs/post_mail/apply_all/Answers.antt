use Rattle.std.proofs.Common.{◌≡◌, ◌<◌, ◌+◌, ◌++◌, [], ◌∷◌, length, take, sym, ap, refl, subst, ◌∙◌, rules}
use Rattle.std.proofs.lemmas.List.{take_more}
use Rattle.mail_box.specs.Boxes.{Goes, after, after_all}
use Rattle.mail_box.specs.Kept.{AfterAll}
use Rattle.mail_box.proofs.Keeping.{all_push, all_some, all_stops}
use Rattle.mail_box.proofs.post_mail.apply_all.Goals as goal

pub loop-entry-preserved : goal.loop-entry-preserved
loop-entry-preserved c =
    let i = c.loop-entry.entry-index in
    let all = c.args.records.now in
    let one = c.entry-item.result in
    let inside : i < length all = search rules in
    let step : take (i + 1) all ≡ take i all ++ one ∷ [] = take_more all i one inside ∙ ap (λ x. take i all ++ x ∷ []) (search rules) in
    record {
      place = ap (λ n. n + 1) c.loop-entry.invariant.place;
      stands = λ b stood. subst (λ l. AfterAll c.apply.new.self (after_all b l)) (sym step)
          (all_push b (take i all) one c.loop-entry.mails c.apply.new.self (after_all b (take i all)) refl (c.loop-entry.invariant.stands b stood)
          (λ x s. subst (λ t. Goes t c.loop-entry.mails c.apply.new.self (after x one)) c.in-Ok-true.field-0-test (c.in-Ok-true.ensures x s)));
    }

pub returns-in-Ok-false-clause-stopped : goal.returns-in-Ok-false-clause-stopped
returns-in-Ok-false-clause-stopped c b stood =
    let i = c.loop-entry.entry-index in
    let all = c.args.records.now in
    let one = c.entry-item.result in
    let inside : i < length all = search rules in
    let step : take (i + 1) all ≡ take i all ++ one ∷ [] = take_more all i one inside ∙ ap (λ x. take i all ++ x ∷ []) (search rules) in (
      i,
      ap (λ n. n + 1) c.loop-entry.invariant.place,
      record {
        follow = all_some c.loop-entry.mails (after_all b (take i all)) (c.loop-entry.invariant.stands b stood);
        stop = ap (λ l. after_all b l) step
            ∙ all_stops b (take i all) one c.loop-entry.mails c.apply.new.self (after_all b (take i all)) refl (c.loop-entry.invariant.stands b stood)
            (λ x s. subst (λ t. Goes t c.loop-entry.mails c.apply.new.self (after x one)) c.in-Ok-false.field-0-test (c.in-Ok-false.ensures x s));
      },
    )
