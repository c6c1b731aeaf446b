use Rattle.std.proofs.Common.{◌+◌, ◌-◌, ◌∙◌, ◌∷◌, ◌++◌, [], map, refl, sym, ap, append_assoc, append-nil}
use Rattle.std.proofs.lemmas.List.{map-append}
use Rattle.station_members.specs.Standing.{told_by}
use Rattle.station.specs.States.{StationState, all_told, told, told_fetched, without_told}
use Rattle.station_members.specs.States as members
use Rattle.station_users.specs.States.{at_members}
use Rattle.station.proofs.Going.{same_stands, users_go}
use Rattle.station.proofs.Loops.{list_done, list_last, list_next, told_done, told_last, told_next}
use Rattle.station.proofs.works.Works.fetch_told.Goals as goal

pub loop-init : goal.loop-init
loop-init c = λ s stands. (s, stands, refl, ap (λ xs. map told_by xs ++ told 1000000 s) c.requires)

pub loop-preserved : goal.loop-preserved
loop-preserved c = λ s stands.
    let i = c.loop.invariant s stands in
    let t : StationState = i.0 in
    let entry = c.in-Some.entry in
    let is = c.in-Some.ensures.answer t.users i.1.users in
    let items = c.loop.told.items in
    let rest = told (1000000 - (c.loop.counter + 1)) (told_fetched t) in (
      told_fetched t,
      record { users = c.in-Some.ensures.goes t.users i.1.users; outs = i.1.outs; counted = i.1.counted; entries = i.1.entries },
      sym (told_next c.loop.counter t (told_by entry) c.loop-test.true is) ∙ i.2,
      ap (λ xs. map told_by xs ++ rest) c.in_ok-push.ensures.items
          ∙ (ap (λ xs. xs ++ rest) (map-append told_by items (entry ∷ []))
          ∙ (append_assoc (map told_by items) (told_by entry ∷ []) rest
          ∙ (ap (λ xs. map told_by items ++ xs) (sym (list_next c.loop.counter t (told_by entry) c.loop-test.true is)) ∙ i.3))),
    )

pub returns-in_default : goal.returns-in_default
unfolding all_told without_told
returns-in_default c = record {
  goes = λ s stands.
      let i = c.loop.invariant s stands in
      let t : StationState = i.0 in
      same_stands _ _ _ (sym (told_last c.loop.counter t c.loop-test.true (c.in_default.ensures.answer t.users i.1.users)) ∙ i.2)
      (users_go (at_members members.fetch_told) c.loop.self _ t c.in_default.ensures.goes refl refl i.1);
  told = λ s stands.
      let i = c.loop.invariant s stands in
      let t : StationState = i.0 in
      sym (append-nil (map told_by c.loop.told.items))
      ∙ (ap (λ xs. map told_by c.loop.told.items ++ xs) (sym (list_last c.loop.counter t c.loop-test.true (c.in_default.ensures.answer t.users i.1.users))) ∙ i.3);
}

pub returns : goal.returns
unfolding all_told without_told
returns c = record {
  goes = λ s stands.
      let i = c.loop.invariant s stands in
      same_stands c.loop.self _ _ (sym (told_done c.loop.counter i.0 c.loop-test.false) ∙ i.2) i.1;
  told = λ s stands.
      let i = c.loop.invariant s stands in
      sym (append-nil (map told_by c.loop.told.items)) ∙ (ap (λ xs. map told_by c.loop.told.items ++ xs) (sym (list_done c.loop.counter i.0 c.loop-test.false)) ∙ i.3);
}
