use Rattle.std.proofs.Common.{◌≡◌, ◌++◌, ◌∙◌, [], ◌∷◌, List, ap, refl, subst, sym}
use Rattle.link_table.specs.Calls.{fetch}
use Rattle.link_table.specs.declared.written.Written.{Written}
use Rattle.node_core.specs.Standing.{Holds}
use Rattle.node_model.specs.States.{State, at_links}
use Rattle.node_core.proofs.Holding.{put_moves, put_none, with_own}
use Rattle.node_core.proofs.station.Station.put.Goals as goal

pub loop-earlier-preserved : goal.loop-earlier-preserved
loop-earlier-preserved c = λ n h.
    let i = c.loop-earlier.invariant n h in
    let e = c.in-Some.earlier in
    let s = c.next_sent.new.self in
    let m : State = at_links fetch i.0 in
    let next = c.next_sent.ensures.goes i.0 i.1 in
    let own : c.push_back.new.self.items ≡ i.0.own ++ e ∷ [] = c.in_ok-push_back.ensures.items ∙ ap (λ (xs : List Written). xs ++ e ∷ []) next.queues.own in (
      record m { own = i.0.own ++ e ∷ [] },
      with_own s (record s { own = c.push_back.new.self }) (i.0.own ++ e ∷ []) own refl m next,
      λ f. i.2 f ∙ put_moves f e i.0 (c.in-Some.ensures.answer i.0 i.1),
    )

pub returns : goal.returns
returns c = λ n h.
    let i = c.loop-earlier.invariant n h in
    let f = c.args.frame in
    let s = c.next_sent.new.self in
    let none = sym c.in_default.is ∙ c.next_sent.ensures.answer i.0 i.1 in
    let next = c.next_sent.ensures.goes i.0 i.1 in
    let m : State = at_links fetch i.0 in
    let own : c.push_back-2.new.self.items ≡ i.0.own ++ f ∷ [] = c.in_ok-push_back-2.ensures.items ∙ ap (λ (xs : List Written). xs ++ f ∷ []) next.queues.own in
    let s2 = record s { own = c.push_back-2.new.self } in
    subst (Holds s2) (sym (i.2 f ∙ put_none f i.0 none)) (with_own s s2 (i.0.own ++ f ∷ []) own refl m next)
