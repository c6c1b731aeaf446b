use Rattle.std.proofs.Common.{◌∙◌, ◌∷◌, ◌++◌, [], sym, ap, subst, drop, append-nil}
use Rattle.node_core.specs.Bridged.{Fetches_frame, after}
use Rattle.node_core.specs.Standing.{NodeStands}
use Rattle.node_model.specs.States.{frames}
use Rattle.station_members.proofs.FirstTelling.{fetched_last, fetched_once, first_and_rest, joined, none_left}
use Rattle.station_members.proofs.nodes.fetch_all.Goals as goal

pub loop-frame-preserved : goal.loop-frame-preserved
loop-frame-preserved c = λ n stands.
    let i = c.loop-frame.invariant n stands in
    let m = i.0 in
    let first = first_and_rest (frames m.station) c.in-Some.frame (c.in-Some.ensures.answer m i.1) in
    let rest = c.fetching_empties.ensures.order m.station in
    let list = joined c.loop-frame.fetched.items (drop 1 (frames m.station)) (frames n.station) c.in-Some.frame (frames m.station) first i.2.0 in (
      after Fetches_frame m,
      c.in-Some.ensures.goes m i.1,
      (
        ap (λ xs. xs ++ frames (after Fetches_frame m).station) c.in_ok-push.ensures.items
            ∙ (ap (λ xs. (c.loop-frame.fetched.items ++ c.in-Some.frame ∷ []) ++ xs) rest ∙ list),
        fetched_once m c.in-Some.frame (drop 1 (frames m.station)) first rest ∙ i.2.1,
      ),
    )

pub returns-clause-frames : goal.returns-clause-frames
returns-clause-frames c = λ n stands.
    let i = c.loop-frame.invariant n stands in
    let none = none_left (frames i.0.station) (c.in_default.ensures.answer i.0 i.1) in
    sym (append-nil c.loop-frame.fetched.items) ∙ (sym (ap (λ xs. c.loop-frame.fetched.items ++ xs) none) ∙ i.2.0)

pub returns-clause-goes : goal.returns-clause-goes
returns-clause-goes c = λ n stands.
    let i = c.loop-frame.invariant n stands in
    let none = none_left (frames i.0.station) (c.in_default.ensures.answer i.0 i.1) in
    subst (λ m. NodeStands c.next_frame.new.self m) (fetched_last i.0 none ∙ i.2.1) (c.in_default.ensures.goes i.0 i.1)
