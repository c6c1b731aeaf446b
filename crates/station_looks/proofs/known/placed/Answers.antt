use Rattle.std.proofs.Common.{◌≡◌, ◌<◌, ◌+◌, ◌∷◌, ◌∙◌, [], ℕ, List, Bool, true, false, cond, ap, drop, get_or, length, refl, sym}
use Rattle.std.proofs.lemmas.List.{at_drop_all, at_drop_more}
use Rattle.station_prompt.specs.Asked.{nodes_asked}
use Rattle.station_prompt.specs.Commands.{Destinations}
use Rattle.station_looks.specs.Rows.{all_placed, asked_for, is_asked}
use Rattle.station_looks.specs.declared.known.Known.{Known}
use Rattle.station_looks.proofs.known.placed.Goals as goal

-- one is placed, and then the others
one_placed : (placed ks : List Known) (k : Known) (b : Bool) → all_placed (all_placed placed (cond b (k ∷ []) [])) ks ≡ all_placed placed (cond b (k ∷ ks) ks)
one_placed placed ks k true = refl
one_placed placed ks k false = refl

placed_next : (asked : Destinations) (old new ks whole : List Known) (at : ℕ) (k : Known) → at < length ks → k ≡ get_or ks at k
    → new ≡ all_placed old (asked_for asked (k ∷ [])) → all_placed old (asked_for asked (drop at ks)) ≡ whole
    → all_placed new (asked_for asked (drop (at + 1) ks)) ≡ whole
placed_next asked old new ks whole at k h is more was =
    let rest = asked_for asked (drop (at + 1) ks) in
    ap (λ placed. all_placed placed rest) more
    ∙ (one_placed old rest k (is_asked asked k.alias)
    ∙ (ap (λ (x : Known). all_placed old (cond (is_asked asked x.alias) (x ∷ rest) rest)) is
    ∙ (sym (at_drop_more (λ (xs : List Known). all_placed old (asked_for asked xs)) ks at k h) ∙ was)))

pub loop-known-preserved : goal.loop-known-preserved
loop-known-preserved c =
    placed_next (nodes_asked c.args.asked.now) c.loop-known.placed.keys c.place.new.placed.keys c.args.all.now _ c.loop-known.known-index c.known-item.result
    c.loop-known-test.true c.known-item.is c.in_ok-place.ensures c.loop-known.invariant

pub returns : goal.returns
returns c =
    sym (at_drop_all (λ (xs : List Known). all_placed c.loop-known.placed.keys (asked_for (nodes_asked c.args.asked.now) xs)) c.args.all.now
    c.loop-known.known-index c.loop-known-test.false)
    ∙ c.loop-known.invariant
