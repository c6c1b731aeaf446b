use Rattle.std.proofs.Common.{◌∷◌, [], arith}
use Rattle.std.proofs.lemmas.List.{length-append}
use Rattle.net_model.proofs.Noting.{behind_empty}
use Rattle.net_model.proofs.ends.empty_lists.Goals as goal

pub loop-preserved : goal.loop-preserved
loop-preserved c =
    let lists = c.loop.lists.items in
    let all = c.in_ok-push.ensures.items in
    rw all (omega (arith, length-append lists (c.new.result ∷ []), c.loop.invariant.0), behind_empty lists c.new.result c.new.ensures.items c.loop.invariant.1)
