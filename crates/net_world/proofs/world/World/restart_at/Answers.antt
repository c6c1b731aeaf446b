use Rattle.std.proofs.Common.{◌≡◌, ◌<◌, ◌+◌, ◌∷◌, [], ◌∙◌, List, ap, sym, subst, arith, length}
use Rattle.std.specs.Prelude.{slice_get}
use Rattle.network_file.specs.declared.plan.declarations.Declaration.{Declaration}
use Rattle.net_model.specs.declared.members.Member.{Member}
use Rattle.net_model.specs.declared.ends.EndRecord.{EndRecord}
use Rattle.net_model.specs.Ends.{ends_of}
use Rattle.net_model.specs.Events.{Restarted}
use Rattle.net_world.specs.Running.{Stands, change, course, losses_at}
use Rattle.net_model.specs.Starting.{Placed, started}
use Rattle.net_model.specs.World.{World, tell}
use Rattle.net_model.proofs.Looks.{restart_of}
use Rattle.net_world.proofs.Placing.{at_place, changed, declared_is, with_node}
use Rattle.net_world.proofs.Telling.{restarted}
use Rattle.net_world.proofs.world.World.restart_at.Goals as goal

pub returns : goal.returns
returns c = λ w t.
    let old = course c.args.self.now in
    let plan = c.args.network.now in
    let line = c.args.line in
    let at = c.args.at in
    let pair = c.args.pair in
    let m : Member = c.index.result.now in
    let d = m.declared in
    let made = length c.of_node.result.now in
    let o = slice_get w.nodes at in
    let place = at_place old.left.members w.nodes w.mails at m c.requires.within t.trace.members in
    let p : Placed = place.placed in
    let same : p.declared ≡ d = declared_is old w at m p c.requires.within c.index.ensures t place.is_in in
    let count : made ≡ length (ends_of d.node w.told) = ap (λ (es : List EndRecord). length es) (c.of_node.ensures ∙ t.trace.ends d.node) in
    let count_of : made ≡ length (ends_of p.declared.node w.told) = count ∙ sym (ap (λ (e : Declaration). length (ends_of e.node w.told)) same) in
    let whole =
    subst
    (λ (e : Declaration). change at (λ s. started plan e pair (made + 1)) (tell line (losses_at e.node made o) (tell line (Restarted e.node pair ∷ []) w))
    ≡ restart_of plan line at pair o w)
    same (restarted plan line at made pair w p place.is_in count_of)
    in
    let v : World = tell line (Restarted d.node pair ∷ []) w in
    let u : World = tell line (losses_at d.node made o) v in
    let lost = c.in_ok-tell_losses.ensures.goes v (c.in_ok-tell.ensures.goes w t) in
    let same_members : c.tell_losses.new.self.members.items ≡ old.left.members = c.in_ok-tell_losses.ensures.members ∙ c.in_ok-tell.ensures.members in
    let h : at < length c.tell_losses.new.self.members.items = omega (arith, c.requires.within, ap (λ (ms : List Member). length ms) same_members) in
    let anew = changed (course c.tell_losses.new.self) u at c.index_mut.result.now c.in_ok-anew.anew (λ s. started plan d pair (made + 1)) h lost c.index_mut.ensures.value
    (λ s stands. c.in_ok-anew.ensures.stands)
    in
    subst (λ x. Stands (with_node (course c.tell_losses.new.self) at c.index_mut.result.now c.in_ok-anew.anew) x) whole anew
