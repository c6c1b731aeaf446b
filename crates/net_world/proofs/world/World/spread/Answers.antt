use Rattle.std.proofs.Common.{◌∙◌, ap, sym, subst, List}
use Rattle.std.specs.Prelude.{slice_get}
use Rattle.network_file.specs.Plan.{hearers}
use Rattle.network_file.specs.declared.plan.channels.Channel.{Channel}
use Rattle.net_model.specs.declared.air.Aired.{Aired}
use Rattle.net_model.specs.Lines.{deliver_all, spread}
use Rattle.net_world.specs.Running.{Stands, course}
use Rattle.net_world.proofs.Handing.{found, not_found}
use Rattle.net_model.proofs.Looks.{spread_of}
use Rattle.net_world.proofs.Runs.{runs_as}
use Rattle.net_world.proofs.world.World.spread.Goals as goal

pub returns-in-Some : goal.returns-in-Some
returns-in-Some c =
    let old = course c.args.self.now in
    let line = c.args.line in
    let at = c.args.at in
    let h = c.in-Some.ensures.lookup in
    let f = c.in-Some.frame.now in
    let is = found c.frames.result.now c.args.self.now.air at f c.frames.ensures.value h.3.0 h.1 in
    runs_as old (course c.spread_from.new.self) (deliver_all line at (hearers old.channels f.sender)) (spread line at) c.spread_from.result
    (λ w t. ap (λ (cs : List Channel). deliver_all line at (hearers cs f.sender) w) t.channels
    ∙ sym (ap (λ o. spread_of line at o w) (ap (λ (fs : List Aired). slice_get fs at) (sym t.trace.air) ∙ is))) c.spread_from.ensures

pub returns-in-None : goal.returns-in-None
returns-in-None c = λ w t.
    let line = c.args.line in
    let at = c.args.at in
    let is = not_found c.frames.result.now c.args.self.now.air at c.frames.ensures.value c.in-None.ensures.lookup.0 in
    subst (λ v. Stands (course c.args.self.now) v) (sym (ap (λ o. spread_of line at o w) (ap (λ (fs : List Aired). slice_get fs at) (sym t.trace.air) ∙ is))) t
