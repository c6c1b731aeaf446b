use Rattle.std.proofs.Common.{◌∙◌, ap, subst}
use Rattle.net_world.specs.Agents.{offer_from}
use Rattle.net_model.specs.Ends.{offered_at}
use Rattle.net_model.specs.Mailing.{offer_all}
use Rattle.net_world.specs.Running.{Stands, course}
use Rattle.net_model.proofs.Looks.{offer_where}
use Rattle.net_world.proofs.Runs.{runs_as}
use Rattle.net_world.proofs.world.World.offer_all.Goals as goal

pub returns-in-Some : goal.returns-in-Some
returns-in-Some c =
    runs_as (course c.args.self.now) (course c.offer_above.new.self) (offer_from c.args.here.line c.args.here.node c.args.here.at c.args.id c.in-Some.dest c.offered-last.result 0)
    (offer_all c.args.here.line c.args.here.node c.args.here.at c.args.id) c.offer_above.result
    (λ w t.
    let last = c.offered-last.ensures ∙ ap (offered_at c.args.id) (t.trace.ends c.args.here.node) in
    ap (λ n. offer_from c.args.here.line c.args.here.node c.args.here.at c.args.id c.in-Some.dest n 0 w) last
    ∙ ap (λ o. offer_where c.args.here.line c.args.here.node c.args.here.at c.args.id o w) (c.in-Some.ensures w t)) c.offer_above.ensures

pub returns-in-None : goal.returns-in-None
returns-in-None c = λ w t.
    subst (λ o. Stands (course c.args.self.now) (offer_where c.args.here.line c.args.here.node c.args.here.at c.args.id o w)) (c.in-None.ensures w t) t
