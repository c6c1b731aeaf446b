use Rattle.std.proofs.Common.{◌∙◌, ◌∷◌, [], ap, sym, subst, map}
use Rattle.std.proofs.lemmas.List.{map-append}
use Rattle.net_model.specs.Events.{event_of}
use Rattle.net_world.specs.Running.{Stands, course}
use Rattle.net_model.specs.World.{tell}
use Rattle.net_world.proofs.Telling.{tell_both}
use Rattle.net_world.proofs.world.World.tell_each.Goals as goal

pub loop-event-preserved : goal.loop-event-preserved
loop-event-preserved c = λ w t.
    subst (λ v. Stands (course c.tell.new.self) v)
    (tell_both c.args.line (map event_of c.loop-event.yielded) (event_of c.in-Some.event ∷ []) w
    ∙ ap (λ es. tell c.args.line es w) (sym (map-append event_of c.loop-event.yielded (c.in-Some.event ∷ []))))
    (c.in_ok-tell.ensures.goes _ (c.loop-event.invariant w t))
