use Rattle.std.proofs.Common.{refl, sym, subst}
use Rattle.std.specs.Prelude.{Err, Ok}
use Rattle.node_core.specs.Bridged.{Qualities}
use Rattle.station_members.specs.States.{Own}
use Rattle.station_members.proofs.Giving.{gives}
use Rattle.node_core.specs.Qualities.{QualityNotNoMemory}
use Rattle.station_members.proofs.Moves.{qualities_go}
use Rattle.station_members.proofs.backplane.Backplane.give_quality.Goals as goal

pub returns-in_ok-unless_spent-in-Err : goal.returns-in_ok-unless_spent-in-Err
returns-in_ok-unless_spent-in-Err c =
    let why = c.in-Err.why in
    let full = c.in_ok-unless_spent-in-Err.ensures in
    let known = subst (λ w. QualityNotNoMemory (Err w)) (sym full) tt in
    qualities_go c.args.self.now _ c.args.call.now c.args.at (Err why) (λ s t. c.in-Err.ensures.answer known s.nodes t.nodes)
    (λ s t. record { nodes = c.in-Err.ensures.err known s.nodes t.nodes; desk = t.desk })

pub returns-in-Ok : goal.returns-in-Ok
returns-in-Ok c =
    qualities_go c.args.self.now _ c.args.call.now c.args.at (Ok tt) (λ s t. c.in-Ok.ensures.answer tt s.nodes t.nodes)
    (gives c.args.self.now _ c.args.at Own (Qualities c.args.call.now 255) refl c.in-Ok.ensures.goes)
