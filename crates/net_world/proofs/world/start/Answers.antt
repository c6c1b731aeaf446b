use Rattle.std.proofs.Common.{◌∙◌, ap, subst, map, List, refl}
use Rattle.std.specs.Prelude.{nat_le, if◌then◌else◌}
use Rattle.circuit_verdict.specs.declared.allowance.Allowance.TheVariants.{Fixed, OfWindow}
use Rattle.network_file.specs.declared.plan.declarations.Declaration.{Declaration}
use Rattle.circuit_table.specs.Runs.{AreStarts}
use Rattle.net_model.specs.SoundPlans.{sets_of}
use Rattle.net_model.specs.Events.{numbered_of}
use Rattle.net_model.specs.Starting.{new_mail, new_placed}
use Rattle.net_model.specs.Standing.{MembersStand}
use Rattle.net_world.proofs.world.start.Goals as goal

pub returns-clause-stands : goal.returns-clause-stands
returns-clause-stands c =
    let plan = c.args.network.now in
    record {
      trace = record {
        told = ap (map numbered_of) c.new-3.ensures.items;
        air = c.new.ensures;
        members =
            subst (λ (ds : List Declaration). MembersStand c.in_ok-members.members.items (map (new_placed plan) ds) (map (new_mail plan.settings) ds))
            (c.deref.ensures.value ∙ c.in_ok-declared.ensures) c.in_ok-members.ensures.stand;
        ends = λ node. c.in_ok-new.ensures node;
        allowance = c.allowance_of.ensures ∙ ap (λ v. if nat_le 3 v then OfWindow else Fixed) c.version.ensures;
      };
      channels = c.channels.ensures;
      now = refl;
    }

pub returns-clause-starts : goal.returns-clause-starts
returns-clause-starts c =
    subst (λ (ds : List Declaration). AreStarts (sets_of (map (new_placed c.args.network.now) ds))) (c.deref.ensures.value ∙ c.in_ok-declared.ensures) c.in_ok-members.ensures.starts
