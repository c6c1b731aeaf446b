use Rattle.std.proofs.Common.{◌≡◌, ◌+◌, ◌++◌, ◌∷◌, [], ◌∙◌, List, ap, sym, subst, map, take}
use Rattle.std.specs.Prelude.{Option}
use Rattle.std.proofs.lemmas.List.{map-append, take_more}
use Rattle.circuit_table.specs.Runs.{AreStarts}
use Rattle.network_file.specs.declared.plan.declarations.Declaration.{Declaration}
use Rattle.node_mail.specs.Lists.{Lists}
use Rattle.net_model.specs.SoundPlans.{sets_of}
use Rattle.net_model.specs.Starting.{Placed, new_mail, new_placed}
use Rattle.net_model.specs.Standing.{MembersStand}
use Rattle.net_model.specs.declared.members.Member.{Member}
use Rattle.net_model.proofs.Numbers.{start_behind}
use Rattle.net_model.proofs.Stores.{one_behind}
use Rattle.net_model.proofs.stations.members_of.Goals as goal

pub loop-one-preserved : goal.loop-one-preserved
loop-one-preserved c =
    let ds = c.args.declared.now in
    let k = c.loop-one.one-index in
    let d = c.one-item.result in
    let f = new_placed c.args.network.now in
    let g = new_mail c.args.network.now.settings in
    let more : take (k + 1) ds ≡ take k ds ++ d ∷ [] = take_more ds k d c.loop-one-test.true ∙ ap (λ (e : Declaration). take k ds ++ e ∷ []) (sym c.one-item.is) in
    let placed : map f (take (k + 1) ds) ≡ map f (take k ds) ++ f d ∷ [] = ap (map f) more ∙ map-append f (take k ds) (d ∷ []) in
    let mails : map g (take (k + 1) ds) ≡ map g (take k ds) ++ g d ∷ [] = ap (map g) more ∙ map-append g (take k ds) (d ∷ []) in
    let one = one_behind c.loop-one.members.items (map f (take k ds)) (map g (take k ds)) c.in_ok-new_member.field-0 (f d) (g d) c.loop-one.invariant.stand c.in_ok-new_member.ensures.stands in
    record {
      stand =
          subst (λ (ms : List Member). MembersStand ms (map f (take (k + 1) ds)) (map g (take (k + 1) ds))) (sym c.in_ok-push.ensures.items)
          (subst (λ (ps : List Placed). MembersStand (c.loop-one.members.items ++ c.in_ok-new_member.field-0 ∷ []) ps (map g (take (k + 1) ds))) (sym placed)
          (subst (λ (ls : List (Option Lists)). MembersStand (c.loop-one.members.items ++ c.in_ok-new_member.field-0 ∷ []) (map f (take k ds) ++ f d ∷ []) ls) (sym mails) one));
      starts = subst (λ (ps : List Placed). AreStarts (sets_of ps)) (sym placed) (start_behind (map f (take k ds)) (f d) c.loop-one.invariant.starts c.in_ok-new_member.ensures.start);
    }
