use Rattle.std.proofs.Common.{◌≡◌, ◌∷◌, [], ◌∙◌, List, suc, sym, ap, add-one, drop, filter}
use Rattle.std.proofs.Math.Seq.{drop-cons}
use Rattle.network_file.specs.declared.plan.vias.Via.{Via}
use Rattle.node_model.specs.States.{NodeState}
use Rattle.node_settings.specs.Settings.{is_via_of, with_vias}
use Rattle.node_settings.proofs.Vias.{one_via}
use Rattle.node_settings.proofs.paths.set_paths.Goals as goal

pub loop-via-preserved : goal.loop-via-preserved
loop-via-preserved c = λ n t.
    let i = c.loop-via.invariant n t in
    let vias = c.args.vias.now in
    let v = c.via-item.result in
    let k = c.loop-via.via-index in
    let own = is_via_of c.args.number in
    let m : NodeState = with_vias (filter own (v ∷ [])) i.0 in
    let first : drop k vias ≡ v ∷ drop (suc k) vias = drop-cons vias k v c.loop-via-test.true ∙ ap (λ (u : Via). u ∷ drop (suc k) vias) (sym c.via-item.is) in (
      m,
      c.in_ok-set_own_path.ensures i.0 i.1,
      ap (λ j. with_vias (filter own (drop j vias)) m) (add-one k)
          ∙ (sym (one_via c.args.number v (drop (suc k) vias) i.0) ∙ (sym (ap (λ (us : List Via). with_vias (filter own us) i.0) first) ∙ i.2)),
    )
