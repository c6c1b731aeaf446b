use Rattle.std.proofs.Common.{◌∙◌, sym, ap, subst}
use Rattle.station.specs.States.{fetch_out}
use Rattle.station.proofs.Fetched.{all_fetched, first_out, no_outs, rest_fetched}
use Rattle.station_trial.specs.Outlets.{put, put_all}
use Rattle.station_trial.specs.Standing.{OutletStands}
use Rattle.station_trial.proofs.Stands.{station_as}
use Rattle.station_trial.proofs.outlet.Outlet.fetch_outs.Goals as goal

pub loop-out-preserved : goal.loop-out-preserved
loop-out-preserved c = record {
  station = λ s stands.
      let i = c.loop-out.invariant.station s stands in (
        fetch_out i.0,
        c.in-Some.ensures.goes i.0 i.1,
        rest_fetched i.0 c.in-Some.out (c.in-Some.ensures.answer i.0 i.1) ∙ i.2,
      );
  outlet = λ s o stands goes.
      let i = c.loop-out.invariant.outlet s o stands goes in (
        fetch_out i.0,
        put c.args.at c.in-Some.out i.1,
        c.in-Some.ensures.goes i.0 i.2,
        c.in_ok-put.ensures i.1 i.3,
        sym (ap (λ outs. put_all c.args.at outs i.1) (first_out i.0 c.in-Some.out (c.in-Some.ensures.answer i.0 i.2))) ∙ i.4,
      );
}

pub returns : goal.returns
returns c = record {
  outlet = λ s o stands goes.
      let i = c.loop-out.invariant.outlet s o stands goes in
      subst (λ p. OutletStands c.loop-out.self p) (sym (ap (λ outs. put_all c.args.at outs i.1) (no_outs i.0 (c.in_default.ensures.answer i.0 i.2))) ∙ i.4) i.3;
  station = λ s stands.
      let i = c.loop-out.invariant.station s stands in
      station_as _ _ _ (all_fetched i.0 (c.in_default.ensures.answer i.0 i.1) ∙ i.2) (c.in_default.ensures.goes i.0 i.1);
}
