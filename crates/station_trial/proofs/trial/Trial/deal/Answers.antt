use Rattle.std.proofs.Common.{◌≡◌, ◌∙◌, length, refl, sym}
use Rattle.std.proofs.lemmas.List.{with_items_is}
use Rattle.station_trial.specs.Gifts.{dealt_by}
use Rattle.station_trial.specs.Standing.{view_of}
use Rattle.station_trial.proofs.Dealing.{dealt}
use Rattle.station_trial.proofs.Stands.{tried_as}
use Rattle.station_trial.proofs.trial.Trial.deal.Goals as goal

pub returns : goal.returns
returns c = λ s stands.
    let same : length c.deal.new.tried ≡ c.self.inside.tried.len = c.deal.auto.tried ∙ c.deref_mut.ensures.len in
    tried_as (sym (with_items_is c.self.inside.tried c.deal.new.tried same))
    (dealt (dealt_by c.args.dealt.now c.args.octets.now) (view_of c.self.inside.tried.items c.self.inside.outlet c.self.inside.time c.self.inside.at)
    (view_of c.deal.new.tried c.deal.new.outlet c.self.inside.time c.self.inside.at) s (rw c.deref_mut.ensures.value at c.in_ok-deal.ensures) refl refl
    (rw (← c.self.view_is) at stands))
