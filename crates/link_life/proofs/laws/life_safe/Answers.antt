use Rattle.std.proofs.Common.{refl}
use Rattle.link_life.proofs.Known.{Known}
use Rattle.link_life.proofs.Safety.{lives_are_safe}
use Rattle.link_life.proofs.Sharp.{half_is_too_long}
use Rattle.link_life.proofs.laws.life_safe.Goals as goal

pub returns-clause-safe : goal.returns-clause-safe
returns-clause-safe c =
    let known : Known = record {
      settings = c.steps.ensures.settings;
      bounds = c.steps.ensures.bounds;
      notices = c.steps.ensures.notices;
      kinds = c.steps.ensures.kinds;
      up = c.up_stays_on.ensures.up;
      comes_up = c.up_stays_on.ensures.opens;
      both = λ now l i other to_l to_l2 to_other. c.pair_left.ensures.both now l i other to_l to_l2 to_other;
      opens = λ now l f other to_l to_other. c.pair_left.ensures.opens now l f other to_l to_other;
      sends = λ now l p other to_l to_other. c.pair_left.ensures.sends now l p other to_l to_other;
      lost = λ l r f to_l to_r. c.pair_left.ensures.lost l r f to_l to_r;
      same = λ l r to_l to_l2 to_r to_r2. c.pair_frames.ensures.both l r to_l to_l2 to_r to_r2;
      start = λ l r to_l to_r. c.pair_start.ensures.sound l r to_l to_r;
      begin = λ size a b. c.link_safe.ensures.new size a b;
      bounded = λ size a b. c.link_safe.ensures.bounded size a b;
    } in
    lives_are_safe known

pub returns-clause-reset : goal.returns-clause-reset
returns-clause-reset c = λ p. (refl, refl)

pub returns-clause-crossing : goal.returns-clause-crossing
returns-clause-crossing c = λ p. (refl, refl)

pub returns-clause-sharp : goal.returns-clause-sharp
returns-clause-sharp c = half_is_too_long
