use Rattle.std.proofs.Common.{◌≡◌, ◌++◌, drop}
use Rattle.link_life.specs.Lives.{Life, new_life}
use Rattle.link_life.specs.Reports.{life_text}
use Rattle.link_life.specs.Standing.{LifeStands, Rests}
use Rattle.link_life.proofs.life.report_of.Given as goal

-- the report so far and that of the lines to come are all of it
abbrev pub invariant-loop-numbered : goal.invariant-loop-numbered
invariant-loop-numbered g l =
    record {
      rests : Rests l.life;
      told : (w : Life) × LifeStands g.M.Modulus.SIZE l.life w × (l.report ++ life_text w (drop l.numbered-index l.acts) ≡ life_text (new_life g.M.Modulus.SIZE l.srej l.delay) l.acts);
    }
