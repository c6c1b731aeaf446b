-- In each network an end is told that its retries are used up exactly where there was one expiry more than there are retries.
use Rattle.std.proofs.Common.{subst, List, [], ◌∷◌, ◌++◌}
use Rattle.circuit_set.specs.Safe as sets
use Rattle.circuit_table.specs.Runs.{AreSteps, Step}
use Rattle.net_laws.specs.Promises.{NetworksAreSound, RunsThrough, WorldsAreRuns, EachTellsRetries}
use Rattle.net_model.specs.SoundPlans.{first_sets}

pub front_are : (xs ys : List Step) → AreSteps (xs ++ ys) → AreSteps xs
front_are [] ys a = tt
front_are (x ∷ xs) ys a = (a.0, front_are xs ys a.1)

pub each_tells_retries : NetworksAreSound → WorldsAreRuns → sets.RetriesAreTold → EachTellsRetries
each_tells_retries sounds runs told bytes plan e done later is =
    let r : RunsThrough plan done later = runs bytes plan e done later is in
    record {
      steps = r.steps;
      run = r.is;
      told = λ before after s. told (first_sets plan) (sounds bytes plan e).starts before (front_are before after (subst AreSteps s r.is.are));
    }
