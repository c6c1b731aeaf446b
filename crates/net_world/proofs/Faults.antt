-- A line on a frame that is refused, or not.
use Rattle.std.proofs.Common.{◌≡◌, ◌∙◌, ℕ, ap, sym, List, [], ◌∷◌}
use Rattle.std.specs.Prelude.{Option, Some, None, Result}
use Rattle.network_file.specs.declared.plan.channels.Channel.{Channel}
use Rattle.net_model.specs.declared.air.Aired.{Aired}
use Rattle.net_model.specs.declared.refusals.LineRefusal.{LineRefusal}
use Rattle.net_model.specs.declared.refusals.ReplayRefusal.{ReplayRefusal}
use Rattle.net_model.specs.Events.{Refused}
use Rattle.net_model.specs.Lines.{unless_refused}
use Rattle.net_world.specs.Running.{Course, GoesOn, Runs, Stands}
use Rattle.net_model.specs.World.{World, tell}
use Rattle.net_world.proofs.Runs.{goes_as, runs_as}

same_fault : (fault : List Channel → List Aired → Option LineRefusal) (c : Course) (w : World) (o : Option LineRefusal) → o ≡ fault c.channels c.left.air → Stands c w → fault w.channels w.air ≡ o
same_fault fault c w o e t = ap (λ (cs : List Channel). fault cs w.air) (sym t.channels) ∙ (ap (fault c.channels) (sym t.trace.air) ∙ sym e)

pub refused : (line : ℕ) (fault : List Channel → List Aired → Option LineRefusal) (done : World → World) (old new : Course) (why : LineRefusal) → Some why ≡ fault old.channels old.left.air
    → GoesOn old new (tell line (Refused why ∷ [])) → GoesOn old new (λ w. unless_refused line (fault w.channels w.air) (done w) w)
refused line fault done old new why e goes =
    goes_as old new (tell line (Refused why ∷ [])) (λ w. unless_refused line (fault w.channels w.air) (done w) w)
    (λ w t. sym (ap (λ o. unless_refused line o (done w) w) (same_fault fault old w (Some why) e t))) goes

pub accepted : (line : ℕ) (fault : List Channel → List Aired → Option LineRefusal) (done : World → World) (old new : Course) (r : Result (Unit {0}) ReplayRefusal)
    → None ≡ fault old.channels old.left.air → Runs old new done r → Runs old new (λ w. unless_refused line (fault w.channels w.air) (done w) w) r
accepted line fault done old new r e runs =
    runs_as old new done (λ w. unless_refused line (fault w.channels w.air) (done w) w) r
    (λ w t. sym (ap (λ o. unless_refused line o (done w) w) (same_fault fault old w None e t))) runs

pub accepted_goes : (line : ℕ) (fault : List Channel → List Aired → Option LineRefusal) (done : World → World) (old new : Course) → None ≡ fault old.channels old.left.air → GoesOn old new done
    → GoesOn old new (λ w. unless_refused line (fault w.channels w.air) (done w) w)
accepted_goes line fault done old new e goes =
    goes_as old new done (λ w. unless_refused line (fault w.channels w.air) (done w) w) (λ w t. sym (ap (λ o. unless_refused line o (done w) w) (same_fault fault old w None e t))) goes
