-- One thing done after another.
use Rattle.std.proofs.Common.{◌≡◌, ◌≤◌, ◌∙◌, ℕ, List, length, arith, ap, sym, subst}
use Rattle.std.specs.Prelude.{Result, Ok, Err, OnOk}
use Rattle.radio_base.specs.declared.no_memory.NoMemory.{NoMemory}
use Rattle.net_model.specs.declared.air.Aired.{Aired}
use Rattle.net_model.specs.declared.refusals.ReplayRefusal.{ReplayRefusal}
use Rattle.net_model.specs.declared.refusals.ReplayRefusal.TheVariants as refusals
use Rattle.net_model.specs.World.{settled_at, World}
use Rattle.net_model.specs.Lines.{settle}
use Rattle.net_world.specs.Running.{Course, GoesOn, Runs, Stands, Stops}
use Rattle.net_model.specs.Traces.{IsRefusal}

pub refused_still : (e : ReplayRefusal) (n m : ℕ) → n ≤ m → IsRefusal e n → IsRefusal e m
refused_still refusals.FramesFull n m more h = omega arith
refused_still refusals.NoMemory n m more h = tt

pub refused_same : (e : ReplayRefusal) (v w : World) → v ≡ w → IsRefusal e (length v.air) → IsRefusal e (length w.air)
refused_same e v w same h = subst (λ (u : World). IsRefusal e (length u.air)) same h

-- want of memory stops everything
pub no_memory : (old new : Course) (next : World → World) (r : Result (Unit {0}) ReplayRefusal) → r ≡ Err refusals.NoMemory → Runs old new next r
no_memory old new next r e = subst (λ k. Runs old new next k) (sym e) (λ w t. tt)

pub goes_then : (old mid new : Course) (first next : World → World) → GoesOn old mid first → GoesOn mid new next → GoesOn old new (λ w. next (first w))
goes_then old mid new first next f g = λ w t. g (first w) (f w t)

-- what runs after something that was done
pub runs_then : (old mid new : Course) (first next : World → World) (r : Result (Unit {0}) ReplayRefusal) → GoesOn old mid first → Runs mid new next r
    → Runs old new (λ w. next (first w)) r
runs_then old mid new first next (Ok done) f g = λ w t. g (first w) (f w t)
runs_then old mid new first next (Err e) f g = λ w t. g (first w) (f w t)

-- what comes to the same
pub runs_as : (old new : Course) (f g : World → World) (r : Result (Unit {0}) ReplayRefusal) → ((w : World) → Stands old w → f w ≡ g w) → Runs old new f r
    → Runs old new g r
runs_as old new f g (Ok done) same h = λ w t. subst (λ v. Stands new v) (same w t) (h w t)
runs_as old new f g (Err e) same h = λ w t. subst (λ (v : World). IsRefusal e (length v.air)) (same w t) (h w t)

pub goes_as : (old new : Course) (f g : World → World) → ((w : World) → Stands old w → f w ≡ g w) → GoesOn old new f → GoesOn old new g
goes_as old new f g same h = λ w t. subst (λ v. Stands new v) (same w t) (h w t)

pub ok_as : (old new : Course) (f g : World → World) (r : Result (Unit {0}) NoMemory) → ((w : World) → Stands old w → f w ≡ g w) → OnOk r (GoesOn old new f)
    → OnOk r (GoesOn old new g)
ok_as old new f g (Ok done) same h = goes_as old new f g same h
ok_as old new f g (Err e) same h = tt

-- what was done has run
pub done_runs : (old new : Course) (next : World → World) (r : Result (Unit {0}) ReplayRefusal) → r ≡ Ok tt → GoesOn old new next → Runs old new next r
done_runs old new next r e h = subst (λ k. Runs old new next k) (sym e) h

-- the answer of a call that stopped, handed on
pub handed_on : (old new : Course) (next : World → World) (e : ReplayRefusal) (r : Result (Unit {0}) ReplayRefusal) → r ≡ Err e → Stops old e next
    → Runs old new next r
handed_on old new next e r same h = subst (λ k. Runs old new next k) (sym same) h

-- ---- frames settled

abbrev pub with_air : Course → List Aired → Course
with_air c air = record c { left = record c.left { air = air } }

pub same_air : (c : Course) (air : List Aired) (w : World) → Stands c w → air ≡ c.left.air → Stands (with_air c air) w
same_air c air w t e =
    record {
      trace = record { told = t.trace.told; air = e ∙ t.trace.air; members = t.trace.members; ends = t.trace.ends; allowance = t.trace.allowance };
      channels = t.channels;
      now = t.now;
    }

pub settled_air : (c : Course) (air : List Aired) (at : ℕ) → air ≡ settled_at at c.left.air → GoesOn c (with_air c air) (settle at)
settled_air c air at e = λ w t.
    record {
      trace = record {
        told = t.trace.told;
        air = e ∙ ap (settled_at at) t.trace.air;
        members = t.trace.members;
        ends = t.trace.ends;
        allowance = t.trace.allowance;
      };
      channels = t.channels;
      now = t.now;
    }
