-- Each frame that a step puts out can be written.
use Rattle.std.proofs.Common.{◌≡◌, ℕ, ◌==◌, Bool, true, false, if◌then◌else◌, List, [], ◌∷◌, Option, Some, None, refl, subst}
use Rattle.std.specs.List.{AllByRecursion}
use Rattle.radio_base.specs.declared.payload.Payload.{Payload}
use Rattle.ax_frame.specs.declared.control.Control.TheVariants as control
use Rattle.ax_frame.specs.Frames.{HasParts}
use Rattle.ax_link.specs.Kinds.{control_of, info_of, pid_of}
use Rattle.ax_link.specs.Laws.{CanBeWritten, FramesCanBeWritten, SettingsStay}
use Rattle.ax_link.specs.State.{Frame, Rules}
use Rattle.ax_link.specs.Table.{step}
use Rattle.ax_link.specs.declared.kind.Kind.{Kind}
use Rattle.ax_link.specs.declared.kind.Kind.TheVariants as kind
use Rattle.ax_link.proofs.PutOut.{IsPut, IsPutOut, every}
use Rattle.ax_link.proofs.PutFrames.{every_put}

set_up_parts : (size : ℕ) (pf b : Bool) → HasParts size (if b then control.Sabm pf else control.Sabme pf) None []
set_up_parts size pf true = record { numbers = tt; pid_there = refl; no_info = λ e. refl }
set_up_parts size pf false = record { numbers = tt; pid_there = refl; no_info = λ e. refl }

parts_of : (size : ℕ) (command : Bool) (k : Kind) (p : Option Payload) → IsPut every size command k p → HasParts size (control_of size k) (pid_of p) (info_of p)
parts_of size command (kind.I ns nr pf) (Some p) x = record { numbers = (x.0, x.1); pid_there = refl; no_info = λ e. absurd (cc e) }
parts_of size command (kind.I ns nr pf) None x = absurd x
parts_of size command (kind.Rr nr pf) None x = record { numbers = x; pid_there = refl; no_info = λ e. refl }
parts_of size command (kind.Rr nr pf) (Some p) x = absurd x
parts_of size command (kind.Rnr nr pf) None x = record { numbers = x; pid_there = refl; no_info = λ e. refl }
parts_of size command (kind.Rnr nr pf) (Some p) x = absurd x
parts_of size command (kind.Rej nr pf) None x = record { numbers = x; pid_there = refl; no_info = λ e. refl }
parts_of size command (kind.Rej nr pf) (Some p) x = absurd x
parts_of size command (kind.Srej nr pf) None x = record { numbers = x; pid_there = refl; no_info = λ e. refl }
parts_of size command (kind.Srej nr pf) (Some p) x = absurd x
parts_of size command (kind.SetUp pf) None x = set_up_parts size pf (size == 8)
parts_of size command (kind.SetUp pf) (Some p) x = absurd x
parts_of size command (kind.Disc pf) None x = record { numbers = tt; pid_there = refl; no_info = λ e. refl }
parts_of size command (kind.Disc pf) (Some p) x = absurd x
parts_of size command (kind.Dm pf) None x = record { numbers = tt; pid_there = refl; no_info = λ e. refl }
parts_of size command (kind.Dm pf) (Some p) x = absurd x
parts_of size command (kind.Ua pf) None x = record { numbers = tt; pid_there = refl; no_info = λ e. refl }
parts_of size command (kind.Ua pf) (Some p) x = absurd x
parts_of size command (kind.OtherSetUp pf) None x = absurd x
parts_of size command (kind.OtherSetUp pf) (Some p) x = absurd x
parts_of size command (kind.Frmr pf) None x = absurd x
parts_of size command (kind.Frmr pf) (Some p) x = absurd x
parts_of size command (kind.Xid pf) None x = absurd x
parts_of size command (kind.Xid pf) (Some p) x = absurd x
parts_of size command kind.Other None x = absurd x
parts_of size command kind.Other (Some p) x = absurd x

own_set_up : (size : ℕ) (command : Bool) (k : Kind) (p : Option Payload) (pf : Bool) → k ≡ kind.OtherSetUp pf → IsPut every size command k p → ⊥
own_set_up size command k None pf e x = subst (λ (j : Kind). IsPut every size command j None) e x
own_set_up size command k (Some p) pf e x = subst (λ (j : Kind). IsPut every size command j (Some p)) e x

all_written : (size : ℕ) (fs : List Frame) → AllByRecursion (IsPutOut every size) fs → AllByRecursion (CanBeWritten size) fs
all_written size [] a = tt
all_written size (f ∷ fs) a =
    (record { parts = parts_of size f.command f.kind f.payload a.0; sets_up = λ pf e. own_set_up size f.command f.kind f.payload pf e a.0 }, all_written size fs a.1)

pub frames_can_be_written : SettingsStay → FramesCanBeWritten
frames_can_be_written stay s i now b =
    subst (λ (k : Rules). AllByRecursion (CanBeWritten k.size) (step s i now).outs) (stay s i now) (all_written (step s i now).link.rules.size (step s i now).outs (every_put s i now b))
