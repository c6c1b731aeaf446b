-- How an end of a link stays on while it is up.
use Rattle.std.specs.Prelude.{◌≡◌, ℕ, Bool, true, false, None}
use Rattle.std.specs.List.{AllByRecursion}
use Rattle.ax_link.specs.declared.kind.Kind.{Kind}
use Rattle.ax_link.specs.declared.kind.Kind.TheVariants.{I, Rr, Rnr, Rej, Srej, Disc, Ua}
use Rattle.ax_link.specs.declared.phase.LinkPhase.{LinkPhase}
use Rattle.ax_link.specs.declared.phase.LinkPhase.TheVariants.{Down, SettingUp, Up, Releasing}
use Rattle.ax_link.specs.Laws.{notice_of}
use Rattle.ax_link.specs.State.{Effect, Frame, State}
use Rattle.ax_link.specs.Table.{Input, Arrive, step}

-- the frames by which it goes on: payloads, supervisory frames, and the release (AX.25 2.2, sections 4.3.1, 4.3.2 and 4.3.3.3)
abbrev pub carries : Kind → Bool
carries (I ns nr pf) = true
carries (Rr nr pf) = true
carries (Rnr nr pf) = true
carries (Rej nr pf) = true
carries (Srej nr pf) = true
carries (Disc pf) = true
carries _ = false

-- Up or Releasing
abbrev pub is_on : LinkPhase → Bool
is_on Down = false
is_on SettingUp = false
is_on Up = true
is_on Releasing = true

-- an end is on after a step, which put out only such frames
pub record StaysOn (g : Effect) : Type 0 where
  pub phase : is_on g.link.phase ≡ true
  pub outs : AllByRecursion (λ f. carries f.kind ≡ true) g.outs

-- an end that is Up stays on with each input that gives no notice
abbrev pub UpStaysOn : Type 0
UpStaysOn = (s : State) (i : Input) (now : ℕ) → s.phase ≡ Up → notice_of s i now ≡ None → StaysOn (step s i now)

-- and so does an end from when it comes up by a UA with F
abbrev pub OpensSo : Type 0
OpensSo = (s : State) (f : Frame) (now : ℕ) → s.phase ≡ SettingUp → f.kind ≡ Ua true → StaysOn (step s (Arrive f) now)
