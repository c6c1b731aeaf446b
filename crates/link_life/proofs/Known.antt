-- What the laws of links say.
use Rattle.std.proofs.Common.{◌≡◌, ◌⊎◌, ◌≤◌, ◌++◌, ℕ, true, List, [], ◌∷◌}
use Rattle.ax_link.specs.declared.kind.Kind.TheVariants.{Ua}
use Rattle.ax_link.specs.declared.config.LinkConfig.{LinkConfig}
use Rattle.ax_link.specs.declared.phase.LinkPhase.TheVariants.{SettingUp, Up}
use Rattle.ax_link.specs.Carrying.{OpensSo, UpStaysOn}
use Rattle.ax_link.specs.Laws.{BoundsStay, KindsGoOut, NoticesAre, SettingsStay}
use Rattle.ax_link.specs.Opening.{rules_new}
use Rattle.ax_link.specs.Pair.{Both, Core, Fits, IsNew, NoRestartIn, PairSound, Queue, acks_of, after_ua, core, opens_count, texts_of}
use Rattle.ax_link.specs.Runs.{EndsBounded, Starts, new_ends}
use Rattle.ax_link.specs.State.{Frame, State}
use Rattle.ax_link.specs.Table.{Arrive, Input, Send, step}
use Rattle.radio_base.specs.declared.payload.Payload.{Payload}

pub record Known : Type 0 where
  pub settings : SettingsStay
  pub bounds : BoundsStay
  pub notices : NoticesAre
  pub kinds : KindsGoOut
  pub up : UpStaysOn
  pub comes_up : OpensSo
  pub both : (now : ℕ) (l : State) (i : Input) (other : Core) (to_l to_l2 to_other : List Frame) →
      l.phase ≡ Up → Queue i to_l to_l2 → NoRestartIn i → Both (core l) other to_l to_other →
      Both (core (step l i now).link) other to_l2 (to_other ++ (step l i now).outs)
  pub opens : (now : ℕ) (l : State) (f : Frame) (other : Core) (to_l to_other : List Frame) →
      l.phase ≡ SettingUp → f.kind ≡ Ua true → Both (core l) other to_l to_other →
      Both (core (step l (Arrive f) now).link) other to_l (to_other ++ (step l (Arrive f) now).outs)
  pub sends : (now : ℕ) (l : State) (p : Payload) (other : Core) (to_l to_other : List Frame) →
      Both (core l) other to_l to_other → Both (core (step l (Send p) now).link) other to_l (to_other ++ (step l (Send p) now).outs)
  pub lost : (l r : Core) (f : Frame) (to_l to_r : List Frame) → Both l r (f ∷ to_l) to_r → Both l r to_l to_r
  pub same : (l r : Core) (to_l to_l2 to_r to_r2 : List Frame) →
      texts_of to_l ≡ texts_of to_l2 → acks_of to_l ≡ acks_of to_l2 → texts_of to_r ≡ texts_of to_r2 → acks_of to_r ≡ acks_of to_r2 →
      Both l r to_l to_r → Both l r to_l2 to_r2
  pub start : (l r : State) (to_l to_r : List Frame) → l.phase ≡ Up → r.phase ≡ SettingUp →
      Fits (core l) (core r) → Fits (core r) (core l) → IsNew l → IsNew r → opens_count to_r ≤ 1 →
      texts_of (after_ua to_r) ≡ [] → acks_of (after_ua to_r) ≡ [] → texts_of to_l ≡ [] → acks_of to_l ≡ [] →
      PairSound l r to_l to_r
  pub begin : (size : ℕ) (a b : LinkConfig) → (size ≡ 8) ⊎ (size ≡ 128) → a.srej ≡ b.srej → Starts (new_ends (rules_new size a) (rules_new size b))
  pub bounded : (size : ℕ) (a b : LinkConfig) → (size ≡ 8) ⊎ (size ≡ 128) → a.srej ≡ b.srej → EndsBounded (new_ends (rules_new size a) (rules_new size b))
