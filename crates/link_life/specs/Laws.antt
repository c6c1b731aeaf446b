-- What holds of each life at each moment. Own profile.
use Rattle.std.specs.Prelude.{◌≡◌, ℕ, zero, suc, ◌+◌, ◌*◌, ◌<◌, ◌≤◌, ◌⊎◌, Bool, false, List, [], ◌∷◌, ◌++◌, length, map, Some, is_some, slice_get}
use Rattle.std.specs.List.{AllByRecursion}
use mathlib.Core.List.{IsPrefix}
use Rattle.radio_base.specs.declared.payload.Payload.{Payload}
use Rattle.ax_link.specs.Carrying.{is_on}
use Rattle.link_life.specs.declared.act.EndAct.TheVariants.{SetUp, Send, Arrive, Lose}
use Rattle.link_life.specs.declared.act.LifeAct.{LifeAct}
use Rattle.link_life.specs.declared.act.LifeAct.TheVariants.{At, Tick}
use Rattle.link_life.specs.declared.act.Side.TheVariants.{A, B}
use Rattle.link_life.specs.Ends.{End, Epoch, Flight, epochs, partner_of}
use Rattle.link_life.specs.declared.act.NumberedAct.{NumberedAct}
use Rattle.link_life.specs.Lives.{Life, new_life, run, settings}
use Rattle.link_life.specs.Reports.{epochs_text, life_text}

-- a frame under way was sent before now, and no longer ago than the channel delays one
pub record IsInTime (now delay : ℕ) (f : Flight) : Type 0 where
  pub sent : f.sent ≤ now
  pub kept : now ≤ f.sent + delay

abbrev pub AllInTime : ℕ → ℕ → List Flight → Type 0
AllInTime now delay coming = AllByRecursion (IsInTime now delay) coming

-- so are all frames under way
pub record InTime (w : Life) : Type 0 where
  pub a : AllInTime w.now w.delay w.a.coming
  pub b : AllInTime w.now w.delay w.b.coming

-- in each life, at each moment
abbrev pub FramesInTime : Type 0
FramesInTime = (size delay : ℕ) (srej : Bool) (acts : List LifeAct) → InTime (run (new_life size srej delay) acts)

-- Of an epoch with this number and of its partner: it got a beginning of what its partner was given, it counts as acknowledged
-- no more than its partner got, and its partner's partner, where it has one, is this epoch.
pub record ArePartners (number : ℕ) (e partner : Epoch) : Type 0 where
  pub got : IsPrefix e.received partner.given
  pub acked : e.acked ≤ length partner.received
  pub partners_partner : (partner_of partner.heard ≡ 0) ⊎ (partner_of partner.heard ≡ number)

-- an epoch without a partner got nothing, and nothing of it is acknowledged
pub record IsAlone (e : Epoch) : Type 0 where
  pub got : e.received ≡ []
  pub acked : e.acked ≡ 0

-- the partner is the epoch of the other end with its number, from 1; 0 stands for none
abbrev pub WithPartner : ℕ → ℕ → Epoch → List Epoch → Type 0
WithPartner zero number e others = IsAlone e
WithPartner (suc before) number e others = (partner : Epoch) × (slice_get others before ≡ Some partner) × ArePartners number e partner

-- a frame of account that an epoch took while Up was sent in the epoch that is its partner
pub record IsFrom (partner epoch : ℕ) : Type 0 where
  pub same : epoch ≡ partner
  pub some : 0 < epoch

-- of an epoch with this number: so were all such frames
pub record EpochSafe (number : ℕ) (e : Epoch) (others : List Epoch) : Type 0 where
  pub heard : AllByRecursion (IsFrom (partner_of e.heard)) e.heard
  pub partner : WithPartner (partner_of e.heard) number e others

-- each epoch of an end, those that are over and the one that lasts
abbrev pub EpochsSafe : List Epoch → List Epoch → Type 0
EpochsSafe es others = (before : ℕ) (e : Epoch) → slice_get es before ≡ Some e → EpochSafe (suc before) e others

-- an epoch lasts while a link is Up or Releasing, so that nothing which is taken while Up goes unheard
abbrev pub EpochLasts : End → Type 0
EpochLasts e = is_some e.heard ≡ is_on e.link.phase

pub record LifeSafe (w : Life) : Type 0 where
  pub a : EpochsSafe (epochs w.a) (epochs w.b)
  pub b : EpochsSafe (epochs w.b) (epochs w.a)
  pub a_lasts : EpochLasts w.a
  pub b_lasts : EpochLasts w.b

-- in each life, at each moment, where two delays are shorter than T1
abbrev pub LivesAreSafe : Type 0
LivesAreSafe =
    (size delay : ℕ) (srej : Bool) (acts : List LifeAct) → (size ≡ 8) ⊎ (size ≡ 128) → 2 * delay < (settings srej).t1 →
    LifeSafe (run (new_life size srej delay) acts)

-- There is a life in which an answer to a set-up is lost, the set-up command comes again and resets the end that is Up, and a payload is
-- carried then: its partners are the first epoch of one end and the second of the other.
abbrev pub set_up_again : Payload → List LifeAct
set_up_again p =
    At A SetUp ∷ At B Arrive ∷ At A Lose ∷ Tick 3000 ∷ At B Arrive ∷ At A Arrive ∷ At A (Send p) ∷ At B Arrive ∷ At A Arrive ∷ []

abbrev pub SetUpAgain : Type 0
SetUpAgain =
    (p : Payload) →
    let w : Life = run (new_life 8 false 1000) (set_up_again p) in
    (epochs w.a ≡ record { given = p ∷ []; received = []; acked = 1; heard = 2 ∷ [] } ∷ [])
    × (epochs w.b ≡ record { given = []; received = []; acked = 0; heard = [] } ∷ record { given = []; received = p ∷ []; acked = 0; heard = 1 ∷ [] } ∷ [])

-- and one in which two set-ups cross and a payload is carried
abbrev pub set_ups_cross : Payload → List LifeAct
set_ups_cross p =
    At A SetUp ∷ At B SetUp ∷ At A Arrive ∷ At B Arrive ∷ At A Arrive ∷ At B Arrive ∷ At A (Send p) ∷ At B Arrive ∷ At A Arrive ∷ []

abbrev pub SetUpsCross : Type 0
SetUpsCross =
    (p : Payload) →
    let w : Life = run (new_life 8 false 1000) (set_ups_cross p) in
    (epochs w.a ≡ record { given = p ∷ []; received = []; acked = 1; heard = 1 ∷ [] } ∷ [])
    × (epochs w.b ≡ record { given = []; received = p ∷ []; acked = 0; heard = 1 ∷ [] } ∷ [])

-- With delays of half of T1 lives aren't safe: the answer to a set-up command comes as the command goes out again. It opens one end, and
-- what that end sends then is heard by the epoch to which the second command has reset the other.
abbrev pub late_answer : Payload → List LifeAct
late_answer p =
    At A SetUp ∷ Tick 1500 ∷ At B Arrive ∷ Tick 1500 ∷ At A Arrive ∷ At B (Send p) ∷ At A Arrive ∷ At B Arrive ∷ At B Arrive ∷ []

abbrev pub HalfIsTooLong : Type 0
HalfIsTooLong = (p : Payload) → LifeSafe (run (new_life 8 false 1500) (late_answer p)) → ⊥

-- a report ends with the epochs of the life after what the script asks for
abbrev pub ReportsEnd : Type 0
ReportsEnd =
    (w : Life) (script : List NumberedAct) → (lines : List ℕ) × (life_text w script ≡ lines ++ epochs_text (run w (map (λ n. n.act) script)))
