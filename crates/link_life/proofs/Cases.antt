-- What a step of a link can be, where only frames come that links put out.
use Rattle.std.proofs.Common.{◌≡◌, ◌⊎◌, inl, inr, ◌≤◌, ◌+◌, ℕ, suc, min, Bool, true, false, ◌&&◌, nat_eq, nat_le, if◌then◌else◌, List, [], ◌∷◌, ◌++◌, length, drop, Option, Some, None, refl, ap, sym, ◌∙◌, subst, arith, append-nil}
use Rattle.std.proofs.lemmas.Bool.Decides.{nat_tests}
use Rattle.std.specs.List.{AllByRecursion}
use Rattle.std.specs.Option.{option_to_list}
use Rattle.radio_base.specs.declared.payload.Payload.{Payload}
use Rattle.ax_link.specs.declared.kind.Kind.{Kind}
use Rattle.ax_link.specs.declared.kind.Kind.TheVariants as kind
use Rattle.ax_link.specs.declared.notice.LinkNotice.{LinkNotice}
use Rattle.ax_link.specs.declared.notice.LinkNotice.TheVariants.{Failed}
use Rattle.ax_link.specs.declared.phase.LinkPhase.{LinkPhase}
use Rattle.ax_link.specs.declared.phase.LinkPhase.TheVariants.{Down, SettingUp, Up, Releasing}
use Rattle.ax_link.specs.Carrying.{StaysOn, carries}
use Rattle.ax_link.specs.Laws.{notice_of}
use Rattle.ax_link.specs.Moves.{fill, start_poll}
use Rattle.ax_link.specs.Pair.{Both, Core, IsNew, NoRestartIn, core, opens, reach}
use Rattle.ax_link.specs.Runs.{sets_up}
use Rattle.ax_link.specs.State.{Effect, Frame, State, begin, count_end, is_up, t1_runs, t3_at}
use Rattle.ax_link.specs.Table.{Input, Set_up, Send, Arrive, Tick, Close, Take, accept, arrive_down, arrive_releasing, arrive_setting_up, come_up, fail, refuse_if, retry, step, takes}
use Rattle.ax_link.proofs.RunStates.{top_none}
use Rattle.link_life.specs.Ends.{any_begins, is_of_account}
use Rattle.link_life.proofs.Known.{Known}

-- a frame by which the other end may be made to answer
abbrev pub asks : Kind → Bool
asks (kind.Ua pf) = false
asks (kind.Dm pf) = false
asks _ = true

-- an answer that an end takes which is being set up
abbrev pub answers : Kind → Bool
answers (kind.Ua pf) = pf
answers (kind.Dm pf) = pf
answers _ = false

-- links put out no other kinds
abbrev pub goes_out : Kind → Bool
goes_out (kind.OtherSetUp pf) = false
goes_out (kind.Frmr pf) = false
goes_out (kind.Xid pf) = false
goes_out kind.Other = false
goes_out _ = true

abbrev pub NoneOf : (Kind → Bool) → List Frame → Type 0
NoneOf test fs = AllByRecursion (λ f. test f.kind ≡ false) fs

abbrev pub answers_in : List Frame → ℕ
answers_in [] = 0
answers_in (f ∷ fs) = if answers f.kind then suc (answers_in fs) else answers_in fs

-- how many answers an input may bring
abbrev pub asked_by : Input → ℕ
asked_by (Arrive f) = if asks f.kind then 1 else 0
asked_by _ = 0

abbrev pub MayCome : Input → Type 0
MayCome (Arrive f) = goes_out f.kind ≡ true
MayCome _ = Unit {0}

-- neither a set-up command nor an answer that opens
abbrev pub StaysUnopened : Input → Type 0
StaysUnopened (Arrive f) = (sets_up f.kind ≡ false) × (opens f.kind ≡ false)
StaysUnopened _ = Unit {0}

-- nothing that opens goes out, unless something asked for it that doesn't set up
abbrev pub OpensOnlyAsked : Input → List Frame → Type 0
OpensOnlyAsked i outs = NoneOf opens outs ⊎ ((f : Frame) × (i ≡ Arrive f) × (asks f.kind ≡ true) × (sets_up f.kind ≡ false))

-- nothing got, nothing early, nothing acknowledged
pub record IsFresh (c : Core) : Type 0 where
  pub acked : c.acked ≡ 0
  pub reach : reach c ≡ 0

abbrev pub ua : Bool → Frame
ua pf = record { command = false; kind = kind.Ua pf; payload = None }

abbrev pub set_up_frame : Frame
set_up_frame = record { command = true; kind = kind.SetUp true; payload = None }

-- it keeps the payloads and acknowledgements sound, where nothing is put out and nothing comes that is of account
abbrev pub KeepsBoth : State → State → Type 0
KeepsBoth s t = (other : Core) (to_s to_other : List Frame) → Both (core s) other to_s to_other → Both (core t) other to_s to_other

pub data Case (s : State) (i : Input) (now : ℕ) (g : Effect) : Type 0 where
  -- Down stays Down
  rests : s.phase ≡ Down → g.link.phase ≡ Down → any_begins g.notes ≡ false → NoneOf asks g.outs → NoneOf opens g.outs → Case s i now g
  -- Down is set up
  starts : s.phase ≡ Down → g.link.phase ≡ SettingUp → any_begins g.notes ≡ false → i ≡ Set_up → g.outs ≡ set_up_frame ∷ [] → IsNew g.link →
      g.link.t1_at ≡ min now count_end + s.rules.t1 → Case s i now g
  -- a set-up command opens or resets
  begins : (f : Frame) (pf : Bool) → (s.phase ≡ Down) ⊎ (s.phase ≡ Up) → g.link.phase ≡ Up → any_begins g.notes ≡ true → i ≡ Arrive f → sets_up f.kind ≡ true → g.outs ≡ ua pf ∷ [] →
      IsNew g.link → Case s i now g
  -- SettingUp stays so
  waits : s.phase ≡ SettingUp → g.link.phase ≡ SettingUp → any_begins g.notes ≡ false → StaysUnopened i → NoneOf asks g.outs → NoneOf opens g.outs →
      g.link.t1_at ≡ s.t1_at → (IsNew s → IsNew g.link) → KeepsBoth s g.link → Case s i now g
  -- and answers a set-up command
  crosses : (f : Frame) (pf : Bool) → s.phase ≡ SettingUp → g.link.phase ≡ SettingUp → any_begins g.notes ≡ false → i ≡ Arrive f → sets_up f.kind ≡ true → g.outs ≡ ua pf ∷ [] →
      g.link.t1_at ≡ s.t1_at → (IsNew s → IsNew g.link) → Case s i now g
  -- and asks once more
  retries : s.phase ≡ SettingUp → g.link.phase ≡ SettingUp → any_begins g.notes ≡ false → i ≡ Tick → s.t1_at ≤ min now count_end → g.outs ≡ set_up_frame ∷ [] →
      g.link.t1_at ≡ min now count_end + s.rules.t1 → core g.link ≡ core s → Case s i now g
  -- and gives up, or is refused
  fails : s.phase ≡ SettingUp → g.link.phase ≡ Down → any_begins g.notes ≡ false → g.outs ≡ [] →
      ((i ≡ Tick) × (s.t1_at ≤ min now count_end)) ⊎ ((f : Frame) × (i ≡ Arrive f) × (answers f.kind ≡ true)) → Case s i now g
  -- and comes up
  comes_up : (f : Frame) → s.phase ≡ SettingUp → any_begins g.notes ≡ true → i ≡ Arrive f → f.kind ≡ kind.Ua true → StaysOn g → (IsNew s → IsFresh (core g.link)) → Case s i now g
  -- Up goes on, or releases
  goes_on : s.phase ≡ Up → any_begins g.notes ≡ false → NoRestartIn i → StaysOn g → Case s i now g
  -- Up goes Down
  leaves : s.phase ≡ Up → g.link.phase ≡ Down → any_begins g.notes ≡ false → NoRestartIn i → NoneOf asks g.outs → Case s i now g
  -- Releasing stays so
  idles : s.phase ≡ Releasing → g.link.phase ≡ Releasing → any_begins g.notes ≡ false → core g.link ≡ core s → NoneOf sets_up g.outs → NoneOf is_of_account g.outs → OpensOnlyAsked i g.outs →
      Case s i now g
  -- Releasing goes Down
  ends : s.phase ≡ Releasing → g.link.phase ≡ Down → any_begins g.notes ≡ false → core g.link ≡ core s → g.outs ≡ [] → Case s i now g

pub record Step (s : State) (i : Input) (now : ℕ) (g : Effect) : Type 0 where
  pub is : Case s i now g
  pub few : answers_in g.outs ≤ asked_by i

pub one_answer : (pf : Bool) → ◌≤◌ (if pf then 1 else 0) 1
one_answer true = omega arith
one_answer false = omega arith

pub same_both : (s t : State) → core t ≡ core s → KeepsBoth s t
same_both s t e other to_s to_other b = subst (λ c. Both c other to_s to_other) (sym e) b

-- ---- Down

down_refuses : (asked pf : Bool) (s : State) (f : Frame) (now : ℕ) → asks f.kind ≡ true → Step (record s { phase = Down }) (Arrive f) now (refuse_if asked pf (begin (record s { phase = Down; last_arrival = min now count_end })))
down_refuses true pf s f now e =
    record { is = rests refl refl refl (refl, tt) (refl, tt); few = subst (λ b. (if pf then 1 else 0) ≤ (if b then 1 else 0)) (sym e) (one_answer pf) }
down_refuses false pf s f now e = record { is = rests refl refl refl tt tt; few = omega arith }

down_step : (command : Bool) (k : Kind) (p : Option Payload) (s : State) (now : ℕ) → goes_out k ≡ true →
    Step (record s { phase = Down }) (Arrive (record { command = command; kind = k; payload = p })) now (arrive_down (min now count_end) command k (begin (record s { phase = Down; last_arrival = min now count_end })))
down_step command (kind.SetUp pf) p s now m =
    record { is = begins (record { command = command; kind = kind.SetUp pf; payload = p }) pf (inl refl) refl refl refl refl refl (record { acked = refl; sent = refl; high = omega (arith, top_none (if s.rules.srej then s.rules.window else 0)) }); few = one_answer pf }
down_step command (kind.Disc pf) p s now m = down_refuses command pf s (record { command = command; kind = kind.Disc pf; payload = p }) now refl
down_step command (kind.I ns nr pf) p s now m = down_refuses (command && pf) true s (record { command = command; kind = kind.I ns nr pf; payload = p }) now refl
down_step command (kind.Rr nr pf) p s now m = down_refuses (command && pf) true s (record { command = command; kind = kind.Rr nr pf; payload = p }) now refl
down_step command (kind.Rnr nr pf) p s now m = down_refuses (command && pf) true s (record { command = command; kind = kind.Rnr nr pf; payload = p }) now refl
down_step command (kind.Rej nr pf) p s now m = down_refuses (command && pf) true s (record { command = command; kind = kind.Rej nr pf; payload = p }) now refl
down_step command (kind.Srej nr pf) p s now m = down_refuses (command && pf) true s (record { command = command; kind = kind.Srej nr pf; payload = p }) now refl
down_step command (kind.Dm pf) p s now m = record { is = rests refl refl refl tt tt; few = omega arith }
down_step command (kind.Ua pf) p s now m = record { is = rests refl refl refl tt tt; few = omega arith }
down_step command (kind.Xid pf) p s now m = absurd (cc m)
down_step command (kind.OtherSetUp pf) p s now m = absurd (cc m)
down_step command (kind.Frmr pf) p s now m = absurd (cc m)
down_step command kind.Other p s now m = absurd (cc m)

rests_now : (s : State) (i : Input) (now : ℕ) (t : State) → t.phase ≡ Down → Step (record s { phase = Down }) i now (begin t)
rests_now s i now t e = record { is = rests refl e refl tt tt; few = omega arith }

-- ---- SettingUp

waits_now : (s : State) (i : Input) (now : ℕ) (t : State) → StaysUnopened i → t.phase ≡ SettingUp → t.t1_at ≡ s.t1_at → core t ≡ core s → (IsNew s → IsNew t) →
    Step (record s { phase = SettingUp }) i now (begin t)
waits_now s i now t u e a c n = record { is = waits refl e refl u tt tt a (λ x. n (record { acked = x.acked; sent = x.sent; high = x.high })) (same_both (record s { phase = SettingUp }) t c); few = omega arith }

unheeded : (f : Frame) (s : State) (now : ℕ) → StaysUnopened (Arrive f) → Step (record s { phase = SettingUp }) (Arrive f) now (begin (record s { phase = SettingUp; last_arrival = min now count_end }))
unheeded f s now u = waits_now s (Arrive f) now (record s { phase = SettingUp; last_arrival = min now count_end }) u refl refl refl (λ x. record { acked = x.acked; sent = x.sent; high = x.high })

pub fresh_if : (b : Bool) (g h : Effect) → IsFresh (core g.link) → IsFresh (core h.link) → IsFresh (core (if b then g else h).link)
fresh_if true g h x y = x
fresh_if false g h x y = y

notes_at : (g : Effect) (n : Option LinkNotice) (b : Bool) → g.notes ≡ option_to_list n → any_begins (option_to_list n) ≡ b → any_begins g.notes ≡ b
notes_at g n b e q = ap any_begins e ∙ q

carried_answers : (k : Kind) (fs : List Frame) → carries k ≡ true → (if answers k then suc (answers_in fs) else answers_in fs) ≡ answers_in fs
carried_answers (kind.Ua pf) fs e = absurd (cc e)
carried_answers (kind.Dm pf) fs e = absurd (cc e)
carried_answers _ fs e = refl

carried_none : (fs : List Frame) → AllByRecursion (λ f. carries f.kind ≡ true) fs → answers_in fs ≡ 0
carried_none [] a = refl
carried_none (f ∷ fs) a = carried_answers f.kind fs a.0 ∙ carried_none fs a.1

setting_step : (known : Known) (command : Bool) (k : Kind) (p : Option Payload) (s : State) (now : ℕ) → goes_out k ≡ true →
    Step (record s { phase = SettingUp }) (Arrive (record { command = command; kind = k; payload = p })) now (arrive_setting_up (min now count_end) k (begin (record s { phase = SettingUp; last_arrival = min now count_end })))
setting_step known command (kind.Ua true) p s now m =
    let f : Frame = record { command = command; kind = kind.Ua true; payload = p } in
    let t : State = record s { phase = SettingUp } in
    let on : StaysOn (step t (Arrive f) now) = known.comes_up t f now refl refl in
    record {
      is = comes_up f refl (notes_at (step t (Arrive f) now) (notice_of t (Arrive f) now) true (known.notices t (Arrive f) now) refl) refl refl on
          (λ x. fresh_if (is_up Up && s.closing && nat_eq s.acked (length s.given)) _ (fill (min now count_end) (come_up (min now count_end) (begin (record t { last_arrival = min now count_end }))))
          (record { acked = x.acked; reach = x.high }) (record { acked = x.acked; reach = x.high }));
      few = omega (arith, carried_none (step t (Arrive f) now).outs on.outs);
    }
setting_step known command (kind.Ua false) p s now m = unheeded (record { command = command; kind = kind.Ua false; payload = p }) s now (refl, refl)
setting_step known command (kind.Dm true) p s now m = record { is = fails refl refl refl refl (inr (record { command = command; kind = kind.Dm true; payload = p }, refl, refl)); few = omega arith }
setting_step known command (kind.Dm false) p s now m = unheeded (record { command = command; kind = kind.Dm false; payload = p }) s now (refl, refl)
setting_step known command (kind.SetUp pf) p s now m =
    record { is = crosses (record { command = command; kind = kind.SetUp pf; payload = p }) pf refl refl refl refl refl refl refl (λ x. record { acked = x.acked; sent = x.sent; high = x.high }); few = one_answer pf }
setting_step known command (kind.Disc pf) p s now m =
    record { is = waits refl refl refl (refl, refl) (refl, tt) (refl, tt) refl (λ x. record { acked = x.acked; sent = x.sent; high = x.high }) (λ other a b x. x); few = one_answer pf }
setting_step known command (kind.I ns nr pf) p s now m = unheeded (record { command = command; kind = kind.I ns nr pf; payload = p }) s now (refl, refl)
setting_step known command (kind.Rr nr pf) p s now m = unheeded (record { command = command; kind = kind.Rr nr pf; payload = p }) s now (refl, refl)
setting_step known command (kind.Rnr nr pf) p s now m = unheeded (record { command = command; kind = kind.Rnr nr pf; payload = p }) s now (refl, refl)
setting_step known command (kind.Rej nr pf) p s now m = unheeded (record { command = command; kind = kind.Rej nr pf; payload = p }) s now (refl, refl)
setting_step known command (kind.Srej nr pf) p s now m = unheeded (record { command = command; kind = kind.Srej nr pf; payload = p }) s now (refl, refl)
setting_step known command (kind.OtherSetUp pf) p s now m = absurd (cc m)
setting_step known command (kind.Frmr pf) p s now m = absurd (cc m)
setting_step known command (kind.Xid pf) p s now m = absurd (cc m)
setting_step known command kind.Other p s now m = absurd (cc m)

setting_tick : (c d : Bool) (s : State) (now : ℕ) → nat_le s.t1_at (min now count_end) ≡ c →
    let t : State = record s { phase = SettingUp } in
    Step t Tick now (if c then (if d then fail (min now count_end) (begin t) else retry (min now count_end) (begin t)) else begin t)
setting_tick true true s now e = record { is = fails refl refl refl refl (inl (refl, grind (arith, nat_tests, e))); few = omega arith }
setting_tick true false s now e = record { is = retries refl refl refl refl (grind (arith, nat_tests, e)) refl refl refl; few = omega arith }
setting_tick false d s now e = waits_now s Tick now (record s { phase = SettingUp }) tt refl refl refl (λ x. record { acked = x.acked; sent = x.sent; high = x.high })

setting_sends : (b : Bool) (s : State) (p : Payload) (now : ℕ) → (takes (record s { phase = SettingUp }) ≡ b) → Known →
    let t : State = record s { phase = SettingUp } in
    Step t (Send p) now (if b then accept (min now count_end) p (begin t) else begin t)
setting_sends true s p now e known =
    let t : State = record s { phase = SettingUp } in
    let g : Effect = accept (min now count_end) p (begin t) in
    record {
      is = waits refl refl refl tt tt tt refl (λ x. record { acked = x.acked; sent = omega (arith, x.sent); high = x.high })
          (λ other to_s to_other x.
          let whole = subst (λ b. Both (core (if b then g else begin t).link) other to_s (to_other ++ (if b then g else begin t).outs)) e (known.sends now t p other to_s to_other x) in
          subst (λ q. Both (core g.link) other to_s q) (append-nil to_other) whole);
      few = omega arith;
    }
setting_sends false s p now e known = waits_now s (Send p) now (record s { phase = SettingUp }) tt refl refl refl (λ x. record { acked = x.acked; sent = x.sent; high = x.high })

-- ---- Releasing

idles_now : (s : State) (i : Input) (now : ℕ) (t : State) → t.phase ≡ Releasing → core t ≡ core s → Step (record s { phase = Releasing }) i now (begin t)
idles_now s i now t e c = record { is = idles refl e refl c tt tt (inl tt); few = omega arith }

releasing_step : (command : Bool) (k : Kind) (p : Option Payload) (s : State) (now : ℕ) → goes_out k ≡ true →
    Step (record s { phase = Releasing }) (Arrive (record { command = command; kind = k; payload = p })) now (arrive_releasing (min now count_end) k (begin (record s { phase = Releasing; last_arrival = min now count_end })))
releasing_step command (kind.Ua true) p s now m = record { is = ends refl refl refl refl refl; few = omega arith }
releasing_step command (kind.Ua false) p s now m = record { is = idles refl refl refl refl tt tt (inl tt); few = omega arith }
releasing_step command (kind.Dm true) p s now m = record { is = ends refl refl refl refl refl; few = omega arith }
releasing_step command (kind.Dm false) p s now m = record { is = idles refl refl refl refl tt tt (inl tt); few = omega arith }
releasing_step command (kind.Disc pf) p s now m = record { is = idles refl refl refl refl (refl, tt) (refl, tt) (inr (record { command = command; kind = kind.Disc pf; payload = p }, refl, refl, refl)); few = one_answer pf }
releasing_step command (kind.SetUp pf) p s now m = record { is = idles refl refl refl refl (refl, tt) (refl, tt) (inl (refl, tt)); few = one_answer pf }
releasing_step command (kind.I ns nr pf) p s now m = record { is = idles refl refl refl refl tt tt (inl tt); few = omega arith }
releasing_step command (kind.Rr nr pf) p s now m = record { is = idles refl refl refl refl tt tt (inl tt); few = omega arith }
releasing_step command (kind.Rnr nr pf) p s now m = record { is = idles refl refl refl refl tt tt (inl tt); few = omega arith }
releasing_step command (kind.Rej nr pf) p s now m = record { is = idles refl refl refl refl tt tt (inl tt); few = omega arith }
releasing_step command (kind.Srej nr pf) p s now m = record { is = idles refl refl refl refl tt tt (inl tt); few = omega arith }
releasing_step command (kind.OtherSetUp pf) p s now m = absurd (cc m)
releasing_step command (kind.Frmr pf) p s now m = absurd (cc m)
releasing_step command (kind.Xid pf) p s now m = absurd (cc m)
releasing_step command kind.Other p s now m = absurd (cc m)

releasing_tick : (c d : Bool) (s : State) (now : ℕ) →
    let t : State = record s { phase = Releasing } in
    Step t Tick now (if c then (if d then fail (min now count_end) (begin t) else retry (min now count_end) (begin t)) else begin t)
releasing_tick true true s now = record { is = ends refl refl refl refl refl; few = omega arith }
releasing_tick true false s now = record { is = idles refl refl refl refl (refl, tt) (refl, tt) (inl (refl, tt)); few = omega arith }
releasing_tick false d s now = idles_now s Tick now (record s { phase = Releasing }) refl refl

-- ---- Up

on_now : (known : Known) (s : State) (i : Input) (now : ℕ) → NoRestartIn i → notice_of (record s { phase = Up }) i now ≡ None → Step (record s { phase = Up }) i now (step (record s { phase = Up }) i now)
on_now known s i now r e =
    let t : State = record s { phase = Up } in
    let on : StaysOn (step t i now) = known.up t i now refl e in
    record {
      is = goes_on refl (notes_at (step t i now) (notice_of t i now) false (known.notices t i now) (ap (λ n. any_begins (option_to_list n)) e)) r on;
      few = omega (arith, carried_none (step t i now).outs on.outs);
    }

up_step : (known : Known) (command : Bool) (k : Kind) (p : Option Payload) (s : State) (now : ℕ) → goes_out k ≡ true →
    Step (record s { phase = Up }) (Arrive (record { command = command; kind = k; payload = p })) now (step (record s { phase = Up }) (Arrive (record { command = command; kind = k; payload = p })) now)
up_step known command (kind.SetUp pf) p s now m =
    record { is = begins (record { command = command; kind = kind.SetUp pf; payload = p }) pf (inr refl) refl refl refl refl refl (record { acked = refl; sent = refl; high = omega (arith, top_none (if s.rules.srej then s.rules.window else 0)) }); few = one_answer pf }
up_step known command (kind.Disc pf) p s now m = record { is = leaves refl refl refl tt (refl, tt); few = one_answer pf }
up_step known command (kind.Dm pf) p s now m = record { is = leaves refl refl refl tt tt; few = omega arith }
up_step known command (kind.I ns nr pf) p s now m = on_now known s (Arrive (record { command = command; kind = kind.I ns nr pf; payload = p })) now tt refl
up_step known command (kind.Rr nr pf) p s now m = on_now known s (Arrive (record { command = command; kind = kind.Rr nr pf; payload = p })) now tt refl
up_step known command (kind.Rnr nr pf) p s now m = on_now known s (Arrive (record { command = command; kind = kind.Rnr nr pf; payload = p })) now tt refl
up_step known command (kind.Rej nr pf) p s now m = on_now known s (Arrive (record { command = command; kind = kind.Rej nr pf; payload = p })) now tt refl
up_step known command (kind.Srej nr pf) p s now m = on_now known s (Arrive (record { command = command; kind = kind.Srej nr pf; payload = p })) now tt refl
up_step known command (kind.Ua pf) p s now m = on_now known s (Arrive (record { command = command; kind = kind.Ua pf; payload = p })) now tt refl
up_step known command (kind.OtherSetUp pf) p s now m = absurd (cc m)
up_step known command (kind.Frmr pf) p s now m = absurd (cc m)
up_step known command (kind.Xid pf) p s now m = absurd (cc m)
up_step known command kind.Other p s now m = absurd (cc m)

up_tick : (runs comes last asks : Bool) (s : State) (now : ℕ) →
    let t : State = record s { phase = Up } in
    let m : ℕ = min now count_end in
    let g : Effect = if runs then (if comes then (if last then fail m (begin t) else retry m (begin t)) else begin t) else if asks then start_poll m (begin t) else begin t in
    ((if runs && (comes && last) then Some Failed else None) ≡ None → Step t Tick now g) → Step t Tick now g
up_tick true true true asks s now x = record { is = leaves refl refl refl tt (refl, tt); few = omega arith }
up_tick true true false asks s now x = x refl
up_tick true false last asks s now x = x refl
up_tick false comes last asks s now x = x refl

-- ---- all

in_phase : (known : Known) (ph : LinkPhase) (s : State) (i : Input) (now : ℕ) → MayCome i → Step (record s { phase = ph }) i now (step (record s { phase = ph }) i now)
in_phase known Down s Set_up now m =
    record { is = starts refl refl refl refl refl (record { acked = refl; sent = refl; high = omega (arith, top_none (if s.rules.srej then s.rules.window else 0)) }) refl; few = omega arith }
in_phase known Down s (Send p) now m = rests_now s (Send p) now (record s { phase = Down }) refl
in_phase known Down s (Arrive f) now m = down_step f.command f.kind f.payload s now m
in_phase known Down s Tick now m = rests_now s Tick now (record s { phase = Down }) refl
in_phase known Down s Close now m = rests_now s Close now (record s { phase = Down }) refl
in_phase known Down s Take now m = rests_now s Take now (record s { phase = Down; inbox = drop 1 s.inbox }) refl
in_phase known SettingUp s Set_up now m = waits_now s Set_up now (record s { phase = SettingUp }) tt refl refl refl (λ x. record { acked = x.acked; sent = x.sent; high = x.high })
in_phase known SettingUp s (Send p) now m = setting_sends (takes (record s { phase = SettingUp })) s p now refl known
in_phase known SettingUp s (Arrive f) now m = setting_step known f.command f.kind f.payload s now m
in_phase known SettingUp s Tick now m = setting_tick (nat_le s.t1_at (min now count_end)) (nat_eq s.tries s.rules.retries) s now refl
in_phase known SettingUp s Close now m = waits_now s Close now (record s { phase = SettingUp; closing = true }) tt refl refl refl (λ x. record { acked = x.acked; sent = x.sent; high = x.high })
in_phase known SettingUp s Take now m = waits_now s Take now (record s { phase = SettingUp; inbox = drop 1 s.inbox }) tt refl refl refl (λ x. record { acked = x.acked; sent = x.sent; high = x.high })
in_phase known Up s Set_up now m = on_now known s Set_up now tt refl
in_phase known Up s (Send p) now m = on_now known s (Send p) now tt refl
in_phase known Up s (Arrive f) now m = up_step known f.command f.kind f.payload s now m
in_phase known Up s Tick now m =
    let t : State = record s { phase = Up } in
    up_tick (t1_runs t) (nat_le s.t1_at (min now count_end)) (nat_eq s.tries s.rules.retries) (is_up Up && nat_le (t3_at t) (min now count_end)) s now (on_now known s Tick now tt)
in_phase known Up s Close now m = on_now known s Close now tt refl
in_phase known Up s Take now m = on_now known s Take now tt refl
in_phase known Releasing s Set_up now m = idles_now s Set_up now (record s { phase = Releasing }) refl refl
in_phase known Releasing s (Send p) now m = idles_now s (Send p) now (record s { phase = Releasing }) refl refl
in_phase known Releasing s (Arrive f) now m = releasing_step f.command f.kind f.payload s now m
in_phase known Releasing s Tick now m = releasing_tick (nat_le s.t1_at (min now count_end)) (nat_eq s.tries s.rules.retries) s now
in_phase known Releasing s Close now m = idles_now s Close now (record s { phase = Releasing }) refl refl
in_phase known Releasing s Take now m = idles_now s Take now (record s { phase = Releasing; inbox = drop 1 s.inbox }) refl refl

pub step_is : (known : Known) (s : State) (i : Input) (now : ℕ) → MayCome i → Step s i now (step s i now)
step_is known s i now m = in_phase known s.phase s i now m
