-- Which kinds of frames go out in which phase.
use Rattle.std.proofs.Common.{◌≡◌, ℕ, zero, suc, Bool, true, false, ◌&&◌, nat_eq, nat_le, if◌then◌else◌, List, [], ◌∷◌, ◌++◌, length, min, Option, Some, None, refl}
use Rattle.std.specs.List.{AllByRecursion}
use Rattle.radio_base.specs.declared.payload.Payload.{Payload}
use Rattle.ax_link.specs.declared.kind.Kind.{Kind}
use Rattle.ax_link.specs.declared.kind.Kind.TheVariants as kind
use Rattle.ax_link.specs.declared.phase.LinkPhase.{LinkPhase}
use Rattle.ax_link.specs.declared.phase.LinkPhase.TheVariants.{Down, SettingUp, Up, Releasing}
use Rattle.ax_link.specs.Bounds.{Bounded, stock}
use Rattle.ax_link.specs.Laws.{KindsGoOut, may_go_out}
use Rattle.ax_link.specs.State.{Frame, State, Effect, begin, count_end, is_up}
use Rattle.ax_link.specs.Moves.{fill, fill_count, frames_of, supply}
use Rattle.ax_link.specs.Table.{Input, Set_up, Send, Arrive, Tick, Close, Take, step, accept, arrive_down, arrive_releasing, arrive_setting_up, fail, come_up, refuse_if, retry, takes}
use Rattle.ax_link.proofs.PutOut.{IsPut, IsPutOut, every}
use Rattle.ax_link.proofs.PutFrames.{every_put}

abbrev AllGo : LinkPhase → List Frame → Type 0
AllGo phase fs = AllByRecursion (λ f. may_go_out phase f.kind ≡ true) fs

go_if : (phase : LinkPhase) (b : Bool) (g h : Effect) → AllGo phase g.outs → AllGo phase h.outs → AllGo phase (if b then g else h).outs
go_if phase true g h x y = x
go_if phase false g h x y = y

both_go : (phase : LinkPhase) (fs gs : List Frame) → AllGo phase fs → AllGo phase gs → AllGo phase (fs ++ gs)
both_go phase [] gs x y = y
both_go phase (f ∷ fs) gs x y = (x.0, both_go phase fs gs x.1 y)

-- ---- Down

refused_go : (asked pf : Bool) (s : State) → AllGo Down (refuse_if asked pf (begin s)).outs
refused_go true pf s = (refl, tt)
refused_go false pf s = tt

down_go : (now : ℕ) (command : Bool) (k : Kind) (s : State) → AllGo Down (arrive_down now command k (begin s)).outs
down_go now command (kind.SetUp pf) s = (refl, tt)
down_go now command (kind.Disc pf) s = refused_go command pf s
down_go now command (kind.Xid pf) s = refused_go command pf s
down_go now command (kind.I ns nr pf) s = refused_go (command && pf) true s
down_go now command (kind.Rr nr pf) s = refused_go (command && pf) true s
down_go now command (kind.Rnr nr pf) s = refused_go (command && pf) true s
down_go now command (kind.Rej nr pf) s = refused_go (command && pf) true s
down_go now command (kind.Srej nr pf) s = refused_go (command && pf) true s
down_go now command (kind.OtherSetUp pf) s = tt
down_go now command (kind.Dm pf) s = tt
down_go now command (kind.Ua pf) s = tt
down_go now command (kind.Frmr pf) s = tt
down_go now command kind.Other s = tt

-- ---- SettingUp

frames_go : (size got : ℕ) (given : List Payload) (n many : ℕ) → AllGo SettingUp (frames_of size got given n many)
frames_go size got given n zero = tt
frames_go size got given n (suc many) = (refl, frames_go size got given (suc n) many)

supply_goes : (now : ℕ) (h : Effect) → AllGo SettingUp h.outs → AllGo SettingUp (supply now h).outs
supply_goes now h a =
    let g : Effect = fill now h in
    let s : State = h.link in
    let x : AllGo SettingUp g.outs = both_go SettingUp h.outs _ a (frames_go s.rules.size (length s.received) s.given s.sent (fill_count s)) in
    go_if SettingUp (is_up g.link.phase && g.link.closing && nat_eq g.link.acked (length g.link.given)) _ g
    (both_go SettingUp g.outs (record { command = true; kind = kind.Disc true; payload = None } ∷ []) x (refl, tt)) x

setting_goes : (now : ℕ) (k : Kind) (s : State) → AllGo SettingUp (arrive_setting_up now k (begin s)).outs
setting_goes now (kind.Ua true) s = supply_goes now (come_up now (begin s)) tt
setting_goes now (kind.Ua false) s = tt
setting_goes now (kind.Dm true) s = tt
setting_goes now (kind.Dm false) s = tt
setting_goes now (kind.SetUp pf) s = (refl, tt)
setting_goes now (kind.Disc pf) s = (refl, tt)
setting_goes now (kind.I ns nr pf) s = tt
setting_goes now (kind.Rr nr pf) s = tt
setting_goes now (kind.Rnr nr pf) s = tt
setting_goes now (kind.Rej nr pf) s = tt
setting_goes now (kind.Srej nr pf) s = tt
setting_goes now (kind.OtherSetUp pf) s = tt
setting_goes now (kind.Frmr pf) s = tt
setting_goes now (kind.Xid pf) s = tt
setting_goes now kind.Other s = tt

-- ---- Releasing

releasing_goes : (now : ℕ) (k : Kind) (s : State) → AllGo Releasing (arrive_releasing now k (begin s)).outs
releasing_goes now (kind.Ua true) s = tt
releasing_goes now (kind.Ua false) s = tt
releasing_goes now (kind.Dm true) s = tt
releasing_goes now (kind.Dm false) s = tt
releasing_goes now (kind.Disc pf) s = (refl, tt)
releasing_goes now (kind.SetUp pf) s = (refl, tt)
releasing_goes now (kind.OtherSetUp pf) s = (refl, tt)
releasing_goes now (kind.I ns nr pf) s = tt
releasing_goes now (kind.Rr nr pf) s = tt
releasing_goes now (kind.Rnr nr pf) s = tt
releasing_goes now (kind.Rej nr pf) s = tt
releasing_goes now (kind.Srej nr pf) s = tt
releasing_goes now (kind.Frmr pf) s = tt
releasing_goes now (kind.Xid pf) s = tt
releasing_goes now kind.Other s = tt

-- ---- Up: all that a link ever puts out

put_goes : (size : ℕ) (command : Bool) (k : Kind) (p : Option Payload) → IsPut every size command k p → may_go_out Up k ≡ true
put_goes size command (kind.I ns nr pf) p x = refl
put_goes size command (kind.Rr nr pf) p x = refl
put_goes size command (kind.Rnr nr pf) p x = refl
put_goes size command (kind.Rej nr pf) p x = refl
put_goes size command (kind.Srej nr pf) p x = refl
put_goes size command (kind.SetUp pf) p x = refl
put_goes size command (kind.Disc pf) p x = refl
put_goes size command (kind.Dm pf) p x = refl
put_goes size command (kind.Ua pf) p x = refl
put_goes size command (kind.OtherSetUp pf) None x = absurd x
put_goes size command (kind.OtherSetUp pf) (Some p) x = absurd x
put_goes size command (kind.Frmr pf) None x = absurd x
put_goes size command (kind.Frmr pf) (Some p) x = absurd x
put_goes size command (kind.Xid pf) None x = absurd x
put_goes size command (kind.Xid pf) (Some p) x = absurd x
put_goes size command kind.Other None x = absurd x
put_goes size command kind.Other (Some p) x = absurd x

up_goes : (size : ℕ) (fs : List Frame) → AllByRecursion (IsPutOut every size) fs → AllGo Up fs
up_goes size [] x = tt
up_goes size (f ∷ fs) x = (put_goes size f.command f.kind f.payload x.0, up_goes size fs x.1)

-- ---- the phases

by_phase : (phase : LinkPhase) (s : State) (i : Input) (now : ℕ) → Bounded (stock s) → AllGo phase (step (record s { phase = phase }) i now).outs
by_phase Down s Set_up now b = (refl, tt)
by_phase Down s (Send p) now b = tt
by_phase Down s (Arrive f) now b = down_go (min now count_end) f.command f.kind (record s { phase = Down; last_arrival = min now count_end })
by_phase Down s Tick now b = tt
by_phase Down s Close now b = tt
by_phase Down s Take now b = tt
by_phase SettingUp s Set_up now b = tt
by_phase SettingUp s (Send p) now b =
    let t : State = record s { phase = SettingUp } in
    go_if SettingUp (takes t) (accept (min now count_end) p (begin t)) (begin t) tt tt
by_phase SettingUp s (Arrive f) now b = setting_goes (min now count_end) f.kind (record s { phase = SettingUp; last_arrival = min now count_end })
by_phase SettingUp s Tick now b =
    let t : State = record s { phase = SettingUp } in
    let m : ℕ = min now count_end in
    go_if SettingUp (nat_le s.t1_at m) _ (begin t)
    (go_if SettingUp (nat_eq s.tries s.rules.retries) (fail m (begin t)) (retry m (begin t)) tt (refl, tt)) tt
by_phase SettingUp s Close now b = tt
by_phase SettingUp s Take now b = tt
by_phase Up s i now b = up_goes _ (step (record s { phase = Up }) i now).outs (every_put (record s { phase = Up }) i now b)
by_phase Releasing s Set_up now b = tt
by_phase Releasing s (Send p) now b = tt
by_phase Releasing s (Arrive f) now b = releasing_goes (min now count_end) f.kind (record s { phase = Releasing; last_arrival = min now count_end })
by_phase Releasing s Tick now b =
    let t : State = record s { phase = Releasing } in
    let m : ℕ = min now count_end in
    go_if Releasing (nat_le s.t1_at m) _ (begin t)
    (go_if Releasing (nat_eq s.tries s.rules.retries) (fail m (begin t)) (retry m (begin t)) tt (refl, tt)) tt
by_phase Releasing s Close now b = tt
by_phase Releasing s Take now b = tt

pub kinds_go_out : KindsGoOut
kinds_go_out s i now b = by_phase s.phase s i now b
