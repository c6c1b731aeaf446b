-- The table of an end of a link: what it does with each input in each phase (AX.25 2.2, section 6, with the choices of
-- this project's profile). An input that the table doesn't name does nothing.
use Rattle.std.specs.Prelude.{ℕ, suc, ◌+◌, min, Bool, true, false, not, ◌&&◌, nat_eq, nat_lt, nat_le, if◌then◌else◌, [], ◌∷◌, ◌++◌, length, drop, Option}
use Rattle.radio_base.specs.declared.payload.Payload.{Payload}
use Rattle.ax_link.specs.declared.phase.LinkPhase.{LinkPhase}
use Rattle.ax_link.specs.declared.phase.LinkPhase.TheVariants.{Down, SettingUp, Up, Releasing}
use Rattle.ax_link.specs.declared.notice.LinkNotice.TheVariants.{Opened, Reset, Closed, Refused, Failed}
use Rattle.ax_link.specs.declared.kind.Kind.{Kind}
use Rattle.ax_link.specs.declared.kind.Kind.TheVariants.{I, Rr, Rnr, Rej, Srej, SetUp, OtherSetUp, Disc, Dm, Ua, Frmr, Xid}
use Rattle.ax_link.specs.State.{Frame, State, Effect, count_end, begin, busy, is_up, t1_runs, t3_at}
use Rattle.ax_link.specs.Moves.{emit, to_phase, note, reset, emit_timed, fill, finish, supply, start_poll, resume, on_i, on_supervisory, on_srej}

abbrev pub refuse_if : Bool → Bool → Effect → Effect
refuse_if asked pf g = if asked then emit false (Dm pf) g else g

abbrev pub arrive_down : ℕ → Bool → Kind → Effect → Effect
arrive_down now command (SetUp pf) g = note Opened (emit false (Ua pf) (to_phase now Up (reset now g)))
arrive_down now command (Disc pf) g = refuse_if command pf g
arrive_down now command (Xid pf) g = refuse_if command pf g
arrive_down now command (I ns nr pf) g = refuse_if (command && pf) true g
arrive_down now command (Rr nr pf) g = refuse_if (command && pf) true g
arrive_down now command (Rnr nr pf) g = refuse_if (command && pf) true g
arrive_down now command (Rej nr pf) g = refuse_if (command && pf) true g
arrive_down now command (Srej nr pf) g = refuse_if (command && pf) true g
arrive_down now command _ g = g

abbrev pub come_up : ℕ → Effect → Effect
come_up now g = note Opened (to_phase now Up g)

abbrev pub arrive_setting_up : ℕ → Kind → Effect → Effect
arrive_setting_up now (Ua pf) g = if pf then supply now (come_up now g) else g
arrive_setting_up now (Dm pf) g = if pf then note Refused (to_phase now Down g) else g
arrive_setting_up now (SetUp pf) g = emit false (Ua pf) g
arrive_setting_up now (Disc pf) g = emit false (Dm pf) g
arrive_setting_up now _ g = g

abbrev pub arrive_up : ℕ → Bool → Kind → Option Payload → Effect → Effect
arrive_up now command (I ns nr pf) p g = on_i now pf ns nr p g
arrive_up now command (Rr nr pf) p g = on_supervisory now command false false pf nr g
arrive_up now command (Rnr nr pf) p g = on_supervisory now command true false pf nr g
arrive_up now command (Rej nr pf) p g = on_supervisory now command false true pf nr g
arrive_up now command (Srej nr pf) p g = on_srej now pf nr g
arrive_up now command (SetUp pf) p g = note Reset (emit false (Ua pf) (reset now g))
arrive_up now command (Disc pf) p g = note Closed (to_phase now Down (emit false (Ua pf) g))
arrive_up now command (Dm pf) p g = note Closed (to_phase now Down g)
arrive_up now command (Frmr pf) p g = emit_timed now true (SetUp true) (to_phase now SettingUp (note Reset (reset now g)))
arrive_up now command _ p g = g

abbrev pub arrive_releasing : ℕ → Kind → Effect → Effect
arrive_releasing now (Ua pf) g = if pf then note Closed (to_phase now Down g) else g
arrive_releasing now (Dm pf) g = if pf then note Closed (to_phase now Down g) else g
arrive_releasing now (Disc pf) g = emit false (Ua pf) g
arrive_releasing now (SetUp pf) g = emit false (Dm pf) g
arrive_releasing now (OtherSetUp pf) g = emit false (Dm pf) g
arrive_releasing now _ g = g

abbrev pub arrive_in : LinkPhase → ℕ → Frame → Effect → Effect
arrive_in Down now f g = arrive_down now f.command f.kind g
arrive_in SettingUp now f g = arrive_setting_up now f.kind g
arrive_in Up now f g = arrive_up now f.command f.kind f.payload g
arrive_in Releasing now f g = arrive_releasing now f.kind g

abbrev pub fail_in : LinkPhase → Effect → Effect
fail_in Up g = emit false (Dm false) g
fail_in _ g = g

abbrev pub retry_in : LinkPhase → ℕ → Effect → Effect
retry_in Down now g = g
retry_in SettingUp now g = emit_timed now true (SetUp true) g
retry_in Up now g = start_poll now g
retry_in Releasing now g = emit_timed now true (Disc true) g

abbrev pub fail : ℕ → Effect → Effect
fail now g = note Failed (to_phase now Down (fail_in g.link.phase g))

abbrev pub retry : ℕ → Effect → Effect
retry now g = retry_in g.link.phase now (record g { link = record g.link { tries = suc g.link.tries } })

abbrev pub expire : ℕ → Effect → Effect
expire now g = if nat_eq g.link.tries g.link.rules.retries then fail now g else retry now g

abbrev pub tick : ℕ → Effect → Effect
tick now g =
    if t1_runs g.link
    then (if nat_le g.link.t1_at now then expire now g else g)
    else if is_up g.link.phase && nat_le (t3_at g.link) now then start_poll now g
    else g

pub data Input : Type 0 where
  Set_up : Input
  Send : Payload → Input
  Arrive : Frame → Input
  Tick : Input
  Close : Input
  Take : Input

abbrev pub may_close : LinkPhase → Bool
may_close SettingUp = true
may_close Up = true
may_close _ = false

abbrev pub takes : State → Bool
takes s = may_close s.phase && (not s.closing && (nat_lt (length s.given) (s.acked + 128) && nat_lt (length s.given) count_end))

abbrev pub set_up_in : LinkPhase → ℕ → Effect → Effect
set_up_in Down now g = emit_timed now true (SetUp true) (to_phase now SettingUp (reset now g))
set_up_in _ now g = g

abbrev pub accept : ℕ → Payload → Effect → Effect
accept now p g = fill now (record g { link = record g.link { given = g.link.given ++ p ∷ [] } })

abbrev pub close_in_turn : ℕ → Effect → Effect
close_in_turn now g = finish now (record g { link = record g.link { closing = true } })

abbrev pub take_first : Effect → Effect
take_first g =
    let rest = record g.link { inbox = drop 1 g.link.inbox } in
    if is_up g.link.phase && busy g.link then resume (record g { link = rest }) else record g { link = rest }

abbrev pub step_at : ℕ → State → Input → Effect
step_at now s Set_up = set_up_in s.phase now (begin s)
step_at now s (Send p) = if takes s then accept now p (begin s) else begin s
step_at now s (Arrive f) = arrive_in s.phase now f (begin (record s { last_arrival = now }))
step_at now s Tick = tick now (begin s)
step_at now s Close = if may_close s.phase then close_in_turn now (begin s) else begin s
step_at now s Take = take_first (begin s)

abbrev pub step : State → Input → ℕ → Effect
step s input now = step_at (min now count_end) s input
