-- The other inputs of an end in Up keep the two ways.
use Rattle.std.proofs.Common.{ℕ, suc, ◌+◌, List, [], ◌∷◌, ◌++◌, length, drop, Option, Some, None, refl, ap, sym, ◌∙◌, arith, max, true, false, ◌&&◌, subst, append_assoc, append-nil, nat_le, nat_eq, if◌then◌else◌, length-append}
use mathlib.Core.List.{IsPrefix}
use Rattle.ax_link.specs.Moves.{emit, note, to_phase, rr, fill, finish, start_poll, follow}
use Rattle.ax_link.specs.declared.kind.Kind.TheVariants.{Disc, Dm, SetUp}
use Rattle.ax_link.specs.State.{State, Frame, Effect, begin, is_up, busy, t1_runs, update_t1}
use Rattle.ax_link.specs.Table.{Send, Close, Take, takes, may_close, step_at, tick, expire, retry_in, fail_in}
use Rattle.ax_link.specs.declared.notice.LinkNotice.TheVariants.{Failed}
use Rattle.ax_link.specs.declared.phase.LinkPhase.TheVariants.{Down, SettingUp, Up, Releasing}
use Rattle.ax_link.specs.declared.phase.LinkPhase.{LinkPhase}
use Rattle.radio_base.specs.declared.payload.Payload.{Payload}
use Rattle.ax_link.specs.Pair.{Both, Core, core, reach, EarlyFine, texts_of}
use Rattle.ax_link.proofs.Ways.{texts_given, get_more}
use Rattle.ax_link.proofs.Steps.{Fine, fine_if, fine_rr, fine_other, fine_fill, fine_finish}
use Rattle.ax_link.proofs.PairTexts.{both_moved}

early_given : (given more : List Payload) (base : ℕ) (e : List (Option Payload)) → EarlyFine given base e → EarlyFine (given ++ more) base e
early_given given more base [] f = tt
early_given given more base (None ∷ e) f = early_given given more (suc base) e f
early_given given more base (Some p ∷ e) f = (get_more given more base p f.0, early_given given more (suc base) e f.1)

prefix_more : (xs ys zs : List Payload) → IsPrefix xs ys → IsPrefix xs (ys ++ zs)
prefix_more xs ys zs p = (p.0 ++ zs, sym (append_assoc xs p.0 zs) ∙ ap (λ k. k ++ zs) p.1)

-- a payload is given
both_given : (me other : Core) (to_me to_other : List Frame) (p : Payload) → Both me other to_me to_other → Both (record me { given = me.given ++ p ∷ [] }) other to_me to_other
both_given me other to_me to_other p b = record {
  out = record {
    fits = record { size = b.out.fits.size; window = b.out.fits.window; both = b.out.fits.both };
    begun = prefix_more other.received me.given (p ∷ []) b.out.begun;
    early = early_given me.given (p ∷ []) (length other.received) other.early b.out.early;
    texts = texts_given me.given (p ∷ []) me.rules.size me.rules.window me.sent (texts_of to_other) (reach other) b.out.texts;
    acks = b.out.acks;
    window = b.out.window;
    room = omega (arith, b.out.room, length-append me.given (p ∷ []));
  };
  back = record { fits = record { size = b.back.fits.size; window = b.back.fits.window; both = b.back.fits.both }; begun = b.back.begun; early = b.back.early; texts = b.back.texts; acks = b.back.acks; window = b.back.window; room = b.back.room };
}

-- nothing was put out yet
pub fine_begin : (s : State) (other : Core) (to_me to_other : List Frame) → Both (core s) other to_me to_other → Fine (begin s) other to_me to_other
fine_begin s other to_me to_other b = subst (Both (core s) other to_me) (sym (append-nil to_other)) b

pub fine_send : (now : ℕ) (p : Payload) (s : State) (other : Core) (to_me to_other : List Frame) → Both (core s) other to_me to_other → Fine (step_at now s (Send p)) other to_me to_other
fine_send now p s other to_me to_other b =
    fine_if (takes s) (fill now (begin (record s { given = s.given ++ p ∷ [] }))) (begin s) other to_me to_other
    (fine_fill now (begin (record s { given = s.given ++ p ∷ [] })) other to_me to_other (fine_begin (record s { given = s.given ++ p ∷ [] }) other to_me to_other (both_given (core s) other to_me to_other p b)))
    (fine_begin s other to_me to_other b)

pub fine_close : (now : ℕ) (s : State) (other : Core) (to_me to_other : List Frame) → Both (core s) other to_me to_other → Fine (step_at now s Close) other to_me to_other
fine_close now s other to_me to_other b =
    fine_if (may_close s.phase) (finish now (begin (record s { closing = true }))) (begin s) other to_me to_other
    (fine_finish now (begin (record s { closing = true })) other to_me to_other (fine_begin s other to_me to_other b))
    (fine_begin s other to_me to_other b)

pub fine_take : (now : ℕ) (s : State) (other : Core) (to_me to_other : List Frame) → Both (core s) other to_me to_other → Fine (step_at now s Take) other to_me to_other
fine_take now s other to_me to_other b =
    fine_if (is_up s.phase && busy s) (emit false (rr (follow (record s { inbox = drop 1 s.inbox })) false) (begin (follow (record s { inbox = drop 1 s.inbox })))) (begin (record s { inbox = drop 1 s.inbox })) other to_me to_other
    (fine_rr false false (begin (follow (record s { inbox = drop 1 s.inbox }))) other to_me to_other
    (fine_begin (follow (record s { inbox = drop 1 s.inbox })) other to_me to_other (both_moved (length s.early) (record s { inbox = drop 1 s.inbox }) other to_me to_other b)))
    (fine_begin s other to_me to_other b)

fine_poll : (now : ℕ) (g : Effect) (other : Core) (to_me to_other : List Frame) → Fine g other to_me to_other → Fine (start_poll now g) other to_me to_other
fine_poll now g other to_me to_other b = fine_rr true true (record g { link = update_t1 now g.link (record g.link { polling = true }) }) other to_me to_other b

fine_retry : (ph : LinkPhase) (now : ℕ) (g : Effect) (other : Core) (to_me to_other : List Frame) → Fine g other to_me to_other → Fine (retry_in ph now g) other to_me to_other
fine_retry Down now g other to_me to_other b = b
fine_retry SettingUp now g other to_me to_other b = fine_other true (SetUp true) g other to_me to_other refl refl b
fine_retry Up now g other to_me to_other b = fine_poll now g other to_me to_other b
fine_retry Releasing now g other to_me to_other b = fine_other true (Disc true) g other to_me to_other refl refl b

fine_fail : (ph : LinkPhase) (now : ℕ) (g : Effect) (other : Core) (to_me to_other : List Frame) → Fine g other to_me to_other → Fine (note Failed (to_phase now Down (fail_in ph g))) other to_me to_other
fine_fail Down now g other to_me to_other b = b
fine_fail SettingUp now g other to_me to_other b = b
fine_fail Up now g other to_me to_other b = fine_other false (Dm false) g other to_me to_other refl refl b
fine_fail Releasing now g other to_me to_other b = b

pub fine_tick : (now : ℕ) (g : Effect) (other : Core) (to_me to_other : List Frame) → Fine g other to_me to_other → Fine (tick now g) other to_me to_other
fine_tick now g other to_me to_other b =
    fine_if (t1_runs g.link) (if nat_le g.link.t1_at now then expire now g else g) (if is_up g.link.phase && nat_le (max g.link.last_arrival g.link.t1_stopped_at + g.link.rules.t3) now then start_poll now g else g) other to_me to_other
    (fine_if (nat_le g.link.t1_at now) (expire now g) g other to_me to_other
    (fine_if (nat_eq g.link.tries g.link.rules.retries) (note Failed (to_phase now Down (fail_in g.link.phase g))) (retry_in g.link.phase now (record g { link = record g.link { tries = suc g.link.tries } })) other to_me to_other
    (fine_fail g.link.phase now g other to_me to_other b)
    (fine_retry g.link.phase now (record g { link = record g.link { tries = suc g.link.tries } }) other to_me to_other b)) b)
    (fine_if (is_up g.link.phase && nat_le (max g.link.last_arrival g.link.t1_stopped_at + g.link.rules.t3) now) (start_poll now g) g other to_me to_other (fine_poll now g other to_me to_other b) b)
