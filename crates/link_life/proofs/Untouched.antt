-- What an end of a link has got, and what is acknowledged to it, waits for frames of account.
use Rattle.std.proofs.Common.{◌≡◌, ℕ, zero, suc, min, Bool, true, false, ◌&&◌, ◌||◌, nat_eq, nat_le, if◌then◌else◌, List, [], ◌∷◌, length, drop, Option, Some, None, refl, ap, sym, subst, arith}
use Rattle.radio_base.specs.declared.payload.Payload.{Payload}
use Rattle.ax_link.specs.declared.kind.Kind.{Kind}
use Rattle.ax_link.specs.declared.kind.Kind.TheVariants as kind
use Rattle.ax_link.specs.declared.phase.LinkPhase.{LinkPhase}
use Rattle.ax_link.specs.declared.phase.LinkPhase.TheVariants.{Up}
use Rattle.ax_link.specs.Moves.{first_early, follow, follow_by, release, resume, start_poll, take_next}
use Rattle.ax_link.specs.Pair.{core}
use Rattle.ax_link.specs.Runs.{sets_up}
use Rattle.ax_link.specs.State.{State, begin, busy, count_end, is_up, t1_runs, t3_at, top}
use Rattle.ax_link.specs.Table.{Input, Set_up, Send, Arrive, Tick, Close, Take, accept, arrive_up, fail, retry, step, takes}
use Rattle.link_life.specs.Ends.{is_of_account}
use Rattle.link_life.proofs.Cases.{IsFresh, fresh_if, goes_out}

-- no frame of account comes, nor a set-up command
abbrev pub NotHeard : Input → Type 0
NotHeard (Arrive f) = (goes_out f.kind ≡ true) × (is_of_account f.kind ≡ false) × (sets_up f.kind ≡ false)
NotHeard _ = Unit {0}

none_first : (e : List (Option Payload)) → top e ≡ 0 → first_early e ≡ None
none_first [] z = refl
none_first (None ∷ e) z = refl
none_first (Some p ∷ e) z = absurd (omega (arith, z))

none_if : (b : Bool) (o : Option Payload) → o ≡ None → (if b then None else o) ≡ None
none_if true o e = refl
none_if false o e = e

-- nothing that came early follows
follows_none : (k : ℕ) (s : State) → top s.early ≡ 0 → follow_by k s ≡ s
follows_none zero s z = refl
follows_none (suc k) s z =
    subst (λ o. (elim o as (λ x. State) [ None ↦ s | Some p ↦ follow_by k (take_next p s) ]) ≡ s) (sym (none_if (busy s || nat_le count_end (length s.received)) (first_early s.early) (none_first s.early z))) refl

fresh_arrives : (now : ℕ) (command : Bool) (k : Kind) (p : Option Payload) (s : State) → goes_out k ≡ true → is_of_account k ≡ false → sets_up k ≡ false → IsFresh (core s) → IsFresh (core (arrive_up now command k p (begin s)).link)
fresh_arrives now command (kind.Disc pf) p s m a n x = record { acked = x.acked; reach = x.reach }
fresh_arrives now command (kind.Dm pf) p s m a n x = record { acked = x.acked; reach = x.reach }
fresh_arrives now command (kind.Ua pf) p s m a n x = record { acked = x.acked; reach = x.reach }
fresh_arrives now command (kind.SetUp pf) p s m a n x = absurd (cc n)
fresh_arrives now command (kind.OtherSetUp pf) p s m a n x = absurd (cc m)
fresh_arrives now command (kind.Frmr pf) p s m a n x = absurd (cc m)
fresh_arrives now command (kind.Xid pf) p s m a n x = absurd (cc m)
fresh_arrives now command kind.Other p s m a n x = absurd (cc m)
fresh_arrives now command (kind.I ns nr pf) p s m a n x = absurd (cc a)
fresh_arrives now command (kind.Rr nr pf) p s m a n x = absurd (cc a)
fresh_arrives now command (kind.Rnr nr pf) p s m a n x = absurd (cc a)
fresh_arrives now command (kind.Rej nr pf) p s m a n x = absurd (cc a)
fresh_arrives now command (kind.Srej nr pf) p s m a n x = absurd (cc a)

again : (s t : State) → core t ≡ core s → IsFresh (core s) → IsFresh (core t)
again s t e x = subst IsFresh (sym e) x

top_of : (s : State) → IsFresh (core s) → top s.early ≡ 0
top_of s x = let r = x.reach in omega (arith, r)

-- of an end whose phase is written out
untouched : (s : State) (i : Input) (now : ℕ) → NotHeard i → IsFresh (core s) → IsFresh (core (step (record s { phase = Up }) i now).link)
untouched s Set_up now n x = again s (record s { phase = Up }) refl x
untouched s (Send p) now n x =
    let t : State = record s { phase = Up } in
    fresh_if (takes t) (accept (min now count_end) p (begin t)) (begin t) (record { acked = x.acked; reach = x.reach }) (again s t refl x)
untouched s (Arrive f) now n x =
    let m : ℕ = min now count_end in
    let t : State = record s { phase = Up; last_arrival = m } in
    fresh_arrives m f.command f.kind f.payload t n.0 n.1 n.2 (again s t refl x)
untouched s Tick now n x =
    let m : ℕ = min now count_end in
    let t : State = record s { phase = Up } in
    fresh_if (t1_runs t) (if nat_le s.t1_at m then (if nat_eq s.tries s.rules.retries then fail m (begin t) else retry m (begin t)) else begin t)
    (if is_up Up && nat_le (t3_at t) m then start_poll m (begin t) else begin t)
    (fresh_if (nat_le s.t1_at m) (if nat_eq s.tries s.rules.retries then fail m (begin t) else retry m (begin t)) (begin t)
    (fresh_if (nat_eq s.tries s.rules.retries) (fail m (begin t)) (retry m (begin t)) (again s (fail m (begin t)).link refl x) (again s (retry m (begin t)).link refl x))
    (again s t refl x))
    (fresh_if (is_up Up && nat_le (t3_at t) m) (start_poll m (begin t)) (begin t) (again s (start_poll m (begin t)).link refl x) (again s t refl x))
untouched s Close now n x =
    let m : ℕ = min now count_end in
    let t : State = record s { phase = Up; closing = true } in
    fresh_if (is_up Up && true && nat_eq s.acked (length s.given)) (release m (begin t)) (begin t) (again s (release m (begin t)).link refl x) (again s t refl x)
untouched s Take now n x =
    let rest : State = record s { phase = Up; inbox = drop 1 s.inbox } in
    fresh_if (is_up Up && busy s) (resume (begin rest)) (begin rest)
    (again s (follow rest) (ap core (follows_none (length s.early) rest (top_of s x))) x)
    (again s rest refl x)

pub fresh_stays : (s : State) (i : Input) (now : ℕ) → s.phase ≡ Up → NotHeard i → IsFresh (core s) → IsFresh (core (step s i now).link)
fresh_stays s i now u n x = subst (λ (ph : LinkPhase). IsFresh (core (step (record s { phase = ph }) i now).link)) (sym u) (untouched s i now n x)
