-- What a step puts out can be written, and which payloads it carries.
use Rattle.std.proofs.Common.{◌≡◌, ℕ, ◌+◌, ◌-◌, ◌<◌, ◌≤◌, Bool, true, false, not, ◌&&◌, ◌==◌, if◌then◌else◌, List, [], ◌∷◌, ◌++◌, length, drop, replicate, map, min, Option, Some, None, Result, Ok, Err, OnOk, OnErr, refl, ap, sym, ◌∙◌, subst, arith, length-append}
use Rattle.std.proofs.lemmas.List.{length-replicate}
use Rattle.std.specs.List.{AllByRecursion}
use Rattle.radio_base.specs.declared.payload.Payload.{Payload}
use Rattle.ax_frame.specs.declared.control.Control.{Control}
use Rattle.ax_frame.specs.declared.control.Control.TheVariants as control
use Rattle.ax_link.specs.Kinds.{control_of, kind_of, set_up_kind}
use Rattle.ax_link.specs.declared.kind.Kind.{Kind}
use Rattle.ax_link.specs.declared.kind.Kind.TheVariants as kind
use Rattle.ax_link.specs.declared.phase.LinkPhase.{LinkPhase}
use Rattle.ax_link.specs.declared.phase.LinkPhase.TheVariants.{Down, SettingUp, Up, Releasing}
use Rattle.ax_link.specs.declared.notice.LinkNotice.{LinkNotice}
use Rattle.ax_link.specs.State.{Frame, State, Effect, count_end, begin, busy, is_up}
use Rattle.ax_link.specs.Moves.{resume}
use Rattle.std.specs.Option.{option_to_list}
use Rattle.ax_link.specs.declared.out.LinkOut.{LinkOut}
use Rattle.ax_link.specs.declared.refusal.SendRefusal.{SendRefusal}
use Rattle.ax_link.specs.Standing.{LinkView, Keeps, KeepsEffect, frame_of, state_of}
use Rattle.ax_link.specs.Calls.{view_of}
use Rattle.ax_link.specs.declared.machine.Machine.{Machine}
use Rattle.ax_link.specs.Table.{Input, Set_up, Send, Arrive, Tick, Close, Take, step, accept, set_up_in, takes}
use Rattle.ax_link.specs.Bounds.{Bounded, stock, AllCanBeSent, CanBeSent, Brings, Has, HasIf, HavePayloads}
use Rattle.ax_link.specs.Laws.{BoundsStay}
use Rattle.ax_link.proofs.PutOut.{IsPut, IsPutOut, every}
use Rattle.ax_link.proofs.PutSteps.{good_step}

-- ---- frames that can be written

abbrev out_with : Bool → Control → Option Payload → LinkOut
out_with command c p = record { command = command; control = c; payload = p }

sabm_sent : (b command pf : Bool) (size : ℕ) (p : Option Payload) → (size == 8) ≡ b → IsPut every size command (set_up_kind command b pf) p → CanBeSent size (out_with command (control.Sabm pf) p)
sabm_sent true true pf size None e x = record { control = ap (λ b. control_of size (set_up_kind true b pf)) e ∙ ap (λ b. if b then control.Sabm pf else control.Sabme pf) e; parts = record { numbers = tt; pid_there = refl; no_info = λ q. refl } }
sabm_sent true true pf size (Some p) e x = absurd x
sabm_sent false true pf size None e x = absurd x
sabm_sent false true pf size (Some p) e x = absurd x
sabm_sent b false pf size None e x = absurd x
sabm_sent b false pf size (Some p) e x = absurd x

sabme_sent : (b command pf : Bool) (size : ℕ) (p : Option Payload) → (size == 8) ≡ b → IsPut every size command (set_up_kind command (not b) pf) p → CanBeSent size (out_with command (control.Sabme pf) p)
sabme_sent false true pf size None e x = record { control = ap (λ b. control_of size (set_up_kind true (not b) pf)) e ∙ ap (λ b. if b then control.Sabm pf else control.Sabme pf) e; parts = record { numbers = tt; pid_there = refl; no_info = λ q. refl } }
sabme_sent false true pf size (Some p) e x = absurd x
sabme_sent true true pf size None e x = absurd x
sabme_sent true true pf size (Some p) e x = absurd x
sabme_sent b false pf size None e x = absurd x
sabme_sent b false pf size (Some p) e x = absurd x

can_be_sent : (size : ℕ) (command : Bool) (c : Control) (p : Option Payload) → IsPut every size command (kind_of size command c) p → CanBeSent size (out_with command c p)
can_be_sent size command (control.I ns nr pf) (Some p) x = record { control = refl; parts = record { numbers = (x.0, x.1); pid_there = refl; no_info = λ e. absurd (cc e) } }
can_be_sent size command (control.I ns nr pf) None x = absurd x
can_be_sent size command (control.Rr nr pf) None x = record { control = refl; parts = record { numbers = x; pid_there = refl; no_info = λ e. refl } }
can_be_sent size command (control.Rr nr pf) (Some p) x = absurd x
can_be_sent size command (control.Rnr nr pf) None x = record { control = refl; parts = record { numbers = x; pid_there = refl; no_info = λ e. refl } }
can_be_sent size command (control.Rnr nr pf) (Some p) x = absurd x
can_be_sent size command (control.Rej nr pf) None x = record { control = refl; parts = record { numbers = x; pid_there = refl; no_info = λ e. refl } }
can_be_sent size command (control.Rej nr pf) (Some p) x = absurd x
can_be_sent size command (control.Srej nr pf) None x = record { control = refl; parts = record { numbers = x; pid_there = refl; no_info = λ e. refl } }
can_be_sent size command (control.Srej nr pf) (Some p) x = absurd x
can_be_sent size command (control.Sabm pf) p x = sabm_sent (size == 8) command pf size p refl x
can_be_sent size command (control.Sabme pf) p x = sabme_sent (size == 8) command pf size p refl x
can_be_sent size command (control.Disc pf) None x = record { control = refl; parts = record { numbers = tt; pid_there = refl; no_info = λ e. refl } }
can_be_sent size command (control.Disc pf) (Some p) x = absurd x
can_be_sent size command (control.Dm pf) None x = record { control = refl; parts = record { numbers = tt; pid_there = refl; no_info = λ e. refl } }
can_be_sent size command (control.Dm pf) (Some p) x = absurd x
can_be_sent size command (control.Ua pf) None x = record { control = refl; parts = record { numbers = tt; pid_there = refl; no_info = λ e. refl } }
can_be_sent size command (control.Ua pf) (Some p) x = absurd x
can_be_sent size command (control.Frmr pf) None x = absurd x
can_be_sent size command (control.Frmr pf) (Some p) x = absurd x
can_be_sent size command (control.Ui pf) None x = absurd x
can_be_sent size command (control.Ui pf) (Some p) x = absurd x
can_be_sent size command (control.Xid pf) None x = absurd x
can_be_sent size command (control.Xid pf) (Some p) x = absurd x
can_be_sent size command (control.Test pf) None x = absurd x
can_be_sent size command (control.Test pf) (Some p) x = absurd x

-- ---- payloads of what is put out

has_payload : (test : Payload → Bool) (size : ℕ) (command : Bool) (k : Kind) (p : Option Payload) → IsPut test size command k p → HasIf test p
has_payload test size command k None x = tt
has_payload test size command (kind.I ns nr pf) (Some p) x = x.2
has_payload test size command (kind.Rr nr pf) (Some p) x = absurd x
has_payload test size command (kind.Rnr nr pf) (Some p) x = absurd x
has_payload test size command (kind.Rej nr pf) (Some p) x = absurd x
has_payload test size command (kind.Srej nr pf) (Some p) x = absurd x
has_payload test size command (kind.SetUp pf) (Some p) x = absurd x
has_payload test size command (kind.OtherSetUp pf) (Some p) x = absurd x
has_payload test size command (kind.Disc pf) (Some p) x = absurd x
has_payload test size command (kind.Dm pf) (Some p) x = absurd x
has_payload test size command (kind.Ua pf) (Some p) x = absurd x
has_payload test size command (kind.Frmr pf) (Some p) x = absurd x
has_payload test size command (kind.Xid pf) (Some p) x = absurd x
has_payload test size command kind.Other (Some p) x = absurd x

pub have_payloads : (test : Payload → Bool) (size : ℕ) (fs : List Frame) → AllByRecursion (IsPutOut test size) fs → AllByRecursion (λ f. HasIf test f.payload) fs
have_payloads test size [] a = tt
have_payloads test size (f ∷ fs) a = (has_payload test size f.command f.kind f.payload a.0, have_payloads test size fs a.1)

-- what is said of every payload
all_given : (ps : List Payload) → AllByRecursion (Has every) ps
all_given [] = tt
all_given (p ∷ ps) = (refl, all_given ps)

each_if : (p : Option Payload) → HasIf every p
each_if None = tt
each_if (Some p) = refl

all_early : (ps : List (Option Payload)) → AllByRecursion (HasIf every) ps
all_early [] = tt
all_early (p ∷ ps) = (each_if p, all_early ps)

brings : (i : Input) → Brings every every i
brings Set_up = tt
brings (Send p) = refl
brings (Arrive f) = each_if f.payload
brings Tick = tt
brings Close = tt
brings Take = tt

all_back : (size : ℕ) (outs : List LinkOut) → AllByRecursion (IsPutOut every size) (map (frame_of size) outs) → AllCanBeSent size outs
all_back size [] a = tt
all_back size (o ∷ os) a = (can_be_sent size o.command o.control o.payload a.0, all_back size os a.1)

-- what is said of each payload alone
of_every : (s : State) (i : Input) (now : ℕ) → Bounded (stock s) →
    (Bounded (stock (step s i now).link) × HavePayloads every every (stock (step s i now).link))
    × AllByRecursion (IsPutOut every (step s i now).link.rules.size) (step s i now).outs
of_every s i now b =
    good_step every every (min now count_end) s i (brings i) (b, record { given = all_given s.given; received = all_given s.received; inbox = all_given s.inbox; early = all_early s.early })

pub bounds_stay : BoundsStay
bounds_stay s i now b = (of_every s i now b).0.0

pub every_put : (s : State) (i : Input) (now : ℕ) → Bounded (stock s) → AllByRecursion (IsPutOut every (step s i now).link.rules.size) (step s i now).outs
every_put s i now b = (of_every s i now b).1

abbrev nothing : Payload
nothing = record { pid = 0; info = record { items = [] } }

-- a state whose forgotten payloads are any
abbrev some_gots : LinkView → List Payload
some_gots h = replicate (h.got - length h.inbox) nothing ++ h.inbox

abbrev some_state : ℕ → LinkView → State
some_state size h = state_of size h (replicate h.acked nothing) (some_gots h)

some_got : (h : LinkView) → length h.inbox ≤ h.got → length (some_gots h) ≡ h.got
some_got h l =
    omega (arith, l, length-append (replicate (h.got - length h.inbox) nothing) h.inbox, length-replicate (h.got - length h.inbox) nothing)

some_bounds : {M : Type 0} (size : ℕ) (st : Machine M) → st.window < size → Bounded (stock (some_state size (view_of st)))
some_bounds size st fits =
    let given : length (replicate st.acked nothing ++ st.queue.items) ≡ st.acked + length st.queue.items =
    omega (arith, length-append (replicate st.acked nothing) st.queue.items, length-replicate st.acked nothing) in
    let numbers : st.acked + length st.queue.items ≤ count_end = st.numbers in
    let got : st.got ≤ count_end = st.got_fits in
    record {
      window = fits;
      acked = st.in_order;
      sent = st.sent_in_window;
      given = omega (arith, given, st.sent_is_given);
      held = omega (arith, given, st.queue_fits);
      numbers = omega (arith, given, numbers);
      got = omega (arith, some_got (view_of st) st.inbox_was_got, got);
      places = st.early_places ∙ st.early_room;
      inbox = st.inbox_fits;
      untaken = (replicate (st.got - length st.inbox.items) nothing, refl);
    }

-- what is kept is that of some state
kept_of_some : {M : Type 0} (size : ℕ) (st : Machine M) → Keeps size (view_of st) (some_state size (view_of st))
kept_of_some size st =
    record {
      before = replicate st.acked nothing;
      received = some_gots (view_of st);
      acked = length-replicate st.acked nothing;
      got = some_got (view_of st) st.inbox_was_got;
      is = refl;
    }

-- what waits after a step
pub all_put : {M : Type 0} (size : ℕ) (st : Machine M) (later : LinkView) (i : Input) (now : ℕ) → st.window < size →
    ((s : State) → Keeps size (view_of st) s → KeepsEffect size later (step s i now)) → AllCanBeSent size later.outs
all_put size st later i now fits does =
    let s : State = some_state size (view_of st) in
    let keeps = does s (kept_of_some size st) in
    all_back size later.outs
    (subst (λ (g : Effect). AllByRecursion (IsPutOut every g.link.rules.size) g.outs) keeps.is (every_put s i now (some_bounds size st fits)))

no_notice : (n : Option LinkNotice) → [] ≡ option_to_list n → n ≡ None
no_notice None e = refl
no_notice (Some n) e = absurd (cc e)

-- a step that gives no notice leaves none
pub quiet : {M : Type 0} (size : ℕ) (st : Machine M) (later : LinkView) (i : Input) (now : ℕ) → ((s : State) → (step s i now).notes ≡ []) →
    ((s : State) → Keeps size (view_of st) s → KeepsEffect size later (step s i now)) → later.notice ≡ None
quiet size st later i now none does =
    let s : State = some_state size (view_of st) in
    no_notice later.notice (sym (none s) ∙ ap (λ (g : Effect). g.notes) (does s (kept_of_some size st)).is)

set_up_notes : (phase : LinkPhase) (now : ℕ) (s : State) → (set_up_in phase now (begin s)).notes ≡ []
set_up_notes Down now s = refl
set_up_notes SettingUp now s = refl
set_up_notes Up now s = refl
set_up_notes Releasing now s = refl

pub quiet_set_up : (now : ℕ) (s : State) → (step s Set_up now).notes ≡ []
quiet_set_up now s = set_up_notes s.phase (min now count_end) s

notes_if : (b : Bool) (g h : Effect) → g.notes ≡ [] → h.notes ≡ [] → (if b then g else h).notes ≡ []
notes_if true g h x y = x
notes_if false g h x y = y

pub quiet_send : (now : ℕ) (p : Payload) (s : State) → (step s (Send p) now).notes ≡ []
quiet_send now p s = notes_if (takes s) (accept (min now count_end) p (begin s)) (begin s) refl refl

pub quiet_take : (now : ℕ) (s : State) → (step s Take now).notes ≡ []
quiet_take now s =
    let rest : State = record s { inbox = drop 1 s.inbox } in
    notes_if (is_up s.phase && busy s) (resume (begin rest)) (begin rest) refl refl

pub on_ok_then : (r : Result (Unit {0}) SendRefusal) (P Q : Type 0) → (P → Q) → OnOk r P → OnOk r Q
on_ok_then (Ok tt) P Q f p = f p
on_ok_then (Err e) P Q f p = tt

pub on_err_then : (r : Result (Unit {0}) SendRefusal) (P Q : Type 0) → (P → Q) → OnErr r P → OnErr r Q
on_err_then (Ok tt) P Q f p = tt
on_err_then (Err e) P Q f p = f p

pub either : (r : Result (Unit {0}) SendRefusal) (P : Type 0) → OnOk r P → OnErr r P → P
either (Ok tt) P p q = p
either (Err e) P p q = q
