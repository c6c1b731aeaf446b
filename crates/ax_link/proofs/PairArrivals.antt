-- The frame that comes first keeps the two ways.
use Rattle.std.proofs.Common.{◌≡◌, ℕ, suc, ◌+◌, ◌-◌, ◌≤◌, List, ◌∷◌, ◌++◌, length, Option, Some, None, refl, sym, arith, max, min, true, false, Bool, subst, append_assoc, nat_lt, if◌then◌else◌}
use Rattle.std.proofs.lemmas.Bool.Decides.{nat_tests}
use Rattle.ax_link.specs.Moves.{acknowledge, supply, supervisory_at, on_supervisory, text, on_i, on_srej, frames, end_poll}
use Rattle.ax_link.specs.declared.kind.Kind.{Kind}
use Rattle.ax_link.specs.declared.kind.Kind.TheVariants.{I, Rr, Rnr, Rej, Srej, Disc, Dm, Ua, Frmr, SetUp, OtherSetUp, Xid, Other}
use Rattle.ax_link.specs.State.{Frame, Effect, high, ack_place, restart_t1, update_t1}
use Rattle.ax_link.specs.Table.{arrive_up}
use Rattle.radio_base.specs.Modulus.{place_of}
use Rattle.radio_base.specs.declared.payload.Payload.{Payload}
use Rattle.ax_link.specs.Pair.{Both, NoRestart, Core, core, reach, AcksFine, TextsFine, texts_of, acks_of}
use Rattle.ax_link.proofs.Ways.{texts_under, place_in}
use Rattle.ax_link.proofs.Steps.{Fine, way_order, ack_number, fine_ack, fine_supply, fine_supervised, fine_other, both_shots, way_texts, way_acks}
use Rattle.ax_link.proofs.PairTexts.{Coming, fine_text}

-- the first frame on the way is lost
pub both_lost : (me other : Core) (f : Frame) (to_me to_other : List Frame) → AcksFine me.rules.size (length other.received) (acks_of to_me) me.acked → TextsFine other.given other.rules.size other.rules.window other.sent (texts_of to_me) (reach me) → Both me other (f ∷ to_me) to_other → Both me other to_me to_other
both_lost me other f to_me to_other a t b = record { out = way_acks me other to_other (f ∷ to_me) to_me b.out a; back = way_texts other me (f ∷ to_me) to_other to_me b.back t }

supervised_by : (now : ℕ) (command rnr rej pf : Bool) (nr h : ℕ) (g : Effect) (other : Core) (to_me to_me2 to_other : List Frame) → ack_place g.link nr ≡ Some h → g.link.acked ≤ h → AcksFine g.link.rules.size (length other.received) (acks_of to_me2) h → TextsFine other.given other.rules.size other.rules.window other.sent (texts_of to_me2) (high g.link) → Fine g other to_me to_other → Fine (on_supervisory now command rnr rej pf nr g) other to_me2 to_other
supervised_by now command rnr rej pf nr h g other to_me to_me2 to_other e l a t b =
    subst (λ x. Fine (elim x as (λ y. Effect) [ None ↦ g | Some x ↦ supervisory_at now command rnr rej pf x g ]) other to_me2 to_other) (sym e)
    (fine_supervised now command rnr rej pf h g other to_me to_me2 to_other l a t b)

-- RR, RNR or REJ
pub fine_on_supervisory : (now : ℕ) (command rnr rej pf : Bool) (nr : ℕ) (f : Frame) (g : Effect) (other : Core) (to_me to_other : List Frame) → acks_of (f ∷ to_me) ≡ nr ∷ acks_of to_me → texts_of (f ∷ to_me) ≡ texts_of to_me → Fine g other (f ∷ to_me) to_other → Fine (on_supervisory now command rnr rej pf nr g) other to_me to_other
fine_on_supervisory now command rnr rej pf nr f g other to_me to_other a t b =
    let h = ack_number (core g.link) other (to_other ++ g.outs) (f ∷ to_me) nr (acks_of to_me) b.out a in
    supervised_by now command rnr rej pf nr h.0 g other (f ∷ to_me) to_me to_other h.3 h.1 h.4
    (subst (λ k. TextsFine other.given other.rules.size other.rules.window other.sent k (high g.link)) t b.back.texts) b

on_i_by : (now : ℕ) (pf : Bool) (ns nr h : ℕ) (p : Payload) (g : Effect) (other : Core) (to_me to_me2 to_other : List Frame) → ack_place g.link nr ≡ Some h → Fine (text pf ns p (acknowledge now h g)) other to_me2 to_other → Fine (on_i now pf ns nr (Some p) g) other to_me2 to_other
on_i_by now pf ns nr h p g other to_me to_me2 to_other e b =
    subst (λ x. Fine (elim x as (λ y. Effect) [ None ↦ g | Some x ↦ supply now (text pf ns p (acknowledge now x g)) ]) other to_me2 to_other) (sym e)
    (fine_supply now (text pf ns p (acknowledge now h g)) other to_me2 to_other b)

coming_by : (t : Bool) (now h : ℕ) (g : Effect) (other : Core) (to_me : List Frame) (ns : ℕ) (p : Payload) → Coming g.link other to_me ns p → Coming (if t then record g { link = restart_t1 now (update_t1 now g.link (record g.link { acked = h; tries = 0 })) } else g).link other to_me ns p
coming_by true now h g other to_me ns p m = record { number = m.number; wire_form = m.wire_form; payload = m.payload; near = m.near; rest = m.rest }
coming_by false now h g other to_me ns p m = m

coming_ack : (now h : ℕ) (g : Effect) (other : Core) (to_me : List Frame) (ns : ℕ) (p : Payload) → Coming g.link other to_me ns p → Coming (acknowledge now h g).link other to_me ns p
coming_ack now h g other to_me ns p m = coming_by (nat_lt g.link.acked h) now h g other to_me ns p m

-- I
pub fine_on_i : (now : ℕ) (pf : Bool) (ns nr : ℕ) (p : Payload) (f : Frame) (g : Effect) (other : Core) (to_me to_other : List Frame) → acks_of (f ∷ to_me) ≡ nr ∷ acks_of to_me → texts_of (f ∷ to_me) ≡ (ns, p) ∷ texts_of to_me → Fine g other (f ∷ to_me) to_other → Fine (on_i now pf ns nr (Some p) g) other to_me to_other
fine_on_i now pf ns nr p f g other to_me to_other a t b =
    let h = ack_number (core g.link) other (to_other ++ g.outs) (f ∷ to_me) nr (acks_of to_me) b.out a in
    let c = subst (λ k. TextsFine other.given other.rules.size other.rules.window other.sent k (high g.link)) t b.back.texts in
    let m : Coming g.link other to_me ns p = record { number = c.0; wire_form = c.1; payload = c.2; near = c.3; rest = c.4 } in
    let u : TextsFine other.given other.rules.size other.rules.window other.sent (texts_of to_me) (high g.link) = texts_under other.given other.rules.size other.rules.window other.sent (texts_of to_me) (max (high g.link) (suc c.0)) (high g.link) (omega arith) c.4 in
    let k : Fine (acknowledge now h.0 g) other to_me to_other = fine_ack now h.0 g other (f ∷ to_me) to_me to_other h.1 h.4 u b in
    on_i_by now pf ns nr h.0 p g other (f ∷ to_me) to_me to_other h.3
    (fine_text pf ns p (acknowledge now h.0 g) other to_me to_other (coming_ack now h.0 g other to_me ns p m) k)

srej_none_by : (x : Option ℕ) (g : Effect) (other : Core) (to_me to_other : List Frame) → ((y : ℕ) → x ≡ Some y → Fine (record g { outs = g.outs ++ frames g.link y 1 }) other to_me to_other) → Fine g other to_me to_other → Fine (elim x as (λ z. Effect) [ None ↦ g | Some y ↦ record g { outs = g.outs ++ frames g.link y 1 } ]) other to_me to_other
srej_none_by None g other to_me to_other s b = b
srej_none_by (Some y) g other to_me to_other s b = s y refl

-- some I frames again
fine_shots : (g : Effect) (other : Core) (to_me to_other : List Frame) (n many : ℕ) → g.link.acked ≤ n → n + many ≤ g.link.sent → Fine g other to_me to_other → Fine (record g { outs = g.outs ++ frames g.link n many }) other to_me to_other
fine_shots g other to_me to_other n many l u b = subst (Both (core g.link) other to_me) (append_assoc to_other g.outs (frames g.link n many)) (both_shots (core g.link) other to_me (to_other ++ g.outs) n many l u b)

-- SREJ with F 0
pub fine_on_srej_0 : (now nr : ℕ) (g : Effect) (other : Core) (to_me to_other : List Frame) → Fine g other to_me to_other → Fine (on_srej now false nr g) other to_me to_other
fine_on_srej_0 now nr g other to_me to_other b =
    srej_none_by (place_of g.link.rules.size nr g.link.acked (g.link.sent - g.link.acked)) g other to_me to_other
    (λ y e. let o = way_order (core g.link) other (to_other ++ g.outs) to_me b.out in
    let q = place_in nr g.link.acked (g.link.sent - g.link.acked) g.link.rules.size y (omega (arith, b.out.fits.window)) e in
    fine_shots g other to_me to_other y 1 q.1 (omega (arith, q.1, q.2, o)) b) b

abbrev tried : (now h : ℕ) (g : Effect) → Effect
tried now h g = end_poll now (acknowledge now h g)

srej_at_one : (now : ℕ) (h : Effect) (x : ℕ) (other : Core) (to_me to_other : List Frame) → h.link.acked ≡ x → Fine h other to_me to_other → Fine (supply now (record h { outs = h.outs ++ frames h.link x (min 1 (h.link.sent - x)) })) other to_me to_other
srej_at_one now h x other to_me to_other e b =
    let o = way_order (core h.link) other (to_other ++ h.outs) to_me b.out in
    fine_supply now (record h { outs = h.outs ++ frames h.link x (min 1 (h.link.sent - x)) }) other to_me to_other
    (fine_shots h other to_me to_other x (min 1 (h.link.sent - x)) (omega (arith, e)) (omega (arith, e, o)) b)

-- a frame that an end in Up may meet without leaving what the law speaks of
pub fine_quiet : (f : Frame) (g : Effect) (other : Core) (to_me to_other : List Frame) → acks_of (f ∷ to_me) ≡ acks_of to_me → texts_of (f ∷ to_me) ≡ texts_of to_me → Fine g other (f ∷ to_me) to_other → Fine g other to_me to_other
fine_quiet f g other to_me to_other a t b = both_lost (core g.link) other f to_me (to_other ++ g.outs)
    (subst (λ k. AcksFine g.link.rules.size (length other.received) k g.link.acked) a b.out.acks)
    (subst (λ k. TextsFine other.given other.rules.size other.rules.window other.sent k (high g.link)) t b.back.texts) b

acked_by : (t : Bool) (now h : ℕ) (g : Effect) → nat_lt g.link.acked h ≡ t → g.link.acked ≤ h → (if t then record g { link = restart_t1 now (update_t1 now g.link (record g.link { acked = h; tries = 0 })) } else g).link.acked ≡ h
acked_by true now h g e l = refl
acked_by false now h g e l = grind (arith, nat_tests, e, l)

srej_1_by : (now nr h : ℕ) (g : Effect) (other : Core) (to_me to_other : List Frame) → ack_place g.link nr ≡ Some h → Fine (supply now (record (tried now h g) { outs = (tried now h g).outs ++ frames (tried now h g).link h (min 1 ((tried now h g).link.sent - h)) })) other to_me to_other → Fine (on_srej now true nr g) other to_me to_other
srej_1_by now nr h g other to_me to_other e b =
    subst (λ x. Fine (elim x as (λ y. Effect) [ None ↦ g | Some x ↦ let k = end_poll now (acknowledge now x g) in supply now (record k { outs = k.outs ++ frames k.link x (min 1 (k.link.sent - x)) }) ]) other to_me to_other) (sym e) b

-- SREJ with F
pub fine_on_srej_1 : (now nr : ℕ) (f : Frame) (g : Effect) (other : Core) (to_me to_other : List Frame) → acks_of (f ∷ to_me) ≡ nr ∷ acks_of to_me → texts_of (f ∷ to_me) ≡ texts_of to_me → Fine g other (f ∷ to_me) to_other → Fine (on_srej now true nr g) other to_me to_other
fine_on_srej_1 now nr f g other to_me to_other a t b =
    let h = ack_number (core g.link) other (to_other ++ g.outs) (f ∷ to_me) nr (acks_of to_me) b.out a in
    let k : Fine (acknowledge now h.0 g) other to_me to_other = fine_ack now h.0 g other (f ∷ to_me) to_me to_other h.1 h.4 (subst (λ k. TextsFine other.given other.rules.size other.rules.window other.sent k (high g.link)) t b.back.texts) b in
    srej_1_by now nr h.0 g other to_me to_other h.3
    (srej_at_one now (end_poll now (acknowledge now h.0 g)) h.0 other to_me to_other (acked_by (nat_lt g.link.acked h.0) now h.0 g refl h.1) k)

-- an end in Up meets any frame but a set-up command or FRMR
pub fine_up : (now : ℕ) (command : Bool) (c : Kind) (p : Option Payload) (g : Effect) (other : Core) (to_me to_other : List Frame) →
    NoRestart c → Fine g other (record { command = command; kind = c; payload = p } ∷ to_me) to_other → Fine (arrive_up now command c p g) other to_me to_other
fine_up now command (I ns nr pf) (Some p) g other to_me to_other k b = fine_on_i now pf ns nr p (record { command = command; kind = I ns nr pf; payload = Some p }) g other to_me to_other refl refl b
fine_up now command (I ns nr pf) None g other to_me to_other k b = fine_quiet (record { command = command; kind = I ns nr pf; payload = None }) g other to_me to_other refl refl b
fine_up now command (Rr nr pf) p g other to_me to_other k b = fine_on_supervisory now command false false pf nr (record { command = command; kind = Rr nr pf; payload = p }) g other to_me to_other refl refl b
fine_up now command (Rnr nr pf) p g other to_me to_other k b = fine_on_supervisory now command true false pf nr (record { command = command; kind = Rnr nr pf; payload = p }) g other to_me to_other refl refl b
fine_up now command (Rej nr pf) p g other to_me to_other k b = fine_on_supervisory now command false true pf nr (record { command = command; kind = Rej nr pf; payload = p }) g other to_me to_other refl refl b
fine_up now command (Srej nr true) p g other to_me to_other k b = fine_on_srej_1 now nr (record { command = command; kind = Srej nr true; payload = p }) g other to_me to_other refl refl b
fine_up now command (Srej nr false) p g other to_me to_other k b = fine_on_srej_0 now nr g other to_me to_other (fine_quiet (record { command = command; kind = Srej nr false; payload = p }) g other to_me to_other refl refl b)
fine_up now command (SetUp pf) p g other to_me to_other k b = absurd k
fine_up now command (Frmr pf) p g other to_me to_other k b = absurd k
fine_up now command (Disc pf) p g other to_me to_other k b = fine_other false (Ua pf) g other to_me to_other refl refl (fine_quiet (record { command = command; kind = Disc pf; payload = p }) g other to_me to_other refl refl b)
fine_up now command (Dm pf) p g other to_me to_other k b = fine_quiet (record { command = command; kind = Dm pf; payload = p }) g other to_me to_other refl refl b
fine_up now command (Ua pf) p g other to_me to_other k b = fine_quiet (record { command = command; kind = Ua pf; payload = p }) g other to_me to_other refl refl b
fine_up now command (OtherSetUp pf) p g other to_me to_other k b = fine_quiet (record { command = command; kind = OtherSetUp pf; payload = p }) g other to_me to_other refl refl b
fine_up now command (Xid pf) p g other to_me to_other k b = fine_quiet (record { command = command; kind = Xid pf; payload = p }) g other to_me to_other refl refl b
fine_up now command Other p g other to_me to_other k b = fine_quiet (record { command = command; kind = Other; payload = p }) g other to_me to_other refl refl b
