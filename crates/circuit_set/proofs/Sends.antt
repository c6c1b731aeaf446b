-- What the parts of a step of an end that is Up do to its sending half, and what they put out.
use Rattle.std.specs.Prelude.{◌≡◌, ℕ, zero, suc, ◌+◌, ◌≤◌, ◌<◌, ◌-◌, ◌%◌, ◌⊎◌, min, Bool, true, false, not, ◌&&◌, nat_eq, nat_lt, if◌then◌else◌, List, [], ◌∷◌, ◌++◌, length, slice_get, Contains, Option, None, Some, refl}
use Rattle.std.proofs.Common.{sym, ap, subst, inl, inr, arith}
use Rattle.std.proofs.lemmas.Bool.Decides.{nat_tests}
use Rattle.radio_base.specs.Modulus.{place_of}
use Rattle.circuit_reassembly.specs.Fragments.{Fragment}
use Rattle.circuit_l4.specs.declared.transport.Flags.{Flags}
use Rattle.circuit_l4.specs.declared.transport.Transport.{Transport}
use Rattle.circuit_l4.specs.declared.transport.Transport.TheVariants.{Request, Accept, Refuse, Disconnect, Disconnected, Info, InfoAck}
use Rattle.circuit_l4.specs.declared.phase.EndPhase.{EndPhase}
use Rattle.circuit_l4.specs.declared.phase.EndPhase.TheVariants.{Up, Closing}
use Rattle.circuit_l4.specs.declared.notice.EndNotice.{EndNotice}
use Rattle.circuit_l4.specs.declared.notice.EndNotice.TheVariants.{Closed, ClosedByPartner}
use Rattle.circuit_l4.specs.declared.owed.Owed.{Owed}
use Rattle.circuit_l4.specs.State.{Effect, Out, State, info, info_ack, infos, is_up, Sending, fragments, total, Receiving}
use Rattle.circuit_l4.specs.Moves.{Acknowledgement, acknowledge, acknowledge_by, advance, again, wait, wait_if_out, hold, begin_to_close, fill, fill_count, finish, is_done, owed_by, emit_infos, put_out, supply, emit_ack}
use Rattle.circuit_l4.proofs.Disconnects.{third_of_and}
use Rattle.circuit_l4.proofs.Parts.{either}
use Rattle.circuit_set.specs.Lines.{at_place}
use Rattle.circuit_set.specs.Outs.{AllOut, OutOk}
use Rattle.circuit_set.proofs.Receives.{place_is}
use Rattle.circuit_table.proofs.Choices.{Named, names, on_due}

-- ---- choices ----
-- what no law reads may change: when an answer is due
waits : (P : State → Type 0) (s : State) (now : ℕ) (due : Option ℕ) → P (wait now s) → P s → P (elim due as (λ d. State) [ None ↦ wait now s | Some d ↦ s ])
waits P s now None h k = h
waits P s now (Some d) h k = k

-- ---- what is put out ----
pub all_out_append : (k : Sending) (got : ℕ) (phase : EndPhase) (xs ys : List Out) → AllOut k got phase xs → AllOut k got phase ys → AllOut k got phase (xs ++ ys)
all_out_append k got phase [] ys p q = q
all_out_append k got phase (x ∷ xs) ys p q = (p.0, all_out_append k got phase xs ys p.1 q)

-- more is sent
out_grows : (k : Sending) (more got : ℕ) (t : Transport) (n : Option ℕ) → OutOk k got Up t n → OutOk (record k { sent = k.sent + more }) got Up t n
out_grows k more got (Info to tx rx flags text) (Some n) h = let below : n < k.sent = h.1 in (h.0, omega arith, h.2, h.3, h.4)
out_grows k more got (Info to tx rx flags text) None h = h
out_grows k more got (InfoAck to rx flags) n h = h
out_grows k more got (Accept to own window) n h = h
out_grows k more got (Disconnect to) n h = h
out_grows k more got (Disconnected to) n h = tt
out_grows k more got (Refuse to) n h = tt
out_grows k more got (Request pair window user node) n h = tt

all_out_grows : (k : Sending) (more got : ℕ) (os : List Out) → AllOut k got Up os → AllOut (record k { sent = k.sent + more }) got Up os
all_out_grows k more got [] h = tt
all_out_grows k more got (o ∷ os) h = (out_grows k more got o.0 o.1 h.0, all_out_grows k more got os h.1)

-- an end that was Up begins to close: nothing but the new Disconnect asks for its phase
out_closes : (k : Sending) (got : ℕ) (t : Transport) (n : Option ℕ) → OutOk k got Up t n → OutOk k got Closing t n
out_closes k got (Info to tx rx flags text) (Some n) h = h
out_closes k got (Info to tx rx flags text) None h = h
out_closes k got (InfoAck to rx flags) n h = h
out_closes k got (Accept to own window) n h = h
out_closes k got (Disconnect to) n h = (h.0, refl)
out_closes k got (Disconnected to) n h = tt
out_closes k got (Refuse to) n h = tt
out_closes k got (Request pair window user node) n h = tt

all_out_closes : (k : Sending) (got : ℕ) (os : List Out) → AllOut k got Up os → AllOut k got Closing os
all_out_closes k got [] h = tt
all_out_closes k got (o ∷ os) h = (out_closes k got o.0 o.1 h.0, all_out_closes k got os h.1)

get_there : (n : ℕ) (xs : List Fragment) → n < length xs → slice_get xs n ≡ None → ⊥
get_there n [] h e = absurd (omega arith)
get_there zero (x ∷ xs) h e = cc
get_there (suc n) (x ∷ xs) h e = get_there n xs (omega arith) e

info_ok : (s : State) (k : Sending) (n : ℕ) (o : Option Fragment) → slice_get (fragments k) n ≡ o → n < total k → k.acked ≤ n → n < k.sent
    → AllOut k s.receiving.got Up (info s n o)
info_ok s k n None e there low high = absurd (get_there n (fragments k) there e)
info_ok s k n (Some f) e there low high = ((low, high, refl, refl, e), tt)

-- fragments of numbers between what is acknowledged and what will be sent
pub infos_ok : (many : ℕ) (s : State) (k : Sending) (n : ℕ) → k.wrote ≡ s.sending.wrote → k.acked ≤ n → n + many ≤ k.sent → k.sent ≤ total k
    → AllOut k s.receiving.got Up (infos s n many)
infos_ok zero s k n e low high written = tt
infos_ok (suc many) s k n e low high written =
    let same : fragments k ≡ fragments s.sending = ap (λ ws. fragments (record { wrote = ws; acked = 0; sent = 0 })) e in
    all_out_append k s.receiving.got Up (info s n (slice_get (fragments s.sending) n)) (infos s (suc n) many)
    (info_ok s k n (slice_get (fragments s.sending) n) (ap (λ fs. slice_get fs n) same) (omega arith) low (omega arith))
    (infos_ok many s k (suc n) e (omega arith) (omega arith) written)

-- ---- an end that is Up, so far ----
-- no notice tells that the circuit was closed
abbrev pub Quiet : List EndNotice → Type 0
Quiet notes = (Contains notes Closed → ⊥) × (Contains notes ClosedByPartner → ⊥)

pub no_notes : Quiet []
no_notes = (λ h. let below : h.0 < 0 = h.1 in omega arith, λ h. let below : h.0 < 0 = h.1 in omega arith)

-- From s a step has come to this sending half and these outputs, at an end that is Up with a window of w. What is
-- acknowledged is what was, or the number h.
pub record OnUp (w : ℕ) (s : State) (h : ℕ) (wrote : List (List ℕ)) (half : Receiving) (named : Named) (phase : EndPhase) (k : Sending) (r : Receiving) (outs : List Out) (notes : List EndNotice) : Type 0 where
  pub quiet : Quiet notes
  pub half_is : r ≡ half
  pub up : phase ≡ Up
  pub same : named ≡ names s
  pub wide : s.window ≡ w
  pub kept : k.wrote ≡ wrote
  pub acked_is : (k.acked ≡ s.sending.acked) ⊎ (k.acked ≡ h)
  pub acked_grows : s.sending.acked ≤ k.acked
  pub within : k.acked ≤ k.sent
  pub sent_grows : s.sending.sent ≤ k.sent
  pub written : k.sent ≤ total k
  pub fits : k.sent ≤ k.acked + w
  pub right : AllOut k r.got Up outs

abbrev pub on_up : ℕ → State → ℕ → List (List ℕ) → Receiving → Effect → Type 0
on_up w s h wrote half g = OnUp w s h wrote half (names g.end) g.end.phase g.end.sending g.end.receiving g.outs g.notes

-- the same with more put out
pub on_more : (w : ℕ) (s : State) (h : ℕ) (wrote : List (List ℕ)) (half : Receiving) (g : Effect) (os : List Out) → on_up w s h wrote half g → AllOut g.end.sending g.end.receiving.got Up os
    → on_up w s h wrote half (record g { outs = g.outs ++ os })
on_more w s h wrote half g os o p = record {
  quiet = o.quiet;
  half_is = o.half_is;
  up = o.up;
  same = o.same;
  wide = o.wide;
  kept = o.kept;
  acked_is = o.acked_is;
  acked_grows = o.acked_grows;
  within = o.within;
  sent_grows = o.sent_grows;
  written = o.written;
  fits = o.fits;
  right = all_out_append g.end.sending g.end.receiving.got Up g.outs os o.right p;
}

pub on_told : (w : ℕ) (s : State) (h : ℕ) (wrote : List (List ℕ)) (half : Receiving) (nak : Bool) (g : Effect) → on_up w s h wrote half g → on_up w s h wrote half (emit_ack nak g)
on_told w s h wrote half nak g o = on_more w s h wrote half g ((info_ack g.end nak, None) ∷ []) o (refl, tt)

pub on_infos : (w : ℕ) (s : State) (h : ℕ) (wrote : List (List ℕ)) (half : Receiving) (n many : ℕ) (g : Effect) → on_up w s h wrote half g → g.end.sending.acked ≤ n → n + many ≤ g.end.sending.sent
    → on_up w s h wrote half (emit_infos n many g)
on_infos w s h wrote half n many g o low high = on_more w s h wrote half g (infos g.end n many) o (infos_ok many g.end g.end.sending n refl low high o.written)

pub on_again : (w : ℕ) (s : State) (h : ℕ) (wrote : List (List ℕ)) (half : Receiving) (g : Effect) → on_up w s h wrote half g → on_up w s h wrote half (again g)
on_again w s h wrote half g o =
    let below : g.end.sending.acked ≤ g.end.sending.sent = o.within in
    on_infos w s h wrote half g.end.sending.acked (g.end.sending.sent - g.end.sending.acked) g o (omega arith) (omega arith)

fill_bound : (acked sent window total : ℕ) (b : Bool) (many : ℕ) → many ≡ (if b then min ((acked + window) - sent) (total - sent) else 0) → sent ≤ acked + window → sent ≤ total
    → (sent + many ≤ acked + window) × (sent + many ≤ total)
fill_bound acked sent window total true many e p q = (omega arith, omega arith)
fill_bound acked sent window total false many e p q = (omega arith, omega arith)

pub on_fill : (w : ℕ) (s : State) (h : ℕ) (wrote : List (List ℕ)) (half : Receiving) (now : ℕ) (g : Effect) → on_up w s h wrote half g → on_up w s h wrote half (fill now g)
on_fill w s h wrote half now g o =
    let k : Sending = g.end.sending in
    let many : ℕ = fill_count g.end in
    let wide : g.end.window ≡ s.window = ap (λ (n : Named). n.window) o.same in
    let is_w : s.window ≡ w = o.wide in
    let p : k.sent ≤ k.acked + w = o.fits in
    let room : (k.sent + many ≤ k.acked + g.end.window) × (k.sent + many ≤ total k)
    = fill_bound k.acked k.sent g.end.window (total k) (is_up g.end.phase && not g.end.choked) many refl (omega arith) o.written in
    let fits : k.sent + many ≤ k.acked + g.end.window = room.0 in
    let written : k.sent + many ≤ total k = room.1 in
    let a : k.acked ≤ k.sent = o.within in
    let old : s.sending.sent ≤ k.sent = o.sent_grows in
    let after : Sending = record k { sent = k.sent + many } in
    let outs : AllOut after g.end.receiving.got Up (g.outs ++ infos g.end k.sent many)
    = all_out_append after g.end.receiving.got Up g.outs (infos g.end k.sent many) (all_out_grows k many g.end.receiving.got g.outs o.right)
    (infos_ok many g.end after k.sent refl (omega arith) (omega arith) written) in
    let done : OnUp w s h wrote half (names g.end) g.end.phase after g.end.receiving (g.outs ++ infos g.end k.sent many) g.notes = record {
      quiet = o.quiet;
      half_is = o.half_is;
      up = o.up;
      same = o.same;
      wide = o.wide;
      kept = o.kept;
      acked_is = o.acked_is;
      acked_grows = o.acked_grows;
      within = omega arith;
      sent_grows = omega arith;
      written = written;
      fits = omega arith;
      right = outs;
    } in
    let P : State → Type 0 = λ (t : State). OnUp w s h wrote half (names t) t.phase t.sending t.receiving (g.outs ++ infos g.end k.sent many) g.notes in
    let filled : State = put_out many g.end in
    either P (nat_lt 0 many) (elim filled.answer_due as (λ d. State) [ None ↦ wait now filled | Some d ↦ filled ]) filled (waits P filled now filled.answer_due done done) done

-- ---- the acknowledgement ----
-- what the acknowledgement part leaves: h is what came acknowledged, where it was taken
pub record AckedTo (s : State) (h : ℕ) (named : Named) (phase : EndPhase) (k : Sending) (r : Receiving) : Type 0 where
  pub same : named ≡ names s
  pub in_phase : phase ≡ s.phase
  pub half : r ≡ s.receiving
  pub wrote : k.wrote ≡ s.sending.wrote
  pub sent : k.sent ≡ s.sending.sent
  pub acked : k.acked ≡ h

abbrev pub acked_to : State → ℕ → State → Type 0
acked_to s h t = AckedTo s h (names t) t.phase t.sending t.receiving

advanced_case : (s : State) (now x : ℕ) (b : Bool) → nat_lt s.sending.acked x ≡ b → s.sending.acked ≤ x
    → acked_to s x (if b then wait_if_out now (record s { sending = record s.sending { acked = x }; tries = 0 }) else s)
advanced_case s now x true e low =
    let t : State = record s { sending = record s.sending { acked = x }; tries = 0 } in
    let done : acked_to s x t = record { same = refl; in_phase = refl; half = refl; wrote = refl; sent = refl; acked = refl } in
    on_due (acked_to s x) (nat_lt t.sending.acked t.sending.sent) now t done done
advanced_case s now x false e low = record { same = refl; in_phase = refl; half = refl; wrote = refl; sent = refl; acked = grind (arith, nat_tests) }

choked_keeps : (s : State) (x now : ℕ) (choke : Bool) (t : State) → acked_to s x t → acked_to s x (hold now choke t)
choked_keeps s x now true t o = o
choked_keeps s x now false t o =
    either (acked_to s x) t.choked (wait_if_out now (record t { choked = false })) t
    (on_due (acked_to s x) (nat_lt t.sending.acked t.sending.sent) now (record t { choked = false }) o o) o

-- what is owed is among what is out
pub record IsOut (owed : Owed) (k : Sending) : Type 0 where
  pub from : k.acked ≤ owed.from
  pub to : owed.from + owed.many ≤ k.sent

owed_case : (x acked sent : ℕ) (c h n : Bool) → acked ≡ x → x ≤ sent → (owed : Owed)
    → owed ≡ (if c then record { from = acked; many = 0 } else if h then record { from = acked; many = sent - acked } else if n then record { from = x; many = min 1 (sent - x) } else record { from = acked; many = 0 })
    → (acked ≤ owed.from) × (owed.from + owed.many ≤ sent)
owed_case x acked sent true h n e p owed q =
    let a : owed.from ≡ acked = ap (λ (o : Owed). o.from) q in let b : owed.many ≡ 0 = ap (λ (o : Owed). o.many) q in (omega arith, omega arith)
owed_case x acked sent false true n e p owed q =
    let a : owed.from ≡ acked = ap (λ (o : Owed). o.from) q in let b : owed.many ≡ sent - acked = ap (λ (o : Owed). o.many) q in (omega arith, omega arith)
owed_case x acked sent false false true e p owed q =
    let a : owed.from ≡ x = ap (λ (o : Owed). o.from) q in let b : owed.many ≡ min 1 (sent - x) = ap (λ (o : Owed). o.many) q in (omega arith, omega arith)
owed_case x acked sent false false false e p owed q =
    let a : owed.from ≡ acked = ap (λ (o : Owed). o.from) q in let b : owed.many ≡ 0 = ap (λ (o : Owed). o.many) q in (omega arith, omega arith)

-- the acknowledgement part: what was acknowledged, or its place
pub record AckPart (s : State) (h : ℕ) (a : Acknowledgement) : Type 0 where
  pub acked : ℕ
  pub is : (acked ≡ s.sending.acked) ⊎ (acked ≡ h)
  pub grows : s.sending.acked ≤ acked
  pub within : acked ≤ s.sending.sent
  pub end : acked_to s acked a.end
  pub from : acked ≤ a.owed.from
  pub to : a.owed.from + a.owed.many ≤ s.sending.sent

ack_case : (s : State) (now rx h : ℕ) (flags : Flags) (o : Option ℕ) → place_of 256 rx s.sending.acked (suc (s.sending.sent - s.sending.acked)) ≡ o
    → s.sending.acked ≤ s.sending.sent → ((x : ℕ) → s.sending.acked ≤ x → x ≤ s.sending.sent → x % 256 ≡ rx → x ≡ h) → AckPart s h (acknowledge_by now flags o s)
ack_case s now rx h flags None q below is = record {
  acked = s.sending.acked;
  is = inl refl;
  grows = omega arith;
  within = below;
  end = record { same = refl; in_phase = refl; half = refl; wrote = refl; sent = refl; acked = refl };
  from = omega arith;
  to = omega arith;
}
ack_case s now rx h flags (Some x) q below is =
    let at_x : at_place rx s.sending.acked (suc (s.sending.sent - s.sending.acked)) x = place_is rx s.sending.acked (suc (s.sending.sent - s.sending.acked)) x q in
    let low : s.sending.acked ≤ x = at_x.0 in
    let high : x < s.sending.acked + suc (s.sending.sent - s.sending.acked) = at_x.1 in
    let t : State = advance now x s in
    let adv : acked_to s x t = advanced_case s now x (nat_lt s.sending.acked x) refl low in
    let sent : t.sending.sent ≡ s.sending.sent = adv.sent in
    let acked : t.sending.acked ≡ x = adv.acked in
    let owed : (t.sending.acked ≤ (owed_by flags x t).from) × ((owed_by flags x t).from + (owed_by flags x t).many ≤ t.sending.sent)
    = owed_case x t.sending.acked t.sending.sent flags.choke t.choked flags.nak acked (omega arith) (owed_by flags x t) refl in
    let o_from : t.sending.acked ≤ (owed_by flags x t).from = owed.0 in
    let o_to : (owed_by flags x t).from + (owed_by flags x t).many ≤ t.sending.sent = owed.1 in
    record {
      acked = x;
      is = inr (is x low (omega arith) at_x.2);
      grows = low;
      within = omega arith;
      end = choked_keeps s x now flags.choke t adv;
      from = omega arith;
      to = omega arith;
    }

pub ack_part : (s : State) (now rx h : ℕ) (flags : Flags) → s.sending.acked ≤ s.sending.sent
    → ((x : ℕ) → s.sending.acked ≤ x → x ≤ s.sending.sent → x % 256 ≡ rx → x ≡ h) → AckPart s h (acknowledge now rx flags s)
ack_part s now rx h flags below is =
    ack_case s now rx h flags (place_of 256 rx s.sending.acked (suc (s.sending.sent - s.sending.acked))) refl below is

-- ---- Finish ----
-- where a step of an end that was Up comes to, Finish or not
pub record OnEnd (w : ℕ) (s : State) (h : ℕ) (wrote : List (List ℕ)) (half : Receiving) (named : Named) (phase : EndPhase) (k : Sending) (r : Receiving) (outs : List Out) (notes : List EndNotice) : Type 0 where
  pub quiet : Quiet notes
  pub half_is : r ≡ half
  pub comes_to : (phase ≡ Up) ⊎ ((phase ≡ Closing) × (k.acked ≡ total k))
  pub same : named ≡ names s
  pub wide : s.window ≡ w
  pub kept : k.wrote ≡ wrote
  pub acked_is : (k.acked ≡ s.sending.acked) ⊎ (k.acked ≡ h)
  pub acked_grows : s.sending.acked ≤ k.acked
  pub within : k.acked ≤ k.sent
  pub sent_grows : s.sending.sent ≤ k.sent
  pub written : k.sent ≤ total k
  pub fits : k.sent ≤ k.acked + w
  pub right : AllOut k r.got phase outs

abbrev pub on_end : ℕ → State → ℕ → List (List ℕ) → Receiving → Effect → Type 0
on_end w s h wrote half g = OnEnd w s h wrote half (names g.end) g.end.phase g.end.sending g.end.receiving g.outs g.notes

pub up_ends : (w : ℕ) (s : State) (h : ℕ) (wrote : List (List ℕ)) (half : Receiving) (g : Effect) → on_up w s h wrote half g → on_end w s h wrote half g
up_ends w s h wrote half g o = record {
  quiet = o.quiet;
  half_is = o.half_is;
  comes_to = inl o.up;
  same = o.same;
  wide = o.wide;
  kept = o.kept;
  acked_is = o.acked_is;
  acked_grows = o.acked_grows;
  within = o.within;
  sent_grows = o.sent_grows;
  written = o.written;
  fits = o.fits;
  right = subst (λ p. AllOut g.end.sending g.end.receiving.got p g.outs) (sym o.up) o.right;
}

finish_case : (w : ℕ) (s : State) (h : ℕ) (wrote : List (List ℕ)) (half : Receiving) (now : ℕ) (g : Effect) (b : Bool) → is_done g.end ≡ b → on_up w s h wrote half g
    → on_end w s h wrote half (if b then begin_to_close now g else g)
finish_case w s h wrote half now g true e o =
    let test : nat_eq g.end.sending.acked (total g.end.sending) ≡ true = third_of_and (is_up g.end.phase) g.end.closing (nat_eq g.end.sending.acked (total g.end.sending)) e in
    let all : g.end.sending.acked ≡ total g.end.sending = grind (arith, nat_tests) in
    record {
      quiet = o.quiet;
      half_is = o.half_is;
      comes_to = inr (refl, all);
      same = o.same;
      wide = o.wide;
      kept = o.kept;
      acked_is = o.acked_is;
      acked_grows = o.acked_grows;
      within = o.within;
      sent_grows = o.sent_grows;
      written = o.written;
      fits = o.fits;
      right = all_out_append g.end.sending g.end.receiving.got Closing g.outs ((Disconnect g.end.to, None) ∷ []) (all_out_closes g.end.sending g.end.receiving.got g.outs o.right) ((all, refl), tt);
    }
finish_case w s h wrote half now g false e o = up_ends w s h wrote half g o

pub on_finish : (w : ℕ) (s : State) (h : ℕ) (wrote : List (List ℕ)) (half : Receiving) (now : ℕ) (g : Effect) → on_up w s h wrote half g → on_end w s h wrote half (finish now g)
on_finish w s h wrote half now g o = finish_case w s h wrote half now g (is_done g.end) refl o

pub on_supply : (w : ℕ) (s : State) (h : ℕ) (wrote : List (List ℕ)) (half : Receiving) (now : ℕ) (g : Effect) → on_up w s h wrote half g → on_end w s h wrote half (supply now g)
on_supply w s h wrote half now g o = on_finish w s h wrote half now (fill now g) (on_fill w s h wrote half now g o)
