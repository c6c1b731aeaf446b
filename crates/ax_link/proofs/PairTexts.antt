-- An I frame keeps the two ways.
use Rattle.std.proofs.Common.{◌≡◌, ℕ, zero, suc, ◌+◌, ◌-◌, ◌%◌, ◌<◌, ◌≤◌, List, [], ◌∷◌, ◌++◌, length, Option, Some, None, slice_get, slice_set, nat_lt, nat_le, refl, ap, sym, ◌∙◌, arith, max, if◌then◌else◌, true, false, Bool, nat_eq, not, ◌||◌, subst, append_assoc, append-nil}
use Rattle.std.proofs.lemmas.Bool.Decides.{nat_tests}
use Rattle.ax_link.specs.Moves.{take_next, first_early, next_early, follow_by, follow, emit, rr, fill_count, answer_text, take_in, text_plain, text_later, text_srej, text, store_early, is_free, asks, asks_of}
use Rattle.ax_link.specs.declared.kind.Kind.{Kind}
use Rattle.ax_link.specs.declared.kind.Kind.TheVariants.{Rnr, Rej}
use Rattle.ax_link.specs.State.{State, Frame, Effect, top, high, wire, busy}
use Rattle.radio_base.specs.Modulus.{place_of}
use Rattle.radio_base.specs.declared.modulus.TheConstants.{COUNT_MAX}
use Rattle.radio_base.specs.declared.payload.Payload.{Payload}
use Rattle.ax_link.specs.Pair.{Both, Core, core, reach, AcksFine, TextsFine, EarlyFine, text_of, ack_of, texts_of, acks_of}
use Rattle.ax_link.proofs.Ways.{texts_reach, texts_under, early_set, top_set, place_in}
use Rattle.ax_link.proofs.Steps.{Fine, plain_number, srej_number, way_taken, fine_if, fine_rr, both_put, texts_append, acks_append, way_texts, way_acks}

-- the I frame that comes: the number that it stands for
pub record Coming (me : State) (other : Core) (to_me : List Frame) (ns : ℕ) (p : Payload) : Type 0 where
  pub number : ℕ
  pub wire_form : number % other.rules.size ≡ ns
  pub payload : slice_get other.given number ≡ Some p
  pub near : high me ≤ number + other.rules.window
  pub rest : TextsFine other.given other.rules.size other.rules.window other.sent (texts_of to_me) (max (high me) (suc number))

-- a payload is taken
both_taken : (s : State) (p : Payload) (other : Core) (to_me to_other : List Frame) → slice_get other.given (length s.received) ≡ Some p → TextsFine other.given other.rules.size other.rules.window other.sent (texts_of to_me) (max (high s) (suc (length s.received))) → Both (core s) other to_me to_other → Both (core (take_next p s)) other to_me to_other
both_taken s p other to_me to_other g t b = record {
  out = record { fits = record { size = b.out.fits.size; window = b.out.fits.window; both = b.out.fits.both }; begun = b.out.begun; early = b.out.early; texts = b.out.texts; acks = b.out.acks; window = b.out.window; room = b.out.room };
  back = way_taken other s to_me to_other p b.back g t;
}

early_first : (given : List Payload) (base : ℕ) (e : List (Option Payload)) (p : Payload) → EarlyFine given base e → first_early e ≡ Some p → slice_get given base ≡ Some p
early_first given base [] p f h = absurd (cc h)
early_first given base (None ∷ e) p f h = absurd (cc h)
early_first given base (Some q ∷ e) p f h = cc (h, f.0)

top_first : (e : List (Option Payload)) (p : Payload) → first_early e ≡ Some p → 1 ≤ top e
top_first [] p h = absurd (cc h)
top_first (None ∷ e) p h = absurd (cc h)
top_first (Some q ∷ e) p h = omega arith

pub next_cut : (b : Bool) (e : List (Option Payload)) (p : Payload) → (if b then None else first_early e) ≡ Some p → first_early e ≡ Some p
next_cut true e p h = absurd (cc h)
next_cut false e p h = h

both_moved_by : (k : ℕ) (x : Option Payload) (s : State) (other : Core) (to_me to_other : List Frame) → ((s2 : State) → Both (core s2) other to_me to_other → Both (core (follow_by k s2)) other to_me to_other) → next_early s ≡ x → Both (core s) other to_me to_other → Both (core (elim x as (λ y. State) [ None ↦ s | Some p ↦ follow_by k (take_next p s) ])) other to_me to_other
both_moved_by k None s other to_me to_other ih e b = b
both_moved_by k (Some p) s other to_me to_other ih e b =
    let f = next_cut (busy s || nat_le COUNT_MAX (length s.received)) s.early p e in
    let g = early_first other.given (length s.received) s.early p b.back.early f in
    let t = top_first s.early p f in
    let m : high s ≡ max (high s) (suc (length s.received)) = omega (arith, t) in
    ih (take_next p s) (both_taken s p other to_me to_other g (subst (λ k. TextsFine other.given other.rules.size other.rules.window other.sent (texts_of to_me) k) m b.back.texts) b)

-- early payloads move on
pub both_moved : (k : ℕ) (s : State) (other : Core) (to_me to_other : List Frame) → Both (core s) other to_me to_other → Both (core (follow_by k s)) other to_me to_other
both_moved zero s other to_me to_other b = b
both_moved (suc k) s other to_me to_other b = both_moved_by k (next_early s) s other to_me to_other (λ s2 b2. both_moved k s2 other to_me to_other b2) refl b

-- a payload is stored early
stored_if : (c : Bool) (i : ℕ) (p : Payload) (s : State) (other : Core) (to_me to_other : List Frame) → slice_get other.given (length s.received + i) ≡ Some p → TextsFine other.given other.rules.size other.rules.window other.sent (texts_of to_me) (max (high s) (suc (length s.received + i))) → Both (core s) other to_me to_other → Both (core (if c then record s { early = slice_set s.early i (Some p) } else s)) other to_me to_other
stored_if false i p s other to_me to_other g t b = b
stored_if true i p s other to_me to_other g t b = record {
  out = record { fits = record { size = b.out.fits.size; window = b.out.fits.window; both = b.out.fits.both }; begun = b.out.begun; early = b.out.early; texts = b.out.texts; acks = b.out.acks; window = b.out.window; room = b.out.room };
  back = record {
    fits = record { size = b.back.fits.size; window = b.back.fits.window; both = b.back.fits.both };
    begun = b.back.begun;
    early = early_set other.given (length s.received) i p s.early b.back.early g;
    texts = texts_under other.given other.rules.size other.rules.window other.sent (texts_of to_me) (max (high s) (suc (length s.received + i))) (length s.received + top (slice_set s.early i (Some p))) (omega (arith, top_set s.early i p)) t;
    acks = b.back.acks;
    window = b.back.window;
    room = b.back.room;
  };
}

pub both_stored : (i : ℕ) (p : Payload) (s : State) (other : Core) (to_me to_other : List Frame) → slice_get other.given (length s.received + i) ≡ Some p → TextsFine other.given other.rules.size other.rules.window other.sent (texts_of to_me) (max (high s) (suc (length s.received + i))) → Both (core s) other to_me to_other → Both (core (store_early i p s)) other to_me to_other
both_stored i p s other to_me to_other g t b = stored_if (is_free (slice_get s.early i)) i p s other to_me to_other g t b

fine_answer_taken : (pf : Bool) (g : Effect) (other : Core) (to_me to_other : List Frame) → Fine g other to_me to_other → Fine (answer_text pf g) other to_me to_other
fine_answer_taken pf g other to_me to_other b = fine_if (pf || (busy g.link || nat_eq (fill_count g.link) 0)) (emit false (rr g.link pf) g) g other to_me to_other (fine_rr false pf g other to_me to_other b) b

-- REJ or RNR by got
fine_by_got : (c : Kind) (g : Effect) (other : Core) (to_me to_other : List Frame) → text_of c None ≡ [] → ack_of c None ≡ wire g.link (length g.link.received) ∷ [] → Fine g other to_me to_other → Fine (emit false c g) other to_me to_other
fine_by_got c g other to_me to_other t a b =
    let f : Frame = record { command = false; kind = c; payload = None } in
    subst (Both (core g.link) other to_me) (append_assoc to_other g.outs (f ∷ [])) (both_put (core g.link) other to_me (to_other ++ g.outs) f t (a ∙ ap (λ k. (length g.link.received % k) ∷ []) (sym b.out.fits.size)) b)

plain_by : (c : Bool) (pf : Bool) (ns : ℕ) (p : Payload) (g : Effect) (other : Core) (to_me to_other : List Frame) → nat_eq ns (wire g.link (length g.link.received)) ≡ c → Coming g.link other to_me ns p → Fine g other to_me to_other →
    Fine (if c then take_in pf (record (take_next p g.link) { rej_sent = false }) g else if not g.link.rej_sent then emit false (Rej (wire g.link (length g.link.received)) pf) (record g { link = record g.link { rej_sent = true } }) else if pf then emit false (rr g.link true) g else g) other to_me to_other
plain_by true pf ns p g other to_me to_other e m b =
    let u : m.number < other.sent = omega (arith, texts_reach other.given other.rules.size other.rules.window other.sent (texts_of to_me) (max (high g.link) (suc m.number)) m.rest) in
    let w : ns ≡ length g.link.received % g.link.rules.size = grind (arith, nat_tests, e) in
    let v : m.number % other.rules.size ≡ length g.link.received % other.rules.size = m.wire_form ∙ (w ∙ ap (λ k. length g.link.received % k) b.back.fits.size) in
    let n = plain_number other (core g.link) to_me (to_other ++ g.outs) m.number b.back m.near u v in
    let q = subst (λ k. slice_get other.given k ≡ Some p) n m.payload in
    let t = subst (λ k. TextsFine other.given other.rules.size other.rules.window other.sent (texts_of to_me) (max (high g.link) (suc k))) n m.rest in
    fine_answer_taken pf (record g { link = record (take_next p g.link) { rej_sent = false } }) other to_me to_other (both_taken g.link p other to_me (to_other ++ g.outs) q t b)
plain_by false pf ns p g other to_me to_other e m b =
    fine_if (not g.link.rej_sent) (emit false (Rej (wire g.link (length g.link.received)) pf) (record g { link = record g.link { rej_sent = true } })) (if pf then emit false (rr g.link true) g else g) other to_me to_other
    (fine_by_got (Rej (wire g.link (length g.link.received)) pf) (record g { link = record g.link { rej_sent = true } }) other to_me to_other refl refl b)
    (fine_if pf (emit false (rr g.link true) g) g other to_me to_other (fine_rr false true g other to_me to_other b) b)

pub fine_plain : (pf : Bool) (ns : ℕ) (p : Payload) (g : Effect) (other : Core) (to_me to_other : List Frame) → Coming g.link other to_me ns p → Fine g other to_me to_other → Fine (text_plain pf ns p g) other to_me to_other
fine_plain pf ns p g other to_me to_other m b = plain_by (nat_eq ns (wire g.link (length g.link.received))) pf ns p g other to_me to_other refl m b

asks_texts : (size n many : ℕ) → texts_of (asks_of size n many) ≡ []
asks_texts size n zero = refl
asks_texts size n (suc many) = asks_texts size (suc n) many

asks_acks : (size n many : ℕ) → acks_of (asks_of size n many) ≡ []
asks_acks size n zero = refl
asks_acks size n (suc many) = asks_acks size (suc n) many

-- frames that bring no text and acknowledge nothing
both_quiet : (me other : Core) (to_me to_other more : List Frame) → texts_of more ≡ [] → acks_of more ≡ [] → Both me other to_me to_other → Both me other to_me (to_other ++ more)
both_quiet me other to_me to_other more t a b =
    let ts = texts_append to_other more ∙ (ap (λ k. texts_of to_other ++ k) t ∙ append-nil (texts_of to_other)) in
    let rs = acks_append to_other more ∙ (ap (λ k. acks_of to_other ++ k) a ∙ append-nil (acks_of to_other)) in
    record {
      out = way_texts me other to_other to_me (to_other ++ more) b.out (subst (λ k. TextsFine me.given me.rules.size me.rules.window me.sent k (reach other)) (sym ts) b.out.texts);
      back = way_acks other me to_me to_other (to_other ++ more) b.back (subst (λ k. AcksFine other.rules.size (length me.received) k other.acked) (sym rs) b.back.acks);
    }

fine_later : (pf : Bool) (n : ℕ) (p : Payload) (g : Effect) (other : Core) (to_me to_other : List Frame) → length g.link.received ≤ n → slice_get other.given n ≡ Some p → TextsFine other.given other.rules.size other.rules.window other.sent (texts_of to_me) (max (high g.link) (suc n)) → Fine g other to_me to_other → Fine (text_later pf n p g) other to_me to_other
fine_later pf n p g other to_me to_other l q t b =
    let i : length g.link.received + (n - length g.link.received) ≡ n = omega (arith, l) in
    let h : Effect = record g { link = store_early (n - length g.link.received) p g.link; outs = g.outs ++ asks g.link (high g.link) (n - high g.link) } in
    let s = both_stored (n - length g.link.received) p g.link other to_me (to_other ++ g.outs)
    (subst (λ k. slice_get other.given k ≡ Some p) (sym i) q)
    (subst (λ k. TextsFine other.given other.rules.size other.rules.window other.sent (texts_of to_me) (max (high g.link) (suc k))) (sym i) t) b in
    let a = subst (Both (core (store_early (n - length g.link.received) p g.link)) other to_me) (append_assoc to_other g.outs (asks g.link (high g.link) (n - high g.link)))
    (both_quiet (core (store_early (n - length g.link.received) p g.link)) other to_me (to_other ++ g.outs) (asks g.link (high g.link) (n - high g.link)) (asks_texts g.link.rules.size (high g.link) (n - high g.link)) (asks_acks g.link.rules.size (high g.link) (n - high g.link)) s) in
    fine_if pf (emit false (rr (record g { link = store_early (n - length g.link.received) p g.link; outs = g.outs ++ asks g.link (high g.link) (n - high g.link) }).link true) (record g { link = store_early (n - length g.link.received) p g.link; outs = g.outs ++ asks g.link (high g.link) (n - high g.link) }))
    (record g { link = store_early (n - length g.link.received) p g.link; outs = g.outs ++ asks g.link (high g.link) (n - high g.link) }) other to_me to_other
    (fine_rr false true (record g { link = store_early (n - length g.link.received) p g.link; outs = g.outs ++ asks g.link (high g.link) (n - high g.link) }) other to_me to_other a) a

srej_at : (c : Bool) (pf : Bool) (n : ℕ) (p : Payload) (g : Effect) (other : Core) (to_me to_other : List Frame) → nat_lt (length g.link.received) n ≡ c → length g.link.received ≤ n → slice_get other.given n ≡ Some p → TextsFine other.given other.rules.size other.rules.window other.sent (texts_of to_me) (max (high g.link) (suc n)) → Fine g other to_me to_other →
    Fine (if c then text_later pf n p g else take_in pf (follow (take_next p g.link)) g) other to_me to_other
srej_at true pf n p g other to_me to_other e l q t b = fine_later pf n p g other to_me to_other l q t b
srej_at false pf n p g other to_me to_other e l q t b =
    let i : n ≡ length g.link.received = grind (arith, nat_tests, e, l) in
    let k = both_taken g.link p other to_me (to_other ++ g.outs) (subst (λ k. slice_get other.given k ≡ Some p) i q) (subst (λ k. TextsFine other.given other.rules.size other.rules.window other.sent (texts_of to_me) (max (high g.link) (suc k))) i t) b in
    fine_answer_taken pf (record g { link = follow (take_next p g.link) }) other to_me to_other (both_moved (length (take_next p g.link).early) (take_next p g.link) other to_me (to_other ++ g.outs) k)

srej_by : (x : Option ℕ) (pf : Bool) (ns : ℕ) (p : Payload) (g : Effect) (other : Core) (to_me to_other : List Frame) → place_of g.link.rules.size ns (length g.link.received) g.link.rules.window ≡ x → other.rules.window + g.link.rules.window ≤ other.rules.size → Coming g.link other to_me ns p → Fine g other to_me to_other →
    Fine (elim x as (λ y. Effect) [ None ↦ emit false (rr g.link pf) g | Some n ↦ if nat_lt (length g.link.received) n then text_later pf n p g else take_in pf (follow (take_next p g.link)) g ]) other to_me to_other
srej_by None pf ns p g other to_me to_other e f m b = fine_rr false pf g other to_me to_other b
srej_by (Some x) pf ns p g other to_me to_other e f m b =
    let u : m.number < other.sent = omega (arith, texts_reach other.given other.rules.size other.rules.window other.sent (texts_of to_me) (max (high g.link) (suc m.number)) m.rest) in
    let e2 : place_of other.rules.size ns (length g.link.received) g.link.rules.window ≡ Some x = subst (λ k. place_of k ns (length g.link.received) g.link.rules.window ≡ Some x) b.back.fits.size e in
    let n : x ≡ m.number = srej_number other (core g.link) to_me (to_other ++ g.outs) m.number ns x b.back f m.near u m.wire_form e2 in
    let z : 0 < other.rules.size = omega (arith, b.back.fits.window) in
    let l = (place_in ns (length g.link.received) g.link.rules.window other.rules.size x z e2).1 in
    srej_at (nat_lt (length g.link.received) x) pf x p g other to_me to_other refl l
    (subst (λ k. slice_get other.given k ≡ Some p) (sym n) m.payload)
    (subst (λ k. TextsFine other.given other.rules.size other.rules.window other.sent (texts_of to_me) (max (high g.link) (suc k))) (sym n) m.rest) b

pub fine_srej : (pf : Bool) (ns : ℕ) (p : Payload) (g : Effect) (other : Core) (to_me to_other : List Frame) → other.rules.window + g.link.rules.window ≤ other.rules.size → Coming g.link other to_me ns p → Fine g other to_me to_other → Fine (text_srej pf ns p g) other to_me to_other
fine_srej pf ns p g other to_me to_other f m b = srej_by (place_of g.link.rules.size ns (length g.link.received) g.link.rules.window) pf ns p g other to_me to_other refl f m b

by_srej : (c : Bool) (pf : Bool) (ns : ℕ) (p : Payload) (g : Effect) (other : Core) (to_me to_other : List Frame) → g.link.rules.srej ≡ c → Coming g.link other to_me ns p → Fine g other to_me to_other → Fine (if c then text_srej pf ns p g else text_plain pf ns p g) other to_me to_other
by_srej true pf ns p g other to_me to_other e m b = fine_srej pf ns p g other to_me to_other (b.back.fits.both e) m b
by_srej false pf ns p g other to_me to_other e m b = fine_plain pf ns p g other to_me to_other m b

pub fine_text : (pf : Bool) (ns : ℕ) (p : Payload) (g : Effect) (other : Core) (to_me to_other : List Frame) → Coming g.link other to_me ns p → Fine g other to_me to_other → Fine (text pf ns p g) other to_me to_other
fine_text pf ns p g other to_me to_other m b =
    fine_if (nat_le COUNT_MAX (length g.link.received)) g (if busy g.link then emit false (Rnr (wire g.link (length g.link.received)) pf) g else if g.link.rules.srej then text_srej pf ns p g else text_plain pf ns p g) other to_me to_other b
    (fine_if (busy g.link) (emit false (Rnr (wire g.link (length g.link.received)) pf) g) (if g.link.rules.srej then text_srej pf ns p g else text_plain pf ns p g) other to_me to_other
    (fine_by_got (Rnr (wire g.link (length g.link.received)) pf) g other to_me to_other refl refl b)
    (by_srej g.link.rules.srej pf ns p g other to_me to_other refl m b))
