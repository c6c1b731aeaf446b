-- The small steps keep the two ways.
use Rattle.std.proofs.Common.{◌≡◌, ℕ, zero, suc, ◌+◌, ◌-◌, ◌%◌, ◌<◌, ◌≤◌, List, [], ◌∷◌, ◌++◌, length, Some, None, slice_get, nat_lt, refl, ap, sym, ◌∙◌, arith, max, if◌then◌else◌, true, false, Bool, nat_eq, not, ◌&&◌, subst, length-append, append_assoc, append-nil}
use Rattle.std.proofs.lemmas.Bool.Decides.{nat_tests}
use Rattle.ax_link.specs.Moves.{take_next, frames, fill, fill_count, emit, rr, again, frames_of, acknowledge, hold, end_poll, resupply, supply, answer_poll, supply_again, supervisory_at, finish, emit_timed, to_phase}
use Rattle.ax_link.specs.declared.kind.Kind.{Kind}
use Rattle.ax_link.specs.declared.kind.Kind.TheVariants.{I, Rr, Rnr, Disc}
use Rattle.ax_link.specs.State.{State, Frame, Effect, high, wire, update_t1, is_up, restart_t1, busy}
use Rattle.ax_link.specs.declared.phase.LinkPhase.TheVariants.{Releasing}
use Rattle.radio_base.specs.Modulus.{place_of}
use Rattle.radio_base.specs.declared.payload.Payload.{Payload}
use Rattle.radio_base.proofs.Places.{near_equal}
use Rattle.ax_link.specs.Pair.{Both, Core, core, reach, AcksFine, TextsFine, text_of, ack_of, texts_of, acks_of, Way}
use Rattle.ax_link.proofs.Ways.{place_is, place_in, acks_low, acks_over, acks_snoc, texts_reach, texts_snoc, texts_over, held_take, high_take}

pub texts_append : (xs ys : List Frame) → texts_of (xs ++ ys) ≡ texts_of xs ++ texts_of ys
texts_append [] ys = refl
texts_append (f ∷ xs) ys = ap (λ t. text_of f.kind f.payload ++ t) (texts_append xs ys) ∙ sym (append_assoc (text_of f.kind f.payload) (texts_of xs) (texts_of ys))

pub acks_append : (xs ys : List Frame) → acks_of (xs ++ ys) ≡ acks_of xs ++ acks_of ys
acks_append [] ys = refl
acks_append (f ∷ xs) ys = ap (λ t. ack_of f.kind f.payload ++ t) (acks_append xs ys) ∙ sym (append_assoc (ack_of f.kind f.payload) (acks_of xs) (acks_of ys))

-- another list on the way, with its soundness
pub way_texts : (a b : Core) (forth back forth2 : List Frame) → Way a b forth back → TextsFine a.given a.rules.size a.rules.window a.sent (texts_of forth2) (reach b) → Way a b forth2 back
way_texts a b forth back forth2 w t = record { fits = w.fits; begun = w.begun; early = w.early; texts = t; acks = w.acks; window = w.window; room = w.room }

pub way_acks : (a b : Core) (forth back back2 : List Frame) → Way a b forth back → AcksFine a.rules.size (length b.received) (acks_of back2) a.acked → Way a b forth back2
way_acks a b forth back back2 w t = record { fits = w.fits; begun = w.begun; early = w.early; texts = w.texts; acks = t; window = w.window; room = w.room }

-- a frame that brings no text and acknowledges by got
pub both_put : (me other : Core) (to_me to_other : List Frame) (f : Frame) → text_of f.kind f.payload ≡ [] → ack_of f.kind f.payload ≡ (length me.received % other.rules.size) ∷ [] → Both me other to_me to_other → Both me other to_me (to_other ++ f ∷ [])
both_put me other to_me to_other f t a b = record {
  out = way_texts me other to_other to_me (to_other ++ f ∷ []) b.out (subst (λ ts. TextsFine me.given me.rules.size me.rules.window me.sent ts (reach other)) (sym (texts_append to_other (f ∷ []) ∙ (ap (λ t. texts_of to_other ++ (t ++ [])) t ∙ append-nil (texts_of to_other)))) b.out.texts);
  back = way_acks other me to_me to_other (to_other ++ f ∷ []) b.back (subst (λ rs. AcksFine other.rules.size (length me.received) rs other.acked) (sym (acks_append to_other (f ∷ []) ∙ ap (λ t. acks_of to_other ++ (t ++ [])) a)) (acks_snoc other.rules.size (length me.received) (acks_of to_other) other.acked b.back.acks));
}

-- an I frame for a number between acked and sent
pub both_shot : (me other : Core) (to_me to_other : List Frame) (n : ℕ) (p : Payload) (pf : Bool) (f : Frame) → f ≡ record { command = true; kind = I (n % me.rules.size) (length me.received % me.rules.size) pf; payload = Some p } → slice_get me.given n ≡ Some p → me.acked ≤ n → n < me.sent → Both me other to_me to_other → Both me other to_me (to_other ++ f ∷ [])
both_shot me other to_me to_other n p pf f e g l u b =
    let w : me.sent ≤ n + me.rules.window = omega (arith, b.out.window, l) in
    let t : text_of f.kind f.payload ≡ (n % me.rules.size, p) ∷ [] = ap (λ f. text_of f.kind f.payload) e in
    let a : ack_of f.kind f.payload ≡ (length me.received % other.rules.size) ∷ [] = ap (λ f. ack_of f.kind f.payload) e ∙ ap (λ k. (length me.received % k) ∷ []) (sym b.out.fits.size) in
    record {
      out = way_texts me other to_other to_me (to_other ++ f ∷ []) b.out (subst (λ ts. TextsFine me.given me.rules.size me.rules.window me.sent ts (reach other)) (sym (texts_append to_other (f ∷ []) ∙ ap (λ t. texts_of to_other ++ (t ++ [])) t)) (texts_snoc me.given me.rules.size me.rules.window me.sent (texts_of to_other) (reach other) n p u w g b.out.texts));
      back = way_acks other me to_me to_other (to_other ++ f ∷ []) b.back (subst (λ rs. AcksFine other.rules.size (length me.received) rs other.acked) (sym (acks_append to_other (f ∷ []) ∙ ap (λ t. acks_of to_other ++ (t ++ [])) a)) (acks_snoc other.rules.size (length me.received) (acks_of to_other) other.acked b.back.acks));
    }

get_some : {A : Type 0} (xs : List A) (n : ℕ) → n < length xs → (x : A) × (slice_get xs n ≡ Some x)
get_some [] n l = absurd (omega (arith, l))
get_some (x ∷ xs) zero l = (x, refl)
get_some (x ∷ xs) (suc n) l = get_some xs n (omega (arith, l))

pub both_shots : (me other : Core) (to_me to_other : List Frame) (n many : ℕ) → me.acked ≤ n → n + many ≤ me.sent → Both me other to_me to_other → Both me other to_me (to_other ++ frames_of me.rules.size (length me.received) me.given n many)
both_shots me other to_me to_other n zero l u b = subst (Both me other to_me) (sym (append-nil to_other)) b
both_shots me other to_me to_other n (suc many) l u b =
    let x = get_some me.given n (omega (arith, u, b.out.room)) in
    let f : Frame = record { command = true; kind = I (n % me.rules.size) (length me.received % me.rules.size) false; payload = slice_get me.given n } in
    let one = both_shot me other to_me to_other n x.0 false f (ap (λ q. record { command = true; kind = I (n % me.rules.size) (length me.received % me.rules.size) false; payload = q }) x.1) x.1 l (omega (arith, u)) b in
    subst (Both me other to_me) (append_assoc to_other (f ∷ []) (frames_of me.rules.size (length me.received) me.given (suc n) many)) (both_shots me other to_me (to_other ++ f ∷ []) (suc n) many (omega (arith, l)) (omega (arith, u)) one)

-- what the counts of one way are to each other
pub way_order : (a b : Core) (forth back : List Frame) → Way a b forth back → (a.acked ≤ length b.received) × (length b.received ≤ a.sent) × (reach b ≤ a.sent)
way_order a b forth back w =
    let l = acks_low a.rules.size (length b.received) (acks_of back) a.acked w.acks in
    let h = texts_reach a.given a.rules.size a.rules.window a.sent (texts_of forth) (reach b) w.texts in
    (l, omega (arith, h), h)

-- the place_of of an acknowledgement is the number that was meant
pub ack_number : (a b : Core) (forth back : List Frame) (r : ℕ) (rs : List ℕ) → Way a b forth back → acks_of back ≡ r ∷ rs →
    (h : ℕ) × (a.acked ≤ h) × (h ≤ a.sent) × (place_of a.rules.size r a.acked (suc (a.sent - a.acked)) ≡ Some h) × AcksFine a.rules.size (length b.received) rs h
ack_number a b forth back r rs w e =
    let c = subst (λ k. AcksFine a.rules.size (length b.received) k a.acked) e w.acks in
    let o = way_order a b forth back w in
    let t = acks_low a.rules.size (length b.received) rs c.0 c.3 in
    let p = place_is c.0 a.acked (suc (a.sent - a.acked)) a.rules.size (omega (arith, w.fits.window)) c.2 (omega (arith, t, o)) (omega (arith, w.window, w.fits.window)) in
    (c.0, c.2, omega (arith, t, o), subst (λ k. place_of a.rules.size k a.acked (suc (a.sent - a.acked)) ≡ Some c.0) c.1 p, c.3)

-- without SREJ a text whose wire form is that of got is the next payload
pub plain_number : (a b : Core) (forth back : List Frame) (n : ℕ) → Way a b forth back → reach b ≤ n + a.rules.window → n < a.sent → n % a.rules.size ≡ length b.received % a.rules.size → n ≡ length b.received
plain_number a b forth back n w l u e =
    let o = way_order a b forth back w in
    near_equal n (length b.received) a.rules.size (omega (arith, w.fits.window)) e (omega (arith, u, o, w.window, w.fits.window)) (omega (arith, l, w.fits.window))

-- with SREJ the place_of of a text is the number that was meant
pub srej_number : (a b : Core) (forth back : List Frame) (n ns x : ℕ) → Way a b forth back → a.rules.window + b.rules.window ≤ a.rules.size → reach b ≤ n + a.rules.window → n < a.sent → n % a.rules.size ≡ ns → place_of a.rules.size ns (length b.received) b.rules.window ≡ Some x → x ≡ n
srej_number a b forth back n ns x w f l u e p =
    let o = way_order a b forth back w in
    let z : 0 < a.rules.size = omega (arith, w.fits.window) in
    let q = place_in ns (length b.received) b.rules.window a.rules.size x z p in
    near_equal x n a.rules.size z (q.0 ∙ sym e) (omega (arith, q.2, f, l)) (omega (arith, q.1, u, o, w.window, w.fits.window))

-- the sender's counts move: acked up to what has been acknowledged, sent by what Fill puts out
pub way_acked : (a b : Core) (forth back back2 : List Frame) (h : ℕ) → Way a b forth back → a.acked ≤ h → AcksFine a.rules.size (length b.received) (acks_of back2) h → Way (record a { acked = h }) b forth back2
way_acked a b forth back back2 h w l k = record { fits = record { size = w.fits.size; window = w.fits.window; both = w.fits.both }; begun = w.begun; early = w.early; texts = w.texts; acks = k; window = omega (arith, l, w.window); room = w.room }

-- the receiver takes the next payload, whose frame was the first on the way
pub way_taken : (a : Core) (b : State) (forth back : List Frame) (p : Payload) → Way a (core b) forth back → slice_get a.given (length b.received) ≡ Some p → TextsFine a.given a.rules.size a.rules.window a.sent (texts_of forth) (max (high b) (suc (length b.received))) → Way a (core (take_next p b)) forth back
way_taken a b forth back p w g t =
    let h = held_take a.given p b (record { begun = w.begun; early = w.early }) g in
    record {
      fits = record { size = w.fits.size; window = w.fits.window; both = w.fits.both };
      begun = h.begun;
      early = h.early;
      texts = subst (λ k. TextsFine a.given a.rules.size a.rules.window a.sent (texts_of forth) k) (sym (high_take p b)) t;
      acks = acks_over a.rules.size (length b.received) (length (b.received ++ p ∷ [])) (acks_of back) a.acked (omega (arith, length-append b.received (p ∷ []))) w.acks;
      window = w.window;
      room = w.room;
    }

-- ---- a step under way ----
abbrev pub Fine : Effect → Core → List Frame → List Frame → Type 0
Fine g other to_me to_other = Both (core g.link) other to_me (to_other ++ g.outs)

fill_fits : (s : State) → s.sent ≤ s.acked + s.rules.window → s.sent ≤ length s.given → (s.sent + fill_count s ≤ s.acked + s.rules.window) × (s.sent + fill_count s ≤ length s.given)
fill_fits s w r = grind (arith, nat_tests, w, r)

-- Fill moves sent
both_sent : (me other : Core) (to_me to_other : List Frame) (many : ℕ) → me.sent + many ≤ me.acked + me.rules.window → me.sent + many ≤ length me.given → Both me other to_me to_other → Both (record me { sent = me.sent + many }) other to_me to_other
both_sent me other to_me to_other many w r b = record {
  out = record { fits = record { size = b.out.fits.size; window = b.out.fits.window; both = b.out.fits.both }; begun = b.out.begun; early = b.out.early; texts = texts_over me.given me.rules.size me.rules.window me.sent (me.sent + many) (texts_of to_other) (reach other) (omega arith) b.out.texts; acks = b.out.acks; window = w; room = r };
  back = record { fits = record { size = b.back.fits.size; window = b.back.fits.window; both = b.back.fits.both }; begun = b.back.begun; early = b.back.early; texts = b.back.texts; acks = b.back.acks; window = b.back.window; room = b.back.room };
}

pub fine_fill : (now : ℕ) (g : Effect) (other : Core) (to_me to_other : List Frame) → Fine g other to_me to_other → Fine (fill now g) other to_me to_other
fine_fill now g other to_me to_other b =
    let f = fill_fits g.link b.out.window b.out.room in
    let follow = both_sent (core g.link) other to_me (to_other ++ g.outs) (fill_count g.link) f.0 f.1 b in
    let o = way_order (core g.link) other (to_other ++ g.outs) to_me b.out in
    let shot = both_shots (record (core g.link) { sent = g.link.sent + fill_count g.link }) other to_me (to_other ++ g.outs) g.link.sent (fill_count g.link) (omega (arith, o)) (omega arith) follow in
    subst (Both (record (core g.link) { sent = g.link.sent + fill_count g.link }) other to_me) (append_assoc to_other g.outs (frames g.link g.link.sent (fill_count g.link))) shot

rr_text : (b : Bool) (n : ℕ) (pf : Bool) → text_of (if b then Rnr n pf else Rr n pf) None ≡ []
rr_text true n pf = refl
rr_text false n pf = refl

rr_ack : (b : Bool) (n : ℕ) (pf : Bool) → ack_of (if b then Rnr n pf else Rr n pf) None ≡ n ∷ []
rr_ack true n pf = refl
rr_ack false n pf = refl

-- RR or RNR by got
pub fine_rr : (command pf : Bool) (g : Effect) (other : Core) (to_me to_other : List Frame) → Fine g other to_me to_other → Fine (emit command (rr g.link pf) g) other to_me to_other
fine_rr command pf g other to_me to_other b =
    let f : Frame = record { command = command; kind = rr g.link pf; payload = None } in
    let t : text_of (rr g.link pf) None ≡ [] = rr_text (busy g.link) (wire g.link (length g.link.received)) pf in
    let a : ack_of (rr g.link pf) None ≡ (length g.link.received % other.rules.size) ∷ [] = rr_ack (busy g.link) (wire g.link (length g.link.received)) pf ∙ ap (λ k. (length g.link.received % k) ∷ []) (sym b.out.fits.size) in
    subst (Both (core g.link) other to_me) (append_assoc to_other g.outs (f ∷ [])) (both_put (core g.link) other to_me (to_other ++ g.outs) f t a b)

pub fine_again : (now : ℕ) (g : Effect) (other : Core) (to_me to_other : List Frame) → Fine g other to_me to_other → Fine (again now g) other to_me to_other
fine_again now g other to_me to_other b =
    let o = way_order (core g.link) other (to_other ++ g.outs) to_me b.out in
    let m = both_shots (core g.link) other to_me (to_other ++ g.outs) g.link.acked (g.link.sent - g.link.acked) (omega arith) (omega (arith, o)) b in
    subst (Both (core g.link) other to_me) (append_assoc to_other g.outs (frames g.link g.link.acked (g.link.sent - g.link.acked))) m

both_acked : (h : ℕ) (me other : Core) (to_me to_me2 to_other : List Frame) → me.acked ≤ h → AcksFine me.rules.size (length other.received) (acks_of to_me2) h → TextsFine other.given other.rules.size other.rules.window other.sent (texts_of to_me2) (reach me) → Both me other to_me to_other → Both (record me { acked = h }) other to_me2 to_other
both_acked h me other to_me to_me2 to_other l a t b = record {
  out = way_acked me other to_other to_me to_me2 h b.out l a;
  back = record { fits = record { size = b.back.fits.size; window = b.back.fits.window; both = b.back.fits.both }; begun = b.back.begun; early = b.back.early; texts = t; acks = b.back.acks; window = b.back.window; room = b.back.room };
}

fine_ack_by : (now h : ℕ) (g : Effect) (other : Core) (to_me to_me2 to_other : List Frame) (t : Bool) → nat_lt g.link.acked h ≡ t → g.link.acked ≤ h → AcksFine g.link.rules.size (length other.received) (acks_of to_me2) h → TextsFine other.given other.rules.size other.rules.window other.sent (texts_of to_me2) (high g.link) → Fine g other to_me to_other → Fine (if t then record g { link = restart_t1 now (update_t1 now g.link (record g.link { acked = h; tries = 0 })) } else g) other to_me2 to_other
fine_ack_by now h g other to_me to_me2 to_other true e l a t b = both_acked h (core g.link) other to_me to_me2 (to_other ++ g.outs) l a t b
fine_ack_by now h g other to_me to_me2 to_other false e l a t b =
    let q : h ≡ g.link.acked = grind (arith, nat_tests, e, l) in
    subst (λ k. Both (record (core g.link) { acked = k }) other to_me2 (to_other ++ g.outs)) q (both_acked h (core g.link) other to_me to_me2 (to_other ++ g.outs) l a t b)

pub fine_ack : (now h : ℕ) (g : Effect) (other : Core) (to_me to_me2 to_other : List Frame) → g.link.acked ≤ h → AcksFine g.link.rules.size (length other.received) (acks_of to_me2) h → TextsFine other.given other.rules.size other.rules.window other.sent (texts_of to_me2) (high g.link) → Fine g other to_me to_other → Fine (acknowledge now h g) other to_me2 to_other
fine_ack now h g other to_me to_me2 to_other l a t b = fine_ack_by now h g other to_me to_me2 to_other (nat_lt g.link.acked h) refl l a t b

-- a frame that the law doesn't speak of
pub fine_other : (command : Bool) (c : Kind) (g : Effect) (other : Core) (to_me to_other : List Frame) → text_of c None ≡ [] → ack_of c None ≡ [] → Fine g other to_me to_other → Fine (emit command c g) other to_me to_other
fine_other command c g other to_me to_other t a b =
    let f : Frame = record { command = command; kind = c; payload = None } in
    let ts = texts_append (to_other ++ g.outs) (f ∷ []) ∙ (ap (λ k. texts_of (to_other ++ g.outs) ++ (k ++ [])) t ∙ append-nil (texts_of (to_other ++ g.outs))) in
    let rs = acks_append (to_other ++ g.outs) (f ∷ []) ∙ (ap (λ k. acks_of (to_other ++ g.outs) ++ (k ++ [])) a ∙ append-nil (acks_of (to_other ++ g.outs))) in
    subst (Both (core g.link) other to_me) (append_assoc to_other g.outs (f ∷ [])) (record {
      out = way_texts (core g.link) other (to_other ++ g.outs) to_me ((to_other ++ g.outs) ++ f ∷ []) b.out (subst (λ k. TextsFine g.link.given g.link.rules.size g.link.rules.window g.link.sent k (reach other)) (sym ts) b.out.texts);
      back = way_acks other (core g.link) to_me (to_other ++ g.outs) ((to_other ++ g.outs) ++ f ∷ []) b.back (subst (λ k. AcksFine other.rules.size (length g.link.received) k other.acked) (sym rs) b.back.acks);
    })

pub fine_if : (b : Bool) (g h : Effect) (other : Core) (to_me to_other : List Frame) → Fine g other to_me to_other → Fine h other to_me to_other → Fine (if b then g else h) other to_me to_other
fine_if true g h other to_me to_other x y = x
fine_if false g h other to_me to_other x y = y

pub fine_finish : (now : ℕ) (g : Effect) (other : Core) (to_me to_other : List Frame) → Fine g other to_me to_other → Fine (finish now g) other to_me to_other
fine_finish now g other to_me to_other b =
    fine_if (is_up g.link.phase && g.link.closing && nat_eq g.link.acked (length g.link.given)) (emit_timed now true (Disc true) (to_phase now Releasing (record g { link = record g.link { tries = 0 } }))) g other to_me to_other
    (fine_other true (Disc true) (to_phase now Releasing (record g { link = record g.link { tries = 0 } })) other to_me to_other refl refl b) b

pub fine_resupply : (now : ℕ) (ends rej unpolled : Bool) (g : Effect) (other : Core) (to_me to_other : List Frame) → Fine g other to_me to_other → Fine (resupply now ends rej unpolled g) other to_me to_other
fine_resupply now true rej unpolled g other to_me to_other b = fine_again now (end_poll now g) other to_me to_other b
fine_resupply now false rej unpolled g other to_me to_other b = fine_if (rej && unpolled) (again now g) g other to_me to_other (fine_again now g other to_me to_other b) b

pub fine_supply : (now : ℕ) (g : Effect) (other : Core) (to_me to_other : List Frame) → Fine g other to_me to_other → Fine (supply now g) other to_me to_other
fine_supply now g other to_me to_other b = fine_finish now (fill now g) other to_me to_other (fine_fill now g other to_me to_other b)

pub fine_answered : (poll : Bool) (g : Effect) (other : Core) (to_me to_other : List Frame) → Fine g other to_me to_other → Fine (answer_poll poll g) other to_me to_other
fine_answered true g other to_me to_other b = fine_rr false true g other to_me to_other b
fine_answered false g other to_me to_other b = b

pub fine_resupplied : (now : ℕ) (final rej : Bool) (g : Effect) (other : Core) (to_me to_other : List Frame) → Fine g other to_me to_other → Fine (supply_again now final rej g) other to_me to_other
fine_resupplied now final rej g other to_me to_other b = fine_resupply now (final && g.link.polling) rej (not g.link.polling) g other to_me to_other b

pub fine_hold : (now : ℕ) (v : Bool) (g : Effect) (other : Core) (to_me to_other : List Frame) → Fine g other to_me to_other → Fine (hold now v g) other to_me to_other
fine_hold now v g other to_me to_other b = b

pub fine_supervised : (now : ℕ) (command rnr rej pf : Bool) (h : ℕ) (g : Effect) (other : Core) (to_me to_me2 to_other : List Frame) → g.link.acked ≤ h → AcksFine g.link.rules.size (length other.received) (acks_of to_me2) h → TextsFine other.given other.rules.size other.rules.window other.sent (texts_of to_me2) (high g.link) → Fine g other to_me to_other → Fine (supervisory_at now command rnr rej pf h g) other to_me2 to_other
fine_supervised now command rnr rej pf h g other to_me to_me2 to_other l a t b =
    let k : Effect = hold now rnr (acknowledge now h g) in
    fine_supply now (supply_again now (not command && pf) rej (answer_poll (command && pf) (hold now rnr (acknowledge now h g)))) other to_me2 to_other
    (fine_resupplied now (not command && pf) rej (answer_poll (command && pf) (hold now rnr (acknowledge now h g))) other to_me2 to_other
    (fine_answered (command && pf) (hold now rnr (acknowledge now h g)) other to_me2 to_other
    (fine_hold now rnr (acknowledge now h g) other to_me2 to_other (fine_ack now h g other to_me to_me2 to_other l a t b))))
