-- Each step puts out what may be put out, and keeps the bounds.
use Rattle.std.proofs.Common.{◌≡◌, ℕ, zero, suc, ◌+◌, ◌-◌, ◌%◌, ◌<◌, ◌≤◌, Bool, true, false, not, ◌&&◌, ◌||◌, nat_eq, nat_lt, nat_le, if◌then◌else◌, List, [], ◌∷◌, ◌++◌, length, drop, replicate, min, Option, Some, None, slice_get, slice_set, refl, sym, subst, arith}
use Rattle.std.proofs.lemmas.Bool.Decides.{nat_tests}
use Rattle.std.specs.List.{AllByRecursion}
use Rattle.std.proofs.lemmas.Bool.{or_parts, or_from}
use Rattle.radio_base.specs.declared.payload.Payload.{Payload}
use Rattle.radio_base.specs.Modulus.{place_of}
use Rattle.radio_base.proofs.Each.{each_drop}
use Rattle.ax_link.specs.declared.kind.Kind.{Kind}
use Rattle.ax_link.specs.declared.kind.Kind.TheVariants as kind
use Rattle.ax_link.specs.declared.phase.LinkPhase.{LinkPhase}
use Rattle.ax_link.specs.declared.phase.LinkPhase.TheVariants.{Down, SettingUp, Up, Releasing}
use Rattle.ax_link.specs.State.{Frame, State, Effect, ack_place, count_end, begin, busy, high, is_up, update_t1, places, restart_t1, t1_runs, t3_at, wire}
use Rattle.ax_link.specs.Moves.{acknowledge, again, answer_poll, ask, ask_again, asks, asks_of, end_poll, fill, fill_count, finish, first_early, frames, frames_of, hold, is_free, follow_by, follow, next_early, on_i, on_srej, on_supervisory, emit, release, reset, resume, supply_again, resupply, rr, srej_at, start_poll, store_early, supervisory_at, supply, take_in, take_next, text, text_at, text_later, text_plain, text_srej, i_at}
use Rattle.ax_link.specs.Table.{Input, Set_up, Send, Arrive, Tick, Close, Take, accept, arrive_down, arrive_in, arrive_releasing, arrive_setting_up, arrive_up, close_in_turn, expire, fail_in, fail, may_close, come_up, refuse_if, retry, retry_in, set_up_in, step_at, takes, tick}
use Rattle.ax_link.specs.Bounds.{Bounded, Stock, stock, Brings, Has, HasIf, HavePayloads}
use Rattle.ax_link.proofs.Ways.{place_in}
use Rattle.ax_link.proofs.PutOut.{IsPut, IsPutOut, some, with_sent, with_acked, room_for, with_next, with_early, with_given, with_rest, emptied}

module _ (given came : Payload → Bool) where
  abbrev Holds : Stock → Type 0
  Holds s = Bounded s × HavePayloads given came s

  -- a step under way
  abbrev Good : Effect → Type 0
  Good g = Holds (stock g.link) × AllByRecursion (IsPutOut given g.link.rules.size) g.outs

  all_snoc : {A : Type 0} (P : A → Type 0) (xs ys : List A) → AllByRecursion P xs → AllByRecursion P ys → AllByRecursion P (xs ++ ys)
  all_snoc P [] ys a b = b
  all_snoc P (x ∷ xs) ys a b = (a.0, all_snoc P xs ys a.1 b)

  all_at : {A : Type 0} (P : A → Type 0) (xs : List A) (n : ℕ) → AllByRecursion P xs → n < length xs → (x : A) × (slice_get xs n ≡ Some x) × P x
  all_at P [] n a l = absurd (omega (arith, l))
  all_at P (x ∷ xs) zero a l = (x, refl, a.0)
  all_at P (x ∷ xs) (suc n) a l = all_at P xs n a.1 (omega (arith, l))

  all_set : {A : Type 0} (P : A → Type 0) (xs : List A) (n : ℕ) (y : A) → AllByRecursion P xs → P y → AllByRecursion P (slice_set xs n y)
  all_set P [] n y a b = tt
  all_set P (x ∷ xs) zero y a b = (b, a.1)
  all_set P (x ∷ xs) (suc n) y a b = (a.0, all_set P xs n y a.1 b)

  none_kept : (n : ℕ) → AllByRecursion (HasIf came) (replicate n None)
  none_kept zero = tt
  none_kept (suc n) = (tt, none_kept n)

  good_if : (b : Bool) (g h : Effect) → Good g → Good h → Good (if b then g else h)
  good_if true g h x y = x
  good_if false g h x y = y

  good_put : (command : Bool) (k : Kind) (g : Effect) → IsPut given g.link.rules.size command k None → Good g → Good (emit command k g)
  good_put command k g p x = (x.0, all_snoc (IsPutOut given g.link.rules.size) g.outs (record { command = command; kind = k; payload = None } ∷ []) x.1 (p, tt))

  below : (n size : ℕ) → 0 < size → n % size < size
  below n size z = omega (arith, z)

  shots : (size got : ℕ) (ps : List Payload) (n many : ℕ) → 0 < size → AllByRecursion (Has given) ps → n + many ≤ length ps →
      AllByRecursion (IsPutOut given size) (frames_of size got ps n many)
  shots size got ps n zero z a l = tt
  shots size got ps n (suc many) z a l =
      let x = all_at (Has given) ps n a (omega (arith, l)) in (
        subst (IsPut given size true (kind.I (n % size) (got % size) false)) (sym x.1) (below n size z, below got size z, x.2),
        shots size got ps (suc n) many z a (omega (arith, l)),
      )

  good_shots : (n many : ℕ) (g : Effect) → n + many ≤ length g.link.given → Good g → Good (record g { outs = g.outs ++ frames g.link n many })
  good_shots n many g l x =
      (x.0, all_snoc (IsPutOut given g.link.rules.size) g.outs (frames g.link n many) x.1 (shots g.link.rules.size (length g.link.received) g.link.given n many (some (stock g.link) x.0.0) x.0.1.given l))

  ask_for_each : (size n many : ℕ) → 0 < size → AllByRecursion (IsPutOut given size) (asks_of size n many)
  ask_for_each size n zero z = tt
  ask_for_each size n (suc many) z = (below n size z, ask_for_each size (suc n) many z)

  rr_is_put : (size n : ℕ) (b command pf : Bool) → 0 < size → IsPut given size command (if b then kind.Rnr (n % size) pf else kind.Rr (n % size) pf) None
  rr_is_put size n true command pf z = below n size z
  rr_is_put size n false command pf z = below n size z

  good_rr : (command pf : Bool) (g : Effect) → Good g → Good (emit command (rr g.link pf) g)
  good_rr command pf g x = good_put command (rr g.link pf) g (rr_is_put g.link.rules.size (length g.link.received) (busy g.link) command pf (some (stock g.link) x.0.0)) x

  good_fill : (now : ℕ) (g : Effect) → Good g → Good (fill now g)
  good_fill now g x =
      let l = fits (is_up g.link.phase && not (g.link.polling || g.link.peer_busy)) in (
        (with_sent (stock g.link) (g.link.sent + fill_count g.link) (omega (arith, x.0.0.acked)) l.0 l.1 x.0.0, record { given = x.0.1.given; received = x.0.1.received; inbox = x.0.1.inbox; early = x.0.1.early }),
        (good_shots g.link.sent (fill_count g.link) g l.1 x).1,
      )
    where
      many : Bool → ℕ
      many b = if b then min ((g.link.acked + g.link.rules.window) - g.link.sent) (length g.link.given - g.link.sent) else 0

      fits : (b : Bool) → (g.link.sent + many b ≤ g.link.acked + g.link.rules.window) × (g.link.sent + many b ≤ length g.link.given)
      fits true = (omega (arith, x.0.0.sent), omega (arith, x.0.0.given))
      fits false = (omega (arith, x.0.0.sent), omega (arith, x.0.0.given))

  good_finish : (now : ℕ) (g : Effect) → Good g → Good (finish now g)
  good_finish now g x =
      good_if (is_up g.link.phase && g.link.closing && nat_eq g.link.acked (length g.link.given)) (release now g) g
      (good_put true (kind.Disc true) g tt x) x

  good_supply : (now : ℕ) (g : Effect) → Good g → Good (supply now g)
  good_supply now g x = good_finish now (fill now g) (good_fill now g x)

  good_again : (now : ℕ) (g : Effect) → Good g → Good (again now g)
  good_again now g x = good_shots g.link.acked (g.link.sent - g.link.acked) g (omega (arith, x.0.0.acked, x.0.0.given)) x

  good_acknowledge : (now n : ℕ) (g : Effect) → n ≤ g.link.sent → Good g → Good (acknowledge now n g)
  good_acknowledge now n g l x = by (nat_lt g.link.acked n) refl
    where
      by : (b : Bool) → nat_lt g.link.acked n ≡ b →
          Good (if b then record g { link = restart_t1 now (update_t1 now g.link (record g.link { acked = n; tries = 0 })) } else g)
      by true e = ((with_acked (stock g.link) n (grind (arith, nat_tests, e)) l x.0.0, record { given = x.0.1.given; received = x.0.1.received; inbox = x.0.1.inbox; early = x.0.1.early }), x.1)
      by false e = x

  good_resupply : (now : ℕ) (ends rej unpolled : Bool) (g : Effect) → Good g → Good (resupply now ends rej unpolled g)
  good_resupply now true rej unpolled g x = good_again now (end_poll now g) x
  good_resupply now false rej unpolled g x = good_if (rej && unpolled) (again now g) g (good_again now g x) x

  good_answered : (poll : Bool) (g : Effect) → Good g → Good (answer_poll poll g)
  good_answered true g x = good_rr false true g x
  good_answered false g x = x

  place_sent : (g : Effect) (nr n : ℕ) → Good g → ack_place g.link nr ≡ Some n → n ≤ g.link.sent
  place_sent g nr n x e =
      let p = place_in nr g.link.acked (suc (g.link.sent - g.link.acked)) g.link.rules.size n (some (stock g.link) x.0.0) e in omega (arith, p.2, x.0.0.acked)

  good_supervised : (now : ℕ) (command rnr rej pf : Bool) (n : ℕ) (g : Effect) → n ≤ g.link.sent → Good g → Good (supervisory_at now command rnr rej pf n g)
  good_supervised now command rnr rej pf n g l x =
      let a : Effect = hold now rnr (acknowledge now n g) in
      let b : Effect = answer_poll (command && pf) a in
      good_supply now (supply_again now (not command && pf) rej b)
      (good_resupply now ((not command && pf) && b.link.polling) rej (not b.link.polling) b (good_answered (command && pf) a (good_acknowledge now n g l x)))

  good_on_supervisory : (now : ℕ) (command rnr rej pf : Bool) (nr : ℕ) (g : Effect) → Good g → Good (on_supervisory now command rnr rej pf nr g)
  good_on_supervisory now command rnr rej pf nr g x = by (ack_place g.link nr) refl
    where
      by : (r : Option ℕ) → ack_place g.link nr ≡ r → Good (elim r as (λ y. Effect) [ None ↦ g | Some n ↦ supervisory_at now command rnr rej pf n g ])
      by None e = x
      by (Some n) e = good_supervised now command rnr rej pf n g (place_sent g nr n x e) x

  good_selected : (now n : ℕ) (g : Effect) → n ≤ g.link.sent → Good g → Good (srej_at now n g)
  good_selected now n g l x =
      let h : Effect = end_poll now (acknowledge now n g) in
      let y : Good h = good_acknowledge now n g l x in
      good_supply now (record h { outs = h.outs ++ frames h.link n (min 1 (h.link.sent - n)) })
      (good_shots n (min 1 (h.link.sent - n)) h (omega (arith, y.0.0.given, same_sent (nat_lt g.link.acked n), same_given (nat_lt g.link.acked n), l, x.0.0.given)) y)
    where
      after : Bool → Effect
      after b = if b then record g { link = record (update_t1 now g.link (record g.link { acked = n; tries = 0 })) { t1_at = now + g.link.rules.t1 } } else g

      same_sent : (b : Bool) → (after b).link.sent ≡ g.link.sent
      same_sent true = refl
      same_sent false = refl

      same_given : (b : Bool) → length (after b).link.given ≡ length g.link.given
      same_given true = refl
      same_given false = refl

  good_on_srej : (now : ℕ) (pf : Bool) (nr : ℕ) (g : Effect) → Good g → Good (on_srej now pf nr g)
  good_on_srej now false nr g x = by (place_of g.link.rules.size nr g.link.acked (g.link.sent - g.link.acked)) refl
    where
      by : (r : Option ℕ) → place_of g.link.rules.size nr g.link.acked (g.link.sent - g.link.acked) ≡ r →
          Good (elim r as (λ y. Effect) [ None ↦ g | Some n ↦ record g { outs = g.outs ++ frames g.link n 1 } ])
      by None e = x
      by (Some n) e =
          let p = place_in nr g.link.acked (g.link.sent - g.link.acked) g.link.rules.size n (some (stock g.link) x.0.0) e in
          good_shots n 1 g (omega (arith, p.2, x.0.0.given)) x
  good_on_srej now true nr g x = by (ack_place g.link nr) refl
    where
      by : (r : Option ℕ) → ack_place g.link nr ≡ r → Good (elim r as (λ y. Effect) [ None ↦ g | Some n ↦ srej_at now n g ])
      by None e = x
      by (Some n) e = good_selected now n g (place_sent g nr n x e) x

  -- ---- payloads that come

  good_state : (g : Effect) (s : State) → s.rules.size ≡ g.link.rules.size → Holds (stock s) → Good g → Good (record g { link = s })
  good_state g s e h x = (h, subst (λ size. AllByRecursion (IsPutOut given size) g.outs) (sym e) x.1)

  taken_next : (p : Payload) (s : State) → (busy s || nat_le count_end (length s.received)) ≡ false → Has came p → Holds (stock s) → Holds (stock (take_next p s))
  taken_next p s free a x =
      let f = or_parts (busy s) (nat_le count_end (length s.received)) free in (
        with_next (stock s) p (grind (arith, nat_tests, f.1)) (grind (arith, nat_tests, f.0)) x.0,
        record {
          given = x.1.given;
          received = all_snoc (Has came) s.received (p ∷ []) x.1.received (a, tt);
          inbox = all_snoc (Has came) s.inbox (p ∷ []) x.1.inbox (a, tt);
          early = each_drop (HasIf came) (s.early ++ None ∷ []) (all_snoc (HasIf came) s.early (None ∷ []) x.1.early (tt, tt));
        },
      )

  first_has : (e : List (Option Payload)) (p : Payload) → AllByRecursion (HasIf came) e → first_early e ≡ Some p → Has came p
  first_has [] p a e = absurd (cc e)
  first_has (q ∷ qs) p a e = subst (HasIf came) e a.0

  next_has : (b : Bool) (e : List (Option Payload)) (p : Payload) → AllByRecursion (HasIf came) e → (if b then None else first_early e) ≡ Some p → (b ≡ false) × Has came p
  next_has true e p a q = absurd (cc q)
  next_has false e p a q = (refl, first_has e p a q)

  move_on : (k : ℕ) (s : State) → Holds (stock s) → Holds (stock (follow_by k s)) × ((follow_by k s).rules.size ≡ s.rules.size)
  move_on zero s x = (x, refl)
  move_on (suc k) s x = by (next_early s) refl (λ p h. move_on k (take_next p s) h)
    where
      by : (r : Option Payload) → next_early s ≡ r →
          ((p : Payload) → Holds (stock (take_next p s)) → Holds (stock (follow_by k (take_next p s))) × ((follow_by k (take_next p s)).rules.size ≡ s.rules.size)) →
          Holds (stock (elim r as (λ y. State) [ None ↦ s | Some p ↦ follow_by k (take_next p s) ]))
          × ((elim r as (λ y. State) [ None ↦ s | Some p ↦ follow_by k (take_next p s) ]).rules.size ≡ s.rules.size)
      by None e more = (x, refl)
      by (Some p) e more =
          let n = next_has (busy s || nat_le count_end (length s.received)) s.early p x.1.early e in more p (taken_next p s n.0 n.1 x)

  good_resumed : (g : Effect) → Good g → Good (resume g)
  good_resumed g x =
      let m = move_on (length g.link.early) g.link x.0 in
      good_rr false false (record g { link = follow g.link }) (good_state g (follow g.link) m.1 m.0 x)

  good_take_in : (pf : Bool) (s : State) (g : Effect) → s.rules.size ≡ g.link.rules.size → Holds (stock s) → Good g → Good (take_in pf s g)
  good_take_in pf s g e h x =
      let n : Effect = record g { link = s } in
      let y : Good n = good_state g s e h x in
      good_if (pf || (busy s || nat_eq (fill_count s) 0)) (emit false (rr s pf) n) n (good_rr false pf n y) y

  good_ask_again : (pf : Bool) (g : Effect) → Good g → Good (ask_again pf g)
  good_ask_again pf g x =
      good_if (not g.link.rej_sent) (ask pf g) (if pf then emit false (rr g.link true) g else g)
      (good_put false (kind.Rej (wire g.link (length g.link.received)) pf) g (below (length g.link.received) g.link.rules.size (some (stock g.link) x.0.0)) x)
      (good_if pf (emit false (rr g.link true) g) g (good_rr false true g x) x)

  good_text_plain : (pf : Bool) (ns : ℕ) (p : Payload) (g : Effect) → (busy g.link || nat_le count_end (length g.link.received)) ≡ false → Has came p → Good g → Good (text_plain pf ns p g)
  good_text_plain pf ns p g free a x =
      good_if (nat_eq ns (wire g.link (length g.link.received))) (take_in pf (record (take_next p g.link) { rej_sent = false }) g) (ask_again pf g)
      (good_take_in pf (record (take_next p g.link) { rej_sent = false }) g refl (taken_next p g.link free a x.0) x) (good_ask_again pf g x)

  stored_holds : (b : Bool) (i : ℕ) (p : Payload) (s : State) → Has came p → Holds (stock s) →
      Holds (stock (if b then record s { early = slice_set s.early i (Some p) } else s))
      × ((if b then record s { early = slice_set s.early i (Some p) } else s).rules.size ≡ s.rules.size)
  stored_holds true i p s a x =
      ((with_early (stock s) i p x.0, record { given = x.1.given; received = x.1.received; inbox = x.1.inbox; early = all_set (HasIf came) s.early i (Some p) x.1.early a }), refl)
  stored_holds false i p s a x = (x, refl)

  good_text_later : (pf : Bool) (n : ℕ) (p : Payload) (g : Effect) → Has came p → Good g → Good (text_later pf n p g)
  good_text_later pf n p g a x =
      let i : ℕ = n - length g.link.received in
      let s = stored_holds (is_free (slice_get g.link.early i)) i p g.link a x.0 in
      let h : Effect = record g { outs = g.outs ++ asks g.link (high g.link) (n - high g.link) } in
      let y : Good h = (x.0, all_snoc (IsPutOut given g.link.rules.size) g.outs (asks g.link (high g.link) (n - high g.link)) x.1 (ask_for_each g.link.rules.size (high g.link) (n - high g.link) (some (stock g.link) x.0.0))) in
      good_answered pf (record h { link = store_early i p g.link }) (good_state h (store_early i p g.link) s.1 s.0 y)

  good_text_srej : (pf : Bool) (ns : ℕ) (p : Payload) (g : Effect) → (busy g.link || nat_le count_end (length g.link.received)) ≡ false → Has came p → Good g → Good (text_srej pf ns p g)
  good_text_srej pf ns p g free a x = by (place_of g.link.rules.size ns (length g.link.received) g.link.rules.window)
    where
      by : (r : Option ℕ) → Good (elim r as (λ y. Effect) [ None ↦ emit false (rr g.link pf) g | Some n ↦ text_at pf n p g ])
      by None = good_rr false pf g x
      by (Some n) =
          let m = move_on (length (take_next p g.link).early) (take_next p g.link) (taken_next p g.link free a x.0) in
          good_if (nat_lt (length g.link.received) n) (text_later pf n p g) (take_in pf (follow (take_next p g.link)) g)
          (good_text_later pf n p g a x) (good_take_in pf (follow (take_next p g.link)) g m.1 m.0 x)

  good_text : (pf : Bool) (ns : ℕ) (p : Payload) (g : Effect) → Has came p → Good g → Good (text pf ns p g)
  good_text pf ns p g a x = by (nat_le count_end (length g.link.received)) (busy g.link) refl refl
    where
      by : (ended full : Bool) → nat_le count_end (length g.link.received) ≡ ended → busy g.link ≡ full →
          Good
          (if ended then g
          else if full then emit false (kind.Rnr (wire g.link (length g.link.received)) pf) g
          else if g.link.rules.srej then text_srej pf ns p g
          else text_plain pf ns p g)
      by true full e f = x
      by false true e f = good_put false (kind.Rnr (wire g.link (length g.link.received)) pf) g (below (length g.link.received) g.link.rules.size (some (stock g.link) x.0.0)) x
      by false false e f =
          let free = or_from (busy g.link) (nat_le count_end (length g.link.received)) f e in
          good_if g.link.rules.srej (text_srej pf ns p g) (text_plain pf ns p g) (good_text_srej pf ns p g free a x) (good_text_plain pf ns p g free a x)

  good_on_i : (now : ℕ) (pf : Bool) (ns nr : ℕ) (p : Option Payload) (g : Effect) → HasIf came p → Good g → Good (on_i now pf ns nr p g)
  good_on_i now pf ns nr None g a x = x
  good_on_i now pf ns nr (Some p) g a x = by (ack_place g.link nr) refl
    where
      by : (r : Option ℕ) → ack_place g.link nr ≡ r → Good (elim r as (λ y. Effect) [ None ↦ g | Some n ↦ i_at now pf ns p n g ])
      by None e = x
      by (Some n) e =
          good_supply now (text pf ns p (acknowledge now n g))
          (good_text pf ns p (acknowledge now n g) a (good_acknowledge now n g (place_sent g nr n x e) x))

  -- ---- the rows

  good_reset : (now : ℕ) (g : Effect) → Good g → Good (reset now g)
  good_reset now g x =
      ((emptied g.link.rules x.0.0.window, record { given = tt; received = tt; inbox = tt; early = none_kept (places g.link.rules) }), x.1)

  good_refused : (asked pf : Bool) (g : Effect) → Good g → Good (refuse_if asked pf g)
  good_refused true pf g x = good_put false (kind.Dm pf) g tt x
  good_refused false pf g x = x

  good_down : (now : ℕ) (command : Bool) (k : Kind) (g : Effect) → Good g → Good (arrive_down now command k g)
  good_down now command (kind.SetUp pf) g x = good_put false (kind.Ua pf) (reset now g) tt (good_reset now g x)
  good_down now command (kind.Disc pf) g x = good_refused command pf g x
  good_down now command (kind.Xid pf) g x = good_refused command pf g x
  good_down now command (kind.I ns nr pf) g x = good_refused (command && pf) true g x
  good_down now command (kind.Rr nr pf) g x = good_refused (command && pf) true g x
  good_down now command (kind.Rnr nr pf) g x = good_refused (command && pf) true g x
  good_down now command (kind.Rej nr pf) g x = good_refused (command && pf) true g x
  good_down now command (kind.Srej nr pf) g x = good_refused (command && pf) true g x
  good_down now command (kind.OtherSetUp pf) g x = x
  good_down now command (kind.Dm pf) g x = x
  good_down now command (kind.Ua pf) g x = x
  good_down now command (kind.Frmr pf) g x = x
  good_down now command kind.Other g x = x

  good_setting : (now : ℕ) (k : Kind) (g : Effect) → Good g → Good (arrive_setting_up now k g)
  good_setting now (kind.Ua true) g x = good_supply now (come_up now g) x
  good_setting now (kind.Ua false) g x = x
  good_setting now (kind.Dm true) g x = x
  good_setting now (kind.Dm false) g x = x
  good_setting now (kind.SetUp pf) g x = good_put false (kind.Ua pf) g tt x
  good_setting now (kind.Disc pf) g x = good_put false (kind.Dm pf) g tt x
  good_setting now (kind.I ns nr pf) g x = x
  good_setting now (kind.Rr nr pf) g x = x
  good_setting now (kind.Rnr nr pf) g x = x
  good_setting now (kind.Rej nr pf) g x = x
  good_setting now (kind.Srej nr pf) g x = x
  good_setting now (kind.OtherSetUp pf) g x = x
  good_setting now (kind.Frmr pf) g x = x
  good_setting now (kind.Xid pf) g x = x
  good_setting now kind.Other g x = x

  good_up : (now : ℕ) (command : Bool) (k : Kind) (p : Option Payload) (g : Effect) → HasIf came p → Good g → Good (arrive_up now command k p g)
  good_up now command (kind.I ns nr pf) p g a x = good_on_i now pf ns nr p g a x
  good_up now command (kind.Rr nr pf) p g a x = good_on_supervisory now command false false pf nr g x
  good_up now command (kind.Rnr nr pf) p g a x = good_on_supervisory now command true false pf nr g x
  good_up now command (kind.Rej nr pf) p g a x = good_on_supervisory now command false true pf nr g x
  good_up now command (kind.Srej nr pf) p g a x = good_on_srej now pf nr g x
  good_up now command (kind.SetUp pf) p g a x = good_put false (kind.Ua pf) (reset now g) tt (good_reset now g x)
  good_up now command (kind.Disc pf) p g a x = good_put false (kind.Ua pf) g tt x
  good_up now command (kind.Dm pf) p g a x = x
  good_up now command (kind.Frmr pf) p g a x = good_put true (kind.SetUp true) (reset now g) refl (good_reset now g x)
  good_up now command (kind.OtherSetUp pf) p g a x = x
  good_up now command (kind.Ua pf) p g a x = x
  good_up now command (kind.Xid pf) p g a x = x
  good_up now command kind.Other p g a x = x

  good_releasing : (now : ℕ) (k : Kind) (g : Effect) → Good g → Good (arrive_releasing now k g)
  good_releasing now (kind.Ua true) g x = x
  good_releasing now (kind.Ua false) g x = x
  good_releasing now (kind.Dm true) g x = x
  good_releasing now (kind.Dm false) g x = x
  good_releasing now (kind.Disc pf) g x = good_put false (kind.Ua pf) g tt x
  good_releasing now (kind.SetUp pf) g x = good_put false (kind.Dm pf) g tt x
  good_releasing now (kind.OtherSetUp pf) g x = good_put false (kind.Dm pf) g tt x
  good_releasing now (kind.I ns nr pf) g x = x
  good_releasing now (kind.Rr nr pf) g x = x
  good_releasing now (kind.Rnr nr pf) g x = x
  good_releasing now (kind.Rej nr pf) g x = x
  good_releasing now (kind.Srej nr pf) g x = x
  good_releasing now (kind.Frmr pf) g x = x
  good_releasing now (kind.Xid pf) g x = x
  good_releasing now kind.Other g x = x

  good_arrive : (phase : LinkPhase) (now : ℕ) (f : Frame) (g : Effect) → HasIf came f.payload → Good g → Good (arrive_in phase now f g)
  good_arrive Down now f g a x = good_down now f.command f.kind g x
  good_arrive SettingUp now f g a x = good_setting now f.kind g x
  good_arrive Up now f g a x = good_up now f.command f.kind f.payload g a x
  good_arrive Releasing now f g a x = good_releasing now f.kind g x

  good_failed : (phase : LinkPhase) (g : Effect) → Good g → Good (fail_in phase g)
  good_failed Down g x = x
  good_failed SettingUp g x = x
  good_failed Up g x = good_put false (kind.Dm false) g tt x
  good_failed Releasing g x = x

  good_retry : (phase : LinkPhase) (now : ℕ) (g : Effect) → Good g → Good (retry_in phase now g)
  good_retry Down now g x = x
  good_retry SettingUp now g x = good_put true (kind.SetUp true) g refl x
  good_retry Up now g x = good_rr true true (record g { link = update_t1 now g.link (record g.link { polling = true }) }) x
  good_retry Releasing now g x = good_put true (kind.Disc true) g tt x

  good_tick : (now : ℕ) (g : Effect) → Good g → Good (tick now g)
  good_tick now g x =
      good_if (t1_runs g.link) (if nat_le g.link.t1_at now then expire now g else g) (if is_up g.link.phase && nat_le (t3_at g.link) now then start_poll now g else g)
      (good_if (nat_le g.link.t1_at now) (expire now g) g
      (good_if (nat_eq g.link.tries g.link.rules.retries) (fail now g) (retry now g)
      (good_failed g.link.phase g x)
      (good_retry g.link.phase now (record g { link = record g.link { tries = suc g.link.tries } }) x)) x)
      (good_if (is_up g.link.phase && nat_le (t3_at g.link) now) (start_poll now g) g
      (good_rr true true (record g { link = update_t1 now g.link (record g.link { polling = true }) }) x) x)

  good_set_up : (phase : LinkPhase) (now : ℕ) (g : Effect) → Good g → Good (set_up_in phase now g)
  good_set_up Down now g x = good_put true (kind.SetUp true) (reset now g) refl (good_reset now g x)
  good_set_up SettingUp now g x = x
  good_set_up Up now g x = x
  good_set_up Releasing now g x = x

  begun : (s : State) → Holds (stock s) → Good (begin s)
  begun s x = (x, tt)

  more_given : (p : Payload) (s : State) → length s.given < s.acked + 128 → length s.given < count_end → Has given p → Holds (stock s) → Holds (stock (record s { given = s.given ++ p ∷ [] }))
  more_given p s room more a x = (
    with_given (stock s) p room more x.0,
    record { given = all_snoc (Has given) s.given (p ∷ []) x.1.given (a, tt); received = x.1.received; inbox = x.1.inbox; early = x.1.early },
  )

  -- each step keeps it
  pub good_step : (now : ℕ) (s : State) (i : Input) → Brings given came i → Holds (stock s) → Good (step_at now s i)
  good_step now s Set_up a x = good_set_up s.phase now (begin s) (begun s x)
  good_step now s (Send p) a x = by (takes s) refl
    where
      by : (b : Bool) → takes s ≡ b → Good (if b then accept now p (begin s) else begin s)
      by true e =
          let room = room_for (may_close s.phase) (not s.closing) (nat_lt (length s.given) (s.acked + 128)) (nat_lt (length s.given) count_end) e in
          let more : State = record s { given = s.given ++ p ∷ [] } in
          good_fill now (begin more) (begun more (more_given p s (grind (arith, nat_tests, room.0)) (grind (arith, nat_tests, room.1)) a x))
      by false e = begun s x
  good_step now s (Arrive f) a x = good_arrive s.phase now f (begin (record s { last_arrival = now })) a (begun s x)
  good_step now s Tick a x = good_tick now (begin s) (begun s x)
  good_step now s Close a x =
      good_if (may_close s.phase) (close_in_turn now (begin s)) (begin s) (good_finish now (begin (record s { closing = true })) (begun s x)) (begun s x)
  good_step now s Take a x =
      let rest : State = record s { inbox = drop 1 s.inbox } in
      let y : Good (begin rest) = ((with_rest (stock s) x.0, record { given = x.1.given; received = x.1.received; inbox = each_drop (Has came) s.inbox x.1.inbox; early = x.1.early }), tt) in
      good_if (is_up s.phase && busy s) (resume (begin rest)) (begin rest) (good_resumed (begin rest) y) y
