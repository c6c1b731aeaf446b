-- The steps of which the rows of the link's table are made.
use Rattle.std.specs.Prelude.{ℕ, zero, suc, ◌+◌, ◌-◌, ◌%◌, min, Bool, true, false, not, ◌&&◌, ◌||◌, nat_eq, nat_lt, nat_le, if◌then◌else◌, List, [], ◌∷◌, ◌++◌, length, drop, replicate, slice_get, slice_set, Option, Some, None}
use Rattle.radio_base.specs.declared.payload.Payload.{Payload}
use Rattle.radio_base.specs.Modulus.{place_of}
use Rattle.ax_link.specs.declared.phase.LinkPhase.{LinkPhase}
use Rattle.ax_link.specs.declared.phase.LinkPhase.TheVariants.{Releasing}
use Rattle.ax_link.specs.declared.notice.LinkNotice.{LinkNotice}
use Rattle.ax_link.specs.declared.kind.Kind.{Kind}
use Rattle.ax_link.specs.declared.kind.Kind.TheVariants.{I, Rr, Rnr, Rej, Srej, Disc}
use Rattle.ax_link.specs.State.{Frame, State, Effect, count_end, wire, busy, high, ack_place, is_up, update_t1, places, restart_t1}

-- how many payloads Fill puts out
abbrev pub fill_count : State → ℕ
fill_count s =
    if is_up s.phase && not (s.polling || s.peer_busy)
    then min ((s.acked + s.rules.window) - s.sent) (length s.given - s.sent)
    else 0

abbrev pub emit : Bool → Kind → Effect → Effect
emit command kind g = record g { outs = g.outs ++ record { command = command; kind = kind; payload = None } ∷ [] }

abbrev pub rr : State → Bool → Kind
rr s pf = if busy s then Rnr (wire s (length s.received)) pf else Rr (wire s (length s.received)) pf

-- I frames for many numbers from n on
abbrev pub frames_of : ℕ → ℕ → List Payload → ℕ → ℕ → List Frame
frames_of size got given n zero = []
frames_of size got given n (suc many) = record { command = true; kind = I (n % size) (got % size) false; payload = slice_get given n } ∷ frames_of size got given (suc n) many

abbrev pub frames : State → ℕ → ℕ → List Frame
frames s n many = frames_of s.rules.size (length s.received) s.given n many

-- SREJ with F 0 for many numbers from n on
abbrev pub asks_of : ℕ → ℕ → ℕ → List Frame
asks_of size n zero = []
asks_of size n (suc many) = record { command = false; kind = Srej (n % size) false; payload = None } ∷ asks_of size (suc n) many

abbrev pub asks : State → ℕ → ℕ → List Frame
asks s n many = asks_of s.rules.size n many

abbrev pub to_phase : ℕ → LinkPhase → Effect → Effect
to_phase now phase g = record g { link = update_t1 now g.link (record g.link { phase = phase }) }

abbrev pub note : LinkNotice → Effect → Effect
note n g = record g { notes = g.notes ++ n ∷ [] }

abbrev pub reset : ℕ → Effect → Effect
reset now g = record g {
  link = update_t1 now g.link (record g.link {
    given = [];
    acked = 0;
    sent = 0;
    received = [];
    early = replicate (places g.link.rules) None;
    inbox = [];
    tries = 0;
    polling = false;
    peer_busy = false;
    rej_sent = false;
  });
}

abbrev pub emit_timed : ℕ → Bool → Kind → Effect → Effect
emit_timed now command kind g = let h = emit command kind g in record h { link = restart_t1 now h.link }

abbrev pub fill : ℕ → Effect → Effect
fill now g =
    let many : ℕ = fill_count g.link in
    record g {
      link = update_t1 now g.link (record g.link { sent = g.link.sent + many });
      outs = g.outs ++ frames g.link g.link.sent many;
    }

abbrev pub release : ℕ → Effect → Effect
release now g = emit_timed now true (Disc true) (to_phase now Releasing (record g { link = record g.link { tries = 0 } }))

abbrev pub finish : ℕ → Effect → Effect
finish now g = if is_up g.link.phase && g.link.closing && nat_eq g.link.acked (length g.link.given) then release now g else g

abbrev pub again : ℕ → Effect → Effect
again now g = record g { link = restart_t1 now g.link; outs = g.outs ++ frames g.link g.link.acked (g.link.sent - g.link.acked) }

abbrev pub acknowledge : ℕ → ℕ → Effect → Effect
acknowledge now x g =
    if nat_lt g.link.acked x
    then record g { link = restart_t1 now (update_t1 now g.link (record g.link { acked = x; tries = 0 })) }
    else g

abbrev pub hold : ℕ → Bool → Effect → Effect
hold now b g = record g { link = update_t1 now g.link (record g.link { peer_busy = b }) }

abbrev pub await_final : ℕ → Effect → Effect
await_final now g = record g { link = update_t1 now g.link (record g.link { polling = true }) }

abbrev pub start_poll : ℕ → Effect → Effect
start_poll now g = emit_timed now true (rr (await_final now g).link true) (await_final now g)

abbrev pub end_poll : ℕ → Effect → Effect
end_poll now g = record g { link = update_t1 now g.link (record g.link { polling = false; tries = 0 }) }

-- payload number got is taken; what came early is one place nearer
abbrev pub take_next : Payload → State → State
take_next p s = record s { received = s.received ++ p ∷ []; inbox = s.inbox ++ p ∷ []; early = drop 1 (s.early ++ None ∷ []) }

-- the early payload that is next, where it may be taken
abbrev pub first_early : List (Option Payload) → Option Payload
first_early [] = None
first_early (p ∷ e) = p

abbrev pub next_early : State → Option Payload
next_early s = if busy s || nat_le count_end (length s.received) then None else first_early s.early

-- early payloads follow while they are next and the inbox isn't full; the count is the length of early
abbrev pub follow_by : ℕ → State → State
follow_by zero s = s
follow_by (suc k) s = elim (next_early s) as (λ x. State) [ None ↦ s | Some p ↦ follow_by k (take_next p s) ]

abbrev pub follow : State → State
follow s = follow_by (length s.early) s

-- an end that was busy goes on: early payloads follow, and the other end is told
abbrev pub resume : Effect → Effect
resume g = emit false (rr (follow g.link) false) (record g { link = follow g.link })

abbrev pub resupply : ℕ → Bool → Bool → Bool → Effect → Effect
resupply now ends rej unpolled g =
    if ends then again now (end_poll now g) else if rej && unpolled then again now g else g

-- Fill, then Finish
abbrev pub supply : ℕ → Effect → Effect
supply now g = finish now (fill now g)

abbrev pub answer_poll : Bool → Effect → Effect
answer_poll poll g = if poll then emit false (rr g.link true) g else g

abbrev pub supply_again : ℕ → Bool → Bool → Effect → Effect
supply_again now final rej g = resupply now (final && g.link.polling) rej (not g.link.polling) g

-- RR, RNR, REJ: rnr and rej tell which; x is the place of N(R)
abbrev pub supervisory_at : ℕ → Bool → Bool → Bool → Bool → ℕ → Effect → Effect
supervisory_at now command rnr rej pf x g =
    supply now (supply_again now (not command && pf) rej (answer_poll (command && pf) (hold now rnr (acknowledge now x g))))

abbrev pub on_supervisory : ℕ → Bool → Bool → Bool → Bool → ℕ → Effect → Effect
on_supervisory now command rnr rej pf nr g =
    elim (ack_place g.link nr) as (λ x. Effect) [ None ↦ g | Some x ↦ supervisory_at now command rnr rej pf x g ]

-- an SREJ with F 1, x being the place of N(R)
abbrev pub srej_at : ℕ → ℕ → Effect → Effect
srej_at now x g =
    let h = end_poll now (acknowledge now x g) in
    supply now (record h { outs = h.outs ++ frames h.link x (min 1 (h.link.sent - x)) })

abbrev pub on_srej : ℕ → Bool → ℕ → Effect → Effect
on_srej now false nr g =
    elim (place_of g.link.rules.size nr g.link.acked (g.link.sent - g.link.acked)) as (λ x. Effect)
    [ None ↦ g | Some y ↦ record g { outs = g.outs ++ frames g.link y 1 } ]
on_srej now true nr g = elim (ack_place g.link nr) as (λ x. Effect) [ None ↦ g | Some x ↦ srej_at now x g ]

-- the answer after a payload was taken
abbrev pub answer_text : Bool → Effect → Effect
answer_text pf g = if pf || (busy g.link || nat_eq (fill_count g.link) 0) then emit false (rr g.link pf) g else g

abbrev pub take_in : Bool → State → Effect → Effect
take_in pf s g = answer_text pf (record g { link = s })

abbrev pub ask : Bool → Effect → Effect
ask pf g = emit false (Rej (wire g.link (length g.link.received)) pf) (record g { link = record g.link { rej_sent = true } })

-- a payload that isn't the next one: the next one is asked for, once
abbrev pub ask_again : Bool → Effect → Effect
ask_again pf g = if not g.link.rej_sent then ask pf g else if pf then emit false (rr g.link true) g else g

abbrev pub text_plain : Bool → ℕ → Payload → Effect → Effect
text_plain pf ns p g =
    if nat_eq ns (wire g.link (length g.link.received))
    then take_in pf (record (take_next p g.link) { rej_sent = false }) g
    else ask_again pf g

-- whether this place is there and empty
abbrev pub is_free : Option (Option Payload) → Bool
is_free (Some None) = true
is_free _ = false

-- a payload is kept early, where none is kept in its place
abbrev pub store_early : ℕ → Payload → State → State
store_early i p s = if is_free (slice_get s.early i) then record s { early = slice_set s.early i (Some p) } else s

-- payload number n comes before its turn: what is missing below it and wasn't known to be missing is asked for
abbrev pub text_later : Bool → ℕ → Payload → Effect → Effect
text_later pf n p g =
    answer_poll pf
    (record g { link = store_early (n - length g.link.received) p g.link; outs = g.outs ++ asks g.link (high g.link) (n - high g.link) })

-- payload number n of the window comes
abbrev pub text_at : Bool → ℕ → Payload → Effect → Effect
text_at pf n p g = if nat_lt (length g.link.received) n then text_later pf n p g else take_in pf (follow (take_next p g.link)) g

abbrev pub text_srej : Bool → ℕ → Payload → Effect → Effect
text_srej pf ns p g =
    elim (place_of g.link.rules.size ns (length g.link.received) g.link.rules.window) as (λ x. Effect)
    [ None ↦ emit false (rr g.link pf) g | Some n ↦ text_at pf n p g ]

abbrev pub text : Bool → ℕ → Payload → Effect → Effect
text pf ns p g =
    if nat_le count_end (length g.link.received) then g
    else if busy g.link then emit false (Rnr (wire g.link (length g.link.received)) pf) g
    else if g.link.rules.srej then text_srej pf ns p g
    else text_plain pf ns p g

-- an I frame with a payload, x being the place of N(R)
abbrev pub i_at : ℕ → Bool → ℕ → Payload → ℕ → Effect → Effect
i_at now pf ns p x g = supply now (text pf ns p (acknowledge now x g))

abbrev pub on_i : ℕ → Bool → ℕ → ℕ → Option Payload → Effect → Effect
on_i now pf ns nr None g = g
on_i now pf ns nr (Some p) g = elim (ack_place g.link nr) as (λ x. Effect) [ None ↦ g | Some x ↦ i_at now pf ns p x g ]
