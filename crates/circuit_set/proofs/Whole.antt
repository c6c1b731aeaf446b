-- A circuit over every schedule.
use Rattle.std.specs.Prelude.{◌≡◌, ℕ, zero, suc, ◌+◌, ◌*◌, ◌≤◌, ◌<◌, min, List, [], ◌∷◌, ◌++◌, length, take, drop, replicate, slice_get, Contains, Option, Some, None, refl}
use Rattle.std.proofs.Common.{sym, ◌∙◌, ap, subst, inl, inr, arith, take-append-drop}
use Rattle.std.proofs.lemmas.List.{take_all, take-take}
use Rattle.radio_base.specs.declared.modulus.TheConstants.{COUNT_MAX}
use Rattle.ax_address.specs.Callsign.{Callsign}
use Rattle.circuit_reassembly.specs.Fragments.{Fragment}
use Rattle.circuit_l4.specs.declared.pair.Pair.{Pair}
use Rattle.circuit_l4.specs.declared.transport.Transport.TheVariants.{Request, Accept, Refuse, Disconnect, Disconnected, Info, InfoAck}
use Rattle.circuit_l4.specs.declared.config.EndConfig.{EndConfig}
use Rattle.circuit_l4.specs.declared.phase.EndPhase.{EndPhase}
use Rattle.circuit_l4.specs.declared.phase.EndPhase.TheVariants.{Connecting, Up, Closing, Ended}
use Rattle.circuit_l4.specs.declared.notice.EndNotice.TheVariants.{Opened, Closed, ClosedByPartner}
use Rattle.circuit_l4.specs.declared.role.Role.TheVariants.{Responder}
use Rattle.circuit_l4.specs.State.{begin, Sending, fragments_of_all, total, Receiving}
use Rattle.circuit_l4.specs.Table.{Input, Write, Arrive, Tick, Close, Take, common_window, arrive_in}
use Rattle.circuit_l4.specs.Opening.{unheard, unwritten}
use Rattle.circuit_set.specs.Lines.{Elem, Known}
use Rattle.circuit_set.specs.Heaps.{Heap, AreMessages, gather, nothing}
use Rattle.circuit_set.specs.Safe.{IsBeginning, wholes}
use Rattle.circuit_set.specs.Ways.{DirectionOk, EarlyIn, Holds, early_numbers, line}
use Rattle.circuit_set.specs.Circuits.{AllAcked, Circuit, ComesInTime, Event, Left, Right, To_left, To_right, Accepts, EventInTime, Facts, Flight, InTimeAll, IsCall, OutFact, PairOk, SafeTo, Side, accepts_again, after_event, comes, does, new_circuit, run}
use Rattle.circuit_set.proofs.Gathers.{gather_prefix, gathering_of, wholes_all, wholes_grow}
use Rattle.circuit_set.proofs.Keeps.{Grows, mine_kept, theirs_kept, told_before}
use Rattle.circuit_set.proofs.Rows.{Keeps, closes, nothing_comes, one_note, takes, ticks, writes}
use Rattle.circuit_set.proofs.Comes.{arrives, refusal_comes}

-- ---- steps ----
request_comes : (p : EndPhase) (w now : ℕ) (x y : Side) (pair : Pair) (window : ℕ) (user node : Callsign) → x.e.phase ≡ p → PairOk w x y
    → Keeps w x y (arrive_in p now (Request pair window user node) (begin x.e))
request_comes Connecting w now x y pair window user node e k = nothing_comes w x y k
request_comes Up w now x y pair window user node e k = nothing_comes w x y k
request_comes Closing w now x y pair window user node e k = nothing_comes w x y k
request_comes Ended w now x y pair window user node e k = nothing_comes w x y k

-- a call of x keeps the circuit
pub does_ok : (w : ℕ) (x y : Side) (i : Input) (now : ℕ) → IsCall i → PairOk w x y → PairOk w (does x y i now) y
does_ok w x y (Write m) now call k = writes x.e.phase w (min now COUNT_MAX) m x y refl k
does_ok w x y Tick now call k = ticks w (min now COUNT_MAX) x y k
does_ok w x y Close now call k = closes w (min now COUNT_MAX) x y k
does_ok w x y Take now call k = takes w x y k
does_ok w x y (Arrive (Refuse to)) now call k = refusal_comes x.e.phase w (min now COUNT_MAX) x y to refl k
does_ok w x y (Arrive (Request pair window user node)) now call k = request_comes x.e.phase w (min now COUNT_MAX) x y pair window user node refl k
does_ok w x y (Arrive (Accept to own window)) now call k = absurd call
does_ok w x y (Arrive (Disconnect to)) now call k = absurd call
does_ok w x y (Arrive (Disconnected to)) now call k = absurd call
does_ok w x y (Arrive (Info to tx rx flags text)) now call k = absurd call
does_ok w x y (Arrive (InfoAck to rx flags)) now call k = absurd call

-- each sending that is found is one with its facts
nth_fact : (w : ℕ) (x y : Side) (ss : List Flight) (k : ℕ) (s : Flight) → Facts w x y ss → slice_get ss k ≡ Some s → OutFact w x y s s.out s.number
nth_fact w x y [] k s f h = cc
nth_fact w x y (t ∷ ss) zero s f h = let e : t ≡ s = cc in subst (λ u. OutFact w x y u u.out u.number) e f.0
nth_fact w x y (t ∷ ss) (suc k) s f h = nth_fact w x y ss k s f.1 h

comes_case : (w a now : ℕ) (x y : Side) (k : ℕ) (o : Option Flight) → slice_get y.outs k ≡ o → 2 * w + a ≤ 256 → PairOk w x y → ComesInTime a x y o → PairOk w (comes x y o now) y
comes_case w a now x y k None e fit ok time = ok
comes_case w a now x y k (Some s) e fit ok time = arrives x.e.phase s.out s.number w a (min now COUNT_MAX) x y s refl fit ok (nth_fact w y x y.outs k s ok.theirs e) time

-- a timely arrival of anything that the partner ever put out keeps the circuit
pub comes_ok : (w a now : ℕ) (x y : Side) (k : ℕ) → 2 * w + a ≤ 256 → PairOk w x y → ComesInTime a x y (slice_get y.outs k) → PairOk w (comes x y (slice_get y.outs k) now) y
comes_ok w a now x y k fit ok time = comes_case w a now x y k (slice_get y.outs k) refl fit ok time

pub turned : (w : ℕ) (x y : Side) → PairOk w x y → PairOk w y x
turned w x y k = record {
  out = k.back;
  back = k.out;
  mine = k.theirs;
  theirs = k.mine;
  end_mine = k.end_theirs;
  end_theirs = k.end_mine;
  shut_mine = k.shut_theirs;
  shut_theirs = k.shut_mine;
}

-- the Accept again
pub accepts_ok : (w : ℕ) (x y : Side) → x.e.role ≡ Responder → PairOk w x y → PairOk w (accepts_again x y) y
accepts_ok w x y role k =
    let z : Side = accepts_again x y in
    let grows : Grows x z = record { sent = omega arith; got = omega arith; frags = λ n f e. e; shut = λ h. h } in
    record {
      out = k.out;
      back = k.back;
      mine = (k.end_mine.answers role, mine_kept w x z y x.outs grows k.mine);
      theirs = theirs_kept w x z y y.outs grows k.theirs;
      end_mine = k.end_mine;
      end_theirs = k.end_theirs;
      shut_mine = record {
        closing = k.shut_mine.closing;
        closed = λ c. told_before x.notes [] Closed (AllAcked x.e) k.shut_mine.closed (λ h. let below : h.0 < 0 = h.1 in absurd (omega arith)) c;
        told = k.shut_mine.told;
      };
      shut_theirs = record {
        closing = k.shut_theirs.closing;
        closed = k.shut_theirs.closed;
        told = λ c. told_before x.notes [] ClosedByPartner (AllAcked y.e) k.shut_theirs.told (λ h. let below : h.0 < 0 = h.1 in absurd (omega arith)) c;
      };
    }

pub after_ok : (w a : ℕ) (c : Circuit) (e : Event) → 2 * w + a ≤ 256 → PairOk w c.left c.right → EventInTime a c e → PairOk w (after_event c e).left (after_event c e).right
after_ok w a c (Left i now) fit k time = does_ok w c.left c.right i now time k
after_ok w a c (Right i now) fit k time = turned w (does c.right c.left i now) c.left (does_ok w c.right c.left i now time (turned w c.left c.right k))
after_ok w a c (To_left n now) fit k time = comes_ok w a now c.left c.right n fit k time
after_ok w a c (To_right n now) fit k time =
    turned w (comes c.right c.left (slice_get c.left.outs n) now) c.left (comes_ok w a now c.right c.left n fit (turned w c.left c.right k) time)
after_ok w a c Accepts fit k time = turned w (accepts_again c.right c.left) c.left (accepts_ok w c.right c.left time (turned w c.left c.right k))

pub run_ok : (es : List Event) (w a : ℕ) (c : Circuit) → 2 * w + a ≤ 256 → PairOk w c.left c.right → InTimeAll a es c → PairOk w (run es c).left (run es c).right
run_ok [] w a c fit k time = k
run_ok (e ∷ es) w a c fit k time = run_ok es w a (after_event c e) fit (after_ok w a c e fit k time.0) time.1

-- ---- the opening ----
pub no_early : (m k n : ℕ) → Elem m (early_numbers k (replicate n None)) → ⊥
no_early m k zero h = h
no_early m k (suc n) h = no_early m (suc k) n h

pub early_none : (all : List Fragment) (k n : ℕ) → EarlyIn all k (replicate n None)
early_none all k zero = tt
early_none all k (suc n) = early_none all (suc k) n

new_known : (n window : ℕ) → Known (line unwritten (unheard window) []) n → (n < 0) × Elem n []
new_known n window (inl k) = absurd (omega arith)
new_known n window (inr k) = absurd (no_early n 0 window k)

pub new_direction : (w window : ℕ) → DirectionOk w unwritten (unheard window) []
new_direction w window = record {
  acked_sent = omega arith;
  written = omega arith;
  infos = record { window = omega arith; known = λ n k. new_known n window k; got_sent = omega arith };
  below = omega arith;
  holds = record { gathered = refl; fits = omega arith; early = early_none [] 0 window };
  gathering = gathering_of [] tt;
}

no_note : (P : Type 0) → Contains [] Closed → P
no_note P h = let below : h.0 < 0 = h.1 in absurd (omega arith)

pub opened_ok : (pair partner : Pair) (user node : Callsign) (config own : EndConfig) (asked now : ℕ) → 1 ≤ config.window → 1 ≤ own.window
    → PairOk (common_window own.window config.window) (new_circuit pair partner user node config own asked now).left (new_circuit pair partner user node config own asked now).right
opened_ok pair partner user node config own asked now some more =
    let w : ℕ = common_window own.window config.window in
    record {
      out = new_direction w own.window;
      back = new_direction w config.window;
      mine = (tt, tt);
      theirs = (refl, tt);
      end_mine = record { up = λ h. cc; answers = λ h. cc; idle = λ h. refl; fits = omega arith; good = tt };
      end_theirs = record { up = λ h. refl; answers = λ h. refl; idle = λ h. cc; fits = omega arith; good = tt };
      shut_mine = record {
        closing = λ h. cc;
        closed = λ h. let below : h.0 < 0 = h.1 in absurd (omega arith);
        told = λ h. absurd (one_note (Opened w) ClosedByPartner (λ e. cc) h);
      };
      shut_theirs = record {
        closing = λ h. cc;
        closed = λ h. absurd (one_note (Opened w) Closed (λ e. cc) h);
        told = λ h. let below : h.0 < 0 = h.1 in absurd (omega arith);
      };
    }

-- ---- Safe ----
whole_of : Option Heap → List (List ℕ)
whole_of None = []
whole_of (Some h) = h.whole

-- what was received is the messages that lie wholly below got
received_is : (ms : List (List ℕ)) (r : Receiving) → AreMessages ms → Holds (fragments_of_all ms) r → r.received ≡ take (wholes ms r.got) ms
unfolding whole_of
received_is ms r good holds =
    let p : (on : List ℕ) × (gather nothing (take r.got (fragments_of_all ms)) ≡ Some (record { whole = [] ++ take (wholes ms r.got) ms; held = on })) = gather_prefix ms r.got [] good in
    ap whole_of (sym holds.gathered ∙ p.1)

begins_with : (n : ℕ) (xs ys : List (List ℕ)) → xs ≡ take n ys → IsBeginning xs ys
begins_with n xs ys e = (drop n ys, sym (take-append-drop n ys) ∙ ap (λ zs. zs ++ drop n ys) (sym e))

all_received : (w : ℕ) (k : Sending) (r : Receiving) (heard : List ℕ) → AreMessages k.wrote → DirectionOk w k r heard → k.acked ≡ total k → r.received ≡ k.wrote
all_received w k r heard good d e =
    let low : k.acked ≤ r.got = d.below in
    let j : wholes k.wrote r.got ≡ length k.wrote = wholes_all k.wrote r.got (omega arith) in
    received_is k.wrote r good d.holds ∙ ap (λ n. take n k.wrote) j ∙ take_all (length k.wrote) k.wrote (omega arith)

pub safe_of : (w : ℕ) (x y : Side) → PairOk w x y → SafeTo x y
safe_of w x y k =
    let ms : List (List ℕ) = x.e.sending.wrote in
    let r : Receiving = y.e.receiving in
    let is : r.received ≡ take (wholes ms r.got) ms = received_is ms r k.end_mine.good k.out.holds in
    let j : wholes ms x.e.sending.acked ≤ wholes ms r.got = wholes_grow ms x.e.sending.acked r.got k.out.below in
    record {
      received = begins_with (wholes ms r.got) r.received ms is;
      acked = begins_with (wholes ms x.e.sending.acked) (take (wholes ms x.e.sending.acked) ms) r.received
          (sym (ap (λ xs. take (wholes ms x.e.sending.acked) xs) is ∙ take-take (wholes ms x.e.sending.acked) (wholes ms r.got) ms j));
      closed = λ h. elim h [
        | inl c ↦ all_received w x.e.sending r y.heard k.end_mine.good k.out (k.shut_mine.closed c).0
        | inr c ↦ all_received w x.e.sending r y.heard k.end_mine.good k.out (k.shut_mine.told c).0
      ];
    }

pub circuit_safe : (pair partner : Pair) (user node : Callsign) (config own : EndConfig) (asked now a : ℕ) (es : List Event) → 1 ≤ config.window → 1 ≤ own.window
    → 2 * common_window own.window config.window + a ≤ 256 → InTimeAll a es (new_circuit pair partner user node config own asked now)
    → let c : Circuit = run es (new_circuit pair partner user node config own asked now) in SafeTo c.left c.right × SafeTo c.right c.left
circuit_safe pair partner user node config own asked now a es some more fit time =
    let w : ℕ = common_window own.window config.window in
    let c : Circuit = run es (new_circuit pair partner user node config own asked now) in
    let k : PairOk w c.left c.right = run_ok es w a (new_circuit pair partner user node config own asked now) fit (opened_ok pair partner user node config own asked now some more) time in
    (safe_of w c.left c.right k, safe_of w c.right c.left (turned w c.left c.right k))
