-- Messages of which all fragments are acknowledged, and those behind them.
use Rattle.std.proofs.Common.{◌≡◌, ℕ, ◌+◌, ◌-◌, ◌≤◌, ◌<◌, List, [], ◌∷◌, ◌++◌, length, true, false, nat_le, refl, ap, sym, ◌∙◌, arith, append_assoc, length-append}
use Rattle.std.proofs.lemmas.Bool.Decides.{nat_tests}
use Rattle.std.proofs.lemmas.Grind.{div_ceil_times}
use Rattle.radio_base.specs.declared.modulus.TheConstants.{COUNT_MAX}
use Rattle.circuit_reassembly.specs.Fragments.{fragments_in, fragments_of}
use Rattle.circuit_l4.specs.State.{Sending, bytes_of, fragments_of_all, unacknowledged, unacknowledged_of, written}
use Rattle.circuit_l4.specs.Halves.{Outbox, IsSending}
use Rattle.circuit_l4.specs.Forgetting.{Forgets, ForgetsFirst, IsUnder}
use Rattle.circuit_l4.specs.Outboxes.{IsOutbox}

-- ---- messages one behind the other ----
pub all-append : (ms ns : List (List ℕ)) → fragments_of_all (ms ++ ns) ≡ fragments_of_all ms ++ fragments_of_all ns
all-append [] ns = refl
all-append (m ∷ ms) ns = rw (all-append ms ns, append_assoc) refl

many-append : (ms ns : List (List ℕ)) → length (fragments_of_all (ms ++ ns)) ≡ length (fragments_of_all ms) + length (fragments_of_all ns)
many-append ms ns = rw (all-append ms ns) (length-append (fragments_of_all ms) (fragments_of_all ns))

bytes-append : (ms ns : List (List ℕ)) → bytes_of (ms ++ ns) ≡ bytes_of ms + bytes_of ns
bytes-append [] ns = omega arith
bytes-append (m ∷ ms) ns = omega (arith, bytes-append ms ns)

-- ---- what isn't acknowledged ----
-- from the queue on all bytes count
under : (done : ℕ) (queue : List (List ℕ)) → IsUnder done queue → unacknowledged_of done queue ≡ bytes_of queue
under done [] h = refl
under done (m ∷ ms) h = let more : nat_le (length (fragments_of m)) done ≡ false = grind (arith, nat_tests) in rw more refl

behind : (before queue : List (List ℕ)) (done : ℕ) → unacknowledged_of (length (fragments_of_all before) + done) (before ++ queue) ≡ unacknowledged_of done queue
behind [] queue done = ap (λ n. unacknowledged_of n queue) (omega arith)
behind (m ∷ ms) queue done =
    let many : length (fragments_of m ++ fragments_of_all ms) ≡ length (fragments_of m) + length (fragments_of_all ms) = length-append (fragments_of m) (fragments_of_all ms) in
    let all : nat_le (length (fragments_of m)) ((length (fragments_of m) + length (fragments_of_all ms)) + done) ≡ true = grind (arith, nat_tests) in
    let rest : ((length (fragments_of m) + length (fragments_of_all ms)) + done) - length (fragments_of m) ≡ length (fragments_of_all ms) + done = omega arith in
    rw (many, all, rest) (behind ms queue done)

pub unacked : (o : Outbox) (s : Sending) → IsOutbox o → IsSending o s → bytes_of o.queue ≡ unacknowledged s
unacked o s k h = sym (rw (h.wrote, h.places) (behind h.before o.queue o.done ∙ under o.done o.queue k.first))

-- ---- messages are forgotten ----
-- so far, messages were forgotten with their fragments
abbrev pub Forgot : List (List ℕ) → ℕ → List (List ℕ) → ℕ → Type 0
Forgot old done new left = (before : List (List ℕ)) × (old ≡ before ++ new) × (done ≡ length (fragments_of_all before) + left)

pub one_more : (old middle new : List (List ℕ)) (done kept left : ℕ) → Forgot old done middle kept → ForgetsFirst true middle kept new left → Forgot old done new left
one_more old middle new done kept left f g =
    (f.0 ++ g.0 ∷ [], f.1 ∙ ap (λ ms. f.0 ++ ms) g.1 ∙ sym (append_assoc f.0 (g.0 ∷ []) new), omega (arith, f.2, g.2, many-append f.0 (g.0 ∷ []), length-append (fragments_of g.0) []))

abbrev moved : Outbox → List (List ℕ) → ℕ → ℕ → Outbox
moved o queue done below = record o { queue = queue; done = done; acked = below }

pub still_kept : (o : Outbox) (queue : List (List ℕ)) (done below : ℕ) → o.acked ≤ below → below ≤ o.sent → Forgets o.queue (o.done + (below - o.acked)) queue done →
    IsOutbox o → IsOutbox (moved o queue done below)
still_kept o queue done below from to f k =
    let many : length (fragments_of_all o.queue) ≡ length (fragments_of_all f.before) + length (fragments_of_all queue) = ap (λ ms. length (fragments_of_all ms)) f.queue ∙ many-append f.before queue in
    record {
      acked = to;
      sent = k.sent;
      total = k.total;
      wrote = k.wrote;
      done = omega (arith, f.fragments, k.done);
      first = f.first;
      places = omega (arith, many, f.fragments, k.places);
      most = omega (arith, ap bytes_of f.queue ∙ bytes-append f.before queue, k.most);
    }

pub still_stands : (o : Outbox) (queue : List (List ℕ)) (done below : ℕ) (s : Sending) → o.acked ≤ below → Forgets o.queue (o.done + (below - o.acked)) queue done →
    IsSending o s → IsSending (moved o queue done below) (record s { acked = below })
still_stands o queue done below s from f h = record {
  before = h.before ++ f.before;
  wrote = h.wrote ∙ ap (λ ms. h.before ++ ms) f.queue ∙ sym (append_assoc h.before f.before queue);
  count = h.count;
  total = h.total;
  acked = refl;
  sent = h.sent;
  places = omega (arith, many-append h.before f.before, h.places, h.acked, f.fragments);
}

-- ---- a message is written ----
abbrev added : Outbox → List (List ℕ) → ℕ → Outbox
added o queue many = record o { queue = queue; wrote = o.wrote + 1; total = o.total + many }

-- a message with bytes has fragments
pub some_fragments : (message : List ℕ) (many : ℕ) → 0 < length message → many ≡ fragments_in (length message) → many ≡ length (fragments_of message) →
    0 < length (fragments_of message)
some_fragments message many some value counted = let times = div_ceil_times (length message) 236 (omega arith) in omega (arith, times.0, value, counted, some)

under-more : (done : ℕ) (queue : List (List ℕ)) (message : List ℕ) → IsUnder done queue → (queue ≡ [] → done < length (fragments_of message)) → IsUnder done (queue ++ message ∷ [])
under-more done [] message h n = n refl
under-more done (m ∷ ms) message h n = h

pub added_kept : (o : Outbox) (message : List ℕ) (queue : List (List ℕ)) (many : ℕ) → 0 < length (fragments_of message) → bytes_of o.queue + length message ≤ 65536 →
    o.total + length (fragments_of message) ≤ COUNT_MAX →
    queue ≡ o.queue ++ message ∷ [] → many ≡ length (fragments_of message) → IsOutbox o → IsOutbox (added o queue many)
added_kept o message queue many has fits room e n k =
    let all : length (fragments_of_all queue) ≡ length (fragments_of_all o.queue) + length (fragments_of message) =
    ap (λ ms. length (fragments_of_all ms)) e ∙ many-append o.queue (message ∷ []) ∙ omega (arith, length-append (fragments_of message) []) in
    record {
      acked = k.acked;
      sent = omega (arith, k.sent);
      total = omega (arith, n, room);
      wrote = omega (arith, k.wrote, n, has);
      done = k.done;
      first = rw e (under-more o.done o.queue message k.first (λ empty. omega (arith, has, k.places, k.acked, k.sent, ap (λ ms. length (fragments_of_all ms)) empty)));
      places = omega (arith, k.places, all, n);
      most = rw (e, bytes-append) (omega (arith, fits));
    }

pub added_stands : (o : Outbox) (message : List ℕ) (queue : List (List ℕ)) (many : ℕ) (s : Sending) → queue ≡ o.queue ++ message ∷ [] → many ≡ length (fragments_of message) →
    IsSending o s → IsSending (added o queue many) (written message s)
added_stands o message queue many s e n h = record {
  before = h.before;
  wrote = ap (λ ms. ms ++ message ∷ []) h.wrote ∙ append_assoc h.before o.queue (message ∷ []) ∙ ap (λ ms. h.before ++ ms) (sym e);
  count = omega (arith, h.count, length-append s.wrote (message ∷ []));
  total = omega (arith, h.total, n, many-append s.wrote (message ∷ []), length-append (fragments_of message) []);
  acked = h.acked;
  sent = h.sent;
  places = h.places;
}
