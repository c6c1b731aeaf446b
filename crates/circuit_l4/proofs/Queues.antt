-- A message more in a queue.
use Rattle.std.proofs.Common.{◌≡◌, ℕ, ◌+◌, ◌-◌, ◌<◌, ◌≤◌, List, [], ◌∷◌, ◌++◌, length, take, drop, slice_get, Some, refl, ap, sym, ◌∙◌, arith, length-append, length-drop}
use Rattle.std.proofs.lemmas.List.{take_all, take-append-le, drop-append-le, length-take-le}
use Rattle.std.specs.Option.{option_map}
use Rattle.circular_buffer.specs.Buffer.{Buffer, buffer, keep_last}
use Rattle.circuit_l4.specs.State.{bytes_of}
use Rattle.circuit_l4.specs.Queued.{IsQueue, Lengths, Queue, cut}

pub bytes_of-cut : (lengths bytes : List ℕ) → Lengths lengths (length bytes) → bytes_of (cut lengths bytes) ≡ length bytes
bytes_of-cut [] bytes h = sym h
bytes_of-cut (n ∷ lengths) bytes h =
    let rest : bytes_of (cut lengths (drop n bytes)) ≡ length (drop n bytes) = bytes_of-cut lengths (drop n bytes) (rw (length-drop n bytes) (h.3)) in
    let first : length (take n bytes) ≡ n = length-take-le n bytes (h.2) in
    rw (first, rest, length-drop n bytes) (omega (arith, h.2))

-- no message is empty, so there are at most as many as bytes
few : (lengths : List ℕ) (held : ℕ) → Lengths lengths held → length lengths ≤ held
few [] held h = omega arith
few (n ∷ lengths) held h = omega (arith, few lengths (held - n) (h.3), h.0, h.2)

one_more : (lengths : List ℕ) (held n : ℕ) → Lengths lengths held → 0 < n → n ≤ 8192 → Lengths (lengths ++ n ∷ []) (held + n)
one_more [] held n h some most = (some, most, omega arith, omega (arith, h))
one_more (k ∷ lengths) held n h some most =
    let e : held + n - k ≡ held - k + n = omega (arith, h.2) in
    (h.0, h.1, omega (arith, h.2), rw e (one_more lengths (held - k) n (h.3) some most))

cut_more : (lengths bytes message : List ℕ) → Lengths lengths (length bytes) → cut (lengths ++ length message ∷ []) (bytes ++ message) ≡ cut lengths bytes ++ message ∷ []
cut_more [] [] message h = ap (λ m. m ∷ []) (take_all (length message) message (omega arith))
cut_more [] (b ∷ bytes) message h = absurd (omega (arith, h))
cut_more (n ∷ lengths) bytes message h =
    let fits : n ≤ length bytes = h.2 in
    rw (take-append-le n bytes message fits, drop-append-le n bytes message fits)
    (ap (λ ms. take n bytes ∷ ms) (cut_more lengths (drop n bytes) message (rw (length-drop n bytes) (h.3))))

pub keep_all : {X : Type 0} (xs : List X) (n : ℕ) → length xs ≤ n → keep_last n xs ≡ xs
keep_all xs n h = let z : length xs - n ≡ 0 = omega arith in rw z refl

abbrev queue_of : Buffer ℕ → Buffer ℕ → Queue
queue_of bytes lengths = record { messages = cut lengths.items bytes.items; room = bytes.capacity }

-- a queue after a message was put behind the others
pub record Pushed (before : Queue) (message : List ℕ) (bytes lengths : Buffer ℕ) : Type 0 where
  pub is_queue : IsQueue bytes lengths
  pub view : queue_of bytes lengths ≡ record before { messages = before.messages ++ message ∷ [] }

pub pushed : (bytes lengths new_bytes new_lengths : Buffer ℕ) (message : List ℕ) (before : Queue) → IsQueue bytes lengths →
    queue_of bytes lengths ≡ before → 0 < length message → length message ≤ 8192 → bytes_of before.messages + length message ≤ before.room →
    new_bytes ≡ buffer (keep_last bytes.capacity (bytes.items ++ message)) bytes.capacity →
    new_lengths ≡ buffer (keep_last lengths.capacity (lengths.items ++ length message ∷ [])) lengths.capacity →
    Pushed before message new_bytes new_lengths
pushed bytes lengths new_bytes new_lengths message before q view some most room b l =
    let held : bytes_of before.messages ≡ length bytes.items = ap (λ (k : Queue). bytes_of k.messages) (sym view) ∙ bytes_of-cut lengths.items bytes.items q.cuts in
    let capacity : before.room ≡ bytes.capacity = ap (λ (k : Queue). k.room) (sym view) in
    let all : length (bytes.items ++ message) ≡ length bytes.items + length message = length-append bytes.items message in
    let count : length (lengths.items ++ length message ∷ []) ≡ length lengths.items + 1 = length-append lengths.items (length message ∷ []) in
    let at_most = few lengths.items (length bytes.items) q.cuts in
    let all_bytes = keep_all (bytes.items ++ message) bytes.capacity (omega (arith, all, held, room, capacity)) in
    let all_lengths = keep_all (lengths.items ++ length message ∷ []) lengths.capacity (omega (arith, count, at_most, held, room, some, capacity, q.room)) in
    rw (b, l, all_bytes, all_lengths)
    (record {
      is_queue = record {
        room = q.room;
        small = q.small;
        fits = omega (arith, all, held, room, capacity);
        cuts = rw all (one_more lengths.items (length bytes.items) (length message) q.cuts some most);
      };
      view = ap (λ ms. record { messages = ms; room = bytes.capacity }) (cut_more lengths.items bytes.items message q.cuts) ∙ ap (λ (k : Queue). record k { messages = k.messages ++ message ∷ [] }) view;
    })

-- the first message has the first length
pub first_length : (lengths bytes : List ℕ) → Lengths lengths (length bytes) → option_map length (slice_get (cut lengths bytes) 0) ≡ slice_get lengths 0
first_length [] bytes h = refl
first_length (n ∷ lengths) bytes h = ap Some (length-take-le n bytes (h.2))
