-- What the calls of the receiving half do.
use Rattle.std.proofs.Common.{◌≡◌, ℕ, ◌+◌, ◌-◌, ◌≤◌, Bool, true, false, List, [], ◌∷◌, ◌++◌, length, drop, Option, None, Ok, Err, nat_lt, if◌then◌else◌, refl, ap, sym, ◌∙◌, subst, arith, length-append, length-drop}
use Rattle.std.proofs.lemmas.List.{drop-drop, drop-append-le}
use Rattle.std.proofs.lemmas.Bool.Decides.{nat_tests}
use mir.Val.{bool_byte}
use Rattle.circular_buffer.specs.Buffer.{Buffer, buffer, keep_last}
use Rattle.circuit_reassembly.specs.Fragments.{Answer, More, Whole, Too_long, gather_step}
use Rattle.circuit_reassembly.specs.Kept.{Gathering, still}
use Rattle.circuit_reassembly.specs.declared.gather.Oversize.{Oversize}
use Rattle.circuit_l4.specs.declared.piece.Piece.{Piece}
use Rattle.circuit_l4.specs.State.{bytes_of, Receiving, append, appended, without_first, inbox, with_message}
use Rattle.circuit_l4.specs.declared.incoming.Incoming.TheInside.{Inside}
use Rattle.circuit_l4.specs.Halves.{Inbox, IsReceiving, Takes, whole_answer, with_answer, IsFew}
use Rattle.circuit_l4.specs.Queued.{Queue}
use Rattle.circuit_l4.specs.Inboxes.{IsInbox, inbox_of}
use Rattle.circuit_l4.proofs.Bounds.{early_most, small_nearer}

-- ---- taking ----
-- the first message was taken
pub takes_first : (i : Inbox) (r : Receiving) → IsReceiving i r → nat_lt 0 (length i.messages) ≡ true → IsReceiving (record i { messages = drop 1 i.messages }) (without_first r)
takes_first i r h some =
    let long : length (inbox r) ≡ length r.received - r.taken = length-drop r.taken r.received in
    let same : length i.messages ≡ length (inbox r) = ap length h.messages in
    record {
      got = h.got;
      early = h.early;
      gathered = h.gathered;
      messages = ap (λ ms. drop 1 ms) h.messages ∙ drop-drop 1 r.taken r.received;
      count = h.count;
      taken = grind (arith, nat_tests, long, same, some);
      nak_sent_for = h.nak_sent_for;
    }

-- ---- the next fragment ----
-- the places are full, so that the first one leaves
first_leaves : (early : List (Option Piece)) (room : ℕ) → length early ≡ room → keep_last room (early ++ None ∷ []) ≡ drop 1 (early ++ None ∷ [])
first_leaves early room h =
    let one : length (early ++ None ∷ []) - room ≡ 1 = omega (arith, length-append early (None ∷ []), h) in
    rw one refl

-- the fields once the next fragment, of n bytes, was answered so
abbrev after : Inside → List ℕ × Answer → Bool → ℕ → Inside
after a s whole n =
    record {
      got = a.got + 1;
      early = buffer (drop 1 (a.early.items ++ None ∷ [])) a.early.capacity;
      gather = still s.0;
      inbox = record a.inbox { messages = with_answer s.1 a.inbox.messages };
      received = a.received + bool_byte whole;
      waiting = a.waiting + n;
      nak_sent_for = a.nak_sent_for;
    }

-- the next fragment was appended to what was gathered, and it fitted
record Appends (a b : Inside) (text : List ℕ) (more whole : Bool) : Type 0 where
  pub is : b ≡ after a (gather_step a.gather.held text more) whole (length text)
  pub fits : whole_answer (gather_step a.gather.held text more).1 ≡ Ok whole

counted : (m : List ℕ) (ms : List (List ℕ)) (whole : Bool) → whole_answer (Whole m) ≡ Ok whole → length (with_message m ms) ≡ length ms + bool_byte whole
counted [] ms true h = absurd (cc h)
counted [] ms false h = omega arith
counted (b ∷ bs) ms true h = length-append ms ((b ∷ bs) ∷ [])
counted (b ∷ bs) ms false h = absurd (cc h)

kept_behind : (m : List ℕ) (ms : List (List ℕ)) (n : ℕ) → n ≤ length ms → drop n (with_message m ms) ≡ with_message m (drop n ms)
kept_behind [] ms n h = refl
kept_behind (b ∷ bs) ms n h = drop-append-le n ms ((b ∷ bs) ∷ []) h

longer : (m : List ℕ) (ms : List (List ℕ)) → length ms ≤ length (with_message m ms)
longer [] ms = omega arith
longer (b ∷ bs) ms = omega (arith, length-append ms ((b ∷ bs) ∷ []))

appends_so : (a : Inside) (r : Receiving) (s : List ℕ × Answer) (whole : Bool) (n : ℕ) → IsReceiving (inbox_of a) r → whole_answer s.1 ≡ Ok whole →
    IsReceiving (inbox_of (after a s whole n)) (appended r s).half
appends_so a r (held, More) true n h e = absurd (cc e)
appends_so a r (held, More) false n h e =
    record {
      got = ap (λ m. m + 1) h.got;
      early = ap (λ p. drop 1 (p ++ None ∷ [])) h.early;
      gathered = refl;
      messages = h.messages;
      count = omega (arith, h.count);
      taken = h.taken;
      nak_sent_for = h.nak_sent_for;
    }
appends_so a r (held, Whole m) whole n h e =
    record {
      got = ap (λ m. m + 1) h.got;
      early = ap (λ p. drop 1 (p ++ None ∷ [])) h.early;
      gathered = refl;
      messages = ap (λ ms. with_message m ms) h.messages ∙ sym (kept_behind m r.received r.taken h.taken);
      count = omega (arith, h.count, counted m r.received whole e);
      taken = omega (arith, h.taken, longer m r.received);
      nak_sent_for = h.nak_sent_for;
    }
appends_so a r (held, Too_long) whole n h e = absurd (cc e)

appends : (a b : Inside) (r : Receiving) (text : List ℕ) (more whole : Bool) → Appends a b text more whole → IsReceiving (inbox_of a) r →
    IsReceiving (inbox_of b) (append text more r).half
appends a b r text more whole does h =
    let step : List ℕ × Answer = gather_step a.gather.held text more in
    rw (does.is)
    (subst (λ (g : List ℕ). IsReceiving (inbox_of (after a step whole (length text))) (appended r (gather_step g text more)).half) h.gathered (appends_so a r step whole (length text) h does.fits))

-- ---- how much waits ----
bytes_of-more : (ms : List (List ℕ)) (m : List ℕ) → bytes_of (ms ++ m ∷ []) ≡ bytes_of ms + length m
bytes_of-more [] m = omega arith
bytes_of-more (n ∷ ms) m = omega (arith, bytes_of-more ms m)

bytes_of-with : (m : List ℕ) (ms : List (List ℕ)) → bytes_of (with_message m ms) ≡ bytes_of ms + length m
bytes_of-with [] ms = omega arith
bytes_of-with (b ∷ bs) ms = bytes_of-more ms (b ∷ bs)

abbrev step_at : Bool → Bool → List ℕ → List ℕ → List ℕ × Answer
step_at long more held text = if long then (held, Too_long) else (if more then (held ++ text, More) else ([], Whole (held ++ text)))

bytes_after : (long more : Bool) (held text : List ℕ) (ms : List (List ℕ)) (whole : Bool) → whole_answer (step_at long more held text).1 ≡ Ok whole →
    bytes_of (with_answer (step_at long more held text).1 ms) + length (step_at long more held text).0 ≡ bytes_of ms + length held + length text
bytes_after true more held text ms whole e = absurd (cc e)
bytes_after false true held text ms whole e = omega (arith, length-append held text)
bytes_after false false held text ms whole e = omega (arith, length-append held text, bytes_of-with (held ++ text) ms)

no_fault : (m : List ℕ) (x : Oversize) → whole_answer (Whole m) ≡ Err x → ⊥
no_fault [] x e = cc
no_fault (b ∷ bs) x e = cc

-- what doesn't fit changes nothing
bytes_stay : (long more : Bool) (held text : List ℕ) (ms : List (List ℕ)) (x : Oversize) → whole_answer (step_at long more held text).1 ≡ Err x →
    bytes_of (with_answer (step_at long more held text).1 ms) + length (step_at long more held text).0 ≡ bytes_of ms + length held
bytes_stay true more held text ms x e = refl
bytes_stay false true held text ms x e = absurd (cc e)
bytes_stay false false held text ms x e = absurd (no_fault (held ++ text) x e)

pub unfitted_few : (a : Inside) (text : List ℕ) (more : Bool) (held : Gathering) (messages : Queue) (x : Oversize) → IsInbox a → held ≡ still (gather_step a.gather.held text more).0 →
    messages ≡ record a.inbox { messages = with_answer (gather_step a.gather.held text more).1 a.inbox.messages } → whole_answer (gather_step a.gather.held text more).1 ≡ Err x →
    IsFew (inbox_of (record a { gather = held; inbox = messages }))
unfitted_few a text more held messages x h g m e =
    let bytes = bytes_stay (nat_lt 8192 (length (a.gather.held ++ text))) more a.gather.held text a.inbox.messages x e in
    let gathered = ap (λ (k : Gathering). length k.held) g in
    let inbox = ap (λ (q : Queue). bytes_of q.messages) m in
    record { waits = omega (arith, bytes, gathered, inbox, h.waits, h.most); early = early_most a.early.items h.small }

fewer : (ms : List (List ℕ)) → bytes_of (drop 1 ms) ≤ bytes_of ms
fewer [] = omega arith
fewer (m ∷ ms) = omega arith

-- the first message was taken, or none was there
pub taken_few : (a : Inside) (messages : Queue) → messages ≡ record a.inbox { messages = drop 1 a.inbox.messages } → IsInbox a → IsFew (inbox_of (record a { inbox = messages }))
taken_few a messages m h =
    let inbox = ap (λ (q : Queue). bytes_of q.messages) m in
    record { waits = omega (arith, inbox, fewer a.inbox.messages, h.waits, h.most); early = early_most a.early.items h.small }

at_most_one : (whole : Bool) → bool_byte whole ≤ 1
at_most_one true = omega arith
at_most_one false = omega arith

stays_inbox : (a b : Inside) (text : List ℕ) (more whole : Bool) → Appends a b text more whole → IsInbox a → Takes (inbox_of a) → length text ≤ 236 → IsInbox b
stays_inbox a b text more whole does h t fits =
    let bytes = bytes_after (nat_lt 8192 (length (a.gather.held ++ text))) more a.gather.held text a.inbox.messages whole does.fits in
    let places : length (drop 1 (a.early.items ++ None ∷ [])) ≡ a.early.capacity = rw (length-drop, length-append) (omega (arith, h.places)) in
    rw (does.is)
    (record {
      places = places;
      small = small_nearer a.early.items h.small;
      room = h.room;
      let_go = refl;
      waits = omega (arith, bytes, h.waits);
      most = omega (arith, h.waits, t.room, fits);
      numbers = omega (arith, t.numbers);
      count = omega (arith, h.count, at_most_one whole);
    })

-- what holds once the next fragment was appended, and it fitted
pub record Fitted (a b : Inside) (text : List ℕ) (more : Bool) : Type 0 where
  pub is_inbox : IsInbox b
  pub does : (r : Receiving) → IsReceiving (inbox_of a) r → IsReceiving (inbox_of b) (append text more r).half

pub fitted : (a : Inside) (now text : List ℕ) (more whole : Bool) (early : Buffer (Option Piece)) (held : Gathering) (messages : Queue) (many : ℕ) →
    IsInbox a → Takes (inbox_of a) → now ≡ text → length now ≤ 236 →
    early ≡ buffer (keep_last a.early.capacity (a.early.items ++ None ∷ [])) a.early.capacity → held ≡ still (gather_step a.gather.held now more).0 →
    messages ≡ record a.inbox { messages = with_answer (gather_step a.gather.held now more).1 a.inbox.messages } → many ≡ bool_byte whole → whole_answer (gather_step a.gather.held now more).1 ≡ Ok whole →
    Fitted a (record { got = a.got + 1; early = early; gather = held; inbox = messages; received = a.received + many; waiting = a.waiting + length now; nak_sent_for = a.nak_sent_for }) text more
fitted a now text more whole early held messages many h t same fits e g m n answer =
    let b : Inside = record { got = a.got + 1; early = early; gather = held; inbox = messages; received = a.received + many; waiting = a.waiting + length now; nak_sent_for = a.nak_sent_for } in
    let leaves = first_leaves a.early.items a.early.capacity h.places in
    let does : Appends a b now more whole = record { is = rw (e, leaves, g, m, n) refl; fits = answer } in
    record {
      is_inbox = stays_inbox a b now more whole does h t fits;
      does = λ r is. subst (λ (x : List ℕ). IsReceiving (inbox_of b) (append x more r).half) same (appends a b r now more whole does is);
    }
