-- Each step of a set keeps what is kept of the run.
use Rattle.std.specs.Prelude.{◌≡◌, ℕ, zero, suc, ◌+◌, ◌-◌, ◌*◌, ◌≤◌, ◌<◌, ◌⊎◌, min, Bool, true, false, ◌&&◌, ◌||◌, nat_eq, if◌then◌else◌, List, [], ◌∷◌, ◌++◌, drop, slice_get, slice_set, Option, Some, None, Ok, refl}
use Rattle.std.proofs.Common.{sym, ◌∙◌, ap, subst, inl, inr, arith, append-nil}
use Rattle.std.proofs.lemmas.Bool.Decides.{nat_tests}
use Rattle.std.proofs.lemmas.Bool.{and_parts}
use Rattle.std.proofs.Math.Bool.{or-true}
use Rattle.radio_base.specs.declared.modulus.TheConstants.{COUNT_MAX}
use Rattle.circuit_l4.specs.declared.transport.Transport.{Transport}
use Rattle.circuit_l4.specs.declared.transport.Transport.TheVariants.{Request, Accept, Refuse, Disconnect, Disconnected, Info, InfoAck}
use Rattle.circuit_l4.specs.declared.notice.EndNotice.{EndNotice}
use Rattle.circuit_l4.specs.declared.role.Role.TheVariants.{Responder}
use Rattle.circuit_l4.specs.Transports.{transport_at}
use Rattle.circuit_l4.specs.State.{Effect, State, begin}
use Rattle.circuit_l4.specs.Laws.{followed_by, after_inputs}
use Rattle.circuit_l4.specs.Table.{Input, Arrive, step}
use Rattle.circuit_set.specs.Lines.{Elem, count_from}
use Rattle.circuit_set.specs.Circuits.{ComesInTime, Flight, IsCall, PairOk, Side, comes, hear, heard_it, hear_text, now_at}
use Rattle.circuit_table.specs.Sets.{heeds, Call, Closes, Holder, SetState, Takes, Ticks, Heeded, Writes, accept_again, end_of, goes_to, input_of, is_over, told_by}
use Rattle.circuit_table.specs.Events.{Name, is_copy, same_name}
use Rattle.circuit_set.specs.NotedRuns.{Net, allowance, allowance_at, opened_window, partner_allowance, told_to}
use Rattle.circuit_set.specs.Books.{was_asked, Book, HeardNote, SentNote, TimelyTo, has, heard_number, heard_sending, is_number, latest_by, latest_in, with_event, with_events, overtakers, partner}
use Rattle.circuit_table.specs.Runs.{end_in, events_at}
use Rattle.circuit_set.proofs.Bridge.{TopAt, WasSent, bridge, heard_of}
use Rattle.circuit_set.proofs.Copies.{copy_reads}
use Rattle.circuit_set.proofs.Lookups.{partner_asked, hears, hears_not}
use Rattle.circuit_set.proofs.Pasts.{Found, find_latest}
use Rattle.circuit_set.proofs.Asks.{AskOf, Asks, step_asks}
use Rattle.circuit_set.proofs.Grown.{step_grows}
use Rattle.circuit_table.proofs.Names.{SameEnd, arrival_same, call_names}
use Rattle.circuit_table.proofs.Choices.{Named, names}
use Rattle.circuit_set.proofs.Lonely.{nobody}
use Rattle.circuit_set.proofs.Noting.{told_noted}
use Rattle.circuit_set.proofs.Whole.{accepts_ok, comes_ok, does_ok}
use Rattle.circuit_set.proofs.Rows.{nothing_comes}
use Rattle.circuit_set.proofs.Unheeded.{unheeded}
use Rattle.circuit_set.proofs.Invariant.{AloneOk, CircuitOk, EndInv, Kept, Lived, Move, PairInv, Tops, side_of}
use Rattle.circuit_set.proofs.Moved.{moved}

-- ---- a life goes on ----
pub lived_on : (g : Effect) (inputs : List (Input × ℕ)) (i : Input) (now : ℕ) → after_inputs g (inputs ++ (i, now) ∷ []) ≡ followed_by (after_inputs g inputs) (step (after_inputs g inputs).end i now)
lived_on g [] i now = refl
lived_on g (j ∷ inputs) i now = lived_on (followed_by g (step g.end j.0 j.1)) inputs i now

unfoldable pub lives_on : (e : State) (notes : List EndNotice) (i : Input) (now : ℕ) → Lived e notes → Lived (step e i now).end (notes ++ (step e i now).notes)
lives_on e notes i now l = record {
  first = l.first;
  new = l.new;
  inputs = l.inputs ++ (i, now) ∷ [];
  end = ap (λ (g : Effect). g.end) (lived_on l.first l.inputs i now) ∙ ap (λ s. (step s i now).end) l.end;
  notes_are =
      ap (λ (g : Effect). g.notes) (lived_on l.first l.inputs i now) ∙ ap (λ ns. ns ++ (step (after_inputs l.first l.inputs).end i now).notes) l.notes_are
      ∙ ap (λ s. notes ++ (step s i now).notes) l.end;
}

pub lives_same : (e : State) (notes : List EndNotice) → Lived e notes → Lived e (notes ++ [])
lives_same e notes l = subst (λ ns. Lived e ns) (sym (append-nil notes)) l

pub set_self : (ss : List SetState) (n : ℕ) (s : SetState) → slice_get ss n ≡ Some s → slice_set ss n s ≡ ss
set_self [] n s h = cc
set_self (x ∷ ss) zero s h = let e : x ≡ s = cc in ap (λ y. y ∷ ss) (sym e)
set_self (x ∷ ss) (suc n) s h = ap (λ ys. x ∷ ys) (set_self ss n s h)

-- ---- a call of an end ----
call_is : (call : Call) → IsCall (input_of call)
call_is (Writes m) = tt
call_is Ticks = tt
call_is Closes = tt
call_is Takes = tt

module _ (net : Net) (k : Kept net) (n : ℕ) (s : SetState) (h : Holder) (here : slice_get net.sets n ≡ Some s) (there : end_of h.id s.ends ≡ Some h) where
  abbrev x : Name
  x = record { node = n; id = h.id }

  pub inv : EndInv net k.past x h
  inv = k.ends x h (ap (λ o. end_in o h.id) here ∙ there)

  -- a step in which nothing was heeded
  pub quiet_move : (g : Effect) → g.end.role ≡ h.end.role → g.end.config ≡ h.end.config → g.end.pair ≡ h.end.pair → Asks h.end g.outs → h.end.sending.sent ≤ g.end.sending.sent → Lived g.end (told_to net.book.made x ++ g.notes)
      → ((w : ℕ) (o : Side) → (h.end.role ≡ Responder → h.end.window ≡ w) → PairOk w (side_of net.book k.past x h.end) o → PairOk w (now_at (side_of net.book k.past x h.end) o g (heard_of x net.book.heard)) o)
      → Move net k.past x h g net.book
  quiet_move g role config pair asks grows lives keeps = record {
    sent = refl;
    made = refl;
    places = omega arith;
    heard_other = λ z e. refl;
    heard_sent = λ y e i q. (k.pairs x y e).heard i q;
    role = role;
    config = config;
    pair = pair;
    asks = asks;
    sent_grows = grows;
    lives = lives;
    alone = λ e. let a : AloneOk net.book k.past x h.end = inv.alone e in (a.none_heard, λ w fits. keeps w (nobody w) fits.is (a.kept w fits));
    paired = λ y e q. keeps q.window (side_of net.book k.past y q.end.end) (λ r. q.kept.end_mine.answers r) q.kept;
  }

  pub called_move : (call : Call) (now : ℕ) → Move net k.past x h (step h.end (input_of call) now) net.book
  called_move call now =
      let same : names (step h.end (input_of call) now).end ≡ names h.end = call_names h.end call now in
      quiet_move (step h.end (input_of call) now) (ap (λ (m : Named). m.role) same) (ap (λ (m : Named). m.config) same) (ap (λ (m : Named). m.pair) same) (step_asks h.end (input_of call) now) (step_grows h.end (input_of call) now)
      (lives_on h.end (told_to net.book.made x) (input_of call) now inv.lives)
      (λ w o r p. does_ok w (side_of net.book k.past x h.end) o (input_of call) now (call_is call) p)

  pub again_move : h.end.role ≡ Responder → Move net k.past x h (accept_again h.end) net.book
  again_move role =
      quiet_move (accept_again h.end) refl refl refl ((refl, refl), tt) (omega arith) (lives_same h.end (told_to net.book.made x) inv.lives) (λ w o r p. accepts_ok w (side_of net.book k.past x h.end) o role p)

  pub discard_move : Move net k.past x h (begin h.end) net.book
  discard_move =
      quiet_move (begin h.end) refl refl refl tt (omega arith) (lives_same h.end (told_to net.book.made x) inv.lives) (λ w o r p. nothing_comes w (side_of net.book k.past x h.end) o p)

  pub unheeded_move : (t : Transport) (now : ℕ) → heeds h.end.phase t ≡ false → Move net k.past x h (step h.end (Arrive t) now) net.book
  unheeded_move t now e =
      let same : SameEnd h.end (step h.end (Arrive t) now).end = arrival_same h.end t now in
      quiet_move (step h.end (Arrive t) now) same.role same.config same.pair (step_asks h.end (Arrive t) now) (step_grows h.end (Arrive t) now)
      (lives_on h.end (told_to net.book.made x) (Arrive t) now inv.lives)
      (λ w o r p. unheeded h.end.phase t w (min now COUNT_MAX) (side_of net.book k.past x h.end) o refl e p)

  -- the whole step
  pub goes : (g : Effect) → Move net k.past x h g net.book → Kept (record { sets = slice_set net.sets n (goes_to s h [] g).set; book = with_events net.book (events_at n s.own (goes_to s h [] g).told) })
  goes g m = moved net k n s h g net.book (with_events net.book (events_at n s.own (told_by s h g))) (is_over g.end) here there m (told_noted s n s.own h g net.book)

-- ---- what is heeded ----
abbrev hear_any : Option ℕ → List ℕ → List ℕ
hear_any None hs = hs
hear_any (Some n) hs = hear n hs

hear_is : (e : State) (t : Transport) (o : Option ℕ) (hs : List ℕ) → AskOf e t o → hear_text t o hs ≡ hear_any o hs
hear_is e (Info to tx rx flags text) (Some n) hs a = refl
hear_is e (Info to tx rx flags text) None hs a = refl
hear_is e (Request pair window user node) o hs a = ap (λ p. hear_any p hs) (sym a.2)
hear_is e (InfoAck to rx flags) o hs a = ap (λ p. hear_any p hs) (sym a)
hear_is e (Accept to own window) o hs a = ap (λ p. hear_any p hs) (sym a.1)
hear_is e (Disconnect to) o hs a = ap (λ p. hear_any p hs) (sym a)
hear_is e (Disconnected to) o hs a = ap (λ p. hear_any p hs) (sym a)
hear_is e (Refuse to) o hs a = ap (λ p. hear_any p hs) (sym a)

noted_heard : (x : Name) (o : Option ℕ) (b : Book) → heard_of x (heard_number x o b.heard) ≡ hear_any o (heard_of x b.heard)
noted_heard x None b = refl
noted_heard x (Some n) b = hears x n b.heard

noted_other : (x z : Name) (o : Option ℕ) (b : Book) → (x ≡ z → ⊥) → heard_of z (heard_number x o b.heard) ≡ heard_of z b.heard
noted_other x z None b apart = refl
noted_other x z (Some n) b apart = hears_not x z n b.heard apart

hear_elem_case : (n i : ℕ) (hs : List ℕ) (b : Bool) → Elem i (if b then hs else n ∷ hs) → (i ≡ n) ⊎ Elem i hs
hear_elem_case n i hs true h = inr h
hear_elem_case n i hs false h = h

latest_case : (s m : SentNote) (ss : List SentNote) (y : Name) (d : List ℕ) (n : ℕ) (b : Bool) → (same_name s.who y && is_copy d s.datagram) ≡ b → (if b then Some s else latest_in ss y d) ≡ Some m → m.number ≡ Some n
    → (latest_in ss y d ≡ Some m → has y n ss ≡ true) → has y n (s ∷ ss) ≡ true
latest_case s m ss y d n true t e q later =
    let same : s ≡ m = cc in
    let number : s.number ≡ Some n = ap (λ (k : SentNote). k.number) same ∙ q in
    let who : same_name s.who y ≡ true = (and_parts (same_name s.who y) (is_copy d s.datagram) t).0 in
    let test : nat_eq n n ≡ true = grind (arith, nat_tests) in
    let head : (same_name s.who y && is_number s.number n) ≡ true = ap (λ b. b && is_number s.number n) who ∙ ap (λ o. is_number o n) number ∙ test in
    ap (λ b. b || has y n ss) head
latest_case s m ss y d n false t e q later = ap (λ b. (same_name s.who y && is_number s.number n) || b) (later e) ∙ or-true (same_name s.who y && is_number s.number n)

latest_has : (ss : List SentNote) (y : Name) (d : List ℕ) (m : SentNote) (n : ℕ) → latest_in ss y d ≡ Some m → m.number ≡ Some n → has y n ss ≡ true
latest_has [] y d m n e q = cc
latest_has (s ∷ ss) y d m n e q = latest_case s m ss y d n (same_name s.who y && is_copy d s.datagram) refl e q (λ r. latest_has ss y d m n r q)

was_case : (x : Name) (h : HeardNote) (hs : List HeardNote) (i : ℕ) (b : Bool) → Elem i (heard_of x hs) → Elem i (if b then h.number ∷ heard_of x hs else heard_of x hs)
was_case x h hs i true e = inr e
was_case x h hs i false e = e

was_head : (x : Name) (h : HeardNote) (hs : List HeardNote) (b : Bool) → b ≡ true → Elem h.number (if b then h.number ∷ heard_of x hs else heard_of x hs)
was_head x h hs true e = inl refl
was_head x h hs false e = cc

was_sent : (y x : Name) (ss : List SentNote) (hs : List HeardNote) → ((i : ℕ) → Elem i (heard_of x hs) → has y i ss ≡ true) → ((i : ℕ) → Elem i (heard_of y hs) → has x i ss ≡ true) → WasSent y x ss hs
was_sent y x ss [] p q = tt
was_sent y x ss (h ∷ hs) p q = (
  (λ e. p h.number (was_head x h hs (same_name h.who x) e), λ e. q h.number (was_head y h hs (same_name h.who y) e)),
  was_sent y x ss hs (λ i e. p i (was_case x h hs i (same_name h.who x) e)) (λ i e. q i (was_case y h hs i (same_name h.who y) e)),
)

-- an end that has met its partner
module _ (net : Net) (k : Kept net) (me y : Name) (h : Holder) (mine : EndInv net k.past me h) (met : partner net.book me ≡ Some y) where
  -- the allowance is that of the circuit's window
  allow_case : (c : CircuitOk net k.past me y h.end) (b : Bool) → was_asked net.book.made me ≡ b → (if b then allowance (opened_window (told_to net.book.made me)) else partner_allowance net.book (partner net.book me)) ≡ 256 - 2 * c.window
  allow_case c true e =
      let role : h.end.role ≡ Responder = mine.asked e in
      ap allowance (mine.opens role) ∙ ap (λ w. 256 - 2 * w) (c.kept.end_mine.answers role)
  allow_case c false e = elim (partner_asked net.book.made me y met) [
    | inl bad ↦ (let two : true ≡ false = sym bad ∙ e in cc)
    | inr r ↦ (let o : EndInv net k.past y c.end = k.ends y c.end c.there in
        let role : c.end.end.role ≡ Responder = o.asked r in
        ap (λ q. partner_allowance net.book q) met ∙ ap allowance (o.opens role) ∙ ap (λ w. 256 - 2 * w) (c.kept.end_theirs.answers role))
  ]

  pub allow_is : (c : CircuitOk net k.past me y h.end) → allowance_at net.book me ≡ 256 - 2 * c.window
  allow_is c = allow_case c (was_asked net.book.made me) refl

module _ (net : Net) (k : Kept net) (n : ℕ) (s : SetState) (h : Holder) (here : slice_get net.sets n ≡ Some s) (there : end_of h.id s.ends ≡ Some h)
    (d : List ℕ) (t : Transport) (now : ℕ) (read : transport_at (drop 15 d) ≡ Ok t) (heeded : heeds h.end.phase t ≡ true) (time : TimelyTo allowance_at net.book (record { node = n; id = h.id }) d) where
  abbrev me : Name
  me = record { node = n; id = h.id }

  abbrev y : Name
  y = time.0

  abbrev latest_one : SentNote
  latest_one = time.1

  my_inv : EndInv net k.past me h
  my_inv = inv net k n s h here there

  found : Found k.past y d latest_one
  found = find_latest k.past net.book.sent y d latest_one k.noted time.3

  abbrev hs : List ℕ
  hs = heard_of me net.book.heard

  b1 : Book
  b1 = with_event net.book (record { node = n; own = s.own; told = Heeded h.id d })

  same_t : found.past.flight.out ≡ t
  same_t =
      let r = copy_reads d latest_one.datagram found.past.flight.out found.copy found.entry.spelled in
      let two : Ok found.past.flight.out ≡ Ok t = sym r.transport ∙ read in
      cc

  number_is : found.past.flight.number ≡ latest_one.number
  number_is = found.entry.number

  heard1 : b1.heard ≡ heard_number me latest_one.number net.book.heard
  unfolding b1
  heard1 = ap (λ o. heard_sending me o net.book.heard) (ap (λ o. latest_by net.book o d) time.2 ∙ time.3)

  now_heard : heard_of me b1.heard ≡ hear_any latest_one.number hs
  now_heard = ap (λ ns. heard_of me ns) heard1 ∙ noted_heard me latest_one.number net.book

  in_time : count_from found.past.flight.own hs + count_from found.past.flight.other (heard_of y net.book.heard) < allowance_at net.book me
  in_time =
      let pair : PairInv net me y = k.pairs me y time.2 in
      let tops : Tops net.book found.past = k.tops found.past found.inside in
      let place : found.past.place ≡ latest_one.place = found.entry.place in
      let own : TopAt y latest_one.place found.past.flight.own net.book.sent = subst (λ i. TopAt y i found.past.flight.own net.book.sent) place (subst (λ w. TopAt w found.past.place found.past.flight.own net.book.sent) found.by tops.own) in
      let other : TopAt me latest_one.place found.past.flight.other net.book.sent
      = subst (λ i. TopAt me i found.past.flight.other net.book.sent) place (tops.other me (ap (λ w. partner net.book w) found.by ∙ pair.back)) in
      let sent : WasSent y me net.book.sent net.book.heard = was_sent y me net.book.sent net.book.heard pair.heard (k.pairs y me pair.back).heard in
      let most : count_from found.past.flight.own hs + count_from found.past.flight.other (heard_of y net.book.heard) ≤ overtakers y me latest_one.place net.book.sent net.book.heard
      = bridge y me latest_one.place found.past.flight.own found.past.flight.other net.book.sent net.book.heard (λ e. pair.apart (sym e)) own other sent in
      let few : overtakers y me latest_one.place net.book.sent net.book.heard < allowance_at net.book me = time.4 in
      omega arith

  -- the circuit heeds it
  circuit : (c : CircuitOk net k.past me y h.end) → PairOk c.window (now_at (side_of net.book k.past me h.end) (side_of net.book k.past y c.end.end) (step h.end (Arrive t) now) (heard_of me b1.heard)) (side_of net.book k.past y c.end.end)
  circuit c =
      let sx : Side = side_of net.book k.past me h.end in
      let sy : Side = side_of net.book k.past y c.end.end in
      let f : Flight = found.past.flight in
      let a : ℕ = 256 - 2 * c.window in
      let low : c.window ≤ 127 = c.fits in
      let is_allowed : allowance_at net.book me ≡ 256 - 2 * c.window = allow_is net k me y h my_inv time.2 c in
      let few : count_from found.past.flight.own hs + count_from found.past.flight.other (heard_of y net.book.heard) < allowance_at net.book me = in_time in
      let fine : ComesInTime (256 - 2 * c.window) sx sy (slice_get sy.outs found.nth) = subst (λ o. ComesInTime (256 - 2 * c.window) sx sy o) (sym found.at) (λ q. subst (λ i. count_from found.past.flight.own hs + count_from found.past.flight.other (heard_of y net.book.heard) < i) is_allowed in_time) in
      let came : PairOk c.window (comes sx sy (slice_get sy.outs found.nth) now) sy = comes_ok c.window (256 - 2 * c.window) now sx sy found.nth (omega arith) c.kept fine in
      let one : PairOk c.window (now_at sx sy (step h.end (Arrive f.out) now) (if heeds h.end.phase f.out then hear_text f.out f.number hs else hs)) sy = subst (λ o. PairOk c.window (comes sx sy o now) sy) found.at came in
      let two : PairOk c.window (now_at sx sy (step h.end (Arrive t) now) (if heeds h.end.phase t then hear_text t f.number hs else hs)) sy
      = subst (λ o. PairOk c.window (now_at sx sy (step h.end (Arrive o) now) (if heeds h.end.phase o then hear_text o f.number hs else hs)) sy) same_t one in
      let ask : AskOf c.end.end t f.number = subst (λ o. AskOf c.end.end o f.number) same_t ((k.ends y c.end c.there).asks found.past found.inside found.by) in
      let is : (if heeds h.end.phase t then hear_text t f.number hs else hs) ≡ heard_of me b1.heard
      = ap (λ b. if b then hear_text t f.number hs else hs) heeded ∙ hear_is c.end.end t f.number hs ask ∙ ap (λ o. hear_any o hs) number_is ∙ sym now_heard in
      subst (λ xs. PairOk c.window (now_at sx sy (step h.end (Arrive t) now) xs) sy) is two

  partner_one : (z : Name) → partner net.book me ≡ Some z → y ≡ z
  partner_one z e = let two : Some y ≡ Some z = sym time.2 ∙ e in cc

  sent_one : (o : Option ℕ) → latest_one.number ≡ o → (i : ℕ) → Elem i (hear_any o hs) → has y i net.book.sent ≡ true
  sent_one None e i q = (k.pairs me y time.2).heard i q
  sent_one (Some m) e i q = elim (hear_elem_case m i hs (heard_it m hs) q) [
    | inl r ↦ subst (λ j. has y j net.book.sent ≡ true) (sym r) (latest_has net.book.sent y d latest_one m time.3 e)
    | inr r ↦ (k.pairs me y time.2).heard i r
  ]

  heeded_move : Move net k.past me h (step h.end (Arrive t) now) b1
  unfolding b1
  heeded_move =
      let same : SameEnd h.end (step h.end (Arrive t) now).end = arrival_same h.end t now in
      record {
        sent = refl;
        made = refl;
        places = omega arith;
        heard_other = λ z e. ap (λ ns. heard_of z ns) heard1 ∙ noted_other me z latest_one.number net.book e;
        heard_sent = λ z e i q. subst (λ w. has w i net.book.sent ≡ true) (partner_one z e) (sent_one latest_one.number refl i (subst (λ xs. Elem i xs) now_heard q));
        role = same.role;
        config = same.config;
        pair = same.pair;
        asks = step_asks h.end (Arrive t) now;
        sent_grows = step_grows h.end (Arrive t) now;
        lives = lives_on h.end (told_to net.book.made me) (Arrive t) now my_inv.lives;
        alone = λ e. let bad : None ≡ Some y = sym e ∙ time.2 in cc;
        paired = λ z e. subst (λ w. (c : CircuitOk net k.past me w h.end) → PairOk c.window (now_at (side_of net.book k.past me h.end) (side_of net.book k.past w c.end.end) (step h.end (Arrive t) now) (heard_of me b1.heard)) (side_of net.book k.past w c.end.end)) (partner_one z e) circuit;
      }

  pub heeds_it : Kept (record { sets = slice_set net.sets n (goes_to s h (Heeded h.id d ∷ []) (step h.end (Arrive t) now)).set; book = with_events net.book (events_at n s.own (goes_to s h (Heeded h.id d ∷ []) (step h.end (Arrive t) now)).told) })
  unfolding b1
  heeds_it =
      moved net k n s h (step h.end (Arrive t) now) b1 (with_events b1 (events_at n s.own (told_by s h (step h.end (Arrive t) now)))) (is_over (step h.end (Arrive t) now).end) here there heeded_move
      (told_noted s n s.own h (step h.end (Arrive t) now) b1)
