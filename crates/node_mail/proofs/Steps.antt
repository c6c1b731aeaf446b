-- Each event keeps what holds.
use Rattle.std.proofs.Common.{◌≡◌, ◌≢◌, ℕ, ◌+◌, ◌^◌, ◌<◌, ◌≤◌, List, [], ◌∷◌, ◌++◌, length, Bool, true, false, Option, Some, None, Result, Ok, Err, refl, sym, ap, subst, ◌∙◌, cond, inl, inr, arith, length-append}
use Rattle.std.specs.Prelude.{◌==◌, nat_lt, nat_le, not, slice_get, if◌then◌else◌}
use Rattle.std.specs.List.{AllByRecursion}
use Rattle.std.proofs.lemmas.Bool.{eqb-true, eq-eqb}
use Rattle.std.proofs.lemmas.Bool.Decides.{nat_tests}
use Rattle.radio_base.proofs.Each.{each_map, each_both, each_push, each_at, each_filter}
use Rattle.ax_address.specs.Callsign.{Callsign, IsCallsign, same_call}
use Rattle.ax_address.proofs.SameCalls.{same_call-equal}
use Rattle.node_mail.specs.Wires.{Wire, Carries, Receipt, IsWire, IsNumber, IsText, wire_at, wire_octets}
use Rattle.node_mail.specs.Lists.{Lists, Letter, Mail, Heard, PostRefusal, letter_of, is_stored, is_full, is_queued_for, offer, without, post_at, posted_by, with_letter, mail_of, heard_of, kept_after, answer_to, text_of, nothing_kept}
use Rattle.node_mail.specs.declared.post_refusal.PostRefusal.TheVariants as refusal
use Rattle.node_mail.specs.declared.heard.Heard.TheVariants.{Stored, Again, Settled, Stray, Full}
use Rattle.node_mail.specs.Runs.{MailRun, Written, Event, Posts, Writes, Says, Hears, IsEvent, with_store, posts, writes, writes_letter, says, answers, hears, hears_by, happens, begin, run}
use Rattle.node_mail.specs.MailOnce.{IsKept}
use Rattle.node_mail.proofs.Letters.{still_of, of_has, last_of, of_without, IsQueued, queued, still_stored, now_stored, differ_push}
use Rattle.node_mail.proofs.Spelling.{read_mail_number}
use Rattle.node_mail.proofs.Holding.{Sound, Tells, ToldBy, CameFrom, Keeps, Holds, stays, replaced, said}

-- nothing changes at a node
unchanged : (R : List ℕ → List ℕ → Type 0) (w : MailRun) (c : Callsign) (a : Lists) → Holds R w → w.store_of c ≡ Some a → Holds R (with_store w c a)
unchanged R w c a holds was = replaced R w c a a holds was (stays a) (holds.sound c a was) (holds.came c a was) (λ d b h k. k)

-- posts

pub record Fits (a : Lists) (text : List ℕ) (n : ℕ) : Type 0 where
  pub number : n ≡ length a.posted + 1
  pub is_number : IsNumber n
  pub is_text : IsText text

fits_case : (a : Lists) (text : List ℕ) (n : ℕ) (own empty long full used : Bool) → (length text == 0) ≡ empty → nat_lt 1024 (length text) ≡ long → nat_le (2 ^ 62) (length a.posted) ≡ used
    → (if own then Err refusal.Own else if empty then Err refusal.Empty else if long then Err refusal.TooLong else if full then Err refusal.Full else if used then Err refusal.Exhausted else Ok (length a.posted + 1)) ≡ Ok n → Fits a text n
fits_case a text n true empty long full used e f g h = absurd (cc)
fits_case a text n false true long full used e f g h = absurd (cc)
fits_case a text n false false true full used e f g h = absurd (cc)
fits_case a text n false false false true used e f g h = absurd (cc)
fits_case a text n false false false false true e f g h = absurd (cc)
fits_case a text n false false false false false e f g h =
    let k : length a.posted + 1 ≡ n = cc in
    record {
      number = sym k;
      is_number = record { some = omega (arith, k); most = grind (arith, nat_tests, g, k) };
      is_text = record { some = grind (arith, nat_tests, e); most = grind (arith, nat_tests, f) };
    }

module _ (R : List ℕ → List ℕ → Type 0) (w : MailRun) (c : Callsign) (a : Lists) (holds : Holds R w) (was : w.store_of c ≡ Some a) where
  sound : Sound c a
  sound = holds.sound c a was

  module _ (l : Letter) (next : l.number ≡ length a.posted + 1) (is_wire : IsWire (offer l)) where
    above : length a.posted < l.number
    above = omega (arith, next)

    posted_on : (n : ℕ) (x : Letter) → letter_of n a.posted ≡ Some x → letter_of n (a.posted ++ l ∷ []) ≡ Some x
    posted_on n x h = still_of n a.posted (l ∷ []) x h

    is_found : letter_of l.number (a.posted ++ l ∷ []) ≡ Some l
    is_found = last_of (length a.posted) a.posted l sound.below above

    queue_below : AllByRecursion (λ (x : Letter). x.number ≤ length a.posted) a.queued
    queue_below = each_map (λ (x : Letter). letter_of x.number a.posted ≡ Some x) (λ (x : Letter). x.number ≤ length a.posted)
        (λ x h. of_has (λ (y : Letter). y.number ≤ length a.posted) x.number a.posted x sound.below h) a.queued sound.queued

    longer : length (a.posted ++ l ∷ []) ≡ length a.posted + 1
    longer = length-append a.posted (l ∷ [])

    sound_posted : Sound c (with_letter a l)
    sound_posted = record {
      is_own = sound.is_own;
      below = each_push (λ (x : Letter). x.number ≤ length (a.posted ++ l ∷ [])) a.posted l
          (each_map (λ (x : Letter). x.number ≤ length a.posted) (λ (x : Letter). x.number ≤ length (a.posted ++ l ∷ [])) (λ x h. omega (arith, longer, h)) a.posted sound.below) (omega (arith, longer, next));
      wires = each_push (λ (x : Letter). IsWire (offer x)) a.posted l sound.wires is_wire;
      found = each_push (λ (x : Letter). letter_of x.number (a.posted ++ l ∷ []) ≡ Some x) a.posted l
          (each_map (λ (x : Letter). letter_of x.number a.posted ≡ Some x) (λ (x : Letter). letter_of x.number (a.posted ++ l ∷ []) ≡ Some x) (λ x h. posted_on x.number x h) a.posted sound.found) is_found;
      queued = each_push (λ (x : Letter). letter_of x.number (a.posted ++ l ∷ []) ≡ Some x) a.queued l
          (each_map (λ (x : Letter). letter_of x.number a.posted ≡ Some x) (λ (x : Letter). letter_of x.number (a.posted ++ l ∷ []) ≡ Some x) (λ x h. posted_on x.number x h) a.queued sound.queued) is_found;
      differ = sound.differ;
    }

    kept_posted : (d : Callsign) (b : Lists) (x : Letter) → IsKept c a b x → IsKept c (with_letter a l) b x
    kept_posted d b x (inl q) = inl (still_of x.number a.queued (l ∷ []) x q)
    kept_posted d b x (inr s) = inr s

    moves_posted : (d : Callsign) (b : Lists) → w.store_of d ≡ Some b → Keeps c d a b → Keeps c d (with_letter a l) b
    moves_posted d b h k = each_push (λ (x : Letter). x.dest ≡ d → IsKept c (with_letter a l) b x) a.posted l
        (each_map (λ (x : Letter). x.dest ≡ d → IsKept c a b x) (λ (x : Letter). x.dest ≡ d → IsKept c (with_letter a l) b x) (λ x f e. kept_posted d b x (f e)) a.posted k)
        (λ e. inl (last_of (length a.posted) a.queued l queue_below above))

    pub posted_holds : Holds R (with_store w c (with_letter a l))
    posted_holds = replaced R w c a (with_letter a l) holds was (record { posted = posted_on; stored = λ o n h. h }) sound_posted (holds.came c a was) moves_posted

  posts_case : (to dest : Callsign) (text : List ℕ) → IsCallsign to.letters to.ssid → (r : Result ℕ PostRefusal) → post_at a dest text ≡ r → Holds R (with_store w c (posted_by a to dest text r))
  posts_case to dest text is (Err why) e = unchanged R w c a holds was
  posts_case to dest text is (Ok n) e =
      let f = fits_case a text n (same_call dest a.own) (length text == 0) (nat_lt 1024 (length text)) (nat_le 1000 (length a.queued)) (nat_le (2 ^ 62) (length a.posted)) refl refl refl e in
      posted_holds (record { number = n; to = to; dest = dest; text = text }) f.number (f.is_number, is, f.is_text)

  pub posts_keep : (to dest : Callsign) (text : List ℕ) → IsCallsign to.letters to.ssid → Holds R (posts w c to dest text (Some a))
  posts_keep to dest text is = posts_case to dest text is (post_at a dest text) refl

  -- writes

  writes_case : (n : ℕ) (o : Option Letter) → letter_of n a.queued ≡ o → Holds R (writes_letter w c o)
  writes_case n None e = holds
  writes_case n (Some l) e =
      let posted : letter_of l.number a.posted ≡ Some l = of_has (λ (x : Letter). letter_of x.number a.posted ≡ Some x) n a.queued l sound.queued e in
      said R w c l.dest (wire_octets (offer l)) holds (λ s h.
      let same : a ≡ s = cc in
      inl (record {
        letter = l;
        posted = subst (λ (s : Lists). letter_of l.number s.posted ≡ Some l) same posted;
        for = refl;
        is_wire = of_has (λ (x : Letter). IsWire (offer x)) l.number a.posted l sound.wires posted;
        octets = refl;
      }))

  pub writes_keep : (n : ℕ) → Holds R (writes w c n (Some a))
  writes_keep n = writes_case n (letter_of n a.queued) refl

-- what a node without a store writes
says_case : (R : List ℕ → List ℕ → Type 0) (w : MailRun) (c to : Callsign) (octets : List ℕ) (o : Option Lists) → w.store_of c ≡ o → Holds R w → Holds R (says w c to octets o)
says_case R w c to octets None e holds = said R w c to octets holds (λ s h. absurd (cc))
says_case R w c to octets (Some s) e holds = holds

-- what is heard

-- that what is written is read as it
abbrev pub ReadsBack : Type 0
ReadsBack = (v : Wire) → IsWire v → wire_at (wire_octets v) ≡ Some v

-- a node of which a mail is heard had posted it so
mail_told : ReadsBack → (s : Lists) (m : Written) (n : ℕ) (to : Callsign) (text : List ℕ) → wire_at m.octets ≡ Some (Carries n to text) → Tells s m
    → letter_of n s.posted ≡ Some (record { number = n; to = to; dest = m.addressee; text = text })
mail_told back s m n to text e (inl t) =
    let b : wire_at m.octets ≡ Some (offer t.letter) = ap wire_at t.octets ∙ back (offer t.letter) t.is_wire in
    let number : t.letter.number ≡ n = cc in
    let user : t.letter.to ≡ to = cc in
    let same : t.letter.text ≡ text = cc in
    let for = t.for in
    let whole : t.letter ≡ record { number = n; to = to; dest = m.addressee; text = text } = λ i. record { number = number i; to = user i; dest = for i; text = same i } in
    ap (λ k. letter_of k s.posted) (sym number) ∙ (t.posted ∙ ap Some whole)
mail_told back s m n to text e (inr t) =
    let b : wire_at m.octets ≡ Some (Receipt t.number) = ap wire_at t.octets ∙ back (Receipt t.number) t.is_number in
    absurd (cc)

-- a node of which a receipt is heard has stored the mail
receipt_told : ReadsBack → (s : Lists) (m : Written) (n : ℕ) → wire_at m.octets ≡ Some (Receipt n) → Tells s m → is_stored s.stored m.addressee n ≡ true
receipt_told back s m n e (inl t) =
    let b : wire_at m.octets ≡ Some (offer t.letter) = ap wire_at t.octets ∙ back (offer t.letter) t.is_wire in
    absurd (cc)
receipt_told back s m n e (inr t) =
    let b : wire_at m.octets ≡ Some (Receipt t.number) = ap wire_at t.octets ∙ back (Receipt t.number) t.is_number in
    let number : t.number ≡ n = cc in
    ap (λ k. is_stored s.stored m.addressee k) (sym number) ∙ t.stored

module _ (back : ReadsBack) (R : List ℕ → List ℕ → Type 0) (itself : (text : List ℕ) → R text text) (w : MailRun) (m : Written) (a : Lists) (holds : Holds R w) (was : w.store_of m.addressee ≡ Some a) (told : ToldBy w m) where
  is_sound : Sound m.addressee a
  is_sound = holds.sound m.addressee a was

  -- an answer is written where the mail is stored
  answered_case : (s : Lists) (n : ℕ) (answered : Bool) → Holds R (with_store w m.addressee s) → IsNumber n → is_stored s.stored m.writer n ≡ true
      → Holds R (answers (with_store w m.addressee s) m answered (Some (Receipt n)))
  answered_case s n false h i st = h
  answered_case s n true h i st =
      said R (with_store w m.addressee s) m.addressee m.writer (wire_octets (Receipt n)) h (λ t k.
      let itself : same_call m.addressee m.addressee ≡ true = same_call-equal m.addressee m.addressee refl in
      let stands : cond (same_call m.addressee m.addressee) (Some s) (w.store_of m.addressee) ≡ Some s = ap (λ b. cond b (Some s) (w.store_of m.addressee)) itself in
      let same : s ≡ t = let e : Some s ≡ Some t = sym stands ∙ k in cc in
      inr (record { number = n; is_number = i; stored = subst (λ (t : Lists). is_stored t.stored m.writer n ≡ true) same st; octets = refl }))

  -- a mail is stored
  module _ (n : ℕ) (to : Callsign) (text : List ℕ) (read : wire_at m.octets ≡ Some (Carries n to text)) where
    mail : Mail
    mail = mail_of m.writer n to text

    stored_holds : is_stored a.stored m.writer n ≡ false → Holds R (with_store w m.addressee (record a { stored = a.stored ++ mail_of m.writer n to text ∷ [] }))
    stored_holds new = replaced R w m.addressee a (record a { stored = a.stored ++ mail_of m.writer n to text ∷ [] }) holds was
        (record { posted = λ k l h. h; stored = λ o k h. still_stored a.stored (mail_of m.writer n to text) o k h })
        (record {
          is_own = is_sound.is_own;
          below = is_sound.below;
          wires = is_sound.wires;
          found = is_sound.found;
          queued = is_sound.queued;
          differ = differ_push a.stored (mail_of m.writer n to text) is_sound.differ new;
        })
        (each_push (CameFrom R w m.addressee) a.stored (mail_of m.writer n to text) (holds.came m.addressee a was) (λ s h. (text, mail_told back s m n to text read (told s h), itself text)))
        (λ d b h k. each_map (λ (x : Letter). x.dest ≡ d → IsKept m.addressee a b x) (λ (x : Letter). x.dest ≡ d → IsKept m.addressee (record a { stored = a.stored ++ mail_of m.writer n to text ∷ [] }) b x) (λ x f e. f e) a.posted k)

    mail_case : (known full answered : Bool) → is_stored a.stored m.writer n ≡ known →
        (h : Heard) → (if known then Again n else (if full then Full n else Stored n to)) ≡ h →
        Holds R (answers (with_store w m.addressee (kept_after a m.writer text h)) m answered (answer_to h))
    mail_case true full answered e h k = rw (← k) (answered_case a n answered (unchanged R w m.addressee a holds was) (read_mail_number m.octets n to text read) e)
    mail_case false true answered e h k = rw (← k) (unchanged R w m.addressee a holds was)
    mail_case false false answered e h k = rw (← k) (answered_case (record a { stored = a.stored ++ mail_of m.writer n to text ∷ [] }) n answered (stored_holds e) (read_mail_number m.octets n to text read)
        (now_stored a.stored (mail_of m.writer n to text)))

  -- a mail is settled
  module _ (n : ℕ) (read : wire_at m.octets ≡ Some (Receipt n)) where
    same_case : (d : Callsign) (b : Lists) (x : Letter) (same : Bool) → (x.number == n) ≡ same → IsQueued (λ (y : Letter). letter_of y.number a.posted ≡ Some y) m.writer n → w.store_of d ≡ Some b → letter_of x.number a.posted ≡ Some x → x.dest ≡ d
        → letter_of x.number a.queued ≡ Some x → IsKept m.addressee (record a { queued = without n a.queued }) b x
    same_case d b x true e q h f for k =
        let number : x.number ≡ n = eqb-true x.number n e in
        let of_q : letter_of n a.posted ≡ Some q.letter = ap (λ i. letter_of i a.posted) (sym q.number) ∙ q.has in
        let of_x : letter_of n a.posted ≡ Some x = ap (λ i. letter_of i a.posted) (sym number) ∙ f in
        let one : Some q.letter ≡ Some x = sym of_q ∙ of_x in
        let letter : q.letter ≡ x = cc in
        let writer : m.writer ≡ d = sym q.for ∙ (ap (λ (y : Letter). y.dest) letter ∙ for) in
        let there : w.store_of m.writer ≡ Some b = ap w.store_of writer ∙ h in
        inr (ap (λ i. is_stored b.stored m.addressee i) number ∙ receipt_told back b m n read (told b there))
    same_case d b x false e q h f for k =
        let apart : x.number ≢ n = λ s. let t = eq-eqb x.number n s in absurd (cc) in
        inl (of_without n x.number a.queued apart ∙ k)

    kept_case : (d : Callsign) (b : Lists) (x : Letter) → IsQueued (λ (y : Letter). letter_of y.number a.posted ≡ Some y) m.writer n → w.store_of d ≡ Some b → letter_of x.number a.posted ≡ Some x → x.dest ≡ d
        → IsKept m.addressee a b x → IsKept m.addressee (record a { queued = without n a.queued }) b x
    kept_case d b x q h f for (inl k) = same_case d b x (x.number == n) refl q h f for k
    kept_case d b x q h f for (inr s) = inr s

    settled_holds : is_queued_for a.queued m.writer n ≡ true → Holds R (with_store w m.addressee (record a { queued = without n a.queued }))
    settled_holds there =
        let q = queued (λ (y : Letter). letter_of y.number a.posted ≡ Some y) m.writer n a.queued is_sound.queued there in
        replaced R w m.addressee a (record a { queued = without n a.queued }) holds was
        (record { posted = λ k l h. h; stored = λ o k h. h })
        (record {
          is_own = is_sound.is_own;
          below = is_sound.below;
          wires = is_sound.wires;
          found = is_sound.found;
          queued = each_filter (λ (x : Letter). letter_of x.number a.posted ≡ Some x) (λ (x : Letter). not (x.number == n)) a.queued is_sound.queued;
          differ = is_sound.differ;
        })
        (holds.came m.addressee a was)
        (λ d b h k. each_both (λ (x : Letter). letter_of x.number a.posted ≡ Some x) (λ (x : Letter). x.dest ≡ d → IsKept m.addressee a b x)
        (λ (x : Letter). x.dest ≡ d → IsKept m.addressee (record a { queued = without n a.queued }) b x)
        (λ x f g for. kept_case d b x q h f for (g for)) a.posted is_sound.found k)

    receipt_case : (there answered : Bool) → is_queued_for a.queued m.writer n ≡ there →
        (h : Heard) → (if there then Settled n else Stray n) ≡ h →
        Holds R (answers (with_store w m.addressee (kept_after a m.writer [] h)) m answered (answer_to h))
    receipt_case true answered e h k = rw (← k) (settled_holds e)
    receipt_case false answered e h k = rw (← k) (unchanged R w m.addressee a holds was)

  wire_case : (answered : Bool) (r : Option Wire) → wire_at m.octets ≡ r
      → Holds R (answers (with_store w m.addressee (kept_after a m.writer (text_of r) (heard_of a m.writer r))) m answered (answer_to (heard_of a m.writer r)))
  wire_case answered None e = unchanged R w m.addressee a holds was
  wire_case answered (Some (Carries n to text)) e = mail_case n to text e (is_stored a.stored m.writer n) (is_full a.stored) answered refl _ refl
  wire_case answered (Some (Receipt n)) e = receipt_case n e (is_queued_for a.queued m.writer n) answered refl _ refl

  pub hears_keep : (answered : Bool) → Holds R (hears_by w answered m (Some a))
  hears_keep answered = wire_case answered (wire_at m.octets) refl

-- events

posts_event : (R : List ℕ → List ℕ → Type 0) (w : MailRun) (c to dest : Callsign) (text : List ℕ) → IsCallsign to.letters to.ssid → (o : Option Lists) → w.store_of c ≡ o → Holds R w → Holds R (posts w c to dest text o)
posts_event R w c to dest text is None e h = h
posts_event R w c to dest text is (Some a) e h = posts_keep R w c a h e to dest text is

writes_event : (R : List ℕ → List ℕ → Type 0) (w : MailRun) (c : Callsign) (n : ℕ) (o : Option Lists) → w.store_of c ≡ o → Holds R w → Holds R (writes w c n o)
writes_event R w c n None e h = h
writes_event R w c n (Some a) e h = writes_keep R w c a h e n

heard_event : ReadsBack → (R : List ℕ → List ℕ → Type 0) → (itself : (text : List ℕ) → R text text) → (w : MailRun) (m : Written) (answered : Bool) (o : Option Lists) → w.store_of m.addressee ≡ o → ToldBy w m → Holds R w → Holds R (hears_by w answered m o)
heard_event back R itself w m answered None e t h = h
heard_event back R itself w m answered (Some a) e t h = hears_keep back R itself w m a h e t answered

hears_event : ReadsBack → (R : List ℕ → List ℕ → Type 0) → (itself : (text : List ℕ) → R text text) → (w : MailRun) (which : ℕ) (answered : Bool) (o : Option Written) → slice_get w.written which ≡ o → Holds R w → Holds R (hears w answered o)
hears_event back R itself w which answered None e h = h
hears_event back R itself w which answered (Some m) e h = heard_event back R itself w m answered (w.store_of m.addressee) refl (each_at (ToldBy w) w.written which m h.told e) h

pub happens_keeps : ReadsBack → (R : List ℕ → List ℕ → Type 0) → (itself : (text : List ℕ) → R text text) → (w : MailRun) (e : Event) → IsEvent e → Holds R w → Holds R (happens w e)
happens_keeps back R itself w (Posts c to dest text) is h = posts_event R w c to dest text is (w.store_of c) refl h
happens_keeps back R itself w (Writes c n) is h = writes_event R w c n (w.store_of c) refl h
happens_keeps back R itself w (Says c to octets) is h = says_case R w c to octets (w.store_of c) refl h
happens_keeps back R itself w (Hears which answered) is h = hears_event back R itself w which answered (slice_get w.written which) refl h

pub run_keeps : ReadsBack → (R : List ℕ → List ℕ → Type 0) → (itself : (text : List ℕ) → R text text) → (es : List Event) (w : MailRun) → AllByRecursion IsEvent es → Holds R w → Holds R (run es w)
run_keeps back R itself [] w is h = h
run_keeps back R itself (e ∷ es) w is h = run_keeps back R itself es (happens w e) is.1 (happens_keeps back R itself w e is.0 h)

-- at first

first_case : (c : Callsign) (s : Lists) (b : Bool) → cond b (Some (nothing_kept c)) None ≡ Some s → s ≡ nothing_kept c
first_case c s true h = cc
first_case c s false h = absurd (cc)

nothing_sound : (c : Callsign) → Sound c (nothing_kept c)
nothing_sound c = record { is_own = refl; below = tt; wires = tt; found = tt; queued = tt; differ = tt }

pub begin_holds : (R : List ℕ → List ℕ → Type 0) (has_store : Callsign → Bool) → Holds R (begin has_store)
begin_holds R has_store = record {
  sound = λ c s h. subst (Sound c) (sym (first_case c s (has_store c) h)) (nothing_sound c);
  told = tt;
  came = λ d b h. subst (λ (s : Lists). AllByRecursion (CameFrom R (begin has_store) d) s.stored) (sym (first_case d b (has_store d) h)) tt;
  kept = λ o d a b h k. subst (λ (s : Lists). Keeps o d s b) (sym (first_case o a (has_store o) h)) tt;
}
