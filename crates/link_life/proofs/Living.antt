-- A life, act by act.
use Rattle.std.proofs.Common.{◌≡◌, ◌+◌, ◌-◌, ◌^◌, min, ℕ, true, false, ◌||◌, if◌then◌else◌, List, [], ◌∷◌, ◌++◌, map, Option, Some, None, nat_lt, refl, ap, sym, ◌∙◌, subst, append_assoc}
use Rattle.std.specs.List.{flat_map}
use Rattle.std.proofs.lemmas.List.Concat.{flat_map-append}
use Rattle.ax_link.specs.Opening.{rules_new}
use Rattle.ax_link.specs.State.{Effect, Rules}
use Rattle.ax_link.specs.Table.{Tick, step}
use Rattle.link_life.specs.declared.act.Side.{Side}
use Rattle.link_life.specs.declared.act.Side.TheVariants.{A, B}
use Rattle.link_life.specs.declared.flight.Flight.{Flight as FlightKept}
use Rattle.link_life.specs.declared.life.Life.{Life as LifeKept}
use Rattle.link_life.specs.declared.life_refusals.LifeRefusal.{LifeRefusal}
use Rattle.link_life.specs.declared.life_refusals.LifeRefusal.TheVariants as why
use Rattle.link_life.specs.declared.act.NumberedAct.{NumberedAct}
use Rattle.link_life.specs.Ends.{Ends, Flight, step_near}
use Rattle.link_life.specs.Lives.{Life, Outcome, Refused, Done, LifeTold, Turn, after_act, delay_refusal, ends_at, is_late, joined, lifted, act_on, settings, tick_both, told_by_step, tick_on, tick_to, turn_at, unless, with_ends}
use Rattle.link_life.specs.Reports.{air_line, life_text, line_text, notice_line, refused_line, told_text}
use Rattle.link_life.specs.Standing.{ComesTo, EndsStand, LifeComesTo, LifeStands, LineWritten, Ticked, flight_of, frames_text, is_late_kept, notices_text}

-- lines of one thing after those of another
one_more : {X : Type 0} (f : X → List ℕ) (xs ys : List X) (old mid new : List ℕ) → mid ≡ old ++ flat_map f xs → new ≡ mid ++ flat_map f ys → new ≡ old ++ flat_map f (xs ++ ys)
one_more f xs ys old mid new e q =
    q ∙ ap (λ ts. ts ++ flat_map f ys) e ∙ append_assoc old (flat_map f xs) (flat_map f ys) ∙ ap (λ ts. old ++ ts) (sym (flat_map-append f xs ys))

-- the notices of both sides, and then their frames
both_told : (size : ℕ) (g h : Effect) (old mid new fs gs : List ℕ) → mid ≡ old ++ notices_text A g → new ≡ mid ++ notices_text B h → fs ≡ frames_text size A g → gs ≡ fs ++ frames_text size B h →
    new ++ gs ≡ old ++ told_text size (joined (told_by_step A [] g) (told_by_step B [] h))
both_told size g h old mid new fs gs n1 n2 f1 f2 =
    let t : LifeTold = told_by_step A [] g in
    let u : LifeTold = told_by_step B [] h in
    let ns : new ≡ old ++ flat_map notice_line (t.notices ++ u.notices) = one_more notice_line t.notices u.notices old mid new n1 n2 in
    let fr : gs ≡ flat_map (air_line size) (t.frames ++ u.frames) = one_more (air_line size) t.frames u.frames [] fs gs f1 f2 in
    ap (λ xs. xs ++ gs) ns ∙ ap (λ xs. (old ++ flat_map notice_line (t.notices ++ u.notices)) ++ xs) fr
    ∙ append_assoc old (flat_map notice_line (t.notices ++ u.notices)) (flat_map (air_line size) (t.frames ++ u.frames))

-- what stays of a life while its ends act
pub record Stays {M : Type 0} (old new : LifeKept M) : Type 0 where
  pub srej : new.srej ≡ old.srej
  pub delay : new.delay ≡ old.delay
  pub moment : new.moment ≡ old.moment

-- a turn of the life
abbrev pub turn_kept : {M : Type 0} → ℕ → LifeKept M → Side → Turn
turn_kept size k side = record { rules = rules_new size (settings k.srej); now = k.moment; side = side }

turn_same : {M : Type 0} (size : ℕ) (k : LifeKept M) (side : Side) (w : Life) → LifeStands size k w → turn_kept size k side ≡ turn_at side w
turn_same size k side w s =
    ap (λ (r : Rules). let x : Turn = record { rules = r; now = k.moment; side = side } in x) (sym s.rules)
    ∙ ap (λ n. let x : Turn = record { rules = w.rules; now = n; side = side } in x) (sym s.now)

-- an act at a, and one at b, is one of the life
pub lifts_a : {M : Type 0} (size : ℕ) (answer : Option LifeRefusal) (k l : LifeKept M) (d : Side) (old new : List ℕ) (w : Life) (does : Turn → Ends → Outcome Ends) →
    d ≡ A → Stays k l → LifeStands size k w →
    ((p : Ends) → EndsStand size k.a k.b p → ComesTo size answer l.a l.b old new p (does (turn_kept size k d) p)) →
    LifeComesTo size answer l old new w (lifted A w (does (turn_at A w) (ends_at A w)))
lifts_a size answer k l d old new w does o y s act =
    by (does (turn_at A w) (ends_at A w))
    (subst (λ (x : Turn). ComesTo size answer l.a l.b old new (ends_at A w) (does x (ends_at A w))) (ap (λ (x : Side). turn_kept size k x) o ∙ turn_same size k A w s) (act (ends_at A w) (record { near = s.a; far = s.b })))
  where
    stands : (p : Ends) → EndsStand size l.a l.b p → LifeStands size l (with_ends A p w)
    stands p e = record { rules = rw y.srej s.rules; delay = s.delay ∙ sym y.delay; now = s.now ∙ sym y.moment; a = e.near; b = e.far }

    by : (x : Outcome Ends) → ComesTo size answer l.a l.b old new (ends_at A w) x → LifeComesTo size answer l old new w (lifted A w x)
    by (Refused refusal) c = (c.0, stands (ends_at A w) c.1, c.2)
    by (Done told p) c = (c.0, stands p c.1, c.2)

pub lifts_b : {M : Type 0} (size : ℕ) (answer : Option LifeRefusal) (k l : LifeKept M) (d : Side) (old new : List ℕ) (w : Life) (does : Turn → Ends → Outcome Ends) →
    d ≡ B → Stays k l → LifeStands size k w →
    ((p : Ends) → EndsStand size k.b k.a p → ComesTo size answer l.b l.a old new p (does (turn_kept size k d) p)) →
    LifeComesTo size answer l old new w (lifted B w (does (turn_at B w) (ends_at B w)))
lifts_b size answer k l d old new w does o y s act =
    by (does (turn_at B w) (ends_at B w))
    (subst (λ (x : Turn). ComesTo size answer l.b l.a old new (ends_at B w) (does x (ends_at B w))) (ap (λ (x : Side). turn_kept size k x) o ∙ turn_same size k B w s) (act (ends_at B w) (record { near = s.b; far = s.a })))
  where
    stands : (p : Ends) → EndsStand size l.b l.a p → LifeStands size l (with_ends B p w)
    stands p e = record { rules = rw y.srej s.rules; delay = s.delay ∙ sym y.delay; now = s.now ∙ sym y.moment; a = e.far; b = e.near }

    by : (x : Outcome Ends) → ComesTo size answer l.b l.a old new (ends_at B w) x → LifeComesTo size answer l old new w (lifted B w x)
    by (Refused refusal) c = (c.0, stands (ends_at B w) c.1, c.2)
    by (Done told p) c = (c.0, stands p c.1, c.2)

-- time goes on at a and then at b, and the frames are told behind the notices
pub ticks : {M : Type 0} (size : ℕ) (k m l : LifeKept M) (old mid new none fs gs last : List ℕ) (w : Life) →
    Stays k m → Stays m l → LifeStands size k w → none ≡ [] →
    ((p : Ends) → EndsStand size k.a k.b p → Ticked size (turn_kept size k A) m.a m.b old mid none fs p) →
    ((p : Ends) → EndsStand size m.b m.a p → Ticked size (turn_kept size m B) l.b l.a mid new fs gs p) →
    last ≡ new ++ gs → LifeComesTo size None l old last w (tick_both w)
ticks size k m l old mid new none fs gs last w y1 y2 s start first next e =
    (refl, stands, told)
  where
    g : Effect
    g = step w.a.link Tick w.now

    one : Ticked size (turn_at A w) m.a m.b old mid none fs (ends_at A w)
    one = subst (λ (x : Turn). Ticked size x m.a m.b old mid none fs (ends_at A w)) (turn_same size k A w s) (first (ends_at A w) (record { near = s.a; far = s.b }))

    v : Life
    v = with_ends A (step_near w.rules w.now g (ends_at A w)) w

    between : LifeStands size m v
    between = record { rules = rw y1.srej s.rules; delay = s.delay ∙ sym y1.delay; now = s.now ∙ sym y1.moment; a = one.stands.near; b = one.stands.far }

    h : Effect
    h = step v.b.link Tick v.now

    two : Ticked size (turn_at B v) l.b l.a mid new fs gs (ends_at B v)
    two = subst (λ (x : Turn). Ticked size x l.b l.a mid new fs gs (ends_at B v)) (turn_same size m B v between) (next (ends_at B v) (record { near = between.b; far = between.a }))

    stands : LifeStands size l (with_ends B (step_near v.rules v.now h (ends_at B v)) v)
    stands = record { rules = rw y2.srej between.rules; delay = between.delay ∙ sym y2.delay; now = between.now ∙ sym y2.moment; a = two.stands.far; b = two.stands.near }

    told : last ≡ old ++ told_text size (joined (told_by_step A [] g) (told_by_step B [] h))
    told = e ∙ both_told size g h old mid new fs gs one.notices two.notices (one.frames ∙ ap (λ xs. xs ++ frames_text size A g) start) two.frames

-- a frame that is late is so for the code too
pub late_same : (size delay now : ℕ) (fs : List FlightKept) → is_late_kept delay now fs ≡ is_late delay now (map (flight_of size) fs)
late_same size delay now [] = refl
late_same size delay now (f ∷ fs) = ap (λ b. nat_lt delay (now - f.sent) || b) (late_same size delay now fs)

-- why time can't go on
pub late_by : {M : Type 0} (size : ℕ) (k : LifeKept M) (w : Life) (later : ℕ) → LifeStands size k w →
    delay_refusal w later ≡ (if is_late_kept k.delay later k.a.book.coming.items || is_late_kept k.delay later k.b.book.coming.items then Some why.Delay else None)
late_by size k w later s =
    let at : ℕ → List Flight → List Flight → Option LifeRefusal = λ d fs gs. if is_late d later fs || is_late d later gs then Some why.Delay else None in
    ap (λ d. at d w.a.coming w.b.coming) s.delay
    ∙ ap (λ (fs : List Flight). at k.delay fs w.b.coming) s.a.book.coming
    ∙ ap (λ (fs : List Flight). at k.delay (map (flight_of size) k.a.book.coming.items) fs) s.b.book.coming
    ∙ ap (λ b. if b || is_late k.delay later (map (flight_of size) k.b.book.coming.items) then Some why.Delay else None) (sym (late_same size k.delay later k.a.book.coming.items))
    ∙ ap (λ b. if is_late_kept k.delay later k.a.book.coming.items || b then Some why.Delay else None) (sym (late_same size k.delay later k.b.book.coming.items))

-- a line that is refused, and one that is done
pub writes_refused : {M : Type 0} (size line : ℕ) (refusal : LifeRefusal) (k : LifeKept M) (old mid new : List ℕ) (w : Life) (o : Outcome Life) →
    LifeComesTo size (Some refusal) k old mid w o → new ≡ mid ++ refused_line line refusal → LineWritten size k old new line w o
writes_refused size line refusal k old mid new w (Refused r) c e =
    let same : refusal ≡ r = cc (c.0) in
    record { life = c.1; text = e ∙ ap (λ xs. xs ++ refused_line line refusal) c.2 ∙ ap (λ (x : LifeRefusal). old ++ refused_line line x) same }
writes_refused size line refusal k old mid new w (Done t v) c e = absurd (cc (c.0))

pub writes_done : {M : Type 0} (size line : ℕ) (k : LifeKept M) (old new : List ℕ) (w : Life) (o : Outcome Life) → LifeComesTo size None k old new w o → LineWritten size k old new line w o
writes_done size line k old new w (Refused r) c = absurd (cc (c.0))
writes_done size line k old new w (Done u v) c = record { life = c.1; text = c.2 }

-- what stands in the way of a whole life
unless_refused : {M : Type 0} (size : ℕ) (refusal : LifeRefusal) (k : LifeKept M) (old : List ℕ) (w : Life) (o : Option LifeRefusal) (done : Outcome Life) → o ≡ Some refusal → LifeStands size k w →
    LifeComesTo size (Some refusal) k old old w (unless o done)
unless_refused size refusal k old w o done e s = subst (λ (x : Option LifeRefusal). LifeComesTo size (Some refusal) k old old w (unless x done)) (sym e) (refl, s, refl)

unless_done : {M : Type 0} (size : ℕ) (k : LifeKept M) (old new : List ℕ) (w : Life) (o : Option LifeRefusal) (done : Outcome Life) → o ≡ None →
    LifeComesTo size None k old new w done → LifeComesTo size None k old new w (unless o done)
unless_done size k old new w o done e c = subst (λ (x : Option LifeRefusal). LifeComesTo size None k old new w (unless x done)) (sym e) c

-- the answer of a life's act says nothing of the life before but where it is refused
other_start : {M : Type 0} (size : ℕ) (k : LifeKept M) (old new : List ℕ) (v w : Life) (o : Outcome Life) → LifeComesTo size None k old new v o → LifeComesTo size None k old new w o
other_start size k old new v w (Refused refusal) c = absurd (cc (c.0))
other_start size k old new v w (Done told x) c = c

later_same : {M : Type 0} (size : ℕ) (k : LifeKept M) (w : Life) (passed later : ℕ) → LifeStands size k w → later ≡ min (k.moment + passed) (2 ^ 64 - 1) → later ≡ min (w.now + passed) (2 ^ 64 - 1)
later_same size k w passed later s e = e ∙ ap (λ n. min (n + passed) (2 ^ 64 - 1)) (sym s.now)

pub late_refused : {M : Type 0} (size : ℕ) (k : LifeKept M) (old : List ℕ) (w : Life) (passed later : ℕ) → LifeStands size k w → later ≡ min (k.moment + passed) (2 ^ 64 - 1) →
    (is_late_kept k.delay later k.a.book.coming.items || is_late_kept k.delay later k.b.book.coming.items) ≡ true → LifeComesTo size (Some why.Delay) k old old w (tick_on passed w)
late_refused size k old w passed later s e late =
    subst (λ n. LifeComesTo size (Some why.Delay) k old old w (tick_to n w)) (later_same size k w passed later s e)
    (unless_refused size why.Delay k old w (delay_refusal w later) (tick_both (record w { now = later })) (late_by size k w later s ∙ ap (λ b. if b then Some why.Delay else None) late) s)

pub time_goes : {M : Type 0} (size : ℕ) (k l : LifeKept M) (old new : List ℕ) (w : Life) (passed later : ℕ) → LifeStands size k w → later ≡ min (k.moment + passed) (2 ^ 64 - 1) →
    (is_late_kept k.delay later k.a.book.coming.items || is_late_kept k.delay later k.b.book.coming.items) ≡ false →
    ((v : Life) → LifeStands size (record k { moment = later }) v → LifeComesTo size None l old new v (tick_both v)) → LifeComesTo size None l old new w (tick_on passed w)
time_goes size k l old new w passed later s e late next =
    let v : Life = record w { now = later } in
    let stands : LifeStands size (record k { moment = later }) v = record { rules = s.rules; delay = s.delay; now = refl; a = s.a; b = s.b } in
    subst (λ n. LifeComesTo size None l old new w (tick_to n w)) (later_same size k w passed later s e)
    (unless_done size l old new w (delay_refusal w later) (tick_both v) (late_by size k w later s ∙ ap (λ b. if b then Some why.Delay else None) late)
    (other_start size l old new v w (tick_both v) (next v stands)))

-- the report so far, and what is still to come
pub line_on : {M : Type 0} (size : ℕ) (k : LifeKept M) (w : Life) (n : NumberedAct) (ns : List NumberedAct) (old new all : List ℕ) → w.rules.size ≡ size →
    LineWritten size k old new n.line w (act_on n.act w) → old ++ life_text w (n ∷ ns) ≡ all → new ++ life_text (after_act (act_on n.act w) w) ns ≡ all
line_on size k w n ns old new all e l q =
    ap (λ xs. xs ++ life_text (after_act (act_on n.act w) w) ns) (l.text ∙ ap (λ m. old ++ line_text m n.line (act_on n.act w)) (sym e))
    ∙ append_assoc old (line_text w.rules.size n.line (act_on n.act w)) (life_text (after_act (act_on n.act w) w) ns) ∙ q
