-- What a deframer holds and gives, by several bytes at a time.
use Rattle.std.proofs.Common.{◌≡◌, ◌≢◌, ◌≤◌, ◌<◌, ◌+◌, ℕ, false, List, [], ◌∷◌, ◌++◌, length, take, refl, ap, sym, ◌∙◌, append_assoc, append-nil, length-append, length-take-le, take-append-drop, take_all, zero, suc, drop, get_or, drop-cons, arith, rules, add-one, take-add, ◌-◌}
use Rattle.std.proofs.lemmas.Grind.{common_steps}
use Rattle.std.proofs.Math.Seq.{take-append-add}
use Rattle.std.proofs.lemmas.List.{take-append-le, take_more}
use Rattle.std.specs.List.{AllByRecursion}
use Rattle.std.specs.Prelude.{Option, None, Some, IfNone}
use Rattle.kiss_framing.specs.declared.TheConstants.{LONGEST}
use Rattle.kiss_framing.specs.declared.item.KissItem.{KissItem}
use Rattle.kiss_framing.specs.declared.piece.Ends.{Ends}
use Rattle.kiss_framing.specs.declared.piece.Ends.TheVariants as ends
use Rattle.kiss_framing.specs.Stream.{Item, is_too_long, items, HeldPiece, Piece, Skipped, StandsFor}
use Rattle.kiss_framing.specs.Feeding.{IsQuietBefore, handed_out}
use Rattle.kiss_framing.specs.Stepping.{step, items_at, IsPlain, Leads, LastGives, EndsNext, EndsAt}
use Rattle.kiss_framing.proofs.Steps.{steps}

-- bytes that stand for themselves, as many as there is room for
has_room : (bytes : List ℕ) (b : ℕ) (more : List ℕ) → length bytes + length (b ∷ more) ≤ LONGEST → is_too_long (bytes ++ b ∷ []) ≡ false
has_room bytes b more h = grind (arith, common_steps, length-append bytes (b ∷ []))

pub plain_front : (n : ℕ) (run : List ℕ) → AllByRecursion IsPlain run → AllByRecursion IsPlain (take n run)
plain_front zero run plain = tt
plain_front (suc n) [] plain = tt
plain_front (suc n) (b ∷ more) plain = (plain.0, plain_front n more plain.1)

pub leads_run : (bytes run : List ℕ) → AllByRecursion IsPlain run → length bytes + length run ≤ LONGEST → Leads (Piece bytes false) run (Piece (bytes ++ run) false)
leads_run bytes [] plain h = rw append-nil refl
leads_run bytes (b ∷ more) plain h =
    let room = has_room bytes b more h in
    let later = leads_run (bytes ++ b ∷ []) more plain.1 (omega (arith, h, length-append bytes (b ∷ []))) in
    rw (plain.0.0, plain.0.1, room) (refl, rw append_assoc at later)

-- the same in a piece that is too long
pub leads_skipped : (run : List ℕ) → AllByRecursion IsPlain run → Leads Skipped run Skipped
leads_skipped [] plain = refl
leads_skipped (b ∷ more) plain = rw plain.0.0 (refl, leads_skipped more plain.1)

-- one run of bytes behind another, and then one byte
leads_more : (front more : List ℕ) (held between later : HeldPiece) → Leads held front between → Leads between more later → Leads held (front ++ more) later
leads_more [] more held between later e l = rw e l
leads_more (b ∷ front) more held between later l m = (l.0, leads_more front more _ between later l.1 m)

-- each front of bytes that give no item gives none
leads_front : (bytes : List ℕ) (n : ℕ) (held later : HeldPiece) → Leads held bytes later → (between : HeldPiece) × Leads held (take n bytes) between
leads_front [] zero held later l = (held, refl)
leads_front [] (suc n) held later l = (held, refl)
leads_front (b ∷ more) zero held later l = (held, refl)
leads_front (b ∷ more) (suc n) held later l = let front = leads_front more n _ later l.1 in (front.0, (l.0, front.1))

-- what a deframer is after bytes that give no item
record Passed (stream bytes : List ℕ) (later : HeldPiece) : Type 0 where
  pub held : StandsFor later (stream ++ bytes)
  pub items : items (stream ++ bytes) ≡ items stream

passed : (bytes stream : List ℕ) (held later : HeldPiece) → Leads held bytes later → StandsFor held stream → Passed stream bytes later
passed [] stream held later e h = record { held = rw (append-nil, ← e) h; items = rw append-nil refl }
passed (b ∷ more) stream held later l h =
    let s = steps stream b in
    let rest = passed more (stream ++ b ∷ []) _ later l.1 (rw h s.held) in
    let here : items (stream ++ b ∷ []) ≡ items stream = s.items ∙ (ap (λ given. items stream ++ given) (rw h at l.0) ∙ append-nil _) in
    record { held = rw append_assoc at rest.held; items = rw append_assoc at rest.items ∙ here }

-- what a deframer is and gives after bytes, of which none before the last gives an item
pub record FedSome (held : HeldPiece) (bytes : List ℕ) (count : ℕ) (later : HeldPiece) (given : List Item) : Type 0 where
  pub goes_on : (stream : List ℕ) → StandsFor held stream → StandsFor later (stream ++ take count bytes)
  pub adds : (stream : List ℕ) → StandsFor held stream → items (stream ++ take count bytes) ≡ items stream ++ given
  pub first : (stream : List ℕ) → StandsFor held stream → IsQuietBefore count stream bytes
  pub within : count ≤ length bytes
  pub moves : 0 < length bytes → 0 < count

fed_all : (held : HeldPiece) (bytes : List ℕ) (count : ℕ) (later : HeldPiece) → count ≡ length bytes → Leads held bytes later → FedSome held bytes count later []
fed_all held bytes count later e l =
    let whole : take count bytes ≡ bytes = take_all count bytes (omega (arith, e)) in
    record {
      goes_on = λ stream h. rw whole (passed bytes stream held later l h).held;
      adds = λ stream h. rw whole ((passed bytes stream held later l h).items ∙ sym (append-nil (items stream)));
      first = λ stream h fewer n. let front = leads_front bytes fewer held later l in (passed (take fewer bytes) stream held front.0 front.1 h).items;
      within = omega (arith, e);
      moves = λ h. omega (arith, e, h);
    }

fed_until : (held : HeldPiece) (bytes : List ℕ) (count : ℕ) (later : HeldPiece) (given : List Item) → LastGives held bytes count later given → FedSome held bytes count later given
fed_until held bytes count later given l =
    let taken : take count bytes ≡ l.front ++ l.last ∷ [] = rw (l.cut, l.counted) (take-append-add l.front (l.last ∷ l.rest) 1) in
    record {
      goes_on = λ stream h.
          let before = passed l.front stream held l.between l.led h in
          rw (taken, ← append_assoc) (ap (λ s. s.0) l.gave ∙ rw before.held (steps (stream ++ l.front) l.last).held);
      adds = λ stream h.
          let before = passed l.front stream held l.between l.led h in
          rw (taken, ← append_assoc)
          ((steps (stream ++ l.front) l.last).items
          ∙ ap (λ more. items (stream ++ l.front) ++ more) (sym (rw before.held at (ap (λ s. s.1) l.gave)))
          ∙ ap (λ more. more ++ given) before.items);
      first = λ stream h fewer n.
          let front = leads_front l.front fewer held l.between l.led in
          rw (l.cut, take-append-le fewer l.front (l.last ∷ l.rest) (omega (arith, l.counted, n))) (passed (take fewer l.front) stream held front.0 front.1 h).items;
      within = rw (l.cut) (omega (arith, l.counted, length-append l.front (l.last ∷ l.rest)));
      moves = λ h. omega (arith, l.counted);
    }

-- one run of bytes behind another
pub leads_on : (bytes : List ℕ) (taken count : ℕ) (held between later : HeldPiece) → Leads held (take taken bytes) between → Leads between (take count (drop taken bytes)) later → Leads held (take (taken + count) bytes) later
leads_on bytes taken count held between later before l = rw (take-add taken count bytes) (leads_more (take taken bytes) (take count (drop taken bytes)) held between later before l)

-- the same, and what ends it
gives_more : (bytes : List ℕ) (taken count : ℕ) (held between later : HeldPiece) (given : List Item) → taken ≤ length bytes → Leads held (take taken bytes) between → LastGives between (drop taken bytes) count later given → LastGives held bytes (taken + count) later given
gives_more bytes taken count held between later given h before l =
    record {
      front = take taken bytes ++ l.front;
      last = l.last;
      rest = l.rest;
      between = l.between;
      cut = sym (take-append-drop taken bytes) ∙ (ap (λ more. take taken bytes ++ more) l.cut ∙ sym (append_assoc (take taken bytes) l.front (l.last ∷ l.rest)));
      counted = omega (arith, l.counted, length-append (take taken bytes) l.front, length-take-le taken bytes h);
      led = leads_more (take taken bytes) l.front held between l.between before l.led;
      gave = l.gave;
      some = l.some;
    }

pub ends_more : (bytes : List ℕ) (taken count : ℕ) (held between later : HeldPiece) (e : Ends) (buffer : List ℕ) → taken ≤ length bytes → e ≢ ends.Nothing → Leads held (take taken bytes) between → EndsNext between (drop taken bytes) count e later buffer → EndsAt held bytes (taken + count) e later buffer
ends_more bytes taken count held between later ends.Nothing buffer h n before l = absurd (n refl)
ends_more bytes taken count held between later ends.Piece buffer h n before l = gives_more bytes taken count held between later _ h before l
ends_more bytes taken count held between later ends.Room buffer h n before l = gives_more bytes taken count held between later _ h before l

-- a run of bytes, and the byte behind it
last_gives : (bytes : List ℕ) (run b : ℕ) (held between later : HeldPiece) (given : List Item) → run < length bytes → b ≡ get_or bytes run 0 → Leads held (take run bytes) between → (later, given) ≡ step between b → given ≢ [] → LastGives held bytes (run + 1) later given
last_gives bytes run b held between later given h at before gave some =
    record {
      front = take run bytes;
      last = b;
      rest = drop (run + 1) bytes;
      between = between;
      cut = rw at (sym (take-append-drop run bytes) ∙ ap (λ more. take run bytes ++ more) (rw (add-one run) (drop-cons bytes run 0 h)));
      counted = omega (arith, length-take-le run bytes (omega (arith, h)));
      led = before;
      gave = gave;
      some = some;
    }

pub next_ends : (bytes : List ℕ) (run b : ℕ) (held between later : HeldPiece) (e : Ends) (buffer : List ℕ) → run < length bytes → b ≡ get_or bytes run 0 → Leads held (take run bytes) between → (later, items_at e buffer) ≡ step between b → (e ≢ ends.Nothing → items_at e buffer ≢ []) → EndsNext held bytes (run + 1) e later buffer
next_ends bytes run b held between later ends.Nothing buffer h at before gave some =
    rw (take_more bytes run 0 h) (leads_more (take run bytes) _ held between later before (sym (ap (λ s. s.1) (rw at at gave)), sym (ap (λ s. s.0) (rw at at gave))))
next_ends bytes run b held between later ends.Piece buffer h at before gave some = last_gives bytes run b held between later _ h at before gave (some (search rules))
next_ends bytes run b held between later ends.Room buffer h at before gave some = last_gives bytes run b held between later _ h at before gave (some (search rules))

pub fed_some : (held : HeldPiece) (bytes : List ℕ) (count : ℕ) (e : Ends) (later : HeldPiece) (buffer : List ℕ) → EndsAt held bytes count e later buffer → FedSome held bytes count later (items_at e buffer)
fed_some held bytes count ends.Nothing later buffer l = fed_all held bytes count later l.0 l.1
fed_some held bytes count ends.Piece later buffer l = fed_until held bytes count later _ l
fed_some held bytes count ends.Room later buffer l = fed_until held bytes count later _ l

-- where nothing has ended all were taken in
pub all_taken : (held : HeldPiece) (bytes : List ℕ) (count : ℕ) (e : Ends) (later : HeldPiece) (buffer : List ℕ) (item : Option KissItem) → EndsAt held bytes count e later buffer → handed_out item ≡ items_at e buffer → IfNone item (count ≡ length bytes)
all_taken held bytes count e later buffer (Some item) l h = tt
all_taken held bytes count ends.Nothing later buffer None l h = l.0
all_taken held bytes count ends.Piece later buffer None l h = absurd (l.some (sym h))
all_taken held bytes count ends.Room later buffer None l h = absurd (l.some (sym h))
