-- Texts that go over a link, payload by payload.
use Rattle.std.proofs.Common.{◌≡◌, ℕ, zero, suc, ◌+◌, ◌-◌, ◌/◌, ◌≤◌, ◌<◌, ◌&&◌, not, min, Bool, true, false, nat_lt, List, [], ◌∷◌, ◌++◌, append-nil, append_assoc, length, length-append, length-drop, take, take_all, drop, Option, Some, None, refl, ap, sym, ◌∙◌, subst, if◌then◌else◌, arith}
use Rattle.std.specs.Prelude.{◌==◌, Result, Ok, Err, OnOk, is_err}
use Rattle.std.specs.Map.{lookup}
use Rattle.std.specs.List.{concat}
use Rattle.std.proofs.lemmas.Bool.Decides.{nat_tests}
use Rattle.std.proofs.lemmas.List.{take-append-drop}
use Rattle.std.proofs.lemmas.Bool.{and_parts}
use Rattle.radio_base.specs.declared.payload.Payload.{Payload}
use Rattle.ax_address.specs.Callsign.{Callsign, same_call}
use Rattle.ax_link.specs.State.{State}
use Rattle.ax_link.specs.State.{count_end}
use Rattle.ax_link.specs.Table.{Send, may_close, step, takes}
use Rattle.ax_segment.specs.Segments.{segments_of}
use Rattle.ax_segment.specs.Segments as segments
use Rattle.ax_segment.specs.declared.TheConstants.{FULL_PIECE}
use Rattle.ax_segment.proofs.Cutting.{length-with_first}
use Rattle.link_table.specs.declared.entry.LinkEntry.{LinkEntry}
use Rattle.link_table.specs.declared.pending.Pending.{Pending}
use Rattle.link_table.specs.declared.route.LinkRoute.{LinkRoute}
use Rattle.link_table.specs.declared.text_refusal.TextRefusal.{TextRefusal}
use Rattle.link_table.specs.declared.text_refusal.TextRefusal.TheVariants.{NoLink, TooLong, Full}
use Rattle.link_table.specs.Frames.{plain_text, segmented}
use Rattle.link_table.specs.Texts as sending
use Rattle.link_table.specs.Standing.{EntryGoes, EntryStands, LinksStand, answer_at, answer_of_entry, held_of, room_in, size_of}
use Rattle.link_table.specs.Table.{Linked, Table}
use Rattle.link_table.specs.Texts.{room_of}
use Rattle.link_table.specs.Works.{Work, step_link}
use Rattle.link_table.specs.Laws.{PiecesAreTheText, TextsAreGiven}
use Rattle.link_table.proofs.Links.{Found, found, none_found}
use Rattle.link_table.proofs.TextLifting.{room_stands}

-- ---- so many payloads are still to be given
pub record ToGive (all left : List Payload) (now : ℕ) (old new : LinkEntry) (k k2 : Pending) : Type 0 where
  pub route : new.route ≡ old.route
  pub size : size_of new.link ≡ size_of old.link
  pub to_give : (w : Work) → EntryStands old k w →
      (w2 : Work) × EntryStands new k2 w2 × (sending.send_each old.route.own left now w2 ≡ sending.send_each old.route.own all now w)

pub to_give_all : (all : List Payload) (now : ℕ) (e : LinkEntry) (k : Pending) → ToGive all all now e e k k
to_give_all all now e k = record { route = refl; size = refl; to_give = λ w s. (w, s, refl) }

-- the payload that is given is the first of those that are left
pub given_first : (all left rest : List Payload) (p : Payload) (now : ℕ) (old mid new : LinkEntry) (k k2 k3 : Pending) → left ≡ p ∷ rest →
    ToGive all left now old mid k k2 → EntryGoes (step_link mid.route.own (Send p) now) mid new k2 k3 → ToGive all rest now old new k k3
given_first all left rest p now old mid new k k2 k3 first so_far goes =
    record {
      route = goes.route ∙ so_far.route;
      size = goes.size ∙ so_far.size;
      to_give = λ w s.
          let own : Callsign = old.route.own in
          let r = so_far.to_give w s in (
            step_link own (Send p) now r.0,
            subst (λ (x : LinkRoute). EntryStands new k3 (step_link x.own (Send p) now r.0)) so_far.route (goes.goes r.0 r.1),
            subst (λ (ps : List Payload). sending.send_each own ps now r.0 ≡ sending.send_each own all now w) first r.2,
          );
    }

-- of the payloads with these octets
pub segment_first : (p : Payload) (infos rest : List (List ℕ)) → p.pid ≡ segmented → infos ≡ p.info.items ∷ rest → sending.payloads segmented infos ≡ p ∷ sending.payloads segmented rest
segment_first p infos rest pid first =
    ap (sending.payloads segmented) first ∙ ap (λ (n : ℕ). record { pid = n; info = p.info } ∷ sending.payloads segmented rest) (sym pid)

pub all_given : (all : List Payload) (now : ℕ) (old new : LinkEntry) (k k2 : Pending) → ToGive all [] now old new k k2 → EntryGoes (sending.send_each old.route.own all now) old new k k2
all_given all now old new k k2 given =
    record {
      route = given.route;
      size = given.size;
      goes = λ w s.
          let r = given.to_give w s in
          subst (EntryStands new k2) r.2 r.1;
    }

-- ---- pieces
none_left : (xs : List ℕ) → length xs ≡ 0 → xs ≡ []
none_left [] e = refl
none_left (x ∷ xs) e = absurd (omega (arith, e))

few_left : (n : ℕ) → n < 256 → n / 256 ≡ 0
few_left n p = omega (arith, p)

one_less : (n : ℕ) → 256 ≤ n → n / 256 ≡ suc ((n - 256) / 256)
one_less n p = omega (arith, p)

pub cut_last : (text : List ℕ) → 0 < length text → length text ≤ 256 → sending.cut text ≡ text ∷ []
cut_last [] some few = absurd (omega (arith, some))
cut_last (first ∷ others) some few = rw (few_left (length others) (omega (arith, few))) refl

cut_by : (text : List ℕ) (n : ℕ) → 0 < length text → n ≡ (length text - 1) / 256 → sending.cut text ≡ sending.pieces n text
cut_by [] n some e = absurd (omega (arith, some))
cut_by (first ∷ others) n some e = rw e (ap (λ (m : ℕ). sending.pieces m (first ∷ others)) (let same : length others / 256 ≡ (suc (length others) - 1) / 256 = omega arith in same))

pub cut_more : (text : List ℕ) → 256 < length text → sending.cut text ≡ take 256 text ∷ sending.cut (drop 256 text)
cut_more text more =
    let n = (length (drop 256 text) - 1) / 256 in
    let long : length (drop 256 text) ≡ length text - 256 = length-drop 256 text in
    let count : suc n ≡ (length text - 1) / 256 = omega (arith, long, more) in
    let whole = cut_by text (suc n) (omega (arith, more)) count in
    let rest = cut_by (drop 256 text) n (omega (arith, long, more)) refl in
    whole ∙ ap (λ (ps : List (List ℕ)). take 256 text ∷ ps) (sym rest)

cut_by_length : (b : Bool) (text : List ℕ) → nat_lt 256 (length text) ≡ b → 0 < length text
    → sending.cut text ≡ take (min (length text) 256) text ∷ sending.cut (drop (min (length text) 256) text)
cut_by_length true text e some =
    let more : 256 < length text = grind (arith, nat_tests, e) in
    let first : min (length text) 256 ≡ 256 = omega (arith, more) in
    rw first (cut_more text more)
cut_by_length false text e some =
    let few : length text ≤ 256 = grind (arith, nat_tests, e) in
    let all : min (length text) 256 ≡ length text = omega (arith, few) in
    let none : length (drop (length text) text) ≡ 0 = omega (arith, length-drop (length text) text) in
    rw (all, take_all (length text) text (omega arith), none_left (drop (length text) text) none) (cut_last text some few)

cut_first : (text : List ℕ) → 0 < length text → sending.cut text ≡ take (min (length text) 256) text ∷ sending.cut (drop (min (length text) 256) text)
cut_first text some = cut_by_length (nat_lt 256 (length text)) text refl some

pub piece_first : (text : List ℕ) → 0 < length text
    → sending.payloads plain_text (sending.cut text)
    ≡ sending.payload plain_text (take (min (length text) 256) text) ∷ sending.payloads plain_text (sending.cut (drop (min (length text) 256) text))
piece_first text some = ap (sending.payloads plain_text) (cut_first text some)

pub length_payloads : (pid : ℕ) (infos : List (List ℕ)) → length (sending.payloads pid infos) ≡ length infos
length_payloads pid [] = refl
length_payloads pid (info ∷ infos) = ap suc (length_payloads pid infos)

length_pieces : (n : ℕ) (text : List ℕ) → length (sending.pieces n text) ≡ suc n
length_pieces zero text = refl
length_pieces (suc n) text = ap suc (length_pieces n (drop 256 text))

pub length_cut : (text : List ℕ) → length (sending.cut text) ≡ (length text + 256 - 1) / 256
length_cut [] = refl
length_cut (first ∷ others) = let e = length_pieces (length others / 256) (first ∷ others) in omega (arith, e)

length_segment_pieces : (n : ℕ) (text : List ℕ) → length (segments.pieces n text) ≡ suc n
length_segment_pieces zero text = refl
length_segment_pieces (suc n) text = ap suc (length_segment_pieces n (drop FULL_PIECE text))

pub length_segments : (pid : ℕ) (text : List ℕ) → length (segments_of pid text) ≡ length text / 255 + 1
length_segments pid text =
    let e = length-with_first (segments.pieces (length text / FULL_PIECE) (pid ∷ text)) in
    let f = length_segment_pieces (length text / FULL_PIECE) (pid ∷ text) in
    omega (arith, e, f)

-- ---- by the modulus of the link
pub of_link : (text : List ℕ) (ps : List Payload) (now : ℕ) (old new : LinkEntry) (k k2 : Pending) → sending.payloads_of (size_of old.link) text ≡ ps →
    EntryGoes (sending.send_each old.route.own ps now) old new k k2 → EntryGoes (sending.send_text_of old.route.own text now) old new k k2
of_link text ps now old new k k2 e g =
    record {
      route = g.route;
      size = g.size;
      goes = λ w s.
          let same : w.linked.link.rules.size ≡ size_of old.link = ap (λ (x : State). x.rules.size) s.link.keeps.is in
          subst (λ qs. EntryStands new k2 (sending.send_each old.route.own qs now w)) (sym (ap (λ n. sending.payloads_of n text) same ∙ e)) (g.goes w s);
    }

-- it goes in segments, or in pieces
pub in_segments_is : (b : Bool) (size : ℕ) (text : List ℕ) → b ≡ sending.in_segments size text → b ≡ true →
    sending.payloads_of size text ≡ sending.payloads segmented (segments_of plain_text text)
in_segments_is b size text e q = ap (λ c. if c then sending.payloads segmented (segments_of plain_text text) else sending.payloads plain_text (sending.cut text)) (sym e ∙ q)

pub in_pieces_is : (b : Bool) (size : ℕ) (text : List ℕ) → b ≡ sending.in_segments size text → b ≡ false →
    sending.payloads_of size text ≡ sending.payloads plain_text (sending.cut text)
in_pieces_is b size text e q = ap (λ c. if c then sending.payloads segmented (segments_of plain_text text) else sending.payloads plain_text (sending.cut text)) (sym e ∙ q)

second : (a b : Bool) → a && b ≡ true → b ≡ true
second true b e = e
second false b e = absurd (cc e)

pub segments_some : (b : Bool) (size : ℕ) (text : List ℕ) → b ≡ sending.in_segments size text → b ≡ true → 1 ≤ length text
segments_some b size text e q =
    let long : nat_lt 256 (length text) ≡ true = second (size == 128) (nat_lt 256 (length text)) (sym e ∙ q) in
    let more : 256 < length text = grind (arith, nat_tests, long) in
    omega (arith, more)

-- ---- why a text isn't sent
pub answer_same : (own peer : Callsign) (text : List ℕ) (es : List (Callsign × LinkEntry)) (t : Table) → LinksStand own es t.links → answer_at peer text es ≡ sending.text_answer peer text t
answer_same own peer text es t s = by (lookup (same_call peer) es) refl
  where
    shape : Bool → ℕ → ℕ → Result (Unit {0}) TextRefusal
    shape b room count =
        if not b then Err NoLink
        else if nat_lt sending.most_text (length text) then Err TooLong
        else if nat_lt room count then Err Full
        else Ok tt

    with_answer : Option Linked → Result (Unit {0}) TextRefusal
    with_answer x = elim x as (λ y. Result (Unit {0}) TextRefusal) [ None ↦ Err NoLink | Some l ↦ sending.answer_of text l.link ]

    by : (x : Option LinkEntry) → lookup (same_call peer) es ≡ x → answer_at peer text es ≡ sending.text_answer peer text t
    by None e = ap (answer_of_entry text) e ∙ sym (ap with_answer (none_found own peer es t.links s e))
    by (Some y) e =
        let f : Found own peer y t.links = found own peer es t.links y s e in
        let h = held_of y.link in
        let link = f.link.link in
        let is = f.stands.link.keeps.is in
        let takes_them = ap (λ (x : State). sending.takes_texts x) is in
        let size = ap (λ (x : State). x.rules.size) is in
        let room = room_stands (size_of y.link) h link f.stands.link in
        ap (answer_of_entry text) e
        ∙ ap (λ b. shape b (room_in h) (length (sending.payloads_of (size_of y.link) text))) (sym takes_them)
        ∙ ap (λ n. shape (sending.takes_texts link) n (length (sending.payloads_of (size_of y.link) text))) (sym room)
        ∙ ap (λ n. shape (sending.takes_texts link) (room_of link) (length (sending.payloads_of n text))) (sym size)
        ∙ sym (ap with_answer f.with)

pub when_ok : {T E : Type 0} (r : Result T E) (P : Type 0) → OnOk r P → is_err r ≡ false → P
when_ok (Ok x) P p e = p
when_ok (Err x) P p e = absurd (cc e)

-- ---- a text is given whole
-- what a payload that is taken changes, and what it leaves
pub record Accepted (s : State) (p : Payload) (later : State) : Type 0 where
  pub given : later.given ≡ s.given ++ p ∷ []
  pub phase : later.phase ≡ s.phase
  pub closing : later.closing ≡ s.closing
  pub acked : later.acked ≡ s.acked

pub accepted : (s : State) (p : Payload) (now : ℕ) → takes s ≡ true → Accepted s p (step s (Send p) now).link
accepted s p now e = rw e (record { given = refl; phase = refl; closing = refl; acked = refl })

pub room_is : (s : State) → sending.takes_texts s ≡ true → room_of s ≡ min (s.acked + 128 - length s.given) (count_end - length s.given)
room_is s e = rw e refl

takes_one : (s : State) → sending.takes_texts s ≡ true → 1 ≤ room_of s → takes s ≡ true
takes_one s e some =
    let room = room_is s e in
    let both = and_parts (may_close s.phase) (not s.closing) e in
    let held : length s.given < s.acked + 128 = omega (arith, room, some) in
    let numbers : length s.given < count_end = omega (arith, room, some) in
    let first : nat_lt (length s.given) (s.acked + 128) ≡ true = grind (arith, nat_tests, held) in
    let second : nat_lt (length s.given) count_end ≡ true = grind (arith, nat_tests, numbers) in
    rw (both.0, both.1, first, second) refl

each_given : (own : Callsign) (ps : List Payload) (now : ℕ) (w : Work) → sending.takes_texts w.linked.link ≡ true → length ps ≤ room_of w.linked.link →
    (sending.send_each own ps now w).linked.link.given ≡ w.linked.link.given ++ ps
each_given own [] now w takes_them room = sym (append-nil w.linked.link.given)
each_given own (p ∷ ps) now w takes_them room =
    let s = w.linked.link in
    let next : Work = step_link own (Send p) now w in
    let one : Accepted s p next.linked.link = accepted s p now (takes_one s takes_them (omega (arith, room))) in
    let still : sending.takes_texts next.linked.link ≡ true = rw (one.phase, one.closing) takes_them in
    let before = room_is s takes_them in
    let later = room_is next.linked.link still in
    let longer : length next.linked.link.given ≡ length s.given + 1 = ap length one.given ∙ length-append s.given (p ∷ []) in
    let acked = one.acked in
    let left : length ps ≤ room_of next.linked.link = omega (arith, before, later, longer, acked, room) in
    each_given own ps now next still left ∙ ap (λ (xs : List Payload). xs ++ ps) one.given ∙ append_assoc s.given (p ∷ []) ps

abbrev answer_for : Bool → Bool → Bool → Result (Unit {0}) TextRefusal
answer_for takes_them long full = if not takes_them then Err NoLink else if long then Err TooLong else if full then Err Full else Ok tt

answer_by : (b c d : Bool) → answer_for b c d ≡ Ok tt → (b ≡ true) × (d ≡ false)
answer_by true true d e = absurd (cc e)
answer_by true false true e = absurd (cc e)
answer_by true false false e = (refl, refl)
answer_by false c d e = absurd (cc e)

pub texts_are_given : TextsAreGiven
texts_are_given own text now w e =
    let s = w.linked.link in
    let ps = sending.payloads_of s.rules.size text in
    let told = answer_by (sending.takes_texts s) (nat_lt sending.most_text (length text)) (nat_lt (room_of s) (length ps)) e in
    let room : length ps ≤ room_of s = grind (arith, nat_tests, told.1) in
    each_given own ps now w told.0 room

joined_pieces : (n : ℕ) (text : List ℕ) → concat (sending.pieces n text) ≡ text
joined_pieces zero text = append-nil text
joined_pieces (suc n) text = ap (λ (xs : List ℕ). take 256 text ++ xs) (joined_pieces n (drop 256 text)) ∙ take-append-drop 256 text

pub pieces_are_the_text : PiecesAreTheText
pieces_are_the_text [] = refl
pieces_are_the_text (first ∷ others) = joined_pieces (length others / 256) (first ∷ others)
