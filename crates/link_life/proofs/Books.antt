-- What is kept of the epochs stands for them.
use Rattle.std.proofs.Common.{◌≡◌, ◌+◌, ◌^◌, ◌-◌, ℕ, suc, min, Bool, true, false, ◌||◌, if◌then◌else◌, List, [], ◌∷◌, ◌++◌, length, map, Option, Some, None, slice_get, refl, ap, sym, ◌∙◌, arith, length-append}
use Rattle.std.specs.Option.{option_to_list}
use Rattle.std.proofs.lemmas.List.{length-map, map-append}
use Rattle.ax_link.specs.declared.facts.LinkFacts.{LinkFacts}
use Rattle.ax_link.specs.declared.notice.LinkNotice.{LinkNotice}
use Rattle.ax_link.specs.Opening.{facts_of}
use Rattle.ax_link.specs.Standing.{LinkView, StandsFor}
use Rattle.ax_link.specs.State.{State}
use Rattle.link_life.specs.declared.book.Book.{Book}
use Rattle.link_life.specs.declared.epoch.Epoch.{Epoch as EpochKept}
use Rattle.link_life.specs.declared.epoch.Lasting.{Lasting}
use Rattle.link_life.specs.Ends as ends
use Rattle.link_life.specs.Ends.{End, Epoch, begins, epochs, heed, lasting, number}
use Rattle.link_life.specs.Standing.{BookStands, FactsAre, counted, epoch_kept, lasting_after, lasting_of, number_by, number_kept, over_after, over_kept}

pub phase_same : (size : ℕ) (h : LinkView) (s : State) → StandsFor size h s → h.phase ≡ s.phase
phase_same size h s t = sym (ap (λ (x : State). x.phase) t.keeps.is)

pub facts_stand : (size : ℕ) (h : LinkView) (s : State) → StandsFor size h s → FactsAre (facts_of h) s
facts_stand size h s t =
    record {
      phase = phase_same size h s t;
      given =
          let e : length s.given ≡ length (t.keeps.before ++ h.queue) = ap (λ (x : State). length x.given) t.keeps.is in
          omega (arith, e, length-append t.keeps.before h.queue, t.keeps.acked);
      few = t.bounds.numbers;
      got = sym t.keeps.got ∙ sym (ap (λ (x : State). length x.received) t.keeps.is);
      acked = sym (ap (λ (x : State). x.acked) t.keeps.is);
    }

-- the epoch that lasts, as it is counted
pub epoch_same : (f : LinkFacts) (s : State) (hs : List ℕ) → FactsAre f s →
    epoch_kept f (record { partner = slice_get hs 0 }) ≡ counted (record { given = s.given; received = s.received; acked = s.acked; heard = hs })
epoch_same f s hs a =
    let given : min (f.acked + f.held) (2 ^ 64 - 1) ≡ length s.given = omega (arith, a.given, a.few) in
    cc (given, a.got, a.acked)

pub over_same : (f : LinkFacts) (s : State) (heard : Option (List ℕ)) → FactsAre f s → over_kept f (lasting_of heard) ≡ map counted (lasting s heard)
over_same f s None a = refl
over_same f s (Some hs) a = ap (λ (e : EpochKept). e ∷ []) (epoch_same f s hs a)

-- all epochs are over
pub all_over : (size : ℕ) (b : Book) (e : End) (f : LinkFacts) (xs : List EpochKept) → FactsAre f e.link → BookStands size b e → xs ≡ b.over.items ++ over_kept f b.lasting →
    xs ≡ map counted (epochs e)
all_over size b e f xs a s q =
    q ∙ ap (λ ys. ys ++ over_kept f b.lasting) s.over ∙ ap (λ (l : Option Lasting). map counted e.over ++ over_kept f l) s.lasting
    ∙ ap (λ ys. map counted e.over ++ ys) (over_same f e.link e.heard a) ∙ sym (map-append counted e.over (lasting e.link e.heard))

pub heeds : (size : ℕ) (b c : Book) (e : End) (n : Option LinkNotice) (f : LinkFacts) → FactsAre f e.link → BookStands size b e →
    c.over.items ≡ over_after n f b → c.lasting ≡ lasting_after n b.lasting → c.down_since ≡ b.down_since → c.coming.items ≡ b.coming.items →
    BookStands size c (heed (option_to_list n) e)
heeds size b c e None f a s o l d q =
    record { over = o ∙ s.over; lasting = l ∙ s.lasting; down = d ∙ s.down; coming = rw q s.coming }
heeds size b c e (Some notice) f a s o l d q = by (begins notice) o l
  where
    by : (t : Bool) → c.over.items ≡ (if t then b.over.items ++ over_kept f b.lasting else b.over.items) → c.lasting ≡ (if t then Some (record { partner = None }) else b.lasting) →
        BookStands size c (if t || false then record e { over = epochs e; heard = Some [] } else e)
    by true o2 l2 = record { over = all_over size b e f c.over.items a s o2; lasting = l2; down = d ∙ s.down; coming = rw q s.coming }
    by false o2 l2 = record { over = o2 ∙ s.over; lasting = l2 ∙ s.lasting; down = d ∙ s.down; coming = rw q s.coming }

number_at : (n m : ℕ) (heard : Option (List ℕ)) → n ≡ m → number_by n (lasting_of heard) ≡ ends.number_by m heard
number_at n m None e = refl
number_at n m (Some hs) e = ap suc e

pub number_same : (size : ℕ) (b : Book) (e : End) → BookStands size b e → number_kept b ≡ number e
number_same size b e s =
    ap (λ (l : Option Lasting). number_by (length b.over.items) l) s.lasting ∙ number_at (length b.over.items) (length e.over) e.heard (ap length s.over ∙ length-map e.over counted)
