-- What comes of a step of a link.
use Rattle.std.proofs.Common.{◌≡◌, ℕ, List, [], ◌++◌, map, None, ap, sym, ◌∙◌, append_assoc, subst}
use Rattle.std.specs.Option.{option_to_list}
use Rattle.std.specs.List.{flat_map}
use Rattle.ax_link.specs.declared.facts.LinkFacts.{LinkFacts}
use Rattle.ax_link.specs.declared.notice.LinkNotice.{LinkNotice}
use Rattle.ax_link.specs.Standing.{LinkView, Stands, StandsFor, frame_of}
use Rattle.ax_link.specs.State.{Effect, Frame, State}
use Rattle.link_life.specs.declared.act.Side.{Side}
use Rattle.link_life.specs.declared.book.Book.{Book}
use Rattle.link_life.specs.Ends.{End, after_step, flights, heed, number}
use Rattle.link_life.specs.Lives.{told_by_step}
use Rattle.link_life.specs.Reports.{air_line, notice_line, told_text}
use Rattle.link_life.specs.Standing.{BookStands, FactsAre, flight_of, frames_text, lasting_after, notices_text, over_after}
use Rattle.link_life.proofs.Books.{heeds}

pub notes_of : (size : ℕ) (h : LinkView) (g : Effect) → Stands size h g → g.notes ≡ option_to_list h.notice
notes_of size h g s = ap (λ (x : Effect). x.notes) s.keeps.is

pub outs_of : (size : ℕ) (h : LinkView) (g : Effect) → Stands size h g → g.outs ≡ map (frame_of size) h.outs
outs_of size h g s = ap (λ (x : Effect). x.outs) s.keeps.is

-- the link once its notice is fetched, and the link alone once its frames are
pub heeded_link : (size : ℕ) (h h1 : LinkView) (g : Effect) → Stands size h g → h1 ≡ record h { notice = None } → Stands size h1 (record g { notes = [] })
heeded_link size h h1 g s e =
    record {
      keeps = record {
        before = s.keeps.before;
        received = s.keeps.received;
        acked = rw e s.keeps.acked;
        got = rw e s.keeps.got;
        is = rw e (ap (λ (x : Effect). record x { notes = [] }) s.keeps.is);
      };
      bounds = s.bounds;
      sized = s.sized;
    }

pub link_rests : (size : ℕ) (h h1 : LinkView) (g : Effect) → Stands size h g → h1 ≡ record h { outs = [] } → StandsFor size h1 g.link
link_rests size h h1 g s e =
    record {
      keeps = record { before = s.keeps.before; received = s.keeps.received; acked = rw e s.keeps.acked; got = rw e s.keeps.got; is = rw e (ap (λ (x : Effect). x.link) s.keeps.is) };
      bounds = s.bounds;
      sized = s.sized;
    }

pub relinked : (size : ℕ) (b : Book) (e : End) (s : State) → BookStands size b e → BookStands size b (record e { link = s })
relinked size b e s t = record { over = t.over; lasting = t.lasting; down = t.down; coming = t.coming }

-- the near end's book, after the notices
pub book_heeds : (size : ℕ) (h : LinkView) (b c : Book) (g : Effect) (e : End) (f : LinkFacts) → Stands size h g → FactsAre f e.link → BookStands size b e →
    c.over.items ≡ over_after h.notice f b → c.lasting ≡ lasting_after h.notice b.lasting → c.down_since ≡ b.down_since → c.coming.items ≡ b.coming.items →
    BookStands size c (after_step g e)
book_heeds size h b c g e f s a t o l d q =
    relinked size c (heed g.notes e) g.link (subst (λ (ns : List LinkNotice). BookStands size c (heed ns e)) (sym (notes_of size h g s)) (heeds size b c e h.notice f a t o l d q))

-- the far end's book, after the frames have set out
pub far_gains : (size now epoch : ℕ) (b c : Book) (h : LinkView) (g : Effect) (e n : End) → Stands size h g → BookStands size b e → epoch ≡ number n →
    c.over.items ≡ b.over.items → c.lasting ≡ b.lasting → c.down_since ≡ b.down_since →
    map (flight_of size) c.coming.items ≡ map (flight_of size) b.coming.items ++ flights now epoch (map (frame_of size) h.outs) →
    BookStands size c (record e { coming = e.coming ++ flights now (number n) g.outs })
far_gains size now epoch b c h g e n s t k o l d q =
    record {
      over = o ∙ t.over;
      lasting = l ∙ t.lasting;
      down = d ∙ t.down;
      coming =
          ap (λ xs. xs ++ flights now (number n) g.outs) t.coming
          ∙ ap (λ m. map (flight_of size) b.coming.items ++ flights now m g.outs) (sym k)
          ∙ ap (λ (fs : List Frame). map (flight_of size) b.coming.items ++ flights now epoch fs) (outs_of size h g s)
          ∙ sym q;
    }

-- what was told
pub notices_so : (size : ℕ) (side : Side) (h : LinkView) (g : Effect) (old new : List ℕ) → Stands size h g →
    new ≡ old ++ flat_map notice_line (map (λ n. (side, n)) (option_to_list h.notice)) → new ≡ old ++ notices_text side g
notices_so size side h g old new s n = n ∙ ap (λ (ns : List LinkNotice). old ++ flat_map notice_line (map (λ m. (side, m)) ns)) (sym (notes_of size h g s))

pub frames_so : (size : ℕ) (side : Side) (h : LinkView) (g : Effect) (old new : List ℕ) → Stands size h g →
    new ≡ old ++ flat_map (air_line size) (map (λ f. (side, f)) (map (frame_of size) h.outs)) → new ≡ old ++ frames_text size side g
frames_so size side h g old new s f = f ∙ ap (λ (fs : List Frame). old ++ flat_map (air_line size) (map (λ m. (side, m)) fs)) (sym (outs_of size h g s))

-- the frames behind the notices
pub told_so : (size : ℕ) (side : Side) (g : Effect) (old mid new : List ℕ) → mid ≡ old ++ notices_text side g → new ≡ mid ++ frames_text size side g → new ≡ old ++ told_text size (told_by_step side [] g)
told_so size side g old mid new n f = f ∙ ap (λ xs. xs ++ frames_text size side g) n ∙ append_assoc old (notices_text side g) (frames_text size side g)
