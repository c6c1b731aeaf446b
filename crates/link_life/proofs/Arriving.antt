-- A frame comes.
use Rattle.std.proofs.Common.{◌≡◌, ℕ, Bool, true, false, not, ◌&&◌, ◌==◌, if◌then◌else◌, List, [], ◌∷◌, ◌++◌, map, Option, Some, None, slice_get, refl, ap, sym, ◌∙◌, subst}
use Rattle.ax_frame.specs.declared.control.Control.{Control}
use Rattle.ax_frame.specs.declared.control.Control.TheVariants as control
use Rattle.ax_link.specs.declared.facts.LinkFacts.{LinkFacts}
use Rattle.ax_link.specs.declared.phase.LinkPhase.{LinkPhase}
use Rattle.ax_link.specs.Kinds.{kind_of, set_up_kind}
use Rattle.ax_link.specs.Opening.{facts_of}
use Rattle.ax_link.specs.Standing.{Stands, StandsFor, frame_of}
use Rattle.ax_link.specs.State.{State, is_up}
use Rattle.ax_link.specs.Table.{Arrive, step}
use Rattle.link_life.specs.declared.flight.Flight.{Flight as FlightKept}
use Rattle.link_life.specs.declared.epoch.Lasting.{Lasting}
use Rattle.link_life.specs.declared.end.End.{End as EndKept}
use Rattle.link_life.specs.declared.turn.Turn.{Turn as TurnKept}
use Rattle.link_life.specs.Ends.{End, Ends, Flight, heard_more, is_of_account}
use Rattle.link_life.specs.Lives.{arrive_first, moved}
use Rattle.link_life.specs.Standing.{ComesTo, EndsStand, FactsAre, account_at, flight_of, heard_kept, lasting_of, lasting_with, turn_of}
use Rattle.link_life.proofs.Acting.{SettlesTo, TellsOf, moves}
use Rattle.link_life.proofs.Books.{facts_stand}

-- a set-up command has no numbers, whatever it sets up
set_up_none : (command own pf : Bool) → false ≡ is_of_account (set_up_kind command own pf)
set_up_none false own pf = refl
set_up_none true true pf = refl
set_up_none true false pf = refl

account_same : (size : ℕ) (command : Bool) (c : Control) → account_at c ≡ is_of_account (kind_of size command c)
account_same size command (control.I ns nr pf) = refl
account_same size command (control.Rr nr pf) = refl
account_same size command (control.Rnr nr pf) = refl
account_same size command (control.Rej nr pf) = refl
account_same size command (control.Srej nr pf) = refl
account_same size command (control.Sabm pf) = set_up_none command (size == 8) pf
account_same size command (control.Sabme pf) = set_up_none command (not (size == 8)) pf
account_same size command (control.Disc pf) = refl
account_same size command (control.Dm pf) = refl
account_same size command (control.Ua pf) = refl
account_same size command (control.Frmr pf) = refl
account_same size command (control.Ui pf) = refl
account_same size command (control.Xid pf) = refl
account_same size command (control.Test pf) = refl

first_same : (epoch : ℕ) (hs : List ℕ) → lasting_with epoch (Some (record { partner = slice_get hs 0 })) ≡ lasting_of (Some (hs ++ epoch ∷ []))
first_same epoch [] = refl
first_same epoch (x ∷ xs) = refl

lasting_same : (epoch : ℕ) (heard : Option (List ℕ)) → lasting_with epoch (lasting_of heard) ≡ lasting_of (heard_more epoch heard)
lasting_same epoch None = refl
lasting_same epoch (Some hs) = first_same epoch hs

pub arrives : {M : Type 0} (size : ℕ) (t : TurnKept) (fl : FlightKept) (fs : List FlightKept) (f : LinkFacts) (one mid other two other2 : EndKept M) (old new : List ℕ) (p : Ends) →
    EndsStand size one other p → f ≡ facts_of one.link → one.book.coming.items ≡ fl ∷ fs →
    ((s : State) → StandsFor size one.link s → Stands size mid.link (step s (Arrive (frame_of size fl.out)) t.moment)) →
    mid.book.over.items ≡ one.book.over.items → mid.book.lasting ≡ heard_kept fl f.phase one.book.lasting → mid.book.down_since ≡ one.book.down_since → mid.book.coming.items ≡ fs →
    SettlesTo size t f mid other two other2 → TellsOf size t mid old new →
    ComesTo size None two other2 old new p (arrive_first (turn_of size t) p.near.coming p)
arrives size t fl fs f one mid other two other2 old new p s e q does o l d r stands tells =
    subst (λ (cs : List Flight). ComesTo size None two other2 old new p (arrive_first (turn_of size t) cs p)) (sym coming)
    (by (is_up p.near.link.phase && is_of_account (kind_of size fl.out.command fl.out.control)) heard)
  where
    coming : p.near.coming ≡ flight_of size fl ∷ map (flight_of size) fs
    coming = s.near.book.coming ∙ ap (λ xs. map (flight_of size) xs) q

    facts : FactsAre f p.near.link
    facts = rw e (facts_stand size one.link p.near.link s.near.link)

    heard : mid.book.lasting ≡ (if is_up p.near.link.phase && is_of_account (kind_of size fl.out.command fl.out.control) then lasting_with fl.epoch one.book.lasting else one.book.lasting)
    heard =
        l ∙ ap (λ (ph : LinkPhase). if is_up ph && account_at fl.out.control then lasting_with fl.epoch one.book.lasting else one.book.lasting) facts.phase
        ∙ ap (λ (b : Bool). if is_up p.near.link.phase && b then lasting_with fl.epoch one.book.lasting else one.book.lasting) (account_same size fl.out.command fl.out.control)

    waiting : End
    waiting = record p.near { coming = map (flight_of size) fs }

    by : (b : Bool) → mid.book.lasting ≡ (if b then lasting_with fl.epoch one.book.lasting else one.book.lasting) →
        ComesTo size None two other2 old new p
        (moved (turn_of size t) (Arrive (frame_of size fl.out)) [] (record p { near = if b then record waiting { heard = heard_more fl.epoch waiting.heard } else waiting }))
    by true h =
        moves size t (Arrive (frame_of size fl.out)) f mid other two other2 old new p (record p { near = record waiting { heard = heard_more fl.epoch waiting.heard } }) facts
        (does p.near.link s.near.link)
        (record {
          over = o ∙ s.near.book.over;
          lasting = h ∙ ap (λ (x : Option Lasting). lasting_with fl.epoch x) s.near.book.lasting ∙ lasting_same fl.epoch p.near.heard;
          down = d ∙ s.near.book.down;
          coming = ap (λ xs. map (flight_of size) xs) (sym r);
        })
        s.far stands tells
    by false h =
        moves size t (Arrive (frame_of size fl.out)) f mid other two other2 old new p (record p { near = waiting }) facts
        (does p.near.link s.near.link)
        (record { over = o ∙ s.near.book.over; lasting = h ∙ s.near.book.lasting; down = d ∙ s.near.book.down; coming = ap (λ xs. map (flight_of size) xs) (sym r) })
        s.far stands tells
