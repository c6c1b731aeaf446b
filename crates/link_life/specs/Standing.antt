-- What the code keeps of a life, and for which lives it stands. No public clause cites it: not for the reader of a contract.
use Rattle.std.specs.Prelude.{◌≡◌, ℕ, suc, ◌+◌, ◌^◌, ◌-◌, ◌≤◌, ◌&&◌, min, nat_lt, Bool, true, false, if◌then◌else◌, List, [], ◌∷◌, ◌++◌, length, map, Option, Some, None, slice_get, unwrap_or, codes}
use Rattle.std.specs.Fmt.{decimal}
use Rattle.std.specs.List.{flat_map, list_any}
use Rattle.ax_frame.specs.declared.control.Control.{Control}
use Rattle.ax_frame.specs.declared.control.Control.TheVariants as control
use Rattle.ax_frame.specs.FrameText.{frame_text}
use Rattle.ax_link.specs.declared.facts.LinkFacts.{LinkFacts}
use Rattle.ax_link.specs.declared.notice.LinkNotice.{LinkNotice}
use Rattle.ax_link.specs.declared.out.LinkOut.{LinkOut}
use Rattle.ax_link.specs.declared.phase.LinkPhase.{LinkPhase}
use Rattle.ax_link.specs.declared.refusal.SendRefusal.{SendRefusal}
use Rattle.ax_link.specs.declared.refusal.SendRefusal.TheVariants as sends
use Rattle.ax_link.specs.Kinds.{info_of, pid_of}
use Rattle.ax_link.specs.Opening.{rules_new}
use Rattle.ax_link.specs.Standing.{IsDrained, Stands, StandsFor, frame_of}
use Rattle.ax_link.specs.State.{Effect, State, count_end, is_up}
use Rattle.ax_link.specs.Table.{Tick, step}
use Rattle.link_life.specs.declared.act.Side.{Side}
use Rattle.link_life.specs.declared.life_refusals.LifeRefusal.{LifeRefusal}
use Rattle.link_life.specs.declared.life_refusals.LifeRefusal.TheVariants.{Nothing, NotUp, QueueFull, Exhausted}
use Rattle.link_life.specs.declared.book.Book.{Book}
use Rattle.link_life.specs.declared.epoch.Epoch.{Epoch as EpochKept}
use Rattle.link_life.specs.declared.flight.Flight.{Flight as FlightKept}
use Rattle.link_life.specs.declared.epoch.Lasting.{Lasting}
use Rattle.link_life.specs.declared.turn.Turn.{Turn as TurnKept}
use Rattle.link_life.specs.declared.end.End.{End as EndKept}
use Rattle.link_life.specs.declared.life.Life.{Life as LifeKept}
use Rattle.link_life.specs.Ends.{End, Ends, Epoch, Flight, begins, step_near}
use Rattle.link_life.specs.Lives.{Life, Outcome, Turn, Refused, Done, after_act, settings}
use Rattle.link_life.specs.Reports.{air_line, head_of, letter, line_text, notice_line, told_text}

-- the text of a frame of a side, as it waits to be sent
abbrev pub out_text : Side → LinkOut → List ℕ
out_text side out =
    frame_text (record { head = head_of side out.command; control = out.control; pid = pid_of out.payload; info = info_of out.payload })

-- what stands before a frame's text in its line
abbrev pub air_start : Side → List ℕ
air_start side = codes "air " ++ (letter side ++ codes " ")

-- whether a control field has numbers
abbrev pub account_at : Control → Bool
account_at (control.I ns nr pf) = true
account_at (control.Rr nr pf) = true
account_at (control.Rnr nr pf) = true
account_at (control.Rej nr pf) = true
account_at (control.Srej nr pf) = true
account_at _ = false

-- an epoch, of which the counts and the partner are kept
abbrev pub counted : Epoch → EpochKept
counted e = record { given = length e.given; got = length e.received; acked = e.acked; partner = slice_get e.heard 0 }

abbrev pub lasting_of : Option (List ℕ) → Option Lasting
lasting_of None = None
lasting_of (Some heard) = Some (record { partner = slice_get heard 0 })

-- an epoch by the counts of its link
abbrev pub epoch_kept : LinkFacts → Lasting → EpochKept
epoch_kept facts lasting = record { given = min (facts.acked + facts.held) (2 ^ 64 - 1); got = facts.got; acked = facts.acked; partner = lasting.partner }

abbrev pub over_kept : LinkFacts → Option Lasting → List EpochKept
over_kept facts None = []
over_kept facts (Some lasting) = epoch_kept facts lasting ∷ []

abbrev pub number_by : ℕ → Option Lasting → ℕ
number_by over None = 0
number_by over (Some lasting) = suc over

abbrev pub number_kept : Book → ℕ
number_kept b = number_by (length b.over.items) b.lasting

-- what notices make of the epochs; the facts are those of the link before
abbrev pub over_after : Option LinkNotice → LinkFacts → Book → List EpochKept
over_after None before b = b.over.items
over_after (Some notice) before b = if begins notice then b.over.items ++ over_kept before b.lasting else b.over.items

abbrev pub lasting_after : Option LinkNotice → Option Lasting → Option Lasting
lasting_after None old = old
lasting_after (Some notice) old = if begins notice then Some (record { partner = None }) else old

abbrev pub partner_with : ℕ → Option ℕ → Option ℕ
partner_with epoch None = Some epoch
partner_with epoch (Some partner) = Some partner

abbrev pub lasting_with : ℕ → Option Lasting → Option Lasting
lasting_with epoch None = None
lasting_with epoch (Some lasting) = Some (record { partner = partner_with epoch lasting.partner })

-- what a frame that comes in this phase makes of the epoch that lasts
abbrev pub heard_kept : FlightKept → LinkPhase → Option Lasting → Option Lasting
heard_kept f phase old = if is_up phase && account_at f.out.control then lasting_with f.epoch old else old

abbrev pub is_late_kept : ℕ → ℕ → List FlightKept → Bool
is_late_kept delay now coming = list_any (λ f. nat_lt delay (now - f.sent)) coming

-- a frame under way, by its kind
abbrev pub flight_of : ℕ → FlightKept → Flight
flight_of size f = record { sent = f.sent; epoch = f.epoch; frame = frame_of size f.out }

-- what is kept beside the link
pub record BookStands (size : ℕ) (b : Book) (e : End) : Type 0 where
  pub over : b.over.items ≡ map counted e.over
  pub lasting : b.lasting ≡ lasting_of e.heard
  pub down : b.down_since ≡ e.down_since
  pub coming : e.coming ≡ map (flight_of size) b.coming.items

-- the facts of a link
pub record FactsAre (facts : LinkFacts) (s : State) : Type 0 where
  pub phase : facts.phase ≡ s.phase
  pub given : facts.acked + facts.held ≡ length s.given
  pub few : length s.given ≤ count_end
  pub got : facts.got ≡ length s.received
  pub acked : facts.acked ≡ s.acked

-- one end, and two
pub record EndStands {M : Type 0} (size : ℕ) (k : EndKept M) (e : End) : Type 0 where
  pub link : StandsFor size k.link e.link
  pub book : BookStands size k.book e

pub record EndsStand {M : Type 0} (size : ℕ) (one two : EndKept M) (p : Ends) : Type 0 where
  pub near : EndStands size one p.near
  pub far : EndStands size two p.far

-- a link has made a step, and what comes of it isn't done
pub record StepStands {M : Type 0} (size : ℕ) (one two : EndKept M) (g : Effect) (p : Ends) : Type 0 where
  pub link : Stands size one.link g
  pub book : BookStands size one.book p.near
  pub far : EndStands size two p.far

-- a link has made a step, and what it told is heeded: what it puts out still waits
pub record Heeded {M : Type 0} (size : ℕ) (k : EndKept M) (g : Effect) (e : End) : Type 0 where
  pub link : Stands size k.link (record g { notes = [] })
  pub book : BookStands size k.book e

-- the lines of a step: those of its notices, and those of its frames
abbrev pub notices_text : Side → Effect → List ℕ
notices_text side g = flat_map notice_line (map (λ n. (side, n)) g.notes)

abbrev pub frames_text : ℕ → Side → Effect → List ℕ
frames_text size side g = flat_map (air_line size) (map (λ f. (side, f)) g.outs)

-- the oldest of these frames is lost, if there is one
abbrev pub LosesTo : {M : Type 0} → ℕ → Option LifeRefusal → EndKept M → End → List Flight → Type 0
LosesTo size answer k e [] = (answer ≡ Some Nothing) × EndStands size k e
LosesTo size answer k e (f ∷ fs) = (answer ≡ None) × EndStands size k (record e { coming = fs })

-- why a payload isn't accepted
abbrev pub of_send : SendRefusal → LifeRefusal
of_send sends.NotUp = NotUp
of_send sends.QueueFull = QueueFull
of_send sends.Exhausted = Exhausted

-- when and where an act is done
abbrev pub turn_of : ℕ → TurnKept → Turn
turn_of size t = record { rules = rules_new size (settings t.srej); now = t.moment; side = t.side }

-- an act at an end was refused and has changed nothing, or it was done and what it told was added
abbrev pub ComesTo : {M : Type 0} → ℕ → Option LifeRefusal → EndKept M → EndKept M → List ℕ → List ℕ → Ends → Outcome Ends → Type 0
ComesTo size answer near far old new p (Refused refusal) = (answer ≡ Some refusal) × EndsStand size near far p × (new ≡ old)
ComesTo size answer near far old new p (Done told after) = (answer ≡ None) × EndsStand size near far after × (new ≡ old ++ told_text size told)

-- time came to an end: the lines of its notices were added to one text, and those of its frames to another
pub record Ticked {M : Type 0} (size : ℕ) (t : Turn) (near far : EndKept M) (old new old2 new2 : List ℕ) (p : Ends) : Type 0 where
  pub stands : EndsStand size near far (step_near t.rules t.now (step p.near.link Tick t.now) p)
  pub notices : new ≡ old ++ notices_text t.side (step p.near.link Tick t.now)
  pub frames : new2 ≡ old2 ++ frames_text size t.side (step p.near.link Tick t.now)

-- both ends, and the time
pub record LifeStands {M : Type 0} (size : ℕ) (k : LifeKept M) (w : Life) : Type 0 where
  pub rules : w.rules ≡ rules_new size (settings k.srej)
  pub delay : w.delay ≡ k.delay
  pub now : w.now ≡ k.moment
  pub a : EndStands size k.a w.a
  pub b : EndStands size k.b w.b

-- between two acts nothing waits at a link
pub record Rests {M : Type 0} (k : LifeKept M) : Type 0 where
  pub a : IsDrained k.a.link
  pub b : IsDrained k.b.link

-- an act was refused and has changed nothing, or it was done and what it told was added
abbrev pub LifeComesTo : {M : Type 0} → ℕ → Option LifeRefusal → LifeKept M → List ℕ → List ℕ → Life → Outcome Life → Type 0
LifeComesTo size answer k old new w (Refused refusal) = (answer ≡ Some refusal) × LifeStands size k w × (new ≡ old)
LifeComesTo size answer k old new w (Done told after) = (answer ≡ None) × LifeStands size k after × (new ≡ old ++ told_text size told)

-- a line was done or refused, and what is reported of it was added
pub record LineWritten {M : Type 0} (size : ℕ) (k : LifeKept M) (old new : List ℕ) (line : ℕ) (w : Life) (outcome : Outcome Life) : Type 0 where
  pub life : LifeStands size k (after_act outcome w)
  pub text : new ≡ old ++ line_text size line outcome

-- given=G got=H acked=A partner=P
abbrev pub counts_kept : EpochKept → List ℕ
counts_kept e =
    codes "given="
    ++ (decimal e.given ++ (codes " got=" ++ (decimal e.got ++ (codes " acked=" ++ (decimal e.acked ++ (codes " partner=" ++ decimal (unwrap_or e.partner 0)))))))

abbrev pub epoch_line_kept : Side → ℕ → EpochKept → List ℕ
epoch_line_kept side number e = codes "epoch " ++ (letter side ++ (codes " " ++ (decimal number ++ (codes " " ++ (counts_kept e ++ codes "\n")))))

abbrev pub epoch_lines_kept : Side → ℕ → List EpochKept → List ℕ
epoch_lines_kept side n [] = []
epoch_lines_kept side n (e ∷ es) = epoch_line_kept side (suc n) e ++ epoch_lines_kept side (suc n) es
