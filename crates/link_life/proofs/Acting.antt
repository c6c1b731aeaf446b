-- What is done at one end.
use Rattle.std.proofs.Common.{◌≡◌, ◌+◌, ◌-◌, ℕ, Bool, true, false, not, ◌||◌, nat_le, if◌then◌else◌, List, [], ◌++◌, length, Option, Some, None, Result, Ok, Err, refl, ap, sym, ◌∙◌, subst, arith, length-append}
use Rattle.ax_link.specs.declared.facts.LinkFacts.{LinkFacts}
use Rattle.ax_link.specs.declared.phase.LinkPhase.{LinkPhase}
use Rattle.ax_link.specs.declared.refusal.SendRefusal.{SendRefusal}
use Rattle.ax_link.specs.Opening.{answer_by, rules_new, send_answer}
use Rattle.ax_link.specs.Standing.{LinkView, Stands, StandsFor}
use Rattle.ax_link.specs.State.{Effect, State, count_end}
use Rattle.ax_link.specs.Table.{Input, Tick, may_close, step}
use Rattle.link_life.specs.declared.life_refusals.LifeRefusal.{LifeRefusal}
use Rattle.link_life.specs.declared.life_refusals.LifeRefusal.TheVariants as why
use Rattle.link_life.specs.declared.turn.Turn.{Turn as TurnKept}
use Rattle.link_life.specs.declared.end.End.{End as EndKept}
use Rattle.link_life.specs.Ends.{End, Ends, after_step, step_near}
use Rattle.link_life.specs.Lives.{Outcome, moved, send_refusal, settings, told_by_step, unless}
use Rattle.link_life.specs.Reports.{told_text}
use Rattle.link_life.specs.Standing.{BookStands, ComesTo, EndStands, EndsStand, FactsAre, Heeded, StepStands, Ticked, frames_text, notices_text, of_send, turn_of}
use Rattle.link_life.proofs.Settling.{heeded_link}

-- what comes of a step, as `settle` says it
abbrev pub SettlesTo : {M : Type 0} → ℕ → TurnKept → LinkFacts → (mid other two other2 : EndKept M) → Type 0
SettlesTo size t f mid other two other2 =
    (q : Ends) (g : Effect) → FactsAre f q.near.link → StepStands size mid other g q →
    EndsStand size two other2 (step_near (rules_new size (settings t.srej)) t.moment g q)

abbrev pub TellsOf : {M : Type 0} → ℕ → TurnKept → (mid : EndKept M) → List ℕ → List ℕ → Type 0
TellsOf size t mid old new = (g : Effect) → Stands size mid.link g → new ≡ old ++ told_text size (told_by_step t.side [] g)

-- its two halves, as `heed` and `put_out` say them
abbrev pub HeedsTo : {M : Type 0} → ℕ → LinkFacts → (mid heeded : EndKept M) → Type 0
HeedsTo size f mid heeded = (e : End) (g : Effect) → FactsAre f e.link → Stands size mid.link g → BookStands size mid.book e → BookStands size heeded.book (after_step g e)

abbrev pub PutsOut : {M : Type 0} → ℕ → TurnKept → LinkPhase → (heeded other two other2 : EndKept M) → Type 0
PutsOut size t was heeded other two other2 =
    (q : Ends) (g : Effect) → was ≡ q.near.link.phase → Heeded size heeded g (after_step g q.near) → EndStands size other q.far →
    EndsStand size two other2 (step_near (rules_new size (settings t.srej)) t.moment g q)

pub settles : {M : Type 0} (size : ℕ) (t : TurnKept) (f : LinkFacts) (mid heeded other two other2 : EndKept M) →
    heeded.link ≡ record mid.link { notice = None } → HeedsTo size f mid heeded → PutsOut size t f.phase heeded other two other2 → SettlesTo size t f mid other two other2
settles size t f mid heeded other two other2 e heeds puts =
    λ q g a s. puts q g a.phase (record { link = heeded_link size mid.link heeded.link g s.link e; book = heeds q.near g a s.link s.book }) s.far

-- a step of the near end's link was made and settled
pub moves : {M : Type 0} (size : ℕ) (t : TurnKept) (i : Input) (f : LinkFacts) (mid other two other2 : EndKept M) (old new : List ℕ) (p q : Ends) → FactsAre f q.near.link →
    Stands size mid.link (step q.near.link i t.moment) → BookStands size mid.book q.near → EndStands size other q.far →
    SettlesTo size t f mid other two other2 → TellsOf size t mid old new → ComesTo size None two other2 old new p (moved (turn_of size t) i [] q)
moves size t i f mid other two other2 old new p q a l b o stands tells =
    (refl, stands q (step q.near.link i t.moment) a (record { link = l; book = b; far = o }), tells (step q.near.link i t.moment) l)

-- time came to an end
pub comes_ticked : {M : Type 0} (size : ℕ) (t : TurnKept) (f : LinkFacts) (mid heeded other two other2 : EndKept M) (notices notices2 frames frames2 : List ℕ) (p : Ends) → FactsAre f p.near.link →
    Stands size mid.link (step p.near.link Tick t.moment) → BookStands size mid.book p.near → EndStands size other p.far →
    heeded.link ≡ record mid.link { notice = None } → HeedsTo size f mid heeded → PutsOut size t f.phase heeded other two other2 →
    ((g : Effect) → Stands size mid.link g → notices2 ≡ notices ++ notices_text t.side g) →
    ((g : Effect) → Stands size heeded.link g → frames2 ≡ frames ++ frames_text size t.side g) →
    Ticked size (turn_of size t) two other2 notices notices2 frames frames2 p
comes_ticked size t f mid heeded other two other2 notices notices2 frames frames2 p a l b o e heeds puts n r =
    let g : Effect = step p.near.link Tick t.moment in
    record {
      stands = settles size t f mid heeded other two other2 e heeds puts p g a (record { link = l; book = b; far = o });
      notices = n g l;
      frames = r (record g { notes = [] }) (heeded_link size mid.link heeded.link g l e);
    }

-- what stands in the way
pub refuses : {M : Type 0} (size : ℕ) (two other2 : EndKept M) (old : List ℕ) (p : Ends) (refusal : LifeRefusal) (o : Option LifeRefusal) (done : Outcome Ends) → o ≡ Some refusal →
    EndsStand size two other2 p → ComesTo size (Some refusal) two other2 old old p (unless o done)
refuses size two other2 old p refusal o done e s = subst (λ (x : Option LifeRefusal). ComesTo size (Some refusal) two other2 old old p (unless x done)) (sym e) (refl, s, refl)

pub allows : {M : Type 0} (size : ℕ) (two other2 : EndKept M) (old new : List ℕ) (p : Ends) (o : Option LifeRefusal) (done : Outcome Ends) → o ≡ None →
    ComesTo size None two other2 old new p done → ComesTo size None two other2 old new p (unless o done)
allows size two other2 old new p o done e s = subst (λ (x : Option LifeRefusal). ComesTo size None two other2 old new p (unless x done)) (sym e) s

refusal_of : Result (Unit {0}) SendRefusal → Option LifeRefusal
refusal_of (Ok u) = None
refusal_of (Err refusal) = Some (of_send refusal)

answers : (a b c : Bool) → (if a then Some why.NotUp else if b then Some why.QueueFull else if c then Some why.Exhausted else None) ≡ refusal_of (answer_by a b c)
unfolding refusal_of
answers true b c = refl
answers false true c = refl
answers false false true = refl
answers false false false = refl

send_same : (size : ℕ) (h : LinkView) (s : State) → StandsFor size h s → send_refusal s ≡ refusal_of (send_answer h)
send_same size h s t =
    let phase : s.phase ≡ h.phase = ap (λ (x : State). x.phase) t.keeps.is in
    let closing : s.closing ≡ h.closing = ap (λ (x : State). x.closing) t.keeps.is in
    let e : length s.given ≡ length (t.keeps.before ++ h.queue) = ap (λ (x : State). length x.given) t.keeps.is in
    let given : length s.given ≡ h.acked + length h.queue = omega (arith, e, length-append t.keeps.before h.queue, t.keeps.acked) in
    let acked : s.acked ≡ h.acked = ap (λ (x : State). x.acked) t.keeps.is in
    let held : length s.given - s.acked ≡ length h.queue = omega (arith, given, acked) in
    let by : LinkPhase → Bool → ℕ → ℕ → Option LifeRefusal =
    λ ph c k n. if not (may_close ph) || c then Some why.NotUp else if nat_le 128 k then Some why.QueueFull else if nat_le count_end n then Some why.Exhausted else None in
    ap (λ ph. by ph s.closing (length s.given - s.acked) (length s.given)) phase
    ∙ ap (λ c. by h.phase c (length s.given - s.acked) (length s.given)) closing
    ∙ ap (λ k. by h.phase h.closing k (length s.given)) held
    ∙ ap (λ n. by h.phase h.closing (length h.queue) n) given
    ∙ answers (not (may_close h.phase) || h.closing) (nat_le 128 (length h.queue)) (nat_le count_end (h.acked + length h.queue))

pub send_refused : (size : ℕ) (h : LinkView) (s : State) (refusal : SendRefusal) → StandsFor size h s → send_answer h ≡ Err refusal → send_refusal s ≡ Some (of_send refusal)
unfolding refusal_of
send_refused size h s refusal t e = send_same size h s t ∙ ap refusal_of e

pub send_taken : (size : ℕ) (h : LinkView) (s : State) (u : Unit {0}) → StandsFor size h s → send_answer h ≡ Ok u → send_refusal s ≡ None
unfolding refusal_of
send_taken size h s u t e = send_same size h s t ∙ ap refusal_of e
