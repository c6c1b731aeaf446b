-- An act, what is told of its answer, and the frames that are put in the air.
use Rattle.std.proofs.Common.{◌≡◌, ◌∙◌, ℕ, ap, refl, sym, List}
use Rattle.std.specs.Prelude.{Result, Ok, Some, None}
use Rattle.std.specs.List.{position_or_len}
use Rattle.radio_base.specs.declared.modulus.LinkModulus.TheVariants.{Modulo8}
use Rattle.node_core.specs.declared.acts.ActDone.{ActDone}
use Rattle.node_core.specs.declared.acts.ActDone.TheVariants as actions
use Rattle.node_core.specs.declared.acts.ActRefusal.{ActRefusal}
use Rattle.node_core.specs.Acts.{UserAct}
use Rattle.net_model.specs.declared.answer.Answer.{Answer}
use Rattle.net_model.specs.declared.answer.Answer.TheVariants as answers
use Rattle.net_model.specs.declared.refusals.LineRefusal.{LineRefusal}
use Rattle.net_model.specs.declared.refusals.ReplayRefusal.{ReplayRefusal}
use Rattle.net_model.specs.Events.{Event}
use Rattle.net_model.specs.Lines.{refusal_events, events_of_act, took_of}
use Rattle.net_world.specs.Running.{Course, GoesOn, Runs, Stands}
use Rattle.net_model.specs.Answers.{IsAnswerTo, IsRefusedFor, answer_events, message_events, message_in, refusal_in, taken_events}
use Rattle.net_model.specs.Standing.{is_member}
use Rattle.net_model.specs.World.{Act, World, answer, place_of_node, put, reach, tell}
use Rattle.net_world.proofs.Placing.{place_is}
use Rattle.net_world.proofs.Runs.{goes_then, runs_as, runs_then}

-- at the place of a number
pub at_number : (old new : Course) (number at : ℕ) (f : ℕ → World → World) (r : Result (Unit {0}) ReplayRefusal)
    → at ≡ position_or_len (is_member number) old.left.members → Runs old new (f at) r → Runs old new (λ w. f (place_of_node number w.nodes) w) r
at_number old new number at f r e h =
    runs_as old new (f at) (λ w. f (place_of_node number w.nodes) w) r (λ w t. ap (λ k. f k w) (place_is old w number at e t)) h

-- ---- what is told of an answer

pub told_is : (a : Answer) (r : Result ActDone ActRefusal) → IsAnswerTo a r → events_of_act r ≡ answer_events a
told_is answers.Done r h = ap events_of_act h.1
told_is (answers.Took message) r h = ap events_of_act h.1
told_is (answers.Refused why) r h = ap events_of_act h.1 ∙ ap refusal_events h.2

took_done : (node end : ℕ) (done : ActDone) → took_of node end (Ok done) ≡ message_events node end (message_in done)
took_done node end actions.Done = refl
took_done node end (actions.Made id) = refl
took_done node end (actions.Took message) = refl

pub took_is : (node end : ℕ) (a : Answer) (r : Result ActDone ActRefusal) → IsAnswerTo a r → took_of node end r ≡ taken_events node end a
took_is node end answers.Done r h = ap (took_of node end) h.1 ∙ (took_done node end h.0 ∙ ap (message_events node end) h.2)
took_is node end (answers.Took message) r h = ap (took_of node end) h.1 ∙ (took_done node end h.0 ∙ ap (message_events node end) h.2)
took_is node end (answers.Refused why) r h = ap (took_of node end) h.1 ∙ ap refusal_events h.2

-- an act that isn't refused was done, and one that is was refused for that
pub was_done : (a : Answer) (r : Result ActDone ActRefusal) → None ≡ refusal_in a → IsAnswerTo a r → (done : ActDone) × (r ≡ Ok done)
was_done answers.Done r e h = (h.0, h.1)
was_done (answers.Took message) r e h = (h.0, h.1)
was_done (answers.Refused why) r e h = absurd (cc)

pub was_refused : (a : Answer) (r : Result ActDone ActRefusal) (why : LineRefusal) → Some why ≡ refusal_in a → IsAnswerTo a r → IsRefusedFor why r
was_refused answers.Done r why e h = absurd (cc)
was_refused (answers.Took message) r why e h = absurd (cc)
was_refused (answers.Refused other) r why e h = (h.0, h.1, h.2 ∙ sym e)

-- ---- the whole

pub acted : (old reached told new : Course) (line at : ℕ) (act : UserAct) (r : Result (Unit {0}) ReplayRefusal)
    (says : Result ActDone ActRefusal → List Event) (events : List Event) → GoesOn old reached (reach line at (Act act))
    → ((w : World) → Stands old w → says (answer at act w) ≡ events) → GoesOn reached told (tell line events) → Runs told new (put line at Modulo8) r
    → Runs old new (λ w. put line at Modulo8 (tell line (says (answer at act w)) (reach line at (Act act) w))) r
acted old reached told new line at act r says events goes same tells runs =
    runs_as old new (λ w. put line at Modulo8 (tell line events (reach line at (Act act) w)))
    (λ w. put line at Modulo8 (tell line (says (answer at act w)) (reach line at (Act act) w))) r
    (λ w t. ap (λ es. put line at Modulo8 (tell line es (reach line at (Act act) w))) (sym (same w t)))
    (runs_then old told new (λ w. tell line events (reach line at (Act act) w)) (put line at Modulo8) r
    (goes_then old reached told (reach line at (Act act)) (tell line events) goes tells) runs)
