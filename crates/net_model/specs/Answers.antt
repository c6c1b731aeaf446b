-- What comes of an act at a node. No public clause cites it: not for the reader of a contract.
use Rattle.std.specs.Prelude.{ℕ, ◌≡◌, List, [], ◌∷◌, Option, Some, None, Result, Ok, Err}
use Rattle.node_core.specs.declared.acts.ActDone.{ActDone}
use Rattle.node_core.specs.declared.acts.ActDone.TheVariants as actions
use Rattle.node_core.specs.declared.acts.ActRefusal.{ActRefusal}
use Rattle.net_model.specs.declared.answer.Answer.{Answer}
use Rattle.net_model.specs.declared.answer.Answer.TheVariants as answers
use Rattle.net_model.specs.declared.refusals.LineRefusal.{LineRefusal}
use Rattle.net_model.specs.Events.{Event, Took}
use Rattle.net_model.specs.Lines.{refusal_events}
use Rattle.net_model.specs.Refused.{of_act}

-- the message that was taken
abbrev pub message_in : ActDone → Option (List ℕ)
message_in actions.Done = None
message_in (actions.Made id) = None
message_in (actions.Took message) = Some message

abbrev pub message_events : ℕ → ℕ → Option (List ℕ) → List Event
message_events node end None = []
message_events node end (Some message) = Took node end message ∷ []

-- what came of an act is what the node answered, or the line's refusal for it
abbrev pub IsRefusedFor : LineRefusal → Result ActDone ActRefusal → Type 0
IsRefusedFor why outcome = (refusal : ActRefusal) × (outcome ≡ Err refusal) × (of_act refusal ≡ Some why)

abbrev pub IsAnswerTo : Answer → Result ActDone ActRefusal → Type 0
IsAnswerTo answers.Done outcome = (done : ActDone) × (outcome ≡ Ok done) × (message_in done ≡ None)
IsAnswerTo (answers.Took message) outcome = (done : ActDone) × (outcome ≡ Ok done) × (message_in done ≡ Some message.items)
IsAnswerTo (answers.Refused why) outcome = IsRefusedFor why outcome

abbrev pub refusal_in : Answer → Option LineRefusal
refusal_in answers.Done = None
refusal_in (answers.Took message) = None
refusal_in (answers.Refused why) = Some why

abbrev pub answer_events : Answer → List Event
answer_events answer = refusal_events (refusal_in answer)

abbrev pub taken_events : ℕ → ℕ → Answer → List Event
taken_events node end answers.Done = []
taken_events node end (answers.Took message) = Took node end message.items ∷ []
taken_events node end (answers.Refused why) = refusal_events (Some why)
