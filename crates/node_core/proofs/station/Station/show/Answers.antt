use Rattle.std.proofs.Common.{◌∙◌, ap, subst}
use Rattle.node_prompt.specs.Replies as texts
use Rattle.node_model.specs.Bridging as bridging
use Rattle.node_model.specs.Users.{say}
use Rattle.node_core.specs.Going.{HoldsTold}
use Rattle.node_core.proofs.station.Station.show.Goals as goal

pub returns : goal.returns
returns c = λ n t.
    let view = c.in_ok-view.ensures n t in
    let text =
    ap (λ x. x.items) c.show-text.ensures.text
    ∙ (ap (λ p. (texts.view_text p c.in_ok-view.view).items) (c.prompt.ensures n t.0) ∙ ap (λ v. (texts.view_text (bridging.prompt_of n) v).items) view) in
    subst (λ x. HoldsTold c.say.new.self (say c.args.now.0 c.args.nth x n)) text (c.in_ok-say.ensures n t)
