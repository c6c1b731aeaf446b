use Rattle.std.proofs.Common.{◌≡◌, ◌∙◌, ℕ, List, [], subst}
use Rattle.station_lists.specs.Telling.{about}
use Rattle.station_prompt.specs.Commands.{help_text}
use Rattle.station_users.specs.Standing.{HallGoes}
use Rattle.station_users.specs.States.{at_nth}
use Rattle.station_users.specs.Telling.{answer}
use Rattle.station_users.proofs.hall.Hall.say_help.Goals as goal

pub returns : goal.returns
returns c =
    let is : c.as_bytes.result.now ≡ help_text = c.as_bytes.ensures.value ∙ c.help.ensures in
    subst (λ (t : List ℕ). HallGoes (at_nth c.args.nth (answer (about [] t) c.args.turn.moment)) c.args.self.now c.answer.new.self) is
    c.in_ok-answer.ensures
