use Rattle.std.proofs.Common.{◌≡◌, ◌∙◌, ℕ, List, ap, map, subst}
use Rattle.text_lines.specs.Lines.{texts, words_of}
use Rattle.station_prompt.specs.Commands.{capital}
use Rattle.station_users.specs.Asking.{do_words}
use Rattle.station_users.specs.Sights.{words}
use Rattle.station_users.specs.Standing.{HallGoes}
use Rattle.station_users.proofs.hall.Hall.do_short.Goals as goal

pub returns : goal.returns
returns c =
    let capitals : c.deref.result.now ≡ map capital c.args.line.now = c.deref.ensures.value ∙ c.in_ok-capitals.ensures in
    let is : texts c.deref-2.result.now ≡ words c.args.line.now
    = ap texts c.deref-2.ensures.value ∙ (c.in_ok-words.ensures ∙ ap words_of capitals) in
    subst (λ (ws : List (List ℕ)). HallGoes (do_words ws c.args.nth c.args.turn.moment) c.args.self.now c.do_words.new.self) is c.in_ok-do_words.ensures
