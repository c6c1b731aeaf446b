use Rattle.std.proofs.Common.{sym, ◌∙◌}
use Rattle.text_lines.proofs.FirstWords.{first_word_behind, no_word_behind}
use Rattle.text_lines.proofs.words.first_word.Goals as goal

pub returns-then-is_empty : goal.returns-then-is_empty
returns-then-is_empty c = no_word_behind c.args.line.now c.after_spaces-rest.result.now c.after_spaces-rest.ensures (sym c.is_empty.ensures ∙ c.if-is_empty.true)

pub returns : goal.returns
returns c =
    first_word_behind c.args.line.now c.after_spaces-rest.result.now c.at_space.result.0.now c.at_space.result.1.now c.after_spaces-rest.ensures
    (sym c.is_empty.ensures ∙ c.if-is_empty.false) c.at_space.ensures.front c.at_space.ensures.rest
