use Rattle.std.proofs.Common.{◌∷◌, subst}
use Rattle.std.proofs.lemmas.List.{take_rest}
use Rattle.station_cmd.specs.Words.{IsCommandOf, texts_of}
use Rattle.station_cmd.proofs.Commands.{front_word, no_words}
use Rattle.station_cmd.proofs.command.command_of.Goals as goal

pub returns-in-len1-up : goal.returns-in-len1-up
returns-in-len1-up c =
    subst (λ ws. IsCommandOf ws c.command_behind.result)
    (front_word c.args.words.now c.word-item.result c.as_bytes.result.now c.in-len1-up.len_at_least c.word-item.is c.as_bytes.ensures.value)
    (subst (λ rest. IsCommandOf (c.as_bytes.result.now ∷ texts_of rest) c.command_behind.result) (take_rest c.args.words.now 1) c.command_behind.ensures)

pub returns-in-empty : goal.returns-in-empty
returns-in-empty c = no_words c.args.words.now c.in-empty.len_below
