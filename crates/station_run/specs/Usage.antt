-- What is said where the words are no command's.
use Rattle.std.specs.Prelude.{ℕ, List, codes}

-- all commands with their words
abbrev pub usage_note : List ℕ
usage_note = codes "usage: wursthatch-station check FILE | run FILE [pair=I,D] | try FILE..\n"
