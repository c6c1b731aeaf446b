-- What is said where the words are no command's.
use Rattle.std.specs.Prelude.{ℕ, List, codes}

-- all commands with their words
abbrev pub usage_note : List ℕ
usage_note = codes "usage: replay | node call=CALL alias=ALIAS [key=value] | frames modulo=8|128 | soak seed=N | life modulo=8|128 srej=0|1 delay=N | ip call=CALL addr=IP [route=IP/N,IP]\n"
