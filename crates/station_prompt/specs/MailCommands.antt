-- What a line at a station's mail prompt asks for, by its words in capital letters. Own profile.
use Rattle.std.specs.Prelude.{ℕ, ◌+◌, List, [], ◌∷◌, take, drop, position, Option, Some, None, Result, Ok, Err, ◌||◌, ◌==◌, nat_eq, codes, if◌then◌else◌}
use Rattle.std.specs.Cmp.Lexicographic.{pointwise}
use Rattle.station_prompt.specs.Commands.{is_form, Refused, Unknown_command, unless_wrong}
use Rattle.station_prompt.specs.declared.mail_verb.MailVerb.{MailVerb}
use Rattle.station_prompt.specs.declared.mail_verb.MailVerb.TheVariants.{List as List_letters, Read, Kill, Queued, Send, Bye, Help}

-- a command's first word, and how many letters it has at least
abbrev pub verb_of : List ℕ → Option MailVerb
verb_of word =
    if is_form word (codes "LIST") 1 then Some List_letters
    else (if is_form word (codes "READ") 1 then Some Read
    else (if is_form word (codes "KILL") 1 then Some Kill
    else (if is_form word (codes "QUEUED") 1 then Some Queued
    else (if is_form word (codes "SEND") 1 then Some Send
    else (if is_form word (codes "BYE") 1 then Some Bye
    else (if is_form word (codes "HELP") 1 || is_form word (codes "?") 1 then Some Help else None))))))

-- the words that the mail prompt knows, the letters of the shortest form of each in capitals
abbrev pub help_text : List ℕ
help_text = codes "List Read Kill Queued Send Bye Help ?"

-- what is told where its other words are wrong
abbrev pub forms_of : MailVerb → List ℕ
forms_of List_letters = codes "List"
forms_of Read = codes "Read N"
forms_of Kill = codes "Kill N"
forms_of Queued = codes "Queued"
forms_of Send = codes "Send CALL, Send CALL@X, Send CALL @ X"
forms_of Bye = codes "Bye"
forms_of Help = codes "Help, ?"

-- nothing; a letter to a user, at a post or here; what a verb asks for of the letter of a number; or what a word alone asks for
pub data Asked : Type 0 where
  Nothing : Asked
  Letter : List ℕ → Option (List ℕ) → Asked
  Numbered : MailVerb → List ℕ → Asked
  Alone : MailVerb → Asked

-- CALL, or CALL@POST
abbrev pub letter_at : List ℕ → Option ℕ → Asked
letter_at word None = Letter word None
letter_at word (Some at) = Letter (take at word) (Some (drop (at + 1) word))

abbrev pub send : List ℕ → Asked
send word = letter_at word (position (λ b. b == 64) word)

-- the commands of one word
abbrev pub command_alone : MailVerb → Option Asked
command_alone List_letters = Some (Alone List_letters)
command_alone Queued = Some (Alone Queued)
command_alone Bye = Some (Alone Bye)
command_alone Help = Some (Alone Help)
command_alone verb = None

-- the commands of two words
abbrev pub command_about : MailVerb → List ℕ → Option Asked
command_about Read word = Some (Numbered Read word)
command_about Kill word = Some (Numbered Kill word)
command_about Send word = Some (send word)
command_about verb word = None

-- the one command of four words
abbrev pub send_at : MailVerb → List ℕ → List ℕ → List ℕ → Option Asked
send_at Send to at post = if pointwise nat_eq at (codes "@") then Some (Letter to (Some post)) else None
send_at verb to at post = None

abbrev pub command_with : MailVerb → List (List ℕ) → Option Asked
command_with verb [] = command_alone verb
command_with verb (word ∷ []) = command_about verb word
command_with verb (to ∷ at ∷ post ∷ []) = send_at verb to at post
command_with verb words = None

abbrev pub command_from : List ℕ → Option MailVerb → List (List ℕ) → Result Asked (Refused MailVerb)
command_from word None words = Err (Unknown_command word)
command_from word (Some verb) words = unless_wrong verb (command_with verb words)

-- what the words of a line ask for: the first word is judged first
abbrev pub command_of : List (List ℕ) → Result Asked (Refused MailVerb)
command_of [] = Ok Nothing
command_of (word ∷ words) = command_from word (verb_of word) words
