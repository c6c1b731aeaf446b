-- What a line of a user asks for, by its words. Own profile.
use Rattle.std.specs.Prelude.{ℕ, List, [], ◌∷◌, length, map, Option, Some, None, Result, Ok, Err, Bool, ◌||◌, nat_eq, nat_lt, codes, if◌then◌else◌, ◌-◌, filter, ◌&&◌, ◌==◌, not, nat_le}
use Rattle.std.specs.Cmp.Lexicographic.{pointwise}
pub use Rattle.text_lines.specs.Lines.{words_of}
use Rattle.ax_address.specs.Callsign.{Callsign, call_at}
use Rattle.ax_address.specs.declared.call.CallRefusal.{CallRefusal}
use Rattle.node_prompt.specs.declared.command.Command.{Command}
use Rattle.node_prompt.specs.declared.command.Command.TheVariants as ask
use Rattle.node_prompt.specs.declared.line_refusal.LineRefusal.{LineRefusal}
use Rattle.node_prompt.specs.declared.line_refusal.LineRefusal.TheVariants.{TooLong, UnknownCommand, WrongWords, BadCall}
use Rattle.node_prompt.specs.declared.command.Verb.{Verb}
use Rattle.node_prompt.specs.declared.command.Verb.TheVariants.{Connect, Nodes, Routes, Users, Info, Bye, Help}

-- The words of a line. Own profile.

-- a to z as A to Z, and all else as it is
abbrev pub capital : ℕ → ℕ
capital b = if nat_le 97 b && nat_le b 122 then b - 32 else b

abbrev pub is_either : List ℕ → List ℕ → List ℕ → Bool
is_either word whole letter = pointwise nat_eq word whole || pointwise nat_eq word letter

-- a command's first word, whole or its first letter; a question mark asks for help too
abbrev pub verb_of : List ℕ → Option Verb
verb_of word =
    if is_either word (codes "CONNECT") (codes "C") then Some Connect
    else (if is_either word (codes "NODES") (codes "N") then Some Nodes
    else (if is_either word (codes "ROUTES") (codes "R") then Some Routes
    else (if is_either word (codes "USERS") (codes "U") then Some Users
    else (if is_either word (codes "INFO") (codes "I") then Some Info
    else (if is_either word (codes "BYE") (codes "B") then Some Bye
    else (if is_either word (codes "HELP") (codes "H") || pointwise nat_eq word (codes "?") then Some Help else None))))))

-- the commands of one word
abbrev pub command_alone : Verb → Result Command LineRefusal
command_alone Connect = Err WrongWords
command_alone Nodes = Ok ask.Nodes
command_alone Routes = Ok ask.Routes
command_alone Users = Ok ask.Users
command_alone Info = Ok ask.Info
command_alone Bye = Ok ask.Bye
command_alone Help = Ok ask.Help

abbrev pub about : (Callsign → Command) → Result Callsign CallRefusal → Result Command LineRefusal
about asked (Ok dest) = Ok (asked dest)
about asked (Err why) = Err BadCall

-- the commands of two words, of which the second is a call
abbrev pub command_about : Verb → List ℕ → Result Command LineRefusal
command_about Connect word = about ask.Connect (call_at word)
command_about Nodes word = about ask.RoutesTo (call_at word)
command_about _ word = Err WrongWords

abbrev pub command_with : Verb → List (List ℕ) → Result Command LineRefusal
command_with verb [] = command_alone verb
command_with verb (word ∷ []) = command_about verb word
command_with verb (word ∷ next ∷ more) = Err WrongWords

abbrev pub command_from : Option Verb → List (List ℕ) → Result Command LineRefusal
command_from None words = Err UnknownCommand
command_from (Some verb) words = command_with verb words

-- what the words of a line in capital letters ask for
abbrev pub command_of : List (List ℕ) → Result Command LineRefusal
command_of [] = Ok ask.Nothing
command_of (first ∷ words) = command_from (verb_of first) words

-- What a line asks for. Its length is judged first, then the first word, then how many words there are, and then the call.
unfoldable pub command_at : List ℕ → Result Command LineRefusal
command_at line = if nat_lt 80 (length line) then Err TooLong else command_of (words_of (map capital line))

-- the destination whose routes are asked for
abbrev pub wanted_by : Result Command LineRefusal → Option Callsign
wanted_by (Ok (ask.RoutesTo dest)) = Some dest
wanted_by other = None

abbrev pub wanted : List ℕ → Option Callsign
wanted line = wanted_by (command_at line)
