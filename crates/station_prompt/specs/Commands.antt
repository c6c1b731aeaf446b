-- What a line at a station's prompt asks for, by its words in capital letters. Own profile.
use Rattle.std.specs.Prelude.{ℕ, ◌-◌, List, [], ◌∷◌, length, take, Option, Some, None, Result, Ok, Err, Bool, false, ◌&&◌, ◌||◌, ◌==◌, nat_eq, nat_le, nat_lt, codes, if◌then◌else◌}
use Rattle.std.specs.List.{starts_with, ends_with}
use Rattle.station_prompt.specs.declared.verb.Verb.{Verb}
use Rattle.station_prompt.specs.declared.verb.Verb.TheVariants.{Connect, Nodes, Routes, Users, Ports, MHeard, Links, Stats, Info, Version, Mail, Bye, Help}

-- Words.

-- a to z as A to Z, a point for what isn't printed, and all else as it is
abbrev pub capital : ℕ → ℕ
capital b = if nat_lt b 32 || nat_lt 126 b then 46 else (if nat_le 97 b && nat_le b 122 then b - 32 else b)

-- the word is a beginning of the whole one, with at least so many letters of it
abbrev pub is_form : List ℕ → List ℕ → ℕ → Bool
is_form word whole least = nat_le least (length word) && starts_with nat_eq whole word

-- a command's first word, and how many letters it has at least
abbrev pub verb_of : List ℕ → Option Verb
verb_of word =
    if is_form word (codes "CONNECT") 1 then Some Connect
    else (if is_form word (codes "NODES") 1 then Some Nodes
    else (if is_form word (codes "ROUTES") 1 then Some Routes
    else (if is_form word (codes "USERS") 1 then Some Users
    else (if is_form word (codes "PORTS") 1 then Some Ports
    else (if is_form word (codes "MHEARD") 2 then Some MHeard
    else (if is_form word (codes "LINKS") 1 then Some Links
    else (if is_form word (codes "STATS") 2 then Some Stats
    else (if is_form word (codes "INFO") 1 then Some Info
    else (if is_form word (codes "VERSION") 1 then Some Version
    else (if is_form word (codes "MAIL") 1 || is_form word (codes "BBS") 2 then Some Mail
    else (if is_form word (codes "BYE") 1 || is_form word (codes "QUIT") 1 then Some Bye
    else (if is_form word (codes "HELP") 1 || is_form word (codes "?") 1 then Some Help else None))))))))))))

-- the words that the prompt knows, the letters of the shortest form of each in capitals
abbrev pub help_text : List ℕ
help_text = codes "Connect Nodes Routes Users Ports MHeard Links STats Info Version Mail BBs Bye Quit Help ?"

-- what is told where its other words are wrong
abbrev pub forms_of : Verb → List ℕ
forms_of Connect = codes "Connect X, Connect PORT X [Via D [D]]"
forms_of Nodes = codes "Nodes, Nodes *, Nodes A*, Nodes X"
forms_of Routes = codes "Routes"
forms_of Users = codes "Users"
forms_of Ports = codes "Ports"
forms_of MHeard = codes "MHeard, MHeard PORT"
forms_of Links = codes "Links"
forms_of Stats = codes "STats"
forms_of Info = codes "Info"
forms_of Version = codes "Version"
forms_of Mail = codes "Mail, BBs"
forms_of Bye = codes "Bye, Quit"
forms_of Help = codes "Help, ?"

-- What is asked for.

-- which destinations: those whose alias doesn't begin with #, all, those whose alias begins so, or the routes to one
pub data Destinations : Type 0 where
  Shown : Destinations
  Every : Destinations
  Beginning : List ℕ → Destinations
  Routes_to : List ℕ → Destinations

-- nothing; a circuit to an alias or call; a link on a port to a call, over repeaters; destinations; who was heard, at a port or at all; or
-- what a word alone asks for
pub data Asked : Type 0 where
  Nothing : Asked
  Circuit : List ℕ → Asked
  Link : List ℕ → List ℕ → List (List ℕ) → Asked
  Known : Destinations → Asked
  Heard : Option (List ℕ) → Asked
  Alone : Verb → Asked

-- the first word is no form of a command, or the others are none that it has
pub data Refused (V : Type 0) : Type 0 where
  Unknown_command : List ℕ → Refused V
  Wrong_words : V → Refused V

-- the commands of one word
abbrev pub command_alone : Verb → Option Asked
command_alone Connect = None
command_alone Nodes = Some (Known Shown)
command_alone MHeard = Some (Heard None)
command_alone verb = Some (Alone verb)

-- a star at the end asks for those that begin so
abbrev pub nodes_asked : List ℕ → Destinations
nodes_asked word =
    if ends_with nat_eq word (codes "*")
    then (if length word == 1 then Every else Beginning (take (length word - 1) word))
    else Routes_to word

-- the commands of two words
abbrev pub command_about : Verb → List ℕ → Option Asked
command_about Connect word = Some (Circuit word)
command_about Nodes word = Some (Known (nodes_asked word))
command_about MHeard word = Some (Heard (Some word))
command_about verb word = None

-- over one repeater or two
abbrev pub connect_over : List ℕ → List ℕ → List (List ℕ) → Option Asked
connect_over port to (a ∷ []) = Some (Link port to (a ∷ []))
connect_over port to (a ∷ b ∷ []) = Some (Link port to (a ∷ b ∷ []))
connect_over port to via = None

abbrev pub connect_by_port : List ℕ → List ℕ → List (List ℕ) → Option Asked
connect_by_port port to [] = Some (Link port to [])
connect_by_port port to (word ∷ via) = if is_form word (codes "VIA") 1 then connect_over port to via else None

-- the commands of more words
abbrev pub command_among : Verb → List ℕ → List ℕ → List (List ℕ) → Option Asked
command_among Connect port to more = connect_by_port port to more
command_among verb port to more = None

abbrev pub command_with : Verb → List (List ℕ) → Option Asked
command_with verb [] = command_alone verb
command_with verb (word ∷ []) = command_about verb word
command_with verb (port ∷ to ∷ more) = command_among verb port to more

abbrev pub unless_wrong : {V A : Type 0} → V → Option A → Result A (Refused V)
unless_wrong verb (Some asked) = Ok asked
unless_wrong verb None = Err (Wrong_words verb)

abbrev pub command_from : List ℕ → Option Verb → List (List ℕ) → Result Asked (Refused Verb)
command_from word None words = Err (Unknown_command word)
command_from word (Some verb) words = unless_wrong verb (command_with verb words)

-- what the words of a line ask for: the first word is judged first
abbrev pub command_of : List (List ℕ) → Result Asked (Refused Verb)
command_of [] = Ok Nothing
command_of (word ∷ words) = command_from word (verb_of word) words

-- what ends a try: Bye, Quit or Abort, alone
abbrev pub ends_try : List (List ℕ) → Bool
ends_try (word ∷ []) = is_form word (codes "BYE") 1 || is_form word (codes "QUIT") 1 || is_form word (codes "ABORT") 1
ends_try words = false
