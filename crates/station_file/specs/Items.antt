-- The items of lists. Own profile.
use Rattle.std.specs.Prelude.{ℕ, ◌+◌, List, [], ◌∷◌, ◌++◌, map, Option, Some, None, Result, Ok, Err, Bool, true, false, not, ◌==◌, nat_le, nat_eq, position, option_map}
use Rattle.std.specs.List.{list_any}
use Rattle.std.specs.Borrow.{Bor}
use Rattle.std.specs.Char.{to_ascii_lowercase}
use Rattle.std.specs.Cmp.Lexicographic.{pointwise}
use Rattle.ax_address.specs.Callsign as calls
use Rattle.ax_address.specs.Callsign.{Callsign, same_call}
use Rattle.ax_address.specs.Alias as aliases
use Rattle.ax_address.specs.Results.{◌>>=◌}
use Rattle.text_lines.specs.Lines.{words_of, number_of}
use Rattle.toml.specs.Data.{Data, as_str}
use Rattle.network_file.specs.declared.plan.vias.Via.{Via}
use Rattle.station_file.specs.declared.items.qualities.NeighbourQuality.{NeighbourQuality}
use Rattle.station_file.specs.declared.items.locks.Lock.{Lock}
use Rattle.station_file.specs.declared.ports.Port.{Port}
use Rattle.station_file.specs.declared.why.ItemFault.{ItemFault}
use Rattle.station_file.specs.declared.why.ItemFault.TheVariants.{NotText, NoCall, NoAlias, NoPort, NoQuality, Twice, NotVia, NotQuality, NotLock, Own, TooLow}
use Rattle.station_file.specs.declared.why.Why.{Why}
use Rattle.station_file.specs.declared.why.Why.TheVariants.{Item}
use Rattle.station_file.specs.Values.{list}

-- what is wrong where the test fails
abbrev pub item_needs : Bool → ItemFault → Result (Unit {0}) ItemFault
item_needs true fault = Ok tt
item_needs false fault = Err fault

-- what is wrong with the item of that number
abbrev pub in_item : {A : Type 0} → ℕ → Result A ItemFault → Result A Why
in_item number (Ok x) = Ok x
in_item number (Err fault) = Err (Item number fault)

abbrev pub text_in : Option (List ℕ) → Result (List ℕ) ItemFault
text_in (Some text) = Ok text
text_in None = Err NotText

abbrev pub item_text : Data → Result (List ℕ) ItemFault
item_text d = text_in (as_str d)

abbrev pub call_of : List ℕ → Result Callsign ItemFault
call_of word = elim (calls.call_at word) [ Ok c ↦ Ok c | Err e ↦ Err NoCall ]

abbrev pub alias_of : List ℕ → Result (List ℕ) ItemFault
alias_of word = elim (aliases.alias_at word) [ Ok a ↦ Ok a | Err e ↦ Err NoAlias ]

abbrev pub quality_in : Option ℕ → Result ℕ ItemFault
quality_in (Some q) = Ok q
quality_in None = Err NoQuality

-- a quality from 0 to 255
abbrev pub quality_of : List ℕ → Result ℕ ItemFault
quality_of word = quality_in (number_of 0 255 word)

abbrev pub seen : Result (Bor (List ℕ)) ItemFault → Result (List ℕ) ItemFault
seen (Ok s) = Ok s.now
seen (Err fault) = Err fault

-- ---- calls

unfoldable pub call_item : Data → Result Callsign ItemFault
call_item d = do
  text ← item_text d
  call_of text

abbrev pub calls_from : ℕ → List Callsign → List Data → Result (List Callsign) Why
calls_from number before [] = Ok before
calls_from number before (d ∷ ds) = in_item number (call_item d) >>= (λ c. calls_from (number + 1) (before ++ c ∷ []) ds)

-- at most 64 calls
unfoldable pub calls_at : Option Data → Result (List Callsign) Why
calls_at value = do
  ds ← list 64 value
  calls_from 1 [] ds

-- ---- ports, by their names

-- the name is the port's, in letters of either case
abbrev pub is_named : List ℕ → Port → Bool
is_named name port = pointwise nat_eq (map to_ascii_lowercase port.name) (map to_ascii_lowercase name)

-- the number, from 1, of the first port of that name
abbrev pub port_number : List Port → List ℕ → Option ℕ
port_number ports name = option_map (λ place. place + 1) (position (is_named name) ports)

abbrev pub port_in : Option ℕ → Result ℕ ItemFault
port_in (Some port) = Ok port
port_in None = Err NoPort

abbrev pub has_port : List ℕ → ℕ → Bool
has_port numbers port = list_any (λ n. n == port) numbers

unfoldable pub port_item : List Port → List ℕ → Data → Result ℕ ItemFault
port_item ports before d = do
  text ← item_text d
  port ← port_in (port_number ports text)
  u ← item_needs (not (has_port before port)) Twice
  Ok port

abbrev pub ports_from : List Port → ℕ → List ℕ → List Data → Result (List ℕ) Why
ports_from ports number before [] = Ok before
ports_from ports number before (d ∷ ds) =
    in_item number (port_item ports before d) >>= (λ n. ports_from ports (number + 1) (before ++ n ∷ []) ds)

-- at most 8 ports, each once
unfoldable pub ports_at : List Port → Option Data → Result (List ℕ) Why
ports_at ports value = do
  ds ← list 8 value
  ports_from ports 1 [] ds

-- ---- peers over repeaters: CALL REPEATER [REPEATER]

abbrev pub has_peer : List Via → Callsign → Bool
has_peer before peer = list_any (λ v. same_call v.peer peer) before

abbrev pub second_call : Option (List ℕ) → Result (Option Callsign) ItemFault
second_call None = Ok None
second_call (Some word) = call_of word >>= (λ c. Ok (Some c))

abbrev pub repeaters_of : Callsign → Option Callsign → List Callsign
repeaters_of a None = a ∷ []
repeaters_of a (Some b) = a ∷ b ∷ []

abbrev pub new_via : ℕ → Callsign → Callsign → Option Callsign → Via
new_via node peer a second = record { node = node; peer = peer; repeaters = record { items = repeaters_of a second } }

unfoldable pub via_of : ℕ → List Via → List ℕ → List ℕ → Option (List ℕ) → Result Via ItemFault
via_of node before peer first second = do
  p ← call_of peer
  a ← call_of first
  b ← second_call second
  u ← item_needs (not (has_peer before p)) Twice
  Ok (new_via node p a b)

abbrev pub via_words : ℕ → List Via → List (List ℕ) → Result Via ItemFault
via_words node before (peer ∷ a ∷ []) = via_of node before peer a None
via_words node before (peer ∷ a ∷ b ∷ []) = via_of node before peer a (Some b)
via_words node before words = Err NotVia

unfoldable pub via_item : ℕ → List Via → Data → Result Via ItemFault
via_item node before d = do
  text ← item_text d
  via_words node before (words_of text)

abbrev pub vias_from : ℕ → ℕ → List Via → List Data → Result (List Via) Why
vias_from node number before [] = Ok before
vias_from node number before (d ∷ ds) =
    in_item number (via_item node before d) >>= (λ v. vias_from node (number + 1) (before ++ v ∷ []) ds)

-- at most 16 peers, each once
unfoldable pub vias_at : ℕ → Option Data → Result (List Via) Why
vias_at node value = do
  ds ← list 16 value
  vias_from node 1 [] ds

-- ---- qualities of neighbours: CALL QUALITY

abbrev pub has_quality : List NeighbourQuality → Callsign → Bool
has_quality before neighbour = list_any (λ q. same_call q.neighbour neighbour) before

unfoldable pub quality_from : List NeighbourQuality → List ℕ → List ℕ → Result NeighbourQuality ItemFault
quality_from before neighbour quality = do
  n ← call_of neighbour
  q ← quality_of quality
  u ← item_needs (not (has_quality before n)) Twice
  Ok (record { neighbour = n; quality = q })

abbrev pub quality_words : List NeighbourQuality → List (List ℕ) → Result NeighbourQuality ItemFault
quality_words before (neighbour ∷ quality ∷ []) = quality_from before neighbour quality
quality_words before words = Err NotQuality

unfoldable pub quality_item : List NeighbourQuality → Data → Result NeighbourQuality ItemFault
quality_item before d = do
  text ← item_text d
  quality_words before (words_of text)

abbrev pub qualities_from : ℕ → List NeighbourQuality → List Data → Result (List NeighbourQuality) Why
qualities_from number before [] = Ok before
qualities_from number before (d ∷ ds) =
    in_item number (quality_item before d) >>= (λ q. qualities_from (number + 1) (before ++ q ∷ []) ds)

-- at most 16 neighbours, each once
unfoldable pub qualities_at : Option Data → Result (List NeighbourQuality) Why
qualities_at value = do
  ds ← list 16 value
  qualities_from 1 [] ds

-- ---- routes that are locked in: DESTINATION ALIAS NEIGHBOUR QUALITY

unfoldable pub lock_from : Callsign → ℕ → List ℕ → List ℕ → List ℕ → List ℕ → Result Lock ItemFault
lock_from own least dest alias neighbour quality = do
  d ← call_of dest
  a ← alias_of alias
  n ← call_of neighbour
  q ← quality_of quality
  u ← item_needs (not (same_call d own)) Own
  v ← item_needs (nat_le least q) (TooLow least)
  Ok (record { dest = d; alias = a; neighbour = n; quality = q })

abbrev pub lock_words : Callsign → ℕ → List (List ℕ) → Result Lock ItemFault
lock_words own least (dest ∷ alias ∷ neighbour ∷ quality ∷ []) = lock_from own least dest alias neighbour quality
lock_words own least words = Err NotLock

unfoldable pub lock_item : Callsign → ℕ → Data → Result Lock ItemFault
lock_item own least d = do
  text ← item_text d
  lock_words own least (words_of text)

abbrev pub locks_from : Callsign → ℕ → ℕ → List Lock → List Data → Result (List Lock) Why
locks_from own least number before [] = Ok before
locks_from own least number before (d ∷ ds) =
    in_item number (lock_item own least d) >>= (λ l. locks_from own least (number + 1) (before ++ l ∷ []) ds)

-- at most 64 routes, none to the node of this call, and none below its least quality
unfoldable pub locks_at : Callsign → ℕ → Option Data → Result (List Lock) Why
locks_at own least value = do
  ds ← list 64 value
  locks_from own least 1 [] ds
