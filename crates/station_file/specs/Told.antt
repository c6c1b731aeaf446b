-- What is told of a refused file, and of what a station of a file runs. Own profile.
use Rattle.std.specs.Prelude.{◌≡◌, ℕ, ◌+◌, ◌-◌, List, [], ◌∷◌, ◌++◌, Option, Some, None, Bool, true, false, codes, slice_get}
use Rattle.std.specs.Fmt.{decimal, signed_decimal}
use Rattle.ax_address.specs.Alias as aliases
use Rattle.ax_address.specs.Callsign as calls
use Rattle.ax_address.specs.Callsign.{Callsign}
use Rattle.station_file.specs.declared.beacons.Beacon.{Beacon}
use Rattle.station_file.specs.declared.fault.Fault.{Fault}
use Rattle.station_file.specs.declared.nodes.Member.{Member}
use Rattle.station_file.specs.declared.ports.Port.{Port}
use Rattle.station_file.specs.declared.posts.Post.{Post}
use Rattle.station_file.specs.declared.refusal.Refusal.{Refusal}
use Rattle.station_file.specs.declared.refusal.Refusal.TheVariants as refusals
use Rattle.station_file.specs.declared.why.ItemFault.{ItemFault}
use Rattle.station_file.specs.declared.why.ItemFault.TheVariants as items
use Rattle.station_file.specs.declared.why.Why.{Why}
use Rattle.station_file.specs.declared.why.Why.TheVariants as whys
use Rattle.station_file.specs.Keys.{prefix_of}
use Rattle.station_file.specs.Station.{Station}

-- ---- refusals

abbrev pub item_told : ItemFault → List ℕ
item_told items.NotText = codes "not a text"
item_told items.NoCall = codes "no call"
item_told items.NoAlias = codes "no alias"
item_told items.NoPort = codes "no such port"
item_told items.NoQuality = codes "no quality from 0 to 255"
item_told items.Twice = codes "stands twice"
item_told items.NotVia = codes "not CALL REPEATER [REPEATER]"
item_told items.NotQuality = codes "not CALL QUALITY"
item_told items.NotLock = codes "not DESTINATION ALIAS NEIGHBOUR QUALITY"
item_told items.Own = codes "a route to the node itself"
item_told (items.TooLow least) = codes "a quality below minq, which is " ++ decimal least

abbrev pub why_told : Why → List ℕ
why_told whys.Missing = codes "must be there"
why_told whys.NoSuchKey = codes "no such key"
why_told whys.NotText = codes "not a text"
why_told whys.NotNumber = codes "not a whole number"
why_told whys.NotFlag = codes "not true or false"
why_told whys.NotList = codes "not a list"
why_told whys.NotTable = codes "not a table"
why_told (whys.TooShort bytes least) = decimal bytes ++ (codes " bytes, at least " ++ decimal least)
why_told (whys.TooLong bytes most) = decimal bytes ++ (codes " bytes, at most " ++ decimal most)
why_told (whys.OutOfRange value least most) =
    signed_decimal value ++ (codes ", from " ++ (decimal least ++ (codes " to " ++ decimal most)))
why_told (whys.NoModulus value) = decimal value ++ codes ", not 8 or 128"
why_told (whys.TooMany count most) = decimal count ++ (codes ", at most " ++ decimal most)
why_told whys.BadByte = codes "a byte outside a-z A-Z 0-9 - . _"
why_told whys.NoCall = codes "no call"
why_told whys.NoAlias = codes "no alias"
why_told whys.NoPort = codes "no such port"
why_told whys.NoMember = codes "no member on that port"
why_told whys.Twice = codes "stands twice"
why_told (whys.Item number fault) = codes "item " ++ (decimal number ++ (codes ": " ++ item_told fault))

-- as `station.toml: line 12: node.alias: 7 bytes, at most 6`
abbrev pub fault_told : List ℕ → ℕ → Fault → List ℕ
fault_told name line f =
    name ++ (codes ": line " ++ (decimal line ++ (codes ": " ++ (prefix_of f.section ++ (f.key ++ (codes ": "
    ++ (why_told f.why ++ codes "\n")))))))

-- a file of more than 65,536 bytes
abbrev pub too_long_told : List ℕ → ℕ → List ℕ
too_long_told name bytes = name ++ (codes ": " ++ (decimal bytes ++ codes " bytes, at most 65536\n"))

-- what is no TOML, as `toml` says why
abbrev pub error_told : List ℕ → ℕ → List ℕ → List ℕ
error_told name line message = name ++ (codes ": line " ++ (decimal line ++ (codes ": " ++ (message ++ codes "\n"))))

abbrev pub TellsRefusal : List ℕ → Refusal → List ℕ → Type 0
TellsRefusal name (refusals.TooLong bytes) text = text ≡ too_long_told name bytes
TellsRefusal name (refusals.NotToml line error) text = (message : List ℕ) × (text ≡ error_told name line message)
TellsRefusal name (refusals.Fault line fault) text = text ≡ fault_told name line fault
TellsRefusal name refusals.NoMemory text = ⊥

-- ---- what a station runs

abbrev pub named : List ℕ → Callsign → List ℕ
named alias call = aliases.shown alias ++ (codes ":" ++ calls.shown call)

abbrev pub station_told : List ℕ → List ℕ
station_told name = codes "station " ++ (name ++ codes "\n")

abbrev pub port_told : ℕ → Port → List ℕ
port_told n p = codes "port " ++ (decimal n ++ (codes " " ++ (p.name ++ codes "\n")))

-- the ports, numbered from n
abbrev pub ports_told : ℕ → List Port → List ℕ
ports_told n [] = []
ports_told n (p ∷ ps) = port_told n p ++ ports_told (n + 1) ps

abbrev pub yes_or_no : Bool → List ℕ
yes_or_no true = codes "yes"
yes_or_no false = codes "no"

-- the name of the port of that number, from 1
abbrev pub name_at : Option Port → List ℕ
name_at (Some p) = p.name
name_at None = []

abbrev pub name_of : List Port → ℕ → List ℕ
name_of ports n = name_at (slice_get ports (n - 1))

-- the names of the ports of these numbers, each behind a space
abbrev pub standing_told : List Port → List ℕ → List ℕ
standing_told ports [] = codes "\n"
standing_told ports (n ∷ ns) = codes " " ++ (name_of ports n ++ standing_told ports ns)

abbrev pub member_told : Member → List ℕ
member_told m =
    codes "member " ++ (named m.declared.alias m.declared.call ++ (codes " users " ++ (yes_or_no m.users
    ++ (codes " digipeat " ++ (yes_or_no m.digipeat ++ codes " ports")))))

abbrev pub members_told : List Port → List Member → List ℕ
members_told ports [] = []
members_told ports (m ∷ ms) = member_told m ++ (standing_told ports m.ports.items ++ members_told ports ms)

abbrev pub post_told : Option Post → List ℕ
post_told None = []
post_told (Some p) =
    codes "post " ++ (named p.alias p.call ++ (codes " every " ++ (decimal p.every ++ (codes " s file " ++ (p.file ++ codes "\n")))))

abbrev pub beacon_told : Beacon → List ℕ
beacon_told b =
    codes "beacon " ++ (calls.shown b.from ++ (codes ">" ++ (calls.shown b.to ++ (codes " every "
    ++ (decimal b.every ++ codes " s port")))))

abbrev pub beacons_told : List Port → List Beacon → List ℕ
beacons_told ports [] = []
beacons_told ports (b ∷ bs) = beacon_told b ++ (standing_told ports (b.port ∷ []) ++ beacons_told ports bs)

-- a line for the station, and for each port, member and beacon, and the post
abbrev pub check_told : Station → List ℕ
check_told s =
    station_told s.name ++ (ports_told 1 s.ports ++ (members_told s.ports s.members
    ++ (post_told s.post ++ beacons_told s.ports s.beacons)))
