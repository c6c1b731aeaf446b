-- What the tables of a file say of a station. Each key is looked at in the order of this file, and the first fault is told. Own profile.
use Rattle.std.specs.Prelude.{ℕ, ◌+◌, ◌-◌, List, [], ◌∷◌, ◌++◌, length, map, Option, Some, None, Result, Ok, Err, Bool, true, false, not, ◌&&◌, ◌||◌, ◌==◌, nat_lt, nat_le, nat_eq, is_none, is_some, if◌then◌else◌}
use Rattle.std.specs.List.{list_any, list_all}
use Rattle.std.specs.Char.{to_ascii_lowercase, is_ascii_alphanumeric}
use Rattle.std.specs.Cmp.Lexicographic.{pointwise}
use Rattle.ax_address.specs.Callsign.{Callsign, same_call}
use Rattle.ax_address.specs.Results.{◌>>=◌}
use Rattle.network_file.specs.Keys.{Assignment, least_of, most_of, default_of, takes, value_of}
use Rattle.network_file.specs.declared.plan.declarations.Declaration.{Declaration}
use Rattle.network_file.specs.declared.plan.keys.Key.{Key}
use Rattle.network_file.specs.declared.plan.keys.Key.TheVariants as settings
use Rattle.toml.specs.Data.{Data, Members, as_bool}
use Rattle.station_file.specs.declared.beacons.Beacon.{Beacon}
use Rattle.station_file.specs.declared.fault.Fault.{Fault}
use Rattle.station_file.specs.declared.file_key.FileKey.{FileKey}
use Rattle.station_file.specs.declared.file_key.FileKey.TheVariants as keys
use Rattle.station_file.specs.declared.nodes.Member.{Member}
use Rattle.station_file.specs.declared.ports.Port.{Port}
use Rattle.station_file.specs.declared.posts.Post.{Post}
use Rattle.station_file.specs.declared.section.Section.{Section}
use Rattle.station_file.specs.declared.section.Section.TheVariants as sections
use Rattle.station_file.specs.declared.why.Why.{Why}
use Rattle.station_file.specs.declared.why.Why.TheVariants.{Missing, BadByte, Twice, NoModulus, TooMany, NoPort, NoMember}
use Rattle.station_file.specs.Items.{has_port, port_number, calls_at, ports_at, vias_at, qualities_at, locks_at}
use Rattle.station_file.specs.Keys.{setting_keys}
use Rattle.station_file.specs.Station.{Station}
use Rattle.station_file.specs.Tables.{placed, value_at, known_keys}
use Rattle.station_file.specs.Values.{needs, text, text_or_none, number, needed_number, number_of, flag, call, alias, list, table}

-- ---- ports

-- a letter or a digit, or one of - . _
abbrev pub is_name_byte : ℕ → Bool
is_name_byte b = is_ascii_alphanumeric b || (b == 45) || (b == 46) || (b == 95)

-- a name of 1 to 16 bytes that no port before has
unfoldable pub port_name : List Port → Members → Result (List ℕ) Why
port_name before ms = do
  name ← text 1 16 (value_at keys.Name ms)
  u ← needs (list_all is_name_byte name) BadByte
  v ← needs (is_none (port_number before name)) Twice
  Ok name

-- a parameter of KISS, from 0 to 255, where there is one
abbrev pub octet : Section → FileKey → Members → Result (Unit {0}) Fault
octet section key ms = placed section key (number 0 255 0 (value_at key ms)) >>= (λ n. Ok tt)

-- what is there for the hub is of its kind
unfoldable pub hub_keys : Section → Members → Result (Unit {0}) Fault
hub_keys section ms = do
  a ← placed section keys.Tnc (text_or_none 1024 (value_at keys.Tnc ms))
  b ← octet section keys.TxDelay ms
  c ← octet section keys.Persist ms
  d ← octet section keys.SlotTime ms
  e ← octet section keys.TxTail ms
  Ok tt

unfoldable pub port_at : List Port → ℕ → Data → Result Port Fault
port_at before n d = do
  ms ← placed sections.Station keys.Port (table d)
  u ← known_keys (sections.Port n) ms
  name ← placed (sections.Port n) keys.Name (port_name before ms)
  v ← hub_keys (sections.Port n) ms
  Ok (record { name = name })

abbrev pub ports_from : ℕ → List Port → List Data → Result (List Port) Fault
ports_from n before [] = Ok before
ports_from n before (d ∷ ds) = port_at before n d >>= (λ p. ports_from (n + 1) (before ++ p ∷ []) ds)

-- at most 8 ports
unfoldable pub ports_of : Members → Result (List Port) Fault
ports_of ms = do
  ds ← placed sections.Station keys.Port (list 8 (value_at keys.Port ms))
  ports_from 1 [] ds

-- ---- what a key of a `set` line is set to

-- `links` and `srej` may be true or false
abbrev pub switch_of : Key → Data → Option Bool
switch_of settings.Links d = as_bool d
switch_of settings.SelectiveReject d = as_bool d
switch_of key d = None

abbrev pub bit : Bool → ℕ
bit true = 1
bit false = 0

-- a number that the key allows
unfoldable pub taken : Key → Data → Result ℕ Why
taken key d = do
  n ← number_of (least_of key) (most_of key) d
  u ← needs (takes 4 key n) (NoModulus n)
  Ok n

abbrev pub switched : Option Bool → Key → Data → Result ℕ Why
switched (Some on) key d = Ok (bit on)
switched None key d = taken key d

-- an hour between rounds, else as in network files
abbrev pub unset : Key → ℕ
unset settings.Interval = 3600000
unset key = default_of key

abbrev pub setting : Key → Option Data → Result ℕ Why
setting key None = Ok (unset key)
setting key (Some d) = switched (switch_of key d) key d

abbrev pub assignment : ℕ → Key → ℕ → Assignment
assignment node key value = record { node = node; key = key; value = value }

abbrev pub setting_at : ℕ → Key → Members → Result Assignment Fault
setting_at node key ms =
    placed (sections.Node node) (keys.Setting key) (setting key (value_at (keys.Setting key) ms)) >>= (λ n. Ok (assignment node key n))

abbrev pub settings_from : ℕ → Members → List Assignment → List Key → Result (List Assignment) Fault
settings_from node ms before [] = Ok before
settings_from node ms before (key ∷ more) = setting_at node key ms >>= (λ s. settings_from node ms (before ++ s ∷ []) more)

-- each key, in the order of `set` lines
abbrev pub settings_of : ℕ → Members → Result (List Assignment) Fault
settings_of node ms = settings_from node ms [] setting_keys

-- ---- members

abbrev pub has_call : List Member → Callsign → Bool
has_call members c = list_any (λ m. same_call m.declared.call c) members

-- the same in letters of either case
abbrev pub same_alias : List ℕ → List ℕ → Bool
same_alias a b = pointwise nat_eq (map to_ascii_lowercase a) (map to_ascii_lowercase b)

abbrev pub has_alias : List Member → List ℕ → Bool
has_alias members a = list_any (λ m. same_alias m.declared.alias a) members

-- a call that no member before has
unfoldable pub new_call : List Member → Members → Result Callsign Why
new_call before ms = do
  c ← call (value_at keys.Call ms)
  u ← needs (not (has_call before c)) Twice
  Ok c

-- an alias that no member before has
unfoldable pub new_alias : List Member → Members → Result (List ℕ) Why
new_alias before ms = do
  a ← alias (value_at keys.Alias ms)
  u ← needs (not (has_alias before a)) Twice
  Ok a

-- what else a table says of a member
unfoldable pub member_of : List Port → Declaration → Members → Result Member Fault
member_of ports declared ms = do
  ps ← placed (sections.Node declared.node) keys.Ports (ports_at ports (value_at keys.Ports ms))
  users ← placed (sections.Node declared.node) keys.Users (flag true (value_at keys.Users ms))
  digipeat ← placed (sections.Node declared.node) keys.Digipeat (flag true (value_at keys.Digipeat ms))
  first ← placed (sections.Node declared.node) keys.First (number 0 86400000 60000 (value_at keys.First ms))
  t2 ← placed (sections.Node declared.node) keys.T2 (number 0 86400000 0 (value_at keys.T2 ms))
  paclen ← placed (sections.Node declared.node) keys.Paclen (number 16 256 256 (value_at keys.Paclen ms))
  ss ← settings_of declared.node ms
  vs ← placed (sections.Node declared.node) keys.Via (vias_at declared.node (value_at keys.Via ms))
  qs ← placed (sections.Node declared.node) keys.Qualities (qualities_at (value_at keys.Qualities ms))
  ls ← placed (sections.Node declared.node) keys.Locks
      (locks_at declared.call (value_of ss declared.node settings.MinimumQuality) (value_at keys.Locks ms))
  Ok (record {
    declared = declared;
    ports = record { items = ps };
    users = users;
    digipeat = digipeat;
    first = first;
    t2 = t2;
    paclen = paclen;
    settings = record { items = ss };
    vias = record { items = vs };
    qualities = record { items = qs };
    locks = record { items = ls };
  })

unfoldable pub member_at : List Port → List Member → ℕ → Data → Result Member Fault
member_at ports before n d = do
  ms ← placed sections.Station keys.Node (table d)
  u ← known_keys (sections.Node n) ms
  c ← placed (sections.Node n) keys.Call (new_call before ms)
  a ← placed (sections.Node n) keys.Alias (new_alias before ms)
  member_of ports (record { node = n; call = c; alias = a }) ms

abbrev pub members_from : List Port → ℕ → List Member → List Data → Result (List Member) Fault
members_from ports n before [] = Ok before
members_from ports n before (d ∷ ds) = member_at ports before n d >>= (λ m. members_from ports (n + 1) (before ++ m ∷ []) ds)

-- one member or more, at most 8
unfoldable pub member_items : Option Data → Result (List Data) Why
member_items value = do
  ds ← list 8 value
  u ← needs (not (length ds == 0)) Missing
  Ok ds

unfoldable pub members_of : List Port → Members → Result (List Member) Fault
members_of ports ms = do
  ds ← placed sections.Station keys.Node (member_items (value_at keys.Node ms))
  members_from ports 1 [] ds

-- ---- the post

-- it is the last of at most 8 members
unfoldable pub post_table : List Member → Data → Result Members Why
post_table members d = do
  ms ← table d
  u ← needs (nat_lt (length members) 8) (TooMany (length members + 1) 8)
  Ok ms

unfoldable pub post_of : List Member → Members → Result Post Fault
post_of members ms = do
  u ← known_keys sections.Mail ms
  c ← placed sections.Mail keys.Call (new_call members ms)
  a ← placed sections.Mail keys.Alias (new_alias members ms)
  file ← placed sections.Mail keys.File (text 1 1024 (value_at keys.File ms))
  every ← placed sections.Mail keys.Every (number 1 86400 600 (value_at keys.Every ms))
  Ok (record { call = c; alias = a; file = file; every = every })

unfoldable pub post_in : List Member → Data → Result Post Fault
post_in members d = do
  ms ← placed sections.Station keys.Mail (post_table members d)
  post_of members ms

abbrev pub post_by : List Member → Option Data → Result (Option Post) Fault
post_by members None = Ok None
post_by members (Some d) = post_in members d >>= (λ p. Ok (Some p))

abbrev pub post_at : List Member → Members → Result (Option Post) Fault
post_at members ms = post_by members (value_at keys.Mail ms)

-- how many members there are, with the post
abbrev pub count_if : Bool → ℕ → ℕ
count_if has_post members = if has_post then members + 1 else members

-- ---- the qualities of neighbours: a member keeps 16, one of each other member among them

abbrev pub few_qualities : ℕ → Member → Result (Unit {0}) Fault
few_qualities most m =
    placed (sections.Node m.declared.node) keys.Qualities
    (needs (nat_le (length m.qualities.items) most) (TooMany (length m.qualities.items) most))

abbrev pub all_few_qualities : ℕ → List Member → Result (Unit {0}) Fault
all_few_qualities most [] = Ok tt
all_few_qualities most (m ∷ ms) = few_qualities most m >>= (λ u. all_few_qualities most ms)

-- so many are left of the 16 beside those of the other members
abbrev pub qualities_left : ℕ → ℕ
qualities_left members = 17 - members

-- ---- beacons

abbrev pub port_in : Option ℕ → Result ℕ Why
port_in (Some n) = Ok n
port_in None = Err NoPort

-- the name of a port of the file
unfoldable pub beacon_port : List Port → Members → Result ℕ Why
beacon_port ports ms = do
  name ← text 0 16 (value_at keys.Port ms)
  port_in (port_number ports name)

abbrev pub is_on : ℕ → Callsign → Member → Bool
is_on port c m = same_call m.declared.call c && has_port m.ports.items port

abbrev pub is_sender : List Member → ℕ → Callsign → Bool
is_sender members port c = list_any (is_on port c) members

-- a member on that port
unfoldable pub sender_at : List Member → ℕ → Members → Result Callsign Why
sender_at members port ms = do
  c ← call (value_at keys.From ms)
  u ← needs (is_sender members port c) NoMember
  Ok c

unfoldable pub beacon_at : List Port → List Member → ℕ → Data → Result Beacon Fault
beacon_at ports members n d = do
  ms ← placed sections.Station keys.Beacon (table d)
  u ← known_keys (sections.Beacon n) ms
  port ← placed (sections.Beacon n) keys.Port (beacon_port ports ms)
  from ← placed (sections.Beacon n) keys.From (sender_at members port ms)
  to ← placed (sections.Beacon n) keys.To (call (value_at keys.To ms))
  said ← placed (sections.Beacon n) keys.Text (text 1 256 (value_at keys.Text ms))
  every ← placed (sections.Beacon n) keys.Every (needed_number 1 86400 (value_at keys.Every ms))
  Ok (record { port = port; from = from; to = to; text = said; every = every })

abbrev pub beacons_from : List Port → List Member → ℕ → List Beacon → List Data → Result (List Beacon) Fault
beacons_from ports members n before [] = Ok before
beacons_from ports members n before (d ∷ ds) =
    beacon_at ports members n d >>= (λ b. beacons_from ports members (n + 1) (before ++ b ∷ []) ds)

-- at most 64 beacons
unfoldable pub beacons_of : List Port → List Member → Members → Result (List Beacon) Fault
beacons_of ports members ms = do
  ds ← placed sections.Station keys.Beacon (list 64 (value_at keys.Beacon ms))
  beacons_from ports members 1 [] ds

-- ---- what holds of each member and beacon of a file

-- the pieces of a text that goes to a user over a link are small
abbrev pub has_small_pieces : Member → Bool
has_small_pieces m = nat_le m.paclen 256

-- a beacon fits a frame
abbrev pub has_short_text : Beacon → Bool
has_short_text b = nat_le (length b.text) 256

-- ---- the station

abbrev pub hub_in : Option Data → Result (Unit {0}) Why
hub_in None = Ok tt
hub_in (Some d) = table d >>= (λ ms. Ok tt)

unfoldable pub station_of : Members → Result Station Fault
station_of ms = do
  u ← known_keys sections.Station ms
  name ← placed sections.Station keys.Name (text 1 64 (value_at keys.Name ms))
  info ← placed sections.Station keys.Info (text_or_none 2000 (value_at keys.Info ms))
  status ← placed sections.Station keys.Status (number 0 86400 60 (value_at keys.Status ms))
  idle ← placed sections.Station keys.Idle (number 0 86400 3600 (value_at keys.Idle ms))
  denied ← placed sections.Station keys.Deny (calls_at (value_at keys.Deny ms))
  v ← placed sections.Station keys.Hub (hub_in (value_at keys.Hub ms))
  ports ← ports_of ms
  members ← members_of ports ms
  post ← post_at members ms
  w ← all_few_qualities (qualities_left (count_if (is_some post) (length members))) members
  beacons ← beacons_of ports members ms
  Ok (record {
    name = name;
    info = info;
    status = status;
    idle = idle;
    denied = denied;
    ports = ports;
    members = members;
    post = post;
    beacons = beacons;
  })
