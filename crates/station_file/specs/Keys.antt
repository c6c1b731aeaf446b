-- The tables of a station's file, and the words of their keys. Own profile.
use Rattle.std.specs.Prelude.{ℕ, List, [], ◌∷◌, Bool, ◌||◌, nat_eq, codes}
use Rattle.std.specs.List.{list_any}
use Rattle.std.specs.Cmp.Lexicographic.{pointwise}
use Rattle.network_file.specs.Keys as network
use Rattle.network_file.specs.declared.plan.keys.Key.{Key}
use Rattle.network_file.specs.declared.plan.keys.Key.TheVariants as settings
use Rattle.station_file.specs.declared.section.Section.{Section}
use Rattle.station_file.specs.declared.section.Section.TheVariants.{Station, Port, Node, Mail, Beacon}
use Rattle.station_file.specs.declared.file_key.FileKey.{FileKey}
use Rattle.station_file.specs.declared.file_key.FileKey.TheVariants as keys

-- the word of a key
abbrev pub word_of : FileKey → List ℕ
word_of keys.Name = codes "name"
word_of keys.Info = codes "info"
word_of keys.Status = codes "status"
word_of keys.Idle = codes "idle"
word_of keys.Deny = codes "deny"
word_of keys.Port = codes "port"
word_of keys.Node = codes "node"
word_of keys.Mail = codes "mail"
word_of keys.Beacon = codes "beacon"
word_of keys.Hub = codes "hub"
word_of keys.Tnc = codes "tnc"
word_of keys.TxDelay = codes "txdelay"
word_of keys.Persist = codes "persist"
word_of keys.SlotTime = codes "slottime"
word_of keys.TxTail = codes "txtail"
word_of keys.Call = codes "call"
word_of keys.Alias = codes "alias"
word_of keys.Ports = codes "ports"
word_of keys.Users = codes "users"
word_of keys.Digipeat = codes "digipeat"
word_of keys.First = codes "first"
word_of keys.T2 = codes "t2"
word_of keys.Paclen = codes "paclen"
word_of (keys.Setting key) = network.word_of key
word_of keys.Via = codes "via"
word_of keys.Qualities = codes "qualities"
word_of keys.Locks = codes "locks"
word_of keys.File = codes "file"
word_of keys.Every = codes "every"
word_of keys.From = codes "from"
word_of keys.To = codes "to"
word_of keys.Text = codes "text"

abbrev pub station_keys : List FileKey
station_keys =
    keys.Name ∷ keys.Info ∷ keys.Status ∷ keys.Idle ∷ keys.Deny ∷ keys.Port ∷ keys.Node ∷ keys.Mail ∷ keys.Beacon ∷ keys.Hub ∷ []

-- all but the name are for the hub
abbrev pub port_keys : List FileKey
port_keys = keys.Name ∷ keys.Tnc ∷ keys.TxDelay ∷ keys.Persist ∷ keys.SlotTime ∷ keys.TxTail ∷ []

-- the keys of a `set` line but `prompt` and `mail`: users of a station are the station's, and its post keeps its mail
unfoldable pub setting_keys : List Key
setting_keys =
    settings.Window ∷ settings.Timeout ∷ settings.Retries ∷ settings.Busy ∷ settings.Inactive ∷ settings.TimeToLive ∷ settings.Life
    ∷ settings.Least ∷ settings.MinimumQuality ∷ settings.PathQuality ∷ settings.Links ∷ settings.Modulo ∷ settings.LinkWindow
    ∷ settings.SelectiveReject ∷ settings.T1 ∷ settings.T3 ∷ settings.LinkRetries ∷ settings.Interval ∷ []

abbrev pub node_keys : List FileKey
node_keys =
    keys.Call ∷ keys.Alias ∷ keys.Ports ∷ keys.Users ∷ keys.Digipeat ∷ keys.First ∷ keys.T2 ∷ keys.Paclen ∷ keys.Via ∷ keys.Qualities
    ∷ keys.Locks ∷ []

abbrev pub mail_keys : List FileKey
mail_keys = keys.Call ∷ keys.Alias ∷ keys.File ∷ keys.Every ∷ []

abbrev pub beacon_keys : List FileKey
beacon_keys = keys.Port ∷ keys.From ∷ keys.To ∷ keys.Text ∷ keys.Every ∷ []

-- one of these keys has the word
abbrev pub names_one : List FileKey → List ℕ → Bool
names_one ks word = list_any (λ k. pointwise nat_eq (word_of k) word) ks

abbrev pub is_setting : List ℕ → Bool
is_setting word = list_any (λ k. pointwise nat_eq (network.word_of k) word) setting_keys

-- the table has a key of that word
abbrev pub knows : Section → List ℕ → Bool
knows Station word = names_one station_keys word
knows (Port n) word = names_one port_keys word
knows (Node n) word = names_one node_keys word || is_setting word
knows Mail word = names_one mail_keys word
knows (Beacon n) word = names_one beacon_keys word

-- what stands before the word of a key where it is told
abbrev pub prefix_of : Section → List ℕ
prefix_of Station = []
prefix_of (Port n) = codes "port."
prefix_of (Node n) = codes "node."
prefix_of Mail = codes "mail."
prefix_of (Beacon n) = codes "beacon."
