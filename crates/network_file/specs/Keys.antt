-- The keys of `set` lines, and what they are set to. Own profile.
use Rattle.std.specs.Prelude.{ℕ, List, [], ◌∷◌, Option, Some, None, Result, Ok, Err, Bool, true, ◌||◌, ◌==◌, nat_le, nat_eq, if◌then◌else◌, codes, find, unwrap_or, false, ◌&&◌}
use Rattle.std.specs.Cmp.Lexicographic.{pointwise}
use Rattle.std.specs.Option.{option_map}
use denote.Enum.Bare.{sameb}
use Rattle.network_file.specs.declared.what.What.{What}
use Rattle.network_file.specs.declared.what.What.TheVariants as whats
use Rattle.network_file.specs.declared.plan.keys.Key.{Key}
use Rattle.network_file.specs.declared.plan.keys.Key.TheVariants.{Window, Timeout, Retries, Busy, Inactive, TimeToLive, Life, Least, MinimumQuality, PathQuality, Links, Modulo, LinkWindow, SelectiveReject, T1, T3, LinkRetries, Prompt, Interval, Mail}
use Rattle.network_file.specs.contracts.plan.keys.Key.{the_type}

-- the word of a key, its least and its largest value, and the one where no line sets it
pub record Row : Type 0 where
  pub word : List ℕ
  pub least : ℕ
  pub most : ℕ
  pub default : ℕ

abbrev pub row : List ℕ → ℕ → ℕ → ℕ → Row
row word least most default = record { word = word; least = least; most = most; default = default }

-- times are in milliseconds, at most a day
abbrev pub row_of : Key → Row
row_of Window = row (codes "window") 1 127 4
row_of Timeout = row (codes "timeout") 1 86400000 60000
row_of Retries = row (codes "retries") 1 255 3
row_of Busy = row (codes "busy") 1 86400000 180000
row_of Inactive = row (codes "inactive") 1 86400000 900000
row_of TimeToLive = row (codes "ttl") 1 255 25
row_of Life = row (codes "life") 1 255 6
row_of Least = row (codes "least") 1 255 5
row_of MinimumQuality = row (codes "minq") 1 255 1
row_of PathQuality = row (codes "quality") 0 255 192
row_of Links = row (codes "links") 0 1 1
row_of Modulo = row (codes "modulo") 8 128 8
row_of LinkWindow = row (codes "lwindow") 0 127 0
row_of SelectiveReject = row (codes "srej") 0 1 0
row_of T1 = row (codes "t1") 1 86400000 3000
row_of T3 = row (codes "t3") 1 86400000 300000
row_of LinkRetries = row (codes "lretries") 1 255 10
row_of Prompt = row (codes "prompt") 0 1 0
row_of Interval = row (codes "interval") 0 86400000 0
row_of Mail = row (codes "mail") 0 1 0

abbrev pub word_of : Key → List ℕ
word_of key = (row_of key).word

abbrev pub least_of : Key → ℕ
least_of key = (row_of key).least

abbrev pub most_of : Key → ℕ
most_of key = (row_of key).most

abbrev pub default_of : Key → ℕ
default_of key = (row_of key).default

-- files of a version may set a key to a value in its range: before version 3 a window is at most 64, and a modulus is 8 or 128
abbrev pub takes : ℕ → Key → ℕ → Bool
takes version Window value = nat_le 3 version || nat_le value 64
takes version Modulo value = (value == 8) || (value == 128)
takes version key value = true

abbrev pub all_keys : List Key
all_keys =
    Window ∷ Timeout ∷ Retries ∷ Busy ∷ Inactive ∷ TimeToLive ∷ Life ∷ Least ∷ MinimumQuality ∷ PathQuality
    ∷ Links ∷ Modulo ∷ LinkWindow ∷ SelectiveReject ∷ T1 ∷ T3 ∷ LinkRetries ∷ Prompt ∷ Interval ∷ Mail ∷ []

-- the first of these keys that a word names
abbrev pub first_of : List ℕ → List Key → Option Key
first_of word [] = None
first_of word (key ∷ keys) = if pointwise nat_eq (word_of key) word then Some key else first_of word keys

-- files of a version have a key: `mail` since version 4
abbrev pub is_known : ℕ → Key → Bool
is_known version Mail = nat_le 4 version
is_known version key = true

-- the key that a word names in files of a version
unfoldable pub key_at : ℕ → List ℕ → Result Key What
key_at version word =
    elim (first_of word all_keys) [ Some key ↦ (if is_known version key then Ok key else Err whats.Key) | None ↦ Err whats.Key ]

-- a node's key set to a value
pub record Assignment : Type 0 where
  pub node : ℕ
  pub key : Key
  pub value : ℕ

-- What the keys are set to. Own profile.

-- `==` on keys
abbrev pub same_key : Key → Key → Bool
same_key = sameb the_type

abbrev pub is_of : ℕ → Key → Assignment → Bool
is_of node key s = (s.node == node) && same_key s.key key

-- what the key is set to for the node, if it is
abbrev pub set_to : List Assignment → ℕ → Key → Option ℕ
set_to settings node key = option_map (λ s. s.value) (find (is_of node key) settings)

-- what the key is set to for the node, or else its default
abbrev pub value_of : List Assignment → ℕ → Key → ℕ
value_of settings node key = unwrap_or (set_to settings node key) (default_of key)

-- a node that serves users at a prompt would keep mail too
abbrev pub clashes : List Assignment → ℕ → Key → ℕ → Bool
clashes settings node Mail value = (value == 1) && (value_of settings node Prompt == 1)
clashes settings node Prompt value = (value == 1) && (value_of settings node Mail == 1)
clashes settings node key value = false
