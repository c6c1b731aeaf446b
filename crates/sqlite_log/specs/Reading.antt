-- The record that a row is read as. Own profile.
use Rattle.std.specs.Prelude.{◌≡◌, ◌<◌, ℕ, ◌+◌, ◌==◌, nat_le, take, slice_index_or, pos, if◌then◌else◌, List, [], ◌∷◌, length, Option, Some, None, Result, Ok, Err, codes, bytes_eq}
use Rattle.ax_address.specs.Callsign.{Callsign, call_at}
use Rattle.ax_address.specs.declared.call.CallRefusal.{CallRefusal}
use Rattle.mail_records.specs.declared.log_failed.LogFailed.{LogFailed}
use Rattle.mail_records.specs.declared.log_failed.LogFailed.TheVariants.{Memory, Disk, Full, Spoilt}
use Rattle.mail_records.specs.declared.record.Record.{Record}
use Rattle.mail_records.specs.declared.record.Record.TheVariants.{Posted, Settled, Stored, Local, Read, Killed}
use Rattle.sqlite.specs.declared.types.Value.{Value}
use Rattle.sqlite.specs.declared.types.Value.TheVariants.{Int, Text as Words, Blob as Octets}
use Rattle.sqlite.specs.Order.{Row, column}
use Rattle.sqlite_log.specs.Table.{values_of}

infixl 10 ◌>>=◌
-- nothing more where there is nothing
abbrev pub ◌>>=◌ : {A B : Type 0} → Option A → (A → Option B) → Option B
None >>= f = None
(Some x) >>= f = f x

-- a number that isn't below 0
abbrev pub number_in : Value → Option ℕ
number_in (Int (pos n)) = Some n
number_in _ = None

abbrev pub call_or_none : Result Callsign CallRefusal → Option Callsign
call_or_none (Ok call) = Some call
call_or_none (Err why) = None

-- the call that a text is read as
abbrev pub call_in : Value → Option Callsign
call_in (Words text) = call_or_none (call_at text)
call_in _ = None

-- at most 1,024 octets
abbrev pub text_in : Value → Option (List ℕ)
text_in (Octets text) = if nat_le (length text) 1024 then Some text else None
text_in _ = None

abbrev pub kind_in : Value → Option (List ℕ)
kind_in (Words kind) = Some kind
kind_in _ = None

abbrev pub posted_in : Row → Option Record
posted_in row = do
  number ← number_in (column row 3)
  user ← call_in (column row 4)
  dest ← call_in (column row 5)
  text ← text_in (column row 6)
  Some (Posted number user dest text)

abbrev pub settled_in : Row → Option Record
settled_in row = do
  number ← number_in (column row 3)
  Some (Settled number)

abbrev pub stored_in : Row → Option Record
stored_in row = do
  origin ← call_in (column row 2)
  number ← number_in (column row 3)
  user ← call_in (column row 4)
  text ← text_in (column row 6)
  Some (Stored origin number user text)

abbrev pub local_in : Row → Option Record
local_in row = do
  user ← call_in (column row 4)
  text ← text_in (column row 6)
  Some (Local user text)

abbrev pub read_in : Row → Option Record
read_in row = do
  letter ← number_in (column row 3)
  Some (Read letter)

abbrev pub killed_in : Row → Option Record
killed_in row = do
  letter ← number_in (column row 3)
  Some (Killed letter)

abbrev pub of_kind : Row → List ℕ → Option Record
of_kind row kind =
    if bytes_eq kind (codes "posted") then posted_in row
    else if bytes_eq kind (codes "settled") then settled_in row
    else if bytes_eq kind (codes "stored") then stored_in row
    else if bytes_eq kind (codes "local") then local_in row
    else if bytes_eq kind (codes "read") then read_in row
    else if bytes_eq kind (codes "killed") then killed_in row else None

-- the record, where the row has this number and is of a kind that there is
abbrev pub record_at : ℕ → Row → Option Record
record_at n row = do
  number ← number_in (column row 0)
  kind ← kind_in (column row 1)
  if number == n then of_kind row kind else None

-- the rows have these numbers in their order, and are read as these records
abbrev pub AreReadAs : ℕ → List Row → List Record → Type 0
AreReadAs n [] [] = Unit {0}
AreReadAs n [] (r ∷ rs) = ⊥
AreReadAs n (row ∷ rows) [] = ⊥
AreReadAs n (row ∷ rows) (r ∷ rs) = (record_at n row ≡ Some r) × AreReadAs (n + 1) rows rs

-- The row that is written of it is read as it, whatever its number.
abbrev pub IsReadable : Record → Type 0
IsReadable r = (n : ℕ) → record_at n (Int (pos n) ∷ values_of r) ≡ Some r

-- the first row that isn't read as a record with its number
abbrev pub IsSpoiltAt : List Row → LogFailed → Type 0
IsSpoiltAt rows Memory = Unit {0}
IsSpoiltAt rows Disk = ⊥
IsSpoiltAt rows Full = ⊥
IsSpoiltAt rows (Spoilt place) =
    (at : ℕ) × (place ≡ at + 1) × (at < length rows) × (record_at place (slice_index_or rows at []) ≡ None)
    × ((rs : List Record) × AreReadAs 1 (take at rows) rs)
