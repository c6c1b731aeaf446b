-- The table of a log: its columns, and what its rows stand for. Own profile, in SQLite's SQL.
use Rattle.std.specs.Prelude.{◌≡◌, ℕ, ◌+◌, pos, Bool, true, false, List, [], ◌∷◌, Some, codes}
use Rattle.ax_address.specs.Callsign.{shown}
use Rattle.mail_records.specs.declared.record.Record.{Record}
use Rattle.mail_records.specs.declared.record.Record.TheVariants.{Posted, Settled, Stored, Local, Read, Killed}
use Rattle.sqlite.specs.Collation.TheVariants.{Binary}
use Rattle.sqlite.specs.declared.types.Value.TheVariants.{Null, Int, Text as Words, Blob as Octets}
use Rattle.sqlite.specs.Order.{Row, column}
use Rattle.sqlite.specs.Table.{Table}
use Rattle.sqlite.specs.Schema.{Schema}
use Rattle.sqlite_schema.specs.declared.schema.Column.{Column}
use Rattle.sqlite.specs.Kind.{Kind}
use Rattle.sqlite.specs.Kind.TheVariants.{Integer, Text, Blob}

abbrev pub create_text : List ℕ
create_text = codes "CREATE TABLE record (seq INTEGER PRIMARY KEY, kind TEXT NOT NULL, origin TEXT, number INTEGER, user TEXT, dest TEXT, text BLOB) STRICT"

abbrev pub insert_text : List ℕ
insert_text = codes "INSERT INTO record (kind, origin, number, user, dest, text) VALUES (?1, ?2, ?3, ?4, ?5, ?6)"

abbrev pub select_text : List ℕ
select_text = codes "SELECT seq, kind, origin, number, user, dest, text FROM record ORDER BY seq"

-- a column of this name that takes values of this type alone
abbrev pub column_of : List ℕ → Kind → Bool → Column
column_of name kind not_null =
    record { name = name; kind = kind; is_strict = true; not_null = not_null; default = Null; collation = Binary }

abbrev pub last_columns : List Column
last_columns = column_of (codes "number") Integer false
    ∷ column_of (codes "user") Text false
    ∷ column_of (codes "dest") Text false
    ∷ column_of (codes "text") Blob false ∷ []

abbrev pub log_columns : List Column
log_columns = column_of (codes "seq") Integer false
    ∷ column_of (codes "kind") Text true
    ∷ column_of (codes "origin") Text false ∷ last_columns

abbrev pub log_table : Table
log_table = record {
  name = codes "record";
  tree = 0;
  columns = log_columns;
  key = Some 0;
  primary = 0 ∷ [];
  uniques = [];
  orders = [];
  checks = [];
  references = [];
  computed = [];
  stamps = record { places = []; terms = []; formats = [] };
  is_counted = false;
}

-- no rule but those of its columns
pub record HasNoRules (table : Table) : Type 0 where
  pub uniques : table.uniques ≡ []
  pub orders : table.orders ≡ []
  pub checks : table.checks ≡ []
  pub references : table.references ≡ []
  pub computed : table.computed ≡ []
  pub places : table.stamps.places ≡ []
  pub terms : table.stamps.terms ≡ []
  pub formats : table.stamps.formats ≡ []
  pub uncounted : table.is_counted ≡ false

abbrev pub log_schema : Schema
log_schema = record { tables = log_table ∷ []; indexes = []; views = [] }

abbrev pub no_schema : Schema
no_schema = record { tables = []; indexes = []; views = [] }

-- what is written of a record, behind its number
abbrev pub values_of : Record → Row
values_of (Posted number user dest text) =
    Words (codes "posted") ∷ Null ∷ Int (pos number) ∷ Words (shown user) ∷ Words (shown dest) ∷ Octets text ∷ []
values_of (Settled number) = Words (codes "settled") ∷ Null ∷ Int (pos number) ∷ Null ∷ Null ∷ Null ∷ []
values_of (Stored origin number user text) =
    Words (codes "stored") ∷ Words (shown origin) ∷ Int (pos number) ∷ Words (shown user) ∷ Null ∷ Octets text ∷ []
values_of (Local user text) = Words (codes "local") ∷ Null ∷ Null ∷ Words (shown user) ∷ Null ∷ Octets text ∷ []
values_of (Read letter) = Words (codes "read") ∷ Null ∷ Int (pos letter) ∷ Null ∷ Null ∷ Null ∷ []
values_of (Killed letter) = Words (codes "killed") ∷ Null ∷ Int (pos letter) ∷ Null ∷ Null ∷ Null ∷ []

-- what a query shows of the records, the first of them under this number
abbrev pub shown_from : ℕ → List Record → List Row
shown_from n [] = []
shown_from n (r ∷ rs) = (Int (pos n) ∷ values_of r) ∷ shown_from (n + 1) rs

-- what a query shows of a row
abbrev pub projected : Row → Row
projected r = column r 0 ∷ column r 2 ∷ column r 3 ∷ column r 4 ∷ column r 5 ∷ column r 6 ∷ column r 7 ∷ []
