-- Why an insert into a log, or a query of it, fails.
use Rattle.std.proofs.Common.{◌≡◌, inl, inr, ℕ, zero, suc, ◌+◌, ◌-◌, ◌^◌, ◌<◌, ◌≤◌, pos, ◌<ℤ◌, List, [], ◌∷◌, ◌++◌, length, map, codes, Bool, true, false, not, ◌&&◌, nat_le, nat_lt, Option, Some, None, Err, refl, sym, ap, ap₂, subst, subst₂, ◌∙◌, arith, Less, append-nil, length-append, option_map}
use Rattle.std.specs.Prelude.{Any}
use Rattle.std.specs.Float.{NotNan}
use lib.Ieee.{is_nan}
use Rattle.sqlite_trees.specs.Tree.{with_tree}
use Rattle.sqlite.specs.Edit.{edited}
use Rattle.std.specs.Prelude.{◌==◌}
use Rattle.std.proofs.lemmas.List.Sums.{sum_by-cons}
use Rattle.std.specs.List.{AllByRecursion, list_all, list_any}
use Rattle.std.specs.Ordering.{is_eq}
use Rattle.std.proofs.lemmas.Bool.{cases_Bool, ltb-true, ltb-false}
use Rattle.std.proofs.lemmas.Int.{ints}
use Rattle.std.proofs.lemmas.Nat.Bits.{bit_at-zero}
use Rattle.std.proofs.lemmas.List.Elements.{All-from_recursion}
use Rattle.ax_address.specs.Callsign.{Callsign, name_in, suffix, shown}
use Rattle.std.proofs.lemmas.Fmt.{decimal_digit}
use Rattle.ax_address.proofs.Suffixes.{decimal_teens}
use Rattle.mail_records.specs.Records.{IsWhole, IsCall}
use Rattle.mail_records.specs.Logs as logs
use Rattle.mail_records.specs.declared.record.Record.{Record}
use Rattle.mail_records.specs.declared.record.Record.TheVariants.{Posted, Settled, Stored, Local, Read, Killed}
use Rattle.sqlite.specs.declared.types.Value.{Value}
use Rattle.sqlite.specs.declared.types.Value.TheVariants.{Null, Int, Text as Words, Blob as Octets}
use Rattle.sqlite.specs.Order.{Row, value_cmp, bytes, number}
use Rattle.sqlite.specs.Tree.{Trees, rowid}
use Rattle.sqlite.specs.Source.TheVariants.{Values}
use Rattle.sqlite.specs.Rows.{Sourced}
use Rattle.sqlite.specs.Edit.{Edit, edit_of, next_rowid, with_rowid}
use Rattle.sqlite.specs.Rowids.TheVariants.{Chosen}
use Rattle.sqlite.specs.declared.error.Error.{Error}
use Rattle.sqlite.specs.declared.error.Error.TheVariants.{SqliteFailure}
use Rattle.sqlite.specs.declared.error.ErrorCode.TheVariants as code
use Rattle.sqlite.specs.Listing.{understood, reads_listing, IsSourceOf}
use Rattle.sqlite.specs.Effect.{Database, edit_error, RefusesToRead}
use Rattle.sqlite.specs.Does.{Does}
use Rattle.sqlite.specs.State.{State, mode_of, Executes, ExecutesIn, IsNotRun, text_of, FailsToQuery}
use Rattle.sqlite.proofs.Callers.{IsPlain, command_of}
use Rattle.sqlite_tied.specs.Compute.{everything}
use Rattle.sqlite_typing.specs.Types.{accepts_terms, accepts_program}
use Rattle.sqlite_schema.specs.Rules.{passes, Keeps, Refers, table_reals}
use Rattle.sqlite_schema.specs.declared.schema.Among.TheVariants as among
use Rattle.sqlite_schema.specs.declared.schema.Constraint.TheVariants.{Datatype, NotNull, Check, PrimaryKey, Unique, ForeignKey}
use Rattle.sqlite_schema.specs.declared.schema.Keys.TheVariants.{Enforced}
use Rattle.sqlite_rules.specs.Edit.{IsRefused}
use Rattle.sqlite_rules.specs.Action.{Leads, Writes}
use Rattle.sqlite_rules.specs.declared.error.Refusal.{Refusal}
use Rattle.sqlite_rules.specs.declared.error.Refusal.TheVariants.{Violates, Mismatch, NoRowid, BadReference, TooDeep}
use Rattle.sqlite_trees.specs.View.{IsStorableRow}
use Rattle.sqlite_value.proofs.OrderLemmas.{value_cmp-Int}
use Rattle.sqlite_keyed.proofs.KeyedLemmas.{Less-from_lt}
use Rattle.sqlite_log.specs.Table.{log_table, log_schema, insert_text, select_text, values_of, shown_from, projected}
use Rattle.sqlite_log.specs.Held.{Holds, reason_of}
use Rattle.sqlite_log.proofs.Failing.{failed, is_statement, names_of, no_control, plain_mode, stops, tail_of, true_or_false}
use Rattle.sqlite_log.proofs.Texts.{terms, insert_command, insert_is, insert_plain, query, select_command, select_is, select_plain}
use Rattle.sqlite_log.proofs.Rows.{source_is, cast_is, next, first_rowid, others}

-- ---- the texts are statements, and as many values are given as they ask for

insert_whole : (nat_le (length insert_text) (tail_of (understood log_schema insert_text)) ≡ true) × (names_of (understood log_schema insert_text) ≡ 6)
unfolding understood everything tail_of names_of
insert_whole = (refl, refl)

select_whole : (nat_le (length select_text) (tail_of (understood log_schema select_text)) ≡ true) × (names_of (understood log_schema select_text) ≡ 0)
unfolding understood everything tail_of names_of
select_whole = (refl, refl)

six : (e : Record) → length (values_of e) ≡ 6
six (Posted number user dest text) = refl
six (Settled number) = refl
six (Stored origin number user text) = refl
six (Local user text) = refl
six (Read letter) = refl
six (Killed letter) = refl

-- ---- what a row is put in as

new_row : ℕ → Record → Row
new_row m e = Int (pos m) ∷ Null ∷ values_of e

short_name : (letters : List ℕ) → length (name_in letters) ≤ length letters
short_name letters = short letters
  where
    short : (letters : List ℕ) → length (name_in letters) ≤ length letters
    short [] = omega arith
    short (b ∷ bs) = elim (cases_Bool (b == 32)) [ inl is ↦ rw is (omega arith) | inr other ↦ (let more = short bs in rw other (omega arith)) ]

short_suffix : (ssid : ℕ) → ssid ≤ 15 → length (suffix ssid) ≤ 3
short_suffix ssid small = elim (cases_Bool (ssid == 0)) [
  | inl is ↦ rw is (omega arith)
  | inr other ↦ elim (cases_Bool (nat_lt ssid 10)) [
    | inl one ↦ (let few : ssid < 10 = ltb-true ssid 10 one in rw (other, decimal_digit ssid few) (omega arith))
    | inr two ↦ (let many : 10 ≤ ssid = ltb-false ssid 10 two in rw (other, decimal_teens ssid many (omega arith)) (omega arith))
  ]
]

short_call : (c : Callsign) → IsCall c → length (shown c) ≤ 9
short_call c is = let a = is.six in let b = short_suffix c.ssid is.small in let sum = length-append (name_in c.letters) (suffix c.ssid) in omega arith

fits : (m : ℕ) (kind : List ℕ) (origin given user dest text : Value) → NotNan (number origin) → NotNan (number given) → NotNan (number user) → NotNan (number dest) → NotNan (number text)
    → length kind + length (bytes origin) + length (bytes given) + length (bytes user) + length (bytes dest) + length (bytes text) ≤ 9999
    → IsStorableRow (table_reals log_table) (Int (pos m) ∷ Null ∷ Words kind ∷ origin ∷ given ∷ user ∷ dest ∷ text ∷ [])
unfolding is_nan
fits m kind origin given user dest text o g u d t short = (
  record {
    typed = λ c set. absurd (omega (arith, bit_at-zero c));
    columns = omega arith;
    numbers = All-from_recursion (λ v. NotNan (number v)) (Int (pos m) ∷ Null ∷ Words kind ∷ origin ∷ given ∷ user ∷ dest ∷ text ∷ []) (tt, (tt, (tt, (o, (g, (u, (d, (t, tt))))))));
    short = simp sum_by-cons (omega arith);
  },
  omega arith,
)

storable : (m : ℕ) (e : Record) → IsWhole e → IsStorableRow (table_reals log_table) (new_row m e)
unfolding new_row is_nan
storable m (Posted number user dest text) whole =
    let a = short_call user whole.0 in
    let b = short_call dest whole.1 in
    let c = whole.2 in fits m (codes "posted") Null (Int (pos number)) (Words (shown user)) (Words (shown dest)) (Octets text) tt tt tt tt tt (omega arith)
storable m (Settled number) whole = fits m (codes "settled") Null (Int (pos number)) Null Null Null tt tt tt tt tt (omega arith)
storable m (Stored origin number user text) whole =
    let a = short_call origin whole.0 in
    let b = short_call user whole.1 in
    let c = whole.2 in fits m (codes "stored") (Words (shown origin)) (Int (pos number)) (Words (shown user)) Null (Octets text) tt tt tt tt tt (omega arith)
storable m (Local user text) whole =
    let a = short_call user whole.0 in let c = whole.1 in fits m (codes "local") Null Null (Words (shown user)) Null (Octets text) tt tt tt tt tt (omega arith)
storable m (Read letter) whole = fits m (codes "read") Null (Int (pos letter)) Null Null Null tt tt tt tt tt (omega arith)
storable m (Killed letter) whole = fits m (codes "killed") Null (Int (pos letter)) Null Null Null tt tt tt tt tt (omega arith)

-- ---- what the rules say of it

typed : (db : Trees) (m : ℕ) (e : Record) → list_all (passes Datatype log_schema db log_table) (new_row m e ∷ []) ≡ true
unfolding new_row
typed db m (Posted number user dest text) = refl
typed db m (Settled number) = refl
typed db m (Stored origin number user text) = refl
typed db m (Local user text) = refl
typed db m (Read letter) = refl
typed db m (Killed letter) = refl

present : (db : Trees) (m : ℕ) (e : Record) → list_all (passes NotNull log_schema db log_table) (new_row m e ∷ []) ≡ true
unfolding new_row
present db m (Posted number user dest text) = refl
present db m (Settled number) = refl
present db m (Stored origin number user text) = refl
present db m (Local user text) = refl
present db m (Read letter) = refl
present db m (Killed letter) = refl

-- no row has its number
free : (n : ℕ) (kept : List Record) (rows : List Row) (new : Row) (m : ℕ) → map projected rows ≡ shown_from n kept → rowid new ≡ Int (pos m) → n + length kept ≤ m
    → list_any (λ r. is_eq (value_cmp (rowid r) (rowid new))) rows ≡ false
free n [] [] new m h is low = refl
free n [] (r ∷ rows) new m h is low = absurd cc
free n (e ∷ kept) [] new m h is low = absurd cc
free n (e ∷ kept) (r ∷ rows) new m h is low =
    let below : pos n <ℤ pos m = omega (arith, ints) in
    let less : value_cmp (rowid r) (rowid new) ≡ Less = ap₂ value_cmp (first_rowid n e kept r rows h) is ∙ value_cmp-Int (pos n) (pos m) ∙ Less-from_lt (pos n) (pos m) below in
    rw less (free (n + 1) kept rows new m (others n e kept r rows h) is (omega arith))

each_row : (P : Row → Bool) → ((r : Row) → P r ≡ true) → (rows : List Row) → AllByRecursion (λ r. P r ≡ true) rows
each_row P all [] = tt
each_row P all (r ∷ rows) = (all r, each_row P all rows)

unique : (db : Trees) → Keeps Unique log_schema db
unique db = (each_row _ (λ r. refl) (db 0), tt)

refers : (db : Trees) → Refers among.All log_schema db
refers db = (each_row _ (λ r. refl) (db 0), tt)

edit_with : ℕ → Record → Edit
edit_with m e = record { table = log_table; gone = []; news = new_row m e ∷ [] }

-- it is refused only where its number doesn't fit
refused : (db : Trees) (kept : List Record) (e : Record) → map projected (db 0) ≡ shown_from 1 kept → (why : Refusal) → IsRefused log_schema Enforced db (edit_with (1 + length kept) e) why
    → (why ≡ NoRowid) × (2 ^ 63 - 1 ≤ length kept)
unfolding edit_with new_row
refused db kept e has (Violates Datatype) h = true_or_false (sym (typed db (1 + length kept) e) ∙ h)
refused db kept e has (Violates NotNull) h = true_or_false (sym (present db (1 + length kept) e) ∙ h)
refused db kept e has (Violates Check) h = true_or_false h
refused db kept e has (Violates PrimaryKey) h =
    let none = free 1 kept (db 0) (new_row (1 + length kept) e) (1 + length kept) has refl (omega arith) in
    true_or_false (sym (ap (λ b. not b && true) none) ∙ h)
refused db kept e has (Violates Unique) h = absurd (h (unique (with_tree db 0 (edited db (edit_with (1 + length kept) e)))))
refused db kept e has (Violates ForeignKey) h = absurd h
refused db kept e has Mismatch h = true_or_false h
refused db kept e has NoRowid h =
    let all : (nat_lt (1 + length kept) (2 ^ 63) && true) ≡ false = h in (
      refl,
      elim (cases_Bool (nat_lt (1 + length kept) (2 ^ 63))) [
        | inl small ↦ true_or_false (sym (ap (λ b. b && true) small) ∙ all)
        | inr big ↦ (let large = ltb-false (1 + length kept) (2 ^ 63) big in omega arith)
      ],
    )
refused db kept e has BadReference h = true_or_false h
refused db kept e has TooDeep h = absurd h

-- ---- the insert

-- how it may stop
IsStop : List Record → Option Error → Type 0
IsStop kept None = ⊥
IsStop kept (Some error) = (error ≡ SqliteFailure code.NoRowid) × (2 ^ 63 - 1 ≤ length kept)

accepted : (e : Record) → accepts_terms terms (values_of e ++ []) ≡ true
accepted (Posted number user dest text) = refl
accepted (Settled number) = refl
accepted (Stored origin number user text) = refl
accepted (Local user text) = refl
accepted (Read letter) = refl
accepted (Killed letter) = refl

settles : (n : ℕ) (next : Trees) (why : Option Refusal) → ¬ Leads log_schema Enforced n next [] (Err why)
settles zero next why h = absurd (let e = h.1 in cc)
settles (suc n) next why h = absurd (omega (arith, ap length h.2, length-append h.0 (h.1 ∷ [])))

edit_is : (db : Trees) (kept : List Record) (e : Record) (rows : List Row) → map projected (db 0) ≡ shown_from 1 kept → rows ≡ (Null ∷ Null ∷ values_of e) ∷ []
    → edit_of db log_table [] Chosen 0 rows ≡ edit_with (1 + length kept) e
unfolding edit_with new_row
edit_is db kept e rows has is =
    let number : next_rowid (db 0) ≡ pos (1 + length kept) = next 1 kept (db 0) has in
    ap (edit_of db log_table [] Chosen 0) is
    ∙ ap (λ row. record { table = log_table; gone = []; news = with_rowid Chosen (db 0) row ∷ [] }) (cast_is e)
    ∙ ap (λ z. record { table = log_table; gone = []; news = (Int z ∷ Null ∷ values_of e) ∷ [] }) number

module _ (kept : List Record) (e : Record) (whole : IsWhole e) where
  -- the edit itself
  edit_stops : (db : Trees) → map projected (db 0) ≡ shown_from 1 kept → (stop : Option Error) (why : Option Refusal) → Writes log_schema Enforced db (edit_with (1 + length kept) e) (Err why)
      → stop ≡ option_map edit_error why → IsStop kept stop
  unfolding IsStop edit_with
  edit_stops db has stop why (inl bad) is =
      let found = refused db kept e has bad.0 bad.1 in
      let named : why ≡ Some bad.0 = (let same = bad.2 in cc) in
      subst (IsStop kept) (sym (is ∙ ap (option_map edit_error) (named ∙ ap Some found.0))) (refl, found.1)
  edit_stops db has stop why (inr (inl big)) is = absurd (elim big.1 [
    | inl same ↦ elim big.2 [ inl large ↦ large (subst (IsStorableRow (table_reals log_table)) (sym same) (storable (1 + length kept) e whole)) | inr index ↦ index.1 ]
    | inr none ↦ none
  ])
  edit_stops db has stop why (inr (inr went)) is = absurd (settles went.2.0 went.0 why went.2.1)

  -- the rows that it is given
  given_stops : (db : Database) (stop : Option Error) → Sourced None db (values_of e ++ []) (Values terms 8) (Err stop) → IsStop kept stop
  given_stops db None h = absurd h
  given_stops db (Some error) (inl kind) = true_or_false (sym (accepted e) ∙ kind.1)
  given_stops db (Some error) (inr steps) = true_or_false (sym steps.1)

  insert_stops : (old : Database) (text : List ℕ) (stop : Option Error) → old.schema ≡ log_schema → map projected (old.trees 0) ≡ shown_from 1 kept
      → Does None plain_mode (values_of e) old text None insert_command (Err stop) → IsStop kept stop
  insert_stops old text stop schema has it =
      let at = subst (λ s. Does None plain_mode (values_of e) (record old { schema = s }) text None insert_command (Err stop)) schema it in
      elim (stops at) [
        | inl inserts ↦ elim (stops inserts) [
          | inl sourced ↦ given_stops (record { schema = log_schema; trees = old.trees }) stop sourced
          | inr given ↦ elim (stops given.2) [
            | inl counter ↦ absurd cc
            | inr counted ↦ elim (stops counted.2) [
              | inl edits ↦ edit_stops old.trees has stop edits.0 (
                  subst (λ x. Writes log_schema Enforced old.trees x (Err edits.0)) (edit_is old.trees kept e given.0 has (given.1.1 ∙ source_is e)) edits.1
                  ) edits.2
              | inr edited ↦ elim (stops edited.2) [ inl counts ↦ absurd cc | inr ends ↦ (let e = ends.2 in absurd cc) ]
            ]
          ]
        ]
        | inr wrote ↦ elim (stops wrote.2) [
          | inl tested ↦ absurd (tested.0 (refers wrote.0.trees))
          | inr among ↦ elim (stops among.2) [ inl returns ↦ absurd cc | inr ends ↦ (let e = ends.2 in absurd cc) ]
        ]
      ]

-- ---- what is answered

reason_at : (old new : State) (kept : List Record) (error : Error) → IsStop kept (Some error) → logs.HasCause old.faults new.faults kept (reason_of error)
unfolding IsStop
reason_at old new kept error stop = subst (λ x. logs.HasCause old.faults new.faults kept (reason_of x)) (sym stop.0) stop.1

never : (kept : List Record) → ¬ IsStop kept None
unfolding IsStop
never kept h = h

-- an insert into a log that fails
pub insert_fails : (old new : State) (kept : List Record) (e : Record) (error : Error) → IsWhole e → Holds old kept → Executes insert_text (values_of e) old new (Err error)
    → logs.HasCause old.faults new.faults kept (reason_of error)
unfolding ExecutesIn IsNotRun
insert_fails old new kept e error whole h (inl (inl none)) =
    absurd (is_statement log_schema old insert_text (values_of e) error h.schema insert_plain insert_whole.0 (six e ∙ sym insert_whole.1) none.0)
insert_fails old new kept e error whole h (inl (inr fails)) = failed old new ⊥ kept error h.is_open (λ x. x) fails
insert_fails old new kept e error whole h (inr it) =
    let known = sym it.1.is ∙ ap (λ s. understood s insert_text) h.schema in
    let bare = subst IsPlain (sym known) insert_plain in
    let command : it.0.command ≡ insert_command = ap command_of known ∙ insert_is in
    let runs = rw (command, bare.0, bare.1, append-nil (values_of e)) at it.2 in
    let text = text_of insert_text it.0 in
    let limited = λ (stop : Option Error) (does : Does old.step_limit (mode_of old) (values_of e) old.now text None insert_command (Err stop)).
    subst (λ l. Does l (mode_of old) (values_of e) old.now text None insert_command (Err stop)) h.unlimited does in
    elim runs [
      | inl kept_out ↦ elim kept_out.0 [
        | inl misplaced ↦ absurd (no_control old insert_command error (λ e. cc) (λ e. cc) (λ e. cc) (λ name e. cc) (λ name e. cc) misplaced)
        | inr does ↦ reason_at old new kept error (insert_stops kept e whole old.now text (Some error) h.schema h.stands.rows (limited (Some error) does.1))
      ]
      | inr fails ↦ failed old new (Does old.step_limit (mode_of old) (values_of e) old.now text None insert_command (Err None)) kept error h.is_open
          (λ big. never kept (insert_stops kept e whole old.now text None h.schema h.stands.rows (limited None big))) fails
    ]

-- nothing is refused of it
select_runs : (old : State) (db : Database) (error : Error) → db.schema ≡ log_schema → ¬ RefusesToRead None select_command db [] error
select_runs old db error has (inl kind) = true_or_false (sym (ap (λ s. accepts_program s [] query []) has) ∙ kind.1)
select_runs old db error has (inr (inl sums)) = elim sums.1 [ inl group ↦ group | inr fold ↦ folds (db.trees 0) fold ]
  where
    folds : (rows : List Row) → ¬ Any (λ r. ⊥) rows
    folds rows any = any.4
select_runs old db error has (inr (inr steps)) = true_or_false (sym steps.1)

-- a query of a log that fails
pub select_fails : (old new : State) (kept : List Record) (error : Error) → Holds old kept → FailsToQuery select_text [] old new error → logs.HasCause old.faults new.faults kept (reason_of error)
unfolding FailsToQuery IsNotRun
select_fails old new kept error h (inl (inl none)) = absurd (is_statement log_schema old select_text [] error h.schema select_plain select_whole.0 (sym select_whole.1) none.0)
select_fails old new kept error h (inl (inr fails)) = failed old new ⊥ kept error h.is_open (λ x. x) fails
select_fails old new kept error h (inr it) =
    let known = sym it.1.is ∙ ap (λ s. understood s select_text) h.schema in
    let bare = subst IsPlain (sym known) select_plain in
    let command : it.0.command ≡ select_command = ap command_of known ∙ select_is.0 in
    let shows = rw (bare.0, bare.1) at it.2 in
    let db : shows.0 ≡ old.now = subst (λ b. IsSourceOf b old.now shows.0) (ap (λ s. reads_listing s select_text) h.schema ∙ select_is.1) shows.1 in
    absurd (select_runs old old.now error h.schema (subst (λ d. RefusesToRead None select_command d [] error) db (subst₂ (λ l k. RefusesToRead l k shows.0 [] error) h.unlimited command shows.2)))
