-- Why the table of a log isn't made: for want of memory, or since the disk has failed.
use Rattle.std.proofs.Common.{◌≡◌, ◌⊎◌, inl, inr, ℕ, ◌+◌, ◌^◌, ◌≤◌, ◌<◌, List, [], ◌∷◌, length, codes, Bool, true, false, nat_le, nat_lt, ◌&&◌, Option, Some, None, Ok, Err, IsTrue, refl, sym, ap, subst, ◌∙◌, arith}
use lib.Ieee.{is_nan, lt}
use Rattle.std.proofs.lemmas.Bool.{and_parts, ltb-true}
use Rattle.std.proofs.lemmas.List.Elements.{All-from_recursion}
use Rattle.std.proofs.lemmas.Str.{IsUtf8-from_ascii}
use Rattle.std.proofs.lemmas.Str.Ascii.{IsAscii-from_all}
use Rattle.std.specs.List.{AllByRecursion}
use Rattle.std.specs.Str.{IsUtf8}
use Rattle.mail_records.specs.Logs as logs
use Rattle.sqlite.specs.Table.{Table}
use Rattle.sqlite.specs.Command.TheVariants.{CreateTable}
use Rattle.sqlite.specs.Change.{created, next_tree, is_reserved, is_used}
use Rattle.sqlite.specs.Compile.{table_defined_by}
use Rattle.sqlite.specs.Tree.{Trees}
use Rattle.sqlite.specs.declared.types.Value.TheVariants.{Text}
use Rattle.std.specs.Prelude.{◌==◌}
use Rattle.sqlite.specs.declared.error.Error.{Error}
use Rattle.sqlite.specs.Listing.{understood}
use Rattle.sqlite.specs.Does.{Does, MakesTable, lacks_sequence}
use Rattle.sqlite.specs.State.{State, mode_of, ExecutesIn, Executes, IsNotRun, text_of}
use Rattle.sqlite.proofs.Callers.{IsPlain, command_of, statement_of}
use Rattle.sqlite_catalog.specs.Calls.{RefusesTable, IsBadName, IsLongTable}
use Rattle.sqlite_catalog.specs.declared.error.Refusal.{Refusal}
use Rattle.sqlite_catalog.specs.declared.error.Refusal.TheVariants.{Invalid, NameTaken, BadName, TooBig, BadKey, BadText, Violates}
use Rattle.sqlite_catalog.specs.Listing.{is_fit, is_formed}
use Rattle.sqlite_rules.specs.Lists.{Has}
use Rattle.sqlite_schema.specs.Rules.{index_reals, table_reals}
use Rattle.sqlite_tied.specs.Compute.{everything}
use Rattle.sqlite_log.specs.Table.{log_table, log_schema, no_schema, create_text}
use Rattle.sqlite_log.specs.Held.{reason_of}
use Rattle.sqlite_log.proofs.Failing.{failed, is_statement, names_of, no_control, plain_mode, stops, tail_of, true_or_false}
use Rattle.sqlite_log.proofs.Texts.{create_is, create_plain}

create_whole : (nat_le (length create_text) (tail_of (understood no_schema create_text)) ≡ true) × (names_of (understood no_schema create_text) ≡ 0)
unfolding understood everything tail_of names_of
create_whole = (refl, refl)

-- the table that the text defines
defined_is : (table : Table) → table_defined_by create_text ≡ Ok table → table ≡ log_table
defined_is table e = (let both = sym e ∙ create_is.2 in cc)

short_text : length create_text ≡ 134
short_text = refl

is_ascii : List ℕ → Bool
is_ascii [] = true
is_ascii (b ∷ bs) = nat_lt b 128 && is_ascii bs

each_small : (bs : List ℕ) → is_ascii bs ≡ true → AllByRecursion (λ b. b < 128) bs
unfolding is_ascii
each_small [] e = tt
each_small (b ∷ bs) e = (let both = and_parts (nat_lt b 128) (is_ascii bs) e in (ltb-true b 128 both.0, each_small bs both.1))

utf8 : (bs : List ℕ) → is_ascii bs ≡ true → IsUtf8 bs
utf8 bs e = IsUtf8-from_ascii bs (IsAscii-from_all bs (All-from_recursion (λ b. b < 128) bs (each_small bs e)))

utf8_text : IsUtf8 create_text
unfolding is_ascii
utf8_text = utf8 create_text refl

utf8_name : IsUtf8 log_table.name
unfolding is_ascii
utf8_name = utf8 log_table.name refl

unreserved : is_reserved log_table.name ≡ false
unfolding Rattle.sqlite_schema.specs.Names.same_name
unreserved = refl

fits : is_fit (Text (codes "table")) (Text log_table.name) (Text log_table.name) (Text create_text) ≡ true
unfolding Rattle.sqlite_trees.specs.Sound.fits_kind Rattle.sqlite_trees.specs.Sound.is_free_name Rattle.sqlite_trees.specs.Sound.same_name Rattle.sqlite_trees.specs.Sound.begins Rattle.sqlite_value.specs.Order.value_cmp is_nan lt
fits = refl

-- nothing is wrong with it
refused : (why : Refusal) → ¬ RefusesTable no_schema create_text why
refused (Invalid e) h = (let both = sym h ∙ create_is.2 in cc)
refused NameTaken h = elim h.2 [ inl used ↦ used_name used | inr index ↦ other_name index.0.name index.2 ]
  where
    used_name : ¬ (is_used no_schema h.0.name ≡ true)
    used_name e = true_or_false (sym e)

    other_name : (name : List ℕ) → ¬ (is_used no_schema name ≡ true)
    other_name name e = true_or_false (sym e)
refused BadName h = bad h.0.name (ap (λ (t : Table). t.name) (defined_is h.0 h.1)) h.2
  where
    bad : (name : List ℕ) → name ≡ log_table.name → ¬ IsBadName name (length h.0.uniques == 0)
    bad name is (inl no_text) = no_text (subst IsUtf8 (sym is) utf8_name)
    bad name is (inr reserved) = true_or_false (sym (sym (ap is_reserved is) ∙ reserved.0) ∙ unreserved)
refused TooBig h = big (subst (λ t. (65536 ≤ next_tree no_schema + length t.uniques) ⊎ ((2 ^ 64 ≤ table_reals t) ⊎ ((key : List ℕ) × Has t.uniques key × (2 ^ 64 ≤ index_reals (table_reals t) key)))) (defined_is h.0 h.1) h.2)
  where
    big : ¬ ((65536 ≤ next_tree no_schema + length log_table.uniques) ⊎ ((2 ^ 64 ≤ table_reals log_table) ⊎ ((key : List ℕ) × Has log_table.uniques key × (2 ^ 64 ≤ index_reals (table_reals log_table) key))))
    big (inl trees) = omega (arith, trees)
    big (inr (inl reals)) = omega (arith, reals)
    big (inr (inr key)) = absurd key.1
refused BadKey h = true_or_false (ap is_formed (sym (defined_is h.0 h.1)) ∙ h.2)
refused BadText h = true_or_false (sym fits ∙ ap (λ (t : Table). is_fit (Text (codes "table")) (Text t.name) (Text t.name) (Text create_text)) (sym (defined_is h.0 h.1)) ∙ h.2)
refused (Violates rule) h = h

long : ¬ IsLongTable create_text
long h = (let name = ap (λ (t : Table). length t.name) (defined_is h.0 h.1) in omega (arith, h.2, name, short_text))

makes : (trees : Trees) (stop : Option Error) → ¬ MakesTable create_text (record { schema = no_schema; trees = trees }) (Err stop)
makes trees None h = long h
makes trees (Some e) (inl no_text) = no_text.0 utf8_text
makes trees (Some e) (inr alters) = refused alters.0 alters.1

create_stops : (trees : Trees) (text : List ℕ) (stop : Option Error) → text ≡ create_text → ¬ Does None plain_mode [] (record { schema = no_schema; trees = trees }) text None CreateTable (Err stop)
create_stops trees text stop is does =
    let it = subst (λ t. Does None plain_mode [] (record { schema = no_schema; trees = trees }) t None CreateTable (Err stop)) is does in
    elim (stops it) [
      | inl defines ↦ elim (stops defines) [
        | inl table ↦ makes trees stop table
        | inr sequence ↦ (
            let made = sequence.1 in
            let same = defined_is made.table made.defined in
            let schema : sequence.0.schema ≡ log_schema = made.is ∙ ap (created no_schema) same in
            let plain : lacks_sequence sequence.0.schema ≡ false = ap lacks_sequence schema in
            let none = rw plain at sequence.2 in absurd cc
            )
      ]
      | inr gives ↦ (let e = gives.2 in absurd cc)
    ]

pub create_fails : (old new : State) (error : Error) → IsTrue old.is_open → old.step_limit ≡ None → old.now.schema ≡ no_schema → Executes create_text [] old new (Err error)
    → logs.HasCause old.faults new.faults [] (reason_of error)
unfolding ExecutesIn IsNotRun
create_fails old new error is_open unlimited has (inl (inl none)) =
    absurd (is_statement no_schema old create_text [] error has create_plain create_whole.0 (sym create_whole.1) none.0)
create_fails old new error is_open unlimited has (inl (inr fails)) = failed old new ⊥ [] error is_open (λ x. x) fails
create_fails old new error is_open unlimited has (inr it) =
    let known = sym it.1.is ∙ ap (λ s. understood s create_text) has in
    let bare = subst IsPlain (sym known) create_plain in
    let command : it.0.command ≡ CreateTable = ap command_of known ∙ create_is.0 in
    let text : text_of create_text it.0 ≡ create_text = ap (statement_of create_text) known ∙ create_is.1 in
    let runs = rw (command, bare.0) at it.2 in
    let said = text_of create_text it.0 in
    let stopped = λ (stop : Option Error) (does : Does old.step_limit (mode_of old) [] old.now said None CreateTable (Err stop)).
    create_stops old.now.trees said stop text (subst (λ d. Does None plain_mode [] d said None CreateTable (Err stop)) (ap (λ s. record { schema = s; trees = old.now.trees }) has)
    (subst (λ l. Does l (mode_of old) [] old.now said None CreateTable (Err stop)) unlimited does)) in
    elim runs [
      | inl kept_out ↦ elim kept_out.0 [
        | inl misplaced ↦ absurd (no_control old CreateTable error (λ e. cc) (λ e. cc) (λ e. cc) (λ name e. cc) (λ name e. cc) misplaced)
        | inr does ↦ absurd (stopped (Some error) does.1)
      ]
      | inr fails ↦ failed old new (Does old.step_limit (mode_of old) [] old.now said None CreateTable (Err None)) [] error is_open (λ big. stopped None big) fails
    ]
