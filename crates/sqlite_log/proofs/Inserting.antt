-- What an insert leaves.
use Rattle.std.proofs.Common.{◌≡◌, ◌⊎◌, inl, inr, ℕ, List, [], ◌∷◌, ◌++◌, map, false, cond, Option, None, Ok, Err, Result, IsTrue, refl, sym, ap, subst, ◌∙◌, append-nil}
use Rattle.std.specs.List.{AllByRecursion}
use Rattle.std.proofs.lemmas.Bool.{cases_Bool}
use Rattle.mail_records.specs.declared.record.Record.{Record}
use Rattle.sqlite.specs.declared.types.Value.TheVariants.{Null, Int}
use Rattle.sqlite.specs.Order.{Row}
use Rattle.sqlite.specs.Edit.{edit_of, edited, with_rowid, next_rowid}
use Rattle.sqlite.specs.Rowids.TheVariants.{Chosen}
use Rattle.sqlite.specs.Does.{Tally, Does}
use Rattle.sqlite.specs.Rows.{Written}
use Rattle.sqlite.specs.Tree.{Trees, put_row}
use Rattle.sqlite.specs.declared.error.Error.{Error}
use Rattle.sqlite.specs.declared.run.Mode.{Mode}
use Rattle.sqlite.specs.Listing.{understood}
use Rattle.sqlite.specs.Effect.{Database}
use Rattle.sqlite.specs.State.{State, mode_of, Writes, Executes, IsUnchanged, IsRolledBack, CommitsBy, RunsCommand, shows_rows, ExecutesIn, IsNotRun, text_of}
use Rattle.sqlite.specs.Clock.{timed}
use Rattle.sqlite.proofs.Callers.{IsPlain, command_of, statement_of, runs_as, one_step}
use Rattle.sqlite_catalog.specs.Listing.{IsSound}
use Rattle.sqlite_log.specs.Table.{log_table, log_schema, insert_text, values_of, shown_from, projected}
use Rattle.sqlite_log.specs.Reading.{IsReadable}
use Rattle.sqlite_log.specs.Held.{Holds, StandsFor}
use Rattle.sqlite_log.proofs.Texts.{insert_command, insert_is, insert_plain}
use Rattle.sqlite_log.proofs.Rows.{source_is, cast_is, puts_last}

-- a part that gave a value did not stop on the way
pub went : {B E R : Type 0} {b : B} {Stops : E → Type 0} → ((stop : E) × Stops stop × (Ok b ≡ Err stop)) ⊎ R → R
went (inl stopped) = absurd (let e = stopped.2 in cc)
went (inr on) = on

pub same_value : {B E : Type 0} {a b : B} → ◌≡◌ {A = Result B E} (Ok a) (Ok b) → a ≡ b
same_value e = cc

does : (limit : Option ℕ) (mode : Mode) (old after : Database) (text : List ℕ) (tally : Tally) (kept : List Record) (e : Record) → old.schema ≡ log_schema → map projected (old.trees 0) ≡ shown_from 1 kept
    → Does limit mode (values_of e) old text None insert_command (Ok (tally, after)) → (after.schema ≡ log_schema) × (map projected (after.trees 0) ≡ shown_from 1 (kept ++ e ∷ []))
does limit mode old after text tally kept e has h it =
    let db = old.trees in
    let done = went (subst (λ s. Does limit mode (values_of e) (record old { schema = s }) text None insert_command (Ok (tally, after))) has it) in
    let now = ap (λ (p : Tally × Database). p.1) (same_value (went (went done.2).2).2) in
    let given = went done.1 in
    let written = went (went given.2).2 in
    let counted = went written.2 in
    let trees : done.0.trees ≡ written.0 = ap (λ (w : Written). w.trees) (same_value counted.2) ∙ same_value counted.1 in
    let rows = (one_step log_schema _ db written.0 (edit_of db log_table [] Chosen 0 given.0) refl written.1).rows in
    let sources : given.0 ≡ (Null ∷ Null ∷ values_of e) ∷ [] = given.1.1 ∙ source_is e in
    let edit : edited db (edit_of db log_table [] Chosen 0 given.0) ≡ put_row (Int (next_rowid (db 0)) ∷ Null ∷ values_of e) (db 0) =
    ap (λ all. edited db (edit_of db log_table [] Chosen 0 all)) sources ∙ ap (λ row. put_row (with_rowid Chosen (db 0) row) (db 0)) (cast_is e) in (
      ap (λ (d : Database). d.schema) now,
      ap (λ (d : Database). map projected (d.trees 0)) now ∙ ap (λ (t : Trees). map projected (t 0)) trees ∙ ap (map projected) (rows ∙ edit) ∙ puts_last kept (db 0) e h,
    )

-- ---- what a call of it leaves

all_more : {X : Type 0} (P : X → Type 0) (xs : List X) (x : X) → AllByRecursion P xs → P x → AllByRecursion P (xs ++ x ∷ [])
all_more P [] x all one = (one, tt)
all_more P (y ∷ xs) x all one = (all.0, all_more P xs x all.1 one)

pub appends : (old new : State) (kept : List Record) (e : Record) (count : ℕ) → IsReadable e → new.step_limit ≡ old.step_limit → Holds old kept → Executes insert_text (values_of e) old new (Ok count) → Holds new (kept ++ e ∷ [])
appends old new kept e count readable limit h ran =
    let w : Writes old new None insert_command (statement_of insert_text (understood log_schema insert_text)) (values_of e) count =
    runs_as insert_text (values_of e) old new log_schema h.schema insert_command insert_is insert_plain count ran in
    let done = does old.step_limit (mode_of old) old.now new.now (statement_of insert_text (understood log_schema insert_text)) w.tally kept e h.schema h.stands.rows w.changed in
    record {
      is_open = w.shown.is_open;
      autocommit = w.shown.mode ∙ h.autocommit;
      unlimited = limit ∙ h.unlimited;
      schema = done.0;
      stands = record { sound = subst (λ s. IsSound s new.now.trees) done.0 w.sound; rows = done.1; readable = all_more IsReadable kept e h.stands.readable readable };
      committed = w.shown.committed_is ∙ ap (λ b. cond b old.committed new.now) h.autocommit;
    }

-- an error changes nothing, or rolls back
err_keeps : (sql : List ℕ) (params : Row) (old new : State) (e : Error) → Executes sql params old new (Err e) → IsUnchanged old new ⊎ IsRolledBack old new
unfolding ExecutesIn IsNotRun
err_keeps sql params old new e (inl (inl none)) = inl none.1
err_keeps sql params old new e (inl (inr fails)) = inr fails.3
err_keeps sql params old new e (inr h) = elim (cases_Bool (shows_rows false h.0)) [
  | inl shows ↦ inl (rw shows at h.2).1
  | inr runs ↦ of_command (rw runs at h.2)
]
  where
    of_command : RunsCommand old new sql h.0 (timed params h.0.formats h.1.now) (Err e) → IsUnchanged old new ⊎ IsRolledBack old new
    of_command (inl refused) = inl refused.1
    of_command (inr fails) = inr fails.3

pub stays : (old new : State) (kept : List Record) → new.step_limit ≡ old.step_limit → Holds old kept → IsTrue new.is_open → new.in_transaction ≡ false → new.now ≡ old.now → new.committed ≡ new.now → Holds new kept
stays old new kept limit h is_open mode now committed =
    record {
      is_open = is_open;
      autocommit = mode;
      unlimited = limit ∙ h.unlimited;
      schema = ap (λ (d : Database). d.schema) now ∙ h.schema;
      stands = subst (λ (d : Database). StandsFor d.trees kept) (sym now) h.stands;
      committed = committed;
    }

pub fails : (old new : State) (kept : List Record) (e : Record) (error : Error) → new.step_limit ≡ old.step_limit → Holds old kept → Executes insert_text (values_of e) old new (Err error) → IsTrue new.is_open → Holds new kept
fails old new kept e error limit h ran is_open = elim (err_keeps insert_text (values_of e) old new error ran) [
  | inl same ↦ stays old new kept limit h is_open (same.0.mode ∙ h.autocommit) same.0.now_is (same.0.committed_is ∙ h.committed ∙ sym same.0.now_is)
  | inr back ↦ let undone = back.undone is_open in stays old new kept limit h is_open back.autocommit (undone.0 ∙ h.committed) (undone.1 ∙ sym undone.0)
]

pub crashes : (old : State) (db : Trees) (kept : List Record) (e : Record) → IsReadable e → Holds old kept → CommitsBy insert_text (values_of e) old db → StandsFor db (kept ++ e ∷ [])
unfolding CommitsBy
crashes old db kept e readable h it =
    let known = sym it.1.is ∙ ap (λ s. understood s insert_text) h.schema in
    let bare = subst IsPlain (sym known) insert_plain in
    let command : it.0.command ≡ insert_command = ap command_of known ∙ insert_is in
    elim it.2 [
      | inl ends ↦ absurd (elim ends.0 [ inl commit ↦ (let c = sym command ∙ commit in cc) | inr release ↦ (let c = sym command ∙ release.2 in cc) ])
      | inr writes ↦
          let at_command = rw (command, bare.0, bare.1, append-nil (values_of e)) at writes.3 in
          let done = does old.step_limit (mode_of old) old.now writes.2 (text_of insert_text it.0) writes.1 kept e h.schema h.stands.rows at_command in
          subst (λ t. StandsFor t (kept ++ e ∷ [])) (sym writes.5) (record { sound = subst (λ s. IsSound s writes.2.trees) done.0 writes.4; rows = done.1; readable = all_more IsReadable kept e h.stands.readable readable })
    ]
