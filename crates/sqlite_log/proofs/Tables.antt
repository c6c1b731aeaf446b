-- A new table, and an old one.
use Rattle.std.proofs.Common.{◌≡◌, ◌≢◌, ℕ, List, [], length, map, false, cond, None, Ok, sym, ap, subst, ◌∙◌, arith}
use Rattle.mail_records.specs.declared.record.Record.{Record}
use Rattle.sqlite.specs.Schema.{Schema}
use Rattle.sqlite.specs.Command.TheVariants.{CreateTable}
use Rattle.sqlite.specs.Change.{created, next_tree}
use Rattle.sqlite.specs.Does.{Tally, lacks_sequence}
use Rattle.sqlite.specs.Tree.{Trees}
use Rattle.sqlite.specs.Effect.{Database}
use Rattle.sqlite.specs.State.{State, Writes, Executes, Opens, IsLive}
use Rattle.sqlite.proofs.Callers.{runs_as}
use Rattle.sqlite_catalog.proofs.ReadLemmas.{lists_once}
use Rattle.sqlite_catalog.specs.Listing.{IsSound}
use Rattle.sqlite_log.specs.Table.{log_table, log_schema, no_schema, create_text, projected}
use Rattle.sqlite_log.specs.Held.{Holds, StandsFor}
use Rattle.sqlite_log.proofs.Texts.{create_is, create_plain}
use Rattle.sqlite_log.proofs.Inserting.{went, same_value}

pub creates : (old new : State) (count : ℕ) → new.step_limit ≡ old.step_limit → old.step_limit ≡ None → old.now.schema ≡ no_schema → old.in_transaction ≡ false → Executes create_text [] old new (Ok count) → Holds new []
creates old new count limit none_set has mode h =
    let w = subst (λ t. Writes old new None CreateTable t [] count) create_is.1 (runs_as create_text [] old new no_schema has CreateTable create_is.0 create_plain count h) in
    let all = went w.changed in
    let first = went all.1 in
    let made = first.1 in
    let both : Ok made.table ≡ Ok log_table = sym made.defined ∙ create_is.2 in
    let same : made.table ≡ log_table = cc in
    let schema : first.0.schema ≡ log_schema = made.is ∙ ap (λ s. created s made.table) has ∙ ap (created no_schema) same in
    let plain : lacks_sequence first.0.schema ≡ false = ap lacks_sequence schema in
    let now : new.now ≡ first.0 = ap (λ (p : Tally × Database). p.1) (same_value all.2) ∙ same_value (rw plain at first.2) in
    let is : new.now.schema ≡ log_schema = ap (λ (d : Database). d.schema) now ∙ schema in
    let none : new.now.trees 0 ≡ [] = ap (λ (d : Database). d.trees 0) now ∙ subst (λ s. first.0.trees (next_tree s) ≡ []) has made.empty in
    record {
      is_open = w.shown.is_open;
      autocommit = w.shown.mode ∙ mode;
      unlimited = limit ∙ none_set;
      schema = is;
      stands = record { sound = subst (λ s. IsSound s new.now.trees) is w.sound; rows = ap (map projected) none; readable = tt };
      committed = w.shown.committed_is ∙ ap (λ b. cond b old.committed new.now) mode;
    }

-- an open finds what the files held
pub opened : (s : State) (db : Trees) (kept : List Record) → s.step_limit ≡ None → Opens s → IsLive s → s.committed.trees ≡ db → StandsFor db kept → Holds s kept
opened s db kept unlimited opens live is stands =
    let trees : s.now.trees ≡ db = ap (λ (d : Database). d.trees) opens.clean ∙ is in
    let sound : IsSound s.now.schema db = subst (λ t. IsSound s.now.schema t) trees (live opens.is_open).0 in
    record {
      is_open = opens.is_open;
      autocommit = opens.autocommit;
      unlimited = unlimited;
      schema = lists_once _ _ _ sound.lists stands.sound.lists;
      stands = subst (λ t. StandsFor t kept) (sym trees) stands;
      committed = sym opens.clean;
    }

-- a database with nothing in it is no log
pub no_log : log_schema ≢ no_schema
no_log same = omega (arith, ap (λ (s : Schema). length s.tables) same)
