use Rattle.std.proofs.Common.{◌≡◌, sym, ap, subst, ◌∙◌, IsTrue}
use Rattle.std.proofs.Math.Logic.{∥∥₁_elim}
use Rattle.sqlite_trees.specs.Tree.{Trees}
use Rattle.sqlite_trees.specs.Props.{Trees-set}
use Rattle.sqlite_catalog.specs.Listing.{IsSound}
use Rattle.sqlite_store.specs.FileStore.{recovers, view}
use Rattle.sqlite_store.specs.Laws.{settled_at}
use Rattle.sqlite.specs.Effect.{Database}
use Rattle.sqlite.specs.Files.{file_state}
use Rattle.sqlite.proofs.Theorems.{next_run}
use Rattle.sqlite_log.specs.Table.{log_schema}
use Rattle.sqlite_log.proofs.Tables.{opened}
use Rattle.sqlite_log.proofs.laws.next_open.Goals as goal

pub returns : goal.returns
returns g c clean kept left held may is_opened unlimited found =
    let it = c.args.before.conn.store in
    let was = file_state c.args.before.conn in
    let now = file_state c.args.after.now in
    let numbered : IsTrue (view it).is_numbered = sym c.into_store.ensures.undone.numbered ∙ c.into_store.ensures.numbered clean in
    let same : (db : Trees) → recovers it db → db ≡ was.now.trees =
    λ db r. settled_at it g.met.D.Disk.seen_may_stay db held.is_open r ∙ ap (λ (d : Database). d.trees) held.committed in
    let found_again : now.committed.trees ≡ was.now.trees =
    ∥∥₁_elim
    (next_run it numbered (λ db r. (log_schema, subst (λ t. IsSound log_schema t) (sym (same db r)) held.stands.sound)) left may now found)
    (Trees-set _ _) (λ r. same now.committed.trees r) in
    opened now was.now.trees kept unlimited is_opened.0 is_opened.1 found_again held.stands
