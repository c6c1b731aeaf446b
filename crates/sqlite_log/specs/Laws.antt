-- A row stands for one record.
use Rattle.std.proofs.Common.{◌≡◌, ℕ, ◌+◌, List, [], ◌∷◌, Some, refl, sym, ap, ap₂, subst, ◌∙◌}
use Rattle.std.specs.List.{AllByRecursion}
use Rattle.mail_records.specs.declared.record.Record.{Record}
use Rattle.sqlite.specs.Tree.{Trees}
use Rattle.sqlite.specs.Effect.{Database}
use Rattle.sqlite.specs.State.{State}
use Rattle.sqlite_log.specs.Table.{shown_from}
use Rattle.sqlite_log.specs.Reading.{AreReadAs, IsReadable}
use Rattle.sqlite_log.specs.Held.{Holds, StandsFor, MayFind}

pub records_shown : (n : ℕ) (kept rs : List Record) → AllByRecursion IsReadable kept → AreReadAs n (shown_from n kept) rs → rs ≡ kept
records_shown n [] [] all read = refl
records_shown n [] (r ∷ rs) all read = absurd read
records_shown n (e ∷ kept) [] all read = absurd read
records_shown n (e ∷ kept) (r ∷ rs) all read =
    let both : Some r ≡ Some e = sym read.0 ∙ all.0 n in
    let same : r ≡ e = cc in
    ap₂ (λ x xs. x ∷ xs) same (records_shown (n + 1) kept rs all.1 read.1)

pub shown_reads : (n : ℕ) (kept : List Record) → AllByRecursion IsReadable kept → AreReadAs n (shown_from n kept) kept
shown_reads n [] all = tt
shown_reads n (e ∷ kept) all = (all.0 n, shown_reads (n + 1) kept all.1)

pub same_records : (db : Trees) (a b : List Record) → StandsFor db a → StandsFor db b → a ≡ b
same_records db a b p q =
    records_shown 1 b a q.readable (subst (λ rows. AreReadAs 1 rows a) (sym p.rows ∙ q.rows) (shown_reads 1 a p.readable))

pub settled_records : (s : State) (kept found : List Record) → ((db : Trees) → s.may_leave db → db ≡ s.committed.trees)
    → Holds s kept → MayFind s found → found ≡ kept
settled_records s kept found settled held may =
    let same : may.0 ≡ s.now.trees = settled may.0 may.1 ∙ ap (λ (d : Database). d.trees) held.committed in
    same_records may.0 found kept may.2 (subst (λ t. StandsFor t kept) (sym same) held.stands)
