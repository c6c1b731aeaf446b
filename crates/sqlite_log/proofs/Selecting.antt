-- What is read.
use Rattle.std.proofs.Common.{◌≡◌, ℕ, ◌+◌, ◌<◌, pos, ◌<ℤ◌, List, [], ◌∷◌, map, refl, sym, ap, subst, ◌∙◌, arith, Less, Equal, drop}
use Rattle.std.specs.List.{AllByRecursion, flat_map}
use Rattle.std.specs.List.Sorted.{IsPermutation}
use Rattle.std.specs.Ordering.{ordering_then}
use Rattle.std.proofs.lemmas.Int.{ints}
use Rattle.mail_records.specs.declared.record.Record.{Record}
use Rattle.sqlite.specs.declared.types.Value.TheVariants.{Null, Int}
use Rattle.sqlite.specs.Order.{Row, column}
use Rattle.sqlite.specs.Query.{IsAnswer, output, page, Output, output_cmp}
use Rattle.sqlite.specs.Program.{overlay}
use Rattle.sqlite_trees.specs.Tree.{IsAscending}
use Rattle.sqlite_sql.proofs.QueryLemmas.{output_cmp_total}
use Rattle.sqlite_keyed.proofs.SortLemmas.{sorted_unique}
use Rattle.sqlite.specs.Listing.{understood}
use Rattle.sqlite.specs.State.{State, IsUnchanged, Shown}
use Rattle.sqlite.proofs.Callers.{IsPlain, reads_as}
use Rattle.sqlite_value.proofs.OrderLemmas.{value_cmp-Int}
use Rattle.sqlite_keyed.proofs.KeyedLemmas.{Less-from_lt}
use Rattle.sqlite_log.specs.Table.{log_schema, select_text, values_of, shown_from, projected}
use Rattle.sqlite_log.specs.Held.{Holds}
use Rattle.sqlite_log.proofs.Texts.{query, select_command, select_is, select_plain}

abbrev env_of : Row → List Row
env_of r = [] ∷ r ∷ []

abbrev keyed : Row → Output
keyed s = (column s 0 ∷ [], s)

each_row : (rows : List Row) → flat_map (λ r. env_of r ∷ []) rows ≡ map env_of rows
each_row [] = refl
each_row (r ∷ rows) = ap (λ l. env_of r ∷ l) (each_row rows)

outputs : (rows : List Row) → map (output query) (map env_of rows) ≡ map keyed (map projected rows)
outputs [] = refl
outputs (r ∷ rows) = ap (λ l. keyed (projected r) ∷ l) (outputs rows)

below : (m : ℕ) (e : Record) (n : ℕ) (kept : List Record) → m < n → AllByRecursion (λ b. output_cmp query (keyed (Int (pos m) ∷ values_of e)) b ≡ Less) (map keyed (shown_from n kept))
below m e n [] lt = tt
below m e n (x ∷ kept) lt =
    let lower : pos m <ℤ pos n = omega (arith, ints) in
    (ap (λ o. ordering_then o Equal) (value_cmp-Int (pos m) (pos n) ∙ Less-from_lt (pos m) (pos n) lower), below m e (n + 1) kept (omega arith))

rising : (n : ℕ) (kept : List Record) → IsAscending (λ a b. output_cmp query a b ≡ Less) (map keyed (shown_from n kept))
rising n [] = tt
rising n (e ∷ kept) = (below n e (n + 1) kept (omega arith), rising (n + 1) kept)

drop_none : {X : Type 0} (xs : List X) → drop 0 xs ≡ xs
drop_none [] = refl
drop_none (x ∷ xs) = refl

unkeyed : (rows : List Row) → map (λ (o : Output). o.1) (map keyed rows) ≡ rows
unkeyed [] = refl
unkeyed (r ∷ rows) = ap (λ l. r ∷ l) (unkeyed rows)

pub finds : (old new : State) (kept : List Record) (rows : List Row) → Holds old kept → Shown select_text [] old new rows → rows ≡ shown_from 1 kept
finds old new kept rows h it =
    let got = reads_as select_text [] old new log_schema h.schema select_command select_is.0 select_plain select_is.1 rows it in
    let a : IsAnswer query (overlay old.now.trees []) [] rows = got.answer Null in
    let staged : a.staged ≡ map env_of (old.now.trees 0) = a.grouped ∙ each_row (old.now.trees 0) in
    let shown : a.kept ≡ map keyed (shown_from 1 kept) = a.distinct ∙ ap (map (output query)) staged ∙ outputs (old.now.trees 0) ∙ ap (map keyed) h.stands.rows in
    let ordered : a.ordered ≡ map keyed (shown_from 1 kept) =
    sorted_unique (output_cmp query) (output_cmp_total query) (map keyed (shown_from 1 kept)) a.ordered (rising 1 kept) (subst (λ k. IsPermutation k a.ordered) shown a.same) a.sorted in
    a.shown ∙ ap (λ xs. page query [] (map (λ (o : Output). o.1) xs)) ordered ∙ drop_none _ ∙ unkeyed (shown_from 1 kept)

pub shown_same : (old new : State) (kept : List Record) (rows : List Row) → Holds old kept → Shown select_text [] old new rows → IsUnchanged old new
unfolding Shown
shown_same old new kept rows h it =
    let known = sym it.1.is ∙ ap (λ s. understood s select_text) h.schema in
    let bare = subst IsPlain (sym known) select_plain in
    (rw bare.0 at it.2).3
