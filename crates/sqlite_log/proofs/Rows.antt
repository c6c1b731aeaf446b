-- The rows of the table, and one more behind them.
use Rattle.std.proofs.Common.{◌≡◌, ℕ, ◌+◌, ◌≤◌, ℤ, pos, ◌+ℤ◌, ◌<ℤ◌, List, [], ◌∷◌, ◌++◌, length, map, fold, Bool, true, false, cond, refl, sym, ap, ap₂, ◌∙◌, add-zero, arith, Less}
use Rattle.std.proofs.lemmas.Int.{ints}
use Rattle.mail_records.specs.declared.record.Record.{Record}
use Rattle.mail_records.specs.declared.record.Record.TheVariants.{Posted, Settled, Stored, Local, Read, Killed}
use Rattle.sqlite.specs.declared.types.Value.{Value}
use Rattle.sqlite.specs.declared.types.Value.TheVariants.{Null, Int}
use Rattle.sqlite.specs.Order.{Row, column, value_cmp}
use Rattle.sqlite.specs.Ops.{unary}
use Rattle.sqlite.specs.Kind.TheVariants.{Integer}
use Rattle.sqlite.specs.Edit.{next_rowid, id_in}
use Rattle.sqlite.specs.Cast.{cast, cast_row}
use Rattle.sqlite.specs.Tree.{put_row, rowid}
use Rattle.sqlite.specs.Effect.{value_rows}
use Rattle.sqlite_value.proofs.OrderLemmas.{value_cmp-Int}
use Rattle.sqlite_keyed.proofs.KeyedLemmas.{Less-from_lt}
use Rattle.sqlite_log.specs.Table.{log_table, values_of, shown_from, projected}
use Rattle.sqlite_log.proofs.Texts.{terms}

pub either : (b : Bool) (x : Value) → cond b x x ≡ x
either true x = refl
either false x = refl

pub cast_null : cast Integer Null ≡ Null
unfolding unary
cast_null = either _ Null

pub cast_int : (n : ℤ) → cast Integer (Int n) ≡ Int n
unfolding unary
cast_int n = either _ (Int n)

pub source_is : (e : Record) → value_rows (values_of e ++ []) 8 1 terms ≡ (Null ∷ Null ∷ values_of e) ∷ []
source_is (Posted number to dest text) = refl
source_is (Settled number) = refl
source_is (Stored origin number to text) = refl
source_is (Local to text) = refl
source_is (Read letter) = refl
source_is (Killed letter) = refl

pub cast_is : (e : Record) → cast_row log_table (Null ∷ Null ∷ values_of e) ≡ Null ∷ Null ∷ values_of e
cast_is (Posted number to dest text) = rw (cast_null, cast_int)
cast_is (Settled number) = rw (cast_null, cast_int)
cast_is (Stored origin number to text) = rw (cast_null, cast_int)
cast_is (Local to text) = rw cast_null
cast_is (Read letter) = rw (cast_null, cast_int)
cast_is (Killed letter) = rw (cast_null, cast_int)

pub projected_is : (n : ℕ) (e : Record) → projected (Int (pos n) ∷ Null ∷ values_of e) ≡ Int (pos n) ∷ values_of e
projected_is n (Posted number to dest text) = refl
projected_is n (Settled number) = refl
projected_is n (Stored origin number to text) = refl
projected_is n (Local to text) = refl
projected_is n (Read letter) = refl
projected_is n (Killed letter) = refl

-- ---- rows that are numbered

pub head_of : List Row → Row
head_of [] = []
head_of (x ∷ xs) = x

pub tail_of : List Row → List Row
tail_of [] = []
tail_of (x ∷ xs) = xs

pub first_rowid : (n : ℕ) (e : Record) (kept : List Record) (r : Row) (rows : List Row) → map projected (r ∷ rows) ≡ shown_from n (e ∷ kept) → column r 0 ≡ Int (pos n)
unfolding head_of
first_rowid n e kept r rows h = ap (λ l. column (head_of l) 0) h

pub others : (n : ℕ) (e : Record) (kept : List Record) (r : Row) (rows : List Row) → map projected (r ∷ rows) ≡ shown_from n (e ∷ kept) → map projected rows ≡ shown_from (n + 1) kept
unfolding tail_of
others n e kept r rows h = ap tail_of h

pub next : (n : ℕ) (kept : List Record) (rows : List Row) → map projected rows ≡ shown_from n kept → fold (λ _ r. id_in (rowid r) +ℤ pos 1) (pos n) rows ≡ pos (n + length kept)
next n [] [] h = ap pos (sym (add-zero n))
next n [] (r ∷ rows) h = absurd cc
next n (e ∷ kept) [] h = absurd cc
next n (e ∷ kept) (r ∷ rows) h =
    let counts : (n + 1) + length kept ≡ n + length (e ∷ kept) = omega arith in
    ap (λ v. fold (λ _ x. id_in (rowid x) +ℤ pos 1) (id_in v +ℤ pos 1) rows) (first_rowid n e kept r rows h) ∙ next (n + 1) kept rows (others n e kept r rows h) ∙ ap pos counts

-- a row whose number is above all goes to the end
pub puts : (n : ℕ) (kept : List Record) (rows : List Row) (new : Row) (m : ℕ) → map projected rows ≡ shown_from n kept → rowid new ≡ Int (pos m) → n + length kept ≤ m → put_row new rows ≡ rows ++ new ∷ []
puts n [] [] new m h is low = refl
puts n [] (r ∷ rows) new m h is low = absurd cc
puts n (e ∷ kept) [] new m h is low = absurd cc
puts n (e ∷ kept) (r ∷ rows) new m h is low =
    let below : pos n <ℤ pos m = omega (arith, ints) in
    let less : value_cmp (rowid r) (rowid new) ≡ Less = ap₂ value_cmp (first_rowid n e kept r rows h) is ∙ value_cmp-Int (pos n) (pos m) ∙ Less-from_lt (pos n) (pos m) below in
    rw less (ap (λ l. r ∷ l) (puts (n + 1) kept rows new m (others n e kept r rows h) is (omega arith)))

pub shown-append : (n : ℕ) (kept : List Record) (e : Record) → shown_from n (kept ++ e ∷ []) ≡ shown_from n kept ++ (Int (pos (n + length kept)) ∷ values_of e) ∷ []
shown-append n [] e = ap (λ k. (Int (pos k) ∷ values_of e) ∷ []) (sym (add-zero n))
shown-append n (x ∷ kept) e =
    let counts : (n + 1) + length kept ≡ n + length (x ∷ kept) = omega arith in
    ap (λ l. (Int (pos n) ∷ values_of x) ∷ l) (shown-append (n + 1) kept e ∙ ap (λ k. shown_from (n + 1) kept ++ (Int (pos k) ∷ values_of e) ∷ []) counts)

pub map-push : (rows : List Row) (new : Row) → map projected (rows ++ new ∷ []) ≡ map projected rows ++ projected new ∷ []
map-push [] new = refl
map-push (r ∷ rows) new = ap (λ l. projected r ∷ l) (map-push rows new)

-- the table after one more record
pub puts_last : (kept : List Record) (rows : List Row) (e : Record) → map projected rows ≡ shown_from 1 kept
    → map projected (put_row (Int (next_rowid rows) ∷ Null ∷ values_of e) rows) ≡ shown_from 1 (kept ++ e ∷ [])
puts_last kept rows e h =
    let m = 1 + length kept in
    let number : next_rowid rows ≡ pos m = next 1 kept rows h in
    ap (λ z. map projected (put_row (Int z ∷ Null ∷ values_of e) rows)) number
    ∙ ap (map projected) (puts 1 kept rows (Int (pos m) ∷ Null ∷ values_of e) m h refl (omega arith))
    ∙ map-push rows (Int (pos m) ∷ Null ∷ values_of e)
    ∙ ap₂ (λ xs x. xs ++ x ∷ []) h (projected_is m e)
    ∙ sym (shown-append 1 kept e)
