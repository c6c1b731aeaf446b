-- What is written of a record is read as it.
use Rattle.std.proofs.Common.{[], ◌∷◌, ◌++◌, ◌+◌, arith, subst, add-zero, ◌≡◌, ◌==◌, ℕ, List, length, Some, true, refl, ap, inl}
use Rattle.std.proofs.Math.Dec.{eqb_refl}
use Rattle.std.proofs.lemmas.Bool.{le-leb}
use Rattle.std.proofs.Common.{T, Bool, false}
use Rattle.ax_address.specs.Callsign.{Callsign, shown, ReadsCallTexts}
use Rattle.mail_records.specs.Records.{IsWhole, IsCall, IsText}
use Rattle.mail_records.specs.declared.record.Record.{Record}
use Rattle.mail_records.specs.declared.record.Record.TheVariants.{Posted, Settled, Stored, Local, Read, Killed}
use Rattle.sqlite.specs.declared.types.Value.TheVariants.{Text as Words, Blob as Octets}
use Rattle.sqlite.specs.Order.{Row}
use Rattle.sqlite_log.specs.Reading.{record_at, AreReadAs, IsReadable, call_in, call_or_none, text_in}

true_of : (b : Bool) → T b → b ≡ true
true_of true t = refl
true_of false t = absurd t

same_number : (n : ℕ) → (n == n) ≡ true
same_number n = true_of (n == n) (eqb_refl n)

short_text : (text : List ℕ) → IsText text → text_in (Octets text) ≡ Some text
short_text text short = rw (le-leb (length text) 1024 short)

module _ (reads : ReadsCallTexts) where
  call_again : (c : Callsign) → IsCall c → call_in (Words (shown c)) ≡ Some c
  call_again c is = ap call_or_none ((reads (shown c) c).1 (is, inl refl))

  pub readable : (r : Record) → IsWhole r → IsReadable r
  readable (Posted number user dest text) whole n = rw (same_number n, call_again user whole.0, call_again dest whole.1, short_text text whole.2)
  readable (Settled number) whole n = rw (same_number n)
  readable (Stored origin number user text) whole n = rw (same_number n, call_again origin whole.0, call_again user whole.1, short_text text whole.2)
  readable (Local user text) whole n = rw (same_number n, call_again user whole.0, short_text text whole.1)
  readable (Read letter) whole n = rw (same_number n)
  readable (Killed letter) whole n = rw (same_number n)

pub reads_push : (n : ℕ) (rows : List Row) (rs : List Record) (row : Row) (r : Record) → AreReadAs n rows rs → record_at (n + length rows) row ≡ Some r → AreReadAs n (rows ++ row ∷ []) (rs ++ r ∷ [])
reads_push n [] [] row r all one = (subst (λ k. record_at k row ≡ Some r) (add-zero n) one, tt)
reads_push n [] (x ∷ rs) row r all one = absurd all
reads_push n (x ∷ rows) [] row r all one = absurd all
reads_push n (x ∷ rows) (y ∷ rs) row r all one =
    let counts : n + length (x ∷ rows) ≡ (n + 1) + length rows = omega arith in
    (all.0, reads_push (n + 1) rows rs row r all.1 (subst (λ k. record_at k row ≡ Some r) counts one))
