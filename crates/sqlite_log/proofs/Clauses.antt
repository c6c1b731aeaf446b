-- What a log promises.
use Rattle.std.proofs.Common.{subst₂, ◌≡◌, ◌⊎◌, inl, inr, ℕ, suc, zero, ◌+◌, ◌<◌, pos, List, [], ◌∷◌, ◌++◌, length, Some, None, Ok, Err, Result, OnOk, OnErr, IfOk, IsTrue, sym, subst, ◌∙◌, add-zero, arith}
use Rattle.std.specs.List.{AllByRecursion}
use Rattle.mail_records.specs.declared.record.Record.{Record}
use Rattle.mail_records.specs.declared.log_failed.LogFailed.{LogFailed}
use Rattle.sqlite.specs.declared.types.Value.TheVariants.{Int}
use Rattle.sqlite.specs.Order.{Row}
use Rattle.sqlite.specs.Listing.{understood}
use Rattle.sqlite.specs.State.{State, CommitsBy, Shown, Survives, CommitsShowing, HasCleanDisk}
use Rattle.sqlite.proofs.Callers.{IsPlain, never_commits}
use Rattle.sqlite_log.specs.Table.{insert_text, select_text, values_of, shown_from}
use Rattle.sqlite_log.specs.Reading.{record_at, AreReadAs, IsReadable}
use Rattle.sqlite_log.specs.Laws.{records_shown, same_records}
use Rattle.sqlite_log.specs.Held.{Holds, MayFind, Wrote}
use Rattle.sqlite_log.specs.Reading.{IsSpoiltAt}
use Rattle.mail_records.specs.declared.log_failed.LogFailed.TheVariants as why
use Rattle.mail_records.specs.Records.{IsWhole}
use Rattle.mail_records.specs.Logs as logs
use Rattle.std.specs.Prelude.{IfErr, slice_index_or}
use Rattle.sqlite_log.proofs.Texts.{select_plain}
use Rattle.sqlite_log.proofs.Inserting.{appends, fails, crashes, stays}
use Rattle.sqlite_log.proofs.Selecting.{finds, shown_same}
use Rattle.sqlite_log.proofs.Refusing.{insert_fails, select_fails}
use Rattle.sqlite_log.specs.Held.{FailsToSelect}

-- ---- a record is written

pub append_ok : (old new : State) (e : Record) (r : Result (Unit {0}) LogFailed) → IsReadable e → new.step_limit ≡ old.step_limit → Wrote e old new r
    → OnOk r ((kept : List Record) → Holds old kept → Holds new (kept ++ e ∷ []))
append_ok old new e (Ok u) readable limit h = λ kept held. appends old new kept e h.0 readable limit held h.1
append_ok old new e (Err x) readable limit h = tt

pub append_err : (old new : State) (e : Record) (r : Result (Unit {0}) LogFailed) → new.step_limit ≡ old.step_limit → Wrote e old new r
    → OnErr r (IsTrue new.is_open → (kept : List Record) → Holds old kept → Holds new kept)
append_err old new e (Ok u) limit h = tt
append_err old new e (Err x) limit h = λ is_open kept held. fails old new kept e h.0 limit held h.2 is_open

pub append_cause : (old new : State) (e : Record) (r : Result (Unit {0}) LogFailed) → IsWhole e → Wrote e old new r
    → IfErr r (λ why. (kept : List Record) → Holds old kept → logs.HasCause old.faults new.faults kept why)
append_cause old new e (Ok u) whole h = tt
append_cause old new e (Err x) whole h = λ kept held. subst (logs.HasCause old.faults new.faults kept) (sym h.1) (insert_fails old new kept e h.0 whole held h.2)

pub append_crash : (old new : State) (e : Record) → IsReadable e → HasCleanDisk new → Survives old new (CommitsBy insert_text (values_of e) old) → (kept found : List Record) → Holds old kept → MayFind new found
    → MayFind old found ⊎ (found ≡ kept ++ e ∷ [])
append_crash old new e readable clean s kept found held may = elim (s.crash clean may.0 may.1) [
  | inl was ↦ inl (may.0, was, may.2)
  | inr commits ↦ inr (same_records may.0 found (kept ++ e ∷ []) may.2 (crashes old may.0 kept e readable held commits))
]

-- ---- the records are read

pub read_kept : (old new : State) (kept : List Record) (rows : List Row) (rs : List Record) → Holds old kept → Shown select_text [] old new rows → AreReadAs 1 rows rs → rs ≡ kept
read_kept old new kept rows rs held shown read = records_shown 1 kept rs held.stands.readable (subst (λ x. AreReadAs 1 x rs) (finds old new kept rows held shown) read)

pub stays_read : (old new : State) (kept : List Record) (rows : List Row) → new.step_limit ≡ old.step_limit → Holds old kept → Shown select_text [] old new rows → Holds new kept
stays_read old new kept rows limit held shown =
    let same = shown_same old new kept rows held shown in
    stays old new kept limit held same.0.is_open (same.0.mode ∙ held.autocommit) same.0.now_is (same.0.committed_is ∙ held.committed ∙ sym same.0.now_is)

-- each row of a log is read
reads_each : (n : ℕ) (kept : List Record) (at : ℕ) → AllByRecursion IsReadable kept → at < length (shown_from n kept) → (r : Record) × (record_at (n + at) (slice_index_or (shown_from n kept) at []) ≡ Some r)
reads_each n [] at all inside = absurd (omega (arith, inside))
reads_each n (e ∷ kept) zero all inside = (e, subst (λ k. record_at k (Int (pos n) ∷ values_of e) ≡ Some e) (sym (add-zero n)) (all.0 n))
reads_each n (e ∷ kept) (suc at) all inside =
    let counts : (n + 1) + at ≡ n + suc at = omega arith in
    let more = reads_each (n + 1) kept at all.1 (omega (arith, inside)) in
    (more.0, subst (λ k. record_at k (slice_index_or (shown_from (n + 1) kept) at []) ≡ Some more.0) counts more.1)

pub spoilt_cause : (before after : ℕ) (kept : List Record) (rows : List Row) (x : LogFailed) → AllByRecursion IsReadable kept → rows ≡ shown_from 1 kept → IsSpoiltAt rows x → logs.HasCause before after kept x
spoilt_cause before after kept rows why.Memory all is h = tt
spoilt_cause before after kept rows why.Disk all is h = absurd h
spoilt_cause before after kept rows why.Full all is h = absurd h
spoilt_cause before after kept rows (why.Spoilt place) all is h =
    let at = h.0 in
    let found = reads_each 1 kept at all (subst (λ x. at < length x) is h.2) in
    let place_is : place ≡ 1 + at = omega (arith, h.1) in
    let none : record_at (1 + at) (slice_index_or (shown_from 1 kept) at []) ≡ None = subst₂ (λ k x. record_at k (slice_index_or x at []) ≡ None) place_is is h.3 in
    let both = sym found.1 ∙ none in
    absurd cc

pub select_cause : (old new : State) (kept : List Record) (x : LogFailed) → Holds old kept → FailsToSelect old new x → logs.HasCause old.faults new.faults kept x
select_cause old new kept x held h = subst (logs.HasCause old.faults new.faults kept) (sym h.1) (select_fails old new kept h.0 held h.2)

pub records_ok : {T : Type 0} (items : T → List Record) (old new : State) (rows : List Row) (r : Result T LogFailed) → Shown select_text [] old new rows → IfOk r (λ rs. AreReadAs 1 rows (items rs))
    → IfOk r (λ rs. (kept : List Record) → Holds old kept → items rs ≡ kept)
records_ok items old new rows (Ok rs) shown read = λ kept held. read_kept old new kept rows (items rs) held shown read
records_ok items old new rows (Err x) shown read = tt

pub records_same : {T : Type 0} (old new : State) (rows : List Row) (r : Result T LogFailed) → new.step_limit ≡ old.step_limit → Shown select_text [] old new rows → OnOk r ((kept : List Record) → Holds old kept → Holds new kept)
records_same old new rows (Err x) limit shown = tt
records_same old new rows (Ok rs) limit shown = λ kept held. stays_read old new kept rows limit held shown

pub records_cause : {T : Type 0} (old new : State) (rows : List Row) (r : Result T LogFailed) → Shown select_text [] old new rows → IfErr r (IsSpoiltAt rows)
    → IfErr r (λ x. (kept : List Record) → Holds old kept → logs.HasCause old.faults new.faults kept x)
records_cause old new rows (Ok rs) shown spoilt = tt
records_cause old new rows (Err x) shown spoilt = λ kept held. spoilt_cause old.faults new.faults kept rows x held.stands.readable (finds old new kept rows held shown) spoilt

pub records_crash : (old new : State) → HasCleanDisk new → Survives old new (CommitsShowing select_text [] old) → (kept found : List Record) → Holds old kept → MayFind new found → MayFind old found
records_crash old new clean s kept found held may = elim (s.crash clean may.0 may.1) [
  | inl was ↦ (may.0, was, may.2)
  | inr commits ↦ absurd (never_commits select_text [] old may.0 (subst (λ x. IsPlain (understood x select_text)) (sym held.schema) select_plain) commits)
]
