-- Why a statement fails, whichever it is.
use Rattle.std.proofs.Common.{◌≡◌, ◌≢◌, ◌⊎◌, inl, inr, ℕ, List, length, Bool, true, false, nat_le, Ok, Err, Result, IsTrue, sym, ap, subst, ◌∙◌}
use Rattle.std.proofs.lemmas.Bool.{leb-true}
use Rattle.mail_records.specs.Logs as logs
use Rattle.mail_records.specs.declared.record.Record.{Record}
use Rattle.sqlite.specs.Order.{Row}
use Rattle.sqlite.specs.Schema.{Schema}
use Rattle.sqlite.specs.Command.{Command}
use Rattle.sqlite.specs.Command.TheVariants.{Begin, Commit, Rollback, Release, RollbackTo}
use Rattle.sqlite.specs.declared.run.Mode.{Mode}
use Rattle.sqlite.specs.declared.error.Error.{Error}
use Rattle.sqlite.specs.Listing.{understood}
use Rattle.sqlite.specs.State.{State, IsMisplaced, IsNoStatement, Fails, store_error}
use Rattle.sqlite.specs.State as states
use Rattle.sqlite.proofs.Callers.{IsPlain}
use Rattle.sqlite_resolve.specs.declared.compiled.Compiled.{Compiled}
use Rattle.sqlite_resolve.specs.declared.error.CompileError.{CompileError}
use Rattle.sqlite_schema.specs.declared.schema.Keys.TheVariants.{Enforced}
use Rattle.sqlite_trees.specs.declared.error.StoreError.{StoreError}
use Rattle.sqlite_trees.specs.declared.error.StoreError.TheVariants.{OutOfMemory, Io, Corrupt, Full, Broken, Unstorable}
use Rattle.sqlite_log.specs.Held.{reason_of}

pub true_or_false : {A : Type 0} → ◌≡◌ {A = Bool} true false → A
true_or_false e = absurd cc

-- ---- a text is a statement, and as many values are given as it asks for

unfoldable pub tail_of : Result Compiled CompileError → ℕ
tail_of (Ok c) = c.tail
tail_of (Err e) = 0

unfoldable pub names_of : Result Compiled CompileError → ℕ
names_of (Ok c) = length c.names
names_of (Err e) = 0

pub is_statement : (schema : Schema) (s : State) (sql : List ℕ) (params : Row) (e : Error) → s.now.schema ≡ schema → IsPlain (understood schema sql)
    → nat_le (length sql) (tail_of (understood schema sql)) ≡ true → length params ≡ names_of (understood schema sql) → ¬ IsNoStatement s sql params e
unfolding tail_of names_of
is_statement schema s sql params e has plain whole given (inl fault) = subst IsPlain (sym (ap (λ s. understood s sql) has) ∙ fault.1) plain
is_statement schema s sql params e has plain whole given (inr it) =
    let known : understood schema sql ≡ Ok it.0 = sym (ap (λ s. understood s sql) has) ∙ it.1 in
    elim it.2 [
      | inl long ↦ long.0 (leb-true (length sql) it.0.tail (sym (ap (λ r. nat_le (length sql) (tail_of r)) known) ∙ whole))
      | inr rest ↦ elim rest [
        | inl count ↦ count.0 (given ∙ ap names_of known)
        | inr clock ↦ clock.0 (subst IsPlain known plain).1
      ]
    ]

-- ---- the store has failed

pub failed : (old new : State) (too_big : Type 0) (kept : List Record) (e : Error) → IsTrue old.is_open → ¬ too_big → Fails old new too_big e → logs.HasCause old.faults new.faults kept (reason_of e)
failed old new too_big kept e is_open never f = subst (λ x. logs.HasCause old.faults new.faults kept (reason_of x)) (sym f.1) (told f.0 f.2)
  where
    told : (cause : StoreError) → states.HasCause old new too_big cause → logs.HasCause old.faults new.faults kept (reason_of (store_error cause))
    told OutOfMemory x = tt
    told Io more = more
    told Corrupt more = more
    told Full more = more
    told Broken shut = true_or_false (sym is_open ∙ shut)
    told Unstorable big = absurd (never big)

-- ---- what it does

abbrev pub plain_mode : Mode
plain_mode = record { keys = Enforced; in_doubt = false; may_wait = false }

pub stops : {A E R : Type 0} {x : E} {Stops : E → Type 0} → ((stop : E) × Stops stop × ◌≡◌ {A = Result A E} (Err x) (Err stop)) ⊎ R → Stops x ⊎ R
stops {x = x} {Stops = Stops} (inl s) = (let same : x ≡ s.0 = cc in inl (subst Stops (sym same) s.1))
stops (inr r) = inr r

-- only what begins or ends a transaction is misplaced
pub no_control : (s : State) (command : Command) (error : Error) → command ≢ Begin → command ≢ Commit → command ≢ Rollback → ((name : List ℕ) → command ≢ Release name) → ((name : List ℕ) → command ≢ RollbackTo name)
    → ¬ IsMisplaced s command error
no_control s command error begins commits rolls releases backs (inl states) = elim states.1 [
  | inl begin ↦ begins begin.0
  | inr ends ↦ elim ends.0 [ inl commit ↦ commits commit | inr back ↦ rolls back ]
]
no_control s command error begins commits rolls releases backs (inr name) = elim name.2 [ inl release ↦ releases name.1 release | inr back ↦ backs name.1 back ]
