use Rattle.std.proofs.Common.{◌≡◌, ◌≤◌, ℕ, List, ◌++◌, take}
use Rattle.mail_records.specs.declared.record.Record.{Record}
use Rattle.mail_records.proofs.appending.append_all.Given as goal

-- what was there and the entries so far
abbrev pub invariant-loop-entry : goal.invariant-loop-entry
invariant-loop-entry g l =
    let L = g.L.Log in
    record {
      holds : L.is_honest l.log → (kept : List Record) → L.holds l.fn.log kept → L.holds l.log (kept ++ take l.entry-index l.entries);
      crash : L.is_honest l.log → (kept found : List Record) → L.holds l.fn.log kept → L.may_find l.log found → (n : ℕ) × (n ≤ l.entry-index) × (found ≡ kept ++ take n l.entries);
    }
