-- Words ask for one command at most, and how each command doesn't end.
use Rattle.std.proofs.Common.{◌≡◌, ◌∙◌, ◌∷◌, [], ℕ, List, sym, ap, subst, get_or, arith, inl, inr}
use Rattle.std.specs.Prelude.{Option}
use Rattle.circuit_l4.specs.declared.pair.Pair.{Pair}
use Rattle.cmd_streams.specs.declared.status.Status.{Status}
use Rattle.cmd_streams.specs.declared.status.Status.TheVariants.{Usage}
use Rattle.cmd_streams.specs.Told.{StreamsTold}
use Rattle.station_cmd.specs.Checking.{ChecksFile}
use Rattle.station_cmd.specs.Words.{Ask, AreOfRun, Check, Run, Try, pair_at}
use Rattle.station_run.specs.Ends.{RunEnds, TryEnds}
use Rattle.station_run.proofs.Endings.{not_usage, unread_usage}

pub one_check : (words : List (List ℕ)) (file named : List ℕ) → Ask words (Check file) → Ask words (Check named) → file ≡ named
one_check words file named a b = cc (sym a ∙ b)

pub one_try : (words files named : List (List ℕ)) → Ask words (Try files) → Ask words (Try named) → files ≡ named
one_try words files named a b = cc (sym a.0 ∙ b.0)

same_run : (later : List (List ℕ)) (file named : List ℕ) (pair given : Pair) → AreOfRun later file pair → AreOfRun later named given → (file ≡ named) × (pair ≡ given)
same_run later file named pair given (inl a) (inl b) = let e = sym a.0 ∙ b.0 in (cc e, a.1 ∙ sym b.1)
same_run later file named pair given (inl a) (inr b) = absurd (cc (sym a.0 ∙ b.1))
same_run later file named pair given (inr a) (inl b) = absurd (cc (sym a.1 ∙ b.0))
same_run later file named pair given (inr a) (inr b) =
    let e = sym a.1 ∙ b.1 in
    let word : a.0 ≡ b.0 = cc e in
    let both = sym a.2 ∙ (ap pair_at word ∙ b.2) in
    (cc e, cc both)

pub one_run : (words : List (List ℕ)) (file named : List ℕ) (pair given : Pair) → Ask words (Run file pair) → Ask words (Run named given) → (file ≡ named) × (pair ≡ given)
one_run words file named pair given a b =
    let same : b.0 ≡ a.0 = cc (sym b.1 ∙ a.1) in
    same_run a.0 file named pair given a.2 (subst (λ later. AreOfRun later named given) same b.2)

pub check_or_run : (words : List (List ℕ)) (file named : List ℕ) (pair : Pair) → Ask words (Check file) → Ask words (Run named pair) → ⊥
check_or_run words file named pair a b = cc (sym a ∙ b.1)

pub check_or_try : (words : List (List ℕ)) (file : List ℕ) (files : List (List ℕ)) → Ask words (Check file) → Ask words (Try files) → ⊥
check_or_try words file files a b = cc (sym a ∙ b.0)

pub run_or_try : (words : List (List ℕ)) (file : List ℕ) (pair : Pair) (files : List (List ℕ)) → Ask words (Run file pair) → Ask words (Try files) → ⊥
run_or_try words file pair files a b =
    let e = sym a.1 ∙ b.0 in
    let first : 114 ≡ 116 = ap (λ ws. get_or (get_or ws 0 []) 0 0) e in omega (arith, first)

-- ---- none of them ends as where the words are no command's

pub check_usage : (path : List ℕ) (before after : StreamsTold) (Noted : List ℕ → Type 0) (status : Status) → ChecksFile path before after Noted status → status ≡ Usage → ⊥
check_usage path before after Noted status (inl was) e = was.2.others.0 e
check_usage path before after Noted status (inr missing) e = unread_usage path status _ Noted e missing.0

pub run_usage : (path : List ℕ) (pair : Pair) (moments moments' : Option (List ℕ)) (before after : StreamsTold) (status : Status) → RunEnds path pair moments moments' before after status → status ≡ Usage → ⊥
run_usage path pair moments moments' before after status (inl lacks) e = not_usage path status _ _ e lacks.0
run_usage path pair moments moments' before after status (inr (file, is, inl starved)) e = absurd (cc (sym e ∙ starved.starved))
run_usage path pair moments moments' before after status (inr (file, is, inr ends)) e = ends.others.0 e

pub try_usage : (paths : List (List ℕ)) (moments moments' : Option (List ℕ)) (before after : StreamsTold) (status : Status) → TryEnds paths moments moments' before after status → status ≡ Usage → ⊥
try_usage paths moments moments' before after status (inl lacks) e = not_usage lacks.0 status _ _ e lacks.2.0
try_usage paths moments moments' before after status (inr (inl starved)) e = absurd (cc (sym e ∙ starved.starved))
try_usage paths moments moments' before after status (inr (inr (files, are, many, ends))) e = ends.others.0 e
