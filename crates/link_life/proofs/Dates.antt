-- How long ago frames under way were sent, by which old set-ups and old answers are gone in time.
use Rattle.std.proofs.Common.{◌≡◌, ◌⊎◌, inl, inr, ◌≤◌, ◌<◌, ◌+◌, ◌*◌, ◌-◌, min, ℕ, suc, Bool, true, false, if◌then◌else◌, List, [], ◌∷◌, ◌++◌, Option, Some, None, refl, ap, sym, subst, arith}
use Rattle.std.proofs.lemmas.Bool.Decides.{nat_tests}
use Rattle.std.specs.List.{AllByRecursion}
use Rattle.radio_base.proofs.Each.{each_append}
use Rattle.ax_link.specs.declared.kind.Kind.{Kind}
use Rattle.ax_link.specs.declared.kind.Kind.TheVariants as kind
use Rattle.ax_link.specs.declared.phase.LinkPhase.{LinkPhase}
use Rattle.ax_link.specs.declared.phase.LinkPhase.TheVariants.{Down, SettingUp, Up, Releasing}
use Rattle.ax_link.specs.Carrying.{carries}
use Rattle.ax_link.specs.Pair.{opens}
use Rattle.ax_link.specs.Runs.{sets_up}
use Rattle.ax_link.specs.State.{Frame, count_end}
use Rattle.ax_link.specs.Table.{Input, Set_up, Send, Arrive, Tick, Close, Take}
use Rattle.ax_link.proofs.PairSteps.{NoArrival}
use Rattle.link_life.specs.Ends.{Flight, flights, is_of_account}
use Rattle.link_life.specs.Laws.{AllInTime}
use Rattle.link_life.specs.Lives.{is_early, pause}
use Rattle.link_life.proofs.Cases.{NoneOf, answers, answers_in, asked_by, asks}
use Rattle.link_life.proofs.Sounding.{none_sent}
use Rattle.link_life.proofs.Talks.{NoneIn}

-- such frames were sent by then
abbrev pub SentBy : (Kind → Bool) → ℕ → List Flight → Type 0
SentBy test t fs = AllByRecursion (λ f. test f.frame.kind ≡ true → f.sent ≤ t) fs

abbrev pub count_in : (Kind → Bool) → List Flight → ℕ
count_in test [] = 0
count_in test (f ∷ fs) = if test f.frame.kind then suc (count_in test fs) else count_in test fs

-- of an end that is Down, and went so then if it ever did: what asks is older, and what answers that is no later than one delay
abbrev pub Rested : Option ℕ → ℕ → ℕ → List Flight → List Flight → Type 0
Rested None now delay coming going = NoneIn asks going × NoneIn answers coming
Rested (Some t) now delay coming going = (t ≤ now) × (SentBy asks t going × SentBy answers (t + delay) coming)

-- of an end that asks to be set up since then: its set-up command or an answer to it may be under way, and no more
pub record Asking (t1_at now delay : ℕ) (coming going : List Flight) : Type 0 where
  pub since : ℕ
  pub past : since ≤ now
  pub t1 : t1_at ≡ min since count_end + pause
  pub asked : AllByRecursion (λ f. asks f.frame.kind ≡ true → (sets_up f.frame.kind ≡ true) × (f.sent ≤ since)) going
  pub answered : SentBy answers (since + delay) coming
  pub few : count_in sets_up going + count_in answers coming ≤ 1

-- of an end in this phase, whose T1 comes then, with what is under way to it and from it; only where it is being set up is a set-up command under way
abbrev pub Dated : LinkPhase → ℕ → Option ℕ → ℕ → ℕ → List Flight → List Flight → Type 0
Dated Down t1_at since now delay coming going = NoneIn sets_up going × Rested since now delay coming going
Dated SettingUp t1_at since now delay coming going = Asking t1_at now delay coming going
Dated Up t1_at since now delay coming going = NoneIn sets_up going
Dated Releasing t1_at since now delay coming going = NoneIn sets_up going

-- ---- kinds

pub asks_sets : (k : Kind) → asks k ≡ false → sets_up k ≡ false
asks_sets (kind.Ua pf) e = refl
asks_sets (kind.Dm pf) e = refl
asks_sets _ e = absurd (cc e)

carries_sets : (k : Kind) → carries k ≡ true → sets_up k ≡ false
carries_sets (kind.SetUp pf) e = absurd (cc e)
carries_sets _ e = refl

pub opens_answers : (k : Kind) → opens k ≡ true → answers k ≡ true
opens_answers (kind.Ua pf) e = e
opens_answers _ e = absurd (cc e)

pub account_asks : (k : Kind) → asks k ≡ false → is_of_account k ≡ false
account_asks (kind.Ua pf) e = refl
account_asks (kind.Dm pf) e = refl
account_asks _ e = absurd (cc e)

pub sets_account : (k : Kind) → sets_up k ≡ true → is_of_account k ≡ false
sets_account (kind.SetUp pf) e = refl
sets_account _ e = absurd (cc e)

-- where one test fails, the other one does
pub none_also : (test other : Kind → Bool) (fs : List Frame) → ((k : Kind) → test k ≡ false → other k ≡ false) → NoneOf test fs → NoneOf other fs
none_also test other [] h a = tt
none_also test other (f ∷ fs) h a = (h f.kind a.0, none_also test other fs h a.1)

pub none_set : (fs : List Frame) → NoneOf asks fs → NoneOf sets_up fs
none_set fs a = none_also asks sets_up fs asks_sets a

pub none_set_carried : (fs : List Frame) → AllByRecursion (λ f. carries f.kind ≡ true) fs → NoneOf sets_up fs
none_set_carried [] a = tt
none_set_carried (f ∷ fs) a = (carries_sets f.kind a.0, none_set_carried fs a.1)

pub none_set_in : (fs : List Flight) → NoneIn asks fs → NoneIn sets_up fs
none_set_in [] a = tt
none_set_in (f ∷ fs) a = (asks_sets f.frame.kind a.0, none_set_in fs a.1)

pub none_more : (test : Kind → Bool) (now epoch : ℕ) (going : List Flight) (outs : List Frame) → NoneIn test going → NoneOf test outs → NoneIn test (going ++ flights now epoch outs)
none_more test now epoch going outs a b = each_append (λ f. test f.frame.kind ≡ false) going (flights now epoch outs) a (none_sent test now epoch outs b)

-- ---- counts

pub count_none : (test : Kind → Bool) (fs : List Flight) → NoneIn test fs → count_in test fs ≡ 0
count_none test [] a = refl
count_none test (f ∷ fs) a = by (test f.frame.kind) a.0 (count_none test fs a.1)
  where
    by : (b : Bool) → b ≡ false → count_in test fs ≡ 0 → (if b then suc (count_in test fs) else count_in test fs) ≡ 0
    by true e r = absurd (cc e)
    by false e r = r

pub none_counted : (test : Kind → Bool) (fs : List Flight) → count_in test fs ≤ 0 → NoneIn test fs
none_counted test [] l = tt
none_counted test (f ∷ fs) l = let b = by (test f.frame.kind) refl l in (b.0, none_counted test fs b.1)
  where
    by : (b : Bool) → test f.frame.kind ≡ b → (if b then suc (count_in test fs) else count_in test fs) ≤ 0 → (test f.frame.kind ≡ false) × (count_in test fs ≤ 0)
    by true e r = absurd (omega (arith, r))
    by false e r = (e, r)

pub count_by : (b : Bool) (n : ℕ) → n ≤ (if b then suc n else n)
count_by true n = omega arith
count_by false n = omega arith

pub count_less : (test : Kind → Bool) (f : Flight) (fs : List Flight) → count_in test fs ≤ count_in test (f ∷ fs)
count_less test f fs = count_by (test f.frame.kind) (count_in test fs)

pub count_one : (test : Kind → Bool) (f : Flight) (fs : List Flight) → test f.frame.kind ≡ true → count_in test (f ∷ fs) ≡ suc (count_in test fs)
count_one test f fs e = ap (λ b. if b then suc (count_in test fs) else count_in test fs) e

pub count_both : (test : Kind → Bool) (fs gs : List Flight) → count_in test (fs ++ gs) ≡ count_in test fs + count_in test gs
count_both test [] gs = omega arith
count_both test (f ∷ fs) gs = by (test f.frame.kind) (count_both test fs gs)
  where
    by : (b : Bool) → count_in test (fs ++ gs) ≡ count_in test fs + count_in test gs →
        (if b then suc (count_in test (fs ++ gs)) else count_in test (fs ++ gs)) ≡ (if b then suc (count_in test fs) else count_in test fs) + count_in test gs
    by true e = omega (arith, e)
    by false e = e

pub count_sent : (now epoch : ℕ) (outs : List Frame) → count_in answers (flights now epoch outs) ≡ answers_in outs
count_sent now epoch [] = refl
count_sent now epoch (f ∷ fs) = ap (λ n. if answers f.kind then suc n else n) (count_sent now epoch fs)

pub none_answers : (outs : List Frame) → answers_in outs ≤ 0 → NoneOf answers outs
none_answers [] l = tt
none_answers (f ∷ fs) l = let b = by (answers f.kind) refl l in (b.0, none_answers fs b.1)
  where
    by : (b : Bool) → answers f.kind ≡ b → (if b then suc (answers_in fs) else answers_in fs) ≤ 0 → (answers f.kind ≡ false) × (answers_in fs ≤ 0)
    by true e r = absurd (omega (arith, r))
    by false e r = (e, r)

-- ---- what an end takes

-- a call or a tick, or the oldest frame
abbrev pub Taken : Input → List Flight → List Flight → Type 0
Taken i coming rest = (NoArrival i × (coming ≡ rest)) ⊎ ((f : Flight) × (i ≡ Arrive f.frame) × (coming ≡ f ∷ rest))

pub first_same : (f g : Flight) (fs : List Flight) → f ∷ fs ≡ g ∷ fs → f ≡ g
first_same f g fs e = cc e

pub all_rest : (test : Flight → Type 0) (i : Input) (coming rest : List Flight) → Taken i coming rest → AllByRecursion test coming → AllByRecursion test rest
all_rest test i coming rest (inl t) a = subst (AllByRecursion test) t.1 a
all_rest test i coming rest (inr t) a = (subst (AllByRecursion test) t.2 a).1

pub count_rest : (test : Kind → Bool) (i : Input) (coming rest : List Flight) → Taken i coming rest → count_in test rest ≤ count_in test coming
count_rest test i coming rest (inl t) = subst (λ fs. count_in test rest ≤ count_in test fs) (sym t.1) (omega arith)
count_rest test i coming rest (inr t) = subst (λ fs. count_in test rest ≤ count_in test fs) (sym t.2) (count_less test t.0 rest)

call_asks : (i : Input) → NoArrival i → asked_by i ≡ 0
call_asks Set_up n = refl
call_asks (Send p) n = refl
call_asks (Arrive f) n = absurd n
call_asks Tick n = refl
call_asks Close n = refl
call_asks Take n = refl

-- what answers was asked for by the frame that came
abbrev pub Answered : List Flight → List Flight → List Frame → Type 0
Answered coming rest outs = (answers_in outs ≤ 0) ⊎ ((f : Flight) × (coming ≡ f ∷ rest) × (asks f.frame.kind ≡ true) × (answers_in outs ≤ 1))

pub answered : (i : Input) (coming rest : List Flight) (outs : List Frame) → Taken i coming rest → answers_in outs ≤ asked_by i → Answered coming rest outs
answered i coming rest outs (inl t) l = let e = call_asks i t.0 in inl (omega (arith, l, e))
answered i coming rest outs (inr t) l = by (asks t.0.frame.kind) refl (subst (λ j. answers_in outs ≤ asked_by j) t.1 l)
  where
    by : (b : Bool) → asks t.0.frame.kind ≡ b → answers_in outs ≤ (if b then 1 else 0) → Answered coming rest outs
    by true e r = inr (t.0, t.2, e, r)
    by false e r = inl r

-- ---- what is gone in time

gone : (test : Kind → Bool) (t now delay : ℕ) (fs : List Flight) → AllInTime now delay fs → SentBy test t fs → t + delay < now → NoneIn test fs
gone test t now delay [] i s l = tt
gone test t now delay (f ∷ fs) i s l = (by (test f.frame.kind) refl, gone test t now delay fs i.1 s.1 l)
  where
    by : (b : Bool) → test f.frame.kind ≡ b → test f.frame.kind ≡ false
    by true e = let m = s.0 e in let k = i.0.kept in absurd (omega (arith, m, k, l))
    by false e = e

pub asked_sent : (since : ℕ) (fs : List Flight) → AllByRecursion (λ f. asks f.frame.kind ≡ true → (sets_up f.frame.kind ≡ true) × (f.sent ≤ since)) fs → SentBy asks since fs
asked_sent since [] a = tt
asked_sent since (f ∷ fs) a = (λ e. (a.0 e).1, asked_sent since fs a.1)

-- nothing old is left of an end that is set up again
pub record Clear (to from : List Flight) : Type 0 where
  pub going : NoneIn asks from
  pub coming : NoneIn answers to

pub clear_down : (since : Option ℕ) (now delay : ℕ) (coming going : List Flight) → 2 * delay < pause → AllInTime now delay coming → AllInTime now delay going → is_early since now ≡ false → Rested since now delay coming going → Clear coming going
clear_down None now delay coming going d i j e r = record { going = r.0; coming = r.1 }
clear_down (Some t) now delay coming going d i j e r =
    let l : pause ≤ now - t = grind (arith, nat_tests, e) in
    record { going = gone asks t now delay going j r.1.0 (omega (arith, d, l)); coming = gone answers (t + delay) now delay coming i r.1.1 (omega (arith, d, l)) }

pub clear_t1 : (t1_at now delay : ℕ) (coming going : List Flight) → 2 * delay < pause → AllInTime now delay coming → AllInTime now delay going → t1_at ≤ min now count_end → Asking t1_at now delay coming going → Clear coming going
clear_t1 t1_at now delay coming going d i j l a =
    let t = a.t1 in
    let m : a.since + pause ≤ now = omega (arith, l, t) in
    record { going = gone asks a.since now delay going j (asked_sent a.since going a.asked) (omega (arith, d, m)); coming = gone answers (a.since + delay) now delay coming i a.answered (omega (arith, d, m)) }
