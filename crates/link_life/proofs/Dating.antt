-- The dates of what is under way, after a step of one end.
use Rattle.std.proofs.Common.{◌≡◌, ◌⊎◌, inl, inr, ◌≤◌, ◌+◌, min, ℕ, suc, Bool, true, false, List, [], ◌∷◌, ◌++◌, Option, Some, None, refl, ap, sym, ◌∙◌, subst, arith}
use Rattle.std.specs.List.{AllByRecursion}
use Rattle.radio_base.proofs.Each.{each_append}
use Rattle.ax_link.specs.declared.kind.Kind.{Kind}
use Rattle.ax_link.specs.declared.phase.LinkPhase.{LinkPhase}
use Rattle.ax_link.specs.declared.phase.LinkPhase.TheVariants.{Down, SettingUp, Up, Releasing}
use Rattle.ax_link.specs.Runs.{sets_up}
use Rattle.ax_link.specs.State.{Frame, count_end}
use Rattle.ax_link.specs.Table.{Input}
use Rattle.link_life.specs.Ends.{Flight, flights}
use Rattle.link_life.specs.Laws.{AllInTime}
use Rattle.link_life.specs.Lives.{pause}
use Rattle.link_life.proofs.Cases.{NoneOf, answers, asks, set_up_frame}
use Rattle.link_life.proofs.Dates.{Answered, Asking, Clear, Dated, Rested, SentBy, Taken, all_rest, asked_sent, count_in, count_both, count_less, count_none, count_one, count_rest, count_sent, none_answers, none_counted, none_more, none_set, none_set_in}
use Rattle.link_life.proofs.Sounding.{none_sent}
use Rattle.link_life.proofs.Talks.{NoneIn}

-- ---- of the end that made the step; rest is what is still under way to it

none_sent_by : (test : Kind → Bool) (t now epoch : ℕ) (outs : List Frame) → NoneOf test outs → SentBy test t (flights now epoch outs)
none_sent_by test t now epoch [] a = tt
none_sent_by test t now epoch (f ∷ fs) a = (λ e. absurd (cc (a.0, e)), none_sent_by test t now epoch fs a.1)

pub rests_dated : (i : Input) (t1 now delay epoch : ℕ) (since : Option ℕ) (coming rest going : List Flight) (outs : List Frame) → Taken i coming rest → NoneOf asks outs →
    Dated Down t1 since now delay coming going → Dated Down t1 since now delay rest (going ++ flights now epoch outs)
rests_dated i t1 now delay epoch None coming rest going outs k n d =
    (none_more sets_up now epoch going outs d.0 (none_set outs n), (none_more asks now epoch going outs d.1.0 n, all_rest (λ f. answers f.frame.kind ≡ false) i coming rest k d.1.1))
rests_dated i t1 now delay epoch (Some t) coming rest going outs k n d = (
  none_more sets_up now epoch going outs d.0 (none_set outs n),
  (d.1.0, (each_append _ going (flights now epoch outs) d.1.1.0 (none_sent_by asks t now epoch outs n), all_rest _ i coming rest k d.1.1.1)),
)

-- it sent a set-up command, and nothing old is under way
pub asks_anew : (t1 now delay epoch : ℕ) (coming going : List Flight) → t1 ≡ min now count_end + pause → Clear coming going →
    Asking t1 now delay coming (going ++ flights now epoch (set_up_frame ∷ []))
asks_anew t1 now delay epoch coming going e c =
    let set = count_none sets_up going (none_set_in going c.going) in
    let ans = count_none answers coming c.coming in
    let both = count_both sets_up going (flights now epoch (set_up_frame ∷ [])) in
    record {
      since = now;
      past = omega arith;
      t1 = e;
      asked = each_append _ going (flights now epoch (set_up_frame ∷ [])) (none_asked going c.going) (λ q. (refl, omega arith), tt);
      answered = none_answered coming c.coming;
      few = omega (arith, set, ans, both);
    }
  where
    none_asked : (fs : List Flight) → NoneIn asks fs → AllByRecursion (λ f. asks f.frame.kind ≡ true → (sets_up f.frame.kind ≡ true) × (f.sent ≤ now)) fs
    none_asked [] a = tt
    none_asked (f ∷ fs) a = (λ q. absurd (cc (a.0, q)), none_asked fs a.1)

    none_answered : (fs : List Flight) → NoneIn answers fs → SentBy answers (now + delay) fs
    none_answered [] a = tt
    none_answered (f ∷ fs) a = (λ q. absurd (cc (a.0, q)), none_answered fs a.1)

-- it goes on asking
pub asks_still : (i : Input) (t1 now delay epoch : ℕ) (coming rest going : List Flight) (outs : List Frame) → Taken i coming rest → NoneOf asks outs → Asking t1 now delay coming going →
    Asking t1 now delay rest (going ++ flights now epoch outs)
asks_still i t1 now delay epoch coming rest going outs k n a =
    let more = count_both sets_up going (flights now epoch outs) in
    let none = count_none sets_up (flights now epoch outs) (none_sent sets_up now epoch outs (none_set outs n)) in
    let less = count_rest answers i coming rest k in
    let few = a.few in
    record {
      since = a.since;
      past = a.past;
      t1 = a.t1;
      asked = each_append _ going (flights now epoch outs) a.asked (none_asked outs n);
      answered = all_rest _ i coming rest k a.answered;
      few = omega (arith, more, none, less, few);
    }
  where
    none_asked : (fs : List Frame) → NoneOf asks fs → AllByRecursion (λ f. asks f.frame.kind ≡ true → (sets_up f.frame.kind ≡ true) × (f.sent ≤ a.since)) (flights now epoch fs)
    none_asked [] b = tt
    none_asked (f ∷ fs) b = (λ q. absurd (cc (b.0, q)), none_asked fs b.1)

-- an answer that came to it was that to its set-up command
pub answer_came : (t1 now delay : ℕ) (f : Flight) (rest going : List Flight) → answers f.frame.kind ≡ true → Asking t1 now delay (f ∷ rest) going → NoneIn sets_up going × NoneIn answers rest
answer_came t1 now delay f rest going e a =
    let few = a.few in
    let one = count_one answers f rest e in
    (none_counted sets_up going (omega (arith, few, one)), none_counted answers rest (omega (arith, few, one)))

-- it goes Down now
pub down_dated : (t1 now delay : ℕ) (coming going : List Flight) → NoneIn sets_up going → AllInTime now delay coming → AllInTime now delay going → Dated Down t1 (Some now) now delay coming going
down_dated t1 now delay coming going n i j = (n, (omega arith, (sent_by going j, answered_by coming i)))
  where
    sent_by : (fs : List Flight) → AllInTime now delay fs → SentBy asks now fs
    sent_by [] a = tt
    sent_by (f ∷ fs) a = (λ e. a.0.sent, sent_by fs a.1)

    answered_by : (fs : List Flight) → AllInTime now delay fs → SentBy answers (now + delay) fs
    answered_by [] a = tt
    answered_by (f ∷ fs) a = (λ e. let s = a.0.sent in omega (arith, s), answered_by fs a.1)

-- it is Up or Releasing
pub on_dated : (ph : LinkPhase) (t1 now delay : ℕ) (since : Option ℕ) (coming going : List Flight) → (ph ≡ Up) ⊎ (ph ≡ Releasing) → NoneIn sets_up going → Dated ph t1 since now delay coming going
on_dated ph t1 now delay since coming going (inl e) n = subst (λ k. Dated k t1 since now delay coming going) (sym e) n
on_dated ph t1 now delay since coming going (inr e) n = subst (λ k. Dated k t1 since now delay coming going) (sym e) n

-- ---- of the other end, to which the answers go

answers_by : (now epoch t : ℕ) (outs : List Frame) → now ≤ t → SentBy answers t (flights now epoch outs)
answers_by now epoch t [] l = tt
answers_by now epoch t (f ∷ fs) l = (λ e. l, answers_by now epoch t fs l)

-- when an answer is sent that something asked for
late_by : (t now delay epoch : ℕ) (going rest : List Flight) (outs : List Frame) → AllInTime now delay going → SentBy asks t going → Answered going rest outs → SentBy answers (t + delay) (flights now epoch outs)
late_by t now delay epoch going rest outs i s (inl z) = none_sent_by answers (t + delay) now epoch outs (none_answers outs z)
late_by t now delay epoch going rest outs i s (inr a) =
    let k = (subst (AllInTime now delay) a.1 i).0.kept in
    let l = (subst (SentBy asks t) a.1 s).0 a.2 in
    answers_by now epoch (t + delay) outs (omega (arith, k, l))

rested : (i : Input) (since : Option ℕ) (now delay epoch : ℕ) (coming going rest : List Flight) (outs : List Frame) → Taken i going rest → AllInTime now delay going → Answered going rest outs →
    Rested since now delay coming going → Rested since now delay (coming ++ flights now epoch outs) rest
rested i None now delay epoch coming going rest outs k j (inl z) r =
    (all_rest (λ f. asks f.frame.kind ≡ false) i going rest k r.0, none_more answers now epoch coming outs r.1 (none_answers outs z))
rested i None now delay epoch coming going rest outs k j (inr a) r =
    let n = (subst (NoneIn asks) a.1 r.0).0 in absurd (cc (n, a.2))
rested i (Some t) now delay epoch coming going rest outs k j a r =
    (r.0, (all_rest _ i going rest k r.1.0, each_append _ coming (flights now epoch outs) r.1.1 (late_by t now delay epoch going rest outs j r.1.0 a)))

asking : (i : Input) (t1 now delay epoch : ℕ) (coming going rest : List Flight) (outs : List Frame) → Taken i going rest → AllInTime now delay going → Answered going rest outs →
    Asking t1 now delay coming going → Asking t1 now delay (coming ++ flights now epoch outs) rest
asking i t1 now delay epoch coming going rest outs k j a d =
    record {
      since = d.since;
      past = d.past;
      t1 = d.t1;
      asked = all_rest _ i going rest k d.asked;
      answered = each_append _ coming (flights now epoch outs) d.answered (late_by d.since now delay epoch going rest outs j (asked_sent d.since going d.asked) a);
      few = by a;
    }
  where
    by : Answered going rest outs → count_in sets_up rest + count_in answers (coming ++ flights now epoch outs) ≤ 1
    by (inl z) =
        let few = d.few in
        let less = count_rest sets_up i going rest k in
        let more = count_both answers coming (flights now epoch outs) in
        let sent = count_sent now epoch outs in
        omega (arith, few, less, more, sent, z)
    by (inr b) =
        let few = d.few in
        let more = count_both answers coming (flights now epoch outs) in
        let sent = count_sent now epoch outs in
        let sets : sets_up b.0.frame.kind ≡ true = ((subst (AllByRecursion (λ f. asks f.frame.kind ≡ true → (sets_up f.frame.kind ≡ true) × (f.sent ≤ d.since))) b.1 d.asked).0 b.2).0 in
        let one : count_in sets_up going ≡ suc (count_in sets_up rest) = ap (λ fs. count_in sets_up fs) b.1 ∙ count_one sets_up b.0 rest sets in
        let most = b.3 in
        omega (arith, few, one, more, sent, most)

pub other_dated : (i : Input) (ph : LinkPhase) (t1 now delay epoch : ℕ) (since : Option ℕ) (coming going rest : List Flight) (outs : List Frame) → Taken i going rest → AllInTime now delay going → Answered going rest outs →
    Dated ph t1 since now delay coming going → Dated ph t1 since now delay (coming ++ flights now epoch outs) rest
other_dated i Down t1 now delay epoch since coming going rest outs k j a d =
    (all_rest (λ f. sets_up f.frame.kind ≡ false) i going rest k d.0, rested i since now delay epoch coming going rest outs k j a d.1)
other_dated i SettingUp t1 now delay epoch since coming going rest outs k j a d = asking i t1 now delay epoch coming going rest outs k j a d
other_dated i Up t1 now delay epoch since coming going rest outs k j a d = all_rest (λ f. sets_up f.frame.kind ≡ false) i going rest k d
other_dated i Releasing t1 now delay epoch since coming going rest outs k j a d = all_rest (λ f. sets_up f.frame.kind ≡ false) i going rest k d

-- ---- time goes on

pub dated_later : (ph : LinkPhase) (t1 now later delay : ℕ) (since : Option ℕ) (coming going : List Flight) → now ≤ later → Dated ph t1 since now delay coming going → Dated ph t1 since later delay coming going
dated_later Down t1 now later delay None coming going l d = d
dated_later Down t1 now later delay (Some t) coming going l d = let p = d.1.0 in (d.0, (omega (arith, l, p), d.1.1))
dated_later SettingUp t1 now later delay since coming going l d = let p = d.past in record { since = d.since; past = omega (arith, l, p); t1 = d.t1; asked = d.asked; answered = d.answered; few = d.few }
dated_later Up t1 now later delay since coming going l d = d
dated_later Releasing t1 now later delay since coming going l d = d

-- ---- a frame is lost

pub lost_coming : (ph : LinkPhase) (t1 now delay : ℕ) (since : Option ℕ) (f : Flight) (coming going : List Flight) → Dated ph t1 since now delay (f ∷ coming) going → Dated ph t1 since now delay coming going
lost_coming Down t1 now delay None f coming going d = (d.0, (d.1.0, d.1.1.1))
lost_coming Down t1 now delay (Some t) f coming going d = (d.0, (d.1.0, (d.1.1.0, d.1.1.1.1)))
lost_coming SettingUp t1 now delay since f coming going d =
    let few = d.few in let less = count_less answers f coming in
    record { since = d.since; past = d.past; t1 = d.t1; asked = d.asked; answered = d.answered.1; few = omega (arith, few, less) }
lost_coming Up t1 now delay since f coming going d = d
lost_coming Releasing t1 now delay since f coming going d = d

pub lost_going : (ph : LinkPhase) (t1 now delay : ℕ) (since : Option ℕ) (f : Flight) (coming going : List Flight) → Dated ph t1 since now delay coming (f ∷ going) → Dated ph t1 since now delay coming going
lost_going Down t1 now delay None f coming going d = (d.0.1, (d.1.0.1, d.1.1))
lost_going Down t1 now delay (Some t) f coming going d = (d.0.1, (d.1.0, (d.1.1.0.1, d.1.1.1)))
lost_going SettingUp t1 now delay since f coming going d =
    let few = d.few in let less = count_less sets_up f going in
    record { since = d.since; past = d.past; t1 = d.t1; asked = d.asked.1; answered = d.answered; few = omega (arith, few, less) }
lost_going Up t1 now delay since f coming going d = d.1
lost_going Releasing t1 now delay since f coming going d = d.1
