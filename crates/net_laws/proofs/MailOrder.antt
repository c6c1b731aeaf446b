-- The mails that are queued stand by number, so that the number of each is its own.
use Rattle.std.proofs.Common.{◌≡◌, ◌∙◌, ◌+◌, ◌<◌, ◌≤◌, ℕ, refl, sym, ap, arith, List, [], ◌∷◌, ◌++◌, length, map, filter, Bool, true, false, cond}
use Rattle.std.specs.Prelude.{◌==◌, ◌&&◌, nat_le, nat_lt, Option, Some, Result, Ok, Err}
use Rattle.std.specs.List.{AllByRecursion}
use Rattle.std.proofs.lemmas.List.{length-append}
use Rattle.radio_base.specs.declared.modulus.TheConstants.{COUNT_MAX}
use Rattle.ax_address.specs.Callsign.{Callsign, same_call}
use Rattle.node_mail.specs.declared.heard.Heard.{Heard}
use Rattle.node_mail.specs.declared.heard.Heard.TheVariants as hearing
use Rattle.node_mail.specs.declared.post_refusal.PostRefusal.{PostRefusal}
use Rattle.node_mail.specs.declared.post_refusal.PostRefusal.TheVariants as refusal
use Rattle.node_mail.specs.Lists.{Letter, Lists, hear_at, hear_step, kept_after, letter_of, new_letter, nothing_kept, post_at, post_step, posted_by, text_of}
use Rattle.node_mail.specs.Queues.{Rises}
use Rattle.node_mail.specs.Wires.{wire_at}
use Rattle.net_model.specs.Mailing.{numbers_for}
use Rattle.net_laws.proofs.Hopping.{same_is}
use Rattle.net_laws.proofs.Lists.{both, every, kept_by}
use Rattle.node_core.proofs.Tracing.{and_left}

pub record InOrder (s : Lists) : Type 0 where
  pub rises : Rises s.queued
  pub most : AllByRecursion (λ (l : Letter). l.number ≤ length s.posted) s.queued

pub new_order : (own : Callsign) → InOrder (nothing_kept own)
new_order own = record { rises = tt; most = tt }

-- ---- a post

rises_more : (ls : List Letter) (l : Letter) → Rises ls → AllByRecursion (λ (x : Letter). x.number < l.number) ls → Rises (ls ++ l ∷ [])
rises_more [] l r a = (tt, tt)
rises_more (x ∷ ls) l r a = (both (λ (y : Letter). x.number < y.number) ls (l ∷ []) r.0 (a.0, tt), rises_more ls l r.1 a.1)

number_is : (a b c d e : Bool) (next number : ℕ)
    → ◌≡◌ {A = Result ℕ PostRefusal} (cond a (Err refusal.Own) (cond b (Err refusal.Empty) (cond c (Err refusal.TooLong) (cond d (Err refusal.Full) (cond e (Err refusal.Exhausted) (Ok next)))))) (Ok number)
    → number ≡ next
number_is true b c d e next number h = absurd (cc h)
number_is false true c d e next number h = absurd (cc h)
number_is false false true d e next number h = absurd (cc h)
number_is false false false true e next number h = absurd (cc h)
number_is false false false false true next number h = absurd (cc h)
number_is false false false false false next number h = (let same : next ≡ number = cc h in sym same)

posted_order : (s : Lists) (to dest : Callsign) (text : List ℕ) (r : Result ℕ PostRefusal) → post_at s dest text ≡ r → InOrder s → InOrder (posted_by s to dest text r)
posted_order s to dest text (Err why) e o = o
posted_order s to dest text (Ok number) e o =
    let next : number ≡ length s.posted + 1 =
    number_is (same_call dest s.own) (length text == 0) (nat_lt 1024 (length text)) (nat_le 1000 (length s.queued)) (nat_le COUNT_MAX (length s.posted)) (length s.posted + 1) number e in
    let l : Letter = new_letter number to dest text in
    let longer : length (s.posted ++ l ∷ []) ≡ length s.posted + 1 = length-append s.posted (l ∷ []) in
    record {
      rises = rises_more s.queued l o.rises (every (λ (x : Letter). x.number ≤ length s.posted) (λ (x : Letter). x.number < number) (λ x k. omega (arith, k, next)) s.queued o.most);
      most = both (λ (x : Letter). x.number ≤ length (s.posted ++ l ∷ [])) s.queued (l ∷ [])
          (every (λ (x : Letter). x.number ≤ length s.posted) (λ (x : Letter). x.number ≤ length (s.posted ++ l ∷ [])) (λ x k. omega (arith, k, longer)) s.queued o.most)
          (omega (arith, next, longer), tt);
    }

pub post_order : (s : Lists) (to dest : Callsign) (text : List ℕ) → InOrder s → InOrder (post_step s to dest text)
post_order s to dest text o = posted_order s to dest text (post_at s dest text) refl o

-- ---- a hearing

rises_kept : (test : Letter → Bool) (ls : List Letter) → Rises ls → Rises (filter test ls)
rises_kept test [] r = tt
rises_kept test (x ∷ ls) r = by (test x) (rises_kept test ls r.1)
  where
    by : (b : Bool) → Rises (filter test ls) → Rises (cond b (x ∷ filter test ls) (filter test ls))
    by true rest = (kept_by (λ (y : Letter). x.number < y.number) test ls r.0, rest)
    by false rest = rest

heard_order : (s : Lists) (from : Callsign) (text : List ℕ) (h : Heard) → InOrder s → InOrder (kept_after s from text h)
heard_order s from text (hearing.Stored number to) o = record { rises = o.rises; most = o.most }
heard_order s from text (hearing.Again number) o = record { rises = o.rises; most = o.most }
heard_order s from text (hearing.Settled number) o =
    record { rises = rises_kept _ s.queued o.rises; most = kept_by (λ (l : Letter). l.number ≤ length s.posted) _ s.queued o.most }
heard_order s from text (hearing.Stray number) o = record { rises = o.rises; most = o.most }
heard_order s from text (hearing.Full number) o = record { rises = o.rises; most = o.most }
heard_order s from text hearing.Bad o = record { rises = o.rises; most = o.most }

pub hear_order : (s : Lists) (from : Callsign) (octets : List ℕ) → InOrder s → InOrder (hear_step s from octets)
hear_order s from octets o = heard_order s from (text_of (wire_at octets)) (hear_at s from octets) o

-- ---- the numbers of the mails for a node: each is that of a mail for it

abbrev pub IsFor : Callsign → List Letter → ℕ → Type 0
IsFor dest ls number = (l : Letter) × (letter_of number ls ≡ Some l) × (l.dest ≡ dest)

above_case : (k number : ℕ) (x l : Letter) (o : Option Letter) (b : Bool) → (x.number == number) ≡ b → k < x.number → cond b (Some x) o ≡ Some l → (o ≡ Some l → k < number) → k < number
above_case k number x l o true t a e rest = grind (arith, t, a)
above_case k number x l o false t a e rest = rest e

above : (k number : ℕ) (l : Letter) (ls : List Letter) → AllByRecursion (λ (x : Letter). k < x.number) ls → letter_of number ls ≡ Some l → k < number
above k number l [] a e = absurd (cc e)
above k number l (x ∷ ls) a e = above_case k number x l (letter_of number ls) (x.number == number) refl a.0 e (above k number l ls a.1)

for_more : (dest : Callsign) (x : Letter) (ls : List Letter) → AllByRecursion (λ (y : Letter). x.number < y.number) ls → (number : ℕ) → IsFor dest ls number → IsFor dest (x ∷ ls) number
for_more dest x ls a number f =
    let low : x.number < number = above x.number number f.0 ls a f.1 in
    let other : (x.number == number) ≡ false = grind (arith, low) in
    (f.0, ap (λ b. cond b (Some x) (letter_of number ls)) other ∙ f.1, f.2)

pub all_for : (dest : Callsign) (last : ℕ) (ls : List Letter) → Rises ls → AllByRecursion (IsFor dest ls) (numbers_for dest last ls)
all_for dest last [] r = tt
all_for dest last (x ∷ ls) r =
    by (same_call x.dest dest && nat_lt last x.number) refl (every (IsFor dest ls) (IsFor dest (x ∷ ls)) (for_more dest x ls r.0) (numbers_for dest last ls) (all_for dest last ls r.1))
  where
    by : (b : Bool) → (same_call x.dest dest && nat_lt last x.number) ≡ b → AllByRecursion (IsFor dest (x ∷ ls)) (numbers_for dest last ls)
        → AllByRecursion (IsFor dest (x ∷ ls)) (map (λ (l : Letter). l.number) (cond b (x ∷ filter (λ (l : Letter). same_call l.dest dest && nat_lt last l.number) ls) (filter (λ (l : Letter). same_call l.dest dest && nat_lt last l.number) ls)))
    by true e rest =
        let own : (x.number == x.number) ≡ true = grind arith in
        let to : x.dest ≡ dest = same_is x.dest dest (and_left (same_call x.dest dest) (nat_lt last x.number) e) in
        ((x, ap (λ b. cond b (Some x) (letter_of x.number ls)) own, to), rest)
    by false e rest = rest
