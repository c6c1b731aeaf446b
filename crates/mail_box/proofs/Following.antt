-- Records that can follow.
use Rattle.std.proofs.Common.{◌≡◌, ◌==◌, ℕ, List, [], ◌∷◌, Bool, true, false, not, cond, Option, Some, None, Ok, is_some, IsSome, refl, sym, ap, ◌∙◌, T}
use Rattle.std.specs.Prelude.{◌&&◌, ◌||◌}
use Rattle.std.proofs.Math.Dec.{eqb_refl}
use Rattle.ax_address.specs.Callsign.{Callsign, same_call}
use Rattle.node_mail.specs.Wires.{Wire, Carries, Receipt, wire_at}
use Rattle.node_mail.specs.Lists.{Letter, letter_of, is_full, is_queued_for, is_stored, heard_by, hear_at, post_at}
use Rattle.node_mail.specs.declared.heard.Heard.TheVariants as heard
use Rattle.mail_records.specs.declared.record.Record.TheVariants.{Posted, Settled, Stored, Local, Read, Killed}
use Rattle.mail_box.specs.Boxes.{BoxState, after, gives, has_room, has_number, killed_at, place_of}

true_of : (b : Bool) → T b → b ≡ true
true_of true t = refl
true_of false t = absurd t

pub true_or_false : {A : Type 0} → ◌≡◌ {A = Bool} true false → A
true_or_false e = absurd cc

same_number : (n : ℕ) → (n == n) ≡ true
same_number n = true_of (n == n) (eqb_refl n)

-- where the test holds there is something
if_some : {X : Type 0} (test : Bool) (x : X) → test ≡ true → IsSome (cond test (Some x) None)
if_some true x e = refl
if_some false x e = true_or_false (sym e)

pub posted_follows : (b : BoxState) (number : ℕ) (user dest : Callsign) (text : List ℕ) → post_at b.lists dest text ≡ Ok number → IsSome (after b (Posted number user dest text))
posted_follows b number user dest text e = if_some (gives (post_at b.lists dest text) number) _ (ap (λ r. gives r number) e ∙ same_number number)

pub local_follows : (b : BoxState) (user : Callsign) (text : List ℕ) → has_room b ≡ true → IsSome (after b (Local user text))
local_follows b user text e = if_some (has_room b) _ e

pub both : (a b : Bool) → a ≡ true → b ≡ false → (a && not b) ≡ true
both true false e f = refl
both true true e f = true_or_false f
both false b e f = true_or_false (sym e)

pub read_follows : (b : BoxState) (n : ℕ) → is_some (place_of n b.letters) ≡ true → has_number n b.read ≡ false → IsSome (after b (Read n))
read_follows b n there unread = if_some (is_some (place_of n b.letters) && not (has_number n b.read)) _ (both _ _ there unread)

killed_case : (b : BoxState) (o : Option ℕ) → is_some o ≡ true → IsSome (killed_at b o)
killed_case b (Some at) e = refl
killed_case b None e = true_or_false (sym e)

pub killed_follows : (b : BoxState) (n : ℕ) → is_some (place_of n b.letters) ≡ true → IsSome (after b (Killed n))
killed_follows b n there = killed_case b (place_of n b.letters) there

-- what is stored wasn't, and there was room
mail_case : (known full : Bool) (n number : ℕ) (to user : Callsign) → cond known (heard.Again n) (cond full (heard.Full n) (heard.Stored n to)) ≡ heard.Stored number user
    → (known ≡ false) × (full ≡ false) × (n ≡ number) × (to ≡ user)
mail_case true full n number to user e = absurd cc
mail_case false true n number to user e = absurd cc
mail_case false false n number to user e = (refl, refl, cc, cc)

neither : (a b : Bool) → a ≡ false → b ≡ false → (a || b) ≡ false
neither false false e f = refl
neither true b e f = true_or_false e
neither false true e f = true_or_false f

receipt_never_stores : (there : Bool) (n number : ℕ) (user : Callsign) → ¬ (cond there (heard.Settled n) (heard.Stray n) ≡ heard.Stored number user)
receipt_never_stores true n number user e = cc
receipt_never_stores false n number user e = cc

stored_case : (b : BoxState) (from user : Callsign) (number : ℕ) (text : List ℕ) (w : Option Wire) → has_room b ≡ true → heard_by b.lists.queued b.lists.stored from w ≡ heard.Stored number user
    → IsSome (after b (Stored from number user text))
stored_case b from user number text None room e = absurd cc
stored_case b from user number text (Some (Receipt n)) room e = absurd (receipt_never_stores (is_queued_for b.lists.queued from n) n number user e)
stored_case b from user number text (Some (Carries n to said)) room e =
    let is = mail_case (is_stored b.lists.stored from n) (is_full b.lists.stored) n number to user e in
    let known : is_stored b.lists.stored from number ≡ false = ap (is_stored b.lists.stored from) (sym is.2) ∙ is.0 in
    if_some (has_room b && not (is_stored b.lists.stored from number || is_full b.lists.stored)) _ (both _ _ room (neither _ _ known is.1))

pub stored_follows : (b : BoxState) (from user : Callsign) (number : ℕ) (text octets : List ℕ) → has_room b ≡ true → hear_at b.lists from octets ≡ heard.Stored number user → IsSome (after b (Stored from number user text))
stored_follows b from user number text octets room e = stored_case b from user number text (wire_at octets) room e

-- what is settled was queued
queued_one : (l : Letter) (ls : List Letter) (from : Callsign) (n : ℕ) (same : Bool) → (l.number == n) ≡ same → ((same && same_call l.dest from) || is_queued_for ls from n) ≡ true
    → (is_queued_for ls from n ≡ true → is_some (letter_of n ls) ≡ true) → is_some (cond same (Some l) (letter_of n ls)) ≡ true
queued_one l ls from n true e there more = refl
queued_one l ls from n false e there more = more there

queued_is : (ls : List Letter) (from : Callsign) (n : ℕ) → is_queued_for ls from n ≡ true → is_some (letter_of n ls) ≡ true
queued_is [] from n e = true_or_false (sym e)
queued_is (l ∷ ls) from n e = queued_one l ls from n (l.number == n) refl e (queued_is ls from n)

settled_case : (there : Bool) (n number : ℕ) → cond there (heard.Settled n) (heard.Stray n) ≡ heard.Settled number → (there ≡ true) × (n ≡ number)
settled_case true n number e = (refl, cc)
settled_case false n number e = absurd cc

never_settles : (known full : Bool) (n number : ℕ) (to : Callsign) → ¬ (cond known (heard.Again n) (cond full (heard.Full n) (heard.Stored n to)) ≡ heard.Settled number)
never_settles true full n number to e = cc
never_settles false true n number to e = cc
never_settles false false n number to e = cc

settled_by : (b : BoxState) (from : Callsign) (number : ℕ) (w : Option Wire) → heard_by b.lists.queued b.lists.stored from w ≡ heard.Settled number → IsSome (after b (Settled number))
settled_by b from number None e = absurd cc
settled_by b from number (Some (Carries n to text)) e = absurd (never_settles (is_stored b.lists.stored from n) (is_full b.lists.stored) n number to e)
settled_by b from number (Some (Receipt n)) e =
    let is = settled_case (is_queued_for b.lists.queued from n) n number e in
    if_some (is_some (letter_of number b.lists.queued)) _ (queued_is b.lists.queued from number (ap (is_queued_for b.lists.queued from) (sym is.1) ∙ is.0))

pub settled_follows : (b : BoxState) (from : Callsign) (number : ℕ) (octets : List ℕ) → hear_at b.lists from octets ≡ heard.Settled number → IsSome (after b (Settled number))
settled_follows b from number octets e = settled_by b from number (wire_at octets) e
