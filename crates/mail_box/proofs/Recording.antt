-- The record of each input, and that it can follow.
use Rattle.std.proofs.Common.{◌≡◌, ℕ, List, Bool, true, false, cond, drop, Option, Some, None, Ok, Err, Result, is_some, IsSome, refl, sym, ap, subst, ◌∙◌}
use Rattle.std.specs.Prelude.{◌&&◌, not}
use Rattle.ax_address.specs.Callsign.{Callsign}
use Rattle.node_mail.specs.Lists.{hear_at, post_at}
use Rattle.node_mail.specs.declared.post_refusal.PostRefusal.{PostRefusal}
use Rattle.node_mail.specs.declared.heard.Heard.{Heard}
use Rattle.node_mail.specs.declared.heard.Heard.TheVariants as heard
use Rattle.mail_records.specs.declared.record.Record.{Record}
use Rattle.mail_records.specs.declared.record.Record.TheVariants.{Posted, Settled, Stored, Local, Read, Killed}
use Rattle.mail_box.specs.Boxes.{BoxState, after, has_room, has_number, place_of, with_room}
use Rattle.mail_box.specs.Inputs.{Input, Posts, PostsHere, Reads, Kills, Hears, heard_record, posted_record, record_of}
use Rattle.mail_box.proofs.Following.{both, true_or_false, posted_follows, local_follows, read_follows, killed_follows, stored_follows, settled_follows}

pub posts_is : (b : BoxState) (number : ℕ) (user dest : Callsign) (text copy : List ℕ) → post_at b.lists dest text ≡ Ok number → copy ≡ text → record_of b (Posts user dest text) ≡ Some (Posted number user dest copy)
posts_is b number user dest text copy e same = ap (posted_record user dest text) e ∙ ap (λ t. Some (Posted number user dest t)) (sym same)

pub posts_here_is : (b : BoxState) (user : Callsign) (text copy : List ℕ) → has_room b ≡ true → copy ≡ text → record_of b (PostsHere user text) ≡ Some (Local user copy)
posts_here_is b user text copy room same = ap (λ t. cond t (Some (Local user text)) None) room ∙ ap (λ t. Some (Local user t)) (sym same)

pub reads_is : (b : BoxState) (n : ℕ) → is_some (place_of n b.letters) ≡ true → has_number n b.read ≡ false → record_of b (Reads n) ≡ Some (Read n)
reads_is b n there unread = ap (λ t. cond t (Some (Read n)) None) (both (is_some (place_of n b.letters)) (has_number n b.read) there unread)

was_read : (a b : Bool) → b ≡ true → (a && not b) ≡ false
was_read a false e = true_or_false (sym e)
was_read true true e = refl
was_read false true e = refl

pub reads_none : (b : BoxState) (n : ℕ) → has_number n b.read ≡ true → record_of b (Reads n) ≡ None
reads_none b n read = ap (λ t. cond t (Some (Read n)) None) (was_read (is_some (place_of n b.letters)) (has_number n b.read) read)

pub kills_is : (b : BoxState) (n : ℕ) → is_some (place_of n b.letters) ≡ true → record_of b (Kills n) ≡ Some (Killed n)
kills_is b n there = ap (λ t. cond t (Some (Killed n)) None) there

pub stores_is : (b : BoxState) (from user : Callsign) (number : ℕ) (octets copy : List ℕ) → has_room b ≡ true → hear_at b.lists from octets ≡ heard.Stored number user → copy ≡ drop 16 octets
    → record_of b (Hears from octets) ≡ Some (Stored from number user copy)
stores_is b from user number octets copy room e same =
    ap (λ h. heard_record from (drop 16 octets) (with_room b h)) e ∙ ap (λ t. heard_record from (drop 16 octets) (cond t (heard.Stored number user) (heard.Full number))) room
    ∙ ap (λ t. Some (Stored from number user t)) (sym same)

pub stores_none : (b : BoxState) (from user : Callsign) (number : ℕ) (octets : List ℕ) → has_room b ≡ false → hear_at b.lists from octets ≡ heard.Stored number user → record_of b (Hears from octets) ≡ None
stores_none b from user number octets room e =
    ap (λ h. heard_record from (drop 16 octets) (with_room b h)) e ∙ ap (λ t. heard_record from (drop 16 octets) (cond t (heard.Stored number user) (heard.Full number))) room

pub settles_is : (b : BoxState) (from : Callsign) (number : ℕ) (octets : List ℕ) → hear_at b.lists from octets ≡ heard.Settled number → record_of b (Hears from octets) ≡ Some (Settled number)
settles_is b from number octets e = ap (λ h. heard_record from (drop 16 octets) (with_room b h)) e

pub hears_none : (b : BoxState) (from : Callsign) (octets : List ℕ) (h : Heard) → hear_at b.lists from octets ≡ h → heard_record from (drop 16 octets) (with_room b h) ≡ None → record_of b (Hears from octets) ≡ None
hears_none b from octets h e none = ap (λ h. heard_record from (drop 16 octets) (with_room b h)) e ∙ none

-- ---- the record of an input can follow

follows_as : (b : BoxState) (r s : Record) → ◌≡◌ {A = Option Record} (Some s) (Some r) → IsSome (after b s) → IsSome (after b r)
follows_as b r s e goes = (let same : s ≡ r = cc in subst (λ k. IsSome (after b k)) same goes)

posts_follow : (b : BoxState) (user dest : Callsign) (text : List ℕ) (r : Record) (says : Result ℕ PostRefusal) → post_at b.lists dest text ≡ says → posted_record user dest text says ≡ Some r → IsSome (after b r)
posts_follow b user dest text r (Ok number) e is = follows_as b r (Posted number user dest text) is (posted_follows b number user dest text e)
posts_follow b user dest text r (Err why) e is = absurd cc

-- where the test holds there is a record
test_follows : (b : BoxState) (r s : Record) (test : Bool) → (test ≡ true → IsSome (after b s)) → cond test (Some s) None ≡ Some r → IsSome (after b r)
test_follows b r s true goes is = follows_as b r s is (goes refl)
test_follows b r s false goes is = absurd cc

left : (a b : Bool) → (a && b) ≡ true → a ≡ true
left true b e = refl
left false b e = true_or_false (sym e)

right : (a b : Bool) → (a && not b) ≡ true → b ≡ false
right true false e = refl
right true true e = true_or_false (sym e)
right false b e = true_or_false (sym e)

hears_follow : (b : BoxState) (from : Callsign) (octets : List ℕ) (r : Record) (h : Heard) → hear_at b.lists from octets ≡ h → heard_record from (drop 16 octets) (with_room b h) ≡ Some r → IsSome (after b r)
hears_follow b from octets r (heard.Stored number user) e is = stores (has_room b) refl is
  where
    stores : (room : Bool) → has_room b ≡ room → heard_record from (drop 16 octets) (cond room (heard.Stored number user) (heard.Full number)) ≡ Some r → IsSome (after b r)
    stores true room is = follows_as b r (Stored from number user (drop 16 octets)) is (stored_follows b from user number (drop 16 octets) octets room e)
    stores false room is = absurd cc
hears_follow b from octets r (heard.Settled number) e is = follows_as b r (Settled number) is (settled_follows b from number octets e)
hears_follow b from octets r (heard.Again number) e is = absurd cc
hears_follow b from octets r (heard.Stray number) e is = absurd cc
hears_follow b from octets r (heard.Full number) e is = absurd cc
hears_follow b from octets r heard.Bad e is = absurd cc

pub input_follows : (b : BoxState) (input : Input) (r : Record) → record_of b input ≡ Some r → IsSome (after b r)
input_follows b (Posts user dest text) r is = posts_follow b user dest text r (post_at b.lists dest text) refl is
input_follows b (PostsHere user text) r is = test_follows b r (Local user text) (has_room b) (local_follows b user text) is
input_follows b (Reads n) r is =
    let there = is_some (place_of n b.letters) in
    let read = has_number n b.read in
    test_follows b r (Read n) (there && not read) (λ t. read_follows b n (left there (not read) t) (right there read t)) is
input_follows b (Kills n) r is = test_follows b r (Killed n) (is_some (place_of n b.letters)) (killed_follows b n) is
input_follows b (Hears from octets) r is = hears_follow b from octets r (hear_at b.lists from octets) refl is
