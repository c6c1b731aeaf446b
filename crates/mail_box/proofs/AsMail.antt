-- Records are steps of mail.
use Rattle.std.proofs.Common.{◌≡◌, ◌==◌, ℕ, List, [], ◌∷◌, ◌++◌, Bool, true, false, cond, drop, take, Option, Some, None, Ok, Err, Result, is_some, inl, inr, refl, sym, ap, subst, ◌∙◌, length}
use Rattle.std.specs.Prelude.{◌&&◌, ◌||◌, not, remove, slice_get}
use Rattle.std.specs.Int.{w64, from_be_bytes}
use Rattle.ax_address.specs.Callsign.{Callsign}
use Rattle.ax_address.specs.Octets.{net_call_at}
use Rattle.ax_address.specs.declared.address_refusal.AddressRefusal.{AddressRefusal}
use Rattle.node_mail.specs.Wires.{Wire, Carries, Receipt, wire_at, mail_at, receipt_at, carried, is_mail_size, is_number, mail_tag, receipt_tag}
use Rattle.node_mail.specs.Lists.{Lists, post_at, post_step, letter_of, is_full, is_stored, is_queued_for, mail_of, heard_by, hear_at, kept_after, text_of}
use Rattle.node_mail.specs.declared.mail.MailName.{MailName}
use Rattle.node_mail.specs.declared.heard.Heard.{Heard}
use Rattle.node_mail.specs.declared.post_refusal.PostRefusal.{PostRefusal}
use Rattle.node_mail.specs.declared.heard.Heard.TheVariants as heard
use Rattle.mail_records.specs.declared.record.Record.{Record}
use Rattle.mail_records.specs.declared.record.Record.TheVariants.{Posted, Settled, Stored, Killed}
use Rattle.mail_box.specs.Boxes.{BoxState, after, gives, has_room, killed_at, mail_of_letter, place_of, with_lists, with_room, without_mail}
use Rattle.mail_box.specs.Inputs.{heard_record, posted_record}
use Rattle.mail_box.specs.Steps.{HearsAsMail, IsKilledIn, KillsAsMail, PostsAsMail}

pub of_if : (t : Bool) (y x : BoxState) → cond t (Some y) None ≡ Some x → y ≡ x
of_if true y x e = cc
of_if false y x e = absurd cc

posted_case : (b x : BoxState) (user dest : Callsign) (text : List ℕ) (r : Record) (says : Result ℕ PostRefusal) → posted_record user dest text says ≡ Some r → after b r ≡ Some x
    → x.lists ≡ post_step b.lists user dest text
posted_case b x user dest text r (Err why) is goes = absurd cc
posted_case b x user dest text r (Ok number) is goes =
    let same : Posted number user dest text ≡ r = cc in
    let said : after b (Posted number user dest text) ≡ Some x = subst (λ k. after b k ≡ Some x) (sym same) goes in
    sym (ap (λ (z : BoxState). z.lists) (of_if (gives (post_at b.lists dest text) number) (with_lists (post_step b.lists user dest text) b) x said))

pub posts_as_mail : PostsAsMail
posts_as_mail b x user dest text r is goes = posted_case b x user dest text r (post_at b.lists dest text) is goes

-- the text of a mail stands behind 16 octets
text_carried : (n number : ℕ) (text rest : List ℕ) (to : Callsign) (r : Result Callsign AddressRefusal) → carried n rest r ≡ Some (Carries number to text) → text ≡ rest
text_carried n number text rest to (Ok call) e = cc
text_carried n number text rest to (Err why) e = absurd cc

text_sized : (size : Bool) (n number : ℕ) (text rest : List ℕ) (to : Callsign) (r : Result Callsign AddressRefusal) → cond size (carried n rest r) None ≡ Some (Carries number to text) → text ≡ rest
text_sized true n number text rest to r e = text_carried n number text rest to r e
text_sized false n number text rest to r e = absurd cc

receipt_case : (size : Bool) (n number : ℕ) (text : List ℕ) (to : Callsign) → ¬ (cond size (Some (Receipt n)) None ≡ Some (Carries number to text))
receipt_case true n number text to e = cc
receipt_case false n number text to e = cc

other_case : (is_receipt : Bool) (rest text : List ℕ) (number : ℕ) (to : Callsign) → ¬ (cond is_receipt (receipt_at rest) None ≡ Some (Carries number to text))
other_case true rest text number to e = receipt_case ((length rest == 8) && is_number (from_be_bytes w64 rest)) (from_be_bytes w64 rest) number text to e
other_case false rest text number to e = cc

tag_case : (is_mail is_receipt : Bool) (rest text : List ℕ) (number : ℕ) (to : Callsign) → cond is_mail (mail_at rest) (cond is_receipt (receipt_at rest) None) ≡ Some (Carries number to text) → text ≡ drop 15 rest
tag_case true is_receipt rest text number to e =
    text_sized (is_mail_size (length rest) && is_number (from_be_bytes w64 (take 8 rest))) (from_be_bytes w64 (take 8 rest)) number text (drop 15 rest) to (net_call_at (take 7 (drop 8 rest))) e
tag_case false is_receipt rest text number to e = absurd (other_case is_receipt rest text number to e)

text_behind : (octets text : List ℕ) (number : ℕ) (to : Callsign) → wire_at octets ≡ Some (Carries number to text) → text ≡ drop 16 octets
unfolding wire_at
text_behind [] text number to e = absurd cc
text_behind (tag ∷ rest) text number to e = tag_case (tag == mail_tag) (tag == receipt_tag) rest text number to e

-- a mail that is stored was carried
known_case : (known full : Bool) (n number : ℕ) (to user : Callsign) → cond known (heard.Again n) (cond full (heard.Full n) (heard.Stored n to)) ≡ heard.Stored number user → (n ≡ number) × (to ≡ user)
known_case true full n number to user e = absurd cc
known_case false true n number to user e = absurd cc
known_case false false n number to user e = (cc, cc)

receipts : (there : Bool) (n number : ℕ) (user : Callsign) → ¬ (cond there (heard.Settled n) (heard.Stray n) ≡ heard.Stored number user)
receipts true n number user e = cc
receipts false n number user e = cc

said_text : (s : Lists) (from user : Callsign) (number : ℕ) (octets : List ℕ) (w : Option Wire) → wire_at octets ≡ w → heard_by s.queued s.stored from w ≡ heard.Stored number user → text_of w ≡ drop 16 octets
said_text s from user number octets None e h = absurd cc
said_text s from user number octets (Some (Receipt n)) e h = absurd (receipts (is_queued_for s.queued from n) n number user h)
said_text s from user number octets (Some (Carries n to text)) e h = text_behind octets text n to e

-- the record of what was heard
IsOf : Callsign → List ℕ → Heard → Record → Type 0
IsOf from text (heard.Stored number user) r = r ≡ Stored from number user text
IsOf from text (heard.Settled number) r = r ≡ Settled number
IsOf from text _ r = ⊥

is_of : (b : BoxState) (from : Callsign) (text : List ℕ) (h : Heard) (r : Record) → heard_record from text (with_room b h) ≡ Some r → IsOf from text h r
unfolding IsOf
is_of b from text (heard.Stored number user) r is = roomy (has_room b) is
  where
    roomy : (room : Bool) → heard_record from text (cond room (heard.Stored number user) (heard.Full number)) ≡ Some r → r ≡ Stored from number user text
    roomy true is = cc
    roomy false is = absurd cc
is_of b from text (heard.Settled number) r is = cc
is_of b from text (heard.Again number) r is = absurd cc
is_of b from text (heard.Stray number) r is = absurd cc
is_of b from text (heard.Full number) r is = absurd cc
is_of b from text heard.Bad r is = absurd cc

hears_case : (b x : BoxState) (from : Callsign) (octets : List ℕ) (r : Record) (h : Heard) → hear_at b.lists from octets ≡ h → IsOf from (drop 16 octets) h r → after b r ≡ Some x
    → x.lists ≡ kept_after b.lists from (text_of (wire_at octets)) h
unfolding IsOf
hears_case b x from octets r (heard.Stored number user) e is goes =
    let text = said_text b.lists from user number octets (wire_at octets) refl e in
    let said : after b (Stored from number user (drop 16 octets)) ≡ Some x = subst (λ k. after b k ≡ Some x) is goes in
    let same = of_if (has_room b && not (is_stored b.lists.stored from number || is_full b.lists.stored)) _ x said in
    sym (ap (λ (z : BoxState). z.lists) same) ∙ ap (λ t. record b.lists { stored = b.lists.stored ++ mail_of from number user t ∷ [] }) (sym text)
hears_case b x from octets r (heard.Settled number) e is goes =
    let said : after b (Settled number) ≡ Some x = subst (λ k. after b k ≡ Some x) is goes in
    sym (ap (λ (z : BoxState). z.lists) (of_if (is_some (letter_of number b.lists.queued)) _ x said))
hears_case b x from octets r (heard.Again number) e is goes = absurd is
hears_case b x from octets r (heard.Stray number) e is goes = absurd is
hears_case b x from octets r (heard.Full number) e is goes = absurd is
hears_case b x from octets r heard.Bad e is goes = absurd is

pub hears_as_mail : HearsAsMail
hears_as_mail b x from octets r is goes =
    let h = hear_at b.lists from octets in hears_case b x from octets r h refl (is_of b from (drop 16 octets) h r is) goes

-- a letter that is killed
module _ (b x : BoxState) where
  killed_so : (o : Option MailName) → x.lists ≡ without_mail b.lists o → IsKilledIn b.lists x.lists
  killed_so None e = inl e
  killed_so (Some mail) e = inr (mail.origin, mail.number, e)

  pub place_so : (o : Option ℕ) → killed_at b o ≡ Some x → IsKilledIn b.lists x.lists
  place_so None e = absurd cc
  place_so (Some at) e =
      let mail = mail_of_letter (slice_get b.letters at) in
      let same : record b { lists = without_mail b.lists mail; letters = remove b.letters at } ≡ x = cc in
      killed_so mail (sym (ap (λ (z : BoxState). z.lists) same))

  kills_so : (letter : ℕ) (r : Record) (there : Bool) → cond there (Some (Killed letter)) None ≡ Some r → after b r ≡ Some x → IsKilledIn b.lists x.lists
  kills_so letter r false is goes = absurd cc
  kills_so letter r true is goes = place_so (place_of letter b.letters) (subst (λ k. after b k ≡ Some x) (let same : r ≡ Killed letter = cc in same) goes)

pub kills_as_mail : KillsAsMail
kills_as_mail b x letter r is goes = kills_so b x letter r (is_some (place_of letter b.letters)) is goes
