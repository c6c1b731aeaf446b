-- The numbers of letters go up to the last one's, so a new letter's is above all.
use Rattle.std.proofs.Common.{◌≡◌, ◌≤◌, ◌<◌, ◌+◌, ℕ, List, [], ◌∷◌, ◌++◌, Bool, true, false, cond, take, drop, suc, Option, Some, None, sym, ap, subst, ◌∙◌, arith}
use Rattle.std.specs.Prelude.{All, option_and_then}
use Rattle.std.proofs.lemmas.List.Elements.{All-append, All-drop, All-nil, All-push, All-take, All-weaker}
use Rattle.ax_address.specs.Callsign.{Callsign}
use Rattle.node_mail.specs.declared.mail.MailName.{MailName}
use Rattle.mail_records.specs.declared.record.Record.{Record}
use Rattle.mail_records.specs.declared.record.Record.TheVariants.{Posted, Settled, Stored, Local, Read, Killed}
use Rattle.mail_box.specs.declared.letter.Letter.{Letter}
use Rattle.mail_box.specs.declared.post_mail.MailBox.{MailBox}
use Rattle.mail_box.specs.Boxes.{BoxState, MailsView, MailsStand, Goes, added, after, after_all, as_letter, has_room, killed_at, name, new_box, place_of}
use Rattle.mail_box.specs.Kept.{IsKept, IsNewLetter}

UpTo : ℕ → List Letter → Type 0
UpTo last letters = All (λ (l : Letter). l.number ≤ last) letters

-- in what is there after a record
AllUpTo : Option BoxState → Type 0
AllUpTo None = Unit {0}
AllUpTo (Some b) = UpTo b.given b.letters

if_up : (t : Bool) (b : BoxState) → UpTo b.given b.letters → AllUpTo (cond t (Some b) None)
unfolding AllUpTo
if_up true b up = up
if_up false b up = tt

added_up : (mail : Option MailName) (user : Callsign) (text : List ℕ) (given : ℕ) (letters : List Letter) → UpTo given letters → UpTo (given + 1) (letters ++ as_letter (given + 1) mail user text ∷ [])
unfolding UpTo
added_up mail user text given letters up =
    All-push (λ (l : Letter). l.number ≤ given + 1) letters (as_letter (given + 1) mail user text)
    (All-weaker (λ (l : Letter). l.number ≤ given) (λ (l : Letter). l.number ≤ given + 1) (λ l le. omega arith) letters up) (omega arith)

killed_up : (b : BoxState) (o : Option ℕ) → UpTo b.given b.letters → AllUpTo (killed_at b o)
unfolding AllUpTo UpTo
killed_up b None up = tt
killed_up b (Some at) up =
    let P : Letter → Type 0 = λ l. l.number ≤ b.given in
    All-append P (take at b.letters) (drop (suc at) b.letters) (All-take P at b.letters up) (All-drop P (suc at) b.letters up)

after_up : (b : BoxState) (r : Record) → UpTo b.given b.letters → AllUpTo (after b r)
after_up b (Posted number user dest text) up = if_up _ _ up
after_up b (Settled number) up = if_up _ _ up
after_up b (Stored origin number user text) up = if_up _ _ (added_up (Some (name origin number)) user text b.given b.letters up)
after_up b (Local user text) up = if_up _ _ (added_up None user text b.given b.letters up)
after_up b (Read letter) up = if_up _ _ up
after_up b (Killed letter) up = killed_up b (place_of letter b.letters) up

rest_up : (rs : List Record) → ((y : BoxState) → UpTo y.given y.letters → AllUpTo (after_all y rs)) → (o : Option BoxState) → AllUpTo o → AllUpTo (option_and_then (λ y. after_all y rs) o)
unfolding AllUpTo
rest_up rs more None up = tt
rest_up rs more (Some y) up = more y up

all_up : (rs : List Record) (b : BoxState) → UpTo b.given b.letters → AllUpTo (after_all b rs)
unfolding AllUpTo
all_up [] b up = up
all_up (r ∷ rs) b up = rest_up rs (λ y. all_up rs y) (after b r) (after_up b r up)

kept_up : (b : BoxState) (o : Option BoxState) → o ≡ Some b → AllUpTo o → UpTo b.given b.letters
unfolding AllUpTo
kept_up b o e up = subst AllUpTo e up

none_yet : (own : Callsign) → UpTo 0 []
unfolding UpTo
none_yet own = All-nil (λ (l : Letter). l.number ≤ 0)

module _ (old new : MailsView) (user : Callsign) (text copy : List ℕ) (number : ℕ) (b : BoxState) (stood : MailsStand old b) (up : UpTo b.given b.letters) (same : copy ≡ text) where
  stands_new : number ≡ b.given + 1 → MailsStand new (added None user copy b) → IsNewLetter old new number user text
  unfolding UpTo
  stands_new said stands = record {
    next = said ∙ ap (λ n. n + 1) (sym stood.given);
    above = subst (All (λ (l : Letter). l.number < number)) (sym stood.letters)
        (All-weaker (λ (l : Letter). l.number ≤ b.given) (λ (l : Letter). l.number < number) (λ l le. omega (arith, said)) b.letters up);
    last = stands.letters ∙ ap (λ ls. ls ++ as_letter (b.given + 1) None user copy ∷ []) (sym stood.letters)
        ∙ ap (λ n. old.letters ++ as_letter n None user copy ∷ []) (sym said)
        ∙ ap (λ t. old.letters ++ as_letter number None user t ∷ []) same;
  }

-- a letter that was posted here stands behind the others
pub new_letter : {L : Type 0} (holds : L → List Record → Type 0) (old : MailBox L) (new : MailsView) (kept : List Record) (user : Callsign) (text copy : List ℕ) (number : ℕ) → IsKept holds old kept → copy ≡ text
    → ((b : BoxState) → MailsStand old.mails b → has_room b ≡ true) → ((b : BoxState) → MailsStand old.mails b → Goes true old.mails new (after b (Local user copy)))
    → ((b : BoxState) → MailsStand new b → number ≡ b.given) → IsNewLetter old.mails new number user text
new_letter holds old new kept user text copy number k same room goes said =
    let b = k.state in
    let up = kept_up b (after_all (new_box old.mails.store.own) kept) k.after (all_up kept (new_box old.mails.store.own) (none_yet old.mails.store.own)) in
    let stands : MailsStand new (added None user copy b) = subst (λ t. Goes true old.mails new (cond t (Some (added None user copy b)) None)) (room b k.stands) (goes b k.stands) in
    stands_new old.mails new user text copy number b k.stands up same (said (added None user copy b) stands) stands
