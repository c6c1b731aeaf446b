-- The letters of a post that came from other posts are the mails that it has stored.
use Rattle.std.proofs.Common.{◌≡◌, ◌∙◌, ℕ, zero, suc, ◌+◌, List, [], ◌∷◌, ◌++◌, Bool, true, false, not, cond, Option, Some, None, Result, Ok, Err, is_some, refl, sym, ap, subst, append-nil, append_assoc}
use Rattle.std.specs.Prelude.{◌&&◌, ◌||◌, ◌==◌, option_and_then, remove, slice_get}
use Rattle.std.specs.List.{AllByRecursion}
use lib.Seq.{take-nil}
use Rattle.std.proofs.lemmas.Bool.{eq-eqb, eqb-true, or_from, or_left, or_right}
use Rattle.std.proofs.lemmas.List.Elements.{filter-append}
use Rattle.radio_base.proofs.Each.{each_filter, each_map, each_push}
use Rattle.ax_address.specs.Callsign.{Callsign, same_call}
use Rattle.ax_address.proofs.SameCalls.{same_call-equal, same_call-true}
use Rattle.node_mail.specs.Lists.{Lists, has_text, is_full, is_stored, killed_in, letter_of, mail_of, post_at, posted_by, with_texts}
use Rattle.node_mail.specs.declared.mail.Mail.{Mail}
use Rattle.node_mail.specs.declared.mail.MailName.{MailName}
use Rattle.node_mail.specs.declared.post_refusal.PostRefusal.{PostRefusal}
use Rattle.node_mail.proofs.Letters.{Differ, differ_push, now_stored, still_stored}
use Rattle.node_mail.proofs.Killing.{differ_killed, killed_is_stored}
use Rattle.mail_records.specs.declared.record.Record.{Record}
use Rattle.mail_records.specs.declared.record.Record.TheVariants.{Posted, Settled, Stored, Local, Read, Killed}
use Rattle.mail_box.specs.declared.letter.Letter.{Letter}
use Rattle.mail_box.specs.Boxes.{BoxState, after, after_all, as_letter, gives, has_number, has_room, killed_at, mail_of_letter, name, new_box, place_of, without_mail}
use Rattle.mail_box.specs.Letters.{LettersAreItsMails, mail_named, mails_in}
use Rattle.mail_box.proofs.Named.{differ_filtered, filters_swap, is_named, is_the_one, texts_killed, unnamed, unnamed_none}

-- the mail of a letter is stored
abbrev IsKnown : List Mail → Mail → Type 0
IsKnown stored m = is_stored stored m.origin m.number ≡ true

record AreItsMails (letters : List Letter) (stored : List Mail) : Type 0 where
  same : with_texts (mails_in letters) ≡ with_texts stored
  known : AllByRecursion (IsKnown stored) (mails_in letters)
  differ : Differ (mails_in letters)
  unique : Differ stored

-- a letter more

mails_push : (ls : List Letter) (l : Letter) → mails_in (ls ++ l ∷ []) ≡ mails_in ls ++ mail_named l.mail l.user l.text
mails_push [] l = append-nil (mail_named l.mail l.user l.text)
mails_push (x ∷ ls) l = ap (λ ms. mail_named x.mail x.user x.text ++ ms) (mails_push ls l) ∙ sym (append_assoc (mail_named x.mail x.user x.text) (mails_in ls) (mail_named l.mail l.user l.text))

here_more : (ls : List Letter) (stored : List Mail) (number : ℕ) (user : Callsign) (text : List ℕ) → AreItsMails ls stored → AreItsMails (ls ++ as_letter number None user text ∷ []) stored
here_more ls stored number user text h =
    let is : mails_in (ls ++ as_letter number None user text ∷ []) ≡ mails_in ls = mails_push ls (as_letter number None user text) ∙ append-nil (mails_in ls) in
    record {
      same = ap with_texts is ∙ h.same;
      known = subst (AllByRecursion (IsKnown stored)) (sym is) h.known;
      differ = subst Differ (sym is) h.differ;
      unique = h.unique;
    }

not_case : (m : Mail) (stored : List Mail) (origin : Callsign) (n : ℕ) (b : Bool) → is_named origin n m ≡ b → IsKnown stored m → is_stored stored origin n ≡ false → b ≡ false
not_case m stored origin n false e k h = refl
not_case m stored origin n true e k h = same (same_call m.origin origin) (m.number == n) refl refl e
  where
    same : (a c : Bool) → same_call m.origin origin ≡ a → (m.number == n) ≡ c → (a && c) ≡ true → true ≡ false
    same true true p q r =
        let there : is_stored stored origin n ≡ true = ap (λ o. is_stored stored o n) (sym (same_call-true m.origin origin p)) ∙ (ap (is_stored stored m.origin) (sym (eqb-true m.number n q)) ∙ k) in
        sym there ∙ h
    same true false p q r = sym r
    same false c p q r = sym r

not_among : (ms stored : List Mail) (origin : Callsign) (n : ℕ) → AllByRecursion (IsKnown stored) ms → is_stored stored origin n ≡ false → is_stored ms origin n ≡ false
not_among [] stored origin n k h = refl
not_among (m ∷ ms) stored origin n k h =
    or_from (is_named origin n m) (is_stored ms origin n) (not_case m stored origin n (is_named origin n m) refl k.0 h) (not_among ms stored origin n k.1 h)

stored_more : (ls : List Letter) (stored : List Mail) (number n : ℕ) (origin user : Callsign) (text : List ℕ) → is_stored stored origin n ≡ false → AreItsMails ls stored
    → AreItsMails (ls ++ as_letter number (Some (name origin n)) user text ∷ []) (stored ++ mail_of origin n user text ∷ [])
stored_more ls stored number n origin user text new h =
    let m = mail_of origin n user text in
    let is : mails_in (ls ++ as_letter number (Some (name origin n)) user text ∷ []) ≡ mails_in ls ++ m ∷ [] = mails_push ls (as_letter number (Some (name origin n)) user text) in
    let known = each_push (IsKnown (stored ++ m ∷ [])) (mails_in ls) m
    (each_map (IsKnown stored) (IsKnown (stored ++ m ∷ [])) (λ x k. still_stored stored m x.origin x.number k) (mails_in ls) h.known) (now_stored stored m) in
    record {
      same = ap with_texts is ∙ (filter-append has_text (mails_in ls) (m ∷ []) ∙ (ap (λ xs. xs ++ with_texts (m ∷ [])) h.same ∙ sym (filter-append has_text stored (m ∷ []))));
      known = subst (AllByRecursion (IsKnown (stored ++ m ∷ []))) (sym is) known;
      differ = subst Differ (sym is) (differ_push (mails_in ls) m h.differ (not_among (mails_in ls) stored origin n h.known new));
      unique = differ_push stored m h.unique new;
    }

-- a letter less

itself : (mail : MailName) → (same_call mail.origin mail.origin && (mail.number == mail.number)) ≡ true
itself mail =
    let a : same_call mail.origin mail.origin ≡ true = same_call-equal mail.origin mail.origin refl in
    let c : (mail.number == mail.number) ≡ true = eq-eqb mail.number mail.number refl in
    rw (a, c) refl

in_rest : (x : Letter) (ls : List Letter) (mail : MailName) (o : Option MailName) → is_stored (mails_in ls) mail.origin mail.number ≡ true → is_stored (mail_named o x.user x.text ++ mails_in ls) mail.origin mail.number ≡ true
in_rest x ls mail None h = h
in_rest x ls mail (Some other) h = or_right (is_named mail.origin mail.number (mail_of other.origin other.number x.user x.text)) (is_stored (mails_in ls) mail.origin mail.number) h

in_letters : (ls : List Letter) (i : ℕ) (l : Letter) (mail : MailName) → slice_get ls i ≡ Some l → l.mail ≡ Some mail → is_stored (mails_in ls) mail.origin mail.number ≡ true
in_letters [] i l mail h e = absurd cc
in_letters (x ∷ ls) zero l mail h e =
    let same : x ≡ l = cc in
    let is : mail_named x.mail x.user x.text ≡ mail_of mail.origin mail.number x.user x.text ∷ [] = ap (λ o. mail_named o x.user x.text) (ap (λ (y : Letter). y.mail) same ∙ e) in
    ap (λ ms. is_stored (ms ++ mails_in ls) mail.origin mail.number) is
    ∙ or_left (is_named mail.origin mail.number (mail_of mail.origin mail.number x.user x.text)) (is_stored (mails_in ls) mail.origin mail.number) (itself mail)
in_letters (x ∷ ls) (suc i) l mail h e = in_rest x ls mail x.mail (in_letters ls i l mail h e)

none_less : (ls : List Letter) (i : ℕ) (l : Letter) → slice_get ls i ≡ Some l → l.mail ≡ None → mails_in (remove ls i) ≡ mails_in ls
none_less [] i l h e = absurd cc
none_less (x ∷ ls) zero l h e =
    let same : x ≡ l = cc in sym (ap (λ o. mail_named o x.user x.text ++ mails_in ls) (ap (λ (y : Letter). y.mail) same ∙ e))
none_less (x ∷ ls) (suc i) l h e = ap (λ ms. mail_named x.mail x.user x.text ++ ms) (none_less ls i l h e)

apart_case : (m : Mail) (ms : List Mail) (mail : MailName) (b : Bool) → is_named mail.origin mail.number m ≡ b → is_stored ms m.origin m.number ≡ false → is_stored ms mail.origin mail.number ≡ true → b ≡ false
apart_case m ms mail false e h k = refl
apart_case m ms mail true e h k = sym k ∙ is_the_one m ms mail.origin mail.number e h

rest_less : (x : Letter) (ls : List Letter) (i : ℕ) (mail : MailName) (o : Option MailName) → Differ (mail_named o x.user x.text ++ mails_in ls)
    → (Differ (mails_in ls) → mails_in (remove ls i) ≡ unnamed mail.origin mail.number (mails_in ls)) → is_stored (mails_in ls) mail.origin mail.number ≡ true
    → mail_named o x.user x.text ++ mails_in (remove ls i) ≡ unnamed mail.origin mail.number (mail_named o x.user x.text ++ mails_in ls)
rest_less x ls i mail None d less there = less d
rest_less x ls i mail (Some other) d less there =
    let m = mail_of other.origin other.number x.user x.text in
    let apart : is_named mail.origin mail.number m ≡ false = apart_case m (mails_in ls) mail (is_named mail.origin mail.number m) refl d.0 there in
    ap (λ ms. m ∷ ms) (less d.1)
    ∙ sym (ap (λ b. cond (not b) (m ∷ unnamed mail.origin mail.number (mails_in ls)) (unnamed mail.origin mail.number (mails_in ls))) apart)

one_less : (ls : List Letter) (i : ℕ) (l : Letter) (mail : MailName) → slice_get ls i ≡ Some l → l.mail ≡ Some mail → Differ (mails_in ls) → mails_in (remove ls i) ≡ unnamed mail.origin mail.number (mails_in ls)
one_less [] i l mail h e d = absurd cc
one_less (x ∷ ls) zero l mail h e d =
    let same : x ≡ l = cc in
    let is : x.mail ≡ Some mail = ap (λ (y : Letter). y.mail) same ∙ e in
    first (subst (λ o. Differ (mail_named o x.user x.text ++ mails_in ls)) is d)
    ∙ sym (ap (λ o. unnamed mail.origin mail.number (mail_named o x.user x.text ++ mails_in ls)) is)
  where
    first : Differ (mail_of mail.origin mail.number x.user x.text ∷ mails_in ls) → mails_in ls ≡ unnamed mail.origin mail.number (mail_of mail.origin mail.number x.user x.text ∷ mails_in ls)
    first d =
        let m = mail_of mail.origin mail.number x.user x.text in
        sym (unnamed_none (mails_in ls) mail.origin mail.number d.0)
        ∙ sym (ap (λ b. cond (not b) (m ∷ unnamed mail.origin mail.number (mails_in ls)) (unnamed mail.origin mail.number (mails_in ls))) (itself mail))
one_less (x ∷ ls) (suc i) l mail h e d = rest_less x ls i mail x.mail d (one_less ls i l mail h e) (in_letters ls i l mail h e)

-- after a letter is killed
module _ (ls : List Letter) (s : Lists) (i : ℕ) (l : Letter) (at : slice_get ls i ≡ Some l) (h : AreItsMails ls s.stored) where
  killed_less : (o : Option MailName) → l.mail ≡ o → AreItsMails (remove ls i) (without_mail s o).stored
  killed_less None e =
      let is = none_less ls i l at e in
      record {
        same = ap with_texts is ∙ h.same;
        known = subst (AllByRecursion (IsKnown s.stored)) (sym is) h.known;
        differ = subst Differ (sym is) h.differ;
        unique = h.unique;
      }
  killed_less (Some mail) e =
      let is = one_less ls i l mail at e h.differ in
      let named = λ (m : Mail). not (is_named mail.origin mail.number m) in
      let left = killed_in s.stored mail.origin mail.number in
      record {
        same = ap with_texts is ∙ (filters_swap has_text named (mails_in ls) ∙ (ap (unnamed mail.origin mail.number) h.same ∙ sym (texts_killed s.stored mail.origin mail.number h.unique)));
        known = subst (AllByRecursion (IsKnown left)) (sym is)
            (each_map (IsKnown s.stored) (IsKnown left) (λ m k. killed_is_stored s.stored mail.origin mail.number m.origin m.number ∙ k) (unnamed mail.origin mail.number (mails_in ls))
            (each_filter (IsKnown s.stored) named (mails_in ls) h.known));
        differ = subst Differ (sym is) (differ_filtered named (mails_in ls) h.differ);
        unique = differ_killed s.stored mail.origin mail.number h.unique;
      }

-- after a record

abbrev AreIts : BoxState → Type 0
AreIts b = AreItsMails b.letters b.lists.stored

posted_stored : (s : Lists) (user dest : Callsign) (text : List ℕ) (r : Result ℕ PostRefusal) → (posted_by s user dest text r).stored ≡ s.stored
posted_stored s user dest text (Ok n) = refl
posted_stored s user dest text (Err why) = refl

new_one : (a b c : Bool) → (a && not (b || c)) ≡ true → b ≡ false
new_one true false c e = refl
new_one true true c e = sym e
new_one false b c e = absurd cc

holds_if : (t : Bool) (y x : BoxState) → (t ≡ true → AreIts y) → cond t (Some y) None ≡ Some x → AreIts x
holds_if true y x f e = let same : y ≡ x = cc in subst AreIts same (f refl)
holds_if false y x f e = absurd cc

past : (ls : List Letter) (i : ℕ) → slice_get ls i ≡ None → remove ls i ≡ ls
past [] i e = ap (λ xs. xs ++ []) (take-nil i)
past (y ∷ ls) zero e = absurd cc
past (y ∷ ls) (suc i) e = ap (λ zs. y ∷ zs) (past ls i e)

killed_so : (b x : BoxState) (o : Option ℕ) → AreIts b → killed_at b o ≡ Some x → AreIts x
killed_so b x None h e = absurd cc
killed_so b x (Some i) h e = by (slice_get b.letters i) refl (let same : record b { lists = without_mail b.lists (mail_of_letter (slice_get b.letters i)); letters = remove b.letters i } ≡ x = cc in same)
  where
    by : (o : Option Letter) → slice_get b.letters i ≡ o → record b { lists = without_mail b.lists (mail_of_letter o); letters = remove b.letters i } ≡ x → AreIts x
    by None at same = subst AreIts same (subst (λ ls. AreItsMails ls b.lists.stored) (sym (past b.letters i at)) h)
    by (Some l) at same = subst AreIts same (killed_less b.letters b.lists i l at h l.mail refl)

after_its : (b x : BoxState) (r : Record) → AreIts b → after b r ≡ Some x → AreIts x
after_its b x (Posted number user dest text) h e =
    holds_if (gives (post_at b.lists dest text) number) _ x (λ t. subst (AreItsMails b.letters) (sym (posted_stored b.lists user dest text (post_at b.lists dest text))) h) e
after_its b x (Settled number) h e = holds_if (is_some (letter_of number b.lists.queued)) _ x (λ t. h) e
after_its b x (Stored origin number user text) h e =
    holds_if (has_room b && not (is_stored b.lists.stored origin number || is_full b.lists.stored)) _ x
    (λ t. stored_more b.letters b.lists.stored (b.given + 1) number origin user text (new_one (has_room b) (is_stored b.lists.stored origin number) (is_full b.lists.stored) t) h) e
after_its b x (Local user text) h e = holds_if (has_room b) _ x (λ t. here_more b.letters b.lists.stored (b.given + 1) user text h) e
after_its b x (Read letter) h e = holds_if (is_some (place_of letter b.letters) && not (has_number letter b.read)) _ x (λ t. h) e
after_its b x (Killed letter) h e = killed_so b x (place_of letter b.letters) h e

rest_its : (b x : BoxState) (rs : List Record) → ((y : BoxState) → AreIts y → after_all y rs ≡ Some x → AreIts x) → (o : Option BoxState) → ((y : BoxState) → o ≡ Some y → AreIts y)
    → option_and_then (λ y. after_all y rs) o ≡ Some x → AreIts x
rest_its b x rs more None f e = absurd cc
rest_its b x rs more (Some y) f e = more y (f y refl) e

all_its : (rs : List Record) (b x : BoxState) → AreIts b → after_all b rs ≡ Some x → AreIts x
all_its [] b x h e = let same : b ≡ x = cc in subst AreIts same h
all_its (r ∷ rs) b x h e = rest_its b x rs (λ y k f. all_its rs y x k f) (after b r) (λ y f. after_its b y r h f) e

pub letters_are_its_mails : LettersAreItsMails
letters_are_its_mails own b kept e = (all_its kept (new_box own) b (record { same = refl; known = tt; differ = tt; unique = tt }) e).same
