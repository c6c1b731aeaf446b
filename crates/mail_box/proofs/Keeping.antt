-- A record that was written down and applied is kept.
use Rattle.std.proofs.Common.{◌≡◌, ◌⊎◌, ℕ, List, [], ◌∷◌, ◌++◌, Bool, true, false, cond, Option, Some, None, Ok, Err, Result, refl, sym, ap, subst, ◌∙◌}
use Rattle.std.specs.Prelude.{is_some, option_and_then, ◌&&◌, ◌||◌, not, slice_get}
use Rattle.ax_address.specs.Callsign.{Callsign}
use Rattle.node_mail.specs.Lists.{Lists, is_full, is_stored, mail_of, post_at, posted_by}
use Rattle.node_mail.specs.declared.mail.MailName.{MailName}
use Rattle.node_mail.specs.declared.post_refusal.PostRefusal.{PostRefusal}
use Rattle.mail_records.specs.declared.record.Record.{Record}
use Rattle.mail_records.specs.declared.record.Record.TheVariants.{Posted, Settled, Stored, Local, Read, Killed}
use Rattle.mail_box.specs.Boxes.{BoxState, MailsView, MailsStand, Goes, added, after, after_all, has_room, killed_at, mail_of_letter, name, new_box, place_of, with_lists, without_mail}
use Rattle.mail_box.specs.declared.post_mail.MailBox.{MailBox}
use Rattle.mail_box.specs.Inputs.{Input, record_of, with_record}
use Rattle.mail_box.specs.Kept.{AfterAll, FindsAtMost, IsFoundToo, IsKept, IsRecordOf, Keeps}

then_same : (o : Option BoxState) → option_and_then (λ y. Some y) o ≡ o
then_same None = refl
then_same (Some y) = refl

push_case : (b : BoxState) (kept : List Record) (r : Record) → ((y : BoxState) → after_all y kept ≡ Some b → after_all y (kept ++ r ∷ []) ≡ after b r) → (o : Option BoxState)
    → option_and_then (λ y. after_all y kept) o ≡ Some b → option_and_then (λ y. after_all y (kept ++ r ∷ [])) o ≡ after b r
push_case b kept r ih None e = absurd cc
push_case b kept r ih (Some y) e = ih y e

-- one record more
pub after_push : (x b : BoxState) (kept : List Record) (r : Record) → after_all x kept ≡ Some b → after_all x (kept ++ r ∷ []) ≡ after b r
after_push x b [] r e = (let same : x ≡ b = cc in then_same (after x r) ∙ ap (λ z. after z r) same)
after_push x b (k ∷ kept) r e = push_case b kept r (λ y f. after_push y b kept r f) (after x k) e

-- it is the same post
HasOwn : Callsign → Option BoxState → Type 0
HasOwn own None = Unit {0}
HasOwn own (Some b) = b.lists.own ≡ own

own_if : (own : Callsign) (t : Bool) (x : BoxState) → x.lists.own ≡ own → HasOwn own (cond t (Some x) None)
unfolding HasOwn
own_if own true x e = e
own_if own false x e = tt

own_without : (s : Lists) (o : Option MailName) → (without_mail s o).own ≡ s.own
own_without s None = refl
own_without s (Some mail) = refl

own_killed : (b : BoxState) (o : Option ℕ) → HasOwn b.lists.own (killed_at b o)
unfolding HasOwn
own_killed b (Some at) = own_without b.lists (mail_of_letter (slice_get b.letters at))
own_killed b None = tt

own_posted : (s : Lists) (user dest : Callsign) (text : List ℕ) (r : Result ℕ PostRefusal) → (posted_by s user dest text r).own ≡ s.own
own_posted s user dest text (Ok n) = refl
own_posted s user dest text (Err why) = refl

own_after : (b : BoxState) (r : Record) → HasOwn b.lists.own (after b r)
own_after b (Posted number user dest text) = own_if b.lists.own _ _ (own_posted b.lists user dest text (post_at b.lists dest text))
own_after b (Settled number) = own_if b.lists.own _ _ refl
own_after b (Stored origin number user text) = own_if b.lists.own _ _ refl
own_after b (Local user text) = own_if b.lists.own _ _ refl
own_after b (Read letter) = own_if b.lists.own _ _ refl
own_after b (Killed letter) = own_killed b (place_of letter b.letters)

keeps_case : {L : Type 0} (holds : L → List Record → Type 0) (old : MailsView) (new : MailBox L) (kept : List Record) (r : Record) (b : BoxState) → after_all (new_box old.store.own) kept ≡ Some b → MailsStand old b
    → holds new.log (kept ++ r ∷ []) → new.is_behind ≡ false → (o : Option BoxState) → after b r ≡ o → HasOwn b.lists.own o → Goes true old new.mails o → IsKept holds new (kept ++ r ∷ [])
unfolding HasOwn
keeps_case holds old new kept r b was stood log up None e own goes = absurd goes
keeps_case holds old new kept r b was stood log up (Some x) e own goes =
    let same : new.mails.store.own ≡ old.store.own = goes.store.own ∙ own ∙ sym stood.store.own in
    record { log = log; is_up = up; state = x; after = ap (λ c. after_all (new_box c) (kept ++ r ∷ [])) same ∙ after_push (new_box old.store.own) b kept r was ∙ e; stands = goes }

keeps : {L : Type 0} (holds : L → List Record → Type 0) (old new : MailBox L) (kept : List Record) (r : Record) → IsKept holds old kept → holds new.log (kept ++ r ∷ []) → new.is_behind ≡ false
    → ((b : BoxState) → MailsStand old.mails b → Goes true old.mails new.mails (after b r)) → IsKept holds new (kept ++ r ∷ [])
keeps holds old new kept r k log up goes =
    keeps_case holds old.mails new kept r k.state k.after k.stands log up (after k.state r) refl (own_after k.state r) (goes k.state k.stands)

-- one record more of several
pub all_push : (x : BoxState) (kept : List Record) (r : Record) (old new : MailsView) (o : Option BoxState) → after_all x kept ≡ o → AfterAll old o → ((b : BoxState) → MailsStand old b → Goes true old new (after b r))
    → AfterAll new (after_all x (kept ++ r ∷ []))
all_push x kept r old new None e stands goes = absurd stands
all_push x kept r old new (Some b) e stands goes = subst (AfterAll new) (sym (after_push x b kept r e)) (came (after b r) (goes b stands))
  where
    came : (o : Option BoxState) → Goes true old new o → AfterAll new o
    came None goes = absurd goes
    came (Some x) goes = goes

-- or it can't follow
pub all_stops : (x : BoxState) (kept : List Record) (r : Record) (old new : MailsView) (o : Option BoxState) → after_all x kept ≡ o → AfterAll old o → ((b : BoxState) → MailsStand old b → Goes false old new (after b r))
    → after_all x (kept ++ r ∷ []) ≡ None
all_stops x kept r old new None e stands goes = absurd stands
all_stops x kept r old new (Some b) e stands goes = after_push x b kept r e ∙ stops (after b r) (goes b stands)
  where
    stops : (o : Option BoxState) → Goes false old new o → o ≡ None
    stops None goes = refl
    stops (Some y) goes = absurd goes

pub all_some : (mails : MailsView) (o : Option BoxState) → AfterAll mails o → is_some o ≡ true
all_some mails None stands = absurd stands
all_some mails (Some b) stands = refl

-- a mail that is stored, with a letter for its user
pub stored_goes : (b : BoxState) (origin user : Callsign) (number : ℕ) (text : List ℕ) (old new : MailsView) → has_room b ≡ true
    → not (is_stored b.lists.stored origin number || is_full b.lists.stored) ≡ true
    → MailsStand new (added (Some (name origin number)) user text (with_lists (record b.lists { stored = b.lists.stored ++ mail_of origin number user text ∷ [] }) b))
    → Goes true old new (after b (Stored origin number user text))
stored_goes b origin user number text old new room put stands =
    subst (λ t. Goes true old new (cond t (Some (added (Some (name origin number)) user text (with_lists (record b.lists { stored = b.lists.stored ++ mail_of origin number user text ∷ [] }) b))) None))
    (sym (both_true (has_room b) _ room put)) stands
  where
    both_true : (x y : Bool) → x ≡ true → y ≡ true → (x && y) ≡ true
    both_true true y e f = f
    both_true false y e f = e

-- the record of an input was written down and applied
pub keeps_on : {L : Type 0} (holds : L → List Record → Type 0) (old new : MailBox L) (r : Record) → new.is_behind ≡ false → ((b : BoxState) → MailsStand old.mails b → Goes true old.mails new.mails (after b r))
    → ((kept : List Record) → holds old.log kept → holds new.log (kept ++ r ∷ [])) → (input : Input) → IsRecordOf old.mails input r → Keeps holds old new input
keeps_on holds old new r up goes log input is kept k = subst (λ o. IsKept holds new (with_record kept o)) (sym (is k.state k.stands)) (keeps holds old new kept r k (log kept k.log) up goes)

-- an input without a record changes nothing
pub keeps_none : {L : Type 0} (holds : L → List Record → Type 0) (post : MailBox L) (input : Input) → ((b : BoxState) → MailsStand post.mails b → record_of b input ≡ None) → Keeps holds post post input
keeps_none holds post input none kept k = subst (λ o. IsKept holds post (with_record kept o)) (sym (none k.state k.stands)) k

-- the program ends within the writing of a record
pub finds_at_most : {L : Type 0} (holds may_find : L → List Record → Type 0) (old new : MailBox L) (r : Record)
    → ((kept found : List Record) → holds old.log kept → may_find new.log found → may_find old.log found ⊎ (found ≡ kept ++ r ∷ [])) → (input : Input) → IsRecordOf old.mails input r
    → FindsAtMost holds may_find old new input
finds_at_most holds may_find old new r crash input is b kept found stands held may =
    subst (λ o. may_find old.log found ⊎ IsFoundToo kept o found) (sym (is b stands)) (crash kept found held may)

-- ---- after all records

own_case : (rs : List Record) → ((y : BoxState) → HasOwn y.lists.own (after_all y rs)) → (own : Callsign) (o : Option BoxState) → HasOwn own o → HasOwn own (option_and_then (λ y. after_all y rs) o)
unfolding HasOwn
own_case rs ih own None h = tt
own_case rs ih own (Some y) h = subst (λ c. HasOwn c (after_all y rs)) h (ih y)

own_all : (x : BoxState) (rs : List Record) → HasOwn x.lists.own (after_all x rs)
unfolding HasOwn
own_all x [] = refl
own_all x (r ∷ rs) = own_case rs (λ y. own_all y rs) x.lists.own (after x r) (own_after x r)

over_case : {L : Type 0} (holds : L → List Record → Type 0) (own : Callsign) (post : MailBox L) (kept : List Record) → holds post.log kept → post.is_behind ≡ false → (o : Option BoxState)
    → after_all (new_box own) kept ≡ o → HasOwn own o → AfterAll post.mails o → IsKept holds post kept
unfolding HasOwn
over_case holds own post kept log up None e is stands = absurd stands
over_case holds own post kept log up (Some b) e is stands =
    record { log = log; is_up = up; state = b; after = ap (λ c. after_all (new_box c) kept) (stands.store.own ∙ is) ∙ e; stands = stands }

pub over_kept : {L : Type 0} (holds : L → List Record → Type 0) (own : Callsign) (post : MailBox L) (kept : List Record) → holds post.log kept → post.is_behind ≡ false → AfterAll post.mails (after_all (new_box own) kept)
    → IsKept holds post kept
over_kept holds own post kept log up stands = over_case holds own post kept log up (after_all (new_box own) kept) refl (own_all (new_box own) kept) stands
