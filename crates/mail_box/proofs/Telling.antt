-- The mails of a post are those that its records say were posted and stored.
use Rattle.std.proofs.Common.{◌≡◌, ◌==◌, ℕ, List, [], ◌∷◌, ◌++◌, Bool, true, false, not, cond, Option, Some, None, Ok, Err, Result, is_some, inl, inr, refl, sym, ap, subst, ◌∙◌, append-nil, append_assoc}
use Rattle.std.specs.Prelude.{◌⊎◌, ◌&&◌, ◌||◌, option_and_then}
use Rattle.std.proofs.lemmas.Bool.{eqb-true}
use Rattle.ax_address.specs.Callsign.{Callsign, same_call}
use Rattle.node_mail.specs.Lists.{Lists, is_full, is_stored, killed_in, letter_of, mail_of, new_letter, post_at, posted_by, without, without_text}
use Rattle.node_mail.specs.declared.mail.Mail.{Mail}
use Rattle.node_mail.specs.declared.post_refusal.PostRefusal.{PostRefusal}
use Rattle.mail_records.specs.declared.record.Record.{Record}
use Rattle.mail_records.specs.declared.record.Record.TheVariants.{Posted, Settled, Stored, Local, Read, Killed}
use Rattle.mail_box.specs.Boxes.{BoxState, added, after, after_all, gives, has_number, has_room, name, new_box, place_of, with_lists, with_stored}
use Rattle.mail_box.specs.Steps.{AreLeftOf, HasItsMails, IsKilledIn, posted_in, posted_of, stored_in, stored_of}
use Rattle.mail_box.proofs.AsMail.{of_if, place_so}

left_push : (ms ss : List Mail) (m : Mail) → AreLeftOf ms ss → AreLeftOf (ms ++ m ∷ []) (ss ++ m ∷ [])
left_push [] [] m h = (inl refl, tt)
left_push [] (s ∷ ss) m h = absurd h
left_push (x ∷ ms) [] m h = absurd h
left_push (x ∷ ms) (s ∷ ss) m h = (h.0, left_push ms ss m h.1)

killed_once : (m s : Mail) → (m ≡ s) ⊎ (m ≡ without_text s) → (without_text m ≡ s) ⊎ (without_text m ≡ without_text s)
killed_once m s (inl e) = inr (ap without_text e)
killed_once m s (inr e) = inr (ap without_text e)

killed_case : (m s : Mail) (ms ss : List Mail) (origin : Callsign) (n : ℕ) (b : Bool) → (m ≡ s) ⊎ (m ≡ without_text s) → AreLeftOf ms ss → AreLeftOf (killed_in ms origin n) ss
    → AreLeftOf (cond b (without_text m ∷ ms) (m ∷ killed_in ms origin n)) (s ∷ ss)
killed_case m s ms ss origin n true e h k = (killed_once m s e, h)
killed_case m s ms ss origin n false e h k = (e, k)

left_killed : (ms ss : List Mail) (origin : Callsign) (n : ℕ) → AreLeftOf ms ss → AreLeftOf (killed_in ms origin n) ss
left_killed [] [] origin n h = h
left_killed [] (s ∷ ss) origin n h = absurd h
left_killed (m ∷ ms) [] origin n h = absurd h
left_killed (m ∷ ms) (s ∷ ss) origin n h = killed_case m s ms ss origin n (same_call m.origin origin && (m.number == n)) h.0 h.1 (left_killed ms ss origin n h.1)

-- the mails that there are then
record Tells (old new : Lists) (r : Record) : Type 0 where
  posted : new.posted ≡ old.posted ++ posted_of r
  stored : (done : List Mail) → AreLeftOf old.stored done → AreLeftOf new.stored (done ++ stored_of r)

-- a record of something else
no_mail : (old new : Lists) (r : Record) → posted_of r ≡ [] → stored_of r ≡ [] → new.posted ≡ old.posted → new.stored ≡ old.stored → Tells old new r
no_mail old new r p s posted stored = record {
  posted = posted ∙ sym (ap (λ l. old.posted ++ l) p ∙ append-nil old.posted);
  stored = λ done h. subst (λ l. AreLeftOf l (done ++ stored_of r)) (sym stored) (subst (AreLeftOf old.stored) (sym (ap (λ l. done ++ l) s ∙ append-nil done)) h);
}

same_lists : (b x : BoxState) (r : Record) → posted_of r ≡ [] → stored_of r ≡ [] → x.lists ≡ b.lists → Tells b.lists x.lists r
same_lists b x r p s e = no_mail b.lists x.lists r p s (ap (λ (l : Lists). l.posted) e) (ap (λ (l : Lists). l.stored) e)

posted_tells : (b x : BoxState) (number : ℕ) (user dest : Callsign) (text : List ℕ) (says : Result ℕ PostRefusal) → cond (gives says number) (Some (with_lists (posted_by b.lists user dest text says) b)) None ≡ Some x
    → Tells b.lists x.lists (Posted number user dest text)
posted_tells b x number user dest text (Err why) e = absurd cc
posted_tells b x number user dest text (Ok n) e = tells (n == number) refl e
  where
    tells : (same : Bool) → (n == number) ≡ same → cond same (Some (with_lists (posted_by b.lists user dest text (Ok n)) b)) None ≡ Some x → Tells b.lists x.lists (Posted number user dest text)
    tells false t e = absurd cc
    tells true t e =
        let is : with_lists (posted_by b.lists user dest text (Ok n)) b ≡ x = cc in
        let one : n ≡ number = eqb-true n number t in
        record {
          posted = sym (ap (λ (z : BoxState). z.lists.posted) is) ∙ ap (λ k. b.lists.posted ++ new_letter k user dest text ∷ []) one;
          stored = λ done h. subst (λ l. AreLeftOf l (done ++ [])) (ap (λ (z : BoxState). z.lists.stored) is) (subst (AreLeftOf b.lists.stored) (sym (append-nil done)) h);
        }

stored_tells : (b x : BoxState) (origin user : Callsign) (number : ℕ) (text : List ℕ) → added (Some (name origin number)) user text (with_stored (mail_of origin number user text) b) ≡ x
    → Tells b.lists x.lists (Stored origin number user text)
stored_tells b x origin user number text is = record {
  posted = sym (ap (λ (z : BoxState). z.lists.posted) is) ∙ sym (append-nil b.lists.posted);
  stored = λ done h. subst (λ l. AreLeftOf l (done ++ mail_of origin number user text ∷ [])) (ap (λ (z : BoxState). z.lists.stored) is) (left_push b.lists.stored done (mail_of origin number user text) h);
}

-- a letter that is killed
killed_so : (b x : BoxState) (letter : ℕ) → IsKilledIn b.lists x.lists → Tells b.lists x.lists (Killed letter)
killed_so b x letter (inl same) = same_lists b x (Killed letter) refl refl same
killed_so b x letter (inr is) = record {
  posted = ap (λ (l : Lists). l.posted) is.2 ∙ sym (append-nil b.lists.posted);
  stored = λ done h. subst (λ l. AreLeftOf l (done ++ [])) (sym (ap (λ (l : Lists). l.stored) is.2)) (subst (AreLeftOf (killed_in b.lists.stored is.0 is.1)) (sym (append-nil done)) (left_killed b.lists.stored done is.0 is.1 h));
}

after_tells : (b x : BoxState) (r : Record) → after b r ≡ Some x → Tells b.lists x.lists r
after_tells b x (Posted number user dest text) e = posted_tells b x number user dest text (post_at b.lists dest text) e
after_tells b x (Settled number) e =
    let is = of_if (is_some (letter_of number b.lists.queued)) (with_lists (record b.lists { queued = without number b.lists.queued }) b) x e in
    no_mail b.lists x.lists (Settled number) refl refl (sym (ap (λ (z : BoxState). z.lists.posted) is)) (sym (ap (λ (z : BoxState). z.lists.stored) is))
after_tells b x (Stored origin number user text) e =
    stored_tells b x origin user number text (of_if (has_room b && not (is_stored b.lists.stored origin number || is_full b.lists.stored)) (added (Some (name origin number)) user text (with_stored (mail_of origin number user text) b)) x e)
after_tells b x (Local user text) e = same_lists b x (Local user text) refl refl (sym (ap (λ (z : BoxState). z.lists) (of_if (has_room b) (added None user text b) x e)))
after_tells b x (Read letter) e =
    same_lists b x (Read letter) refl refl
    (sym (ap (λ (z : BoxState). z.lists) (of_if (is_some (place_of letter b.letters) && not (has_number letter b.read)) (record b { read = b.read ++ letter ∷ [] }) x e)))
after_tells b x (Killed letter) e = killed_so b x letter (place_so b x (place_of letter b.letters) e)

AllTell : Lists → Lists → List Record → Type 0
AllTell old new rs = (new.posted ≡ old.posted ++ posted_in rs) × ((done : List Mail) → AreLeftOf old.stored done → AreLeftOf new.stored (done ++ stored_in rs))

rest_tells : (b x : BoxState) (r : Record) (rs : List Record) → ((y : BoxState) → after_all y rs ≡ Some x → AllTell y.lists x.lists rs) → (o : Option BoxState) → after b r ≡ o
    → option_and_then (λ y. after_all y rs) o ≡ Some x → AllTell b.lists x.lists (r ∷ rs)
unfolding AllTell
rest_tells b x r rs more None one e = absurd cc
rest_tells b x r rs more (Some y) one e =
    let t = after_tells b y r one in
    let all = more y e in (
      all.0 ∙ ap (λ l. l ++ posted_in rs) t.posted ∙ append_assoc b.lists.posted (posted_of r) (posted_in rs),
      λ done h. subst (AreLeftOf x.lists.stored) (append_assoc done (stored_of r) (stored_in rs)) (all.1 (done ++ stored_of r) (t.stored done h)),
    )

all_tell : (rs : List Record) (b x : BoxState) → after_all b rs ≡ Some x → AllTell b.lists x.lists rs
unfolding AllTell
all_tell [] b x e =
    let is : b ≡ x = cc in (
      sym (ap (λ (z : BoxState). z.lists.posted) is) ∙ sym (append-nil b.lists.posted),
      λ done h. subst (λ l. AreLeftOf l (done ++ [])) (ap (λ (z : BoxState). z.lists.stored) is) (subst (AreLeftOf b.lists.stored) (sym (append-nil done)) h),
    )
all_tell (r ∷ rs) b x e = rest_tells b x r rs (λ y f. all_tell rs y x f) (after b r) refl e

pub has_its_mails : HasItsMails
unfolding AllTell
has_its_mails own b kept e =
    let all = all_tell kept (new_box own) b e in (all.0, all.1 [] tt)
