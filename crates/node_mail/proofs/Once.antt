-- Mail is stored once, also where stored mails are killed.
use Rattle.std.proofs.Common.{◌≡◌, ◌∙◌, ℕ, List, [], ◌∷◌, Bool, true, false, Option, Some, refl, sym, ap, subst, cond, inl, inr}
use Rattle.std.specs.Prelude.{◌⊎◌, ◌&&◌, ◌||◌, ◌==◌, length, not}
use Rattle.std.specs.List.{AllByRecursion}
use Rattle.radio_base.proofs.Each.{each_map, each_both}
use Rattle.ax_address.specs.Callsign.{Callsign, same_call}
use Rattle.node_mail.specs.Wires.{SpelledWireIsRead, WrittenWireSpellsIt, wire_octets}
use Rattle.node_mail.specs.Lists.{Letter, Lists, Mail, has_text, is_killed, is_readable, is_stored, letter_of, stored_mail}
use Rattle.node_mail.specs.Runs.{HoldsMailOnce, MailIsStoredOnce, MailRun, begin, run}
use Rattle.node_mail.specs.Kills.{HoldsMailOnceOrKilled, KilledMailIsStoredOnce, turns}
use Rattle.node_mail.specs.MailOnce.{IsKept, IsKeptOrKilled, WasPosted, WasPostedOrKilled, posted_as, posted_with}
use Rattle.node_mail.proofs.Letters.{numbers_differ}
use Rattle.node_mail.proofs.Holding.{Holds, CameFrom}
use Rattle.node_mail.proofs.Steps.{ReadsBack, run_keeps, begin_holds}
use Rattle.node_mail.proofs.Killing.{Left, turns_keep}

-- a mail of which the text is that it was posted with
abbrev Same : List ℕ → List ℕ → Type 0
Same here posted = here ≡ posted

as_it_was : (number : ℕ) (a : Lists) (m : Mail) (d : Callsign) (text : List ℕ) → letter_of number a.posted ≡ Some (posted_with text m d) → m.text.items ≡ text → letter_of number a.posted ≡ Some (posted_as m d)
as_it_was number a m d text f e = subst (λ t. letter_of number a.posted ≡ Some (posted_with t m d)) (sym e) f

holds_once : (w : MailRun) → Holds Same w → HoldsMailOnce w
holds_once w h o d a b ho hd = record {
  different = numbers_differ o b.stored (h.sound d b hd).differ;
  as_posted = each_map (CameFrom Same w d) (WasPosted o d a) (λ m f e. let p = f a (ap w.store_of e ∙ ho) in as_it_was m.number a m d p.0 p.1 p.2) b.stored (h.came d b hd);
  kept = h.kept o d a b ho hd;
}

pub mail_once : SpelledWireIsRead → WrittenWireSpellsIt → MailIsStoredOnce
mail_once read written has_store events is =
    let back : ReadsBack = λ v h. read v (wire_octets v) (written v h) in
    holds_once (run events (begin has_store)) (run_keeps back Same (λ text. refl) events (begin has_store) is (begin_holds Same has_store))

-- a mail that is stored is so with its text, or was killed

abbrev IsHere : Option Mail → Type 0
IsHere o = (is_readable o ≡ true) ⊎ (is_killed o ≡ true)

text_case : (m : Mail) (b : Bool) → has_text m ≡ b → IsHere (Some m)
text_case m true e = inl e
text_case m false e = inr (ap not e)

here_case : (m : Mail) (rest : Option Mail) (b more : Bool) → (more ≡ true → IsHere rest) → (b || more) ≡ true → IsHere (cond b (Some m) rest)
here_case m rest true more f h = text_case m (has_text m) refl
here_case m rest false more f h = f h

is_here : (ms : List Mail) (o : Callsign) (n : ℕ) → is_stored ms o n ≡ true → IsHere (stored_mail ms o n)
is_here [] o n h = absurd (cc)
is_here (m ∷ ms) o n h = here_case m (stored_mail ms o n) (same_call m.origin o && (m.number == n)) (is_stored ms o n) (is_here ms o n) h

kept_here : (o : Callsign) (a b : Lists) (l : Letter) → IsKept o a b l → IsKeptOrKilled o a b l
kept_here o a b l (inl q) = inl q
kept_here o a b l (inr s) = inr (is_here b.stored o l.number s)

-- one that has a text has the one that it was posted with

not_empty : (here text : List ℕ) → not (length here == 0) ≡ true → Left here text → here ≡ text
not_empty here text h (inl e) = e
not_empty here text h (inr e) = let none : not (length here == 0) ≡ false = ap (λ (t : List ℕ). not (length t == 0)) e in absurd (cc)

unkilled_was : (o d : Callsign) (a : Lists) (m : Mail) → has_text m ≡ true → WasPostedOrKilled o d a m → WasPosted o d a m
unkilled_was o d a m h f e = let p = f e in as_it_was m.number a m d p.0 p.1 (not_empty m.text.items p.0 h p.2)

holds_once_or_killed : (w : MailRun) → Holds Left w → HoldsMailOnceOrKilled w
holds_once_or_killed w h o d a b ho hd =
    let differ = numbers_differ o b.stored (h.sound d b hd).differ in
    let came : AllByRecursion (WasPostedOrKilled o d a) b.stored = each_map (CameFrom Left w d) (WasPostedOrKilled o d a) (λ m f e. f a (ap w.store_of e ∙ ho)) b.stored (h.came d b hd) in
    let kept = h.kept o d a b ho hd in (
      record {
        different = differ;
        as_posted = came;
        kept = each_map (λ (l : Letter). l.dest ≡ d → IsKept o a b l) (λ (l : Letter). l.dest ≡ d → IsKeptOrKilled o a b l) (λ l f e. kept_here o a b l (f e)) a.posted kept;
      },
      λ unkilled. record {
        different = differ;
        as_posted = each_both (λ (m : Mail). has_text m ≡ true) (WasPostedOrKilled o d a) (WasPosted o d a) (unkilled_was o d a) b.stored unkilled came;
        kept = kept;
      },
    )

pub mail_once_or_killed : SpelledWireIsRead → WrittenWireSpellsIt → KilledMailIsStoredOnce
mail_once_or_killed read written has_store ts are =
    let back : ReadsBack = λ v h. read v (wire_octets v) (written v h) in
    holds_once_or_killed (turns ts (begin has_store)) (turns_keep back ts (begin has_store) are (begin_holds Left has_store))
