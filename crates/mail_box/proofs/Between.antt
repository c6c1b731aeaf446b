-- A run of posts over their logs is a run of `node_mail`, as far as mail goes.
use Rattle.std.proofs.Common.{◌≡◌, ℕ, List, [], ◌∷◌, ◌++◌, Bool, true, false, not, cond, drop, Option, Some, None, is_some, IsSome, inl, inr, refl, sym, ap, subst, ◌∙◌}
use Rattle.std.specs.Prelude.{◌&&◌, slice_get}
use Rattle.std.specs.List.{AllByRecursion}
use Rattle.ax_address.specs.Callsign.{Callsign, same_call}
use Rattle.ax_address.proofs.SameCalls.{same_call-true}
use Rattle.node_mail.specs.Wires.{Wire, Receipt, wire_at}
use Rattle.node_mail.specs.Lists.{Letter, Lists, answer_to, hear_at, hear_step, kept_after, kill_step, letter_of, nothing_kept, post_step, text_of}
use Rattle.node_mail.specs.Kills.{Happens, HoldsMailOnceOrKilled, IsTurn, KilledMailIsStoredOnce, Turn, turn, turns}
use Rattle.node_mail.specs.Kills as killing
use Rattle.node_mail.specs.Runs.{MailRun, Written, with_store}
use Rattle.node_mail.specs.Runs as mail
use Rattle.node_mail.specs.declared.heard.Heard.{Heard}
use Rattle.node_mail.specs.declared.heard.Heard.TheVariants as heard
use Rattle.mail_records.specs.declared.record.Record.{Record}
use Rattle.mail_records.specs.declared.record.Record.TheVariants.{Settled, Stored, Local, Read}
use Rattle.mail_box.specs.Boxes.{BoxState, added, after, after_all, has_number, has_room, new_box, place_of, with_room}
use Rattle.mail_box.specs.Inputs.{Input, Posts, PostsHere, Reads, Kills, Hears, heard_record, record_of, with_record}
use Rattle.mail_box.specs.Steps.{IsKilledIn}
use Rattle.mail_box.specs.Runs.{CutOff, Ending, Refused, Told, found_after, is_told}
use Rattle.mail_box.specs.Between.{Net, Event, Asks, Offers, Says, Receives, IsEvent, IsUsers, MailIsStoredOnceOverLogs, answers, asks, begin, happens, mail_in, mail_of_posts, offers, offers_letter, opened, receives, receives_by, records_in, run, says, with_found}
use Rattle.mail_box.proofs.AsMail.{hears_as_mail, kills_as_mail, of_if, posts_as_mail}
use Rattle.mail_box.proofs.Following.{true_or_false}
use Rattle.mail_box.proofs.Keeping.{after_push}
use Rattle.mail_box.proofs.Recording.{input_follows}

-- ---- the records of one post

mail_over : Callsign → List Record → Option Lists
mail_over own found = mail_in (after_all (new_box own) found)

-- another post's mail stays, and this one's is what its records say
at_other : (w : Net) (post : Callsign) (found : List Record) (o : Option Lists) → mail_over post found ≡ o → (c : Callsign) (same : Bool) → same_call c post ≡ same
    → mail_in (opened c (cond same (Some found) (w.found_at c))) ≡ cond same o (mail_in (opened c (w.found_at c)))
unfolding mail_over
at_other w post found o is c true e = subst (λ p. mail_over p found ≡ o) (sym (same_call-true c post e)) is
at_other w post found o is c false e = refl

module _ (w : Net) (post : Callsign) (found : List Record) where
  changes : (s : Lists) → mail_over post found ≡ Some s → mail_of_posts (with_found w post found) ≡ with_store (mail_of_posts w) post s
  changes s is = λ i. record { store_of = λ c. at_other w post found (Some s) is c (same_call c post) refl i; written = w.written }

  here : (o : Option Lists) → mail_in (opened post (w.found_at post)) ≡ o → (c : Callsign) (same : Bool) → same_call c post ≡ same → cond same o (mail_in (opened c (w.found_at c))) ≡ mail_in (opened c (w.found_at c))
  here o was c true e = sym (subst (λ p. mail_in (opened p (w.found_at p)) ≡ o) (sym (same_call-true c post e)) was)
  here o was c false e = refl

  stays : (o : Option Lists) → mail_over post found ≡ o → mail_in (opened post (w.found_at post)) ≡ o → mail_of_posts (with_found w post found) ≡ mail_of_posts w
  stays o is was = λ i. record { store_of = λ c. (at_other w post found o is c (same_call c post) refl ∙ here o was c (same_call c post) refl) i; written = w.written }

-- ---- what each event is

IsNoMail : Input → Type 0
IsNoMail (Posts user dest text) = ⊥
IsNoMail (Hears from octets) = ⊥
IsNoMail (Kills n) = ⊥
IsNoMail input = Unit {0}

-- the same mail after some turns of `node_mail`
pub record IsMail (v w : Net) : Type 0 where
  pub events : List Turn
  pub are : AllByRecursion IsTurn events
  pub same : mail_of_posts w ≡ turns events (mail_of_posts v)

nothing_new : (v w : Net) → mail_of_posts w ≡ mail_of_posts v → IsMail v w
nothing_new v w same = record { events = []; are = tt; same = same }

one_event : (v w : Net) (e : mail.Event) → mail.IsEvent e → mail_of_posts w ≡ mail.happens (mail_of_posts v) e → IsMail v w
one_event v w e is same = record { events = Happens e ∷ []; are = (is, tt); same = same }

goes_to : (o : Option BoxState) → IsSome o → (x : BoxState) × (o ≡ Some x)
goes_to None is = true_or_false (sym is)
goes_to (Some x) is = (x, refl)

-- what becomes of a letter leaves the mail as it is
letters_keep : (b x : BoxState) (input : Input) (r : Record) → IsNoMail input → record_of b input ≡ Some r → after b r ≡ Some x → x.lists ≡ b.lists
unfolding IsNoMail
letters_keep b x (Posts user dest text) r other is goes = absurd other
letters_keep b x (Hears from octets) r other is goes = absurd other
letters_keep b x (PostsHere user text) r other is goes = local (has_room b) refl is
  where
    local : (room : Bool) → has_room b ≡ room → cond room (Some (Local user text)) None ≡ Some r → x.lists ≡ b.lists
    local false e is = absurd cc
    local true e is =
        let said : after b (Local user text) ≡ Some x = subst (λ k. after b k ≡ Some x) (let same : r ≡ Local user text = cc in same) goes in
        sym (ap (λ (z : BoxState). z.lists) (of_if (has_room b) (added None user text b) x said))
letters_keep b x (Reads n) r other is goes = read (is_some (place_of n b.letters) && not (has_number n b.read)) is
  where
    read : (test : Bool) → cond test (Some (Read n)) None ≡ Some r → x.lists ≡ b.lists
    read false is = absurd cc
    read true is =
        let said : after b (Read n) ≡ Some x = subst (λ k. after b k ≡ Some x) (let same : r ≡ Read n = cc in same) goes in
        sym (ap (λ (z : BoxState). z.lists) (of_if (is_some (place_of n b.letters) && not (has_number n b.read)) _ x said))
letters_keep b x (Kills n) r other is goes = absurd other

-- the post is opened, and has this
module _ (w : Net) (post : Callsign) (b : BoxState) (is : opened post (w.found_at post) ≡ Some b) where
  found : List Record
  found = records_in (w.found_at post)

  opens : (o : Option (List Record)) → opened post o ≡ Some b → after_all (new_box post) (records_in o) ≡ Some b
  opens None e = absurd cc
  opens (Some records) e = e

  mail_is : mail_in (opened post (w.found_at post)) ≡ Some b.lists
  mail_is = ap mail_in is

  same_records : mail_over post found ≡ Some b.lists
  unfolding found mail_over
  same_records = ap mail_in (opens (w.found_at post) is)

  -- with a record more
  more_records : (r : Record) (x : BoxState) → after b r ≡ Some x → mail_over post (found ++ r ∷ []) ≡ Some x.lists
  unfolding found mail_over
  more_records r x goes = ap mail_in (after_push (new_box post) b found r (opens (w.found_at post) is) ∙ goes)

  unchanged : IsMail w (with_found w post found)
  unchanged = nothing_new w (with_found w post found) (stays w post found (Some b.lists) same_records mail_is)

  -- ---- a user asks

  letter : (input : Input) (r : Record) → IsNoMail input → record_of b input ≡ Some r → IsMail w (with_found w post (found ++ r ∷ []))
  letter input r other e =
      let goes = goes_to (after b r) (input_follows b input r e) in
      nothing_new w (with_found w post (found ++ r ∷ []))
      (stays w post (found ++ r ∷ []) (Some b.lists) (more_records r goes.0 goes.1 ∙ ap Some (letters_keep b goes.0 input r other e goes.1)) mail_is)

  killed : (n : ℕ) (r : Record) (x : BoxState) → after b r ≡ Some x → IsKilledIn b.lists x.lists → IsMail w (with_found w post (found ++ r ∷ []))
  killed n r x goes (inl same) =
      nothing_new w (with_found w post (found ++ r ∷ [])) (stays w post (found ++ r ∷ []) (Some b.lists) (more_records r x goes ∙ ap Some same) mail_is)
  killed n r x goes (inr is) = record {
    events = killing.Kills post is.0 is.1 ∷ [];
    are = (tt, tt);
    same = changes w post (found ++ r ∷ []) (kill_step b.lists is.0 is.1) (more_records r x goes ∙ ap Some is.2)
        ∙ sym (ap (killing.kills (mail_of_posts w) post is.0 is.1) mail_is);
  }

  writes_down : (input : Input) (r : Record) → IsUsers input → record_of b input ≡ Some r → IsMail w (with_found w post (found ++ r ∷ []))
  unfolding IsNoMail
  writes_down (Posts user dest text) r is_call e =
      let goes = goes_to (after b r) (input_follows b (Posts user dest text) r e) in
      let s = post_step b.lists user dest text in
      one_event w (with_found w post (found ++ r ∷ [])) (mail.Posts post user dest text) is_call
      (changes w post (found ++ r ∷ []) s (more_records r goes.0 goes.1 ∙ ap Some (posts_as_mail b goes.0 user dest text r e goes.1))
      ∙ sym (ap (mail.posts (mail_of_posts w) post user dest text) mail_is))
  writes_down (Hears from octets) r never e = absurd never
  writes_down (PostsHere user text) r users e = letter (PostsHere user text) r tt e
  writes_down (Reads n) r users e = letter (Reads n) r tt e
  writes_down (Kills n) r users e =
      let goes = goes_to (after b r) (input_follows b (Kills n) r e) in
      killed n r goes.0 goes.1 (kills_as_mail b goes.0 n r e goes.1)

  asked : (input : Input) → IsUsers input → (r : Option Record) → record_of b input ≡ r → (ending : Ending) → IsMail w (with_found w post (found_after found r ending))
  asked input users None e Told = unchanged
  asked input users None e Refused = unchanged
  asked input users None e (CutOff true) = unchanged
  asked input users None e (CutOff false) = unchanged
  asked input users (Some r) e Told = writes_down input r users e
  asked input users (Some r) e Refused = unchanged
  asked input users (Some r) e (CutOff true) = writes_down input r users e
  asked input users (Some r) e (CutOff false) = unchanged

  -- ---- a message is written

  offered : (number : ℕ) → IsMail w (offers_letter w post (letter_of number b.lists.queued))
  offered number =
      one_event w (offers_letter w post (letter_of number b.lists.queued)) (mail.Writes post number) tt
      (written (letter_of number b.lists.queued) ∙ sym (ap (mail.writes (mail_of_posts w) post number) mail_is))
    where
      written : (o : Option Letter) → mail_of_posts (offers_letter w post o) ≡ mail.writes_letter (mail_of_posts w) post o
      written None = refl
      written (Some l) = refl

-- ---- a message is heard

answered_as : (v : Net) (m : Written) (a : Bool) (o : Option Wire) → mail_of_posts (answers v m a o) ≡ mail.answers (mail_of_posts v) m a o
answered_as v m a None = refl
answered_as v m true (Some wire) = refl
answered_as v m false (Some wire) = refl

not_answered : (v : Net) (m : Written) (o : Option Wire) → mail_of_posts (answers v m false o) ≡ mail_of_posts v
not_answered v m None = refl
not_answered v m (Some wire) = refl

module _ (w : Net) (which : ℕ) (m : Written) (there : slice_get w.written which ≡ Some m) (b : BoxState) (is : opened m.addressee (w.found_at m.addressee) ≡ Some b) where
  before : List Record
  before = records_in (w.found_at m.addressee)

  step : Lists
  step = hear_step b.lists m.writer m.octets

  same_over : mail_over m.addressee before ≡ Some b.lists
  unfolding before found
  same_over = same_records w m.addressee b is

  same_found : mail_of_posts (with_found w m.addressee before) ≡ mail_of_posts w
  same_found = stays w m.addressee before (Some b.lists) same_over (mail_is w m.addressee b is)

  kept_event : (rec : Option Record) (o : Option Wire) (a : Bool) → mail_over m.addressee (with_record before rec) ≡ Some step → o ≡ answer_to (hear_at b.lists m.writer m.octets)
      → IsMail w (answers (with_found w m.addressee (with_record before rec)) m a o)
  unfolding step
  kept_event rec o a over is_answer =
      let all = mail_of_posts w in
      one_event w (answers (with_found w m.addressee (with_record before rec)) m a o) (mail.Hears which a) tt
      (answered_as (with_found w m.addressee (with_record before rec)) m a o
      ∙ ap (λ v. mail.answers v m a o) (changes w m.addressee (with_record before rec) (hear_step b.lists m.writer m.octets) over)
      ∙ ap (mail.answers (with_store all m.addressee (hear_step b.lists m.writer m.octets)) m a) is_answer
      ∙ sym (ap (mail.hears_by all a m) (mail_is w m.addressee b is))
      ∙ sym (ap (mail.hears all a) there))

  dropped : (o : Option Wire) → IsMail w (answers (with_found w m.addressee before) m false o)
  dropped o = nothing_new w (answers (with_found w m.addressee before) m false o) (not_answered (with_found w m.addressee before) m o ∙ same_found)

  by_ending : (rec : Option Record) (o : Option Wire) → ((a : Bool) → IsMail w (answers (with_found w m.addressee (with_record before rec)) m a o)) → (ending : Ending) (answered : Bool)
      → IsMail w (answers (with_found w m.addressee (found_after before rec ending)) m (is_told ending && answered) o)
  by_ending rec o keeps Told answered = keeps answered
  by_ending rec o keeps Refused answered = dropped o
  by_ending rec o keeps (CutOff true) answered = keeps false
  by_ending rec o keeps (CutOff false) answered = dropped o

  -- with a record
  recorded : (r : Record) → record_of b (Hears m.writer m.octets) ≡ Some r → mail_over m.addressee (before ++ r ∷ []) ≡ Some step
  unfolding before found step
  recorded r e =
      let goes = goes_to (after b r) (input_follows b (Hears m.writer m.octets) r e) in
      more_records w m.addressee b is r goes.0 goes.1 ∙ ap Some (hears_as_mail b goes.0 m.writer m.octets r e goes.1)

  -- without one
  as_before : (h : Heard) → hear_at b.lists m.writer m.octets ≡ h → kept_after b.lists m.writer (text_of (wire_at m.octets)) h ≡ b.lists → mail_over m.addressee before ≡ Some step
  unfolding step
  as_before h e same = same_over ∙ ap Some (sym (ap (kept_after b.lists m.writer (text_of (wire_at m.octets))) e ∙ same))

  abbrev text : List ℕ
  text = drop 16 m.octets

  is_record : (h : Heard) (r : Option Record) → hear_at b.lists m.writer m.octets ≡ h → heard_record m.writer text (with_room b h) ≡ r → record_of b (Hears m.writer m.octets) ≡ r
  is_record h r e is = ap (λ h. heard_record m.writer text (with_room b h)) e ∙ is

  heard_so : (ending : Ending) (answered : Bool) (h : Heard) → hear_at b.lists m.writer m.octets ≡ h
      → IsMail w (answers (with_found w m.addressee (found_after before (heard_record m.writer text (with_room b h)) ending)) m (is_told ending && answered) (answer_to (with_room b h)))
  heard_so ending answered (heard.Stored n user) e = stored (has_room b) refl
    where
      stored : (room : Bool) → has_room b ≡ room
          → IsMail w (answers (with_found w m.addressee (found_after before (heard_record m.writer text (cond room (heard.Stored n user) (heard.Full n))) ending)) m (is_told ending && answered)
          (answer_to (cond room (heard.Stored n user) (heard.Full n))))
      stored true room =
          let r = Stored m.writer n user text in
          let is_r = is_record (heard.Stored n user) (Some r) e (ap (λ t. heard_record m.writer text (cond t (heard.Stored n user) (heard.Full n))) room) in
          by_ending (Some r) (Some (Receipt n)) (λ a. kept_event (Some r) (Some (Receipt n)) a (recorded r is_r) (ap answer_to (sym e))) ending answered
      stored false room = by_ending None None (λ a. nothing_new w (with_found w m.addressee before) same_found) ending answered
  heard_so ending answered (heard.Settled n) e =
      by_ending (Some (Settled n)) None (λ a. kept_event (Some (Settled n)) None a (recorded (Settled n) (is_record (heard.Settled n) (Some (Settled n)) e refl)) (ap answer_to (sym e))) ending answered
  heard_so ending answered (heard.Again n) e =
      by_ending None (Some (Receipt n)) (λ a. kept_event None (Some (Receipt n)) a (as_before (heard.Again n) e refl) (ap answer_to (sym e))) ending answered
  heard_so ending answered (heard.Stray n) e = by_ending None None (λ a. kept_event None None a (as_before (heard.Stray n) e refl) (ap answer_to (sym e))) ending answered
  heard_so ending answered (heard.Full n) e = by_ending None None (λ a. kept_event None None a (as_before (heard.Full n) e refl) (ap answer_to (sym e))) ending answered
  heard_so ending answered heard.Bad e = by_ending None None (λ a. kept_event None None a (as_before heard.Bad e refl) (ap answer_to (sym e))) ending answered

-- ---- each event, and all

asks_so : (w : Net) (post : Callsign) (input : Input) (ending : Ending) → IsUsers input → (o : Option BoxState) → opened post (w.found_at post) ≡ o → IsMail w (asks w post input ending (records_in (w.found_at post)) o)
unfolding found
asks_so w post input ending users None e = nothing_new w w refl
asks_so w post input ending users (Some b) e = asked w post b e input users (record_of b input) refl ending

offers_so : (w : Net) (post : Callsign) (number : ℕ) (o : Option BoxState) → opened post (w.found_at post) ≡ o → IsMail w (offers w post number o)
offers_so w post number None e = nothing_new w w refl
offers_so w post number (Some b) e = offered w post b e number

says_so : (w : Net) (node to : Callsign) (octets : List ℕ) (o : Option (List Record)) → w.found_at node ≡ o → IsMail w (says w node to octets o)
says_so w node to octets None e =
    one_event w (says w node to octets None) (mail.Says node to octets) tt (sym (ap (λ o. mail.says (mail_of_posts w) node to octets (mail_in (opened node o))) e))
says_so w node to octets (Some records) e = nothing_new w w refl

receives_by_so : (w : Net) (which : ℕ) (m : Written) → slice_get w.written which ≡ Some m → (ending : Ending) (answered : Bool) (o : Option BoxState) → opened m.addressee (w.found_at m.addressee) ≡ o
    → IsMail w (receives_by w m ending answered (records_in (w.found_at m.addressee)) o)
unfolding before
receives_by_so w which m there ending answered None e = nothing_new w w refl
receives_by_so w which m there ending answered (Some b) e = heard_so w which m there b e ending answered (hear_at b.lists m.writer m.octets) refl

receives_so : (w : Net) (which : ℕ) (ending : Ending) (answered : Bool) (o : Option Written) → slice_get w.written which ≡ o → IsMail w (receives w ending answered o)
receives_so w which ending answered None e = nothing_new w w refl
receives_so w which ending answered (Some m) e = receives_by_so w which m e ending answered (opened m.addressee (w.found_at m.addressee)) refl

happens_so : (w : Net) (e : Event) → IsEvent e → IsMail w (happens w e)
happens_so w (Asks post input ending) is = asks_so w post input ending is (opened post (w.found_at post)) refl
happens_so w (Offers post number) is = offers_so w post number (opened post (w.found_at post)) refl
happens_so w (Says node to octets) is = says_so w node to octets (w.found_at node) refl
happens_so w (Receives which ending answered) is = receives_so w which ending answered (slice_get w.written which) refl

run_on : (first bs : List Turn) (w : MailRun) → turns (first ++ bs) w ≡ turns bs (turns first w)
run_on [] bs w = refl
run_on (a ∷ first) bs w = run_on first bs (turn w a)

all_on : (first bs : List Turn) → AllByRecursion IsTurn first → AllByRecursion IsTurn bs → AllByRecursion IsTurn (first ++ bs)
all_on [] bs are others = others
all_on (a ∷ first) bs are others = (are.0, all_on first bs are.1 others)

runs_so : (es : List Event) (w : Net) → AllByRecursion IsEvent es → IsMail w (run es w)
runs_so [] w are = nothing_new w w refl
runs_so (e ∷ es) w are =
    let first = happens_so w e are.0 in
    let rest = runs_so es (happens w e) are.1 in
    record {
      events = first.events ++ rest.events;
      are = all_on first.events rest.events first.are rest.are;
      same = rest.same ∙ ap (turns rest.events) first.same ∙ sym (run_on first.events rest.events (mail_of_posts w));
    }

begins : (has_post : Callsign → Bool) → mail_of_posts (begin has_post) ≡ mail.begin has_post
begins has_post = λ i. record { store_of = λ c. begun c (has_post c) i; written = [] }
  where
    begun : (c : Callsign) (has : Bool) → mail_in (opened c (cond has (Some []) None)) ≡ cond has (Some (nothing_kept c)) None
    begun c true = refl
    begun c false = refl

pub stored_once_over_logs : KilledMailIsStoredOnce → MailIsStoredOnceOverLogs
stored_once_over_logs law has_post es are =
    let it = runs_so es (begin has_post) are in
    subst HoldsMailOnceOrKilled (sym (it.same ∙ ap (turns it.events) (begins has_post))) (law has_post it.events it.are)
