-- What a session lists as given to its user and taken from it is what was done at the user's side, as it is served.
use Rattle.std.proofs.Common.{◌≡◌, ◌∙◌, ◌⊎◌, inl, inr, ℕ, refl, sym, ap, subst, append-nil, List, [], ◌∷◌, ◌++◌}
use Rattle.std.specs.List.{AllByRecursion}
use Rattle.std.specs.Prelude.{Bool, true, false, not, ◌||◌, ◌&&◌, nat_eq, nat_lt, length, if◌then◌else◌, Option, Some, None, Result, Ok, Err}
use Rattle.std.proofs.Math.Bool.{or-true}
use Rattle.ax_address.specs.Callsign.{Callsign}
use Rattle.ax_address.proofs.SameCalls.{call_refl}
use Rattle.ax_address.proofs.SameNumbers.{nat_refl, nat_apart}
use Rattle.circuit_table.specs.Sets as sets
use Rattle.circuit_table.specs.Standing as answers
use Rattle.circuit_table.specs.declared.refusal.SetRefusal.{SetRefusal}
use Rattle.link_table.specs.declared.text_refusal.TextRefusal.{TextRefusal}
use Rattle.node_model.specs.declared.circuit.Circuit.{Circuit}
use Rattle.node_model.specs.declared.reply.Reply.{Reply}
use Rattle.node_model.specs.declared.stage.Stage.{Stage}
use Rattle.node_model.specs.declared.stage.Stage.TheVariants.{AtPrompt, Trying, Failed, Connected}
use Rattle.node_model.specs.declared.user.User.{User}
use Rattle.node_model.specs.declared.user.User.TheVariants.{AtEnd, AtLink}
use Rattle.node_model.specs.Bridging as bridging
use Rattle.node_model.specs.Links as links
use Rattle.node_model.specs.Pumping.{pump}
use Rattle.node_model.specs.Serving as serving
use Rattle.node_model.specs.Serving.{is_at_end}
use Rattle.node_model.specs.Sessions.{Session, circuit_of}
use Rattle.node_model.specs.States.{State, at_links, at_set}
use Rattle.node_model.specs.Turns.{Turn, done, idle, or_else}
use Rattle.node_model.specs.Users as users
use Rattle.node_model.specs.Users.{Outcome, Taken, Unheard, Refused, at_session, session_at}
use Rattle.node_core.specs.Deeds.{EndsShowLists, Deed, Wrote, Took, Closed, Sent, Fetched, Does, Rests, Keeps, Pumps, Writes, Takes, Closes, Sends, Fetches, NotesDeeds, SessionsNoteDeeds, given_by, given_to, is_at, is_tried, said_by, said_in, told_in, told_to}
use Rattle.node_core.proofs.Fine.{placed_said, pumped_placed}
use Rattle.node_core.proofs.Soundness.{Placed, Same, changed_here, same_hears, same_itself}
use Rattle.node_core.proofs.Listing.{IsTelling, Lists, closed_tried, deeds_if, does_if, does_write, err_gave, giving_taken, lists_hear, tells_end, tells_link, told_all, told_none, writing_gave, writing_taken, wrote_deeds}
use Rattle.node_core.proofs.Shown.{ends_show}

-- ---- a session that is served

module _ (now nth : ℕ) (n : State) (x : Session) (c : Circuit) (here : session_at nth n ≡ Some x) (its : circuit_of x.stage ≡ Some c) (apart : is_at_end c.id x.user ≡ false) where
  abbrev Stood : Type 0
  Stood = x.stage ≡ Connected c

  abbrev Own : List Deed → Type 0
  Own ds = AllByRecursion (λ d. is_at x.user c d ≡ true) ds

  abbrev Listed : List (List ℕ) → List (List ℕ) → Session → Type 0
  Listed gave taken y = Lists gave taken Stood y

  -- what a turn comes to
  record Serves (t : Turn State) : Type 0 where
    notes : NotesDeeds now nth c x n (pump now t.after)
    idles : t.did ≡ false → t.after ≡ n

  untried : Stood → is_tried x.stage ≡ false
  untried e = ap is_tried e

  at_first : Listed x.bridge.gave x.bridge.taken x
  at_first = (refl, λ e. (untried e, refl))

  noted : (k : State) (ds : List Deed) (gave taken : List (List ℕ)) → Does now (pump now k) n ds → Own ds → Placed (Listed gave taken) nth k.sessions
      → gave ≡ x.bridge.gave ++ given_to x.user c ds → taken ≡ x.bridge.taken ++ said_by x.user ds → NotesDeeds now nth c x n (pump now k)
  noted k ds gave taken does own p e f =
      let q : Placed (Listed gave taken) nth (pump now k).sessions = pumped_placed (Listed gave taken) (lists_hear gave taken Stood) now nth k p in
      record { deeds = ds; does = does; own = own; session = q.x; placed = q.is; gave = q.holds.0 ∙ e; taken = λ st. (q.holds.1 st).1 ∙ f }

  idles : Serves (idle n)
  idles = record {
    notes = noted n [] x.bridge.gave x.bridge.taken (Pumps n [] Rests) tt (record { x = x; is = here; holds = at_first }) (sym (append-nil x.bridge.gave)) (sym (append-nil x.bridge.taken));
    idles = λ e. refl;
  }

  does_it : (k : State) → NotesDeeds now nth c x n (pump now k) → Serves (done k)
  does_it k notes = record { notes = notes; idles = λ e. absurd (cc e) }

  -- ---- what the user is told

  listens : (z : Session) (a : State) → z.user ≡ x.user → session_at nth a ≡ Some z → (users.listener (session_at nth a) a ≡ None) ⊎ (users.listener (session_at nth a) a ≡ Some x.user)
  listens z a same e = subst (λ (o : Option Session). (users.listener o a ≡ None) ⊎ (users.listener o a ≡ Some x.user)) (sym e) (by (users.is_deaf z a))
    where
      by : (b : Bool) → ((if b then None else Some z.user) ≡ None) ⊎ ((if b then None else Some z.user) ≡ Some x.user)
      by true = inl refl
      by false = inr (ap (λ (u : User). Some u) same)

  own_told : (o : Option User) (text : List ℕ) (a : State) → (o ≡ None) ⊎ (o ≡ Some x.user) → Own (deeds_if o text a)
  own_told o text a (inl e) = rw e tt
  own_told o text a (inr e) = rw e (told_all x.user text a c)

  none_said : (o : Option User) (text : List ℕ) (a : State) (v : User) → (o ≡ None) ⊎ (o ≡ Some x.user) → said_by v (deeds_if o text a) ≡ []
  none_said o text a v (inl e) = rw e (none_of v)
    where
      none_of : (u : User) → said_by u [] ≡ []
      none_of u = refl
  none_said o text a v (inr e) = rw e (told_none x.user v text a)

  no_more : (xs ys : List (List ℕ)) → ys ≡ [] → xs ≡ xs ++ ys
  no_more xs ys e = sym (append-nil xs) ∙ ap (λ (zs : List (List ℕ)). xs ++ zs) (sym e)

  none_given : (ds : List Deed) → said_by (AtEnd c.id) ds ≡ [] → x.bridge.gave ≡ x.bridge.gave ++ given_to x.user c ds
  none_given ds e = no_more x.bridge.gave (given_to x.user c ds) (ap (λ (ms : List (List ℕ)). given_by ms (told_to x.user ds)) e)

  -- ---- replies

  replied : (o : Option Reply) → Serves (bridging.reply_by o now nth n)
  replied None = idles
  replied (Some r) =
      let text : List ℕ = bridging.reply_text (bridging.prompt_of n) r in
      let a : State = at_session nth bridging.drop_reply n in
      let z : Session = bridging.drop_reply x in
      let there : session_at nth a ≡ Some z = changed_here bridging.drop_reply n.sessions nth x here in
      let o : Option User = users.listener (session_at nth a) a in
      let k : State = users.say now nth text a in
      let ds : List Deed = deeds_if o text a in
      let is = listens z a refl there in
      let p = placed_said (Listed x.bridge.gave x.bridge.taken) (lists_hear x.bridge.gave x.bridge.taken Stood) now nth nth text a (record { x = z; is = there; holds = at_first }) in
      does_it k
      (noted k ds x.bridge.gave x.bridge.taken (Keeps n a.sessions ds (does_if o now text a (pump now k) (Pumps k [] Rests))) (own_told o text a is) p (none_given ds (none_said o text a (AtEnd c.id) is))
      (no_more x.bridge.taken (said_by x.user ds) (none_said o text a x.user is)))

  -- ---- messages

  abbrev message : List ℕ
  message = answers.message_at [] (users.end_at c.id n)

  abbrev took : State
  took = users.acts now (sets.Calls c.id sets.Takes now) n

  abbrev got : State
  got = at_session nth (bridging.log_got message) took

  -- of a session that is the same but for what it has heard
  module _ (y : Session) (at : session_at nth took ≡ Some y) (same : y.user ≡ x.user) (lists : Listed x.bridge.gave x.bridge.taken y) (held : users.has_taken (answers.take_answer (users.end_at c.id n)) ≡ true) where
    abbrev z : Session
    z = bridging.log_got message y

    at_got : session_at nth got ≡ Some z
    at_got = changed_here (bridging.log_got message) took.sessions nth y at

    -- once it has logged what came of it
    abbrev after_log : Outcome → State
    after_log o = at_session nth (bridging.log_gave o message) got

    at_log : (o : Outcome) → session_at nth (after_log o) ≡ Some (bridging.log_gave o message z)
    at_log o = changed_here (bridging.log_gave o message) got.sessions nth z at_got

    logged : (o : Outcome) (gave : List (List ℕ)) → (bridging.after_giving o message z.bridge).gave ≡ gave → Placed (Listed gave x.bridge.taken) nth (after_log o).sessions
    logged o gave e = record { x = bridging.log_gave o message z; is = at_log o; holds = (e, λ st. ((lists.1 st).0, giving_taken o message z.bridge ∙ (lists.1 st).1)) }

    does_take : (o : Outcome) (k : State) (ds : List Deed) → Does now k (after_log o) ds → Does now k n (Took c.id message ∷ ds)
    does_take o k ds d = Takes n ds c.id held (Pumps _ ds (Keeps took (after_log o).sessions ds d))

    its_own : is_at x.user c (Took c.id message) ≡ true
    its_own = rw (nat_refl c.id, or-true (is_at_end c.id x.user)) refl

    not_said : said_by x.user (Took c.id message ∷ []) ≡ []
    not_said = by x.user apart
      where
        by : (u : User) → is_at_end c.id u ≡ false → said_by u (Took c.id message ∷ []) ≡ []
        by (AtEnd id) e = rw e refl
        by (AtLink peer) e = refl

    -- nothing is given of it
    kept_back : (o : Outcome) (k : State) → (bridging.after_giving o message z.bridge).gave ≡ z.bridge.gave → Does now (pump now k) (after_log o) [] → Placed (Listed x.bridge.gave x.bridge.taken) nth k.sessions
        → NotesDeeds now nth c x n (pump now k)
    kept_back o k e d p = noted k (Took c.id message ∷ []) x.bridge.gave x.bridge.taken (does_take o (pump now k) [] d) (its_own, tt) p (none_told x.user) (no_more x.bridge.taken _ not_said)
      where
        none_told : (u : User) → x.bridge.gave ≡ x.bridge.gave ++ given_by (said_by (AtEnd c.id) (Took c.id message ∷ [])) (told_to u (Took c.id message ∷ []))
        none_told (AtEnd id) = rw (nat_refl c.id) (sym (append-nil x.bridge.gave))
        none_told (AtLink peer) = rw (nat_refl c.id) (sym (append-nil x.bridge.gave))

    -- it is given
    one_told : (u : User) (d : Deed) → told_in u d ≡ message ∷ [] → given_by (said_by (AtEnd c.id) (Took c.id message ∷ d ∷ [])) (told_to u (Took c.id message ∷ d ∷ [])) ≡ message ∷ []
    one_told (AtEnd id) d e = rw (nat_refl c.id, e) refl
    one_told (AtLink peer) d e = rw (nat_refl c.id, e) refl

    passed : (d : Deed) (k : State) → IsTelling x.user c message d → Does now (pump now k) (after_log Taken) (d ∷ [])
        → Placed (Listed (y.bridge.gave ++ message ∷ []) x.bridge.taken) nth k.sessions → NotesDeeds now nth c x n (pump now k)
    passed d k t does p =
        let ds : List Deed = Took c.id message ∷ d ∷ [] in
        noted k ds (y.bridge.gave ++ message ∷ []) x.bridge.taken (does_take Taken (pump now k) (d ∷ []) does) (its_own, (t.own, tt)) p
        (ap (λ (ms : List (List ℕ)). ms ++ message ∷ []) lists.0 ∙ ap (λ (ms : List (List ℕ)). x.bridge.gave ++ ms) (sym (one_told x.user d t.told)))
        (no_more x.bridge.taken (said_by x.user ds) (none x.user not_said t.said))
      where
        none : (u : User) → said_by u (Took c.id message ∷ []) ≡ [] → said_in u d ≡ [] → said_by u (Took c.id message ∷ d ∷ []) ≡ []
        none u e f = rw f e

    given_at_end : (id : ℕ) → x.user ≡ AtEnd id → (r : Result (Unit {0}) SetRefusal) → users.write_answer id message got ≡ r
        → NotesDeeds now nth c x n (pump now (pump now (users.write_if_ok r (sets.Calls id (sets.Writes message) now) (after_log (users.wrote_by r)))))
    given_at_end id u (Ok _) e =
        let a : State = at_set (links.acts (sets.Calls id (sets.Writes message) now)) (after_log Taken) in
        let p = pumped_placed (Listed (y.bridge.gave ++ message ∷ []) x.bridge.taken) (lists_hear (y.bridge.gave ++ message ∷ []) x.bridge.taken Stood) now nth a (logged Taken (y.bridge.gave ++ message ∷ []) refl) in
        passed (Wrote id message) (pump now a) (subst (λ (v : User). IsTelling v c message (Wrote id message)) (sym u) (tells_end id c message)) (Writes (after_log Taken) [] id message e (Pumps a [] (Pumps (pump now a) [] Rests))) p
    given_at_end id u (Err why) e =
        let o : Outcome = users.wrote_by (Err why) in
        let a : State = after_log o in
        let p = pumped_placed (Listed x.bridge.gave x.bridge.taken) (lists_hear x.bridge.gave x.bridge.taken Stood) now nth a (logged o x.bridge.gave (err_gave why message z.bridge ∙ lists.0)) in
        kept_back o (pump now a) (err_gave why message z.bridge) (Pumps a [] (Pumps (pump now a) [] Rests)) p

    given_at_link : (peer : Callsign) → x.user ≡ AtLink peer → (r : Result (Unit {0}) TextRefusal) → links.text_answer peer message got.links ≡ r
        → NotesDeeds now nth c x n (pump now (users.send_if_ok r peer message now (after_log (users.sent_by r))))
    given_at_link peer u (Ok _) e =
        let a : State = at_links (links.send_text peer message now) (after_log Taken) in
        passed (Sent peer message) a (subst (λ (v : User). IsTelling v c message (Sent peer message)) (sym u) (tells_link peer c message)) (Sends (after_log Taken) [] peer message e (Pumps a [] Rests)) (logged Taken (y.bridge.gave ++ message ∷ []) refl)
    given_at_link peer u (Err why) e = kept_back Refused (after_log Refused) refl (Pumps (after_log Refused) [] Rests) (logged Refused x.bridge.gave lists.0)

    given_to_user : (u : User) → x.user ≡ u → NotesDeeds now nth c x n (pump now (users.say_to u now message (after_log (users.outcome_at u message got))))
    given_to_user (AtEnd id) u = given_at_end id u (users.write_answer id message got) refl
    given_to_user (AtLink peer) u = given_at_link peer u (links.text_answer peer message got.links) refl

    by_deaf : (b : Bool) → NotesDeeds now nth c x n (pump now (users.say_if (if b then None else Some y.user) now message (after_log (users.outcome_if (if b then None else Some y.user) message got))))
    by_deaf true = kept_back Unheard (after_log Unheard) refl (Pumps (after_log Unheard) [] Rests) (logged Unheard x.bridge.gave lists.0)
    by_deaf false = subst (λ (u : User). NotesDeeds now nth c x n (pump now (users.say_to u now message (after_log (users.outcome_at u message got))))) (sym same) (given_to_user x.user refl)

    deaf_still : (o : Outcome) → users.is_deaf (bridging.log_gave o message z) (after_log o) ≡ users.is_deaf z got
    deaf_still o = ap (λ (b : Bool). y.bye || b) (by y.user)
      where
        by : (u : User) → users.has_ended_at u y.left (after_log o) ≡ users.has_ended_at u y.left got
        by (AtEnd id) = refl
        by (AtLink peer) = refl

    passes_on : NotesDeeds now nth c x n (pump now (bridging.pass_on now nth message got))
    passes_on =
        let d : Bool = users.is_deaf z got in
        let o : Outcome = users.outcome_if (if d then None else Some y.user) message got in
        let l : Option User = if d then None else Some y.user in
        let found : users.say now nth message (after_log o) ≡ users.say_if l now message (after_log o) =
        ap (λ (q : Option Session). users.say_if (users.listener q (after_log o)) now message (after_log o)) (at_log o)
        ∙ ap (λ (b : Bool). users.say_if (if b then None else Some y.user) now message (after_log o)) (deaf_still o) in
        let logs : bridging.pass_on now nth message got ≡ users.say now nth message (after_log o) =
        ap (λ (q : Option Session). users.say now nth message (after_log (users.outcome_if (users.listener q got) message got))) at_got in
        subst (λ (k : State). NotesDeeds now nth c x n (pump now k)) (sym (logs ∙ found)) (by_deaf d)

  given : Serves (bridging.give_message now nth n)
  given =
      subst (λ (o : Option Session). Serves (bridging.give_of (bridging.giving_circuit o n) now nth n)) (sym here)
      (subst (λ (o : Option Circuit). Serves (bridging.give_of (bridging.giving_by x o n) now nth n)) (sym its) (by (users.can_pass_on x c.id n)))
    where
      taken : (b : Bool) → users.has_taken (answers.take_answer (users.end_at c.id n)) ≡ b → Serves (if b then done (bridging.pass_on now nth message got) else idle n)
      taken false e = idles
      taken true e =
          let a : State = at_set (links.acts (sets.Calls c.id sets.Takes now)) n in
          let p = pumped_placed (Listed x.bridge.gave x.bridge.taken) (lists_hear x.bridge.gave x.bridge.taken Stood) now nth a (record { x = x; is = here; holds = at_first }) in
          let q = pumped_placed (Same x) (same_hears x) now nth a (record { x = x; is = here; holds = same_itself x }) in
          let found : Some q.x ≡ Some p.x = sym q.is ∙ p.is in
          let one : q.x ≡ p.x = cc found in
          does_it (bridging.pass_on now nth message got) (passes_on p.x p.is (subst (λ (w : Session). w.user ≡ x.user) one q.holds.user) p.holds e)

      by : (b : Bool) → Serves (bridging.give_of (if b then Some c else None) now nth n)
      by false = idles
      by true = taken (users.has_taken (answers.take_answer (users.end_at c.id n))) refl

  -- ---- texts of the user

  -- the next text, which may have been taken before: what was done for it, and what was taken
  record Texts (t : Turn State) : Type 0 where
    deeds : List Deed
    does : (k : State) (ds : List Deed) → Does now k t.after ds → Does now k n (deeds ++ ds)
    own : (ds : List Deed) → Own ds → Own (deeds ++ ds)
    none : (ds : List Deed) → said_by (AtEnd c.id) ds ≡ [] → said_by (AtEnd c.id) (deeds ++ ds) ≡ []
    said : List (List ℕ)
    says : (ds : List Deed) → said_by x.user ds ≡ [] → said_by x.user (deeds ++ ds) ≡ said
    placed : Placed (Listed x.bridge.gave (x.bridge.taken ++ said)) nth t.after.sessions
    idles : t.did ≡ false → t.after ≡ n

  no_text : (t : Turn State) → t.after ≡ n → Texts t
  no_text t e = record {
    deeds = [];
    does = λ k ds d. subst (λ (m : State). Does now k m ds) e d;
    own = λ ds o. o;
    none = λ ds f. f;
    said = [];
    says = λ ds f. f;
    placed = record { x = x; is = subst (λ (m : State). session_at nth m ≡ Some x) (sym e) here; holds = (refl, λ st. (untried st, sym (append-nil x.bridge.taken))) };
    idles = λ f. e;
  }

  with_text : (text : List ℕ) → Listed x.bridge.gave (x.bridge.taken ++ text ∷ []) (users.with_text text x)
  with_text text = (refl, λ st. (untried st, refl))

  text_at_end : (id : ℕ) → x.user ≡ AtEnd id → Texts (users.take_from_end now nth id n)
  text_at_end id u = by (users.has_taken (answers.take_answer (users.end_at id n))) refl
    where
      text : List ℕ
      text = answers.message_at [] (users.end_at id n)

      a : State
      a = at_set (links.acts (sets.Calls id sets.Takes now)) n

      b : State
      b = at_session nth (users.with_text text) a

      not_its : nat_eq c.id id ≡ false
      not_its = nat_apart id c.id (subst (λ (v : User). is_at_end c.id v ≡ false) u apart)

      by : (t : Bool) → users.has_taken (answers.take_answer (users.end_at id n)) ≡ t → Texts (users.take_if t (pump now b) n)
      by false e = no_text (idle n) refl
      by true e = record {
        deeds = Took id text ∷ [];
        does = λ k ds d. Takes n ds id e (Keeps a b.sessions ds (Pumps b ds d));
        own = λ ds o. (rw (u, nat_refl id) refl, o);
        none = λ ds f. rw not_its f;
        said = text ∷ [];
        says = λ ds f. rw (u, nat_refl id) (ap (λ (ms : List (List ℕ)). text ∷ ms) f);
        placed = pumped_placed (Listed x.bridge.gave (x.bridge.taken ++ text ∷ [])) (lists_hear x.bridge.gave (x.bridge.taken ++ text ∷ []) Stood) now nth b
            (record { x = users.with_text text x; is = changed_here (users.with_text text) n.sessions nth x here; holds = with_text text });
        idles = λ f. absurd (cc f);
      }

  text_at_link : (peer : Callsign) → x.user ≡ AtLink peer → Texts (users.take_from_link now nth peer n)
  text_at_link peer u = by (links.has_text peer n.links) refl
    where
      text : List ℕ
      text = links.text_with peer n.links

      a : State
      a = at_links (links.take_text peer now) n

      b : State
      b = at_session nth (users.with_text text) a

      by : (t : Bool) → links.has_text peer n.links ≡ t → Texts (users.take_if t b n)
      by false e = no_text (idle n) refl
      by true e = record {
        deeds = Fetched peer text ∷ [];
        does = λ k ds d. Fetches n ds peer e (Keeps a b.sessions ds d);
        own = λ ds o. (rw (u, call_refl peer) refl, o);
        none = λ ds f. f;
        said = text ∷ [];
        says = λ ds f. rw (u, call_refl peer) (ap (λ (ms : List (List ℕ)). text ∷ ms) f);
        placed = record { x = users.with_text text x; is = changed_here (users.with_text text) n.sessions nth x here; holds = with_text text };
        idles = λ f. absurd (cc f);
      }

  text_of : (v : User) → x.user ≡ v → Texts (users.take_next v now nth n)
  text_of (AtEnd id) u = text_at_end id u
  text_of (AtLink peer) u = text_at_link peer u

  next_text : Texts (bridging.next_text now nth n)
  next_text = subst (λ (o : Option Session). Texts (if bridging.has_rest o then done n else users.take_by (users.present o) now nth n)) (sym here) (by (nat_lt 0 (length x.rest)))
    where
      present : (b : Bool) → Texts (users.take_by (if b then None else Some x.user) now nth n)
      present true = no_text (idle n) refl
      present false = text_of x.user refl

      by : (b : Bool) → Texts (if b then done n else users.take_by (users.present (Some x)) now nth n)
      by true = no_text (done n) refl
      by false = present x.left

  -- ---- what is written to the circuit

  rest_written : (t : Turn State) → Texts t → NotesDeeds now nth c x n (pump now (bridging.write_rest now nth c.id t.after))
  rest_written t w = noted k (w.deeds ++ ds) x.bridge.gave (x.bridge.taken ++ w.said) (w.does (pump now k) ds does) (w.own ds (own r)) p (none_given (w.deeds ++ ds) (w.none ds (none (AtEnd c.id) r)))
      (ap (λ (ms : List (List ℕ)). x.bridge.taken ++ ms) (sym (w.says ds (none x.user r))))
    where
      m : State
      m = t.after

      text : List ℕ
      text = bridging.rest_of (session_at nth m)

      r : Result (Unit {0}) SetRefusal
      r = users.write_answer c.id text m

      log : Session → Session
      log = bridging.log_wrote (users.wrote_by r) text

      a : State
      a = at_session nth log m

      k : State
      k = users.write_to now c.id text a

      ds : List Deed
      ds = wrote_deeds r c.id text

      does : Does now (pump now k) m ds
      does = Keeps m a.sessions ds (does_write now c.id text a (pump now k) (Pumps k [] Rests))

      own : (q : Result (Unit {0}) SetRefusal) → Own (wrote_deeds q c.id text)
      own (Ok _) = (rw (nat_refl c.id, or-true (is_at_end c.id x.user)) refl, tt)
      own (Err why) = tt

      none : (v : User) (q : Result (Unit {0}) SetRefusal) → said_by v (wrote_deeds q c.id text) ≡ []
      none (AtEnd id) (Ok _) = refl
      none (AtLink peer) (Ok _) = refl
      none v (Err why) = refl

      wrote_sessions : (q : Result (Unit {0}) SetRefusal) → (users.write_if_ok q (sets.Calls c.id (sets.Writes text) now) a).sessions ≡ a.sessions
      wrote_sessions (Ok _) = refl
      wrote_sessions (Err why) = refl

      p : Placed (Listed x.bridge.gave (x.bridge.taken ++ w.said)) nth k.sessions
      p =
          let P = Listed x.bridge.gave (x.bridge.taken ++ w.said) in
          let y : Session = w.placed.x in
          let b : State = users.write_if_ok (users.write_answer c.id text a) (sets.Calls c.id (sets.Writes text) now) a in
          let logged : P (log y) = (writing_gave (users.wrote_by r) text y.bridge ∙ w.placed.holds.0, λ st. ((w.placed.holds.1 st).0, writing_taken (users.wrote_by r) text y.bridge ∙ (w.placed.holds.1 st).1)) in
          let q : Placed P nth a.sessions = record { x = log y; is = changed_here log m.sessions nth y w.placed.is; holds = logged } in
          pumped_placed P (lists_hear x.bridge.gave (x.bridge.taken ++ w.said) Stood) now nth b (subst (Placed P nth) (sym (wrote_sessions (users.write_answer c.id text a))) q)

  text_written : (t : Turn State) → Texts t → Serves (bridging.text_written now nth c.id t)
  text_written t w = by t.did refl
    where
      by : (b : Bool) → t.did ≡ b → Serves (if b then done (bridging.write_rest now nth c.id t.after) else idle t.after)
      by false e = subst (λ (m : State). Serves (idle m)) (sym (w.idles e)) idles
      by true e = does_it (bridging.write_rest now nth c.id t.after) (rest_written t w)

  taken_up : Serves (serving.take_up now nth n)
  taken_up = subst (λ (o : Option Session). Serves (serving.take_up_by (serving.stage_of o) now nth n)) (sym here) (at x.stage its)
    where
      by : (b : Bool) → Serves (if b then bridging.text_written now nth c.id (bridging.next_text now nth n) else idle n)
      by false = idles
      by true = text_written (bridging.next_text now nth n) next_text

      at : (stage : Stage) → circuit_of stage ≡ Some c → Serves (serving.take_up_at stage now nth n)
      at AtPrompt e = absurd (cc e)
      at (Trying d) e = idles
      at (Failed d) e = idles
      at (Connected d) e = let same : d ≡ c = cc e in rw same (by (not c.closed && users.end_has_room c.id n))

  -- ---- the end of the circuit

  closes : Serves (bridging.close_circuit now nth n)
  closes =
      subst (λ (o : Option Session). Serves (bridging.close_by (bridging.circuit_to_close o n) now nth n)) (sym here)
      (subst (λ (o : Option Circuit). Serves (bridging.close_by (bridging.if_may_close x o n) now nth n)) (sym its) (by (bridging.may_close x c n)))
    where
      a : State
      a = at_session nth bridging.note_closed n

      b : State
      b = at_set (links.acts (sets.Calls c.id sets.Closes now)) a

      own : is_at x.user c (Closed c.id) ≡ true
      own = rw (nat_refl c.id, or-true (is_at_end c.id x.user)) refl

      none : (v : User) → said_by v (Closed c.id ∷ []) ≡ []
      none (AtEnd id) = refl
      none (AtLink peer) = refl

      closed : NotesDeeds now nth c x n (pump now (pump now b))
      closed =
          let P = Listed x.bridge.gave x.bridge.taken in
          let q : Placed P nth b.sessions = record { x = bridging.note_closed x; is = changed_here bridging.note_closed n.sessions nth x here; holds = (refl, λ st. (closed_tried x.stage ∙ untried st, refl)) } in
          noted (pump now b) (Closed c.id ∷ []) x.bridge.gave x.bridge.taken (Keeps n a.sessions _ (Closes a [] c.id (Pumps b [] (Pumps (pump now b) [] Rests)))) (own, tt)
          (pumped_placed P (lists_hear x.bridge.gave x.bridge.taken Stood) now nth b q) (none_given (Closed c.id ∷ []) (none (AtEnd c.id))) (no_more x.bridge.taken (said_by x.user (Closed c.id ∷ [])) (none x.user))

      by : (t : Bool) → Serves (bridging.close_by (if t then Some c else None) now nth n)
      by false = idles
      by true = does_it (pump now b) closed

  -- ---- the first of these that can be done

  first_or : (first next : State → Turn State) → Serves (first n) → Serves (next n) → Serves (or_else first next n)
  first_or first next v w = by (first n).did refl
    where
      by : (b : Bool) → (first n).did ≡ b → Serves (if b then first n else next (first n).after)
      by true e = v
      by false e = subst (λ (m : State). Serves (next m)) (sym (v.idles e)) w

  once : Serves (serving.serve_once now nth n)
  once =
      first_or (bridging.give_reply now nth) (or_else (bridging.give_message now nth) (or_else (serving.take_up now nth) (bridging.close_circuit now nth))) (replied (bridging.next_reply (session_at nth n) n))
      (first_or (bridging.give_message now nth) (or_else (serving.take_up now nth) (bridging.close_circuit now nth)) given
      (first_or (serving.take_up now nth) (bridging.close_circuit now nth) taken_up closes))

pub note_deeds : SessionsNoteDeeds
note_deeds now nth n x c here its apart = (once now nth n x c here its apart).notes

-- ---- told by the end of a user alone

pub ends_show_lists : EndsShowLists
ends_show_lists now nth id n x c here stood user apart numbered ms gs has =
    let d = note_deeds now nth n x c here (ap circuit_of stood) (subst (λ (u : User). is_at_end c.id u ≡ false) (sym user) apart) in
    let told = subst (λ (u : User). d.session.bridge.gave ≡ x.bridge.gave ++ given_to u c d.deeds) user d.gave in
    let said = subst (λ (u : User). d.session.bridge.taken ≡ x.bridge.taken ++ said_by u d.deeds) user (d.taken stood) in
    record {
      told = told_to (AtEnd id) d.deeds;
      said = said_by (AtEnd id) d.deeds;
      end = ends_show now (serving.serve now nth n).after n d.deeds d.does numbered id ms gs has;
      session = d.session;
      placed = d.placed;
      gave = by d.session (told_to (AtEnd id) d.deeds) (said_by (AtEnd c.id) d.deeds) told;
      took = said;
    }
  where
    by : (y : Session) (told ms : List (List ℕ)) → y.bridge.gave ≡ x.bridge.gave ++ given_by ms told → (y.bridge.gave ≡ x.bridge.gave) ⊎ (y.bridge.gave ≡ x.bridge.gave ++ told)
    by y told [] e = inl (e ∙ append-nil x.bridge.gave)
    by y told (m ∷ ms) e = inr e
