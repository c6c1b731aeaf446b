-- Serving a session keeps a node fine.
use Rattle.std.proofs.Common.{◌≡◌, ◌≤◌, ◌+◌, ◌∙◌, ℕ, zero, suc, refl, sym, subst, arith, length, List, [], ◌∷◌}
use Rattle.std.specs.Prelude.{Bool, true, false, not, ◌&&◌, nat_eq, nat_lt, filter, if◌then◌else◌, Option, Some, None}
use Rattle.std.proofs.lemmas.Bool.Decides.{nat_tests}
use Rattle.std.proofs.Math.Bool.{and-false}
use Rattle.ax_address.specs.Callsign.{Callsign, ReadsCallTexts}
use Rattle.circuit_table.specs.Pumps.{TellsLess}
use Rattle.link_table.specs.Laws.{CarriesWhatWasOffered}
use Rattle.link_table.specs.Kept.{OffersLeave, TakesLower}
use Rattle.node_model.specs.declared.circuit.Circuit.{Circuit}
use Rattle.node_model.specs.declared.reply.Reply.{Reply}
use Rattle.node_model.specs.declared.stage.Stage.{Stage}
use Rattle.node_model.specs.declared.stage.Stage.TheVariants.{AtPrompt, Trying, Failed, Connected}
use Rattle.node_model.specs.declared.user.User.TheVariants.{AtLink}
use Rattle.node_model.specs.Bridging as bridging
use Rattle.node_model.specs.Links as links
use Rattle.node_model.specs.Pumping.{at_router, pump}
use Rattle.node_model.specs.Serving as serving
use Rattle.node_model.specs.Serving.{is_at_end}
use Rattle.node_model.specs.Sessions as sessions
use Rattle.node_model.specs.Sessions.{Session, circuit_of}
use Rattle.node_model.specs.States.{State}
use Rattle.node_model.specs.Turns.{Turn, idle, or_else}
use Rattle.node_model.specs.Users as users
use Rattle.node_model.specs.Users.{at_session, session_at}
use Rattle.node_model.proofs.Falling as falling
use Rattle.node_model.proofs.Lowering as lowering
use Rattle.node_model.proofs.Resting.{pumped_dry as dried}
use Rattle.node_core.proofs.Fine.{Fine, close_fine, pumped, session_fine}
use Rattle.node_core.proofs.Given.{Given, IsDone, away, given_closed, given_new, gone_is}
use Rattle.node_core.proofs.Soundness.{Every, Sound, changed_here, filter_every, push_every, sound_closed, sound_new}
use Rattle.node_core.proofs.Owning.{Fewer, Less, at_least, few_itself, filter_less, greets, one, opens_by, owned_by, owns_fewer, then_fewer, asked_by}
use Rattle.node_core.proofs.FineGiving.{shut_end, replied, given}
use Rattle.node_core.proofs.FineLines.{taken_up}
use Rattle.node_core.proofs.Rooms.{none_untold}
use Rattle.node_core.proofs.Served.{serve_on}
use Rattle.node_core.proofs.Wrote.{Written, written_closed, written_new}
use Rattle.node_core.proofs.Short.{Goes, IsShort, text_is_short, walks}

-- ---- the end of a circuit

closed_less : (x : Session) → Less x (bridging.note_closed x)
closed_less x = record { owned = λ id. by x.stage refl id; opens = λ id. opened x.stage refl id; asked = λ id. its x.stage refl id }
  where
    by : (stage : Stage) → x.stage ≡ stage → (id : ℕ) → owned_by id (bridging.note_closed x) ≤ owned_by id x
    by AtPrompt e id = rw e (omega arith)
    by (Trying c) e id = rw e (omega arith)
    by (Failed c) e id = rw e (omega arith)
    by (Connected c) e id = rw e (omega arith)

    its : (stage : Stage) → x.stage ≡ stage → (id : ℕ) → asked_by id (bridging.note_closed x) ≤ asked_by id x
    its AtPrompt e id = rw e (omega arith)
    its (Trying c) e id = rw e (omega arith)
    its (Failed c) e id = rw e (omega arith)
    its (Connected c) e id = rw e (omega arith)

    no_more : (a : Bool) (k : ℕ) → one (a && false) ≤ k
    no_more true k = omega arith
    no_more false k = omega arith

    opened : (stage : Stage) → x.stage ≡ stage → (id : ℕ) → opens_by id (bridging.note_closed x) ≤ opens_by id x
    opened AtPrompt e id = rw e (omega arith)
    opened (Trying c) e id = let none = and-false (nat_eq c.id id) in rw (e, none) (omega arith)
    opened (Failed c) e id = let none = and-false (nat_eq c.id id) in rw (e, none) (omega arith)
    opened (Connected c) e id = let none = and-false (nat_eq c.id id) in rw (e, none) (omega arith)

its_circuit : (x : Session) (c : Circuit) → circuit_of x.stage ≡ Some c → circuit_of (bridging.note_closed x).stage ≡ Some (bridging.closed_circuit c)
its_circuit x c e = by x.stage refl e
  where
    by : (stage : Stage) → x.stage ≡ stage → circuit_of stage ≡ Some c → circuit_of (bridging.stage_closed x.stage) ≡ Some (bridging.closed_circuit c)
    by AtPrompt g h = absurd (cc h)
    by (Trying d) g h = let same : d ≡ c = cc h in rw (g, same) refl
    by (Failed d) g h = let same : d ≡ c = cc h in rw (g, same) refl
    by (Connected d) g h = let same : d ≡ c = cc h in rw (g, same) refl

closed_one : (now nth : ℕ) (n : State) (x : Session) (c : Circuit) → Fine n → session_at nth n ≡ Some x → circuit_of x.stage ≡ Some c → IsDone n.set.set x → Fine (users.close now c.id (at_session nth bridging.note_closed n))
closed_one now nth n x c f e h done =
    let m : State = at_session nth bridging.note_closed n in
    let z : Session = bridging.note_closed x in
    let fine = session_fine nth bridging.note_closed n (λ y k s. sound_closed y s) (λ y k g. let found : Some x ≡ Some y = sym e ∙ k in let same : x ≡ y = cc found in given_closed n.set.set y (subst (IsDone n.set.set) same done) g) (λ y w. written_closed n.set.set y w) closed_less f in
    let at = changed_here bridging.note_closed n.sessions nth x e in
    let its = its_circuit x c h in
    let self : nat_eq c.id c.id ≡ true = grind (arith, nat_tests) in
    let some : owned_by c.id z ≡ one (is_at_end c.id z.user) + 1 = rw (its, self) refl in
    let least = at_least (owned_by c.id) m.sessions nth z at in
    let user : one (is_at_end c.id z.user) ≡ 0 = omega (arith, some, least, fine.0.few c.id) in
    let part = part_none (is_at_end c.id z.user) (not z.bye) user in
    let none : opens_by c.id z ≡ 0 = rw (its, self) (omega (arith, part)) in
    close_fine now c.id m (shut_end c.id m nth z fine at none (omega (arith, some))) fine
  where
    part_none : (a b : Bool) → one a ≡ 0 → one (a && b) ≡ 0
    part_none true b k = absurd (omega (arith, k))
    part_none false b k = refl

closes : (now nth : ℕ) (n : State) → Fine n → (o : Option Session) → session_at nth n ≡ o → Fine (bridging.close_by (bridging.circuit_to_close o n) now nth n).after
closes now nth n f None e = f
closes now nth n f (Some x) e = of (circuit_of x.stage) refl
  where
    none_left : (bs : List ℕ) → not (nat_lt 0 (length bs)) ≡ true → bs ≡ []
    none_left [] g = refl
    none_left (b ∷ bs) g = absurd (grind (arith, nat_tests, g))

    done_by : (a b : Bool) (bs : List ℕ) → (not a && (b && not (nat_lt 0 (length bs)))) ≡ true → b ≡ away x.user x.left n.set.set → (bs ≡ []) × (away x.user x.left n.set.set ≡ true)
    done_by true b bs g k = absurd (cc g)
    done_by false false bs g k = absurd (cc g)
    done_by false true bs g k = (none_left bs g, sym k)

    may : (c : Circuit) → circuit_of x.stage ≡ Some c → (b : Bool) → bridging.may_close x c n ≡ b → Fine (bridging.close_by (if b then Some c else None) now nth n).after
    may c h true g = closed_one now nth n x c f e h (done_by c.closed (users.is_gone x n) x.rest g (gone_is x n))
    may c h false g = f

    of : (o : Option Circuit) → circuit_of x.stage ≡ o → Fine (bridging.close_by (bridging.if_may_close x o n) now nth n).after
    of None h = f
    of (Some c) h = may c h (bridging.may_close x c n) refl

-- ---- serving

no_reply : (o : Option Reply) (now nth : ℕ) (n : State) → (bridging.reply_by o now nth n).did ≡ false → o ≡ None
no_reply None now nth n e = refl
no_reply (Some r) now nth n e = absurd (cc e)

else_fine : (first after : State → Turn State) (n : State) → Fine (first n).after → ((first n).did ≡ false → (first n).after ≡ n) → ((first n).did ≡ false → Fine (after n).after) → Fine (or_else first after n).after
else_fine first after n f idle more = by (first n).did refl
  where
    by : (b : Bool) → (first n).did ≡ b → Fine (if b then first n else after (first n).after).after
    by true e = f
    by false e = subst (λ (m : State). Fine (after m).after) (sym (idle e)) (more e)

module _ (offers : OffersLeave) (takes : TakesLower) (less : TellsLess) (law : CarriesWhatWasOffered) (reads : ReadsCallTexts) where
  once : (now nth : ℕ) (n : State) → Fine n → IsShort n.links → at_router n ≡ 0 → links.pending n.set ≡ 0 → Fine (serving.serve_once now nth n).after
  once now nth n f short router told =
      else_fine (bridging.give_reply now nth) (or_else (bridging.give_message now nth) (or_else (serving.take_up now nth) (bridging.close_circuit now nth))) n
      (replied (bridging.next_reply (session_at nth n) n) now nth n f) (lowering.replied offers takes less now nth n (session_at nth n) refl).idle
      (λ e. else_fine (bridging.give_message now nth) (or_else (serving.take_up now nth) (bridging.close_circuit now nth)) n
      (given now nth n f router (none_untold n.set told) (session_at nth n) refl) (lowering.given offers takes less now nth n (bridging.giving_circuit (session_at nth n) n)).idle
      (λ g. else_fine (serving.take_up now nth) (bridging.close_circuit now nth) n
      (taken_up reads now nth n f (λ peer e. text_is_short peer n.links short e) router (no_reply (bridging.next_reply (session_at nth n) n) now nth n e) (session_at nth n) refl) (falling.taken_up offers takes less (serving.stage_of (session_at nth n)) now nth n).idle
      (λ h. closes now nth n f (session_at nth n) refl)))

  each : (now nth k : ℕ) (n : State) → Fine n → IsShort n.links → at_router n ≡ 0 → links.pending n.set ≡ 0 → Fine (serving.serve_each now nth k n).after
  each now nth zero n f short router told = f
  each now nth (suc k) n f short router told =
      let m : State = (serving.serve_once now nth n).after in
      let dry = dried offers takes less now m in
      each now (suc nth) k (pump now m) (pumped now m (once now nth n f short router told)) (serve_on Goes (walks law).serves reads now nth n short) dry.router dry.pending

  greeted : (b : Bool) (peers : List Callsign) (ss : List Session) → Fewer ss (serving.greet_each b peers ss)
  greeted b [] ss = few_itself ss
  greeted b (peer ∷ peers) ss = then_fewer ss (serving.greet_link b peer ss) _ (by (serving.is_served_link peer ss)) (greeted b peers (serving.greet_link b peer ss))
    where
      by : (c : Bool) → Fewer ss (if c then ss else sessions.greet b (AtLink peer) ss)
      by true = few_itself ss
      by false = record { owned = λ id. let g = greets b id (AtLink peer) ss in omega (arith, g.owned); opens = λ id. let g = greets b id (AtLink peer) ss in omega (arith, g.opens); asked = λ id. (greets b id (AtLink peer) ss).asked }

  greeted_all : (P : Session → Type 0) → ((peer : Callsign) → P (sessions.new_session (AtLink peer))) → (b : Bool) (peers : List Callsign) (ss : List Session) → Every P ss → Every P (serving.greet_each b peers ss)
  greeted_all P new b [] ss e = e
  greeted_all P new b (peer ∷ peers) ss e = greeted_all P new b peers (serving.greet_link b peer ss) (by (serving.is_served_link peer ss) b)
    where
      by : (c d : Bool) → Every P (if c then ss else sessions.greet d (AtLink peer) ss)
      by true d = e
      by false true = push_every P ss (sessions.new_session (AtLink peer)) e (new peer)
      by false false = e

  pub sessions_fine : (now : ℕ) (n : State) → Fine n → IsShort n.links → at_router n ≡ 0 → links.pending n.set ≡ 0 → Fine (serving.serve_sessions now n).after
  unfolding serving.serve_sessions
  sessions_fine now n f short router told =
      let a : State = serving.greet_links n in
      let b : Bool = n.settings.prompt in
      let peers = links.text_peers n.links in
      let g = greeted b peers n.sessions in
      let sound = greeted_all Sound (λ peer. sound_new (AtLink peer)) b peers n.sessions f.1.0 in
      let given = greeted_all (Given n.set.set) (λ peer. given_new n.set.set (AtLink peer) (λ id e. absurd (cc e))) b peers n.sessions f.1.1.0 in
      let wrote = greeted_all (Written n.set.set) (λ peer. written_new n.set.set (AtLink peer)) b peers n.sessions f.1.1.1 in
      let c : State = (serving.serve_all now a).after in
      let fine = each now 0 (length a.sessions) a (owns_fewer n.set.set n.set.untold n.sessions a.sessions f.0 g, (sound, (given, wrote))) short router told in
      let test = λ (x : Session). not (serving.is_over c x) in (
        owns_fewer c.set.set c.set.untold c.sessions (filter test c.sessions) fine.0 (record { owned = λ id. filter_less (owned_by id) test c.sessions; opens = λ id. filter_less (opens_by id) test c.sessions; asked = λ id. filter_less (asked_by id) test c.sessions }),
        (filter_every Sound test c.sessions fine.1.0, (filter_every (Given c.set.set) test c.sessions fine.1.1.0, filter_every (Written c.set.set) test c.sessions fine.1.1.1)),
      )
