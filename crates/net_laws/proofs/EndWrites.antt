-- What the ends of a network's circuits have written, step by step, was written in the run of mail.
use Rattle.std.proofs.Common.{◌≡◌, ◌∙◌, ℕ, refl, sym, ap, subst, arith, List, [], ◌∷◌, ◌++◌, append_assoc, append-nil, Bool, true, false, cond}
use Rattle.std.specs.Prelude.{nat_eq, slice_get, Option, Some, None, is_ok}
use Rattle.std.specs.List.{AllByRecursion}
use Rattle.std.proofs.lemmas.Bool.Decides.{nat_tests}
use Rattle.ax_address.specs.Callsign.{Callsign}
use Rattle.circuit_l4.specs.Table.{write_answer}
use Rattle.circuit_table.specs.Events.{Name}
use Rattle.circuit_set.specs.Facing.{EndsStay}
use Rattle.circuit_set.specs.NotedRuns.{Net, begins, end_at, net_run, net_step}
use Rattle.circuit_table.specs.Runs.{AreStarts, Step, end_named, sets_run}
use Rattle.circuit_table.specs.Sets.{Act, Calls, Closes, Comes, Connect, ConnectFor, Discard, Restart, Takes, Ticks, Writes, Holder, SetState}
use Rattle.circuit_set.specs.Writings.{EndsWroteByWrites, act_writes, called_writes, step_writes, wrote_of}
use Rattle.network_file.specs.declared.plan.declarations.Declaration.{Declaration}
use Rattle.node_core.specs.Runs.{steps_at, writes_in}
use Rattle.node_mail.specs.Runs.{MailRun, Written, with_written}
use Rattle.net_laws.proofs.Lists.{both, every}
use Rattle.net_laws.proofs.MailRuns.{IsWritten, Reached, message, said, written_last, written_more}

-- ---- runs with notes, of which the notes don't matter here

pub run_sets : (net : Net) (steps : List Step) → (net_run net steps).sets ≡ sets_run net.sets steps
run_sets net [] = refl
run_sets net (st ∷ sts) = run_sets (net_step net st) sts

net_append : (xs ys : List Step) (net : Net) → net_run net (xs ++ ys) ≡ net_run (net_run net xs) ys
net_append [] ys net = refl
net_append (x ∷ xs) ys net = net_append xs ys (net_step net x)

-- one end is held under a name
pub same_end : {h k : Holder} (o : Option Holder) → o ≡ Some h → o ≡ Some k → h ≡ k
same_end {h} {k} o e f = let two : Some h ≡ Some k = sym e ∙ f in cc two

-- ---- of a list of acts: they write nothing, or this message at this end alone

abbrev pub IsSilent : Act → Type 0
IsSilent (Calls id (Writes message) now) = ⊥
IsSilent _ = Unit {0}

abbrev pub WritesOnly : ℕ → List ℕ → Act → Type 0
WritesOnly id message (Calls i (Writes m) now) = (i ≡ id) × (m ≡ message)
WritesOnly id message _ = Unit {0}

pub are_silent : (acts : List Act) → writes_in acts ≡ [] → AllByRecursion IsSilent acts
are_silent [] e = tt
are_silent (Calls id (Writes message) now ∷ acts) e = absurd (cc e)
are_silent (Calls id Ticks now ∷ acts) e = (tt, are_silent acts e)
are_silent (Calls id Closes now ∷ acts) e = (tt, are_silent acts e)
are_silent (Calls id Takes now ∷ acts) e = (tt, are_silent acts e)
are_silent (Connect dest now ∷ acts) e = (tt, are_silent acts e)
are_silent (ConnectFor user dest now ∷ acts) e = (tt, are_silent acts e)
are_silent (Comes datagram now ∷ acts) e = (tt, are_silent acts e)
are_silent (Discard id ∷ acts) e = (tt, are_silent acts e)
are_silent (Restart pair more ∷ acts) e = (tt, are_silent acts e)

silent_only : (id : ℕ) (message : List ℕ) (a : Act) → IsSilent a → WritesOnly id message a
silent_only id message (Calls i (Writes m) now) s = absurd s
silent_only id message (Calls i Ticks now) s = tt
silent_only id message (Calls i Closes now) s = tt
silent_only id message (Calls i Takes now) s = tt
silent_only id message (Connect dest now) s = tt
silent_only id message (ConnectFor user dest now) s = tt
silent_only id message (Comes datagram now) s = tt
silent_only id message (Discard i) s = tt
silent_only id message (Restart pair more) s = tt

pub none_only : (id : ℕ) (message : List ℕ) (acts : List Act) → writes_in acts ≡ [] → AllByRecursion (WritesOnly id message) acts
none_only id message acts e = every IsSilent (WritesOnly id message) (silent_only id message) acts (are_silent acts e)

pub one_only : (id now : ℕ) (message : List ℕ) (acts : List Act) → writes_in acts ≡ Calls id (Writes message) now ∷ [] → AllByRecursion (WritesOnly id message) acts
one_only id now message [] e = absurd (cc e)
one_only id now message (Calls i (Writes m) moment ∷ acts) e =
    let first : Calls i (Writes m) moment ≡ Calls id (Writes message) now = cc e in
    let rest : writes_in acts ≡ [] = cc e in
    let number : i ≡ id = cc first in
    let text : m ≡ message = cc first in
    ((number, text), none_only id message acts rest)
one_only id now message (Calls i Ticks moment ∷ acts) e = (tt, one_only id now message acts e)
one_only id now message (Calls i Closes moment ∷ acts) e = (tt, one_only id now message acts e)
one_only id now message (Calls i Takes moment ∷ acts) e = (tt, one_only id now message acts e)
one_only id now message (Connect dest moment ∷ acts) e = (tt, one_only id now message acts e)
one_only id now message (ConnectFor user dest moment ∷ acts) e = (tt, one_only id now message acts e)
one_only id now message (Comes datagram moment ∷ acts) e = (tt, one_only id now message acts e)
one_only id now message (Discard i ∷ acts) e = (tt, one_only id now message acts e)
one_only id now message (Restart pair more ∷ acts) e = (tt, one_only id now message acts e)

-- ---- runs from these sets, at nodes that were declared so
module _ (wrote_law : EndsWroteByWrites) (stay : EndsStay) (first : List SetState) (starts : AreStarts first) (ds : List Declaration) where
  abbrev step : ℕ → Act → Step
  step n a = record { node = n; act = a }

  at_now : (steps : List Step) (x : Name) → end_named (sets_run first steps) x ≡ end_at (net_run (begins first) steps) x
  at_now steps x = ap (λ ss. end_named ss x) (sym (run_sets (begins first) steps))

  at_then : (steps : List Step) (st : Step) (x : Name) → end_named (sets_run first (steps ++ st ∷ [])) x ≡ end_at (net_step (net_run (begins first) steps) st) x
  at_then steps st x =
      ap (λ ss. end_named ss x) (sym (run_sets (begins first) (steps ++ st ∷ [])) ∙ ap (λ (net : Net). net.sets) (net_append steps (st ∷ []) (begins first)))

  pub stays : (steps : List Step) (st : Step) (x : Name) (h : Holder) → end_named (sets_run first steps) x ≡ Some h
      → (k : Holder) × (end_named (sets_run first (steps ++ st ∷ [])) x ≡ Some k) × (k.at ≡ h.at)
  stays steps st x h e = let r = stay first starts steps st x h (sym (at_now steps x) ∙ e) in (r.0, at_then steps st x ∙ r.1, r.2)

  grows : (steps : List Step) (st : Step) (x : Name)
      → wrote_of (end_named (sets_run first (steps ++ st ∷ [])) x) ≡ wrote_of (end_named (sets_run first steps) x) ++ step_writes (net_run (begins first) steps) st x
  grows steps st x =
      let net : Net = net_run (begins first) steps in
      ap wrote_of (at_then steps st x) ∙ (wrote_law first starts steps st x ∙ ap (λ o. wrote_of o ++ step_writes net st x) (sym (at_now steps x)))

  -- each message that an end has written was written in the run of mail, to the node of the end's partner
  abbrev pub Wrote : List Written → List Step → Type 0
  Wrote ws steps =
      (x : Name) (d : Declaration) (h : Holder) → slice_get ds x.node ≡ Some d → end_named (sets_run first steps) x ≡ Some h → AllByRecursion (IsWritten ws d.call h.at) h.end.sending.wrote

  pub wrote_more : (ws vs : List Written) (steps : List Step) → Wrote ws steps → Wrote (ws ++ vs) steps
  wrote_more ws vs steps w x d h here there =
      every (IsWritten ws d.call h.at) (IsWritten (ws ++ vs) d.call h.at) (λ m. written_more ws vs d.call h.at m) h.end.sending.wrote (w x d h here there)

  -- what an act at a node writes was
  abbrev pub IsKnown : List Written → List Step → ℕ → Act → Type 0
  IsKnown ws steps n (Calls id (Writes message) now) =
      (d : Declaration) (h : Holder) → slice_get ds n ≡ Some d → end_named (sets_run first steps) (record { node = n; id = id }) ≡ Some h → IsWritten ws d.call h.at message
  IsKnown ws steps n _ = Unit {0}

  -- ---- one step

  module _ (P : List ℕ → Type 0) where
    pick : (b : Bool) (xs ys : List (List ℕ)) → AllByRecursion P xs → AllByRecursion P ys → AllByRecursion P (cond b xs ys)
    pick true xs ys p q = p
    pick false xs ys p q = q

    -- nothing is written where there is no end
    none_written : (a : Act) (id : ℕ) → AllByRecursion P (act_writes a id None)
    none_written (Calls i call now) id = pick (nat_eq i id) [] [] tt tt
    none_written (Comes datagram now) id = tt
    none_written (Connect dest now) id = tt
    none_written (ConnectFor user dest now) id = tt
    none_written (Discard i) id = tt
    none_written (Restart pair more) id = tt

    none_at : (n : ℕ) (a : Act) (x : Name) (o : Option Holder) → o ≡ None → AllByRecursion P (cond (nat_eq n x.node) (act_writes a x.id o) [])
    none_at n a x o e = subst (λ p. AllByRecursion P (cond (nat_eq n x.node) (act_writes a x.id p) [])) (sym e) (pick (nat_eq n x.node) (act_writes a x.id None) [] (none_written a x.id) tt)

  module _ (ws : List Written) (steps : List Step) (x : Name) (d : Declaration) (h : Holder) (here : slice_get ds x.node ≡ Some d) (there : end_named (sets_run first steps) x ≡ Some h) where
    abbrev Q : List ℕ → Type 0
    Q m = IsWritten ws d.call h.at m

    write_known : (id : ℕ) (m : List ℕ) (b : Bool) → nat_eq id x.id ≡ b
        → ((e : Declaration) (k : Holder) → slice_get ds x.node ≡ Some e → end_named (sets_run first steps) (record { node = x.node; id = id }) ≡ Some k → IsWritten ws e.call k.at m)
        → AllByRecursion Q (cond b (called_writes (Writes m) (Some h)) [])
    write_known id m true e known =
        let same : id ≡ x.id = grind (arith, nat_tests) in
        let mine : Q m = known d h here (subst (λ i. end_named (sets_run first steps) (record { node = x.node; id = i }) ≡ Some h) (sym same) there) in
        pick Q h.gone [] (cond (is_ok (write_answer h.end m)) (m ∷ []) []) tt (pick Q (is_ok (write_answer h.end m)) (m ∷ []) [] (mine, tt) tt)
    write_known id m false e known = tt

    act_known : (a : Act) → IsKnown ws steps x.node a → AllByRecursion Q (act_writes a x.id (Some h))
    act_known (Calls id (Writes m) now) known = write_known id m (nat_eq id x.id) refl known
    act_known (Calls id Ticks now) known = pick Q (nat_eq id x.id) (cond h.gone [] []) [] (pick Q h.gone [] [] tt tt) tt
    act_known (Calls id Closes now) known = pick Q (nat_eq id x.id) (cond h.gone [] []) [] (pick Q h.gone [] [] tt tt) tt
    act_known (Calls id Takes now) known = pick Q (nat_eq id x.id) (cond h.gone [] []) [] (pick Q h.gone [] [] tt tt) tt
    act_known (Comes datagram now) known = tt
    act_known (Connect dest now) known = tt
    act_known (ConnectFor user dest now) known = tt
    act_known (Discard id) known = tt
    act_known (Restart pair more) known = tt

    at_known : (n : ℕ) (a : Act) (b : Bool) → nat_eq n x.node ≡ b → IsKnown ws steps n a → AllByRecursion Q (cond b (act_writes a x.id (Some h)) [])
    at_known n a true e known = let same : n ≡ x.node = grind (arith, nat_tests) in act_known a (subst (λ m. IsKnown ws steps m a) same known)
    at_known n a false e known = tt

  step_wrote : (ws : List Written) (steps : List Step) (n : ℕ) (a : Act) → IsKnown ws steps n a → Wrote ws steps → Wrote ws (steps ++ step n a ∷ [])
  step_wrote ws steps n a known w x d k here there = by (end_named (sets_run first steps) x) refl
    where
      is : (o : Option Holder) → end_named (sets_run first steps) x ≡ o → k.end.sending.wrote ≡ wrote_of o ++ cond (nat_eq n x.node) (act_writes a x.id o) []
      is o e =
          sym (ap wrote_of there) ∙ (grows steps (step n a) x
          ∙ (ap (λ p. wrote_of p ++ step_writes (net_run (begins first) steps) (step n a) x) e
          ∙ ap (λ p. wrote_of o ++ cond (nat_eq n x.node) (act_writes a x.id p) []) (sym (at_now steps x) ∙ e)))

      by : (o : Option Holder) → end_named (sets_run first steps) x ≡ o → AllByRecursion (IsWritten ws d.call k.at) k.end.sending.wrote
      by None e = subst (AllByRecursion (IsWritten ws d.call k.at)) (sym (is None e)) (none_at (IsWritten ws d.call k.at) n a x None refl)
      by (Some h) e =
          let r = stays steps (step n a) x h e in
          let same : r.0 ≡ k = same_end (end_named (sets_run first (steps ++ step n a ∷ [])) x) r.1 there in
          let at : h.at ≡ k.at = sym r.2 ∙ ap (λ (i : Holder). i.at) same in
          let all : AllByRecursion (IsWritten ws d.call h.at) (h.end.sending.wrote ++ cond (nat_eq n x.node) (act_writes a x.id (Some h)) []) =
          both (IsWritten ws d.call h.at) h.end.sending.wrote (cond (nat_eq n x.node) (act_writes a x.id (Some h)) []) (w x d h here e) (at_known ws steps x d h here e n a (nat_eq n x.node) refl known) in
          subst (λ to. AllByRecursion (IsWritten ws d.call to) k.end.sending.wrote) at (subst (AllByRecursion (IsWritten ws d.call h.at)) (sym (is (Some h) e)) all)

  -- ---- the acts of a node's input, of which each is known while J holds

  module _ (ws : List Written) (n : ℕ) (J : List Step → Type 0) (K : Act → Type 0) (keeps : (steps : List Step) (st : Step) → J steps → J (steps ++ st ∷ []))
      (known : (steps : List Step) (a : Act) → J steps → K a → IsKnown ws steps n a) where
    walk : (acts : List Act) → AllByRecursion K acts → (steps : List Step) → J steps → Wrote ws steps → Wrote ws (steps ++ steps_at n acts)
    walk [] all steps j w = subst (Wrote ws) (sym (append-nil steps)) w
    walk (a ∷ acts) all steps j w =
        subst (Wrote ws) (append_assoc steps (step n a ∷ []) (steps_at n acts))
        (walk acts all.1 (steps ++ step n a ∷ []) (keeps steps (step n a) j) (step_wrote ws steps n a (known steps a j all.0) w))

  silent_known : (ws : List Written) (steps : List Step) (n : ℕ) (a : Act) → IsSilent a → IsKnown ws steps n a
  silent_known ws steps n (Calls id (Writes m) now) s = absurd s
  silent_known ws steps n (Calls id Ticks now) s = tt
  silent_known ws steps n (Calls id Closes now) s = tt
  silent_known ws steps n (Calls id Takes now) s = tt
  silent_known ws steps n (Comes datagram now) s = tt
  silent_known ws steps n (Connect dest now) s = tt
  silent_known ws steps n (ConnectFor user dest now) s = tt
  silent_known ws steps n (Discard id) s = tt
  silent_known ws steps n (Restart pair more) s = tt

  -- they write nothing
  pub silent_walk : (ws : List Written) (n : ℕ) (acts : List Act) → AllByRecursion IsSilent acts → (steps : List Step) → Wrote ws steps → Wrote ws (steps ++ steps_at n acts)
  silent_walk ws n acts all steps w = walk ws n (λ s. Unit {0}) IsSilent (λ s st j. tt) (λ s a j q. silent_known ws s n a q) acts all steps tt w

  -- the end of a node is there, and its partner's node has this call
  abbrev pub Leads_to : List Step → ℕ → ℕ → Callsign → Type 0
  Leads_to steps n id to = (h : Holder) × (end_named (sets_run first steps) (record { node = n; id = id }) ≡ Some h) × (h.at ≡ to)

  leads_on : (steps : List Step) (st : Step) (n id : ℕ) (to : Callsign) → Leads_to steps n id to → Leads_to (steps ++ st ∷ []) n id to
  leads_on steps st n id to l = let r = stays steps st (record { node = n; id = id }) l.0 l.1 in (r.0, r.1, r.2 ∙ l.2)

  pub leads_walk : (more steps : List Step) (n id : ℕ) (to : Callsign) → Leads_to steps n id to → Leads_to (steps ++ more) n id to
  leads_walk [] steps n id to l = subst (λ ss. Leads_to ss n id to) (sym (append-nil steps)) l
  leads_walk (st ∷ more) steps n id to l =
      subst (λ ss. Leads_to ss n id to) (append_assoc steps (st ∷ []) more) (leads_walk more (steps ++ st ∷ []) n id to (leads_on steps st n id to l))

  -- they write one message at an end, which was written in the run of mail
  only_known : (ws : List Written) (n id : ℕ) (m : List ℕ) (d : Declaration) (to : Callsign) → slice_get ds n ≡ Some d → IsWritten ws d.call to m
      → (steps : List Step) (a : Act) → Leads_to steps n id to → WritesOnly id m a → IsKnown ws steps n a
  only_known ws n id m d to here w steps (Calls i (Writes t) now) l o = λ e k f g.
      let same : e ≡ d = (let two : Some e ≡ Some d = sym f ∙ here in cc two) in
      let end : l.0 ≡ k = same_end (end_named (sets_run first steps) (record { node = n; id = id })) l.1 (subst (λ j. end_named (sets_run first steps) (record { node = n; id = j }) ≡ Some k) o.0 g) in
      let at : to ≡ k.at = sym l.2 ∙ ap (λ (h : Holder). h.at) end in
      subst (λ (c : Declaration). IsWritten ws c.call k.at t) (sym same) (subst (λ a. IsWritten ws d.call a t) at (subst (IsWritten ws d.call to) (sym o.1) w))
  only_known ws n id m d to here w steps (Calls i Ticks now) l o = tt
  only_known ws n id m d to here w steps (Calls i Closes now) l o = tt
  only_known ws n id m d to here w steps (Calls i Takes now) l o = tt
  only_known ws n id m d to here w steps (Comes datagram now) l o = tt
  only_known ws n id m d to here w steps (Connect dest now) l o = tt
  only_known ws n id m d to here w steps (ConnectFor user dest now) l o = tt
  only_known ws n id m d to here w steps (Discard i) l o = tt
  only_known ws n id m d to here w steps (Restart pair more) l o = tt

  pub only_walk : (ws : List Written) (n id : ℕ) (m : List ℕ) (d : Declaration) (to : Callsign) → slice_get ds n ≡ Some d → IsWritten ws d.call to m → (acts : List Act) → AllByRecursion (WritesOnly id m) acts
      → (steps : List Step) → Leads_to steps n id to → Wrote ws steps → Wrote ws (steps ++ steps_at n acts)
  only_walk ws n id m d to here w acts all steps l wrote =
      walk ws n (λ s. Leads_to s n id to) (WritesOnly id m) (λ s st j. leads_on s st n id to j) (λ s a j q. only_known ws n id m d to here w s a j q) acts all steps l wrote

  -- ---- a node without a store, whatever its acts write

  pub record Went (keeps : Callsign → Bool) (m : MailRun) (steps : List Step) : Type 0 where
    pub run : MailRun
    pub reached : Reached keeps run
    pub stores : run.store_of ≡ m.store_of
    pub wrote : Wrote run.written steps

  quiet_step : (keeps : Callsign → Bool) (m : MailRun) (steps : List Step) (n : ℕ) (a : Act) → IsKnown m.written steps n a → Reached keeps m → Wrote m.written steps → Went keeps m (steps ++ step n a ∷ [])
  quiet_step keeps m steps n a known r w = record { run = m; reached = r; stores = refl; wrote = step_wrote m.written steps n a known w }

  module _ (keeps : Callsign → Bool) (n : ℕ) (d : Declaration) (here : slice_get ds n ≡ Some d) where
    writes_step : (m : MailRun) (steps : List Step) (id now : ℕ) (text : List ℕ) (o : Option Holder) → end_named (sets_run first steps) (record { node = n; id = id }) ≡ o → m.store_of d.call ≡ None → Reached keeps m → Wrote m.written steps
        → Went keeps m (steps ++ step n (Calls id (Writes text) now) ∷ [])
    writes_step m steps id now text None e none r w =
        quiet_step keeps m steps n (Calls id (Writes text) now) (λ c k f g. (let bad : None ≡ Some k = sym e ∙ g in absurd (cc bad))) r w
    writes_step m steps id now text (Some h) e none r w =
        let v : MailRun = with_written m d.call h.at text in
        record {
          run = v;
          reached = said keeps m d.call h.at text none r;
          stores = refl;
          wrote = step_wrote v.written steps n (Calls id (Writes text) now)
              (λ c k f g. (let same : d ≡ c = (let two : Some d ≡ Some c = sym here ∙ f in cc two) in
              let end : h ≡ k = same_end (end_named (sets_run first steps) (record { node = n; id = id })) e g in
              subst (λ (c : Declaration). IsWritten v.written c.call k.at text) same (subst (λ (i : Holder). IsWritten v.written d.call i.at text) end (written_last m.written d.call h.at text))))
              (wrote_more m.written (message d.call h.at text ∷ []) steps w);
        }

    says_step : (m : MailRun) (steps : List Step) (a : Act) → m.store_of d.call ≡ None → Reached keeps m → Wrote m.written steps → Went keeps m (steps ++ step n a ∷ [])
    says_step m steps (Calls id (Writes text) now) none r w = writes_step m steps id now text (end_named (sets_run first steps) (record { node = n; id = id })) refl none r w
    says_step m steps (Calls id Ticks now) none r w = quiet_step keeps m steps n (Calls id Ticks now) tt r w
    says_step m steps (Calls id Closes now) none r w = quiet_step keeps m steps n (Calls id Closes now) tt r w
    says_step m steps (Calls id Takes now) none r w = quiet_step keeps m steps n (Calls id Takes now) tt r w
    says_step m steps (Comes datagram now) none r w = quiet_step keeps m steps n (Comes datagram now) tt r w
    says_step m steps (Connect dest now) none r w = quiet_step keeps m steps n (Connect dest now) tt r w
    says_step m steps (ConnectFor user dest now) none r w = quiet_step keeps m steps n (ConnectFor user dest now) tt r w
    says_step m steps (Discard id) none r w = quiet_step keeps m steps n (Discard id) tt r w
    says_step m steps (Restart pair more) none r w = quiet_step keeps m steps n (Restart pair more) tt r w

    pub says_walk : (acts : List Act) (m : MailRun) (steps : List Step) → m.store_of d.call ≡ None → Reached keeps m → Wrote m.written steps → Went keeps m (steps ++ steps_at n acts)
    says_walk [] m steps none r w = record { run = m; reached = r; stores = refl; wrote = subst (Wrote m.written) (sym (append-nil steps)) w }
    says_walk (a ∷ acts) m steps none r w =
        let one : Went keeps m (steps ++ step n a ∷ []) = says_step m steps a none r w in
        let rest : Went keeps one.run ((steps ++ step n a ∷ []) ++ steps_at n acts) = says_walk acts one.run (steps ++ step n a ∷ []) (ap (λ f. f d.call) one.stores ∙ none) one.reached one.wrote in
        record { run = rest.run; reached = rest.reached; stores = rest.stores ∙ one.stores; wrote = subst (Wrote rest.run.written) (append_assoc steps (step n a ∷ []) (steps_at n acts)) rest.wrote }
