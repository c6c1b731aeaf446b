-- What the ends of a run have written grows by the writes there, and by nothing else.
use Rattle.std.specs.Prelude.{◌≡◌, ℕ, ◌⊎◌, Bool, true, false, nat_eq, if◌then◌else◌, List, [], ◌∷◌, ◌++◌, slice_get, slice_set, Option, Some, None, refl}
use Rattle.std.proofs.Common.{sym, ◌∙◌, ap, subst, inl, inr, arith, append-nil}
use Rattle.std.proofs.lemmas.Bool.Decides.{nat_tests}
use Rattle.ax_address.specs.Callsign.{Callsign}
use Rattle.circuit_l4.specs.declared.role.Role.{Role}
use Rattle.circuit_l4.specs.declared.pair.Pair.{Pair}
use Rattle.circuit_l4.specs.Laws.{Accepts, Asks, IsNew, WroteByWrites, written_by}
use Rattle.circuit_l4.specs.State.{Effect, State}
use Rattle.circuit_l4.specs.Table.{Arrive}
use Rattle.circuit_set.specs.Books.{Book, with_events}
use Rattle.circuit_table.specs.Events.{Name}
use Rattle.circuit_set.specs.NotedRuns.{Net, begins, end_at, net_run, net_step}
use Rattle.circuit_table.specs.Givings.{IsUp}
use Rattle.circuit_table.specs.Runs.{Step, end_in, events_at, sets_at, told_at}
use Rattle.circuit_table.specs.Sets.{Act, Call, Calls, Comes, Connect, ConnectFor, Discard, Restart, Holder, SetDone, SetState, end_of, holder_of, input_of, is_over, makes_end, after_restart, set_step, with_end}
use Rattle.circuit_set.specs.Writings.{EndsWroteByWrites, act_writes, called_writes, step_writes, wrote_of}
use Rattle.circuit_set.proofs.Acts.{set_self}
use Rattle.circuit_set.proofs.Cases.{Idle, MadeBy, MovedBy, NoCall, asked_quiet, step_every}
use Rattle.circuit_set.proofs.Given.{Numbers, none_of, one}
use Rattle.circuit_set.proofs.Moved.{same_or}
use Rattle.circuit_set.proofs.Retries.{Both, start_lives, step_lives}
use Rattle.circuit_set.proofs.Stepped as stepped

-- ---- what isn't written ----
none_if : (b : Bool) (ws : List (List ℕ)) → ws ≡ [] → (if b then ws else []) ≡ []
none_if true ws e = e
none_if false ws e = refl

no_call_none : (a : Act) (b : Bool) (m : ℕ) (o : Option Holder) → NoCall a → (if b then act_writes a m o else []) ≡ []
no_call_none (Calls id call now) b m o none = absurd none
no_call_none (Comes d now) b m o none = none_if b [] refl
no_call_none (Connect dest now) b m o none = none_if b [] refl
no_call_none (ConnectFor user dest now) b m o none = none_if b [] refl
no_call_none (Discard id) b m o none = none_if b [] refl
no_call_none (Restart pair more) b m o none = none_if b [] refl

made_no_call : (s : SetState) (a : Act) (at : Callsign) (role : Role) (asked : Option Pair) (request : Option (List ℕ)) → MadeBy s a at role asked request → NoCall a
made_no_call s a at role None None b = asked_quiet s a b.0 at b.1
made_no_call s a at role (Some p) (Some d) b = subst NoCall (sym b.0.comer.came) tt
made_no_call s a at role None (Some d) b = absurd b
made_no_call s a at role (Some p) None b = absurd b

-- an end that is made has written nothing
new_wrote : (g : Effect) → IsNew g → g.end.sending.wrote ≡ []
new_wrote _ (Asks pair user node config now) = refl
new_wrote _ (Accepts pair partner proposed config now) = refl

gone_none : (call : Call) (o : Option Holder) → ((h : Holder) → o ≡ Some h → h.gone ≡ true) → called_writes call o ≡ []
gone_none call None gone = refl
gone_none call (Some h) gone = rw (gone h refl) refl

name_of : (n i m j : ℕ) → n ≡ m → i ≡ j → (let x : Name = record { node = n; id = i } in let z : Name = record { node = m; id = j } in x ≡ z)
name_of n i m j e f = ap (λ k. (let x : Name = record { node = k; id = i } in x)) e ∙ ap (λ k. (let x : Name = record { node = m; id = k } in x)) f

module _ (law : WroteByWrites) (net : Net) (n : ℕ) (s : SetState) (here : slice_get net.sets n ≡ Some s) (nums : Numbers s) where
  abbrev step_of : Act → Step
  step_of a = record { node = n; act = a }

  -- what has been written at this name grows so
  abbrev Grows : Act → Net → Name → Type 0
  Grows a new z = wrote_of (end_at new z) ≡ wrote_of (end_at net z) ++ step_writes net (step_of a) z

  abbrev P : Act → SetDone → Type 0
  P a done = (z : Name) → Grows a (record { sets = slice_set net.sets n done.set; book = with_events net.book (events_at n s.own done.told) }) z

  same_at : (a : Act) (new : Net) (z : Name) → wrote_of (end_at new z) ≡ wrote_of (end_at net z) → step_writes net (step_of a) z ≡ [] → Grows a new z
  same_at a new z e none = e ∙ sym (append-nil (wrote_of (end_at net z))) ∙ ap (λ ws. wrote_of (end_at net z) ++ ws) (sym none)

  end_is : (z : Name) → n ≡ z.node → end_at net z ≡ end_of z.id s.ends
  end_is z e = ap (λ m. end_in (slice_get net.sets m) z.id) (sym e) ∙ ap (λ o. end_in o z.id) here

  -- ---- no end ----
  idle_id : (id : ℕ) (call : Call) (z : Name) (b : Bool) → nat_eq id z.id ≡ b → n ≡ z.node → ((h : Holder) → end_of id s.ends ≡ Some h → h.gone ≡ true) → (if b then called_writes call (end_at net z) else []) ≡ []
  idle_id id call z true e at gone =
      let same : id ≡ z.id = grind (arith, nat_tests) in
      gone_none call (end_at net z) (λ h q. gone h (ap (λ i. end_of i s.ends) same ∙ sym (end_is z at) ∙ q))
  idle_id id call z false e at gone = refl

  idle_node : (id : ℕ) (call : Call) (z : Name) (b : Bool) → nat_eq n z.node ≡ b → ((h : Holder) → end_of id s.ends ≡ Some h → h.gone ≡ true)
      → (if b then (if nat_eq id z.id then called_writes call (end_at net z) else []) else []) ≡ []
  idle_node id call z true e gone = idle_id id call z (nat_eq id z.id) refl (grind (arith, nat_tests)) gone
  idle_node id call z false e gone = refl

  idle_none : (a : Act) (z : Name) → Idle s a → step_writes net (step_of a) z ≡ []
  idle_none (Calls id call now) z idle = idle_node id call z (nat_eq n z.node) refl idle
  idle_none (Comes d now) z idle = none_if (nat_eq n z.node) [] refl
  idle_none (Connect dest now) z idle = none_if (nat_eq n z.node) [] refl
  idle_none (ConnectFor user dest now) z idle = none_if (nat_eq n z.node) [] refl
  idle_none (Discard id) z idle = none_if (nat_eq n z.node) [] refl
  idle_none (Restart pair more) z idle = none_if (nat_eq n z.node) [] refl

  stays : (a : Act) (c : Book) (z : Name) → step_writes net (step_of a) z ≡ [] → Grows a (record { sets = slice_set net.sets n s; book = c }) z
  stays a c z none = same_at a (record { sets = slice_set net.sets n s; book = c }) z (ap (λ ss. wrote_of (end_in (slice_get ss z.node) z.id)) (set_self net.sets n s here)) none

  -- ---- an end that was there ----
  module _ (a : Act) (h : Holder) (g : Effect) (by : MovedBy a h g) where
    abbrev x : Name
    x = record { node = n; id = h.id }

    apart_case : (id : ℕ) (z : Name) (ws : List (List ℕ)) (b c : Bool) → nat_eq n z.node ≡ b → nat_eq id z.id ≡ c → id ≡ h.id → (x ≡ z → ⊥) → (if b then (if c then ws else []) else []) ≡ []
    apart_case id z ws true true e f i far =
        let node : n ≡ z.node = grind (arith, nat_tests) in
        let number : id ≡ z.id = grind (arith, nat_tests) in
        absurd (far (name_of n h.id z.node z.id node (sym i ∙ number)))
    apart_case id z ws true false e f i far = refl
    apart_case id z ws false c e f i far = refl

    -- nothing is written at another end
    apart_none : (b : Act) → MovedBy b h g → (z : Name) → (x ≡ z → ⊥) → step_writes net (step_of b) z ≡ []
    apart_none (Calls id call now) m z far = apart_case id z (called_writes call (end_at net z)) (nat_eq n z.node) (nat_eq id z.id) refl refl m.0 far
    apart_none (Comes d now) m z far = none_if (nat_eq n z.node) [] refl
    apart_none (Connect dest now) m z far = absurd m
    apart_none (ConnectFor user dest now) m z far = absurd m
    apart_none (Discard id) m z far = absurd m
    apart_none (Restart pair more) m z far = absurd m

    -- what is written at this one
    wrote_here : (b : Act) → MovedBy b h g → (o : Option Holder) → o ≡ Some h → h.gone ≡ false → g.end.sending.wrote ≡ h.end.sending.wrote ++ act_writes b h.id o
    wrote_here (Calls id call now) m o e held =
        let test : nat_eq id h.id ≡ true = (let same : id ≡ h.id = m.0 in grind (arith, nat_tests)) in
        let here_writes : called_writes call (Some h) ≡ written_by h.end (input_of call) = rw held refl in
        let there : called_writes call o ≡ written_by h.end (input_of call) = ap (called_writes call) e ∙ here_writes in
        let all : (if nat_eq id h.id then called_writes call o else []) ≡ written_by h.end (input_of call) = ap (λ b. if b then called_writes call o else []) test ∙ there in
        ap (λ (k : Effect). k.end.sending.wrote) m.1 ∙ law h.end (input_of call) now ∙ ap (λ ws. h.end.sending.wrote ++ ws) (sym all)
    wrote_here (Comes d now) (inl came) o e held = ap (λ (k : Effect). k.end.sending.wrote) came.1 ∙ law h.end (Arrive came.0) now
    wrote_here (Comes d now) (inr still) o e held = ap (λ (k : State). k.sending.wrote) still.0 ∙ sym (append-nil h.end.sending.wrote)
    wrote_here (Connect dest now) m o e held = absurd m
    wrote_here (ConnectFor user dest now) m o e held = absurd m
    wrote_here (Discard id) m o e held = absurd m
    wrote_here (Restart pair more) m o e held = absurd m

    module _ (over : Bool) (c : Book) (there : end_of h.id s.ends ≡ Some h) (held : h.gone ≡ false) where
      abbrev to : Holder
      to = record { id = h.id; at = h.at; asked = h.asked; end = g.end; gone = over }

      abbrev new : Net
      new = record { sets = slice_set net.sets n (record s { ends = with_end to s.ends }); book = c }

      here_grows : Grows a new x
      here_grows =
          let test : nat_eq n n ≡ true = grind (arith, nat_tests) in
          let before : end_at net x ≡ Some h = stepped.end_then net n s here h g.end over c there in
          ap wrote_of (stepped.end_now net n s here h g.end over c there) ∙ wrote_here a by (end_at net x) before held
          ∙ ap (λ ws. ws ++ act_writes a h.id (end_at net x)) (sym (ap wrote_of before))
          ∙ ap (λ b. wrote_of (end_at net x) ++ (if b then act_writes a h.id (end_at net x) else [])) (sym test)

      either : (z : Name) → (x ≡ z) ⊎ (x ≡ z → ⊥) → Grows a new z
      either z (inl same) = subst (Grows a new) same here_grows
      either z (inr far) = same_at a new z (ap wrote_of (stepped.end_beside net n s here h g.end over c there z far)) (apart_none a by z far)

      moved : (z : Name) → Grows a new z
      moved z = either z (same_or x z)

  left : (a : Act) (h : Holder) (c : Book) → end_of h.id s.ends ≡ Some h → NoCall a → (z : Name)
      → (let w : Name = record { node = n; id = h.id } in (w ≡ z) ⊎ (w ≡ z → ⊥))
      → Grows a (record { sets = slice_set net.sets n (record s { ends = with_end (record h { gone = true }) s.ends }); book = c }) z
  left a h c there none z (inl same) =
      let new : Net = record { sets = slice_set net.sets n (record s { ends = with_end (record h { gone = true }) s.ends }); book = c } in
      let x : Name = record { node = n; id = h.id } in
      subst (Grows a new) same
      (same_at a new x (ap wrote_of (stepped.end_now net n s here h h.end true c there) ∙ sym (ap wrote_of (stepped.end_then net n s here h h.end true c there))) (no_call_none a (nat_eq n x.node) x.id (end_at net x) none))
  left a h c there none z (inr far) =
      let new : Net = record { sets = slice_set net.sets n (record s { ends = with_end (record h { gone = true }) s.ends }); book = c } in
      same_at a new z (ap wrote_of (stepped.end_beside net n s here h h.end true c there z far)) (no_call_none a (nat_eq n z.node) z.id (end_at net z) none)

  -- ---- a new end ----
  module _ (a : Act) (at : Callsign) (asked : Option Pair) (request : Option (List ℕ)) (g : Effect) (c : Book) (born : IsNew g) (none : NoCall a) where
    abbrev y : Name
    y = record { node = n; id = s.number }

    abbrev t : SetState
    t = (makes_end s at asked request g).set

    abbrev after : Net
    after = record { sets = slice_set net.sets n t; book = c }

    none_yet : end_of s.number s.ends ≡ None
    none_yet = none_of s.number s.ends nums.below

    made_case : (z : Name) → (y ≡ z) ⊎ (y ≡ z → ⊥) → Grows a after z
    made_case z (inl same) =
        subst (Grows a after) same
        (same_at a after y
        (ap wrote_of (stepped.end_here net n s here t (holder_of s at asked g) c refl refl none_yet) ∙ new_wrote g born ∙ sym (ap wrote_of (stepped.no_end net n s here t (holder_of s at asked g) c refl refl none_yet)))
        (no_call_none a (nat_eq n y.node) y.id (end_at net y) none))
    made_case z (inr far) =
        same_at a after z (ap wrote_of (stepped.end_other net n s here t (holder_of s at asked g) c refl refl none_yet z far)) (no_call_none a (nat_eq n z.node) z.id (end_at net z) none)

  -- ---- the node starts again ----
  module _ (pair : Pair) (more : ℕ) (c : Book) where
    abbrev again : Net
    again = record { sets = slice_set net.sets n (after_restart s pair more).set; book = c }

    lost_none : (z : Name) (o : Option Holder) → end_at net z ≡ None → end_at again z ≡ o → wrote_of o ≡ []
    lost_none z None e q = refl
    lost_none z (Some k) e q = let r = stepped.was_lost net n s here pair more c z k (nat_eq z.node n) refl q in let bad : None ≡ Some r.0 = sym e ∙ r.1 in absurd (cc bad)

    lost_case : (z : Name) (o : Option Holder) → end_at net z ≡ o → wrote_of (end_at again z) ≡ wrote_of o
    lost_case z None e = lost_none z (end_at again z) e refl
    lost_case z (Some j) e = ap wrote_of (stepped.is_lost_now net n s here pair more c z j (nat_eq z.node n) refl e).1

  restarts : (pair : Pair) (more : ℕ) → P (Restart pair more) (after_restart s pair more)
  restarts pair more z = same_at (Restart pair more) (again pair more net.book) z (lost_case pair more net.book z (end_at net z) refl) (none_if (nat_eq n z.node) [] refl)

  up_grows : (a : Act) → IsUp a → P a (set_step s a)
  up_grows a up =
      step_every s (one s nums) a (P a) (record {
        rests = λ idle z. stays a net.book z (idle_none a z idle);
        refuses = λ at pair call none z. stays a net.book z (no_call_none a (nat_eq n z.node) z.id (end_at net z) none);
        moves = λ h heeded d g there held same ends says lives asks by z. moved a h g by (is_over g.end) net.book there held z;
        leaves = λ h there held ended none z. left a h net.book there none z (same_or (record { node = n; id = h.id }) z);
        makes = λ at asked request g fresh by asks z.
            made_case a at asked request g net.book fresh.born (made_no_call s a at g.end.role asked request by) z (same_or (record { node = n; id = s.number }) z);
      }) up

  act_grows : (a : Act) → P a (set_step s a)
  act_grows (Connect dest now) = up_grows (Connect dest now) tt
  act_grows (ConnectFor user dest now) = up_grows (ConnectFor user dest now) tt
  act_grows (Comes d now) = up_grows (Comes d now) tt
  act_grows (Calls id call now) = up_grows (Calls id call now) tt
  act_grows (Discard id) = up_grows (Discard id) tt
  act_grows (Restart pair more) = restarts pair more

-- ---- a run ----
-- a step at a node that isn't there
absent_call : (call : Call) (o : Option Holder) (b : Bool) → o ≡ None → (if b then called_writes call o else []) ≡ []
absent_call call o true e = ap (called_writes call) e
absent_call call o false e = refl

absent_act : (a : Act) (id : ℕ) (o : Option Holder) → o ≡ None → act_writes a id o ≡ []
absent_act (Calls i call now) id o e = absent_call call o (nat_eq i id) e
absent_act (Comes d now) id o e = refl
absent_act (Connect dest now) id o e = refl
absent_act (ConnectFor user dest now) id o e = refl
absent_act (Discard i) id o e = refl
absent_act (Restart pair more) id o e = refl

absent_at : (net : Net) (st : Step) (z : Name) (b : Bool) → nat_eq st.node z.node ≡ b → slice_get net.sets st.node ≡ None → (if b then act_writes st.act z.id (end_at net z) else []) ≡ []
absent_at net st z true e none =
    let same : z.node ≡ st.node = grind (arith, nat_tests) in
    absent_act st.act z.id (end_at net z) (ap (λ m. end_in (slice_get net.sets m) z.id) same ∙ ap (λ o. end_in o z.id) none)
absent_at net st z false e none = refl

step_grows : WroteByWrites → (net : Net) → Both net → (st : Step) (z : Name) (o : Option SetState) → slice_get net.sets st.node ≡ o
    → wrote_of (end_at (record { sets = sets_at net.sets st.node o st.act; book = with_events net.book (told_at net.sets st.node o st.act) }) z) ≡ wrote_of (end_at net z) ++ step_writes net st z
step_grows law net both st z None e = sym (append-nil (wrote_of (end_at net z))) ∙ ap (λ ws. wrote_of (end_at net z) ++ ws) (sym (absent_at net st z (nat_eq st.node z.node) refl e))
step_grows law net both st z (Some s) e = act_grows law net st.node s e (both.0 st.node s e) st.act z

pub run_lives : (net : Net) (steps : List Step) → Both net → Both (net_run net steps)
run_lives net [] both = both
run_lives net (st ∷ sts) both = run_lives (net_step net st) sts (step_lives net st (slice_get net.sets st.node) both refl)

pub ends_wrote_by_writes : WroteByWrites → EndsWroteByWrites
ends_wrote_by_writes law sets starts steps st x =
    let net : Net = net_run (begins sets) steps in
    step_grows law net (run_lives (begins sets) steps (start_lives sets starts)) st x (slice_get net.sets st.node) refl
