-- What the nodes of a network keep of mail, and what their circuits' ends have written, is what a run of mail has come to: so it is kept by each move.
use Rattle.std.proofs.Common.{◌≡◌, ◌∙◌, ◌+◌, ℕ, zero, suc, refl, sym, ap, subst, arith, List, [], ◌∷◌, ◌++◌, append_assoc, append-nil, length, map, filter, Bool, true, false, cond, inl, inr}
use Rattle.std.specs.Prelude.{◌⊎◌, ◌&&◌, ◌==◌, nat_eq, slice_get, slice_set, Option, Some, None, is_some, Result, Ok, Err}
use Rattle.std.specs.List.{AllByRecursion}
use Rattle.radio_base.specs.declared.modulus.LinkModulus.{LinkModulus}
use Rattle.ax_address.specs.Callsign.{Callsign, same_call}
use Rattle.circuit_l4.specs.declared.pair.Pair.{Pair}
use Rattle.circuit_set.specs.Facing.{EndsStay}
use Rattle.circuit_table.specs.Pairs.{IsPair}
use Rattle.circuit_set.specs.Returning.{CallsDiffer}
use Rattle.circuit_table.specs.Runs.{AreStarts, AreSteps, Step, events_of}
use Rattle.circuit_table.specs.Sets as sets
use Rattle.circuit_table.specs.Sets.{Act, SetState, end_of}
use Rattle.circuit_table.specs.CircuitSets.{facts_at}
use Rattle.circuit_set.specs.TooLate.{AllowsByWindow, IsFresh, IsTimely}
use Rattle.circuit_set.specs.Writings.{EndsWroteByWrites}
use Rattle.link_table.specs.Calls as links
use Rattle.link_table.specs.declared.path_refusal.PathRefusal.{PathRefusal}
use Rattle.network_file.specs.declared.plan.declarations.Declaration.{Declaration}
use Rattle.network_file.specs.declared.plan.keys.Key.TheVariants.{Mail, Prompt}
use Rattle.network_file.specs.declared.plan.vias.Via.{Via}
use Rattle.network_file.specs.Plan.{Plan}
use Rattle.network_file.specs.Keys.{value_of}
use Rattle.node_core.specs.declared.acts.ActDone.{ActDone}
use Rattle.node_core.specs.declared.acts.ActRefusal.{ActRefusal}
use Rattle.node_core.specs.Configs.{new_node}
use Rattle.node_core.specs.Inputs.{act_answer, moment}
use Rattle.node_core.specs.Runs.{ActsRun, BytesRun, InputsAreSteps, IsUserAct, RunsBy, RunsOn, TicksRun, steps_at, user_writes, writes_in}
use Rattle.node_core.specs.Standing.{IsTold}
use Rattle.node_model.specs.States.{NodeState}
use Rattle.node_core.specs.Acts as acts
use Rattle.node_core.specs.Acts.{UserAct}
use Rattle.node_mail.specs.Lists.{Lists}
use Rattle.node_mail.specs.Runs.{MailRun, Written, with_store}
use Rattle.net_model.specs.SoundPlans.{first_sets, set_of}
use Rattle.net_model.specs.Ends.{ends_of}
use Rattle.net_model.specs.Events.{Event}
use Rattle.net_model.specs.Lines.{restart}
use Rattle.net_model.specs.Mailing.{mail_at, mail_in, with_mail}
use Rattle.net_model.specs.Starting.{Placed, by_number, new_nodes, new_placed, started}
use Rattle.node_settings.specs.Settings.{config_of, is_via_of, path_of, with_via, with_via_by, with_vias}
use Rattle.net_model.specs.World as worlds
use Rattle.net_model.specs.World.{Bytes, Input, Time, World, after, all_fetched_of, all_told, place_of_node, put, reach, tell, tells_entries}
use Rattle.net_model.proofs.Containing.{AreApart, Contains, IsQuiet, name_at, names, quiet_contains}
use Rattle.net_laws.proofs.Hopping.{same_is}
use Rattle.net_model.proofs.LineWalks.{IsFree, IsMute, write_refused}
use Rattle.net_laws.proofs.Lists.{put_each}
use Rattle.net_model.proofs.Looks.{ends_of_placed, joined, put_of, reaches, restart_of}
use Rattle.net_laws.proofs.Moving.{set_is}
use Rattle.net_laws.proofs.MovesRun.{put_contains, reach_contains, restart_contains}
use Rattle.net_laws.proofs.Returned.{call_itself}
use Rattle.net_laws.proofs.EndWrites.{Went, Wrote, are_silent, says_walk, silent_walk}
use Rattle.net_laws.proofs.MailOrder.{InOrder}
use Rattle.net_laws.proofs.MailRuns.{Reached}
use Rattle.net_model.proofs.Changing.{get_set, get_other}

-- whether the node of a call keeps mail
abbrev pub has_mail : Plan → List Declaration → Callsign → Bool
has_mail plan [] call = false
has_mail plan (d ∷ ds) call = cond (same_call d.call call) (value_of plan.settings d.node Mail == 1) (has_mail plan ds call)

quiet_case : (a b : Bool) → (a && b) ≡ false → true ≡ a → b ≡ false
quiet_case true b e f = e
quiet_case false b e f = absurd (cc f)

pub call_apart : (a b : Callsign) (t : Bool) → same_call a b ≡ t → (a ≡ b → ⊥) → t ≡ false
call_apart a b true e apart = absurd (apart (same_is a b e))
call_apart a b false e apart = refl

pub joined_some : (o : Option (Option Lists)) (s : Lists) → joined o ≡ Some s → o ≡ Some (Some s)
joined_some None s e = absurd (cc e)
joined_some (Some m) s e = ap Some e

set_there : (plan : Plan) (bys : List Declaration) (i : ℕ) (d : Declaration) → slice_get (names (map (new_placed plan) bys)) i ≡ Some d
    → (s : SetState) × (slice_get (map set_of (map (new_placed plan) bys)) i ≡ Some s) × (s.own ≡ d.call)
set_there plan [] i d e = absurd (cc e)
set_there plan (x ∷ bys) zero d e =
    let same : x ≡ d = cc e in
    (set_of (new_placed plan x), refl, ap (λ (s : SetState). s.own) (set_is plan x (record { index = 1; ident = 1 }) 1) ∙ ap (λ (y : Declaration). y.call) same)
set_there plan (x ∷ bys) (suc i) d e = set_there plan bys i d e

-- ---- a node as it starts again

via_settings : (r : Result (Unit {0}) PathRefusal) (via : Via) (n : NodeState) → (with_via_by r via n).station.settings ≡ n.station.settings
via_settings (Ok _) via n = refl
via_settings (Err why) via n = refl

vias_settings : (vias : List Via) (n : NodeState) → (with_vias vias n).station.settings ≡ n.station.settings
vias_settings [] n = refl
vias_settings (via ∷ vias) n = vias_settings vias (with_via via n) ∙ via_settings (links.path_answer via.peer (path_of via) n.station.links) via n

pub started_prompt : (plan : Plan) (d : Declaration) (pair : Pair) (first : ℕ) → (started plan d pair first).station.settings.prompt ≡ (value_of plan.settings d.node Prompt == 1)
started_prompt plan d pair first = ap (λ s. s.prompt) (vias_settings (filter (is_via_of d.node) plan.vias) (new_node (config_of plan.settings d pair first)))

-- ---- what a user's act writes

mute_writes : (act : UserAct) → IsMute act → (now : ℕ) (r : Result ActDone ActRefusal) → user_writes now act r ≡ []
mute_writes acts.Round i now r = refl
mute_writes (acts.LinkFail peer) i now r = refl
mute_writes (acts.Lock dest alias neighbour quality) i now r = refl
mute_writes (acts.Connect dest) i now r = refl
mute_writes (acts.ConnectFor user dest) i now r = refl
mute_writes (acts.TakeText peer) i now r = refl
mute_writes (acts.SendText to text) i now r = refl
mute_writes (acts.OpenLink to path) i now r = refl
mute_writes (acts.CloseLink peer) i now r = refl
mute_writes (acts.Write id message) i now r = absurd i
mute_writes (acts.Take id) i now r = refl
mute_writes (acts.Close id) i now r = refl

mute_user : (act : UserAct) → IsMute act → IsUserAct act
mute_user acts.Round i = tt
mute_user (acts.LinkFail peer) i = tt
mute_user (acts.Lock dest alias neighbour quality) i = tt
mute_user (acts.Connect dest) i = absurd i
mute_user (acts.ConnectFor user dest) i = absurd i
mute_user (acts.TakeText peer) i = absurd i
mute_user (acts.SendText to text) i = absurd i
mute_user (acts.OpenLink to path) i = absurd i
mute_user (acts.CloseLink peer) i = absurd i
mute_user (acts.Write id message) i = tt
mute_user (acts.Take id) i = tt
mute_user (acts.Close id) i = tt

module _ (plan : Plan) (apart : AreApart (names (new_nodes plan))) (are_steps : InputsAreSteps) (bytes : BytesRun) (ticks : TicksRun) (acts_run : ActsRun)
    (wrote_law : EndsWroteByWrites) (stay : EndsStay) (starts : AreStarts (first_sets plan)) (calls : CallsDiffer (first_sets plan))
    (prompts : (node : ℕ) → ((value_of plan.settings node Mail == 1) && (value_of plan.settings node Prompt == 1)) ≡ false) where
  abbrev pub ds : List Declaration
  ds = names (new_nodes plan)

  abbrev pub keeps : Callsign → Bool
  keeps call = has_mail plan ds call

  -- nodes of one call are one
  pub one_place : (i j : ℕ) (d e : Declaration) → slice_get ds i ≡ Some d → slice_get ds j ≡ Some e → d.call ≡ e.call → i ≡ j
  one_place i j d e f g same =
      let s = set_there plan (by_number plan.declared 1 16) i d f in
      let t = set_there plan (by_number plan.declared 1 16) j e g in
      calls i j s.0 t.0 s.1 t.1 (s.2 ∙ (same ∙ sym t.2))

  -- ---- what a node keeps

  pub record NodeKeeps (m : MailRun) (p : Placed) (mail : Option Lists) : Type 0 where
    pub store : m.store_of p.declared.call ≡ mail
    pub key : is_some mail ≡ (value_of plan.settings p.declared.node Mail == 1)
    pub prompt : p.state.station.settings.prompt ≡ (value_of plan.settings p.declared.node Prompt == 1)
    pub ordered : (s : Lists) → mail ≡ Some s → InOrder s

  abbrev pub EachKeeps : MailRun → World → Type 0
  EachKeeps m w = (k : ℕ) (p : Placed) → slice_get w.nodes k ≡ Some p → NodeKeeps m p (mail_at k w)

  -- no user is served where mail is kept
  pub quiet : (m : MailRun) (p : Placed) (mail : Option Lists) (s : Lists) → NodeKeeps m p mail → mail ≡ Some s → p.state.station.settings.prompt ≡ false
  quiet m p mail s k e =
      k.prompt ∙ quiet_case (value_of plan.settings p.declared.node Mail == 1) (value_of plan.settings p.declared.node Prompt == 1) (prompts p.declared.node) (sym (ap is_some e) ∙ k.key)

  pub restore : (m m2 : MailRun) (w : World) → m2.store_of ≡ m.store_of → EachKeeps m w → EachKeeps m2 w
  restore m m2 w e all k p f =
      let o : NodeKeeps m p (mail_at k w) = all k p f in record { store = ap (λ g. g p.declared.call) e ∙ o.store; key = o.key; prompt = o.prompt; ordered = o.ordered }

  -- the node at a place has come to a state, and all mail stays
  pub replaced : (m : MailRun) (w v : World) (at : ℕ) (p : Placed) (n : NodeState) → slice_get w.nodes at ≡ Some p → v.nodes ≡ slice_set w.nodes at (record { declared = p.declared; state = n }) → v.mails ≡ w.mails
      → n.station.settings.prompt ≡ (value_of plan.settings p.declared.node Prompt == 1) → EachKeeps m w → EachKeeps m v
  replaced m w v at p n e nodes mails prompt all k r f =
      let q : Placed = record { declared = p.declared; state = n } in
      let o : NodeKeeps m p (mail_at at w) = all at p e in
      subst (λ ms. NodeKeeps m r (mail_in k ms)) (sym mails)
      (put_each (λ i x. NodeKeeps m x (mail_at i w)) w.nodes at p q e all (record { store = o.store; key = o.key; prompt = prompt; ordered = o.ordered }) k r (sym (ap (λ ns. slice_get ns k) nodes) ∙ f))

  -- the mail of a node has come to this
  beside : (at k : ℕ) (s : Lists) (w : World) → (at ≡ k → ⊥) → mail_at k (with_mail at s w) ≡ mail_at k w
  beside at k s w far = ap joined (get_other w.mails at k (Some s) far)

  pub stored : (m : MailRun) (w : World) (at : ℕ) (p : Placed) (old s : Lists) → slice_get w.nodes at ≡ Some p → names w.nodes ≡ ds → mail_at at w ≡ Some old → InOrder s → EachKeeps m w
      → EachKeeps (with_store m p.declared.call s) (with_mail at s w)
  stored m w at p old s e named was ordered all k r f = by (nat_eq at k) refl
    where
      name : (i : ℕ) (q : Placed) → slice_get w.nodes i ≡ Some q → slice_get ds i ≡ Some q.declared
      name i q g = ap (λ xs. slice_get xs i) (sym named) ∙ name_at w.nodes i q g

      by : (b : Bool) → nat_eq at k ≡ b → NodeKeeps (with_store m p.declared.call s) r (mail_at k (with_mail at s w))
      by true g =
          let same : at ≡ k = grind (arith, g) in
          let is : p ≡ r = (let two : Some p ≡ Some r = sym e ∙ (ap (slice_get w.nodes) same ∙ f) in cc two) in
          let now : mail_at k (with_mail at s w) ≡ Some s = ap (λ i. mail_at i (with_mail at s w)) (sym same) ∙ ap joined (get_set w.mails at (Some old) (Some s) (joined_some (slice_get w.mails at) old was)) in
          let o : NodeKeeps m r (mail_at k w) = all k r f in
          let had : is_some (mail_at k w) ≡ true = ap (λ i. is_some (mail_at i w)) (sym same) ∙ ap is_some was in
          record {
            store = ap (λ b. cond b (Some s) (m.store_of r.declared.call)) (ap (λ (q : Placed). same_call r.declared.call q.declared.call) is ∙ call_itself r.declared.call) ∙ sym now;
            key = ap is_some now ∙ (sym had ∙ o.key);
            prompt = o.prompt;
            ordered = λ t h. (let two : Some s ≡ Some t = sym now ∙ h in let st : s ≡ t = cc two in subst InOrder st ordered);
          }
      by false g =
          let far : at ≡ k → ⊥ = λ same. (let bad : ⊥ = grind (arith, g, same) in bad) in
          let o : NodeKeeps m r (mail_at k w) = all k r f in
          let other : same_call r.declared.call p.declared.call ≡ false =
          call_apart r.declared.call p.declared.call (same_call r.declared.call p.declared.call) refl (λ c. far (sym (one_place k at r.declared p.declared (name k r f) (name at p e) c))) in
          let there : mail_at k (with_mail at s w) ≡ mail_at k w = beside at k s w far in
          record {
            store = ap (λ b. cond b (Some s) (m.store_of r.declared.call)) other ∙ (o.store ∙ sym there);
            key = ap is_some there ∙ o.key;
            prompt = o.prompt;
            ordered = λ t h. o.ordered t (sym there ∙ h);
          }

  -- where no node is at the place
  pub stored_nowhere : (m : MailRun) (w : World) (at : ℕ) (s : Lists) → slice_get w.nodes at ≡ None → EachKeeps m w → EachKeeps m (with_mail at s w)
  stored_nowhere m w at s none all k r f =
      let far : at ≡ k → ⊥ = λ same. (let bad : None ≡ Some r = sym none ∙ (ap (slice_get w.nodes) same ∙ f) in absurd (cc bad)) in
      subst (NodeKeeps m r) (sym (beside at k s w far)) (all k r f)

  -- ---- what a world and the steps that led to it have come to

  abbrev pub Wrote_in : List Written → List Step → Type 0
  Wrote_in ws steps = Wrote wrote_law stay (first_sets plan) starts ds ws steps

  pub record Holds (steps : List Step) (w : World) : Type 0 where
    pub run : MailRun
    pub reached : Reached keeps run
    pub nodes : EachKeeps run w
    pub wrote : Wrote_in run.written steps

  -- these steps are timely and fresh
  pub record InTime (all : List Step) : Type 0 where
    pub are : AreSteps all
    pub timely : IsTimely AllowsByWindow (events_of (first_sets plan) all)
    pub fresh : IsFresh (events_of (first_sets plan) all)

  -- Whatever steps led to a world, some more lead to another; and where these and what comes later are in time, a run of mail goes on with them.
  abbrev pub Goes : List Step → World → World → Type 0
  Goes steps w v = (more : List Step) × Contains plan (steps ++ more) v.nodes v.told × ((later : List Step) → InTime ((steps ++ more) ++ later) → Holds steps w → Holds (steps ++ more) v)

  abbrev pub Mails : World → World → Type 0
  Mails w v = (steps : List Step) → Contains plan steps w.nodes w.told → Goes steps w v

  pub at_once : (w v : World) (steps : List Step) → Contains plan steps v.nodes v.told → (Holds steps w → Holds steps v) → Goes steps w v
  at_once w v steps c f = (
    [],
    subst (λ ss. Contains plan ss v.nodes v.told) (sym (append-nil steps)) c,
    λ later t h. subst (λ ss. Holds ss v) (sym (append-nil steps)) (f h),
  )

  pub still : (w : World) → Mails w w
  still w steps c = at_once w w steps c (λ h. h)

  pub then_goes : (u v w : World) (steps : List Step) (a : Goes steps u v) → Goes (steps ++ a.0) v w → Goes steps u w
  then_goes u v w steps a b = (
    a.0 ++ b.0,
    subst (λ ss. Contains plan ss w.nodes w.told) (append_assoc steps a.0 b.0) b.1,
    λ later t h.
        (let t2 : InTime (((steps ++ a.0) ++ b.0) ++ later) = subst (λ ss. InTime (ss ++ later)) (sym (append_assoc steps a.0 b.0)) t in
        let first : Holds (steps ++ a.0) v = a.2 (b.0 ++ later) (subst InTime (append_assoc (steps ++ a.0) b.0 later) t2) h in
        subst (λ ss. Holds ss w) (append_assoc steps a.0 b.0) (b.2 later t2 first)),
  )

  pub follows : (u v w : World) → Mails u v → Mails v w → Mails u w
  follows u v w f g steps c = let a = f steps c in then_goes u v w steps a (g (steps ++ a.0) a.1)

  -- what is only told, or is of the air alone
  pub same_holds : (steps : List Step) (w v : World) → v.nodes ≡ w.nodes → v.mails ≡ w.mails → Holds steps w → Holds steps v
  same_holds steps w v nodes mails h = record {
    run = h.run;
    reached = h.reached;
    nodes = λ k p f. subst (λ ms. NodeKeeps h.run p (mail_in k ms)) (sym mails) (h.nodes k p (sym (ap (λ ns. slice_get ns k) nodes) ∙ f));
    wrote = h.wrote;
  }

  pub tells : (line : ℕ) (es : List Event) (w : World) → AllByRecursion IsQuiet es → Mails w (tell line es w)
  tells line es w quiet_es steps c =
      at_once w (tell line es w) steps (quiet_contains plan apart are_steps steps w.nodes w.told line es quiet_es c) (same_holds steps w (tell line es w) refl refl)

  pub settles : (v w : World) → v.nodes ≡ w.nodes → v.mails ≡ w.mails → v.told ≡ w.told → Mails w v
  settles v w nodes mails told steps c =
      at_once w v steps (subst (λ es. Contains plan steps v.nodes es) (sym told) (subst (λ ns. Contains plan steps ns w.told) (sym nodes) c)) (same_holds steps w v nodes mails)

  -- frames are put in the air
  put_case : (line at : ℕ) (came : LinkModulus) (w : World) (steps : List Step) → Contains plan steps w.nodes w.told → (o : Option Placed) → slice_get w.nodes at ≡ o
      → (let v : World = put_of line at came o w in Contains plan steps v.nodes v.told × ((m : MailRun) → EachKeeps m w → EachKeeps m v))
  put_case line at came w steps c None e = (c, λ m all. all)
  put_case line at came w steps c (Some p) e =
      let v : World = put_of line at came (Some p) w in (
        subst (λ ss. Contains plan ss v.nodes v.told) (append-nil steps) (put_contains plan apart are_steps bytes ticks acts_run line at came w p e steps c),
        λ m all. replaced m w v at p (all_fetched_of p.state) e refl refl (all at p e).prompt all,
      )

  pub put_stays : (line at : ℕ) (came : LinkModulus) (w : World) (steps : List Step) → Contains plan steps w.nodes w.told
      → (let v : World = put line at came w in Contains plan steps v.nodes v.told × ((m : MailRun) → EachKeeps m w → EachKeeps m v))
  unfolding put
  put_stays line at came w steps c = put_case line at came w steps c (slice_get w.nodes at) refl

  pub puts : (line at : ℕ) (came : LinkModulus) (w : World) → Mails w (put line at came w)
  puts line at came w steps c =
      let r = put_stays line at came w steps c in
      at_once w (put line at came w) steps r.0 (λ h. record { run = h.run; reached = h.reached; nodes = r.1 h.run h.nodes; wrote = h.wrote })

  -- ---- something reaches a node

  module _ (line at : ℕ) (w : World) (p : Placed) (n : NodeState) (e : slice_get w.nodes at ≡ Some p) (r : RunsOn p.state.station n.station) where
    -- its mail stays
    pub come : (m : MailRun) → EachKeeps m w → EachKeeps m (tells_entries line at p n w)
    come m all = replaced m w (tells_entries line at p n w) at p (all_told n) e refl refl (ap (λ s. s.prompt) r.settings ∙ (all at p e).prompt) all

    pub named : (steps : List Step) → Contains plan steps w.nodes w.told → slice_get ds at ≡ Some p.declared
    named steps c = ap (λ xs. slice_get xs at) (sym c.names_are) ∙ name_at w.nodes at p e

    -- it keeps no mail, and may write what it will
    says : (steps : List Step) → Contains plan steps w.nodes w.told → mail_at at w ≡ None → Holds steps w → Holds (steps ++ steps_at at r.inputs) (tells_entries line at p n w)
    says steps c none h =
        let g : Went wrote_law stay (first_sets plan) starts ds keeps h.run (steps ++ steps_at at r.inputs) =
        says_walk wrote_law stay (first_sets plan) starts ds keeps at p.declared (named steps c) r.inputs h.run steps ((h.nodes at p e).store ∙ none) h.reached h.wrote in
        record { run = g.run; reached = g.reached; nodes = come g.run (restore h.run g.run w g.stores h.nodes); wrote = g.wrote }

    -- it writes nothing
    pub silent : (steps : List Step) → writes_in r.inputs ≡ [] → Holds steps w → Holds (steps ++ steps_at at r.inputs) (tells_entries line at p n w)
    silent steps none h = record {
      run = h.run;
      reached = h.reached;
      nodes = come h.run h.nodes;
      wrote = silent_walk wrote_law stay (first_sets plan) starts ds h.run.written at r.inputs (are_silent r.inputs none) steps h.wrote;
    }

  module _ (line at : ℕ) (w : World) (p : Placed) (n : NodeState) (e : slice_get w.nodes at ≡ Some p) (written : List Act) (b : RunsBy written p.state.station n.station) where
    pub went : ((mail_at at w ≡ None) ⊎ (written ≡ [])) → (steps : List Step) → Contains plan steps w.nodes w.told → Holds steps w → (o : Option Lists) → mail_at at w ≡ o
        → Holds (steps ++ steps_at at b.run.inputs) (tells_entries line at p n w)
    went k steps c h None q = says line at w p n e b.run steps c q h
    went (inl none) steps c h (Some s) q = (let bad : None ≡ Some s = sym none ∙ q in absurd (cc bad))
    went (inr empty) steps c h (Some s) q = silent line at w p n e b.run steps (b.writes (quiet h.run p (mail_at at w) s (h.nodes at p e) q) ∙ empty) h

  -- without mail, or where nothing is written
  abbrev pub Reaching : ℕ → Input → World → Placed → Type 0
  Reaching at input w p = (written : List Act) × RunsBy written p.state.station (after w.now input p.state).station × ((mail_at at w ≡ None) ⊎ (written ≡ []))

  reach_case : (line at : ℕ) (input : Input) (w : World) (o : Option Placed) → slice_get w.nodes at ≡ o → ((p : Placed) → slice_get w.nodes at ≡ Some p → IsTold p.state.station → Reaching at input w p)
      → Mails w (reaches line at input o w)
  reach_case line at input w None e runs steps c = still w steps c
  reach_case line at input w (Some p) e runs steps c =
      let n : NodeState = after w.now input p.state in
      let b = runs p e (c.tracks at p e).tracks.rest in (
        steps_at at b.1.run.inputs,
        reach_contains plan apart are_steps bytes ticks acts_run steps w line at p n c e b.1.run,
        λ later t h. went line at w p n e b.0 b.1 b.2 steps c h (mail_at at w) refl,
      )

  pub reach_goes : (line at : ℕ) (input : Input) (w : World) → ((p : Placed) → slice_get w.nodes at ≡ Some p → IsTold p.state.station → Reaching at input w p) → Mails w (reach line at input w)
  unfolding reach
  reach_goes line at input w runs = reach_case line at input w (slice_get w.nodes at) refl runs

  pub bytes_go : (line at : ℕ) (octets : List ℕ) (w : World) → Mails w (reach line at (Bytes octets) w)
  bytes_go line at octets w = reach_goes line at (Bytes octets) w (λ p e told. ([], bytes w.now octets p.state told, inr refl))

  pub times_go : (line at : ℕ) (w : World) → Mails w (reach line at Time w)
  times_go line at w = reach_goes line at Time w (λ p e told. ([], ticks w.now p.state told, inr refl))

  -- an act that writes nothing
  pub act_goes : (line at : ℕ) (act : UserAct) (w : World) → IsUserAct act → ((now : ℕ) (r : Result ActDone ActRefusal) → user_writes now act r ≡ []) → Mails w (reach line at (worlds.Act act) w)
  act_goes line at act w i none =
      reach_goes line at (worlds.Act act) w
      (λ p e told. (user_writes (moment w.now) act (act_answer w.now act p.state), acts_run w.now act p.state i told, inr (none (moment w.now) (act_answer w.now act p.state))))

  pub mute_goes : (line at : ℕ) (act : UserAct) (w : World) → IsMute act → Mails w (reach line at (worlds.Act act) w)
  mute_goes line at act w i = act_goes line at act w (mute_user act i) (mute_writes act i)

  free_writes : (at id : ℕ) (message : List ℕ) (w : World) (p : Placed) → slice_get w.nodes at ≡ Some p → IsFree at id w
      → (mail_at at w ≡ None) ⊎ (user_writes (moment w.now) (acts.Write id message) (act_answer w.now (acts.Write id message) p.state) ≡ [])
  free_writes at id message w p e (inl none) = inl none
  free_writes at id message w p e (inr none) =
      let r = write_refused w.now id message p.state (sym (ap (λ o. facts_at (end_of id (ends_of_placed o))) e) ∙ none) in
      inr (ap (user_writes (moment w.now) (acts.Write id message)) r.1)

  pub write_goes : (line at id : ℕ) (message : List ℕ) (w : World) → IsFree at id w → Mails w (reach line at (worlds.Act (acts.Write id message)) w)
  write_goes line at id message w free =
      let act : UserAct = acts.Write id message in
      reach_goes line at (worlds.Act act) w
      (λ p e told. (user_writes (moment w.now) act (act_answer w.now act p.state), acts_run w.now act p.state tt told, free_writes at id message w p e free))

  -- ---- a node starts again

  restart_case : (line at : ℕ) (pair : Pair) (w : World) (o : Option Placed) → slice_get w.nodes at ≡ o → IsPair pair → Mails w (restart_of plan line at pair o w)
  restart_case line at pair w None e i steps c = still w steps c
  restart_case line at pair w (Some p) e i steps c =
      let v : World = restart_of plan line at pair (Some p) w in (
        steps_at at (sets.Restart pair 0 ∷ []),
        restart_contains plan apart are_steps bytes ticks acts_run line at pair w p e i steps c,
        λ later t h. record {
          run = h.run;
          reached = h.reached;
          nodes = replaced h.run w v at p (started plan p.declared pair (length (ends_of p.declared.node w.told) + 1)) e refl refl (started_prompt plan p.declared pair (length (ends_of p.declared.node w.told) + 1)) h.nodes;
          wrote = silent_walk wrote_law stay (first_sets plan) starts ds h.run.written at (sets.Restart pair 0 ∷ []) (tt, tt) steps h.wrote;
        },
      )

  pub restarts : (line number : ℕ) (pair : Pair) (w : World) → IsPair pair → Mails w (restart plan line number pair w)
  restarts line number pair w i = restart_case line (place_of_node number w.nodes) pair w (slice_get w.nodes (place_of_node number w.nodes)) refl i
