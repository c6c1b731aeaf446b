-- In a network of which no datagram and no pair comes back too late mail is stored once, at each line and within a turn of an agent.
use Rattle.std.proofs.Common.{◌≡◌, ◌≤◌, ◌∙◌, ℕ, zero, suc, refl, sym, ap, subst, arith, List, [], ◌∷◌, ◌++◌, append-nil, map, Bool, true, false, cond}
use Rattle.std.specs.Prelude.{◌&&◌, ◌==◌, slice_get, Some, None, Ok, is_some}
use Rattle.std.specs.List.{AllByRecursion}
use Rattle.radio_base.specs.declared.modulus.LinkModulus.TheVariants.{Modulo8}
use Rattle.ax_address.specs.Callsign.{Callsign, same_call}
use Rattle.circuit_set.specs.ByBook.{FreshByBook, PartnersByBook, TimelyBy128, TimelyByBook}
use Rattle.circuit_table.specs.CircuitSets.{held_ids}
use Rattle.circuit_set.specs.Facing.{EndsStay, PartnersFace}
use Rattle.circuit_set.specs.NotedRuns.{NarrowIsTimely}
use Rattle.circuit_table.specs.Pairs.{IsPair}
use Rattle.circuit_set.specs.Returning.{CallsDiffer}
use Rattle.circuit_table.specs.Runs.{AreStarts, Step, end_named}
use Rattle.circuit_set.specs.Safe.{CircuitsSafe, PartnersLast}
use Rattle.circuit_table.specs.Sets.{Holder, SetState, end_of}
use Rattle.circuit_set.specs.Writings.{EndsWroteByWrites}
use Rattle.network_file.specs.declared.plan.instructions.NumberedInstruction.{NumberedInstruction}
use Rattle.network_file.specs.declared.plan.declarations.Declaration.{Declaration}
use Rattle.network_file.specs.declared.plan.instructions.Instruction.{Instruction}
use Rattle.network_file.specs.declared.plan.instructions.Instruction.TheVariants as instructions
use Rattle.network_file.specs.declared.plan.keys.Key.TheVariants.{Mail, Prompt}
use Rattle.network_file.specs.Laws.{CallsAreCalls, CallsDeclaredOnce, DeclaredOnce, HasCalls, IsCall, NamesCalls, NoMailAtPrompts, SettingsFit}
use Rattle.network_file.specs.Networks.{network_of}
use Rattle.network_file.specs.Plan.{Plan}
use Rattle.network_file.specs.Keys.{value_of}
use Rattle.node_core.specs.Runs.{ActsRun, BytesRun, InputsAreSteps, TicksRun}
use Rattle.node_core.specs.Acts as acts
use Rattle.node_mail.specs.Lists.{Lists, nothing_kept}
use Rattle.node_mail.specs.Runs.{HoldsMailOnce, MailIsStoredOnce, begin}
use Rattle.net_model.specs.SoundPlans.{IsInstruction, IsSound, first_sets, set_of}
use Rattle.net_laws.specs.Promises.{IsRunOf, NetworksAreSound, RunsThrough, InTimeMailIsOnce, MailOnceNow, MailOnceThroughout}
use Rattle.net_model.specs.Mailing.{while_taking}
use Rattle.net_model.specs.Circuits.{IsVerdictOn}
use Rattle.net_model.specs.Lines.{do_lines, world}
use Rattle.net_model.specs.Mailing.{ends_here, mail, mail_at, mail_in}
use Rattle.net_model.specs.Starting.{Placed, by_number, new_mail, new_nodes, new_placed}
use Rattle.net_model.specs.World.{World, place_of_node, start}
use Rattle.net_model.proofs.Containing.{AreApart, names}
use Rattle.net_laws.proofs.LineRuns as lines
use Rattle.net_model.proofs.LineWalks.{LineMay, LineMoves, lines_go}
use Rattle.net_laws.proofs.MailMoves as moves
use Rattle.net_laws.proofs.MailMoves.{Goes, Holds, InTime, Mails, NodeKeeps, has_mail, started_prompt}
use Rattle.net_laws.proofs.MailOrder.{InOrder, new_order}
use Rattle.net_laws.proofs.MailRuns.{begins}
use Rattle.net_laws.proofs.MailTurns as turns
use Rattle.net_model.proofs.MailWalks.{TurnMoves, taking_goes, taking_on, AnyCall}
use Rattle.net_laws.proofs.Moving.{set_is}
use Rattle.net_laws.proofs.Promising as promising
use Rattle.net_laws.proofs.Returned.{call_itself, calls_differ}

-- ---- the lines of a file

line_may : (i : Instruction) → IsInstruction i → NamesCalls i → LineMay AnyCall AnyCall IsCall IsPair i
line_may (instructions.Restart node pair) i n = i
line_may (instructions.Open node dest) i n = i
line_may (instructions.Post node to dest text) i n = n.0
line_may other i n = tt

lines_may : (ls : List NumberedInstruction) → AllByRecursion (λ (l : NumberedInstruction). IsInstruction l.instruction) ls → AllByRecursion (λ (l : NumberedInstruction). NamesCalls l.instruction) ls
    → AllByRecursion (λ (l : NumberedInstruction). LineMay AnyCall AnyCall IsCall IsPair l.instruction) ls
lines_may [] a b = tt
lines_may (l ∷ ls) a b = (line_may l.instruction a.0 b.0, lines_may ls a.1 b.1)

-- ---- at the start

mail_there : (plan : Plan) (bys : List Declaration) (k : ℕ) (p : Placed) → slice_get (map (new_placed plan) bys) k ≡ Some p
    → (d : Declaration) × (new_placed plan d ≡ p) × (slice_get (names (map (new_placed plan) bys)) k ≡ Some d) × (mail_in k (map (new_mail plan.settings) bys) ≡ new_mail plan.settings d)
mail_there plan [] k p e = absurd (cc e)
mail_there plan (d ∷ bys) zero p e = (d, cc e, refl, refl)
mail_there plan (d ∷ bys) (suc k) p e = mail_there plan bys k p e

-- no two of them have one call
abbrev OneCall : List Declaration → Type 0
OneCall ds = (i j : ℕ) (d e : Declaration) → slice_get ds i ≡ Some d → slice_get ds j ≡ Some e → d.call ≡ e.call → i ≡ j

keeps_case : (plan : Plan) (x d : Declaration) (ds : List Declaration) (b : Bool) → same_call x.call d.call ≡ b → b ≡ false → has_mail plan ds d.call ≡ (value_of plan.settings d.node Mail == 1)
    → has_mail plan (x ∷ ds) d.call ≡ (value_of plan.settings d.node Mail == 1)
keeps_case plan x d ds b e f rest = ap (λ c. cond c (value_of plan.settings x.node Mail == 1) (has_mail plan ds d.call)) (e ∙ f) ∙ rest

keeps_it : (plan : Plan) (ds : List Declaration) (k : ℕ) (d : Declaration) → OneCall ds → slice_get ds k ≡ Some d → has_mail plan ds d.call ≡ (value_of plan.settings d.node Mail == 1)
keeps_it plan [] k d one e = absurd (cc e)
keeps_it plan (x ∷ ds) zero d one e =
    let same : x ≡ d = cc e in
    ap (λ (y : Declaration). cond (same_call x.call y.call) (value_of plan.settings x.node Mail == 1) (has_mail plan ds y.call)) (sym same)
    ∙ (ap (λ b. cond b (value_of plan.settings x.node Mail == 1) (has_mail plan ds x.call)) (call_itself x.call) ∙ ap (λ (y : Declaration). value_of plan.settings y.node Mail == 1) same)
keeps_it plan (x ∷ ds) (suc k) d one e =
    keeps_case plan x d ds (same_call x.call d.call) refl
    (moves.call_apart x.call d.call (same_call x.call d.call) refl (λ c. (let bad : zero ≡ suc k = one zero (suc k) x d refl e c in absurd (omega (arith, bad)))))
    (keeps_it plan ds k d (λ i j a b f g c. (let up : suc i ≡ suc j = one (suc i) (suc j) a b f g c in omega (arith, up))) e)

key_case : (own : Callsign) (b : Bool) → is_some (cond b (Some (nothing_kept own)) None) ≡ b
key_case own true = refl
key_case own false = refl

order_case : (own : Callsign) (b : Bool) (s : Lists) → cond b (Some (nothing_kept own)) None ≡ Some s → InOrder s
order_case own true s e = let same : nothing_kept own ≡ s = cc e in subst InOrder same (new_order own)
order_case own false s e = absurd (cc e)

module _ (plan : Plan) (apart : AreApart (names (new_nodes plan))) (are_steps : InputsAreSteps) (bytes : BytesRun) (ticks : TicksRun) (acts_run : ActsRun)
    (wrote_law : EndsWroteByWrites) (stay : EndsStay) (starts : AreStarts (first_sets plan)) (calls : CallsDiffer (first_sets plan))
    (prompts : (node : ℕ) → ((value_of plan.settings node Mail == 1) && (value_of plan.settings node Prompt == 1)) ≡ false)
    (partners : PartnersByBook) (fresh_law : FreshByBook) (face : PartnersFace) (safe : CircuitsSafe) (last : PartnersLast) where
  abbrev Goes_on : World → World → Type 0
  Goes_on w v = Mails plan apart are_steps bytes ticks acts_run wrote_law stay starts calls prompts w v

  abbrev Held : List Step → World → Type 0
  Held steps w = Holds plan apart are_steps bytes ticks acts_run wrote_law stay starts calls prompts steps w

  abbrev Has_store : Callsign → Bool
  Has_store = moves.keeps plan apart are_steps bytes ticks acts_run wrote_law stay starts calls prompts

  turn_moves : TurnMoves IsCall Goes_on
  turn_moves = record {
    still = moves.still plan apart are_steps bytes ticks acts_run wrote_law stay starts calls prompts;
    follows = moves.follows plan apart are_steps bytes ticks acts_run wrote_law stay starts calls prompts;
    tells = moves.tells plan apart are_steps bytes ticks acts_run wrote_law stay starts calls prompts;
    puts = λ line at w. moves.puts plan apart are_steps bytes ticks acts_run wrote_law stay starts calls prompts line at Modulo8 w;
    takes = turns.takes plan apart are_steps bytes ticks acts_run wrote_law stay starts calls prompts partners fresh_law face safe last;
    offers = turns.offers plan apart are_steps bytes ticks acts_run wrote_law stay starts calls prompts;
    posts = turns.posts plan apart are_steps bytes ticks acts_run wrote_law stay starts calls prompts;
  }

  line_moves : LineMoves plan AnyCall AnyCall IsCall IsPair Goes_on
  line_moves = record {
    turns = turn_moves;
    does = moves.mute_goes plan apart are_steps bytes ticks acts_run wrote_law stay starts calls prompts;
    writes = moves.write_goes plan apart are_steps bytes ticks acts_run wrote_law stay starts calls prompts;
    locks = λ line at dest alias neighbour quality w i.
        moves.act_goes plan apart are_steps bytes ticks acts_run wrote_law stay starts calls prompts line at (acts.Lock dest alias neighbour quality) w tt (λ now r. refl);
    connects = λ line at dest w i. moves.act_goes plan apart are_steps bytes ticks acts_run wrote_law stay starts calls prompts line at (acts.Connect dest) w i (λ now r. refl);
    times = moves.times_go plan apart are_steps bytes ticks acts_run wrote_law stay starts calls prompts;
    broadcasts = λ line at call b w i. moves.bytes_go plan apart are_steps bytes ticks acts_run wrote_law stay starts calls prompts line at _ w;
    frames = λ line at place f w e. moves.bytes_go plan apart are_steps bytes ticks acts_run wrote_law stay starts calls prompts line at _ w;
    puts = moves.puts plan apart are_steps bytes ticks acts_run wrote_law stay starts calls prompts;
    restarts = moves.restarts plan apart are_steps bytes ticks acts_run wrote_law stay starts calls prompts;
    settles = λ at w. moves.settles plan apart are_steps bytes ticks acts_run wrote_law stay starts calls prompts _ w refl refl refl;
    later = λ milliseconds w. moves.settles plan apart are_steps bytes ticks acts_run wrote_law stay starts calls prompts _ w refl refl refl;
  }

  -- ---- at the start

  none_yet : (bys : List Declaration) (n id : ℕ) (h : Holder) (P : Type 0) → end_named (map set_of (map (new_placed plan) bys)) (record { node = n; id = id }) ≡ Some h → P
  none_yet [] n id h P q = absurd (cc q)
  none_yet (d ∷ bys) zero id h P q =
      (let none : end_of id (set_of (new_placed plan d)).ends ≡ None = ap (λ (s : SetState). end_of id s.ends) (set_is plan d (record { index = 1; ident = 1 }) 1) in
      let bad : None ≡ Some h = sym none ∙ q in absurd (cc bad))
  none_yet (d ∷ bys) (suc n) id h P q = none_yet bys n id h P q

  start_node : (k : ℕ) (p : Placed) → slice_get (new_nodes plan) k ≡ Some p → NodeKeeps plan apart are_steps bytes ticks acts_run wrote_law stay starts calls prompts (begin Has_store) p (mail_at k (start plan))
  start_node k p e =
      let m = mail_there plan (by_number plan.declared 1 16) k p e in
      let d : Declaration = m.0 in
      let key : Has_store d.call ≡ (value_of plan.settings d.node Mail == 1) =
      keeps_it plan (names (new_nodes plan)) k d (moves.one_place plan apart are_steps bytes ticks acts_run wrote_law stay starts calls prompts) m.2 in
      subst (λ q. NodeKeeps plan apart are_steps bytes ticks acts_run wrote_law stay starts calls prompts (begin Has_store) q (mail_at k (start plan))) m.1
      (record {
        store = ap (λ b. cond b (Some (nothing_kept d.call)) None) key ∙ sym m.3;
        key = ap is_some m.3 ∙ key_case d.call (value_of plan.settings d.node Mail == 1);
        prompt = started_prompt plan d (record { index = 1; ident = 1 }) 1;
        ordered = λ s f. order_case d.call (value_of plan.settings d.node Mail == 1) s (sym m.3 ∙ f);
      })

  start_holds : Held [] (start plan)
  start_holds = record {
    run = begin Has_store;
    reached = begins Has_store;
    nodes = start_node;
    wrote = λ x d h here there. none_yet (by_number plan.declared 1 16) x.node x.id h _ there;
  }

  -- ---- two nodes of the world that keep mail

  once_now : MailIsStoredOnce → (steps : List Step) (w : World) → Held steps w → MailOnceNow w
  once_now law steps w h a b p q from at there here m n =
      let once : HoldsMailOnce h.run = subst HoldsMailOnce (sym h.reached.is) (law Has_store h.reached.events h.reached.are) in
      once p.declared.call q.declared.call from at ((h.nodes a p there).store ∙ m) ((h.nodes b q here).store ∙ n)

  -- ---- the law, of a file

  -- steps that lead to the last line, and to a moment before it
  pub record Walked (v : World) : Type 0 where
    pub runs : RunsThrough plan plan.instructions []
    pub steps : List Step
    pub holds : InTime plan apart are_steps bytes ticks acts_run wrote_law stay starts calls prompts (runs.steps ++ runs.then) → Held steps v

  walked : (v : World) → Goes_on (start plan) v → Goes_on v (world plan) → Walked v
  unfolding world
  walked v to on =
      let a : Goes plan apart are_steps bytes ticks acts_run wrote_law stay starts calls prompts [] (start plan) v = to [] (lines.start_contains plan apart are_steps bytes ticks acts_run) in
      let b : Goes plan apart are_steps bytes ticks acts_run wrote_law stay starts calls prompts a.0 v (world plan) = on a.0 a.1 in
      let whole : IsRunOf plan (a.0 ++ b.0) (world plan) = lines.is_run plan apart are_steps bytes ticks acts_run (a.0 ++ b.0) (world plan) b.1 in
      let ended : (a.0 ++ b.0) ++ [] ≡ a.0 ++ b.0 = append-nil (a.0 ++ b.0) in
      record {
        runs = record { steps = a.0 ++ b.0; then = []; is = whole; all = subst (λ ss. IsRunOf plan ss (world plan)) (sym ended) whole };
        steps = a.0;
        holds = λ t. a.2 b.0 (subst (InTime plan apart are_steps bytes ticks acts_run wrote_law stay starts calls prompts) ended t) start_holds;
      }

  -- ---- to a line, and from it on

  abbrev May : NumberedInstruction → Type 0
  May l = LineMay AnyCall AnyCall IsCall IsPair l.instruction

  may : IsSound plan → HasCalls plan → AllByRecursion May plan.instructions
  may sound named = lines_may plan.instructions sound.instructions named.lines

  on_from : (ls : List NumberedInstruction) (w : World) → AllByRecursion May ls → Goes_on w (do_lines plan ls w)
  on_from ls w all = lines_go plan AnyCall AnyCall IsCall IsPair Goes_on line_moves ls w all

  -- the last line is behind those that come later
  last_is : (done later : List NumberedInstruction) → plan.instructions ≡ done ++ later → do_lines plan later (do_lines plan done (start plan)) ≡ world plan
  unfolding world
  last_is done later is = sym (ap (λ ls. do_lines plan ls (start plan)) is ∙ lines.lines_append plan apart are_steps bytes ticks acts_run done later (start plan))

  module _ (all_may : AllByRecursion May plan.instructions) (done later : List NumberedInstruction) (is : plan.instructions ≡ done ++ later) where
    parts : AllByRecursion May done × AllByRecursion May later
    parts = lines.front_all plan apart are_steps bytes ticks acts_run done later May (subst (AllByRecursion May) is all_may)

    to_line : Goes_on (start plan) (do_lines plan done (start plan))
    to_line = on_from done (start plan) parts.0

    from_line : Goes_on (do_lines plan done (start plan)) (world plan)
    from_line = subst (Goes_on (do_lines plan done (start plan))) (last_is done later is) (on_from later (do_lines plan done (start plan)) parts.1)

  -- ---- within a turn of an agent

  module _ (all_may : AllByRecursion May plan.instructions) (done later : List NumberedInstruction) (line node : ℕ)
      (is : plan.instructions ≡ done ++ record { line = line; instruction = instructions.Mail node } ∷ later) (passed rest : List ℕ) (id n : ℕ) where
    abbrev before : World
    before = do_lines plan done (start plan)

    abbrev behind : World
    behind = mail line node before

    abbrev moment : World
    moment = while_taking line node passed id n before

    to_moment : Goes_on (start plan) moment
    to_moment =
        moves.follows plan apart are_steps bytes ticks acts_run wrote_law stay starts calls prompts (start plan) before moment
        (to_line all_may done (record { line = line; instruction = instructions.Mail node } ∷ later) is) (taking_goes IsCall Goes_on turn_moves line node before passed id n)

    from_moment : is_some (mail_at (place_of_node node before.nodes) before) ≡ true → held_ids (ends_here (place_of_node node before.nodes) before) ≡ passed ++ id ∷ rest → n ≤ 100000 → Goes_on moment (world plan)
    from_moment some e h =
        let more = (parts all_may done (record { line = line; instruction = instructions.Mail node } ∷ later) is).1 in
        let ended : Goes_on behind (world plan) =
        subst (Goes_on behind) (last_is done (record { line = line; instruction = instructions.Mail node } ∷ later) is) (on_from later behind more.1) in
        moves.follows plan apart are_steps bytes ticks acts_run wrote_law stay starts calls prompts moment behind (world plan)
        (taking_on IsCall Goes_on turn_moves line node before passed rest id n some e h) ended

module _ (are_steps : InputsAreSteps) (bytes : BytesRun) (ticks : TicksRun) (acts_run : ActsRun) (wrote_law : EndsWroteByWrites) (stay : EndsStay) (partners : PartnersByBook) (fresh_law : FreshByBook) (by_window : TimelyByBook)
    (by_128 : TimelyBy128) (face : PartnersFace) (safe : CircuitsSafe) (last : PartnersLast) (narrow : NarrowIsTimely) (sounds : NetworksAreSound) (declared : DeclaredOnce) (own_calls : CallsDeclaredOnce) (fit : SettingsFit)
    (prompts : NoMailAtPrompts) (calls_are : CallsAreCalls) (law : MailIsStoredOnce) (file : List ℕ) (plan : Plan) (e : network_of file ≡ Ok plan) (verdict : IsVerdictOn plan (world plan) None) where
  sound : IsSound plan
  sound = sounds file plan e

  apart : AreApart (names (new_nodes plan))
  apart = lines.nodes_apart plan (declared file plan e)

  calls : CallsDiffer (first_sets plan)
  calls = calls_differ plan (own_calls file plan e) apart

  quiet : (node : ℕ) → ((value_of plan.settings node Mail == 1) && (value_of plan.settings node Prompt == 1)) ≡ false
  quiet node = prompts file plan node e

  abbrev Leads : World → World → Type 0
  Leads w v = Goes_on plan apart are_steps bytes ticks acts_run wrote_law stay sound.starts calls quiet partners fresh_law face safe last w v

  -- at a moment on the way
  once_at : (v : World) → Leads (start plan) v → Leads v (world plan) → MailOnceNow v
  once_at v to on =
      let walk : Walked plan apart are_steps bytes ticks acts_run wrote_law stay sound.starts calls quiet partners fresh_law face safe last v =
      walked plan apart are_steps bytes ticks acts_run wrote_law stay sound.starts calls quiet partners fresh_law face safe last v to on in
      let time = promising.in_time_run fresh_law by_window by_128 sounds narrow fit file plan e verdict plan.instructions [] walk.runs in
      once_now plan apart are_steps bytes ticks acts_run wrote_law stay sound.starts calls quiet partners fresh_law face safe last law walk.steps v
      (walk.holds (record { are = walk.runs.all.are; timely = time.0; fresh = time.1 }))

  once : MailOnceThroughout plan
  once =
      let all = may plan apart are_steps bytes ticks acts_run wrote_law stay sound.starts calls quiet partners fresh_law face safe last sound (calls_are file plan e) in
      record {
        lines = λ done later is. once_at (do_lines plan done (start plan))
            (to_line plan apart are_steps bytes ticks acts_run wrote_law stay sound.starts calls quiet partners fresh_law face safe last all done later is)
            (from_line plan apart are_steps bytes ticks acts_run wrote_law stay sound.starts calls quiet partners fresh_law face safe last all done later is);
        within = λ done later line node is some passed rest id n ids few. once_at (while_taking line node passed id n (do_lines plan done (start plan)))
            (to_moment plan apart are_steps bytes ticks acts_run wrote_law stay sound.starts calls quiet partners fresh_law face safe last all done later line node is passed rest id n)
            (from_moment plan apart are_steps bytes ticks acts_run wrote_law stay sound.starts calls quiet partners fresh_law face safe last all done later line node is passed rest id n some ids few);
      }

pub in_time_mail_is_once : InputsAreSteps → BytesRun → TicksRun → ActsRun → EndsWroteByWrites → EndsStay → PartnersByBook → FreshByBook → TimelyByBook → TimelyBy128 → PartnersFace → CircuitsSafe → PartnersLast → NarrowIsTimely
    → NetworksAreSound → DeclaredOnce → CallsDeclaredOnce → SettingsFit → NoMailAtPrompts → CallsAreCalls → MailIsStoredOnce → InTimeMailIsOnce
in_time_mail_is_once are_steps bytes ticks acts_run wrote_law stay partners fresh_law by_window by_128 face safe last narrow sounds declared own_calls fit prompts calls_are law file plan e v =
    once are_steps bytes ticks acts_run wrote_law stay partners fresh_law by_window by_128 face safe last narrow sounds declared own_calls fit prompts calls_are law file plan e v
