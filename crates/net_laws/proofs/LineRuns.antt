-- Each line goes on with the run of its network's circuits.
use Rattle.std.proofs.Common.{◌≡◌, ◌∙◌, ◌+◌, ◌<◌, ◌≤◌, ℕ, zero, suc, refl, sym, ap, subst, arith, List, [], ◌∷◌, ◌++◌, map, filter, Bool, true, false, cond}
use Rattle.std.specs.Prelude.{◌==◌, ◌||◌, not, slice_get, Some}
use Rattle.std.specs.List.{AllByRecursion, position_or_len}
use Rattle.circuit_table.specs.Pairs.{IsPair}
use Rattle.circuit_table.specs.Runs.{Step, sets_run}
use Rattle.circuit_table.specs.Sets.{Holder, SetState, end_of}
use Rattle.network_file.specs.declared.plan.instructions.NumberedInstruction.{NumberedInstruction}
use Rattle.network_file.specs.declared.plan.declarations.Declaration.{Declaration}
use Rattle.network_file.specs.declared.plan.instructions.Instruction.{Instruction}
use Rattle.network_file.specs.declared.plan.instructions.Instruction.TheVariants as instructions
use Rattle.network_file.specs.Laws.{AreDifferent}
use Rattle.network_file.specs.Places.{has_node}
use Rattle.network_file.specs.Plan.{Plan}
use Rattle.node_core.specs.Acts.{UserAct}
use Rattle.node_core.specs.Acts as acts
use Rattle.node_core.specs.Runs.{ActsRun, BytesRun, InputsAreSteps, IsUserAct, TicksRun}
use Rattle.net_model.specs.SoundPlans.{IsInstruction, IsSound, first_sets, set_of}
use Rattle.net_laws.specs.Promises.{IsRunOf, RunsThrough}
use Rattle.net_model.specs.Circuits.{CircuitEvent}
use Rattle.net_model.specs.Events.{NumberedEvent}
use Rattle.net_model.specs.Lines.{do_line, do_lines, world}
use Rattle.net_model.specs.Starting.{Placed, by_number, has_number, new_nodes, new_placed}
use Rattle.net_model.specs.World as worlds
use Rattle.net_model.specs.World.{Time, World, start}
use Rattle.net_model.proofs.Containing.{AreApart, Contains, Tracks, TracksAt, events_by, events_named, names}
use Rattle.net_model.proofs.LineWalks.{IsPlain, LineIs, Moves, lines_lead}
use Rattle.net_laws.proofs.Moving.{new_tracks, set_is}
use Rattle.net_laws.proofs.MovesRun.{Leads, put_leads, reach_leads, restart_leads, still, tell_leads, then}
use Rattle.net_model.proofs.Remembering.{end_above, end_id, end_lift}
use Rattle.net_model.proofs.MailWalks.{AnyCall}

-- ---- no two nodes have one number

or_none : (a b : Bool) → (a || b) ≡ false → (a ≡ false) × (b ≡ false)
or_none true b e = absurd (cc e)
or_none false b e = (refl, e)

none_or : (a b : Bool) → a ≡ false → b ≡ false → (a || b) ≡ false
none_or true b e f = e
none_or false b e f = f

differs : (a b : ℕ) → (a == b) ≡ false → (b == a) ≡ false
differs a b e = grind (arith, e)

-- one of them has none of the numbers that none of them has
not_named : (ds : List Declaration) (at n : ℕ) (d : Declaration) → has_node ds n ≡ false → slice_get ds at ≡ Some d → (d.node == n) ≡ false
not_named [] at n d e f = absurd (cc f)
not_named (x ∷ ds) zero n d e f = let same : x ≡ d = cc f in subst (λ (y : Declaration). (y.node == n) ≡ false) same (or_none (x.node == n) (has_node ds n) e).0
not_named (x ∷ ds) (suc at) n d e f = not_named ds at n d (or_none (x.node == n) (has_node ds n) e).1 f

different_apart : (ds : List Declaration) → AreDifferent ds → AreApart ds
different_apart [] a at d e = absurd (cc e)
different_apart (x ∷ ds) a zero d e =
    let same : x ≡ d = cc e in
    subst (λ (y : Declaration). position_or_len (has_number y.node) (x ∷ ds) ≡ 0) same (ap (λ b. cond (not b) (1 + position_or_len (has_number x.node) ds) 0) (let own : (x.node == x.node) ≡ true = grind arith in own))
different_apart (x ∷ ds) a (suc at) d e =
    ap (λ b. cond (not b) (1 + position_or_len (has_number d.node) ds) 0) (differs d.node x.node (not_named ds at x.node d a.0 e))
    ∙ ap (λ n. 1 + n) (different_apart ds a.1 at d e) ∙ (let n : 1 + at ≡ suc at = omega arith in n)

has_append : (xs ys : List Declaration) (n : ℕ) → has_node xs n ≡ false → has_node ys n ≡ false → has_node (xs ++ ys) n ≡ false
has_append [] ys n e f = f
has_append (x ∷ xs) ys n e f = let parts = or_none (x.node == n) (has_node xs n) e in none_or (x.node == n) (has_node (xs ++ ys) n) parts.0 (has_append xs ys n parts.1 f)

-- those of one number
filter_case : (b : Bool) (n m : ℕ) (d : Declaration) (ds : List Declaration) → (d.node == n) ≡ b → (n == m) ≡ false → has_node (filter (has_number n) ds) m ≡ false → has_node (cond b (d ∷ filter (has_number n) ds) (filter (has_number n) ds)) m ≡ false
filter_case true n m d ds e f g = none_or (d.node == m) (has_node (filter (has_number n) ds) m) (grind (arith, e, f)) g
filter_case false n m d ds e f g = g

filter_other : (n m : ℕ) (ds : List Declaration) → (n == m) ≡ false → has_node (filter (has_number n) ds) m ≡ false
filter_other n m [] f = refl
filter_other n m (d ∷ ds) f = filter_case (d.node == n) n m d ds refl f (filter_other n m ds f)

filter_none_case : (b : Bool) (n m : ℕ) (d : Declaration) (ds : List Declaration) → (d.node == m) ≡ false → has_node (filter (has_number n) ds) m ≡ false → has_node (cond b (d ∷ filter (has_number n) ds) (filter (has_number n) ds)) m ≡ false
filter_none_case true n m d ds e g = none_or (d.node == m) (has_node (filter (has_number n) ds) m) e g
filter_none_case false n m d ds e g = g

filter_none : (n m : ℕ) (ds : List Declaration) → has_node ds m ≡ false → has_node (filter (has_number n) ds) m ≡ false
filter_none n m [] e = refl
filter_none n m (d ∷ ds) e = let parts = or_none (d.node == m) (has_node ds m) e in filter_none_case (d.node == n) n m d ds parts.0 (filter_none n m ds parts.1)

filter_different_case : (b : Bool) (n : ℕ) (d : Declaration) (ds : List Declaration) → has_node (filter (has_number n) ds) d.node ≡ false → AreDifferent (filter (has_number n) ds) → AreDifferent (cond b (d ∷ filter (has_number n) ds) (filter (has_number n) ds))
filter_different_case true n d ds e a = (e, a)
filter_different_case false n d ds e a = a

filter_different : (n : ℕ) (ds : List Declaration) → AreDifferent ds → AreDifferent (filter (has_number n) ds)
filter_different n [] a = tt
filter_different n (d ∷ ds) a = filter_different_case (d.node == n) n d ds (filter_none n d.node ds a.0) (filter_different n ds a.1)

-- from a number on there is no smaller one
from_none : (ds : List Declaration) (count n m : ℕ) → m < n → has_node (by_number ds n count) m ≡ false
unfolding by_number
from_none ds zero n m k = refl
from_none ds (suc count) n m k =
    has_append (filter (has_number n) ds) (by_number ds (suc n) count) m (filter_other n m ds (grind (arith, k))) (from_none ds count (suc n) m (omega (arith, k)))

append_different : (xs ys : List Declaration) → AllByRecursion (λ (d : Declaration). has_node ys d.node ≡ false) xs → AreDifferent xs → AreDifferent ys → AreDifferent (xs ++ ys)
append_different [] ys none a b = b
append_different (x ∷ xs) ys none a b = (has_append xs ys x.node a.0 none.0, append_different xs ys none.1 a.1 b)

filter_all_case : (b : Bool) (P : Declaration → Type 0) (n : ℕ) (d : Declaration) (ds : List Declaration) → (d.node == n) ≡ b → ((x : Declaration) → x.node ≡ n → P x) → AllByRecursion P (filter (has_number n) ds)
    → AllByRecursion P (cond b (d ∷ filter (has_number n) ds) (filter (has_number n) ds))
filter_all_case true P n d ds e h a = (h d (grind (arith, e)), a)
filter_all_case false P n d ds e h a = a

filter_all : (P : Declaration → Type 0) (n : ℕ) (ds : List Declaration) → ((x : Declaration) → x.node ≡ n → P x) → AllByRecursion P (filter (has_number n) ds)
filter_all P n [] h = tt
filter_all P n (d ∷ ds) h = filter_all_case (d.node == n) P n d ds refl h (filter_all P n ds h)

by_number_different : (ds : List Declaration) (count n : ℕ) → AreDifferent ds → AreDifferent (by_number ds n count)
unfolding by_number
by_number_different ds zero n a = tt
by_number_different ds (suc count) n a =
    append_different (filter (has_number n) ds) (by_number ds (suc n) count)
    (filter_all (λ (d : Declaration). has_node (by_number ds (suc n) count) d.node ≡ false) n ds (λ x e. from_none ds count (suc n) x.node (omega (arith, e))))
    (filter_different n ds a) (by_number_different ds count (suc n) a)

pub placed_names : (plan : Plan) (ds : List Declaration) → names (map (new_placed plan) ds) ≡ ds
placed_names plan [] = refl
placed_names plan (d ∷ ds) = ap (λ xs. d ∷ xs) (placed_names plan ds)

pub nodes_apart : (plan : Plan) → AreDifferent plan.declared → AreApart (names (new_nodes plan))
nodes_apart plan a =
    subst AreApart (sym (placed_names plan (by_number plan.declared 1 16))) (different_apart (by_number plan.declared 1 16) (by_number_different plan.declared 16 1 a))

-- no end that a restart took away has the number of one that the node knows of
held_in : (plan : Plan) (told : List NumberedEvent) (s : SetState) (p : Placed) → Tracks plan told s p → (id : ℕ) (h : Holder) → end_of id (set_of p).ends ≡ Some h → end_of id s.ends ≡ Some h
held_in plan told s p t id h e =
    let is : h.id ≡ id = end_id id (set_of p).ends h e in
    let above : t.base ≤ h.id = end_above id t.base t.base (set_of p).number (set_of p).ends h (omega arith) t.rises e in
    ap (λ (x : SetState). end_of id x.ends) t.is ∙ (end_lift t.base id t.past (set_of p).ends t.lost.below (omega (arith, is, above)) ∙ e)

module _ (plan : Plan) (apart : AreApart (names (new_nodes plan))) (are_steps : InputsAreSteps) (bytes : BytesRun) (ticks : TicksRun) (acts_run : ActsRun) where
  abbrev Lead : World → World → Type 0
  Lead w v = Leads plan apart are_steps bytes ticks acts_run w v

  plain_act : (act : UserAct) → IsPlain act → IsUserAct act
  plain_act acts.Round i = tt
  plain_act (acts.LinkFail peer) i = tt
  plain_act (acts.Lock dest alias neighbour quality) i = tt
  plain_act (acts.Connect dest) i = absurd i
  plain_act (acts.ConnectFor user dest) i = absurd i
  plain_act (acts.TakeText peer) i = absurd i
  plain_act (acts.SendText to text) i = absurd i
  plain_act (acts.OpenLink to path) i = absurd i
  plain_act (acts.CloseLink peer) i = absurd i
  plain_act (acts.Write id message) i = tt
  plain_act (acts.Take id) i = tt
  plain_act (acts.Close id) i = tt

  moves : Moves plan AnyCall AnyCall IsPair Lead
  moves = record {
    still = still plan apart are_steps bytes ticks acts_run;
    follows = then plan apart are_steps bytes ticks acts_run;
    tells = tell_leads plan apart are_steps bytes ticks acts_run;
    does = λ line at act w i. reach_leads plan apart are_steps bytes ticks acts_run line at (worlds.Act act) w (plain_act act i);
    locks = λ line at dest alias neighbour quality w i. reach_leads plan apart are_steps bytes ticks acts_run line at (worlds.Act (acts.Lock dest alias neighbour quality)) w tt;
    connects = λ line at dest w i. reach_leads plan apart are_steps bytes ticks acts_run line at (worlds.Act (acts.Connect dest)) w i;
    times = λ line at w. reach_leads plan apart are_steps bytes ticks acts_run line at Time w tt;
    broadcasts = λ line at call b w i. reach_leads plan apart are_steps bytes ticks acts_run line at _ w tt;
    frames = λ line at place f w e. reach_leads plan apart are_steps bytes ticks acts_run line at _ w tt;
    puts = put_leads plan apart are_steps bytes ticks acts_run;
    mails = λ at s w. still plan apart are_steps bytes ticks acts_run w;
    restarts = restart_leads plan apart are_steps bytes ticks acts_run;
    settles = λ at w. still plan apart are_steps bytes ticks acts_run w;
    later = λ ms w. still plan apart are_steps bytes ticks acts_run w;
  }

  line_is : (i : Instruction) → IsInstruction i → LineIs AnyCall AnyCall IsPair i
  line_is (instructions.Restart node pair) i = i
  line_is (instructions.Open node dest) i = i
  line_is other i = tt

  lines_are : (ls : List NumberedInstruction) → AllByRecursion (λ (l : NumberedInstruction). IsInstruction l.instruction) ls → AllByRecursion (λ (l : NumberedInstruction). LineIs AnyCall AnyCall IsPair l.instruction) ls
  lines_are [] all = tt
  lines_are (l ∷ ls) all = (line_is l.instruction all.0, lines_are ls all.1)

  pub lead_lines : (ls : List NumberedInstruction) (w : World) → AllByRecursion (λ (l : NumberedInstruction). IsInstruction l.instruction) ls → Lead w (do_lines plan ls w)
  lead_lines ls w all = lines_lead plan AnyCall AnyCall IsPair Lead moves ls w (lines_are ls all)

  pub lines_append : (xs ys : List NumberedInstruction) (w : World) → do_lines plan (xs ++ ys) w ≡ do_lines plan ys (do_lines plan xs w)
  lines_append [] ys w = refl
  lines_append (x ∷ xs) ys w = lines_append xs ys (do_line plan x.line x.instruction w)

  pub front_all : (xs ys : List NumberedInstruction) (P : NumberedInstruction → Type 0) → AllByRecursion P (xs ++ ys) → AllByRecursion P xs × AllByRecursion P ys
  front_all [] ys P all = (tt, all)
  front_all (x ∷ xs) ys P all = let rest = front_all xs ys P all.1 in ((all.0, rest.0), rest.1)

  -- ---- the start
  pub placed_at : (ds : List Declaration) (at : ℕ) (p : Placed) → slice_get (map (new_placed plan) ds) at ≡ Some p → (d : Declaration) × (new_placed plan d ≡ p)
  placed_at [] at p e = absurd (cc e)
  placed_at (d ∷ ds) zero p e = (d, cc e)
  placed_at (d ∷ ds) (suc at) p e = placed_at ds at p e

  set_at : (nodes : List Placed) (at : ℕ) (p : Placed) → slice_get nodes at ≡ Some p → slice_get (map set_of nodes) at ≡ Some (set_of p)
  set_at [] at p e = absurd (cc e)
  set_at (q ∷ nodes) zero p e = let same : q ≡ p = cc e in ap (λ (x : Placed). Some (set_of x)) same
  set_at (q ∷ nodes) (suc at) p e = set_at nodes at p e

  start_tracks : (d : Declaration) → Tracks plan [] (set_of (new_placed plan d)) (new_placed plan d)
  start_tracks d =
      new_tracks plan [] d (record { index = 1; ident = 1 }) 1 1 [] (set_of (new_placed plan d)) (record { gone = tt; below = tt }) (omega arith) (omega arith) refl (set_is plan d (record { index = 1; ident = 1 }) 1)

  pub start_contains : Contains plan [] (new_nodes plan) []
  start_contains = record {
    are = tt;
    up = λ quiet. tt;
    names_are = refl;
    tracks = λ at p e. (let from = placed_at (by_number plan.declared 1 16) at p e in
        record { set = set_of p; here = set_at (new_nodes plan) at p e; tracks = subst (λ x. Tracks plan [] (set_of x) x) from.1 (start_tracks from.0) });
    events_are = refl;
  }

  pub is_run : (steps : List Step) (w : World) → Contains plan steps w.nodes w.told → IsRunOf plan steps w
  is_run steps w c = record {
    are = c.are;
    nodes = λ at p e. (let t : TracksAt plan w.told (sets_run (first_sets plan) steps) at p = c.tracks at p e in
        (t.set, t.here, record { past = t.tracks.past; gone = t.tracks.lost.gone; is = t.tracks.is; held = held_in plan w.told t.set p t.tracks }));
    told = ap (map (λ (e : CircuitEvent). e.event)) (events_named w.nodes w.told ∙ ap (λ ds. events_by ds w.told) c.names_are) ∙ c.events_are;
  }

  pub runs_through : (done later : List NumberedInstruction) → plan.instructions ≡ done ++ later → IsSound plan → RunsThrough plan done later
  unfolding world
  runs_through done later e sound =
      let parts = front_all done later (λ (l : NumberedInstruction). IsInstruction l.instruction) (subst (AllByRecursion (λ (l : NumberedInstruction). IsInstruction l.instruction)) e sound.instructions) in
      let w : World = do_lines plan done (start plan) in
      let a = lead_lines done (start plan) parts.0 [] start_contains in
      let b = lead_lines later w parts.1 a.0 a.1 in
      record {
        steps = a.0;
        then = b.0;
        is = is_run a.0 w a.1;
        all = subst (IsRunOf plan (a.0 ++ b.0)) (sym (ap (λ ls. do_lines plan ls (start plan)) e ∙ lines_append done later (start plan))) (is_run (a.0 ++ b.0) (do_lines plan later w) b.1);
      }
