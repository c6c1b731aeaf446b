-- A post and a turn of an agent are events of a run of mail: what is taken at an end was written to it at the other end of its circuit.
use Rattle.std.proofs.Common.{◌≡◌, ◌∙◌, ◌+◌, ℕ, zero, suc, refl, sym, ap, subst, List, [], ◌∷◌, ◌++◌, append_assoc, append-nil, drop, length, map, Bool, true, false, cond, inr}
use Rattle.std.specs.Prelude.{◌&&◌, ◌==◌, nat_lt, slice_get, slice_set, Option, Some, None, is_none, is_some, Result, Ok, Err}
use Rattle.std.specs.List.{AllByRecursion}
use Rattle.radio_base.specs.declared.modulus.LinkModulus.{LinkModulus}
use Rattle.radio_base.specs.declared.modulus.LinkModulus.TheVariants.{Modulo8}
use Rattle.ax_address.specs.Callsign.{Callsign, IsCallsign}
use Rattle.circuit_l4.specs.Halves.{first_or}
use Rattle.circuit_l4.specs.State.{inbox, is_up}
use Rattle.circuit_set.specs.Books.{Book, Fresh, empty, with_events, partner}
use Rattle.circuit_set.specs.ByBook.{FreshByBook, PartnersByBook}
use Rattle.circuit_table.specs.CircuitSets.{partner_at}
use Rattle.circuit_table.specs.Events.{Event, Name}
use Rattle.circuit_set.specs.Facing.{EndsStay, Faces, PartnersFace}
use Rattle.circuit_set.specs.NotedRuns.{Net, begins, end_at, net_run, net_step}
use Rattle.circuit_set.specs.Returning.{CallsDiffer}
use Rattle.circuit_table.specs.Runs.{AreStarts, Step, end_in, end_named, events_of, sets_at, sets_run, told_at}
use Rattle.circuit_set.specs.Safe.{CircuitsSafe, PartnersLast, Safe, SafeAlone}
use Rattle.circuit_table.specs.Sets.{Act, Holder, SetState, end_of, set_step}
use Rattle.circuit_table.specs.Standing.{message_at, take_answer}
use Rattle.circuit_set.specs.TooLate.{IsFresh, Partners}
use Rattle.circuit_set.specs.Writings.{EndsWroteByWrites}
use Rattle.network_file.specs.declared.plan.declarations.Declaration.{Declaration}
use Rattle.network_file.specs.declared.plan.keys.Key.TheVariants.{Mail, Prompt}
use Rattle.network_file.specs.Plan.{Plan}
use Rattle.network_file.specs.Keys.{value_of}
use Rattle.node_core.specs.Acts.{answer_to_take, refuse, take, UserAct}
use Rattle.node_core.specs.declared.acts.ActDone.{ActDone}
use Rattle.node_core.specs.declared.acts.ActDone.TheVariants.{Done, Made, Took}
use Rattle.node_core.specs.declared.acts.ActRefusal.{ActRefusal}
use Rattle.node_core.specs.declared.acts.ActRefusal.TheVariants as refusal
use Rattle.node_core.specs.Inputs.{act_answer, moment}
use Rattle.node_core.specs.Runs.{ActsRun, BytesRun, InputsAreSteps, RunsBy, TicksRun, steps_at, user_writes, writes_in}
use Rattle.node_model.specs.Serving.{is_served}
use Rattle.node_model.specs.States.{NodeState, State}
use Rattle.node_core.specs.Acts as acts
use Rattle.node_model.specs.Users.{facts}
use Rattle.node_mail.specs.Lists.{Lists, answer_to, hear_at, hear_step, letter_of, offer, post_step, octets_or}
use Rattle.node_mail.specs.Runs as mail
use Rattle.node_mail.specs.Runs.{MailRun, Written, with_store, with_written}
use Rattle.node_mail.specs.Wires.{Wire, wire_octets}
use Rattle.net_model.specs.SoundPlans.{first_sets, set_of}
use Rattle.net_model.specs.Ends.{ends_of, offered_at}
use Rattle.net_model.specs.Events as events
use Rattle.net_model.specs.Mailing as mailing
use Rattle.net_model.specs.Mailing.{Agent, dest_of, ends_here, heard_by, input, mail_at, mail_in, may_write, numbers_for, offer_all, offer_octets, queued_of, with_mail, write_answer_to}
use Rattle.net_model.specs.Starting.{Placed, new_nodes}
use Rattle.net_model.specs.World as worlds
use Rattle.net_model.specs.World.{World, after, answer, put, reach, tell, tells_entries}
use Rattle.net_model.proofs.Continuing.{offer_by, take_then, took_by}
use Rattle.net_model.proofs.Containing.{AreApart, Contains, TracksAt, name_at, names, quiet_contains}
use Rattle.net_laws.proofs.EndWrites as ends
use Rattle.net_laws.proofs.EndWrites.{Leads_to, WritesOnly, are_silent, leads_walk, none_only, one_only, only_walk, same_end, silent_walk, wrote_more}
use Rattle.net_laws.proofs.LineRuns.{is_run}
use Rattle.net_laws.proofs.Lists.{front}
use Rattle.net_model.proofs.Looks.{answers, ends_of_placed, joined, offer_where, put_of, reaches}
use Rattle.net_laws.proofs.MailMoves as moves
use Rattle.net_laws.proofs.MailMoves.{EachKeeps, Goes, Holds, InTime, Mails, NodeKeeps, Wrote_in, joined_some, keeps}
use Rattle.net_laws.proofs.MailOrder.{IsFor, all_for, hear_order, post_order}
use Rattle.net_laws.proofs.MailRuns as runs
use Rattle.net_laws.proofs.MailRuns.{IsWritten, Reached, message, written_last}
use Rattle.net_model.proofs.MailWalks.{put_mails}
use Rattle.net_laws.proofs.MovesRun.{reach_contains}
use Rattle.net_model.proofs.Changing.{get_set}
use Rattle.net_laws.proofs.Retrying.{front_are}
use Rattle.circuit_set.proofs.Noting.{noted_append}

-- ---- a message that is taken is the first that waits

-- an end that is held, and what waits there
pub record Taken (o : Option Holder) (message : List ℕ) : Type 0 where
  pub end : Holder
  pub there : o ≡ Some end
  pub held : end.gone ≡ false
  pub rest : List (List ℕ)
  pub waits : inbox end.end.receiving ≡ message ∷ rest

first_case : (h : Holder) (message : List ℕ) (ms : List (List ℕ)) (b : Bool) → nat_lt 0 (length ms) ≡ b → inbox h.end.receiving ≡ ms → h.gone ≡ false → answer_to_take (Ok b) (first_or [] ms) ≡ Ok (Took message) → Taken (Some h) message
first_case h message ms false k e g t = absurd (cc t)
first_case h message [] true k e g t = (let bad : false ≡ true = k in absurd (cc bad))
first_case h message (m ∷ ms) true k e g t =
    let same : m ≡ message = cc t in
    record { end = h; there = refl; held = g; rest = ms; waits = e ∙ ap (λ x. x ∷ ms) same }

held_case : (h : Holder) (message : List ℕ) (b : Bool) → h.gone ≡ b
    → answer_to_take (cond b (Err (record {})) (Ok (nat_lt 0 (length (inbox h.end.receiving))))) (cond b [] (first_or [] (inbox h.end.receiving))) ≡ Ok (Took message) → Taken (Some h) message
held_case h message true g t = absurd (cc t)
held_case h message false g t = first_case h message (inbox h.end.receiving) (nat_lt 0 (length (inbox h.end.receiving))) refl refl g t

end_case : (o : Option Holder) (message : List ℕ) → answer_to_take (take_answer o) (message_at [] o) ≡ Ok (Took message) → Taken o message
end_case None message t = absurd (cc t)
end_case (Some h) message t = held_case h message h.gone refl t

kept_case : (b : Bool) (now id : ℕ) (n : State) (message : List ℕ) → (cond b (refuse refusal.Served n) (take now id n)).answer ≡ Ok (Took message) → Taken (end_of id n.set.set.ends) message
kept_case true now id n message t = absurd (cc t)
kept_case false now id n message t = end_case (end_of id n.set.set.ends) message t

taken : (now id : ℕ) (n : NodeState) (message : List ℕ) → act_answer now (acts.Take id) n ≡ Ok (Took message) → Taken (end_of id n.station.set.set.ends) message
taken now id n message t = kept_case (is_some (facts id n.station) && is_served id n.station.sessions) (moment now) id n.station message t

-- where it leads
partner_is : (o : Option Holder) (to : Callsign) (h : Holder) → o ≡ Some h → h.gone ≡ false → partner_at o ≡ Some to → h.at ≡ to
partner_is o to h there held e =
    let at : Some h.at ≡ Some to = sym (ap (λ b. cond b None (Some h.at)) held) ∙ (sym (ap partner_at there) ∙ e) in cc at

-- ---- lists

drop_nothing : {A : Type 0} (n : ℕ) → ◌≡◌ {A = List A} (drop n []) []
drop_nothing zero = refl
drop_nothing (suc n) = refl

drop_all : {A : Type 0} (P : A → Type 0) (n : ℕ) (xs : List A) → AllByRecursion P xs → AllByRecursion P (drop n xs)
drop_all P zero xs a = a
drop_all P (suc n) [] a = tt
drop_all P (suc n) (x ∷ xs) a = drop_all P n xs a.1

named_at : (nodes : List Placed) (n : ℕ) (d : Declaration) → slice_get (names nodes) n ≡ Some d → (p : Placed) × (slice_get nodes n ≡ Some p)
named_at [] n d e = absurd (cc e)
named_at (p ∷ nodes) zero d e = (p, refl)
named_at (p ∷ nodes) (suc n) d e = named_at nodes n d e

named_set : (nodes : List Placed) (n : ℕ) (s : SetState) → slice_get (map set_of nodes) n ≡ Some s → (d : Declaration) × (slice_get (names nodes) n ≡ Some d)
named_set [] n s e = absurd (cc e)
named_set (p ∷ nodes) zero s e = (p.declared, refl)
named_set (p ∷ nodes) (suc n) s e = named_set nodes n s e

-- ---- a node that puts out frames has the ends that it had

ends_put : (nodes : List Placed) (at : ℕ) (p q : Placed) → slice_get nodes at ≡ Some p → q.state.station.set.set.ends ≡ p.state.station.set.set.ends → (k : ℕ)
    → ends_of_placed (slice_get (slice_set nodes at q) k) ≡ ends_of_placed (slice_get nodes k)
ends_put [] at p q e same k = absurd (cc e)
ends_put (x ∷ nodes) zero p q e same zero = (let is : x ≡ p = cc e in same ∙ sym (ap (λ (y : Placed). y.state.station.set.set.ends) is))
ends_put (x ∷ nodes) zero p q e same (suc k) = refl
ends_put (x ∷ nodes) (suc at) p q e same zero = refl
ends_put (x ∷ nodes) (suc at) p q e same (suc k) = ends_put nodes at p q e same k

put_ends_case : (line at : ℕ) (came : LinkModulus) (w : World) (k : ℕ) (o : Option Placed) → slice_get w.nodes at ≡ o → ends_here k (put_of line at came o w) ≡ ends_here k w
put_ends_case line at came w k None e = refl
put_ends_case line at came w k (Some p) e = ends_put w.nodes at p (record p { state = worlds.all_fetched_of p.state }) e refl k

put_ends : (line at : ℕ) (came : LinkModulus) (w : World) (k : ℕ) → ends_here k (put line at came w) ≡ ends_here k w
unfolding put
put_ends line at came w k = put_ends_case line at came w k (slice_get w.nodes at) refl

-- ---- runs

run_book : (net : Net) (steps : List Step) → (net_run net steps).book ≡ with_events net.book (events_of net.sets steps)
run_book net [] = refl
run_book net (st ∷ sts) =
    run_book (net_step net st) sts
    ∙ sym (noted_append net.book (told_at net.sets st.node (slice_get net.sets st.node) st.act) (events_of (sets_at net.sets st.node (slice_get net.sets st.node) st.act) sts))

put_before : (xs : List SetState) (at n : ℕ) (y u s : SetState) → slice_get xs at ≡ Some u → slice_get (slice_set xs at y) n ≡ Some s → (t : SetState) × (slice_get xs n ≡ Some t)
put_before [] at n y u s e f = absurd (cc e)
put_before (x ∷ xs) zero zero y u s e f = (x, refl)
put_before (x ∷ xs) zero (suc n) y u s e f = (s, f)
put_before (x ∷ xs) (suc at) zero y u s e f = (x, refl)
put_before (x ∷ xs) (suc at) (suc n) y u s e f = put_before xs at n y u s e f

set_before : (sets : List SetState) (st : Step) (o : Option SetState) (n : ℕ) (s : SetState) → slice_get sets st.node ≡ o → slice_get (sets_at sets st.node o st.act) n ≡ Some s → (t : SetState) × (slice_get sets n ≡ Some t)
set_before sets st None n s e f = (s, f)
set_before sets st (Some u) n s e f = put_before sets st.node n (set_step u st.act).set u s e f

set_first : (steps : List Step) (sets : List SetState) (n : ℕ) (s : SetState) → slice_get (sets_run sets steps) n ≡ Some s → (t : SetState) × (slice_get sets n ≡ Some t)
set_first [] sets n s e = (s, e)
set_first (st ∷ sts) sets n s e =
    let r = set_first sts (sets_at sets st.node (slice_get sets st.node) st.act) n s e in set_before sets st (slice_get sets st.node) n r.0 refl r.1

fresh_front : (xs ys : List Event) → IsFresh (xs ++ ys) → IsFresh xs
fresh_front xs ys fresh before after e x pair at request parts tells =
    fresh before (after ++ ys) e x pair at request (ap (λ es. es ++ ys) parts ∙ append_assoc before (e ∷ after) ys) tells

events_then : (sets : List SetState) (steps later : List Step) → (more : List Event) × (events_of sets (steps ++ later) ≡ events_of sets steps ++ more)
events_then sets [] later = (events_of sets later, refl)
events_then sets (st ∷ sts) later =
    let next : List SetState = sets_at sets st.node (slice_get sets st.node) st.act in
    let told : List Event = told_at sets st.node (slice_get sets st.node) st.act in
    let r = events_then next sts later in (r.0, ap (λ es. told ++ es) r.1 ∙ sym (append_assoc told (events_of next sts) r.0))

module _ (plan : Plan) (apart : AreApart (names (new_nodes plan))) (are_steps : InputsAreSteps) (bytes : BytesRun) (ticks : TicksRun) (acts_run : ActsRun)
    (wrote_law : EndsWroteByWrites) (stay : EndsStay) (starts : AreStarts (first_sets plan)) (calls : CallsDiffer (first_sets plan))
    (prompts : (node : ℕ) → ((value_of plan.settings node Mail == 1) && (value_of plan.settings node Prompt == 1)) ≡ false) where
  abbrev Kept : MailRun → World → Type 0
  Kept m w = EachKeeps plan apart are_steps bytes ticks acts_run wrote_law stay starts calls prompts m w

  abbrev WroteBy : List Written → List Step → Type 0
  WroteBy ws steps = Wrote_in plan apart are_steps bytes ticks acts_run wrote_law stay starts calls prompts ws steps

  abbrev Held : List Step → World → Type 0
  Held steps w = Holds plan apart are_steps bytes ticks acts_run wrote_law stay starts calls prompts steps w

  abbrev Went_on : List Step → World → World → Type 0
  Went_on steps w v = Goes plan apart are_steps bytes ticks acts_run wrote_law stay starts calls prompts steps w v

  abbrev Goes_on : World → World → Type 0
  Goes_on w v = Mails plan apart are_steps bytes ticks acts_run wrote_law stay starts calls prompts w v

  abbrev OfTime : List Step → Type 0
  OfTime all = InTime plan apart are_steps bytes ticks acts_run wrote_law stay starts calls prompts all

  abbrev Declared : List Declaration
  Declared = names (new_nodes plan)

  abbrev Has_store : Callsign → Bool
  Has_store = keeps plan apart are_steps bytes ticks acts_run wrote_law stay starts calls prompts

  abbrev LeadsTo : List Step → ℕ → ℕ → Callsign → Type 0
  LeadsTo steps n id to = Leads_to wrote_law stay (first_sets plan) starts Declared steps n id to

  abbrev Reaches : MailRun → Type 0
  Reaches m = Reached Has_store m

  -- ---- posts

  post_case : (at : ℕ) (to dest : Callsign) (text : List ℕ) (s : Lists) (w : World) (steps : List Step) → Contains plan steps w.nodes w.told → mail_at at w ≡ Some s → IsCallsign to.letters to.ssid → Held steps w → (o : Option Placed) → slice_get w.nodes at ≡ o
      → Held steps (with_mail at (post_step s to dest text) w)
  post_case at to dest text s w steps c m i h None e = record {
    run = h.run;
    reached = h.reached;
    nodes = moves.stored_nowhere plan apart are_steps bytes ticks acts_run wrote_law stay starts calls prompts h.run w at (post_step s to dest text) e h.nodes;
    wrote = h.wrote;
  }
  post_case at to dest text s w steps c m i h (Some p) e =
      let k = h.nodes at p e in record {
        run = with_store h.run p.declared.call (post_step s to dest text);
        reached = runs.posted Has_store h.run p.declared.call to dest text s (k.store ∙ m) i h.reached;
        nodes = moves.stored plan apart are_steps bytes ticks acts_run wrote_law stay starts calls prompts h.run w at p s (post_step s to dest text) e c.names_are m (post_order s to dest text (k.ordered s m)) h.nodes;
        wrote = h.wrote;
      }

  pub posts : (at : ℕ) (to dest : Callsign) (text : List ℕ) (s : Lists) (w : World) → mail_at at w ≡ Some s → IsCallsign to.letters to.ssid → Goes_on w (with_mail at (post_step s to dest text) w)
  posts at to dest text s w m i steps c =
      moves.at_once plan apart are_steps bytes ticks acts_run wrote_law stay starts calls prompts w (with_mail at (post_step s to dest text) w) steps c (λ h. post_case at to dest text s w steps c m i h (slice_get w.nodes at) refl)

  -- ---- a write of an agent

  -- steps that lead on, where a run of mail has the message
  record Writing (at id : ℕ) (text : List ℕ) (steps : List Step) (w v : World) : Type 0 where
    more : List Step
    contains : Contains plan (steps ++ more) v.nodes v.told
    mails : v.mails ≡ w.mails
    holds : (m : MailRun) (s : Lists) (d : Declaration) (to : Callsign) → Reaches m → mail_at at w ≡ Some s → slice_get Declared at ≡ Some d → IsWritten m.written d.call to text → LeadsTo steps at id to
        → Kept m w → WroteBy m.written steps → Kept m v × WroteBy m.written (steps ++ more)

  only : (now id : ℕ) (text : List ℕ) (inputs : List Act) (r : Result ActDone ActRefusal) → writes_in inputs ≡ user_writes now (acts.Write id text) r → AllByRecursion (WritesOnly id text) inputs
  only now id text inputs (Ok d) e = one_only id now text inputs e
  only now id text inputs (Err why) e = none_only id text inputs e

  reach_case : (line at id : ℕ) (text : List ℕ) (w : World) (steps : List Step) (o : Option Placed) → slice_get w.nodes at ≡ o → Contains plan steps w.nodes w.told → Writing at id text steps w (reaches line at (worlds.Act (acts.Write id text)) o w)
  reach_case line at id text w steps None e c = record {
    more = [];
    contains = subst (λ ss. Contains plan ss w.nodes w.told) (sym (append-nil steps)) c;
    mails = refl;
    holds = λ m s d to r mine here known leads kept wrote. (kept, subst (WroteBy m.written) (sym (append-nil steps)) wrote);
  }
  reach_case line at id text w steps (Some p) e c =
      let act : UserAct = acts.Write id text in
      let n : NodeState = after w.now (worlds.Act act) p.state in
      let b : RunsBy (user_writes (moment w.now) act (act_answer w.now act p.state)) p.state.station n.station = acts_run w.now act p.state tt (c.tracks at p e).tracks.rest in record {
        more = steps_at at b.run.inputs;
        contains = reach_contains plan apart are_steps bytes ticks acts_run steps w line at p n c e b.run;
        mails = refl;
        holds = λ m s d to r mine here known leads kept wrote. (
          moves.come plan apart are_steps bytes ticks acts_run wrote_law stay starts calls prompts line at w p n e b.run m kept,
          only_walk wrote_law stay (first_sets plan) starts Declared m.written at id text d to here known b.run.inputs
              (only (moment w.now) id text b.run.inputs (act_answer w.now act p.state)
              (b.writes (moves.quiet plan apart are_steps bytes ticks acts_run wrote_law stay starts calls prompts m p (mail_at at w) s (kept at p e) mine)))
              steps leads wrote,
        );
      }

  reach_writes : (line at id : ℕ) (text : List ℕ) (w : World) (steps : List Step) → Contains plan steps w.nodes w.told → Writing at id text steps w (reach line at (worlds.Act (acts.Write id text)) w)
  unfolding reach
  reach_writes line at id text w steps c = reach_case line at id text w steps (slice_get w.nodes at) refl c

  put_stays : (line at : ℕ) (w : World) (steps : List Step) → Contains plan steps w.nodes w.told
      → (let v : World = put line at Modulo8 w in Contains plan steps v.nodes v.told × ((m : MailRun) → Kept m w → Kept m v))
  put_stays line at w steps c = moves.put_stays plan apart are_steps bytes ticks acts_run wrote_law stay starts calls prompts line at Modulo8 w steps c

  -- an input of an agent
  input_writes : (line at id : ℕ) (text : List ℕ) (w : World) (steps : List Step) → Contains plan steps w.nodes w.told → Writing at id text steps w (input line at (acts.Write id text) w)
  input_writes line at id text w steps c =
      let v : World = put line at Modulo8 w in
      let r = put_stays line at w steps c in
      let mails : v.mails ≡ w.mails = put_mails line at Modulo8 w in
      let b : Writing at id text steps v (reach line at (worlds.Act (acts.Write id text)) v) = reach_writes line at id text v steps r.0 in record {
        more = b.more;
        contains = b.contains;
        mails = b.mails ∙ mails;
        holds = λ m s d to reached mine here known leads kept wrote. b.holds m s d to reached (ap (mail_in at) mails ∙ mine) here known leads (r.1 m kept) wrote;
      }

  -- ---- mails are offered

  -- by these numbers: where all of them are for the node to which the end leads
  record Offering (at id : ℕ) (dest : Callsign) (numbers : List ℕ) (steps : List Step) (w v : World) : Type 0 where
    more : List Step
    contains : Contains plan (steps ++ more) v.nodes v.told
    holds : (s : Lists) (d : Declaration) → mail_at at w ≡ Some s → slice_get Declared at ≡ Some d → LeadsTo steps at id dest → AllByRecursion (IsFor dest s.queued) numbers → Held steps w → Held (steps ++ more) v

  nothing_offered : (at id : ℕ) (dest : Callsign) (numbers : List ℕ) (steps : List Step) (w : World) → Contains plan steps w.nodes w.told → Offering at id dest numbers steps w w
  nothing_offered at id dest numbers steps w c = record {
    more = [];
    contains = subst (λ ss. Contains plan ss w.nodes w.told) (sym (append-nil steps)) c;
    holds = λ s d mine here leads all h. subst (λ ss. Held ss w) (sym (append-nil steps)) h;
  }

  -- a mail is written
  wrote_one : (line at id number : ℕ) (dest : Callsign) (steps : List Step) (w : World) (s : Lists) (d : Declaration) → Contains plan steps w.nodes w.told → mail_at at w ≡ Some s → slice_get Declared at ≡ Some d
      → LeadsTo steps at id dest → IsFor dest s.queued number → (b : Writing at id (octets_or [] (letter_of number (queued_of (mail_at at w)))) steps w (input line at (acts.Write id (octets_or [] (letter_of number (queued_of (mail_at at w))))) w))
      → Held steps w → Held (steps ++ b.more) (input line at (acts.Write id (octets_or [] (letter_of number (queued_of (mail_at at w))))) w)
  wrote_one line at id number dest steps w s d c mine here leads for b h =
      let p = named_at w.nodes at d (ap (λ xs. slice_get xs at) c.names_are ∙ here) in
      let k : NodeKeeps plan apart are_steps bytes ticks acts_run wrote_law stay starts calls prompts h.run p.0 (mail_at at w) = h.nodes at p.0 p.1 in
      let own : p.0.declared ≡ d = (let two : Some p.0.declared ≡ Some d = sym (name_at w.nodes at p.0 p.1) ∙ (ap (λ xs. slice_get xs at) c.names_are ∙ here) in cc two) in
      let store : h.run.store_of d.call ≡ Some s = ap (λ (e : Declaration). h.run.store_of e.call) (sym own) ∙ (k.store ∙ mine) in
      let text : List ℕ = octets_or [] (letter_of number (queued_of (mail_at at w))) in
      let is : wire_octets (offer for.0) ≡ text = sym (ap (λ o. octets_or [] (letter_of number (queued_of o))) mine ∙ ap (octets_or []) for.1) in
      let m : MailRun = with_written h.run d.call for.0.dest (wire_octets (offer for.0)) in
      let known : IsWritten m.written d.call dest text =
      subst (λ to. IsWritten m.written d.call to text) for.2 (subst (IsWritten m.written d.call for.0.dest) is (written_last h.run.written d.call for.0.dest (wire_octets (offer for.0)))) in
      let reached : Reaches m = runs.offered Has_store h.run d.call number for.0 s store for.1 h.reached in
      let r = b.holds m s d dest reached mine here known leads (moves.restore plan apart are_steps bytes ticks acts_run wrote_law stay starts calls prompts h.run m w refl h.nodes)
      (wrote_more wrote_law stay (first_sets plan) starts Declared h.run.written (message d.call for.0.dest (wire_octets (offer for.0)) ∷ []) steps h.wrote) in
      record { run = m; reached = reached; nodes = r.0; wrote = r.1 }

  module _ (line node at id : ℕ) (dest : Callsign) where
    offered_case : (number : ℕ) (numbers : List ℕ) (steps : List Step) (w : World) → Contains plan steps w.nodes w.told
        → ((more : List Step) (u : World) → Contains plan more u.nodes u.told → Offering at id dest numbers more u (mailing.offer line node at id numbers u))
        → (b : Bool) → Offering at id dest (number ∷ numbers) steps w (offer_by line node at id number b (mailing.offer line node at id numbers) w)
    offered_case number numbers steps w c rest false = nothing_offered at id dest (number ∷ numbers) steps w c
    offered_case number numbers steps w c rest true =
        let text : List ℕ = octets_or [] (letter_of number (queued_of (mail_at at w))) in
        let v : World = input line at (acts.Write id text) w in
        let b : Writing at id text steps w v = input_writes line at id text w steps c in
        let u : World = tell line (events.Offered node id number ∷ []) v in
        let told : Contains plan (steps ++ b.more) u.nodes u.told = quiet_contains plan apart are_steps (steps ++ b.more) v.nodes v.told line (events.Offered node id number ∷ []) (tt, tt) b.contains in
        let x : World = mailing.offer line node at id numbers u in
        let o : Offering at id dest numbers (steps ++ b.more) u x = rest (steps ++ b.more) u told in record {
          more = b.more ++ o.more;
          contains = subst (λ ss. Contains plan ss x.nodes x.told) (append_assoc steps b.more o.more) o.contains;
          holds = λ s d mine here leads all h.
              (let one : Held (steps ++ b.more) v = wrote_one line at id number dest steps w s d c mine here leads all.0 b h in
              let now : Held (steps ++ b.more) u = moves.same_holds plan apart are_steps bytes ticks acts_run wrote_law stay starts calls prompts (steps ++ b.more) v u refl refl one in
              subst (λ ss. Held ss x) (append_assoc steps b.more o.more)
              (o.holds s d (ap (mail_in at) b.mails ∙ mine) here (leads_walk wrote_law stay (first_sets plan) starts Declared b.more steps at id dest leads) all.1 now));
        }

    offers_case : (numbers : List ℕ) (steps : List Step) (w : World) → Contains plan steps w.nodes w.told → Offering at id dest numbers steps w (mailing.offer line node at id numbers w)
    offers_case [] steps w c = nothing_offered at id dest [] steps w c
    offers_case (number ∷ numbers) steps w c =
        offered_case number numbers steps w c (offers_case numbers) (may_write at id (offer_octets line node at number w) w)

  -- the end to which the run of the circuits has led, of one that the node knows of
  known_end : (steps : List Step) (w : World) (at id : ℕ) (p : Placed) (h : Holder) → Contains plan steps w.nodes w.told → slice_get w.nodes at ≡ Some p → end_of id (set_of p).ends ≡ Some h
      → end_named (sets_run (first_sets plan) steps) (record { node = at; id = id }) ≡ Some h
  known_end steps w at id p h c e q =
      let r = (is_run plan apart are_steps bytes ticks acts_run steps w c).nodes at p e in ap (λ o. end_in o id) r.1 ∙ r.2.held id h q

  dest_end : (o : Option Holder) (dest : Callsign) → dest_of o ≡ Some dest → (h : Holder) × (o ≡ Some h) × (h.at ≡ dest)
  dest_end None dest e = absurd (cc e)
  dest_end (Some h) dest e = by (is_none h.asked && is_up h.end.phase) h.gone refl e
    where
      by : (b g : Bool) → h.gone ≡ g → cond b (partner_at (Some h)) None ≡ Some dest → (k : Holder) × (Some h ≡ Some k) × (k.at ≡ dest)
      by false g q f = absurd (cc f)
      by true true q f = (let bad : None ≡ Some dest = sym (ap (λ c. cond c None (Some h.at)) q) ∙ f in absurd (cc bad))
      by true false q f = (h, refl, partner_is (Some h) dest h refl q f)

  where_case : (line node at id : ℕ) (w : World) (o : Option Callsign) → dest_of (end_of id (ends_here at w)) ≡ o → Goes_on w (offer_where line node at id o w)
  where_case line node at id w None e steps c = moves.still plan apart are_steps bytes ticks acts_run wrote_law stay starts calls prompts w steps c
  where_case line node at id w (Some dest) e steps c = by (slice_get w.nodes at) refl (mail_at at w) refl
    where
      by : (o : Option Placed) → slice_get w.nodes at ≡ o → (m : Option Lists) → mail_at at w ≡ m
          → Went_on steps w (mailing.offer line node at id (numbers_for dest (offered_at id (ends_of node w.told)) (queued_of (mail_at at w))) w)
      by None none m q =
          (let h = dest_end (end_of id (ends_here at w)) dest e in
          let bad : None ≡ Some h.0 = sym (ap (λ o. end_of id (ends_of_placed o)) none) ∙ h.1 in
          absurd (cc bad))
      by (Some p) there None q =
          subst (λ ns. Went_on steps w (mailing.offer line node at id ns w)) (sym (ap (λ o. numbers_for dest (offered_at id (ends_of node w.told)) (queued_of o)) q))
          (moves.still plan apart are_steps bytes ticks acts_run wrote_law stay starts calls prompts w steps c)
      by (Some p) there (Some s) q =
          let h = dest_end (end_of id (ends_here at w)) dest e in
          let end : end_of id (set_of p).ends ≡ Some h.0 = sym (ap (λ o. end_of id (ends_of_placed o)) there) ∙ h.1 in
          let leads : LeadsTo steps at id dest = (h.0, known_end steps w at id p h.0 c there end, h.2) in
          let named : slice_get Declared at ≡ Some p.declared = ap (λ xs. slice_get xs at) (sym c.names_are) ∙ name_at w.nodes at p there in
          let ns : List ℕ = numbers_for dest (offered_at id (ends_of node w.told)) (queued_of (mail_at at w)) in
          let o : Offering at id dest ns steps w (mailing.offer line node at id ns w) = offers_case line node at id dest ns steps w c in (
            o.more,
            o.contains,
            λ later t k. o.holds s p.declared q named leads
                (subst (λ m. AllByRecursion (IsFor dest s.queued) (numbers_for dest (offered_at id (ends_of node w.told)) (queued_of m))) (sym q)
                (all_for dest (offered_at id (ends_of node w.told)) s.queued ((k.nodes at p there).ordered s q).rises))
                k,
          )

  pub offers : (line node at id : ℕ) (w : World) → Goes_on w (offer_all line node at id w)
  offers line node at id w = where_case line node at id w (dest_of (end_of id (ends_here at w))) refl

  -- ---- what waits is taken, and heard

  -- the node at a place has the call of its circuits, and there is one where circuits are
  call_there : (steps : List Step) (w : World) (n : ℕ) (q : Placed) (s : SetState) → Contains plan steps w.nodes w.told → slice_get w.nodes n ≡ Some q → slice_get (sets_run (first_sets plan) steps) n ≡ Some s → s.own ≡ q.declared.call
  call_there steps w n q s c e f =
      let t : TracksAt plan w.told (sets_run (first_sets plan) steps) n q = c.tracks n q e in
      let same : s ≡ t.set = (let two : Some s ≡ Some t.set = sym f ∙ t.here in cc two) in
      ap (λ (x : SetState). x.own) same ∙ (ap (λ (x : SetState). x.own) t.tracks.is ∙ t.tracks.own)

  node_there : (steps : List Step) (w : World) (n : ℕ) (s : SetState) → Contains plan steps w.nodes w.told → slice_get (sets_run (first_sets plan) steps) n ≡ Some s → (q : Placed) × (slice_get w.nodes n ≡ Some q)
  node_there steps w n s c f =
      let a = set_first steps (first_sets plan) n s f in
      let d = named_set (new_nodes plan) n a.0 a.1 in named_at w.nodes n d.0 (ap (λ xs. slice_get xs n) c.names_are ∙ d.1)

  module _ (partners : PartnersByBook) (fresh_law : FreshByBook) (face : PartnersFace) (safe : CircuitsSafe) (last : PartnersLast) where
    -- what waits at an end was written at its partner, for the end's node
    module _ (steps later : List Step) (t : OfTime (steps ++ later)) (w : World) (c : Contains plan steps w.nodes w.told) (at id : ℕ) (p : Placed) (e : slice_get w.nodes at ≡ Some p)
        (text : List ℕ) (got : Taken (end_of id (set_of p).ends) text) (ws : List Written) (wrote : WroteBy ws steps) where
      abbrev mine_is : Name
      mine_is = record { node = at; id = id }

      abbrev told : List Event
      told = events_of (first_sets plan) steps

      abbrev net : Net
      net = net_run (begins (first_sets plan)) steps

      abbrev h : Holder
      h = got.end

      there : end_named (sets_run (first_sets plan) steps) mine_is ≡ Some h
      there = known_end steps w at id p h c e got.there

      noted_fresh : Fresh empty told
      noted_fresh =
          let more = events_then (first_sets plan) steps later in (fresh_law told).1 (fresh_front told more.0 (subst IsFresh more.1 t.fresh))

      all_safe : Safe (first_sets plan) steps
      all_safe = safe (first_sets plan) starts steps later t.are t.timely t.fresh

      set_is : (n : ℕ) (s : SetState) → slice_get net.sets n ≡ Some s → slice_get (sets_run (first_sets plan) steps) n ≡ Some s
      set_is n s f = ap (λ ss. slice_get ss n) (sym (ends.run_sets (begins (first_sets plan)) steps)) ∙ f

      end_is : (z : Name) (k : Holder) → end_at net z ≡ Some k → end_named (sets_run (first_sets plan) steps) z ≡ Some k
      end_is z k f = ap (λ ss. end_named ss z) (sym (ends.run_sets (begins (first_sets plan)) steps)) ∙ f

      alone : SafeAlone h.end → IsWritten ws h.at p.declared.call text
      alone a =
          let none : inbox h.end.receiving ≡ [] = ap (λ ms. drop h.end.receiving.taken ms) a.received ∙ drop_nothing h.end.receiving.taken in
          let bad : [] ≡ text ∷ got.rest = sym none ∙ got.waits in absurd (cc bad)

      by_partner : (y : Name) → Partners told mine_is y → partner (with_events empty told) mine_is ≡ Some y → IsWritten ws h.at p.declared.call text
      by_partner y j q =
          let f : Faces net mine_is y = face (first_sets plan) starts calls steps (front_are steps later t.are) mine_is y (ap (λ (b : Book). partner b mine_is) (run_book (begins (first_sets plan)) steps) ∙ q) in
          let mine : f.mine ≡ h = same_end (end_named (sets_run (first_sets plan) steps) mine_is) (end_is mine_is f.mine f.here) there in
          let k : Holder = f.other in
          let other : end_named (sets_run (first_sets plan) steps) y ≡ Some k = end_is y k f.there in
          let back : Partners told y mine_is = (last (first_sets plan) starts steps later t.are t.timely t.fresh mine_is y j).1 in
          let came = ((all_safe y k other).end.joined mine_is h back there).received in
          let set_y = set_is y.node f.at.0 f.at.1 in
          let node_y = node_there steps w y.node f.at.0 c set_y in
          let from : node_y.0.declared.call ≡ h.at = sym (call_there steps w y.node node_y.0 f.at.0 c node_y.1 set_y) ∙ (f.at.2 ∙ ap (λ (i : Holder). i.at) mine) in
          let to : k.at ≡ p.declared.call = sym f.back.2 ∙ call_there steps w at p f.back.0 c e (set_is at f.back.0 f.back.1) in
          let named_y : slice_get Declared y.node ≡ Some node_y.0.declared = ap (λ xs. slice_get xs y.node) (sym c.names_are) ∙ name_at w.nodes y.node node_y.0 node_y.1 in
          let all : AllByRecursion (IsWritten ws node_y.0.declared.call k.at) k.end.sending.wrote = wrote y node_y.0.declared k named_y other in
          let received : AllByRecursion (IsWritten ws node_y.0.declared.call k.at) h.end.receiving.received =
          front (IsWritten ws node_y.0.declared.call k.at) h.end.receiving.received came.0 (subst (AllByRecursion (IsWritten ws node_y.0.declared.call k.at)) came.1 all) in
          let waiting : AllByRecursion (IsWritten ws node_y.0.declared.call k.at) (text ∷ got.rest) =
          subst (AllByRecursion (IsWritten ws node_y.0.declared.call k.at)) got.waits (drop_all (IsWritten ws node_y.0.declared.call k.at) h.end.receiving.taken h.end.receiving.received received) in
          subst (λ a. IsWritten ws a p.declared.call text) from (subst (λ b. IsWritten ws node_y.0.declared.call b text) to waiting.0)

      partner_case : (o : Option Name) → partner (with_events empty told) mine_is ≡ o → IsWritten ws h.at p.declared.call text
      partner_case None q = alone ((all_safe mine_is h there).end.alone ((partners told noted_fresh mine_is).1.0 q))
      partner_case (Some y) q = by_partner y (((partners told noted_fresh mine_is).0 y).0 q) q

      came_from : IsWritten ws h.at p.declared.call text
      came_from = partner_case (partner (with_events empty told) mine_is) refl

    -- one taking, at the node at a place
    module _ (line node at id : ℕ) (u w : World) (steps : List Step) (c : Contains plan steps w.nodes w.told) (kept : (m : MailRun) → Kept m u → Kept m w) (p : Placed) (e : slice_get w.nodes at ≡ Some p) where
      abbrev act : UserAct
      act = acts.Take id

      abbrev n : NodeState
      n = after w.now (worlds.Act act) p.state

      abbrev v : World
      v = tells_entries line at p n w

      by_act : RunsBy (user_writes (moment w.now) act (act_answer w.now act p.state)) p.state.station n.station
      by_act = acts_run w.now act p.state tt (c.tracks at p e).tracks.rest

      abbrev first_more : List Step
      first_more = steps_at at by_act.run.inputs

      contains_v : Contains plan (steps ++ first_more) v.nodes v.told
      contains_v = reach_contains plan apart are_steps bytes ticks acts_run steps w line at p n c e by_act.run

      kept_v : (m : MailRun) → Kept m u → Kept m v
      kept_v m k = moves.come plan apart are_steps bytes ticks acts_run wrote_law stay starts calls prompts line at w p n e by_act.run m (kept m k)

      -- it was only taken
      only_taken : Went_on steps u v
      only_taken = (
        first_more,
        contains_v,
        λ later t h.
            moves.went plan apart are_steps bytes ticks acts_run wrote_law stay starts calls prompts line at w p n e (user_writes (moment w.now) act (act_answer w.now act p.state)) by_act (inr refl) steps c
            (record { run = h.run; reached = h.reached; nodes = kept h.run h.nodes; wrote = h.wrote }) (mail_at at w) refl,
      )

      -- it was heard, too
      module _ (text : List ℕ) (got : Taken (end_of id (set_of p).ends) text) (from : Callsign) (to : got.end.at ≡ from) (s : Lists) (mine : mail_at at w ≡ Some s) where
        abbrev next : Lists
        next = hear_step s from text

        abbrev x : World
        x = with_mail at next v

        there_v : slice_get v.nodes at ≡ Some (record p { state = worlds.all_told n })
        there_v = get_set w.nodes at p (record p { state = worlds.all_told n }) e

        named : slice_get Declared at ≡ Some p.declared
        named = ap (λ xs. slice_get xs at) (sym c.names_are) ∙ name_at w.nodes at p e

        -- where the run of mail stands then
        record Heard (h : Held steps u) (answered : Bool) : Type 0 where
          reached : Reaches (mail.answers (with_store h.run p.declared.call next) (message from p.declared.call text) answered (answer_to (hear_at s from text)))
          nodes : Kept (with_store h.run p.declared.call next) x
          wrote : WroteBy h.run.written (steps ++ first_more)

        heard : (more later : List Step) → OfTime ((steps ++ (first_more ++ more)) ++ later) → (h : Held steps u) (answered : Bool) → Heard h answered
        heard more later t h answered =
            let kept_w : Kept h.run w = kept h.run h.nodes in
            let k : NodeKeeps plan apart are_steps bytes ticks acts_run wrote_law stay starts calls prompts h.run p (mail_at at w) = kept_w at p e in
            let time : OfTime (steps ++ ((first_more ++ more) ++ later)) = subst OfTime (append_assoc steps (first_more ++ more) later) t in
            let known : IsWritten h.run.written from p.declared.call text =
            subst (λ a. IsWritten h.run.written a p.declared.call text) to (came_from steps ((first_more ++ more) ++ later) time w c at id p e text got h.run.written h.wrote) in
            let quiet = moves.quiet plan apart are_steps bytes ticks acts_run wrote_law stay starts calls prompts h.run p (mail_at at w) s k mine in record {
              reached = runs.heard Has_store h.run from p.declared.call text s answered known (k.store ∙ mine) h.reached;
              nodes = moves.stored plan apart are_steps bytes ticks acts_run wrote_law stay starts calls prompts h.run v at (record p { state = worlds.all_told n }) s next there_v contains_v.names_are mine (hear_order s from text (k.ordered s mine))
                  (kept_v h.run h.nodes);
              wrote = silent_walk wrote_law stay (first_sets plan) starts Declared h.run.written at by_act.run.inputs (are_silent by_act.run.inputs (by_act.writes quiet)) steps h.wrote;
            }

        -- nothing is answered
        unanswered : (answered : Bool) → ((m : MailRun) → mail.answers m (message from p.declared.call text) answered (answer_to (hear_at s from text)) ≡ m) → Went_on steps u x
        unanswered answered same = (
          first_more,
          contains_v,
          λ later t h.
              (let g : Heard h answered = heard [] later (subst (λ ss. OfTime ((steps ++ ss) ++ later)) (sym (append-nil first_more)) t) h answered in
              record { run = with_store h.run p.declared.call next; reached = subst Reaches (same (with_store h.run p.declared.call next)) g.reached; nodes = g.nodes; wrote = g.wrote }),
        )

        -- an answer is written
        abbrev y : Wire → World
        y wire = input line at (acts.Write id (wire_octets wire)) x

        answered : (wire : Wire) → answer_to (hear_at s from text) ≡ Some wire → Went_on steps u (y wire)
        answered wire a =
            let r : Writing at id (wire_octets wire) (steps ++ first_more) x (y wire) = input_writes line at id (wire_octets wire) x (steps ++ first_more) contains_v in (
              first_more ++ r.more,
              subst (λ ss. Contains plan ss (y wire).nodes (y wire).told) (append_assoc steps first_more r.more) r.contains,
              λ later t h.
                  (let g : Heard h true = heard r.more later t h true in
                  let kept_run : MailRun = with_store h.run p.declared.call next in
                  let m : MailRun = with_written kept_run p.declared.call from (wire_octets wire) in
                  let reached : Reaches m = subst (λ o. Reaches (mail.answers kept_run (message from p.declared.call text) true o)) a g.reached in
                  let now : mail_at at x ≡ Some next = ap joined (get_set v.mails at (Some s) (Some next) (joined_some (slice_get v.mails at) s mine)) in
                  let leads : LeadsTo (steps ++ first_more) at id from =
                  leads_walk wrote_law stay (first_sets plan) starts Declared first_more steps at id from (got.end, known_end steps w at id p got.end c e got.there, to) in
                  let end = r.holds m next p.declared from reached now named (written_last h.run.written p.declared.call from (wire_octets wire)) leads
                  (moves.restore plan apart are_steps bytes ticks acts_run wrote_law stay starts calls prompts kept_run m x refl g.nodes)
                  (wrote_more wrote_law stay (first_sets plan) starts Declared h.run.written (message p.declared.call from (wire_octets wire) ∷ []) (steps ++ first_more) g.wrote) in
                  record {
                    run = m;
                    reached = reached;
                    nodes = end.0;
                    wrote = subst (WroteBy m.written) (append_assoc steps first_more r.more) end.1;
                  }),
            )

        written_case : (wire : Wire) → answer_to (hear_at s from text) ≡ Some wire → (b : Bool) → Went_on steps u (cond b (y wire) x)
        written_case wire a true = answered wire a
        written_case wire a false = unanswered false (λ m. ap (mail.answers m (message from p.declared.call text) false) a)

        answer_case : (o : Option Wire) → answer_to (hear_at s from text) ≡ o → Went_on steps u (write_answer_to line at id o x)
        answer_case None a = unanswered false (λ m. ap (mail.answers m (message from p.declared.call text) false) a)
        answer_case (Some wire) a = written_case wire a (may_write at id (wire_octets wire) x)

      module _ (answers_before : List events.Event) where
        abbrev b : Agent
        b = record { world = v; answers = answers_before }

        heard_case : (text : List ℕ) → Taken (end_of id (set_of p).ends) text → (from : Option Callsign) → partner_at (end_of id (set_of p).ends) ≡ from → (o : Option Lists) → mail_at at w ≡ o
            → Went_on steps u (heard_by line node at id text from o b).world
        heard_case text got None f o q = only_taken
        heard_case text got (Some from) f None q = only_taken
        heard_case text got (Some from) f (Some s) q = answer_case text got from (partner_is (end_of id (set_of p).ends) from got.end got.there got.held f) s q (answer_to (hear_at s from text)) refl

        took_case : (from : Option Callsign) → partner_at (end_of id (set_of p).ends) ≡ from → (r : Result ActDone ActRefusal) → act_answer w.now act p.state ≡ r
            → Went_on steps u (took_by line node at id from r (λ d. d) b).world
        took_case from f (Ok (Took text)) a = heard_case text (taken w.now id p.state text a) from f (mail_at at w) refl
        took_case from f (Ok Done) a = only_taken
        took_case from f (Ok (Made made)) a = only_taken
        took_case from f (Err why) a = only_taken

    node_case : (line node at id : ℕ) (a : Agent) (w : World) (steps : List Step) → Contains plan steps w.nodes w.told → ((m : MailRun) → Kept m a.world → Kept m w) → ends_here at w ≡ ends_here at a.world
        → (o : Option Placed) → slice_get w.nodes at ≡ o
        → Went_on steps a.world
        (took_by line node at id (partner_at (end_of id (ends_here at a.world))) (answers (acts.Take id) w.now o) (λ b. b) (record { world = reaches line at (worlds.Act (acts.Take id)) o w; answers = a.answers })).world
    node_case line node at id a w steps c kept same None e =
        moves.at_once plan apart are_steps bytes ticks acts_run wrote_law stay starts calls prompts a.world w steps c (λ h. record { run = h.run; reached = h.reached; nodes = kept h.run h.nodes; wrote = h.wrote })
    node_case line node at id a w steps c kept same (Some p) e =
        took_case line node at id a.world w steps c kept p e a.answers (partner_at (end_of id (ends_here at a.world)))
        (ap (λ hs. partner_at (end_of id hs)) (sym (ap ends_of_placed e) ∙ same)) (act_answer w.now (acts.Take id) p.state) refl

    pub takes : (line node at id : ℕ) (a : Agent) → Goes_on a.world (take_then line node at id (λ b. b) a).world
    unfolding reach answer
    takes line node at id a steps c =
        let w : World = put line at Modulo8 a.world in
        let r = put_stays line at a.world steps c in
        node_case line node at id a w steps r.0 r.1 (put_ends line at Modulo8 a.world at) (slice_get w.nodes at) refl
