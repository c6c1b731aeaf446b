-- Posts, and turns of an agent, part by part.
use Rattle.std.proofs.Common.{◌≡◌, ◌≤◌, ◌∙◌, ◌-◌, ℕ, zero, suc, refl, sym, ap, subst, arith, List, [], ◌∷◌, ◌++◌, length, map, filter, drop, Bool, true, false, ◌&&◌, cond}
use Rattle.std.specs.Prelude.{Option, Some, None, OnOk, Result, Ok, Err, nat_lt, slice_get, slice_set}
use Rattle.radio_base.specs.declared.no_memory.NoMemory.{NoMemory}
use Rattle.std.specs.Option.{option_map}
use Rattle.radio_base.specs.declared.modulus.LinkModulus.TheVariants.{Modulo8}
use Rattle.ax_address.specs.Callsign.{Callsign, same_call}
use Rattle.circuit_table.specs.CircuitSets.{partner_at}
use Rattle.circuit_table.specs.Sets.{end_of}
use Rattle.circuit_table.specs.Standing.{take_answer}
use Rattle.node_core.specs.declared.acts.ActDone.{ActDone}
use Rattle.node_core.specs.declared.acts.ActDone.TheVariants.{Done, Made, Took}
use Rattle.node_core.specs.declared.acts.ActRefusal.{ActRefusal}
use Rattle.node_core.specs.Acts as acts
use Rattle.node_mail.specs.declared.heard.Heard.{Heard}
use Rattle.node_mail.specs.declared.heard.Heard.TheVariants as hearing
use Rattle.node_mail.specs.declared.post_refusal.PostRefusal.{PostRefusal}
use Rattle.node_mail.specs.declared.post_refusal.PostRefusal.TheVariants as refusal
use Rattle.node_mail.specs.Lists.{Letter, Lists, answer_to, hear_at, hear_step, heard_of, is_queued_for, post_at, post_step, posted_by, text_of, IsPostAnswer, number_and_dest, octets_in}
use Rattle.node_mail.specs.Wires.{Carries, Receipt, Wire, wire_at, wire_octets}
use Rattle.net_model.specs.declared.events.Event as code
use Rattle.net_model.specs.declared.posting.Posting.TheVariants as posting
use Rattle.net_model.specs.declared.refusals.LineRefusal.{LineRefusal}
use Rattle.net_model.specs.declared.refusals.LineRefusal.TheVariants.{NoMail, Served}
use Rattle.net_model.specs.declared.refusals.ReplayRefusal.{ReplayRefusal}
use Rattle.net_world.specs.Agents.{AgentRuns, AgentStands}
use Rattle.net_model.specs.Stores.{HearsAt, PostsAt, change_mail, heard_at, posted_at}
use Rattle.net_model.specs.Events as events
use Rattle.net_model.specs.Events.{Event, event_of}
use Rattle.net_model.specs.Mailing.{Agent, agent_turn, ends_here, heard_by, heard_events, input, is_agents, mail_at, mail_in, may_write, numbers_for, offer, offer_at, offer_octets, offer_part, post_by, posted_events, take_at, take_from, take_part, unless_agents, waits, with_mail, write_answer_to, write_if_taken}
use Rattle.net_model.specs.Refused.{of_post, refusal_events}
use Rattle.net_world.specs.Running.{Course, GoesOn, Runs, Stands, Stops}
use Rattle.net_model.specs.Answers.{message_in}
use Rattle.net_model.specs.Traces.{IsRefusal}
use Rattle.net_model.specs.Standing.{MembersStand}
use Rattle.net_model.specs.Starting.{Placed}
use Rattle.net_model.specs.declared.members.Member.{Member}
use Rattle.net_model.specs.World as worlds
use Rattle.net_model.specs.World.{World, answer, put, tell}
use Rattle.net_model.proofs.Continuing.{offer_by, take_then, took_by}
use Rattle.net_world.proofs.Growing.{grown}
use Rattle.net_world.proofs.MailTexts.{read_long}
use Rattle.net_model.proofs.MailWalks.{offer_at_leads, offers_lead, put_mails, reach_mails, take_at_leads, takes_lead, took_leads}
use Rattle.net_world.proofs.Placing.{with_members}
use Rattle.net_world.proofs.Runs.{goes_as, refused_still, runs_as}

-- ---- at an end of an agent that alone is told

pub agents_refused : (old new : Course) (line node end : ℕ) (first : List Event) (done : World → World) → ((w : World) → Stands old w → true ≡ is_agents node end w)
    → GoesOn old new (tell line (first ++ events.Refused Served ∷ [])) → GoesOn old new (unless_agents line node end first done)
agents_refused old new line node end first done is goes =
    goes_as old new (tell line (first ++ events.Refused Served ∷ [])) (unless_agents line node end first done)
    (λ w t. ap (λ b. cond b (tell line (first ++ events.Refused Served ∷ []) w) (done w)) (is w t)) goes

pub others_run : (old new : Course) (line node end : ℕ) (first : List Event) (done : World → World) (r : Result (Unit {0}) ReplayRefusal)
    → ((w : World) → Stands old w → false ≡ is_agents node end w) → Runs old new done r → Runs old new (unless_agents line node end first done) r
others_run old new line node end first done r is runs =
    runs_as old new done (unless_agents line node end first done) r (λ w t. ap (λ b. cond b (tell line (first ++ events.Refused Served ∷ []) w) (done w)) (is w t)) runs

-- ---- the mail changes, and nothing else

pub stores_as : {stores old : List Member} (ps : List Placed) (ls : List (Option Lists)) → stores ≡ old → MembersStand old ps ls → MembersStand stores ps ls
stores_as ps ls e m = subst (λ (ms : List Member). MembersStand ms ps ls) (sym e) m

pub mailed : (c : Course) (w : World) (stores : List Member) (ls : List (Option Lists)) → Stands c w → MembersStand stores w.nodes ls
    → Stands (with_members c stores) (record w { mails = ls })
mailed c w stores ls t m = record {
  trace = record { told = t.trace.told; air = t.trace.air; members = m; ends = t.trace.ends; allowance = t.trace.allowance };
  channels = t.channels;
  now = t.now;
}

pub mailed_same : (c : Course) (w : World) (stores : List Member) → Stands c w → MembersStand stores w.nodes w.mails → Stands (with_members c stores) w
mailed_same c w stores t m = record {
  trace = record { told = t.trace.told; air = t.trace.air; members = m; ends = t.trace.ends; allowance = t.trace.allowance };
  channels = t.channels;
  now = t.now;
}

kept_same : (ls : List (Option Lists)) (at : ℕ) (s : Lists) → mail_in at ls ≡ Some s → slice_set ls at (Some s) ≡ ls
kept_same [] at s e = refl
kept_same (x ∷ ls) zero s e = ap (λ y. y ∷ ls) (sym e)
kept_same (x ∷ ls) (suc at) s e = ap (λ ys. x ∷ ys) (kept_same ls at s e)

-- ---- a post

-- no mail is kept
pub post_none : (line node at : ℕ) (to dest : Callsign) (text : List ℕ) (w : World) (o : Option Lists) → PostsAt posting.NoMail o dest text
    → tell line (events.Refused NoMail ∷ []) w ≡ post_by line node at to dest text o w
post_none line node at to dest text w None h = refl
post_none line node at to dest text w (Some s) h = absurd h

pub post_done : (line node at number : ℕ) (to dest : Callsign) (text : List ℕ) (w : World) (o : Option Lists) → mail_in at w.mails ≡ o → PostsAt (posting.Posted number) o dest text
    → tell line (events.Posted node number ∷ []) (record w { mails = posted_at (posting.Posted number) at to dest text w.mails }) ≡ post_by line node at to dest text o w
post_done line node at number to dest text w None e h = absurd h
post_done line node at number to dest text w (Some s) e h =
    let says : post_at s dest text ≡ Ok number = sym h in
    ap (λ o. tell line (events.Posted node number ∷ []) (record w { mails = change_mail at (λ (x : Lists). post_step x to dest text) o w.mails })) e
    ∙ ap (λ r. tell line (posted_events node r) (with_mail at (post_step s to dest text) w)) (sym says)

-- a refusal that is told is what the post was answered
refused_post : (why : PostRefusal) (says : Result ℕ PostRefusal) (reason : LineRefusal) → of_post why ≡ Some reason → IsPostAnswer (Err why) says → says ≡ Err why
refused_post refusal.Own says reason e h = sym h
refused_post refusal.Empty says reason e h = sym h
refused_post refusal.TooLong says reason e h = sym h
refused_post refusal.Full says reason e h = sym h
refused_post refusal.Exhausted says reason e h = sym h
refused_post refusal.NoMemory says reason e h = absurd (cc)

pub post_refused : (line node at : ℕ) (why : PostRefusal) (reason : LineRefusal) (to dest : Callsign) (text : List ℕ) (w : World) (o : Option Lists) → mail_in at w.mails ≡ o
    → of_post why ≡ Some reason → PostsAt (posting.Refused why) o dest text → tell line (events.Refused reason ∷ []) w ≡ post_by line node at to dest text o w
post_refused line node at why reason to dest text w None e f h = absurd h
post_refused line node at why reason to dest text w (Some s) e f h =
    let says : post_at s dest text ≡ Err why = refused_post why (post_at s dest text) reason f h in
    sym (ap (λ r. tell line (posted_events node r) (with_mail at (posted_by s to dest text r) w)) says
    ∙ (ap (λ o. tell line (refusal_events o) (with_mail at s w)) f ∙ ap (λ ms. tell line (events.Refused reason ∷ []) (record w { mails = ms })) (kept_same w.mails at s e)))

pub told_post : (old mid new : Course) (line : ℕ) (es : List Event) (f whole : World → World) (r : Result (Unit {0}) NoMemory) → ((w : World) → Stands old w → Stands mid (f w))
    → ((w : World) → Stands old w → tell line es (f w) ≡ whole w) → OnOk r (GoesOn mid new (tell line es)) → OnOk r (GoesOn old new whole)
told_post old mid new line es f whole (Ok done) goes same told = λ w t. subst (λ v. Stands new v) (same w t) (told (f w) (goes w t))
told_post old mid new line es f whole (Err e) goes same told = tt

-- ---- a message is written, where the end takes it

pub wrote_if : (line at id : ℕ) (message : List ℕ) (w : World) (b : Bool) → b ≡ may_write at id message w
    → cond b (input line at (acts.Write id message) w) w ≡ write_if_taken line at id message w
wrote_if line at id message w b e = ap (λ x. cond x (input line at (acts.Write id message) w) w) e

-- an answer isn't empty
pub no_answer : (wire : Option Wire) → length (octets_in wire) ≡ 0 → wire ≡ None
unfolding wire_octets
no_answer None e = refl
no_answer (Some (Carries number to text)) e = absurd (cc e)
no_answer (Some (Receipt number)) e = absurd (cc e)

module _ (old new : Course) (line at id : ℕ) (message : List ℕ) where
  pub answer_goes : (wire : Option Wire) → message ≡ octets_in wire → (length message ≡ 0 → ⊥) → GoesOn old new (write_if_taken line at id message)
      → GoesOn old new (write_answer_to line at id wire)
  answer_goes None e some goes = absurd (some (ap length e))
  answer_goes (Some wire) e some goes = λ w t. subst (λ m. Stands new (write_if_taken line at id m w)) e (goes w t)

  pub answer_stops : (wire : Option Wire) (refusal : ReplayRefusal) → message ≡ octets_in wire → (length message ≡ 0 → ⊥) → Stops old refusal (write_if_taken line at id message)
      → Stops old refusal (write_answer_to line at id wire)
  answer_stops None refusal e some stop = absurd (some (ap length e))
  answer_stops (Some wire) refusal e some stop = λ w t. subst (λ m. IsRefusal refusal (length (write_if_taken line at id m w).air)) e (stop w t)

-- ---- a message is heard

pub heard_none : (line node at id : ℕ) (octets : List ℕ) (from : Callsign) (o : Option Lists) (a : Agent) → HearsAt None o from octets
    → a ≡ heard_by line node at id octets (Some from) o a
heard_none line node at id octets from None a h = refl
heard_none line node at id octets from (Some s) a h = absurd (cc)

receipt_len : (node number n m : ℕ) (from : Callsign) (b : Bool)
    → heard_events node from n (cond b (hearing.Settled number) (hearing.Stray number)) ≡ heard_events node from m (cond b (hearing.Settled number) (hearing.Stray number))
receipt_len node number n m from true = refl
receipt_len node number n m from false = refl

-- how long its text is shows in the message
told_len : (node : ℕ) (from : Callsign) (s : Lists) (octets : List ℕ) (wire : Option Wire) → wire_at octets ≡ wire
    → heard_events node from (length (text_of wire)) (heard_of s from wire) ≡ heard_events node from (length octets - 16) (heard_of s from wire)
told_len node from s octets None e = refl
told_len node from s octets (Some (Carries number to text)) e = ap (λ n. heard_events node from n (heard_of s from (Some (Carries number to text)))) (read_long octets (Carries number to text) e)
told_len node from s octets (Some (Receipt number)) e = receipt_len node number 0 (length octets - 16) from (is_queued_for s.queued from number)

-- the answer is written once the mail has changed
abbrev pub heard_as : ℕ → ℕ → ℕ → ℕ → List ℕ → Callsign → Heard → Agent → Agent
heard_as line node at id octets from heard a = record {
  world = write_answer_to line at id (answer_to heard) (record a.world { mails = heard_at at from octets a.world.mails });
  answers = a.answers ++ heard_events node from (length octets - 16) heard;
}

pub heard_some : (line node at id : ℕ) (octets : List ℕ) (from : Callsign) (heard : Heard) (o : Option Lists) (a : Agent) → mail_in at a.world.mails ≡ o
    → HearsAt (Some heard) o from octets → heard_as line node at id octets from heard a ≡ heard_by line node at id octets (Some from) o a
heard_some line node at id octets from heard None a e h = absurd (cc)
heard_some line node at id octets from heard (Some s) a e h =
    let is : heard ≡ hear_at s from octets = cc in
    let mails : heard_at at from octets a.world.mails ≡ slice_set a.world.mails at (Some (hear_step s from octets)) =
    ap (λ o. change_mail at (λ (x : Lists). hear_step x from octets) o a.world.mails) e in
    ap (λ h. heard_as line node at id octets from h a) is
    ∙ (ap (λ ms. record { world = write_answer_to line at id (answer_to (hear_at s from octets)) (record a.world { mails = ms }); answers = a.answers ++ heard_events node from (length octets - 16) (hear_at s from octets) }) mails
    ∙ ap (λ es. record { world = write_answer_to line at id (answer_to (hear_at s from octets)) (with_mail at (hear_step s from octets) a.world); answers = a.answers ++ es })
    (sym (told_len node from s octets (wire_at octets) refl)))

-- where no mail is kept nothing is heard
unheard_case : (stores : List Member) (ps : List Placed) (ls : List (Option Lists)) (from : Callsign) (octets : List ℕ) (at : ℕ) (o : Option Lists) → mail_in at ls ≡ o → HearsAt None o from octets
    → MembersStand stores ps (heard_at at from octets ls) → MembersStand stores ps ls
unheard_case stores ps ls from octets at None e h m = subst (λ (o : Option Lists). MembersStand stores ps (change_mail at (λ (x : Lists). hear_step x from octets) o ls)) e m
unheard_case stores ps ls from octets at (Some s) e h m = absurd (cc)

pub unheard : (c : Course) (w : World) (stores : List Member) (from : Callsign) (octets : List ℕ) (at : ℕ) → Stands c w → HearsAt None (mail_in at w.mails) from octets
    → MembersStand stores w.nodes (heard_at at from octets w.mails) → Stands (with_members c stores) w
unheard c w stores from octets at t h m = mailed_same c w stores t (unheard_case stores w.nodes w.mails from octets at (mail_in at w.mails) refl h m)

module _ (line node at id : ℕ) (octets : List ℕ) (from : Callsign) (heard : Heard) (old new : Course) (before after : List code.Event) (stores : List Member) where
  pub hearing_runs : (r : Result (Unit {0}) ReplayRefusal) → ((ps : List Placed) (ls : List (Option Lists)) → MembersStand old.left.members ps ls → HearsAt (Some heard) (mail_in at ls) from octets)
      → ((ps : List Placed) (ls : List (Option Lists)) → MembersStand old.left.members ps ls → MembersStand stores ps (heard_at at from octets ls))
      → map event_of after ≡ map event_of before ++ heard_events node from (length octets - 16) heard
      → Runs (with_members old stores) new (write_answer_to line at id (answer_to heard)) r
      → AgentRuns old before new after (λ a. heard_by line node at id octets (Some from) (mail_at at a.world) a) r
  hearing_runs (Ok done) says goes noted runs = λ a t.
      let v : World = record a.world { mails = heard_at at from octets a.world.mails } in
      let mid = mailed old a.world stores (heard_at at from octets a.world.mails) t.world (goes a.world.nodes a.world.mails t.world.trace.members) in
      subst (λ (b : Agent). AgentStands new after b) (heard_some line node at id octets from heard (mail_at at a.world) a refl (says a.world.nodes a.world.mails t.world.trace.members))
      (record { world = runs v mid; answers = noted ∙ ap (λ es. es ++ heard_events node from (length octets - 16) heard) t.answers })
  hearing_runs (Err e) says goes noted runs = λ a t.
      let v : World = record a.world { mails = heard_at at from octets a.world.mails } in
      let mid = mailed old a.world stores (heard_at at from octets a.world.mails) t.world (goes a.world.nodes a.world.mails t.world.trace.members) in
      subst (λ (b : Agent). IsRefusal e (length b.world.air)) (heard_some line node at id octets from heard (mail_at at a.world) a refl (says a.world.nodes a.world.mails t.world.trace.members)) (runs v mid)

-- ---- what waits at an end is taken, one message after another

took_message : (done : ActDone) (message : List ℕ) → message_in done ≡ Some message → done ≡ Took message
took_message Done message e = absurd (cc)
took_message (Made id) message e = absurd (cc)
took_message (Took other) message e = ap Took (cc)

module _ (line node at id : ℕ) where
  -- the agent once its node was asked for the message
  abbrev pub asked : Agent → Agent
  asked a = record a { world = input line at (acts.Take id) a.world }

  abbrev pub waits_at : World → Bool
  waits_at w = waits (take_answer (end_of id (ends_here at w)))

  abbrev pub said : World → Result ActDone ActRefusal
  said w = answer at (acts.Take id) (put line at Modulo8 w)

  pub none_waits : (more : ℕ) (a : Agent) → false ≡ waits_at a.world → a ≡ take_from line node at id (suc more) a
  unfolding take_from
  none_waits more a e = ap (λ b. cond b (take_then line node at id (take_from line node at id more) a) a) e

  one_waits : (more : ℕ) (a : Agent) → true ≡ waits_at a.world
      → take_from line node at id (suc more) a ≡ took_by line node at id (partner_at (end_of id (ends_here at a.world))) (said a.world) (take_from line node at id more) (asked a)
  unfolding take_from
  one_waits more a e = ap (λ b. cond b (take_then line node at id (take_from line node at id more) a) a) (sym e)

  pub one_taken : (more : ℕ) (a : Agent) (message : List ℕ) (from : Option Callsign) → true ≡ waits_at a.world → from ≡ partner_at (end_of id (ends_here at a.world))
      → (d : ActDone) → said a.world ≡ Ok d → message_in d ≡ Some message
      → take_from line node at id (suc more) a ≡ take_from line node at id more (heard_by line node at id message from (mail_at at (asked a).world) (asked a))
  one_taken more a message from e f d g m =
      let later : Agent → Agent = take_from line node at id more in
      one_waits more a e
      ∙ (ap (λ o. took_by line node at id o (said a.world) later (asked a)) (sym f)
      ∙ ap (λ r. took_by line node at id from r later (asked a)) (g ∙ ap (λ x. Ok x) (took_message d message m)))

  done_case : (from : Option Callsign) (d : ActDone) (later : Agent → Agent) (b : Agent) → message_in d ≡ None → b ≡ took_by line node at id from (Ok d) later b
  done_case from Done later b m = refl
  done_case from (Made made) later b m = refl
  done_case from (Took message) later b m = absurd (cc)

  -- an answer without a message ends the taking there
  pub none_taken : (more : ℕ) (a : Agent) → true ≡ waits_at a.world → (d : ActDone) → said a.world ≡ Ok d → message_in d ≡ None → asked a ≡ take_from line node at id (suc more) a
  none_taken more a e d g m =
      let later : Agent → Agent = take_from line node at id more in
      let from : Option Callsign = partner_at (end_of id (ends_here at a.world)) in
      done_case from d later (asked a) m ∙ (ap (λ r. took_by line node at id from r later (asked a)) (sym g) ∙ sym (one_waits more a e))

  pub none_given : (more : ℕ) (a : Agent) → true ≡ waits_at a.world → (why : ActRefusal) → said a.world ≡ Err why → asked a ≡ take_from line node at id (suc more) a
  none_given more a e why g =
      let later : Agent → Agent = take_from line node at id more in
      let from : Option Callsign = partner_at (end_of id (ends_here at a.world)) in
      ap (λ r. took_by line node at id from r later (asked a)) (sym g) ∙ sym (one_waits more a e)

  pub takes_grow : (more : ℕ) (a : Agent) → length a.world.air ≤ length (take_from line node at id more a).world.air
  takes_grow more a = (takes_lead _ (grown) line node at id more a).0

  -- what stopped while the node was asked
  pub asking_stops : (more : ℕ) (a : Agent) (e : ReplayRefusal) → true ≡ waits_at a.world → IsRefusal e (length (asked a).world.air)
      → IsRefusal e (length (take_from line node at id (suc more) a).world.air)
  asking_stops more a e w stop =
      let later : Agent → Agent = take_from line node at id more in
      let from : Option Callsign = partner_at (end_of id (ends_here at a.world)) in
      subst (λ (b : Agent). IsRefusal e (length b.world.air)) (sym (one_waits more a w))
      (refused_still e _ _ (took_leads _ (grown) line node at id from (said a.world) later (asked a) (takes_lead _ (grown) line node at id more)).0 stop)

  pub take_end : (more : ℕ) (a : Agent) → more ≡ 0 → take_from line node at id more a ≡ a
  unfolding take_from
  take_end zero a e = refl
  take_end (suc more) a e = absurd (omega (arith, e))

pub take_at_grows : (line node at : ℕ) (ids : List ℕ) (a : Agent) → length a.world.air ≤ length (take_at line node at ids a).world.air
take_at_grows line node at ids a = (take_at_leads _ (grown) line node at ids a).0

-- ---- mails are offered

letter_case : (l : Letter) (ls : List Letter) (test : Letter → Bool) (b : Bool) → test l ≡ b
    → map (λ (x : Letter). x.number) (filter test (l ∷ ls)) ≡ cond b (l.number ∷ map (λ (x : Letter). x.number) (filter test ls)) (map (λ (x : Letter). x.number) (filter test ls))
letter_case l ls test true e = ap (λ c. map (λ (x : Letter). x.number) (cond c (l ∷ filter test ls) (filter test ls))) e
letter_case l ls test false e = ap (λ c. map (λ (x : Letter). x.number) (cond c (l ∷ filter test ls) (filter test ls))) e

-- the numbers that are left to be offered, from the nth queued mail on
pub numbers_next : (dest to : Callsign) (last number : ℕ) (ls : List Letter) (nth : ℕ) (b : Bool) → Some (number, to) ≡ option_map number_and_dest (slice_get ls nth)
    → b ≡ (same_call to dest && nat_lt last number)
    → numbers_for dest last (drop nth ls) ≡ cond b (number ∷ numbers_for dest last (drop (suc nth) ls)) (numbers_for dest last (drop (suc nth) ls))
numbers_next dest to last number [] nth b e t = absurd (cc)
numbers_next dest to last number (l ∷ ls) zero b e t =
    let given : ℕ × Callsign = (number, to) in
    let held : ℕ × Callsign = (l.number, l.dest) in
    let both : given ≡ held = cc in
    let n : number ≡ l.number = ap (λ (p : ℕ × Callsign). p.0) both in
    let d : to ≡ l.dest = ap (λ (p : ℕ × Callsign). p.1) both in
    let is : (same_call l.dest dest && nat_lt last l.number) ≡ b = sym (t ∙ (ap (λ c. same_call c dest && nat_lt last number) d ∙ ap (λ k. same_call l.dest dest && nat_lt last k) n)) in
    letter_case l ls (λ (x : Letter). same_call x.dest dest && nat_lt last x.number) b is
    ∙ ap (λ k. cond b (k ∷ numbers_for dest last ls) (numbers_for dest last ls)) (sym n)
numbers_next dest to last number (l ∷ ls) (suc nth) b e t = numbers_next dest to last number ls nth b e t

pub numbers_past : (dest : Callsign) (last : ℕ) (ls : List Letter) (nth : ℕ) → length ls ≤ nth → numbers_for dest last (drop nth ls) ≡ []
numbers_past dest last [] zero h = refl
numbers_past dest last [] (suc nth) h = refl
numbers_past dest last (l ∷ ls) zero h = absurd (omega (arith, h))
numbers_past dest last (l ∷ ls) (suc nth) h = numbers_past dest last ls nth (omega (arith, h))

module _ (line node at id number : ℕ) where
  -- the network once the mail of the number was written
  abbrev pub wrote_mail : World → World
  wrote_mail w = input line at (acts.Write id (offer_octets line node at number w)) w

  abbrev pub offered_mail : World → World
  offered_mail w = tell line (events.Offered node id number ∷ []) (wrote_mail w)

  pub offer_refused : (numbers : List ℕ) (w : World) → false ≡ may_write at id (offer_octets line node at number w) w → w ≡ offer line node at id (number ∷ numbers) w
  offer_refused numbers w e = ap (λ b. offer_by line node at id number b (offer line node at id numbers) w) e

  pub offer_done : (numbers : List ℕ) (w : World) → true ≡ may_write at id (offer_octets line node at number w) w
      → offer line node at id (number ∷ numbers) w ≡ offer line node at id numbers (offered_mail w)
  offer_done numbers w e = ap (λ b. offer_by line node at id number b (offer line node at id numbers) w) (sym e)

  pub offer_keeps : (w : World) → (offered_mail w).mails ≡ w.mails
  offer_keeps w = reach_mails line at (worlds.Act (acts.Write id (offer_octets line node at number w))) (put line at Modulo8 w) ∙ put_mails line at Modulo8 w

  offer_case : (numbers : List ℕ) (w : World) (b : Bool) → length (cond b (wrote_mail w) w).air ≤ length (offer_by line node at id number b (offer line node at id numbers) w).air
  offer_case numbers w true = offers_lead _ (grown) line node at id numbers (offered_mail w)
  offer_case numbers w false = omega arith

  pub offer_stops : (numbers : List ℕ) (w : World) (e : ReplayRefusal) → IsRefusal e (length (write_if_taken line at id (offer_octets line node at number w) w).air)
      → IsRefusal e (length (offer line node at id (number ∷ numbers) w).air)
  offer_stops numbers w e stop = refused_still e _ _ (offer_case numbers w (may_write at id (offer_octets line node at number w) w)) stop

pub offer_at_grows : (line node at : ℕ) (ids : List ℕ) (w : World) → length w.air ≤ length (offer_at line node at ids w).air
offer_at_grows line node at ids w = offer_at_leads _ (grown) line node at ids w

-- ---- the whole turn

-- nothing is to be answered at its start
pub starts : (c : Course) (w : World) (answers : List code.Event) → Stands c w → answers ≡ [] → AgentStands c answers (record { world = w; answers = [] })
starts c w answers t e = record { world = t; answers = ap (map event_of) e }

module _ (line node at : ℕ) (old taken offered told new : Course) (answers : List code.Event) where
  pub turn_runs : (r : Result (Unit {0}) ReplayRefusal) → ((w : World) → Stands old w → AgentStands taken answers (take_part line node at w)) → GoesOn taken offered (offer_part line node at)
      → GoesOn offered told (tell line (map event_of answers)) → Runs told new (put line at Modulo8) r → Runs old new (agent_turn line node at) r
  turn_runs (Ok done) takes offers tells puts = λ w t.
      let a = takes w t in
      subst (λ es. Stands new (put line at Modulo8 (tell line es (offer_part line node at (take_part line node at w).world)))) a.answers
      (puts _ (tells _ (offers _ a.world)))
  turn_runs (Err e) takes offers tells puts = λ w t.
      let a = takes w t in
      subst (λ es. IsRefusal e (length (put line at Modulo8 (tell line es (offer_part line node at (take_part line node at w).world))).air)) a.answers
      (puts _ (tells _ (offers _ a.world)))
