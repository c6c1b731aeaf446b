-- What is so from one world to another, and behind one another, is so of posts and of turns of an agent, where it is so of each move that they are made of.
use Rattle.std.proofs.Common.{◌≡◌, ◌≤◌, ◌∙◌, ℕ, zero, suc, refl, sym, ap, subst, arith, List, [], ◌∷◌, ◌++◌, Bool, true, false, cond}
use Rattle.std.specs.Prelude.{Option, Some, None, Result, Ok, Err, is_some, length, slice_get}
use Rattle.std.specs.List.{AllByRecursion}
use Rattle.radio_base.specs.declared.modulus.LinkModulus.{LinkModulus}
use Rattle.radio_base.specs.declared.modulus.LinkModulus.TheVariants.{Modulo8}
use Rattle.ax_address.specs.Callsign.{Callsign}
use Rattle.circuit_table.specs.CircuitSets.{held_ids, partner_at}
use Rattle.circuit_table.specs.Sets.{end_of}
use Rattle.circuit_table.specs.Standing.{take_answer}
use Rattle.node_core.specs.declared.acts.ActDone.{ActDone}
use Rattle.node_core.specs.declared.acts.ActDone.TheVariants.{Done, Made, Took}
use Rattle.node_core.specs.declared.acts.ActRefusal.{ActRefusal}
use Rattle.node_core.specs.Acts as acts
use Rattle.node_core.specs.Acts.{UserAct}
use Rattle.node_mail.specs.declared.heard.Heard.{Heard}
use Rattle.node_mail.specs.declared.heard.Heard.TheVariants as hearing
use Rattle.node_mail.specs.declared.post_refusal.PostRefusal.{PostRefusal}
use Rattle.node_mail.specs.Lists.{Lists, answer_to, hear_at, hear_step, post_at, post_step, text_of}
use Rattle.node_mail.specs.Wires.{Wire, wire_at, wire_octets}
use Rattle.net_model.specs.declared.refusals.LineRefusal.{LineRefusal}
use Rattle.net_model.specs.declared.refusals.LineRefusal.TheVariants.{NoMail, Served}
use Rattle.net_model.specs.Events as events
use Rattle.net_model.specs.Events.{Event}
use Rattle.net_model.specs.Mailing.{Agent, dest_of, ends_here, heard_by, heard_events, input, is_agents, mail, mail_at, may_write, offer, offer_all, offer_at, offer_octets, post, post_by, posted_events, take_at, take_from, turn_by, unless_agents, waits, with_mail, write_answer_to, write_if_taken}
use Rattle.net_model.specs.Mailing.{while_taking}
use Rattle.net_model.specs.Refused.{of_post, refusal_events}
use Rattle.net_model.specs.Starting.{Placed}
use Rattle.net_model.specs.World as worlds
use Rattle.net_model.specs.World.{Input, World, answer, place_of_node, put, reach, tell}
use Rattle.net_model.proofs.Continuing.{offer_by, take_then, took_by}
use Rattle.net_model.proofs.Containing.{IsQuiet}
use Rattle.net_model.proofs.Looks.{offer_where, put_of, reaches}

-- what is so of each move
pub record AgentMoves (P : World → World → Type 0) : Type 0 where
  pub still : (w : World) → P w w
  pub follows : (u v w : World) → P u v → P v w → P u w
  pub tells : (line : ℕ) (es : List Event) (w : World) → AllByRecursion IsQuiet es → P w (tell line es w)
  pub takes : (line at id : ℕ) (w : World) → P w (reach line at (worlds.Act (acts.Take id)) w)
  pub writes : (line at id : ℕ) (message : List ℕ) (w : World) → P w (reach line at (worlds.Act (acts.Write id message)) w)
  pub puts : (line at : ℕ) (w : World) → P w (put line at Modulo8 w)
  pub mails : (at : ℕ) (s : Lists) (w : World) → P w (with_mail at s w)

-- ---- the mail of all nodes stays

reaches_mails : (line at : ℕ) (x : Input) (o : Option Placed) (w : World) → (reaches line at x o w).mails ≡ w.mails
reaches_mails line at x None w = refl
reaches_mails line at x (Some p) w = refl

pub reach_mails : (line at : ℕ) (x : Input) (w : World) → (reach line at x w).mails ≡ w.mails
unfolding reach
reach_mails line at x w = reaches_mails line at x (slice_get w.nodes at) w

puts_mails : (line at : ℕ) (came : LinkModulus) (o : Option Placed) (w : World) → (put_of line at came o w).mails ≡ w.mails
puts_mails line at came None w = refl
puts_mails line at came (Some p) w = refl

pub put_mails : (line at : ℕ) (came : LinkModulus) (w : World) → (put line at came w).mails ≡ w.mails
unfolding put
put_mails line at came w = puts_mails line at came (slice_get w.nodes at) w

-- ---- what is told of mail tells nothing of circuits

pub quiet_refusal : (o : Option LineRefusal) → AllByRecursion IsQuiet (refusal_events o)
quiet_refusal None = tt
quiet_refusal (Some why) = (tt, tt)

quiet_posted : (node : ℕ) (r : Result ℕ PostRefusal) → AllByRecursion IsQuiet (posted_events node r)
quiet_posted node (Ok number) = (tt, tt)
quiet_posted node (Err why) = quiet_refusal (of_post why)

quiet_heard : (node : ℕ) (from : Callsign) (len : ℕ) (h : Heard) → AllByRecursion IsQuiet (heard_events node from len h)
quiet_heard node from len (hearing.Stored number to) = (tt, tt)
quiet_heard node from len (hearing.Settled number) = (tt, tt)
quiet_heard node from len (hearing.Again number) = tt
quiet_heard node from len (hearing.Stray number) = tt
quiet_heard node from len (hearing.Full number) = tt
quiet_heard node from len hearing.Bad = tt

both_quiet : (es fs : List Event) → AllByRecursion IsQuiet es → AllByRecursion IsQuiet fs → AllByRecursion IsQuiet (es ++ fs)
both_quiet [] fs a b = b
both_quiet (e ∷ es) fs a b = (a.0, both_quiet es fs a.1 b)

module _ (P : World → World → Type 0) (k : AgentMoves P) where
  pub input_leads : (line at : ℕ) (act : UserAct) (w : World) → ((v : World) → P v (reach line at (worlds.Act act) v)) → P w (input line at act w)
  input_leads line at act w does =
      let v : World = put line at Modulo8 w in k.follows w v (reach line at (worlds.Act act) v) (k.puts line at w) (does v)

  written : (b : Bool) (line at id : ℕ) (message : List ℕ) (w : World) → P w (cond b (input line at (acts.Write id message) w) w)
  written true line at id message w = input_leads line at (acts.Write id message) w (k.writes line at id message)
  written false line at id message w = k.still w

  pub write_leads : (line at id : ℕ) (message : List ℕ) (w : World) → P w (write_if_taken line at id message w)
  write_leads line at id message w = written (may_write at id message w) line at id message w

  answer_leads : (line at id : ℕ) (o : Option Wire) (w : World) → P w (write_answer_to line at id o w)
  answer_leads line at id None w = k.still w
  answer_leads line at id (Some wire) w = write_leads line at id (wire_octets wire) w

  module _ (line node at : ℕ) where
    -- ---- what waits is taken: it is so of the world, and what is answered tells nothing of circuits

    abbrev pub Leads : Agent → Agent → Type 0
    Leads a b = P a.world b.world × (AllByRecursion IsQuiet a.answers → AllByRecursion IsQuiet b.answers)

    rests : (a : Agent) → Leads a a
    rests a = (k.still a.world, λ q. q)

    leads_then : (a b c : Agent) → Leads a b → Leads b c → Leads a c
    leads_then a b c f g = (k.follows a.world b.world c.world f.0 g.0, λ q. g.1 (f.1 q))

    heard_leads : (id : ℕ) (octets : List ℕ) (from : Option Callsign) (m : Option Lists) (a : Agent) → Leads a (heard_by line node at id octets from m a)
    heard_leads id octets (Some from) (Some s) a =
        let v : World = with_mail at (hear_step s from octets) a.world in
        let h = hear_at s from octets in (
          k.follows a.world v (write_answer_to line at id (answer_to h) v) (k.mails at (hear_step s from octets) a.world) (answer_leads line at id (answer_to h) v),
          λ q. both_quiet a.answers (heard_events node from (length (text_of (wire_at octets))) h) q (quiet_heard node from (length (text_of (wire_at octets))) h),
        )
    heard_leads id octets (Some from) None a = rests a
    heard_leads id octets None m a = rests a

    pub took_leads : (id : ℕ) (from : Option Callsign) (r : Result ActDone ActRefusal) (later : Agent → Agent) (a : Agent) → ((b : Agent) → Leads b (later b)) → Leads a (took_by line node at id from r later a)
    took_leads id from (Ok (Took message)) later a rest =
        let b : Agent = heard_by line node at id message from (mail_at at a.world) a in
        leads_then a b (later b) (heard_leads id message from (mail_at at a.world) a) (rest b)
    took_leads id from (Ok Done) later a rest = rests a
    took_leads id from (Ok (Made made)) later a rest = rests a
    took_leads id from (Err why) later a rest = rests a

    take_leads : (id : ℕ) (later : Agent → Agent) (a : Agent) → ((b : Agent) → Leads b (later b)) → Leads a (take_then line node at id later a)
    take_leads id later a rest =
        let w : World = put line at Modulo8 a.world in
        let v : World = reach line at (worlds.Act (acts.Take id)) w in
        let b : Agent = record a { world = v } in
        leads_then a b (take_then line node at id later a) (k.follows a.world w v (k.puts line at a.world) (k.takes line at id w), λ q. q)
        (took_leads id (partner_at (end_of id (ends_here at a.world))) (answer at (acts.Take id) w) later b rest)

    -- ---- mails are offered

    offered : (id number : ℕ) (b : Bool) (later : World → World) (w : World) → ((v : World) → P v (later v)) → P w (offer_by line node at id number b later w)
    offered id number false later w rest = k.still w
    offered id number true later w rest =
        let message = offer_octets line node at number w in
        let v : World = input line at (acts.Write id message) w in
        let u : World = tell line (events.Offered node id number ∷ []) v in
        k.follows w v (later u) (input_leads line at (acts.Write id message) w (k.writes line at id message))
        (k.follows v u (later u) (k.tells line (events.Offered node id number ∷ []) v (tt, tt)) (rest u))

    pub offers_lead : (id : ℕ) (numbers : List ℕ) (w : World) → P w (offer line node at id numbers w)
    offers_lead id [] w = k.still w
    offers_lead id (number ∷ numbers) w =
        offered id number (may_write at id (offer_octets line node at number w) w) (offer line node at id numbers) w (offers_lead id numbers)

    where_leads : (id : ℕ) (o : Option Callsign) (w : World) → P w (offer_where line node at id o w)
    where_leads id None w = k.still w
    where_leads id (Some dest) w = offers_lead id _ w

    offer_all_leads : (id : ℕ) (w : World) → P w (offer_all line node at id w)
    offer_all_leads id w = where_leads id (dest_of (end_of id (ends_here at w))) w

-- ---- moves that are less small: a taking with all that it leads to, and all that is offered at an end

pub record TurnMoves (Users : Callsign → Type 0) (P : World → World → Type 0) : Type 0 where
  pub still : (w : World) → P w w
  pub follows : (u v w : World) → P u v → P v w → P u w
  pub tells : (line : ℕ) (es : List Event) (w : World) → AllByRecursion IsQuiet es → P w (tell line es w)
  pub puts : (line at : ℕ) (w : World) → P w (put line at Modulo8 w)
  pub takes : (line node at id : ℕ) (a : Agent) → P a.world (take_then line node at id (λ b. b) a).world
  pub offers : (line node at id : ℕ) (w : World) → P w (offer_all line node at id w)
  pub posts : (at : ℕ) (to dest : Callsign) (text : List ℕ) (s : Lists) (w : World) → mail_at at w ≡ Some s → Users to → P w (with_mail at (post_step s to dest text) w)

-- so it is of these where it is so of the smaller ones
pub turns_of : (Users : Callsign → Type 0) (P : World → World → Type 0) → AgentMoves P → TurnMoves Users P
turns_of Users P k = record {
  still = k.still;
  follows = k.follows;
  tells = k.tells;
  puts = k.puts;
  takes = λ line node at id a. (take_leads P k line node at id (λ b. b) a (rests P k line node at)).0;
  offers = λ line node at id w. offer_all_leads P k line node at id w;
  posts = λ at to dest text s w e u. k.mails at (post_step s to dest text) w;
}

-- what is answered of a taking tells nothing of circuits
abbrev Anything : World → World → Type 0
Anything u v = Unit {0}

anything : AgentMoves Anything
anything = record {
  still = λ w. tt;
  follows = λ u v w f g. tt;
  tells = λ line es w q. tt;
  takes = λ line at id w. tt;
  writes = λ line at id message w. tt;
  puts = λ line at w. tt;
  mails = λ at s w. tt;
}

module _ (Users : Callsign → Type 0) (P : World → World → Type 0) (k : TurnMoves Users P) where
  module _ (line node at : ℕ) where
    abbrev pub Goes : Agent → Agent → Type 0
    Goes a b = P a.world b.world × (AllByRecursion IsQuiet a.answers → AllByRecursion IsQuiet b.answers)

    goes_then : (a b c : Agent) → Goes a b → Goes b c → Goes a c
    goes_then a b c f g = (k.follows a.world b.world c.world f.0 g.0, λ q. g.1 (f.1 q))

    one_taken : (id : ℕ) (a : Agent) → Goes a (take_then line node at id (λ b. b) a)
    one_taken id a = (
      k.takes line node at id a,
      (take_leads Anything (anything) line node at id (λ b. b) a (rests Anything (anything) line node at)).1,
    )

    -- a taking, and then all else
    then_later : (id : ℕ) (from : Option Callsign) (r : Result ActDone ActRefusal) (later : Agent → Agent) (a b : Agent) → Goes a (took_by line node at id from r (λ c. c) b) → ((c : Agent) → Goes c (later c))
        → Goes a (took_by line node at id from r later b)
    then_later id from (Ok (Took message)) later a b f rest =
        let c : Agent = heard_by line node at id message from (mail_at at b.world) b in goes_then a c (later c) f (rest c)
    then_later id from (Ok Done) later a b f rest = f
    then_later id from (Ok (Made made)) later a b f rest = f
    then_later id from (Err why) later a b f rest = f

    either : (b : Bool) (a x : Agent) → Goes a x → Goes a (cond b x a)
    either true a x f = f
    either false a x f = (k.still a.world, λ q. q)

    pub takes_go : (id more : ℕ) (a : Agent) → Goes a (take_from line node at id more a)
    unfolding take_from
    takes_go id zero a = (k.still a.world, λ q. q)
    takes_go id (suc more) a =
        let w : World = put line at Modulo8 a.world in
        let b : Agent = record a { world = reach line at (worlds.Act (acts.Take id)) w } in
        either (waits (take_answer (end_of id (ends_here at a.world)))) a (take_then line node at id (take_from line node at id more) a)
        (then_later id (partner_at (end_of id (ends_here at a.world))) (answer at (acts.Take id) w) (take_from line node at id more) a b (one_taken id a) (takes_go id more))

    pub take_at_goes : (ids : List ℕ) (a : Agent) → Goes a (take_at line node at ids a)
    take_at_goes [] a = (k.still a.world, λ q. q)
    take_at_goes (id ∷ ids) a =
        let b : Agent = take_from line node at id 100000 a in goes_then a b (take_at line node at ids b) (takes_go id 100000 a) (take_at_goes ids b)

    pub offer_at_goes : (ids : List ℕ) (w : World) → P w (offer_at line node at ids w)
    offer_at_goes [] w = k.still w
    offer_at_goes (id ∷ ids) w =
        let v : World = offer_all line node at id w in k.follows w v (offer_at line node at ids v) (k.offers line node at id w) (offer_at_goes ids v)

    -- behind the takings
    abbrev rest_of : Agent → World
    rest_of taken = put line at Modulo8 (tell line taken.answers (offer_at line node at (held_ids (ends_here at taken.world)) taken.world))

    rest_goes : (taken : Agent) → AllByRecursion IsQuiet taken.answers → P taken.world (rest_of taken)
    rest_goes taken quiet =
        let v : World = offer_at line node at (held_ids (ends_here at taken.world)) taken.world in
        let u : World = tell line taken.answers v in
        let x : World = put line at Modulo8 u in
        k.follows taken.world v x (offer_at_goes (held_ids (ends_here at taken.world)) taken.world) (k.follows v u x (k.tells line taken.answers v quiet) (k.puts line at u))

    turn_goes : (b : Bool) (w : World) → P w (turn_by line node at b w)
    turn_goes false w = k.tells line (events.Refused NoMail ∷ []) w (tt, tt)
    turn_goes true w =
        let start : Agent = record { world = w; answers = [] } in
        let taken : Agent = take_at line node at (held_ids (ends_here at w)) start in
        let first : Goes start taken = take_at_goes (held_ids (ends_here at w)) start in
        k.follows w taken.world (rest_of taken) first.0 (rest_goes taken (first.1 tt))

    -- ---- from a moment on at which some were taken

    took_on : (id : ℕ) (from : Option Callsign) (r : Result ActDone ActRefusal) (one more : Agent → Agent) (b : Agent) → ((c : Agent) → Goes (one c) (more c))
        → Goes (took_by line node at id from r one b) (took_by line node at id from r more b)
    took_on id from (Ok (Took message)) one more b f = f (heard_by line node at id message from (mail_at at b.world) b)
    took_on id from (Ok Done) one more b f = (k.still b.world, λ q. q)
    took_on id from (Ok (Made made)) one more b f = (k.still b.world, λ q. q)
    took_on id from (Err why) one more b f = (k.still b.world, λ q. q)

    both_on : (b : Bool) (a x y : Agent) → Goes x y → Goes (cond b x a) (cond b y a)
    both_on true a x y f = f
    both_on false a x y f = (k.still a.world, λ q. q)

    more_taken : (id n m : ℕ) (a : Agent) → n ≤ m → Goes (take_from line node at id n a) (take_from line node at id m a)
    unfolding take_from
    more_taken id zero m a h = takes_go id m a
    more_taken id (suc n) zero a h = absurd (omega (arith, h))
    more_taken id (suc n) (suc m) a h =
        let w : World = put line at Modulo8 a.world in
        let b : Agent = record a { world = reach line at (worlds.Act (acts.Take id)) w } in
        both_on (waits (take_answer (end_of id (ends_here at a.world)))) a (take_then line node at id (take_from line node at id n) a) (take_then line node at id (take_from line node at id m) a)
        (took_on id (partner_at (end_of id (ends_here at a.world))) (answer at (acts.Take id) w) (take_from line node at id n) (take_from line node at id m) b (λ c. more_taken id n m c (omega (arith, h))))

    take_at_append : (xs ys : List ℕ) (a : Agent) → take_at line node at (xs ++ ys) a ≡ take_at line node at ys (take_at line node at xs a)
    take_at_append [] ys a = refl
    take_at_append (x ∷ xs) ys a = take_at_append xs ys (take_from line node at x 100000 a)

    some_go : (w : World) (passed : List ℕ) (id n : ℕ) → P w (take_from line node at id n (take_at line node at passed (record { world = w; answers = [] }))).world
    some_go w passed id n =
        let start : Agent = record { world = w; answers = [] } in
        let before : Agent = take_at line node at passed start in
        k.follows w before.world (take_from line node at id n before).world (take_at_goes passed start).0 (takes_go id n before).0

    some_on : (w : World) (passed rest : List ℕ) (id n : ℕ) → held_ids (ends_here at w) ≡ passed ++ id ∷ rest → n ≤ 100000
        → P (take_from line node at id n (take_at line node at passed (record { world = w; answers = [] }))).world (turn_by line node at true w)
    some_on w passed rest id n e h =
        let start : Agent = record { world = w; answers = [] } in
        let before : Agent = take_at line node at passed start in
        let some : Agent = take_from line node at id n before in
        let all : Agent = take_from line node at id 100000 before in
        let taken : Agent = take_at line node at rest all in
        let joined : take_at line node at (passed ++ id ∷ rest) start ≡ taken = take_at_append passed (id ∷ rest) start in
        let same : take_at line node at (held_ids (ends_here at w)) start ≡ taken = ap (λ ids. take_at line node at ids start) e ∙ joined in
        let quiet : AllByRecursion IsQuiet taken.answers = subst (λ (t : Agent). AllByRecursion IsQuiet t.answers) joined ((take_at_goes (passed ++ id ∷ rest) start).1 tt) in
        subst (λ (t : Agent). P some.world (rest_of t)) (sym same)
        (k.follows some.world all.world (rest_of taken) (more_taken id n 100000 before h).0 (k.follows all.world taken.world (rest_of taken) (take_at_goes rest all).0 (rest_goes taken quiet)))

  -- ---- the lines

  pub mail_goes : (line node : ℕ) (w : World) → P w (mail line node w)
  mail_goes line node w = let at : ℕ = place_of_node node w.nodes in turn_goes line node at (is_some (mail_at at w)) w

  -- to a moment within the turn, and from there on
  pub taking_goes : (line node : ℕ) (w : World) (passed : List ℕ) (id n : ℕ) → P w (while_taking line node passed id n w)
  taking_goes line node w passed id n = some_go line node (place_of_node node w.nodes) w passed id n

  pub taking_on : (line node : ℕ) (w : World) (passed rest : List ℕ) (id n : ℕ) → is_some (mail_at (place_of_node node w.nodes) w) ≡ true
      → held_ids (ends_here (place_of_node node w.nodes) w) ≡ passed ++ id ∷ rest → n ≤ 100000 → P (while_taking line node passed id n w) (mail line node w)
  taking_on line node w passed rest id n some e h =
      let at : ℕ = place_of_node node w.nodes in
      subst (λ b. P (while_taking line node passed id n w) (turn_by line node at b w)) (sym some) (some_on line node at w passed rest id n e h)

  posted : (line node at : ℕ) (to dest : Callsign) (text : List ℕ) (m : Option Lists) (w : World) → mail_at at w ≡ m → Users to → P w (post_by line node at to dest text m w)
  posted line node at to dest text None w e u = k.tells line (events.Refused NoMail ∷ []) w (tt, tt)
  posted line node at to dest text (Some s) w e u =
      let v : World = with_mail at (post_step s to dest text) w in
      let told = posted_events node (post_at s dest text) in
      k.follows w v (tell line told v) (k.posts at to dest text s w e u) (k.tells line told v (quiet_posted node (post_at s dest text)))

  pub post_goes : (line node : ℕ) (to dest : Callsign) (text : List ℕ) (w : World) → Users to → P w (post line node to dest text w)
  post_goes line node to dest text w u = let at : ℕ = place_of_node node w.nodes in posted line node at to dest text (mail_at at w) w refl u

  -- at an end of an agent that alone is told
  kept : (b : Bool) (line : ℕ) (first : List Event) (done w : World) → AllByRecursion IsQuiet first → (b ≡ false → P w done) → P w (cond b (tell line (first ++ events.Refused Served ∷ []) w) done)
  kept true line first done w quiet f = k.tells line (first ++ events.Refused Served ∷ []) w (both_quiet first (events.Refused Served ∷ []) quiet (tt, tt))
  kept false line first done w quiet f = f refl

  pub unless_agents_goes : (line node end : ℕ) (first : List Event) (done : World → World) (w : World) → AllByRecursion IsQuiet first → (is_agents node end w ≡ false → P w (done w)) → P w (unless_agents line node end first done w)
  unless_agents_goes line node end first done w quiet f = kept (is_agents node end w) line first (done w) w quiet f

-- ---- the same of the small moves

-- nothing is asked of a call
abbrev pub AnyCall : Callsign → Type 0
AnyCall call = Unit {0}

module _ (P : World → World → Type 0) (k : AgentMoves P) where
  abbrev turns : TurnMoves AnyCall P
  turns = turns_of AnyCall P k

  pub takes_lead : (line node at id more : ℕ) (a : Agent) → Goes AnyCall P turns line node at a (take_from line node at id more a)
  takes_lead line node at id more a = takes_go AnyCall P turns line node at id more a

  pub take_at_leads : (line node at : ℕ) (ids : List ℕ) (a : Agent) → Goes AnyCall P turns line node at a (take_at line node at ids a)
  take_at_leads line node at ids a = take_at_goes AnyCall P turns line node at ids a

  pub offer_at_leads : (line node at : ℕ) (ids : List ℕ) (w : World) → P w (offer_at line node at ids w)
  offer_at_leads line node at ids w = offer_at_goes AnyCall P turns line node at ids w
