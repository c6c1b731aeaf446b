-- Every text that waits at a link has at most 8,192 bytes: a payload has at most 256, and of a message in segments no longer one is a text.
use Rattle.std.proofs.Common.{◌≡◌, ◌≤◌, ◌⊎◌, inl, inr, ℕ, refl, subst, arith, length, List, [], ◌∷◌, slice_get}
use Rattle.std.specs.List.{AllByRecursion}
use Rattle.std.specs.Prelude.{Bool, true, false, ◌&&◌, ◌||◌, ◌==◌, nat_eq, nat_le, nat_lt, is_some, unwrap_or, if◌then◌else◌, Option, Some, None, Result, Ok, Err}
use Rattle.std.proofs.lemmas.Bool.Decides.{nat_tests}
use Rattle.std.proofs.lemmas.Bool.{and_parts}
use Rattle.arrayvec.specs.ArrayVec.{ArrayVec}
use Rattle.radio_base.specs.declared.payload.Payload.{Payload}
use Rattle.ax_address.specs.Callsign.{Callsign, same_call}
use Rattle.ax_address.specs.declared.address.Address.{Address}
use Rattle.ax_frame.specs.declared.control.Control.{Control}
use Rattle.ax_frame.specs.declared.control.Control.TheVariants as control
use Rattle.ax_frame.specs.declared.frame.FrameRefusal.{FrameRefusal}
use Rattle.ax_frame.specs.declared.head.Head.{Head}
use Rattle.ax_frame.specs.Frames.{Frame, read_at, read_head_at}
use Rattle.ax_link.specs.Kinds.{payload_of}
use Rattle.ax_link.specs.Bounds.{Has}
use Rattle.ax_segment.specs.Joining.{Answer, HeldMessage, More, Whole, Short, Broken, join_step, whole_of}
use Rattle.circuit_table.specs.Sets as sets
use Rattle.digi_path.specs.Paths.{Action, For_me, Repeat, Not_yet, Heard, action}
use Rattle.kiss_framing.specs.Stream as kiss
use Rattle.l3_datagram.specs.Datagrams.{Datagram}
use Rattle.link_table.specs.Calls as calls
use Rattle.link_table.specs.Frames.{plain_text, segmented}
use Rattle.link_table.specs.Laws.{Carries, CarriesOn, CarriesWhatWasOffered, LinkHolds}
use Rattle.radio_base.specs.Modulus.{extended_if, modulus_size}
use Rattle.link_table.specs.Table.{Linked, Table, link_with}
use Rattle.link_table.specs.Texts as texts
use Rattle.link_table.specs.Works.{is_text, text_by}
use Rattle.link_table.specs.declared.written.Written.{Written}
use Rattle.route_table.specs.Table.{to_broadcast}
use Rattle.link_table.specs.declared.open_refusal.OpenRefusal.{OpenRefusal}
use Rattle.link_table.specs.declared.text_refusal.TextRefusal.{TextRefusal}
use Rattle.route_table.specs.Log as logs
use Rattle.route_table.specs.Log.{Item}
use Rattle.node_core.specs.declared.config.NodeConfig.{NodeConfig}
use Rattle.circuit_table.specs.declared.refusal.ConnectRefusal.{ConnectRefusal}
use Rattle.circuit_table.specs.declared.refusal.SetRefusal.{SetRefusal}
use Rattle.circuit_table.specs.Pumps.{connect_answer}
use Rattle.circuit_table.specs.Sets.{Act}
use Rattle.circuit_table.specs.Standing.{write_answer}
use Rattle.nodes_broadcast.specs.declared.nodes.NodesRefusal.{NodesRefusal}
use Rattle.nodes_broadcast.specs.Nodes.{Broadcast, nodes_at}
use Rattle.node_core.specs.Acts as acts
use Rattle.node_core.specs.Acts.{Answered, UserAct}
use Rattle.node_core.specs.Broadcasts.{is_broadcast, round_frames}
use Rattle.node_core.specs.Configs.{start_of}
use Rattle.node_model.specs.Links as links
use Rattle.node_model.specs.Pumping.{pump}
use Rattle.node_core.specs.Receiving as receiving
use Rattle.node_core.specs.Broadcasts as rounds
use Rattle.node_model.specs.Serving as s
use Rattle.node_model.specs.States.{State, at_links, fetch_own, next_hop, put, with_items}
use Rattle.node_core.proofs.Pumped.{pump_links}
use Rattle.node_core.proofs.Served.{Serves}
use Rattle.node_core.proofs.Walking.{Walks}

-- ---- what a table of links keeps

abbrev few_bytes : Callsign → Payload → Bool
few_bytes call p = nat_le (length p.info.items) 256

abbrev of_frames : ℕ → Bool
of_frames size = nat_eq size 8 || nat_eq size 128

abbrev pub IsShort : Table → Type 0
IsShort t = Carries (λ call p. true) few_bytes of_frames t

-- ---- a text that waits

link_is : (P : Linked → Type 0) (peer : Callsign) (ls : List Linked) (l : Linked) → AllByRecursion P ls → link_with peer ls ≡ Some l → P l
link_is P peer [] l a e = absurd (cc e)
link_is P peer (m ∷ ls) l a e = by (same_call peer m.peer) e (λ g. link_is P peer ls l a.1 g)
  where
    by : (b : Bool) → (if b then Some m else link_with peer ls) ≡ Some l → (link_with peer ls ≡ Some l → P l) → P l
    by true g rest = let same : m ≡ l = cc g in subst P same a.0
    by false g rest = rest g

joined_most : (a : Answer) → text_by (whole_of a) ≡ true → length (texts.message_of a) ≤ 8192
joined_most (Whole pid message) e =
    let x = and_parts (pid == plain_text) (nat_le 1 (length message) && nat_le (length message) 8192) e in
    let y = and_parts (nat_le 1 (length message)) (nat_le (length message) 8192) x.1 in
    grind (arith, nat_tests, y.1)
joined_most More e = absurd (cc e)
joined_most Short e = absurd (cc e)
joined_most (Broken expected found) e = absurd (cc e)

text_most : (j : HeldMessage) (p : Payload) → length p.info.items ≤ 256 → is_text j p ≡ true → length (texts.text_of j p) ≤ 8192
text_most j p few e = by (p.pid == plain_text) e
  where
    joined : (b : Bool) → (if b then text_by (whole_of (join_step j p.info.items).1) else false) ≡ true → length (texts.message_of (join_step j p.info.items).1) ≤ 8192
    joined true f = joined_most (join_step j p.info.items).1 f
    joined false f = absurd (cc f)

    by : (b : Bool) → (if b then nat_le 1 (length p.info.items) else (if p.pid == segmented then text_by (whole_of (join_step j p.info.items).1) else false)) ≡ true
        → length (if b then p.info.items else texts.message_of (join_step j p.info.items).1) ≤ 8192
    by true f = omega (arith, few)
    by false f = joined (p.pid == segmented) f

first_most : (call : Callsign) (j : HeldMessage) (ps : List Payload) → AllByRecursion (Has (few_bytes call)) ps → is_some (texts.first_text j (slice_get ps 0)) ≡ true → length (unwrap_or (texts.first_text j (slice_get ps 0)) []) ≤ 8192
first_most call j [] a e = absurd (cc e)
first_most call j (p ∷ ps) a e = by (is_text j p) refl e
  where
    few : length p.info.items ≤ 256
    few = grind (arith, nat_tests, a.0)

    by : (b : Bool) → is_text j p ≡ b → is_some (if b then Some (texts.text_of j p) else None) ≡ true → length (unwrap_or (if b then Some (texts.text_of j p) else None) []) ≤ 8192
    by true f g = text_most j p few f
    by false f g = absurd (cc g)

link_most : (ls : List Linked) (peer : Callsign) (o : Option Linked) → link_with peer ls ≡ o → AllByRecursion (LinkHolds (λ call p. true) few_bytes of_frames) ls
    → is_some (elim o as (λ x. Option (List ℕ)) [ None ↦ None | Some l ↦ texts.text_at l ]) ≡ true
    → length (unwrap_or (elim o as (λ x. Option (List ℕ)) [ None ↦ None | Some l ↦ texts.text_at l ]) []) ≤ 8192
link_most ls peer None e a f = absurd (cc f)
link_most ls peer (Some l) e a f =
    let h = link_is (LinkHolds (λ call p. true) few_bytes of_frames) peer ls l a e in
    first_most l.peer l.joiner l.link.inbox h.payloads.inbox f

pub text_is_short : (peer : Callsign) (t : Table) → IsShort t → links.has_text peer t ≡ true → length (links.text_with peer t) ≤ 8192
unfolding links.has_text links.text_with
text_is_short peer t c e = link_most t.links peer (link_with peer t.links) refl c.links e

-- ---- as a node goes on

abbrev pub Goes : State → State → Type 0
Goes n m = IsShort n.links → IsShort m.links

module _ (law : CarriesWhatWasOffered) where
  on : CarriesOn (λ call p. true) few_bytes of_frames
  on = law (λ call p. true) few_bytes of_frames

  offered : (to : Callsign) (d : Datagram) (now : ℕ) (t : Table) → IsShort t → IsShort (links.offer to d now t)
  unfolding links.offer
  offered to d now t c = on.offers t to d now refl c

  pumped : (now : ℕ) (n : State) → Goes n (pump now n)
  pumped now n c = pump_links IsShort offered on.collects on.tells_lost now n c

  takes : (peer : Callsign) (now : ℕ) (t : Table) → IsShort t → IsShort (links.take_text peer now t)
  unfolding links.take_text
  takes peer now t c = on.takes t peer now c

  sends : (peer : Callsign) (text : List ℕ) (now : ℕ) (t : Table) → IsShort t → IsShort (links.send_text peer text now t)
  unfolding links.send_text
  sends peer text now t c = on.sends t peer text now c

  opens : (peer : Callsign) (path : ArrayVec Address) (now : ℕ) (t : Table) → IsShort t → IsShort (links.open_link peer path now t)
  unfolding links.open_link
  opens peer path now t c = on.opens t peer path now c

  closes : (peer : Callsign) (now : ℕ) (t : Table) → IsShort t → IsShort (links.close peer now t)
  unfolding links.close
  closes peer now t c = on.closes t peer now c

  ticked : (now : ℕ) (t : Table) → IsShort t → IsShort (links.tick_links now t)
  unfolding links.tick_links
  ticked now t c = on.ticks t now c

  breaks : (peer : Callsign) (t : Table) → IsShort t → IsShort (links.break_link peer t)
  unfolding links.break_link
  breaks peer t c = on.breaks t peer c

  noticed : (n : State) → Goes n (s.enter_notices n)
  noticed n c = record { modulus = c.modulus; size = c.size; links = c.links; waiting = c.waiting; frames = c.frames }

  putting : (f : Written) (n : State) → Goes n (put f n)
  putting f n c = record { modulus = c.modulus; size = c.size; links = c.links; waiting = c.waiting; frames = tt }

  puts : (fs : List Written) (n : State) → Goes n (rounds.put_all fs n)
  puts [] n c = c
  puts (f ∷ fs) n c = puts fs (put f n) (putting f n c)

  rounds_on : (n : State) → Goes n (rounds.do_round n)
  rounds_on n c = let m : State = with_items (logs.Round ∷ []) n in puts (round_frames m.settings.call m.settings.alias (to_broadcast m.settings.rules m.log)) m c

  serves : Serves Goes
  serves = record {
    still = λ n c. c;
    follows = λ a b c f g x. g (f x);
    changes = λ nth step n keeps c. c;
    greets = λ n c. c;
    drops = λ n c. c;
    acts = λ a n i c. c;
    pumps = pumped;
    takes_text = λ peer now n c. takes peer now n.links c;
    sends_text = λ peer text now n c. sends peer text now n.links c;
    closes_link = λ peer now n c. closes peer now n.links c;
  }

  pub walks : Walks Goes (λ item. Unit {0})
  walks = record {
    serves = serves;
    others = record {
      notices = noticed;
      rounds = rounds_on;
      next_round = λ due n c. c;
      ticks = λ now n c. ticked now n.links c;
      items = λ item n q c. c;
      fails = λ peer n c. breaks peer n.links c;
      opens = λ peer path now n call way c. opens peer path now n.links c;
    };
  }

  -- ---- what comes

  few_of : (pid : Option ℕ) (info : List ℕ) (p : Payload) → payload_of pid info ≡ Some p → nat_le (length p.info.items) 256 ≡ true
  few_of None info p e = absurd (cc e)
  few_of (Some pid) info p e = by (nat_le (length info) 256) refl e
    where
      by : (b : Bool) → nat_le (length info) 256 ≡ b → (if b then Some (record { pid = pid; info = record { items = info } }) else None) ≡ Some p → nat_le (length p.info.items) 256 ≡ true
      by true f g = let same : record { pid = pid; info = record { items = info } } ≡ p = cc g in subst (λ (q : Payload). nat_le (length q.info.items) 256 ≡ true) same f
      by false f g = absurd (cc g)

  sizes : (k : Control) (size : ℕ) → calls.set_up_size k ≡ Some size → of_frames size ≡ true
  sizes (control.Sabm pf) size e = let same : 8 ≡ size = cc e in subst (λ k. of_frames k ≡ true) same refl
  sizes (control.Sabme pf) size e = let same : 128 ≡ size = cc e in subst (λ k. of_frames k ≡ true) same refl
  sizes (control.I ns nr pf) size e = absurd (cc e)
  sizes (control.Rr nr pf) size e = absurd (cc e)
  sizes (control.Rnr nr pf) size e = absurd (cc e)
  sizes (control.Rej nr pf) size e = absurd (cc e)
  sizes (control.Srej nr pf) size e = absurd (cc e)
  sizes (control.Disc pf) size e = absurd (cc e)
  sizes (control.Dm pf) size e = absurd (cc e)
  sizes (control.Ua pf) size e = absurd (cc e)
  sizes (control.Frmr pf) size e = absurd (cc e)
  sizes (control.Ui pf) size e = absurd (cc e)
  sizes (control.Xid pf) size e = absurd (cc e)
  sizes (control.Test pf) size e = absurd (cc e)

  arrives : (f : Frame) (now : ℕ) (t : Table) → IsShort t → IsShort (links.arrive f now t)
  unfolding links.arrive
  arrives f now t c = on.arrives t f now (record { payload = λ p e. few_of f.pid f.info p e; size = λ k e. sizes f.control k e }) c

  either : (x y : State) (b : Bool) → IsShort x.links → IsShort y.links → IsShort (if b then x else y).links
  either x y true c d = c
  either x y false c d = d

  taken_in : (items : List Item) (n : State) → Goes n (receiving.take_in items n)
  taken_in items n c = either (with_items items n) _ (receiving.has_room items n) c c

  heard : (source : Callsign) (b : Result Broadcast NodesRefusal) (n : State) → Goes n (receiving.hear source b n)
  heard source (Ok b) n c = taken_in (logs.broadcast n.settings.call source b.alias (receiving.quality_to source n) b.entries) n c
  heard source (Err e) n c = c

  framed : (now : ℕ) (mine : Bool) (r : Result Frame FrameRefusal) (n : State) → Goes n (receiving.take_frame now mine r n)
  framed now mine (Err e) n c = c
  framed now mine (Ok f) n c = either _ _ (is_broadcast f) (heard f.head.source.call (nodes_at f.info) n c) (either (at_links (links.arrive f now) n) n mine (arrives f now n.links c) c)

  by_path : (now : ℕ) (octets : List ℕ) (h : Head) (a : Action) (n : State) → Goes n (receiving.take_by_path now octets h a n)
  by_path now octets h (Repeat path) n c = putting (receiving.repeated_frame h.path.items octets) n c
  by_path now octets h Not_yet n c = c
  by_path now octets h For_me n c = framed now true (read_at (receiving.modulus_with h.source.call n) octets) n c
  by_path now octets h Heard n c = framed now false (read_at (receiving.modulus_with h.source.call n) octets) n c

  headed : (now : ℕ) (octets : List ℕ) (h : Result (Head × ℕ) FrameRefusal) (n : State) → Goes n (receiving.take_head now octets h n)
  headed now octets (Err e) n c = c
  headed now octets (Ok h) n c = either n _ (same_call h.0.source.call n.settings.call) c (by_path now octets h.0 (action h.0.path.items h.0.dest.call n.settings.call) n c)

  pub item_short : (now : ℕ) (item : kiss.Item) (n : State) → Goes n (receiving.take_item now item n)
  item_short now (kiss.Frame port command payload) n c = either _ n ((port == 0) && (command == 0)) (headed now payload (read_head_at payload) n c) c
  item_short now kiss.Too_long n c = c

  -- ---- what a user does

  either_node : (x y : Answered) (b : Bool) → IsShort x.node.links → IsShort y.node.links → IsShort (if b then x else y).node.links
  either_node x y true c d = c
  either_node x y false c d = d

  connects : (r : Result ℕ ConnectRefusal) (a : Act) (n : State) → IsShort n.links → IsShort (acts.connect_by r a n).node.links
  connects (Ok id) a n c = c
  connects (Err why) a n c = c

  writes : (r : Result (Unit {0}) SetRefusal) (a : Act) (n : State) → IsShort n.links → IsShort (acts.write_by r a n).node.links
  writes (Ok _) a n c = c
  writes (Err why) a n c = c

  texts_sent : (r : Result (Unit {0}) TextRefusal) (now : ℕ) (to : Callsign) (text : List ℕ) (n : State) → IsShort n.links → IsShort (acts.send_by r now to text n).node.links
  texts_sent (Ok _) now to text n c = sends to text now n.links c
  texts_sent (Err why) now to text n c = c

  links_opened : (r : Result (Unit {0}) OpenRefusal) (now : ℕ) (to : Callsign) (path : ArrayVec Address) (n : State) → IsShort n.links → IsShort (acts.open_by r now to path n).node.links
  links_opened (Ok _) now to path n c = opens to path now n.links c
  links_opened (Err why) now to path n c = c

  pub act_short : (now : ℕ) (act : UserAct) (n : State) → IsShort n.links → IsShort (acts.do_act now act n).node.links
  act_short now acts.Round n c = rounds_on n c
  act_short now (acts.LinkFail peer) n c = breaks peer n.links c
  act_short now (acts.Lock dest alias neighbour quality) n c =
      either_node _ _ (same_call dest n.settings.call) c
      (either_node _ _ (nat_lt quality n.settings.rules.minq) c
      (either_node (acts.answer_done (with_items (logs.Lock dest alias neighbour quality ∷ []) n)) _ (receiving.has_room (logs.Lock dest alias neighbour quality ∷ []) n) c c))
  act_short now (acts.Connect dest) n c = connects (connect_answer (next_hop n) dest n.set.set) (sets.Connect dest now) n c
  act_short now (acts.ConnectFor user dest) n c = connects (connect_answer (next_hop n) dest n.set.set) (sets.ConnectFor user dest now) n c
  act_short now (acts.Write id message) n c =
      either_node _ _ (acts.is_kept id n) c (writes (write_answer (sets.end_of id n.set.set.ends) message) (sets.Calls id (sets.Writes message) now) n c)
  act_short now (acts.Take id) n c = either_node _ _ (acts.is_kept id n) c c
  act_short now (acts.Close id) n c = either_node _ _ (acts.is_kept id n) c c
  act_short now (acts.TakeText peer) n c = either_node (acts.take_text now peer n) _ n.settings.hosts (takes peer now n.links c) c
  act_short now (acts.SendText to text) n c = either_node (acts.send_text now to text n) _ n.settings.hosts (texts_sent (links.text_answer to text n.links) now to text n c) c
  act_short now (acts.OpenLink to path) n c = either_node (acts.open_link now to path n) _ n.settings.hosts (links_opened (links.open_answer to path n.links) now to path n c) c
  act_short now (acts.CloseLink peer) n c = either_node (acts.close_link now peer n) _ n.settings.hosts (closes peer now n.links c) c

  -- ---- what is set, and fetched; and a node as it starts

  pub path_short : (peer : Callsign) (path : ArrayVec Address) (n : State) → Goes n (at_links (calls.with_path peer path) n)
  path_short peer path n c = record { modulus = c.modulus; size = c.size; links = c.links; waiting = c.waiting; frames = c.frames }

  pub fetched_short : (own : List Written) (n : State) → Goes n (fetch_own own n)
  fetched_short [] n c = on.fetches n.links c
  fetched_short (f ∷ fs) n c = c

pub starts_short : (hosts : Bool) (c : NodeConfig) → IsShort (start_of hosts c).links
starts_short hosts c = record { modulus = modulus c.modulo128; size = size c.modulo128; links = tt; waiting = tt; frames = tt }
  where
    modulus : (b : Bool) → (modulus_size (extended_if b) ≡ 8) ⊎ (modulus_size (extended_if b) ≡ 128)
    modulus true = inr refl
    modulus false = inl refl

    size : (b : Bool) → of_frames (modulus_size (extended_if b)) ≡ true
    size true = refl
    size false = refl
