-- Each thing that is done at a node leaves a session at a link where the link stands, and none where no users are served.
use Rattle.std.proofs.Common.{◌≡◌, ◌∙◌, ℕ, zero, suc, refl, ap, arith, List, [], ◌∷◌, map, slice_get}
use Rattle.std.specs.Prelude.{Bool, true, false, not, ◌&&◌, ◌==◌, nat_lt, filter, if◌then◌else◌, Option, Some, None, Result, Ok, Err}
use Rattle.arrayvec.specs.ArrayVec.{ArrayVec}
use Rattle.ax_address.specs.Callsign.{Callsign, same_call}
use Rattle.ax_address.specs.declared.address.Address.{Address}
use Rattle.ax_frame.specs.declared.frame.FrameRefusal.{FrameRefusal}
use Rattle.ax_frame.specs.declared.head.Head.{Head}
use Rattle.ax_frame.specs.Frames.{Frame, read_at, read_head_at}
use Rattle.ax_link.specs.declared.notice.LinkNotice.{LinkNotice}
use Rattle.circuit_table.specs.Pumps.{Dropped, Lost, Of, Offers, Says, SetTold, Turn, Turned}
use Rattle.circuit_table.specs.Sets as sets
use Rattle.digi_path.specs.Paths.{Action, For_me, Heard, Not_yet, Repeat, action}
use Rattle.kiss_framing.specs.Stream as kiss
use Rattle.l3_datagram.specs.Datagrams.{Parcel}
use Rattle.link_table.specs.Calls as calls
use Rattle.link_table.specs.Calls.{collect, tell_lost}
use Rattle.link_table.specs.Ending.{EndsAreTold, TextsAreOfLinks}
use Rattle.link_table.specs.declared.written.Written.{Written}
use Rattle.nodes_broadcast.specs.Nodes.{Broadcast, nodes_at}
use Rattle.nodes_broadcast.specs.declared.nodes.NodesRefusal.{NodesRefusal}
use Rattle.route_table.specs.Table.{to_broadcast}
use Rattle.route_table.specs.Log as logs
use Rattle.route_table.specs.Log.{Item}
use Rattle.node_core.specs.declared.config.NodeConfig.{NodeConfig}
use Rattle.node_model.specs.declared.user.User.{User}
use Rattle.node_model.specs.declared.user.User.TheVariants.{AtLink}
use Rattle.node_core.specs.Broadcasts.{is_broadcast, round_frames}
use Rattle.node_model.specs.Links as links
use Rattle.node_core.specs.Configs.{start_of}
use Rattle.node_model.specs.Pumping as p
use Rattle.node_core.specs.Receiving as receiving
use Rattle.node_core.specs.Broadcasts as rounds
use Rattle.node_model.specs.Serving as serving
use Rattle.node_model.specs.Sessions as s
use Rattle.node_model.specs.Sessions.{Session}
use Rattle.node_model.specs.States.{State, at_links, fetch_own, next_hop, put, with_items}
use Rattle.node_model.specs.Users.{at_session, change_if}
use Rattle.node_core.proofs.Lodging.{Housed, breaks, closes, dropped, greeted, moved, noticed_all, opens, pumped, sends, stepped, takes, ticks, fewer}
use Rattle.node_core.proofs.Served.{Serves}
use Rattle.node_model.proofs.Telling.{told_kept}
use Rattle.node_core.proofs.Walking.{Walks}

-- ---- no session where no users are served

abbrev pub IsQuiet : State → Type 0
IsQuiet n = n.settings.prompt ≡ false → n.sessions ≡ []

greets_none : (b : Bool) (user : User) → b ≡ false → s.greet b user [] ≡ []
greets_none b user e = ap (λ c. s.greet c user []) e

hears_none : (b : Bool) (o : Option SetTold) → b ≡ false → s.hear_if b o [] ≡ []
hears_none b None e = refl
hears_none b (Some (Of (sets.Made id pair partner None))) e = refl
hears_none b (Some (Of (sets.Made id pair partner (Some d)))) e = greets_none b _ e
hears_none b (Some (Of (sets.Notice id notice))) e = refl
hears_none b (Some (Of (sets.Gone id facts))) e = refl
hears_none b (Some (Of (sets.Sent id number d))) e = refl
hears_none b (Some (Of (sets.Heeded id d))) e = refl
hears_none b (Some (Of (sets.Restarted pair))) e = refl
hears_none b (Some (Of (sets.Lost id facts))) e = refl
hears_none b (Some (Dropped r)) e = refl
hears_none b (Some (Lost c)) e = refl

quiet_turned : (t : Turned) (n : State) → IsQuiet n → IsQuiet (p.with_turned t n)
quiet_turned t n q e = ap (λ (ss : List Session). s.hear_if n.settings.prompt t.told ss) (q e) ∙ hears_none n.settings.prompt t.told e

quiet_taken : (now : ℕ) (t : Turn) (n : State) → IsQuiet n → IsQuiet (p.take_turn now t n)
quiet_taken now (Says t) n q = quiet_turned t n q
quiet_taken now (Offers to d by) n q = quiet_turned (by (links.offer_answer to d now n.links)) (at_links (links.offer to d now) n) q

quiet_tells : (now : ℕ) (n : State) (b : Bool) → IsQuiet n → IsQuiet (if b then p.tell_one now n else n)
quiet_tells now n true q = quiet_taken now (links.tells (next_hop n) n.set) n q
quiet_tells now n false q = q

quiet_told : (now : ℕ) (n : State) → IsQuiet n → IsQuiet (p.tell_all now n)
quiet_told now n q = told_kept now IsQuiet (λ m x. quiet_tells now m (nat_lt 0 (p.pending m)) x) n q

quiet_asked : (now : ℕ) (n : State) (lost : List Callsign) (waiting : List Parcel) → IsQuiet n → IsQuiet (p.ask_for now lost waiting n)
quiet_asked now n (c ∷ cs) waiting q = quiet_turned (links.hears_lost c n.set) (at_links tell_lost n) q
quiet_asked now n [] (parcel ∷ parcels) q = quiet_taken now (links.hears (next_hop n) now parcel n.set) (at_links collect n) q
quiet_asked now n [] [] q = q

quiet_times : (now k : ℕ) (n : State) → IsQuiet n → IsQuiet (p.ask_times now k n)
quiet_times now zero n q = q
quiet_times now (suc k) n q =
    quiet_times now k (p.tell_all now (p.ask now n)) (quiet_told now (p.ask now n) (quiet_asked now n n.links.pending.lost n.links.pending.waiting q))

quiet_pumped : (now : ℕ) (n : State) → IsQuiet n → IsQuiet (p.pump now n)
unfolding p.pump
quiet_pumped now n q = quiet_times now (p.at_router n) (p.tell_all now n) (quiet_told now n q)

quiet_changed : (nth : ℕ) (step : Session → Session) (n : State) → IsQuiet n → IsQuiet (at_session nth step n)
quiet_changed nth step n q e = ap (λ (ss : List Session). change_if (slice_get ss nth) nth step ss) (q e)

each_none : (b : Bool) (peers : List Callsign) → b ≡ false → serving.greet_each b peers [] ≡ []
each_none b [] e = refl
each_none b (peer ∷ peers) e = ap (λ (ss : List Session). serving.greet_each b peers ss) (greets_none b (AtLink peer) e) ∙ each_none b peers e

quiet_greeted : (n : State) → IsQuiet n → IsQuiet (serving.greet_links n)
quiet_greeted n q e = ap (λ (ss : List Session). serving.greet_each n.settings.prompt (links.text_peers n.links) ss) (q e) ∙ each_none n.settings.prompt (links.text_peers n.links) e

quiet_dropped : (n : State) → IsQuiet n → IsQuiet (serving.drop_over n)
quiet_dropped n q e = ap (λ (ss : List Session). filter (λ x. not (serving.is_over n x)) ss) (q e)

left_none : (b : Bool) (peer : Callsign) → (if b then map (s.leave peer) [] else []) ≡ []
left_none true peer = refl
left_none false peer = refl

links_none : (ns : List (Callsign × LinkNotice)) → s.hear_links ns [] ≡ []
links_none [] = refl
links_none (x ∷ ns) = ap (λ (ss : List Session). s.hear_links ns ss) (left_none (s.ends_link x.1) x.0) ∙ links_none ns

quiet_noticed : (n : State) → IsQuiet n → IsQuiet (serving.enter_notices n)
quiet_noticed n q e = ap (λ (ss : List Session). s.hear_links n.links.pending.notices ss) (q e) ∙ links_none n.links.pending.notices

-- ---- both, as a node goes on

-- each session at a link has its link, and where no users are served there is none
abbrev pub Peopled : State → Type 0
Peopled n = Housed n × IsQuiet n

abbrev pub Goes : State → State → Type 0
Goes n m = Peopled n → Peopled m

module _ (told : EndsAreTold) (texts : TextsAreOfLinks) where
  putting : (f : Written) (n : State) → Goes n (put f n)
  putting f n x = (record { order = record { on = x.0.order.on; once = x.0.order.once; few = x.0.order.few }; once = x.0.once; lodged = x.0.lodged }, x.1)

  puts : (fs : List Written) (n : State) → Goes n (rounds.put_all fs n)
  puts [] n x = x
  puts (f ∷ fs) n x = puts fs (put f n) (putting f n x)

  rounds_on : (n : State) → Goes n (rounds.do_round n)
  rounds_on n x = let m : State = with_items (logs.Round ∷ []) n in puts (round_frames m.settings.call m.settings.alias (to_broadcast m.settings.rules m.log)) m x

  serves : Serves Goes
  serves = record {
    still = λ n x. x;
    follows = λ a b c f g x. g (f x);
    changes = λ nth step n keeps x. (fewer n.links n.sessions _ (stepped nth step n.sessions keeps) x.0, quiet_changed nth step n x.1);
    greets = λ n x. (greeted texts n x.0, quiet_greeted n x.1);
    drops = λ n x. (dropped n x.0, quiet_dropped n x.1);
    acts = λ a n i x. x;
    pumps = λ now n x. (pumped told now n x.0, quiet_pumped now n x.1);
    takes_text = λ peer now n x. (moved n.links _ n.sessions (takes told peer now n.links) x.0, x.1);
    sends_text = λ peer text now n x. (moved n.links _ n.sessions (sends told peer text now n.links) x.0, x.1);
    closes_link = λ peer now n x. (moved n.links _ n.sessions (closes told peer now n.links) x.0, x.1);
  }

  pub walks : Walks Goes (λ item. Unit {0})
  walks = record {
    serves = serves;
    others = record {
      notices = λ n x. (noticed_all n.links n.sessions x.0, quiet_noticed n x.1);
      rounds = rounds_on;
      next_round = λ due n x. x;
      ticks = λ now n x. (moved n.links _ n.sessions (ticks told now n.links) x.0, x.1);
      items = λ item n q x. x;
      fails = λ peer n x. (moved n.links _ n.sessions (breaks told peer n.links) x.0, x.1);
      opens = λ peer path now n call way x. (moved n.links _ n.sessions (opens told peer path now n.links) x.0, x.1);
    };
  }

  -- ---- what comes

  arrives : (f : Frame) (now : ℕ) (n : State) → Goes n (at_links (links.arrive f now) n)
  unfolding links.arrive
  arrives f now n x = (moved n.links _ n.sessions (told.arrives n.links f now) x.0, x.1)

  either : (x y : State) (b : Bool) → Peopled x → Peopled y → Peopled (if b then x else y)
  either x y true c d = c
  either x y false c d = d

  taken_in : (items : List Item) (n : State) → Goes n (receiving.take_in items n)
  taken_in items n c = either (with_items items n) _ (receiving.has_room items n) c c

  heard : (source : Callsign) (b : Result Broadcast NodesRefusal) (n : State) → Goes n (receiving.hear source b n)
  heard source (Ok b) n c = taken_in (logs.broadcast n.settings.call source b.alias (receiving.quality_to source n) b.entries) n c
  heard source (Err e) n c = c

  framed : (now : ℕ) (mine : Bool) (r : Result Frame FrameRefusal) (n : State) → Goes n (receiving.take_frame now mine r n)
  framed now mine (Err e) n c = c
  framed now mine (Ok f) n c = either _ _ (is_broadcast f) (heard f.head.source.call (nodes_at f.info) n c) (either (at_links (links.arrive f now) n) n mine (arrives f now n c) c)

  by_path : (now : ℕ) (octets : List ℕ) (h : Head) (a : Action) (n : State) → Goes n (receiving.take_by_path now octets h a n)
  by_path now octets h (Repeat path) n c = putting (receiving.repeated_frame h.path.items octets) n c
  by_path now octets h Not_yet n c = c
  by_path now octets h For_me n c = framed now true (read_at (receiving.modulus_with h.source.call n) octets) n c
  by_path now octets h Heard n c = framed now false (read_at (receiving.modulus_with h.source.call n) octets) n c

  headed : (now : ℕ) (octets : List ℕ) (h : Result (Head × ℕ) FrameRefusal) (n : State) → Goes n (receiving.take_head now octets h n)
  headed now octets (Err e) n c = c
  headed now octets (Ok h) n c = either n _ (same_call h.0.source.call n.settings.call) c (by_path now octets h.0 (action h.0.path.items h.0.dest.call n.settings.call) n c)

  pub item_on : (now : ℕ) (item : kiss.Item) (n : State) → Goes n (receiving.take_item now item n)
  item_on now (kiss.Frame port command payload) n c = either _ n ((port == 0) && (command == 0)) (headed now payload (read_head_at payload) n c) c
  item_on now kiss.Too_long n c = c

-- ---- what is set, and fetched; and a node as it starts

pub path_on : (peer : Callsign) (path : ArrayVec Address) (n : State) → Peopled n → Peopled (at_links (calls.with_path peer path) n)
path_on peer path n x = (record { order = record { on = x.0.order.on; once = x.0.order.once; few = x.0.order.few }; once = x.0.once; lodged = x.0.lodged }, x.1)

pub fetched_on : (own : List Written) (n : State) → Peopled n → Peopled (fetch_own own n)
fetched_on [] n x = (record { order = record { on = x.0.order.on; once = x.0.order.once; few = x.0.order.few }; once = x.0.once; lodged = x.0.lodged }, x.1)
fetched_on (f ∷ fs) n x = x

pub starts_on : (hosts : Bool) (c : NodeConfig) → Peopled (start_of hosts c)
starts_on hosts c = (record { order = record { on = tt; once = tt; few = omega arith }; once = λ peer. omega arith; lodged = λ peer some. absurd (omega (arith, some)) }, λ e. refl)
