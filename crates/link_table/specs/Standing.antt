-- What the code keeps of a table of links, and for which tables it stands.
use Rattle.std.specs.Prelude.{is_some, ◌≡◌, ℕ, ◌≤◌, ◌==◌, Bool, true, false, if◌then◌else◌, List, [], ◌∷◌, ◌++◌, length, map, Result, Ok, Err, Option, None, Some, min, ◌-◌, slice_get, not, ◌&&◌, nat_lt}
use Rattle.std.specs.Option.{option_to_list}
use Rattle.std.specs.declared.alloc.Global.{Global}
use Rattle.std.specs.declared.vec.Vec.{Vec}
use Rattle.ax_address.specs.Callsign.{Callsign, same_call}
use Rattle.ax_link.specs.declared.config.LinkConfig.{LinkConfig}
use Rattle.ax_link.specs.declared.notice.LinkNotice.{LinkNotice}
use Rattle.ax_link.specs.Standing.{IsDrained}
use Rattle.ax_link.specs.Standing.{LinkView, Stands, StandsFor, frame_of}
use Rattle.ax_link.specs.State.{State, count_end}
use Rattle.ax_link.specs.Table.{may_close, Input, Send, step, takes}
use Rattle.l3_datagram.specs.declared.carrier.Offered.{Offered}
use Rattle.l3_datagram.specs.declared.carrier.Offered.TheVariants.{Taken, Dropped}
use Rattle.ax_segment.specs.Joining.{HeldMessage as Joined, join_step, IsWithin}
use Rattle.radio_base.specs.Modulus.{modulus_size}
use Rattle.radio_base.specs.declared.modulus.LinkModulus.{LinkModulus}
use Rattle.radio_base.specs.declared.modulus.LinkModulus.TheVariants.{Modulo8, Modulo128}
use Rattle.radio_base.specs.declared.payload.Payload.{Payload}
use Rattle.l3_datagram.specs.Datagrams.{Parcel, CarrierCall, Collect, Fail, Offer}
use Rattle.link_table.specs.declared.link_of.LinkOf.{LinkOf}
use Rattle.link_table.specs.declared.link_of.LinkOf.TheVariants.{Eight, Wide}
use Rattle.link_table.specs.declared.open_refusal.OpenRefusal.{OpenRefusal}
use Rattle.link_table.specs.declared.open_refusal.OpenRefusal.TheVariants as OpenRefusals
use Rattle.link_table.specs.declared.path_refusal.PathRefusal.{PathRefusal}
use Rattle.link_table.specs.declared.path_refusal.PathRefusal.TheVariants.{TooLong, Full, NoMemory}
use Rattle.link_table.specs.declared.text_refusal.TextRefusal.{TextRefusal}
use Rattle.link_table.specs.declared.text_refusal.TextRefusal.TheVariants as TextRefusals
use Rattle.link_table.specs.declared.route.LinkRoute.{LinkRoute}
use Rattle.link_table.specs.declared.pending.Pending.{Pending}
use Rattle.link_table.specs.declared.written.Written.{Written}
use Rattle.link_table.specs.declared.entry.LinkEntry.{LinkEntry}
use Rattle.link_table.specs.declared.held_links.HeldLinks.{HeldLinks}
use Rattle.link_table.specs.Calls.{collect, most_links, offer, tell_lost}
use Rattle.std.proofs.Common.{refl, subst, sym}
use Rattle.link_table.specs.Table.{PendingStands, written, Linked, Table, Via}
use Rattle.link_table.specs.Frames.{all_sent, netrom, segmented}
use Rattle.std.specs.Map.{lookup, remove_entry}
use Rattle.link_table.specs.Texts.{first_text, most_text, payloads_of}
use Rattle.link_table.specs.Works.{Work, is_down, joiner_after, lost_by}

abbrev pub modulus_of : LinkOf → LinkModulus
modulus_of (Eight l) = Modulo8
modulus_of (Wide l) = Modulo128

abbrev pub size_of : LinkOf → ℕ
size_of l = modulus_size (modulus_of l)

abbrev pub held_of : LinkOf → LinkView
held_of (Eight l) = l
held_of (Wide l) = l

-- a link of either modulus does a step, and stays of its modulus
pub record LinkGoes (i : Input) (now : ℕ) (old new : LinkOf) : Type 0 where
  pub size : size_of new ≡ size_of old
  pub does : (s : State) → StandsFor (size_of old) (held_of old) s → Stands (size_of old) (held_of new) (step s i now)

-- an entry as it is kept: its link, over what its frames go, its joiner and what waits to be fetched
pub record EntryStands (e : LinkEntry) (keep : Pending) (w : Work) : Type 0 where
  pub peer : w.linked.peer ≡ e.route.peer
  pub path : w.linked.path ≡ e.route.path
  pub link : StandsFor (size_of e.link) (held_of e.link) w.linked.link
  pub joiner : w.linked.joiner ≡ e.joiner
  pub called : w.linked.called ≡ e.called
  pub within : IsWithin e.joiner
  pub pending : PendingStands keep w.pending

-- what was kept of an entry goes over to what is kept as the work does; the entry stays at its route and modulus
pub record EntryGoes (part : Work → Work) (old new : LinkEntry) (keep kept2 : Pending) : Type 0 where
  pub route : new.route ≡ old.route
  pub size : size_of new.link ≡ size_of old.link
  pub goes : (w : Work) → EntryStands old keep w → EntryStands new kept2 (part w)

-- the frames of a link have gone out
abbrev pub gone_out : ℕ → LinkRoute → LinkView → List Written
gone_out size route h = map written (all_sent size route.own route.peer route.path (map (frame_of size) h.outs))

-- what comes of a step of an entry's link, by what waited after it
pub record Lifted (old new : LinkEntry) (keep kept2 : Pending) : Type 0 where
  pub route : new.route ≡ old.route
  pub size : size_of new.link ≡ size_of old.link
  pub link : held_of new.link ≡ record (held_of old.link) { outs = []; notice = None }
  pub joiner : new.joiner ≡ joiner_after (option_to_list (held_of old.link).notice) old.joiner
  pub called : new.called ≡ old.called
  pub waiting : kept2.waiting.items ≡ keep.waiting.items
  pub lost : kept2.lost.items ≡ keep.lost.items ++ lost_by old.route.peer (option_to_list (held_of old.link).notice)
  pub notices : kept2.notices.items ≡ keep.notices.items ++ map (λ n. (old.route.peer, n)) (option_to_list (held_of old.link).notice)
  pub frames : kept2.frames.items ≡ keep.frames.items ++ gone_out (size_of old.link) old.route (held_of old.link)

-- a payload that was taken: what is held of a message in segments, and what waits, by its PID
abbrev pub joined_with : Payload → Joined → Joined
joined_with p j = if p.pid == netrom then j else if p.pid == segmented then (join_step j p.info.items).0 else j

abbrev pub waiting_with : Callsign → Payload → List Parcel → List Parcel
waiting_with peer p ws = if p.pid == netrom then ws ++ (peer, p.info) ∷ [] else ws

pub record HandsUp (p : Payload) (peer : Callsign) (j j2 : Joined) (keep kept2 : Pending) : Type 0 where
  pub joiner : j2 ≡ joined_with p j
  pub within : IsWithin j → IsWithin j2
  pub waiting : kept2.waiting.items ≡ waiting_with peer p keep.waiting.items
  pub lost : kept2.lost.items ≡ keep.lost.items
  pub notices : kept2.notices.items ≡ keep.notices.items
  pub frames : kept2.frames.items ≡ keep.frames.items

-- how many numbers the links have that a node sets up itself. A search looks into what stands for a table, and isn't to go by the cases of this
unfoldable pub kept_size : LinkModulus → ℕ
kept_size modulus = modulus_size modulus

-- a link of the table
pub record LinkStands (node key : Callsign) (e : LinkEntry) (l : Linked) : Type 0 where
  pub own : e.route.own ≡ node
  pub peer : e.route.peer ≡ key
  pub is : l.peer ≡ key
  pub path : l.path ≡ e.route.path
  pub link : StandsFor (size_of e.link) (held_of e.link) l.link
  pub joiner : l.joiner ≡ e.joiner
  pub called : l.called ≡ e.called
  pub within : IsWithin e.joiner

-- link by link, in their order
abbrev pub LinksStand : Callsign → List (Callsign × LinkEntry) → List Linked → Type 0
LinksStand own [] [] = Unit {0}
LinksStand own (e ∷ es) (l ∷ ls) = LinkStands own e.0 e.1 l × LinksStand own es ls
LinksStand own _ _ = ⊥

-- nothing waits at a link
abbrev pub AllDrained : List (Callsign × LinkEntry) → Type 0
AllDrained [] = Unit {0}
AllDrained (e ∷ es) = IsDrained (held_of e.1.link) × AllDrained es

-- what the code keeps stands for a table
pub record CoreStands (c : HeldLinks) (t : Table) : Type 0 where
  pub own : t.own ≡ c.own
  pub by_links : t.by_links ≡ c.by_links
  pub size : t.size ≡ kept_size c.modulus
  pub config : t.config ≡ c.config
  pub links : LinksStand c.own c.links.entries t.links
  pub paths : t.paths ≡ c.paths.entries
  pub pending : PendingStands c.pending t.pending

-- what was kept goes over to what is kept as the call does
abbrev pub CoreGoes : (Table → Table) → HeldLinks → HeldLinks → Type 0
CoreGoes part old new = (t : Table) → CoreStands old t → CoreStands new (part t)

-- between calls no link has anything left to put out or to tell, and there are no more than 64
pub record Rests (c : HeldLinks) : Type 0 where
  pub drained : AllDrained c.links.entries
  pub few : length c.links.entries ≤ most_links

-- the text that waits at a link
abbrev pub text_in : LinkEntry → Option (List ℕ)
text_in e = first_text e.joiner (slice_get (held_of e.link).inbox 0)

abbrev pub text_of_entry : Option LinkEntry → Option (List ℕ)
text_of_entry None = None
text_of_entry (Some e) = text_in e

abbrev pub text_at : Callsign → List (Callsign × LinkEntry) → Option (List ℕ)
text_at peer es = text_of_entry (lookup (same_call peer) es)

-- the peers at whose link a text waits
abbrev pub text_keys : List (Callsign × LinkEntry) → List Callsign
text_keys [] = []
text_keys (e ∷ es) = if is_some (text_in e.1) then e.0 ∷ text_keys es else text_keys es

-- how many payloads a link would still accept, by what is kept of it
abbrev pub room_in : LinkView → ℕ
room_in h = if may_close h.phase && not h.closing then min (128 - length h.queue) (count_end - h.acked - length h.queue) else 0

abbrev pub room_of_entry : Option LinkEntry → ℕ
room_of_entry None = 0
room_of_entry (Some e) = room_in (held_of e.link)

abbrev pub room_at : Callsign → List (Callsign × LinkEntry) → ℕ
room_at peer es = room_of_entry (lookup (same_call peer) es)

-- whether the link with a peer is Down
abbrev pub down_by : Option LinkEntry → Bool
down_by None = false
down_by (Some e) = is_down (held_of e.link).phase

abbrev pub down_at : Callsign → List (Callsign × LinkEntry) → Bool
down_at peer es = down_by (lookup (same_call peer) es)

abbrev pub drop_if_down : Callsign → List (Callsign × LinkEntry) → List (Callsign × LinkEntry)
drop_if_down peer es = if down_at peer es then remove_entry (same_call peer) es else es

-- what contracts see of a table of links
pub record TableView : Type 0 where
  pub own : Callsign
  pub by_links : Bool
  pub modulus : LinkModulus
  pub config : LinkConfig
  pub links : List (Callsign × LinkEntry)
  pub paths : List Via
  pub waiting : List Parcel
  pub lost : List Callsign
  pub notices : List (Callsign × LinkNotice)
  pub frames : List Written
  pub spent : Bool  -- memory ran out in an earlier call

abbrev pub shown : HeldLinks → Bool → TableView
shown c spent =
    record {
      own = c.own;
      by_links = c.by_links;
      modulus = c.modulus;
      config = c.config;
      links = c.links.entries;
      paths = c.paths.entries;
      waiting = c.pending.waiting.items;
      lost = c.pending.lost.items;
      notices = c.pending.notices.items;
      frames = c.pending.frames.items;
      spent = spent;
    }

-- it stands for a table where it isn't spent, and holds what the table holds but for what links have forgotten
pub record TableStands (k : TableView) (t : Table) : Type 0 where
  pub spent : k.spent ≡ false
  pub own : t.own ≡ k.own
  pub by_links : t.by_links ≡ k.by_links
  pub size : t.size ≡ kept_size k.modulus
  pub config : t.config ≡ k.config
  pub links : LinksStand k.own k.links t.links
  pub paths : t.paths ≡ k.paths
  pub waiting : k.waiting ≡ t.pending.waiting
  pub lost : k.lost ≡ t.pending.lost
  pub notices : k.notices ≡ t.pending.notices
  pub frames : k.frames ≡ map written t.pending.frames

abbrev pub TableGoes : (Table → Table) → TableView → TableView → Type 0
TableGoes part old new = (t : Table) → TableStands old t → TableStands new (part t)

-- ---- the table as a carrier of datagrams

-- the call has this answer
abbrev pub Answers : Table → CarrierCall → Type 0
Answers t (Offer to datagram now answer) = answer ≡ (offer to datagram now t).answer
Answers t (Collect answer) = answer ≡ slice_get t.pending.waiting 0
Answers t (Fail answer) = answer ≡ slice_get t.pending.lost 0

-- after the call
abbrev pub after_call : CarrierCall → Table → Table
after_call (Offer to datagram now answer) t = (offer to datagram now t).table
after_call (Collect answer) t = collect t
after_call (Fail answer) t = tell_lost t

abbrev pub AllAnswer : Table → List CarrierCall → Type 0
AllAnswer t [] = Unit {0}
AllAnswer t (c ∷ cs) = Answers t c × AllAnswer (after_call c t) cs

abbrev pub after_calls : List CarrierCall → Table → Table
after_calls [] t = t
after_calls (c ∷ cs) t = after_calls cs (after_call c t)

-- For each table that the carrier before stands for, these calls have these answers, and the carrier after stands for the
-- table to which they lead.
abbrev pub Made : TableView → List CarrierCall → TableView → Type 0
Made old cs new = (t : Table) → TableStands old t → AllAnswer t cs × TableStands new (after_calls cs t)

all_answer : (t : Table) (cs more : List CarrierCall) → AllAnswer t cs → AllAnswer (after_calls cs t) more → AllAnswer t (cs ++ more)
all_answer t [] more a b = b
all_answer t (c ∷ cs) more a b = (a.0, all_answer (after_call c t) cs more a.1 b)

after_more : (t : Table) (cs more : List CarrierCall) → after_calls (cs ++ more) t ≡ after_calls more (after_calls cs t)
after_more t [] more = refl
after_more t (c ∷ cs) more = after_more (after_call c t) cs more

pub more_made : (a b c : TableView) (cs more : List CarrierCall) → Made a cs b → Made b more c → Made a (cs ++ more) c
more_made a b c cs more first next t s =
    let x = first t s in
    let y = next (after_calls cs t) x.1 in
    (all_answer t cs more x.0 y.0, subst (TableStands c) (sym (after_more t cs more)) y.1)

-- frames that were kept go over to those that are kept as the step of the link puts out; it tells nothing
pub record Quietly (size : ℕ) (route : LinkRoute) (i : Input) (now : ℕ) (s : State) (new : LinkView) (fs fs2 : List Written) : Type 0 where
  pub link : StandsFor size new (step s i now).link
  pub frames : fs2 ≡ fs ++ map written (all_sent size route.own route.peer route.path (step s i now).outs)
  pub notes : (step s i now).notes ≡ []

abbrev pub GoesQuietly : ℕ → LinkRoute → Input → ℕ → LinkView → LinkView → List Written → List Written → Type 0
GoesQuietly size route i now old new fs fs2 = (s : State) → StandsFor size old s → Quietly size route i now s new fs fs2

-- a payload is offered to a link: it is taken, or nothing is changed
abbrev pub Offers : ℕ → LinkRoute → Payload → ℕ → LinkView → LinkView → List Written → List Written → Offered → Type 0
Offers size route p now old new fs fs2 Taken = ((s : State) → StandsFor size old s → takes s ≡ true) × GoesQuietly size route (Send p) now old new fs fs2
Offers size route p now old new fs fs2 Dropped = ((s : State) → StandsFor size old s → takes s ≡ false) × (new ≡ old) × (fs2 ≡ fs)

-- of an entry, all but its link stays, and that keeps its modulus
pub record SameEntry (old new : LinkEntry) : Type 0 where
  pub route : new.route ≡ old.route
  pub joiner : new.joiner ≡ old.joiner
  pub called : new.called ≡ old.called
  pub size : size_of new.link ≡ size_of old.link

-- the modulus of the link with a peer, where one stands
abbrev pub modulus_by : Option LinkEntry → Option LinkModulus
modulus_by None = None
modulus_by (Some e) = Some (modulus_of e.link)

abbrev pub modulus_at : Callsign → List (Callsign × LinkEntry) → Option LinkModulus
modulus_at peer es = modulus_by (lookup (same_call peer) es)

-- a link that is lent stands for the one of the table: none where none stands
abbrev pub LentStands : Option LinkOf → Option Linked → Type 0
LentStands None None = Unit {0}
LentStands (Some l) (Some linked) = StandsFor (size_of l) (held_of l) linked.link
LentStands None (Some linked) = ⊥
LentStands (Some l) None = ⊥

-- a call has an answer other than want of memory
abbrev pub NotNoMemory : Result (Unit {0}) PathRefusal → Type 0
NotNoMemory (Ok _) = Unit {0}
NotNoMemory (Err NoMemory) = ⊥
NotNoMemory (Err TooLong) = Unit {0}
NotNoMemory (Err Full) = Unit {0}

-- a text: the message that was joined, or the payload itself
abbrev pub text_among : Payload → Option (Vec ℕ Global) → List ℕ
text_among p None = p.info.items
text_among p (Some message) = message.items

-- the text that was handed out, where one was
abbrev pub text_given : Bool → List ℕ → Option (List ℕ)
text_given true out = Some out
text_given false out = None

-- why a text isn't sent over a link, by what is kept of it
abbrev pub answer_in : List ℕ → LinkEntry → Result (Unit {0}) TextRefusal
answer_in text e =
    if not (may_close (held_of e.link).phase && not (held_of e.link).closing) then Err TextRefusals.NoLink
    else if nat_lt most_text (length text) then Err TextRefusals.TooLong
    else if nat_lt (room_in (held_of e.link)) (length (payloads_of (size_of e.link) text)) then Err TextRefusals.Full
    else Ok tt

abbrev pub answer_of_entry : List ℕ → Option LinkEntry → Result (Unit {0}) TextRefusal
answer_of_entry text None = Err TextRefusals.NoLink
answer_of_entry text (Some e) = answer_in text e

abbrev pub answer_at : Callsign → List ℕ → List (Callsign × LinkEntry) → Result (Unit {0}) TextRefusal
answer_at peer text es = answer_of_entry text (lookup (same_call peer) es)

abbrev pub TextNotNoMemory : Result (Unit {0}) TextRefusal → Type 0
TextNotNoMemory (Ok _) = Unit {0}
TextNotNoMemory (Err TextRefusals.NoMemory) = ⊥
TextNotNoMemory (Err TextRefusals.NoLink) = Unit {0}
TextNotNoMemory (Err TextRefusals.TooLong) = Unit {0}
TextNotNoMemory (Err TextRefusals.Full) = Unit {0}

abbrev pub OpenNotNoMemory : Result (Unit {0}) OpenRefusal → Type 0
OpenNotNoMemory (Ok _) = Unit {0}
OpenNotNoMemory (Err OpenRefusals.NoMemory) = ⊥
OpenNotNoMemory (Err OpenRefusals.Standing) = Unit {0}
OpenNotNoMemory (Err OpenRefusals.TooLong) = Unit {0}
OpenNotNoMemory (Err OpenRefusals.Full) = Unit {0}
