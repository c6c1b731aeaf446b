-- The calls of a table of links, each one step.
use Rattle.std.specs.Prelude.{ℕ, ◌≡◌, ◌==◌, ◌&&◌, Bool, true, false, not, nat_le, nat_lt, is_some, is_ok, Result, Ok, Err, if◌then◌else◌, List, [], ◌∷◌, ◌++◌, map, length, drop, Option, None, Some}
use Rattle.std.specs.Map.{lookup}
use Rattle.indexmap.specs.IndexMap.{insert_entry}
use Rattle.ax_address.specs.Callsign.{same_call, Callsign}
use Rattle.ax_link.specs.declared.config.LinkConfig.{LinkConfig}
use Rattle.link_table.specs.declared.open_refusal.OpenRefusal.{OpenRefusal}
use Rattle.link_table.specs.declared.open_refusal.OpenRefusal.TheVariants as opens
use Rattle.link_table.specs.declared.path_refusal.PathRefusal.{PathRefusal}
use Rattle.link_table.specs.declared.path_refusal.PathRefusal.TheVariants.{TooLong, Full}
use Rattle.arrayvec.specs.ArrayVec.{ArrayVec}
use Rattle.radio_base.specs.declared.payload.Payload.{Payload}
use Rattle.ax_address.specs.declared.address.Address.{Address}
use Rattle.ax_frame.specs.declared.control.Control.{Control}
use Rattle.ax_frame.specs.declared.control.Control.TheVariants as control
use Rattle.ax_frame.specs.Frames.{Frame as AirFrame, frame}
use Rattle.ax_frame.specs.FrameText.{is_command}
use Rattle.ax_link.specs.declared.notice.LinkNotice.{LinkNotice}
use Rattle.ax_link.specs.declared.notice.LinkNotice.TheVariants.{Closed, Failed}
use Rattle.ax_link.specs.Kinds.{frame_in}
use Rattle.ax_link.specs.Opening.{opening, rules_new}
use Rattle.ax_link.specs.State.{Frame, Rules}
use Rattle.ax_link.specs.Table.{Arrive, Close, Send, Set_up, Tick, step, takes}
use Rattle.ax_segment.specs.Joining.{Nothing}
use Rattle.digi_path.specs.Paths.{way_back}
use Rattle.l3_datagram.specs.Datagrams.{Datagram}
use Rattle.l3_datagram.specs.declared.carrier.Offered.{Offered}
use Rattle.l3_datagram.specs.declared.carrier.Offered.TheVariants.{Taken, Dropped}
use Rattle.link_table.specs.Frames.{Sent, netrom, sent, fitting, head_to, all_sent}
use Rattle.link_table.specs.Table.{Linked, Table, Via, link_with, with_link, without, path_to}
use Rattle.link_table.specs.Works.{Work, arrive_at_link, is_down, emit, step_link, tell}

-- the most links of a node
abbrev pub most_links : ℕ
most_links = 64

-- the table after work at the link with a peer: a link that is Down leaves at once
abbrev pub keep : Callsign → Work → Table → Table
keep peer w t =
    record t {
      links = if is_down w.linked.link.phase then without peer t.links else with_link peer w.linked t.links;
      pending = w.pending;
    }

-- this is done at the link with a peer, where one stands
abbrev pub at_link : Callsign → (Work → Work) → Table → Table
at_link peer part t =
    elim (link_with peer t.links) as (λ x. Table)
    [ None ↦ t | Some l ↦ keep peer (part (record { linked = l; pending = t.pending })) t ]

-- a link that ends without a frame
abbrev pub end : Callsign → List LinkNotice → Table → Table
end peer notes t =
    elim (link_with peer t.links) as (λ x. Table)
    [ None ↦ t | Some l ↦ record t { links = without peer t.links; pending = tell peer notes t.pending } ]

-- one link more, which is Down
abbrev pub made : Callsign → ℕ → ArrayVec Address → Table → Table
made peer size path t =
    let new : Linked = record { peer = peer; link = opening (rules_new size t.config); path = path; joiner = Nothing; called = false } in
    record t { links = t.links ++ new ∷ [] }

-- ---- frames that come

abbrev pub back : AirFrame → ArrayVec Address
back f = record { items = way_back f.head.path.items }

abbrev pub source : AirFrame → Callsign
source f = f.head.source.call

-- an answer of the node itself goes over the way back
abbrev pub answer : AirFrame → Control → List ℕ → Table → Table
answer f c info t = record t { pending = emit (fitting (sent 8 (frame (head_to t.own (source f) (back f) false) c None info))) t.pending }

-- the frame, as a link of this modulus takes it
abbrev pub link_frame : ℕ → AirFrame → Frame
link_frame size f = frame_in size (is_command f.head) f.control f.pid f.info

-- the frame goes to the link with its source, by that link's modulus
abbrev pub to_link : AirFrame → ℕ → Table → Table
to_link f now t = at_link (source f) (λ w. arrive_at_link t.own (link_frame w.linked.link.rules.size f) now w) t

-- the P/F bit of the DM with which a station without a link answers a command, where it answers
abbrev pub refusal_of : Control → Option Bool
refusal_of (control.Disc pf) = Some pf
refusal_of (control.Xid pf) = Some pf
refusal_of (control.I ns nr pf) = if pf then Some true else None
refusal_of (control.Rr nr pf) = if pf then Some true else None
refusal_of (control.Rnr nr pf) = if pf then Some true else None
refusal_of (control.Rej nr pf) = if pf then Some true else None
refusal_of (control.Srej nr pf) = if pf then Some true else None
refusal_of _ = None

abbrev pub refused_by : Callsign → Callsign → ArrayVec Address → Option Bool → List Sent
refused_by own peer path None = []
refused_by own peer path (Some pf) = fitting (sent 8 (frame (head_to own peer path false) (control.Dm pf) None []))

-- where no link stands, a command is answered as by a link that is Down, as the law of `answered_as_down` says
abbrev pub answer_down : AirFrame → Table → Table
answer_down f t = record t { pending = emit (refused_by t.own (source f) (back f) (refusal_of f.control)) t.pending }

-- a set-up command where no link stands makes a new one, for which there has to be room
abbrev pub set_up_new : ℕ → Bool → AirFrame → ℕ → Table → Table
set_up_new size pf f now t =
    if nat_le most_links (length t.links)
    then answer f (control.Dm pf) [] t
    else to_link f now (made (source f) size (back f) t)

-- a set-up command of this modulus. One of the other modulus ends the link first
abbrev pub set_up : ℕ → Bool → AirFrame → ℕ → Table → Table
set_up size pf f now t =
    elim (link_with (source f) t.links) as (λ x. Table) [
      | None ↦ set_up_new size pf f now t
      | Some l ↦ if l.link.rules.size == size then to_link f now t else set_up_new size pf f now (end (source f) (Closed ∷ []) t)
    ]

abbrev pub no_set_up : AirFrame → ℕ → Table → Table
no_set_up f now t =
    elim (link_with (source f) t.links) as (λ x. Table) [ None ↦ if is_command f.head then answer_down f t else t | Some l ↦ to_link f now t ]

-- a datagram in a UI frame
abbrev pub ui : AirFrame → Option ℕ → Table → Table
ui f None t = t
ui f (Some pid) t =
    if (pid == netrom) && nat_le (length f.info) 256
    then record t { pending = record t.pending { waiting = t.pending.waiting ++ (source f, record { items = f.info }) ∷ [] } }
    else t

-- a frame to this node, by its kind
abbrev pub arrive_kind : Bool → Control → AirFrame → ℕ → Table → Table
arrive_kind command (control.Ui pf) f now t = ui f f.pid t
arrive_kind true (control.Test pf) f now t = answer f (control.Test pf) f.info t
arrive_kind true (control.Sabm pf) f now t = set_up 8 pf f now t
arrive_kind true (control.Sabme pf) f now t = set_up 128 pf f now t
arrive_kind command _ f now t = no_set_up f now t

abbrev pub arrive : AirFrame → ℕ → Table → Table
arrive f now t = arrive_kind (is_command f.head) f.control f now t

-- ---- the other calls

-- time has passed at the links with these peers, one after another
abbrev pub tick_each : List Callsign → ℕ → Table → Table
tick_each [] now t = t
tick_each (peer ∷ peers) now t = tick_each peers now (at_link peer (step_link t.own Tick now) t)

abbrev pub tick : ℕ → Table → Table
tick now t = tick_each (map (λ l. l.peer) t.links) now t

abbrev pub close : Callsign → ℕ → Table → Table
close peer now t = at_link peer (step_link t.own Close now) t

abbrev pub break_link : Callsign → Table → Table
break_link peer t = end peer (Failed ∷ []) t

-- ---- datagrams that are offered

-- what an offer comes to
pub record Offering : Type 0 where
  pub answer : Offered
  pub table : Table

abbrev pub pack : Datagram → Payload
pack d = record { pid = netrom; info = d }

abbrev pub offer_ui : Callsign → Datagram → Table → Table
offer_ui to d t =
    record t { pending = emit (fitting (sent 8 (frame (head_to t.own to (path_to to t.paths) true) (control.Ui false) (Some netrom) d.items))) t.pending }

-- to the link that stands: it decides
abbrev pub offer_standing : Callsign → Datagram → ℕ → Table → Offering
offer_standing to d now t =
    elim (link_with to t.links) as (λ x. Offering) [
      | None ↦ record { answer = Dropped; table = t }
      | Some l ↦ if takes l.link
          then record { answer = Taken; table = at_link to (step_link t.own (Send (pack d)) now) t }
          else record { answer = Dropped; table = t }
    ]

-- a new link, for which there has to be room, is set up first: over these repeaters, or over those that are set for the peer
abbrev pub set_up_over : Callsign → ArrayVec Address → ℕ → Table → Table
set_up_over to path now t = at_link to (step_link t.own Set_up now) (made to t.size path t)

abbrev pub set_up_link : Callsign → ℕ → Table → Table
set_up_link to now t = set_up_over to (path_to to t.paths) now t

abbrev pub offer_link : Callsign → Datagram → ℕ → Table → Offering
offer_link to d now t =
    elim (link_with to t.links) as (λ x. Offering) [
      | None ↦ if nat_le most_links (length t.links) then record { answer = Dropped; table = t } else offer_standing to d now (set_up_link to now t)
      | Some l ↦ offer_standing to d now t
    ]

abbrev pub offer : Callsign → Datagram → ℕ → Table → Offering
offer to d now t = if t.by_links then offer_link to d now t else record { answer = Taken; table = offer_ui to d t }

-- ---- links that are opened

-- the most repeaters over which a node reaches a peer
abbrev pub most_repeaters : ℕ
most_repeaters = 2

-- a link isn't opened where one stands, over more than two repeaters, or where there is no room for it
abbrev pub open_answer : Callsign → ArrayVec Address → Table → Result (Unit {0}) OpenRefusal
open_answer peer path t =
    if is_some (link_with peer t.links) then Err opens.Standing
    else if nat_lt most_repeaters (length path.items) then Err opens.TooLong
    else if nat_le most_links (length t.links) then Err opens.Full
    else Ok tt

-- over these repeaters, or where there are none over those that are set for the peer
abbrev pub open_path : Callsign → ArrayVec Address → List Via → ArrayVec Address
open_path peer path vias = if length path.items == 0 then path_to peer vias else path

-- a link is made and set up, where nothing stands against it
abbrev pub open_link : Callsign → ArrayVec Address → ℕ → Table → Table
open_link peer path now t = if is_ok (open_answer peer path t) then set_up_over peer (open_path peer path t.paths) now t else t

-- the repeaters over which the link with a peer goes, where one stands
abbrev pub link_path : Callsign → Table → Option (ArrayVec Address)
link_path peer t = elim (link_with peer t.links) as (λ x. Option (ArrayVec Address)) [ None ↦ None | Some l ↦ Some l.path ]

-- whether a link with this peer stands that the peer has set up
abbrev pub is_called : Callsign → Table → Bool
is_called peer t = elim (link_with peer t.links) as (λ x. Bool) [ None ↦ false | Some l ↦ l.called ]

-- ---- what is fetched

abbrev pub collect : Table → Table
collect t = record t { pending = record t.pending { waiting = drop 1 t.pending.waiting } }

abbrev pub tell_lost : Table → Table
tell_lost t = record t { pending = record t.pending { lost = drop 1 t.pending.lost } }

abbrev pub notice : Table → Table
notice t = record t { pending = record t.pending { notices = drop 1 t.pending.notices } }

abbrev pub fetch : Table → Table
fetch t = record t { pending = record t.pending { frames = drop 1 t.pending.frames } }

-- ---- paths

-- the repeaters to a peer are these from then on
abbrev pub with_path : Callsign → ArrayVec Address → Table → Table
with_path peer path t = record t { paths = insert_entry same_call t.paths peer path }

-- the most peers that have a path
abbrev pub most_paths : ℕ
most_paths = 16

-- a path is refused where it has too many repeaters, or where so many other peers have one
abbrev pub path_answer : Callsign → ArrayVec Address → Table → Result (Unit {0}) PathRefusal
path_answer peer path t =
    if nat_lt most_repeaters (length path.items) then Err TooLong
    else if nat_le most_paths (length t.paths) && not (is_some (lookup (same_call peer) t.paths)) then Err Full
    else Ok tt

-- a new table
abbrev pub no_links : Callsign → Bool → ℕ → LinkConfig → Table
no_links own by_links size config =
    record {
      own = own;
      by_links = by_links;
      size = size;
      config = config;
      links = [];
      paths = [];
      pending = record { waiting = []; lost = []; notices = []; frames = [] };
    }

-- the links with these peers are of modulo 128
abbrev pub is_128 : Callsign → Table → Bool
is_128 peer t = elim (link_with peer t.links) as (λ x. Bool) [ None ↦ false | Some l ↦ l.link.rules.size == 128 ]

-- ---- what is promised of the answer where no link stands

-- the modulus of the link that a set-up command asks for
abbrev pub set_up_size : Control → Option ℕ
set_up_size (control.Sabm pf) = Some 8
set_up_size (control.Sabme pf) = Some 128
set_up_size _ = None

abbrev pub sets_up : Control → Bool
sets_up (control.Sabm pf) = true
sets_up (control.Sabme pf) = true
sets_up _ = false

abbrev pub AnsweredAsDown : Type 0
AnsweredAsDown =
    (own peer : Callsign) (path : ArrayVec Address) (rules : Rules) (now : ℕ) (c : Control) (pid : Option ℕ) (info : List ℕ) → sets_up c ≡ false →
    refused_by own peer path (refusal_of c) ≡ all_sent 8 own peer path (step (opening rules) (Arrive (frame_in 8 true c pid info)) now).outs
