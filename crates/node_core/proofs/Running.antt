-- Each input of a node is inputs of its circuits.
use Rattle.std.proofs.Common.{◌≡◌, ◌∙◌, ℕ, refl, sym, ap, subst, List, [], ◌∷◌, ◌++◌, append-nil}
use Rattle.std.specs.Prelude.{Bool, true, false, if◌then◌else◌, map, ◌&&◌, ◌==◌, length, Result, Ok, Err}
use Rattle.ax_address.specs.Callsign.{Callsign, same_call, ReadsCallTexts}
use Rattle.ax_frame.specs.declared.head.Head.{Head}
use Rattle.ax_frame.specs.declared.frame.FrameRefusal.{FrameRefusal}
use Rattle.ax_frame.specs.Frames.{Frame, read_head_at, read_at}
use Rattle.ax_link.specs.declared.notice.LinkNotice.{LinkNotice}
use Rattle.circuit_table.specs.Pumps.{runs, Waiting, at_rest}
use Rattle.circuit_table.specs.Sets as sets
use Rattle.circuit_table.specs.Sets.{Act, SetState, CircuitTold}
use Rattle.circuit_table.specs.Standing.{write_answer}
use Rattle.circuit_table.specs.declared.refusal.SetRefusal.{SetRefusal}
use Rattle.digi_path.specs.Paths.{Action, For_me, Repeat, Not_yet, Heard}
use Rattle.kiss_framing.specs.Stream as kiss
use Rattle.link_table.specs.declared.written.Written.{Written}
use Rattle.nodes_broadcast.specs.declared.nodes.NodesRefusal.{NodesRefusal}
use Rattle.nodes_broadcast.specs.Nodes.{Broadcast, nodes_at}
use Rattle.route_table.specs.Table.{to_broadcast, usable}
use Rattle.route_table.specs.Log as logs
use Rattle.route_table.specs.Log.{Item}
use Rattle.node_core.specs.declared.acts.ActRefusal.TheVariants as refusal
use Rattle.node_core.specs.Acts as acts
use Rattle.node_core.specs.Acts.{Answered, UserAct}
use Rattle.node_core.specs.Broadcasts.{is_broadcast, round_frames}
use Rattle.node_model.specs.Links as links
use Rattle.node_core.specs.Inputs.{after_input, after_item, after_items, moment, new_items}
use Rattle.node_core.specs.Laws.{NothingLeftAfterInputs}
use Rattle.node_core.specs.Receiving as receiving
use Rattle.node_core.specs.Broadcasts as rounds
use Rattle.node_core.specs.Runs.{ActsRun, BytesRun, IsUserAct, MadeFrom, RunsBy, TicksRun, circuits_told, user_writes, write_in}
use Rattle.node_model.specs.Serving as s
use Rattle.node_core.specs.Standing.{IsTold}
use Rattle.node_model.specs.States.{Of_link, Overflow, Settings, State, at_links, at_set, put, with_items}
use Rattle.node_core.proofs.Inputs.{are_acts, are_up, retold, stays, ticks_went}
use Rattle.node_core.proofs.Making.{runs_ok}
use Rattle.node_core.proofs.Nodes.{items_told, told_after}
use Rattle.node_core.proofs.Coming.{Came, act_came, either, pumped_came, same_came, still, then_came}
use Rattle.node_core.proofs.Served.{IsAsking, Serves, served_on}
use Rattle.node_core.proofs.Walking.{Parts, ServesSo, do_by, settled_by, tick_by}
use Rattle.node_model.specs.Users.{at_session}
use Rattle.node_model.specs.Serving.{drop_over, greet_links, serve_sessions}

-- ---- each thing that an input is made of

pub none_of_links : (ns : List (Callsign × LinkNotice)) → circuits_told (map (λ (x : Callsign × LinkNotice). Of_link x.0 x.1) ns) ≡ []
none_of_links [] = refl
none_of_links (n ∷ ns) = none_of_links ns

noticed_came : (n : State) → Came [] n (s.enter_notices n)
noticed_came n = record {
  more = map (λ (x : Callsign × LinkNotice). Of_link x.0 x.1) n.links.pending.notices;
  grew = refl;
  went = retold [] n.set n.set [] (circuits_told (map (λ (x : Callsign × LinkNotice). Of_link x.0 x.1) n.links.pending.notices)) (sym (none_of_links n.links.pending.notices)) (stays n.set);
  settings = refl;
}

frames_came : (fs : List Written) (n : State) → Came [] n (rounds.put_all fs n)
frames_came [] n = still n
frames_came (f ∷ fs) n = then_came [] [] n (put f n) _ (same_came n (put f n) refl refl refl) (frames_came fs (put f n))

round_came : (n : State) → Came [] n (rounds.do_round n)
round_came n =
    let m : State = with_items (logs.Round ∷ []) n in
    let fs = round_frames m.settings.call m.settings.alias (to_broadcast m.settings.rules m.log) in
    then_came [] [] n m (rounds.put_all fs m) (same_came n m refl refl refl) (frames_came fs m)

asked_came : (a : Act) (n : State) → IsAsking a → Came (write_in a) n (at_set (links.acts a) n)
asked_came (sets.Connect dest now) n i = act_came (sets.Connect dest now) n i
asked_came (sets.ConnectFor user dest now) n i = act_came (sets.ConnectFor user dest now) n i
asked_came (sets.Comes datagram now) n i = absurd i
asked_came (sets.Calls id call now) n i = act_came (sets.Calls id call now) n tt
asked_came (sets.Discard id) n i = act_came (sets.Discard id) n tt
asked_came (sets.Restart pair more) n i = absurd i

-- of locks nothing is asked
abbrev AnyItem : Item → Type 0
AnyItem item = Unit {0}

-- ---- where users are served, whatever these write

abbrev CameSome : State → State → Type 0
CameSome old new = (written : List Act) × Came written old new

silent_some : (n m : State) → Came [] n m → CameSome n m
silent_some n m c = ([], c)

serves : Serves CameSome
serves = record {
  still = λ n. silent_some n n (still n);
  follows = λ a b c g h. (g.0 ++ h.0, then_came g.0 h.0 a b c g.1 h.1);
  changes = λ nth step n keeps. silent_some n (at_session nth step n) (same_came n (at_session nth step n) refl refl refl);
  greets = λ n. silent_some n (greet_links n) (same_came n (greet_links n) refl refl refl);
  drops = λ n. silent_some n (drop_over n) (same_came n (drop_over n) refl refl refl);
  acts = λ a n i. (write_in a, asked_came a n i);
  pumps = λ now n. silent_some n _ (pumped_came now n);
  takes_text = λ peer now n. silent_some n (at_links (links.take_text peer now) n) (same_came n (at_links (links.take_text peer now) n) refl refl refl);
  sends_text = λ peer text now n. silent_some n (at_links (links.send_text peer text now) n) (same_came n (at_links (links.send_text peer text now) n) refl refl refl);
  closes_link = λ peer now n. silent_some n (at_links (links.close peer now) n) (same_came n (at_links (links.close peer now) n) refl refl refl);
}

-- ---- where none is served, what the node's own user writes

record CameBy (written : List Act) (old new : State) : Type 0 where
  some : List Act
  came : Came some old new
  off : old.settings.prompt ≡ false → some ≡ written

silent : (n m : State) → Came [] n m → CameBy [] n m
silent n m c = record { some = []; came = c; off = λ e. refl }

then_by : (ws vs : List Act) (a b c : State) → CameBy ws a b → CameBy vs b c → CameBy (ws ++ vs) a c
then_by ws vs a b c g h = record {
  some = g.some ++ h.some;
  came = then_came g.some h.some a b c g.came h.came;
  off = λ e. ap (λ (us : List Act). us ++ h.some) (g.off e) ∙ ap (λ (us : List Act). ws ++ us) (h.off (ap (λ (x : Settings). x.prompt) g.came.settings ∙ e));
}

parts : Parts (CameBy []) AnyItem
parts = record {
  still = λ n. silent n n (still n);
  follows = then_by [] [];
  asks = λ a n i e. record { some = write_in a; came = asked_came a n i; off = λ off. e };
  pumps = λ now n. silent n _ (pumped_came now n);
  takes_text = λ peer now n. silent n (at_links (links.take_text peer now) n) (same_came n (at_links (links.take_text peer now) n) refl refl refl);
  sends_text = λ peer text now n. silent n (at_links (links.send_text peer text now) n) (same_came n (at_links (links.send_text peer text now) n) refl refl refl);
  closes_link = λ peer now n. silent n (at_links (links.close peer now) n) (same_came n (at_links (links.close peer now) n) refl refl refl);
  others = record {
    notices = λ n. silent n (s.enter_notices n) (noticed_came n);
    rounds = λ n. silent n (rounds.do_round n) (round_came n);
    next_round = λ due n. silent n (record n { next_round = due }) (same_came n (record n { next_round = due }) refl refl refl);
    ticks = λ now n. silent n _ (record { more = []; grew = sym (append-nil n.entries); went = ticks_went now n.set; settings = refl });
    items = λ item n q. silent n (with_items (item ∷ []) n) (same_came n (with_items (item ∷ []) n) refl refl refl);
    fails = λ peer n. silent n (acts.fail_link peer n) (same_came n (acts.fail_link peer n) refl refl refl);
    opens = λ peer path now n call way. silent n (at_links (links.open_link peer path now) n) (same_came n (at_links (links.open_link peer path now) n) refl refl refl);
  };
}

module _ (reads : ReadsCallTexts) where
  served_so : ServesSo (CameBy [])
  served_so now n on =
      let c : CameSome n (serve_sessions now n).after = served_on CameSome serves reads now n in
      record { some = c.0; came = c.1; off = λ off. (let bad : true ≡ false = sym on ∙ off in absurd (cc bad)) }

  settled : (now : ℕ) (n : State) → CameBy [] n (after_input now n)
  settled now n = settled_by (CameBy []) AnyItem parts served_so now n

-- an act, before the node settles
write_case : (now id : ℕ) (message : List ℕ) (n : State) (r : Result (Unit {0}) SetRefusal)
    → (let a : Answered = acts.write_by r (sets.Calls id (sets.Writes message) now) n in CameBy (user_writes now (acts.Write id message) a.answer) n a.node)
write_case now id message n (Ok _) = record { some = sets.Calls id (sets.Writes message) now ∷ []; came = act_came (sets.Calls id (sets.Writes message) now) n tt; off = λ e. refl }
write_case now id message n (Err why) = silent n n (still n)

unless_case : (now id : ℕ) (message : List ℕ) (n : State) (b : Bool) (a : Answered) → CameBy (user_writes now (acts.Write id message) a.answer) n a.node
    → (let c : Answered = if b then acts.refuse refusal.Served n else a in CameBy (user_writes now (acts.Write id message) c.answer) n c.node)
unless_case now id message n true a c = silent n n (still n)
unless_case now id message n false a c = c

done_by : (now : ℕ) (act : UserAct) (n : State) → IsUserAct act → CameBy (user_writes now act (acts.do_act now act n).answer) n (acts.do_act now act n).node
done_by now acts.Round n i = do_by (CameBy []) AnyItem parts now acts.Round n i tt tt
done_by now (acts.LinkFail peer) n i = do_by (CameBy []) AnyItem parts now (acts.LinkFail peer) n i tt tt
done_by now (acts.Lock dest alias neighbour quality) n i = do_by (CameBy []) AnyItem parts now (acts.Lock dest alias neighbour quality) n i tt tt
done_by now (acts.Connect dest) n i = do_by (CameBy []) AnyItem parts now (acts.Connect dest) n i tt tt
done_by now (acts.ConnectFor user dest) n i = do_by (CameBy []) AnyItem parts now (acts.ConnectFor user dest) n i tt tt
done_by now (acts.Write id message) n i = unless_case now id message n (acts.is_kept id n) (acts.write now id message n) (write_case now id message n (write_answer (sets.end_of id n.set.set.ends) message))
done_by now (acts.Take id) n i = do_by (CameBy []) AnyItem parts now (acts.Take id) n i tt tt
done_by now (acts.Close id) n i = do_by (CameBy []) AnyItem parts now (acts.Close id) n i tt tt
done_by now (acts.TakeText peer) n i = do_by (CameBy []) AnyItem parts now (acts.TakeText peer) n i tt tt
done_by now (acts.SendText to text) n i = do_by (CameBy []) AnyItem parts now (acts.SendText to text) n i tt tt
done_by now (acts.OpenLink to path) n i = do_by (CameBy []) AnyItem parts now (acts.OpenLink to path) n i tt tt
done_by now (acts.CloseLink peer) n i = do_by (CameBy []) AnyItem parts now (acts.CloseLink peer) n i tt tt

-- ---- KISS items

taken_in_came : (items : List Item) (n : State) → Came [] n (receiving.take_in items n)
taken_in_came items n =
    either n _ _ (receiving.has_room items n) (same_came n (with_items items n) refl refl refl)
    (record { more = Overflow (length (usable n.settings.rules n.log)) (receiving.live_with items n) ∷ []; grew = refl; went = stays n.set; settings = refl })

heard_came : (source : Callsign) (b : Result Broadcast NodesRefusal) (n : State) → Came [] n (receiving.hear source b n)
heard_came source (Ok b) n = taken_in_came _ n
heard_came source (Err e) n = still n

frame_came : (now : ℕ) (mine : Bool) (f : Result Frame FrameRefusal) (n : State) → Came [] n (receiving.take_frame now mine f n)
frame_came now mine (Err e) n = still n
frame_came now mine (Ok f) n =
    either n _ _ (is_broadcast f) (heard_came f.head.source.call (nodes_at f.info) n)
    (either n _ _ mine (same_came n (at_links (links.arrive f now) n) refl refl refl) (still n))

path_came : (now : ℕ) (octets : List ℕ) (h : Head) (a : Action) (n : State) → Came [] n (receiving.take_by_path now octets h a n)
path_came now octets h (Repeat path) n = same_came n _ refl refl refl
path_came now octets h Not_yet n = still n
path_came now octets h For_me n = frame_came now true (read_at (receiving.modulus_with h.source.call n) octets) n
path_came now octets h Heard n = frame_came now false (read_at (receiving.modulus_with h.source.call n) octets) n

head_came : (now : ℕ) (octets : List ℕ) (h : Result (Head × ℕ) FrameRefusal) (n : State) → Came [] n (receiving.take_head now octets h n)
head_came now octets (Err e) n = still n
head_came now octets (Ok h) n = either n _ _ (same_call h.0.source.call n.settings.call) (still n) (path_came now octets h.0 _ n)

item_came : (now : ℕ) (item : kiss.Item) (n : State) → Came [] n (receiving.take_item now item n)
item_came now (kiss.Frame port command payload) n = either n _ _ ((port == 0) && (command == 0)) (head_came now payload (read_head_at payload) n) (still n)
item_came now kiss.Too_long n = still n

items_came : ReadsCallTexts → (now : ℕ) (items : List kiss.Item) (n : State) → CameBy [] n (after_items now items n)
items_came reads now [] n = silent n n (still n)
items_came reads now (item ∷ more) n =
    let m : State = receiving.take_item now item n in
    then_by [] [] n (after_item now item n) _ (then_by [] [] n m (after_item now item n) (silent n m (item_came now item n)) (settled reads now m)) (items_came reads now more (after_item now item n))

-- ---- a node at rest

-- it goes on by these inputs to a node at rest
exact : (written : List Act) (old new : State) → CameBy written old new → IsTold old → IsTold new → RunsBy written old new
exact written old new by e f =
    let c = by.came in
    let inputs = c.went.inputs in
    let told : circuits_told c.more ≡ (runs inputs old.set.set).told =
    sym (append-nil (circuits_told c.more)) ∙ (ap (λ (w : Waiting). circuits_told c.more ++ w.untold) (sym f)
    ∙ (c.went.given ∙ ap (λ (w : Waiting). w.untold ++ (runs inputs old.set.set).told) e)) in
    let ok = runs_ok old.set.set inputs c.went.are in
    record {
      run = record {
        inputs = inputs;
        more = c.more;
        allowed = are_acts inputs c.went.are;
        up = are_up inputs c.went.are;
        entries = c.grew;
        set = f ∙ ap at_rest c.went.set;
        told = told;
        made = subst (λ (ts : List CircuitTold). MadeFrom old.set.set.number ts new.set.set.number) (sym told)
            (subst (λ (t : SetState). MadeFrom old.set.set.number (runs inputs old.set.set).told t.number) (sym c.went.set) ok.made);
        own = ap (λ (t : SetState). t.own) c.went.set ∙ ok.own;
        settings = c.settings;
      };
      writes = λ off. c.went.writes ∙ by.off off;
    }

module _ (nothing : NothingLeftAfterInputs) (reads : ReadsCallTexts) where
  pub bytes_run : BytesRun
  bytes_run now bytes n e =
      let items = new_items n.stream bytes in
      exact [] n.station _ (items_came reads (moment now) items n.station) e (items_told nothing (moment now) items n.station e)

  pub ticks_run : TicksRun
  ticks_run now n e =
      let m : State = rounds.tick (moment now) n.station in
      exact [] n.station _ (then_by [] [] n.station m _ (tick_by (CameBy []) AnyItem parts (moment now) n.station) (settled reads (moment now) m)) e (told_after nothing (moment now) m)

  pub acts_run : ActsRun
  acts_run now act n i e =
      let a : Answered = acts.do_act (moment now) act n.station in
      let m : State = a.node in
      let written : List Act = user_writes (moment now) act a.answer in
      exact written n.station _
      (subst (λ (ws : List Act). CameBy ws n.station (after_input (moment now) m)) (append-nil written) (then_by written [] n.station m _ (done_by (moment now) act n.station i) (settled reads (moment now) m)))
      e (told_after nothing (moment now) m)
