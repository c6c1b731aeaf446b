-- What a node carries after each thing that an input is made of.
use Rattle.std.proofs.Common.{◌≡◌, ℕ, refl, sym, ap, subst, List, [], ◌∷◌, ◌++◌, append-nil, inl, inr, arith}
use Rattle.std.specs.Prelude.{Bool, true, false, if◌then◌else◌, nat_eq, map, Option}
use Rattle.std.specs.List.{AllByRecursion, range_with_len}
use Rattle.radio_base.specs.declared.payload.Payload.{Payload}
use Rattle.arrayvec.specs.ArrayVec.{ArrayVec}
use Rattle.radio_base.proofs.Each.{each_append}
use Rattle.ax_address.specs.declared.address.Address.{Address}
use Rattle.link_table.specs.Reaching.{IsWay}
use Rattle.ax_address.specs.Callsign.{Callsign}
use Rattle.ax_address.specs.declared.alias.Alias.{Alias}
use Rattle.ax_address.specs.declared.entry.Entry.{Entry as Said}
use Rattle.circuit_table.specs.Pumps.{ticks_of}
use Rattle.circuit_table.specs.Sets as sets
use Rattle.circuit_table.specs.Sets.{Act, Holder, set_step}
use Rattle.l3_datagram.specs.Onward.{GoesOneHopOn}
use Rattle.link_table.specs.Table.{written, Table}
use Rattle.link_table.specs.Frames as frames
use Rattle.link_table.specs.Laws.{CarriesByWeaker, CarriesOn, CarriesWhatWasOffered, FrameHolds}
use Rattle.link_table.specs.declared.written.Written.{Written}
use Rattle.nodes_broadcast.specs.Nodes.{Broadcast}
use Rattle.route_table.specs.Table.{to_broadcast}
use Rattle.route_table.specs.Log as logs
use Rattle.route_table.specs.Log.{Item}
use Rattle.node_core.specs.Acts as acts
use Rattle.ax_link.specs.declared.notice.LinkNotice.{LinkNotice}
use Rattle.link_table.specs.Reaching.{FramesAreSpelled, IsCall, IsSpelled, Reaches}
use Rattle.nodes_broadcast.proofs.Names.{nodes_is_call}
use Rattle.node_core.specs.Broadcasts.{broadcast_frame, broadcast_octets, entries_of_frame, frame_count, round_frame, round_frames}
use Rattle.node_core.specs.Carried.{CarriesTraced, IsCarried, IsOfNode, NamesCall, Place, WasBorne, brings_traced, offers_traced}
use Rattle.node_model.specs.Links as links
use Rattle.node_core.specs.Broadcasts as rounds
use Rattle.node_model.specs.Sessions.{Session}
use Rattle.node_model.specs.Serving as s
use Rattle.node_model.specs.States as states
use Rattle.node_model.specs.States.{State, Of_link, at_links, at_set, put, with_items}
use Rattle.node_core.proofs.Inputs.{IsInput}
use Rattle.node_core.proofs.Pumps.{pumped}
use Rattle.node_core.proofs.Running.{none_of_links}
use Rattle.node_core.proofs.Served.{IsAsking}
use Rattle.node_core.proofs.Trails.{Goes, LinksCarry, LinksHold, OwnCarried, input, quiet, still, follows}
use Rattle.node_core.proofs.Walking.{Walks}
use Rattle.node_model.specs.Users.{at_session}
use Rattle.node_model.specs.Serving.{drop_over, greet_links}

-- a broadcast of a call carries nothing
pub broadcast_carried : (size : ℕ) (offers : Callsign → Payload → Bool) (own : Callsign) (b : Broadcast) → IsCall own → IsCarried size offers (broadcast_octets own b)
broadcast_carried size offers own b c = record {
  frame = record { size = 8; frame = broadcast_frame own b };
  are = refl;
  spelled = record {
    spelled = record {
      calls = (nodes_is_call, (c, tt));
      eight = omega arith;
      parts = record { numbers = tt; pid_there = refl; no_info = λ e. absurd (cc e) };
      spelled = refl;
    };
    sets_up = λ n e. absurd (cc e);
  };
  fit = inl refl;
}

module _ (here : Place) (law : CarriesWhatWasOffered) (weaker : CarriesByWeaker) (spelled : FramesAreSpelled) (one_hop : GoesOneHopOn) where
  on : (sent : List (List ℕ)) → CarriesOn (offers_traced here sent) (brings_traced here) (nat_eq here.size)
  on sent = law (offers_traced here sent) (brings_traced here) (nat_eq here.size)

  -- ---- the links

  links_go : (n : State) (t : Table) → ((sent : List (List ℕ)) → LinksCarry here sent n.links → LinksCarry here sent t) → (Reaches here.size n.links → Reaches here.size t) → Goes here n (record n { links = t })
  links_go n t f g =
      quiet here n (record n { links = t }) [] (sym (append-nil n.entries)) refl refl refl
      (λ sent x. record { links = f sent x.links; reaches = g x.reaches; own = x.own; untold = x.untold; names = x.names; call = x.call })

  text_taken : (peer : Callsign) (now : ℕ) (n : State) → Goes here n (at_links (links.take_text peer now) n)
  unfolding links.take_text
  text_taken peer now n = links_go n _ (λ sent c. (on sent).takes n.links peer now c) (λ r. (spelled here.size).takes n.links peer now r)

  text_sent : (peer : Callsign) (text : List ℕ) (now : ℕ) (n : State) → Goes here n (at_links (links.send_text peer text now) n)
  unfolding links.send_text
  text_sent peer text now n = links_go n _ (λ sent c. (on sent).sends n.links peer text now c) (λ r. (spelled here.size).sends n.links peer text now r)

  opened : (peer : Callsign) (path : ArrayVec Address) (now : ℕ) (n : State) → IsCall peer → IsWay path → Goes here n (at_links (links.open_link peer path now) n)
  unfolding links.open_link
  opened peer path now n call way = links_go n _ (λ sent c. (on sent).opens n.links peer path now c) (λ r. (spelled here.size).opens n.links peer path now call way r)

  closed : (peer : Callsign) (now : ℕ) (n : State) → Goes here n (at_links (links.close peer now) n)
  unfolding links.close
  closed peer now n = links_go n _ (λ sent c. (on sent).closes n.links peer now c) (λ r. (spelled here.size).closes n.links peer now r)

  failed : (peer : Callsign) (n : State) → Goes here n (acts.fail_link peer n)
  unfolding links.break_link
  failed peer n =
      quiet here n (acts.fail_link peer n) [] (sym (append-nil n.entries)) refl refl refl
      (λ sent x. record {
        links = (on sent).breaks n.links peer x.links;
        reaches = (spelled here.size).breaks n.links peer x.reaches;
        own = x.own;
        untold = x.untold;
        names = each_append NamesCall n.log (logs.Failure peer ∷ []) x.names (tt, tt);
        call = x.call;
      })

  noticed : (n : State) → Goes here n (s.enter_notices n)
  noticed n =
      quiet here n (s.enter_notices n) (map (λ (x : Callsign × LinkNotice). Of_link x.0 x.1) n.links.pending.notices) refl refl (ap (λ ts. ts ++ n.set.untold) (none_of_links n.links.pending.notices)) refl
      (λ sent x. record {
        links = record { modulus = x.links.modulus; size = x.links.size; links = x.links.links; waiting = x.links.waiting; frames = x.links.frames };
        reaches = record { modulus = x.reaches.modulus; of_size = x.reaches.of_size; own = x.reaches.own; links = x.reaches.links; paths = x.reaches.paths; frames = x.reaches.frames };
        own = x.own;
        untold = x.untold;
        names = x.names;
        call = x.call;
      })

  -- ---- frames of the node itself

  all_written : (sent : List (List ℕ)) (ss : List frames.Sent) → AllByRecursion (FrameHolds (offers_traced here sent) (brings_traced here) (nat_eq here.size)) ss → AllByRecursion (IsSpelled here.size) ss
      → OwnCarried here sent (map written ss)
  all_written sent [] a b = tt
  all_written sent (f ∷ ss) a b = (record { frame = f; are = refl; spelled = b.0; fit = inr (record { payload = a.0.payload; size = a.0.size }) }, all_written sent ss a.1 b.1)

  -- all frames of a node
  pub all_carried : (sent : List (List ℕ)) (n : State) → CarriesTraced here sent n → OwnCarried here sent (states.frames n)
  all_carried sent n x =
      each_append (λ (f : Written). IsOfNode here sent f.octets.items) n.own (map written n.links.pending.frames) x.own (all_written sent n.links.pending.frames x.links.frames x.reaches.frames)

  -- they were fetched
  pub fetched_links : (sent : List (List ℕ)) (n : State) → CarriesTraced here sent n → LinksHold here sent (links.all_fetched n.links)
  fetched_links sent n x = (
    record { modulus = x.links.modulus; size = x.links.size; links = x.links.links; waiting = x.links.waiting; frames = tt },
    record { modulus = x.reaches.modulus; of_size = x.reaches.of_size; own = x.reaches.own; links = x.reaches.links; paths = x.reaches.paths; frames = tt },
  )

  pub put_carries : (sent : List (List ℕ)) (f : Written) (n : State) → IsOfNode here sent f.octets.items → CarriesTraced here sent n → CarriesTraced here sent (put f n)
  put_carries sent f n g x = record {
    links = (fetched_links sent n x).0;
    reaches = (fetched_links sent n x).1;
    own = each_append (λ (y : Written). IsOfNode here sent y.octets.items) (states.frames n) (f ∷ []) (all_carried sent n x) (g, tt);
    untold = x.untold;
    names = x.names;
    call = x.call;
  }

  put_goes : (f : Written) (n : State) → ((sent : List (List ℕ)) → CarriesTraced here sent n → IsOfNode here sent f.octets.items) → Goes here n (put f n)
  put_goes f n g = quiet here n (put f n) [] (sym (append-nil n.entries)) refl refl refl (λ sent x. put_carries sent f n (g sent x) x)

  -- a broadcast of a call is carried
  broadcast_carries : (sent : List (List ℕ)) (own : Callsign) (b : Broadcast) → IsCall own → IsOfNode here sent (broadcast_octets own b)
  broadcast_carries sent own b c = broadcast_carried here.size (offers_traced here sent) own b c

  abbrev OwnRound : Callsign → Written → Type 0
  OwnRound own f = (b : Broadcast) × (f.octets.items ≡ broadcast_octets own b)

  own_rounds : (c : Callsign) (alias : Alias) (es : List Said) (ks : List ℕ) → AllByRecursion (OwnRound c) (map (round_frame c alias es) ks)
  own_rounds c alias es [] = tt
  own_rounds c alias es (k ∷ ks) = ((record { alias = alias; entries = entries_of_frame es k }, refl), own_rounds c alias es ks)

  all_put : (fs : List Written) (n : State) → AllByRecursion (OwnRound n.settings.call) fs → Goes here n (rounds.put_all fs n)
  all_put [] n a = still here n
  all_put (f ∷ fs) n a =
      follows here n (put f n) _ (put_goes f n (λ sent x. subst (IsOfNode here sent) (sym a.0.1) (broadcast_carries sent n.settings.call a.0.0 (subst IsCall (sym x.call.0) x.call.1)))) (all_put fs (put f n) a.1)

  pub logged : (items : List Item) (n : State) → AllByRecursion NamesCall items → Goes here n (with_items items n)
  logged items n a =
      quiet here n (with_items items n) [] (sym (append-nil n.entries)) refl refl refl
      (λ sent x. record { links = x.links; reaches = x.reaches; own = x.own; untold = x.untold; names = each_append NamesCall n.log items x.names a; call = x.call })

  round_goes : (n : State) → Goes here n (rounds.do_round n)
  round_goes n =
      let m : State = with_items (logs.Round ∷ []) n in
      let es = to_broadcast m.settings.rules m.log in
      follows here n m _ (logged (logs.Round ∷ []) n (tt, tt))
      (all_put (round_frames m.settings.call m.settings.alias es) m (own_rounds m.settings.call m.settings.alias es (range_with_len 0 (frame_count es))))

  -- ---- inputs of the circuits

  one_come : (a : Act) → IsAsking a → AllByRecursion (WasBorne here) (a ∷ [])
  one_come (sets.Connect dest now) i = (tt, tt)
  one_come (sets.ConnectFor user dest now) i = (tt, tt)
  one_come (sets.Comes d now) i = absurd i
  one_come (sets.Calls id call now) i = (tt, tt)
  one_come (sets.Discard id) i = (tt, tt)
  one_come (sets.Restart pair more) i = absurd i

  is_input : (a : Act) → IsAsking a → IsInput a
  is_input (sets.Connect dest now) i = i
  is_input (sets.ConnectFor user dest now) i = i
  is_input (sets.Comes d now) i = absurd i
  is_input (sets.Calls id call now) i = tt
  is_input (sets.Discard id) i = tt
  is_input (sets.Restart pair more) i = absurd i

  asked : (a : Act) (n : State) → IsAsking a → Goes here n (at_set (links.acts a) n)
  unfolding links.acts
  asked a n i sent x =
      input here weaker sent n (at_set (links.acts a) n) (a ∷ []) (is_input a i, tt) refl refl (ap (λ ts. n.set.untold ++ ts) (sym (append-nil (set_step n.set.set a).told))) refl refl
      (one_come a i) (x.links, x.reaches) x.names x

  ticks_input : (now : ℕ) (hs : List Holder) → AllByRecursion IsInput (ticks_of now hs)
  ticks_input now [] = tt
  ticks_input now (h ∷ hs) = by h.gone (ticks_input now hs)
    where
      by : (b : Bool) → AllByRecursion IsInput (ticks_of now hs) → AllByRecursion IsInput (if b then ticks_of now hs else sets.Calls h.id sets.Ticks now ∷ ticks_of now hs)
      by true a = a
      by false a = (tt, a)

  ticks_come : (now : ℕ) (hs : List Holder) → AllByRecursion (WasBorne here) (ticks_of now hs)
  ticks_come now [] = tt
  ticks_come now (h ∷ hs) = by h.gone (ticks_come now hs)
    where
      by : (b : Bool) → AllByRecursion (WasBorne here) (ticks_of now hs) → AllByRecursion (WasBorne here) (if b then ticks_of now hs else sets.Calls h.id sets.Ticks now ∷ ticks_of now hs)
      by true a = a
      by false a = (tt, a)

  ticked : (now : ℕ) (n : State) → Goes here n (at_set (links.ticks now) (at_links (links.tick_links now) n))
  unfolding links.ticks links.tick_links
  ticked now n sent x =
      input here weaker sent n (at_set (links.ticks now) (at_links (links.tick_links now) n)) (ticks_of now n.set.set.ends) (ticks_input now n.set.set.ends) refl refl refl refl refl
      (ticks_come now n.set.set.ends) ((on sent).ticks n.links now x.links, (spelled here.size).ticks n.links now x.reaches) x.names x

  -- ---- all of them

  set_sessions : (n : State) (ss : List Session) → Goes here n (record n { sessions = ss })
  set_sessions n ss = quiet here n (record n { sessions = ss }) [] (sym (append-nil n.entries)) refl refl refl (λ sent x. record { links = x.links; reaches = x.reaches; own = x.own; untold = x.untold; names = x.names; call = x.call })

  set_due : (due : Option ℕ) (n : State) → Goes here n (record n { next_round = due })
  set_due due n = quiet here n (record n { next_round = due }) [] (sym (append-nil n.entries)) refl refl refl (λ sent x. record { links = x.links; reaches = x.reaches; own = x.own; untold = x.untold; names = x.names; call = x.call })

  pub walks : Walks (Goes here) NamesCall
  walks = record {
    serves = record {
      still = still here;
      follows = follows here;
      changes = λ nth step n keeps. set_sessions n (at_session nth step n).sessions;
      greets = λ n. set_sessions n (greet_links n).sessions;
      drops = λ n. set_sessions n (drop_over n).sessions;
      acts = asked;
      pumps = pumped here law weaker spelled one_hop;
      takes_text = text_taken;
      sends_text = text_sent;
      closes_link = closed;
    };
    others = record {
      notices = noticed;
      rounds = round_goes;
      next_round = set_due;
      ticks = ticked;
      items = λ item n a. logged (item ∷ []) n (a, tt);
      fails = failed;
      opens = opened;
    };
  }
