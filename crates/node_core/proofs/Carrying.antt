-- Each input of a node carries on what comes of datagrams that were sent.
use Rattle.std.proofs.Common.{◌≡◌, ◌∙◌, ℕ, refl, arith, sym, ap, subst, List, [], ◌∷◌, ◌++◌, append-nil, inl, inr}
use Rattle.std.specs.Prelude.{Bool, true, false, ◌&&◌, ◌||◌, ◌==◌, ◌⊎◌, if◌then◌else◌, nat_eq, length, Option, Some, None, Result, Ok, Err}
use Rattle.std.specs.List.{AllByRecursion}
use Rattle.std.proofs.lemmas.Bool.Decides.{nat_tests}
use Rattle.std.proofs.lemmas.Bool.{or_right}
use Rattle.ax_address.specs.Callsign.{Callsign, same_call, ReadsCallTexts}
use Rattle.ax_address.specs.declared.address.Address.{Address}
use Rattle.ax_frame.specs.declared.head.Head.{Head}
use Rattle.ax_frame.specs.declared.frame.FrameRefusal.{FrameRefusal}
use Rattle.ax_frame.specs.Frames.{Frame, HeadWithoutFault, SpelledHeadIsRead, SpelledIsRead, read_at, read_head_at}
use Rattle.ax_address.specs.declared.alias.Alias.{Alias}
use Rattle.ax_address.specs.declared.entry.Entry.{Entry as Said}
use Rattle.ax_address.proofs.SameCalls.{same_call-true}
use Rattle.circuit_table.specs.Pumps.{runs, Waiting, at_rest}
use Rattle.circuit_table.specs.Sets.{SetState, CircuitTold}
use Rattle.digi_path.specs.Paths.{Action, For_me, Repeat, Not_yet, Heard, action, behind, repeated}
use Rattle.kiss_framing.specs.Stream as kiss
use Rattle.l3_datagram.specs.Onward.{GoesOneHopOn}
use Rattle.radio_base.specs.Modulus.{extended_if, modulus_size}
use Rattle.link_table.specs.Calls as calls
use Rattle.link_table.specs.Calls.{source}
use Rattle.link_table.specs.Frames.{is_numbered}
use Rattle.link_table.specs.Reaching.{FramesAreSpelled, IsCall}
use Rattle.link_table.specs.Laws.{Brings, CarriesByWeaker, CarriesOn, CarriesWhatWasOffered, LinkHolds, NumberedWithoutLink}
use Rattle.link_table.specs.Table.{Linked, link_with}
use Rattle.nodes_broadcast.specs.declared.nodes.NodesRefusal.{NodesRefusal}
use Rattle.nodes_broadcast.specs.Nodes.{Broadcast, nodes_at}
use Rattle.route_table.specs.Log as logs
use Rattle.route_table.specs.Log.{Item}
use Rattle.route_table.specs.Table.{usable}
use Rattle.node_core.specs.Acts as acts
use Rattle.node_core.specs.Broadcasts.{is_broadcast}
use Rattle.node_core.specs.Carried.{ActsCarry, BytesCarry, CarriedOn, CarriesTraced, IsAloft, IsOfNode, ItemAloft, LocksCall, NamesCall, Place, TicksCarry, brings_to, brings_traced, is_aloft, is_borne, is_of_node, offers_traced, sends_in}
use Rattle.node_core.specs.Inputs.{after_input, after_item, after_items, moment, new_items}
use Rattle.node_core.specs.Laws.{NothingLeftAfterInputs}
use Rattle.node_model.specs.Links as links
use Rattle.node_core.specs.Receiving as receiving
use Rattle.node_core.specs.Broadcasts as rounds
use Rattle.node_core.specs.Runs.{MadeFrom, circuits_told}
use Rattle.node_core.specs.Standing.{IsTold}
use Rattle.node_model.specs.States.{Entry, Overflow, State, at_links, put, with_items}
use Rattle.node_core.specs.Acts.{UserAct}
use Rattle.node_core.proofs.Inputs.{are_acts, are_up}
use Rattle.node_core.proofs.Making.{runs_ok}
use Rattle.node_core.proofs.Moves.{logged, put_carries, walks}
use Rattle.node_core.proofs.Repeating.{repeat_carried}
use Rattle.node_core.proofs.Spelling.{IsFit, MayCome, head_of, may_come, same_head}
use Rattle.node_core.proofs.Nodes.{items_told, told_after}
use Rattle.node_core.proofs.Trails.{Goes, LinksCarry, LinksHold, Trail, carried_weaker, quiet, still, trail_then}
use Rattle.node_core.proofs.Walking.{LocksBy, do_on, settled_on, tick_on}

-- what is said of reading frames
pub record ReadsFrames : Type 0 where
  pub frames : SpelledIsRead
  pub heads : SpelledHeadIsRead
  pub ends : HeadWithoutFault

-- a link of a table is within what is said of all
link_is : (P : Linked → Type 0) (peer : Callsign) (ls : List Linked) (l : Linked) → AllByRecursion P ls → link_with peer ls ≡ Some l → P l
link_is P peer [] l a e = absurd (cc e)
link_is P peer (m ∷ ls) l a e = by (same_call peer m.peer) e (λ g. link_is P peer ls l a.1 g)
  where
    by : (b : Bool) → (if b then Some m else link_with peer ls) ≡ Some l → (link_with peer ls ≡ Some l → P l) → P l
    by true g rest = let same : m ≡ l = cc g in subst P same a.0
    by false g rest = rest g

-- ---- what is for this node

end_me : (b : Bool) → (if b then For_me else Heard) ≡ For_me → b ≡ true
end_me true q = refl
end_me false q = absurd (cc q)

behind_me : (r : Address) (a : Action) → behind r a ≡ For_me → a ≡ For_me
behind_me r For_me q = refl
behind_me r (Repeat path) q = absurd (cc q)
behind_me r Not_yet q = absurd (cc q)
behind_me r Heard q = absurd (cc q)

next_me : (r : Address) (path : List Address) (a : Action) (done mine : Bool) → (if done then behind r a else (if mine then Repeat (repeated r ∷ path) else Not_yet)) ≡ For_me → a ≡ For_me
next_me r path a true mine q = behind_me r a q
next_me r path a false true q = absurd (cc q)
next_me r path a false false q = absurd (cc q)

for_me : (path : List Address) (dest own : Callsign) → action path dest own ≡ For_me → same_call dest own ≡ true
for_me [] dest own q = end_me (same_call dest own) q
for_me (r ∷ path) dest own q = for_me path dest own (next_me r path (action path dest own) r.bit7 (same_call r.call own) q)

module _ (here : Place) (law : CarriesWhatWasOffered) (weaker : CarriesByWeaker) (numbered : NumberedWithoutLink) (spelled : FramesAreSpelled) (one_hop : GoesOneHopOn) (reading : ReadsFrames) where
  on : (sent : List (List ℕ)) → CarriesOn (offers_traced here sent) (brings_traced here) (nat_eq here.size)
  on sent = law (offers_traced here sent) (brings_traced here) (nat_eq here.size)

  -- ---- frames

  size_is : (m k : ℕ) → (m ≡ 8) ⊎ (m ≡ 128) → nat_eq here.size m ≡ true → nat_eq here.size k ≡ true → modulus_size (extended_if (k == 128)) ≡ here.size
  size_is m k (inl e) f g =
      let is : here.size ≡ 8 = grind (arith, nat_tests, e, f) in
      let same : k ≡ 8 = grind (arith, nat_tests, is, g) in
      rw (same, is) refl
  size_is m k (inr e) f g =
      let is : here.size ≡ 128 = grind (arith, nat_tests, e, f) in
      let same : k ≡ 128 = grind (arith, nat_tests, is, g) in
      rw (same, is) refl

  module _ (sent : List (List ℕ)) (now : ℕ) (n : State) (octets : List ℕ) (h : Head) (end : ℕ) (x : CarriesTraced here sent n) (y : IsAloft here.size here.borne octets) (e : read_head_at octets ≡ Ok (h, end)) where
    m : MayCome here.size here.borne octets
    m = may_come reading.frames reading.heads reading.ends here.size here.borne octets x.reaches.modulus y

    -- a frame to this node
    abbrev IsMine : Frame → Type 0
    IsMine f = f.head.dest.call ≡ here.own

    brings : (f : Frame) → Brings (is_aloft here.borne) (brings_to here.borne f.head.dest.call) (nat_eq here.size) f → IsMine f → Brings (offers_traced here sent) (brings_traced here) (nat_eq here.size) f
    brings f b mine = record { payload = λ p e. subst (λ (c : Callsign). brings_to here.borne c (source f) p ≡ true) mine (b.payload p e); size = b.size }

    -- it goes to the links, and is no broadcast
    fits : (f : Frame) → IsFit here.size here.borne f → is_broadcast f ≡ false → IsMine f → LinksCarry here sent (calls.arrive f now n.links)
    fits f (inl b) other mine = absurd (cc (sym b ∙ other))
    fits f (inr b) other mine = (on sent).arrives n.links f now (brings f b mine) x.links

    unlinked : (f : Frame) → (is_numbered f.control ≡ true) ⊎ IsFit here.size here.borne f → f.head ≡ h → link_with h.source.call n.links.links ≡ None → is_broadcast f ≡ false → IsMine f
        → LinksCarry here sent (calls.arrive f now n.links)
    unlinked f (inl k) same none other mine =
        numbered (offers_traced here sent) (brings_traced here) (nat_eq here.size) n.links f now k (ap (λ (z : Head). link_with z.source.call n.links.links) same ∙ none) x.links
    unlinked f (inr b) same none other mine = fits f b other mine

    arrives_by : (o : Option Linked) (f : Frame) → link_with h.source.call n.links.links ≡ o
        → read_at (modulus_size (extended_if (elim o as (λ z. Bool) [ None ↦ false | Some l ↦ l.link.rules.size == 128 ]))) octets ≡ Ok f → is_broadcast f ≡ false → IsMine f
        → LinksHold here sent (calls.arrive f now n.links)
    arrives_by None f link r other mine =
        let may = m.unlinked f r in
        (unlinked f may.0 (same_head 8 octets h end f e r) link other mine, (spelled here.size).arrives n.links f now may.1 x.reaches)
    arrives_by (Some l) f link r other mine =
        let one : LinkHolds (offers_traced here sent) (brings_traced here) (nat_eq here.size) l = link_is (LinkHolds (offers_traced here sent) (brings_traced here) (nat_eq here.size)) h.source.call n.links.links l x.links.links link in
        let is = size_is n.links.size l.link.rules.size x.links.modulus x.links.size one.size in
        let may = m.read f (subst (λ k. read_at k octets ≡ Ok f) is r) in
        (fits f may.0 other mine, (spelled here.size).arrives n.links f now may.1 x.reaches)

    arrives : (f : Frame) → read_at (receiving.modulus_with h.source.call n) octets ≡ Ok f → is_broadcast f ≡ false → same_call h.dest.call n.settings.call ≡ true → LinksHold here sent (links.arrive f now n.links)
    unfolding links.arrive links.is_128
    arrives f r other to_me =
        let same : f.head ≡ h = same_head (receiving.modulus_with h.source.call n) octets h end f e r in
        let mine : IsMine f = ap (λ (z : Head). z.dest.call) same ∙ (same_call-true h.dest.call n.settings.call to_me ∙ x.call.0) in
        arrives_by (link_with h.source.call n.links.links) f refl r other mine

    entered : (es : List Entry) → circuits_told es ≡ [] → Trail here sent n (record n { entries = n.entries ++ es })
    entered es none =
        quiet here n _ es refl refl (ap (λ ts. ts ++ n.set.untold) none) refl
        (λ ss z. record { links = z.links; reaches = z.reaches; own = z.own; untold = z.untold; names = z.names; call = z.call }) sent x

    taken_in : (items : List Item) → AllByRecursion NamesCall items → Trail here sent n (receiving.take_in items n)
    taken_in items names = by (receiving.has_room items n)
      where
        by : (b : Bool) → Trail here sent n (if b then with_items items n else record n { entries = n.entries ++ Overflow (length (usable n.settings.rules n.log)) (receiving.live_with items n) ∷ [] })
        by true = logged here law weaker spelled one_hop items n names sent x
        by false = entered (Overflow (length (usable n.settings.rules n.log)) (receiving.live_with items n) ∷ []) refl

    entries_name : (own source : Callsign) (path : ℕ) (es : List Said) → IsCall source → AllByRecursion NamesCall (logs.entry_reports own source path es)
    entries_name own source path [] c = tt
    entries_name own source path (s ∷ es) c = by (same_call s.dest own || same_call s.dest source) (entries_name own source path es c)
      where
        by : (b : Bool) → AllByRecursion NamesCall (logs.entry_reports own source path es)
            → AllByRecursion NamesCall (if b then logs.entry_reports own source path es else logs.Report s.dest s.alias source (logs.quality_over own path s) ∷ logs.entry_reports own source path es)
        by true rest = rest
        by false rest = (c, rest)

    broadcast_names : (own source : Callsign) (alias : Alias) (path : ℕ) (es : List Said) → IsCall source → AllByRecursion NamesCall (logs.broadcast own source alias path es)
    broadcast_names own source alias path es c = by (same_call source own)
      where
        by : (b : Bool) → AllByRecursion NamesCall (if b then [] else logs.Report source alias source path ∷ logs.entry_reports own source path es)
        by true = tt
        by false = (c, entries_name own source path es c)

    heard : (source : Callsign) (b : Result Broadcast NodesRefusal) → IsCall source → Trail here sent n (receiving.hear source b n)
    heard source (Ok b) c = taken_in (logs.broadcast n.settings.call source b.alias (receiving.quality_to source n) b.entries) (broadcast_names n.settings.call source b.alias (receiving.quality_to source n) b.entries c)
    heard source (Err why) c = still here n sent x

    arrived : (f : Frame) → LinksHold here sent (links.arrive f now n.links) → Trail here sent n (at_links (links.arrive f now) n)
    arrived f c = record {
      inputs = [];
      more = [];
      are = tt;
      grew = sym (append-nil n.entries);
      set = refl;
      given = sym (append-nil n.set.untold);
      settings = refl;
      come = tt;
      carries = subst (λ ss. CarriesTraced here ss (at_links (links.arrive f now) n)) (sym (append-nil sent)) (record { links = c.0; reaches = c.1; own = x.own; untold = x.untold; names = x.names; call = x.call });
    }

    framed : (mine : Bool) → (mine ≡ true → same_call h.dest.call n.settings.call ≡ true) → (r : Result Frame FrameRefusal) → read_at (receiving.modulus_with h.source.call n) octets ≡ r → Trail here sent n (receiving.take_frame now mine r n)
    framed mine to_me (Err why) q = still here n sent x
    framed mine to_me (Ok f) q = by (is_broadcast f) refl mine to_me
      where
        by : (b : Bool) → is_broadcast f ≡ b → (mine : Bool) → (mine ≡ true → same_call h.dest.call n.settings.call ≡ true) → Trail here sent n
            (if b then receiving.hear f.head.source.call (nodes_at f.info) n else if mine then at_links (links.arrive f now) n else n)
        by true other mine to_me = heard f.head.source.call (nodes_at f.info) (m.source (receiving.modulus_with h.source.call n) f q)
        by false other true to_me = arrived f (arrives f q other (to_me refl))
        by false other false to_me = still here n sent x

    repetition : (path : List Address) → action h.path.items h.dest.call n.settings.call ≡ Repeat path → IsOfNode here sent (receiving.repeated_octets h.path.items octets)
    repetition path q =
        let same : y.frame.frame.head ≡ h = head_of reading.frames reading.heads reading.ends here.size here.borne octets x.reaches.modulus y h end e in
        let again : IsAloft here.size here.borne (receiving.repeated_octets h.path.items octets) =
        subst (λ (z : Head). IsAloft here.size here.borne (receiving.repeated_octets z.path.items octets)) same
        (repeat_carried here.size (is_aloft here.borne) n.settings.call octets path y (ap (λ (z : Head). action z.path.items z.dest.call n.settings.call) same ∙ q)) in
        carried_weaker (is_aloft here.borne) (offers_traced here sent) here.size (receiving.repeated_octets h.path.items octets)
        (λ call p a. or_right (is_of_node here sent p.info.items) (is_borne here.borne call p.info.items) a) again

    by_path : (a : Action) → action h.path.items h.dest.call n.settings.call ≡ a → Trail here sent n (receiving.take_by_path now octets h a n)
    by_path (Repeat path) q = record {
      inputs = [];
      more = [];
      are = tt;
      grew = sym (append-nil n.entries);
      set = refl;
      given = sym (append-nil n.set.untold);
      settings = refl;
      come = tt;
      carries =
          subst (λ ss. CarriesTraced here ss (put (receiving.repeated_frame h.path.items octets) n)) (sym (append-nil sent))
          (put_carries here law weaker spelled one_hop sent (receiving.repeated_frame h.path.items octets) n (repetition path q) x);
    }
    by_path Not_yet q = still here n sent x
    by_path For_me q = framed true (λ m. for_me h.path.items h.dest.call n.settings.call q) (read_at (receiving.modulus_with h.source.call n) octets) refl
    by_path Heard q = framed false (λ m. absurd (cc m)) (read_at (receiving.modulus_with h.source.call n) octets) refl

    from_head : Trail here sent n (receiving.take_from now octets h n)
    from_head = by (same_call h.source.call n.settings.call)
      where
        by : (b : Bool) → Trail here sent n (if b then n else receiving.take_by_path now octets h (action h.path.items h.dest.call n.settings.call) n)
        by true = still here n sent x
        by false = by_path (action h.path.items h.dest.call n.settings.call) refl

  headed : (sent : List (List ℕ)) (now : ℕ) (n : State) (octets : List ℕ) (r : Result (Head × ℕ) FrameRefusal) → read_head_at octets ≡ r → IsAloft here.size here.borne octets → CarriesTraced here sent n
      → Trail here sent n (receiving.take_head now octets r n)
  headed sent now n octets (Err why) e m x = still here n sent x
  headed sent now n octets (Ok h) e m x = from_head sent now n octets h.0 h.1 x m e

  item_goes : (sent : List (List ℕ)) (now : ℕ) (item : kiss.Item) (n : State) → ItemAloft here item → CarriesTraced here sent n → Trail here sent n (receiving.take_item now item n)
  item_goes sent now kiss.Too_long n m x = still here n sent x
  item_goes sent now (kiss.Frame port command payload) n m x = by ((port == 0) && (command == 0))
    where
      by : (b : Bool) → Trail here sent n (if b then receiving.take_octets now payload n else n)
      by true = headed sent now n payload (read_head_at payload) refl m x
      by false = still here n sent x

  module _ (reads : ReadsCallTexts) where
    settles : (now : ℕ) (n : State) → Goes here n (after_input now n)
    settles = settled_on (Goes here) NamesCall (walks here law weaker spelled one_hop) reads

    settled_behind : (sent : List (List ℕ)) (now : ℕ) (n m : State) → Trail here sent n m → Trail here sent n (after_input now m)
    settled_behind sent now n m t = trail_then here sent n m (after_input now m) t (settles now m (sent ++ sends_in (runs t.inputs n.set.set).told) t.carries)

    items_go : (now : ℕ) (items : List kiss.Item) (sent : List (List ℕ)) (n : State) → AllByRecursion (ItemAloft here) items → CarriesTraced here sent n → Trail here sent n (after_items now items n)
    items_go now [] sent n a x = still here n sent x
    items_go now (item ∷ more) sent n a x =
        let t = settled_behind sent now n (receiving.take_item now item n) (item_goes sent now item n a.0 x) in
        let then_sent : List (List ℕ) = sends_in (runs t.inputs n.set.set).told in
        trail_then here sent n (after_item now item n) (after_items now more (after_item now item n)) t
        (items_go now more (sent ++ then_sent) (after_item now item n) a.1 t.carries)

    -- ---- a node at rest

    exact : (sent : List (List ℕ)) (old new : State) → Trail here sent old new → IsTold old → IsTold new → CarriedOn here sent old new
    exact sent old new t e f =
        let told : circuits_told t.more ≡ (runs t.inputs old.set.set).told =
        sym (append-nil (circuits_told t.more)) ∙ (ap (λ (w : Waiting). circuits_told t.more ++ w.untold) (sym f)
        ∙ (t.given ∙ ap (λ (w : Waiting). w.untold ++ (runs t.inputs old.set.set).told) e)) in
        let ok = runs_ok old.set.set t.inputs t.are in
        record {
          run = record {
            inputs = t.inputs;
            more = t.more;
            allowed = are_acts t.inputs t.are;
            up = are_up t.inputs t.are;
            entries = t.grew;
            set = f ∙ ap at_rest t.set;
            told = told;
            made = subst (λ (ts : List CircuitTold). MadeFrom old.set.set.number ts new.set.set.number) (sym told)
                (subst (λ (y : SetState). MadeFrom old.set.set.number (runs t.inputs old.set.set).told y.number) (sym t.set) ok.made);
            own = ap (λ (y : SetState). y.own) t.set ∙ ok.own;
            settings = t.settings;
          };
          come = t.come;
          carries = t.carries;
        }

-- ---- the laws

module _ (law : CarriesWhatWasOffered) (weaker : CarriesByWeaker) (numbered : NumberedWithoutLink) (spelled : FramesAreSpelled) (one_hop : GoesOneHopOn) (reading : ReadsFrames) (nothing : NothingLeftAfterInputs) (reads : ReadsCallTexts) where
  pub bytes_carry : BytesCarry
  bytes_carry here sent now bytes n e x a =
      let items = new_items n.stream bytes in
      exact here law weaker numbered spelled one_hop reading reads sent n.station _ (items_go here law weaker numbered spelled one_hop reading reads (moment now) items sent n.station a x) e (items_told nothing (moment now) items n.station e)

  pub ticks_carry : TicksCarry
  ticks_carry here sent now n e x =
      let m : State = rounds.tick (moment now) n.station in
      exact here law weaker numbered spelled one_hop reading reads sent n.station _
      (settled_behind here law weaker numbered spelled one_hop reading reads sent (moment now) n.station m (tick_on (Goes here) NamesCall (walks here law weaker spelled one_hop) (moment now) n.station sent x)) e (told_after nothing (moment now) m)

  locks : (act : UserAct) → LocksCall act → LocksBy NamesCall act
  locks acts.Round l = tt
  locks (acts.LinkFail peer) l = tt
  locks (acts.Lock dest alias neighbour quality) l = l
  locks (acts.Connect dest) l = tt
  locks (acts.ConnectFor user dest) l = tt
  locks (acts.Write id message) l = tt
  locks (acts.Take id) l = tt
  locks (acts.Close id) l = tt
  locks (acts.TakeText peer) l = tt
  locks (acts.SendText to text) l = tt
  locks (acts.OpenLink to path) l = tt
  locks (acts.CloseLink peer) l = tt

  pub acts_carry : ActsCarry
  acts_carry here sent now act n i l e x =
      let m : State = (acts.do_act (moment now) act n.station).node in
      exact here law weaker numbered spelled one_hop reading reads sent n.station _
      (settled_behind here law weaker numbered spelled one_hop reading reads sent (moment now) n.station m (do_on (Goes here) NamesCall (walks here law weaker spelled one_hop) (moment now) act n.station i (locks act l) sent x)) e (told_after nothing (moment now) m)
