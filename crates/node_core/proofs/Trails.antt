-- From one state of a node to another by inputs of its circuits, with all that it carries.
use Rattle.std.proofs.Common.{◌≡◌, ◌∙◌, ◌≤◌, ℕ, refl, sym, ap, subst, List, [], ◌∷◌, ◌++◌, length, append_assoc, append-nil, inl, inr}
use Rattle.std.specs.Prelude.{Bool, true, ◌==◌, ◌⊎◌, not, nat_eq}
use Rattle.std.specs.List.{AllByRecursion}
use Rattle.radio_base.specs.declared.payload.Payload.{Payload}
use Rattle.radio_base.proofs.Each.{each_append}
use Rattle.ax_address.specs.Callsign.{Callsign}
use Rattle.ax_link.specs.Bounds.{Has}
use Rattle.circuit_table.specs.Pumps.{runs}
use Rattle.circuit_table.specs.Sets.{Act, SetState, CircuitTold}
use Rattle.link_table.specs.Frames.{netrom}
use Rattle.link_table.specs.Laws.{Carries, CarriesByWeaker, FrameHolds, goes_to}
use Rattle.link_table.specs.Reaching.{IsCall, Reaches}
use Rattle.link_table.specs.Table.{Table}
use Rattle.link_table.specs.declared.written.Written.{Written}
use Rattle.link_table.proofs.Reports.{or_both}
use Rattle.link_table.proofs.Widening.{or_map}
use Rattle.node_core.specs.Broadcasts.{is_broadcast}
use Rattle.node_core.specs.Carried.{Borne, CarriesTraced, IsAloft, IsCarried, IsOfNode, NamesCall, Place, WasBorne, brings_traced, is_aloft, is_borne, is_of_node, is_passed, is_sent, offers_traced, sends_in, with_borne}
use Rattle.node_core.specs.Runs.{circuits_told}
use Rattle.node_model.specs.States.{Entry, Settings, State}
use Rattle.node_core.proofs.Coming as coming
use Rattle.node_core.proofs.Inputs.{IsInput, set_of_both, told_of_both}
use Rattle.node_core.proofs.Tracing.{all_behind, all_more, borne_behind, borne_more, passed_more, sends_append, sent_more}

-- ---- of more that were sent, and more in the air

abbrev More : Place → Place → List (List ℕ) → List (List ℕ) → Type 0
More here there sent sent2 = (d : List ℕ) → is_of_node here sent d ≡ true → is_of_node there sent2 d ≡ true

abbrev MoreBorne : Place → Place → Type 0
MoreBorne here there = (to : Callsign) (d : List ℕ) → is_borne here.borne to d ≡ true → is_borne there.borne to d ≡ true

sent_of_node : (here : Place) (sent more : List (List ℕ)) → More here here sent (sent ++ more)
sent_of_node here sent more d e =
    or_both (is_sent sent d) (is_passed here.borne here.own d) (is_sent (sent ++ more) d) (is_passed here.borne here.own d) (sent_more sent more d) (λ f. f) e

borne_of_node : (here : Place) (sent : List (List ℕ)) (borne : List Borne) → More here (with_borne borne here) sent sent
borne_of_node here sent borne d e =
    or_map (is_sent sent d) (is_passed here.borne here.own d) (is_passed (here.borne ++ borne) here.own d) (passed_more here.borne borne here.own d) e

offers_more : (here there : Place) (sent sent2 : List (List ℕ)) → More here there sent sent2 → MoreBorne here there → (call : Callsign) (p : Payload) → Has (offers_traced here sent call) p → Has (offers_traced there sent2 call) p
offers_more here there sent sent2 f g call p a =
    or_both (is_of_node here sent p.info.items) (is_borne here.borne call p.info.items) (is_of_node there sent2 p.info.items) (is_borne there.borne call p.info.items) (f p.info.items) (g call p.info.items) a

goes_more : (offers offers2 : Callsign → Payload → Bool) (size : ℕ) → ((call : Callsign) (p : Payload) → Has (offers call) p → Has (offers2 call) p) → (call : Callsign) (p : Payload)
    → Has (goes_to offers offers (nat_eq size) call) p → Has (goes_to offers2 offers2 (nat_eq size) call) p
goes_more offers offers2 size f call p a = or_map (not (p.pid == netrom)) (offers call p) (offers2 call p) (f call p) a

-- the links of a node
abbrev pub LinksCarry : Place → List (List ℕ) → Table → Type 0
LinksCarry here sent t = Carries (offers_traced here sent) (brings_traced here) (nat_eq here.size) t

abbrev pub LinksHold : Place → List (List ℕ) → Table → Type 0
LinksHold here sent t = LinksCarry here sent t × Reaches here.size t

-- frames of which more is carried by a weaker property
pub carried_weaker : (offers offers2 : Callsign → Payload → Bool) (size : ℕ) (octets : List ℕ) → ((call : Callsign) (p : Payload) → Has (offers call) p → Has (offers2 call) p) → IsCarried size offers octets
    → IsCarried size offers2 octets
carried_weaker offers offers2 size octets f x = record { frame = x.frame; are = x.are; spelled = x.spelled; fit = by x.fit }
  where
    by : (is_broadcast x.frame.frame ≡ true) ⊎ FrameHolds offers offers (nat_eq size) x.frame → (is_broadcast x.frame.frame ≡ true) ⊎ FrameHolds offers2 offers2 (nat_eq size) x.frame
    by (inl b) = inl b
    by (inr h) = inr (record { payload = λ p q i. goes_more offers offers2 size f x.frame.frame.head.dest.call p (h.payload p q i); size = h.size })

pub aloft_more : (size : ℕ) (borne more : List Borne) (octets : List ℕ) → IsAloft size borne octets → IsAloft size (borne ++ more) octets
aloft_more size borne more octets x = carried_weaker (is_aloft borne) (is_aloft (borne ++ more)) size octets (λ call p a. borne_more borne more call p.info.items a) x

pub aloft_behind : (size : ℕ) (borne more : List Borne) (octets : List ℕ) → IsAloft size more octets → IsAloft size (borne ++ more) octets
aloft_behind size borne more octets x = carried_weaker (is_aloft more) (is_aloft (borne ++ more)) size octets (λ call p a. borne_behind borne more call p.info.items a) x

abbrev pub OwnCarried : Place → List (List ℕ) → List Written → Type 0
OwnCarried here sent fs = AllByRecursion (λ (f : Written). IsOfNode here sent f.octets.items) fs

own_weaker : (here there : Place) (sent sent2 : List (List ℕ)) (fs : List Written) → here.size ≡ there.size → More here there sent sent2 → MoreBorne here there → OwnCarried here sent fs → OwnCarried there sent2 fs
own_weaker here there sent sent2 [] e f g a = tt
own_weaker here there sent sent2 (x ∷ fs) e f g a = (
  subst (λ k. IsCarried k (offers_traced there sent2) x.octets.items) e
      (carried_weaker (offers_traced here sent) (offers_traced there sent2) here.size x.octets.items (offers_more here there sent sent2 f g) a.0),
  own_weaker here there sent sent2 fs e f g a.1,
)

all_own_more : (here : Place) (sent more : List (List ℕ)) (fs : List Written) → OwnCarried here sent fs → OwnCarried here (sent ++ more) fs
all_own_more here sent more fs a = own_weaker here here sent (sent ++ more) fs refl (sent_of_node here sent more) (λ to d e. e) a

-- ---- what is handed up, by inputs one behind the other

pub step_sends : (sent : List (List ℕ)) (xs ys : List CircuitTold) → (sent ++ sends_in xs) ++ sends_in ys ≡ sent ++ sends_in (xs ++ ys)
step_sends sent xs ys = append_assoc sent (sends_in xs) (sends_in ys) ∙ ap (λ ds. sent ++ ds) (sym (sends_append xs ys))

-- ---- from one state to another

module _ (here : Place) where
  pub record Trail (sent : List (List ℕ)) (n m : State) : Type 0 where
    pub inputs : List Act
    pub more : List Entry
    pub are : AllByRecursion IsInput inputs
    pub grew : m.entries ≡ n.entries ++ more
    pub set : m.set.set ≡ (runs inputs n.set.set).set
    pub given : circuits_told more ++ m.set.untold ≡ n.set.untold ++ (runs inputs n.set.set).told
    pub settings : m.settings ≡ n.settings
    pub come : AllByRecursion (WasBorne here) inputs
    pub carries : CarriesTraced here (sent ++ sends_in (runs inputs n.set.set).told) m

  abbrev pub Goes : State → State → Type 0
  Goes n m = (sent : List (List ℕ)) → CarriesTraced here sent n → Trail sent n m

  -- no input: what was told was untold before
  pub quiet : (n m : State) (more : List Entry) → m.entries ≡ n.entries ++ more → m.set.set ≡ n.set.set → circuits_told more ++ m.set.untold ≡ n.set.untold → m.settings ≡ n.settings
      → ((sent : List (List ℕ)) → CarriesTraced here sent n → CarriesTraced here sent m) → Goes n m
  quiet n m more e s u k f sent x = record {
    inputs = [];
    more = more;
    are = tt;
    grew = e;
    set = s;
    given = u ∙ sym (append-nil n.set.untold);
    settings = k;
    come = tt;
    carries = subst (λ ss. CarriesTraced here ss m) (sym (append-nil sent)) (f sent x);
  }

  pub still : (n : State) → Goes n n
  still n = quiet n n [] (sym (append-nil n.entries)) refl refl refl (λ sent x. x)

  pub trail_then : (sent : List (List ℕ)) (a b c : State) → (t : Trail sent a b) → Trail (sent ++ sends_in (runs t.inputs a.set.set).told) b c → Trail sent a c
  trail_then sent a b c t u =
      let first = runs t.inputs a.set.set in
      record {
        inputs = t.inputs ++ u.inputs;
        more = t.more ++ u.more;
        are = each_append IsInput t.inputs u.inputs t.are u.are;
        grew = u.grew ∙ (ap (λ (es : List Entry). es ++ u.more) t.grew ∙ append_assoc a.entries t.more u.more);
        set = u.set ∙ (ap (λ (s : SetState). (runs u.inputs s).set) t.set ∙ sym (set_of_both t.inputs u.inputs a.set.set));
        given =
            ap (λ ts. ts ++ c.set.untold) (coming.told_of_both t.more u.more)
            ∙ (append_assoc (circuits_told t.more) (circuits_told u.more) c.set.untold
            ∙ (ap (λ (ts : List CircuitTold). circuits_told t.more ++ ts) u.given
            ∙ (sym (append_assoc (circuits_told t.more) b.set.untold (runs u.inputs b.set.set).told)
            ∙ (ap (λ (ts : List CircuitTold). ts ++ (runs u.inputs b.set.set).told) t.given
            ∙ (append_assoc a.set.untold first.told (runs u.inputs b.set.set).told
            ∙ (ap (λ (s : SetState). a.set.untold ++ (first.told ++ (runs u.inputs s).told)) t.set
            ∙ ap (λ (ts : List CircuitTold). a.set.untold ++ ts) (sym (told_of_both t.inputs u.inputs a.set.set))))))));
        settings = u.settings ∙ t.settings;
        come = each_append (WasBorne here) t.inputs u.inputs t.come u.come;
        carries = subst (λ ss. CarriesTraced here ss c)
            (step_sends sent first.told (runs u.inputs b.set.set).told
            ∙ (ap (λ (s : SetState). sent ++ sends_in (first.told ++ (runs u.inputs s).told)) t.set ∙ ap (λ ts. sent ++ sends_in ts) (sym (told_of_both t.inputs u.inputs a.set.set))))
            u.carries;
      }

  pub follows : (a b c : State) → Goes a b → Goes b c → Goes a c
  follows a b c g h sent x = let t = g sent x in trail_then sent a b c t (h (sent ++ sends_in (runs t.inputs a.set.set).told) t.carries)

  -- ---- inputs of the circuits

  module _ (weaker : CarriesByWeaker) where
    links_more : (sent more : List (List ℕ)) (t : Table) → LinksCarry here sent t → LinksCarry here (sent ++ more) t
    links_more sent more t c =
        weaker (offers_traced here sent) (offers_traced here (sent ++ more)) (brings_traced here) (brings_traced here) (nat_eq here.size) t
        (offers_more here here sent (sent ++ more) (sent_of_node here sent more) (λ to d e. e)) (λ call p a. a) c

    pub all_carried_more : (sent more : List (List ℕ)) (n : State) → CarriesTraced here sent n → CarriesTraced here (sent ++ more) n
    all_carried_more sent more n x = record {
      links = links_more sent more n.links x.links;
      reaches = x.reaches;
      own = all_own_more here sent more n.own x.own;
      untold = all_more sent more (sends_in n.set.untold) x.untold;
      names = x.names;
      call = x.call;
    }

    -- what they tell is untold behind what was
    pub input : (sent : List (List ℕ)) (n m : State) (inputs : List Act) → AllByRecursion IsInput inputs → m.entries ≡ n.entries → m.set.set ≡ (runs inputs n.set.set).set
        → m.set.untold ≡ n.set.untold ++ (runs inputs n.set.set).told → m.settings ≡ n.settings → m.own ≡ n.own → AllByRecursion (WasBorne here) inputs → LinksHold here sent m.links
        → AllByRecursion NamesCall m.log → CarriesTraced here sent n → Trail sent n m
    input sent n m inputs are e s u k o come links names x =
        let ts = (runs inputs n.set.set).told in
        let own : OwnCarried here sent m.own = subst (OwnCarried here sent) (sym o) x.own in
        record {
          inputs = inputs;
          more = [];
          are = are;
          grew = e ∙ sym (append-nil n.entries);
          set = s;
          given = u;
          settings = k;
          come = come;
          carries = record {
            links = links_more sent (sends_in ts) m.links links.0;
            reaches = links.1;
            own = all_own_more here sent (sends_in ts) m.own own;
            names = names;
            call = subst (λ (y : Settings). (y.call ≡ here.own) × IsCall here.own) (sym k) x.call;
            untold =
                subst (λ ds. AllByRecursion (λ (d : List ℕ). 15 ≤ length d → is_sent (sent ++ sends_in ts) d ≡ true) ds) (sym (ap sends_in u ∙ sends_append n.set.untold ts))
                (each_append (λ (d : List ℕ). 15 ≤ length d → is_sent (sent ++ sends_in ts) d ≡ true) (sends_in n.set.untold) (sends_in ts)
                (all_more sent (sends_in ts) (sends_in n.set.untold) x.untold) (all_behind sent (sends_in ts)));
          };
        }

    -- more is in the air
    pub around_more : (borne : List Borne) (sent : List (List ℕ)) (n : State) → CarriesTraced here sent n → CarriesTraced (with_borne borne here) sent n
    around_more borne sent n x = record {
      links =
          weaker (offers_traced here sent) (offers_traced (with_borne borne here) sent) (brings_traced here) (brings_traced (with_borne borne here)) (nat_eq here.size) n.links
          (offers_more here (with_borne borne here) sent sent (borne_of_node here sent borne) (borne_more here.borne borne))
          (λ call p a. or_map (not (p.pid == netrom)) (is_borne here.borne here.own p.info.items) (is_borne (here.borne ++ borne) here.own p.info.items) (borne_more here.borne borne here.own p.info.items) a) x.links;
      reaches = x.reaches;
      own = own_weaker here (with_borne borne here) sent sent n.own refl (borne_of_node here sent borne) (borne_more here.borne borne) x.own;
      untold = x.untold;
      names = x.names;
      call = x.call;
    }
