-- In a network without restarts a copy of a connect request alone can break Fresh.
use Rattle.std.proofs.Common.{◌≡◌, ◌∙◌, ◌≤◌, ℕ, zero, suc, refl, sym, ap, subst, List, [], ◌∷◌, map, Bool, true, false}
use Rattle.std.specs.Prelude.{◌⊎◌, ◌&&◌, ◌||◌, nat_eq, slice_get, Some}
use Rattle.std.specs.Cmp.Lexicographic.{pointwise}
use Rattle.std.specs.List.{AllByRecursion, position_or_len}
use Rattle.std.proofs.Common.{arith, inl, inr}
use Rattle.std.proofs.lemmas.Bool.Decides.{nat_tests}
use Rattle.ax_address.specs.Callsign.{Callsign, same_call}
use Rattle.circuit_set.specs.Returning as returning
use Rattle.circuit_set.specs.Returning.{CallsDiffer, FreshBut, given_by}
use Rattle.circuit_table.specs.Runs.{events_of}
use Rattle.circuit_table.specs.Sets.{SetState}
use Rattle.network_file.specs.declared.plan.declarations.Declaration.{Declaration}
use Rattle.network_file.specs.Laws.{CallsDeclaredOnce, DeclaredOnce, HaveOwnCalls}
use Rattle.network_file.specs.Places.{has_call}
use Rattle.network_file.specs.Plan.{Plan}
use Rattle.net_laws.specs.Promises.{NetworksAreSound}
use Rattle.net_model.specs.SoundPlans.{first_sets, set_of}
use Rattle.net_laws.specs.Datagrams.{DatagramsSent, SendsAll}
use Rattle.net_model.specs.Lines.{do_lines}
use Rattle.net_laws.specs.Returning.{CopiesAloneReturn, told_of_circuits}
use Rattle.net_model.specs.Starting.{by_number, new_nodes, new_placed, has_number}
use Rattle.net_model.specs.World.{start}
use Rattle.net_model.proofs.Containing.{AreApart, names}
use Rattle.net_laws.proofs.Lists.{one_of}
use Rattle.net_laws.proofs.LineRuns.{nodes_apart, placed_names}
use Rattle.net_laws.proofs.Moving.{set_is}
use Rattle.net_laws.proofs.SentBefore.{by_number_all}

-- ---- no two nodes have one call

abbrev In : Declaration → List Declaration → Type 0
In d [] = ⊥
In d (x ∷ xs) = (d ≡ x) ⊎ In d xs

all_later : (ds xs : List Declaration) (x : Declaration) → AllByRecursion (λ (d : Declaration). In d xs) ds → AllByRecursion (λ (d : Declaration). In d (x ∷ xs)) ds
all_later [] xs x a = tt
all_later (d ∷ ds) xs x a = (inr a.0, all_later ds xs x a.1)

all_in : (ds : List Declaration) → AllByRecursion (λ (d : Declaration). In d ds) ds
all_in [] = tt
all_in (d ∷ ds) = (inl refl, all_later ds ds d (all_in ds))

same_letters : (xs : List ℕ) → pointwise nat_eq xs xs ≡ true
same_letters [] = refl
same_letters (x ∷ xs) = let e : nat_eq x x ≡ true = grind (arith, nat_tests) in ap (λ b. b && pointwise nat_eq xs xs) e ∙ same_letters xs

pub call_itself : (c : Callsign) → same_call c c ≡ true
call_itself c = let e : nat_eq c.ssid c.ssid ≡ true = grind (arith, nat_tests) in ap (λ b. b && nat_eq c.ssid c.ssid) (same_letters c.letters) ∙ e

or_true : (a : Bool) → (a || true) ≡ true
or_true true = refl
or_true false = refl

has_it : (d : Declaration) (ds : List Declaration) → In d ds → has_call ds d.call ≡ true
has_it d [] i = absurd i
has_it d (x ∷ ds) (inl e) = ap (λ (y : Declaration). same_call y.call d.call || has_call ds d.call) (sym e) ∙ ap (λ b. b || has_call ds d.call) (call_itself d.call)
has_it d (x ∷ ds) (inr i) = ap (λ b. same_call x.call d.call || b) (has_it d ds i) ∙ or_true (same_call x.call d.call)

-- the one that stands first has a call that none behind it has
first_alone : (d e : Declaration) (ds : List Declaration) → has_call ds d.call ≡ false → In e ds → d.call ≡ e.call → (P : Type 0) → P
first_alone d e ds none i same P =
    let has : has_call ds d.call ≡ true = ap (has_call ds) same ∙ has_it e ds i in
    let bad : true ≡ false = sym has ∙ none in
    cc bad

one_call : (d e : Declaration) (ds : List Declaration) → HaveOwnCalls ds → In d ds → In e ds → d.call ≡ e.call → d ≡ e
one_call d e [] own i j same = absurd i
one_call d e (x ∷ ds) own (inl p) (inl q) same = p ∙ sym q
one_call d e (x ∷ ds) own (inl p) (inr j) same = first_alone x e ds own.0 j (ap (λ (y : Declaration). y.call) (sym p) ∙ same) (d ≡ e)
one_call d e (x ∷ ds) own (inr i) (inl q) same = first_alone x d ds own.0 i (ap (λ (y : Declaration). y.call) (sym q) ∙ sym same) (d ≡ e)
one_call d e (x ∷ ds) own (inr i) (inr j) same = one_call d e ds own.1 i j same

-- a node's circuits have its call
declared_at : (plan : Plan) (ds : List Declaration) (i : ℕ) (s : SetState) → slice_get (map set_of (map (new_placed plan) ds)) i ≡ Some s → (d : Declaration) × (slice_get ds i ≡ Some d) × (s.own ≡ d.call)
declared_at plan [] i s e = absurd (cc e)
declared_at plan (d ∷ ds) zero s e =
    let same : set_of (new_placed plan d) ≡ s = cc e in
    (d, refl, ap (λ (x : SetState). x.own) (sym same ∙ set_is plan d (record { index = 1; ident = 1 }) 1))
declared_at plan (d ∷ ds) (suc i) s e = declared_at plan ds i s e

module _ (plan : Plan) (own : HaveOwnCalls plan.declared) (apart : AreApart (names (new_nodes plan))) where
  abbrev ds : List Declaration
  ds = by_number plan.declared 1 16

  ds_apart : AreApart ds
  ds_apart = subst AreApart (placed_names plan ds) apart

  pub calls_differ : CallsDiffer (first_sets plan)
  calls_differ i j s t e f same =
      let d = declared_at plan ds i s e in
      let c = declared_at plan ds j t f in
      let all : AllByRecursion (λ (x : Declaration). In x plan.declared) ds = by_number_all (λ (x : Declaration). In x plan.declared) plan.declared 16 1 (all_in plan.declared) in
      let one : d.0 ≡ c.0 =
      one_call d.0 c.0 plan.declared own (one_of (λ (x : Declaration). In x plan.declared) ds i d.0 all d.1) (one_of (λ (x : Declaration). In x plan.declared) ds j c.0 all c.1) (sym d.2 ∙ (same ∙ c.2)) in
      sym (ds_apart i d.0 d.1) ∙ (ap (λ (x : Declaration). position_or_len (has_number x.node) ds) one ∙ ds_apart j c.0 c.1)

-- ---- the law

pub copies_alone_return : NetworksAreSound → DatagramsSent → returning.CopiesAloneReturn → DeclaredOnce → CallsDeclaredOnce → CopiesAloneReturn
copies_alone_return sounds sends returns declared calls bytes plan size e of done later is on few =
    let s : SendsAll plan size done = sends bytes plan size e of done later is in
    let told : told_of_circuits (do_lines plan done (start plan)) ≡ events_of (first_sets plan) s.steps = s.run.told in
    subst FreshBut (sym told)
    (returns (first_sets plan) (sounds bytes plan e).starts s.steps s.run.are
    (record {
      apart = calls_differ plan (calls bytes plan e) (nodes_apart plan (declared bytes plan e));
      up = s.up on;
      few = λ node. subst (λ es. given_by node es ≤ 48960) told (few node);
      sent = λ before after node now datagram at. (s.sent before after node now datagram at).sending;
    }))
