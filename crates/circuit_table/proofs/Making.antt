-- New ends: their pairs, their numbers, and where they stand.
use Rattle.std.specs.Prelude.{◌≡◌, ℕ, suc, ◌+◌, min, ◌≤◌, ◌<◌, ◌⊎◌, Bool, true, false, ◌||◌, nat_eq, nat_le, nat_lt, if◌then◌else◌, List, [], ◌∷◌, ◌++◌, length, Option, Some, None, refl}
use Rattle.std.proofs.Common.{sym, ◌∙◌, ap, subst, inl, inr, arith}
use Rattle.std.proofs.lemmas.Bool.Decides.{nat_tests}
use Rattle.std.proofs.lemmas.List.{append_assoc, append-nil}
use Rattle.std.specs.Map.{lookup, set_value}
use Rattle.std.proofs.lemmas.Bool.{and_parts}
use Rattle.radio_base.specs.declared.modulus.TheConstants.{COUNT_MAX}
use Rattle.ax_address.specs.Callsign.{Callsign, same_call}
use Rattle.circuit_l4.specs.declared.pair.Pair.{Pair}
use Rattle.circuit_l4.specs.State.{Effect, State}
use Rattle.circuit_l4.specs.Standing.{EndView, Stands, StandsFor}
use Rattle.circuit_table.specs.declared.holder.Holder.{Holder}
use Rattle.circuit_table.specs.declared.held_ends.HeldEnds.{HeldEnds}
use Rattle.circuit_table.specs.Pairs.{pair_after, next_free}
use Rattle.circuit_table.specs.Sets as sets
use Rattle.circuit_table.specs.declared.event.SetEvent.TheVariants as event
use Rattle.circuit_table.specs.declared.untold.Untold.TheVariants as untold
use Rattle.circuit_table.specs.Sets.{SetState, CircuitTold, end_of, with_end, held_pairs, is_over, notices, told_by}
use Rattle.arrayvec.specs.ArrayVec.{ArrayVec}
use Rattle.circuit_l4.specs.Opening.{facts_of, requesting, responding}
use Rattle.circuit_l4.specs.declared.config.EndConfig.{EndConfig}
use Rattle.indexmap.proofs.CallerLemmas.{insert_entry-new}
use Rattle.circuit_table.specs.Standing.{FirstFit, Gives, EachStands, HeldStands, Here, Holds, Keeps, MetBy, capped_count, Past, if_so, of_holder, pairs_of, sendings_by}
use Rattle.circuit_l4.specs.declared.transport.Transport.TheVariants.{Accept, Refuse}
use Rattle.circuit_table.proofs.Holding.{At, at, some_is, stood}
use Rattle.circuit_table.proofs.Searching.{Fitting, fitting, unfitting}
use Rattle.circuit_table.specs.declared.untold.Untold.{Untold}
use Rattle.circuit_table.proofs.Moving.{IsQuiet, not_gone, nothing, quiet, sents_is, set_back, so_is}

module _ (own : Callsign) (ttl : ℕ) where
  pairs_here : (id : ℕ) (k : Holder) (h : sets.Holder) (hs : List sets.Holder) (ps : List Pair) → Keeps own ttl id k h [] → held_pairs hs ≡ ps → held_pairs (h ∷ hs) ≡ k.pair ∷ ps
  pairs_here id k h hs ps keep e =
      let g : Effect = keep.going in
      let q : IsQuiet k g = quiet own ttl id k g keep.untold in
      let held : h.gone ≡ false = ap (λ (x : sets.Holder). x.gone) keep.is ∙ not_gone id k g q in
      let pair : h.end.pair ≡ k.pair = ap (λ (x : sets.Holder). x.end.pair) keep.is ∙ keep.pair in
      simp (held, pair, e) refl

  pairs_past : (h : sets.Holder) (hs : List sets.Holder) (ps : List Pair) → h.gone ≡ true → held_pairs hs ≡ ps → held_pairs (h ∷ hs) ≡ ps
  pairs_past h hs ps g e = simp (g, e) refl

  abbrev Pairs : ℕ → ℕ → List sets.Holder → Type 0
  Pairs hi lo hs = (es : List (ℕ × Holder)) → EachStands own ttl hi lo es hs [] → held_pairs hs ≡ pairs_of es

  pairs_case : (hi : ℕ) (h : sets.Holder) (es : List (ℕ × Holder)) (hs : List sets.Holder)
      → (Past (λ rest theirs. EachStands own ttl hi (suc h.id) rest hs theirs) h es [] ⊎ Here own ttl (λ rest theirs. EachStands own ttl hi (suc h.id) rest hs theirs) h es [])
      → Pairs hi (suc h.id) hs → held_pairs (h ∷ hs) ≡ pairs_of es
  pairs_case hi h es hs (inl p) later = pairs_past h hs (pairs_of es) p.gone (later es p.others)
  pairs_case hi h es hs (inr p) later =
      let two = nothing p.mine p.theirs p.both in
      let keep : Keeps own ttl h.id p.k h [] = subst (λ ts. Keeps own ttl h.id p.k h ts) two.0 p.keeps in
      let rest : held_pairs hs ≡ pairs_of p.rest = later p.rest (subst (λ ts. EachStands own ttl hi (suc h.id) p.rest hs ts) two.1 p.others) in
      pairs_here h.id p.k h hs (pairs_of p.rest) keep rest ∙ ap pairs_of (sym p.is)

  pub pairs_same : (hi lo : ℕ) (es : List (ℕ × Holder)) (hs : List sets.Holder) → EachStands own ttl hi lo es hs [] → held_pairs hs ≡ pairs_of es
  pairs_same hi lo es [] s = ap pairs_of (sym s.0)
  pairs_same hi lo es (h ∷ hs) s = pairs_case hi h es hs s.1 (λ es2 x. pairs_same hi (suc h.id) es2 hs x)

pairs_length : (es : List (ℕ × Holder)) → length (pairs_of es) ≡ length es
pairs_length [] = refl
pairs_length (e ∷ es) = ap suc (pairs_length es)

module _ (c : HeldEnds) (s : SetState) (st : HeldStands c s []) where
  pub pairs_held : held_pairs s.ends ≡ pairs_of c.ends.entries
  pairs_held = pairs_same s.own s.ttl s.number 0 c.ends.entries s.ends st.ends

  pub full_is : (nat_le 64 (length c.ends.entries) || nat_lt COUNT_MAX c.number) ≡ sets.is_full s
  full_is = ap (λ n. nat_le 64 n || nat_lt COUNT_MAX c.number) (sym (pairs_length c.ends.entries) ∙ ap length (sym pairs_held)) ∙ ap (λ n. nat_le 64 (length (held_pairs s.ends)) || nat_lt COUNT_MAX n) (sym st.number)

  pub full_ends : nat_le 64 (length c.ends.entries) ≡ true → true ≡ sets.is_full s
  full_ends e = ap (λ b. b || nat_lt COUNT_MAX c.number) (sym e) ∙ full_is

  pub full_number : nat_le 64 (length c.ends.entries) ≡ false → nat_lt COUNT_MAX c.number ≡ sets.is_full s
  full_number e = ap (λ b. b || nat_lt COUNT_MAX c.number) (sym e) ∙ full_is

  pub pair_is : (es : List (ℕ × Holder)) → es ≡ c.ends.entries → next_free 255 (pairs_of es) c.next ≡ sets.new_pair s
  pair_is es e =
      ap (λ (xs : List (ℕ × Holder)). next_free 255 (pairs_of xs) c.next) e ∙ ap (λ (ps : List Pair). next_free 255 ps c.next) (sym pairs_held)
      ∙ ap (λ (p : Pair). next_free 255 (held_pairs s.ends) p) (sym st.next)

  pub full_then : (n : ℕ) → n ≡ length c.ends.entries → 64 ≤ n → nat_le 64 n ≡ sets.is_full s
  full_then n e l = let t : nat_le 64 n ≡ true = grind (arith, nat_tests) in t ∙ full_ends (ap (nat_le 64) (sym e) ∙ t)

  pub full_else : (n : ℕ) → n ≡ length c.ends.entries → n < 64 → nat_lt COUNT_MAX c.number ≡ sets.is_full s
  full_else n e l = let t : nat_le 64 n ≡ false = grind (arith, nat_tests) in full_number (ap (nat_le 64) (sym e) ∙ t)

-- ---- one end more ----
module _ (own : Callsign) (ttl : ℕ) where
  fresh_here : (hi : ℕ) (h : sets.Holder) (k : Holder) (rest : List (ℕ × Holder)) → suc h.id ≤ hi → lookup (nat_eq hi) rest ≡ None → lookup (nat_eq hi) ((h.id, k) ∷ rest) ≡ None
  fresh_here hi h k rest low e = let other : nat_eq hi h.id ≡ false = grind (arith, nat_tests) in simp other e

  -- all numbers are below the next one
  pub record Below (hi lo : ℕ) (es : List (ℕ × Holder)) : Type 0 where
    pub most : lo ≤ hi
    pub fresh : lookup (nat_eq hi) es ≡ None

  abbrev Lows : ℕ → ℕ → List sets.Holder → Type 0
  Lows hi lo hs = (es : List (ℕ × Holder)) (told : List CircuitTold) → EachStands own ttl hi lo es hs told → Below hi lo es

  below_case : (hi lo : ℕ) (h : sets.Holder) (es : List (ℕ × Holder)) (hs : List sets.Holder) (told : List CircuitTold) → lo ≤ h.id
      → (Past (λ rest theirs. EachStands own ttl hi (suc h.id) rest hs theirs) h es told ⊎ Here own ttl (λ rest theirs. EachStands own ttl hi (suc h.id) rest hs theirs) h es told)
      → Lows hi (suc h.id) hs → Below hi lo es
  below_case hi lo h es hs told low (inl p) later =
      let b : Below hi (suc h.id) es = later es told p.others in
      let most : suc h.id ≤ hi = b.most in
      record { most = omega arith; fresh = b.fresh }
  below_case hi lo h es hs told low (inr p) later =
      let b : Below hi (suc h.id) p.rest = later p.rest p.theirs p.others in
      let most : suc h.id ≤ hi = b.most in
      record { most = omega arith; fresh = subst (λ (xs : List (ℕ × Holder)). lookup (nat_eq hi) xs ≡ None) (sym p.is) (fresh_here hi h p.k p.rest most b.fresh) }

  pub below : (hi lo : ℕ) (es : List (ℕ × Holder)) (hs : List sets.Holder) (told : List CircuitTold) → EachStands own ttl hi lo es hs told → Below hi lo es
  below hi lo es [] told s = record { most = s.2; fresh = ap (lookup (nat_eq hi)) s.0 }
  below hi lo es (h ∷ hs) told s = below_case hi lo h es hs told s.0 s.1 (λ es2 told2 x. below hi (suc h.id) es2 hs told2 x)

  module _ (k : Holder) (n : sets.Holder) (mine : List CircuitTold) where
    abbrev More : ℕ → ℕ → List (ℕ × Holder) → List sets.Holder → List CircuitTold → Type 0
    More hi lo es hs told = EachStands own ttl (suc hi) lo (es ++ (hi, k) ∷ []) (hs ++ n ∷ []) (told ++ mine)

    more_end : (hi lo : ℕ) → n.id ≡ hi → Keeps own ttl hi k n mine → lo ≤ hi → More hi lo [] [] []
    more_end hi lo e keep low = (
      subst (λ x. lo ≤ x) (sym e) low,
      inr (record { k = k; rest = []; mine = mine; theirs = []; is = ap (λ x. (x, k) ∷ []) (sym e); both = sym (append-nil mine); keeps = subst (λ x. Keeps own ttl x k n mine) (sym e) keep; others = (refl, refl, omega (arith, e)) }),
    )

    more_case : (hi lo : ℕ) (h : sets.Holder) (es : List (ℕ × Holder)) (hs : List sets.Holder) (told : List CircuitTold) → lo ≤ h.id
        → (Past (λ rest theirs. EachStands own ttl hi (suc h.id) rest hs theirs) h es told ⊎ Here own ttl (λ rest theirs. EachStands own ttl hi (suc h.id) rest hs theirs) h es told)
        → ((rest : List (ℕ × Holder)) (theirs : List CircuitTold) → EachStands own ttl hi (suc h.id) rest hs theirs → More hi (suc h.id) rest hs theirs) → More hi lo es (h ∷ hs) told
    more_case hi lo h es hs told low (inl p) later = (low, inl (record { gone = p.gone; others = later es told p.others }))
    more_case hi lo h es hs told low (inr p) later = (
      low,
      inr (record {
        k = p.k;
        rest = p.rest ++ (hi, k) ∷ [];
        mine = p.mine;
        theirs = p.theirs ++ mine;
        is = ap (λ (xs : List (ℕ × Holder)). xs ++ (hi, k) ∷ []) p.is;
        both = ap (λ (ts : List CircuitTold). ts ++ mine) p.both ∙ append_assoc p.mine p.theirs mine;
        keeps = p.keeps;
        others = later p.rest p.theirs p.others;
      }),
    )

    pub more : (hi lo : ℕ) (es : List (ℕ × Holder)) (hs : List sets.Holder) (told : List CircuitTold) → n.id ≡ hi → Keeps own ttl hi k n mine → EachStands own ttl hi lo es hs told → More hi lo es hs told
    more hi lo es [] told e keep s =
        subst (λ (xs : List (ℕ × Holder)). More hi lo xs [] told) (sym s.0) (subst (λ (ts : List CircuitTold). More hi lo [] [] ts) (sym s.1) (more_end hi lo e keep s.2))
    more hi lo es (h ∷ hs) told e keep s = more_case hi lo h es hs told s.0 s.1 (λ es2 told2 x. more hi (suc h.id) es2 hs told2 e keep x)

plus_one : (n : ℕ) → suc n ≡ n + 1
plus_one n = omega arith

-- an end that was just made, of which all that it puts out and tells is untold
module _ (c c2 : HeldEnds) (k : Holder) (x : Holds k c c2) (s : SetState) (st : HeldStands c s []) (g : Effect) (stands : Stands k.end g) (kept : k.discarded ≡ false) (untaken : k.taken ≡ 0)
    (nothing_taken : g.end.receiving.taken ≡ 0) (pair : k.pair ≡ sets.new_pair s) (named : g.end.pair ≡ k.pair) (met : MetBy k.asked g.end) where
  abbrev h : sets.Holder
  h = sets.holder_of s k.at k.asked g

  abbrev pub untold_first : Bool → List CircuitTold
  untold_first b = if_so b (sets.Made s.number k.pair k.at None) ++ told_by s h g

  told_case : (b : Bool) → untold_first b ≡ if_so b (sets.Made s.number k.pair k.at None) ++ sendings_by s.own s.ttl s.number k.at g.outs ++ notices s.number g.notes ++ if_so (is_over g.end) (sets.Gone s.number (facts_of g.end))
  told_case true = simp (sents_is s s.number k.at g.outs, so_is (is_over g.end) (sets.Gone s.number (facts_of g.end))) refl
  told_case false = simp (sents_is s s.number k.at g.outs, so_is (is_over g.end) (sets.Gone s.number (facts_of g.end))) refl

  keeps : Keeps s.own s.ttl s.number k h (untold_first k.unannounced)
  keeps = record {
    going = g;
    stands = stands;
    is = simp kept refl;
    pair = named;
    taken = rw (untaken, nothing_taken) refl;
    met = met;
    untold = told_case k.unannounced ∙ ap (λ b. if_so k.unannounced (sets.Made s.number k.pair k.at None) ++ sendings_by s.own s.ttl s.number k.at g.outs ++ notices s.number g.notes ++ if_so b (sets.Gone s.number (facts_of g.end))) (sym (ap (λ d. d || is_over g.end) kept));
  }

  entries : c2.ends.entries ≡ c.ends.entries ++ (s.number, k) ∷ []
  entries =
      let b : Below s.own s.ttl s.number 0 c.ends.entries = below s.own s.ttl s.number 0 c.ends.entries s.ends [] st.ends in
      let fresh : lookup (nat_eq c.number) c.ends.entries ≡ None = subst (λ n. lookup (nat_eq n) c.ends.entries ≡ None) st.number b.fresh in
      x.ends ∙ insert_entry-new nat_eq c.ends c.number k fresh ∙ ap (λ (n : ℕ). c.ends.entries ++ (n, k) ∷ []) (sym st.number)

  pub made_held : (request : Option (List ℕ)) → HeldStands c2 (sets.makes_end s k.at k.asked request g).set (untold_first k.unannounced)
  made_held request = record {
    own = st.own ∙ sym x.own;
    user = st.user ∙ sym x.user;
    config = st.config ∙ sym x.config;
    next = ap pair_after (sym pair) ∙ sym x.next;
    number = ap (λ n. n + 1) st.number ∙ sym x.number;
    ends =
        let held : EachStands s.own s.ttl (suc s.number) 0 (c.ends.entries ++ (s.number, k) ∷ []) (s.ends ++ h ∷ []) (untold_first k.unannounced) =
        more s.own s.ttl k h (untold_first k.unannounced) s.number 0 c.ends.entries s.ends [] refl keeps st.ends in
        subst (λ n. EachStands s.own s.ttl n 0 c2.ends.entries (s.ends ++ h ∷ []) (untold_first k.unannounced)) (plus_one s.number)
        (subst (λ es. EachStands s.own s.ttl (suc s.number) 0 es (s.ends ++ h ∷ []) (untold_first k.unannounced)) (sym entries) held);
  }

  -- its making is untold, too
  pub made_quietly : k.unannounced ≡ true → k.asked ≡ None → HeldStands c2 (sets.makes_end s k.at None None g).set (sets.makes_end s k.at None None g).told
  made_quietly u a =
      let told : untold_first k.unannounced ≡ (sets.makes_end s k.at None None g).told = ap untold_first u ∙ ap (λ (p : Pair). sets.Made s.number p k.at None ∷ told_by s h g) pair ∙ ap (λ (o : Option Pair). sets.Made s.number (sets.new_pair s) k.at None ∷ told_by s (sets.holder_of s k.at o g) g) a in
      subst (λ ts. HeldStands c2 (sets.makes_end s k.at None None g).set ts) told (subst (λ (o : Option Pair). HeldStands c2 (sets.makes_end s k.at o None g).set (untold_first k.unannounced)) a (made_held None))

  -- its making is told
  pub made_aloud : (q : Pair) (d : ArrayVec ℕ) → k.unannounced ≡ false → k.asked ≡ Some q → (id : ℕ) → id ≡ c.number
      → Gives (sets.makes_end s k.at (Some q) (Some d.items) g) (Some (untold.Event (event.Made id k.pair k.at (Some d)))) c2
  made_aloud q d u a id e =
      let same : Some (sets.Made id k.pair k.at (Some d.items)) ≡ Some (sets.Made s.number (sets.new_pair s) k.at (Some d.items)) =
      ap (λ (n : ℕ). Some (sets.Made n k.pair k.at (Some d.items))) (e ∙ sym st.number) ∙ ap (λ (p : Pair). Some (sets.Made s.number p k.at (Some d.items))) pair in
      let held : HeldStands c2 (sets.makes_end s k.at k.asked (Some d.items) g).set (told_by s h g) = subst (λ ts. HeldStands c2 (sets.makes_end s k.at k.asked (Some d.items) g).set ts) (ap untold_first u) (made_held (Some d.items)) in (
        sets.Made s.number (sets.new_pair s) k.at (Some d.items),
        told_by s (sets.holder_of s k.at (Some q) g) g,
        refl,
        same,
        subst (λ (o : Option Pair). HeldStands c2 (sets.makes_end s k.at o (Some d.items) g).set (told_by s (sets.holder_of s k.at o g) g)) a held,
      )

abbrev as_requester : Pair → Callsign → EndView → Holder
as_requester p node e = record { pair = p; at = node; asked = None; end = e; taken = 0; unannounced = true; discarded = false }

abbrev as_responder : Pair → Callsign → Pair → EndView → Holder
as_responder p node q e = record { pair = p; at = node; asked = Some q; end = e; taken = 0; unannounced = false; discarded = false }

pub requests_held : (c c2 : HeldEnds) (k : Holder) (e : EndView) (user node : Callsign) (now : ℕ) (p : Pair) → k ≡ as_requester p node e → Holds k c c2
    → Stands e (requesting p user c.own c.config (min now COUNT_MAX)) → ((s : SetState) → HeldStands c s [] → p ≡ sets.new_pair s)
    → (s : SetState) → HeldStands c s [] → HeldStands c2 (sets.requests_for s user node now).set (sets.requests_for s user node now).told
requests_held c c2 k e user node now p is holds stands pair = λ s st.
    let g : Effect = requesting p user c.own c.config (min now COUNT_MAX) in
    let x : Holds (as_requester p node e) c c2 = subst (λ (y : Holder). Holds y c c2) is holds in
    let held : HeldStands c2 (sets.makes_end s node None None g).set (sets.makes_end s node None None g).told =
    made_quietly c c2 (as_requester p node e) x s st g stands refl refl refl (pair s st) refl tt refl refl in
    let same : g ≡ requesting (sets.new_pair s) user s.own s.config (min now COUNT_MAX) =
    ap (λ (q : Pair). requesting q user c.own c.config (min now COUNT_MAX)) (pair s st)
    ∙ ap (λ (o : Callsign). requesting (sets.new_pair s) user o c.config (min now COUNT_MAX)) (sym st.own)
    ∙ ap (λ (f : EndConfig). requesting (sets.new_pair s) user s.own f (min now COUNT_MAX)) (sym st.config) in
    subst (λ (y : Effect). HeldStands c2 (sets.makes_end s node None None y).set (sets.makes_end s node None None y).told) same held

pub responds_gives : (c c2 : HeldEnds) (k : Holder) (e : EndView) (origin : Callsign) (d : ArrayVec ℕ) (now window : ℕ) (p q : Pair) (id : ℕ) → k ≡ as_responder p origin q e → Holds k c c2 → id ≡ c.number
    → Stands e (responding p q window c.config (min now COUNT_MAX)) → ((s : SetState) → HeldStands c s [] → p ≡ sets.new_pair s)
    → (s : SetState) → HeldStands c s [] → Gives (sets.responds s origin d.items q window now) (Some (untold.Event (event.Made id p origin (Some d)))) c2
responds_gives c c2 k e origin d now window p q id is holds number stands pair = λ s st.
    let g : Effect = responding p q window c.config (min now COUNT_MAX) in
    let x : Holds (as_responder p origin q e) c c2 = subst (λ (y : Holder). Holds y c c2) is holds in
    let gives : Gives (sets.makes_end s origin (Some q) (Some d.items) g) (Some (untold.Event (event.Made id p origin (Some d)))) c2 =
    made_aloud c c2 (as_responder p origin q e) x s st g stands refl refl refl (pair s st) refl (refl, refl) q d refl refl id number in
    let same : g ≡ responding (sets.new_pair s) q window s.config (min now COUNT_MAX) =
    ap (λ (r : Pair). responding r q window c.config (min now COUNT_MAX)) (pair s st) ∙ ap (λ (f : EndConfig). responding (sets.new_pair s) q window f (min now COUNT_MAX)) (sym st.config) in
    subst (λ (y : Effect). Gives (sets.makes_end s origin (Some q) (Some d.items) y) (Some (untold.Event (event.Made id p origin (Some d)))) c2) same gives

-- ---- the Accept again ----
pub same_pairs : (p q : Pair) → sets.same_pair p q ≡ true → p ≡ q
same_pairs p q e =
    let both = and_parts (nat_eq p.index q.index) (nat_eq p.ident q.ident) e in
    let i : p.index ≡ q.index = grind (arith, nat_tests) in
    let d : p.ident ≡ q.ident = grind (arith, nat_tests) in
    rw (i, d) refl

asked_is : (o : Option Pair) (q : Pair) → sets.asked_with o q ≡ true → o ≡ Some q
asked_is None q e = absurd (cc e)
asked_is (Some p) q e = ap Some (same_pairs p q e)

again_told : (s : SetState) (h : sets.Holder) → is_over h.end ≡ false → told_by s h (sets.accept_again h.end) ≡ sets.Sent h.id None (sets.datagram_to s h.at (Accept h.end.to h.end.pair h.end.window)) ∷ []
again_told s h e = simp e refl

again_case : (c : HeldEnds) (id : ℕ) (k : Holder) → lookup (nat_eq id) c.ends.entries ≡ Some k → (q : Pair) (w : ℕ) (s : SetState) (g : Effect) → Stands k.end g → g.end.pair ≡ k.pair
    → k.taken ≡ capped_count g.end.receiving.taken → MetBy k.asked g.end → IsQuiet k g → w ≡ g.end.window → (h : sets.Holder) → h ≡ of_holder id k g → HeldStands c s []
    → (a : At s.own s.ttl s.number 0 id c.ends.entries s.ends []) → a.h ≡ h → a.theirs ≡ [] → a.before ≡ [] → sets.asked_with h.asked q ≡ true
    → Gives (sets.goes_to s h [] (sets.accept_again h.end)) (Some (untold.Out id None k.at (Accept q k.pair w))) c
again_case c id k found q w s g stands pair taken met quiet_k window h is st a same_h none_after none_before asked =
    let y : sets.Holder = of_holder id k g in
    let h2 : sets.Holder = sets.after_effect y (sets.accept_again g.end) in
    let keep2 : Keeps s.own s.ttl id k h2 [] = record { going = g; stands = stands; is = simp quiet_k.kept refl; pair = pair; taken = taken; met = met; untold = simp (quiet_k.announced, quiet_k.kept, quiet_k.stays, quiet_k.outs, quiet_k.notes) refl } in
    let put = a.put k h2 [] refl keep2 in
    let empty : a.before ++ [] ++ a.theirs ≡ [] = rw (none_before, none_after) refl in
    let held : EachStands s.own s.ttl s.number 0 c.ends.entries (with_end h2 s.ends) [] =
    subst (λ es. EachStands s.own s.ttl s.number 0 es (with_end h2 s.ends) []) (set_back id c.ends.entries k found)
    (subst (λ ts. EachStands s.own s.ttl s.number 0 (set_value (nat_eq id) c.ends.entries k) (with_end h2 s.ends) ts) empty put) in
    let to : g.end.to ≡ q = (subst (λ o. MetBy o g.end) (asked_is k.asked q (ap (λ (z : sets.Holder). sets.asked_with z.asked q) (sym is) ∙ asked)) met).1 in
    let told : told_by s y (sets.accept_again g.end) ≡ sets.Sent id None (sets.datagram_to s k.at (Accept g.end.to g.end.pair g.end.window)) ∷ [] = again_told s y quiet_k.stays in
    let same : Some (sets.Sent id None (sets.datagram_to s k.at (Accept q k.pair w))) ≡ Some (sets.Sent id None (sets.datagram_to s k.at (Accept g.end.to g.end.pair g.end.window))) =
    rw (to, pair, window) refl in
    subst (λ (z : sets.Holder). Gives (sets.goes_to s z [] (sets.accept_again z.end)) (Some (untold.Out id None k.at (Accept q k.pair w))) c) (sym is) (
      sets.Sent id None (sets.datagram_to s k.at (Accept g.end.to g.end.pair g.end.window)),
      [],
      told,
      same,
      record { own = st.own; user = st.user; config = st.config; next = st.next; number = st.number; ends = held },
    )

pub accepts_again : (c : HeldEnds) (id : ℕ) (k : Holder) → lookup (nat_eq id) c.ends.entries ≡ Some k → (q : Pair) (w : ℕ) → ((x : State) → StandsFor k.end x → w ≡ x.window)
    → (s : SetState) (h : sets.Holder) → HeldStands c s [] → end_of id s.ends ≡ Some h → h.gone ≡ false → sets.asked_with h.asked q ≡ true
    → Gives (sets.goes_to s h [] (sets.accept_again h.end)) (Some (untold.Out id None k.at (Accept q k.pair w))) c
accepts_again c id k found q w window s h st is held asked =
    let a : At s.own s.ttl s.number 0 id c.ends.entries s.ends [] = at s.own s.ttl s.number 0 id c.ends.entries s.ends [] k st.ends found in
    let same_k : a.k ≡ k = some_is (lookup (nat_eq id) c.ends.entries) a.k k a.found found in
    let same_h : a.h ≡ h = some_is (end_of id s.ends) a.h h a.end is in
    let kp : Keeps s.own s.ttl id k a.h a.mine = subst (λ (x : Holder). Keeps s.own s.ttl id x a.h a.mine) same_k a.keeps in
    let keep : Keeps s.own s.ttl id k h a.mine = subst (λ (x : sets.Holder). Keeps s.own s.ttl id k x a.mine) same_h kp in
    let g : Effect = keep.going in
    let all = nothing (a.before ++ a.mine) a.theirs a.all in
    let two = nothing a.before a.mine (sym all.0) in
    let quiet_k : IsQuiet k g = quiet s.own s.ttl id k g (sym two.1 ∙ keep.untold) in
    again_case c id k found q w s g keep.stands keep.pair keep.taken keep.met quiet_k (window g.end (stood k.end g keep.stands)) h keep.is st a same_h all.1 two.0 asked

-- ---- a request ----
pub refuses : (c : HeldEnds) (s : SetState) → HeldStands c s [] → (origin : Callsign) (d : List ℕ) (pair : Pair) (window now : ℕ) (b : Bool) → b ≡ true → b ≡ sets.is_full s
    → Gives (sets.after_new_request s origin d pair window now) (Some (untold.Out 0 None origin (Refuse pair))) c
refuses c s st origin d pair window now b t e = by (sets.is_full s) (sym e ∙ t)
  where
    by : (v : Bool) → v ≡ true → Gives (if v then record { set = s; told = sets.Sent 0 None (sets.datagram_to s origin (Refuse pair)) ∷ [] } else sets.responds s origin d pair window now) (Some (untold.Out 0 None origin (Refuse pair))) c
    by true f = (sets.Sent 0 None (sets.datagram_to s origin (Refuse pair)), [], refl, refl, st)
    by false f = absurd (cc f)

pub answers_anew : (c2 : HeldEnds) (s : SetState) (origin : Callsign) (d : List ℕ) (pair : Pair) (window now : ℕ) (r : Option Untold) (b : Bool) → b ≡ false → b ≡ sets.is_full s
    → Gives (sets.responds s origin d pair window now) r c2 → Gives (sets.after_new_request s origin d pair window now) r c2
answers_anew c2 s origin d pair window now r b t e g = by (sets.is_full s) (sym e ∙ t)
  where
    by : (v : Bool) → v ≡ false → Gives (if v then record { set = s; told = sets.Sent 0 None (sets.datagram_to s origin (Refuse pair)) ∷ [] } else sets.responds s origin d pair window now) r c2
    by true f = absurd (cc f)
    by false f = g

pub requested_again : (c c2 : HeldEnds) (s : SetState) (origin : Callsign) (d : List ℕ) (pair : Pair) (window now id : ℕ) (r : Option Untold) → HeldStands c s [] → FirstFit (sets.opened_by origin pair) (Some id) c.ends.entries
    → ((h : sets.Holder) → end_of id s.ends ≡ Some h → h.gone ≡ false → sets.asked_with h.asked pair ≡ true → Gives (sets.goes_to s h [] (sets.accept_again h.end)) r c2)
    → Gives (sets.after_request s origin d pair window now) r c2
requested_again c c2 s origin d pair window now id r st f gives =
    let x : Fitting s.own s.ttl (sets.opened_by origin pair) 0 id s.ends = fitting s.own s.ttl (sets.opened_by origin pair) s.number 0 id c.ends.entries s.ends [] st.ends f in
    some_case (sets.first_open (sets.opened_by origin pair) s.ends) x.h x.first (gives x.h x.end x.held (and_parts (sets.asked_with x.h.asked pair) (same_call x.h.at origin) x.passes).0)
  where
    some_case : (o : Option sets.Holder) (h : sets.Holder) → o ≡ Some h → Gives (sets.goes_to s h [] (sets.accept_again h.end)) r c2
        → Gives (elim o as (λ x. sets.SetDone) [ Some h ↦ sets.goes_to s h [] (sets.accept_again h.end) | None ↦ sets.after_new_request s origin d pair window now ]) r c2
    some_case None h e g = absurd (cc e)
    some_case (Some y) h e g = let same : h ≡ y = cc (sym e) in subst (λ (y : sets.Holder). Gives (sets.goes_to s y [] (sets.accept_again y.end)) r c2) same g

pub requested_first : (c c2 : HeldEnds) (s : SetState) (origin : Callsign) (d : List ℕ) (pair : Pair) (window now : ℕ) (r : Option Untold) → HeldStands c s [] → FirstFit (sets.opened_by origin pair) None c.ends.entries
    → Gives (sets.after_new_request s origin d pair window now) r c2 → Gives (sets.after_request s origin d pair window now) r c2
requested_first c c2 s origin d pair window now r st f gives =
    none_case (sets.first_open (sets.opened_by origin pair) s.ends) (unfitting s.own s.ttl (sets.opened_by origin pair) s.number 0 c.ends.entries s.ends [] st.ends f)
  where
    none_case : (o : Option sets.Holder) → o ≡ None
        → Gives (elim o as (λ x. sets.SetDone) [ Some h ↦ sets.goes_to s h [] (sets.accept_again h.end) | None ↦ sets.after_new_request s origin d pair window now ]) r c2
    none_case None e = gives
    none_case (Some h) e = absurd (cc e)
