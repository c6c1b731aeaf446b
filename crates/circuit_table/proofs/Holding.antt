-- Ends by number, as the map has them and as the machine has them.
use Rattle.std.specs.Prelude.{◌≡◌, ℕ, suc, ◌≤◌, ◌<◌, ◌⊎◌, Bool, true, false, nat_eq, if◌then◌else◌, List, [], ◌∷◌, ◌++◌, Option, Some, None, refl}
use Rattle.std.proofs.Common.{sym, ◌∙◌, ap, subst, inl, inr, arith, cond}
use Rattle.std.proofs.lemmas.Bool.Decides.{nat_tests}
use Rattle.std.proofs.lemmas.List.{append_assoc}
use Rattle.std.specs.Map.{lookup, set_value, remove_entry}
use Rattle.ax_address.specs.Callsign.{Callsign}
use Rattle.circuit_l4.specs.State.{Effect}
use Rattle.circuit_l4.specs.Standing.{EndView, Stands, StandsFor}
use Rattle.circuit_table.specs.declared.holder.Holder.{Holder}
use Rattle.circuit_table.specs.Sets as sets
use Rattle.circuit_table.specs.Sets.{CircuitTold, end_of, with_end}
use Rattle.circuit_table.specs.Pumps.{is_empty}
use Rattle.circuit_table.specs.Standing.{FirstLoud, EachStands, Here, IsSilent, Keeps, Past}

pub stood : (m : EndView) (g : Effect) → Stands m g → StandsFor m g.end
stood m g s = record { written = s.written; came = s.came; sending = s.sending; receiving = s.receiving; within = s.within; is = ap (λ (g : Effect). g.end) s.is }

module _ (own : Callsign) (ttl : ℕ) where
  -- the end with a number, where it is held, and what stands on both sides of it
  pub record At (hi lo id : ℕ) (es : List (ℕ × Holder)) (hs : List sets.Holder) (told : List CircuitTold) : Type 0 where
    pub k : Holder
    pub h : sets.Holder
    pub before : List CircuitTold
    pub mine : List CircuitTold
    pub theirs : List CircuitTold
    pub low : lo ≤ id
    pub number : h.id ≡ id
    pub found : lookup (nat_eq id) es ≡ Some k
    pub end : end_of id hs ≡ Some h
    pub keeps : Keeps own ttl id k h mine
    pub all : told ≡ before ++ mine ++ theirs
    pub put : (k2 : Holder) (h2 : sets.Holder) (mine2 : List CircuitTold) → h2.id ≡ id → Keeps own ttl id k2 h2 mine2 →
        EachStands own ttl hi lo (set_value (nat_eq id) es k2) (with_end h2 hs) (before ++ mine2 ++ theirs)
    pub keep : (k2 : Holder) (mine2 : List CircuitTold) → Keeps own ttl id k2 h mine2 → EachStands own ttl hi lo (set_value (nat_eq id) es k2) hs (before ++ mine2 ++ theirs)
    pub leave : (w : Holder) → h.gone ≡ true → EachStands own ttl hi lo (remove_entry (nat_eq id) (set_value (nat_eq id) es w)) hs (before ++ theirs)

  with_case : (hi lo : ℕ) (h2 h : sets.Holder) (es : List (ℕ × Holder)) (hs : List sets.Holder) (told : List CircuitTold) → h2.id < lo → lo ≤ h.id
      → (Past (λ rest theirs. EachStands own ttl hi (suc h.id) rest hs theirs) h es told ⊎ Here own ttl (λ rest theirs. EachStands own ttl hi (suc h.id) rest hs theirs) h es told)
      → ((rest : List (ℕ × Holder)) (theirs : List CircuitTold) → h2.id < suc h.id → EachStands own ttl hi (suc h.id) rest hs theirs → with_end h2 hs ≡ hs)
      → with_end h2 (h ∷ hs) ≡ h ∷ hs
  with_case hi lo h2 h es hs told l low (inl p) later =
      let other : nat_eq h.id h2.id ≡ false = grind (arith, nat_tests) in simp other (ap (λ ys. h ∷ ys) (later es told (omega arith) p.others))
  with_case hi lo h2 h es hs told l low (inr p) later =
      let other : nat_eq h.id h2.id ≡ false = grind (arith, nat_tests) in simp other (ap (λ ys. h ∷ ys) (later p.rest p.theirs (omega arith) p.others))

  with_later : (hi lo : ℕ) (h2 : sets.Holder) (es : List (ℕ × Holder)) (hs : List sets.Holder) (told : List CircuitTold) → h2.id < lo → EachStands own ttl hi lo es hs told → with_end h2 hs ≡ hs
  with_later hi lo h2 es [] told l s = refl
  with_later hi lo h2 es (h ∷ hs) told l s = with_case hi lo h2 h es hs told l s.0 s.1 (λ rest theirs after x. with_later hi (suc h.id) h2 rest hs theirs after x)

  abbrev Tail : ℕ → ℕ → List sets.Holder → List (ℕ × Holder) → List CircuitTold → Type 0
  Tail hi lo hs es told = EachStands own ttl hi lo es hs told

  none_in : {A : Type 0} {a : A} → None ≡ Some a → ⊥
  none_in e = cc

  absent : (hi lo id : ℕ) (es : List (ℕ × Holder)) (told : List CircuitTold) (k : Holder) → es ≡ [] → lookup (nat_eq id) es ≡ Some k → At hi lo id es [] told
  absent hi lo id es told k e f = absurd (none_in (subst (λ (xs : List (ℕ × Holder)). lookup (nat_eq id) xs ≡ Some k) e f))

  past : (hi lo id : ℕ) (h : sets.Holder) (es : List (ℕ × Holder)) (hs : List sets.Holder) (told : List CircuitTold) → lo ≤ h.id → h.gone ≡ true
      → At hi (suc h.id) id es hs told → At hi lo id es (h ∷ hs) told
  past hi lo id h es hs told low gone a =
      let after : suc h.id ≤ id = a.low in
      let other : nat_eq h.id id ≡ false = grind (arith, nat_tests) in
      record {
        k = a.k;
        h = a.h;
        before = a.before;
        mine = a.mine;
        theirs = a.theirs;
        low = omega arith;
        number = a.number;
        found = a.found;
        end = simp other a.end;
        keeps = a.keeps;
        all = a.all;
        put = λ k2 h2 mine2 e keep.
            let apart : nat_eq h.id h2.id ≡ false = grind (arith, nat_tests) in
            let later : Tail hi (suc h.id) (with_end h2 hs) (set_value (nat_eq id) es k2) (a.before ++ mine2 ++ a.theirs) = a.put k2 h2 mine2 e keep in
            let both : Tail hi lo (h ∷ with_end h2 hs) (set_value (nat_eq id) es k2) (a.before ++ mine2 ++ a.theirs) = (low, inl (record { gone = gone; others = later })) in
            simp apart both;
        keep = λ k2 mine2 keep. (low, inl (record { gone = gone; others = a.keep k2 mine2 keep }));
        leave = λ w g. (low, inl (record { gone = gone; others = a.leave w g }));
      }

  here : (hi lo id : ℕ) (h : sets.Holder) (hs : List sets.Holder) (k : Holder) (rest : List (ℕ × Holder)) (mine theirs : List CircuitTold) → lo ≤ h.id → nat_eq id h.id ≡ true
      → Keeps own ttl h.id k h mine → Tail hi (suc h.id) hs rest theirs → At hi lo id ((h.id, k) ∷ rest) (h ∷ hs) (mine ++ theirs)
  here hi lo id h hs k rest mine theirs low same keep others =
      let number : h.id ≡ id = grind (arith, nat_tests) in
      let back : nat_eq h.id id ≡ true = grind (arith, nat_tests) in
      record {
        k = k;
        h = h;
        before = [];
        mine = mine;
        theirs = theirs;
        low = omega arith;
        number = number;
        found = simp same refl;
        end = simp back refl;
        keeps = subst (λ n. Keeps own ttl n k h mine) number keep;
        all = refl;
        put = λ k2 h2 mine2 e keep2.
            let equal : h2.id ≡ h.id = e ∙ sym number in
            let matches : nat_eq h.id h2.id ≡ true = grind (arith, nat_tests) in
            let later : with_end h2 hs ≡ hs = with_later hi (suc h.id) h2 rest hs theirs (omega arith) others in
            let entry : (h.id, k2) ∷ rest ≡ (h2.id, k2) ∷ rest = ap (λ n. (n, k2) ∷ rest) (sym equal) in
            let tail : Tail hi (suc h2.id) hs rest theirs = subst (λ n. Tail hi (suc n) hs rest theirs) (sym equal) others in
            let both : Tail hi lo (h2 ∷ hs) ((h.id, k2) ∷ rest) (mine2 ++ theirs) =
            (subst (λ n. lo ≤ n) (sym equal) low, inr (record { k = k2; rest = rest; mine = mine2; theirs = theirs; is = entry; both = refl; keeps = subst (λ n. Keeps own ttl n k2 h2 mine2) (sym e) keep2; others = tail })) in
            simp (same, matches, later) both;
        keep = λ k2 mine2 keep2.
            let both : Tail hi lo (h ∷ hs) ((h.id, k2) ∷ rest) (mine2 ++ theirs) =
            (low, inr (record { k = k2; rest = rest; mine = mine2; theirs = theirs; is = refl; both = refl; keeps = subst (λ n. Keeps own ttl n k2 h mine2) (sym number) keep2; others = others })) in
            simp same both;
        leave = λ w g.
            let both : Tail hi lo (h ∷ hs) rest theirs = (low, inl (record { gone = g; others = others })) in
            simp same both;
      }

  regroup : (x b m t : List CircuitTold) → x ++ ((b ++ m) ++ t) ≡ ((x ++ b) ++ m) ++ t
  regroup x b m t = ap (λ ys. x ++ ys) (append_assoc b m t) ∙ sym (append_assoc x b (m ++ t)) ∙ sym (append_assoc (x ++ b) m t)

  there : (hi lo id : ℕ) (h : sets.Holder) (hs : List sets.Holder) (k : Holder) (rest : List (ℕ × Holder)) (mine theirs : List CircuitTold) → lo ≤ h.id → nat_eq id h.id ≡ false
      → Keeps own ttl h.id k h mine → At hi (suc h.id) id rest hs theirs → At hi lo id ((h.id, k) ∷ rest) (h ∷ hs) (mine ++ theirs)
  there hi lo id h hs k rest mine theirs low other keep a =
      let after : suc h.id ≤ id = a.low in
      let back : nat_eq h.id id ≡ false = grind (arith, nat_tests) in
      record {
        k = a.k;
        h = a.h;
        before = mine ++ a.before;
        mine = a.mine;
        theirs = a.theirs;
        low = omega arith;
        number = a.number;
        found = simp other a.found;
        end = simp back a.end;
        keeps = a.keeps;
        all = ap (λ ys. mine ++ ys) a.all ∙ regroup mine a.before a.mine a.theirs;
        put = λ k2 h2 mine2 e keep2.
            let apart : nat_eq h.id h2.id ≡ false = grind (arith, nat_tests) in
            let later : Tail hi (suc h.id) (with_end h2 hs) (set_value (nat_eq id) rest k2) ((a.before ++ mine2) ++ a.theirs) = a.put k2 h2 mine2 e keep2 in
            let both : Tail hi lo (h ∷ with_end h2 hs) ((h.id, k) ∷ set_value (nat_eq id) rest k2) (((mine ++ a.before) ++ mine2) ++ a.theirs) =
            (low, inr (record { k = k; rest = set_value (nat_eq id) rest k2; mine = mine; theirs = (a.before ++ mine2) ++ a.theirs; is = refl; both = sym (regroup mine a.before mine2 a.theirs); keeps = keep; others = later })) in
            simp (other, apart) both;
        keep = λ k2 mine2 keep2.
            let both : Tail hi lo (h ∷ hs) ((h.id, k) ∷ set_value (nat_eq id) rest k2) (((mine ++ a.before) ++ mine2) ++ a.theirs) =
            (low, inr (record { k = k; rest = set_value (nat_eq id) rest k2; mine = mine; theirs = (a.before ++ mine2) ++ a.theirs; is = refl; both = sym (regroup mine a.before mine2 a.theirs); keeps = keep; others = a.keep k2 mine2 keep2 })) in
            simp other both;
        leave = λ w g.
            let left : List (ℕ × Holder) = remove_entry (nat_eq id) (set_value (nat_eq id) rest w) in
            let both : Tail hi lo (h ∷ hs) ((h.id, k) ∷ left) ((mine ++ a.before) ++ a.theirs) =
            (low, inr (record { k = k; rest = left; mine = mine; theirs = a.before ++ a.theirs; is = refl; both = append_assoc mine a.before a.theirs; keeps = keep; others = a.leave w g })) in
            simp other both;
      }

  abbrev Finds : ℕ → ℕ → ℕ → Holder → List sets.Holder → Type 0
  Finds hi lo id k hs = (es : List (ℕ × Holder)) (told : List CircuitTold) → EachStands own ttl hi lo es hs told → lookup (nat_eq id) es ≡ Some k → At hi lo id es hs told

  at_key : (hi lo id : ℕ) (h : sets.Holder) (es : List (ℕ × Holder)) (hs : List sets.Holder) (told : List CircuitTold) (k : Holder) → lo ≤ h.id
      → (p : Here own ttl (λ rest theirs. EachStands own ttl hi (suc h.id) rest hs theirs) h es told) (b : Bool) → nat_eq id h.id ≡ b → cond b (Some p.k) (lookup (nat_eq id) p.rest) ≡ Some k
      → Finds hi (suc h.id) id k hs → At hi lo id ((h.id, p.k) ∷ p.rest) (h ∷ hs) (p.mine ++ p.theirs)
  at_key hi lo id h es hs told k low p true e f later = here hi lo id h hs p.k p.rest p.mine p.theirs low e p.keeps p.others
  at_key hi lo id h es hs told k low p false e f later = there hi lo id h hs p.k p.rest p.mine p.theirs low e p.keeps (later p.rest p.theirs p.others f)

  at_case : (hi lo id : ℕ) (h : sets.Holder) (es : List (ℕ × Holder)) (hs : List sets.Holder) (told : List CircuitTold) (k : Holder) → lo ≤ h.id
      → (Past (λ rest theirs. EachStands own ttl hi (suc h.id) rest hs theirs) h es told ⊎ Here own ttl (λ rest theirs. EachStands own ttl hi (suc h.id) rest hs theirs) h es told)
      → lookup (nat_eq id) es ≡ Some k → Finds hi (suc h.id) id k hs → At hi lo id es (h ∷ hs) told
  at_case hi lo id h es hs told k low (inl p) found later = past hi lo id h es hs told low p.gone (later es told p.others found)
  at_case hi lo id h es hs told k low (inr p) found later =
      let f : lookup (nat_eq id) ((h.id, p.k) ∷ p.rest) ≡ Some k = subst (λ xs. lookup (nat_eq id) xs ≡ Some k) p.is found in
      subst (λ xs. At hi lo id xs (h ∷ hs) told) (sym p.is) (subst (λ ts. At hi lo id ((h.id, p.k) ∷ p.rest) (h ∷ hs) ts) (sym p.both) (at_key hi lo id h es hs told k low p (nat_eq id h.id) refl f later))

  pub at : (hi lo id : ℕ) (es : List (ℕ × Holder)) (hs : List sets.Holder) (told : List CircuitTold) (k : Holder) → EachStands own ttl hi lo es hs told → lookup (nat_eq id) es ≡ Some k → At hi lo id es hs told
  at hi lo id es [] told k s found = absent hi lo id es told k s.0 found
  at hi lo id es (h ∷ hs) told k s found = at_case hi lo id h es hs told k s.0 s.1 found (λ es2 told2 x f. at hi (suc h.id) id es2 hs told2 k x f)

  -- the first end that has something to tell: nothing stands before what it tells
  pub record Loudest (hi lo id : ℕ) (es : List (ℕ × Holder)) (hs : List sets.Holder) (told : List CircuitTold) : Type 0 where
    pub place : At hi lo id es hs told
    pub first : place.before ≡ []
    pub some : is_empty place.mine ≡ false

  abbrev Rings : ℕ → ℕ → ℕ → List sets.Holder → Type 0
  Rings hi lo id hs = (es : List (ℕ × Holder)) (told : List CircuitTold) → EachStands own ttl hi lo es hs told → FirstLoud (Some id) es → Loudest hi lo id es hs told

  loud_past : (hi lo id : ℕ) (h : sets.Holder) (es : List (ℕ × Holder)) (hs : List sets.Holder) (told : List CircuitTold) → lo ≤ h.id → h.gone ≡ true
      → Loudest hi (suc h.id) id es hs told → Loudest hi lo id es (h ∷ hs) told
  unfolding past
  loud_past hi lo id h es hs told low gone l = record { place = past hi lo id h es hs told low gone l.place; first = l.first; some = l.some }

  empty_list : (ts : List CircuitTold) → true ≡ is_empty ts → ts ≡ []
  empty_list [] e = refl
  empty_list (t ∷ ts) e = absurd (cc e)

  loud_here : (hi lo id : ℕ) (h : sets.Holder) (hs : List sets.Holder) (k : Holder) (rest : List (ℕ × Holder)) (mine theirs : List CircuitTold) → lo ≤ h.id
      → Keeps own ttl h.id k h mine → Tail hi (suc h.id) hs rest theirs → ((Some id ≡ Some h.id) × IsSilent k false) ⊎ (IsSilent k true × FirstLoud (Some id) rest)
      → Rings hi (suc h.id) id hs → Loudest hi lo id ((h.id, k) ∷ rest) (h ∷ hs) (mine ++ theirs)
  unfolding here there
  loud_here hi lo id h hs k rest mine theirs low keep others (inl l) later =
      let number : id ≡ h.id = cc (l.0) in
      let same : nat_eq id h.id ≡ true = grind (arith, nat_tests) in
      record { place = here hi lo id h hs k rest mine theirs low same keep others; first = refl; some = sym (l.1 own ttl h.id h mine keep) }
  loud_here hi lo id h hs k rest mine theirs low keep others (inr l) later =
      let next : Loudest hi (suc h.id) id rest hs theirs = later rest theirs others l.1 in
      let after : suc h.id ≤ id = next.place.low in
      let other : nat_eq id h.id ≡ false = grind (arith, nat_tests) in
      let none : mine ≡ [] = empty_list mine (l.0 own ttl h.id h mine keep) in
      record { place = there hi lo id h hs k rest mine theirs low other keep next.place; first = ap (λ ms. ms ++ next.place.before) none ∙ next.first; some = next.some }

  loud_case : (hi lo id : ℕ) (h : sets.Holder) (es : List (ℕ × Holder)) (hs : List sets.Holder) (told : List CircuitTold) → lo ≤ h.id
      → (Past (λ rest theirs. EachStands own ttl hi (suc h.id) rest hs theirs) h es told ⊎ Here own ttl (λ rest theirs. EachStands own ttl hi (suc h.id) rest hs theirs) h es told)
      → FirstLoud (Some id) es → Rings hi (suc h.id) id hs → Loudest hi lo id es (h ∷ hs) told
  loud_case hi lo id h es hs told low (inl p) f later = loud_past hi lo id h es hs told low p.gone (later es told p.others f)
  loud_case hi lo id h es hs told low (inr p) f later =
      let g : FirstLoud (Some id) ((h.id, p.k) ∷ p.rest) = subst (FirstLoud (Some id)) p.is f in
      subst (λ xs. Loudest hi lo id xs (h ∷ hs) told) (sym p.is) (subst (λ ts. Loudest hi lo id ((h.id, p.k) ∷ p.rest) (h ∷ hs) ts) (sym p.both)
      (loud_here hi lo id h hs p.k p.rest p.mine p.theirs low p.keeps p.others g later))

  pub loudest : (hi lo id : ℕ) (es : List (ℕ × Holder)) (hs : List sets.Holder) (told : List CircuitTold) → EachStands own ttl hi lo es hs told → FirstLoud (Some id) es → Loudest hi lo id es hs told
  loudest hi lo id es [] told s f = absurd (none_in (sym (subst (FirstLoud (Some id)) s.0 f)))
  loudest hi lo id es (h ∷ hs) told s f = loud_case hi lo id h es hs told s.0 s.1 f (λ es2 told2 x g. loudest hi (suc h.id) id es2 hs told2 x g)

  abbrev Hushes : ℕ → ℕ → List sets.Holder → Type 0
  Hushes hi lo hs = (es : List (ℕ × Holder)) (told : List CircuitTold) → EachStands own ttl hi lo es hs told → FirstLoud None es → told ≡ []

  hush_here : (hi : ℕ) (h : sets.Holder) (hs : List sets.Holder) (k : Holder) (rest : List (ℕ × Holder)) (mine theirs : List CircuitTold) → Keeps own ttl h.id k h mine → Tail hi (suc h.id) hs rest theirs
      → ((None ≡ Some h.id) × IsSilent k false) ⊎ (IsSilent k true × FirstLoud None rest) → Hushes hi (suc h.id) hs → mine ++ theirs ≡ []
  hush_here hi h hs k rest mine theirs keep others (inl l) later = absurd (none_in l.0)
  hush_here hi h hs k rest mine theirs keep others (inr l) later = rw (empty_list mine (l.0 own ttl h.id h mine keep), later rest theirs others l.1) refl

  hush_case : (hi : ℕ) (h : sets.Holder) (es : List (ℕ × Holder)) (hs : List sets.Holder) (told : List CircuitTold)
      → (Past (λ rest theirs. EachStands own ttl hi (suc h.id) rest hs theirs) h es told ⊎ Here own ttl (λ rest theirs. EachStands own ttl hi (suc h.id) rest hs theirs) h es told)
      → FirstLoud None es → Hushes hi (suc h.id) hs → told ≡ []
  hush_case hi h es hs told (inl p) f later = later es told p.others f
  hush_case hi h es hs told (inr p) f later = p.both ∙ hush_here hi h hs p.k p.rest p.mine p.theirs p.keeps p.others (subst (FirstLoud None) p.is f) later

  pub hushed : (hi lo : ℕ) (es : List (ℕ × Holder)) (hs : List sets.Holder) (told : List CircuitTold) → EachStands own ttl hi lo es hs told → FirstLoud None es → told ≡ []
  hushed hi lo es [] told s f = s.1
  hushed hi lo es (h ∷ hs) told s f = hush_case hi h es hs told s.1 f (λ es2 told2 x g. hushed hi (suc h.id) es2 hs told2 x g)

  abbrev Misses : ℕ → ℕ → ℕ → List sets.Holder → Type 0
  Misses hi lo id hs = (es : List (ℕ × Holder)) (told : List CircuitTold) → EachStands own ttl hi lo es hs told → lookup (nat_eq id) es ≡ None → (x : sets.Holder) → end_of id hs ≡ Some x → x.gone ≡ true

  miss_key : (id : ℕ) (h : sets.Holder) (k : Holder) (rest : List (ℕ × Holder)) (hs : List sets.Holder) (b : Bool) → nat_eq id h.id ≡ b → cond b (Some k) (lookup (nat_eq id) rest) ≡ None
      → (x : sets.Holder) → end_of id (h ∷ hs) ≡ Some x → (lookup (nat_eq id) rest ≡ None → end_of id hs ≡ Some x → x.gone ≡ true) → x.gone ≡ true
  miss_key id h k rest hs true e none x is later = absurd (none_in (sym none))
  miss_key id h k rest hs false e none x is later = let other : nat_eq h.id id ≡ false = grind (arith, nat_tests) in later none (simp other at is)

  miss_past : (id : ℕ) (h : sets.Holder) (hs : List sets.Holder) (b : Bool) → h.gone ≡ true → (x : sets.Holder) → (if b then Some h else end_of id hs) ≡ Some x → (end_of id hs ≡ Some x → x.gone ≡ true) → x.gone ≡ true
  miss_past id h hs true gone x is later = let same : h ≡ x = cc is in subst (λ (y : sets.Holder). y.gone ≡ true) same gone
  miss_past id h hs false gone x is later = later is

  miss_case : (hi lo id : ℕ) (h : sets.Holder) (es : List (ℕ × Holder)) (hs : List sets.Holder) (told : List CircuitTold)
      → (Past (λ rest theirs. EachStands own ttl hi (suc h.id) rest hs theirs) h es told ⊎ Here own ttl (λ rest theirs. EachStands own ttl hi (suc h.id) rest hs theirs) h es told)
      → lookup (nat_eq id) es ≡ None → (x : sets.Holder) → end_of id (h ∷ hs) ≡ Some x → Misses hi (suc h.id) id hs → x.gone ≡ true
  miss_case hi lo id h es hs told (inl p) none x is later = miss_past id h hs (nat_eq h.id id) p.gone x is (λ f. later es told p.others none x f)
  miss_case hi lo id h es hs told (inr p) none x is later =
      let f : lookup (nat_eq id) ((h.id, p.k) ∷ p.rest) ≡ None = subst (λ (xs : List (ℕ × Holder)). lookup (nat_eq id) xs ≡ None) p.is none in
      miss_key id h p.k p.rest hs (nat_eq id h.id) refl f x is (λ n e. later p.rest p.theirs p.others n x e)

  -- an end whose number is held by none is gone, if there ever was one
  pub missing : (hi lo id : ℕ) (es : List (ℕ × Holder)) (hs : List sets.Holder) (told : List CircuitTold) → EachStands own ttl hi lo es hs told → lookup (nat_eq id) es ≡ None
      → (x : sets.Holder) → end_of id hs ≡ Some x → x.gone ≡ true
  missing hi lo id es [] told s none x is = absurd (none_in is)
  missing hi lo id es (h ∷ hs) told s none x is = miss_case hi lo id h es hs told s.1 none x is (λ es2 told2 y n z e. missing hi (suc h.id) id es2 hs told2 y n z e)

pub some_is : {A : Type 0} → (o : Option A) (a b : A) → o ≡ Some a → o ≡ Some b → a ≡ b
some_is o a b e f = let z : Some a ≡ Some b = sym e ∙ f in cc z
