-- What is held, whatever is untold: an end that is gone is held until that is told.
use Rattle.std.specs.Prelude.{◌≡◌, ℕ, suc, ◌≤◌, ◌<◌, ◌⊎◌, Bool, true, false, ◌||◌, nat_eq, if◌then◌else◌, List, [], ◌∷◌, ◌++◌, Some, None, refl}
use Rattle.std.proofs.Common.{sym, ◌∙◌, ap, subst, cond, inl, inr, arith}
use Rattle.std.proofs.lemmas.Bool.Decides.{nat_tests}
use Rattle.std.specs.Map.{lookup}
use Rattle.ax_address.specs.Callsign.{Callsign}
use Rattle.circuit_l4.specs.declared.facts.EndFacts.{EndFacts}
use Rattle.circuit_l4.specs.declared.notice.EndNotice.{EndNotice}
use Rattle.circuit_l4.specs.State.{Effect, Out}
use Rattle.circuit_l4.specs.Opening.{facts_of}
use Rattle.circuit_l4.specs.Standing.{StandsFor}
use Rattle.circuit_table.specs.declared.holder.Holder.{Holder}
use Rattle.circuit_table.specs.Sets as sets
use Rattle.circuit_table.specs.Sets.{CircuitTold, Made, Sent, Heeded, Notice, Gone, Restarted, Lost, end_of, is_over, notices}
use Rattle.circuit_table.specs.Standing.{EachStands, Here, Keeps, Past, if_so, sendings_by, untold_of}
use Rattle.circuit_table.specs.CircuitSets.{held_by, held_ids, with_held}
use Rattle.circuit_table.proofs.Holding.{stood}

none_in : {A : Type 0} {a : A} → None ≡ Some a → ⊥
none_in e = cc

-- the numbers of ends
abbrev pub keys : List (ℕ × Holder) → List ℕ
keys [] = []
keys (e ∷ es) = e.0 ∷ keys es

-- ---- what is untold of one end ----
held_append : (xs ys : List CircuitTold) (hs : List sets.Holder) → held_by (xs ++ ys) hs ≡ held_by ys (held_by xs hs)
held_append [] ys hs = refl
held_append (Made id pair partner request ∷ xs) ys hs = held_append xs ys hs
held_append (Sent id number datagram ∷ xs) ys hs = held_append xs ys hs
held_append (Heeded id datagram ∷ xs) ys hs = held_append xs ys hs
held_append (Notice id notice ∷ xs) ys hs = held_append xs ys hs
held_append (Gone id facts ∷ xs) ys hs = held_append xs ys (with_held id hs)
held_append (Restarted pair ∷ xs) ys hs = held_append xs ys hs
held_append (Lost id facts ∷ xs) ys hs = held_append xs ys hs

held_made : (b : Bool) (k : Holder) (id : ℕ) (hs : List sets.Holder) → held_by (if_so b (Made id k.pair k.at None)) hs ≡ hs
held_made true k id hs = refl
held_made false k id hs = refl

held_sents : (own : Callsign) (ttl id : ℕ) (to : Callsign) (os : List Out) (hs : List sets.Holder) → held_by (sendings_by own ttl id to os) hs ≡ hs
held_sents own ttl id to [] hs = refl
held_sents own ttl id to (o ∷ os) hs = held_sents own ttl id to os hs

held_notices : (id : ℕ) (ns : List EndNotice) (hs : List sets.Holder) → held_by (notices id ns) hs ≡ hs
held_notices id [] hs = refl
held_notices id (n ∷ ns) hs = held_notices id ns hs

held_gone : (b : Bool) (id : ℕ) (f : EndFacts) (hs : List sets.Holder) → held_by (if_so b (Gone id f)) hs ≡ (if b then with_held id hs else hs)
held_gone true id f hs = refl
held_gone false id f hs = refl

module _ (own : Callsign) (ttl : ℕ) where
  -- whether it is gone
  abbrev leaves : Holder → Effect → Bool
  leaves k g = k.discarded || is_over g.end

  held_mine : (id : ℕ) (k : Holder) (g : Effect) (hs : List sets.Holder) → held_by (untold_of own ttl id k g) hs ≡ (if leaves k g then with_held id hs else hs)
  held_mine id k g hs =
      let a : List CircuitTold = if_so k.unannounced (Made id k.pair k.at None) in
      let b : List CircuitTold = sendings_by own ttl id k.at g.outs in
      let c : List CircuitTold = notices id g.notes in
      let d : List CircuitTold = if_so (leaves k g) (Gone id (facts_of g.end)) in
      let ab : held_by (a ++ b) hs ≡ hs = held_append a b hs ∙ held_sents own ttl id k.at g.outs (held_by a hs) ∙ held_made k.unannounced k id hs in
      let abc : held_by (a ++ b ++ c) hs ≡ hs = held_append (a ++ b) c hs ∙ held_notices id g.notes (held_by (a ++ b) hs) ∙ ab in
      held_append (a ++ b ++ c) d hs ∙ ap (held_by d) abc ∙ held_gone (leaves k g) id (facts_of g.end) hs

  -- ---- all ends ----
  abbrev Tail : ℕ → ℕ → List sets.Holder → List (ℕ × Holder) → List CircuitTold → Type 0
  Tail hi lo hs es told = EachStands own ttl hi lo es hs told

  -- an end of a lower number is passed over
  over_first : (b : Bool) (n : ℕ) (h : sets.Holder) (xs : List sets.Holder) → nat_eq h.id n ≡ false → (if b then with_held n (h ∷ xs) else h ∷ xs) ≡ h ∷ (if b then with_held n xs else xs)
  over_first true n h xs e = simp e refl
  over_first false n h xs e = refl

  abbrev Skips : ℕ → ℕ → List sets.Holder → Type 0
  Skips hi lo hs = (h : sets.Holder) (xs : List sets.Holder) (es : List (ℕ × Holder)) (told : List CircuitTold) → EachStands own ttl hi lo es hs told → h.id < lo → held_by told (h ∷ xs) ≡ h ∷ held_by told xs

  skip_here : (hi lo : ℕ) (y : sets.Holder) (ys : List sets.Holder) (h : sets.Holder) (xs : List sets.Holder) (k : Holder) (rest : List (ℕ × Holder)) (mine theirs : List CircuitTold)
      → h.id < lo → lo ≤ y.id → Keeps own ttl y.id k y mine → Tail hi (suc y.id) ys rest theirs → Skips hi (suc y.id) ys → held_by (mine ++ theirs) (h ∷ xs) ≡ h ∷ held_by (mine ++ theirs) xs
  skip_here hi lo y ys h xs k rest mine theirs under low keep others later =
      let g : Effect = keep.going in
      let m : (zs : List sets.Holder) → held_by mine zs ≡ (if leaves k g then with_held y.id zs else zs) = λ zs. ap (λ ts. held_by ts zs) keep.untold ∙ held_mine y.id k g zs in
      let apart : nat_eq h.id y.id ≡ false = grind (arith, nat_tests) in
      let first : held_by mine (h ∷ xs) ≡ h ∷ held_by mine xs = m (h ∷ xs) ∙ over_first (leaves k g) y.id h xs apart ∙ ap (λ zs. h ∷ zs) (sym (m xs)) in
      held_append mine theirs (h ∷ xs) ∙ ap (held_by theirs) first ∙ later h (held_by mine xs) rest theirs others (omega arith) ∙ ap (λ zs. h ∷ zs) (sym (held_append mine theirs xs))

  skip_case : (hi lo : ℕ) (y : sets.Holder) (ys : List sets.Holder) (h : sets.Holder) (xs : List sets.Holder) (es : List (ℕ × Holder)) (told : List CircuitTold) → h.id < lo → lo ≤ y.id
      → (Past (λ rest theirs. EachStands own ttl hi (suc y.id) rest ys theirs) y es told ⊎ Here own ttl (λ rest theirs. EachStands own ttl hi (suc y.id) rest ys theirs) y es told)
      → Skips hi (suc y.id) ys → held_by told (h ∷ xs) ≡ h ∷ held_by told xs
  skip_case hi lo y ys h xs es told under low (inl p) later = later h xs es told p.others (omega arith)
  skip_case hi lo y ys h xs es told under low (inr p) later =
      subst (λ ts. held_by ts (h ∷ xs) ≡ h ∷ held_by ts xs) (sym p.both) (skip_here hi lo y ys h xs p.k p.rest p.mine p.theirs under low p.keeps p.others later)

  skips : (hi lo : ℕ) (hs : List sets.Holder) → Skips hi lo hs
  skips hi lo [] h xs es told s under = rw s.1 refl
  skips hi lo (y ∷ ys) h xs es told s under = skip_case hi lo y ys h xs es told under s.0 s.1 (skips hi (suc y.id) ys)

  -- those of higher numbers stay
  abbrev Stays : ℕ → ℕ → List sets.Holder → Type 0
  Stays hi lo hs = (n : ℕ) (es : List (ℕ × Holder)) (told : List CircuitTold) → EachStands own ttl hi lo es hs told → n < lo → with_held n hs ≡ hs

  stay_case : (hi lo : ℕ) (y : sets.Holder) (ys : List sets.Holder) (n : ℕ) (es : List (ℕ × Holder)) (told : List CircuitTold) → n < lo → lo ≤ y.id
      → (Past (λ rest theirs. EachStands own ttl hi (suc y.id) rest ys theirs) y es told ⊎ Here own ttl (λ rest theirs. EachStands own ttl hi (suc y.id) rest ys theirs) y es told)
      → Stays hi (suc y.id) ys → with_held n ys ≡ ys
  stay_case hi lo y ys n es told under low (inl p) later = later n es told p.others (omega arith)
  stay_case hi lo y ys n es told under low (inr p) later = later n p.rest p.theirs p.others (omega arith)

  stays : (hi lo : ℕ) (hs : List sets.Holder) → Stays hi lo hs
  stays hi lo [] n es told s under = refl
  stays hi lo (y ∷ ys) n es told s under =
      let low : lo ≤ y.id = s.0 in
      let apart : nat_eq y.id n ≡ false = grind (arith, nat_tests) in
      let rest : with_held n ys ≡ ys = stay_case hi lo y ys n es told under low s.1 (stays hi (suc y.id) ys) in
      simp (apart, rest) refl

  -- ---- what is held ----
  -- an end that is held
  pub record Shows (h : sets.Holder) (k : Holder) : Type 0 where
    pub held : h.gone ≡ false
    pub at : h.at ≡ k.at
    pub asked : h.asked ≡ k.asked
    pub stands : StandsFor k.end h.end

  -- end by end, with numbers from lo on that rise
  abbrev pub Shown : ℕ → List (ℕ × Holder) → List sets.Holder → Type 0
  Shown lo es [] = es ≡ []
  Shown lo es (h ∷ hs) =
      (lo ≤ h.id)
      × (((h.gone ≡ true) × Shown (suc h.id) es hs)
      ⊎ ((k : Holder) × (rest : List (ℕ × Holder)) × (es ≡ (h.id, k) ∷ rest) × Shows h k × Shown (suc h.id) rest hs))

  itself : (h : sets.Holder) → h.gone ≡ false → record h { gone = false } ≡ h
  itself h e = ap (λ b. record h { gone = b }) (sym e)

  first_held : (b : Bool) (h : sets.Holder) (hs : List sets.Holder) → h.gone ≡ b → nat_eq h.id h.id ≡ true → with_held h.id hs ≡ hs
      → (if b then with_held h.id (h ∷ hs) else h ∷ hs) ≡ record h { gone = false } ∷ hs
  first_held true h hs e same rest = simp (same, rest) refl
  first_held false h hs e same rest = ap (λ (x : sets.Holder). x ∷ hs) (sym (itself h e))

  abbrev IsShown : ℕ → ℕ → List sets.Holder → Type 0
  IsShown hi lo hs = (es : List (ℕ × Holder)) (told : List CircuitTold) → EachStands own ttl hi lo es hs told → Shown lo es (held_by told hs)

  show_here : (hi lo : ℕ) (h : sets.Holder) (hs : List sets.Holder) (k : Holder) (rest : List (ℕ × Holder)) (mine theirs : List CircuitTold) → lo ≤ h.id
      → Keeps own ttl h.id k h mine → Tail hi (suc h.id) hs rest theirs → IsShown hi (suc h.id) hs → Shown lo ((h.id, k) ∷ rest) (held_by (mine ++ theirs) (h ∷ hs))
  show_here hi lo h hs k rest mine theirs low keep others later =
      let g : Effect = keep.going in
      let gone : h.gone ≡ leaves k g = ap (λ (x : sets.Holder). x.gone) keep.is in
      let at : h.at ≡ k.at = ap (λ (x : sets.Holder). x.at) keep.is in
      let asked : h.asked ≡ k.asked = ap (λ (x : sets.Holder). x.asked) keep.is in
      let end : g.end ≡ h.end = ap (λ (x : sets.Holder). x.end) (sym keep.is) in
      let same : nat_eq h.id h.id ≡ true = grind (arith, nat_tests) in
      let first : held_by mine (h ∷ hs) ≡ record h { gone = false } ∷ hs =
      ap (λ ts. held_by ts (h ∷ hs)) keep.untold ∙ held_mine h.id k g (h ∷ hs) ∙ first_held (leaves k g) h hs gone same (stays hi (suc h.id) hs h.id rest theirs others (omega arith)) in
      let all : held_by (mine ++ theirs) (h ∷ hs) ≡ record h { gone = false } ∷ held_by theirs hs =
      held_append mine theirs (h ∷ hs) ∙ ap (held_by theirs) first ∙ skips hi (suc h.id) hs (record h { gone = false }) hs rest theirs others (omega arith) in
      let stands : StandsFor k.end h.end = subst (λ x. StandsFor k.end x) end (stood k.end g keep.stands) in
      subst (Shown lo ((h.id, k) ∷ rest)) (sym all) (low, inr (k, rest, refl, record { held = refl; at = at; asked = asked; stands = stands }, later rest theirs others))

  show_case : (hi lo : ℕ) (h : sets.Holder) (hs : List sets.Holder) (es : List (ℕ × Holder)) (told : List CircuitTold) → lo ≤ h.id
      → (tail : Past (λ rest theirs. EachStands own ttl hi (suc h.id) rest hs theirs) h es told ⊎ Here own ttl (λ rest theirs. EachStands own ttl hi (suc h.id) rest hs theirs) h es told)
      → IsShown hi (suc h.id) hs → Shown lo es (held_by told (h ∷ hs))
  show_case hi lo h hs es told low (inl p) later =
      let all : held_by told (h ∷ hs) ≡ h ∷ held_by told hs = skips hi (suc h.id) hs h hs es told p.others (omega arith) in
      subst (Shown lo es) (sym all) (low, inl (p.gone, later es told p.others))
  show_case hi lo h hs es told low (inr p) later =
      subst (λ xs. Shown lo xs (held_by told (h ∷ hs))) (sym p.is) (subst (λ ts. Shown lo ((h.id, p.k) ∷ p.rest) (held_by ts (h ∷ hs))) (sym p.both)
      (show_here hi lo h hs p.k p.rest p.mine p.theirs low p.keeps p.others later))

  pub shown : (hi lo : ℕ) (hs : List sets.Holder) → IsShown hi lo hs
  shown hi lo [] es told s = rw s.1 s.0
  shown hi lo (h ∷ hs) es told s = show_case hi lo h hs es told s.0 s.1 (shown hi (suc h.id) hs)

  -- ---- an end of a number ----
  pub record FoundAt (lo id : ℕ) (k : Holder) (hs : List sets.Holder) : Type 0 where
    pub h : sets.Holder
    pub low : lo ≤ id
    pub is : end_of id hs ≡ Some h
    pub shows : Shows h k

  abbrev Finds : ℕ → ℕ → Holder → List sets.Holder → Type 0
  Finds lo id k hs = (es : List (ℕ × Holder)) → Shown lo es hs → lookup (nat_eq id) es ≡ Some k → FoundAt lo id k hs

  found_later : (lo id : ℕ) (k : Holder) (h : sets.Holder) (hs : List sets.Holder) → lo ≤ h.id → FoundAt (suc h.id) id k hs → FoundAt lo id k (h ∷ hs)
  found_later lo id k h hs low f =
      let after : suc h.id ≤ id = f.low in
      let apart : nat_eq h.id id ≡ false = grind (arith, nat_tests) in
      record { h = f.h; low = omega arith; is = simp apart f.is; shows = f.shows }

  found_key : (lo id : ℕ) (k w : Holder) (h : sets.Holder) (hs : List sets.Holder) (rest : List (ℕ × Holder)) (b : Bool) → lo ≤ h.id → nat_eq id h.id ≡ b → cond b (Some w) (lookup (nat_eq id) rest) ≡ Some k
      → Shows h w → (lookup (nat_eq id) rest ≡ Some k → FoundAt (suc h.id) id k hs) → FoundAt lo id k (h ∷ hs)
  found_key lo id k w h hs rest true low e f s later =
      let back : nat_eq h.id id ≡ true = grind (arith, nat_tests) in
      let number : id ≡ h.id = grind (arith, nat_tests) in
      let same : w ≡ k = cc f in
      record { h = h; low = omega arith; is = simp back refl; shows = subst (Shows h) same s }
  found_key lo id k w h hs rest false low e f s later = found_later lo id k h hs low (later f)

  pub find : (lo id : ℕ) (k : Holder) (hs : List sets.Holder) → Finds lo id k hs
  find lo id k [] es s f = absurd (none_in (sym (ap (lookup (nat_eq id)) s) ∙ f))
  find lo id k (h ∷ hs) es (low, inl p) f = found_later lo id k h hs low (find (suc h.id) id k hs es p.1 f)
  find lo id k (h ∷ hs) es (low, inr (w, rest, is, s, others)) f =
      let g : lookup (nat_eq id) ((h.id, w) ∷ rest) ≡ Some k = subst (λ xs. lookup (nat_eq id) xs ≡ Some k) is f in
      found_key lo id k w h hs rest (nat_eq id h.id) low refl g s (λ e. find (suc h.id) id k hs rest others e)

  miss_gone : (id : ℕ) (h x : sets.Holder) (hs : List sets.Holder) (b : Bool) → h.gone ≡ true → (if b then Some h else end_of id hs) ≡ Some x → (end_of id hs ≡ Some x → x.gone ≡ true) → x.gone ≡ true
  miss_gone id h x hs true gone e later = let same : h ≡ x = cc e in subst (λ (y : sets.Holder). y.gone ≡ true) same gone
  miss_gone id h x hs false gone e later = later e

  miss_key : (id : ℕ) (w : Holder) (h x : sets.Holder) (hs : List sets.Holder) (rest : List (ℕ × Holder)) (b : Bool) → nat_eq id h.id ≡ b → cond b (Some w) (lookup (nat_eq id) rest) ≡ None
      → end_of id (h ∷ hs) ≡ Some x → (lookup (nat_eq id) rest ≡ None → end_of id hs ≡ Some x → x.gone ≡ true) → x.gone ≡ true
  miss_key id w h x hs rest true e none is later = absurd (none_in (sym none))
  miss_key id w h x hs rest false e none is later = let apart : nat_eq h.id id ≡ false = grind (arith, nat_tests) in later none (simp apart at is)

  -- none that is held
  pub miss : (lo id : ℕ) (hs : List sets.Holder) (es : List (ℕ × Holder)) → Shown lo es hs → lookup (nat_eq id) es ≡ None → (x : sets.Holder) → end_of id hs ≡ Some x → x.gone ≡ true
  miss lo id [] es s none x is = absurd (none_in is)
  miss lo id (h ∷ hs) es (low, inl p) none x is = miss_gone id h x hs (nat_eq h.id id) p.0 is (λ e. miss (suc h.id) id hs es p.1 none x e)
  miss lo id (h ∷ hs) es (low, inr (w, rest, at, s, others)) none x is =
      let g : lookup (nat_eq id) ((h.id, w) ∷ rest) ≡ None = subst (λ (xs : List (ℕ × Holder)). lookup (nat_eq id) xs ≡ None) at none in
      miss_key id w h x hs rest (nat_eq id h.id) refl g is (λ n e. miss (suc h.id) id hs rest others n x e)

  -- ---- the numbers of those that are held ----
  pub ids : (lo : ℕ) (hs : List sets.Holder) (es : List (ℕ × Holder)) → Shown lo es hs → held_ids hs ≡ keys es
  ids lo [] es s = ap keys (sym s)
  ids lo (h ∷ hs) es (low, inl p) = simp (p.0, ids (suc h.id) hs es p.1) refl
  ids lo (h ∷ hs) es (low, inr (w, rest, is, s, others)) = let same : held_ids (h ∷ hs) ≡ h.id ∷ keys rest = simp (s.held, ids (suc h.id) hs rest others) refl in same ∙ ap keys (sym is)
