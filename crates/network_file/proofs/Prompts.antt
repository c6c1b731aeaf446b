-- No node both serves users at a prompt and keeps mail, as settings are read one after another; and keys are known in files of their
-- version.
use Rattle.std.proofs.Common.{◌≡◌, ◌∙◌, ℕ, refl, ap, subst, List, [], ◌∷◌, ◌++◌, arith, Bool, true, false, cond}
use Rattle.std.specs.Prelude.{◌&&◌, ◌==◌, find, is_none, unwrap_or, Option, Some, None, Result, Ok, Err}
use Rattle.std.specs.Option.{option_map}
use Rattle.ax_address.proofs.SameNumbers.{nat_refl}
use Rattle.network_file.specs.declared.plan.keys.Key.{Key}
use Rattle.network_file.specs.declared.plan.keys.Key.TheVariants.{Mail, Prompt}
use Rattle.network_file.specs.declared.what.What.{What}
use Rattle.network_file.specs.declared.what.What.TheVariants as whats
use Rattle.network_file.specs.Keys.{Assignment, all_keys, default_of, first_of, is_known, key_at, clashes, is_of, same_key, set_to, value_of}

-- ---- keys

known_by : (b : Bool) (version : ℕ) (key k : Key) → is_known version key ≡ b → ◌≡◌ {A = Result Key What} (cond b (Ok key) (Err whats.Key)) (Ok k) → is_known version k ≡ true
known_by true version key k q e = let same : key ≡ k = cc e in subst (λ (x : Key). is_known version x ≡ true) same q
known_by false version key k q e = absurd (cc e)

named : (version : ℕ) (o : Option Key) (k : Key) → ◌≡◌ {A = Result Key What} (elim o [ Some key ↦ cond (is_known version key) (Ok key) (Err whats.Key) | None ↦ Err whats.Key ]) (Ok k) → is_known version k ≡ true
named version (Some key) k e = known_by (is_known version key) version key k refl e
named version None k e = absurd (cc e)

pub known_key : (version : ℕ) (word : List ℕ) (k : Key) → key_at version word ≡ Ok k → is_known version k ≡ true
unfolding key_at
known_key version word k e = named version (first_of word all_keys) k e

-- ---- settings

-- what a key is set to where one setting more is there
abbrev or_said : Bool → ℕ → Option ℕ → Option ℕ
or_said b value (Some v) = Some v
or_said true value None = Some value
or_said false value None = None

found : (b : Bool) (x s : Assignment) (node : ℕ) (key : Key) (xs : List Assignment)
    → option_map (λ (a : Assignment). a.value) (find (is_of node key) (xs ++ s ∷ [])) ≡ or_said (is_of node key s) s.value (option_map (λ (a : Assignment). a.value) (find (is_of node key) xs))
    → option_map (λ (a : Assignment). a.value) (cond b (Some x) (find (is_of node key) (xs ++ s ∷ []))) ≡ or_said (is_of node key s) s.value (option_map (λ (a : Assignment). a.value) (cond b (Some x) (find (is_of node key) xs)))
found true x s node key xs e = refl
found false x s node key xs e = e

alone : (b : Bool) (s : Assignment) → option_map (λ (a : Assignment). a.value) (cond b (Some s) None) ≡ or_said b s.value None
alone true s = refl
alone false s = refl

set_more : (xs : List Assignment) (s : Assignment) (node : ℕ) (key : Key) → set_to (xs ++ s ∷ []) node key ≡ or_said (is_of node key s) s.value (set_to xs node key)
set_more [] s node key = alone (is_of node key s) s
set_more (x ∷ xs) s node key = found (is_of node key x) x s node key xs (set_more xs s node key)

-- of another node, or another key
value_same : (xs : List Assignment) (s : Assignment) (node : ℕ) (key : Key) → is_of node key s ≡ false → value_of (xs ++ s ∷ []) node key ≡ value_of xs node key
value_same xs s node key e = ap (λ o. unwrap_or o (default_of key)) (set_more xs s node key ∙ ap (λ b. or_said b s.value (set_to xs node key)) e ∙ still (set_to xs node key))
  where
    still : (o : Option ℕ) → or_said false s.value o ≡ o
    still (Some v) = refl
    still None = refl

-- of this node and key, which wasn't set
value_new : (xs : List Assignment) (s : Assignment) (node : ℕ) (key : Key) → is_of node key s ≡ true → is_none (set_to xs node key) ≡ true → value_of (xs ++ s ∷ []) node key ≡ s.value
value_new xs s node key e new = ap (λ o. unwrap_or o (default_of key)) (set_more xs s node key ∙ ap (λ b. or_said b s.value (set_to xs node key)) e ∙ said (set_to xs node key) new)
  where
    said : (o : Option ℕ) → is_none o ≡ true → or_said true s.value o ≡ Some s.value
    said (Some v) n = absurd (cc n)
    said None n = refl

abbrev pub AreApart : List Assignment → Type 0
AreApart settings = (node : ℕ) → ((value_of settings node Mail == 1) && (value_of settings node Prompt == 1)) ≡ false

both_same : (a b x y : ℕ) → a ≡ x → b ≡ y → ((x == 1) && (y == 1)) ≡ false → ((a == 1) && (b == 1)) ≡ false
both_same a b x y p q e = rw (p, q) e

swapped : (a b : Bool) → (a && b) ≡ false → (b && a) ≡ false
swapped true true e = e
swapped true false e = refl
swapped false true e = refl
swapped false false e = refl

abbrev assigned : ℕ → Key → ℕ → Assignment
assigned n k v = record { node = n; key = k; value = v }

is_here : (n : ℕ) (k key : Key) (v : ℕ) (b : Bool) → same_key k key ≡ b → is_of n key (assigned n k v) ≡ b
is_here n k key v b e = rw (nat_refl n) e

-- at the node of the new setting
apart_here : (xs : List Assignment) (n : ℕ) (k : Key) (v : ℕ) → is_none (set_to xs n k) ≡ true → clashes xs n k v ≡ false → AreApart xs
    → ((value_of (xs ++ assigned n k v ∷ []) n Mail == 1) && (value_of (xs ++ assigned n k v ∷ []) n Prompt == 1)) ≡ false
apart_here xs n Mail v new apart all =
    both_same _ _ v (value_of xs n Prompt) (value_new xs (assigned n Mail v) n Mail (is_here n Mail Mail v true refl) new)
    (value_same xs (assigned n Mail v) n Prompt (is_here n Mail Prompt v false refl)) apart
apart_here xs n Prompt v new apart all =
    both_same _ _ (value_of xs n Mail) v (value_same xs (assigned n Prompt v) n Mail (is_here n Prompt Mail v false refl))
    (value_new xs (assigned n Prompt v) n Prompt (is_here n Prompt Prompt v true refl) new) (swapped (v == 1) (value_of xs n Mail == 1) apart)
apart_here xs n key v new apart all =
    both_same _ _ (value_of xs n Mail) (value_of xs n Prompt) (value_same xs (assigned n key v) n Mail (is_here n key Mail v false refl))
    (value_same xs (assigned n key v) n Prompt (is_here n key Prompt v false refl)) (all n)

apart_at : (xs : List Assignment) (s : Assignment) (node : ℕ) (b : Bool) → (s.node == node) ≡ b → is_none (set_to xs s.node s.key) ≡ true → clashes xs s.node s.key s.value ≡ false → AreApart xs
    → ((value_of (xs ++ s ∷ []) node Mail == 1) && (value_of (xs ++ s ∷ []) node Prompt == 1)) ≡ false
apart_at xs s node true e new apart all =
    let same : s.node ≡ node = grind (arith, e) in
    subst (λ (m : ℕ). ((value_of (xs ++ s ∷ []) m Mail == 1) && (value_of (xs ++ s ∷ []) m Prompt == 1)) ≡ false) same (apart_here xs s.node s.key s.value new apart all)
apart_at xs s node false e new apart all =
    both_same _ _ (value_of xs node Mail) (value_of xs node Prompt) (value_same xs s node Mail (ap (λ b. b && same_key s.key Mail) e))
    (value_same xs s node Prompt (ap (λ b. b && same_key s.key Prompt) e)) (all node)

-- one setting more, which wasn't set and makes no node do both
pub more_apart : (xs : List Assignment) (s : Assignment) → is_none (set_to xs s.node s.key) ≡ true → clashes xs s.node s.key s.value ≡ false → AreApart xs → AreApart (xs ++ s ∷ [])
more_apart xs s new apart all node = apart_at xs s node (s.node == node) refl new apart all
