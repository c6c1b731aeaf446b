-- The best of ways that come one after another.
use Rattle.std.proofs.Common.{◌≡◌, ◌<◌, ◌+◌, ◌++◌, ◌∷◌, ◌∙◌, [], ℕ, refl, sym, ap, List, Bool, true, false, arith, flat_map, get_or, length, take}
use Rattle.std.specs.Prelude.{Option, Some, None, nat_lt}
use Rattle.std.specs.List.{range_with_len}
use Rattle.std.specs.Option.{option_to_list}
use Rattle.station_looks.specs.declared.ways.Way.{Way}
use Rattle.station_looks.specs.Naming.{best_of, better, better_way}
use Rattle.station_looks.proofs.Places.{one_more}
use Rattle.station_looks.proofs.Slices.{flat_more}

better_by : (a b c : Way) (p q r : Bool) → nat_lt a.route.quality b.route.quality ≡ p → nat_lt b.route.quality c.route.quality ≡ q
    → nat_lt a.route.quality c.route.quality ≡ r → better_way (better_way a b) c ≡ better_way a (better_way b c)
better_by a b c true true true e f g = rw (e, f, g) refl
better_by a b c true true false e f g = absurd (grind (arith, e, f, g))
better_by a b c true false r e f g = rw (e, f, e) refl
better_by a b c false true r e f g = rw (e, f, g) refl
better_by a b c false false true e f g = absurd (grind (arith, e, f, g))
better_by a b c false false false e f g = rw (e, f, g, e) refl

pub better_assoc : (a b c : Option Way) → better (better a b) c ≡ better a (better b c)
better_assoc None b c = refl
better_assoc (Some a) None c = refl
better_assoc (Some a) (Some b) None = refl
better_assoc (Some a) (Some b) (Some c) = ap Some (better_by a b c _ _ _ refl refl refl)

better_none : (a : Option Way) → better a None ≡ a
better_none None = refl
better_none (Some a) = refl

pub best_more : (xs ys : List Way) → best_of (xs ++ ys) ≡ better (best_of xs) (best_of ys)
best_more [] ys = refl
best_more (x ∷ xs) ys = ap (better (Some x)) (best_more xs ys) ∙ sym (better_assoc (Some x) (best_of xs) (best_of ys))

pub best_one : (w : Option Way) → best_of (option_to_list w) ≡ w
best_one None = refl
best_one (Some w) = refl

-- the best of some ways, and of what is better of it and of one more
best_joined : (before more all : List Way) (old one new : Option Way) → all ≡ before ++ more → old ≡ best_of before → one ≡ best_of more → new ≡ better old one
    → new ≡ best_of all
best_joined before more all old one new is was here grew =
    grew ∙ (ap (λ (o : Option Way). better o one) was ∙ (ap (better (best_of before)) here ∙ (sym (best_more before more) ∙ ap best_of (sym is))))

pub best_grown : (f : ℕ → List Way) (at : ℕ) (old one new : Option Way) → old ≡ best_of (flat_map f (range_with_len 0 at)) → one ≡ best_of (f at)
    → new ≡ better old one → new ≡ best_of (flat_map f (range_with_len 0 (at + 1)))
best_grown f at old one new was here grew = best_joined (flat_map f (range_with_len 0 at)) (f at) _ old one new (one_more f at) was here grew

pub best_all : (f : ℕ → List Way) (at n : ℕ) (best : Option Way) → at ≡ n → best ≡ best_of (flat_map f (range_with_len 0 at))
    → best ≡ best_of (flat_map f (range_with_len 0 n))
best_all f at n best e was = was ∙ ap (λ (k : ℕ). best_of (flat_map f (range_with_len 0 k))) e

pub best_next : {A : Type 0} (f : A → List Way) (xs : List A) (i : ℕ) (x : A) (old one new : Option Way) → i < length xs → x ≡ get_or xs i x
    → old ≡ best_of (flat_map f (take i xs)) → one ≡ best_of (f x) → new ≡ better old one → new ≡ best_of (flat_map f (take (i + 1) xs))
best_next f xs i x old one new h is was here grew = best_joined (flat_map f (take i xs)) (f x) _ old one new (flat_more f xs i x h is) was here grew
