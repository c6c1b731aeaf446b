-- What has waited long enough, taken one by one and all at once.
use Rattle.std.proofs.Common.{◌≡◌, ◌<◌, ◌+◌, ℕ, suc, refl, sym, ap, subst, List, [], ◌∷◌, length, filter, map, arith, Bool, true, false, cond, not}
use Rattle.std.proofs.lemmas.Bool.Decides.{nat_tests}
use Rattle.std.specs.Prelude.{nat_lt, position, Option, Some, None}
use Rattle.std.specs.List.{position_or_len}
use Rattle.station_ports.specs.declared.held_back.Held.{Held}
use Rattle.station_ports.specs.declared.port_frame.PortFrame.{PortFrame}
use Rattle.station_ports.specs.Holding.{all_but, frame_at}
use Rattle.station_members.specs.Waiting.{frame_held}

-- the first of those that pass, by its place
pub record Splits (p : Held → Bool) (xs : List Held) (o : Option ℕ) : Type 0 where
  pub none : o ≡ None → filter p xs ≡ []
  pub stays : o ≡ None → filter (λ h. not (p h)) xs ≡ xs
  pub some : (f : PortFrame) → Some f ≡ frame_at o xs → map frame_held (filter p xs) ≡ f ∷ map frame_held (filter p (all_but o xs))
  pub rest : filter (λ h. not (p h)) (all_but o xs) ≡ filter (λ h. not (p h)) xs
  pub fewer : (f : PortFrame) → Some f ≡ frame_at o xs → length (all_but o xs) < length xs
  pub found : (at : ℕ) → o ≡ Some at → (f : PortFrame) × (Some f ≡ frame_at o xs)

abbrev pub place : ℕ → Bool → Option ℕ
place k b = cond b (Some k) None

splits_behind : (p : Held → Bool) (x : Held) (xs : List Held) (k : ℕ) → p x ≡ false → (b : Bool) → Splits p xs (place k b) → Splits p (x ∷ xs) (place (suc k) b)
splits_behind p x xs k bad false s = record {
  none = λ e. rw bad (s.none refl);
  stays = λ e. rw bad (ap (λ hs. x ∷ hs) (s.stays refl));
  some = λ f e. absurd (cc e);
  rest = refl;
  fewer = λ f e. absurd (cc e);
  found = λ at e. absurd (cc e);
}
splits_behind p x xs k bad true s = record {
  none = λ e. absurd (cc e);
  stays = λ e. absurd (cc e);
  some = λ f e. rw bad (s.some f e);
  rest = rw bad (ap (λ hs. x ∷ hs) s.rest);
  fewer = λ f e. (let less = s.fewer f e in omega (arith, less));
  found = λ at e. s.found k refl;
}

splits_here : (p : Held → Bool) (x : Held) (xs : List Held) → p x ≡ true → Splits p (x ∷ xs) (Some 0)
splits_here p x xs good = record {
  none = λ e. absurd (cc e);
  stays = λ e. absurd (cc e);
  some = λ f e. rw good (let same : f ≡ x.frame = cc e in ap (λ g. g ∷ map frame_held (filter p xs)) (sym same));
  rest = rw good refl;
  fewer = λ f e. omega arith;
  found = λ at e. (x.frame, refl);
}

lt_both : (k n : ℕ) (b : Bool) → nat_lt k n ≡ b → nat_lt (1 + k) (suc n) ≡ b
lt_both k n true e = grind (arith, nat_tests, e)
lt_both k n false e = grind (arith, nat_tests, e)

splits_by : (p : Held → Bool) (x : Held) (xs : List Held) (b : Bool) → p x ≡ b → Splits p xs (position p xs)
    → Splits p (x ∷ xs) (place (cond (not b) (1 + position_or_len p xs) 0) (nat_lt (cond (not b) (1 + position_or_len p xs) 0) (suc (length xs))))
splits_by p x xs true e rest =
    let first : nat_lt 0 (suc (length xs)) ≡ true = grind (arith, nat_tests) in
    subst (λ b. Splits p (x ∷ xs) (place 0 b)) (sym first) (splits_here p x xs e)
splits_by p x xs false e rest =
    let k = position_or_len p xs in
    let more : suc k ≡ 1 + k = omega arith in
    let less = lt_both k (length xs) (nat_lt k (length xs)) refl in
    subst (λ b. Splits p (x ∷ xs) (place (1 + k) b)) (sym less)
    (subst (λ n. Splits p (x ∷ xs) (place n (nat_lt k (length xs)))) more (splits_behind p x xs k e (nat_lt k (length xs)) rest))

pub splits : (p : Held → Bool) (xs : List Held) → Splits p xs (position p xs)
splits p [] = record {
  none = λ e. refl;
  stays = λ e. refl;
  some = λ f e. absurd (cc e);
  rest = refl;
  fewer = λ f e. absurd (cc e);
  found = λ at e. absurd (cc e);
}
splits p (x ∷ xs) = splits_by p x xs (p x) refl (splits p xs)

-- where none is due, no place is
pub none_due : (p : Held → Bool) (xs : List Held) → None ≡ frame_at (position p xs) xs → position p xs ≡ None
none_due p xs e = none_by (position p xs) (splits p xs) e
  where
    none_by : (o : Option ℕ) → Splits p xs o → None ≡ frame_at o xs → o ≡ None
    none_by None s e = refl
    none_by (Some at) s e = let f = s.found at refl in absurd (cc (f.1, e))
