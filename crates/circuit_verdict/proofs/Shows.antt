-- What a cause says of an event, by the events before it.
use Rattle.std.proofs.Common.{◌≡◌, ◌≤◌, ◌∙◌, ℕ, refl, sym, ap, arith, subst, List, [], ◌∷◌, inl}
use Rattle.std.specs.Prelude.{Bool, true, false, ◌&&◌, ◌||◌, cond, if◌then◌else◌, filter, flat_map, is_some, nat_le, slice_get, Option, Some, None}
use Rattle.std.specs.List.{list_any}
use Rattle.std.proofs.lemmas.Bool.Decides.{nat_tests}
use Rattle.std.proofs.lemmas.Bool.{or_left, or_right}
use Rattle.circuit_l4.specs.declared.pair.Pair.{Pair}
use Rattle.circuit_set.specs.Books.{Book, Fresh, MadeNote, SentNote, empty, first_name, is_unknown, latest_by, latest_in, lost_in, overtakers, partner, requester, with_events}
use Rattle.circuit_set.specs.ByBook.{FreshByBook, HeldByBook, OvertakenByBook, TooManyByBook, UnaskedByBook, UnsentByBook}
use Rattle.circuit_table.specs.Events.{Event, Name}
use Rattle.circuit_table.specs.Sets.{CircuitTold, Made, Sent, Heeded, Notice, Gone, Restarted, Lost}
use Rattle.circuit_set.specs.Signs.{AreTooMany, StillHolds}
use Rattle.circuit_verdict.specs.declared.allowance.Allowance.{Allowance}
use Rattle.circuit_verdict.specs.declared.allowance.Allowance.TheVariants.{Fixed, OfWindow}
use Rattle.circuit_verdict.specs.declared.cause.Cause.{Cause}
use Rattle.circuit_verdict.specs.declared.cause.Cause.TheVariants.{Unsent, Overtaken, Unasked, Held}
use Rattle.circuit_verdict.specs.ByBook.{allowance_of}
use Rattle.circuit_verdict.specs.Causes.{CausesShow, ShowsHeeded, ShowsMade, ShowsTold, cause_told, held_cause, heeded_cause, holders, overtaken_cause}
use Rattle.circuit_verdict.specs.Ends.{faces, facing_in, given_in}
use Rattle.circuit_verdict.specs.Verdicts.{allows_of}
use Rattle.circuit_verdict.proofs.Causes.{first_either}
use Rattle.circuit_verdict.proofs.Returns.{Facing, faced_notes}

-- ---- the first that faces an end
passing : (c : Bool) (f : Name → Bool) (x z : Name) (rest : List Name) → f x ≡ c → (slice_get rest 0 ≡ Some z → f z ≡ true) → slice_get (cond c (x ∷ rest) rest) 0 ≡ Some z → f z ≡ true
passing true f x z rest h later e = let same : x ≡ z = cc e in subst (λ y. f y ≡ true) same h
passing false f x z rest h later e = later e

first_passes : (f : Name → Bool) (xs : List Name) (z : Name) → slice_get (filter f xs) 0 ≡ Some z → f z ≡ true
first_passes f [] z e = absurd (cc e)
first_passes f (x ∷ xs) z e = passing (f x) f x z (filter f xs) refl (first_passes f xs z) e

module _ (ms : List MadeNote) (lost : List Name) (z : Name) where
  abbrev those_of : List Name → List Name
  those_of xs = flat_map (λ (x : Name). filter (faces ms lost x) (facing_in ms x)) xs

  facing_one : (o : Option Name) (x : Name) (xs : List Name) → slice_get (filter (faces ms lost x) (facing_in ms x)) 0 ≡ o → first_name o (slice_get (those_of xs) 0) ≡ Some z
      → (slice_get (those_of xs) 0 ≡ Some z → list_any (λ (y : Name). faces ms lost y z) xs ≡ true) → faces ms lost x z || list_any (λ (y : Name). faces ms lost y z) xs ≡ true
  facing_one None x xs h e later = or_right (faces ms lost x z) (list_any (λ (y : Name). faces ms lost y z) xs) (later e)
  facing_one (Some w) x xs h e later =
      let same : w ≡ z = cc e in
      or_left (faces ms lost x z) (list_any (λ (y : Name). faces ms lost y z) xs) (first_passes (faces ms lost x) (facing_in ms x) z (h ∙ ap Some same))

  facing_some : (xs : List Name) → slice_get (those_of xs) 0 ≡ Some z → list_any (λ (y : Name). faces ms lost y z) xs ≡ true
  facing_some [] e = absurd (cc e)
  facing_some (x ∷ xs) e =
      facing_one (slice_get (filter (faces ms lost x) (facing_in ms x)) 0) x xs refl (sym (first_either (filter (faces ms lost x) (facing_in ms x)) (those_of xs)) ∙ e) (facing_some xs)

-- ---- of fresh events
module _ (unsent : UnsentByBook) (overtaken : OvertakenByBook) (many : TooManyByBook) (unasked : UnaskedByBook) (held : HeldByBook) (es : List Event) (fresh : Fresh empty es) where
  abbrev b : Book
  b = with_events empty es

  abbrev lost : List Name
  lost = lost_in [] es

  -- ---- an end has heeded a datagram
  too_many : (a : Allowance) (x y : Name) → partner b x ≡ Some y → AreTooMany (allows_of a) es x y (allowance_of a b x)
  too_many Fixed x y e = inl refl
  too_many OfWindow x y e = many es fresh x y e

  reaches : (allowed count : ℕ) → nat_le allowed count ≡ true → allowed ≤ count
  reaches allowed count e = grind (arith, nat_tests, e)

  counted : (c : Bool) (a : Allowance) (x y : Name) (d : List ℕ) (s : SentNote) → partner b x ≡ Some y → latest_in b.sent y d ≡ Some s
      → nat_le (allowance_of a b x) (overtakers y x s.place b.sent b.heard) ≡ c
      → (cause : Cause) → (if c then Some (Overtaken s.place (overtakers y x s.place b.sent b.heard) (allowance_of a b x)) else None) ≡ Some cause → ShowsHeeded (allows_of a) es x d cause
  counted true a x y d s met latest h cause e =
      let same : (let k : Cause = Overtaken s.place (overtakers y x s.place b.sent b.heard) (allowance_of a b x) in k) ≡ cause = cc e in
      subst (ShowsHeeded (allows_of a) es x d) same (y, overtaken es fresh x y d s met latest, too_many a x y met, reaches (allowance_of a b x) (overtakers y x s.place b.sent b.heard) h)
  counted false a x y d s met latest h cause e = absurd (cc e)

  copied : (o : Option SentNote) (a : Allowance) (x y : Name) (d : List ℕ) → partner b x ≡ Some y → latest_in b.sent y d ≡ o
      → (cause : Cause) → overtaken_cause a b x y o ≡ Some cause → ShowsHeeded (allows_of a) es x d cause
  copied None a x y d met latest cause e =
      let same : Unsent ≡ cause = cc e in
      subst (ShowsHeeded (allows_of a) es x d) same (unsent es fresh x d (ap (λ (o : Option Name). latest_by b o d) met ∙ latest))
  copied (Some s) a x y d met latest cause e = counted (nat_le (allowance_of a b x) (overtakers y x s.place b.sent b.heard)) a x y d s met latest refl cause e

  heeded : (o : Option Name) (a : Allowance) (x : Name) (d : List ℕ) → partner b x ≡ o → (cause : Cause) → heeded_cause a b x d o ≡ Some cause → ShowsHeeded (allows_of a) es x d cause
  heeded None a x d met cause e =
      let same : Unsent ≡ cause = cc e in
      subst (ShowsHeeded (allows_of a) es x d) same (unsent es fresh x d (ap (λ (o : Option Name). latest_by b o d) met))
  heeded (Some y) a x d met cause e = copied (latest_in b.sent y d) a x y d met refl cause e

  -- ---- an end was made
  holding : (node : ℕ) (pair : Pair) (z : Name) → slice_get (holders b.made lost node pair) 0 ≡ Some z → StillHolds es node pair z
  holding node pair z e =
      let f : Facing b lost node pair z = faced_notes b lost node pair z (facing_some b.made lost z (given_in b.made node pair) e) in
      subst (StillHolds es node pair) f.who (held es fresh node pair f.holder f.partner f.in_holder f.in_partner f.going f.kept f.elsewhere f.met f.at f.by)

  held_by : (o : Option Name) (node : ℕ) (pair : Pair) (request : Option (List ℕ)) → slice_get (holders b.made lost node pair) 0 ≡ o
      → (cause : Cause) → held_cause o ≡ Some cause → ShowsMade es node pair request cause
  held_by None node pair request h cause e = absurd (cc e)
  held_by (Some z) node pair request h cause e =
      let same : (let k : Cause = Held z.node z.id in k) ≡ cause = cc e in
      subst (ShowsMade es node pair request) same (holding node pair z h)

  unasked_by : (request : Option (List ℕ)) → is_some request && is_unknown (requester b request) ≡ true → (o : Option Name) → requester b request ≡ o → (node : ℕ) (pair : Pair) → ShowsMade es node pair request Unasked
  unasked_by None h o e node pair = absurd (cc h)
  unasked_by (Some d) h None e node pair = (d, refl, unasked es fresh d e)
  unasked_by (Some d) h (Some x) e node pair = let none : is_unknown (Some x) ≡ true = ap is_unknown (sym e) ∙ h in absurd (cc none)

  made : (c : Bool) (node : ℕ) (pair : Pair) (request : Option (List ℕ)) → is_some request && is_unknown (requester b request) ≡ c
      → (cause : Cause) → (if c then Some Unasked else held_cause (slice_get (holders b.made lost node pair) 0)) ≡ Some cause → ShowsMade es node pair request cause
  made true node pair request h cause e =
      let same : Unasked ≡ cause = cc e in
      subst (ShowsMade es node pair request) same (unasked_by request h (requester b request) refl node pair)
  made false node pair request h cause e = held_by (slice_get (holders b.made lost node pair) 0) node pair request refl cause e

  -- ---- any event
  shows : (a : Allowance) (node : ℕ) (t : CircuitTold) (cause : Cause) → cause_told a b lost node t ≡ Some cause → ShowsTold (allows_of a) es node t cause
  shows a node (Made id pair at request) cause e = made (is_some request && is_unknown (requester b request)) node pair request refl cause e
  shows a node (Heeded id d) cause e = let x : Name = record { node = node; id = id } in heeded (partner b x) a x d refl cause e
  shows a node (Sent id number d) cause e = absurd (cc e)
  shows a node (Notice id n) cause e = absurd (cc e)
  shows a node (Gone id facts) cause e = absurd (cc e)
  shows a node (Restarted pair) cause e = absurd (cc e)
  shows a node (Lost id facts) cause e = absurd (cc e)

pub causes_show : FreshByBook → UnsentByBook → OvertakenByBook → TooManyByBook → UnaskedByBook → HeldByBook → CausesShow
causes_show pairs unsent overtaken many unasked held a before e cause in_time found =
    shows unsent overtaken many unasked held before ((pairs before).1 in_time.1) a e.node e.told cause found
