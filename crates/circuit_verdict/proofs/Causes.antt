-- By what an event comes too late: by nothing exactly where it is timely and fresh.
use Rattle.std.proofs.Common.{◌≡◌, ◌<◌, ◌≤◌, ◌+◌, ◌∙◌, ◌↔◌, ℕ, refl, sym, ap, arith, add-one, drop, drop-cons, get_or, length, List, [], ◌∷◌, ◌++◌}
use Rattle.std.specs.Prelude.{Bool, true, false, ◌&&◌, ◌||◌, cond, if◌then◌else◌, filter, flat_map, is_some, nat_le, slice_get, Option, Some, None}
use Rattle.std.specs.List.{list_any}
use Rattle.std.proofs.lemmas.Bool.Decides.{nat_tests}
use Rattle.std.proofs.lemmas.Option.{same_Some}
use Rattle.circuit_l4.specs.declared.pair.Pair.{Pair}
use Rattle.circuit_set.specs.Books.{Book, FreshTold, HasRequester, MadeNote, NoOther, SentNote, TimelyTo, TimelyTold, empty, first_name, is_unknown, latest_in, with_events, overtakers, partner, requester, lost_in}
use Rattle.circuit_table.specs.Events.{Event, Name}
use Rattle.circuit_table.specs.Sets.{CircuitTold, Made, Sent, Heeded, Notice, Gone, Restarted, Lost}
use Rattle.circuit_verdict.specs.declared.cause.Cause.{Cause}
use Rattle.circuit_verdict.specs.declared.cause.Cause.TheVariants.{Unsent, Overtaken, Unasked}
use Rattle.circuit_verdict.specs.declared.ends.Ends.{Ends}
use Rattle.circuit_verdict.specs.declared.sendings.Sending.{Sending}
use Rattle.circuit_verdict.specs.declared.allowance.Allowance.{Allowance}
use Rattle.circuit_verdict.specs.Causes.{cause_after, cause_told, held_cause, heeded_cause, holders, kept_partners, overtaken_cause}
use Rattle.circuit_verdict.specs.Ends.{EndsStand, faces, facing_in, given_in, has_open_partner, is_faced, kept_faces}
use Rattle.circuit_verdict.specs.Sendings.{sending_in, sending_of}
use Rattle.circuit_verdict.specs.ByBook.{InTimeByBook, allowance_of}
use Rattle.circuit_verdict.proofs.Facing.{faces_kept}
use Rattle.circuit_verdict.proofs.Judged.{having, lacking}
use Rattle.circuit_verdict.proofs.Returns.{faced_fails, unfaced}
use Rattle.circuit_verdict.proofs.Runs.{fresh_at, fresh_more, timely_at, timely_more}

-- ---- the first of a list
pub rest_of : (xs : List Name) (i : ℕ) (x : Name) → i < length xs → x ≡ get_or xs i x → drop i xs ≡ x ∷ drop (i + 1) xs
rest_of xs i x h is = sym (ap (λ (y : Name). y ∷ drop (i + 1) xs) is ∙ (ap (λ k. get_or xs i x ∷ drop k xs) (add-one i) ∙ sym (drop-cons xs i x h)))

pub passes : (f : Name → Bool) (xs : List Name) (i : ℕ) (x : Name) → i < length xs → x ≡ get_or xs i x → f x ≡ true → slice_get (filter f (drop i xs)) 0 ≡ Some x
passes f xs i x h is e =
    ap (λ (ys : List Name). slice_get (filter f ys) 0) (rest_of xs i x h is)
    ∙ ap (λ (b : Bool). slice_get (cond b (x ∷ filter f (drop (i + 1) xs)) (filter f (drop (i + 1) xs))) 0) e

pub fails : (f : Name → Bool) (xs : List Name) (i : ℕ) (x : Name) → i < length xs → x ≡ get_or xs i x → f x ≡ false → filter f (drop i xs) ≡ filter f (drop (i + 1) xs)
fails f xs i x h is e =
    ap (λ (ys : List Name). filter f ys) (rest_of xs i x h is)
    ∙ ap (λ (b : Bool). cond b (x ∷ filter f (drop (i + 1) xs)) (filter f (drop (i + 1) xs))) e

pub first_either : (xs ys : List Name) → slice_get (xs ++ ys) 0 ≡ first_name (slice_get xs 0) (slice_get ys 0)
first_either [] ys = refl
first_either (x ∷ xs) ys = refl

-- at this place of a list some are found, or none
pub found_first : (f : Name → List Name) (xs : List Name) (i : ℕ) (x : Name) (o : Option Name) → i < length xs → x ≡ get_or xs i x → o ≡ slice_get (f x) 0
    → slice_get (flat_map f (drop i xs)) 0 ≡ first_name o (slice_get (flat_map f (drop (i + 1) xs)) 0)
found_first f xs i x o h is e =
    ap (λ (ys : List Name). slice_get (flat_map f ys) 0) (rest_of xs i x h is)
    ∙ (first_either (f x) (flat_map f (drop (i + 1) xs)) ∙ ap (λ (p : Option Name). first_name p (slice_get (flat_map f (drop (i + 1) xs)) 0)) (sym e))

filter_same : (f g : Name → Bool) → ((x : Name) → f x ≡ g x) → (xs : List Name) → filter f xs ≡ filter g xs
filter_same f g same [] = refl
filter_same f g same (x ∷ xs) = rw (same x, filter_same f g same xs) refl

flat_same : (f g : Name → List Name) → ((x : Name) → f x ≡ g x) → (xs : List Name) → flat_map f xs ≡ flat_map g xs
flat_same f g same [] = refl
flat_same f g same (x ∷ xs) = rw (same x, flat_same f g same xs) refl

partners_kept : (e : Ends) (ms : List MadeNote) (lost : List Name) → EndsStand e ms lost → (x : Name) → kept_partners e x ≡ filter (faces ms lost x) (facing_in ms x)
partners_kept e ms lost s x = ap (λ (xs : List Name). filter (kept_faces e x) xs) (s.facing x) ∙ filter_same (kept_faces e x) (faces ms lost x) (faces_kept e ms lost s x) (facing_in ms x)

pub holders_kept : (e : Ends) (ms : List MadeNote) (lost : List Name) → EndsStand e ms lost → (node : ℕ) (pair : Pair) (given : List Name) → given ≡ given_in ms node pair
    → flat_map (kept_partners e) given ≡ holders ms lost node pair
holders_kept e ms lost s node pair given same =
    ap (λ (xs : List Name). flat_map (kept_partners e) xs) same
    ∙ flat_same (kept_partners e) (λ (x : Name). filter (faces ms lost x) (facing_in ms x)) (partners_kept e ms lost s) (given_in ms node pair)

-- ---- a pair is faced exactly where it has a holder
any_by : (b r : Bool) (x : Name) (ys : List Name) → r ≡ is_some (slice_get ys 0) → b || r ≡ is_some (slice_get (cond b (x ∷ ys) ys) 0)
any_by true r x ys e = refl
any_by false r x ys e = e

any_first : (f : Name → Bool) (xs : List Name) → list_any f xs ≡ is_some (slice_get (filter f xs) 0)
any_first f [] = refl
any_first f (x ∷ xs) = any_by (f x) (list_any f xs) x (filter f xs) (any_first f xs)

some_either : (o p : Option Name) → is_some (first_name o p) ≡ is_some o || is_some p
some_either None p = refl
some_either (Some x) p = refl

faced_first : (ms : List MadeNote) (lost : List Name) (xs : List Name)
    → list_any (has_open_partner ms lost) xs ≡ is_some (slice_get (flat_map (λ (x : Name). filter (faces ms lost x) (facing_in ms x)) xs) 0)
faced_first ms lost [] = refl
faced_first ms lost (x ∷ xs) =
    let here : List Name = filter (faces ms lost x) (facing_in ms x) in
    let later : List Name = flat_map (λ (y : Name). filter (faces ms lost y) (facing_in ms y)) xs in
    rw (any_first (faces ms lost x) (facing_in ms x), faced_first ms lost xs)
    (sym (ap is_some (first_either here later) ∙ some_either (slice_get here 0) (slice_get later 0)))

faced_held : (ms : List MadeNote) (lost : List Name) (node : ℕ) (pair : Pair) → is_faced ms lost node pair ≡ is_some (slice_get (holders ms lost node pair) 0)
faced_held ms lost node pair = faced_first ms lost (given_in ms node pair)

-- ---- an end was made
unheld : (o : Option Name) → held_cause o ≡ None → is_some o ≡ false
unheld None e = refl
unheld (Some x) e = absurd (cc e)

none_held : (o : Option Name) → is_some o ≡ false → held_cause o ≡ None
none_held None e = refl
none_held (Some x) e = absurd (cc e)

fresh_by : (c : Bool) (b : Book) (lost : List Name) (node : ℕ) (pair : Pair) (request : Option (List ℕ)) → is_some request && is_unknown (requester b request) ≡ c
    → (if c then Some Unasked else held_cause (slice_get (holders b.made lost node pair) 0)) ≡ None → HasRequester b request × NoOther b lost node pair
fresh_by true b lost node pair request e f = absurd (cc f)
fresh_by false b lost node pair request e f = (
  having b request (requester b request) refl e,
  unfaced b lost node pair (faced_held b.made lost node pair ∙ unheld (slice_get (holders b.made lost node pair) 0) f),
)

unfaced_by : (faced : Bool) (b : Book) (lost : List Name) (node : ℕ) (pair : Pair) → is_faced b.made lost node pair ≡ faced → NoOther b lost node pair → faced ≡ false
unfaced_by true b lost node pair e f = absurd (faced_fails b lost node pair e f)
unfaced_by false b lost node pair e f = refl

made_by : (c : Bool) (b : Book) (lost : List Name) (node : ℕ) (pair : Pair) (request : Option (List ℕ)) → is_some request && is_unknown (requester b request) ≡ c
    → HasRequester b request → NoOther b lost node pair → (if c then Some Unasked else held_cause (slice_get (holders b.made lost node pair) 0)) ≡ None
made_by true b lost node pair request e f g = absurd (lacking b request (requester b request) refl e f)
made_by false b lost node pair request e f g =
    none_held (slice_get (holders b.made lost node pair) 0) (sym (faced_held b.made lost node pair) ∙ unfaced_by (is_faced b.made lost node pair) b lost node pair refl g)

-- ---- an end has heeded a datagram
few_by : (c : Bool) (allowed count : ℕ) (cause : Cause) → nat_le allowed count ≡ c → (if c then Some cause else None) ≡ None → count < allowed
few_by true allowed count cause e f = absurd (cc f)
few_by false allowed count cause e f = grind (arith, nat_tests, e)

timely_by : (o : Option SentNote) (a : Allowance) (b : Book) (x y : Name) (d : List ℕ) → partner b x ≡ Some y → latest_in b.sent y d ≡ o
    → overtaken_cause a b x y o ≡ None → TimelyTo (allowance_of a) b x d
timely_by None a b x y d e f g = absurd (cc g)
timely_by (Some s) a b x y d e f g = (
  y,
  s,
  e,
  f,
  few_by (nat_le (allowance_of a b x) (overtakers y x s.place b.sent b.heard)) (allowance_of a b x) (overtakers y x s.place b.sent b.heard)
      (Overtaken s.place (overtakers y x s.place b.sent b.heard) (allowance_of a b x)) refl g,
)

timely_from : (o : Option Name) (a : Allowance) (b : Book) (x : Name) (d : List ℕ) → partner b x ≡ o → heeded_cause a b x d o ≡ None → TimelyTo (allowance_of a) b x d
timely_from None a b x d e f = absurd (cc f)
timely_from (Some y) a b x d e f = timely_by (latest_in b.sent y d) a b x y d e refl f

none_by : (c : Bool) (allowed count : ℕ) (cause : Cause) → nat_le allowed count ≡ c → count < allowed → (if c then Some cause else None) ≡ None
none_by true allowed count cause e f = absurd (grind (arith, nat_tests, e, f))
none_by false allowed count cause e f = refl

heeded_none : (a : Allowance) (b : Book) (x : Name) (d : List ℕ) → TimelyTo (allowance_of a) b x d → heeded_cause a b x d (partner b x) ≡ None
heeded_none a b x d (y, s, of, by, few) =
    ap (heeded_cause a b x d) of
    ∙ (ap (overtaken_cause a b x y) by
    ∙ none_by (nat_le (allowance_of a b x) (overtakers y x s.place b.sent b.heard)) (allowance_of a b x) (overtakers y x s.place b.sent b.heard)
    (Overtaken s.place (overtakers y x s.place b.sent b.heard) (allowance_of a b x)) refl few)

-- as the code finds it
pub unsent : (a : Allowance) (b : Book) (x y : Name) (o : Option SentNote) → None ≡ sending_in o → Some Unsent ≡ overtaken_cause a b x y o
unsent a b x y None e = refl
unsent a b x y (Some s) e = absurd (cc e)

chosen : {A : Type 0} (c : Bool) (x y z : A) → c ≡ true → z ≡ x → z ≡ cond c x y
chosen true x y z e f = f
chosen false x y z e f = absurd (cc e)

other : {A : Type 0} (c : Bool) (x y z : A) → c ≡ false → z ≡ y → z ≡ cond c x y
other true x y z e f = absurd (cc e)
other false x y z e f = f

many : (allowed count p q : ℕ) → p ≡ allowed → q ≡ count → p ≤ q → nat_le allowed count ≡ true
many allowed count p q e f h = grind (arith, nat_tests, e, f, h)

few : (allowed count p q : ℕ) → p ≡ allowed → q ≡ count → q < p → nat_le allowed count ≡ false
few allowed count p q e f h = grind (arith, nat_tests, e, f, h)

pub overtaken : (a : Allowance) (b : Book) (x y : Name) (o : Option SentNote) (v : Sending) (count allowed : ℕ) → Some v ≡ sending_in o
    → count ≡ overtakers y x v.place b.sent b.heard → allowed ≡ allowance_of a b x → allowed ≤ count → Some (Overtaken v.place count allowed) ≡ overtaken_cause a b x y o
overtaken a b x y None v count allowed e f g h = absurd (cc e)
overtaken a b x y (Some s) v count allowed e f g h =
    let place : v.place ≡ s.place = ap (λ (w : Sending). w.place) (same_Some v (sending_of s) e) in
    let counted : count ≡ overtakers y x s.place b.sent b.heard = f ∙ ap (λ (p : ℕ). overtakers y x p b.sent b.heard) place in
    chosen (nat_le (allowance_of a b x) (overtakers y x s.place b.sent b.heard)) (Some (Overtaken s.place (overtakers y x s.place b.sent b.heard) (allowance_of a b x))) None
    (Some (Overtaken v.place count allowed)) (many (allowance_of a b x) (overtakers y x s.place b.sent b.heard) allowed count g counted h) (cc (place, counted, g))

pub in_time : (a : Allowance) (b : Book) (x y : Name) (o : Option SentNote) (v : Sending) (count allowed : ℕ) → Some v ≡ sending_in o
    → count ≡ overtakers y x v.place b.sent b.heard → allowed ≡ allowance_of a b x → count < allowed → None ≡ overtaken_cause a b x y o
in_time a b x y None v count allowed e f g h = absurd (cc e)
in_time a b x y (Some s) v count allowed e f g h =
    let place : v.place ≡ s.place = ap (λ (w : Sending). w.place) (same_Some v (sending_of s) e) in
    let counted : count ≡ overtakers y x s.place b.sent b.heard = f ∙ ap (λ (p : ℕ). overtakers y x p b.sent b.heard) place in
    other (nat_le (allowance_of a b x) (overtakers y x s.place b.sent b.heard)) (Some (Overtaken s.place (overtakers y x s.place b.sent b.heard) (allowance_of a b x))) None
    None (few (allowance_of a b x) (overtakers y x s.place b.sent b.heard) allowed count g counted h) refl

-- ---- any event
none_told : (a : Allowance) (b : Book) (lost : List Name) (node : ℕ) (t : CircuitTold) → cause_told a b lost node t ≡ None → TimelyTold (allowance_of a) b node t × FreshTold b lost node t
none_told a b lost node (Made id pair at request) e = (tt, fresh_by (is_some request && is_unknown (requester b request)) b lost node pair request refl e)
none_told a b lost node (Sent id number d) e = (tt, tt)
none_told a b lost node (Heeded id d) e = let x : Name = record { node = node; id = id } in (timely_from (partner b x) a b x d refl e, tt)
none_told a b lost node (Notice id n) e = (tt, tt)
none_told a b lost node (Gone id facts) e = (tt, tt)
none_told a b lost node (Restarted pair) e = (tt, tt)
none_told a b lost node (Lost id facts) e = (tt, tt)

told_none : (a : Allowance) (b : Book) (lost : List Name) (node : ℕ) (t : CircuitTold) → TimelyTold (allowance_of a) b node t → FreshTold b lost node t → cause_told a b lost node t ≡ None
told_none a b lost node (Made id pair at request) e f = made_by (is_some request && is_unknown (requester b request)) b lost node pair request refl f.0 f.1
told_none a b lost node (Sent id number d) e f = refl
told_none a b lost node (Heeded id d) e f = heeded_none a b (record { node = node; id = id }) d e
told_none a b lost node (Notice id n) e f = refl
told_none a b lost node (Gone id facts) e f = refl
told_none a b lost node (Restarted pair) e f = refl
told_none a b lost node (Lost id facts) e f = refl

pub none_after : (a : Allowance) (es : List Event) (e : Event) → InTimeByBook a es → cause_after a es e ≡ None ↔ InTimeByBook a (es ++ e ∷ [])
none_after a es e before = (
  λ none.
      let here = none_told a (with_events empty es) (lost_in [] es) e.node e.told none in
      (timely_more (allowance_of a) empty es e before.0 here.0, fresh_more empty [] es e before.1 here.1),
  λ all. told_none a (with_events empty es) (lost_in [] es) e.node e.told (timely_at (allowance_of a) empty es [] e all.0) (fresh_at empty [] es [] e all.1),
)
