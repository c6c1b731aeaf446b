-- Where the first fault of a control field stands.
use Rattle.std.proofs.Common.{◌≡◌, ◌≤◌, ◌<◌, ◌+◌, ◌-◌, ◌*◌, ◌/◌, ◌%◌, ◌++◌, ◌∙◌, ℕ, zero, suc, refl, sym, ap, List, [], ◌∷◌, length, take, arith, Bool, true, false, cond}
use Rattle.std.specs.Prelude.{◌==◌, ◌||◌, Option, Some, None, is_some, Result, Ok, Err, slice_get, nat_le}
use Rattle.std.proofs.lemmas.List.{append_assoc, length-append, length-take}
use Rattle.std.proofs.lemmas.Option.{slice_get_past, slice_get_within}
use Rattle.std.proofs.lemmas.Bool.Decides.{nat_tests}
use Rattle.ax_address.proofs.CallOctets.{none_past}
use Rattle.ax_frame.specs.declared.control.Control.{Control}
use Rattle.ax_frame.specs.declared.control.Control.TheVariants.{I, Rr, Rnr, Rej, Srej, Sabm}
use Rattle.ax_frame.specs.declared.frame.FrameRefusal.{FrameRefusal}
use Rattle.ax_frame.specs.declared.frame.FrameRefusal.TheVariants.{Short, BadControl, NoPid, ExtraInfo}
use Rattle.ax_frame.specs.Controls.{has_pid, takes_info}
use Rattle.ax_frame.specs.Reading.{unnumbered, numbered, poll_bit, field_end, two_octets, control_from, control_or_short, control_at, pid_at}
use Rattle.ax_frame.specs.Faults.{refused_place, IsPlaced}
use Rattle.ax_frame.proofs.Kept.{Kept, kept_of, kept_get}

-- ---- octets at a place

pub get_behind : (os more : List ℕ) (o n : ℕ) → length os ≡ n → slice_get (os ++ o ∷ more) n ≡ Some o
get_behind [] more o zero h = refl
get_behind [] more o (suc n) h = absurd (omega (arith, h))
get_behind (x ∷ os) more o zero h = absurd (omega (arith, h))
get_behind (x ∷ os) more o (suc n) h = get_behind os more o n (omega (arith, h))

control_is : (size at : ℕ) (os : List ℕ) (first next : Option ℕ) → slice_get os at ≡ first → slice_get os (at + 1) ≡ next → control_at size at os ≡ control_or_short size at first next
unfolding control_at
control_is size at os first next h k = rw (h, k) refl

-- ---- the PID

abbrev pid_result : ℕ → Bool → Result (Option ℕ × ℕ) FrameRefusal
pid_result at b = cond b (Ok (None, at)) (Err (ExtraInfo at))

either : (at : ℕ) (b : Bool) → pid_result at (b || true) ≡ Ok (None, at)
either at true = refl
either at false = refl

pub pid_plain : (c : Control) (at : ℕ) (os : List ℕ) → has_pid c ≡ false → length os ≤ at → pid_at c at os ≡ Ok (None, at)
unfolding pid_at
pid_plain c at os none past = let k : nat_le (length os) at ≡ true = grind (arith, nat_tests) in rw (none, k) (either at (takes_info c))

pub pid_there : (c : Control) (at p : ℕ) (os : List ℕ) → has_pid c ≡ true → slice_get os at ≡ Some p → pid_at c at os ≡ Ok (Some p, at + 1)
unfolding pid_at
pid_there c at p os has there = rw (has, there) refl

pub pid_extra : (c : Control) (at : ℕ) (os : List ℕ) → has_pid c ≡ false → takes_info c ≡ false → at < length os → pid_at c at os ≡ Err (ExtraInfo at)
unfolding pid_at
pid_extra c at os none without there = let k : nat_le (length os) at ≡ false = grind (arith, nat_tests) in rw (none, without, k) refl

pub pid_info : (c : Control) (at : ℕ) (os : List ℕ) → has_pid c ≡ false → takes_info c ≡ true → pid_at c at os ≡ Ok (None, at)
unfolding pid_at
pid_info c at os none info = rw (none, info) refl

pub pid_missing : (c : Control) (at : ℕ) (os : List ℕ) → has_pid c ≡ true → slice_get os at ≡ None → pid_at c at os ≡ Err (NoPid at)
unfolding pid_at
pid_missing c at os has none = rw (has, none) refl

-- what goes behind a control field
pub record PidGoes (c : Control) (at : ℕ) (os : List ℕ) : Type 0 where
  pub more : List ℕ
  pub pid : Option ℕ
  pub end : ℕ
  pub read : pid_at c at (os ++ more) ≡ Ok (pid, end)

pub pid_goes : (c : Control) (at : ℕ) (os : List ℕ) (t : Bool) → has_pid c ≡ t → length os ≡ at → PidGoes c at os
pid_goes c at os true t len = record { more = 240 ∷ []; pid = Some 240; end = at + 1; read = pid_there c at 240 (os ++ 240 ∷ []) t (get_behind os [] 240 at len) }
pid_goes c at os false t len = record { more = []; pid = None; end = at; read = pid_plain c at (os ++ []) t (omega (arith, length-append os [], len)) }

-- ---- which numbered fields there are says their first octet

known : ℕ → Bool
known code = cond (code % 2 == 0) true (cond (code == 1) true (cond (code == 5) true (cond (code == 9) true (code == 13))))

some_by : (a b c d e : Bool) (v w x y z : Control) → is_some (cond a (Some v) (cond b (Some w) (cond c (Some x) (cond d (Some y) (cond e (Some z) None))))) ≡ cond a true (cond b true (cond c true (cond d true e)))
some_by true b c d e v w x y z = refl
some_by false true c d e v w x y z = refl
some_by false false true d e v w x y z = refl
some_by false false false true e v w x y z = refl
some_by false false false false true v w x y z = refl
some_by false false false false false v w x y z = refl

known_is : (code ns nr : ℕ) (pf : Bool) → is_some (numbered code ns nr pf) ≡ known code
unfolding known
known_is code ns nr pf = some_by (code % 2 == 0) (code == 1) (code == 5) (code == 9) (code == 13) (I ns nr pf) (Rr nr pf) (Rnr nr pf) (Rej nr pf) (Srej nr pf)

some_of : (o : Option Control) → is_some o ≡ true → (c : Control) × (o ≡ Some c)
some_of None h = absurd cc
some_of (Some c) h = (c, refl)

none_of : (o : Option Control) → is_some o ≡ false → o ≡ None
none_of None h = refl
none_of (Some c) h = absurd cc

-- ---- a control field that is read, or has a fault

pub record FieldRead (size at : ℕ) (bytes : List ℕ) (c : Control) (end : ℕ) : Type 0 where
  pub later : at ≤ end
  pub within : end ≤ length bytes
  pub kept : (other : List ℕ) → Kept end bytes other → control_at size at other ≡ Ok (c, end)

-- what goes behind the addresses
pub record FieldGoes (size at : ℕ) (front : List ℕ) : Type 0 where
  pub more : List ℕ
  pub control : Control
  pub end : ℕ
  pub pid : Option ℕ
  pub info : ℕ
  pub read : control_at size at (front ++ more) ≡ Ok (control, end)
  pub told : pid_at control end (front ++ more) ≡ Ok (pid, info)

pub record FieldBad (size at : ℕ) (bytes : List ℕ) (e : FrameRefusal) : Type 0 where
  pub later : at ≤ refused_place e
  pub place : IsPlaced bytes e
  pub within : refused_place e ≤ length bytes
  pub stays : refused_place e < length bytes → (other : List ℕ) → Kept (refused_place e + 1) bytes other → control_at size at other ≡ Err e
  pub goes_on : FieldGoes size at (take (refused_place e) bytes)

abbrev pub Field : ℕ → ℕ → List ℕ → Result (Control × ℕ) FrameRefusal → Type 0
Field size at bytes (Ok x) = FieldRead size at bytes x.0 x.1
Field size at bytes (Err e) = FieldBad size at bytes e

-- SABM goes behind all addresses
pub sabm_goes : (size at : ℕ) (front : List ℕ) → length front ≡ at → FieldGoes size at front
sabm_goes size at front len =
    let long : length (front ++ 47 ∷ []) ≡ at + 1 = omega (arith, length-append front (47 ∷ []), len) in
    record {
      more = 47 ∷ [];
      control = Sabm false;
      end = at + 1;
      pid = None;
      info = at + 1;
      read = control_is size at (front ++ 47 ∷ []) (Some 47) None (get_behind front [] 47 at len) (slice_get_past (front ++ 47 ∷ []) (at + 1) (omega (arith, long)));
      told = pid_plain (Sabm false) (at + 1) (front ++ 47 ∷ []) refl (omega (arith, long));
    }

front_len : (at : ℕ) (bytes : List ℕ) → at ≤ length bytes → length (take at bytes) ≡ at
front_len at bytes h = omega (arith, length-take at bytes, h)

-- an octet that begins no control field
bad_octet : (size at b : ℕ) (bytes : List ℕ) → slice_get bytes at ≡ Some b → ((next : Option ℕ) → control_from size at b next ≡ Err (BadControl at)) → FieldBad size at bytes (BadControl at)
bad_octet size at b bytes first none =
    let there = slice_get_within bytes at b first in
    record {
      later = omega arith;
      place = there;
      within = omega (arith, there);
      stays = λ _ other kept. control_is size at other (Some b) (slice_get other (at + 1)) (kept_get at (at + 1) bytes other (omega arith) kept ∙ first) refl ∙ none (slice_get other (at + 1));
      goes_on = sabm_goes size at (take at bytes) (front_len at bytes (omega (arith, there)));
    }

one_octet : (size at b : ℕ) (bytes : List ℕ) (o : Option Control) → slice_get bytes at ≡ Some b → ((next : Option ℕ) → control_from size at b next ≡ field_end at (at + 1) o) → Field size at bytes (field_end at (at + 1) o)
one_octet size at b bytes None first is = bad_octet size at b bytes first is
one_octet size at b bytes (Some c) first is =
    let there = slice_get_within bytes at b first in
    record {
      later = omega arith;
      within = omega (arith, there);
      kept = λ other kept. control_is size at other (Some b) (slice_get other (at + 1)) (kept_get at (at + 1) bytes other (omega arith) kept ∙ first) refl ∙ is (slice_get other (at + 1));
    }

-- of two octets
two_bad : (at b : ℕ) (next : Option ℕ) → known b ≡ false → two_octets at b next ≡ Err (BadControl at)
two_bad at b None h = let k : is_some (numbered b 0 0 false) ≡ false = known_is b 0 0 false ∙ h in rw k refl
two_bad at b (Some n) h = let k : numbered b (b / 2) (n / 2) (n % 2 == 1) ≡ None = none_of (numbered b (b / 2) (n / 2) (n % 2 == 1)) (known_is b (b / 2) (n / 2) (n % 2 == 1) ∙ h) in rw k refl

two_missing : (size at b : ℕ) (bytes : List ℕ) → slice_get bytes at ≡ Some b → slice_get bytes (at + 1) ≡ None → ((next : Option ℕ) → control_from size at b next ≡ two_octets at b next) → known b ≡ true → FieldBad size at bytes (Short (at + 1))
two_missing size at b bytes first next is h =
    let there = slice_get_within bytes at b first in
    let all : at + 1 ≡ length bytes = omega (arith, there, none_past bytes (at + 1) next) in
    let k = some_of (numbered b (b / 2) 0 false) (known_is b (b / 2) 0 false ∙ h) in
    let front = take (at + 1) bytes ++ 0 ∷ [] in
    let len : length front ≡ at + 2 = omega (arith, length-append (take (at + 1) bytes) (0 ∷ []), length-take (at + 1) bytes, all) in
    let pid = pid_goes k.0 (at + 2) front (has_pid k.0) refl len in
    let whole : take (at + 1) bytes ++ 0 ∷ pid.more ≡ front ++ pid.more = sym (append_assoc (take (at + 1) bytes) (0 ∷ []) pid.more) in
    let os = take (at + 1) bytes ++ 0 ∷ pid.more in
    let kept = kept_of (at + 1) bytes (0 ∷ pid.more) (omega (arith, all)) in
    let read : control_at size at os ≡ two_octets at b (Some 0) = control_is size at os (Some b) (Some 0) (kept_get at (at + 1) bytes os (omega arith) kept ∙ first) (get_behind (take (at + 1) bytes) pid.more 0 (at + 1) (front_len (at + 1) bytes (omega (arith, all)))) ∙ is (Some 0) in
    let told : two_octets at b (Some 0) ≡ Ok (k.0, at + 2) = ap (field_end at (at + 2)) k.1 in
    record {
      later = omega arith;
      place = all;
      within = omega (arith, all);
      stays = λ l. absurd (omega (arith, l, all));
      goes_on = record {
        more = 0 ∷ pid.more;
        control = k.0;
        end = at + 2;
        pid = pid.pid;
        info = pid.end;
        read = read ∙ told;
        told = ap (pid_at k.0 (at + 2)) whole ∙ pid.read;
      };
    }

two_read : (size at b n : ℕ) (bytes : List ℕ) (o : Option Control) → slice_get bytes at ≡ Some b → slice_get bytes (at + 1) ≡ Some n → ((next : Option ℕ) → control_from size at b next ≡ two_octets at b next) → numbered b (b / 2) (n / 2) (n % 2 == 1) ≡ o → Field size at bytes (field_end at (at + 2) o)
two_read size at b n bytes None first next is none =
    let other : known b ≡ false = sym (known_is b (b / 2) (n / 2) (n % 2 == 1)) ∙ ap is_some none in
    bad_octet size at b bytes first (λ k. is k ∙ two_bad at b k other)
two_read size at b n bytes (Some c) first next is some =
    let there = slice_get_within bytes (at + 1) n next in
    record {
      later = omega arith;
      within = omega (arith, there);
      kept = λ other kept. control_is size at other (Some b) (Some n) (kept_get at (at + 2) bytes other (omega arith) kept ∙ first) (kept_get (at + 1) (at + 2) bytes other (omega arith) kept ∙ next) ∙ (is (Some n) ∙ ap (field_end at (at + 2)) some);
    }

two_next : (size at b : ℕ) (bytes : List ℕ) (t : Bool) → known b ≡ t → slice_get bytes at ≡ Some b → slice_get bytes (at + 1) ≡ None → ((next : Option ℕ) → control_from size at b next ≡ two_octets at b next) → Field size at bytes (cond t (Err (Short (at + 1))) (Err (BadControl at)))
two_next size at b bytes true k first next is = two_missing size at b bytes first next is k
two_next size at b bytes false k first next is = bad_octet size at b bytes first (λ n. is n ∙ two_bad at b n k)

two : (size at b : ℕ) (bytes : List ℕ) (next : Option ℕ) → slice_get bytes at ≡ Some b → slice_get bytes (at + 1) ≡ next → ((k : Option ℕ) → control_from size at b k ≡ two_octets at b k) → Field size at bytes (two_octets at b next)
two size at b bytes None first next is = rw (known_is b 0 0 false) (two_next size at b bytes (known b) refl first next is)
two size at b bytes (Some n) first next is = two_read size at b n bytes (numbered b (b / 2) (n / 2) (n % 2 == 1)) first next is refl

abbrev by_size : ℕ → ℕ → ℕ → Option ℕ → Bool → Result (Control × ℕ) FrameRefusal
by_size size at b next u = cond u (field_end at (at + 1) (numbered (b % 16) (b / 2 % 8) (b / 32) (poll_bit b))) (two_octets at b next)

numbered_field : (size at b : ℕ) (bytes : List ℕ) (u : Bool) → slice_get bytes at ≡ Some b → ((next : Option ℕ) → control_from size at b next ≡ by_size size at b next u) → Field size at bytes (by_size size at b (slice_get bytes (at + 1)) u)
numbered_field size at b bytes true first is = one_octet size at b bytes (numbered (b % 16) (b / 2 % 8) (b / 32) (poll_bit b)) first is
numbered_field size at b bytes false first is = two size at b bytes (slice_get bytes (at + 1)) first refl is

abbrev by_bits : ℕ → ℕ → ℕ → Option ℕ → Bool → Result (Control × ℕ) FrameRefusal
by_bits size at b next t = cond t (field_end at (at + 1) (unnumbered (b - 16 * (b / 16 % 2)) (poll_bit b))) (by_size size at b next (size == 8))

begun_field : (size at b : ℕ) (bytes : List ℕ) (t : Bool) → slice_get bytes at ≡ Some b → ((next : Option ℕ) → control_from size at b next ≡ by_bits size at b next t) → Field size at bytes (by_bits size at b (slice_get bytes (at + 1)) t)
begun_field size at b bytes true first is = one_octet size at b bytes (unnumbered (b - 16 * (b / 16 % 2)) (poll_bit b)) first is
begun_field size at b bytes false first is = numbered_field size at b bytes (size == 8) first is

no_field : (size at : ℕ) (bytes : List ℕ) → at ≤ length bytes → slice_get bytes at ≡ None → FieldBad size at bytes (Short at)
no_field size at bytes within none =
    let all : at ≡ length bytes = omega (arith, within, none_past bytes at none) in
    record {
      later = omega arith;
      place = all;
      within = within;
      stays = λ l. absurd (omega (arith, l, all));
      goes_on = sabm_goes size at (take at bytes) (front_len at bytes within);
    }

field_by : (size at : ℕ) (bytes : List ℕ) (first : Option ℕ) → at ≤ length bytes → slice_get bytes at ≡ first → Field size at bytes (control_or_short size at first (slice_get bytes (at + 1)))
field_by size at bytes None within h = no_field size at bytes within h
field_by size at bytes (Some b) within h = begun_field size at b bytes (b % 4 == 3) h (λ next. refl)

pub field_of : (size at : ℕ) (bytes : List ℕ) → at ≤ length bytes → Field size at bytes (control_at size at bytes)
unfolding control_at
field_of size at bytes within = field_by size at bytes (slice_get bytes at) within refl
