-- What is spelled has no fault, and is spelled once.
use Rattle.std.proofs.Common.{◌≡◌, ◌≤◌, ◌<◌, ◌+◌, ◌-◌, ◌*◌, ◌++◌, ◌∙◌, ℕ, refl, sym, ap, subst, List, [], ◌∷◌, length, map, take, drop, arith, Bool, true, false}
use Rattle.std.specs.Prelude.{◌||◌, Option, Some, None, Result, Ok, Err, IfOk, IsOkAnd, MatchResult, is_some, slice_get, nat_le}
use Rattle.std.specs.List.{AllByRecursion}
use Rattle.std.specs.Result.{result_err}
use Rattle.std.proofs.lemmas.List.{append_assoc, take_at, drop_at, drop-drop, length-append, length-map, length-drop, length-take, take-append-drop}
use Rattle.std.proofs.lemmas.Bool.Decides.{nat_tests}
use Rattle.ax_address.specs.declared.address.Address.{Address}
use Rattle.ax_address.specs.Octets as octets
use Rattle.ax_address.specs.Octets.{SpellsAddress, address_octets}
use Rattle.ax_frame.specs.declared.control.Control.{Control}
use Rattle.ax_frame.specs.declared.head.Head.{Head}
use Rattle.ax_frame.specs.declared.frame.FrameRefusal.{FrameRefusal}
use Rattle.ax_frame.specs.declared.frame.Behind.{Behind}
use Rattle.ax_frame.specs.Controls.{IsLinkModulus, NumbersFit, control_octets, has_pid, takes_info}
use Rattle.ax_frame.specs.Reading.{extension_at, addresses_end, head_end, control_or_short, control_at, pid_at, frame_at, first_fault}
use Rattle.ax_frame.specs.Frames.{Frame, frame, with_head, IsAddress, addresses, addresses_octets, pid_octets, BeginsWith, Spells, SpellsHead, HeadWithoutFault, HeadSpelledOnce, SpelledWithoutFault, SpelledOnce}
use Rattle.ax_frame.proofs.Words.{get_at_drop}
use Rattle.ax_frame.proofs.Addresses.{six_letters, judged_ok, head_goes_on, end_here, end_later}
use Rattle.ax_frame.proofs.FieldsAgain.{control_again}
use Rattle.ax_frame.proofs.FrameLaws.{ok_is}

-- ---- the addresses

pub seven : (a : Address) (last : Bool) → IsAddress a → length (address_octets a last) ≡ 7
seven a last h = omega (arith, length-append (map (λ b. 2 * b) a.call.letters) (octets.ssid_octet a last ∷ []), length-map a.call.letters (λ b. 2 * b), six_letters a.call.letters a.call.ssid h)

pub front_of : (a : Address) (last : Bool) (rest : List ℕ) → IsAddress a → take 7 (address_octets a last ++ rest) ≡ address_octets a last
front_of a last rest h = take_at (address_octets a last) rest 7 (seven a last h)

pub spells : (a : Address) (last : Bool) → IsAddress a → SpellsAddress a last (address_octets a last)
spells a last h = record { is_call = h; spelled = refl }

extension_again : octets.SpelledWithoutFault → (at : ℕ) (bytes rest : List ℕ) (a : Address) (last : Bool) → at ≤ length bytes → drop at bytes ≡ address_octets a last ++ rest → IsAddress a → extension_at at bytes ≡ Ok last
extension_again without at bytes rest a last within e h =
    let long : 7 ≤ length (drop at bytes) = rw e (omega (arith, length-append (address_octets a last) rest, seven a last h)) in
    let front : address_octets a last ≡ take 7 (drop at bytes) = sym (ap (take 7) e ∙ front_of a last rest h) in
    judged_ok at bytes (drop at bytes) (address_octets a last) a last within refl long front (spells a last h) (sym (without a last (address_octets a last) (spells a last h)))

later : (at : ℕ) (bytes rest : List ℕ) (a : Address) (last : Bool) → drop at bytes ≡ address_octets a last ++ rest → IsAddress a → drop (at + 7) bytes ≡ rest
later at bytes rest a last e h = sym (drop-drop 7 at bytes) ∙ (ap (drop 7) e ∙ drop_at (address_octets a last) rest 7 (seven a last h))

within_later : (at : ℕ) (bytes rest : List ℕ) (a : Address) (last : Bool) → drop at bytes ≡ address_octets a last ++ rest → IsAddress a → at ≤ length bytes → at + 7 ≤ length bytes
within_later at bytes rest a last e h within =
    let long : length (drop at bytes) ≡ 7 + length rest = ap length e ∙ omega (arith, length-append (address_octets a last) rest, seven a last h) in
    omega (arith, long, length-drop at bytes)

addresses_again : octets.SpelledWithoutFault → (left at : ℕ) (bytes rest : List ℕ) (many : List Address) → 0 < length many → length many ≤ left → AllByRecursion IsAddress many → at ≤ length bytes → drop at bytes ≡ addresses_octets many ++ rest → addresses_end left at bytes ≡ Ok (at + 7 * length many)
addresses_again without left at bytes rest [] some few h within e = absurd (omega arith)
addresses_again without left at bytes rest (a ∷ []) some few h within e =
    end_here left at bytes (omega arith) (extension_again without at bytes rest a true within e h.0)
addresses_again without left at bytes rest (a ∷ b ∷ more) some few h within e =
    let apart : drop at bytes ≡ address_octets a false ++ (addresses_octets (b ∷ more) ++ rest) = e ∙ append_assoc (address_octets a false) (addresses_octets (b ∷ more)) rest in
    let here = extension_again without at bytes (addresses_octets (b ∷ more) ++ rest) a false within apart h.0 in
    let ih = addresses_again without (left - 1) (at + 7) bytes rest (b ∷ more) (omega arith) (omega arith) h.1
    (within_later at bytes (addresses_octets (b ∷ more) ++ rest) a false apart h.0 within) (later at bytes (addresses_octets (b ∷ more) ++ rest) a false apart h.0) in
    end_later left at bytes (omega arith) here ∙ (ih ∙ ap Ok (omega arith))

pub addresses_length : (many : List Address) → AllByRecursion IsAddress many → length (addresses_octets many) ≡ 7 * length many
addresses_length [] h = refl
addresses_length (a ∷ []) h = seven a true h.0
addresses_length (a ∷ b ∷ more) h = omega (arith, length-append (address_octets a false) (addresses_octets (b ∷ more)), seven a false h.0, addresses_length (b ∷ more) h.1)

pub head_again : octets.SpelledWithoutFault → (h : Head) (bytes rest : List ℕ) → AllByRecursion IsAddress (addresses h) → length h.path.items ≤ 8 → bytes ≡ addresses_octets (addresses h) ++ rest → head_end bytes ≡ Ok (7 * length (addresses h))
head_again without h bytes rest calls eight e =
    let others = h.source ∷ h.path.items in
    let apart : drop 0 bytes ≡ address_octets h.dest false ++ (addresses_octets others ++ rest) = e ∙ append_assoc (address_octets h.dest false) (addresses_octets others) rest in
    let here = extension_again without 0 bytes (addresses_octets others ++ rest) h.dest false (omega arith) apart calls.0 in
    let ih = addresses_again without 9 7 bytes rest others (omega arith) (omega arith) calls.1
    (within_later 0 bytes (addresses_octets others ++ rest) h.dest false apart calls.0 (omega arith)) (later 0 bytes (addresses_octets others ++ rest) h.dest false apart calls.0) in
    head_goes_on bytes here ∙ (ih ∙ ap Ok (omega arith))

-- ---- the control field and the PID

control_at_again : (size at : ℕ) (c : Control) (bytes more : List ℕ) → IsLinkModulus size → NumbersFit size c → drop at bytes ≡ control_octets size c ++ more → control_at size at bytes ≡ Ok (c, at + length (control_octets size c))
unfolding control_at
control_at_again size at c bytes more m fits e =
    let first : slice_get bytes at ≡ slice_get (control_octets size c ++ more) 0 = ap (slice_get bytes) (omega arith) ∙ (get_at_drop at 0 bytes ∙ ap (λ os. slice_get os 0) e) in
    let second : slice_get bytes (at + 1) ≡ slice_get (control_octets size c ++ more) 1 = get_at_drop at 1 bytes ∙ ap (λ os. slice_get os 1) e in
    ap (λ o. control_or_short size at o (slice_get bytes (at + 1))) first ∙ (ap (λ o. control_or_short size at (slice_get (control_octets size c ++ more) 0) o) second ∙ control_again size at c more m fits)

nothing_left : (at : ℕ) (bytes : List ℕ) → drop at bytes ≡ [] → nat_le (length bytes) at ≡ true
nothing_left at bytes e = let k : length bytes - at ≡ 0 = sym (length-drop at bytes) ∙ ap length e in grind (arith, nat_tests)

info_or_nothing : (at : ℕ) (c : Control) (bytes : List ℕ) (b : Bool) → takes_info c ≡ b → (takes_info c ≡ false → drop at bytes ≡ []) → (b || nat_le (length bytes) at) ≡ true
info_or_nothing at c bytes true e h = refl
info_or_nothing at c bytes false e h = nothing_left at bytes (h e)

pid_again : (at : ℕ) (c : Control) (pid : Option ℕ) (bytes info : List ℕ) → drop at bytes ≡ pid_octets pid ++ info → is_some pid ≡ has_pid c → (takes_info c ≡ false → info ≡ []) → pid_at c at bytes ≡ Ok (pid, at + length (pid_octets pid))
unfolding pid_at
pid_again at c (Some p) bytes info e there ends =
    let first : slice_get bytes at ≡ Some p = ap (slice_get bytes) (omega arith) ∙ (get_at_drop at 0 bytes ∙ ap (λ os. slice_get os 0) e) in
    rw (← there, first) refl
pid_again at c None bytes info e there ends =
    let fine = info_or_nothing at c bytes (takes_info c) refl (λ none. e ∙ ends none) in
    rw (← there, fine) (ap (λ k. Ok (None, k)) (omega arith))

-- ---- the whole

-- where the information begins
pub info_place : ℕ → Frame → ℕ
info_place size f = 7 * length (addresses f.head) + length (control_octets size f.control) + length (pid_octets f.pid)

pub apart : (size : ℕ) (f : Frame) (bytes : List ℕ) → Spells size f bytes → bytes ≡ addresses_octets (addresses f.head) ++ (control_octets size f.control ++ (pid_octets f.pid ++ f.info))
apart size f bytes h =
    let a = addresses_octets (addresses f.head) in
    h.spelled ∙ (append_assoc (a ++ control_octets size f.control) (pid_octets f.pid) f.info ∙ append_assoc a (control_octets size f.control) (pid_octets f.pid ++ f.info))

pub record FrameAgain (size : ℕ) (f : Frame) (bytes : List ℕ) : Type 0 where
  pub read : frame_at size bytes ≡ Ok (f.control, f.pid, info_place size f)
  pub info_is : drop (info_place size f) bytes ≡ f.info

pub frame_again : octets.SpelledWithoutFault → (size : ℕ) (f : Frame) (bytes : List ℕ) → IsLinkModulus size → Spells size f bytes → FrameAgain size f bytes
unfolding frame_at info_place
frame_again without size f bytes m h =
    let a = addresses_octets (addresses f.head) in
    let c = control_octets size f.control in
    let p = pid_octets f.pid in
    let n = 7 * length (addresses f.head) in
    let parts = apart size f bytes h in
    let head = head_again without f.head bytes (c ++ (p ++ f.info)) h.calls h.eight parts in
    let behind_head : drop n bytes ≡ c ++ (p ++ f.info) = ap (drop n) parts ∙ drop_at a (c ++ (p ++ f.info)) n (addresses_length (addresses f.head) h.calls) in
    let control = control_at_again size n f.control bytes (p ++ f.info) m h.parts.numbers behind_head in
    let behind_control : drop (n + length c) bytes ≡ p ++ f.info = sym (drop-drop (length c) n bytes) ∙ (ap (drop (length c)) behind_head ∙ drop_at c (p ++ f.info) (length c) refl) in
    let pid = pid_again (n + length c) f.control f.pid bytes f.info behind_control h.parts.pid_there h.parts.no_info in
    let behind_pid : drop (n + length c + length p) bytes ≡ f.info = sym (drop-drop (length p) (n + length c) bytes) ∙ (ap (drop (length p)) behind_control ∙ drop_at p f.info (length p) refl) in
    record { read = rw (head, control, pid) refl; info_is = behind_pid }

pub spelled_without_fault : octets.SpelledWithoutFault → SpelledWithoutFault
spelled_without_fault without size f bytes m h = let k = (frame_again without size f bytes m h).read in rw k refl

-- ---- once

same_front : octets.SpelledOnce → (a b : Address) (last end : Bool) (x y : List ℕ) → IsAddress a → IsAddress b → address_octets a last ++ x ≡ address_octets b end ++ y → (a ≡ b) × (last ≡ end) × (x ≡ y)
same_front one a b last end x y h k e =
    let front : address_octets a last ≡ address_octets b end = sym (front_of a last x h) ∙ (ap (take 7) e ∙ front_of b end y k) in
    let same = one a b last end (address_octets a last) (spells a last h) (record { is_call = k; spelled = front }) in
    let rest : x ≡ y = sym (drop_at (address_octets a last) x 7 (seven a last h)) ∙ (ap (drop 7) e ∙ drop_at (address_octets b end) y 7 (seven b end k)) in
    (same.0, same.1, rest)

addresses_once : octets.SpelledOnce → (xs ys : List Address) (x y : List ℕ) → 0 < length xs → 0 < length ys → AllByRecursion IsAddress xs → AllByRecursion IsAddress ys → addresses_octets xs ++ x ≡ addresses_octets ys ++ y → (xs ≡ ys) × (x ≡ y)
addresses_once one [] ys x y p q h k e = absurd (omega arith)
addresses_once one (a ∷ xs) [] x y p q h k e = absurd (omega arith)
addresses_once one (a ∷ []) (b ∷ []) x y p q h k e =
    let s = same_front one a b true true x y h.0 k.0 e in
    (ap (λ c. c ∷ []) s.0, s.2)
addresses_once one (a ∷ []) (b ∷ d ∷ more) x y p q h k e =
    let s = same_front one a b true false x (addresses_octets (d ∷ more) ++ y) h.0 k.0 (e ∙ append_assoc (address_octets b false) (addresses_octets (d ∷ more)) y) in
    absurd (let t = s.1 in cc)
addresses_once one (a ∷ c ∷ some) (b ∷ []) x y p q h k e =
    let s = same_front one a b false true (addresses_octets (c ∷ some) ++ x) y h.0 k.0 (sym (append_assoc (address_octets a false) (addresses_octets (c ∷ some)) x) ∙ e) in
    absurd (let t = s.1 in cc)
addresses_once one (a ∷ c ∷ some) (b ∷ d ∷ more) x y p q h k e =
    let s = same_front one a b false false (addresses_octets (c ∷ some) ++ x) (addresses_octets (d ∷ more) ++ y) h.0 k.0 (sym (append_assoc (address_octets a false) (addresses_octets (c ∷ some)) x) ∙ (e ∙ append_assoc (address_octets b false) (addresses_octets (d ∷ more)) y)) in
    let ih = addresses_once one (c ∷ some) (d ∷ more) x y (omega arith) (omega arith) h.1 k.1 s.2 in
    (ap (λ z. z ∷ (c ∷ some)) s.0 ∙ ap (λ zs. b ∷ zs) ih.0, ih.1)

pub same_head : (h g : Head) → addresses h ≡ addresses g → h ≡ g
same_head h g e =
    let tail : h.source ∷ h.path.items ≡ g.source ∷ g.path.items = ap (drop 1) e in
    let items : h.path.items ≡ g.path.items = ap (drop 2) e in
    let dest : h.dest ≡ g.dest = cc in
    let source : h.source ≡ g.source = cc in
    ap (λ a. record h { dest = a }) dest ∙ (ap (λ a. record g { source = a; path = h.path }) source ∙ ap (λ xs. record g { path = record { items = xs } }) items)

same_frame : (f g : Frame) → f.head ≡ g.head → f.control ≡ g.control → f.pid ≡ g.pid → f.info ≡ g.info → f ≡ g
same_frame f g h c p i =
    ap (λ x. frame x f.control f.pid f.info) h ∙ (ap (λ x. frame g.head x f.pid f.info) c ∙ (ap (λ x. frame g.head g.control x f.info) p ∙ ap (λ x. frame g.head g.control g.pid x) i))

pub spelled_once : octets.SpelledWithoutFault → octets.SpelledOnce → SpelledOnce
spelled_once without one size f g bytes m h k =
    let a = frame_again without size f bytes m h in
    let b = frame_again without size g bytes m k in
    let same = ok_is {A = Control × Option ℕ × ℕ} (f.control, f.pid, info_place size f) (g.control, g.pid, info_place size g) (sym a.read ∙ b.read) in
    let heads = addresses_once one (addresses f.head) (addresses g.head) (control_octets size f.control ++ (pid_octets f.pid ++ f.info)) (control_octets size g.control ++ (pid_octets g.pid ++ g.info)) (omega arith) (omega arith) h.calls k.calls (sym (apart size f bytes h) ∙ apart size g bytes k) in
    same_frame f g (same_head f.head g.head heads.0)
    (ap (λ (x : Control × Option ℕ × ℕ). x.0) same)
    (ap (λ (x : Control × Option ℕ × ℕ). x.1) same)
    (sym a.info_is ∙ (ap (λ (x : Control × Option ℕ × ℕ). drop x.2 bytes) same ∙ b.info_is))

-- ---- the head alone

pub head_without_fault : octets.SpelledWithoutFault → HeadWithoutFault
head_without_fault without h os rest spells =
    head_again without h (os ++ rest) rest spells.calls spells.eight (ap (λ x. x ++ rest) spells.spelled) ∙ ap Ok (sym (ap length spells.spelled ∙ addresses_length (addresses h) spells.calls))

-- a head that octets begin with ends where it is said to
ends_there : HeadWithoutFault → (bytes : List ℕ) (h : Head) (end : ℕ) → BeginsWith bytes h end → head_end bytes ≡ Ok end
ends_there without bytes h end begins =
    let len : length (take end bytes) ≡ end = omega (arith, length-take end bytes, begins.within) in
    ap head_end (sym (take-append-drop end bytes)) ∙ (without h (take end bytes) (drop end bytes) begins.spelled ∙ ap Ok len)

-- octets that spell a frame begin with its head
spelled_head : (size : ℕ) (f : Frame) (bytes : List ℕ) → Spells size f bytes → BeginsWith bytes f.head (7 * length (addresses f.head))
spelled_head size f bytes h =
    let os = addresses_octets (addresses f.head) in
    let rest = control_octets size f.control ++ (pid_octets f.pid ++ f.info) in
    let parts = apart size f bytes h in
    let len = addresses_length (addresses f.head) h.calls in
    record {
      within = rw parts (omega (arith, length-append os rest, len));
      spelled = record { calls = h.calls; eight = h.eight; spelled = ap (take (7 * length (addresses f.head))) parts ∙ take_at os rest (7 * length (addresses f.head)) len };
    }

-- and begin with it where they begin with any head
begins_so : HeadWithoutFault → (size : ℕ) (f : Frame) (bytes : List ℕ) (end : ℕ) → head_end bytes ≡ Ok end → Spells size f bytes → BeginsWith bytes f.head end
begins_so without size f bytes end ends h =
    let begins = spelled_head size f bytes h in
    let same : 7 * length (addresses f.head) ≡ end = ok_is (7 * length (addresses f.head)) end (sym (ends_there without bytes f.head (7 * length (addresses f.head)) begins) ∙ ends) in
    subst (BeginsWith bytes f.head) same begins

-- an answer that is right stands behind the head of the frame that is spelled
pub reads_only : (size end : ℕ) (bytes : List ℕ) (r : Result Behind FrameRefusal) → HeadWithoutFault → SpelledWithoutFault → SpelledOnce → IsLinkModulus size → head_end bytes ≡ Ok end
    → IfOk r (λ b. (h : Head) → BeginsWith bytes h end → Spells size (with_head h b) bytes) → result_err r ≡ first_fault size bytes
    → (f : Frame) → Spells size f bytes → IsOkAnd r (λ b. with_head f.head b ≡ f)
reads_only size end bytes (Ok b) ended without once m ends found refused f h = once size (with_head f.head b) f bytes m (found f.head (begins_so ended size f bytes end ends h)) h
reads_only size end bytes (Err e) ended without once m ends found refused f h = absurd (let none = without size f bytes m h in cc)

pub head_spelled_once : octets.SpelledOnce → HeadSpelledOnce
head_spelled_once one h g os p q =
    let same = addresses_once one (addresses h) (addresses g) [] [] (omega arith) (omega arith) p.calls q.calls (ap (λ x. x ++ []) (sym p.spelled ∙ q.spelled)) in
    same_head h g same.0

pub reads_head_only : (bytes : List ℕ) (r : Result (Head × ℕ) FrameRefusal) → HeadWithoutFault → HeadSpelledOnce → IfOk r (λ x. (x.1 ≤ length bytes) × SpellsHead x.0 (take x.1 bytes)) → MatchResult r (λ x. head_end bytes ≡ Ok x.1) (λ e. head_end bytes ≡ Err e) → (h : Head) (os rest : List ℕ) → SpellsHead h os → bytes ≡ os ++ rest → r ≡ Ok (h, length os)
reads_head_only bytes (Ok x) without once found judged h os rest spells e =
    let end : head_end bytes ≡ Ok (length os) = ap head_end e ∙ without h os rest spells in
    let len : x.1 ≡ length os = ok_is x.1 (length os) (sym judged ∙ end) in
    let front : take x.1 bytes ≡ os = ap (take x.1) e ∙ take_at os rest x.1 (sym len) in
    let head : x.0 ≡ h = once x.0 h os (subst (λ (o : List ℕ). SpellsHead x.0 o) front found.1) spells in
    ap Ok (ap (λ k. (k, x.1)) head ∙ ap (λ n. (h, n)) len)
reads_head_only bytes (Err d) without once found judged h os rest spells e =
    let end : head_end bytes ≡ Ok (length os) = ap head_end e ∙ without h os rest spells in
    absurd cc
