-- What is spelled is read.
use Rattle.std.proofs.Common.{◌≡◌, ◌≤◌, ◌-◌, ◌*◌, ◌/◌, ◌++◌, ◌∙◌, ℕ, refl, sym, ap, List, [], ◌∷◌, length, take, drop, arith, Bool, true, false}
use Rattle.std.specs.Prelude.{Some, Result, Ok, Err, IfOk, MatchResult}
use Rattle.std.specs.List.{AllByRecursion}
use Rattle.std.specs.Result.{result_err}
use Rattle.std.proofs.lemmas.List.{append_assoc, take-append-drop, length-take, drop_at, drop-drop}
use Rattle.ax_address.specs.declared.address.Address.{Address}
use Rattle.ax_address.specs.Octets as octets
use Rattle.ax_address.specs.Octets.{address_octets, address_in}
use Rattle.ax_frame.specs.declared.head.Head.{Head}
use Rattle.ax_frame.specs.declared.frame.FrameRefusal.{FrameRefusal}
use Rattle.ax_frame.specs.declared.frame.Behind.{Behind}
use Rattle.ax_frame.specs.Controls.{IsLinkModulus, control_octets}
use Rattle.ax_frame.specs.Reading.{head_end, frame_at, first_fault}
use Rattle.ax_frame.specs.Frames.{frame, with_head, IsAddress, addresses, addresses_octets, pid_octets, BeginsWith, Spells, SpellsHead, addresses_in, head_in, read_head_at, read_at, SpelledHeadIsRead, SpelledIsRead}
use Rattle.ax_frame.proofs.Spelled.{seven, front_of, spells, head_again, addresses_length, frame_again, same_head, apart, info_place}

rest_of : (a : Address) (last : Bool) (rest : List ℕ) → IsAddress a → drop 7 (address_octets a last ++ rest) ≡ rest
rest_of a last rest h = drop_at (address_octets a last) rest 7 (seven a last h)

-- the address in front
first_in : octets.SpelledIsHeld → (a : Address) (last : Bool) (rest : List ℕ) → IsAddress a → address_in (take 7 (address_octets a last ++ rest)) ≡ a
first_in held a last rest h = ap address_in (front_of a last rest h) ∙ held a last (address_octets a last) (spells a last h)

all_in : octets.SpelledIsHeld → (many : List Address) (rest : List ℕ) → AllByRecursion IsAddress many → addresses_in (length many) (addresses_octets many ++ rest) ≡ many
all_in held [] rest h = refl
all_in held (a ∷ []) rest h = ap (λ b. b ∷ []) (first_in held a true rest h.0)
all_in held (a ∷ b ∷ more) rest h =
    let others = addresses_octets (b ∷ more) ++ rest in
    let split : addresses_octets (a ∷ b ∷ more) ++ rest ≡ address_octets a false ++ others = append_assoc (address_octets a false) (addresses_octets (b ∷ more)) rest in
    let first : address_in (take 7 (address_octets a false ++ others)) ≡ a = first_in held a false others h.0 in
    let ih : addresses_in (length (b ∷ more)) (drop 7 (address_octets a false ++ others)) ≡ b ∷ more = ap (addresses_in (length (b ∷ more))) (rest_of a false others h.0) ∙ all_in held (b ∷ more) rest h.1 in
    ap (addresses_in (length (a ∷ b ∷ more))) split ∙ (ap (λ c. c ∷ addresses_in (length (b ∷ more)) (drop 7 (address_octets a false ++ others))) first ∙ ap (λ cs. a ∷ cs) ih)

-- ---- the head

addresses_held : octets.SpelledIsHeld → (h : Head) (rest : List ℕ) → AllByRecursion IsAddress (addresses h)
    → addresses (head_in (7 * length (addresses h)) (addresses_octets (addresses h) ++ rest)) ≡ addresses h
unfolding head_in
addresses_held held h rest calls =
    let os = addresses_octets (addresses h) ++ rest in
    let n = length h.path.items in
    let places : (7 * length (addresses h) - 14) / 7 ≡ n = omega arith in
    let behind : drop 14 os ≡ drop 7 (drop 7 os) = sym (drop-drop 7 7 os) in
    let others : addresses_in ((7 * length (addresses h) - 14) / 7) (drop 14 os) ≡ addresses_in n (drop 7 (drop 7 os)) = rw (places, behind) refl in
    ap (λ path. address_in (take 7 os) ∷ address_in (take 7 (drop 7 os)) ∷ path) others ∙ all_in held (addresses h) rest calls

head_held : octets.SpelledIsHeld → (h : Head) (bytes rest : List ℕ) → AllByRecursion IsAddress (addresses h) → bytes ≡ addresses_octets (addresses h) ++ rest
    → head_in (7 * length (addresses h)) bytes ≡ h
head_held held h bytes rest calls e =
    ap (head_in (7 * length (addresses h))) e ∙ same_head (head_in (7 * length (addresses h)) (addresses_octets (addresses h) ++ rest)) h (addresses_held held h rest calls)

pub spelled_head_is_read : octets.SpelledWithoutFault → octets.SpelledIsHeld → SpelledHeadIsRead
unfolding read_head_at
spelled_head_is_read without held h os rest s =
    let n = 7 * length (addresses h) in
    let whole : os ++ rest ≡ addresses_octets (addresses h) ++ rest = ap (λ xs. xs ++ rest) s.spelled in
    let end : head_end (os ++ rest) ≡ Ok n = head_again without h (os ++ rest) rest s.calls s.eight whole in
    let len : length os ≡ n = ap length s.spelled ∙ addresses_length (addresses h) s.calls in
    rw end (ap (λ g. Ok (g, n)) (head_held held h (os ++ rest) rest s.calls whole) ∙ ap (λ k. Ok (h, k)) (sym len))

-- ---- the frame

pub spelled_is_read : octets.SpelledWithoutFault → octets.SpelledIsHeld → SpelledIsRead
unfolding read_at
spelled_is_read without held size f bytes m s =
    let n = 7 * length (addresses f.head) in
    let more = control_octets size f.control ++ (pid_octets f.pid ++ f.info) in
    let whole = apart size f bytes s in
    let end : head_end bytes ≡ Ok n = head_again without f.head bytes more s.calls s.eight whole in
    let again = frame_again without size f bytes m s in
    rw (end, again.read) (ap (λ h. Ok (frame h f.control f.pid (drop (info_place size f) bytes))) (head_held held f.head bytes more s.calls whole) ∙ ap (λ info. Ok (frame f.head f.control f.pid info)) again.info_is)

-- ---- the answers

pub head_answer : SpelledHeadIsRead → (bytes : List ℕ) (r : Result (Head × ℕ) FrameRefusal) → IfOk r (λ x. (x.1 ≤ length bytes) × SpellsHead x.0 (take x.1 bytes)) → MatchResult r (λ x. head_end bytes ≡ Ok x.1) (λ e. head_end bytes ≡ Err e) → r ≡ read_head_at bytes
unfolding read_head_at
head_answer read bytes (Ok x) found judged =
    let again : read_head_at (take x.1 bytes ++ drop x.1 bytes) ≡ Ok (x.0, length (take x.1 bytes)) = read x.0 (take x.1 bytes) (drop x.1 bytes) found.1 in
    let len : length (take x.1 bytes) ≡ x.1 = omega (arith, length-take x.1 bytes, found.0) in
    sym (ap read_head_at (sym (take-append-drop x.1 bytes)) ∙ (again ∙ ap (λ n. Ok (x.0, n)) len))
head_answer read bytes (Err e) found judged = rw judged refl

no_frame : (size : ℕ) (bytes : List ℕ) (d : FrameRefusal) → head_end bytes ≡ Err d → frame_at size bytes ≡ Err d
unfolding frame_at
no_frame size bytes d here = rw here refl

-- addresses at fault are a fault of the frame
pub head_at_fault : (size : ℕ) (bytes : List ℕ) (d : FrameRefusal) → head_end bytes ≡ Err d → Some d ≡ first_fault size bytes
head_at_fault size bytes d here = rw (no_frame size bytes d here) refl

pub head_refused : (size : ℕ) (bytes : List ℕ) (d : FrameRefusal) → head_end bytes ≡ Err d → read_at size bytes ≡ Err d
unfolding read_at
head_refused size bytes d here = rw here refl

refused_there : (size : ℕ) (bytes : List ℕ) (e : FrameRefusal) (h : Result ℕ FrameRefusal) → head_end bytes ≡ h → frame_at size bytes ≡ Err e → read_at size bytes ≡ Err e
unfolding read_at
refused_there size bytes e (Ok end) here refused = rw (here, refused) refl
refused_there size bytes e (Err d) here refused =
    let none = no_frame size bytes d here in
    rw here cc

refusal_of : {A : Type 0} → (e : FrameRefusal) (r : Result A FrameRefusal) → Some e ≡ result_err r → r ≡ Err e
refusal_of e (Ok x) h = absurd cc
refusal_of e (Err d) h = cc

pub behind_answer : SpelledIsRead → (size end : ℕ) (bytes : List ℕ) (r : Result Behind FrameRefusal) → IsLinkModulus size
    → IfOk r (λ b. (h : Head) → BeginsWith bytes h end → Spells size (with_head h b) bytes) → result_err r ≡ first_fault size bytes
    → (h : Head) → BeginsWith bytes h end → MatchResult r (λ b. read_at size bytes ≡ Ok (with_head h b)) (λ e. read_at size bytes ≡ Err e)
behind_answer read size end bytes (Ok b) m found refused h begins = read size (with_head h b) bytes m (found h begins)
behind_answer read size end bytes (Err e) m found refused h begins = refused_there size bytes e (head_end bytes) refl (refusal_of e (frame_at size bytes) refused)
