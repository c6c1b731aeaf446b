-- What one more notice makes of what is read off the notes.
use Rattle.std.proofs.Common.{◌≡◌, ℕ, refl, ap, sym, ◌∙◌, List, [], ◌∷◌, ◌++◌}
use Rattle.std.specs.Prelude.{Bool, true, false, not, ◌&&◌, ◌||◌, cond, if◌then◌else◌, Option, Some, None}
use Rattle.std.proofs.Math.Bool.{and-false}
use Rattle.ax_address.specs.Callsign.{Callsign}
use Rattle.circuit_l4.specs.declared.pair.Pair.{Pair}
use Rattle.circuit_l4.specs.declared.notice.EndNotice.{EndNotice}
use Rattle.circuit_l4.specs.declared.notice.EndNotice.TheVariants.{Opened, Refused, Closed, ClosedByPartner, FailedRetries, FailedOversize, FailedInactive}
use Rattle.circuit_set.specs.Books.{MadeNote, any_ends, made_last, partner_in, was_asked, with_notice}
use Rattle.circuit_table.specs.Events.{Name, ends_it, same_name}
use Rattle.circuit_set.specs.NotedRuns.{opened_window, told_to}
use Rattle.circuit_set.proofs.Bridge.{same_names}
use Rattle.circuit_verdict.specs.declared.ends.EndNote.{EndNote}
use Rattle.circuit_verdict.specs.Ends.{facing_in, first_window, given_in, is_going, is_made, note_in, after_notice, after_notice_in, with_facing}
use Rattle.circuit_verdict.proofs.Tests.{or_false, or_or}

-- one note, which is that of the end or not
abbrev one : Bool → EndNotice → MadeNote → MadeNote
one b n m = if b then record m { told = m.told ++ n ∷ [] } else m

-- ---- what no notice changes ----
partner_by : (b : Bool) (n : EndNotice) (m : MadeNote) (ms ns : List MadeNote) (x : Name) → partner_in ns x ≡ partner_in ms x → partner_in (one b n m ∷ ns) x ≡ partner_in (m ∷ ms) x
partner_by true n m ms ns x e = rw e refl
partner_by false n m ms ns x e = rw e refl

pub partner_noticed : (ms : List MadeNote) (y : Name) (n : EndNotice) (x : Name) → partner_in (with_notice y n ms) x ≡ partner_in ms x
partner_noticed [] y n x = refl
partner_noticed (m ∷ ms) y n x = partner_by (same_name m.who y) n m ms (with_notice y n ms) x (partner_noticed ms y n x)

last_by : (b : Bool) (n : EndNotice) (m : MadeNote) (ms ns : List MadeNote) (own : Callsign) (p : Pair) → made_last ns own p ≡ made_last ms own p
    → made_last (one b n m ∷ ns) own p ≡ made_last (m ∷ ms) own p
last_by true n m ms ns own p e = rw e refl
last_by false n m ms ns own p e = rw e refl

pub last_noticed : (ms : List MadeNote) (y : Name) (n : EndNotice) (own : Callsign) (p : Pair) → made_last (with_notice y n ms) own p ≡ made_last ms own p
last_noticed [] y n own p = refl
last_noticed (m ∷ ms) y n own p = last_by (same_name m.who y) n m ms (with_notice y n ms) own p (last_noticed ms y n own p)

given_by : (b : Bool) (n : EndNotice) (m : MadeNote) (ms ns : List MadeNote) (node : ℕ) (p : Pair) → given_in ns node p ≡ given_in ms node p
    → given_in (one b n m ∷ ns) node p ≡ given_in (m ∷ ms) node p
given_by true n m ms ns node p e = rw e refl
given_by false n m ms ns node p e = rw e refl

pub given_noticed : (ms : List MadeNote) (y : Name) (n : EndNotice) (node : ℕ) (p : Pair) → given_in (with_notice y n ms) node p ≡ given_in ms node p
given_noticed [] y n node p = refl
given_noticed (m ∷ ms) y n node p = given_by (same_name m.who y) n m ms (with_notice y n ms) node p (given_noticed ms y n node p)

facing_by : (b : Bool) (n : EndNotice) (m : MadeNote) (ms ns : List MadeNote) (x : Name) → facing_in ns x ≡ facing_in ms x → facing_in (one b n m ∷ ns) x ≡ facing_in (m ∷ ms) x
facing_by true n m ms ns x e = ap (with_facing m.who m.partner x) e
facing_by false n m ms ns x e = ap (with_facing m.who m.partner x) e

pub facing_noticed : (ms : List MadeNote) (y : Name) (n : EndNotice) (x : Name) → facing_in (with_notice y n ms) x ≡ facing_in ms x
facing_noticed [] y n x = refl
facing_noticed (m ∷ ms) y n x = facing_by (same_name m.who y) n m ms (with_notice y n ms) x (facing_noticed ms y n x)

made_by : (b : Bool) (n : EndNotice) (m : MadeNote) (ms ns : List MadeNote) (x : Name) → is_made ns x ≡ is_made ms x → is_made (one b n m ∷ ns) x ≡ is_made (m ∷ ms) x
made_by true n m ms ns x e = rw e refl
made_by false n m ms ns x e = rw e refl

made_noticed : (ms : List MadeNote) (y : Name) (n : EndNotice) (x : Name) → is_made (with_notice y n ms) x ≡ is_made ms x
made_noticed [] y n x = refl
made_noticed (m ∷ ms) y n x = made_by (same_name m.who y) n m ms (with_notice y n ms) x (made_noticed ms y n x)

asked_by : (b : Bool) (n : EndNotice) (m : MadeNote) (ms ns : List MadeNote) (x : Name) → was_asked ns x ≡ was_asked ms x → was_asked (one b n m ∷ ns) x ≡ was_asked (m ∷ ms) x
asked_by true n m ms ns x e = rw e refl
asked_by false n m ms ns x e = rw e refl

asked_noticed : (ms : List MadeNote) (y : Name) (n : EndNotice) (x : Name) → was_asked (with_notice y n ms) x ≡ was_asked ms x
asked_noticed [] y n x = refl
asked_noticed (m ∷ ms) y n x = asked_by (same_name m.who y) n m ms (with_notice y n ms) x (asked_noticed ms y n x)

-- ---- whether an end is going ----
ends_more : (ns : List EndNotice) (n : EndNotice) → any_ends (ns ++ n ∷ []) ≡ any_ends ns || ends_it n
ends_more [] n = or_false (ends_it n)
ends_more (k ∷ ns) n = rw (ends_more ns n) (or_or (ends_it k) (any_ends ns) (ends_it n))

both_go : (a e g : Bool) → not (a || e) || (g && not e) ≡ (not a || g) && not e
both_go true true g = refl
both_go true false g = refl
both_go false true g = and-false g
both_go false false g = refl

going_here_by : (b : Bool) (n : EndNotice) (m : MadeNote) (ms ns : List MadeNote) (x : Name) → same_name m.who x ≡ b → is_going ns x ≡ is_going ms x && not (ends_it n)
    → is_going (one b n m ∷ ns) x ≡ is_going (m ∷ ms) x && not (ends_it n)
going_here_by true n m ms ns x b e = rw (b, ends_more m.told n, e) (both_go (any_ends m.told) (ends_it n) (is_going ms x))
going_here_by false n m ms ns x b e = rw (b, e) refl

going_here : (ms : List MadeNote) (n : EndNotice) (x : Name) → is_going (with_notice x n ms) x ≡ is_going ms x && not (ends_it n)
going_here [] n x = refl
going_here (m ∷ ms) n x = going_here_by (same_name m.who x) n m ms (with_notice x n ms) x refl (going_here ms n x)

going_apart_by : (b : Bool) (n : EndNotice) (m : MadeNote) (ms ns : List MadeNote) (x : Name) → (b ≡ true → same_name m.who x ≡ false) → is_going ns x ≡ is_going ms x
    → is_going (one b n m ∷ ns) x ≡ is_going (m ∷ ms) x
going_apart_by true n m ms ns x apart e = rw (apart refl, e) refl
going_apart_by false n m ms ns x apart e = rw e refl

apart : (m : MadeNote) (y x : Name) → same_name y x ≡ false → same_name m.who y ≡ true → same_name m.who x ≡ false
apart m y x e f = rw (same_names m.who y f) e

going_apart : (ms : List MadeNote) (y : Name) (n : EndNotice) (x : Name) → same_name y x ≡ false → is_going (with_notice y n ms) x ≡ is_going ms x
going_apart [] y n x e = refl
going_apart (m ∷ ms) y n x e = going_apart_by (same_name m.who y) n m ms (with_notice y n ms) x (λ f. apart m y x e f) (going_apart ms y n x e)

-- ---- what was told to it ----
told_here_by : (b : Bool) (n : EndNotice) (m : MadeNote) (ms ns : List MadeNote) (x : Name) → same_name m.who x ≡ b
    → told_to ns x ≡ (if is_made ms x then told_to ms x ++ n ∷ [] else told_to ms x)
    → told_to (one b n m ∷ ns) x ≡ (if is_made (m ∷ ms) x then told_to (m ∷ ms) x ++ n ∷ [] else told_to (m ∷ ms) x)
told_here_by true n m ms ns x b e = rw b refl
told_here_by false n m ms ns x b e = rw (b, e) refl

told_here : (ms : List MadeNote) (n : EndNotice) (x : Name) → told_to (with_notice x n ms) x ≡ (if is_made ms x then told_to ms x ++ n ∷ [] else told_to ms x)
told_here [] n x = refl
told_here (m ∷ ms) n x = told_here_by (same_name m.who x) n m ms (with_notice x n ms) x refl (told_here ms n x)

told_apart_by : (b : Bool) (n : EndNotice) (m : MadeNote) (ms ns : List MadeNote) (x : Name) → (b ≡ true → same_name m.who x ≡ false) → told_to ns x ≡ told_to ms x
    → told_to (one b n m ∷ ns) x ≡ told_to (m ∷ ms) x
told_apart_by true n m ms ns x apart e = rw (apart refl, e) refl
told_apart_by false n m ms ns x apart e = rw e refl

told_apart : (ms : List MadeNote) (y : Name) (n : EndNotice) (x : Name) → same_name y x ≡ false → told_to (with_notice y n ms) x ≡ told_to ms x
told_apart [] y n x e = refl
told_apart (m ∷ ms) y n x e = told_apart_by (same_name m.who y) n m ms (with_notice y n ms) x (λ f. apart m y x e f) (told_apart ms y n x e)

-- ---- the window ----
abbrev window_then : Option ℕ → EndNotice → Option ℕ
window_then w (Opened v) = first_window w v
window_then w n = w

window_more_by : (n : EndNotice) → opened_window (n ∷ []) ≡ window_then None n
window_more_by (Opened w) = refl
window_more_by Refused = refl
window_more_by Closed = refl
window_more_by ClosedByPartner = refl
window_more_by FailedRetries = refl
window_more_by FailedOversize = refl
window_more_by FailedInactive = refl

window_held : (w : ℕ) (n : EndNotice) → Some w ≡ window_then (Some w) n
window_held w (Opened v) = refl
window_held w Refused = refl
window_held w Closed = refl
window_held w ClosedByPartner = refl
window_held w FailedRetries = refl
window_held w FailedOversize = refl
window_held w FailedInactive = refl

window_more : (ns : List EndNotice) (n : EndNotice) → opened_window (ns ++ n ∷ []) ≡ window_then (opened_window ns) n
window_more [] n = window_more_by n
window_more (Opened w ∷ ns) n = window_held w n
window_more (Refused ∷ ns) n = window_more ns n
window_more (Closed ∷ ns) n = window_more ns n
window_more (ClosedByPartner ∷ ns) n = window_more ns n
window_more (FailedRetries ∷ ns) n = window_more ns n
window_more (FailedOversize ∷ ns) n = window_more ns n
window_more (FailedInactive ∷ ns) n = window_more ns n

-- ---- its note ----
abbrev note : Bool → Bool → Option ℕ → EndNote
note asked ended window = record { asked = asked; ended = ended; window = window }

noticed_by : (n : EndNotice) (asked g : Bool) (w : Option ℕ) → note asked (not (g && not (ends_it n))) (window_then w n) ≡ after_notice n (note asked (not g) w)
noticed_by (Opened v) asked true w = refl
noticed_by (Opened v) asked false w = refl
noticed_by Refused asked g w = rw (and-false g) refl
noticed_by Closed asked g w = rw (and-false g) refl
noticed_by ClosedByPartner asked g w = rw (and-false g) refl
noticed_by FailedRetries asked g w = rw (and-false g) refl
noticed_by FailedOversize asked g w = rw (and-false g) refl
noticed_by FailedInactive asked g w = rw (and-false g) refl

note_here_by : (made : Bool) (ms : List MadeNote) (n : EndNotice) (x : Name) → is_made ms x ≡ made
    → note_in (with_notice x n ms) x ≡ after_notice_in n (note_in ms x)
note_here_by true ms n x e =
    let told : told_to (with_notice x n ms) x ≡ told_to ms x ++ n ∷ [] = told_here ms n x ∙ rw e refl in
    rw (made_noticed ms x n x, e, asked_noticed ms x n x, going_here ms n x, told, window_more (told_to ms x) n)
    (ap Some (noticed_by n (was_asked ms x) (is_going ms x) (opened_window (told_to ms x))))
note_here_by false ms n x e = rw (made_noticed ms x n x, e) refl

note_noticed_by : (b : Bool) (ms : List MadeNote) (y : Name) (n : EndNotice) (x : Name) → same_name y x ≡ b
    → cond b (after_notice_in n (note_in ms x)) (note_in ms x) ≡ note_in (with_notice y n ms) x
note_noticed_by true ms y n x e = rw (same_names y x e) (sym (note_here_by (is_made ms x) ms n x refl))
note_noticed_by false ms y n x e = rw (made_noticed ms y n x, asked_noticed ms y n x, going_apart ms y n x e, told_apart ms y n x e) refl

pub note_noticed : (ms : List MadeNote) (y : Name) (n : EndNotice) (x : Name)
    → cond (same_name y x) (after_notice_in n (note_in ms x)) (note_in ms x) ≡ note_in (with_notice y n ms) x
note_noticed ms y n x = note_noticed_by (same_name y x) ms y n x refl
