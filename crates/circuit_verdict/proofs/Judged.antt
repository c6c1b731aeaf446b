-- How an event is judged by what is kept.
use Rattle.std.proofs.Common.{◌≡◌, ◌≤◌, ◌<◌, ◌∙◌, ℕ, suc, refl, sym, ap, arith, List, [], ◌∷◌}
use Rattle.std.specs.Prelude.{Bool, true, false, ◌&&◌, ◌||◌, Option, Some, None, is_some, if◌then◌else◌}
use Rattle.std.specs.Option.{option_copied}
use Rattle.std.specs.Borrow.{Bor}
use Rattle.std.proofs.lemmas.Option.{same_Some}
use Rattle.std.proofs.Math.Bool.{and-false}
use Rattle.ax_address.specs.Callsign.{Callsign}
use Rattle.circuit_l4.specs.declared.pair.Pair.{Pair}
use Rattle.circuit_table.specs.Sets as sets
use Rattle.circuit_set.specs.Books as books
use Rattle.circuit_table.specs.Events.{Name, is_copy, same_name}
use Rattle.circuit_set.specs.Books.{HasRequester, HeardNote, SentNote, TimelyTo, has_sent, heard_number, heard_sending, if_asked, is_unknown, latest_to, latest_in, overtakers, partner, requester}
use Rattle.circuit_verdict.specs.declared.book.Book.{Book}
use Rattle.circuit_verdict.specs.declared.sendings.Sending.{Sending}
use Rattle.circuit_verdict.specs.declared.sendings.Sendings.{Sendings}
use Rattle.circuit_verdict.specs.declared.allowance.Allowance.{Allowance}
use Rattle.circuit_verdict.specs.declared.late.LateWhy.{LateWhy}
use Rattle.circuit_verdict.specs.declared.late.LateWhy.TheVariants.{Overtaken, Returned}
use Rattle.circuit_verdict.specs.Sendings.{IsInOrder, SendingsStand, sending_in, sending_of}
use Rattle.circuit_verdict.specs.Judging.{Judges, JudgesHeeded, JudgesMade}

-- ---- later events ----
order_later : (p q : ℕ) (ss : List SentNote) → p ≤ q → IsInOrder p ss → IsInOrder q ss
order_later p q [] e order = tt
order_later p q (s ∷ ss) e order = (omega (arith, e, order.0), order.1)

pub sendings_later : (s : Sendings) (p : ℕ) (ss : List SentNote) (hs : List HeardNote) → SendingsStand s p ss hs → SendingsStand s (suc p) ss hs
sendings_later s p ss hs k = record {
  latest = k.latest;
  messages = k.messages;
  sent = k.sent;
  heard = k.heard;
  order = order_later p (suc p) ss (omega arith) k.order;
  once = k.once;
}

-- ---- requests ----
pub lacking : (b : books.Book) (o : Option (List ℕ)) (found : Option Name) → found ≡ requester b o → is_some o && is_unknown found ≡ true → HasRequester b o → ⊥
lacking b None found e f h = absurd (cc f)
lacking b (Some d) None e f h = absurd (cc (e, h.1))
lacking b (Some d) (Some y) e f h = absurd (cc f)

pub having : (b : books.Book) (o : Option (List ℕ)) (found : Option Name) → found ≡ requester b o → is_some o && is_unknown found ≡ false → HasRequester b o
having b None found e f = tt
having b (Some d) None e f = absurd (cc f)
having b (Some d) (Some y) e f = (y, sym e)

pub copied_some : (o : Option (Bor (List ℕ))) → is_some (option_copied o) ≡ is_some o
copied_some None = refl
copied_some (Some d) = refl

sent_by : (b c rest : Bool) (s : SentNote) (found : Option SentNote) → rest ≡ is_some found → (b && c) || rest ≡ is_some (if b && c then Some s else found)
sent_by true true rest s found e = refl
sent_by true false rest s found e = e
sent_by false c rest s found e = e

sent_found : (ss : List SentNote) (x : Name) (d : List ℕ) → has_sent ss x d ≡ is_some (latest_in ss x d)
sent_found [] x d = refl
sent_found (s ∷ ss) x d = sent_by (same_name s.who x) (is_copy d s.datagram) (has_sent ss x d) s (latest_in ss x d) (sent_found ss x d)

some_sending : (o : Option SentNote) → is_some o ≡ is_some (sending_in o)
some_sending None = refl
some_sending (Some s) = refl

sent_is : (b : books.Book) (x : Name) (d : List ℕ) (found : Option Sending) → found ≡ sending_in (latest_in b.sent x d) → has_sent b.sent x d ≡ is_some found
sent_is b x d found e = sent_found b.sent x d ∙ some_sending (latest_in b.sent x d) ∙ ap is_some (sym e)

pub not_joined : (b : books.Book) (x : Name) (d : List ℕ) (o : Option Name) → o ≡ partner b x → is_some o ≡ true → None ≡ if_asked b d (Some x)
not_joined b x d None e f = absurd (cc f)
not_joined b x d (Some y) e f = rw (sym e, and-false (has_sent b.sent x d)) refl

joins_by : (c : Bool) (x : Name) → (if c && true then Some x else None) ≡ (if c then Some x else None)
joins_by true x = refl
joins_by false x = refl

pub joins : (b : books.Book) (x : Name) (d : List ℕ) (o : Option Name) (found : Option Sending) → o ≡ partner b x → is_some o ≡ false
    → found ≡ sending_in (latest_in b.sent x d) → (if is_some found then Some x else None) ≡ if_asked b d (Some x)
joins b x d None found e f g = rw (sym e, sent_is b x d found g) (sym (joins_by (is_some found) x))
joins b x d (Some y) found e f g = absurd (cc f)

-- ---- what an end has heeded ----
pub none_sent : (allow : books.Book → Name → ℕ) (b : books.Book) (x p : Name) (d : List ℕ) → partner b x ≡ Some p → None ≡ sending_in (latest_in b.sent p d) → TimelyTo allow b x d → ⊥
none_sent allow b x p d e f (y, s, of, by, few) =
    let same : y ≡ p = same_Some y p (sym of ∙ e) in
    let found : latest_in b.sent p d ≡ Some s = rw (← same) by in
    let some : None ≡ Some (sending_of s) = f ∙ ap sending_in found in
    absurd (cc some)

pub too_many : (allow : books.Book → Name → ℕ) (b : books.Book) (x p : Name) (d : List ℕ) (v : Sending) → partner b x ≡ Some p → Some v ≡ sending_in (latest_in b.sent p d)
    → allow b x ≤ overtakers p x v.place b.sent b.heard → TimelyTo allow b x d → ⊥
too_many allow b x p d v e f many (y, s, of, by, few) =
    let same : y ≡ p = same_Some y p (sym of ∙ e) in
    let found : latest_in b.sent p d ≡ Some s = rw (← same) by in
    let some : Some v ≡ Some (sending_of s) = f ∙ ap sending_in found in
    let is : v ≡ sending_of s = same_Some v (sending_of s) some in
    let fewer : overtakers p x v.place b.sent b.heard < allow b x = rw (is, ← same) few in
    absurd (omega (arith, many, fewer))

pub record Found (b : books.Book) (p : Name) (d : List ℕ) (v : Sending) : Type 0 where
  pub note : SentNote
  pub latest : latest_in b.sent p d ≡ Some note
  pub is : v ≡ sending_of note

found_by : (o : Option SentNote) (v : Sending) → Some v ≡ sending_in o → (s : SentNote) × (o ≡ Some s) × (v ≡ sending_of s)
found_by None v e = absurd (cc e)
found_by (Some s) v e = (s, refl, same_Some v (sending_of s) e)

pub found : (b : books.Book) (p : Name) (d : List ℕ) (v : Sending) → Some v ≡ sending_in (latest_in b.sent p d) → Found b p d v
found b p d v e = let by = found_by (latest_in b.sent p d) v e in record { note = by.0; latest = by.1; is = by.2 }

pub in_time : (allow : books.Book → Name → ℕ) (b : books.Book) (x p : Name) (d : List ℕ) (v : Sending) → partner b x ≡ Some p → Some v ≡ sending_in (latest_in b.sent p d)
    → overtakers p x v.place b.sent b.heard < allow b x → TimelyTo allow b x d
in_time allow b x p d v e f few =
    let k = found b p d v f in
    let fewer : overtakers p x k.note.place b.sent b.heard < allow b x = rw k.is at few in
    (p, k.note, e, k.latest, fewer)

pub heard_is : (b : books.Book) (x p : Name) (d : List ℕ) (v : Sending) → partner b x ≡ Some p → Some v ≡ sending_in (latest_in b.sent p d)
    → heard_sending x (latest_to b x d) b.heard ≡ heard_number x v.number b.heard
heard_is b x p d v e f =
    let k = found b p d v f in
    let of_number : Sending → List HeardNote = λ w. heard_number x w.number b.heard in
    rw (e, k.latest) (ap of_number (sym k.is))

-- ---- each kind of event ----
pub judged_made : (a : Allowance) (b : books.Book) (lost : List Name) (node : ℕ) (own : Callsign) (id : ℕ) (pair : Pair) (at : Callsign) (request : Option (List ℕ)) (why : Option LateWhy) (new : Book)
    → JudgesMade b lost (record { node = node; own = own; told = sets.Made id pair at request }) why new
    → Judges a b lost (record { node = node; own = own; told = sets.Made id pair at request }) why new
judged_made a b lost node own id pair at request None new j = record { timely = tt; fresh = j.0; parts = j.1 }
judged_made a b lost node own id pair at request (Some Returned) new j = j
judged_made a b lost node own id pair at request (Some Overtaken) new j = absurd j

pub judged_heeded : (a : Allowance) (b : books.Book) (lost : List Name) (node : ℕ) (own : Callsign) (id : ℕ) (d : List ℕ) (why : Option LateWhy) (new : Book)
    → JudgesHeeded a b lost (record { node = node; own = own; told = sets.Heeded id d }) why new
    → Judges a b lost (record { node = node; own = own; told = sets.Heeded id d }) why new
judged_heeded a b lost node own id d None new j = record { timely = j.0; fresh = tt; parts = j.1 }
judged_heeded a b lost node own id d (Some Overtaken) new j = j
judged_heeded a b lost node own id d (Some Returned) new j = absurd j
