-- At each moment of a timely run each end and its partner have what Safe says of them, by the notes of the book.
use Rattle.std.specs.Prelude.{◌≡◌, ℕ, zero, suc, ◌≤◌, ◌⊎◌, List, [], ◌∷◌, ◌++◌, slice_get, take, Contains, Option, Some, None, refl}
use Rattle.std.proofs.Common.{sym, ◌∙◌, ap, subst, arith}
use Rattle.circuit_l4.specs.declared.notice.EndNotice.{EndNotice}
use Rattle.circuit_l4.specs.declared.notice.EndNotice.TheVariants.{Closed, ClosedByPartner}
use Rattle.circuit_l4.specs.State.{State}
use Rattle.circuit_set.specs.Circuits.{SafeTo}
use Rattle.circuit_set.specs.Safe.{IsBeginning, wholes, SafeAlone}
use Rattle.circuit_table.specs.Events.{Name}
use Rattle.circuit_set.specs.NotedRuns.{Net, PartnersStay, WindowsFit, allowance_at, begins, end_at, net_run, told_to}
use Rattle.circuit_table.specs.Sets.{Holder, SetState, end_of}
use Rattle.circuit_set.specs.Books.{Timely, empty, partner}
use Rattle.circuit_table.specs.Runs.{AreStarts, AreSteps, IsStart, Step, events_of, end_in}
use Rattle.circuit_set.proofs.Lonely.{alone_safe}
use Rattle.circuit_set.proofs.Lookups.{InEnds}
use Rattle.circuit_set.proofs.Whole.{safe_of}
use Rattle.circuit_set.proofs.Invariant.{PairInv, AloneOk, CircuitOk, EndInv, Kept, SetInv, side_of}
use Rattle.circuit_set.proofs.Opens.{run_kept, later_stays}

pub starts_at : (ss : List SetState) (n : ℕ) (s : SetState) → AreStarts ss → slice_get ss n ≡ Some s → IsStart s
starts_at [] n s a e = cc
starts_at (x ∷ ss) zero s a e = let same : x ≡ s = cc in subst IsStart same a.0
starts_at (x ∷ ss) (suc n) s a e = starts_at ss n s a.1 e

pub none_case : (ss : List SetState) (x : Name) (o : Option SetState) → AreStarts ss → slice_get ss x.node ≡ o → end_in o x.id ≡ None
none_case ss x None a e = refl
none_case ss x (Some s) a e = ap (λ hs. end_of x.id hs) (starts_at ss x.node s a e).none

set_inv : (s : SetState) → IsStart s → SetInv s
set_inv s a = record {
  own = a.own;
  user = a.user;
  some = a.config.some;
  most = let low : s.config.window ≤ 127 = a.config.window in omega arith;
  number = a.first;
  zero = ap (λ hs. end_of 0 hs) a.none;
  one = λ h i. absurd (subst (λ hs. InEnds h hs) a.none i);
  fresh = λ id l. ap (λ hs. end_of id hs) a.none;
}

pub start_kept : (sets : List SetState) → AreStarts sets → Kept (begins sets)
start_kept sets a = record {
  past = [];
  noted = tt;
  placed = λ p i. absurd i;
  tops = λ p i. absurd i;
  senders = λ z n e. cc;
  owners = λ p i. absurd i;
  hearers = λ z e. refl;
  made = λ z e. cc;
  ends = λ x h e. let none : end_at (begins sets) x ≡ None = none_case sets x (slice_get sets x.node) a refl in let bad : None ≡ Some h = sym none ∙ e in cc;
  pairs = λ x y e. cc;
  sets = λ n s e. set_inv s (starts_at sets n s a e);
}

-- what x wrote and its partner y received, and what each was told
pub record SafeNotes (x y : State) (to_x to_y : List EndNotice) : Type 0 where
  pub received : IsBeginning y.receiving.received x.sending.wrote
  pub acked : IsBeginning (take (wholes x.sending.wrote x.sending.acked) x.sending.wrote) y.receiving.received
  pub closed : Contains to_x Closed ⊎ Contains to_y ClosedByPartner → y.receiving.received ≡ x.sending.wrote

abbrev pub SafeWith : Net → Name → Holder → Option Name → Type 0
SafeWith net x h None = SafeAlone h.end
SafeWith net x h (Some y) =
    (k : Holder) × (end_at net y ≡ Some k) × SafeNotes h.end k.end (told_to net.book.made x) (told_to net.book.made y)

circuit_case : (net : Net) (k : Kept net) (x : Name) (h : Holder) → EndInv net k.past x h → (o : Option Name) → partner net.book x ≡ o → SafeWith net x h o
circuit_case net k x h i None e =
    let a : AloneOk net.book k.past x h.end = i.alone e in
    let r = alone_safe a.window (side_of net.book k.past x h.end) (a.kept a.window a.fits) in
    record { received = r.0; acked = r.1 }
circuit_case net k x h i (Some y) e =
    let q : CircuitOk net k.past x y h.end = i.paired y e in
    let safe : SafeTo (side_of net.book k.past x h.end) (side_of net.book k.past y q.end.end) = safe_of q.window (side_of net.book k.past x h.end) (side_of net.book k.past y q.end.end) q.kept in
    (q.end, q.there, record { received = safe.received; acked = safe.acked; closed = safe.closed })

-- what each end and its partner have
pub circuits_now : (net : Net) → Kept net → (x : Name) (h : Holder) → end_at net x ≡ Some h → SafeWith net x h (partner net.book x)
circuits_now net k x h e = circuit_case net k x h (k.ends x h e) (partner net.book x) refl

pub circuits_kept : (sets : List SetState) → AreStarts sets → (steps later : List Step) → AreSteps (steps ++ later) → Timely allowance_at empty (events_of sets (steps ++ later)) → Kept (net_run (begins sets) steps)
circuits_kept sets starts steps later are timely = run_kept (begins sets) steps later (start_kept sets starts) are timely

pub windows_fit : WindowsFit
windows_fit w some most = omega arith

pub partners_stay : PartnersStay
partners_stay sets starts steps later are timely x y e =
    let k : Kept (net_run (begins sets) steps) = run_kept (begins sets) steps later (start_kept sets starts) are timely in
    let p : PairInv (net_run (begins sets) steps) x y = k.pairs x y e in
    (later_stays (begins sets) steps later (start_kept sets starts) are timely x y e, p.back, p.apart)
