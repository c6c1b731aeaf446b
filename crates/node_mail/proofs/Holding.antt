-- What holds at each moment of a run.
use Rattle.std.proofs.Common.{◌≡◌, ℕ, ◌≤◌, List, length, Bool, true, false, Some, refl, cond, inl, inr}
use Rattle.std.specs.Prelude.{◌⊎◌}
use Rattle.std.specs.List.{AllByRecursion}
use Rattle.radio_base.proofs.Each.{each_map, each_push}
use Rattle.ax_address.specs.Callsign.{Callsign, same_call}
use Rattle.ax_address.proofs.SameCalls.{same_call-true}
use Rattle.node_mail.specs.Wires.{Receipt, IsWire, IsNumber, wire_octets}
use Rattle.node_mail.specs.Lists.{Lists, Letter, Mail, letter_of, is_stored, offer}
use Rattle.node_mail.specs.Runs.{MailRun, Written, with_store, with_written}
use Rattle.node_mail.specs.MailOnce.{IsKept, posted_with}
use Rattle.node_mail.proofs.Letters.{Differ}

-- what one node keeps
pub record Sound (own : Callsign) (s : Lists) : Type 0 where
  pub is_own : s.own ≡ own
  pub below : AllByRecursion (λ (l : Letter). l.number ≤ length s.posted) s.posted
  pub wires : AllByRecursion (λ (l : Letter). IsWire (offer l)) s.posted
  pub found : AllByRecursion (λ (l : Letter). letter_of l.number s.posted ≡ Some l) s.posted
  pub queued : AllByRecursion (λ (l : Letter). letter_of l.number s.posted ≡ Some l) s.queued
  pub differ : Differ s.stored

-- a message of a node that keeps s is a mail that was posted for the addressee, or the receipt for a mail that is stored from there
pub record TellsMail (s : Lists) (m : Written) : Type 0 where
  pub letter : Letter
  pub posted : letter_of letter.number s.posted ≡ Some letter
  pub for : letter.dest ≡ m.addressee
  pub is_wire : IsWire (offer letter)
  pub octets : m.octets ≡ wire_octets (offer letter)

pub record TellsReceipt (s : Lists) (m : Written) : Type 0 where
  pub number : ℕ
  pub is_number : IsNumber number
  pub stored : is_stored s.stored m.addressee number ≡ true
  pub octets : m.octets ≡ wire_octets (Receipt number)

abbrev pub Tells : Lists → Written → Type 0
Tells s m = TellsMail s m ⊎ TellsReceipt s m

abbrev pub ToldBy : MailRun → Written → Type 0
ToldBy w m = (s : Lists) → w.store_of m.writer ≡ Some s → Tells s m

-- R says how the text that a stored mail has is to that which it was posted with
abbrev pub CameFrom : (List ℕ → List ℕ → Type 0) → MailRun → Callsign → Mail → Type 0
CameFrom R w d m =
    (a : Lists) → w.store_of m.origin ≡ Some a → (text : List ℕ) × (letter_of m.number a.posted ≡ Some (posted_with text m d)) × R m.text.items text

abbrev pub Keeps : Callsign → Callsign → Lists → Lists → Type 0
Keeps o d a b = AllByRecursion (λ (l : Letter). l.dest ≡ d → IsKept o a b l) a.posted

pub record Holds (R : List ℕ → List ℕ → Type 0) (w : MailRun) : Type 0 where
  pub sound : (c : Callsign) (s : Lists) → w.store_of c ≡ Some s → Sound c s
  pub told : AllByRecursion (ToldBy w) w.written
  pub came : (d : Callsign) (b : Lists) → w.store_of d ≡ Some b → AllByRecursion (CameFrom R w d) b.stored
  pub kept : (o d : Callsign) (a b : Lists) → w.store_of o ≡ Some a → w.store_of d ≡ Some b → Keeps o d a b

-- what was posted and what is stored goes on
pub record Grows (a b : Lists) : Type 0 where
  pub posted : (n : ℕ) (l : Letter) → letter_of n a.posted ≡ Some l → letter_of n b.posted ≡ Some l
  pub stored : (o : Callsign) (n : ℕ) → is_stored a.stored o n ≡ true → is_stored b.stored o n ≡ true

pub stays : (a : Lists) → Grows a a
stays a = record { posted = λ n l h. h; stored = λ o n h. h }

tells_on : (a b : Lists) (m : Written) → Grows a b → Tells a m → Tells b m
tells_on a b m g (inl t) = inl (record { letter = t.letter; posted = g.posted t.letter.number t.letter t.posted; for = t.for; is_wire = t.is_wire; octets = t.octets })
tells_on a b m g (inr t) = inr (record { number = t.number; is_number = t.is_number; stored = g.stored m.addressee t.number t.stored; octets = t.octets })

kept_on : (o : Callsign) (a b v : Lists) (l : Letter) → Grows b v → IsKept o a b l → IsKept o a v l
kept_on o a b v l g (inl q) = inl q
kept_on o a b v l g (inr s) = inr (g.stored o l.number s)

keeps_on : (o d : Callsign) (a b v : Lists) → Grows b v → Keeps o d a b → Keeps o d a v
keeps_on o d a b v g k = each_map (λ (l : Letter). l.dest ≡ d → IsKept o a b l) (λ (l : Letter). l.dest ≡ d → IsKept o a v l) (λ l f e. kept_on o a b v l g (f e)) a.posted k

-- the store as it was before one node's was replaced
pub record Before (w : MailRun) (c : Callsign) (s : Lists) : Type 0 where
  pub old : Lists
  pub was : w.store_of c ≡ Some old
  pub grows : Grows old s

-- the replaced one, or another
pub record Replaced (c d : Callsign) (s t : Lists) : Type 0 where
  pub node : d ≡ c
  pub store : t ≡ s

which_case : (w : MailRun) (c d : Callsign) (s t : Lists) (b : Bool) → same_call d c ≡ b → cond b (Some s) (w.store_of d) ≡ Some t → Replaced c d s t ⊎ (w.store_of d ≡ Some t)
which_case w c d s t true e h = inl (record { node = same_call-true d c e; store = cc })
which_case w c d s t false e h = inr h

pub which : (w : MailRun) (c d : Callsign) (s t : Lists) → (with_store w c s).store_of d ≡ Some t → Replaced c d s t ⊎ (w.store_of d ≡ Some t)
which w c d s t h = which_case w c d s t (same_call d c) refl h

-- one node's store is replaced by s
module _ (R : List ℕ → List ℕ → Type 0) (w : MailRun) (c : Callsign) (a s : Lists) (holds : Holds R w) (was : w.store_of c ≡ Some a) (grows : Grows a s) where
  v : MailRun
  v = with_store w c s

  before_case : (d : Callsign) (t : Lists) → Replaced c d s t ⊎ (w.store_of d ≡ Some t) → Before w d t
  before_case d t (inl r) = record { old = a; was = rw (r.node) was; grows = rw (r.store) grows }
  before_case d t (inr h) = record { old = t; was = h; grows = stays t }

  pub before : (d : Callsign) (t : Lists) → (with_store w c s).store_of d ≡ Some t → Before w d t
  before d t h = before_case d t (which w c d s t h)

  came_on : (d : Callsign) (m : Mail) → CameFrom R w d m → CameFrom R (with_store w c s) d m
  came_on d m f t h = let b = before m.origin t h in let p = f b.old b.was in (p.0, b.grows.posted m.number (posted_with p.0 m d) p.1, p.2)

  all_came_on : (d : Callsign) (ms : List Mail) → AllByRecursion (CameFrom R w d) ms → AllByRecursion (CameFrom R (with_store w c s) d) ms
  all_came_on d ms h = each_map (CameFrom R w d) (CameFrom R (with_store w c s) d) (came_on d) ms h

  told_on : (m : Written) → ToldBy w m → ToldBy (with_store w c s) m
  told_on m f t h = let b = before m.writer t h in tells_on b.old t m b.grows (f b.old b.was)

  module _ (sound : Sound c s) (came : AllByRecursion (CameFrom R w c) s.stored)
      (moves : (d : Callsign) (b : Lists) → w.store_of d ≡ Some b → Keeps c d a b → Keeps c d s b) where
    sound_case : (d : Callsign) (t : Lists) → Replaced c d s t ⊎ (w.store_of d ≡ Some t) → Sound d t
    sound_case d t (inl r) = rw (r.node, r.store) sound
    sound_case d t (inr h) = holds.sound d t h

    came_case : (d : Callsign) (t : Lists) → Replaced c d s t ⊎ (w.store_of d ≡ Some t) → AllByRecursion (CameFrom R (with_store w c s) d) t.stored
    came_case d t (inl r) = rw (r.node, r.store) (all_came_on c s.stored came)
    came_case d t (inr h) = all_came_on d t.stored (holds.came d t h)

    kept_case : (o d : Callsign) (t b : Lists) → Replaced c o s t ⊎ (w.store_of o ≡ Some t) → w.store_of d ≡ Some b → Keeps o d t b
    kept_case o d t b (inl r) h = rw (r.node, r.store) (moves d b h (holds.kept c d a b was h))
    kept_case o d t b (inr k) h = holds.kept o d t b k h

    pub replaced : Holds R (with_store w c s)
    replaced = record {
      sound = λ d t h. sound_case d t (which w c d s t h);
      told = each_map (ToldBy w) (ToldBy (with_store w c s)) told_on w.written holds.told;
      came = λ d t h. came_case d t (which w c d s t h);
      kept = λ o d t b h k. let e = before d b k in keeps_on o d t e.old b e.grows (kept_case o d t e.old (which w c o s t h) e.was);
    }

-- a message is written
pub said : (R : List ℕ → List ℕ → Type 0) (w : MailRun) (writer addressee : Callsign) (octets : List ℕ) → Holds R w → ToldBy w (record { writer = writer; addressee = addressee; octets = octets }) → Holds R (with_written w writer addressee octets)
said R w writer addressee octets holds told = record {
  sound = holds.sound;
  told = each_push (ToldBy w) w.written (record { writer = writer; addressee = addressee; octets = octets }) holds.told told;
  came = holds.came;
  kept = holds.kept;
}
