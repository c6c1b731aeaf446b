-- A mail that is killed leaves what holds.
use Rattle.std.proofs.Common.{◌≡◌, ◌∙◌, ℕ, List, [], ◌∷◌, Bool, true, false, Option, Some, None, refl, ap, cond, inl, inr}
use Rattle.std.specs.Prelude.{◌⊎◌, ◌&&◌, ◌||◌, ◌==◌}
use Rattle.std.specs.List.{AllByRecursion}
use Rattle.ax_address.specs.Callsign.{Callsign, same_call}
use Rattle.node_mail.specs.Lists.{Lists, Mail, is_stored, kill_step, killed_in, without_text}
use Rattle.node_mail.specs.Runs.{MailRun, with_store}
use Rattle.node_mail.specs.Kills.{Happens, IsTurn, KilledIsStored, Kills, Turn, kills, turn, turns}
use Rattle.node_mail.proofs.Letters.{Differ}
use Rattle.node_mail.proofs.Holding.{CameFrom, Holds, Sound, replaced}
use Rattle.node_mail.proofs.Steps.{ReadsBack, happens_keeps}

-- a stored mail has the text that it was posted with, or none
abbrev pub Left : List ℕ → List ℕ → Type 0
Left here posted = (here ≡ posted) ⊎ (here ≡ [])

pub left_itself : (text : List ℕ) → Left text text
left_itself text = inl refl

-- each mail that was stored still is

stored_case : (m : Mail) (ms : List Mail) (o : Callsign) (n : ℕ) (from : Callsign) (k : ℕ) (b : Bool) → is_stored (killed_in ms o n) from k ≡ is_stored ms from k
    → is_stored (cond b (without_text m ∷ ms) (m ∷ killed_in ms o n)) from k ≡ is_stored (m ∷ ms) from k
stored_case m ms o n from k true h = refl
stored_case m ms o n from k false h = ap (λ r. (same_call m.origin from && (m.number == k)) || r) h

pub killed_is_stored : KilledIsStored
killed_is_stored [] o n from k = refl
killed_is_stored (m ∷ ms) o n from k = stored_case m ms o n from k (same_call m.origin o && (m.number == n)) (killed_is_stored ms o n from k)

differ_case : (m : Mail) (ms : List Mail) (o : Callsign) (n : ℕ) (b : Bool) → is_stored ms m.origin m.number ≡ false → Differ ms → Differ (killed_in ms o n)
    → Differ (cond b (without_text m ∷ ms) (m ∷ killed_in ms o n))
differ_case m ms o n true h d k = (h, d)
differ_case m ms o n false h d k = (killed_is_stored ms o n m.origin m.number ∙ h, k)

pub differ_killed : (ms : List Mail) (o : Callsign) (n : ℕ) → Differ ms → Differ (killed_in ms o n)
differ_killed [] o n d = tt
differ_killed (m ∷ ms) o n d = differ_case m ms o n (same_call m.origin o && (m.number == n)) d.0 d.1 (differ_killed ms o n d.1)

each_case : (P : Mail → Type 0) (m : Mail) (ms : List Mail) (o : Callsign) (n : ℕ) (b : Bool) → (P m → P (without_text m)) → P m → AllByRecursion P ms
    → AllByRecursion P (killed_in ms o n) → AllByRecursion P (cond b (without_text m ∷ ms) (m ∷ killed_in ms o n))
each_case P m ms o n true f p h k = (f p, h)
each_case P m ms o n false f p h k = (p, k)

each_killed : (P : Mail → Type 0) → ((m : Mail) → P m → P (without_text m)) → (ms : List Mail) (o : Callsign) (n : ℕ) → AllByRecursion P ms → AllByRecursion P (killed_in ms o n)
each_killed P f [] o n h = tt
each_killed P f (m ∷ ms) o n h = each_case P m ms o n (same_call m.origin o && (m.number == n)) (f m) h.0 h.1 (each_killed P f ms o n h.1)

came_killed : (w : MailRun) (c : Callsign) (m : Mail) → CameFrom Left w c m → CameFrom Left w c (without_text m)
came_killed w c m f a h = let p = f a h in (p.0, p.1, inr refl)

-- a mail is killed
module _ (w : MailRun) (c : Callsign) (a : Lists) (holds : Holds Left w) (was : w.store_of c ≡ Some a) (o : Callsign) (n : ℕ) where
  sound : Sound c a
  sound = holds.sound c a was

  pub killed_holds : Holds Left (with_store w c (kill_step a o n))
  killed_holds = replaced Left w c a (kill_step a o n) holds was
      (record { posted = λ k l h. h; stored = λ from k h. killed_is_stored a.stored o n from k ∙ h })
      (record {
        is_own = sound.is_own;
        below = sound.below;
        wires = sound.wires;
        found = sound.found;
        queued = sound.queued;
        differ = differ_killed a.stored o n sound.differ;
      })
      (each_killed (CameFrom Left w c) (came_killed w c) a.stored o n (holds.came c a was))
      (λ d b h k. k)

kills_event : (w : MailRun) (c o : Callsign) (n : ℕ) (s : Option Lists) → w.store_of c ≡ s → Holds Left w → Holds Left (kills w c o n s)
kills_event w c o n None e h = h
kills_event w c o n (Some a) e h = killed_holds w c a h e o n

turn_keeps : ReadsBack → (w : MailRun) (t : Turn) → IsTurn t → Holds Left w → Holds Left (turn w t)
turn_keeps back w (Happens event) is h = happens_keeps back Left left_itself w event is h
turn_keeps back w (Kills c o n) is h = kills_event w c o n (w.store_of c) refl h

pub turns_keep : ReadsBack → (ts : List Turn) (w : MailRun) → AllByRecursion IsTurn ts → Holds Left w → Holds Left (turns ts w)
turns_keep back [] w are h = h
turns_keep back (t ∷ ts) w are h = turns_keep back ts (turn w t) are.1 (turn_keeps back w t are.0 h)
