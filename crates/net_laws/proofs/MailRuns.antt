-- A run of mail that some events have led to, and how one more leads on.
use Rattle.std.proofs.Common.{◌≡◌, ◌∙◌, ℕ, zero, suc, refl, sym, ap, subst, List, [], ◌∷◌, ◌++◌, Bool}
use Rattle.std.specs.Prelude.{slice_get, Some, None}
use Rattle.std.specs.List.{AllByRecursion}
use Rattle.ax_address.specs.Callsign.{Callsign, IsCallsign}
use Rattle.node_mail.specs.Lists.{Letter, Lists, answer_to, hear_at, hear_step, letter_of, offer, post_step}
use Rattle.node_mail.specs.Runs as mail
use Rattle.node_mail.specs.Runs.{Event, IsEvent, MailRun, Written, begin, happens, run, with_store, with_written}
use Rattle.node_mail.specs.Wires.{wire_octets}
use Rattle.net_laws.proofs.Lists.{both}

-- ---- what was written

abbrev pub message : Callsign → Callsign → List ℕ → Written
message from to octets = record { writer = from; addressee = to; octets = octets }

abbrev pub IsWritten : List Written → Callsign → Callsign → List ℕ → Type 0
IsWritten ws from to octets = (which : ℕ) × (slice_get ws which ≡ Some (message from to octets))

still_there : (ws vs : List Written) (which : ℕ) (x : Written) → slice_get ws which ≡ Some x → slice_get (ws ++ vs) which ≡ Some x
still_there [] vs which x e = absurd (cc e)
still_there (w ∷ ws) vs zero x e = e
still_there (w ∷ ws) vs (suc which) x e = still_there ws vs which x e

pub written_more : (ws vs : List Written) (from to : Callsign) (octets : List ℕ) → IsWritten ws from to octets → IsWritten (ws ++ vs) from to octets
written_more ws vs from to octets w = (w.0, still_there ws vs w.0 (message from to octets) w.1)

last_there : (ws : List Written) (x : Written) → (which : ℕ) × (slice_get (ws ++ x ∷ []) which ≡ Some x)
last_there [] x = (zero, refl)
last_there (w ∷ ws) x = let r = last_there ws x in (suc r.0, r.1)

pub written_last : (ws : List Written) (from to : Callsign) (octets : List ℕ) → IsWritten (ws ++ message from to octets ∷ []) from to octets
written_last ws from to octets = last_there ws (message from to octets)

-- ---- events

run_append : (es fs : List Event) (m : MailRun) → run (es ++ fs) m ≡ run fs (run es m)
run_append [] fs m = refl
run_append (e ∷ es) fs m = run_append es fs (happens m e)

pub record Reached (keeps : Callsign → Bool) (m : MailRun) : Type 0 where
  pub events : List Event
  pub are : AllByRecursion IsEvent events
  pub is : m ≡ run events (begin keeps)

module _ (keeps : Callsign → Bool) where
  pub begins : Reached keeps (begin keeps)
  begins = record { events = []; are = tt; is = refl }

  happened : (m : MailRun) (e : Event) → IsEvent e → Reached keeps m → Reached keeps (happens m e)
  happened m e i r = record {
    events = r.events ++ e ∷ [];
    are = both IsEvent r.events (e ∷ []) r.are (i, tt);
    is = ap (λ x. happens x e) r.is ∙ sym (run_append r.events (e ∷ []) (begin keeps));
  }

  -- a mail is posted
  pub posted : (m : MailRun) (own to dest : Callsign) (text : List ℕ) (s : Lists) → m.store_of own ≡ Some s → IsCallsign to.letters to.ssid → Reached keeps m → Reached keeps (with_store m own (post_step s to dest text))
  posted m own to dest text s e i r = subst (Reached keeps) (ap (mail.posts m own to dest text) e) (happened m (mail.Posts own to dest text) i r)

  -- a queued mail is written
  pub offered : (m : MailRun) (own : Callsign) (number : ℕ) (l : Letter) (s : Lists) → m.store_of own ≡ Some s → letter_of number s.queued ≡ Some l → Reached keeps m
      → Reached keeps (with_written m own l.dest (wire_octets (offer l)))
  offered m own number l s e f r = subst (Reached keeps) (ap (mail.writes m own number) e ∙ ap (mail.writes_letter m own) f) (happened m (mail.Writes own number) tt r)

  -- a node without a store writes
  pub said : (m : MailRun) (own to : Callsign) (octets : List ℕ) → m.store_of own ≡ None → Reached keeps m → Reached keeps (with_written m own to octets)
  said m own to octets e r = subst (Reached keeps) (ap (mail.says m own to octets) e) (happened m (mail.Says own to octets) tt r)

  -- a message is heard, and its answer is written, or isn't
  pub heard : (m : MailRun) (from own : Callsign) (octets : List ℕ) (s : Lists) (answered : Bool) → IsWritten m.written from own octets → m.store_of own ≡ Some s → Reached keeps m
      → Reached keeps (mail.answers (with_store m own (hear_step s from octets)) (message from own octets) answered (answer_to (hear_at s from octets)))
  heard m from own octets s answered w e r =
      subst (Reached keeps) (ap (mail.hears m answered) w.1 ∙ ap (mail.hears_by m answered (message from own octets)) e) (happened m (mail.Hears w.0 answered) tt r)
