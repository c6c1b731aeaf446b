-- Runs of nodes in which stored mails are killed, too. Mail is stored once in each. Own profile.
use Rattle.std.specs.Prelude.{ℕ, ◌≡◌, List, [], ◌∷◌, Bool, Option, Some, None}
use Rattle.std.specs.List.{AllByRecursion}
use Rattle.ax_address.specs.Callsign.{Callsign}
use Rattle.node_mail.specs.Lists.{Lists, Mail, is_stored, kill_step, killed_in}
use Rattle.node_mail.specs.Runs.{Event, IsEvent, MailRun, begin, happens, with_store}
use Rattle.node_mail.specs.MailOnce.{MailOnce, MailOnceOrKilled, NothingIsKilled}

-- what may happen where mails are killed
pub data Turn : Type 0 where
  -- one of the events that kill nothing
  Happens : (event : Event) → Turn
  -- a node kills the mail of that number from `origin`, which it may have stored
  Kills : (node origin : Callsign) → (number : ℕ) → Turn

abbrev pub IsTurn : Turn → Type 0
IsTurn (Happens event) = IsEvent event
IsTurn (Kills node origin number) = Unit {0}

abbrev pub kills : MailRun → Callsign → Callsign → ℕ → Option Lists → MailRun
kills w node origin number None = w
kills w node origin number (Some s) = with_store w node (kill_step s origin number)

abbrev pub turn : MailRun → Turn → MailRun
turn w (Happens event) = happens w event
turn w (Kills node origin number) = kills w node origin number (w.store_of node)

abbrev pub turns : List Turn → MailRun → MailRun
turns [] w = w
turns (t ∷ ts) w = turns ts (turn w t)

-- of all nodes with a store; where nothing was killed, it has the text that it was posted with
abbrev pub HoldsMailOnceOrKilled : MailRun → Type 0
HoldsMailOnceOrKilled w =
    (origin dest : Callsign) (from at : Lists) → w.store_of origin ≡ Some from → w.store_of dest ≡ Some at →
    MailOnceOrKilled origin dest from at × (NothingIsKilled at → MailOnce origin dest from at)

abbrev pub KilledMailIsStoredOnce : Type 0
KilledMailIsStoredOnce =
    (has_store : Callsign → Bool) (ts : List Turn) →
    AllByRecursion IsTurn ts → HoldsMailOnceOrKilled (turns ts (begin has_store))

-- what was killed is stored for all that asks whether it is: it is never stored again
abbrev pub KilledIsStored : Type 0
KilledIsStored =
    (ms : List Mail) (origin : Callsign) (number : ℕ) (from : Callsign) (n : ℕ) →
    is_stored (killed_in ms origin number) from n ≡ is_stored ms from n
