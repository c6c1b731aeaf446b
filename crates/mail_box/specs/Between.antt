-- Posts that hand mail to each other, each over its log: whatever is written may be heard, often, late, out of order, or
-- never, and the program of a post may end anywhere. Mail is stored once in each such run. Own profile.
use Rattle.std.specs.Prelude.{ℕ, Bool, ◌&&◌, if◌then◌else◌, List, [], ◌∷◌, ◌++◌, slice_get, Option, Some, None}
use Rattle.std.specs.List.{AllByRecursion}
use Rattle.ax_address.specs.Callsign.{Callsign, IsCallsign, same_call}
use Rattle.node_mail.specs.Wires.{Wire, wire_octets}
use Rattle.node_mail.specs.Lists.{Letter, Lists, answer_to, hear_at, letter_of, offer}
use Rattle.node_mail.specs.Kills.{HoldsMailOnceOrKilled}
use Rattle.node_mail.specs.Runs.{MailRun, Written}
use Rattle.mail_records.specs.declared.record.Record.{Record}
use Rattle.mail_box.specs.Boxes.{BoxState, after_all, new_box, with_room}
use Rattle.mail_box.specs.Inputs.{Input, Posts, Hears, record_of}
use Rattle.mail_box.specs.Runs.{Ending, found_after, is_told}

-- each post with the records that an opening of its log finds, None for a node without a post, and all messages that were
-- ever written
pub record Net : Type 0 where
  pub found_at : Callsign → Option (List Record)
  pub written : List Written

-- what may happen
pub data Event : Type 0 where
  -- a user asks a post for something
  Asks : (post : Callsign) → (input : Input) → (ending : Ending) → Event
  -- a post writes a queued mail to its destination
  Offers : (post : Callsign) → (number : ℕ) → Event
  -- a node without a post writes anything to any node
  Says : (node to : Callsign) → (octets : List ℕ) → Event
  -- a post hears a message that was written to it, and where that is done its answer is written or dropped
  Receives : (which : ℕ) → (ending : Ending) → (answered : Bool) → Event

-- calls of users are calls, and what is heard was written before
abbrev pub IsUsers : Input → Type 0
IsUsers (Posts user dest text) = IsCallsign user.letters user.ssid
IsUsers (Hears from octets) = ⊥
IsUsers _ = Unit {0}

abbrev pub IsEvent : Event → Type 0
IsEvent (Asks post input ending) = IsUsers input
IsEvent _ = Unit {0}

abbrev pub with_found : Net → Callsign → List Record → Net
with_found w post found = record w { found_at = λ c. if same_call c post then Some found else w.found_at c }

abbrev pub with_written : Net → Callsign → Callsign → List ℕ → Net
with_written w writer addressee octets =
    record w { written = w.written ++ record { writer = writer; addressee = addressee; octets = octets } ∷ [] }

-- the post that is opened over what is found
abbrev pub opened : Callsign → Option (List Record) → Option BoxState
opened own None = None
opened own (Some found) = after_all (new_box own) found

-- and what is found
abbrev pub records_in : Option (List Record) → List Record
records_in None = []
records_in (Some found) = found

abbrev pub asks : Net → Callsign → Input → Ending → List Record → Option BoxState → Net
asks w post input ending found None = w
asks w post input ending found (Some b) = with_found w post (found_after found (record_of b input) ending)

abbrev pub offers_letter : Net → Callsign → Option Letter → Net
offers_letter w post None = w
offers_letter w post (Some l) = with_written w post l.dest (wire_octets (offer l))

abbrev pub offers : Net → Callsign → ℕ → Option BoxState → Net
offers w post number None = w
offers w post number (Some b) = offers_letter w post (letter_of number b.lists.queued)

abbrev pub says : Net → Callsign → Callsign → List ℕ → Option (List Record) → Net
says w node to octets None = with_written w node to octets
says w node to octets (Some found) = w

abbrev pub answers : Net → Written → Bool → Option Wire → Net
answers w m answered None = w
answers w m answered (Some wire) = if answered then with_written w m.addressee m.writer (wire_octets wire) else w

abbrev pub receives_by : Net → Written → Ending → Bool → List Record → Option BoxState → Net
receives_by w m ending answered found None = w
receives_by w m ending answered found (Some b) =
    let input = Hears m.writer m.octets in
    answers (with_found w m.addressee (found_after found (record_of b input) ending)) m (is_told ending && answered)
    (answer_to (with_room b (hear_at b.lists m.writer m.octets)))

abbrev pub receives : Net → Ending → Bool → Option Written → Net
receives w ending answered None = w
receives w ending answered (Some m) =
    let found = w.found_at m.addressee in
    receives_by w m ending answered (records_in found) (opened m.addressee found)

abbrev pub happens : Net → Event → Net
happens w (Asks post input ending) =
    asks w post input ending (records_in (w.found_at post)) (opened post (w.found_at post))
happens w (Offers post number) = offers w post number (opened post (w.found_at post))
happens w (Says node to octets) = says w node to octets (w.found_at node)
happens w (Receives which ending answered) = receives w ending answered (slice_get w.written which)

-- the nodes that pass the test have a post, with an empty log
abbrev pub begin : (Callsign → Bool) → Net
begin has_post = record { found_at = λ c. if has_post c then Some [] else None; written = [] }

abbrev pub run : List Event → Net → Net
run [] w = w
run (e ∷ es) w = run es (happens w e)

abbrev pub mail_in : Option BoxState → Option Lists
mail_in None = None
mail_in (Some b) = Some b.lists

-- the mail of the posts that are opened over what is found
abbrev pub mail_of_posts : Net → MailRun
mail_of_posts w = record { store_of = λ c. mail_in (opened c (w.found_at c)); written = w.written }

-- Between all posts each mail that was posted is queued, or stored once, with its user and its text, or was stored and killed.
abbrev pub MailIsStoredOnceOverLogs : Type 0
MailIsStoredOnceOverLogs =
    (has_post : Callsign → Bool) (events : List Event) →
    AllByRecursion IsEvent events → HoldsMailOnceOrKilled (mail_of_posts (run events (begin has_post)))
