-- What a trace tells of mail, one JSON object a line. A mail is named by the number that it got where it was posted. Own profile.
use Rattle.std.specs.Prelude.{ℕ, List, [], ◌∷◌, length, Option, Some, None}
use Rattle.ax_address.specs.Callsign as calls
use Rattle.ax_address.specs.Callsign.{Callsign}
use Rattle.node_mail.specs.Lists.{Lists}
use Rattle.trace_lines.specs.declared.stands.AtNode.{AtNode}
use Rattle.trace_lines.specs.Json.{object, Field, Number, Word}
use Rattle.trace_lines.specs.Stands.{node_event}

-- where it was posted, for whom it is, and how many octets its text has
abbrev pub stored_fields : Callsign → ℕ → Callsign → ℕ → List Field
stored_fields origin mail to bytes =
    Word "origin" (calls.shown origin) ∷ Number "mail" mail ∷ Word "to" (calls.shown to) ∷ Number "bytes" bytes ∷ []

abbrev pub stored_line : AtNode → Callsign → ℕ → Callsign → ℕ → List ℕ
stored_line at origin mail to bytes = node_event "stored" at (stored_fields origin mail to bytes)

-- ---- how much a node has left, where it keeps any

abbrev pub mail_line : ℕ → ℕ → ℕ → List ℕ
mail_line node queued stored = object "mail" (Number "node" node ∷ Number "queued" queued ∷ Number "stored" stored ∷ [])

abbrev pub mail_trace : ℕ → Option Lists → List ℕ
mail_trace node None = []
mail_trace node (Some s) = mail_line node (length s.queued) (length s.stored)
