-- The verdict, and its cause, one JSON object a line. Own profile.
use Rattle.std.specs.Prelude.{ℕ, List, [], ◌∷◌, codes, Option, Some, None, true, false}
use Rattle.circuit_verdict.specs.declared.late.Late.{Late}
use Rattle.net_verdict.specs.declared.causes.LateCause.{LateCause}
use Rattle.net_verdict.specs.declared.sign.Sign.{Sign}
use Rattle.net_verdict.specs.declared.sign.Sign.TheVariants.{Unsent, Overtaken, Unasked, Held}
use Rattle.net_report.specs.Reports.{late_word}
use Rattle.trace_lines.specs.Json.{object, Field, Number, Truth, Word}

abbrev pub verdict_line : Option Late → List ℕ
verdict_line None = object "verdict" (Truth "late" false ∷ [])
verdict_line (Some late) = object "verdict" (Truth "late" true ∷ Number "line" late.line ∷ Word "why" (late_word late.why) ∷ [])

-- by what it shows that an event came too late
abbrev pub sign_fields : Sign → List Field
sign_fields Unsent = Word "sign" (codes "unsent") ∷ []
sign_fields (Overtaken sent overtakers allowance) =
    Word "sign" (codes "overtaken") ∷ Number "sent" sent ∷ Number "overtakers" overtakers ∷ Number "allowance" allowance ∷ []
sign_fields Unasked = Word "sign" (codes "unasked") ∷ []
sign_fields (Held node end) = Word "sign" (codes "held") ∷ Number "node" node ∷ Number "end" end ∷ []

abbrev pub cause_line : LateCause → List ℕ
cause_line cause = object "cause" (Number "event" cause.event ∷ sign_fields cause.sign)

abbrev pub cause_text : Option LateCause → List ℕ
cause_text None = []
cause_text (Some cause) = cause_line cause
