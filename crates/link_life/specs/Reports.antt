-- The report of a life, and the words by which it shows reasons. Own profile.
use Rattle.std.specs.Prelude.{ℕ, suc, ◌++◌, List, [], ◌∷◌, length, not, codes, Bool}
use Rattle.std.specs.Fmt.{decimal}
use Rattle.std.specs.List.{flat_map}
use Rattle.ax_address.specs.Callsign.{Callsign}
use Rattle.ax_address.specs.declared.address.Address.{Address}
use Rattle.ax_address.specs.Octets.{address_of}
use Rattle.ax_frame.specs.declared.head.Head.{Head}
use Rattle.ax_frame.specs.FrameText.{frame_text}
use Rattle.ax_link.specs.declared.notice.LinkNotice.{LinkNotice}
use Rattle.ax_link.specs.declared.notice.LinkNotice.TheVariants as notices
use Rattle.ax_link.specs.Kinds.{control_of, info_of, pid_of}
use Rattle.ax_link.specs.State.{Frame}
use Rattle.link_life.specs.declared.act.Side.{Side}
use Rattle.link_life.specs.declared.act.Side.TheVariants.{A, B}
use Rattle.link_life.specs.declared.life_refusals.LifeRefusal.{LifeRefusal}
use Rattle.link_life.specs.declared.act.NumberedAct.{NumberedAct}
use Rattle.link_life.specs.Ends.{Epoch, epochs, partner_of}
use Rattle.link_life.specs.Lives.{Life, Outcome, LifeTold, Refused, Done, act_on, after_act}
use Rattle.link_life.specs.declared.life_refusals.LifeWhat.{LifeWhat}
use Rattle.link_life.specs.declared.life_refusals.LifeWhat.TheVariants as whats
use Rattle.link_life.specs.declared.life_refusals.LifeRefusal.TheVariants.{Phase, Early, Delay, Nothing, NotUp, QueueFull, Exhausted}

-- The words by which reasons are shown. Own profile.

-- what is wrong with a line
abbrev pub word_for : LifeWhat → List ℕ
word_for whats.Many = codes "many"
word_for whats.Char = codes "char"
word_for whats.Word = codes "word"
word_for whats.Count = codes "count"
word_for whats.Number = codes "number"
word_for whats.Side = codes "side"
word_for whats.Text = codes "text"

-- why a line isn't done
abbrev pub word_of_refusal : LifeRefusal → List ℕ
word_of_refusal Phase = codes "phase"
word_of_refusal Early = codes "early"
word_of_refusal Delay = codes "delay"
word_of_refusal Nothing = codes "nothing"
word_of_refusal NotUp = codes "not up"
word_of_refusal QueueFull = codes "queue full"
word_of_refusal Exhausted = codes "exhausted"

abbrev pub letter : Side → List ℕ
letter A = codes "a"
letter B = codes "b"

-- N0AAA and N0BBB
abbrev pub call_of : Side → Callsign
call_of A = record { letters = codes "N0AAA "; ssid = 0 }
call_of B = record { letters = codes "N0BBB "; ssid = 0 }

abbrev pub other : Side → Side
other A = B
other B = A

abbrev pub notice_word : LinkNotice → List ℕ
notice_word notices.Opened = codes "opened"
notice_word notices.Reset = codes "reset"
notice_word notices.Closed = codes "closed"
notice_word notices.Refused = codes "refused"
notice_word notices.Failed = codes "failed"

-- notice S WHAT
abbrev pub notice_line : Side × LinkNotice → List ℕ
notice_line n = codes "notice " ++ (letter n.0 ++ (codes " " ++ (notice_word n.1 ++ codes "\n")))

-- took S LEN
abbrev pub took_line : Side × ℕ → List ℕ
took_line t = codes "took " ++ (letter t.0 ++ (codes " " ++ (decimal t.1 ++ codes "\n")))

abbrev pub side_address : Side → Bool → Address
side_address side bit7 = address_of (call_of side) bit7

-- who a frame of a side is to and from. A response has the C bit of the source alone (AX.25 2.2, section 6.1.2)
abbrev pub head_of : Side → Bool → Head
head_of side command =
    record { dest = side_address (other side) command; source = side_address side (not command); path = record { items = [] } }

-- air S FRAME
abbrev pub air_line : ℕ → Side × Frame → List ℕ
air_line size f =
    codes "air "
    ++ (letter f.0
    ++ (codes " "
    ++ (frame_text (record {
      head = head_of f.0 f.1.command;
      control = control_of size f.1.kind;
      pid = pid_of f.1.payload;
      info = info_of f.1.payload;
    })
    ++ codes "\n")))

-- refused L WHY
abbrev pub refused_line : ℕ → LifeRefusal → List ℕ
refused_line line refusal = codes "refused " ++ (decimal line ++ (codes " " ++ (word_of_refusal refusal ++ codes "\n")))

abbrev pub told_text : ℕ → LifeTold → List ℕ
told_text size told = flat_map notice_line told.notices ++ (flat_map took_line told.taken ++ flat_map (air_line size) told.frames)

-- what is reported of a line
abbrev pub line_text : ℕ → ℕ → Outcome Life → List ℕ
line_text size line (Refused refusal) = refused_line line refusal
line_text size line (Done told w) = told_text size told

-- given=G got=H acked=A partner=P
abbrev pub counts_text : Epoch → List ℕ
counts_text e =
    codes "given="
    ++ (decimal (length e.given)
    ++ (codes " got=" ++ (decimal (length e.received) ++ (codes " acked=" ++ (decimal e.acked ++ (codes " partner=" ++ decimal (partner_of e.heard)))))))

-- epoch S E given=G got=H acked=A partner=P
abbrev pub epoch_line : Side → ℕ → Epoch → List ℕ
epoch_line side number e = codes "epoch " ++ (letter side ++ (codes " " ++ (decimal number ++ (codes " " ++ (counts_text e ++ codes "\n")))))

-- the epochs of an end, of which the first has a number above n
abbrev pub epoch_lines : Side → ℕ → List Epoch → List ℕ
epoch_lines side n [] = []
epoch_lines side n (e ∷ es) = epoch_line side (suc n) e ++ epoch_lines side (suc n) es

abbrev pub epochs_text : Life → List ℕ
epochs_text w = epoch_lines A 0 (epochs w.a) ++ epoch_lines B 0 (epochs w.b)

-- the report: line by line, and at last the epochs
abbrev pub life_text : Life → List NumberedAct → List ℕ
life_text w [] = epochs_text w
life_text w (n ∷ ns) = line_text w.rules.size n.line (act_on n.act w) ++ life_text (after_act (act_on n.act w) w) ns
