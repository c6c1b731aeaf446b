-- Why a node didn't do what a line asks for, as the line's refusal, and the word by which that is shown. Want of memory is none. Own
-- profile.
use Rattle.std.specs.Prelude.{List, [], ◌∷◌, Option, Some, None, ℕ, codes}
use Rattle.circuit_l4.specs.declared.refusal.WriteRefusal.{WriteRefusal}
use Rattle.circuit_l4.specs.declared.refusal.WriteRefusal.TheVariants as writes
use Rattle.node_core.specs.declared.acts.ActRefusal.{ActRefusal}
use Rattle.node_core.specs.declared.acts.ActRefusal.TheVariants as acts
use Rattle.node_mail.specs.declared.post_refusal.PostRefusal.{PostRefusal}
use Rattle.node_mail.specs.declared.post_refusal.PostRefusal.TheVariants as posts
use Rattle.net_model.specs.declared.refusals.LineRefusal.{LineRefusal}
use Rattle.net_model.specs.Events as events
use Rattle.net_model.specs.Events.{Event}
use Rattle.net_model.specs.declared.refusals.LineRefusal.TheVariants.{NoEnd, Served, Nothing, Own, NoRoute, Full, NotUp, Closing, Empty, TooLong, QueueFull, Exhausted, TooLow, TableFull}
use Rattle.net_model.specs.declared.refusals.LineRefusal.TheVariants as whys

abbrev pub of_write : WriteRefusal → LineRefusal
of_write writes.NotUp = NotUp
of_write writes.Closing = Closing
of_write writes.Empty = Empty
of_write writes.TooLong = TooLong
of_write writes.QueueFull = QueueFull
of_write writes.Exhausted = Exhausted

-- what a node refuses that hosts users no line asks for
abbrev pub of_act : ActRefusal → Option LineRefusal
of_act acts.NoEnd = Some NoEnd
of_act acts.Served = Some Served
of_act acts.Nothing = Some Nothing
of_act acts.Own = Some Own
of_act acts.NoRoute = Some NoRoute
of_act acts.Full = Some Full
of_act acts.TooLow = Some TooLow
of_act (acts.TableFull live would_be) = Some TableFull
of_act (acts.Write why) = Some (of_write why)
of_act acts.NoLink = Some NoEnd
of_act acts.Standing = Some Full
of_act acts.TooLong = Some TooLong
of_act acts.NoRoom = Some QueueFull
of_act acts.NoMemory = None

-- a mail isn't posted
abbrev pub of_post : PostRefusal → Option LineRefusal
of_post posts.Own = Some Own
of_post posts.Empty = Some Empty
of_post posts.TooLong = Some TooLong
of_post posts.Full = Some Full
of_post posts.Exhausted = Some Exhausted
of_post posts.NoMemory = None

-- why something isn't done is told
abbrev pub refusal_events : Option LineRefusal → List Event
refusal_events None = []
refusal_events (Some why) = events.Refused why ∷ []

-- The word by which a reason is shown. Own profile.

-- why an act wasn't done
abbrev pub word_for_why : LineRefusal → List ℕ
word_for_why whys.NoEnd = codes "no end"
word_for_why whys.Served = codes "served"
word_for_why whys.Nothing = codes "nothing"
word_for_why whys.Own = codes "own"
word_for_why whys.NoRoute = codes "no route"
word_for_why whys.Full = codes "full"
word_for_why whys.NotUp = codes "not up"
word_for_why whys.Closing = codes "closing"
word_for_why whys.Empty = codes "empty"
word_for_why whys.TooLong = codes "too long"
word_for_why whys.QueueFull = codes "queue full"
word_for_why whys.Exhausted = codes "exhausted"
word_for_why whys.TooLow = codes "too low"
word_for_why whys.TableFull = codes "table full"
word_for_why whys.NoFrame = codes "no frame"
word_for_why whys.NoChannel = codes "no channel"
word_for_why whys.Settled = codes "settled"
word_for_why whys.NotSettled = codes "not settled"
word_for_why whys.NoMail = codes "no mail"
