use Rattle.std.proofs.Common.{◌≡◌, ◌-◌, ◌++◌, ◌∙◌, ℕ, List, ap, arith, length, length-append, refl, sym}
use Rattle.std.specs.Prelude.{Option, Some, None}
use Rattle.std.specs.Option.{option_map}
use Rattle.radio_base.specs.declared.payload.Payload.{Payload}
use Rattle.ax_link.specs.Opening.{facts_of}
use Rattle.ax_link.specs.Standing.{LinkView, StandsFor}
use Rattle.ax_link.specs.State as links
use Rattle.link_table.specs.Standing.{LentStands, held_of}
use Rattle.link_table.specs.Table.{Linked}
use Rattle.link_table.specs.declared.link_of.LinkOf.{LinkOf}
use Rattle.station_looks.specs.Nodes.{seen_link, told_of}
use Rattle.station_looks.proofs.nodes.link_of.Goals as goal

-- what waits is what was accepted and isn't acknowledged
held_is : (before queue : List Payload) (acked : ℕ) → length before ≡ acked → length queue ≡ length (before ++ queue) - acked
held_is before queue acked e = omega (arith, e, length-append before queue)

-- a link tells of itself what is seen of the one that it stands for
told_is : (size : ℕ) (h : LinkView) (s : links.State) → StandsFor size h s → told_of (facts_of h) ≡ (s.phase, length s.given - s.acked)
told_is size h s t =
    ap (λ (n : ℕ). (h.phase, n)) (held_is t.keeps.before h.queue h.acked t.keeps.acked)
    ∙ ap (λ (x : links.State). (x.phase, length x.given - x.acked)) (sym t.keeps.is)

lent_is : (k : LinkOf) (o : Option Linked) → LentStands (Some k) o → Some (told_of (facts_of (held_of k))) ≡ option_map seen_link o
lent_is k None t = absurd t
lent_is k (Some l) t = ap Some (told_is _ (held_of k) l.link t)

none_is : (o : Option Linked) → LentStands None o → None ≡ option_map seen_link o
none_is None t = refl
none_is (Some l) t = absurd t

pub returns-in-Some : goal.returns-in-Some
returns-in-Some c = λ n t.
    ap (λ f. Some (told_of f)) c.facts_of.ensures ∙ lent_is c.in-Some.link.now _ (c.in-Some.ensures n.station.links (c.links.ensures.stands n t))

pub returns-in-None : goal.returns-in-None
returns-in-None c = λ n t. none_is _ (c.in-None.ensures n.station.links (c.links.ensures.stands n t))
