-- What an end tells, one thing after another.
use Rattle.std.specs.Prelude.{◌≡◌, ℕ, Bool, true, false, not, ◌||◌, List, [], ◌∷◌, drop, slice_get, Option, Some, None, refl}
use Rattle.std.proofs.Common.{sym, ◌∙◌, ap, subst}
use Rattle.std.specs.Option.{option_to_list}
use Rattle.ax_address.specs.Callsign.{Callsign}
use Rattle.circuit_l4.specs.declared.notice.EndNotice.{EndNotice}
use Rattle.circuit_l4.specs.declared.phase.EndPhase.{EndPhase}
use Rattle.circuit_l4.specs.declared.phase.EndPhase.TheVariants.{Connecting, Up, Closing, Ended}
use Rattle.circuit_l4.specs.Opening.{facts_of}
use Rattle.circuit_l4.specs.declared.facts.EndFacts.{EndFacts}
use Rattle.circuit_l4.specs.State.{Effect, Out, State}
use Rattle.circuit_l4.specs.Standing.{IsDrained, EndView, Stands, StandsFor}
use Rattle.circuit_table.specs.declared.holder.Holder.{Holder}
use Rattle.circuit_table.specs.Sets as sets
use Rattle.circuit_table.specs.Sets.{CircuitTold, is_over}
use Rattle.circuit_table.specs.Pumps.{is_empty}
use Rattle.circuit_table.specs.Standing.{Keeps, datagram_by, if_so, untold_of}

outs_of_end : (m : EndView) (g : Effect) → Stands m g → g.outs ≡ m.outs
outs_of_end m g s = ap (λ (x : Effect). x.outs) s.is

notes_of_end : (m : EndView) (g : Effect) → Stands m g → g.notes ≡ option_to_list m.notice
notes_of_end m g s = ap (λ (x : Effect). x.notes) s.is

not_empty : (b : Bool) (t : CircuitTold) → not b ≡ is_empty (if_so b t)
not_empty true t = refl
not_empty false t = refl

module _ (own : Callsign) (ttl id : ℕ) (k : Holder) (h : sets.Holder) (told : List CircuitTold) (s : Keeps own ttl id k h told) (u : k.unannounced ≡ false) where
  pub silent : (b : Bool) → IsDrained k.end → b ≡ (k.discarded || is_over s.going.end) → not b ≡ is_empty told
  silent b d e =
      let outs : s.going.outs ≡ [] = outs_of_end k.end s.going s.stands ∙ d.outs in
      let notes : s.going.notes ≡ [] = notes_of_end k.end s.going s.stands ∙ ap option_to_list d.notice in
      let is : untold_of own ttl id k s.going ≡ if_so (k.discarded || is_over s.going.end) (sets.Gone id (facts_of s.going.end)) = simp (u, outs, notes) refl in
      ap not e ∙ not_empty (k.discarded || is_over s.going.end) (sets.Gone id (facts_of s.going.end)) ∙ ap is_empty (sym is) ∙ ap is_empty (sym s.untold)

  loud_case : (os : List Out) (n : Option EndNotice) → k.end.outs ≡ os → k.end.notice ≡ n → (IsDrained k.end → ⊥) → false ≡ is_empty told
  loud_case (o ∷ os) n e f d =
      let outs : s.going.outs ≡ o ∷ os = outs_of_end k.end s.going s.stands ∙ e in
      let is : is_empty (untold_of own ttl id k s.going) ≡ false = simp (u, outs) refl in
      sym is ∙ ap is_empty (sym s.untold)
  loud_case [] (Some n) e f d =
      let outs : s.going.outs ≡ [] = outs_of_end k.end s.going s.stands ∙ e in
      let notes : s.going.notes ≡ n ∷ [] = notes_of_end k.end s.going s.stands ∙ ap option_to_list f in
      let is : is_empty (untold_of own ttl id k s.going) ≡ false = simp (u, outs, notes) refl in
      sym is ∙ ap is_empty (sym s.untold)
  loud_case [] None e f d = absurd (d (record { outs = e; notice = f }))

  pub loud : (IsDrained k.end → ⊥) → false ≡ is_empty told
  loud d = loud_case k.end.outs k.end.notice refl refl d

  first_out : (o : Out) (os : List Out) → Some o ≡ slice_get os 0 → os ≡ o ∷ drop 1 os
  first_out o [] e = absurd (cc e)
  first_out o (p ∷ os) e = let same : o ≡ p = cc e in ap (λ q. q ∷ os) (sym same)

  no_out : (os : List Out) → None ≡ slice_get os 0 → os ≡ []
  no_out [] e = refl
  no_out (p ∷ os) e = absurd (cc e)

  pub out : (o : Out) (m2 : EndView) → Some o ≡ slice_get k.end.outs 0 → m2 ≡ record k.end { outs = drop 1 k.end.outs }
      → (x : CircuitTold) × (xs : List CircuitTold) × (told ≡ x ∷ xs) × (Some (sets.Sent id o.1 (datagram_by own ttl k.at o.0)) ≡ Some x) × Keeps own ttl id (record k { end = m2 }) h xs
  out o m2 first rest =
      let g : Effect = s.going in
      let m3 : EndView = record k.end { outs = drop 1 k.end.outs } in
      let g2 : Effect = record g { outs = drop 1 k.end.outs } in
      let k3 : Holder = record k { end = m3 } in
      let outs : g.outs ≡ o ∷ drop 1 k.end.outs = outs_of_end k.end g s.stands ∙ first_out o k.end.outs first in
      let st : Stands m3 g2 = record {
        written = s.stands.written;
        came = s.stands.came;
        sending = s.stands.sending;
        receiving = s.stands.receiving;
        within = s.stands.within;
        is = ap (λ (x : Effect). record x { outs = drop 1 k.end.outs }) s.stands.is;
      } in
      let all : untold_of own ttl id k g ≡ sets.Sent id o.1 (datagram_by own ttl k.at o.0) ∷ untold_of own ttl id k3 g2 = simp (u, outs) refl in
      let keeps : Keeps own ttl id k3 h (untold_of own ttl id k3 g2) = record { going = g2; stands = st; is = s.is; pair = s.pair; taken = s.taken; met = s.met; untold = refl } in
      (sets.Sent id o.1 (datagram_by own ttl k.at o.0), untold_of own ttl id k3 g2, s.untold ∙ all, refl, subst (λ (m : EndView). Keeps own ttl id (record k { end = m }) h (untold_of own ttl id k3 g2)) (sym rest) keeps)

  pub told_notice : (n : EndNotice) (m1 m2 : EndView) → None ≡ slice_get k.end.outs 0 → m1 ≡ record k.end { outs = drop 1 k.end.outs } → Some n ≡ m1.notice → m2 ≡ record m1 { notice = None }
      → (x : CircuitTold) × (xs : List CircuitTold) × (told ≡ x ∷ xs) × (Some (sets.Notice id n) ≡ Some x) × Keeps own ttl id (record k { end = m2 }) h xs
  told_notice n m1 m2 none first some rest =
      let g : Effect = s.going in
      let empty : k.end.outs ≡ [] = no_out k.end.outs none in
      let m3 : EndView = record k.end { outs = drop 1 k.end.outs; notice = None } in
      let g2 : Effect = record g { outs = drop 1 k.end.outs; notes = [] } in
      let k3 : Holder = record k { end = m3 } in
      let notice : k.end.notice ≡ Some n = ap (λ (m : EndView). m.notice) (sym first) ∙ sym some in
      let outs : g.outs ≡ [] = outs_of_end k.end g s.stands ∙ empty in
      let left : drop 1 k.end.outs ≡ [] = ap (drop 1) empty in
      let notes : g.notes ≡ n ∷ [] = notes_of_end k.end g s.stands ∙ ap option_to_list notice in
      let st : Stands m3 g2 = record {
        written = s.stands.written;
        came = s.stands.came;
        sending = s.stands.sending;
        receiving = s.stands.receiving;
        within = s.stands.within;
        is = ap (λ (x : Effect). record x { outs = drop 1 k.end.outs; notes = [] }) s.stands.is;
      } in
      let all : untold_of own ttl id k g ≡ sets.Notice id n ∷ untold_of own ttl id k3 g2 = simp (u, outs, left, notes) refl in
      let keeps : Keeps own ttl id k3 h (untold_of own ttl id k3 g2) = record { going = g2; stands = st; is = s.is; pair = s.pair; taken = s.taken; met = s.met; untold = refl } in
      let same : m2 ≡ m3 = rest ∙ ap (λ (m : EndView). record m { notice = None }) first in
      (sets.Notice id n, untold_of own ttl id k3 g2, s.untold ∙ all, refl, subst (λ (m : EndView). Keeps own ttl id (record k { end = m }) h (untold_of own ttl id k3 g2)) (sym same) keeps)

  gone_case : (b : Bool) → told ≡ if_so b (sets.Gone id (facts_of s.going.end)) → is_empty told ≡ false → (b ≡ true) × (told ≡ sets.Gone id (facts_of s.going.end) ∷ [])
  gone_case true e some = (refl, e)
  gone_case false e some = let none : is_empty told ≡ true = ap is_empty e in absurd (cc (sym none ∙ some))

  pub told_gone : (facts : EndFacts) (m1 m2 : EndView) → is_empty told ≡ false → None ≡ slice_get k.end.outs 0 → m1 ≡ record k.end { outs = drop 1 k.end.outs } → None ≡ m1.notice → m2 ≡ record m1 { notice = None }
      → ((x : State) → StandsFor m2 x → facts ≡ facts_of x) → (x : CircuitTold) × (xs : List CircuitTold) × (told ≡ x ∷ xs) × (Some (sets.Gone id facts) ≡ Some x) × ((xs ≡ []) × (h.gone ≡ true))
  told_gone facts m1 m2 some none first empty rest f =
      let g : Effect = s.going in
      let quiet : k.end.outs ≡ [] = no_out k.end.outs none in
      let outs : g.outs ≡ [] = outs_of_end k.end g s.stands ∙ quiet in
      let notice : k.end.notice ≡ None = ap (λ (m : EndView). m.notice) (sym first) ∙ sym empty in
      let notes : g.notes ≡ [] = notes_of_end k.end g s.stands ∙ ap option_to_list notice in
      let all : untold_of own ttl id k g ≡ if_so (k.discarded || is_over g.end) (sets.Gone id (facts_of g.end)) = simp (u, outs, notes) refl in
      let last = gone_case (k.discarded || is_over g.end) (s.untold ∙ all) some in
      let same : m2 ≡ record k.end { outs = drop 1 k.end.outs; notice = None } = rest ∙ ap (λ (m : EndView). record m { notice = None }) first in
      let stands : StandsFor (record k.end { outs = drop 1 k.end.outs; notice = None }) g.end = record {
        written = s.stands.written;
        came = s.stands.came;
        sending = s.stands.sending;
        receiving = s.stands.receiving;
        within = s.stands.within;
        is = ap (λ (x : Effect). x.end) s.stands.is;
      } in
      let is : facts ≡ facts_of g.end = f g.end (subst (λ (m : EndView). StandsFor m g.end) (sym same) stands) in
      (sets.Gone id (facts_of g.end), [], last.1, ap (λ (y : EndFacts). Some (sets.Gone id y)) is, (refl, ap (λ (x : sets.Holder). x.gone) s.is ∙ last.0))

pub no_first : (o : Option Out) → ((x : Out) → o ≡ Some x → ⊥) → None ≡ o
no_first None f = refl
no_first (Some x) f = absurd (f x refl)

pub others : (p : EndPhase) → (p ≡ Ended → ⊥) → false ≡ sets.has_ended p
others Connecting f = refl
others Up f = refl
others Closing f = refl
others Ended f = absurd (f refl)
