-- One more end is made: what is kept then stands for the notes with that of the end.
use Rattle.std.proofs.Common.{◌≡◌, ◌∙◌, ap, refl, ℕ, List, [], ◌∷◌, ◌++◌}
use Rattle.std.specs.Prelude.{◌&&◌, cond, nat_eq, Option, Some, is_some}
use Rattle.indexmap.specs.IndexMap.{get}
use Rattle.ax_address.specs.Callsign.{Callsign, same_call}
use Rattle.circuit_l4.specs.declared.pair.Pair.{Pair}
use Rattle.circuit_table.specs.Sets.{same_pair}
use Rattle.circuit_set.specs.Books.{MadeNote}
use Rattle.circuit_table.specs.Events.{Name, same_name}
use Rattle.circuit_verdict.specs.declared.ends.Ends.{Ends}
use Rattle.circuit_verdict.specs.Lists.{list_in}
use Rattle.circuit_verdict.specs.Ends.{EndsStand, fresh_note, partner_after_joining, key_of, made_note, note_in, same_call_pair, same_node_pair, with_facing}
use Rattle.circuit_verdict.proofs.Made.{given_made, note_made, partner_made}

-- from before to given, noted and joined
pub record Makes (before given noted joined_then : Ends) (end : Name) (own : Callsign) (pair : Pair) (r : Option Name) : Type 0 where
  pub gives : given ≡ record before { last_made = given.last_made; given = given.given }
  pub last : (call : Callsign) (p : Pair) → get same_call_pair given.last_made (record { own = call; pair = key_of p })
      ≡ cond (same_call own call && same_pair pair p) (Some end) (get same_call_pair before.last_made (record { own = call; pair = key_of p }))
  pub lists : (node : ℕ) (p : Pair) → list_in (get same_node_pair given.given.lists (record { node = node; pair = key_of p }))
      ≡ cond (nat_eq end.node node && same_pair pair p) (list_in (get same_node_pair before.given.lists (record { node = end.node; pair = key_of pair })) ++ end ∷ [])
      (list_in (get same_node_pair before.given.lists (record { node = node; pair = key_of p })))
  pub notes : noted ≡ record given { notes = noted.notes }
  pub noting : (ms : List MadeNote) → ((x : Name) → get same_name given.notes x ≡ note_in ms x)
      → (x : Name) → get same_name noted.notes x ≡ cond (same_name end x) (Some (fresh_note (is_some r) ms end)) (note_in ms x)
  pub joins : joined_then ≡ record noted { partners = joined_then.partners; facing = joined_then.facing }
  pub partners : (x : Name) → get same_name joined_then.partners x ≡ partner_after_joining end r x (get same_name noted.partners x)
  pub faces : (x : Name) → list_in (get same_name joined_then.facing.lists x) ≡ with_facing end r x (list_in (get same_name noted.facing.lists x))

pub made_stands : (before given noted joined_then : Ends) (end : Name) (own : Callsign) (pair : Pair) (r : Option Name) (ms : List MadeNote) (lost : List Name)
    → Makes before given noted joined_then end own pair r → EndsStand before ms lost → EndsStand joined_then (made_note end own pair r ∷ ms) lost
made_stands before given noted joined_then end own pair r ms lost m s =
    let notes_given = ap (λ (e : Ends). e.notes) m.gives in
    let notes_then = ap (λ (e : Ends). e.notes) m.joins in
    let partners_noted = ap (λ (e : Ends). e.partners) m.notes ∙ ap (λ (e : Ends). e.partners) m.gives in
    let facing_noted = ap (λ (e : Ends). e.facing) m.notes ∙ ap (λ (e : Ends). e.facing) m.gives in
    let lost_then = ap (λ (e : Ends). e.lost) m.joins ∙ ap (λ (e : Ends). e.lost) m.notes ∙ ap (λ (e : Ends). e.lost) m.gives in
    let last_then = ap (λ (e : Ends). e.last_made) m.joins ∙ ap (λ (e : Ends). e.last_made) m.notes in
    let given_then = ap (λ (e : Ends). e.given) m.joins ∙ ap (λ (e : Ends). e.given) m.notes in
    record {
      notes = λ x. rw notes_then (m.noting ms (λ y. rw notes_given (s.notes y)) x ∙ note_made end x own pair r ms);
      partners = λ x. m.partners x ∙ rw (partners_noted, s.partners x) (partner_made end x own pair r ms);
      gone = λ x. rw lost_then (s.gone x);
      last = λ call p. rw last_then (m.last call p ∙ rw (s.last call p) refl);
      given = λ node p. rw given_then (m.lists node p ∙ rw (s.given end.node pair, s.given node p) (given_made end node own pair p r ms));
      facing = λ x. m.faces x ∙ rw (facing_noted, s.facing x) refl;
    }
