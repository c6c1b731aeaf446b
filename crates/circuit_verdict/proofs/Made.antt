-- What one more end makes of what is read off the notes.
use Rattle.std.proofs.Common.{◌≡◌, ℕ, refl, ap, sym, ◌∙◌, List, [], ◌∷◌, ◌++◌}
use Rattle.std.specs.Prelude.{Bool, true, false, not, ◌&&◌, ◌||◌, cond, if◌then◌else◌, nat_eq, Option, Some, None, is_some}
use Rattle.std.proofs.lemmas.Bool.{eqb-true, and_parts}
use Rattle.ax_address.specs.Callsign.{Callsign}
use Rattle.circuit_l4.specs.declared.pair.Pair.{Pair}
use Rattle.circuit_l4.specs.declared.notice.EndNotice.{EndNotice}
use Rattle.circuit_table.specs.Sets.{same_pair}
use Rattle.circuit_set.specs.NotedRuns.{opened_window, told_to}
use Rattle.circuit_table.specs.Events.{Name, same_name}
use Rattle.circuit_set.specs.Books.{MadeNote, first_name, is_some_name, is_unknown, partner_in, was_asked, any_ends}
use Rattle.circuit_set.proofs.Bridge.{same_names}
use Rattle.circuit_set.proofs.Noted.{pairs_same}
use Rattle.circuit_verdict.specs.declared.ends.EndNote.{EndNote}
use Rattle.circuit_verdict.specs.Ends.{fresh_note, given_in, is_going, is_made, partner_after_joining, made_note, note_in, note_is_going, note_of, with_facing}
use Rattle.circuit_verdict.proofs.Tests.{not_not}

-- none but an end that was made was opened by a request, and none but one that was made is going
without : (b c a rest : Bool) → b || c ≡ false → (c ≡ false → rest ≡ false) → (b && a) || rest ≡ false
without true c a rest e none = absurd (cc e)
without false c a rest e none = none e

pub unasked : (ms : List MadeNote) (x : Name) → is_made ms x ≡ false → was_asked ms x ≡ false
unasked [] x e = refl
unasked (m ∷ ms) x e = without (same_name m.who x) (is_made ms x) (not (is_unknown m.partner)) (was_asked ms x) e (λ f. unasked ms x f)

pub not_going : (ms : List MadeNote) (x : Name) → is_made ms x ≡ false → is_going ms x ≡ false
not_going [] x e = refl
not_going (m ∷ ms) x e = without (same_name m.who x) (is_made ms x) (not (any_ends m.told)) (is_going ms x) e (λ f. not_going ms x f)

going_by : (made : Bool) (n : EndNote) (g : Bool) → n.ended ≡ not g → (made ≡ false → g ≡ false) → note_is_going (if made then Some n else None) ≡ g
going_by true n g e none = ap not e ∙ not_not g
going_by false n g e none = sym (none refl)

pub going_kept : (ms : List MadeNote) (x : Name) → note_is_going (note_in ms x) ≡ is_going ms x
going_kept ms x = going_by (is_made ms x) (note_of ms x) (is_going ms x) refl (λ e. not_going ms x e)

asked_by : (r : Option Name) → not (is_unknown r) ≡ is_some r
asked_by None = refl
asked_by (Some y) = refl

note_made_by : (b : Bool) (x y : Name) (own : Callsign) (pair : Pair) (r : Option Name) (ms : List MadeNote) → same_name x y ≡ b
    → cond b (Some (fresh_note (is_some r) ms x)) (note_in ms y) ≡ note_in (made_note x own pair r ∷ ms) y
note_made_by true x y own pair r ms e = rw (e, same_names x y e, asked_by r) refl
note_made_by false x y own pair r ms e = rw e refl

pub note_made : (x y : Name) (own : Callsign) (pair : Pair) (r : Option Name) (ms : List MadeNote)
    → cond (same_name x y) (Some (fresh_note (is_some r) ms x)) (note_in ms y) ≡ note_in (made_note x own pair r ∷ ms) y
note_made x y own pair r ms = note_made_by (same_name x y) x y own pair r ms refl

joined_by : (b : Bool) (r : Option Name) (p : Option Name) (x y : Name)
    → (elim r as (λ s. Option Name) [ None ↦ p | Some z ↦ if same_name z y then Some x else (if b then Some z else p) ])
    ≡ (if is_some_name r y then Some x else first_name (if b then r else None) p)
joined_by true None p x y = refl
joined_by false None p x y = refl
joined_by true (Some z) p x y = refl
joined_by false (Some z) p x y = refl

joined_cases : (end : Name) (r : Option Name) (y : Name) (p : Option Name)
    → partner_after_joining end r y p ≡ (elim r as (λ s. Option Name) [ None ↦ p | Some z ↦ if same_name z y then Some end else (if same_name end y then Some z else p) ])
joined_cases end None y p = refl
joined_cases end (Some z) y p = refl

pub partner_made : (x y : Name) (own : Callsign) (pair : Pair) (r : Option Name) (ms : List MadeNote)
    → partner_after_joining x r y (partner_in ms y) ≡ partner_in (made_note x own pair r ∷ ms) y
partner_made x y own pair r ms = joined_cases x r y (partner_in ms y) ∙ joined_by (same_name x y) r (partner_in ms y) x y

given_by : (b : Bool) (x : Name) (node : ℕ) (own : Callsign) (pair p : Pair) (r : Option Name) (ms : List MadeNote) → nat_eq x.node node && same_pair pair p ≡ b
    → cond b (given_in ms x.node pair ++ x ∷ []) (given_in ms node p) ≡ (if b then given_in ms node p ++ x ∷ [] else given_in ms node p)
given_by true x node own pair p r ms e =
    let both = and_parts (nat_eq x.node node) (same_pair pair p) e in
    rw (eqb-true x.node node both.0, pairs_same pair p both.1) refl
given_by false x node own pair p r ms e = refl

pub given_made : (x : Name) (node : ℕ) (own : Callsign) (pair p : Pair) (r : Option Name) (ms : List MadeNote)
    → cond (nat_eq x.node node && same_pair pair p) (given_in ms x.node pair ++ x ∷ []) (given_in ms node p) ≡ given_in (made_note x own pair r ∷ ms) node p
given_made x node own pair p r ms = given_by (nat_eq x.node node && same_pair pair p) x node own pair p r ms refl

unmade_by : (made : Bool) (n : EndNote) → (if made then Some n else None) ≡ None → made ≡ false
unmade_by true n e = absurd (cc e)
unmade_by false n e = refl

-- an end of which nothing is noted was opened by no request
pub unasked_none : (ms : List MadeNote) (x : Name) → note_in ms x ≡ None → was_asked ms x ≡ false
unasked_none ms x e = unasked ms x (unmade_by (is_made ms x) (note_of ms x) e)

-- ---- two ends become partners ----
at_own : (b : Bool) (k x i : Name) (f : Name → List Name) → same_name k x ≡ b → cond b (f k ++ i ∷ []) (f x) ≡ (if b then f x ++ i ∷ [] else f x)
at_own true k x i f e = rw (same_names k x e) refl
at_own false k x i f e = refl

pub facing_pushed : (end r x : Name) (old mid new : Name → List Name)
    → ((k : Name) → mid k ≡ cond (same_name end k) (old end ++ r ∷ []) (old k))
    → ((k : Name) → new k ≡ cond (same_name r k) (mid r ++ end ∷ []) (mid k))
    → new x ≡ with_facing end (Some r) x (old x)
facing_pushed end r x old mid new first second =
    second x ∙ at_own (same_name r x) r x end mid refl
    ∙ ap (λ (xs : List Name). if same_name r x then xs ++ end ∷ [] else xs) (first x ∙ at_own (same_name end x) end x r old refl)

untold_by : (b c : Bool) (told rest : List EndNotice) → b || c ≡ false → (c ≡ false → rest ≡ []) → (if b then told else rest) ≡ []
untold_by true c told rest e none = absurd (cc e)
untold_by false c told rest e none = none e

untold : (ms : List MadeNote) (x : Name) → is_made ms x ≡ false → told_to ms x ≡ []
untold [] x e = refl
untold (m ∷ ms) x e = untold_by (same_name m.who x) (is_made ms x) m.told (told_to ms x) e (λ f. untold ms x f)

-- nor was a window told to it
pub unopened : (ms : List MadeNote) (x : Name) → note_in ms x ≡ None → opened_window (told_to ms x) ≡ None
unopened ms x e = rw (untold ms x (unmade_by (is_made ms x) (note_of ms x) e)) refl
