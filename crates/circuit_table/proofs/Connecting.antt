-- What is answered to a user that asks for a circuit, by what was tested.
use Rattle.std.specs.Prelude.{◌≡◌, ℕ, Bool, true, false, not, if◌then◌else◌, List, Option, Some, None, is_some, is_none, Result, Ok, Err, OnOk, refl}
use Rattle.std.proofs.Common.{sym, ◌∙◌, ap, subst}
use Rattle.ax_address.specs.Callsign.{Callsign, same_call}
use Rattle.route_table.specs.Log.{Item}
use Rattle.route_table.specs.Held.{TableRoutes, StandsFor}
use Rattle.route_table.specs.Table.{next_hop}
use Rattle.circuit_table.specs.declared.refusal.ConnectRefusal.{ConnectRefusal}
use Rattle.circuit_table.specs.declared.refusal.ConnectRefusal.TheVariants as refusal
use Rattle.circuit_table.specs.CircuitSets.{Circuits, GoesBy, SetStands}
use Rattle.circuit_table.specs.Pumps.{acts, at_rest}
use Rattle.circuit_table.specs.Sets.{Connect, ConnectFor}

-- the answer by its three tests: the node is this one, no route leads to it, no further end can be held
abbrev answer : Bool → Bool → Bool → ℕ → Result ℕ ConnectRefusal
answer own none full n = if own then Err refusal.Own else (if none then Err refusal.NoRoute else (if full then Err refusal.Full else Ok n))

pub is_own : (own none full : Bool) (n : ℕ) → own ≡ true → Err refusal.Own ≡ answer own none full n
is_own true none full n h = refl
is_own false none full n h = cc h

pub is_unrouted : (own none full : Bool) (n : ℕ) → own ≡ false → none ≡ true → Err refusal.NoRoute ≡ answer own none full n
is_unrouted true none full n p h = cc p
is_unrouted false true full n p h = refl
is_unrouted false false full n p h = cc h

pub is_filled : (own none full : Bool) (n : ℕ) → own ≡ false → none ≡ false → full ≡ true → Err refusal.Full ≡ answer own none full n
is_filled true none full n p q h = cc p
is_filled false true full n p q h = cc q
is_filled false false true n p q h = refl
is_filled false false false n p q h = cc h

pub is_given : (own none full : Bool) (m n : ℕ) → own ≡ false → none ≡ false → full ≡ false → m ≡ n → Ok m ≡ answer own none full n
is_given true none full m n p q r h = cc p
is_given false true full m n p q r h = cc q
is_given false false true m n p q r h = cc r
is_given false false false m n p q r h = ap Ok h

-- the tests as the code makes them
pub own_read : (node here own : Callsign) (at : Callsign) (b : Bool) → here ≡ own → at ≡ own → b ≡ same_call node at → same_call node here ≡ b
own_read node here own at b p q is = ap (same_call node) (p ∙ sym q) ∙ sym is

none_by : (hop : Option Callsign) (b : Bool) → is_some hop ≡ not b → is_none hop ≡ b
none_by None true h = refl
none_by None false h = cc h
none_by (Some n) true h = cc h
none_by (Some n) false h = refl

pub none_read : (node : Callsign) (log : List Item) (table here : TableRoutes) (hop : Option Callsign) (b : Bool) →
    here ≡ table → StandsFor table log → ((log : List Item) → StandsFor here log → hop ≡ next_hop here.rules log node) → is_some hop ≡ not b →
    is_none (next_hop table.rules log node) ≡ b
none_read node log table here hop b same stands found is =
    let at : hop ≡ next_hop here.rules log node = found log (subst (λ (t : TableRoutes). StandsFor t log) (sym same) stands) in
    ap is_none (sym (at ∙ ap (λ (t : TableRoutes). next_hop t.rules log node) same)) ∙ none_by hop b is

-- ---- in whose name

-- what is asked for in the name of the set's user is asked for by the set
pub own_user : {C : Type 0} (r : Result ℕ ConnectRefusal) (old new : Circuits C) (user dest : Callsign) (now : ℕ) → user ≡ old.held.user → OnOk r (GoesBy (ConnectFor user dest now) old new)
    → OnOk r (GoesBy (Connect dest now) old new)
own_user (Ok id) old new user dest now e g = record {
  stands = λ s st. subst (λ (u : Callsign). SetStands new (acts (ConnectFor u dest now) (at_rest s))) (e ∙ sym st.ends.user) (g.stands s st);
  router = g.router;
}
own_user (Err why) old new user dest now e g = tt
