-- A text that waits at a link is taken and dropped.
use Rattle.std.proofs.Common.{◌≡◌, ◌∙◌, ℕ, refl, ap, List, [], ◌∷◌, slice_get}
use Rattle.std.specs.Prelude.{if◌then◌else◌, Bool, true, false, is_some, Some, None}
use Rattle.ax_address.specs.Callsign.{Callsign}
use Rattle.link_table.specs.Standing.{text_given}
use Rattle.node_model.specs.Links as links
use Rattle.node_model.specs.Serving.{drop_first, drop_text, dropped_peers}
use Rattle.node_model.specs.States.{State, at_links}
use Rattle.node_model.proofs.Settled as settled
use Rattle.node_model.specs.Turns.{Turn, idle}

abbrev pub dropped_at : ℕ → Callsign → State → Turn State
dropped_at now peer n = record { did = links.has_text peer n.links; after = at_links (links.take_text peer now) n }

first_by : (now : ℕ) (n : State) (peer : Callsign) (peers : List Callsign) → Some peer ≡ slice_get peers 0 → drop_first now peers n ≡ dropped_at now peer n
first_by now n peer [] p = absurd (cc p)
first_by now n peer (q ∷ peers) p = let same : q ≡ peer = cc p in ap (λ (c : Callsign). dropped_at now c n) same

-- unless the node hosts users
pub first_dropped : (now : ℕ) (n : State) (peer : Callsign) → n.settings.hosts ≡ false → Some peer ≡ slice_get (links.text_peers n.links) 0 → drop_text now n ≡ dropped_at now peer n
first_dropped now n peer e p =
    ap (λ (b : Bool). drop_first now (if b then [] else links.text_peers n.links) n) e ∙ first_by now n peer (links.text_peers n.links) p

-- then nothing is done
pub none_hosted : (now : ℕ) (n : State) → n.settings.hosts ≡ true → drop_text now n ≡ idle n
none_hosted now n e = ap (λ (b : Bool). drop_first now (if b then [] else links.text_peers n.links) n) e

none_by : (now : ℕ) (n : State) (peers : List Callsign) → None ≡ slice_get peers 0 → (drop_first now peers n).after ≡ n
none_by now n [] p = refl
none_by now n (q ∷ peers) p = absurd (cc p)

-- no text waits at a link
pub none_dropped : (now : ℕ) (n : State) → None ≡ slice_get (links.text_peers n.links) 0 → (drop_text now n).after ≡ n
none_dropped now n p = none_by now n (dropped_peers n) (settled.none_dropped n p)

pub given_some : (b : Bool) (out : List ℕ) → is_some (text_given b out) ≡ b
given_some true out = refl
given_some false out = refl
