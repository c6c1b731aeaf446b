-- The words of `ip` ask for one gateway at most.
use Rattle.std.proofs.Common.{◌≡◌, ◌≤◌, ◌++◌, ◌∙◌, ℕ, sym, ap, subst, List, [], ◌∷◌, length, map, drop, get_or, arith, String, Global}
use Rattle.std.specs.Prelude.{string_bytes, Some}
use Rattle.std.proofs.Math.Bridge.{le_prop}
use Rattle.ax_ip.specs.Machine.{State}
use Rattle.ax_ip.specs.declared.route.IpRoute.{IpRoute}
use Rattle.tool_cmd.specs.declared.ip.texts.RouteText.{RouteText}
use Rattle.tool_cmd.specs.IpWords.{AddsRoute, Adds, IsGateway, start_at}

made : (prefix len hop : ℕ) → len ≤ 32 → IpRoute
made prefix len hop bits = record { prefix = prefix; len = len; hop = hop; bits = bits }

made_again : (prefix hop l m : ℕ) → l ≡ m → (b : l ≤ 32) (c : m ≤ 32) → made prefix l hop b ≡ made prefix m hop c
made_again prefix hop l m e b c = subst (λ (k : ℕ). (ks : k ≤ 32) → made prefix l hop b ≡ made prefix k hop ks) e (λ ks. ap (made prefix l hop) (le_prop b ks)) c

same_route : (a b : IpRoute) → a.prefix ≡ b.prefix → a.len ≡ b.len → a.hop ≡ b.hop → a ≡ b
unfolding made
same_route a b p l h =
    let first : a ≡ made b.prefix a.len a.hop a.bits = ap (λ k. made k a.len a.hop a.bits) p in
    let second : made b.prefix a.len a.hop a.bits ≡ made b.prefix a.len b.hop a.bits = ap (λ k. made b.prefix a.len k a.bits) h in
    first ∙ second ∙ made_again b.prefix b.hop a.len b.len l a.bits b.bits

one_route : (word : List ℕ) (old new new' : State) → AddsRoute word old new → AddsRoute word old new' → new ≡ new'
one_route word old new new' a b =
    let same : a.text ≡ b.text = cc (a.spelled, b.spelled) in
    let prefix : a.route.prefix ≡ b.route.prefix = a.parts.has_prefix ∙ (ap (λ (t : RouteText). t.prefix) same ∙ sym b.parts.has_prefix) in
    let len : a.route.len ≡ b.route.len = a.parts.has_len ∙ (ap (λ (t : RouteText). t.len) same ∙ sym b.parts.has_len) in
    let hop : a.route.hop ≡ b.route.hop = a.parts.has_hop ∙ (ap (λ (t : RouteText). t.hop) same ∙ sym b.parts.has_hop) in
    a.last ∙ (ap (λ r. record old { routes = old.routes ++ r ∷ [] }) (same_route a.route b.route prefix len hop) ∙ sym b.last)

-- one route more, and others behind it
pub adds_next : (word : List ℕ) (later : List (List ℕ)) (old next new : State) → AddsRoute word old next → Adds (word ∷ later) old new → Adds later next new
adds_next word later old next new a b = subst (λ s. Adds later s new) (one_route word old b.0 next b.1 a) b.2

-- where the routes behind the first one aren't taken in, all aren't
pub none_later : (words : List (String Global)) (word : String Global) (old next : State) → 1 ≤ length words → word ≡ get_or words 0 word → AddsRoute (string_bytes word) old next
    → ((s : State) → ¬ Adds (map (λ w. string_bytes w) (drop 1 words)) next s) → (s : State) → ¬ Adds (map (λ w. string_bytes w) words) old s
none_later [] word old next some is adds none s a = absurd (omega (arith, some))
none_later (w ∷ later) word old next some is adds none s a = none s (adds_next (string_bytes w) (map (λ v. string_bytes v) later) old next s (subst (λ v. AddsRoute (string_bytes v) old next) is adds) a)

-- where the routes aren't taken in at the start that the first two words give, the words are no gateway's
pub none_of : (words : List (String Global)) (call addr : String Global) (start : State) → 2 ≤ length words → call ≡ get_or words 0 call → addr ≡ get_or words 1 addr
    → start_at (string_bytes call) (string_bytes addr) ≡ Some start → ((s : State) → ¬ Adds (map (λ w. string_bytes w) (drop 2 words)) start s)
    → (s : State) → ¬ IsGateway (map (λ w. string_bytes w) words) s
none_of [] call addr start some c a is none s g = absurd g
none_of (w ∷ []) call addr start some c a is none s g = absurd g
none_of (w ∷ v ∷ later) call addr start some c a is none s g =
    let at : start_at (string_bytes w) (string_bytes v) ≡ Some start = subst (λ x. start_at (string_bytes x) (string_bytes v) ≡ Some start) c (subst (λ x. start_at (string_bytes call) (string_bytes x) ≡ Some start) a is) in
    let same : g.0 ≡ start = cc (g.1, at) in
    none s (subst (λ x. Adds (map (λ u. string_bytes u) later) x s) same g.2)

same_adds : (words : List (List ℕ)) (old new new' : State) → Adds words old new → Adds words old new' → new ≡ new'
same_adds [] old new new' a b = a ∙ sym b
same_adds (word ∷ later) old new new' a b = same_adds later a.0 new new' a.2 (adds_next word later old a.0 new' a.1 b)

pub same_gateway : (words : List (List ℕ)) (s t : State) → IsGateway words s → IsGateway words t → s ≡ t
same_gateway [] s t g h = absurd g
same_gateway (call ∷ []) s t g h = absurd g
same_gateway (call ∷ addr ∷ later) s t g h =
    let start : g.0 ≡ h.0 = cc (g.1, h.1) in
    same_adds later h.0 s t (subst (λ x. Adds later x s) start g.2) h.2
