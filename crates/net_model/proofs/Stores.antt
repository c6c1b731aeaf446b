-- Nodes of a replay at their places, and their stores.
use Rattle.std.proofs.Common.{◌≡◌, ◌∙◌, ◌+◌, ℕ, zero, suc, ◌<◌, ◌≤◌, List, [], ◌∷◌, ◌++◌, length, Option, Some, None, refl, sym, ap, subst, arith, cond, get_or, map}
use Rattle.std.specs.Borrow.{Bor}
use Rattle.std.specs.List.{position_or_len}
use Rattle.std.specs.Option.{option_copied, option_map}
use Rattle.std.proofs.lemmas.Option.{slice_get-map}
use Rattle.std.specs.Prelude.{◌==◌, is_some, not, slice_get, slice_set}
use Rattle.node_mail.specs.Lists.{Lists, StandsFor, StoreView}
use Rattle.net_model.specs.declared.members.Member.{Member}
use Rattle.net_model.specs.Stores.{change_mail}
use Rattle.net_model.specs.Mailing.{mail_in}
use Rattle.network_file.specs.declared.plan.declarations.Declaration.{Declaration}
use Rattle.net_model.specs.Starting.{Placed, has_number}
use Rattle.net_model.specs.World.{place_of_node}
use Rattle.net_model.specs.Standing.{AreDeclared, MailStands, MemberStands, MembersStand, is_member}
use Rattle.net_model.proofs.Containing.{place_named}

-- ---- nodes at their places

pub one_behind : (ms : List Member) (ps : List Placed) (ls : List (Option Lists)) (m : Member) (p : Placed) (s : Option Lists) → MembersStand ms ps ls → MemberStands m p s
    → MembersStand (ms ++ m ∷ []) (ps ++ p ∷ []) (ls ++ s ∷ [])
one_behind [] [] [] m p s h st = (st, tt)
one_behind [] [] (l ∷ ls) m p s h st = absurd h
one_behind [] (q ∷ ps) ls m p s h st = absurd h
one_behind (n ∷ ms) [] ls m p s h st = absurd h
one_behind (n ∷ ms) (q ∷ ps) [] m p s h st = absurd h
one_behind (n ∷ ms) (q ∷ ps) (l ∷ ls) m p s h st = (h.0, one_behind ms ps ls m p s h.1 st)

pub past : (ms : List Member) (ps : List Placed) (ls : List (Option Lists)) (at : ℕ) → MembersStand ms ps ls → length ms ≤ at → mail_in at ls ≡ None
past [] [] [] at h k = refl
past [] [] (s ∷ ls) at h k = absurd h
past [] (p ∷ ps) ls at h k = absurd h
past (m ∷ ms) [] ls at h k = absurd h
past (m ∷ ms) (p ∷ ps) [] at h k = absurd h
past (m ∷ ms) (p ∷ ps) (s ∷ ls) zero h k = absurd (omega (arith, k))
past (m ∷ ms) (p ∷ ps) (s ∷ ls) (suc at) h k = past ms ps ls at h.1 (omega (arith, k))

-- the mail of the node at a place
pub stands_at : (ms : List Member) (ps : List Placed) (ls : List (Option Lists)) (at : ℕ) (d : Member) → MembersStand ms ps ls → at < length ms
    → MailStands (get_or ms at d).mail (mail_in at ls)
stands_at [] ps ls at d h k = absurd (omega (arith, k))
stands_at (m ∷ ms) [] ls at d h k = absurd h
stands_at (m ∷ ms) (p ∷ ps) [] at d h k = absurd h
stands_at (m ∷ ms) (p ∷ ps) (s ∷ ls) zero d h k = h.0.mail
stands_at (m ∷ ms) (p ∷ ps) (s ∷ ls) (suc at) d h k = stands_at ms ps ls at d h.1 (omega (arith, k))

-- ---- how nodes are declared

pub all_declared : (ms : List Member) (ps : List Placed) (ls : List (Option Lists)) → MembersStand ms ps ls → AreDeclared ms ps
all_declared [] [] ls h = refl
all_declared [] (p ∷ ps) ls h = absurd h
all_declared (m ∷ ms) [] ls h = absurd h
all_declared (m ∷ ms) (p ∷ ps) [] h = absurd h
all_declared (m ∷ ms) (p ∷ ps) (l ∷ ls) h = ap (λ d. d ∷ map (λ (x : Member). x.declared) ms) h.0.declared ∙ ap (λ ds. p.declared ∷ ds) (all_declared ms ps ls h.1)

named : (number : ℕ) (ms : List Member) → position_or_len (is_member number) ms ≡ position_or_len (has_number number) (map (λ (m : Member). m.declared) ms)
named number [] = refl
named number (m ∷ ms) = ap (λ k. cond (not (m.declared.node == number)) (1 + k) 0) (named number ms)

pub declared_place : (number : ℕ) (ms : List Member) (ps : List Placed) → AreDeclared ms ps → position_or_len (is_member number) ms ≡ place_of_node number ps
declared_place number ms ps e = named number ms ∙ (ap (position_or_len (has_number number)) e ∙ sym (place_named number ps))

pub declared_at : (ms : List Member) (ps : List Placed) (k : ℕ) → AreDeclared ms ps → option_map (λ (m : Member). m.declared) (slice_get ms k) ≡ option_map (λ (p : Placed). p.declared) (slice_get ps k)
declared_at ms ps k e =
    sym (slice_get-map (λ (m : Member). m.declared) ms k) ∙ (ap (λ (ds : List Declaration). slice_get ds k) e ∙ slice_get-map (λ (p : Placed). p.declared) ps k)

-- ---- stores

-- where a store is there
pub record Here (v : StoreView) (o : Option Lists) : Type 0 where
  pub lists : Lists
  pub there : o ≡ Some lists
  pub stands : StandsFor v lists

pub some_here : (v : StoreView) (o : Option Lists) → MailStands (Some v) o → Here v o
some_here v None h = absurd h
some_here v (Some s) h = record { lists = s; there = refl; stands = h }

pub none_there : (o : Option Lists) → MailStands None o → o ≡ None
none_there None h = refl
none_there (Some s) h = absurd h

pub copied_some : {T : Type 0} (o : Option (Bor T)) → is_some (option_copied o) ≡ is_some o
copied_some None = refl
copied_some (Some x) = refl

pub both_keep : (v : Option StoreView) (o : Option Lists) → MailStands v o → is_some v ≡ is_some o
both_keep None None h = refl
both_keep None (Some s) h = absurd h
both_keep (Some v) None h = absurd h
both_keep (Some v) (Some s) h = refl

module _ (ms : List Member) (ps : List Placed) (ls : List (Option Lists)) (at : ℕ) (d : Member) (h : MembersStand ms ps ls) (k : at < length ms) where
  pub here : (v : StoreView) → (get_or ms at d).mail ≡ Some v → Here v (mail_in at ls)
  here v e = some_here v (mail_in at ls) (subst (λ (y : Option StoreView). MailStands y (mail_in at ls)) e (stands_at ms ps ls at d h k))

  pub none_here : (get_or ms at d).mail ≡ None → mail_in at ls ≡ None
  none_here e = none_there (mail_in at ls) (subst (λ (y : Option StoreView). MailStands y (mail_in at ls)) e (stands_at ms ps ls at d h k))

set_stands : (ms : List Member) (ps : List Placed) (ls : List (Option Lists)) (at : ℕ) (d : Member) (v : StoreView) (s : Lists) → MembersStand ms ps ls → at < length ms → StandsFor v s
    → MembersStand (slice_set ms at (record (get_or ms at d) { mail = Some v })) ps (slice_set ls at (Some s))
set_stands [] ps ls at d v s h k st = absurd (omega (arith, k))
set_stands (m ∷ ms) [] ls at d v s h k st = absurd h
set_stands (m ∷ ms) (p ∷ ps) [] at d v s h k st = absurd h
set_stands (m ∷ ms) (p ∷ ps) (l ∷ ls) zero d v s h k st = (record { declared = h.0.declared; node = h.0.node; mail = st }, h.1)
set_stands (m ∷ ms) (p ∷ ps) (l ∷ ls) (suc at) d v s h k st = (h.0, set_stands ms ps ls at d v s h.1 (omega (arith, k)) st)

-- a call of the store at a place
pub called : (ms : List Member) (ps : List Placed) (ls : List (Option Lists)) (at : ℕ) (v new : StoreView) (d : Member) (f : Lists → Lists) → MembersStand ms ps ls → at < length ms
    → (get_or ms at d).mail ≡ Some v → ((s : Lists) → StandsFor v s → StandsFor new (f s))
    → MembersStand (slice_set ms at (record (get_or ms at d) { mail = Some new })) ps (change_mail at f (mail_in at ls) ls)
called ms ps ls at v new d f h k e does =
    let r = here ms ps ls at d h k v e in
    rw (r.there) (set_stands ms ps ls at d new (f r.lists) h k (does r.lists r.stands))

pub same_set : (ms : List Member) (at : ℕ) (d : Member) → at < length ms → slice_set ms at (get_or ms at d) ≡ ms
same_set [] at d k = absurd (omega (arith, k))
same_set (x ∷ ms) zero d k = refl
same_set (x ∷ ms) (suc at) d k = ap (λ ys. x ∷ ys) (same_set ms at d (omega (arith, k)))
