-- In a conversation all epochs are safe, and they stay so when another one begins.
use Rattle.std.proofs.Common.{◌≡◌, inl, inr, ◌≤◌, ◌<◌, ℕ, zero, suc, Bool, true, false, nat_eq, List, [], ◌∷◌, ◌++◌, length, Some, slice_get, refl, ap, sym, ◌∙◌, subst, arith, length-append}
use Rattle.std.proofs.lemmas.Bool.Decides.{nat_tests}
use Rattle.ax_link.specs.Pair.{Both, core}
use Rattle.link_life.specs.Ends.{End, Epoch, epochs, lasting, partner_of}
use Rattle.link_life.specs.Laws.{EpochSafe, EpochsSafe, WithPartner}
use Rattle.link_life.proofs.Talks.{Part, Rest, Side, Stand, Talk, both_swapped, epoch_of, epoch_safe, frames_in, get_end, get_in, get_other, partner_at}

suc_same : (a b : ℕ) → suc a ≡ suc b → a ≡ b
suc_same a b e = omega (arith, e)

some_same : (a b : Epoch) → Some a ≡ Some b → a ≡ b
some_same a b e = cc e

-- an epoch with the number of the conversation is the one that takes part
is_part : (x : End) (p : Part) (heard : List ℕ) (i : ℕ) (e : Epoch) → Stand x p heard → slice_get (epochs x) i ≡ Some e → suc i ≡ p.number → e ≡ epoch_of p.core p.heard
is_part x p heard i e (inl s) g q =
    let at : i ≡ length x.over = suc_same i (length x.over) (q ∙ s.number) in
    let last : slice_get (epochs x) (length x.over) ≡ Some (epoch_of p.core p.heard) =
    subst (λ o. slice_get (x.over ++ lasting x.link o) (length x.over) ≡ Some (epoch_of p.core p.heard)) (sym s.lasts)
    (subst (λ c. slice_get (x.over ++ epoch_of (core x.link) p.heard ∷ []) (length x.over) ≡ Some (epoch_of c p.heard)) (sym s.core) (get_end x.over (epoch_of (core x.link) p.heard))) in
    some_same e (epoch_of p.core p.heard) (sym g ∙ (ap (λ k. slice_get (epochs x) k) at ∙ last))
is_part x p heard i e (inr (inl s)) g q =
    let l : i < length (x.over ++ lasting x.link x.heard) = get_in (epochs x) i e g in
    let m : i < length (x.over ++ []) = subst (λ o. i < length (x.over ++ lasting x.link o)) s.lasts l in
    let n = s.number in
    let none : List Epoch = [] in
    absurd (omega (arith, m, n, q, length-append x.over none))
is_part x p heard i e (inr (inr (inl s))) g q = some_same e (epoch_of p.core p.heard) (sym g ∙ (ap (λ k. slice_get (epochs x) k) (suc_same i s.before (q ∙ s.number)) ∙ s.epoch))
is_part x p heard i e (inr (inr (inr s))) g q = let n = s.number in absurd (omega (arith, n, q))

-- of one side
side_safe : (x y : End) (p q : Part) → Side x y p q → Side y x q p → Both p.core q.core (frames_in p.hears) (frames_in q.hears) → EpochsSafe (epochs x) (epochs y)
side_safe x y p q s t b i e g = by (nat_eq (suc i) p.number) refl
  where
    by : (c : Bool) → nat_eq (suc i) p.number ≡ c → EpochSafe (suc i) e (epochs y)
    by true w =
        let n : suc i ≡ p.number = grind (arith, nat_tests, w) in
        subst (λ d. EpochSafe (suc i) d (epochs y)) (sym (is_part x p q.heard i e s.stand g n))
        (subst (λ m. EpochSafe m (epoch_of p.core p.heard) (epochs y)) (sym n)
        (epoch_safe p.number q.number p.core q.core p.heard q.heard (frames_in p.hears) (frames_in q.hears) (epochs y) b s.heard t.heard s.alone (partner_at y q p.heard t.stand)))
    by false w = (s.rest i e g (λ n. grind (arith, nat_tests, w, n))).safe

pub talk_safe : (x y : End) → Talk x y → EpochsSafe (epochs x) (epochs y) × EpochsSafe (epochs y) (epochs x)
talk_safe x y t = (
  side_safe x y t.near t.far t.one t.two t.sound,
  side_safe y x t.far t.near t.two t.one (both_swapped t.near.core t.far.core (frames_in t.near.hears) (frames_in t.far.hears) t.sound),
)

-- ---- epochs beside a conversation

partner_in : (p n : ℕ) (e : Epoch) (others : List Epoch) → WithPartner p n e others → p ≤ length others
partner_in zero n e others w = omega arith
partner_in (suc j) n e others w = let l = get_in others j w.0 w.1 in omega (arith, l)

-- safe epochs leave a new number to the other end
pub rest_new : (n k : ℕ) (es others : List Epoch) → EpochsSafe es others → length others < k → Rest n k es others
rest_new n k es others s l i e g m =
    record { safe = s i e g; apart = λ z q. let w = partner_in (partner_of e.heard) (suc i) e others (s i e g).partner in absurd (omega (arith, w, q, l)) }

same_partner : (p n k : ℕ) (e : Epoch) (others others2 : List Epoch) → (0 < p → p ≡ k → ⊥) → ((i : ℕ) → (suc i ≡ k → ⊥) → slice_get others i ≡ slice_get others2 i) → WithPartner p n e others → WithPartner p n e others2
same_partner zero n k e others others2 a s w = w
same_partner (suc j) n k e others others2 a s w = (w.0, sym (s j (λ q. a (omega arith) q)) ∙ w.1, w.2)

-- the other end's conversation goes on
pub rest_kept : (n k : ℕ) (es others others2 : List Epoch) → ((i : ℕ) → (suc i ≡ k → ⊥) → slice_get others i ≡ slice_get others2 i) → Rest n k es others → Rest n k es others2
rest_kept n k es others others2 s r i e g m =
    let o = r i e g m in
    record { safe = record { heard = o.safe.heard; partner = same_partner (partner_of e.heard) (suc i) k e others others2 o.apart s o.safe.partner }; apart = o.apart }

-- and so does that of this end
pub rest_moved : (n k : ℕ) (es fs others : List Epoch) → ((i : ℕ) → (suc i ≡ n → ⊥) → slice_get es i ≡ slice_get fs i) → Rest n k es others → Rest n k fs others
rest_moved n k es fs others s r i e g m = r i e (s i m ∙ g) m

-- one more epoch
pub rest_begun : (k : ℕ) (es others : List Epoch) (new : Epoch) → EpochsSafe es others → length others < k → Rest (suc (length es)) k (es ++ new ∷ []) others
rest_begun k es others new s l = rest_moved (suc (length es)) k es (es ++ new ∷ []) others (λ i m. get_other es new i (λ e. m (ap suc e))) (rest_new (suc (length es)) k es others s l)
