-- Three words give the settings of one life at most.
use Rattle.std.proofs.Common.{◌≡◌, ◌∙◌, ◌≤◌, ℕ, sym, ap, refl, List, [], ◌∷◌, length, get_or, arith, inl, inr, Bool, true, false}
use Rattle.std.specs.Prelude.{nat_eq}
use Rattle.std.specs.Fmt.{decimal}
use Rattle.std.proofs.lemmas.Bool.Decides.{nat_tests}
use Rattle.std.proofs.lemmas.Fmt.{decimal_injective}
use Rattle.tool_cmd.specs.declared.lives.settings.LifeSettings.{LifeSettings}
use Rattle.radio_base.specs.declared.modulus.LinkModulus.{LinkModulus}
use Rattle.radio_base.specs.declared.modulus.LinkModulus.TheVariants.{Modulo8, Modulo128}
use Rattle.tool_cmd.specs.Frames.{modulo_word}
use Rattle.tool_cmd.specs.LifeWords.{Among, AreSettings, delay_word, srej_word}

-- the first character of a word
abbrev pub first_char : List ℕ → ℕ
first_char [] = 0
first_char (b ∷ bs) = b

-- words that begin differently are two
apart : (v w : List ℕ) (m n : ℕ) → first_char v ≡ m → first_char w ≡ n → nat_eq m n ≡ false → v ≡ w → ⊥
apart v w m n vm wn two e = let same : first_char v ≡ first_char w = ap first_char e in grind (arith, nat_tests, two, same, vm, wn)

modulo_m : (m : LinkModulus) → first_char (modulo_word m) ≡ 109
modulo_m Modulo8 = refl
modulo_m Modulo128 = refl

srej_s : (b : Bool) → first_char (srej_word b) ≡ 115
srej_s false = refl
srej_s true = refl

delay_d : (d : ℕ) → first_char (delay_word d) ≡ 100
delay_d d = refl

-- where of three words one is p, one q and one r, no two the same, a word among them that is neither q nor r is p
one_place : (x y z p q r p' : List ℕ) → Among p (x ∷ y ∷ z ∷ []) → Among q (x ∷ y ∷ z ∷ []) → Among r (x ∷ y ∷ z ∷ []) → Among p' (x ∷ y ∷ z ∷ [])
    → (p ≡ q → ⊥) → (p ≡ r → ⊥) → (q ≡ r → ⊥) → (p' ≡ q → ⊥) → (p' ≡ r → ⊥) → p ≡ p'
one_place x y z p q r p' a b c d pq pr qr p'q p'r = grind (arith, a, b, c, d, pq, pr, qr, p'q, p'r)

same_modulo : (m n : LinkModulus) → modulo_word m ≡ modulo_word n → m ≡ n
same_modulo Modulo8 Modulo8 e = refl
same_modulo Modulo8 Modulo128 e = absurd (cc e)
same_modulo Modulo128 Modulo8 e = absurd (cc e)
same_modulo Modulo128 Modulo128 e = refl

same_srej : (b c : Bool) → srej_word b ≡ srej_word c → b ≡ c
same_srej false false e = refl
same_srej false true e = let last : 48 ≡ 49 = ap (λ w. get_or w 5 0) e in absurd (omega (arith, last))
same_srej true false e = let last : 49 ≡ 48 = ap (λ w. get_or w 5 0) e in absurd (omega (arith, last))
same_srej true true e = refl

same_delay : (d e : ℕ) → d ≤ 1499 → e ≤ 1499 → delay_word d ≡ delay_word e → d ≡ e
same_delay d e few less is = let same : decimal d ≡ decimal e = cc is in decimal_injective d e (omega (arith, few)) (omega (arith, less)) same

same_settings : (s t : LifeSettings) → s.modulus ≡ t.modulus → s.srej ≡ t.srej → s.delay ≡ t.delay → s ≡ t
same_settings s t m b d =
    let first : s ≡ record s { modulus = t.modulus } = ap (λ m'. record s { modulus = m' }) m in
    let second : record s { modulus = t.modulus } ≡ record t { delay = s.delay } = ap (λ b'. record t { delay = s.delay; srej = b' }) b in
    first ∙ (second ∙ ap (λ d'. record t { delay = d' }) d)

pub one_settings : (words : List (List ℕ)) (s t : LifeSettings) → AreSettings words s → AreSettings words t → s ≡ t
unfolding AreSettings
one_settings [] s t a b = absurd a.1
one_settings (x ∷ []) s t a b = absurd (omega (arith, a.0))
one_settings (x ∷ y ∷ []) s t a b = absurd (omega (arith, a.0))
one_settings (x ∷ y ∷ z ∷ w ∷ ws) s t a b = absurd (omega (arith, a.0))
one_settings (x ∷ y ∷ z ∷ []) s t a b =
    let ms : (m : LinkModulus) (b : Bool) → modulo_word m ≡ srej_word b → ⊥ = λ m b. apart _ _ 109 115 (modulo_m m) (srej_s b) refl in
    let md : (m : LinkModulus) (d : ℕ) → modulo_word m ≡ delay_word d → ⊥ = λ m d. apart _ _ 109 100 (modulo_m m) (delay_d d) refl in
    let sd : (b : Bool) (d : ℕ) → srej_word b ≡ delay_word d → ⊥ = λ b d. apart _ _ 115 100 (srej_s b) (delay_d d) refl in
    let modulo = one_place x y z (modulo_word s.modulus) (srej_word s.srej) (delay_word s.delay) (modulo_word t.modulus) a.1 a.2 a.3 b.1
    (ms s.modulus s.srej) (md s.modulus s.delay) (sd s.srej s.delay) (ms t.modulus s.srej) (md t.modulus s.delay) in
    let srej = one_place x y z (srej_word s.srej) (modulo_word s.modulus) (delay_word s.delay) (srej_word t.srej) a.2 a.1 a.3 b.2
    (λ e. ms s.modulus s.srej (sym e)) (sd s.srej s.delay) (md s.modulus s.delay) (λ e. ms s.modulus t.srej (sym e)) (sd t.srej s.delay) in
    let delay = one_place x y z (delay_word s.delay) (modulo_word s.modulus) (srej_word s.srej) (delay_word t.delay) a.3 a.1 a.2 b.3
    (λ e. md s.modulus s.delay (sym e)) (λ e. sd s.srej s.delay (sym e)) (ms s.modulus s.srej) (λ e. md s.modulus t.delay (sym e)) (λ e. sd s.srej t.delay (sym e)) in
    same_settings s t (same_modulo s.modulus t.modulus modulo) (same_srej s.srej t.srej srej) (same_delay s.delay t.delay a.4 b.4 delay)
