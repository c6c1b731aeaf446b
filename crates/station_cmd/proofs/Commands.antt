-- Words ask for a command, or for none.
use Rattle.std.proofs.Common.{◌≡◌, ◌≤◌, ◌<◌, ◌∙◌, ℕ, List, [], ◌∷◌, refl, sym, ap, length, get_or, drop, arith, inl, inr, String, Global}
use Rattle.std.specs.Prelude.{Option, Some, None, codes, string_bytes}
use Rattle.circuit_l4.specs.declared.pair.Pair.{Pair}
use Rattle.station_cmd.specs.Words.{Ask, Asked, Check, Run, Try, pair_at, texts_of}

-- ---- words and their texts

pub front_word : (words : List (String Global)) (word : String Global) (first : List ℕ) → 1 ≤ length words → word ≡ get_or words 0 word → first ≡ string_bytes word
    → first ∷ texts_of (drop 1 words) ≡ texts_of words
front_word [] word first h is text = absurd (omega (arith, h))
front_word (w ∷ ws) word first h is text = ap (λ t. t ∷ texts_of ws) (text ∙ ap string_bytes is)

pub one_file : (words : List (String Global)) (file : String Global) (text : List ℕ) → length words ≡ 1 → file ≡ get_or words 0 file → text ≡ string_bytes file
    → texts_of words ≡ text ∷ []
one_file [] file text h is e = absurd (omega (arith, h))
one_file (w ∷ []) file text h is e = ap (λ t. t ∷ []) (sym (e ∙ ap string_bytes is))
one_file (w ∷ v ∷ vs) file text h is e = absurd (omega (arith, h))

pub two_texts : (words : List (String Global)) (file pair : String Global) (text number : List ℕ) → length words ≡ 2 → file ≡ get_or words 0 file
    → pair ≡ get_or words 1 pair → text ≡ string_bytes file → number ≡ string_bytes pair → texts_of words ≡ text ∷ number ∷ []
two_texts [] file pair text number h is was e f = absurd (omega (arith, h))
two_texts (w ∷ []) file pair text number h is was e f = absurd (omega (arith, h))
two_texts (w ∷ v ∷ []) file pair text number h is was e f =
    ap (λ t. t ∷ string_bytes v ∷ []) (sym (e ∙ ap string_bytes is)) ∙ ap (λ t. text ∷ t ∷ []) (sym (f ∙ ap string_bytes was))
two_texts (w ∷ v ∷ u ∷ us) file pair text number h is was e f = absurd (omega (arith, h))

-- ---- no command

run_or_try : (more files : List (List ℕ)) → codes "run" ∷ more ≡ codes "try" ∷ files → ⊥
run_or_try more files e = let first : 114 ≡ 116 = ap (λ ws. get_or (get_or ws 0 []) 0 0) e in omega (arith, first)

pub no_words : (words : List (String Global)) → length words < 1 → (a : Asked) → Ask (texts_of words) a → ⊥
no_words [] h (Check file) asks = cc asks
no_words [] h (Run file pair) asks = cc asks.1
no_words [] h (Try files) asks = cc asks.0
no_words (w ∷ ws) h a asks = absurd (omega (arith, h))

pub other_word : (word : List ℕ) (more : List (List ℕ)) → (word ≡ codes "check" → ⊥) → (word ≡ codes "run" → ⊥) → (word ≡ codes "try" → ⊥) → (a : Asked) → Ask (word ∷ more) a → ⊥
other_word word more c r t (Check file) asks = let e : word ≡ codes "check" = cc asks in c e
other_word word more c r t (Run file pair) asks = let e : word ≡ codes "run" = cc asks.1 in r e
other_word word more c r t (Try files) asks = let e : word ≡ codes "try" = cc asks.0 in t e

pub no_check : (more : List (List ℕ)) → (length more ≡ 1 → ⊥) → (a : Asked) → Ask (codes "check" ∷ more) a → ⊥
no_check more many (Check file) asks = let e : more ≡ file ∷ [] = cc asks in many (ap length e)
no_check more many (Run file pair) asks = cc asks.1
no_check more many (Try files) asks = cc asks.0

pub no_run : (more : List (List ℕ)) → (length more ≡ 1 → ⊥) → (length more ≡ 2 → ⊥) → (a : Asked) → Ask (codes "run" ∷ more) a → ⊥
no_run more one two (Check file) asks = cc asks
no_run more one two (Run file pair) asks =
    let e : more ≡ asks.0 = cc asks.1 in
    elim asks.2 [ inl alone ↦ one (ap length (e ∙ alone.0)) | inr named ↦ two (ap length (e ∙ named.1)) ]
no_run more one two (Try files) asks = run_or_try more files asks.0

pub bad_pair : (file word : List ℕ) → None ≡ pair_at word → (a : Asked) → Ask (codes "run" ∷ file ∷ word ∷ []) a → ⊥
bad_pair file word none (Check other) asks = cc asks
bad_pair file word none (Run other pair) asks =
    let e : file ∷ word ∷ [] ≡ asks.0 = cc asks.1 in
    elim asks.2 [
      | inl alone ↦ cc (e ∙ alone.0)
      | inr named ↦
          let same : word ≡ named.0 = cc (e ∙ named.1) in
          cc (none ∙ (ap pair_at same ∙ named.2))
    ]
bad_pair file word none (Try files) asks = run_or_try (file ∷ word ∷ []) files asks.0

pub no_try : (more : List (List ℕ)) → (1 ≤ length more → length more ≤ 8 → ⊥) → (a : Asked) → Ask (codes "try" ∷ more) a → ⊥
no_try more few (Check file) asks = cc asks
no_try more few (Run file pair) asks = run_or_try asks.0 more (sym asks.1)
no_try more few (Try files) asks =
    let e : more ≡ files = cc asks.0 in
    few (omega (arith, asks.1, ap length e)) (omega (arith, asks.2, ap length e))
