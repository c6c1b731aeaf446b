-- Reads of a stream, one after another.
use Rattle.std.proofs.Common.{◌≡◌, ◌++◌, ◌∙◌, ◌≤◌, arith, ℕ, List, [], ◌∷◌, refl, sym, ap, append_assoc, append-nil, length, false}
use Rattle.std.specs.Prelude.{Option, Some, None, ◌≢◌, ◌==◌}
use Rattle.std.proofs.lemmas.Bool.Decides.{nat_tests}
use Rattle.std.proofs.lemmas.List.{length-append, map-append}
use Rattle.std.proofs.lemmas.List.Elements.{All-append, All-cons, All-nil}
use Rattle.std.specs.Io.KnownBytes.{Appends, Consumes}
use Rattle.std.proofs.KnownBytes.{Appends-trans, Consumes-trans}
use Rattle.radio_base.specs.Causes.{Gains}
use Rattle.radio_base.specs.Streams.{size_noted}
use Rattle.cmd_streams.specs.Answering.{WhyNoAnswer}
use Rattle.cmd_streams.specs.Told.{AppendsFront}
use Rattle.cmd_streams.specs.declared.streams.StreamRefusal.{StreamRefusal}
use Rattle.cmd_streams.specs.declared.streams.StreamRefusal.TheVariants.{ReadFault, WriteFault, TooLong, NoMemory}
use Rattle.cmd_streams.specs.Streams.{Read, Input, Takes, IsRead, WhyUnanswered, bytes_of, sizes_of, moments_of, read_of, max_stream}

-- the bytes of reads, and of one more
pub bytes_of-more : (reads : List Read) (bytes : List ℕ) (now : ℕ) → bytes_of (reads ++ read_of bytes now ∷ []) ≡ bytes_of reads ++ bytes
bytes_of-more [] bytes now = append-nil bytes
bytes_of-more (read ∷ later) bytes now = ap (λ bs. read.bytes ++ bs) (bytes_of-more later bytes now) ∙ sym (append_assoc read.bytes (bytes_of later) bytes)

-- what is told grows twice
pub gains-trans : (a b c : Option (List ℕ)) (xs ys : List ℕ) → Gains a b xs → Gains b c ys → Gains a c (xs ++ ys)
gains-trans None b c xs ys first second = rw first at second
gains-trans (Some a) None c xs ys first second = rw second (omega (arith, first, length-append xs ys))
gains-trans (Some a) (Some b) None xs ys first second = omega (arith, second, ap length first, length-append a xs, length-append xs ys)
gains-trans (Some a) (Some b) (Some c) xs ys first second = second ∙ (ap (λ zs. zs ++ ys) first ∙ append_assoc a xs ys)

-- a read that gave bytes is noted with their number
pub noted_one : (n : ℕ) → n ≢ 0 → size_noted n ≡ n ∷ []
noted_one n some = let e : (n == 0) ≡ false = grind (arith, nat_tests) in rw e refl

-- one read more came, and a moment behind it
pub takes-more : (most : ℕ) (before mid after : Input) (reads : List Read) (bytes : List ℕ) (now n : ℕ) → Takes most before mid reads → Consumes mid.left after.left bytes → Appends mid.sizes after.sizes (size_noted n) → Gains mid.moments after.moments (now ∷ []) → n ≢ 0 → length bytes ≡ n → n ≤ most → Takes most before after (reads ++ read_of bytes now ∷ [])
takes-more most before mid after reads bytes now n taken left sizes moments some long few =
    record {
      bytes = rw (bytes_of-more reads bytes now) (Consumes-trans _ _ _ (bytes_of reads) bytes taken.bytes left);
      sizes = rw (map-append (λ (read : Read). length read.bytes) reads (read_of bytes now ∷ [])) (rw long (Appends-trans _ _ _ (sizes_of reads) (n ∷ []) taken.sizes (rw (noted_one n some) at sizes)));
      moments = rw (map-append (λ (read : Read). read.now) reads (read_of bytes now ∷ [])) (gains-trans _ _ _ (moments_of reads) (now ∷ []) taken.moments moments);
      each = All-append (IsRead most) reads (read_of bytes now ∷ []) taken.each (All-cons (IsRead most) (read_of bytes now) [] (omega (arith, long), omega (arith, long)) (All-nil (IsRead most)));
    }

-- a front of what comes behind what was written is a front of all
pub front-behind : (w w' w'' : Option (List ℕ)) (text more : List ℕ) → Appends w w' text → AppendsFront w' w'' more → AppendsFront w w'' (text ++ more)
front-behind w w' w'' text more written after =
    record {
      front = text ++ after.front;
      rest = after.rest;
      whole = ap (λ xs. text ++ xs) after.whole ∙ sym (append_assoc text after.front after.rest);
      written = Appends-trans _ _ _ _ _ written after.written;
    }

-- why the last read wasn't answered is why the stream wasn't
pub unanswered : (T : Type 0) (took : T → List Read → List ℕ → Type 0) (t t' : T) (most : ℕ) (before after : Input) (w w' w'' : Option (List ℕ)) (reads : List Read) (last : Read) (text : List ℕ) (r r' n n' n'' : ℕ) (e : StreamRefusal) → Takes most before after (reads ++ last ∷ []) → length (bytes_of reads) ≤ max_stream → length (bytes_of (reads ++ last ∷ [])) ≤ max_stream → took t reads text → Appends w w' text → r' ≡ r → n' ≡ n → WhyNoAnswer (λ more. took t' (reads ++ last ∷ []) (text ++ more)) w' w'' n' n'' e → WhyUnanswered most (λ rs xs. (x : T) × took x rs xs) before after w w'' r r' n n'' e
unanswered T took t t' most before after w w' w'' reads last text r r' n n' n'' WriteFault taken few fits had written rs ns why = (
  record { reads = reads ++ last ∷ []; text = text ++ why.0.0; taken = taken; fits = fits; answered = (t', why.0.1); front = front-behind w w' w'' text why.0.0 written why.0.2 },
  rw (← ns) why.1,
  rs,
)
unanswered T took t t' most before after w w' w'' reads last text r r' n n' n'' NoMemory taken few fits had written rs ns why =
    (record { reads = reads; last = last; text = text; taken = taken; fits = few; answered = (t, had); written = rw why.0 written }, rs, why.1 ∙ ns)
unanswered T took t t' most before after w w' w'' reads last text r r' n n' n'' ReadFault taken few fits had written rs ns why = absurd why
unanswered T took t t' most before after w w' w'' reads last text r r' n n' n'' TooLong taken few fits had written rs ns why = absurd why

-- where it is an answer whatever came before, it is one behind these reads
pub no_answer-map : (P Q : List ℕ → Type 0) (w w' : Option (List ℕ)) (n n' : ℕ) (e : StreamRefusal) → ((more : List ℕ) → P more → Q more) → WhyNoAnswer P w w' n n' e → WhyNoAnswer Q w w' n n' e
no_answer-map P Q w w' n n' WriteFault f why = ((why.0.0, f why.0.0 why.0.1, why.0.2), why.1)
no_answer-map P Q w w' n n' NoMemory f why = why
no_answer-map P Q w w' n n' ReadFault f why = why
no_answer-map P Q w w' n n' TooLong f why = why
