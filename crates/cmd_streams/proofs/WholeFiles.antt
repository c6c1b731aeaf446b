-- A file that was read to its end.
use Rattle.std.proofs.Common.{◌∙◌, ℕ, ap, subst, List, ◌++◌, append-nil, arith}
use Rattle.std.specs.Prelude.{IsSomeAnd, Option, Some, None}
use Rattle.std.specs.Io.KnownBytes.{Consumes, IsAtEnd}
use Rattle.cmd_streams.specs.Reading.{ReadsAll, TellsFile, TellsTooMuch}
use Rattle.cmd_streams.specs.Told.{StreamsTold, told}

-- what is told but for the source
abbrev pub output : StreamsTold → StreamsTold
output t = told None None 0 t.written t.write_faults t.notes t.note_faults

-- a source that tells its bytes told those that were read to its end
told_whole : (a b : Option (List ℕ)) (bytes : List ℕ) (P : List ℕ → Type 0) → Consumes a b bytes → IsAtEnd b → IsSomeAnd a P → P bytes
told_whole None b bytes P c e t = absurd t
told_whole (Some xs) None bytes P c e t = absurd c
told_whole (Some xs) (Some ys) bytes P c e t = subst P (c ∙ (ap (λ zs. bytes ++ zs) e ∙ append-nil bytes)) t

module _ (old new : Option (List ℕ)) (bytes : List ℕ) (all : ReadsAll old new bytes) where
  -- what the source tells of its file holds of what was read
  pub file_told : (P : List ℕ → Type 0) → TellsFile old P → P bytes
  file_told P tells = (told_whole old new bytes _ all.taken all.ended tells).1

  -- and it doesn't tell more than a file may have
  pub not_too_much : TellsTooMuch old → ⊥
  not_too_much tells =
      let more = told_whole old new bytes _ all.taken all.ended tells in
      let few = all.fits in
      omega arith
