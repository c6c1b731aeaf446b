-- An outcome that isn't NoMemory is an answer.
use Rattle.std.proofs.Common.{◌≡◌, refl, false}
use Rattle.std.specs.Prelude.{Result, Ok, Err}
use Rattle.node_core.specs.declared.acts.ActDone.{ActDone}
use Rattle.node_core.specs.declared.acts.ActRefusal.{ActRefusal}
use Rattle.node_core.specs.declared.acts.ActRefusal.TheVariants as refusal
use Rattle.node_core.specs.Acts.{wants_memory}
use Rattle.node_core.specs.Standing.{IsAnswer}

-- The code's test finds NoMemory alone.
pub is_answer : (r : Result ActDone ActRefusal) → false ≡ wants_memory r → IsAnswer r
is_answer (Ok _) f = tt
is_answer (Err refusal.NoMemory) f = absurd (cc f)
is_answer (Err refusal.NoEnd) f = tt
is_answer (Err refusal.Served) f = tt
is_answer (Err refusal.Nothing) f = tt
is_answer (Err refusal.Own) f = tt
is_answer (Err refusal.NoRoute) f = tt
is_answer (Err refusal.Full) f = tt
is_answer (Err refusal.TooLow) f = tt
is_answer (Err (refusal.TableFull live would_be)) f = tt
is_answer (Err (refusal.Write why)) f = tt
is_answer (Err refusal.NoLink) f = tt
is_answer (Err refusal.Standing) f = tt
is_answer (Err refusal.TooLong) f = tt
is_answer (Err refusal.NoRoom) f = tt

pub answer_is : (r : Result ActDone ActRefusal) → IsAnswer r → wants_memory r ≡ false
answer_is (Ok _) a = refl
answer_is (Err refusal.NoMemory) a = absurd a
answer_is (Err refusal.NoEnd) a = refl
answer_is (Err refusal.Served) a = refl
answer_is (Err refusal.Nothing) a = refl
answer_is (Err refusal.Own) a = refl
answer_is (Err refusal.NoRoute) a = refl
answer_is (Err refusal.Full) a = refl
answer_is (Err refusal.TooLow) a = refl
answer_is (Err (refusal.TableFull live would_be)) a = refl
answer_is (Err (refusal.Write why)) a = refl
answer_is (Err refusal.NoLink) a = refl
answer_is (Err refusal.Standing) a = refl
answer_is (Err refusal.TooLong) a = refl
answer_is (Err refusal.NoRoom) a = refl
