-- Whatever a post is asked, and wherever the program ends: it is opened again over all that was told.
use Rattle.std.proofs.Common.{◌≡◌, inl, inr, List, [], ◌∷◌, ◌++◌, true, false, Option, Some, None, IsSome, is_some, refl, ap, ◌∙◌}
use Rattle.std.specs.Prelude.{option_and_then}
use Rattle.ax_address.specs.Callsign.{Callsign}
use Rattle.mail_records.specs.declared.record.Record.{Record}
use Rattle.mail_box.specs.Boxes.{BoxState, after_all, new_box}
use Rattle.mail_box.specs.Inputs.{Input, record_of}
use Rattle.mail_box.specs.Runs.{AreAmong, Asked, CutOff, Ending, Happening, IsFoundAgain, Ledger, Refused, Restarted, TellsOnlyWhatIsKept, Told, ended, happens, nothing_written, record_at, run}
use Rattle.mail_box.proofs.Keeping.{after_push}
use Rattle.mail_box.proofs.Recording.{input_follows}

-- ---- lists of records

among_more : (rs others : List Record) (r : Record) → AreAmong rs others → AreAmong rs (others ++ r ∷ [])
among_more [] others r are = tt
among_more (x ∷ rs) [] r are = absurd are
among_more (x ∷ rs) (y ∷ others) r (inl it) = inl (it.0, among_more rs others r it.1)
among_more (x ∷ rs) (y ∷ others) r (inr are) = inr (among_more (x ∷ rs) others r are)

among_last : (others : List Record) (r : Record) → AreAmong (r ∷ []) (others ++ r ∷ [])
among_last [] r = inl (refl, tt)
among_last (y ∷ others) r = inr (among_last others r)

among_both : (rs others : List Record) (r : Record) → AreAmong rs others → AreAmong (rs ++ r ∷ []) (others ++ r ∷ [])
among_both [] others r are = among_last others r
among_both (x ∷ rs) [] r are = absurd are
among_both (x ∷ rs) (y ∷ others) r (inl it) = inl (it.0, among_both rs others r it.1)
among_both (x ∷ rs) (y ∷ others) r (inr are) = inr (among_both (x ∷ rs) others r are)

-- ---- a record more

-- the record can follow on what is found
CanFollow : Callsign → List Record → Option Record → Type 0
CanFollow own found None = Unit {0}
CanFollow own found (Some r) = IsSome (after_all (new_box own) (found ++ r ∷ []))

record_case : (own : Callsign) (found : List Record) (input : Input) (o : Option BoxState) → after_all (new_box own) found ≡ o → (r : Option Record) → option_and_then (λ b. record_of b input) o ≡ r → CanFollow own found r
unfolding CanFollow
record_case own found input o e None is = tt
record_case own found input None e (Some r) is = absurd cc
record_case own found input (Some b) e (Some r) is = ap is_some (after_push (new_box own) b found r e) ∙ input_follows b input r is

module _ (own : Callsign) (l : Ledger) (is : IsFoundAgain own l) where
  ends_so : (r : Option Record) → CanFollow own l.found r → (ending : Ending) → IsFoundAgain own (ended l r ending)
  unfolding CanFollow
  ends_so None goes Told = is
  ends_so None goes Refused = is
  ends_so None goes (CutOff true) = is
  ends_so None goes (CutOff false) = is
  ends_so (Some r) goes Told =
      record { opens = goes; told = among_both l.told l.found r is.told; meant = among_both l.found l.meant r is.meant }
  ends_so (Some r) goes Refused = record { opens = is.opens; told = is.told; meant = among_more l.found l.meant r is.meant }
  ends_so (Some r) goes (CutOff true) =
      record { opens = goes; told = among_more l.told l.found r is.told; meant = among_both l.found l.meant r is.meant }
  ends_so (Some r) goes (CutOff false) = record { opens = is.opens; told = is.told; meant = among_more l.found l.meant r is.meant }

happens_so : (own : Callsign) (l : Ledger) (h : Happening) → IsFoundAgain own l → IsFoundAgain own (happens own l h)
happens_so own l (Asked input ending) is =
    ends_so own l is (record_at own l input) (record_case own l.found input (after_all (new_box own) l.found) refl (record_at own l input) refl) ending
happens_so own l Restarted is = is

runs_so : (own : Callsign) (hs : List Happening) (l : Ledger) → IsFoundAgain own l → IsFoundAgain own (run own hs l)
runs_so own [] l is = is
runs_so own (h ∷ hs) l is = runs_so own hs (happens own l h) (happens_so own l h is)

pub tells_only_what_is_kept : TellsOnlyWhatIsKept
tells_only_what_is_kept own hs = runs_so own hs nothing_written (record { opens = refl; told = tt; meant = tt })
