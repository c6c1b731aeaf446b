-- The files of a trial, one after another.
use Rattle.std.proofs.Common.{◌≡◌, ◌<◌, ◌++◌, ◌∷◌, [], ◌∙◌, ℕ, suc, zero, List, refl, sym, ap, length, get_or, map, arith, String, Global}
use Rattle.std.specs.Prelude.{Contains, string_bytes}
use Rattle.std.specs.List.{AllByRecursion}
use Rattle.station_cmd.specs.Files.{IsFileOf}
use Rattle.station_cmd.specs.Words.{texts_of}
use Rattle.station_file.specs.Station.{Station}

pub one_more : (files : List Station) (file : Station) → AllByRecursion IsFileOf files → IsFileOf file → AllByRecursion IsFileOf (files ++ file ∷ [])
one_more [] file all is = (is, tt)
one_more (f ∷ fs) file all is = (all.0, one_more fs file all.1 is)

-- the file at a place is one of those that were named
pub is_named : (paths : List (String Global)) (at : ℕ) (path : String Global) → at < length paths → path ≡ get_or paths at path → Contains (texts_of paths) (string_bytes path)
is_named [] at path h is = absurd (omega (arith, h))
is_named (p ∷ ps) zero path h is = (0, omega arith, ap string_bytes (sym is))
is_named (p ∷ ps) (suc at) path h is =
    let later = is_named ps at path (omega (arith, h)) is in
    (suc later.0, omega (arith, later.1), later.2)
