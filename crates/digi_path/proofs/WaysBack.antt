-- The way back of the way back.
use Rattle.std.proofs.Common.{◌≡◌, false, List, [], ◌∷◌, ◌++◌, map, reverse, refl, ap, sym, ◌∙◌}
use Rattle.std.proofs.lemmas.List.{map-append, reverse-append, reverse-reverse}
use Rattle.ax_address.specs.declared.address.Address.{Address}
use Rattle.digi_path.specs.Paths.{unrepeated}
use Rattle.digi_path.specs.Laws.{NoneHasRepeated, TwiceReversed}

map-reverse : (f : Address → Address) (path : List Address) → map f (reverse path) ≡ reverse (map f path)
map-reverse f [] = refl
map-reverse f (r ∷ path) =
    ap (map f) (reverse-append (r ∷ []) path) ∙ map-append f (reverse path) (r ∷ []) ∙ ap (λ more. more ++ f r ∷ []) (map-reverse f path)
    ∙ sym (reverse-append (f r ∷ []) (map f path))

unrepeated_same : (r : Address) → r.bit7 ≡ false → unrepeated r ≡ r
unrepeated_same r e = ap (λ b. record r { bit7 = b }) (sym e)

pub all_unrepeated : (path : List Address) → NoneHasRepeated path → map unrepeated path ≡ path
all_unrepeated [] h = refl
all_unrepeated (r ∷ path) h =
    let first = unrepeated_same r h.0 in
    let rest = all_unrepeated path h.1 in
    cc

pub twice_reversed : TwiceReversed
twice_reversed path h =
    let same = all_unrepeated path h in
    rw (same, map-reverse unrepeated path, same) (reverse-reverse path)
