use Rattle.std.proofs.Common.{◌≡◌, ◌<◌, ◌+◌, ◌++◌, ◌∷◌, ◌∙◌, [], ℕ, List, ap, append_assoc, arith, drop, get_or, length, map, refl, sym}
use Rattle.std.specs.Prelude.{String, string_bytes}
use Rattle.std.specs.Borrow.{Bor}
use Rattle.std.specs.List.{range_with_len}
use Rattle.std.specs.declared.alloc.Global.{Global}
use Rattle.std.specs.declared.vec.Vec.{Vec}
use Rattle.std.proofs.lemmas.List.{at_drop_more, get_or-map, map_push}
use Rattle.std.proofs.lemmas.List.FromFn.{get_or-map-range_with_len}
use Rattle.station_lists.specs.Lists.{port_line}
use Rattle.station_lists.specs.declared.destinations.Destination.{Destination}
use Rattle.station_lists.specs.declared.ports.PortRow.{PortRow}
use Rattle.station_members.specs.Looks.{came_at, went_at}
use Rattle.station_members.specs.States.{State}
use Rattle.station_looks.specs.Reached.{lent}
use Rattle.station_looks.specs.Rows.{items_of, on_port, port_row, port_rows_from}
use Rattle.station_looks.proofs.ports.port_rows.Goals as goal

-- what lies elsewhere comes to the same line
same_line : (number came came2 went went2 : ℕ) (name : Bor (List ℕ)) (text : List ℕ) (members : Bor (List Destination)) (on : List Destination)
    → name.now ≡ text → came ≡ came2 → went ≡ went2 → members.now ≡ on
    → port_line (record { number = number; name = name; came = came; went = went; members = members })
    ≡ port_line (record { number = number; name = lent text; came = came2; went = went2; members = lent on })
same_line number came came2 went went2 name text members on e f g h = rw (e, f, g, h) refl

-- the members on a port stand at its place
standing_at : (f : ℕ → List Destination) (standing : List (Vec Destination Global)) (count at : ℕ) (v : Vec Destination Global)
    → map items_of standing ≡ map f (range_with_len 0 count) → length standing ≡ count → at < count → v ≡ get_or standing at v → v.items ≡ f at
standing_at f standing count at v each few h is =
    ap items_of is
    ∙ (sym (get_or-map items_of standing at v v.items (omega (arith, few, h)))
    ∙ (ap (λ xs. get_or xs at v.items) each ∙ get_or-map-range_with_len f 0 count at at v.items h (omega arith)))

-- one row more, and then the others
row_next : (s : State) (at : ℕ) (names : List (String Global)) (name : String Global) (old new : List PortRow) (row : PortRow) (whole : List (List ℕ))
    → at < length names → name ≡ get_or names at name → port_line row ≡ port_line (port_row s at name) → new ≡ old ++ row ∷ []
    → map port_line old ++ map port_line (port_rows_from s at (drop at names)) ≡ whole
    → map port_line new ++ map port_line (port_rows_from s (at + 1) (drop (at + 1) names)) ≡ whole
row_next s at names name old new row whole h is line more was =
    let rest = map port_line (port_rows_from s (at + 1) (drop (at + 1) names)) in
    ap (λ rows. map port_line rows ++ rest) more
    ∙ (ap (λ lines. lines ++ rest) (map_push port_line old row)
    ∙ (append_assoc (map port_line old) (port_line row ∷ []) rest
    ∙ (ap (λ one. map port_line old ++ one ∷ rest) (line ∙ ap (λ n. port_line (port_row s at n)) is)
    ∙ (ap (λ lines. map port_line old ++ lines) (sym (at_drop_more (λ ns. map port_line (port_rows_from s at ns)) names at name h)) ∙ was))))

pub loop-at-preserved : goal.loop-at-preserved
loop-at-preserved c = λ s stand each.
    row_next s c.loop-at.at c.args.names.now c.index-names-at.result c.loop-at.all.items c.push.new.self.items _ _ c.loop-at-test.true c.index-names-at.is
    (same_line (c.loop-at.at + 1) c.came.result (came_at c.loop-at.at s) c.went.result (went_at c.loop-at.at s)
    c.as_str.result (string_bytes c.index-names-at.result) c.deref.result (on_port c.loop-at.at s) c.as_str.ensures.value (c.came.ensures s stand) (c.went.ensures s stand)
    (c.deref.ensures.value ∙ standing_at (λ (port : ℕ). on_port port s) c.args.standing.now (length c.args.names.now) c.loop-at.at c.index-standing-at.result
    each c.requires.each c.loop-at-test.true c.index-standing-at.is))
    c.in_ok-push.ensures.items (c.loop-at.invariant s stand each)
