use Rattle.std.proofs.Common.{◌≡◌, ◌+◌, ◌++◌, ◌∷◌, ◌∙◌, [], ℕ, List, ap, arith, map, sym}
use Rattle.std.specs.List.{range_with_len}
use Rattle.std.specs.declared.alloc.Global.{Global}
use Rattle.std.specs.declared.vec.Vec.{Vec}
use Rattle.std.proofs.lemmas.List.{map_push}
use Rattle.std.proofs.lemmas.List.FromFn.{map-range_with_len_more}
use Rattle.station_lists.specs.declared.destinations.Destination.{Destination}
use Rattle.station_looks.specs.Rows.{items_of, on_port}
use Rattle.station_looks.proofs.ports.standing_on.Goals as goal

standing_more : (f : ℕ → List Destination) (port : ℕ) (old new : List (Vec Destination Global)) (v : Vec Destination Global)
    → map items_of old ≡ map f (range_with_len 0 port) → new ≡ old ++ v ∷ [] → v.items ≡ f port → map items_of new ≡ map f (range_with_len 0 (port + 1))
standing_more f port old new v was more here =
    ap (map items_of) more
    ∙ (map_push items_of old v
    ∙ (ap (λ xs. xs ++ v.items ∷ []) was
    ∙ (ap (λ on. map f (range_with_len 0 port) ++ on ∷ []) here ∙ sym (map-range_with_len_more f 0 port port (omega arith)))))

pub loop-port-preserved : goal.loop-port-preserved
loop-port-preserved c = (
  omega (arith, c.loop-port.invariant.0, c.in_ok-push.ensures.len),
  λ s stand. standing_more (λ (port : ℕ). on_port port s) c.loop-port.port c.loop-port.all.items c.push.new.self.items _
      (c.loop-port.invariant.1 s stand) c.in_ok-push.ensures.items (c.in_ok-members_on.ensures s stand),
)
