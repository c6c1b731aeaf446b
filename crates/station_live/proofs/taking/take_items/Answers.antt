use Rattle.std.proofs.Common.{◌++◌, ◌∙◌, [], take, drop, ap, sym, append_assoc, append-nil, arith, length-drop, take-add, subst}
use Rattle.std.proofs.lemmas.List.{take_rest}
use Rattle.kiss_framing.specs.Stream.{items}
use Rattle.station.specs.Standing.{StationStand}
use Rattle.station_live.specs.Lives.{after_items}
use Rattle.station_live.proofs.Items.{after_both}
use Rattle.station_live.proofs.taking.take_items.Goals as goal

pub loop-taken-init : goal.loop-taken-init
loop-taken-init c = record {
  within = omega arith;
  fed = λ stream stands. rw append-nil stands;
  goes = λ stream stands. ([], ap items (append-nil stream) ∙ sym (append-nil (items stream)), λ s h. h);
}

pub loop-taken-preserved : goal.loop-taken-preserved
loop-taken-preserved c =
    let bytes = c.args.bytes.now in
    let taken = c.loop-taken.taken in
    let count = c.in_ok-taken.field-0 in
    let front = take taken bytes in
    let next = take count (drop taken bytes) in
    let i = c.loop-taken.invariant in
    let told = rw (take_rest bytes taken) at c.in_ok-taken.ensures in
    record {
      within = omega (arith, told.within, i.within, length-drop taken bytes);
      fed = λ stream stands. rw (take-add taken count bytes) (rw append_assoc at (told.fed (stream ++ front) (i.fed stream stands)));
      goes = λ stream stands.
          let earlier = i.goes stream stands in
          let later = told.goes (stream ++ front) (i.fed stream stands) in (
            earlier.0 ++ later.0,
            rw (take-add taken count bytes) (ap items (sym (append_assoc stream front next)) ∙ (later.1 ∙ (ap (λ xs. xs ++ later.0) earlier.1 ∙ append_assoc (items stream) earlier.0 later.0))),
            λ s h. subst (λ t. StationStand c.take_next.new.station t) (sym (after_both c.args.now earlier.0 later.0 s)) (later.2 (after_items c.args.now earlier.0 s) (earlier.2 s h)),
          );
    }
