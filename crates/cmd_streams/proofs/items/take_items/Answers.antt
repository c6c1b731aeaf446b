use Rattle.std.proofs.Common.{◌≡◌, ◌++◌, ◌∙◌, [], take, drop, ap, sym, append_assoc, append-nil, arith, length-drop, take-add}
use Rattle.std.proofs.lemmas.List.{append_cancel_left, take_rest}
use Rattle.cmd_streams.proofs.StreamItems.{nothing_more}
use Rattle.cmd_streams.proofs.items.take_items.Goals as goal

pub loop-taken-init : goal.loop-taken-init
loop-taken-init g c =
    record {
      within = omega arith;
      added = ([], sym (append-nil c.args.answer.now));
      fed = λ stream stands. rw append-nil stands;
      takes = λ stream stands first text more is took. rw (nothing_more c.args.answer.now more is, append-nil text, append-nil stream) took;
    }

pub loop-taken-preserved : goal.loop-taken-preserved
loop-taken-preserved g c =
    let bytes = c.args.bytes.now in
    let taken = c.loop-taken.taken in
    let count = c.in_ok-taken.field-0 in
    let front = take taken bytes in
    let next = take count (drop taken bytes) in
    let i = c.loop-taken.invariant in
    let told = rw (take_rest bytes taken) at c.in_ok-taken.ensures in
    let grown = told.added.1 ∙ (ap (λ xs. xs ++ told.added.0) i.added.1 ∙ append_assoc c.args.answer.now i.added.0 told.added.0) in
    record {
      within = omega (arith, told.within, i.within, length-drop taken bytes);
      added = (i.added.0 ++ told.added.0, grown);
      fed = λ stream stands. rw (take-add taken count bytes) (rw append_assoc at (told.fed (stream ++ front) (i.fed stream stands)));
      takes = λ stream stands first text more is took.
          let same : i.added.0 ++ told.added.0 ≡ more = append_cancel_left c.args.answer.now (i.added.0 ++ told.added.0) more (sym grown ∙ is) in
          let earlier = i.takes stream stands first text i.added.0 i.added.1 took in
          let later = told.takes (stream ++ front) (i.fed stream stands) first (text ++ i.added.0) told.added.0 told.added.1 earlier in
          rw (take-add taken count bytes) (rw (← same) (rw (append_assoc text i.added.0 told.added.0, append_assoc stream front next) at later));
    }
