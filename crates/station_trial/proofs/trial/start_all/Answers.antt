use Rattle.std.proofs.Common.{◌≡◌, ◌<◌, ◌∙◌, ◌++◌, ◌∷◌, [], ap, sym, length, arith, append_assoc}
use Rattle.station_trial.specs.Starting.{new_tried}
use Rattle.std.proofs.lemmas.Bool.Decides.{nat_tests}
use Rattle.station_trial.proofs.Starts.{all_started, first_left, one_less, one_stands, one_starts}
use Rattle.station_trial.proofs.trial.start_all.Goals as goal

pub loop-alloc-preserved : goal.loop-alloc-preserved
loop-alloc-preserved c =
    let i = c.loop-alloc.invariant in
    let file = c.remove-file.result in
    let started = c.in_ok-new.ensures in
    let some : 0 < length c.loop-alloc.files.items = omega arith in
    let left = first_left c.loop-alloc.files.items c.remove-file.new.self.items file some c.remove-file.ensures.value c.remove-file.ensures.by_index.2 in (
      i.0 ++ file ∷ [],
      i.1 ++ new_tried started.0 file ∷ [],
      i.2 ∙ (ap (λ fs. i.0 ++ fs) left ∙ sym (append_assoc i.0 (file ∷ []) c.remove-file.new.self.items)),
      one_starts i.0 i.1 file started.0 started.1 i.3,
      rw c.in_ok-push.ensures.items (one_stands c.loop-alloc.tried.items i.1 _ (new_tried started.0 file) started.2 i.4),
      one_less c.loop-alloc.tried.items _ _ c.loop-alloc.files.items c.remove-file.new.self.items file _ c.in_ok-push.ensures.items left i.5,
    )

pub returns : goal.returns
returns c =
    let i = c.loop-alloc.invariant in
    let none : length c.loop-alloc.files.items ≡ 0 = grind (arith, nat_tests, c.is_empty.ensures, c.loop-alloc-test.false) in
    (i.1, all_started i.0 c.loop-alloc.files.items c.args.files.items i.1 i.2 none i.3, i.4, omega (arith, i.5, none))
