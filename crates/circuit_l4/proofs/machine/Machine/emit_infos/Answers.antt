use Rattle.std.proofs.Common.{◌≡◌, ℕ, ◌+◌, ◌-◌, refl, ap, ◌∙◌, subst, arith}
use Rattle.circuit_l4.specs.declared.config.EndConfig.{EndConfig}
use Rattle.circuit_l4.specs.Standing.{EndView, KeepsEffect, view_of}
use Rattle.circuit_l4.proofs.PutOut.{none_out, one_more}
use Rattle.circuit_l4.proofs.machine.Machine.emit_infos.Goals as goal

pub loop-number-init : goal.loop-number-init
loop-number-init c =
    let none : c.args.from - c.args.from ≡ 0 = omega arith in
    record {
      does = λ g h. rw (none, none_out c.args.from g) h;
      adds = record { outs = omega arith; notice = refl; config = refl };
      rest = refl;
    }

pub loop-number-preserved : goal.loop-number-preserved
loop-number-preserved c =
    let kept = c.loop-number.invariant in
    let done : ℕ = c.loop-number.number - c.args.from in
    let number : c.loop-number.number ≡ c.args.from + done = omega (arith, c.loop-number.auto.number) in
    let next : c.loop-number.number + 1 - c.args.from ≡ done + 1 = omega (arith, c.loop-number.auto.number) in
    record {
      does = λ g h. rw next (subst (KeepsEffect (view_of c.emit_info.new.self)) (one_more c.args.from c.loop-number.number g done number) (c.emit_info.ensures.does _ (kept.does g h)));
      adds = record {
        outs = omega (arith, c.emit_info.ensures.adds.outs, kept.adds.outs, next);
        notice = c.emit_info.ensures.adds.notice ∙ kept.adds.notice;
        config = c.emit_info.ensures.adds.config ∙ kept.adds.config;
      };
      rest = c.emit_info.ensures.rest ∙ ap (λ (k : EndView). record k { outs = (view_of c.emit_info.new.self).outs }) kept.rest;
    }

pub emit_info-requires-clause-waits : goal.emit_info-requires-clause-waits
emit_info-requires-clause-waits c =
    let same = ap (λ (k : EndView). k.outgoing.acked) c.loop-number.invariant.rest in
    omega (arith, same, c.requires.waits, c.loop-number.auto.number)

pub emit_info-requires-clause-room : goal.emit_info-requires-clause-room
emit_info-requires-clause-room c =
    let kept = c.loop-number.invariant in
    let window = ap (λ (x : EndConfig). x.window) kept.adds.config in
    omega (arith, window, kept.adds.outs, c.requires.room, c.loop-number.auto.number, c.loop-number-test.true)
