use Rattle.std.proofs.Common.{◌≤◌, arith, length, List, subst, sym, ℕ}
use Rattle.circuit_table.specs.declared.holder.Holder.{Holder}
use Rattle.circuit_table.specs.Still.{OthersAreStill}
use Rattle.circuit_table.proofs.Stillness.{insert_beside, insert_most}
use Rattle.circuit_table.proofs.held_ends.HeldEnds.hold.Goals as goal

pub invariant_of-self : goal.invariant_of-self
invariant_of-self c =
    let same = c.in_err-insert.ensures.err in
    record {
      config_fits = c.args.self.now.config_fits;
      few = subst (λ (now : List (ℕ × Holder)). length now ≤ 64) (sym same) c.args.self.now.few;
      others = subst (OthersAreStill c.args.self.now.loud) (sym same) c.args.self.now.others;
    }

pub invariant_of-self-2 : goal.invariant_of-self-2
invariant_of-self-2 c =
    let es = c.args.self.now.ends.entries in
    let put = c.in_ok-insert.ensures.entries in
    let most = insert_most c.args.self.now.number es c.args.holder in
    let few = c.requires.few in
    record {
      config_fits = c.args.self.now.config_fits;
      few = subst (λ (now : List (ℕ × Holder)). length now ≤ 64) (sym put) (omega (arith, most, few));
      others = insert_beside c.args.self.now.number _ es _ c.args.holder c.loud_at-loud.ensures put;
    }
