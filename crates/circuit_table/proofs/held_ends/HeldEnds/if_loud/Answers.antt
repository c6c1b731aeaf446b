use Rattle.std.proofs.Common.{subst, sym}
use Rattle.circuit_table.specs.Still.{OthersAreStill}
use Rattle.circuit_table.proofs.Stillness.{all_quiet, all_rest, loud_one, with_none, with_one}
use Rattle.circuit_table.proofs.held_ends.HeldEnds.if_loud.Goals as goal

pub returns-then-is_quiet-clause-first : goal.returns-then-is_quiet-clause-first
returns-then-is_quiet-clause-first c =
    let es = c.args.self.now.ends.entries in
    let others = subst (λ l. OthersAreStill l es) c.requires c.args.self.now.others in
    all_quiet es (with_one c.args.id es c.in-Some.holder.now (sym c.in-Some.ensures.value) others (c.is_quiet.ensures.still c.if-is_quiet.true))

pub returns-then-is_quiet-clause-rests : goal.returns-then-is_quiet-clause-rests
returns-then-is_quiet-clause-rests c =
    let es = c.args.self.now.ends.entries in
    let others = subst (λ l. OthersAreStill l es) c.requires c.args.self.now.others in
    λ _. all_rest es (with_one c.args.id es c.in-Some.holder.now (sym c.in-Some.ensures.value) others (c.is_quiet.ensures.still c.if-is_quiet.true))

pub returns-then-is_quiet-clause-still : goal.returns-then-is_quiet-clause-still
returns-then-is_quiet-clause-still c =
    let es = c.args.self.now.ends.entries in
    let others = subst (λ l. OthersAreStill l es) c.requires c.args.self.now.others in
    λ _. with_one c.args.id es c.in-Some.holder.now (sym c.in-Some.ensures.value) others (c.is_quiet.ensures.still c.if-is_quiet.true)

pub returns-else-is_quiet-clause-first : goal.returns-else-is_quiet-clause-first
returns-else-is_quiet-clause-first c =
    let es = c.args.self.now.ends.entries in
    let others = subst (λ l. OthersAreStill l es) c.requires c.args.self.now.others in
    loud_one c.args.id es c.in-Some.holder.now (sym c.in-Some.ensures.value) others (rw c.if-is_quiet.false at c.is_quiet.ensures.silent)

pub returns-in-None-clause-first : goal.returns-in-None-clause-first
returns-in-None-clause-first c =
    let es = c.args.self.now.ends.entries in
    let others = subst (λ l. OthersAreStill l es) c.requires c.args.self.now.others in
    all_quiet es (with_none c.args.id es (sym c.in-None.ensures.value) others)

pub returns-in-None-clause-rests : goal.returns-in-None-clause-rests
returns-in-None-clause-rests c =
    let es = c.args.self.now.ends.entries in
    let others = subst (λ l. OthersAreStill l es) c.requires c.args.self.now.others in
    λ _. all_rest es (with_none c.args.id es (sym c.in-None.ensures.value) others)

pub returns-in-None-clause-still : goal.returns-in-None-clause-still
returns-in-None-clause-still c =
    let es = c.args.self.now.ends.entries in
    let others = subst (λ l. OthersAreStill l es) c.requires c.args.self.now.others in
    λ _. with_none c.args.id es (sym c.in-None.ensures.value) others
