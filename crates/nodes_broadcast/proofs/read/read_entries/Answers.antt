use Rattle.std.proofs.Common.{◌≡◌, ◌+◌, ◌-◌, ◌*◌, ◌/◌, ◌∙◌, suc, sym, ap, length, take, arith, Ok}
use Rattle.std.proofs.lemmas.Result.{err_from_is_err_and}
use Rattle.nodes_broadcast.specs.Nodes.{SpellsEntry, entry_at, entries_at}
use Rattle.nodes_broadcast.proofs.Turns.{behind_nothing, read_on, refused_here, read_all, spells_on, spells_all}
use Rattle.nodes_broadcast.proofs.read.read_entries.Goals as goal

pub loop-nth-init : goal.loop-nth-init
loop-nth-init c =
    let all : length c.args.octets.now / 21 - 0 ≡ length c.args.octets.now / 21 = omega arith in
    record {
      count = ap length c.requires.none;
      left = omega (arith, c.requires.whole);
      found = λ more h. rw c.requires.none h;
      exact = rw (c.requires.none, all) (behind_nothing (entries_at (length c.args.octets.now / 21) 7 c.args.octets.now));
    }

pub loop-nth-preserved : goal.loop-nth-preserved
loop-nth-preserved c =
    let next : length c.args.octets.now / 21 - c.loop-nth.nth ≡ suc (length c.args.octets.now / 21 - (c.loop-nth.nth + 1)) = omega (arith, c.loop-nth-test.true) in
    let place : 7 + 21 * (c.loop-nth.nth + 1) ≡ (7 + 21 * c.loop-nth.nth) + 21 = omega arith in
    let entry : entry_at (7 + 21 * c.loop-nth.nth) (take 21 c.loop-nth.rest.now) ≡ Ok c.in_ok-entry_of.field-0 = sym (rw c.split_at.ensures.front at c.in_ok-entry_of.ensures.exact) in
    let spelled : SpellsEntry c.in_ok-entry_of.field-0 (take 21 c.loop-nth.rest.now) = rw (← c.split_at.ensures.front) c.in_ok-entry_of.ensures.found in
    record {
      count = omega (arith, c.push.ensures.len, c.loop-nth.invariant.count);
      left = omega (arith, c.split_at.ensures.back_len, c.loop-nth.invariant.left);
      found = rw (c.push.ensures.items, c.split_at.ensures.back) (spells_on c.args.octets.now c.loop-nth.entries.items c.in_ok-entry_of.field-0 c.loop-nth.rest.now c.loop-nth.invariant.found spelled);
      exact =
          rw (c.push.ensures.items, c.split_at.ensures.back)
          (read_on _ _ _ _ c.loop-nth.rest.now c.in_ok-entry_of.field-0 c.loop-nth.entries.items next place entry ∙ c.loop-nth.invariant.exact);
    }

pub returns-in_err-entry_of-clause-exact : goal.returns-in_err-entry_of-clause-exact
returns-in_err-entry_of-clause-exact c =
    let p = err_from_is_err_and c.from_residual.result c.from_residual.ensures.1 in
    let next : length c.args.octets.now / 21 - c.loop-nth.nth ≡ suc (length c.args.octets.now / 21 - (c.loop-nth.nth + 1)) = omega (arith, c.loop-nth-test.true) in
    let entry = sym (rw c.split_at.ensures.front at c.in_err-entry_of.ensures.exact) in
    rw (p.1, p.2) (sym c.loop-nth.invariant.exact ∙ refused_here _ _ _ c.loop-nth.rest.now _ c.loop-nth.entries.items next entry)

pub returns-clause-found : goal.returns-clause-found
returns-clause-found c = spells_all c.args.octets.now c.loop-nth.rest.now c.loop-nth.entries.items c.loop-nth.invariant.found (omega (arith, c.loop-nth.invariant.left))

pub returns-clause-exact : goal.returns-clause-exact
returns-clause-exact c = sym c.loop-nth.invariant.exact ∙ read_all _ _ c.loop-nth.rest.now c.loop-nth.entries.items (omega arith)
