use Rattle.std.proofs.Common.{◌≤◌, List, length, arith, ap, subst}
use Rattle.sat_check.specs.Logs.{known_before}
use Rattle.search_state.specs.declared.watches.Watcher.{Watcher}
use Rattle.search_state.specs.declared.propagation.Look.{Look}
use Rattle.search_base.specs.Trails.{falses_of}
use Rattle.search_state.specs.Watches.{watchers_of}
use Rattle.search_state.specs.Looks.{LookIs}
use Rattle.search_base.specs.Refuting.{false_below}
use Rattle.search_state.specs.Growing.{Extends-within}
use Rattle.search_state.proofs.Looking.{Advances-none, Advances-both, AllDue-start, AllDue-end}
use Rattle.search_state.proofs.watches.Watches.pass.Goals as goal

pub loop-place-init : goal.loop-place-init
loop-place-init c =
    let known = known_before c.args.clauses.now c.args.entries.now in
    let placed = c.args.placed.now in
    record {
      advances = Advances-none known placed c.args.self.now c.requires.trail c.requires.watched;
      due = λ before within guarded. AllDue-start (length placed.trail.slots.items) known c.args.self.now (falses_of placed.trail.steps.items) before c.args.falsified c.requires.watched guarded;
    }

pub of-requires-clause-positive : goal.of-requires-clause-positive
of-requires-clause-positive c =
    let placed = c.args.placed.now in
    let known = known_before c.args.clauses.now c.args.entries.now in
    let advances = c.loop-place.invariant.advances in
    omega (arith, advances.watched.positive_len, advances.len, false_below known placed.trail.slots.items placed.trail.steps.items c.args.falsified c.requires.trail.keeps c.requires.is_false)

pub of-requires-clause-negative : goal.of-requires-clause-negative
of-requires-clause-negative c =
    let placed = c.args.placed.now in
    let known = known_before c.args.clauses.now c.args.entries.now in
    let advances = c.loop-place.invariant.advances in
    omega (arith, advances.watched.negative_len, advances.len, false_below known placed.trail.slots.items placed.trail.steps.items c.args.falsified c.requires.trail.keeps c.requires.is_false)

pub look-requires-clause-is_false : goal.look-requires-clause-is_false
look-requires-clause-is_false c =
    let advances = c.loop-place.invariant.advances in
    Extends-within c.args.placed.now.trail.steps.items c.loop-place.placed.trail.steps.items advances.extends c.args.falsified c.requires.is_false

pub look-requires-clause-within : goal.look-requires-clause-within
look-requires-clause-within c = rw c.of.ensures at c.loop-place-test.true

pub loop-place-smaller-in-Stays : goal.loop-place-smaller-in-Stays
loop-place-smaller-in-Stays c =
    let known = known_before c.args.clauses.now c.args.entries.now in
    let it = subst (λ (l : Look). LookIs known c.loop-place.placed c.look.new.placed c.loop-place.self c.look.new.self c.args.falsified c.loop-place.place l) c.in-Stays.is c.in_ok-look.ensures in
    omega (arith, it.2, ap (λ (l : List Watcher). length l) c.of.ensures, c.loop-place-test.true)

pub loop-place-preserved-in-Stays : goal.loop-place-preserved-in-Stays
loop-place-preserved-in-Stays c =
    let known = known_before c.args.clauses.now c.args.entries.now in
    let first = c.args.placed.now in
    let old = c.loop-place.placed in
    let it = subst (λ (l : Look). LookIs known old c.look.new.placed c.loop-place.self c.look.new.self c.args.falsified c.loop-place.place l) c.in-Stays.is c.in_ok-look.ensures in
    let advances = c.loop-place.invariant.advances in
    record {
      advances = Advances-both known first old c.look.new.placed c.args.self.now c.loop-place.self c.look.new.self advances it.0;
      due = λ before within guarded.
          it.1 before (λ lit h. Extends-within first.trail.steps.items old.trail.steps.items advances.extends lit (within lit h)) (c.loop-place.invariant.due before within guarded);
    }

pub loop-place-smaller : goal.loop-place-smaller
loop-place-smaller c =
    let known = known_before c.args.clauses.now c.args.entries.now in
    let it = subst (λ (l : Look). LookIs known c.loop-place.placed c.look.new.placed c.loop-place.self c.look.new.self c.args.falsified c.loop-place.place l) c.in-Leaves.is c.in_ok-look.ensures in
    omega (arith, it.2, ap (λ (l : List Watcher). length l) c.of.ensures, c.loop-place-test.true)

pub loop-place-preserved : goal.loop-place-preserved
loop-place-preserved c =
    let known = known_before c.args.clauses.now c.args.entries.now in
    let first = c.args.placed.now in
    let old = c.loop-place.placed in
    let it = subst (λ (l : Look). LookIs known old c.look.new.placed c.loop-place.self c.look.new.self c.args.falsified c.loop-place.place l) c.in-Leaves.is c.in_ok-look.ensures in
    let advances = c.loop-place.invariant.advances in
    record {
      advances = Advances-both known first old c.look.new.placed c.args.self.now c.loop-place.self c.look.new.self advances it.0;
      due = λ before within guarded.
          it.1 before (λ lit h. Extends-within first.trail.steps.items old.trail.steps.items advances.extends lit (within lit h)) (c.loop-place.invariant.due before within guarded);
    }

pub returns-in-Conflict : goal.returns-in-Conflict
returns-in-Conflict c =
    let known = known_before c.args.clauses.now c.args.entries.now in
    let first = c.args.placed.now in
    let old = c.loop-place.placed in
    let it = subst (λ (l : Look). LookIs known old c.look.new.placed c.loop-place.self c.look.new.self c.args.falsified c.loop-place.place l) c.in-Conflict.is c.in_ok-look.ensures in (
      Advances-both known first old c.look.new.placed c.args.self.now c.loop-place.self c.look.new.self c.loop-place.invariant.advances it.0,
      it.1,
    )

pub returns : goal.returns
returns c =
    let known = known_before c.args.clauses.now c.args.entries.now in
    let steps = c.loop-place.placed.trail.steps.items in
    let all : length (watchers_of c.loop-place.self c.args.falsified) ≤ c.loop-place.place = omega (arith, ap (λ (l : List Watcher). length l) c.of.ensures, c.loop-place-test.false) in (
      c.loop-place.invariant.advances,
      λ before within guarded. AllDue-end known c.loop-place.self (falses_of steps) before c.args.falsified c.loop-place.place all (c.loop-place.invariant.due before within guarded),
    )
