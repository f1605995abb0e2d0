use Rattle.std.proofs.Common.{◌≡◌, ◌∙◌, ℕ, ◌+◌, ◌<◌, List, [], ◌∷◌, length, get_or, drop, arith, ap, subst}
use Rattle.std.specs.List.{Contains}
use Rattle.std.proofs.lemmas.Bool.{eqb-true, eq-eqb}
use Rattle.std.proofs.lemmas.List.{drop_more, drop_all, length-drop}
use Rattle.sat_check.specs.declared.clause.Lit.{Lit}
use Rattle.sat_check.specs.declared.clause.Clause.{Clause}
use Rattle.sat_check.specs.Clauses.{opposite_of}
use Rattle.sat_check.specs.Logs.{known_before}
use Rattle.sat_check.specs.Marks.{Shows}
use Rattle.sat_check.specs.Literals.{opposite-opposite}
use Rattle.sat_check.specs.Laws.{known_below, below_at}
use Rattle.sat_check.proofs.Walks.{Refutes-unnamed, Refutes-neither, Refutes-all_false, Refutes-single}
use Rattle.sat_check.proofs.checker.refutes.Goals as goal

no_more : (hints : List ℕ) (i : ℕ) → i < length hints → drop (i + 1) hints ≡ [] → i + 1 ≡ length hints
no_more hints i within none = omega (arith, length-drop (i + 1) hints, ap length none)

pub returns-in_default-clause-refutes : goal.returns-in_default-clause-refutes
returns-in_default-clause-refutes c start shows =
    let known = known_before c.args.clauses.now c.args.earlier.now in
    let hints = c.args.hints.now in
    let i = c.loop-i.i in
    let w = c.loop-i.invariant.walk start shows in (
      λ h. absurd (grind arith),
      λ r. absurd (Refutes-unnamed known w.0 (get_or hints i 0) (drop (i + 1) hints) c.in_default.ensures (rw (drop_more hints i 0 c.loop-i-test.true) at (w.2.0 r))),
    )

pub find-requires : goal.find-requires
find-requires c =
    let known = known_before c.args.clauses.now c.args.earlier.now in
    let n = length c.args.valuation.now.marks.items in
    let all = known_below n c.args.clauses.now c.args.earlier.now c.requires.clauses_below c.requires.earlier_below in
    rw c.loop-i.invariant.len (below_at n known (get_or c.args.hints.now c.loop-i.i 0) (record { lits = c.in-Some.lits.now }) all c.in-Some.ensures)

pub returns-in-AllFalse-clause-refutes : goal.returns-in-AllFalse-clause-refutes
returns-in-AllFalse-clause-refutes c start shows =
    let known = known_before c.args.clauses.now c.args.earlier.now in
    let hints = c.args.hints.now in
    let i = c.loop-i.i in
    let w = c.loop-i.invariant.walk start shows in
    let clause : Clause = record { lits = c.in-Some.lits.now } in
    let ends = Refutes-all_false known w.0 (get_or hints i 0) (drop (i + 1) hints) clause c.in-Some.ensures (c.in-AllFalse.ensures.found w.0 w.1) in (
      λ h.
          let last : i + 1 ≡ length hints = eqb-true (i + 1) (length hints) h in
          w.2.1 (rw (drop_more hints i 0 c.loop-i-test.true) (ends.1 (drop_all (i + 1) hints (omega arith)))),
      λ r. eq-eqb (i + 1) (length hints) (no_more hints i c.loop-i-test.true (ends.0 (rw (drop_more hints i 0 c.loop-i-test.true) at (w.2.0 r)))),
    )

pub returns-in-Neither-clause-refutes : goal.returns-in-Neither-clause-refutes
returns-in-Neither-clause-refutes c start shows =
    let known = known_before c.args.clauses.now c.args.earlier.now in
    let hints = c.args.hints.now in
    let i = c.loop-i.i in
    let w = c.loop-i.invariant.walk start shows in
    let clause : Clause = record { lits = c.in-Some.lits.now } in (
      λ h. absurd (grind arith),
      λ r. absurd (Refutes-neither known w.0 (get_or hints i 0) (drop (i + 1) hints) clause c.in-Some.ensures (c.in-Neither.ensures.found w.0 w.1) (rw (drop_more hints i 0 c.loop-i-test.true) at (w.2.0 r))),
    )

pub loop-i-preserved : goal.loop-i-preserved
loop-i-preserved c =
    let known = known_before c.args.clauses.now c.args.earlier.now in
    let hints = c.args.hints.now in
    let i = c.loop-i.i in
    let lit = c.in-Single.lit in
    let clause : Clause = record { lits = c.in-Some.lits.now } in
    let set = c.set_false.ensures in
    record {
      walk = λ start shows.
          let w = c.loop-i.invariant.walk start shows in
          let unit = c.in-Single.ensures.found w.0 w.1 in
          let next = Refutes-single known w.0 (get_or hints i 0) (drop (i + 1) hints) clause lit c.in-Some.ensures unit in
          let shown : Shows c.set_false.new.self.round c.set_false.new.self.marks.items (opposite_of lit ∷ w.0) =
          subst (λ (l : Lit). Shows c.set_false.new.self.round c.set_false.new.self.marks.items (l ∷ w.0)) c.opposite.ensures
          (set.shows w.0 w.1 (λ h. unit.without_value.not_false (subst (Contains w.0) (ap opposite_of c.opposite.ensures ∙ opposite-opposite lit) h))) in (
            opposite_of lit ∷ w.0,
            shown,
            (λ r. next.0 (rw (drop_more hints i 0 c.loop-i-test.true) at (w.2.0 r)), λ r. w.2.1 (rw (drop_more hints i 0 c.loop-i-test.true) (next.1 r))),
          );
      len = set.len ∙ c.loop-i.invariant.len;
      sound = set.sound c.loop-i.invariant.sound;
    }
