use Rattle.std.proofs.Common.{◌∙◌, ℕ, List, ◌++◌, refl, sym, subst}
use Rattle.sat_check.specs.Logs.{Refutes, known_before}
use Rattle.search_base.specs.Trails.{falses_of}
use Rattle.search_base.proofs.trail.Trail.follow_all.Goals as goal

pub loop-hint-init : goal.loop-hint-init
loop-hint-init c =
    record {
      len = refl;
      keeps = c.requires.keeps;
      leads = λ rest r. subst (λ (l : List ℕ). Refutes (known_before c.args.clauses.now c.args.entries.now) (falses_of c.args.self.now.steps.items) (l ++ rest)) (sym c.in_ok-taken.ensures.items) r;
    }

pub loop-hint-preserved : goal.loop-hint-preserved
loop-hint-preserved c =
    let before = c.loop-hint.invariant in
    let made = c.in_ok-follow_into.ensures in
    record {
      len = made.len ∙ before.len;
      keeps = made.keeps;
      leads = made.leads c.if-branch.false (falses_of c.args.self.now.steps.items) before.leads;
    }

pub returns-then-branch-clause-refutes : goal.returns-then-branch-clause-refutes
returns-then-branch-clause-refutes c =
    c.in_ok-follow_into.ensures.ends c.if-branch.true (falses_of c.args.self.now.steps.items) c.loop-hint.invariant.leads
