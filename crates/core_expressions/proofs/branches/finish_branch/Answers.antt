use Rattle.std.proofs.Common.{ℕ, ap}
use Rattle.core_tree.specs.declared.Simple.TheVariants as simple
use Rattle.lowering_laws.specs.Counts.{with_temp}
use Rattle.core_expressions.specs.Branches.{branch_code}
use Rattle.core_expressions.proofs.Joins.{alike, after_taken}
use Rattle.core_expressions.proofs.branches.finish_branch.Goals as goal
use Rattle.std.proofs.Common.{refl}

pub returns : goal.returns
returns c = λ k s.
    let v = c.in_ok-to.ensures.written k s in
    let to = c.in_ok-to.ensures.number k s in
    record {
      value = ap (λ (n : ℕ). simple.Local n) to;
      shape = refl;
      written = alike (after_taken v (c.in_ok-push_branch.ensures (with_temp c.args.shape k) v.counts))
          (ap (λ (n : ℕ). branch_code c.args.decision c.args.condition n c.args.yes c.args.no) to) refl refl;
    }
