use Rattle.std.proofs.Common.{◌+◌, length, ap, ◌∙◌, sym, append-nil, length-append}
use Rattle.core_tree.specs.CoreViews.{code_view}
use Rattle.lowering_laws.specs.Tables.{branch}
use Rattle.core_expressions.proofs.Joins.{join_none}
use Rattle.core_expressions.proofs.written.Written.branch.Goals as goal

pub returns-clause-written : goal.returns-clause-written
returns-clause-written c = λ k s. record {
  counts = record {
    used = s.used;
    next = ap (λ l. length l) c.in_ok-push.ensures.ok
        ∙ length-append c.args.self.now.decisions (branch c.args.place)
        ∙ ap (λ n. n + 1) s.next;
  };
  code = sym (join_none (code_view c.args.self.now.code));
  decisions = c.in_ok-push.ensures.ok;
  placed = sym (append-nil c.args.self.now.placed);
}
